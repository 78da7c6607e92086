-- Request #106, the report: a line `span` for each `L` and `E` row by number, with the number, least, greatest and `idle` or `-`,
-- then `end`. `-` stands for an end that is open.
use Rattle.std.specs.Prelude.{Bool, true, false, cond, List, [], ◌∷◌, ◌++◌, ℕ, suc, Option, Some, None}
use Rattle.rules.specs.Characters.{bytes}
use Rattle.value.specs.declared.Value.{Value}
use Rattle.value.specs.Decimal.{is_at_most}
use Rattle.value.specs.Printed.{natural, printed}
use Rattle.language.specs.Numbering.{Entry, Lp, rows}
use Rattle.language.specs.Listing.{Kind, less, range, right_of, kind_of, fields}
use Rattle.language.specs.Listing as Listing
use Rattle.language.specs.Answer.{Accepted}
use Rattle.reach.specs.Reach.{reach}

pub data SpanLine : Type 0 where
  span_line : (number : ℕ) → (least greatest : Option Value) → (idle : Bool) → SpanLine
  last_line : SpanLine

-- An `L` row is called idle if its greatest is printed and no more than its right side, and only then
unfoldable pub is_idle : Kind → Option Value → Value → Bool
is_idle less None v = false
is_idle less (Some h) v = is_at_most h v
is_idle Listing.equal o v = false
is_idle range o v = false

-- none for a row with a floor; numbers stay those of the listing
unfoldable pub span_of : Lp → ℕ → Kind → Entry → List SpanLine
span_of p n range e = []
span_of p n less e = span_line n (reach false p e) (reach true p e) (is_idle less (reach true p e) (right_of e.fact)) ∷ []
span_of p n Listing.equal e = span_line n (reach false p e) (reach true p e) false ∷ []

unfoldable pub spans_from : Lp → ℕ → List Entry → List SpanLine
spans_from p n [] = []
spans_from p n (e ∷ es) = span_of p n (kind_of e.source.constraint.relation) e ++ spans_from p (suc n) es

unfoldable pub spans_of : Lp → List SpanLine
spans_of p = spans_from p 1 (rows p) ++ (last_line ∷ [])

-- ---- the bytes

unfoldable pub end_field : Option Value → List ℕ
end_field None = bytes "-"
end_field (Some v) = printed v

unfoldable pub span_bytes : SpanLine → List ℕ
span_bytes (span_line n l g b) = bytes "span" ++ fields (natural n ∷ end_field l ∷ end_field g ∷ cond b (bytes "idle") (bytes "-") ∷ [])
span_bytes last_line = bytes "end" ++ fields []

unfoldable pub all_span_bytes : List SpanLine → List ℕ
all_span_bytes [] = []
all_span_bytes (k ∷ ks) = span_bytes k ++ all_span_bytes ks

unfoldable pub span_report : Accepted → List ℕ
span_report a = all_span_bytes (spans_of a.problem)
