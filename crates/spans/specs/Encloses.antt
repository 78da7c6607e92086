-- Request #106, what the report says of a problem: one line for each `L` and `E` row and no other, in the order of the numbers; for
-- every assignment within the listed bounds the row's value lies between the two printed ends; and `idle` means that every such
-- assignment meets the row. y is the number assigned to the variable of a printed number: any rational.
use Rattle.std.specs.Prelude.{◌≡◌, ◌↔◌, Bool, true, List, ℕ, ◌<◌, ℤ, Option, Some, None}
use Rattle.value.specs.declared.Value.{Value}
use Rattle.value.specs.Number.{exactly}
use Rattle.value.specs.Rational.{ℚ, ◌⊑◌}
use Rattle.language.specs.Listed.{In}
use Rattle.language.specs.Numbering.{Lp}
use Rattle.language.specs.Model.{Model}
use Rattle.language.specs.Listing.{Kind, less, range, Line, row_line, var_line, lines_of}
use Rattle.language.specs.Listing as Listing
use Rattle.language.specs.Demand3.{BelowUpper, RowMet, row_value, Rising}
use Rattle.spans.specs.Spans.{SpanLine, span_line, last_line, spans_of}

-- within the listed bounds
pub record Bounded (ls : List Line) (y : ℕ → ℚ) : Type 0 where
  pub above_lower : (n : ℕ) (d : Bool) (l : Value) (u : Option Value) (s : List ℕ) (e : List ℤ) → In ls (var_line n d l u s e) → exactly l ⊑ y n
  pub below-upper : (n : ℕ) (d : Bool) (l : Value) (u : Option Value) (s : List ℕ) (e : List ℤ) → In ls (var_line n d l u s e) → BelowUpper u (y n)

-- `-` sets no limit
abbrev pub AboveLeast : Option Value → ℚ → Type 0
AboveLeast None q = Unit
AboveLeast (Some v) q = exactly v ⊑ q

-- every kind but `R`
abbrev pub Spanned : Kind → Type 0
Spanned less = Unit
Spanned Listing.equal = Unit
Spanned range = ⊥

-- the listed row of a number
pub record RowOf (ls : List Line) (n : ℕ) (q : Kind) (v : Value) : Type 0 where
  pub title : List ℕ
  pub element : List ℤ
  pub listed : In ls (row_line n q v title element)

-- lines by number, then `end`
abbrev pub Earlier : SpanLine → SpanLine → Type 0
Earlier (span_line m k h b) (span_line n l g c) = m < n
Earlier (span_line m k h b) last_line = Unit
Earlier last_line l = ⊥

pub record Encloses (m : Model) (p : Lp) : Type 0 where
  -- one line for each such row, and no other
  pub each : (n : ℕ) (q : Kind) (v : Value) → RowOf (lines_of m p) n q v → Spanned q
      → (l : Option Value) × (g : Option Value) × (b : Bool) × In (spans_of p) (span_line n l g b)
  pub only : (n : ℕ) (l g : Option Value) (b : Bool) → In (spans_of p) (span_line n l g b) → (q : Kind) × (v : Value) × RowOf (lines_of m p) n q v × Spanned q
  pub in_order : Rising Earlier (spans_of p)
  pub ends : In (spans_of p) last_line
  -- the two ends
  pub least : (n : ℕ) (l g : Option Value) (b : Bool) → In (spans_of p) (span_line n l g b) → (y : ℕ → ℚ) → Bounded (lines_of m p) y
      → AboveLeast l (row_value n y (lines_of m p))
  pub greatest : (n : ℕ) (l g : Option Value) (b : Bool) → In (spans_of p) (span_line n l g b) → (y : ℕ → ℚ) → Bounded (lines_of m p) y
      → BelowUpper g (row_value n y (lines_of m p))
  -- idle: an `L` row whose greatest is printed and at most its right side; then every assignment within the bounds meets it
  pub idle : (n : ℕ) (l g : Option Value) (b : Bool) → In (spans_of p) (span_line n l g b)
      → (b ≡ true) ↔ ((h : Value) × (v : Value) × (g ≡ Some h) × RowOf (lines_of m p) n less v × (exactly h ⊑ exactly v))
  pub meets : (n : ℕ) (l g : Option Value) → In (spans_of p) (span_line n l g true) → (v : Value) → RowOf (lines_of m p) n less v
      → (y : ℕ → ℚ) → Bounded (lines_of m p) y → RowMet less (row_value n y (lines_of m p)) (exactly v)
