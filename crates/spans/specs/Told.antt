-- What is written of the tables of a problem: the line of a row, whatever they hold; of every problem that they hold, the lines of its
-- rows and its report.
use Rattle.std.specs.Prelude.{◌≡◌, Bool, false, cond, ◌&&◌, List, [], ℕ, ◌+◌, ◌*◌, ◌≤◌, length, ℤ, Option, Some, None}
use Rattle.value.specs.declared.Value.{Value}
use Rattle.value.specs.Decimal.{is_at_most, in_range}
use Rattle.value.specs.Printed.{Written}
use Rattle.language.specs.Listed.{At}
use Rattle.language.specs.Numbering.{Entry, Lp, rows}
use Rattle.language.specs.Listing.{Kind, less, range, kind_of}
use Rattle.language.specs.Listing as Listing
use Rattle.rows.specs.declared.Sizes.{Sizes}
use Rattle.rows.specs.Held.{Held}
use Rattle.listing.specs.Spans.{shown_span}
use Rattle.spans.specs.Spans.{span_of, spans_from, spans_of, all_span_bytes}
use Rattle.store.specs.Table.{Table}
use Rattle.rows.specs.Bounds.{BoundTable}

-- ---- whatever the tables hold

-- is the greatest value of a row no more than its right side?
unfoldable pub idle_in : Option Value → Value → Bool
idle_in None v = false
idle_in (Some h) v = cond (in_range h && in_range v) (is_at_most h v) false

-- the line of a row of a kind and a number, with its least and greatest value and its right side
unfoldable pub span_text : Kind → ℕ → Option Value → Option Value → Value → List ℕ
span_text less n l g v = shown_span n l g (idle_in g v)
span_text Listing.equal n l g v = shown_span n l g false
span_text range n l g v = []

-- ---- of a problem that they hold

-- the tables hold a problem with so many rows of `<=` and `>=`, and so many variables
pub record Holds (slots : Table) (bounds : BoundTable) (m : List ℤ) (first n : ℕ) (p : Lp) : Type 0 where
  pub sizes : Sizes
  pub held : Held slots bounds m sizes p
  pub lesses : first ≡ sizes.less
  pub variables : n ≡ length p.variables

-- the line of row i, from 0
pub record RowWritten (slots : Table) (bounds : BoundTable) (m : List ℤ) (first n i : ℕ) (l : List ℕ) (at r : ℕ) (l' : List ℕ) : Type 0 where
  pub short : r ≤ at + 128
  pub line : (p : Lp) → Holds slots bounds m first n p → (e : Entry) → At (rows p) i e → Written l at (all_span_bytes (span_of p (i + 1) (kind_of e.source.constraint.relation) e)) r l'

-- the lines of all k rows
pub record RowsWritten (slots : Table) (bounds : BoundTable) (m : List ℤ) (first n k : ℕ) (l : List ℕ) (at r : ℕ) (l' : List ℕ) : Type 0 where
  pub short : r ≤ at + 128 * k
  pub lines : (p : Lp) → Holds slots bounds m first n p → k ≡ length (rows p) → Written l at (all_span_bytes (spans_from p 1 (rows p))) r l'

-- the report
pub record Reports (slots : Table) (bounds : BoundTable) (m : List ℤ) (sizes : Sizes) (l : List ℕ) (r : ℕ) (l' : List ℕ) : Type 0 where
  pub lines : (p : Lp) → Held slots bounds m sizes p → Written l 0 (all_span_bytes (spans_of p)) r l'
