-- The ends of a row as the tables of a problem tell them, whatever they hold; and what code answers of every problem that they hold.
use Rattle.std.specs.Prelude.{◌≡◌, Bool, true, false, not, cond, List, ℕ, length, ℤ, Option, Some, None}
use Rattle.value.specs.declared.Value.{Value}
use Rattle.value.specs.Decimal.{is_zero, if_in_range, sum_of, product_of}
use Rattle.language.specs.Listed.{At}
use Rattle.language.specs.Numbering.{Entry, Lp, rows, xor}
use Rattle.rows.specs.declared.Sizes.{Sizes}
use Rattle.rows.specs.Bounds.{BoundTable}
use Rattle.rows.specs.Read.{slot_at, lower_in, upper_in}
use Rattle.rows.specs.Held.{Held}
use Rattle.reach.specs.declared.End.{End}
use Rattle.reach.specs.declared.End.TheVariants.{Least, Greatest}
use Rattle.reach.specs.Reach.{is_negative, takes, reach}
use Rattle.store.specs.Table.{Table}

-- which of its two ends a row's end is
abbrev pub is_greatest : End → Bool
is_greatest Least = false
is_greatest Greatest = true

-- the lower bound is the one that an end takes
unfoldable pub lower_taken : Bool → Value → Bool
lower_taken greatest c = not (xor greatest (is_negative c))

-- what code makes of a product that fits: the sum, if it fits too
unfoldable pub sum_in : Value → Option Value → Option Value
sum_in t (Some p) = (if_in_range t p (sum_of t p))
sum_in t None = None

unfoldable pub added_in : Value → Value → Option Value → Option Value
added_in t c None = None
added_in t c (Some b) = sum_in t (if_in_range c b (product_of c b))

-- one column more: the sum t, and the coefficient c of variable j
unfoldable pub column_in : BoundTable → Bool → ℕ → Value → Value → Option Value
column_in bounds greatest j t c = cond (is_zero c) (Some t) (added_in t c (takes greatest c (lower_in bounds j) (upper_in bounds j)))

-- of the row in slot k of every problem that the tables hold: row i, from 0
pub record Reaches (m : List ℤ) (bounds : BoundTable) (k n : ℕ) (greatest : Bool) (r : Option Value) : Type 0 where
  pub is : (slots : Table) (sizes : Sizes) (p : Lp) → Held slots bounds m sizes p → n ≡ length p.variables
      → (i : ℕ) (e : Entry) → At (rows p) i e → k ≡ slot_at sizes.less i → r ≡ reach greatest p e
