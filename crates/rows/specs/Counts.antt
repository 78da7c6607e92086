-- A row of counts of millionths against a row of values, and its opposite.
use Rattle.std.specs.Prelude.{◌≡◌, cond, List, ℕ, ◌<◌, length, get_or, ℤ, pos, negsuc, neg_ℤ, Some}
use Rattle.std.specs.Int.Signed.{lt_z}
use Rattle.value.specs.Decimal.{zero_value}
use Rattle.value.specs.Gathering.{of_millionths}
use Rattle.language.specs.Numbering.{Variable, Row}

-- each count is that of the value at its place
pub record RowIs (l : List ℤ) (r : Row) : Type 0 where
  pub size : length l ≡ length r
  pub same : (j : ℕ) → j < length r → of_millionths (get_or l j (pos 0)) ≡ Some (get_or r j zero_value)

-- one for each variable
pub record RowOf (vs : List Variable) (l : List ℤ) (r : Row) : Type 0 where
  pub count : length r ≡ length vs
  pub row : RowIs l r

-- the opposite of a count; what is below any count stays
unfoldable pub opposed : ℤ → ℤ
opposed z = cond (lt_z z (negsuc 999999999999999)) z (neg_ℤ z)
