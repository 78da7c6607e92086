-- Document 01, "Numbering and bounds": the coefficients of one row are gathered in a lent run of wide numbers, one per
-- variable; each partial sum must fit. A wide number is a count of millionths.
use Rattle.std.specs.Prelude.{◌≡◌, Bool, true, false, cond, ◌&&◌, List, ℕ, ◌-◌, ◌^◌, ◌<◌, ltb, length, get_or, set, ℤ, pos, nat_abs, ◌+ℤ◌, ◌*ℤ◌, Option, Some, None}
use Rattle.rules.specs.Limits.{scale_limit}
use Rattle.value.specs.declared.Value.{Value}
use Rattle.value.specs.Decimal.{tenths, fit_of, in_range}

-- a value as a count of millionths, and the value of such a count
unfoldable pub millionths : Value → ℤ
millionths v = v.m *ℤ pos (10 ^ (scale_limit - v.s))

unfoldable pub of_millionths : ℤ → Option Value
of_millionths z = fit_of (tenths z scale_limit)

unfoldable pub is_fit : Option Value → Bool
is_fit (Some v) = true
is_fit None = false

-- a count that a value has is below this, so that a sum of two is far from the end of i64
abbrev pub count_limit : ℕ
count_limit = 10 ^ 15

unfoldable pub is_count : ℤ → Bool
is_count z = ltb (nat_abs z) count_limit

-- may v be added to element k? There is one, it and v are in range, and their sum fits
unfoldable pub gathers : List ℤ → ℕ → Value → Bool
gathers l k v = ltb k (length l) && in_range v && is_count (get_or l k (pos 0)) && is_fit (of_millionths (get_or l k (pos 0) +ℤ millionths v))

-- v was added to element k where it may be, and nothing changed where it may not
pub record Gathered (l : List ℤ) (k : ℕ) (v : Value) (r : Bool) (l' : List ℤ) : Type 0 where
  pub answer : r ≡ gathers l k v
  pub sums : l' ≡ cond r (set l k (get_or l k (pos 0) +ℤ millionths v)) l

-- every element is the count of a value, or was never added to
pub record Counts (l : List ℤ) : Type 0 where
  pub small : (i : ℕ) → nat_abs (get_or l i (pos 0)) < count_limit
