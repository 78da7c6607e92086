-- What inner functions of the code answer, each tied to the definitions by a law of `proofs/`.
use Rattle.std.specs.Prelude.{◌≡◌, Bool, cond, ◌&&◌, List, ◌++◌, ℕ, ◌+◌, ◌<◌, leb, length, ℤ, pos, neg_ℤ, Option, Some, None}
use Rattle.value.specs.declared.Value.{Value}
use Rattle.rules.specs.Limits.{digit_limit}
use Rattle.value.specs.Decimal.{tenths, fit_of}
use Rattle.value.specs.Literal.{all_digits, number_from, scaled_by}

-- the value of digits a before the point and b after it, times the power e
unfoldable pub parts_value : ℤ → List ℕ → List ℕ → Option Value
parts_value e a b =
    cond (all_digits a && all_digits b && leb (length a + length b) digit_limit) (fit_of (scaled_by e (tenths (pos (number_from 0 (a ++ b))) (length b)))) None

-- k, or its opposite behind a minus
unfoldable pub signed_power : Bool → ℕ → ℤ
signed_power minus k = cond minus (neg_ℤ (pos k)) (pos k)

-- a power as the code gives it, and that it has at most two digits
abbrev pub power_in : Option (Bool × ℕ) → Option ℤ
power_in (Some (minus, k)) = Some (signed_power minus k)
power_in None = None

abbrev pub SmallPower : Option (Bool × ℕ) → Type 0
SmallPower (Some (minus, k)) = k < 100
SmallPower None = Unit {0}

pub record IsPower (o : Option ℤ) (r : Option (Bool × ℕ)) : Type 0 where
  pub same : power_in r ≡ o
  pub small : SmallPower r
