-- Document 01, "Values": a value is m / 10^s, s from 0 to 6, m whole, at most 999,999,999 either side of zero, with s as
-- small as it can be; such a value fits. Sums, differences (the sum with the opposite) and products are exact.
use Rattle.std.specs.Prelude.{◌≡◌, Bool, true, false, cond, ◌&&◌, ℕ, zero, suc, ◌*◌, ◌/◌, ◌%◌, ◌^◌, ◌<◌, ◌≤◌, eqb, leb, ℤ, pos, negsuc, neg_ℤ, nat_abs, ◌*ℤ◌, Option, Some, None}
use Rattle.std.proofs.Math.Nat.{one-le-pow}
use Rattle.std.proofs.Common.{lit<}
use Rattle.std.specs.Int.Signed.{le_z, shr_z}
use Rattle.rules.specs.Limits.{mantissa_limit, scale_limit}
use Rattle.value.specs.declared.Value.{Value}
use Rattle.rational.specs.Fraction.{Fraction, ◌⊕◌, ◌⊗◌}

-- the number that z / 10^s is, as a fraction
unfoldable pub tenths : ℤ → ℕ → Fraction
tenths z s = record { num = z; den = 10 ^ s; positive = one-le-pow s 10 (lit< tt) }

-- the number that a value is
unfoldable pub frac : Value → Fraction
frac v = tenths v.m v.s

-- a value that fits
pub record Valid (v : Value) : Type 0 where
  pub small : nat_abs v.m ≤ mantissa_limit
  pub places : v.s ≤ scale_limit
  pub least : 0 < v.s → nat_abs v.m % 10 ≡ 0 → ⊥

-- ---- the value that a fraction is

-- x with the sign of z
unfoldable pub with_sign : ℤ → ℕ → ℤ
with_sign (pos n) x = pos x
with_sign (negsuc n) x = neg_ℤ (pos x)

-- Among k denominators `den i`, `den (i + 1)`, .. the first over which x / D can be written, with its numerator there.
-- Decimals are the denominators 1, 10, 100, ..
pub data Lowest : Type 0 where
  at : ℕ → ℕ → Lowest
  none : Lowest

unfoldable pub seek : (ℕ → ℕ) → ℕ → ℕ → ℕ → ℕ → Lowest
seek den zero i x D = none
seek den (suc k) i x D = elim (eqb (x * den i % D) 0) [ true ↦ at (x * den i / D) i | false ↦ seek den k (suc i) x D ]

-- with the sign of z, if the numerator is small enough
unfoldable pub choose : ℤ → Lowest → Option Value
choose z (at m i) = cond (leb m mantissa_limit) (Some (record { m = with_sign z m; s = i })) None
choose z none = None

abbrev pub ten : ℕ → ℕ
ten i = 10 ^ i

-- the value that a fraction is, where it fits
unfoldable pub fit_of : Fraction → Option Value
fit_of q = choose q.num (seek ten (suc scale_limit) 0 (nat_abs q.num) q.den)

-- ---- operations

unfoldable pub sum_of : Value → Value → Option Value
sum_of a b = fit_of (frac a ⊕ frac b)

unfoldable pub product_of : Value → Value → Option Value
product_of a b = fit_of (frac a ⊗ frac b)

unfoldable pub negate : Value → Value
negate v = record { m = neg_ℤ v.m; s = v.s }

-- the order, by cross products
unfoldable pub is_at_most : Value → Value → Bool
is_at_most a b = le_z (a.m *ℤ pos (10 ^ b.s)) (b.m *ℤ pos (10 ^ a.s))

unfoldable pub is_zero : Value → Bool
is_zero v = eqb (nat_abs v.m) 0

abbrev pub zero_value : Value
zero_value = record { m = pos 0; s = 0 }

abbrev pub one_value : Value
one_value = record { m = pos 1; s = 0 }

-- the whole number that a value is, if it is one; and a whole number as a value
unfoldable pub whole_of : Value → Option ℤ
whole_of v = cond (eqb v.s 0) (Some v.m) None

unfoldable pub of_whole : ℤ → Value
of_whole k = record { m = k; s = 0 }

-- the largest whole number that is not above a value, and the smallest that is not below it: the floor of the opposite, with
-- its sign changed
unfoldable pub floor_of : Value → ℤ
floor_of v = shr_z v.m (10 ^ v.s)

unfoldable pub ceiling_of : Value → ℤ
ceiling_of v = neg_ℤ (floor_of (negate v))

-- ---- what code answers for any two numbers m and s, also those that are no value

unfoldable pub in_range : Value → Bool
in_range v = leb (nat_abs v.m) mantissa_limit && leb v.s scale_limit

-- an operation on values, and `TooBig` where an operand is none
unfoldable pub if_in_range : Value → Value → Option Value → Option Value
if_in_range a b r = cond (in_range a && in_range b) r None
