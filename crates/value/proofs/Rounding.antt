-- Rounding: what the code computes is what the definitions say; they are the floor and the ceiling of the exact number, and no
-- larger than its numerator.
use mathlib.Core.Path.{◌≡◌, refl, sym, ◌∙◌, ap}
use mathlib.Core.Bool.{true, false, cond}
use Prim.Native.Nat.{ℕ, zero, suc, ◌+◌, ◌-◌, ◌/◌, ◌^◌, ◌<◌, ◌≤◌}
use native.Mathlib.Omega.{arith}
use native.Mathlib.Nat.{div-le_self, div-le_of_le-mul, div-eq_of_lt, div-one, zero-div, pow-le-pow_right}
use borrow.Author.Tests.{le-ltb, lt-ltb}
use lib.Dec.{lit<}
use lib.IntN.{ℤ, pos, negsuc, neg_ℤ, nat_abs}
use lib.Signed.{mag, lt_z, shr_z}
use Rattle.value.specs.declared.Value.{Value}
use Rattle.value.specs.Decimal.{tenths, frac, with_sign, negate, floor_of, ceiling_of}
use Rattle.value.specs.Number.{exactly}
use Rattle.value.specs.Rational.{ℚ, rational, floor, ceiling}
use Rattle.value.proofs.Integers.{nat_abs-neg, with_sign-own}
use Rattle.value.proofs.Numbers.{exactly-negate}

-- ---- what they are

pub floor-exactly : (v : Value) → floor (exactly v) ≡ floor_of v
unfolding ℚ rational floor exactly frac tenths floor_of
floor-exactly v = refl

pub ceiling-exactly : (v : Value) → ceiling (exactly v) ≡ ceiling_of v
unfolding ceiling ceiling_of
ceiling-exactly v = ap neg_ℤ (ap floor (sym (exactly-negate v)) ∙ floor-exactly (negate v))

-- ---- their size

shr-size : (z : ℤ) (d : ℕ) → nat_abs (shr_z z d) ≤ nat_abs z
shr-size (pos n) d = div-le_self n d
shr-size (negsuc n) d = omega (arith, div-le_self n d)

pub floor-size : (v : Value) → nat_abs (floor_of v) ≤ nat_abs v.m
unfolding floor_of
floor-size v = shr-size v.m (10 ^ v.s)

pub ceiling-size : (v : Value) → nat_abs (ceiling_of v) ≤ nat_abs v.m
unfolding ceiling_of negate
ceiling-size v = rw (nat_abs-neg (floor_of (negate v))) (omega (arith, floor-size (negate v), nat_abs-neg v.m))

-- ---- what the code computes

module _ (x s : ℕ) (h : x ≤ 2 ^ 63) where
  pub quotient-none : 19 ≤ s → 0 ≡ x / 10 ^ s
  quotient-none g = sym (div-eq_of_lt (omega (arith, pow-le-pow_right {n = 10} (lit< tt) {i = 19} {j = s} g)))

  pub quotient-small : (s ≡ 0 → ⊥) → x / 10 ^ s < 2 ^ 62
  quotient-small f =
      let p : 10 ≤ 10 ^ s = pow-le-pow_right {n = 10} (lit< tt) {i = 1} {j = s} (omega arith) in
      omega (arith, div-le_of_le-mul (10 ^ s) {m = x} {n = 2 ^ 62 - 1} (omega arith))

pub nat_abs_le : (z : ℤ) → nat_abs z ≤ mag z + 1
nat_abs_le (pos n) = omega arith
nat_abs_le (negsuc n) = omega arith

-- without decimal places there is nothing to round
pub toward-whole : (z : ℤ) (s : ℕ) → s ≡ 0 → z ≡ with_sign z (nat_abs z / 10 ^ s)
toward-whole z s e = rw (e, div-one (nat_abs z)) (sym (with_sign-own z))

pub away-whole : (z : ℤ) (s : ℕ) → s ≡ 0 → 0 < nat_abs z → z ≡ with_sign z ((nat_abs z - 1) / 10 ^ s + 1)
away-whole z s e h =
    let p : nat_abs z - 1 + 1 ≡ nat_abs z = omega arith in
    rw (e, div-one (nat_abs z - 1), p) (sym (with_sign-own z))

less_one : (n d : ℕ) → (suc n - 1) / d + 1 ≡ suc (n / d)
less_one n d = let p : suc n - 1 ≡ n = omega arith in rw p (omega arith)

-- the floor is further from zero for a negative number, the ceiling for a positive one
floor-sign : (z : ℤ) (d : ℕ) → with_sign z (cond (lt_z z (pos 0)) ((nat_abs z - 1) / d + 1) (nat_abs z / d)) ≡ shr_z z d
unfolding with_sign
floor-sign (pos n) d = rw (le-ltb n 0 (omega arith))
floor-sign (negsuc n) d = rw (less_one n d)

ceiling-sign : (z : ℤ) (d : ℕ) → with_sign z (cond (lt_z (pos 0) z) ((nat_abs z - 1) / d + 1) (nat_abs z / d)) ≡ neg_ℤ (shr_z (neg_ℤ z) d)
unfolding with_sign
ceiling-sign (pos zero) d = rw (zero-div d)
ceiling-sign (pos (suc n)) d = rw (lt-ltb 0 (suc n) (omega arith), less_one n d)
ceiling-sign (negsuc n) d = refl

module _ (v : Value) where
  pub floor-is : with_sign v.m (cond (lt_z v.m (pos 0)) ((nat_abs v.m - 1) / 10 ^ v.s + 1) (nat_abs v.m / 10 ^ v.s)) ≡ floor_of v
  unfolding floor_of
  floor-is = floor-sign v.m (10 ^ v.s)

  pub floor-away : lt_z v.m (pos 0) ≡ true → with_sign v.m ((nat_abs v.m - 1) / 10 ^ v.s + 1) ≡ floor_of v
  floor-away e = rw e at floor-is

  pub floor-toward : lt_z v.m (pos 0) ≡ false → with_sign v.m (nat_abs v.m / 10 ^ v.s) ≡ floor_of v
  floor-toward e = rw e at floor-is

  pub ceiling-is : with_sign v.m (cond (lt_z (pos 0) v.m) ((nat_abs v.m - 1) / 10 ^ v.s + 1) (nat_abs v.m / 10 ^ v.s)) ≡ ceiling_of v
  unfolding ceiling_of floor_of negate
  ceiling-is = ceiling-sign v.m (10 ^ v.s)

  pub ceiling-away : lt_z (pos 0) v.m ≡ true → with_sign v.m ((nat_abs v.m - 1) / 10 ^ v.s + 1) ≡ ceiling_of v
  ceiling-away e = rw e at ceiling-is

  pub ceiling-toward : lt_z (pos 0) v.m ≡ false → with_sign v.m (nat_abs v.m / 10 ^ v.s) ≡ ceiling_of v
  ceiling-toward e = rw e at ceiling-is
