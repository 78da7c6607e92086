-- Values as exact numbers: what fits is exact, and the order of values is that of their numbers.
use Rattle.std.specs.Prelude.{None, Some}
use mathlib.Core.Path.{◌≡◌, refl, sym, ◌∙◌, ap}
use mathlib.Core.Bool.{Bool, true, false, cond}
use Prim.Native.Nat.{ℕ, ◌^◌}
use native.Mathlib.Omega.{arith}
use borrow.Author.Tests.{eqb-true, eq-eqb}
use lib.Dec.{eqb}
use lib.IntN.{ℤ, pos, negsuc, nat_abs, ◌*ℤ◌, zero-*ℤ}
use Rattle.value.specs.declared.Value.{Value}
use Rattle.rational.proofs.Integer.{*ℤ-id, le_z-true, le_z-false, le-le_z}
use Rattle.rational.specs.Fraction.{Fraction, ◌≈◌, ◌≼◌, opposite, integer}
use Rattle.rational.proofs.Fraction.{≈-same}
use Rattle.value.specs.Rational.{𝟎, 𝟏, ◌⊕◌, ◌⊗◌, neg, whole, rational, sound, ◌⊑◌}
use Rattle.value.proofs.Rational.{exact, rational-integer, rational-⊕, rational-⊗, rational-opposite, rational-⊑, whole-zero, whole-one}
use Rattle.value.specs.Decimal.{Valid, tenths, frac, fit_of, sum_of, product_of, negate, is_at_most, is_zero, zero_value, one_value, whole_of, of_whole}
use Rattle.value.specs.Number.{exactly}
use Rattle.value.proofs.Fitting.{fit_of-exact, unique}

-- ---- whole numbers

integer-is : (v : Value) (k : ℤ) → v.m ≡ k → v.s ≡ 0 → exactly v ≡ whole k
unfolding exactly frac tenths integer
integer-is v k e f = sound (frac v) (integer k) (≈-same _ _ e (ap (λ s. 10 ^ s) f)) ∙ rational-integer k

pub exactly-whole : (k : ℤ) → exactly (of_whole k) ≡ whole k
unfolding of_whole
exactly-whole k = integer-is (of_whole k) k refl refl

pub exactly-whole_of : (v : Value) (k : ℤ) → whole_of v ≡ Some k → exactly v ≡ whole k
unfolding whole_of
exactly-whole_of v k e = go (eqb v.s 0) refl e
  where
    go : (t : Bool) → eqb v.s 0 ≡ t → cond t (Some v.m) None ≡ Some k → exactly v ≡ whole k
    go true d e = integer-is v k (cc) (eqb-true v.s 0 d)
    go false d e = absurd (let w : ◌≡◌ {A = ℕ} 0 1 = cc in omega arith)

pub exactly-zero : exactly zero_value ≡ 𝟎
exactly-zero = integer-is zero_value (pos 0) refl refl ∙ whole-zero

pub exactly-one : exactly one_value ≡ 𝟏
exactly-one = integer-is one_value (pos 1) refl refl ∙ whole-one

-- ---- operations

pub exactly-negate : (v : Value) → exactly (negate v) ≡ neg (exactly v)
unfolding exactly frac tenths negate opposite
exactly-negate v = rational-opposite (frac v)

pub exactly-fit_of : (q : Fraction) (v : Value) → fit_of q ≡ Some v → exactly v ≡ rational q
unfolding exactly
exactly-fit_of q v e = sound (frac v) q (fit_of-exact q v e)

pub exactly-add : (a b v : Value) → sum_of a b ≡ Some v → exactly v ≡ exactly a ⊕ exactly b
unfolding exactly sum_of
exactly-add a b v e = exactly-fit_of _ v e ∙ rational-⊕ (frac a) (frac b)

pub exactly-mul : (a b v : Value) → product_of a b ≡ Some v → exactly v ≡ exactly a ⊗ exactly b
unfolding exactly product_of
exactly-mul a b v e = exactly-fit_of _ v e ∙ rational-⊗ (frac a) (frac b)

-- ---- the order

pub is_at_most-yes : (a b : Value) → is_at_most a b ≡ true → exactly a ⊑ exactly b
unfolding exactly frac tenths is_at_most ◌≼◌
is_at_most-yes a b e = (rational-⊑ (frac a) (frac b)).1 (le_z-true (a.m *ℤ pos (10 ^ b.s)) (b.m *ℤ pos (10 ^ a.s)) e)

pub is_at_most-no : (a b : Value) → is_at_most a b ≡ false → exactly b ⊑ exactly a
unfolding exactly frac tenths is_at_most ◌≼◌
is_at_most-no a b e = (rational-⊑ (frac b) (frac a)).1 (le_z-false (a.m *ℤ pos (10 ^ b.s)) (b.m *ℤ pos (10 ^ a.s)) e)

pub ⊑-isAtMost : (a b : Value) → exactly a ⊑ exactly b → is_at_most a b ≡ true
unfolding exactly frac tenths is_at_most ◌≼◌
⊑-isAtMost a b h = le-le_z ((rational-⊑ (frac a) (frac b)).0 h)

nat_abs-zero : (z : ℤ) → nat_abs z ≡ 0 → z ≡ pos 0
nat_abs-zero (pos n) e = ap pos e
nat_abs-zero (negsuc n) e = absurd (omega arith)

pub exactly-is_zero : (v : Value) → is_zero v ≡ true → exactly v ≡ 𝟎
unfolding exactly frac tenths is_zero ◌≈◌ integer
exactly-is_zero v e =
    sound (frac v) (integer (pos 0)) (cc (nat_abs-zero v.m (eqb-true _ 0 e), zero-*ℤ (pos 1), zero-*ℤ (pos (10 ^ v.s))))
    ∙ rational-integer (pos 0) ∙ whole-zero

pub is_zero-exactly : (v : Value) → exactly v ≡ 𝟎 → is_zero v ≡ true
unfolding exactly frac tenths is_zero ◌≈◌ integer
is_zero-exactly v e =
    let h : v.m *ℤ pos 1 ≡ pos 0 *ℤ pos (10 ^ v.s) = exact (frac v) (integer (pos 0)) (e ∙ sym (rational-integer (pos 0) ∙ whole-zero)) in
    eq-eqb (nat_abs v.m) 0 (ap nat_abs (sym (*ℤ-id v.m) ∙ h ∙ zero-*ℤ (pos (10 ^ v.s))))

-- a number has one valid value
pub exactly-unique : (v w : Value) → Valid v → Valid w → exactly v ≡ exactly w → v ≡ w
unfolding exactly
exactly-unique v w hv hw e = unique v w hv hw (exact (frac v) (frac w) e)
