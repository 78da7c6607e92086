-- ℤ: sizes of sums and products, signs, what the machine reads of a signed number, and a set for ring identities.
use mathlib.Core.Path.{◌≡◌, refl, sym, ◌∙◌, ap, subst}
use mathlib.Core.Bool.{Bool, true, false, cond}
use Prim.Native.Nat.{ℕ, zero, suc, ◌+◌, ◌-◌, ◌*◌, ◌^◌, ◌<◌, ◌≤◌}
use native.Mathlib.Omega.{arith}
use native.Mathlib.Nat.{mul-suc, add-suc}
use borrow.Author.Tests.{ltb-true, ltb-false, ne_eqb}
use lib.Dec.{T, eqb, ltb}
use lib.IntN.{ℤ, pos, negsuc, neg_ℤ, nat_abs, sub_ℕ, ◌+ℤ◌, ◌-ℤ◌, ◌*ℤ◌, +ℤ_idl}
use lib.Signed.{mag, lt_z}
use mir.Syntax.{w64}
use mir.Val.{SFits, to_z, of_z}
use mir.Facts.{to_z-of_z}
use Rattle.value.specs.Decimal.{with_sign}
use Rattle.rational.proofs.Integer.{negℤ-*ℤ}

-- ---- sizes

pub mag-le : (z : ℤ) → mag z ≤ nat_abs z
mag-le (pos n) = omega arith
mag-le (negsuc n) = omega arith

pub nat_abs-neg : (z : ℤ) → nat_abs (neg_ℤ z) ≡ nat_abs z
nat_abs-neg (pos zero) = refl
nat_abs-neg (pos (suc n)) = refl
nat_abs-neg (negsuc n) = refl

sub-size : (a b : ℕ) → nat_abs (sub_ℕ a b) ≤ a + b
sub-size a b = go (ltb a b) refl
  where
    go : (t : Bool) → ltb a b ≡ t → nat_abs (cond t (negsuc (b - suc a)) (pos (a - b))) ≤ a + b
    go true e = omega (arith, ltb-true a b e)
    go false e = omega (arith, ltb-false a b e)

pub nat_abs-add : (x y : ℤ) → nat_abs (x +ℤ y) ≤ nat_abs x + nat_abs y
nat_abs-add (pos a) (pos b) = omega arith
nat_abs-add (pos a) (negsuc b) = sub-size a (suc b)
nat_abs-add (negsuc a) (pos b) = omega (arith, sub-size b (suc a))
nat_abs-add (negsuc a) (negsuc b) = omega arith

pub nat_abs-sub : (x y : ℤ) → nat_abs (x -ℤ y) ≤ nat_abs x + nat_abs y
nat_abs-sub x y = omega (arith, nat_abs-add x (neg_ℤ y), nat_abs-neg y)

pub nat_abs_mul : (x y : ℤ) → nat_abs (x *ℤ y) ≡ nat_abs x * nat_abs y
nat_abs_mul (pos a) (pos b) = refl
nat_abs_mul (pos a) (negsuc b) = nat_abs-neg (pos (a * suc b))
nat_abs_mul (negsuc a) (pos b) = nat_abs-neg (pos (suc a * b))
nat_abs_mul (negsuc a) (negsuc b) = refl

-- ---- the machine's reading

-- a number that is small enough is an i64
pub sfits : (z : ℤ) → nat_abs z < 2 ^ 63 → SFits w64 z
sfits z h = record { sfits = omega (arith, mag-le z) }

-- a signed number is read back from its bits: a parameter's (`c.fits.x.sfits`) and a call's result's (`c.f.ok`)
pub back : {z : ℤ} → mag z < 2 ^ 63 → to_z w64 (of_z w64 z) ≡ z
back h = to_z-of_z {w = w64} (record { sfits = h })

-- only the bits of 0 are 0
pub zero-bits : (z : ℤ) → mag z < 2 ^ 63 → eqb (of_z w64 z) 0 ≡ eqb (nat_abs z) 0
zero-bits (pos n) h = refl
zero-bits (negsuc n) h = ne_eqb (2 ^ 64 - suc n) 0 (λ e. omega arith) ∙ sym (ne_eqb (suc n) 0 (λ e. omega arith))

-- ---- signs

pub opposite-fits : (a : ℤ) → nat_abs a < 2 ^ 63 → SFits w64 (pos 0 -ℤ a)
opposite-fits a h = sfits (pos 0 -ℤ a) (omega (arith, nat_abs-sub (pos 0) a))

pub with_sign-negative : (a : ℤ) (x : ℕ) → lt_z a (pos 0) ≡ true → pos 0 -ℤ pos x ≡ with_sign a x
unfolding with_sign
with_sign-negative (pos n) x e = absurd (let h : n < 0 = ltb-true n 0 e in omega arith)
with_sign-negative (negsuc n) x e = +ℤ_idl (neg_ℤ (pos x))

pub with_sign-other : (a : ℤ) (x : ℕ) → lt_z a (pos 0) ≡ false → pos x ≡ with_sign a x
unfolding with_sign
with_sign-other (pos n) x e = refl
with_sign-other (negsuc n) x e = absurd (subst T e tt)

pub with_sign-scale : (z : ℤ) (n x : ℕ) → 0 < n → with_sign (z *ℤ pos n) x ≡ with_sign z x
unfolding with_sign
with_sign-scale (pos a) n x h = refl
with_sign-scale (negsuc a) zero x h = absurd (omega arith)
with_sign-scale (negsuc a) (suc n) x h = rw (mul-suc, add-suc)

pub with_sign-own : (z : ℤ) → with_sign z (nat_abs z) ≡ z
unfolding with_sign
with_sign-own (pos n) = refl
with_sign-own (negsuc n) = refl

pub with_sign-size : (z : ℤ) (x : ℕ) → nat_abs (with_sign z x) ≡ x
unfolding with_sign
with_sign-size (pos n) x = refl
with_sign-size (negsuc n) x = nat_abs-neg (pos x)

-- signs agree where the sizes are those of one cross product
pub with_sign-cross : (z : ℤ) (x k n : ℕ) → x * k ≡ nat_abs z * n → with_sign z x *ℤ pos k ≡ z *ℤ pos n
unfolding with_sign
with_sign-cross (pos a) x k n e = ap pos e
with_sign-cross (negsuc a) x k n e = negℤ-*ℤ (pos x) (pos k) ∙ ap (λ (i : ℕ). neg_ℤ (pos i)) e
