-- Decimals of one scale are added by their numerators, and products add the scales.
use mathlib.Core.Path.{◌≡◌, refl, sym, ap}
use Prim.Native.Nat.{ℕ, ◌+◌, ◌^◌}
use lib.Pow.{pow-add}
use lib.IntN.{ℤ, pos, neg_ℤ, ◌+ℤ◌, ◌*ℤ◌}
use Rattle.rational.proofs.Integer.{ringℤ}
use Rattle.rational.specs.Fraction.{◌≈◌, ◌⊕◌, ◌⊗◌, opposite}
use Rattle.value.specs.Decimal.{tenths}

tenths-cross : (a b c : ℤ) → (a +ℤ b) *ℤ (c *ℤ c) ≡ (a *ℤ c +ℤ b *ℤ c) *ℤ c
tenths-cross a b c = simp ringℤ

pub tenths-sum : (x y : ℤ) (s : ℕ) → tenths (x +ℤ y) s ≈ tenths x s ⊕ tenths y s
unfolding ◌≈◌ ◌⊕◌ tenths
tenths-sum x y s = tenths-cross x y (pos (10 ^ s))

pub tenths-product : (x y : ℤ) (s t : ℕ) → tenths (x *ℤ y) (s + t) ≈ tenths x s ⊗ tenths y t
unfolding ◌≈◌ ◌⊗◌ tenths
tenths-product x y s t = ap (λ (n : ℕ). (x *ℤ y) *ℤ pos n) (sym (pow-add 10 s t))

pub tenths-opposite : (x : ℤ) (s : ℕ) → tenths (neg_ℤ x) s ≡ opposite (tenths x s)
unfolding opposite tenths
tenths-opposite x s = refl

-- more places
scale-cross : (z a b c : ℤ) → a *ℤ b ≡ c → (z *ℤ a) *ℤ b ≡ z *ℤ c
scale-cross z a b c e = let p : (z *ℤ a) *ℤ b ≡ z *ℤ (a *ℤ b) = simp ringℤ in cc

pub tenths-scale : (z : ℤ) (s k : ℕ) → tenths (z *ℤ pos (10 ^ k)) (k + s) ≈ tenths z s
unfolding ◌≈◌ tenths
tenths-scale z s k = scale-cross z (pos (10 ^ k)) (pos (10 ^ s)) (pos (10 ^ (k + s))) (ap pos (sym (pow-add 10 k s)))
