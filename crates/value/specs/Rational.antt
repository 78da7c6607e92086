-- ℚ, the exact numbers: fractions, equal where they are the same number. ℚ is their set quotient, so equality is a path, and
-- `rw`, `simp` and `cc` apply. ℚ and its operations are shut: other modules use the laws of `proofs/Rational`. That an operation
-- respects sameness is a law of fractions.
use Rattle.std.specs.Prelude.{◌≡◌, Bool, ℕ, ◌<◌, T, ℤ, pos, neg_ℤ}
use Rattle.std.proofs.Math.Path.{fun_ext}
use mathlib.Core.HLevel.{→_set}
use Rattle.std.proofs.Math.Bool.{Bool-set}
use mathlib.Core.Quot
use mathlib.Core.Quot.{mk, lift, Quot-set}
use Rattle.std.proofs.Math.IntN.{ℤ_set}
use Rattle.rational.specs.Fraction
use Rattle.rational.specs.Fraction.{Fraction, ◌≈◌, opposite, integer, is_at_most, whole_part}
use Rattle.rational.proofs.Fraction as Law

unfoldable pub ℚ : Type 0
ℚ = Quot.Quot ◌≈◌

-- the number that a fraction is
unfoldable pub rational : Fraction → ℚ
unfolding ℚ
rational p = mk p

pub ℚ-set : IsSet ℚ
unfolding ℚ
ℚ-set = Quot-set

-- two fractions that are the same number
pub sound : (p q : Fraction) → p ≈ q → rational p ≡ rational q
unfolding ℚ rational
sound p q h = Quot.sound h

-- a function of two fractions that respects `◌≈◌`, as one of numbers
unfoldable pub lift₂ : {B : Type 0} → IsSet B → (f : Fraction → Fraction → B)
    → ((a a' b b' : Fraction) → a ≈ a' → b ≈ b' → f a b ≡ f a' b') → ℚ → ℚ → B
unfolding ℚ
lift₂ {B} set f same p q =
    lift (→_set set) at
    (λ a a' s. fun_ext (Quot.ind {β = λ r. at a r ≡ at a' r} (λ r. set _ _) (λ b. same a a' b b s (Law.≈-refl b)))) p q
  where
    at : Fraction → Quot.Quot ◌≈◌ → B
    at a = lift {r = ◌≈◌} set (f a) (λ b b' t. same a a b b' (Law.≈-refl a) t)

-- ---- the operations

infixl 6 ◌⊕◌
unfoldable pub ◌⊕◌ : ℚ → ℚ → ℚ
unfolding ℚ rational
◌⊕◌ = lift₂ ℚ-set (λ a b. rational (Fraction.◌⊕◌ a b)) (λ a a' b b' s t. sound _ _ (Law.⊕-cong a a' b b' s t))

infixl 7 ◌⊗◌
unfoldable pub ◌⊗◌ : ℚ → ℚ → ℚ
unfolding ℚ rational
◌⊗◌ = lift₂ ℚ-set (λ a b. rational (Fraction.◌⊗◌ a b)) (λ a a' b b' s t. sound _ _ (Law.⊗-cong a a' b b' s t))

unfoldable pub neg : ℚ → ℚ
unfolding ℚ rational
neg = lift {r = ◌≈◌} ℚ-set (λ a. rational (opposite a)) (λ a b s. sound _ _ (Law.opposite-cong a b s))

-- an integer among the numbers
unfoldable pub whole : ℤ → ℚ
whole z = rational (integer z)

unfoldable pub 𝟎 : ℚ
𝟎 = whole (pos 0)

unfoldable pub 𝟏 : ℚ
𝟏 = whole (pos 1)

-- one part in d
unfoldable pub part : (d : ℕ) → 0 < d → ℚ
part d h = rational (record { num = pos 1; den = d; positive = h })

unfoldable pub at_most : ℚ → ℚ → Bool
unfolding ℚ
at_most = lift₂ Bool-set is_at_most Law.same_test

infix 5 ◌⊑◌
pub record ◌⊑◌ (p q : ℚ) : Type 0 where
  pub holds : T (at_most p q)

unfoldable pub floor : ℚ → ℤ
unfolding ℚ
floor = lift {r = ◌≈◌} ℤ_set whole_part Law.same-part

unfoldable pub ceiling : ℚ → ℤ
ceiling q = neg_ℤ (floor (neg q))
