-- Laws of ℚ, each a law of fractions, carried over: a commutative ring with an order, and the whole part.
use mathlib.Core.Path.{◌≡◌, refl, sym, ◌∙◌, ap, subst, subst₂}
use mathlib.Core.HLevel.{→_prop, ×_prop}
use mathlib.Core.Bool.{true, false}
use mathlib.Core.Logic.{◌↔◌}
use mathlib.Core.Quot
use Prim.Native.Nat.{ℕ, ◌<◌}
use lib.Dec.{T, T_prop, lit<}
use lib.IntN.{ℤ, pos, negsuc, ◌+ℤ◌, ◌*ℤ◌, neg_ℤ, neg_ℤ-neg_ℤ}
use lib.Signed.{◌≤ℤ◌, ≤ℤ_refl}
use Rattle.rational.proofs.Integer.{≤ℤ-antisym, ≤ℤ_prop, negℤ-mono}
use Rattle.rational.specs.Fraction
use Rattle.rational.specs.Fraction.{Fraction, ◌≈◌, ◌≼◌, opposite, integer}
use Rattle.rational.proofs.Fraction as Law
use Rattle.value.specs.Rational.{ℚ, rational, ℚ-set, sound, lift₂, ◌⊕◌, ◌⊗◌, neg, whole, 𝟎, 𝟏, part, at_most, ◌⊑◌, floor, ceiling}

-- a proposition that holds at every fraction holds at every number
pub ind : (P : ℚ → Type 0) → ((p : ℚ) → IsProp (P p)) → ((a : Fraction) → P (rational a)) → (p : ℚ) → P p
unfolding ℚ rational
ind P prop h p = Quot.ind {β = P} prop h p

ind₂ : (P : ℚ → ℚ → Type 0) → ((p q : ℚ) → IsProp (P p q)) → ((a b : Fraction) → P (rational a) (rational b)) → (p q : ℚ) → P p q
ind₂ P prop h p q = ind (λ p. P p q) (λ p. prop p q) (λ a. ind (P (rational a)) (prop (rational a)) (h a) q) p

ind₃ : (P : ℚ → ℚ → ℚ → Type 0) → ((p q r : ℚ) → IsProp (P p q r)) → ((a b c : Fraction) → P (rational a) (rational b) (rational c))
    → (p q r : ℚ) → P p q r
ind₃ P prop h p q r = ind (λ p. P p q r) (λ p. prop p q r) (λ a. ind₂ (P (rational a)) (prop (rational a)) (h a) q r) p

pub rational-integer : (z : ℤ) → rational (integer z) ≡ whole z
unfolding whole
rational-integer z = refl

pub rational-⊕ : (p q : Fraction) → rational (Fraction.◌⊕◌ p q) ≡ rational p ⊕ rational q
unfolding ℚ rational ◌⊕◌ lift₂
rational-⊕ p q = refl

pub rational-⊗ : (p q : Fraction) → rational (Fraction.◌⊗◌ p q) ≡ rational p ⊗ rational q
unfolding ℚ rational ◌⊗◌ lift₂
rational-⊗ p q = refl

pub rational-opposite : (p : Fraction) → rational (opposite p) ≡ neg (rational p)
unfolding ℚ rational neg
rational-opposite p = refl

-- ---- the laws of a commutative ring

pub add_comm : (p q : ℚ) → p ⊕ q ≡ q ⊕ p
unfolding ℚ rational ◌⊕◌ lift₂
add_comm = ind₂ (λ p q. p ⊕ q ≡ q ⊕ p) (λ p q. ℚ-set _ _) (λ a b. sound _ _ (Law.⊕-comm a b))

pub add_assoc : (p q r : ℚ) → p ⊕ q ⊕ r ≡ p ⊕ (q ⊕ r)
unfolding ℚ rational ◌⊕◌ lift₂
add_assoc = ind₃ (λ p q r. p ⊕ q ⊕ r ≡ p ⊕ (q ⊕ r)) (λ p q r. ℚ-set _ _) (λ a b c. sound _ _ (Law.⊕-assoc a b c))

pub add-zero : (p : ℚ) → p ⊕ 𝟎 ≡ p
unfolding ℚ rational ◌⊕◌ lift₂ 𝟎 whole
add-zero = ind (λ p. p ⊕ 𝟎 ≡ p) (λ p. ℚ-set _ _) (λ a. sound _ _ (Law.⊕-zero a))

pub add-neg : (p : ℚ) → p ⊕ neg p ≡ 𝟎
unfolding ℚ rational ◌⊕◌ neg lift₂ 𝟎 whole
add-neg = ind (λ p. p ⊕ neg p ≡ 𝟎) (λ p. ℚ-set _ _) (λ a. sound _ _ (Law.⊕-opposite a))

pub mul_comm : (p q : ℚ) → p ⊗ q ≡ q ⊗ p
unfolding ℚ rational ◌⊗◌ lift₂
mul_comm = ind₂ (λ p q. p ⊗ q ≡ q ⊗ p) (λ p q. ℚ-set _ _) (λ a b. sound _ _ (Law.⊗-comm a b))

pub mul_assoc : (p q r : ℚ) → p ⊗ q ⊗ r ≡ p ⊗ (q ⊗ r)
unfolding ℚ rational ◌⊗◌ lift₂
mul_assoc = ind₃ (λ p q r. p ⊗ q ⊗ r ≡ p ⊗ (q ⊗ r)) (λ p q r. ℚ-set _ _) (λ a b c. sound _ _ (Law.⊗-assoc a b c))

pub mul-one : (p : ℚ) → p ⊗ 𝟏 ≡ p
unfolding ℚ rational ◌⊗◌ lift₂ 𝟏 whole
mul-one = ind (λ p. p ⊗ 𝟏 ≡ p) (λ p. ℚ-set _ _) (λ a. sound _ _ (Law.⊗-one a))

pub mul-zero : (p : ℚ) → p ⊗ 𝟎 ≡ 𝟎
unfolding ℚ rational ◌⊗◌ lift₂ 𝟎 whole
mul-zero = ind (λ p. p ⊗ 𝟎 ≡ 𝟎) (λ p. ℚ-set _ _) (λ a. sound _ _ (Law.⊗-zero a))

pub mul-add : (p q r : ℚ) → p ⊗ (q ⊕ r) ≡ p ⊗ q ⊕ p ⊗ r
unfolding ℚ rational ◌⊕◌ ◌⊗◌ lift₂
mul-add = ind₃ (λ p q r. p ⊗ (q ⊕ r) ≡ p ⊗ q ⊕ p ⊗ r) (λ p q r. ℚ-set _ _) (λ a b c. sound _ _ (Law.⊗-⊕ a b c))

pub mul-neg : (p q : ℚ) → p ⊗ neg q ≡ neg (p ⊗ q)
unfolding ℚ rational ◌⊗◌ neg lift₂
mul-neg = ind₂ (λ p q. p ⊗ neg q ≡ neg (p ⊗ q)) (λ p q. ℚ-set _ _) (λ a b. sound _ _ (Law.⊗-opposite a b))

pub neg-add : (p q : ℚ) → neg (p ⊕ q) ≡ neg p ⊕ neg q
unfolding ℚ rational ◌⊕◌ neg lift₂
neg-add = ind₂ (λ p q. neg (p ⊕ q) ≡ neg p ⊕ neg q) (λ p q. ℚ-set _ _) (λ a b. sound _ _ (Law.opposite-⊕ a b))

pub neg-neg : (p : ℚ) → neg (neg p) ≡ p
unfolding ℚ rational neg
neg-neg = ind (λ p. neg (neg p) ≡ p) (λ p. ℚ-set _ _) (λ a. sound _ _ (Law.opposite-opposite a))

pub zero-add : (p : ℚ) → 𝟎 ⊕ p ≡ p
zero-add p = add_comm 𝟎 p ∙ add-zero p

pub add_left_comm : (p q r : ℚ) → p ⊕ (q ⊕ r) ≡ q ⊕ (p ⊕ r)
add_left_comm p q r = sym (add_assoc p q r) ∙ ap (λ s. s ⊕ r) (add_comm p q) ∙ add_assoc q p r

pub one-mul : (p : ℚ) → 𝟏 ⊗ p ≡ p
one-mul p = mul_comm 𝟏 p ∙ mul-one p

pub zero-mul : (p : ℚ) → 𝟎 ⊗ p ≡ 𝟎
zero-mul p = mul_comm 𝟎 p ∙ mul-zero p

pub mul_left_comm : (p q r : ℚ) → p ⊗ (q ⊗ r) ≡ q ⊗ (p ⊗ r)
mul_left_comm p q r = sym (mul_assoc p q r) ∙ ap (λ s. s ⊗ r) (mul_comm p q) ∙ mul_assoc q p r

pub add-mul : (p q r : ℚ) → (p ⊕ q) ⊗ r ≡ p ⊗ r ⊕ q ⊗ r
add-mul p q r = mul_comm (p ⊕ q) r ∙ mul-add r p q ∙ cc (mul_comm r p, mul_comm r q)

pub neg-mul : (p q : ℚ) → neg p ⊗ q ≡ neg (p ⊗ q)
neg-mul p q = mul_comm (neg p) q ∙ mul-neg q p ∙ ap neg (mul_comm q p)

pub neg-zero : neg 𝟎 ≡ 𝟎
neg-zero = sym (zero-add (neg 𝟎)) ∙ add-neg 𝟎

-- `simp ring` proves an identity over variables: it multiplies out and sorts
pub ruleset ring = (add_assoc, add_comm, add_left_comm, add-zero, zero-add, mul_assoc, mul_comm, mul_left_comm, mul-one, one-mul, mul-zero, zero-mul, mul-add, add-mul, mul-neg, neg-mul, neg-add, neg-neg, neg-zero)

-- ---- integers among them

pub whole-zero : whole (pos 0) ≡ 𝟎
unfolding 𝟎
whole-zero = refl

pub whole-one : whole (pos 1) ≡ 𝟏
unfolding 𝟏
whole-one = refl

pub whole-add : (a b : ℤ) → whole (a +ℤ b) ≡ whole a ⊕ whole b
unfolding whole
whole-add a b = sound _ _ (Law.integer-+ a b) ∙ rational-⊕ (integer a) (integer b)

pub whole-mul : (a b : ℤ) → whole (a *ℤ b) ≡ whole a ⊗ whole b
unfolding whole
whole-mul a b = sound _ _ (Law.integer-* a b) ∙ rational-⊗ (integer a) (integer b)

pub whole_neg : (a : ℤ) → whole (neg_ℤ a) ≡ neg (whole a)
unfolding whole
whole_neg a = sound _ _ (Law.integer-neg a) ∙ rational-opposite (integer a)

pub all-parts : (d : ℕ) (h : 0 < d) → whole (pos d) ⊗ part d h ≡ 𝟏
unfolding whole 𝟏 part
all-parts d h = sym (rational-⊗ (integer (pos d)) _) ∙ sound _ _ (Law.all-parts d h)

-- ---- the order, as a test that computes

pub ⊑-prop : (p q : ℚ) → IsProp (p ⊑ q)
⊑-prop p q x y = λ i. record { holds = T_prop (at_most p q) x.holds y.holds i }

pub rational-⊑ : (p q : Fraction) → (rational p ⊑ rational q) ↔ (p ≼ q)
unfolding ℚ rational at_most lift₂
rational-⊑ p q = (λ h. Law.passed p q h.holds, λ h. record { holds = Law.passes p q h })

pub ⊑_refl : (p : ℚ) → p ⊑ p
⊑_refl = ind (λ p. p ⊑ p) (λ p. ⊑-prop p p) (λ a. (rational-⊑ a a).1 (Law.≼_refl a))

pub ⊑_trans : {p q r : ℚ} → p ⊑ q → q ⊑ r → p ⊑ r
⊑_trans {p} {q} {r} =
    ind₃ (λ p q r. p ⊑ q → q ⊑ r → p ⊑ r) (λ p q r. →_prop (→_prop (⊑-prop p r)))
    (λ a b c h k. (rational-⊑ a c).1 (Law.≼_trans a b c ((rational-⊑ a b).0 h) ((rational-⊑ b c).0 k))) p q r

pub ⊑-antisym : {p q : ℚ} → p ⊑ q → q ⊑ p → p ≡ q
⊑-antisym {p} {q} =
    ind₂ (λ p q. p ⊑ q → q ⊑ p → p ≡ q) (λ p q. →_prop (→_prop (ℚ-set p q)))
    (λ a b h k. sound a b (Law.≼-antisym a b ((rational-⊑ a b).0 h) ((rational-⊑ b a).0 k))) p q

-- fractions that are one number are the same
pub exact : (p q : Fraction) → rational p ≡ rational q → p ≈ q
exact p q e = Law.≼-antisym p q ((rational-⊑ p q).0 (rw e (⊑_refl (rational q)))) ((rational-⊑ q p).0 (rw e (⊑_refl (rational q))))

-- a test that fails says that the order holds the other way round
pub ⊑-total : (p q : ℚ) → at_most p q ≡ false → q ⊑ p
unfolding ℚ rational at_most lift₂
⊑-total = ind₂ (λ p q. at_most p q ≡ false → q ⊑ p) (λ p q. →_prop (⊑-prop q p)) (λ a b e. (rational-⊑ b a).1 (Law.failed a b e))

pub ⊑-yes : {p q : ℚ} → at_most p q ≡ true → p ⊑ q
⊑-yes e = record { holds = subst T (sym e) tt }

pub ⊑-no : {p q : ℚ} → at_most p q ≡ false → p ⊑ q → ⊥
⊑-no e h = subst T e h.holds

pub add-mono-left : {p q : ℚ} (r : ℚ) → p ⊑ q → p ⊕ r ⊑ q ⊕ r
unfolding ℚ rational ◌⊕◌ lift₂
add-mono-left {p} {q} r =
    ind₃ (λ p q r. p ⊑ q → p ⊕ r ⊑ q ⊕ r) (λ p q r. →_prop (⊑-prop _ _))
    (λ a b c h. (rational-⊑ (Fraction.◌⊕◌ a c) (Fraction.◌⊕◌ b c)).1 (Law.⊕-mono a b c c ((rational-⊑ a b).0 h) (Law.≼_refl c))) p q r

pub add-mono : {p q r s : ℚ} → p ⊑ q → r ⊑ s → p ⊕ r ⊑ q ⊕ s
add-mono {p} {q} {r} {s} h k = ⊑_trans (add-mono-left r h) (rw (add_comm q r, add_comm q s) (add-mono-left q k))

pub neg-mono : {p q : ℚ} → p ⊑ q → neg q ⊑ neg p
unfolding ℚ rational neg
neg-mono {p} {q} =
    ind₂ (λ p q. p ⊑ q → neg q ⊑ neg p) (λ p q. →_prop (⊑-prop _ _))
    (λ a b h. (rational-⊑ (opposite b) (opposite a)).1 (Law.opposite-mono a b ((rational-⊑ a b).0 h))) p q

pub mul_mono : {p q : ℚ} (r : ℚ) → 𝟎 ⊑ r → p ⊑ q → p ⊗ r ⊑ q ⊗ r
unfolding ℚ rational ◌⊗◌ lift₂ 𝟎 whole
mul_mono {p} {q} =
    ind₃ (λ p q r. 𝟎 ⊑ r → p ⊑ q → p ⊗ r ⊑ q ⊗ r) (λ p q r. →_prop (→_prop (⊑-prop _ _)))
    (λ a b c n h. (rational-⊑ (Fraction.◌⊗◌ a c) (Fraction.◌⊗◌ b c)).1 (Law.⊗-mono a b c ((rational-⊑ (integer (pos 0)) c).0 n) ((rational-⊑ a b).0 h))) p q

pub whole-⊑ : (a b : ℤ) → a ≤ℤ b → whole a ⊑ whole b
unfolding whole
whole-⊑ a b h = (rational-⊑ (integer a) (integer b)).1 (Law.integer-≼ a b h)

pub whole-⊑⁻¹ : (a b : ℤ) → whole a ⊑ whole b → a ≤ℤ b
unfolding whole
whole-⊑⁻¹ a b h = Law.≼-integer a b ((rational-⊑ (integer a) (integer b)).0 h)

pub whole-injective : (a b : ℤ) → whole a ≡ whole b → a ≡ b
whole-injective a b e = ≤ℤ-antisym (whole-⊑⁻¹ a b (rw e (⊑_refl (whole b)))) (whole-⊑⁻¹ b a (rw e (⊑_refl (whole b))))

-- ---- the whole part

-- the whole part is the largest integer that is not above
pub floor-is : (q : ℚ) (k : ℤ) → (whole k ⊑ q) ↔ (k ≤ℤ floor q)
unfolding ℚ rational floor whole
floor-is q k = ind (λ q. (whole k ⊑ q) ↔ (k ≤ℤ floor q)) (λ q. ×_prop (→_prop (≤ℤ_prop _ _)) (→_prop (⊑-prop _ _))) (λ p. (λ h. (Law.whole_part_lem p k).0 ((rational-⊑ (integer k) p).0 h), λ h. (rational-⊑ (integer k) p).1 ((Law.whole_part_lem p k).1 h))) q

pub floor-whole : (k : ℤ) → floor (whole k) ≡ k
floor-whole k = ≤ℤ-antisym (whole-⊑⁻¹ _ _ ((floor-is (whole k) _).1 (≤ℤ_refl _))) ((floor-is (whole k) k).0 (⊑_refl _))

-- the smallest integer that is not below
pub ceiling-is : (q : ℚ) (k : ℤ) → (q ⊑ whole k) ↔ (ceiling q ≤ℤ k)
unfolding ceiling
ceiling-is q k = (
  λ h. subst (λ z. neg_ℤ (floor (neg q)) ≤ℤ z) (neg_ℤ-neg_ℤ k) (negℤ-mono ((floor-is (neg q) (neg_ℤ k)).0 (rw whole_neg (neg-mono h)))),
  λ h. subst₂ ◌⊑◌ (neg-neg q) (neg-neg (whole k)) (neg-mono (rw (← whole_neg) ((floor-is (neg q) (neg_ℤ k)).1 (subst (λ z. neg_ℤ k ≤ℤ z) (neg_ℤ-neg_ℤ (floor (neg q))) (negℤ-mono h))))),
)

pub ceiling-whole : (k : ℤ) → ceiling (whole k) ≡ k
unfolding ceiling
ceiling-whole k = ap neg_ℤ (ap floor (sym (whole_neg k)) ∙ floor-whole (neg_ℤ k)) ∙ neg_ℤ-neg_ℤ k

-- ---- the tests compute

third-half : at_most (part 3 (lit< tt)) (part 2 (lit< tt)) ≡ true
unfolding ℚ rational at_most lift₂ part
third-half = refl

half-third : at_most (part 2 (lit< tt)) (part 3 (lit< tt)) ≡ false
unfolding ℚ rational at_most lift₂ part
half-third = refl

floor-half : floor (neg (part 2 (lit< tt))) ≡ negsuc 0
unfolding ℚ rational floor neg opposite part
floor-half = refl

multiplied-out : (a b c d : ℚ) → (a ⊕ neg b) ⊗ (c ⊕ d) ≡ neg (d ⊗ b) ⊕ (a ⊗ d ⊕ c ⊗ a ⊕ neg (b ⊗ c))
multiplied-out a b c d = simp ring
