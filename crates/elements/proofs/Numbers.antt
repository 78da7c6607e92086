-- Laws of a run's numbers: the next one fits and is small, and the run ends.
use mathlib.Core.Path.{◌≡◌, refl, sym, ◌∙◌}
use mathlib.Core.Bool.{Bool, true, false, not}
use Prim.Native.Nat.{ℕ, suc, ◌+◌, ◌-◌, ◌^◌, ◌<◌, ◌≤◌}
use native.Mathlib.Omega.{arith}
use borrow.Author.Tests.{ltb-true, ltb-false, leb-false}
use lib.IntN.{ℤ, pos, negsuc, nat_abs, neg_ℤ, ◌+ℤ◌, ◌-ℤ◌}
use lib.Signed.{◌≤ℤ◌, mag, lt_z, le_z}
use mir.Syntax.{w64}
use mir.Val.{SFits, to_z, of_z}
use Rattle.rational.specs.Integer.{up, down}
use Rattle.rational.proofs.Integer.{add_parts, neg-up, neg-down, le_parts, le-of-parts, le-le_z}
use Rattle.value.proofs.Integers.{back, mag-le}
use Rattle.evaluator.proofs.steps.Runs.{parts-size}
use Rattle.elements.specs.declared.here.Level.{Level}
use Rattle.elements.specs.Held.{stepped, word_base, StepsUp}
use Rattle.elements.proofs.Runs.{up_is}

pub not-true : (x : Bool) → not x ≡ true → x ≡ false
not-true true e = sym e
not-true false e = refl

pub not-false : (x : Bool) → not x ≡ false → x ≡ true
not-false true e = refl
not-false false e = sym e

-- ---- tests, by the parts of two numbers

pub less : (a b : ℤ) → lt_z a b ≡ true → up a + down b < up b + down a
less (pos a) (pos b) e = omega (arith, ltb-true a b e)
less (pos a) (negsuc b) e = absurd (let z : ◌≡◌ {A = ℕ} 0 1 = cc in omega arith)
less (negsuc a) (pos b) e = omega arith
less (negsuc a) (negsuc b) e = omega (arith, ltb-true b a e)

not-less : (a b : ℤ) → lt_z a b ≡ false → up b + down a ≤ up a + down b
not-less (pos a) (pos b) e = omega (arith, ltb-false a b e)
not-less (pos a) (negsuc b) e = omega arith
not-less (negsuc a) (pos b) e = absurd (let z : ◌≡◌ {A = ℕ} 0 1 = cc in omega arith)
not-less (negsuc a) (negsuc b) e = omega (arith, ltb-false b a e)

greater : (a b : ℤ) → le_z a b ≡ false → up b + down a < up a + down b
greater (pos a) (pos b) e = omega (arith, leb-false a b e)
greater (pos a) (negsuc b) e = omega arith
greater (negsuc a) (pos b) e = absurd (let z : ◌≡◌ {A = ℕ} 0 1 = cc in omega arith)
greater (negsuc a) (negsuc b) e = omega (arith, leb-false b a e)

-- no number is left, and none behind this one
pub above : (a b : ℤ) → le_z a b ≡ false → (b +ℤ pos 1) ≤ℤ a
above a b e = le-of-parts _ _ (omega (arith, greater a b e, add_parts b (pos 1)))

pub last : (a b : ℤ) → lt_z a b ≡ false → (b +ℤ pos 1) ≤ℤ (a +ℤ pos 1)
last a b e = le-of-parts _ _ (omega (arith, not-less a b e, add_parts b (pos 1), add_parts a (pos 1)))

-- the next number is not above the limit
pub next-stands : (a b : ℤ) → lt_z a b ≡ true → le_z (a +ℤ pos 1) b ≡ true
next-stands a b e = le-le_z {a = a +ℤ pos 1} {b = b} (le-of-parts _ _ (omega (arith, less a b e, add_parts a (pos 1))))

-- the difference of two numbers, by their parts
pub difference : (a b : ℤ) → up (b -ℤ a) ≡ up b + down a - (down b + up a)
difference a b = up_is (b -ℤ a) _ _ (omega (arith, add_parts b (neg_ℤ a), neg-up a, neg-down a))

mag-parts : (z : ℤ) → (up z ≤ mag z) × (down z ≤ suc (mag z))
mag-parts (pos n) = omega arith
mag-parts (negsuc n) = omega arith

-- ---- the next number

next-parts : (a : ℤ) → (up (a +ℤ pos 1) ≡ up a + 1 - down a) × (down (a +ℤ pos 1) ≡ down a - 1)
next-parts (pos n) = (omega arith, omega arith)
next-parts (negsuc n) =
    let p = add_parts (negsuc n) (pos 1) in
    let u = up_is (negsuc n +ℤ pos 1) 1 (suc n) (omega (arith, p)) in
    (omega (arith, u), omega (arith, p, u))

-- it stays within what bounds this one and a greater one
pub next-size : (a b : ℤ) {L : ℕ} → lt_z a b ≡ true → nat_abs a ≤ L → nat_abs b ≤ L → nat_abs (a +ℤ pos 1) ≤ L
next-size a b e h k = omega (arith, less a b e, parts-size a, parts-size b, parts-size (a +ℤ pos 1), next-parts a)

pub next-above : (a : ℤ) → a ≤ℤ (a +ℤ pos 1)
next-above a = le-of-parts _ _ (omega (arith, add_parts a (pos 1)))

-- what lies between two numbers is as small as they are
pub between_size : (a k b : ℤ) {L : ℕ} → a ≤ℤ k → k ≤ℤ b → nat_abs a ≤ L → nat_abs b ≤ L → nat_abs k ≤ L
between_size a (pos k) b h i m n = omega (arith, le_parts (pos k) b i, parts-size b)
between_size a (negsuc k) b h i m n = omega (arith, le_parts a (negsuc k) h, parts-size a)

pub next-mag : (a b : ℤ) {L : ℕ} → lt_z a b ≡ true → mag a < L → mag b < L → mag (a +ℤ pos 1) < L
next-mag (pos a) (pos b) e h k = omega (arith, ltb-true a b e)
next-mag (pos a) (negsuc b) e h k = absurd (let z : ◌≡◌ {A = ℕ} 0 1 = cc in omega arith)
next-mag (negsuc a) b e h k = omega (arith, mag-le (negsuc a +ℤ pos 1), parts-size (negsuc a +ℤ pos 1), next-parts (negsuc a))

-- the next number of a run, as the machine reads it
module _ (l : Level) (x : Bool) (e : x ≡ lt_z l.number l.upper) where
  pub up_same : not x ≡ true → StepsUp l l
  unfolding stepped
  up_same f =
      let t = sym e ∙ not-true x f in
      record { is = rw t; near = λ h. absurd (let z : true ≡ false = sym h ∙ t in let o : ◌≡◌ {A = ℕ} 0 1 = cc in omega arith) }

  module _ (f : not x ≡ false) (a : mag l.number < 2 ^ 63) (b : mag l.upper < 2 ^ 63) where
    next_fits : mag (l.number +ℤ pos 1) < 2 ^ 63
    next_fits = next-mag l.number l.upper (sym e ∙ not-false x f) a b

    pub up_fits : SFits w64 (to_z w64 (of_z w64 l.number) +ℤ pos 1)
    up_fits = rw (back {z = l.number} a) (record { sfits = next_fits })

    pub up-number : StepsUp l (record { name = l.name; number = to_z w64 (of_z w64 (to_z w64 (of_z w64 l.number) +ℤ pos 1)); upper = to_z w64 (of_z w64 l.upper); behind = l.behind })
    unfolding stepped word_base
    up-number = record {
      is = rw (back {z = l.number} a, back {z = l.number +ℤ pos 1} next_fits, back {z = l.upper} b, sym e ∙ not-false x f);
      near = λ t. omega (arith, difference l.number l.upper, mag-parts l.number, mag-parts l.upper);
    }
