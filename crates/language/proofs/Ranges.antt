-- Laws of `specs/Ranges`.
use mathlib.Core.Path.{◌≡◌}
use mathlib.Core.Logic.{◌⊎◌, inl, inr}
use mathlib.Core.List.{◌∷◌}
use Prim.Native.Nat.{ℕ, zero, suc, ◌+◌, ◌<◌}
use native.Mathlib.Omega.{arith}
use lib.IntN.{ℤ, pos, ◌+ℤ◌, neg_ℤ, ℤ_discrete}
use lib.Signed.{◌≤ℤ◌, ≤ℤ_refl}
use Rattle.rational.specs.Integer.{up, down}
use Rattle.rational.proofs.Integer.{one-part, by_parts, add_parts, neg-up, neg-down, le_parts, le-of-parts}
use Rattle.language.specs.Listed.{In}
use Rattle.language.proofs.Listed.{in-nil, in-cons, in-later}
use Rattle.language.specs.Ranges.{range, up_from}

pub in-up_from : (n : ℕ) (a k : ℤ) → In (up_from a n) k → (a ≤ℤ k) × (k +ℤ pos 1) ≤ℤ (a +ℤ pos n)
in-up_from zero a k h = absurd (in-nil k h)
in-up_from (suc n) a k h = go (in-cons a (up_from (a +ℤ pos 1) n) k h) (in-up_from n (a +ℤ pos 1) k)
  where
    Goal : Type 0
    Goal = (a ≤ℤ k) × (k +ℤ pos 1) ≤ℤ (a +ℤ pos (suc n))

    go : (a ≡ k) ⊎ In (up_from (a +ℤ pos 1) n) k → (In (up_from (a +ℤ pos 1) n) k → ((a +ℤ pos 1) ≤ℤ k) × (k +ℤ pos 1) ≤ℤ (a +ℤ pos 1 +ℤ pos n)) → Goal
    go (inl e) ih = rw (← e) (≤ℤ_refl a, le-of-parts _ _ (omega (arith, add_parts a (pos 1), add_parts a (pos (suc n)))))
    go (inr m) ih =
        let l : (a +ℤ pos 1) ≤ℤ k = (ih m).0 in
        let r : (k +ℤ pos 1) ≤ℤ (a +ℤ pos 1 +ℤ pos n) = (ih m).1 in (
          le-of-parts a k (omega (arith, le_parts _ _ l, add_parts a (pos 1))),
          le-of-parts _ _ (omega (arith, le_parts _ _ r, add_parts a (pos 1), add_parts (a +ℤ pos 1) (pos n), add_parts a (pos (suc n)))),
        )

pub up_from-in : (n : ℕ) (a k : ℤ) → a ≤ℤ k → (k +ℤ pos 1) ≤ℤ (a +ℤ pos n) → In (up_from a n) k
up_from-in zero a k l r = absurd (omega (arith, le_parts a k l, le_parts _ _ r, add_parts k (pos 1), add_parts a (pos 0)))
up_from-in (suc n) a k l r = go (ℤ_discrete a k) (up_from-in n (a +ℤ pos 1) k)
  where
    go : Dec (a ≡ k) → ((a +ℤ pos 1) ≤ℤ k → (k +ℤ pos 1) ≤ℤ (a +ℤ pos 1 +ℤ pos n) → In (up_from (a +ℤ pos 1) n) k) → In (a ∷ up_from (a +ℤ pos 1) n) k
    go (yes e) ih = record { place = 0; at = e }
    go (no e) ih =
        let ne : (up a + down k ≡ up k + down a) → ⊥ = (λ h. e (by_parts a k h)) in
        in-later a _ k
        (ih (le-of-parts _ _ (omega (arith, ne, le_parts a k l, add_parts a (pos 1))))
        (le-of-parts _ _ (omega (arith, le_parts _ _ r, add_parts k (pos 1), add_parts a (pos (suc n)), add_parts a (pos 1), add_parts (a +ℤ pos 1) (pos n)))))

-- k stands in the range where it is neither below a nor above b
pub in-range : (a b k : ℤ) → In (range a b) k → (a ≤ℤ k) × (k ≤ℤ b)
in-range a b k h =
    let n : ℕ = up (b +ℤ pos 1 +ℤ neg_ℤ a) in
    let r = in-up_from n a k h in
    let some : 0 < n = omega (arith, le_parts _ _ r.0, le_parts _ _ r.1, add_parts k (pos 1), add_parts a (pos n)) in
    (r.0, le-of-parts k b (omega (arith, one-part (b +ℤ pos 1 +ℤ neg_ℤ a) some, le_parts _ _ r.1, le_parts _ _ r.0, add_parts k (pos 1), add_parts a (pos n), add_parts (b +ℤ pos 1) (neg_ℤ a), add_parts b (pos 1), neg-up a, neg-down a)))

pub range-in : (a b k : ℤ) → a ≤ℤ k → k ≤ℤ b → In (range a b) k
range-in a b k l r =
    let n : ℕ = up (b +ℤ pos 1 +ℤ neg_ℤ a) in
    up_from-in n a k l
    (le-of-parts _ _ (omega (arith, le_parts a k l, le_parts k b r, add_parts k (pos 1), add_parts a (pos n), add_parts (b +ℤ pos 1) (neg_ℤ a), add_parts b (pos 1), neg-up a, neg-down a)))
