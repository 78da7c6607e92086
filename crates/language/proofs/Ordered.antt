-- Lists in an order: whatever stands earlier comes earlier. Where nothing comes before itself, nothing is repeated.
use mathlib.Core.Path.{◌≡◌, refl, sym, subst}
use mathlib.Core.Logic.{inl, inr}
use mathlib.Core.List.{List, [], ◌∷◌, ◌++◌, map}
use Prim.Native.Nat.{ℕ, zero, suc, ◌<◌}
use native.Mathlib.Omega.{arith}
use native.Mathlib.Nat.{le_of_suc-le-suc}
use lib.IntN.{ℤ, pos, neg_ℤ, ◌+ℤ◌}
use lib.Signed.{◌≤ℤ◌}
use Rattle.rational.specs.Integer.{up}
use Rattle.rational.proofs.Integer.{le_parts, add_parts}
use Rattle.language.specs.Listed.{At, In, Distinct}
use Rattle.language.proofs.Listed.{Split, at_length, at-append, in-nil, map-in, distinct_nil, distinct_cons}
use Rattle.language.specs.Ranges.{up_from, range}
use Rattle.language.proofs.Ranges.{in-up_from}
use Rattle.language.specs.Demand3.{Rising, Precedes}

module _ {A : Type 0} {R : A → A → Type 0} where
  pub rising-nil : Rising R []
  rising-nil = record { earlier = λ i j a b l h k. absurd h }

  pub rising-cons : (a : A) (l : List A) → ((b : A) → In l b → R a b) → Rising R l → Rising R (a ∷ l)
  rising-cons a l before r = record { earlier = go }
    where
      go : (i j : ℕ) (b c : A) → i < j → At (a ∷ l) i b → At (a ∷ l) j c → R b c
      go zero zero b c t h k = absurd (omega arith)
      go zero (suc j) b c t h k = subst (λ x. R x c) h (before c (record { place = j; at = k }))
      go (suc i) zero b c t h k = absurd (omega arith)
      go (suc i) (suc j) b c t h k = r.earlier i j b c (le_of_suc-le-suc t) h k

  pub rising-one : (a : A) → Rising R (a ∷ [])
  rising-one a = rising-cons a [] (λ b h. absurd (in-nil b h)) rising-nil

  pub rising-head : (a : A) (l : List A) → Rising R (a ∷ l) → (b : A) → In l b → R a b
  rising-head a l r b h = r.earlier 0 (suc h.place) a b (omega arith) refl h.at

  pub rising-tail : (a : A) (l : List A) → Rising R (a ∷ l) → Rising R l
  rising-tail a l r = record { earlier = λ i j b c t h k. r.earlier (suc i) (suc j) b c (omega arith) h k }

  pub rising-append : (l m : List A) → Rising R l → Rising R m → ((a b : A) → In l a → In m b → R a b) → Rising R (l ++ m)
  rising-append l m rl rm across = record { earlier = λ i j a b t h k. go i j a b t (at-append l m i a h) (at-append l m j b k) }
    where
      go : (i j : ℕ) (a b : A) → i < j → Split l m i a → Split l m j b → R a b
      go i j a b t (inl h) (inl k) = rl.earlier i j a b t h k
      go i j a b t (inl h) (inr k) = across a b (record { place = i; at = h }) (record { place = k.0; at = k.2 })
      go i j a b t (inr h) (inl k) = absurd (omega (arith, h.1, at_length l j b k))
      go i j a b t (inr h) (inr k) = rm.earlier h.0 k.0 a b (omega (arith, h.1, k.1)) h.2 k.2

  -- in another order that follows from it
  pub rising-as : {S : A → A → Type 0} (l : List A) → Rising R l → ((a b : A) → In l a → In l b → R a b → S a b) → Rising S l
  rising-as l r follows = record { earlier = λ i j a b t h k. follows a b (record { place = i; at = h }) (record { place = j; at = k }) (r.earlier i j a b t h k) }

  -- no repeats, where no two things of one name come one before the other
  pub distinct-rising : {B : Type 0} (name : A → B) (l : List A) → Rising R l → ((a b : A) → R a b → name a ≡ name b → ⊥) → Distinct (map name l)
  distinct-rising name [] r apart = distinct_nil
  distinct-rising name (a ∷ l) r apart =
      distinct_cons (name a) (map name l)
      (λ h. let t = map-in name l (name a) h in apart a t.0 (rising-head a l r t.0 t.1) (sym t.2))
      (distinct-rising name l (rising-tail a l r) apart)

-- ---- whole numbers, and elements

pub rising-up_from : (n : ℕ) (a : ℤ) → Rising (λ j k. (j +ℤ pos 1) ≤ℤ k) (up_from a n)
rising-up_from zero a = rising-nil
rising-up_from (suc n) a = rising-cons a _ (λ k h. (in-up_from n (a +ℤ pos 1) k h).0) (rising-up_from n (a +ℤ pos 1))

pub rising-range : (a b : ℤ) → Rising (λ j k. (j +ℤ pos 1) ≤ℤ k) (range a b)
rising-range a b = rising-up_from (up (b +ℤ pos 1 +ℤ neg_ℤ a)) a

pub not_itself : (e : List ℤ) → Precedes e e → ⊥
not_itself [] h = h
not_itself (k ∷ e) (inl h) = omega (arith, le_parts _ _ h, add_parts k (pos 1))
not_itself (k ∷ e) (inr h) = not_itself e h.1
