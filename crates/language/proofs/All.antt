-- Laws of `specs/All`.
use mathlib.Core.Path.{subst}
use mathlib.Core.List.{List, [], ◌∷◌, ◌++◌, map}
use Prim.Native.Nat.{ℕ, zero, suc}
use lib.ListN.{get_or, set, replicate}
use Rattle.language.specs.Listed.{At, In}
use Rattle.language.proofs.Listed.{in-here, in-later}
use Rattle.language.specs.All.{All}

module _ {A : Type 0} (P : A → Type 0) where
  pub all-at : (l : List A) (i : ℕ) (a : A) → At l i a → All P l → P a
  all-at [] i a x h = absurd x
  all-at (b ∷ l) zero a x h = subst P x h.0
  all-at (b ∷ l) (suc i) a x h = all-at l i a x h.1

  pub all_in_lem : (l : List A) (a : A) → In l a → All P l → P a
  all_in_lem l a n h = all-at l n.place a n.at h

  pub in_all : (l : List A) → ((a : A) → In l a → P a) → All P l
  in_all [] h = tt
  in_all (a ∷ l) h = (h a (in-here a l), in_all l (λ b n. h b (in-later a l b n)))

  pub all_append : (l m : List A) → All P l → All P m → All P (l ++ m)
  all_append [] m h k = k
  all_append (a ∷ l) m h k = (h.0, all_append l m h.1 k)

  pub all_left : (l m : List A) → All P (l ++ m) → All P l
  all_left [] m h = tt
  all_left (a ∷ l) m h = (h.0, all_left l m h.1)

  pub all_right : (l m : List A) → All P (l ++ m) → All P m
  all_right [] m h = h
  all_right (a ∷ l) m h = all_right l m h.1

  pub all-with : (l : List A) (a : A) → All P l → P a → All P (l ++ (a ∷ []))
  all-with l a h k = all_append l (a ∷ []) h (k, tt)

  pub all_get_d : (l : List A) (i : ℕ) (d : A) → All P l → P d → P (get_or l i d)
  all_get_d [] i d h k = k
  all_get_d (a ∷ l) zero d h k = h.0
  all_get_d (a ∷ l) (suc i) d h k = all_get_d l i d h.1 k

  pub all_set : (l : List A) (i : ℕ) (a : A) → All P l → P a → All P (set l i a)
  all_set [] i a h k = tt
  all_set (b ∷ l) zero a h k = (k, h.1)
  all_set (b ∷ l) (suc i) a h k = (h.0, all_set l i a h.1 k)

  pub all_replicate : (n : ℕ) (a : A) → P a → All P (replicate n a)
  all_replicate zero a k = tt
  all_replicate (suc n) a k = (k, all_replicate n a k)

module _ {A : Type 0} (P Q : A → Type 0) (weaker : (a : A) → P a → Q a) where
  pub all-weaken : (l : List A) → All P l → All Q l
  all-weaken [] h = tt
  all-weaken (a ∷ l) h = (weaker a h.0, all-weaken l h.1)

module _ {A B : Type 0} (P : A → Type 0) (Q : B → Type 0) (f : A → B) (keeps : (a : A) → P a → Q (f a)) where
  pub all_map : (l : List A) → All P l → All Q (map f l)
  all_map [] h = tt
  all_map (a ∷ l) h = (keeps a h.0, all_map l h.1)
