-- Laws of elements: their numbers as a list, one number more, bounds.
use mathlib.Core.Path.{◌≡◌, refl}
use mathlib.Core.Bool.{Bool, true, false, cond}
use mathlib.Core.List.{List, [], ◌∷◌, ◌++◌}
use Prim.Native.Nat.{ℕ, zero, suc, ◌<◌, ◌≤◌}
use native.Mathlib.Omega.{arith}
use borrow.Author.Tests.{ltb-true}
use lib.Dec.{ltb}
use lib.ListN.{length, get_or, length-append}
use lib.IntN.{ℤ, pos, nat_abs}
use Rattle.rules.specs.Limits.{mantissa_limit, index_limit}
use Rattle.store.specs.declared.Element.{Element}
use Rattle.store.specs.Few.{one_more}
use Rattle.store.proofs.Fews.{length-few as few, more-room}
use Rattle.store.specs.Element.{list_of, extended, Bounded, Subscripts}

-- ---- the list of an element

pub length-few : (e : Element) → length (list_of e) ≤ 4
unfolding list_of
length-few e = few e.numbers

-- what `extended` gives where there is room
pub extended-room : (l : List ℤ) (k : ℤ) → length l < 4 → extended l k ≡ l ++ (k ∷ [])
unfolding extended
extended-room l k h = more-room l k h

-- ---- bounds

-- an element never has more than four
pub bounded : (e : Element) → ((i : ℕ) → nat_abs (get_or (list_of e) i (pos 0)) ≤ mantissa_limit) → Bounded e
unfolding index_limit
bounded e b = record { few = length-few e; small = b }

pub subscripts-none : Subscripts []
subscripts-none = record { few = omega arith; small = λ i. omega arith }

-- a number behind the others
behind : (l : List ℤ) (k : ℤ) {L : ℕ} → nat_abs k ≤ L → ((i : ℕ) → nat_abs (get_or l i (pos 0)) ≤ L) → (i : ℕ) → nat_abs (get_or (l ++ (k ∷ [])) i (pos 0)) ≤ L
behind [] k h b zero = h
behind [] k h b (suc i) = b i
behind (j ∷ l) k h b zero = b zero
behind (j ∷ l) k h b (suc i) = behind l k h (λ p. b (suc p)) i

pub subscripts-more : (l : List ℤ) (k : ℤ) → Subscripts l → length l < index_limit → nat_abs k ≤ mantissa_limit → Subscripts (l ++ (k ∷ []))
subscripts-more l k s h b = record { few = simp length-append (omega arith); small = behind l k b s.small }

pub subscripts-extended : (l : List ℤ) (k : ℤ) → Subscripts l → nat_abs k ≤ mantissa_limit → Subscripts (extended l k)
unfolding extended one_more
subscripts-extended l k s b = go (ltb (length l) index_limit) refl
  where
    go : (t : Bool) → ltb (length l) index_limit ≡ t → Subscripts (cond t (l ++ (k ∷ [])) l)
    go true e = subscripts-more l k s (ltb-true (length l) index_limit e) b
    go false e = s

-- the elements that `none` and `with` give
pub bounded-none : (e : Element) → list_of e ≡ [] → Bounded e
bounded-none e h = rw h subscripts-none

pub bounded-with : (e r : Element) (k : ℤ) → Bounded e → nat_abs k ≤ mantissa_limit → list_of r ≡ extended (list_of e) k → Bounded r
bounded-with e r k b h f = rw f (subscripts-extended (list_of e) k b h)
