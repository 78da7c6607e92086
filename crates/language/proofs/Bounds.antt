-- Bounds: the largest and the smallest of the stated values.
use Rattle.std.specs.Prelude.{Option, Some, None}
use mathlib.Core.Path.{◌≡◌, refl, sym, ◌∙◌, ap, subst}
use mathlib.Core.Logic.{◌⊎◌, inl, inr}
use mathlib.Core.Bool.{Bool, true, false, cond}
use mathlib.Core.List.{List, [], ◌∷◌}
use Prim.Native.Nat.{ℕ}
use lib.Dec.{eqb}
use Rattle.value.specs.Number.{exactly}
use Rattle.language.specs.Listed.{In}
use Rattle.language.proofs.Listed.{in-nil, in-cons, in-here, in-later}
use Rattle.value.specs.Rational.{◌⊑◌}
use Rattle.value.proofs.Rational.{⊑_trans, ⊑_refl}
use Rattle.language.proofs.Outcome.{some-injective}
use Rattle.value.specs.declared.Value.{Value}
use Rattle.value.specs.Decimal.{zero_value, is_at_most}
use Rattle.language.specs.Numbering.{Fact, bound, row, Entry, bound_at, floor_for, picked, extreme, is_at_least, largest, smallest}
use Rattle.value.proofs.Numbers.{is_at_most-yes, is_at_most-no}

-- ---- a floor on a bare variable stands where its bound stands

pub floor-bound : (f : Fact) (w : Option Value) (j : ℕ) (u : Value) → floor_for f w j ≡ Some u → (t : Value) × (bound_at f j ≡ Some t) × (w ≡ Some u)
floor-bound (bound i v) w j u e = go (eqb i j) e
  where
    go : (t : Bool) → cond t w None ≡ Some u → (b : Value) × (cond t (Some v) None ≡ Some b) × (w ≡ Some u)
    go true e = (v, refl, e)
    go false e = cc
floor-bound (row r v) w j u e = cc

pub bound-floor : (f : Fact) (w : Option Value) (j : ℕ) (t : Value) → bound_at f j ≡ Some t → floor_for f w j ≡ w
bound-floor (bound i v) w j t e = go (eqb i j) e
  where
    go : (b : Bool) → cond b (Some v) None ≡ Some t → cond b w None ≡ w
    go true e = refl
    go false e = cc
bound-floor (row r v) w j t e = cc

-- ---- the stated values

pub in-picked : (f : Entry → Option Value) (es : List Entry) (e : Entry) (v : Value) → In es e → f e ≡ Some v → In (picked f es) v
unfolding picked
in-picked f [] e v h s = absurd (in-nil e h)
in-picked f (d ∷ es) e v h s = go (f d) refl (in-cons d es e h) (λ k. in-picked f es e v k s)
  where
    go : (o : Option Value) → f d ≡ o → (d ≡ e) ⊎ In es e → (In es e → In (picked f es) v) → In (elim o [ Some v ↦ v ∷ picked f es | None ↦ picked f es ]) v
    go (Some w) fd (inl k) ih = let same : w ≡ v = some-injective (sym fd ∙ ap f k ∙ s) in record { place = 0; at = same }
    go (Some w) fd (inr k) ih = in-later w (picked f es) v (ih k)
    go None fd (inl k) ih = cc (sym fd ∙ ap f k ∙ s)
    go None fd (inr k) ih = ih k

pub picked-in : (f : Entry → Option Value) (es : List Entry) (v : Value) → In (picked f es) v → (e : Entry) × In es e × (f e ≡ Some v)
unfolding picked
picked-in f [] v h = absurd (in-nil v h)
picked-in f (d ∷ es) v h = go (f d) refl h (picked-in f es v)
  where
    Found : List Entry → Type 0
    Found l = (e : Entry) × In l e × (f e ≡ Some v)

    later : Found es → Found (d ∷ es)
    later r = (r.0, in-later d es r.0 r.1, r.2)

    first : (w : Value) → f d ≡ Some w → (w ≡ v) ⊎ In (picked f es) v → (In (picked f es) v → Found es) → Found (d ∷ es)
    first w fd (inl k) ih = (d, in-here d es, fd ∙ ap Some k)
    first w fd (inr k) ih = later (ih k)

    go : (o : Option Value) → f d ≡ o → In (elim o [ Some v ↦ v ∷ picked f es | None ↦ picked f es ]) v → (In (picked f es) v → Found es) → Found (d ∷ es)
    go (Some w) fd h ih = first w fd (in-cons w (picked f es) v h) ih
    go None fd h ih = later (ih h)

-- ---- the extreme one

extreme-in : (le : Value → Value → Bool) (l : List Value) (v : Value) → In (v ∷ l) (extreme le v l)
unfolding extreme
extreme-in le [] v = in-here v []
extreme-in le (u ∷ l) v = go (le v u) (extreme-in le l (cond (le v u) u v))
  where
    first : (t : Bool) → (cond t u v ≡ extreme le (cond (le v u) u v) l) ⊎ In l (extreme le (cond (le v u) u v) l) → In (v ∷ u ∷ l) (extreme le (cond (le v u) u v) l)
    first true (inl e) = record { place = 1; at = e }
    first false (inl e) = record { place = 0; at = e }
    first true (inr h) = in-later v (u ∷ l) _ (in-later u l _ h)
    first false (inr h) = in-later v (u ∷ l) _ (in-later u l _ h)

    go : (t : Bool) → In (cond t u v ∷ l) (extreme le (cond (le v u) u v) l) → In (v ∷ u ∷ l) (extreme le (cond (le v u) u v) l)
    go t h = first t (in-cons (cond t u v) l _ h)

-- where the test decides an order, no value passes the extreme one
module _ (le : Value → Value → Bool) (Le : Value → Value → Type 0) (yes : (v w : Value) → le v w ≡ true → Le v w) (no : (v w : Value) → le v w ≡ false → Le w v)
    (same : (v : Value) → Le v v) (trans : (u v w : Value) → Le u v → Le v w → Le u w) where
  extreme-all : (l : List Value) (v : Value) → Le v (extreme le v l) × ((w : Value) → In l w → Le w (extreme le v l))
  unfolding extreme
  extreme-all [] v = (same v, λ w h. absurd (in-nil w h))
  extreme-all (u ∷ l) v = go (le v u) refl (extreme-all l (cond (le v u) u v))
    where
      top : Value
      top = extreme le (cond (le v u) u v) l

      each : Le u top → ((w : Value) → In l w → Le w top) → (w : Value) → (u ≡ w) ⊎ In l w → Le w top
      each here ih w (inl e) = subst (λ x. Le x top) e here
      each here ih w (inr h) = ih w h

      go : (t : Bool) → le v u ≡ t → Le (cond t u v) top × ((w : Value) → In l w → Le w top) → Le v top × ((w : Value) → In (u ∷ l) w → Le w top)
      go true e r = (trans v u top (yes v u e) r.0, λ w h. each r.0 r.1 w (in-cons u l w h))
      go false e r = (r.0, λ w h. each (trans u v top (no v u e) r.0) r.1 w (in-cons u l w h))

  extreme-bounds : (l : List Value) (v w : Value) → In (v ∷ l) w → Le w (extreme le v l)
  extreme-bounds l v w h = go (in-cons v l w h)
    where
      go : (v ≡ w) ⊎ In l w → Le w (extreme le v l)
      go (inl e) = subst (λ x. Le x (extreme le v l)) e (extreme-all l v).0
      go (inr k) = (extreme-all l v).1 w k

-- the largest is one of them and none is above it; without any it is 0
pub largest-in : (l : List Value) → In l (largest l) ⊎ (((v : Value) → In l v → ⊥) × (largest l ≡ zero_value))
unfolding largest
largest-in [] = inr (λ v h. in-nil v h, refl)
largest-in (v ∷ l) = inl (extreme-in is_at_most l v)

pub largest-bounds : (l : List Value) (v : Value) → In l v → exactly v ⊑ exactly (largest l)
unfolding largest
largest-bounds [] v h = absurd (in-nil v h)
largest-bounds (w ∷ l) v h = extreme-bounds is_at_most (λ v w. exactly v ⊑ exactly w) is_at_most-yes is_at_most-no (λ v. ⊑_refl (exactly v)) (λ u v w. ⊑_trans) l w v h

-- the smallest is one of them and none is below it, where there are any
pub smallest-none : (l : List Value) → smallest l ≡ None → (v : Value) → In l v → ⊥
unfolding smallest
smallest-none [] e v h = in-nil v h
smallest-none (w ∷ l) e v h = cc

pub smallest-in : (l : List Value) (u : Value) → smallest l ≡ Some u → In l u
unfolding smallest
smallest-in [] u e = cc
smallest-in (w ∷ l) u e = subst (In (w ∷ l)) (some-injective e) (extreme-in is_at_least l w)

pub smallest-bounds : (l : List Value) (u : Value) → smallest l ≡ Some u → (v : Value) → In l v → exactly u ⊑ exactly v
unfolding smallest
smallest-bounds [] u e v h = cc
smallest-bounds (w ∷ l) u e v h =
    subst (λ x. exactly x ⊑ exactly v) (some-injective e)
    (extreme-bounds is_at_least (λ v w. exactly w ⊑ exactly v) (λ v w. is_at_most-yes w v) (λ v w. is_at_most-no w v) (λ v. ⊑_refl (exactly v)) (λ u v w h k. ⊑_trans k h) l w v h)
