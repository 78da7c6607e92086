-- Laws of the lines of things that are numbered, thing by thing.
use mathlib.Core.Path.{◌≡◌, refl, sym, ◌∙◌, ap}
use mathlib.Core.List.{List, [], ◌∷◌}
use Prim.Native.Nat.{ℕ, zero, suc, ◌+◌}
use native.Mathlib.Omega.{arith}
use lib.ListN.{length}
use Rattle.language.specs.All.{All}
use Rattle.language.proofs.All.{all_left, all_right}
use Rattle.language.specs.Listed.{At}
use Rattle.language.specs.Listing.{Line}
use Rattle.listing.specs.Sheet.Told.{concat}

module _ {A : Type 0} (f : ℕ → A → List Line) where
  -- those of each, from number n on
  unfoldable pub groups : ℕ → List A → List (List Line)
  groups n [] = []
  groups n (a ∷ l) = f n a ∷ groups (suc n) l

  pub groups-length : (n : ℕ) (l : List A) → length (groups n l) ≡ length l
  unfolding groups
  groups-length n [] = refl
  groups-length n (a ∷ l) = ap suc (groups-length (suc n) l)

  pub group_at : (n : ℕ) (l : List A) (i : ℕ) (ks : List Line) → At (groups n l) i ks → (a : A) × At l i a × (ks ≡ f (n + i) a)
  unfolding groups
  group_at n [] i ks h = absurd h
  group_at n (a ∷ l) zero ks h = let x : n ≡ n + 0 = omega arith in (a, refl, sym h ∙ ap (λ k. f k a) x)
  group_at n (a ∷ l) (suc i) ks h =
      let r = group_at (suc n) l i ks h in
      let x : suc n + i ≡ n + suc i = omega arith in
      (r.0, r.1, r.2 ∙ ap (λ k. f k r.0) x)

-- what holds of all lines holds of those of each
pub all_of : (P : Line → Type 0) (kss : List (List Line)) (i : ℕ) (ks : List Line) → At kss i ks → All P (concat kss) → All P ks
unfolding concat
all_of P [] i ks h a = absurd h
all_of P (k ∷ kss) zero ks h a = rw (sym h) (all_left P k (concat kss) a)
all_of P (k ∷ kss) (suc i) ks h a = all_of P kss i ks h (all_right P k (concat kss) a)
