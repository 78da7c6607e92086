-- Laws of `strip`: what follows a word, and that a word is not seen where another stands.
use Rattle.std.specs.Prelude.{Option, Some, None}
use mathlib.Core.Path.{◌≡◌, refl, sym, ◌∙◌, ap}
use mathlib.Core.Logic.{◌≢◌}
use mathlib.Core.Bool.{Bool, true, false}
use mathlib.Core.List.{List, [], ◌∷◌, ◌++◌, append_assoc, head-eq_of_cons-eq, tail-eq_of_cons-eq}
use Prim.Native.Nat.{ℕ, zero, suc, ◌≤◌}
use native.Mathlib.Omega.{arith}
use borrow.Author.Tests.{eq-eqb, eqb-true}
use lib.Dec.{eqb}
use Rattle.rules.specs.Characters.{bytes, space}
use Rattle.rules.specs.Limits.{mantissa_limit}
use Rattle.value.specs.Printed.{digits, natural}
use Rattle.language.specs.All.{All}
use Rattle.language.proofs.Outcome.{some-injective}
use Rattle.language.proofs.Figures.{natural-once}
use Rattle.mps.specs.Export.{named, cell_head, objective_head}
use Rattle.mps.specs.Reading.{strip}

pub strip-own : (w r : List ℕ) → strip w (w ++ r) ≡ Some r
unfolding strip
strip-own [] r = refl
strip-own (b ∷ w) r = rw (eq-eqb b b refl, strip) (strip-own w r)

-- what both begin with
strip-same : (w u r : List ℕ) → strip (w ++ u) (w ++ r) ≡ strip u r
unfolding strip
strip-same [] u r = refl
strip-same (b ∷ w) u r = rw (eq-eqb b b refl, strip) (strip-same w u r)

pub strip-is : (w l r : List ℕ) → strip w l ≡ Some r → l ≡ w ++ r
unfolding strip
strip-is [] l r e = some-injective e
strip-is (b ∷ w) [] r e = cc
strip-is (b ∷ w) (c ∷ l) r e = go (eqb b c) refl (strip-is w l r) e
  where
    go : (t : Bool) → eqb b c ≡ t → (strip w l ≡ Some r → l ≡ w ++ r) → elim t as (λ _. Option (List ℕ)) [ true ↦ strip w l | false ↦ None ] ≡ Some r → c ∷ l ≡ b ∷ (w ++ r)
    go true p h e = let q = eqb-true b c p in let k = h e in cc
    go false p h e = cc

strip-none : (w l : List ℕ) → ((r : List ℕ) → l ≡ w ++ r → ⊥) → strip w l ≡ None
strip-none w l h = go (strip w l) refl
  where
    go : (o : Option (List ℕ)) → strip w l ≡ o → strip w l ≡ None
    go None e = e
    go (Some r) e = absurd (h r (strip-is w l r e))

-- ---- a number and the space after it

abbrev NoSpace : ℕ → Type 0
NoSpace b = b ≢ space

digits-spaceless : (k n : ℕ) → All NoSpace (digits k n)
unfolding digits
digits-spaceless zero n = tt
digits-spaceless (suc k) n = (omega arith, digits-spaceless k n)

natural-spaceless : (n : ℕ) → All NoSpace (natural n)
unfolding natural
natural-spaceless n = digits-spaceless _ n

-- a field ends where the first space stands
field-once : (f g r t : List ℕ) → All NoSpace f → All NoSpace g → f ++ (space ∷ r) ≡ g ++ (space ∷ t) → f ≡ g
field-once [] [] r t hf hg e = refl
field-once [] (c ∷ g) r t hf hg e = absurd (hg.0 (sym (head-eq_of_cons-eq e)))
field-once (b ∷ f) [] r t hf hg e = absurd (hf.0 (head-eq_of_cons-eq e))
field-once (b ∷ f) (c ∷ g) r t hf hg e = let k = field-once f g r t hf.1 hg.1 (tail-eq_of_cons-eq e) in λ i. head-eq_of_cons-eq e i ∷ k i

number-apart : (m n : ℕ) (r : List ℕ) → m ≤ mantissa_limit → n ≤ mantissa_limit → m ≢ n → strip (natural m ++ (space ∷ [])) (natural n ++ (space ∷ r)) ≡ None
number-apart m n r hm hn h =
    strip-none _ _ λ t e.
    h (natural-once m n hm hn (sym (field-once (natural n) (natural m) r t (natural-spaceless n) (natural-spaceless m) (e ∙ append_assoc (natural m) (space ∷ []) t))))

-- ---- named lines

-- the same name and number
named-same : (w : List ℕ) (n : ℕ) (u v r : List ℕ) → strip (named w n u) (named w n v ++ r) ≡ strip u (v ++ r)
unfolding named
named-same w n u v r = rw (append_assoc w, append_assoc (natural n)) (strip-same w _ _ ∙ strip-same (natural n) u (v ++ r))

module _ (j m : ℕ) (r : List ℕ) where
  -- another row of the same variable
  pub cell_other : (n : ℕ) → m ≤ mantissa_limit → n ≤ mantissa_limit → m ≢ n → strip (cell_head j m) (cell_head j n ++ r) ≡ None
  unfolding cell_head named strip
  cell_other n hm hn h = named-same (bytes " C") j _ _ r ∙ ap (strip (natural m ++ bytes " ")) (append_assoc (natural n) (bytes " ") r) ∙ number-apart m n r hm hn h

  -- its objective
  pub cell-objective : strip (cell_head j m) (objective_head j ++ r) ≡ None
  unfolding cell_head objective_head named strip
  cell-objective = named-same (bytes " C") j _ _ r
