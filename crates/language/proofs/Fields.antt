-- Fields parted by tabs, with a line feed at the end, give back the fields.
use mathlib.Core.Path.{◌≡◌, refl, sym, ◌∙◌, ap, subst}
use mathlib.Core.Logic.{◌≢◌}
use mathlib.Core.List.{List, [], ◌∷◌, ◌++◌, append_assoc, head-eq_of_cons-eq, tail-eq_of_cons-eq}
use Prim.Native.Nat.{ℕ, ◌<◌}
use native.Mathlib.Omega.{arith}
use lib.Dec.{lit<}
use Rattle.rules.specs.Characters.{tab, line_feed}
use Rattle.language.specs.All.{All}
use Rattle.language.proofs.All.{all_append, all-weaken}
use Rattle.language.specs.Proper.{Visible, Text}
use Rattle.language.specs.Listing.{fields}

-- a field has ended: a tab or a line feed follows
abbrev Ended : List ℕ → Type 0
Ended [] = ⊥
Ended (b ∷ r) = b < 32

fields-ended : (fs : List (List ℕ)) (r : List ℕ) → Ended (fields fs ++ r)
unfolding fields
fields-ended [] r = lit< tt
fields-ended (f ∷ fs) r = lit< tt

not-ended : (b : ℕ) (f r t : List ℕ) → Text (b ∷ f) → Ended r → r ≡ (b ∷ f) ++ t → ⊥
not-ended b f r t h k e = let l : b < 32 = subst Ended e k in omega (arith, h.0.least)

-- a field ends where the first tab or line feed stands
field-once : (f g r t : List ℕ) → Text f → Text g → Ended r → Ended t → f ++ r ≡ g ++ t → (f ≡ g) × (r ≡ t)
field-once [] [] r t hf hg hr ht e = (refl, e)
field-once [] (b ∷ g) r t hf hg hr ht e = absurd (not-ended b g r t hg hr e)
field-once (b ∷ f) [] r t hf hg hr ht e = absurd (not-ended b f t r hf ht (sym e))
field-once (b ∷ f) (c ∷ g) r t hf hg hr ht e =
    let k = field-once f g r t hf.1 hg.1 hr ht (tail-eq_of_cons-eq e) in
    (λ i. head-eq_of_cons-eq e i ∷ k.0 i, k.1)

-- the fields of a line, and what follows it
pub fields-once : (fs gs : List (List ℕ)) (r t : List ℕ) → All Text fs → All Text gs → fields fs ++ r ≡ fields gs ++ t → (fs ≡ gs) × (r ≡ t)
unfolding fields
fields-once [] [] r t hf hg e = (refl, tail-eq_of_cons-eq e)
fields-once [] (g ∷ gs) r t hf hg e = absurd (let z : line_feed ≡ tab = head-eq_of_cons-eq e in omega arith)
fields-once (f ∷ fs) [] r t hf hg e = absurd (let z : tab ≡ line_feed = head-eq_of_cons-eq e in omega arith)
fields-once (f ∷ fs) (g ∷ gs) r t hf hg e =
    let e' : f ++ (fields fs ++ r) ≡ g ++ (fields gs ++ t) = sym (append_assoc f (fields fs) r) ∙ tail-eq_of_cons-eq e ∙ append_assoc g (fields gs) t in
    let k = field-once f g (fields fs ++ r) (fields gs ++ t) hf.0 hg.0 (fields-ended fs r) (fields-ended gs t) e' in
    let l = fields-once fs gs r t hf.1 hg.1 k.1 in
    (λ i. k.0 i ∷ l.0 i, l.1)

-- ---- one line feed, at the end

abbrev pub NoLineFeed : ℕ → Type 0
NoLineFeed b = b ≢ line_feed

pub text-line : (f : List ℕ) → Text f → All NoLineFeed f
text-line f h = all-weaken Visible NoLineFeed (λ b v. omega (arith, v.least)) f h

pub fields-line : (fs : List (List ℕ)) → All Text fs → (s : List ℕ) × (fields fs ≡ s ++ (line_feed ∷ [])) × All NoLineFeed s
unfolding fields
fields-line [] h = ([], refl, tt)
fields-line (f ∷ fs) h =
    let k = fields-line fs h.1 in (
      tab ∷ (f ++ k.0),
      ap (λ r. tab ∷ r) (ap (λ r. f ++ r) k.1 ∙ sym (append_assoc f k.0 (line_feed ∷ []))),
      (omega arith, all_append NoLineFeed f k.0 (text-line f h.0) k.2),
    )
