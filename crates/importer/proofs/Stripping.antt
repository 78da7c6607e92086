-- Words and numbers that the text is stripped of.
use Rattle.std.specs.Prelude.{Option, Some, None}
use mathlib.Core.Path.{◌≡◌, refl, sym, ◌∙◌, ap}
use mathlib.Core.Bool.{Bool, true, false}
use mathlib.Core.List.{List, [], ◌∷◌, ◌++◌, append_assoc}
use Prim.Native.Nat.{ℕ, ◌+◌, ◌-◌, ◌≤◌}
use native.Mathlib.Omega.{arith}
use lib.Dec.{eqb}
use lib.ListN.{length, take, drop, length-drop}
use lib.Seq.{drop-drop}
use Rattle.rules.specs.Characters.{bytes}
use Rattle.mps.specs.Export.{named}
use Rattle.mps.specs.Reading.{strip}
use Rattle.value.specs.Printed.{natural}
use Rattle.importer.specs.Sections.{head_of}
use Rattle.importer.specs.Steps.{Strips}
use Rattle.value.proofs.Reading.{part-rest}
use Rattle.mps.proofs.Stripped.{strip-own, strip-is}
use Rattle.std.specs.List.{starts_with}
use Rattle.std.proofs.lemmas.Bool.Decides.{Decides-eqb}
use Rattle.std.proofs.lemmas.Slice.Eq.{starts_is}

-- ---- one word

-- the text from `at` on starts with the word, or it does not
module _ (w text : List ℕ) (at : ℕ) (t : Bool) (e : t ≡ starts_with eqb (take (length text - at) (drop at text)) w) where
  tested : t ≡ starts_with eqb (drop at text) w
  tested = rw part-rest at e

  pub strip-none : t ≡ false → Strips w text at None
  strip-none f = record { is = go (strip w (drop at text)) refl; inside = tt }
    where
      go : (o : Option (List ℕ)) → strip w (drop at text) ≡ o → strip w (drop at text) ≡ None
      go None g = g
      go (Some r) g = absurd (let z : true ≡ false = sym ((starts_is Decides-eqb (drop at text) w t tested).1 r (strip-is w (drop at text) r g)) ∙ f in cc)

  pub strip-fits : at ≤ length text → length w ≤ length (take (length text - at) (drop at text)) → at + length w ≤ length text
  strip-fits h g = omega (arith, rw part-rest at g, length-drop at text)

  pub strip-some : t ≡ true → at + length w ≤ length text → Strips w text at (Some (at + length w))
  strip-some f h =
      let z : drop at text ≡ w ++ drop (length w) (drop at text) = (starts_is Decides-eqb (drop at text) w t tested).0 f in
      record { is = ap (strip w) z ∙ strip-own w (drop (length w) (drop at text)) ∙ ap Some (drop-drop (length w) at text); inside = h }

-- ---- one word after the other

unfoldable after : List ℕ → Option (List ℕ) → Option (List ℕ)
after b None = None
after b (Some l) = strip b l

strip-append : (a b l : List ℕ) → strip (a ++ b) l ≡ after b (strip a l)
unfolding strip after
strip-append [] b l = refl
strip-append (x ∷ a) b [] = refl
strip-append (x ∷ a) b (y ∷ l) = go (eqb x y) (strip-append a b l)
  where
    go : (t : Bool) → strip (a ++ b) l ≡ after b (strip a l)
        → elim t as (λ _. Option (List ℕ)) [ true ↦ strip (a ++ b) l | false ↦ None ]
        ≡ after b (elim t as (λ _. Option (List ℕ)) [ true ↦ strip a l | false ↦ None ])
    go true e = e
    go false e = refl

module _ {a text : List ℕ} {at : ℕ} {m : Option ℕ} (s : Strips a text at m) where
  pub move-inside : {n : ℕ} → m ≡ Some n → n ≤ length text
  move-inside e = rw e at s.inside

  pub then-none : (b : List ℕ) → m ≡ None → Strips (a ++ b) text at None
  unfolding after
  then-none b e = record { is = strip-append a b (drop at text) ∙ rw (s.is, e); inside = tt }

  pub then_some : (b : List ℕ) {n : ℕ} {r : Option ℕ} → m ≡ Some n → Strips b text n r → Strips (a ++ b) text at r
  unfolding after
  then_some b e t = record { is = strip-append a b (drop at text) ∙ rw (s.is, e) t.is; inside = t.inside }

-- ---- a name with its number

module _ (w : List ℕ) (n : ℕ) (t : List ℕ) where
  pub named_none : {text : List ℕ} {at : ℕ} {m : Option ℕ} → Strips w text at m → m ≡ None → Strips (named w n t) text at None
  unfolding named
  named_none s e = then-none s (natural n ++ t) e

  pub named-number : {text : List ℕ} {at : ℕ} {m k : Option ℕ} {x : ℕ} → Strips w text at m → m ≡ Some x → Strips (natural n) text x k → k ≡ None → Strips (named w n t) text at None
  unfolding named
  named-number s e u f = then_some s (natural n ++ t) e (then-none u t f)

  pub named-all : {text : List ℕ} {at : ℕ} {m k r : Option ℕ} {x y : ℕ} → Strips w text at m → m ≡ Some x → Strips (natural n) text x k → k ≡ Some y → Strips t text y r → Strips (named w n t) text at r
  unfolding named
  named-all s e u f v = then_some s (natural n ++ t) e (then_some u t f v)

-- ---- the start of a coefficient's line

module _ (j : ℕ) (w : List ℕ) (n : ℕ) where
  head-is : named (bytes " C") j w ++ (natural n ++ bytes " ") ≡ head_of j w n
  unfolding named head_of
  head-is = ap (λ (l : List ℕ). bytes " C" ++ l) (append_assoc (natural j) w (natural n ++ bytes " "))

  module _ {text : List ℕ} {at : ℕ} {m : Option ℕ} (s : Strips (named (bytes " C") j w) text at m) where
    pub head-none : m ≡ None → Strips (head_of j w n) text at None
    head-none e = rw head-is at (then-none s (natural n ++ bytes " ") e)

    pub head-number : {k : Option ℕ} {x : ℕ} → m ≡ Some x → Strips (natural n) text x k → k ≡ None → Strips (head_of j w n) text at None
    head-number e u f = rw head-is at (then_some s (natural n ++ bytes " ") e (then-none u (bytes " ") f))

    pub head-all : {k r : Option ℕ} {x y : ℕ} → m ≡ Some x → Strips (natural n) text x k → k ≡ Some y → Strips (bytes " ") text y r → Strips (head_of j w n) text at r
    head-all e u f v = rw head-is at (then_some s (natural n ++ bytes " ") e (then_some u (bytes " ") f v))
