-- A step at each element of a domain: what it yields comes from the written elements, one to one and in their order.
use mathlib.Core.Path.{◌≡◌, refl, sym, ◌∙◌, ap, subst, subst₂}
use mathlib.Core.Logic.{◌⊎◌, inl, inr}
use mathlib.Core.List.{List, [], ◌∷◌}
use Prim.Native.Nat.{ℕ, ◌<◌}
use lib.IntN.{ℤ}
use Rattle.language.specs.Listed.{In}
use Rattle.language.proofs.Listed.{in-nil, in-cons, in-here}
use Rattle.language.specs.Outcome.{Outcome, done}
use Rattle.language.proofs.Outcome.{after}
use Rattle.language.specs.Scope.{Scope, bind}
use Rattle.language.specs.Syntax.{Formula, Spans, point, span}
use Rattle.language.specs.Evaluation.{limits_of, run_of, eval}
use Rattle.language.specs.Written.{value, run_between, InDomain, bind_all}
use Rattle.language.specs.Demand3.{Rising, Precedes}
use Rattle.language.proofs.Evaluated.{eval-done, run-written, run-between, run-rising}
use Rattle.language.proofs.Listwise.{collect, listed}
use Rattle.language.proofs.Ordered.{rising-one}
use Rattle.language.proofs.Collected.{collect-in, in-collect, rising-collect}

-- what is done at an element
abbrev pub Step : Type 0 → Type 0
Step B = Scope → List ℤ → Outcome (List B)

module _ {B : Type 0} where
  abbrev deeper : ℤ → Step B → Step B
  deeper k f = λ t e. f t (k ∷ e)

  -- one level: the run is the one between the written limits
  level : {C : Type 0} (i : ℕ) (lower upper : Formula) (p : ℕ) (d : Spans) (s : Scope) (f : Step B) (bs : List B) → listed (span i lower upper p d) s f ≡ done bs
      → (collect (λ k. listed d (bind i k s) (deeper k f)) (run_between (value lower s) (value upper s)) ≡ done bs → C) → C
  unfolding listed
  level i lower upper p d s f bs e then =
      after (limits_of (eval lower s) (eval upper s)) _ bs e λ l le e.
      after (run_of l i s p) _ bs e λ ks r e.
      then (rw (run-written (eval lower s) (eval upper s) l i s p ks (λ u h. eval-done lower s u h) (λ u h. eval-done upper s u h) le r) e)

  -- an entry of the result comes from an element
  pub record At-element (d : Spans) (s : Scope) (f : Step B) (b : B) : Type 0 where
    pub element : List ℤ
    pub inside : InDomain d s element
    pub result : List B
    pub gives : f (bind_all d element s) element ≡ done result
    pub holds : In result b

  pub over-in : (d : Spans) (s : Scope) (f : Step B) (bs : List B) → listed d s f ≡ done bs → (b : B) → In bs b → At-element d s f b
  unfolding listed bind_all
  over-in point s f bs e b h = record { element = []; inside = tt; result = bs; gives = e; holds = h }
  over-in (span n lower upper p d) s f bs e b h =
      level n lower upper p d s f bs e λ e.
      let r = collect-in _ (run_between (value lower s) (value upper s)) bs e b h in
      let k = r.source in
      let l = (run-between (value lower s) (value upper s) k).0 r.listed in
      let i = over-in d (bind n k s) (deeper k f) r.result r.gives b r.holds in
      record {
        element = k ∷ i.element;
        inside = (l.0, l.1, i.inside);
        result = i.result;
        gives = i.gives;
        holds = i.holds;
      }

  -- and each element's entries stand in the result
  pub in-over : (d : Spans) (s : Scope) (f : Step B) (bs : List B) → listed d s f ≡ done bs → (e : List ℤ) → InDomain d s e
      → (cs : List B) × (f (bind_all d e s) e ≡ done cs) × ((b : B) → In cs b → In bs b)
  unfolding listed bind_all
  in-over point s f bs h [] w = (bs, h, λ b m. m)
  in-over point s f bs h (k ∷ e) w = absurd w
  in-over (span n lower upper p d) s f bs h [] w = absurd w
  in-over (span n lower upper p d) s f bs h (k ∷ e) w =
      level n lower upper p d s f bs h λ h.
      let r = in-collect _ (run_between (value lower s) (value upper s)) bs h k ((run-between (value lower s) (value upper s) k).1 (w.0, w.1)) in
      let i = in-over d (bind n k s) (deeper k f) r.0 r.1 e w.2 in
      (i.0, i.1, λ b m. r.2 b (i.2 b m))

  -- in the order of the elements, the first index outermost
  pub rising-over : {R : B → B → Type 0} (d : Spans) (s : Scope) (f : Step B) (bs : List B) → listed d s f ≡ done bs
      → ((t : Scope) (e : List ℤ) (cs : List B) → f t e ≡ done cs → Rising R cs)
      → ((t t' : Scope) (e e' : List ℤ) (cs cs' : List B) (b b' : B) → f t e ≡ done cs → f t' e' ≡ done cs' → In cs b → In cs' b' → Precedes e e' → R b b')
      → Rising R bs
  unfolding listed
  rising-over point s f bs e single before = single s [] bs e
  rising-over (span n lower upper p d) s f bs e single before =
      level n lower upper p d s f bs e λ e.
      rising-collect (λ k. listed d (bind n k s) (deeper k f)) _ bs e (run-rising (value lower s) (value upper s))
      (λ k cs g. rising-over d (bind n k s) (deeper k f) cs g (λ t e. single t (k ∷ e))
      (λ t t' e e' cs cs' b b' g g' m m' o. before t t' (k ∷ e) (k ∷ e') cs cs' b b' g g' m m' (inr (refl, o))))
      (λ k k' o cs cs' b b' g g' m m'.
      let i = over-in d (bind n k s) (deeper k f) cs g b m in
      let j = over-in d (bind n k' s) (deeper k' f) cs' g' b' m' in
      before _ _ (k ∷ i.element) (k' ∷ j.element) i.result j.result b b' i.gives j.gives i.holds j.holds (inl o))

-- ---- one thing at each element of each of a list of domains

pub only : {A : Type 0} (a b : A) (l : List A) → a ∷ [] ≡ l → In l b → a ≡ b
only a b l e h = go (in-cons a [] b (rw e h))
  where
    go : (a ≡ b) ⊎ In [] b → a ≡ b
    go (inl k) = k
    go (inr k) = absurd (in-nil b k)

-- a step makes one thing, which has the number of its domain and its element
pub record Walk (A B : Type 0) : Type 0 where
  pub domain : A → Spans
  pub step : A → Step B
  pub key : A → ℕ
  pub number : B → ℕ
  pub element : B → List ℤ
  pub one : (a : A) (t : Scope) (e : List ℤ) (l : List B) → step a t e ≡ done l → (b : B) × (b ∷ [] ≡ l) × (key a ≡ number b) × (e ≡ element b)

-- by number, then by element
abbrev pub Before : {A B : Type 0} → Walk A B → B → B → Type 0
Before w b c = (w.number b < w.number c) ⊎ ((w.number b ≡ w.number c) × Precedes (w.element b) (w.element c))

module _ {A B : Type 0} (w : Walk A B) (s : Scope) where
  abbrev pub walk : List A → Outcome (List B)
  walk = collect (λ a. listed (w.domain a) s (w.step a))

  record Tells (a : A) (e : List ℤ) (l : List B) (b : B) : Type 0 where
    only-it : b ∷ [] ≡ l
    number_is : w.key a ≡ w.number b
    element-is : e ≡ w.element b

  tells : (a : A) (t : Scope) (e : List ℤ) (l : List B) (b : B) → w.step a t e ≡ done l → In l b → Tells a e l b
  tells a t e l b h m =
      let o = w.one a t e l h in
      let same : o.0 ≡ b = only o.0 b l o.1 m in
      record { only-it = ap (λ x. x ∷ []) (sym same) ∙ o.1; number_is = o.2 ∙ ap w.number same; element-is = o.3 ∙ ap w.element same }

  -- each of them comes from an element
  pub record Walked (l : List A) (b : B) : Type 0 where
    pub source : A
    pub listed : In l source
    pub number_is : w.key source ≡ w.number b
    pub inside : InDomain (w.domain source) s (w.element b)
    pub gives : w.step source (bind_all (w.domain source) (w.element b) s) (w.element b) ≡ done (b ∷ [])

  pub walk-in : (l : List A) (bs : List B) → walk l ≡ done bs → (b : B) → In bs b → Walked l b
  walk-in l bs e b h =
      let r = collect-in (λ a. listed (w.domain a) s (w.step a)) l bs e b h in
      let a = r.source in
      let i = over-in (w.domain a) s (w.step a) r.result r.gives b r.holds in
      let t = tells a (bind_all (w.domain a) i.element s) i.element i.result b i.gives i.holds in
      record {
        source = a;
        listed = r.listed;
        number_is = t.number_is;
        inside = subst (InDomain (w.domain a) s) t.element-is i.inside;
        gives = subst (λ k. w.step a (bind_all (w.domain a) k s) k ≡ done (b ∷ [])) t.element-is (i.gives ∙ ap done (sym t.only-it));
      }

  -- and each element has one
  pub in-walk : (l : List A) (bs : List B) → walk l ≡ done bs → (a : A) → In l a → (e : List ℤ) → InDomain (w.domain a) s e
      → (b : B) × (w.step a (bind_all (w.domain a) e s) e ≡ done (b ∷ [])) × In bs b
  in-walk l bs g a h e k =
      let r = in-collect (λ a. listed (w.domain a) s (w.step a)) l bs g a h in
      let i = in-over (w.domain a) s (w.step a) r.0 r.1 e k in
      let o = w.one a (bind_all (w.domain a) e s) e i.0 i.1 in
      (o.0, i.1 ∙ ap done (sym o.1), r.2 o.0 (i.2 o.0 (subst (λ l. In l o.0) o.1 (in-here o.0 []))))

  -- in order, where the numbers rise
  pub rising-walk : (l : List A) (bs : List B) → walk l ≡ done bs → Rising (λ a b. w.key a < w.key b) l → Rising (Before w) bs
  rising-walk l bs e r =
      rising-collect (λ a. listed (w.domain a) s (w.step a)) l bs e r
      (λ a cs g. rising-over (w.domain a) s (w.step a) cs g
      (λ t e cs h. let o = w.one a t e cs h in subst (Rising _) o.1 (rising-one o.0))
      (λ t t' e e' cs cs' b b' h h' m m' p.
      let x = tells a t e cs b h m in
      let y = tells a t' e' cs' b' h' m' in
      inr (sym x.number_is ∙ y.number_is, subst₂ Precedes x.element-is y.element-is p)))
      (λ a a' o cs cs' b b' g g' m m'.
      let i = over-in (w.domain a) s (w.step a) cs g b m in
      let j = over-in (w.domain a') s (w.step a') cs' g' b' m' in
      let x = tells a _ i.element i.result b i.gives i.holds in
      let y = tells a' _ j.element j.result b' j.gives j.holds in
      inl (subst₂ ◌<◌ x.number_is y.number_is o))
