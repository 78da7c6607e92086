-- The elements of a domain rise, the first index outermost; so none is reached twice, and what comes after one is one thing.
use mathlib.Core.Path.{◌≡◌, refl, sym, ◌∙◌, ap, subst, subst₂}
use mathlib.Core.Logic.{◌⊎◌, inl, inr}
use mathlib.Core.List.{List, [], ◌∷◌, ◌++◌}
use lib.IntN.{ℤ, pos, ◌+ℤ◌}
use lib.Signed.{◌≤ℤ◌}
use Rattle.language.specs.Outcome.{Outcome, done, refused, ◌>>=◌}
use Rattle.language.specs.Listed.{In}
use Rattle.language.proofs.Listed.{in-nil, in-append, in-cons, in-here, in-later}
use Rattle.language.specs.Scope.{Scope, bind}
use Rattle.language.specs.Syntax.{Spans, point, span}
use Rattle.language.specs.Evaluation.{Limits, limits_of, run_of, eval}
use Rattle.language.specs.Demand3.{Rising, Precedes}
use Rattle.language.proofs.Ordered.{rising-nil, rising-cons, rising-one, rising-append, rising-head, rising-tail, rising-range, not_itself}
use Rattle.elements.specs.Elements.{Walked, finished, stopped, reaches, reached, followed, chained, over_run, Behind, mapped, Here, in_front, elements_of}
use Rattle.elements.proofs.Walks.{behind-first}
use Rattle.elements.proofs.Levels.{run_is}

-- ---- walks one after another

module _ {A : Type 0} where
  -- what two walks reach: all, or only what the first does
  reached-followed : (w v : Walked A) → (reached (followed w v) ≡ reached w ++ reached v) ⊎ (reached (followed w v) ≡ reached w)
  unfolding reached followed
  reached-followed finished v = inl refl
  reached-followed (stopped n p) v = inr refl
  reached-followed (reaches a w) v = go (reached-followed w v)
    where
      go : (reached (followed w v) ≡ reached w ++ reached v) ⊎ (reached (followed w v) ≡ reached w)
          → (a ∷ reached (followed w v) ≡ a ∷ reached w ++ reached v) ⊎ (a ∷ reached (followed w v) ≡ a ∷ reached w)
      go (inl e) = inl (ap (λ l. a ∷ l) e)
      go (inr e) = inr (ap (λ l. a ∷ l) e)

  in-followed : (w v : Walked A) (a : A) → In (reached (followed w v)) a → In (reached w) a ⊎ In (reached v) a
  in-followed w v a h = go (reached-followed w v)
    where
      go : (reached (followed w v) ≡ reached w ++ reached v) ⊎ (reached (followed w v) ≡ reached w) → In (reached w) a ⊎ In (reached v) a
      go (inl e) = in-append (reached w) (reached v) a (subst (λ l. In l a) e h)
      go (inr e) = inl (subst (λ l. In l a) e h)

  in-chained : (w : ℤ → Walked A) (ks : List ℤ) (a : A) → In (reached (chained w ks)) a → (k : ℤ) × In ks k × In (reached (w k)) a
  unfolding chained reached
  in-chained w [] a h = absurd (in-nil a h)
  in-chained w (k ∷ ks) a h = go (in-followed (w k) (chained w ks) a h) (in-chained w ks a)
    where
      go : In (reached (w k)) a ⊎ In (reached (chained w ks)) a → (In (reached (chained w ks)) a → (j : ℤ) × In ks j × In (reached (w j)) a) → (j : ℤ) × In (k ∷ ks) j × In (reached (w j)) a
      go (inl x) ih = (k, in-here k ks, x)
      go (inr x) ih = let (j, i, y) = ih x in (j, in-later k ks j i, y)

  behind-in : (w : Walked A) (a : A) (v : Walked A) → Behind w a v → In (reached w) a
  unfolding reached
  behind-in finished a v h = absurd h
  behind-in (stopped n p) a v h = absurd h
  behind-in (reaches b w) a v (inl h) = record { place = 0; at = h.0 }
  behind-in (reaches b w) a v (inr h) = in-later b (reached w) a (behind-in w a v h)

  module _ {R : A → A → Type 0} where
    rising-followed : (w v : Walked A) → Rising R (reached w) → Rising R (reached v) → ((a b : A) → In (reached w) a → In (reached v) b → R a b) → Rising R (reached (followed w v))
    rising-followed w v x y across = go (reached-followed w v)
      where
        go : (reached (followed w v) ≡ reached w ++ reached v) ⊎ (reached (followed w v) ≡ reached w) → Rising R (reached (followed w v))
        go (inl e) = subst (Rising R) (sym e) (rising-append (reached w) (reached v) x y across)
        go (inr e) = subst (Rising R) (sym e) x

    rising-chained : (w : ℤ → Walked A) (ks : List ℤ) → Rising (λ j k. (j +ℤ pos 1) ≤ℤ k) ks → ((k : ℤ) → Rising R (reached (w k)))
        → ((j k : ℤ) → (j +ℤ pos 1) ≤ℤ k → (a b : A) → In (reached (w j)) a → In (reached (w k)) b → R a b) → Rising R (reached (chained w ks))
    unfolding chained reached
    rising-chained w [] r each across = rising-nil
    rising-chained w (k ∷ ks) r each across =
        rising-followed (w k) (chained w ks) (each k) (rising-chained w ks (rising-tail k ks r) each across)
        (λ a b h i. let (j, l, x) = in-chained w ks b i in across k j (rising-head k ks r j l) a b h x)

    -- what comes after a thing is one thing
    pub behind-once : (w : Walked A) → Rising R (reached w) → ((a : A) → R a a → ⊥) → (a : A) (u v : Walked A) → Behind w a u → Behind w a v → u ≡ v
    unfolding reached
    behind-once finished r apart a u v h i = absurd h
    behind-once (stopped n p) r apart a u v h i = absurd h
    behind-once (reaches b w) r apart a u v (inl h) (inl i) = sym h.1 ∙ i.1
    behind-once (reaches b w) r apart a u v (inl h) (inr i) = absurd (apart a (subst (λ c. R c a) h.0 (rising-head b (reached w) r a (behind-in w a v i))))
    behind-once (reaches b w) r apart a u v (inr h) (inl i) = absurd (apart a (subst (λ c. R c a) i.0 (rising-head b (reached w) r a (behind-in w a u h))))
    behind-once (reaches b w) r apart a u v (inr h) (inr i) = behind-once w (rising-tail b (reached w) r) apart a u v h i

    -- what is reached next comes later
    pub behind-rises : (w : Walked A) → Rising R (reached w) → (a b : A) (u v : Walked A) → Behind w a u → u ≡ reaches b v → R a b
    unfolding reached
    behind-rises finished r a b u v h e = absurd h
    behind-rises (stopped n p) r a b u v h e = absurd h
    behind-rises (reaches c w) r a b u v (inl h) e =
        subst (λ z. R z b) h.0 (rising-head c (reached w) r b (behind-in w b v (behind-first w v b (h.1 ∙ e))))
    behind-rises (reaches c w) r a b u v (inr h) e = behind-rises w (rising-tail c (reached w) r) a b u v h e

-- ---- elements

abbrev pub Sooner : Here → Here → Type 0
Sooner g h = Precedes g.element h.element

-- an element behind its first number
front : (k : ℤ) (w : Walked Here) (h : Here) → In (reached (mapped (in_front k) w)) h → (g : Here) × In (reached w) g × (in_front k g ≡ h)
unfolding reached mapped
front k finished h i = absurd (in-nil h i)
front k (stopped n p) h i = absurd (in-nil h i)
front k (reaches a w) h i = go (in-cons (in_front k a) (reached (mapped (in_front k) w)) h i) (front k w h)
  where
    go : (in_front k a ≡ h) ⊎ In (reached (mapped (in_front k) w)) h → (In (reached (mapped (in_front k) w)) h → (g : Here) × In (reached w) g × (in_front k g ≡ h))
        → (g : Here) × In (a ∷ reached w) g × (in_front k g ≡ h)
    go (inl e) ih = (a, in-here a (reached w), e)
    go (inr x) ih = let (g, y, e) = ih x in (g, in-later a (reached w) g y, e)

rising-front : (k : ℤ) (w : Walked Here) → Rising Sooner (reached w) → Rising Sooner (reached (mapped (in_front k) w))
unfolding reached mapped
rising-front k finished r = rising-nil
rising-front k (stopped n p) r = rising-nil
rising-front k (reaches a w) r =
    rising-cons (in_front k a) (reached (mapped (in_front k) w))
    (λ h i. let (g, x, e) = front k w h i in subst (Sooner (in_front k a)) e (inr (refl, rising-head a (reached w) r g x)))
    (rising-front k w (rising-tail a (reached w) r))

-- at a smaller first number
sooner-first : (w v : Walked Here) (j k : ℤ) → (j +ℤ pos 1) ≤ℤ k → (a b : Here) → In (reached (mapped (in_front j) w)) a → In (reached (mapped (in_front k) v)) b → Sooner a b
sooner-first w v j k o a b h i =
    let (x, _, e) = front j w a h in
    let (y, _, f) = front k v b i in
    subst₂ Sooner e f (inl o)

pub elements-rise : (d : Spans) (s : Scope) → Rising Sooner (reached (elements_of d s))
unfolding elements_of reached over_run
elements-rise point s = rising-one (record { scope = s; element = [] })
elements-rise (span i f g q d) s = limits (limits_of (eval f s) (eval g s)) λ k. rising-front k (elements_of d (bind i k s)) (elements-rise d (bind i k s))
  where
    w : ℤ → Walked Here
    w k = mapped (in_front k) (elements_of d (bind i k s))

    running : (l : Limits) (o : Outcome (List ℤ)) → run_of l i s q ≡ o → ((k : ℤ) → Rising Sooner (reached (w k))) → Rising Sooner (reached (over_run o w))
    running l (done ks) e ih =
        rising-chained w ks (subst (Rising _) (run_is l i s q ks e) (rising-range l.lower l.upper)) ih
        (λ j k. sooner-first (elements_of d (bind i j s)) (elements_of d (bind i k s)) j k)
    running l (refused n p) e ih = rising-nil

    limits : (o : Outcome Limits) → ((k : ℤ) → Rising Sooner (reached (w k))) → Rising Sooner (reached (over_run (o >>= λ l. run_of l i s q) w))
    limits (done l) ih = running l (run_of l i s q) refl ih
    limits (refused n p) ih = rising-nil

-- so what comes after an element is one thing
pub after_one : (d : Spans) (s : Scope) (h : Here) (u v : Walked Here) → Behind (elements_of d s) h u → Behind (elements_of d s) h v → u ≡ v
after_one d s = behind-once (elements_of d s) (elements-rise d s) (λ h. not_itself h.element)
