-- Laws of walks: one after another, what comes after a thing that is reached.
use mathlib.Core.Path.{◌≡◌, refl, sym, ◌∙◌, ap}
use mathlib.Core.Logic.{◌⊎◌, inl, inr}
use mathlib.Core.List.{List, [], ◌∷◌, ◌++◌}
use lib.IntN.{ℤ}
use Rattle.elements.specs.Elements.{Walked, finished, stopped, reaches, reached, ending, followed, chained, Behind, mapped}

module _ {A : Type 0} where
  -- ---- one after another

  pub followed-finished : (w : Walked A) → followed w finished ≡ w
  unfolding followed
  followed-finished finished = refl
  followed-finished (stopped n p) = refl
  followed-finished (reaches a w) = ap (reaches a) (followed-finished w)

  pub followed-assoc : (u v w : Walked A) → followed (followed u v) w ≡ followed u (followed v w)
  unfolding followed
  followed-assoc finished v w = refl
  followed-assoc (stopped n p) v w = refl
  followed-assoc (reaches a u) v w = ap (reaches a) (followed-assoc u v w)

  -- ---- what comes after

  -- what is reached first, and next
  pub behind-first : (w v : Walked A) (a : A) → w ≡ reaches a v → Behind w a v
  behind-first w v a e = rw e (inl (refl, refl))

  pub behind-next : (w u v : Walked A) (a b : A) → Behind w a u → u ≡ reaches b v → Behind w b v
  behind-next finished u v a b h e = absurd h
  behind-next (stopped n p) u v a b h e = absurd h
  behind-next (reaches c w) u v a b (inl h) e = inr (behind-first w v b (h.1 ∙ e))
  behind-next (reaches c w) u v a b (inr h) e = inr (behind-next w u v a b h e)

  -- the same as lists: what is reached up to a, a, and what comes after it
  pub behind-list : (w v : Walked A) (a : A) → Behind w a v → (l : List A) × (reached w ≡ l ++ (a ∷ reached v)) × (ending w ≡ ending v)
  unfolding reached ending
  behind-list finished v a h = absurd h
  behind-list (stopped n p) v a h = absurd h
  behind-list (reaches b w) v a (inl h) = ([], rw (h.0, h.1) refl, ap ending h.1)
  behind-list (reaches b w) v a (inr h) = let (l, e, f) = behind-list w v a h in (b ∷ l, ap (λ m. b ∷ m) e, f)

  pub record After (w v : Walked A) (a : A) (u : Walked A) : Type 0 where
    pub rest : Walked A
    pub behind : Behind w a rest
    pub joins : u ≡ followed rest v

  -- what comes after a thing in two walks
  pub behind-followed : (w v : Walked A) (a : A) (u : Walked A) → Behind (followed w v) a u → After w v a u ⊎ Behind v a u
  unfolding followed
  behind-followed finished v a u h = inr h
  behind-followed (stopped n p) v a u h = absurd h
  behind-followed (reaches b w) v a u (inl h) = inl (record { rest = w; behind = inl (h.0, refl); joins = sym h.1 })
  behind-followed (reaches b w) v a u (inr h) = go (behind-followed w v a u h)
    where
      go : After w v a u ⊎ Behind v a u → After (reaches b w) v a u ⊎ Behind v a u
      go (inl k) = inl (record { rest = k.rest; behind = inr k.behind; joins = k.joins })
      go (inr k) = inr k

module _ {A B : Type 0} (f : A → B) where
  pub mapped-followed : (w v : Walked A) → mapped f (followed w v) ≡ followed (mapped f w) (mapped f v)
  unfolding mapped followed
  mapped-followed finished v = refl
  mapped-followed (stopped n p) v = refl
  mapped-followed (reaches a w) v = ap (reaches (f a)) (mapped-followed w v)

  pub mapped-chained : (w : ℤ → Walked A) (ks : List ℤ) → mapped f (chained w ks) ≡ chained (λ k. mapped f (w k)) ks
  unfolding mapped chained
  mapped-chained w [] = refl
  mapped-chained w (k ∷ ks) = mapped-followed (w k) (chained w ks) ∙ ap (followed (mapped f (w k))) (mapped-chained w ks)

  pub mapped-reaches : (w : Walked A) (a : A) (v : Walked A) → w ≡ reaches a v → mapped f w ≡ reaches (f a) (mapped f v)
  unfolding mapped
  mapped-reaches w a v e = rw e

  pub mapped-behind : (w : Walked A) (a : A) (v : Walked A) → Behind w a v → Behind (mapped f w) (f a) (mapped f v)
  unfolding mapped
  mapped-behind finished a v h = absurd h
  mapped-behind (stopped n p) a v h = absurd h
  mapped-behind (reaches b w) a v (inl h) = inl (ap f h.0, ap (mapped f) h.1)
  mapped-behind (reaches b w) a v (inr h) = inr (mapped-behind w a v h)

  pub record Image (w : Walked A) (b : B) (u : Walked B) : Type 0 where
    pub of : A
    pub rest : Walked A
    pub behind : Behind w of rest
    pub is : f of ≡ b
    pub joins : u ≡ mapped f rest

  pub behind-mapped : (w : Walked A) (b : B) (u : Walked B) → Behind (mapped f w) b u → Image w b u
  unfolding mapped
  behind-mapped finished b u h = absurd h
  behind-mapped (stopped n p) b u h = absurd h
  behind-mapped (reaches a w) b u (inl h) = record { of = a; rest = w; behind = inl (refl, refl); is = h.0; joins = sym h.1 }
  behind-mapped (reaches a w) b u (inr h) = let i = behind-mapped w b u h in record { of = i.of; rest = i.rest; behind = inr i.behind; is = i.is; joins = i.joins }

pub mapped-mapped : {A B C : Type 0} (f : A → B) (g : B → C) (w : Walked A) → mapped g (mapped f w) ≡ mapped (λ a. g (f a)) w
unfolding mapped
mapped-mapped f g finished = refl
mapped-mapped f g (stopped n p) = refl
mapped-mapped f g (reaches a w) = ap (reaches (g (f a))) (mapped-mapped f g w)
