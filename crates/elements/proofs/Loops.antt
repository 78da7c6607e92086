-- Laws for a caller's loop: it starts, goes on, ends or is refused, and what it does is `over`. At each turn the element's
-- numbers are small, and they rise from turn to turn.
use Rattle.std.specs.Prelude.{Err, None, Ok, Option, Result, Some}
use Rattle.rules.specs.declared.Refused.{Refused}
use mathlib.Core.Path.{◌≡◌, refl, sym, ◌∙◌, ap, subst, subst₂}
use mathlib.Core.Logic.{◌⊎◌, inl, inr}
use mathlib.Core.List.{List, [], ◌∷◌, map}
use Prim.Native.Nat.{ℕ, zero, suc, ◌≤◌}
use native.Mathlib.Omega.{arith}
use lib.ListN.{get_or, length-map}
use lib.IntN.{ℤ, pos, nat_abs}
use Rattle.rules.specs.declared.Refusal.{Refusal}
use Rattle.rules.specs.Limits.{mantissa_limit, index_limit}
use Rattle.lexer.specs.Text.{Token}
use Rattle.language.specs.Outcome.{Outcome, done, refused, ◌>>=◌}
use Rattle.language.specs.Scope.{Scope, bind}
use Rattle.language.specs.Syntax.{Spans}
use Rattle.language.specs.Evaluation.{over}
use Rattle.language.specs.Demand3.{Precedes}
use Rattle.tokens.specs.Stored.{size}
use Rattle.store.specs.declared.Element.{Element}
use Rattle.store.specs.Element.{list_of, Subscripts}
use Rattle.evaluator.specs.declared.steps.scope.Scope.{Scope as HeldScope}
use Rattle.evaluator.specs.Steps.Scopes.{bindings_of, Small}
use Rattle.evaluator.specs.Tables.{World, DomainAt}
use Rattle.evaluator.specs.Cycle.{seen_by, under, nothing_bound, tokens_at}
use Rattle.evaluator.proofs.Names.{size-count}
use Rattle.elements.specs.declared.here.Level.{Level as HeldLevel}
use Rattle.elements.specs.declared.here.Here.{Here as HeldHere}
use Rattle.elements.specs.Elements.{Walked, reaches, Behind, mapped, elements_of, folded}
use Rattle.elements.specs.Levels.{Level, here_of}
use Rattle.elements.specs.Held.{held, number_of, bound, level_at, levels_of}
use Rattle.elements.specs.Steps.{SmallRuns, runs_of, entries_in, FirstIs, NextIs}
use Rattle.elements.specs.Loops.{Remains}
use Rattle.elements.proofs.Walks.{behind-first, behind-next, mapped-reaches, mapped-behind}
use Rattle.elements.proofs.Folded.{over-elements}
use Rattle.elements.proofs.Levels.{walk-elements}
use Rattle.elements.proofs.Rising.{behind-rises, elements-rise}
use Rattle.elements.proofs.Held.{length-few}
use Rattle.elements.proofs.Bound.{held-scope, held_small}
use Rattle.store.specs.Table.{Table}

-- ---- the element that the caller stands at

numbers-element : (view : ℕ → List Token) (s : Scope) (ls : List HeldLevel) → map number_of ls ≡ (here_of s (map (level_at view) ls)).element
unfolding here_of
numbers-element view s [] = refl
numbers-element view s (l ∷ ls) = ap (λ m. l.number ∷ m) (numbers-element view (bind l.name l.number s) ls)

numbers-small : (view : ℕ → List Token) (ls : List HeldLevel) → SmallRuns (map (level_at view) ls) → (i : ℕ) → nat_abs (get_or (map number_of ls) i (pos 0)) ≤ mantissa_limit
numbers-small view [] m i = omega arith
numbers-small view (l ∷ ls) m zero = m.0.number
numbers-small view (l ∷ ls) m (suc i) = numbers-small view ls m.1 i

numbers-few : (h : HeldHere) → ((i : ℕ) → nat_abs (get_or (map number_of (held h)) i (pos 0)) ≤ mantissa_limit) → Subscripts (map number_of (held h))
unfolding index_limit
numbers-few h m = record { few = rw (length-map (held h) number_of) (length-few h); small = m }

module _ {A : Type 0} {ns ts : List ℕ} {ds : Table} {given : ℕ} (w : World ns ts ds given) (level count at : ℕ) (f : Scope → List ℤ → A → Outcome A) where
  element-of : (h : HeldHere) (e : Element) → list_of e ≡ map number_of (held h) → list_of e ≡ (here_of (nothing_bound w) (runs_of w h)).element
  unfolding levels_of
  element-of h e q = q ∙ numbers-element (tokens_at w) (nothing_bound w) (held h)

  -- ---- the end

  pub loop-done : (a : A) (o : Outcome A) → Remains w level count at f (Ok None) a o → o ≡ done a
  unfolding folded mapped
  loop-done a o r = sym r.due ∙ rw r.shows

  pub loop-stopped : (e : Refused) (a : A) (o : Outcome A) → Remains w level count at f (Err e) a o → o ≡ refused e.refusal e.place
  unfolding folded mapped
  loop-stopped z a o r = sym r.due ∙ rw r.shows

  -- ---- at an element

  module _ (h : HeldHere) (a : A) (o : Outcome A) (r : Remains w level count at f (Ok (Some h)) a o) where
    -- what is left behind it
    record Left : Type 0 where
      rest : Walked (List Level)
      is : r.walk ≡ reaches (runs_of w h) rest
      behind : Behind (entries_in w level count (nothing_bound w) (tokens_at w at)) (runs_of w h) rest
      due : (f (here_of (nothing_bound w) (runs_of w h)).scope (here_of (nothing_bound w) (runs_of w h)).element a >>= λ b. folded f (mapped (here_of (nothing_bound w)) rest) b) ≡ o

    left : Left
    unfolding folded mapped
    left =
        let x = r.shows in
        let e : r.walk ≡ reaches (runs_of w h) x.rest = x.is ∙ ap (λ p. reaches p x.rest) (sym x.runs) in
        record { rest = x.rest; is = e; behind = stands x.rest e r.tail; due = subst (λ v. folded f (mapped (here_of (nothing_bound w)) v) a ≡ o) e r.due }
      where
        stands : (v : Walked (List Level)) → r.walk ≡ reaches (runs_of w h) v
            → (entries_in w level count (nothing_bound w) (tokens_at w at) ≡ r.walk) ⊎ ((x : List Level) × Behind (entries_in w level count (nothing_bound w) (tokens_at w at)) x r.walk)
            → Behind (entries_in w level count (nothing_bound w) (tokens_at w at)) (runs_of w h) v
        stands v e (inl t) = behind-first (entries_in w level count (nothing_bound w) (tokens_at w at)) v (runs_of w h) (t ∙ e)
        stands v e (inr t) = behind-next (entries_in w level count (nothing_bound w) (tokens_at w at)) r.walk v t.0 (runs_of w h) t.1 e

    module _ (sc : HeldScope) (p : bindings_of sc ≡ bound (held h) []) (e : Element) (q : list_of e ≡ map number_of (held h)) where
      -- the step is taken under the element's scope
      step-at : (f (under w sc) (list_of e) a >>= λ b. folded f (mapped (here_of (nothing_bound w)) left.rest) b) ≡ o
      step-at = subst₂ (λ s l. (f s l a >>= λ b. folded f (mapped (here_of (nothing_bound w)) left.rest) b) ≡ o)
          (sym (held-scope (tokens_at w) h sc p w.known)) (sym (element-of h e q)) left.due

      pub loop-refused : (c : Refusal) (k : ℕ) → f (under w sc) (list_of e) a ≡ refused c k → o ≡ refused c k
      loop-refused c k g = sym step-at ∙ rw g

      pub loop-more : (b : A) (x : Result (Option HeldHere) Refused) → f (under w sc) (list_of e) a ≡ done b → NextIs ns ts ds given level h x → Remains w level count at f x b o
      loop-more b x g i = record {
        walk = left.rest;
        shows = i.is w r.shows.small count (tokens_at w at) left.rest left.behind;
        tail = inr (runs_of w h, left.behind);
        due = ap (λ m. m >>= λ b. folded f (mapped (here_of (nothing_bound w)) left.rest) b) (sym g) ∙ step-at;
      }

      -- what is bound is small, and so are the subscripts
      pub loop-small : Small sc
      loop-small = held_small (tokens_at w) h sc p r.shows.small

      pub loop-subscripts : Subscripts (list_of e)
      unfolding levels_of
      loop-subscripts = subst Subscripts (sym q) (numbers-few h (numbers-small (tokens_at w) (held h) r.shows.small))

  -- ---- the start

  module _ (d : Spans) (e : DomainAt w.text ts (seen_by w level) d at) (c : size d ≡ count) where
    -- the walk is that of the tree
    walk-tree : mapped (here_of (nothing_bound w)) (entries_in w level count (nothing_bound w) (tokens_at w at)) ≡ elements_of d (nothing_bound w)
    walk-tree = rw (sym c ∙ size-count d) (walk-elements (seen_by w level) d (nothing_bound w) (tokens_at w at) e.rest e.reads)

    pub loop-start : (r : Result (Option HeldHere) Refused) → FirstIs ns ts ds given level count at r → (a : A) → Remains w level count at f r a (over d (nothing_bound w) f a)
    loop-start r i a = record {
      walk = entries_in w level count (nothing_bound w) (tokens_at w at);
      shows = i.is w;
      tail = inl refl;
      due = ap (λ v. folded f v a) walk-tree ∙ sym (over-elements d (nothing_bound w) f a);
    }

    -- the next element is greater, the first number first
    pub loop-rises : (h g : HeldHere) (a : A) (o : Outcome A) → Remains w level count at f (Ok (Some h)) a o → NextIs ns ts ds given level h (Ok (Some g)) → (x y : Element)
        → list_of x ≡ map number_of (held h) → list_of y ≡ map number_of (held g) → Precedes (list_of x) (list_of y)
    loop-rises h g a o r i x y p q =
        let l = left h a o r in
        let n = i.is w r.shows.small count (tokens_at w at) l.rest l.behind in
        subst₂ Precedes (sym (element-of h x p)) (sym (element-of g y q)) (rises (runs_of w h) (runs_of w g) l.rest n.rest l.behind (n.is ∙ ap (λ z. reaches z n.rest) (sym n.runs)))
      where
        rises : (x y : List Level) (u v : Walked (List Level)) → Behind (entries_in w level count (nothing_bound w) (tokens_at w at)) x u → u ≡ reaches y v
            → Precedes (here_of (nothing_bound w) x).element (here_of (nothing_bound w) y).element
        rises x y u v b e =
            let f = here_of (nothing_bound w) in
            behind-rises (elements_of d (nothing_bound w)) (elements-rise d (nothing_bound w)) (f x) (f y) (mapped f u) (mapped f v)
            (subst (λ z. Behind z (f x) (mapped f u)) walk-tree (mapped-behind f (entries_in w level count (nothing_bound w) (tokens_at w at)) x u b)) (mapped-reaches f u y v e)
