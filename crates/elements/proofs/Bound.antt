-- The runs that code holds as runs of the definition: what they bind, one more, the outermost, the i-th; small ones.
use Rattle.std.specs.Prelude.{Option}
use mathlib.Core.Path.{◌≡◌, refl, sym, ◌∙◌, ap}
use mathlib.Core.Bool.{Bool, true, false, not}
use mathlib.Core.List.{List, [], ◌∷◌, ◌++◌, map, map-append}
use Prim.Native.Nat.{ℕ, zero, suc, ◌+◌, ◌<◌}
use native.Mathlib.Omega.{arith}
use borrow.Author.Tests.{ltb-true}
use lib.Dec.{ltb}
use lib.ListN.{length, take, drop, get_or, length-map, get_or-map}
use lib.Seq.{take-suc, drop-cons}
use lib.IntN.{ℤ, pos, ◌+ℤ◌}
use lib.Signed.{lt_z}
use Rattle.rules.specs.Limits.{index_limit}
use Rattle.value.specs.declared.Value.{Value}
use Rattle.lexer.specs.Text.{Token}
use Rattle.language.specs.Scope.{Scope, Binding, bind}
use Rattle.evaluator.specs.declared.steps.scope.Scope.{Scope as HeldScope}
use Rattle.evaluator.specs.Steps.Scopes.{bindings_of, scope_of, AllSmall, Small}
use Rattle.store.specs.Few.{one_more}
use Rattle.store.proofs.Fews.{more-room}
use Rattle.elements.specs.declared.here.Level.{Level as HeldLevel}
use Rattle.elements.specs.declared.here.Here.{Here as HeldHere}
use Rattle.elements.specs.Levels.{Level, here_of, at_number}
use Rattle.elements.specs.Held.{stepped, StepsUp, held, no-level, bound, level_at, levels_of}
use Rattle.elements.specs.Steps.{SmallRun, SmallRuns}
use Rattle.elements.proofs.Numbers.{not-false, next-size}
use Rattle.std.proofs.lemmas.List.{take-map}

-- ---- what runs bind

-- one run more binds one index more
pub scope-more : (s : Scope) (p : List Level) (l : Level) → (here_of s (p ++ (l ∷ []))).scope ≡ bind l.name l.number (here_of s p).scope
unfolding here_of
scope-more s [] l = refl
scope-more s (q ∷ p) l = scope-more (bind q.name q.number s) p l

-- one more, where there is room
pub more_room : (ls : List HeldLevel) (l : HeldLevel) → length ls < index_limit → one_more ls l ≡ ls ++ (l ∷ [])
unfolding index_limit
more_room ls l h = more-room ls l h

bound-length : (ls : List HeldLevel) (b : List Binding) → length (bound ls b) ≡ length ls + length b
unfolding bound
bound-length [] b = omega arith
bound-length (l ∷ ls) b = omega (arith, bound-length ls (record { name = l.name; at = l.number } ∷ b))

-- there is room for one run where there is room for one index
pub room-held : (h : HeldHere) (sc : HeldScope) → bindings_of sc ≡ bound (held h) [] → ltb (length (bindings_of sc)) index_limit ≡ true → length (held h) < index_limit
room-held h sc e r = omega (arith, ltb-true (length (bindings_of sc)) index_limit r, ap length e, bound-length (held h) [])

module _ (view : ℕ → List Token) where
  bound-scope : (known : ℕ → List ℤ → Option Value) (ls : List HeldLevel) (b : List Binding)
      → ◌≡◌ {A = Scope} (record { known = known; bound = bound ls b }) (here_of (record { known = known; bound = b }) (map (level_at view) ls)).scope
  unfolding bound here_of bind
  bound-scope known [] b = refl
  bound-scope known (l ∷ ls) b = bound-scope known ls _

  bound-small : (ls : List HeldLevel) (b : List Binding) → SmallRuns (map (level_at view) ls) → AllSmall b → AllSmall (bound ls b)
  unfolding bound
  bound-small [] b m a = a
  bound-small (l ∷ ls) b m a = bound-small ls _ m.1 (m.0.number, a)

  module _ (h : HeldHere) where
    -- the scope of an element
    module _ (sc : HeldScope) (e : bindings_of sc ≡ bound (held h) []) where
      pub held-scope : (known : ℕ → List ℤ → Option Value) → scope_of known sc ≡ (here_of (record { known = known; bound = [] }) (levels_of view h)).scope
      unfolding scope_of levels_of
      held-scope known = rw e (bound-scope known (held h) [])

      pub held_small : SmallRuns (levels_of view h) → Small sc
      unfolding levels_of
      held_small m = record { small = rw e (bound-small (held h) [] m tt) }

    -- ---- one more, the outermost, the i-th

    pub runs_none : held h ≡ [] → levels_of view h ≡ []
    unfolding levels_of
    runs_none e = rw e

    pub runs-length : length (levels_of view h) ≡ length (held h)
    unfolding levels_of
    runs-length = length-map (held h) (level_at view)

    pub runs-with : (r : HeldHere) (l : HeldLevel) → held r ≡ one_more (held h) l → length (levels_of view h) < index_limit → levels_of view r ≡ levels_of view h ++ (level_at view l ∷ [])
    unfolding levels_of
    runs-with r l e m = ap (map (level_at view)) (e ∙ more_room (held h) l (omega (arith, length-map (held h) (level_at view)))) ∙ map-append (level_at view) (held h) (l ∷ [])

    pub runs-cut : (r : HeldHere) (m : ℕ) → held r ≡ take m (held h) → levels_of view r ≡ take m (levels_of view h)
    unfolding levels_of
    runs-cut r m e = ap (map (level_at view)) e ∙ sym (take-map (level_at view) m (held h))

    module _ (m : ℕ) (l : HeldLevel) (e : l ≡ get_or (held h) m no-level) (b : m < length (levels_of view h)) where
      level-is : get_or (levels_of view h) m (level_at view no-level) ≡ level_at view l
      unfolding levels_of
      level-is = get_or-map (level_at view) (held h) m no-level ∙ ap (level_at view) (sym e)

      -- the m-th run, and those inside it
      pub runs-at : drop m (levels_of view h) ≡ level_at view l ∷ drop (suc m) (levels_of view h)
      runs-at = drop-cons (levels_of view h) m (level_at view no-level) b ∙ ap (λ x. x ∷ drop (suc m) (levels_of view h)) level-is

      -- those outside it, and the m-th run
      pub runs-before : take (suc m) (levels_of view h) ≡ take m (levels_of view h) ++ (level_at view l ∷ [])
      runs-before = take-suc (levels_of view h) m (level_at view no-level) b ∙ ap (λ x. take m (levels_of view h) ++ (x ∷ [])) level-is

-- ---- small ones

pub small-append : (p q : List Level) → SmallRuns p → SmallRuns q → SmallRuns (p ++ q)
small-append [] q a b = b
small-append (l ∷ p) q a b = (a.0, small-append p q a.1 b)

pub small-take : (m : ℕ) (p : List Level) → SmallRuns p → SmallRuns (take m p)
small-take zero p a = tt
small-take (suc m) [] a = tt
small-take (suc m) (l ∷ p) a = (a.0, small-take m p a.1)

pub small-drop : (m : ℕ) (p : List Level) → SmallRuns p → SmallRuns (drop m p)
small-drop zero p a = a
small-drop (suc m) [] a = tt
small-drop (suc m) (l ∷ p) a = small-drop m p a.1

-- ---- the next number of a run

module _ (l q : HeldLevel) (y : Bool) (a : y ≡ lt_z l.number l.upper) (b : not y ≡ false) (c : StepsUp l q) where
  next-is : q ≡ record { name = l.name; number = l.number +ℤ pos 1; upper = l.upper; behind = l.behind }
  unfolding stepped
  next-is = c.is ∙ rw (sym a ∙ not-false y b)

  pub next-upper : q.upper ≡ l.upper
  next-upper = ap (λ (z : HeldLevel). z.upper) next-is

  pub next-number : q.number ≡ l.number +ℤ pos 1
  next-number = ap (λ (z : HeldLevel). z.number) next-is

  module _ (view : ℕ → List Token) where
    pub next-run : level_at view q ≡ at_number (level_at view l) (l.number +ℤ pos 1)
    next-run = ap (level_at view) next-is

    pub next_small : SmallRun (level_at view l) → SmallRun (level_at view q)
    next_small m = rw next-run (record { number = next-size l.number l.upper (sym a ∙ not-false y b) m.number m.upper; upper = m.upper })
