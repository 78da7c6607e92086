-- A caller's loop: `first`, then its step and `next` by turns. What is still to be done at each turn.
use Rattle.std.specs.Prelude.{Option, Result, ◌≡◌, ◌⊎◌, List, [], ℕ, ℤ}
use Rattle.rules.specs.declared.Refused.{Refused}
use Rattle.elements.specs.declared.here.Here.{Here as HeldHere}
use Rattle.language.specs.Outcome.{Outcome}
use Rattle.language.specs.Scope.{Scope}
use Rattle.evaluator.specs.Tables.{World}
use Rattle.evaluator.specs.Cycle.{nothing_bound, tokens_at}
use Rattle.elements.specs.Elements.{Walked, Behind, mapped, folded}
use Rattle.elements.specs.Levels.{Level, here_of}
use Rattle.elements.specs.Steps.{entries_in, Shows}
use Rattle.store.specs.Table.{Table}

-- The answer r of `first` or `next` for `count` entries from a position on, and the state a so far: with the step f at the elements that
-- r has and those after it, a becomes o.
pub record Remains {A : Type 0} {ns ts : List ℕ} {ds : Table} {given : ℕ} (w : World ns ts ds given) (level count at : ℕ) (f : Scope → List ℤ → A → Outcome A) (r : Result (Option HeldHere) Refused) (a : A) (o : Outcome A) : Type 0 where
  pub walk : Walked (List Level)
  pub shows : Shows w [] walk r
  pub tail : (entries_in w level count (nothing_bound w) (tokens_at w at) ≡ walk) ⊎ ((x : List Level) × Behind (entries_in w level count (nothing_bound w) (tokens_at w at)) x walk)
  pub due : folded f (mapped (here_of (nothing_bound w)) walk) a ≡ o
