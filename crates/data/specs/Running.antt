-- The positions of a portion that run.
use Rattle.std.specs.Prelude.{Err, Ok, Result, ◌≡◌, List, [], ◌∷◌, ℕ, zero, suc, ◌<◌, ◌≤◌, length, take, ℤ, Option, Some, None}
use Rattle.rules.specs.declared.Refused.{Refused}
use Rattle.evaluator.specs.declared.steps.values.Limits.{Limits}
use Rattle.rules.specs.Limits.{run_limit}
use Rattle.value.specs.declared.Value.{Value}
use Rattle.language.specs.Outcome.{Outcome, done, refused}
use Rattle.language.specs.Syntax.{Name}
use Rattle.language.specs.Ranges.{up_from}
use Rattle.language.specs.Evaluation.{length_of, run_of}
use Rattle.language.specs.Scope.{Scope}
use Rattle.language.specs.Store.{Store, Portion, Bound, bind_if, position_run}
use Rattle.language.specs.Store as Store
use Rattle.language.specs.Data.{bound_of}
use Rattle.language.specs.All.{All}
use Rattle.language.specs.Valid.{Small as SmallNumber}
use Rattle.evaluator.specs.declared.steps.scope.Scope.{Scope as Held}
use Rattle.evaluator.specs.declared.steps.values.Bounds.{Bounds}
use Rattle.evaluator.specs.Steps.Scopes.{scope_of, Small}
use Rattle.evaluator.specs.Steps.Values.{limits_in, SmallLimits}
use Rattle.tokens.specs.Stored.{size}
use Rattle.evaluator.specs.Tables.{DomainAt}
use Rattle.data.specs.declared.reading.few.Few.{Few}
use Rattle.data.specs.declared.reading.entries.Entries.{Entries}
use Rattle.data.specs.Reading.Few.{numbers_of}
use Rattle.data.specs.Reading.Entries.{entries_of}
use Rattle.data.specs.declared.running.Portion.{Portion as Worked}
use Rattle.data.specs.Stores.{Stores}
use Rattle.evaluator.specs.Ground.{Ground}
use Rattle.data.specs.Layouts.{LaidBy}
use Rattle.store.specs.Table.{Table}

-- the scope of position j: its earlier positions that are bound by now, with the indices l
unfoldable pub before : List ℕ → Bound → ℕ → Scope → Scope
before l b zero s = s
before [] b (suc j) s = s
before (i ∷ l) [] (suc j) s = s
before (i ∷ l) (x ∷ b) (suc j) s = before l b j (bind_if i x s)

-- each number that a position is bound to is a value's
abbrev pub SmallIf : Option ℤ → Type 0
SmallIf None = Unit
SmallIf (Some k) = SmallNumber k

abbrev pub SmallPositions : Entries → Type 0
SmallPositions e = All SmallIf (bound_of (entries_of e))

pub record Before (e : Entries) (f : Few) (j : ℕ) (r : Held) : Type 0 where
  pub is : length (numbers_of f) ≡ length (entries_of e) → (known : ℕ → List ℤ → Option Value)
      → scope_of known r ≡ before (numbers_of f) (bound_of (entries_of e)) j (record { known = known; bound = [] })
  pub small : SmallPositions e → Small r

-- ---- a portion as the code holds it

pub record Portrays (s ts : List ℕ) (names : List Name) (h : Worked) (x : Portion) : Type 0 where
  pub name : x.name ≡ h.name
  pub place : x.place ≡ h.place
  pub whole : x.whole ≡ h.whole
  pub known : h.name < length names
  pub domain : DomainAt s ts (take h.name names) x.domain h.start
  pub laid : LaidBy (take h.name names) s ts x.domain h.layout

-- and its positions, as they are bound by now
pub record Carries (s ns ts : List ℕ) (h : Worked) (e : Entries) (x : Portion) : Type 0 where
  pub ground : Ground s ns ts
  pub portrays : Portrays s ts ground.names h x
  pub long : length (entries_of e) ≡ size x.domain
  pub small : SmallPositions e

-- ---- runs

abbrev pub run_outcome : Result (Limits × ℕ) Refused → Outcome (List ℤ)
run_outcome (Ok (l, n)) = done (up_from l.lower n)
run_outcome (Err e) = refused e.refusal e.place

-- what is known of a run's numbers
abbrev pub ShortRun : Result (Limits × ℕ) Refused → Type 0
ShortRun (Ok (l, n)) = SmallLimits l × (n ≤ length_of (limits_in l)) × (n ≤ run_limit)
ShortRun (Err e) = Unit {0}

pub record RunsFrom (sc : Held) (b : Bounds) (r : Result (Limits × ℕ) Refused) : Type 0 where
  pub is : SmallLimits b.limits → (known : ℕ → List ℤ → Option Value) → run_of (limits_in b.limits) b.number (scope_of known sc) b.place ≡ run_outcome r
  pub short : SmallLimits b.limits → ShortRun r

pub record PositionRuns (ns ts : List ℕ) (ds : Table) (given : ℕ) (h : Worked) (e : Entries) (j : ℕ) (r : Result (Limits × ℕ) Refused) : Type 0 where
  pub is : (s : List ℕ) (x : Portion) → Carries s ns ts h e x → (st : Store) → Stores ds given st → position_run x.domain (bound_of (entries_of e)) j (Store.scope_of st) ≡ run_outcome r
  pub short : (s : List ℕ) (x : Portion) → Carries s ns ts h e x → (st : Store) → Stores ds given st → ShortRun r
