-- A portion carried out from one of its positions on.
use Rattle.std.specs.Prelude.{Result, List, ℕ, ◌+◌, ◌≤◌, get_or, drop}
use Rattle.rules.specs.declared.Refused.{Refused}
use Rattle.rules.specs.Limits.{run_limit}
use Rattle.language.specs.Ranges.{up_from}
use Rattle.language.specs.Evaluation.{length_of}
use Rattle.language.specs.Store.{Store, Portion, set_at}
use Rattle.language.specs.Data.{bound_of, each_read, runs}
use Rattle.tokens.specs.Stored.{from}
use Rattle.evaluator.specs.declared.steps.values.Limits.{Limits}
use Rattle.evaluator.specs.Steps.Values.{limits_in, SmallLimits}
use Rattle.data.specs.declared.reading.entries.Entries.{Entries}
use Rattle.data.specs.Reading.Few.{numbers_of}
use Rattle.data.specs.Reading.Entries.{entries_of}
use Rattle.data.specs.declared.running.Portion.{Portion as Worked}
use Rattle.data.specs.Stores.{Stores}
use Rattle.data.specs.Running.{Carries}
use Rattle.data.specs.Taking.{TakenIs}
use Rattle.store.specs.Table.{Table}

-- the positions still to run, from the k-th of the order on
abbrev pub left : Worked → ℕ → List ℕ
left h k = drop k (numbers_of h.order)

pub record RunsTo (ns ts : List ℕ) (ds : Table) (given at : ℕ) (h : Worked) (k : ℕ) (e : Entries) (r : Result (ℕ × ℕ) Refused) (ds' : Table) : Type 0 where
  pub is : (s : List ℕ) (x : Portion) → Carries s ns ts h e x → (st : Store) → Stores ds given st
      → TakenIs (runs x (left h k) (bound_of (entries_of e)) st (from s ts at)) s ts ds' r

-- n numbers of a run
pub record Counts (l : Limits) (n : ℕ) : Type 0 where
  pub small : SmallLimits l
  pub within : n ≤ length_of (limits_in l)
  pub short : n ≤ run_limit

pub record EachTo (ns ts : List ℕ) (ds : Table) (given at : ℕ) (h : Worked) (k : ℕ) (e : Entries) (l : Limits) (n : ℕ) (r : Result (ℕ × ℕ) Refused) (ds' : Table) : Type 0 where
  pub is : (s : List ℕ) (x : Portion) → Carries s ns ts h e x → Counts l n → (st : Store) → Stores ds given st
      → TakenIs (each_read (λ z st. runs x (left h (k + 1)) (set_at (get_or (numbers_of h.order) k 0) z (bound_of (entries_of e))) st) (up_from l.lower n) st (from s ts at)) s ts ds' r
