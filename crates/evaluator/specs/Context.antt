-- What holds of what is stored of a model, and of what a formula is read under.
use Rattle.std.specs.Prelude.{List, ℕ}
use Rattle.evaluator.specs.declared.Stored.{Stored}
use Rattle.store.specs.Table.{Table}
use Rattle.evaluator.specs.declared.Context.{Context}
use Rattle.evaluator.specs.declared.steps.scope.Scope.{Scope}

-- a relation of the name table, the token table, the rows of data and how many are given
abbrev pub Over : {B : Type 1} → (List ℕ → List ℕ → Table → ℕ → B) → Stored → B
Over R s = R s.names.now s.tokens.now s.table.now s.given

-- the same, and of how many names are visible and what is bound
abbrev pub Under : {B : Type 1} → (List ℕ → List ℕ → Table → ℕ → ℕ → Scope → B) → Context → B
Under R c = Over R c.stored c.level c.scope
