-- What the tables tell of a model and of its problem.
use Rattle.std.specs.Prelude.{Err, Ok, Result, ◌≡◌, Bool, List, [], ℕ, ◌≤◌, length, take, ℤ}
use Rattle.rules.specs.declared.Refused.{Refused}
use Rattle.rules.specs.Limits.{variable_limit, constraint_limit}
use Rattle.language.specs.Outcome.{Outcome, done, refused}
use Rattle.language.specs.All.{All}
use Rattle.language.specs.Syntax.{Constraint}
use Rattle.language.specs.Store.{all_given}
use Rattle.language.specs.Model.{Model, start, as_discrete, as_continuous, declared}
use Rattle.language.specs.Numbering.{Variable, Lp, add_variables, generate}
use Rattle.constraints.specs.declared.Record.{Record}
use Rattle.constraints.specs.Rows.{Rows}
use Rattle.parser.specs.Parsed.{FormAt}
use Rattle.store.specs.Entries.{Numbered}
use Rattle.evaluator.specs.Tables.{World}
use Rattle.evaluator.specs.Cycle.{nothing_bound}
use Rattle.elements.specs.Placed.{Placed}
use Rattle.rows.specs.declared.Filled.{Filled}
use Rattle.rows.specs.Slots.{RowsHeld, ObjectiveHeld}
use Rattle.rows.specs.Bounds.{BoundTable, nth_bound, unstated, BoundsHeld}
use Rattle.rows.specs.Problems.{KeyedVariable, FromConstraint}
use Rattle.problem.specs.Variables.Order.{InOrder}
use Rattle.problem.specs.declared.Problem.{Problem}
use Rattle.store.specs.Table.{Table}

-- ---- the model

-- the tables, which hold a world, tell of the model m: its names, its objective at `aim`, its constraints; and no bound is stated
pub record Poses (ns ts : List ℕ) (ds : Table) (given aim : ℕ) (b : Bool) (cs : List Record) (count : ℕ) (bs : BoundTable) (w : World ns ts ds given) (m : Model) : Type 0 where
  pub names : w.names ≡ m.structure.names
  pub start : nothing_bound w ≡ start m
  pub placed : Placed ns w.names
  pub ordered : InOrder w.names
  pub objective : FormAt w.text ts aim m.structure.names m.structure.objective
  pub minimize : m.structure.minimize ≡ b
  pub few : count ≤ constraint_limit
  pub constraints : Rows w.text ts (take count cs) m.structure.names m.structure.constraints
  pub unbound : (k : ℕ) → nth_bound bs k ≡ unstated

-- ---- the problem

-- the tables of variables, slots, bounds and counts hold the problem p of the constraints cs
pub record Holds (xs t : Table) (bs : BoundTable) (m : List ℤ) (discrete total : ℕ) (f : Filled) (cs : List Constraint) (p : Lp) : Type 0 where
  pub discretes : discrete ≡ p.discrete
  pub few : length p.variables ≤ variable_limit
  pub numbered : Numbered xs total p.variables
  pub keyed : All KeyedVariable p.variables
  pub sources : All (FromConstraint cs) p.entries
  pub rows : RowsHeld p.variables t m f.less f.equal p.entries
  pub objective : ObjectiveHeld p.variables m p.objective
  pub bounds : BoundsHeld bs total p.entries

-- the same refusal, or the problem
abbrev pub Generating : Outcome Lp → List Constraint → Result Problem Refused → Table → Table → BoundTable → List ℤ → Type 0
Generating (done p) cs (Ok x) xs t bs m = Holds xs t bs m x.discrete x.total x.filled cs p
Generating (done p) cs (Err e) xs t bs m = ⊥
Generating (refused k q) cs (Ok x) xs t bs m = ⊥
Generating (refused k q) cs (Err e) xs t bs m = (k ≡ e.refusal) × (q ≡ e.place)

-- the variables are numbered: n of them, the first a of which are discrete
pub record Numbers (xs : Table) (a n : ℕ) (m : Model) : Type 0 where
  pub given : all_given 0 m.structure.names (start m) ≡ done tt
  pub discretes : List Variable
  pub variables : List Variable
  pub first : add_variables (start m) (declared as_discrete 0 m.structure.names) [] ≡ done discretes
  pub all : add_variables (start m) (declared as_continuous 0 m.structure.names) discretes ≡ done variables
  pub count : a ≡ length discretes
  pub few : n ≤ variable_limit
  pub numbered : Numbered xs n variables
  pub keyed : All KeyedVariable variables

pub record ShapesAs (ns ts : List ℕ) (ds : Table) (given : ℕ) (xs : Table) (discrete total aim : ℕ) (b : Bool) (cs : List Record) (count : ℕ) (bs : BoundTable) (r : Result Problem Refused) (t : Table) (bs' : BoundTable) (c : List ℤ) : Type 0 where
  pub is : (w : World ns ts ds given) (m : Model) → Poses ns ts ds given aim b cs count bs w m → Numbers xs discrete total m
      → Generating (generate m) m.structure.constraints r xs t bs' c

pub record GeneratesAs (ns ts : List ℕ) (ds : Table) (given aim : ℕ) (b : Bool) (cs : List Record) (count : ℕ) (bs : BoundTable) (r : Result Problem Refused) (xs t : Table) (bs' : BoundTable) (c : List ℤ) : Type 0 where
  pub is : (w : World ns ts ds given) (m : Model) → Poses ns ts ds given aim b cs count bs w m → Generating (generate m) m.structure.constraints r xs t bs' c
