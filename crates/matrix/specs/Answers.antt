-- What each function answers: for every text, names, data and variables that the tables hold, and every constraint that stands in its
-- row, the entries that the definition adds, as the tables of rows, counts and bounds hold them.
use Rattle.std.specs.Prelude.{Err, Ok, Result, ◌≡◌, Bool, true, false, List, [], map, ℕ, ◌<◌, ◌≤◌, length, take, ℤ}
use Rattle.rules.specs.declared.Refused.{Refused}
use Rattle.rules.specs.Limits.{nesting_limit, variable_limit, constraint_limit}
use Rattle.language.specs.Outcome.{Outcome, done, refused}
use Rattle.language.specs.Syntax.{Constraint}
use Rattle.language.specs.Evaluation.{over}
use Rattle.language.specs.Linear.{Linear, linear_at}
use Rattle.language.specs.Numbering.{Variable, Row, signed, gathered, Entry, add_entry, add_entries}
use Rattle.tokens.specs.Stored.{Stands}
use Rattle.store.specs.Element.{Subscripts}
use Rattle.store.specs.Key.{name_bound}
use Rattle.evaluator.specs.declared.steps.scope.Scope.{Scope}
use Rattle.evaluator.specs.Steps.Scopes.{Small}
use Rattle.evaluator.specs.Cycle.{nothing_bound, under}
use Rattle.constraints.specs.declared.Record.{Record}
use Rattle.constraints.specs.Rows.{is_bare, row_at, RowOf, Rows}
use Rattle.matrix.specs.declared.parts.Parts.{Parts}
use Rattle.matrix.specs.Parts.Parts.{Tells}
use Rattle.rows.specs.declared.Filled.{Filled}
use Rattle.rows.specs.Slots.{counts_at, objective_row, ObjectiveHeld, RowsHeld}
use Rattle.rows.specs.Bounds.{BoundTable, nth_bound, unstated, BoundsHeld}
use Rattle.gatherer.specs.Cycle.{Model}
use Rattle.store.specs.Table.{Table}

-- ---- what the tables hold of the entries so far

pub record State (vs : List Variable) (t : Table) (m : List ℤ) (b : BoundTable) (f : Filled) (es : List Entry) : Type 0 where
  pub rows : RowsHeld vs t m f.less f.equal es
  pub bounds : BoundsHeld b (length vs) es

pub record Added (vs : List Variable) (o : Outcome (List Entry)) (t : Table) (m : List ℤ) (b : BoundTable) (f : Filled) : Type 0 where
  pub entries : List Entry
  pub is : o ≡ done entries
  pub state : State vs t m b f entries

abbrev pub Adds : List Variable → Outcome (List Entry) → Result Filled Refused → Table → List ℤ → BoundTable → Type 0
Adds vs o (Ok f) t m b = Added vs o t m b f
Adds vs o (Err e) t m b = o ≡ refused e.refusal e.place

abbrev pub AddsBounds : List Variable → Outcome (List Entry) → Result Unit Refused → Table → List ℤ → BoundTable → Filled → Type 0
AddsBounds vs o (Ok tt) t m b f = Added vs o t m b f
AddsBounds vs o (Err e) t m b f = o ≡ refused e.refusal e.place

-- the objective's counts are as they were
abbrev pub Stays : ℕ → List ℤ → List ℤ → Type 0
Stays total m m' = counts_at m' total objective_row ≡ counts_at m total objective_row

-- ---- one constraint

module _ (ns ts : List ℕ) (ds : Table) (given : ℕ) (xs : Table) (total : ℕ) where
  -- constraint number n is c, whose parts are p
  pub record Takes (w : Model ns ts ds given xs total) (n : ℕ) (c : Constraint) (p : Parts) : Type 0 where
    pub tells : Tells w.world.text ts w.world.names c p
    pub numbered : n < name_bound

  -- its row at one element, and at all
  pub record RowAdds (n : ℕ) (p : Parts) (sc : Scope) (e : List ℤ) (f : Filled) (t : Table) (m : List ℤ) (r : Result Filled Refused) (t' : Table) (m' : List ℤ) : Type 0 where
    pub stays : Stays total m m'
    pub adds : (w : Model ns ts ds given xs total) (c : Constraint) → Takes w n c p → is_bare c.left ≡ false → Small sc → Subscripts e
        → (b : BoundTable) (es : List Entry) → State w.variables t m b f es
        → Adds w.variables (add_entry w.variables n c (under w.world sc) e es) r t' m' b

  pub record RowsAdd (n : ℕ) (p : Parts) (f : Filled) (t : Table) (m : List ℤ) (r : Result Filled Refused) (t' : Table) (m' : List ℤ) : Type 0 where
    pub stays : Stays total m m'
    pub adds : (w : Model ns ts ds given xs total) (c : Constraint) → Takes w n c p → is_bare c.left ≡ false
        → (b : BoundTable) (es : List Entry) → State w.variables t m b f es
        → Adds w.variables (over c.domain (nothing_bound w.world) (add_entry w.variables n c) es) r t' m' b

  -- its bound at one element, and at all
  pub record BoundAdds (p : Parts) (sc : Scope) (b : BoundTable) (r : Result Unit Refused) (b' : BoundTable) : Type 0 where
    pub adds : (w : Model ns ts ds given xs total) (n : ℕ) (c : Constraint) → Takes w n c p → is_bare c.left ≡ true → Small sc
        → (e : List ℤ) (t : Table) (m : List ℤ) (f : Filled) (es : List Entry) → State w.variables t m b f es
        → AddsBounds w.variables (add_entry w.variables n c (under w.world sc) e es) r t m b' f

  pub record BoundsAdd (p : Parts) (b : BoundTable) (r : Result Unit Refused) (b' : BoundTable) : Type 0 where
    pub adds : (w : Model ns ts ds given xs total) (n : ℕ) (c : Constraint) → Takes w n c p → is_bare c.left ≡ true
        → (t : Table) (m : List ℤ) (f : Filled) (es : List Entry) → State w.variables t m b f es
        → AddsBounds w.variables (over c.domain (nothing_bound w.world) (add_entry w.variables n c) es) r t m b' f

-- ---- all constraints

-- constraint number k, in its row of the table cs
pub record OneAdds (ns ts : List ℕ) (ds : Table) (given : ℕ) (xs : Table) (total : ℕ) (cs : List Record) (k : ℕ) (f : Filled) (t : Table) (b : BoundTable) (m : List ℤ) (r : Result Filled Refused) (t' : Table) (b' : BoundTable) (m' : List ℤ) : Type 0 where
  pub stays : Stays total m m'
  pub adds : (w : Model ns ts ds given xs total) → k < name_bound → (c : Constraint) → RowOf w.world.text ts (row_at cs k) w.world.names c
      → (es : List Entry) → State w.variables t m b f es
      → Adds w.variables (over c.domain (nothing_bound w.world) (add_entry w.variables k c) es) r t' m' b'

-- the constraints of the first `count` rows, from tables in which no bound is stated
pub record AllAdd (ns ts : List ℕ) (ds : Table) (given : ℕ) (xs : Table) (total : ℕ) (cs : List Record) (count : ℕ) (b : BoundTable) (m : List ℤ) (r : Result Filled Refused) (t' : Table) (b' : BoundTable) (m' : List ℤ) : Type 0 where
  pub stays : Stays total m m'
  pub adds : (w : Model ns ts ds given xs total) → count ≤ constraint_limit → (l : List Constraint) → Rows w.world.text ts (take count cs) w.world.names l
      → ((k : ℕ) → nth_bound b k ≡ unstated) → Adds w.variables (add_entries w.variables (nothing_bound w.world) 0 l []) r t' m' b'

-- the same for at most 512 variables
pub record Generates (ns ts : List ℕ) (ds : Table) (given : ℕ) (xs : Table) (total : ℕ) (cs : List Record) (count : ℕ) (b : BoundTable) (m : List ℤ) (r : Result Filled Refused) (t' : Table) (b' : BoundTable) (m' : List ℤ) : Type 0 where
  pub all : total ≤ variable_limit → AllAdd ns ts ds given xs total cs count b m r t' b' m'

-- ---- the objective

-- m holds the coefficients under the sign b
pub record Objective (vs : List Variable) (b : Bool) (o : Outcome Row) (m : List ℤ) : Type 0 where
  pub coefficients : Row
  pub is : o ≡ done coefficients
  pub held : ObjectiveHeld vs m (map (signed b) coefficients)

abbrev pub ObjectiveAdds : List Variable → Bool → Outcome Row → Result Unit Refused → List ℤ → Type 0
ObjectiveAdds vs b o (Ok tt) m = Objective vs b o m
ObjectiveAdds vs b o (Err e) m = o ≡ refused e.refusal e.place

-- the form at a position, negated for a minimum
pub record ObjectiveIs (b : Bool) (ns ts : List ℕ) (ds : Table) (given : ℕ) (xs : Table) (total : ℕ) (at : ℕ) (r : Result Unit Refused) (m' : List ℤ) : Type 0 where
  pub is : total ≤ variable_limit → (w : Model ns ts ds given xs total) (x : Linear) → Stands (linear_at w.world.names nesting_limit) w.world.text ts at x
      → ObjectiveAdds w.variables b (gathered w.variables x.form (nothing_bound w.world)) r m'
