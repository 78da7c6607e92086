-- What each function answers: for every text, names, data and variables that the tables hold, what one element of a constraint
-- becomes, and the objective's row. `level`: how many names are visible.
use Rattle.std.specs.Prelude.{Err, Ok, Result, ◌≡◌, Bool, true, false, List, map, ℕ, ◌<◌, length, ℤ, Option}
use Rattle.rules.specs.declared.Refused.{Refused}
use Rattle.rules.specs.Limits.{nesting_limit}
use Rattle.value.specs.declared.Value.{Value}
use Rattle.value.specs.Decimal.{Valid}
use Rattle.language.specs.Outcome.{Outcome, done, refused, ◌>>=◌}
use Rattle.language.specs.Syntax.{Formula, Formulas, Spans, Relation, Side, bare}
use Rattle.language.specs.Formulas.{formula_at}
use Rattle.language.specs.Linear.{Linear, linear_at}
use Rattle.language.specs.Numbering.{Variable, Row, signed, variable_at, gathered, Fact, bound, row, flips, fact_of, floor_at}
use Rattle.language.specs.Model.{what_of}
use Rattle.language.specs.Scope as Evaluated
use Rattle.language.specs.Evaluation.{eval}
use Rattle.language.specs.Valid.{ValidIfAny}
use Rattle.tokens.specs.Stored.{Stands}
use Rattle.evaluator.specs.declared.steps.scope.Scope.{Scope}
use Rattle.evaluator.specs.Steps.Scopes.{Small}
use Rattle.evaluator.specs.Tables.{World}
use Rattle.evaluator.specs.Cycle.{seen_by, under}
use Rattle.constraints.specs.Rows.{SideAt, is_bare, has_floor, FloorAt}
use Rattle.rows.specs.Slots.{floor_word}
use Rattle.rows.specs.Counts.{RowOf}
use Rattle.gatherer.specs.Cycle.{Model, number_outcome}
use Rattle.matrix.specs.declared.sides.Bounded.{Bounded}
use Rattle.store.specs.Table.{Table}

-- ---- what stands at a position, read with the first `level` names

module _ {ns ts : List ℕ} {ds : Table} {given : ℕ} {xs : Table} {total : ℕ} (w : Model ns ts ds given xs total) (level : ℕ) where
  abbrev pub LeftAt : ℕ → Side → Type 0
  LeftAt at l = SideAt w.world.text ts at (seen_by w.world level) l

  abbrev pub FormAt : ℕ → Linear → Type 0
  FormAt at x = Stands (linear_at (seen_by w.world level) nesting_limit) w.world.text ts at x

-- a right side and the floor of a relation, if it has one
pub record EndsAt {ns ts : List ℕ} {ds : Table} {given : ℕ} (w : World ns ts ds given) (level at : ℕ) (g : Formula) (e : Relation) : Type 0 where
  pub right : Stands (formula_at (seen_by w level) nesting_limit) w.text ts at g
  pub floor : FloorAt (seen_by w level) right.rest e

-- ---- a right side and a floor

-- the value of the right side, then that of the floor
unfoldable pub ends_of : Formula → Relation → Evaluated.Scope → Outcome (Value × Option Value)
ends_of g e s = do
  v ← eval g s
  u ← floor_at e s
  done (v, u)

-- the right side and a word of the floor, all values that fit
pub record EndsHeld (o : Outcome (Value × Option Value)) (v : Value) (word : ℕ) : Type 0 where
  pub floor : Option Value
  pub is : o ≡ done (v, floor)
  pub word-is : word ≡ floor_word floor
  pub valid : Valid v
  pub valid_floor : ValidIfAny floor

abbrev pub EndsFound : Outcome (Value × Option Value) → Result (Value × ℕ) Refused → Type 0
EndsFound o (Ok (v, w)) = EndsHeld o v w
EndsFound o (Err e) = o ≡ refused e.refusal e.place

pub record EndsAre (b : Bool) (ns ts : List ℕ) (ds : Table) (given level : ℕ) (sc : Scope) (at : ℕ) (r : Result (Value × ℕ) Refused) : Type 0 where
  pub is : (w : World ns ts ds given) → Small sc → (g : Formula) (e : Relation) → has_floor e ≡ b → EndsAt w level at g e → EndsFound (ends_of g e (under w sc)) r

-- ---- bounds

pub record NumberOf (ns ts : List ℕ) (ds : Table) (given : ℕ) (xs : Table) (total level : ℕ) (sc : Scope) (at : ℕ) (r : Result (ℕ × ℕ) Refused) : Type 0 where
  pub is : (w : Model ns ts ds given xs total) → Small sc → (i : ℕ) (d : Spans) (fs : Formulas) (p : ℕ) → LeftAt w level at (bare i d fs p)
      → variable_at w.variables i d fs p (under w.world sc) ≡ what_of (number_outcome w.world.text ts r)
  pub below : Model ns ts ds given xs total → (j a : ℕ) → r ≡ Ok (j, a) → j < total

-- what a constraint becomes, and its floor
unfoldable pub fact_with : List Variable → Side → Relation → Formula → Evaluated.Scope → Outcome (Fact × Option Value)
fact_with vs l e g s = do
  f ← fact_of vs l e g s
  u ← floor_at e s
  done (f, u)

-- a bound of one of the variables, and a word of the floor, all values that fit
pub record BoundHeld (total : ℕ) (o : Outcome (Fact × Option Value)) (j : ℕ) (v : Value) (word : ℕ) : Type 0 where
  pub floor : Option Value
  pub is : o ≡ done (bound j v, floor)
  pub word-is : word ≡ floor_word floor
  pub below : j < total
  pub valid : Valid v
  pub valid_floor : ValidIfAny floor

abbrev pub BoundFound : ℕ → Outcome (Fact × Option Value) → Result Bounded Refused → Type 0
BoundFound total o (Ok x) = BoundHeld total o x.variable x.right x.floor
BoundFound total o (Err e) = o ≡ refused e.refusal e.place

-- the bound of a side that states one, under a relation that has a floor or not
pub record BoundIs (b : Bool) (ns ts : List ℕ) (ds : Table) (given : ℕ) (xs : Table) (total level : ℕ) (sc : Scope) (left right : ℕ) (r : Result Bounded Refused) : Type 0 where
  pub is : (w : Model ns ts ds given xs total) → Small sc → (l : Side) → is_bare l ≡ true → LeftAt w level left l → (g : Formula) (e : Relation) → has_floor e ≡ b
      → EndsAt w.world level right g e → BoundFound total (fact_with w.variables l e g (under w.world sc)) r

-- ---- rows

abbrev pub as_is : Row → Row
as_is r = r

-- m holds what F makes of the row that was gathered
pub record Held (vs : List Variable) (F : Row → Row) (o : Outcome Row) (m : List ℤ) : Type 0 where
  pub coefficients : Row
  pub is : o ≡ done coefficients
  pub counts : RowOf vs m (F coefficients)

abbrev pub Holds : List Variable → (Row → Row) → Outcome Row → Result Unit Refused → List ℤ → Type 0
Holds vs F o (Ok tt) m = Held vs F o m
Holds vs F o (Err e) m = o ≡ refused e.refusal e.place

-- the row of the linear form at a position, whatever the counts m were, one for each variable
pub record GathersTo (F : Row → Row) (ns ts : List ℕ) (ds : Table) (given : ℕ) (xs : Table) (total level : ℕ) (sc : Scope) (at : ℕ) (m : List ℤ) (r : Result Unit Refused) (m' : List ℤ) : Type 0 where
  pub size : length m' ≡ length m
  pub is : (w : Model ns ts ds given xs total) → Small sc → length m ≡ total → (x : Linear) → FormAt w level at x
      → Holds w.variables F (gathered w.variables x.form (under w.world sc)) r m'

-- each coefficient that the counts hold comes under the sign b
pub record Turns (b : Bool) (m m' : List ℤ) : Type 0 where
  pub size : length m' ≡ length m
  pub of : (vs : List Variable) (r : Row) → RowOf vs m r → RowOf vs m' (map (signed b) r)

-- m holds the row's coefficients, and the right side v and the floor fit
pub record RowOn (vs : List Variable) (o : Outcome (Fact × Option Value)) (v : Value) (word : ℕ) (m : List ℤ) : Type 0 where
  pub coefficients : Row
  pub floor : Option Value
  pub is : o ≡ done (row coefficients v, floor)
  pub word-is : word ≡ floor_word floor
  pub counts : RowOf vs m coefficients
  pub valid : Valid v
  pub valid_floor : ValidIfAny floor

abbrev pub Rowed : List Variable → Outcome (Fact × Option Value) → Result (Value × ℕ) Refused → List ℤ → Type 0
Rowed vs o (Ok (v, w)) m = RowOn vs o v w m
Rowed vs o (Err e) m = o ≡ refused e.refusal e.place

-- the row of a side that states none, under a relation that flips both sides or not, and has a floor or not
pub record RightIs (b q : Bool) (ns ts : List ℕ) (ds : Table) (given : ℕ) (xs : Table) (total level : ℕ) (sc : Scope) (left right : ℕ) (m : List ℤ) (r : Result (Value × ℕ) Refused) (m' : List ℤ) : Type 0 where
  pub size : length m' ≡ length m
  pub is : (w : Model ns ts ds given xs total) → Small sc → length m ≡ total → (l : Side) → is_bare l ≡ false → LeftAt w level left l → (g : Formula) (e : Relation) → flips e ≡ b → has_floor e ≡ q
      → EndsAt w.world level right g e → Rowed w.variables (fact_with w.variables l e g (under w.world sc)) r m'
