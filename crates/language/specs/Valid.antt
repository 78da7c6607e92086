-- What is valid: values that fit, and index numbers no larger than a value's, wherever a scope, the data or a problem holds
-- them; and as many variables and rows as the tables take.
use Rattle.std.specs.Prelude.{◌≡◌, List, ℕ, ◌≤◌, length, ℤ, nat_abs, Option, Some, None}
use Rattle.rules.specs.Limits.{mantissa_limit, variable_limit, row_limit}
use Rattle.value.specs.declared.Value.{Value}
use Rattle.value.specs.Decimal.{Valid}
use Rattle.language.specs.All.{All}
use Rattle.language.specs.Scope.{Binding, Scope}
use Rattle.language.specs.Store.{Datum, Store}
use Rattle.language.specs.Numbering.{Variable, Row, Fact, bound, row, Entry, Lp, rows}

-- a whole number no larger than a value's
abbrev pub Small : ℤ → Type 0
Small k = nat_abs k ≤ mantissa_limit

abbrev pub SmallElement : List ℤ → Type 0
SmallElement e = All Small e

-- ---- what formulas are read under

abbrev pub SmallBinding : Binding → Type 0
SmallBinding b = Small b.at

pub record ValidScope (s : Scope) : Type 0 where
  pub known : (i : ℕ) (e : List ℤ) (v : Value) → s.known i e ≡ Some v → Valid v
  pub bound : All SmallBinding s.bound

pub record ValidDatum (x : Datum) : Type 0 where
  pub value : Valid x.value
  pub element : SmallElement x.element

abbrev pub ValidStore : Store → Type 0
ValidStore st = All ValidDatum st

-- ---- what is generated

abbrev pub ValidRow : Row → Type 0
ValidRow r = All Valid r

abbrev pub ValidVariable : Variable → Type 0
ValidVariable v = SmallElement v.element

abbrev pub ValidFact : Fact → Type 0
ValidFact (bound j v) = Valid v
ValidFact (row r v) = ValidRow r × Valid v

-- an upper bound or a floor, which may be absent
abbrev pub ValidIfAny : Option Value → Type 0
ValidIfAny None = Unit
ValidIfAny (Some v) = Valid v

pub record ValidEntry (e : Entry) : Type 0 where
  pub element : SmallElement e.source.element
  pub fact : ValidFact e.fact
  pub floor : ValidIfAny e.floor

pub record ValidProblem (p : Lp) : Type 0 where
  pub variables : All ValidVariable p.variables
  pub entries : All ValidEntry p.entries
  pub objective : ValidRow p.objective
  pub few-discrete : p.discrete ≤ variable_limit
  pub few-variables : length p.variables ≤ variable_limit
  pub few-rows : length (rows p) ≤ row_limit
