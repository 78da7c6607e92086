-- A problem without its strings, names and index values: what an export keeps (decision 45). Rows and variables have no numbers here, their
-- order numbers them, so a sheet is in document 01's order and has no gaps.
use Rattle.std.specs.Prelude.{◌≡◌, List, ◌++◌, ℕ, ◌+◌, ◌≤◌, length, Option}
use Rattle.rules.specs.Limits.{row_limit, variable_limit}
use Rattle.value.specs.declared.Value.{Value}
use Rattle.value.specs.Decimal.{Valid}
use Rattle.language.specs.All.{All}
use Rattle.language.specs.Valid.{ValidIfAny}

-- a variable's coefficients: one for each row, 0 where the row has none, and that of the listing's row M+1, the objective
pub record Column : Type 0 where
  pub cells : List Value
  pub objective : Value

pub record Bounds : Type 0 where
  pub lower : Value
  pub upper : Option Value

pub record Sheet : Type 0 where
  pub floors : List (Option Value)  -- for each row from `<=` and `>=`, numbered first: its floor, if it has one
  pub equal : ℕ  -- rows from `=`
  pub discrete : List Column  -- whole variables, numbered first
  pub continuous : List Column
  pub rights : List Value  -- a right side for each row
  pub bounds : List Bounds  -- for each variable

abbrev pub less : Sheet → ℕ
less s = length s.floors

abbrev pub columns : Sheet → List Column
columns s = s.discrete ++ s.continuous

-- ---- document 01's form: the counts agree, there are at most 512 rows and 512 variables, and every value fits, in least form

pub record ColumnFormed (rows : ℕ) (c : Column) : Type 0 where
  pub size : length c.cells ≡ rows
  pub cells : All Valid c.cells
  pub objective : Valid c.objective

pub record BoundsFormed (b : Bounds) : Type 0 where
  pub lower : Valid b.lower
  pub upper : ValidIfAny b.upper

pub record Formed (s : Sheet) : Type 0 where
  pub row_count : length s.rights ≡ less s + s.equal
  pub few_rows : less s + s.equal ≤ row_limit
  pub variable_count : length s.bounds ≡ length s.discrete + length s.continuous
  pub few_variables : length s.discrete + length s.continuous ≤ variable_limit
  pub floors : All ValidIfAny s.floors
  pub discrete : All (ColumnFormed (less s + s.equal)) s.discrete
  pub continuous : All (ColumnFormed (less s + s.equal)) s.continuous
  pub rights : All Valid s.rights
  pub bounds : All BoundsFormed s.bounds
