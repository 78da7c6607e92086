-- The tables of a problem: its rows in slots with their counts, its objective, its bounds and its sizes.
use Rattle.std.specs.Prelude.{◌≡◌, List, ◌≤◌, length, ℤ}
use Rattle.rules.specs.Limits.{variable_limit}
use Rattle.language.specs.Numbering.{Lp}
use Rattle.rows.specs.declared.Sizes.{Sizes}
use Rattle.rows.specs.Slots.{RowsHeld, ObjectiveHeld}
use Rattle.rows.specs.Bounds.{BoundTable, BoundsHeld}
use Rattle.store.specs.Table.{Table}

pub record Held (slots : Table) (bounds : BoundTable) (m : List ℤ) (sizes : Sizes) (p : Lp) : Type 0 where
  pub discrete : sizes.discrete ≡ p.discrete
  pub variables : sizes.variables ≡ length p.variables
  pub among : p.discrete ≤ length p.variables  -- the discrete variables are the first ones
  pub few : length p.variables ≤ variable_limit
  pub rows : RowsHeld p.variables slots m sizes.less sizes.equal p.entries
  pub objective : ObjectiveHeld p.variables m p.objective
  pub stated : BoundsHeld bounds sizes.variables p.entries
