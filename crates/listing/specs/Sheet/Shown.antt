-- The tables of a model and of its problem, and the listing that is written from them.
use Rattle.std.specs.Prelude.{◌≡◌, List, ℕ, ◌≤◌, length, ℤ}
use Rattle.rules.specs.Limits.{byte_limit, variable_limit}
use Rattle.value.specs.Printed.{Written}
use Rattle.language.specs.All.{All}
use Rattle.language.specs.Reader.{read_string}
use Rattle.language.specs.Model.{Model}
use Rattle.language.specs.Numbering.{Lp}
use Rattle.language.specs.Listing.{lines_of}
use Rattle.language.specs.Proper.{Proper}
use Rattle.tokens.specs.Stored.{spelling, Named, Stands}
use Rattle.constraints.specs.declared.Record.{Record}
use Rattle.constraints.specs.Rows.{Rows}
use Rattle.store.specs.Entries.{Numbered}
use Rattle.listing.specs.Shown.{shown_lines}
use Rattle.rows.specs.Slots.{RowsHeld, ObjectiveHeld}
use Rattle.rows.specs.Bounds.{BoundTable, BoundsHeld}
use Rattle.rows.specs.Problems.{KeyedVariable, FromConstraint}
use Rattle.rows.specs.declared.Sizes.{Sizes}
use Rattle.store.specs.Table.{Table}

-- the text, its names, tokens and constraints; the variables, rows and bounds, and the counts of the coefficients
pub record Shown (s ns ts : List ℕ) (cs : List Record) (vs rows : Table) (bs : BoundTable) (m : List ℤ) (sizes : Sizes) (at place bytes : ℕ) (x : Model) (p : Lp) : Type 0 where
  pub short : length s ≤ byte_limit
  pub title_place : ℕ
  pub title : Stands read_string s ts at (record { title = x.structure.title; place = title_place })
  pub data_title : x.given.title ≡ spelling s place bytes
  pub named : Named s ns x.structure.names
  pub constrained : Rows s ts cs x.structure.names x.structure.constraints
  pub sources : All (FromConstraint x.structure.constraints) p.entries
  pub discrete : sizes.discrete ≡ p.discrete
  pub few : length p.variables ≤ variable_limit
  pub numbered : Numbered vs sizes.variables p.variables
  pub keyed : All KeyedVariable p.variables
  pub rows_held : RowsHeld p.variables rows m sizes.less sizes.equal p.entries
  pub objective : ObjectiveHeld p.variables m p.objective
  pub bounds : BoundsHeld bs sizes.variables p.entries
  pub proper : All Proper (lines_of x p)

-- the listing, of every model and problem that the tables are of
pub record Lists (s ns ts : List ℕ) (cs : List Record) (vs rows : Table) (bs : BoundTable) (m : List ℤ) (sizes : Sizes) (at place bytes : ℕ) (l : List ℕ) (r : ℕ) (l' : List ℕ) : Type 0 where
  pub lines : (x : Model) (p : Lp) → Shown s ns ts cs vs rows bs m sizes at place bytes x p → Written l 0 (shown_lines (lines_of x p)) r l'
