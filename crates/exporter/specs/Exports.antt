-- The export that is written from the tables of a problem.
use Rattle.std.specs.Prelude.{Bool, ◌&&◌, List, ℕ, leb, ℤ}
use Rattle.value.specs.Printed.{Written}
use Rattle.language.specs.Numbering.{Lp}
use Rattle.rows.specs.declared.Sizes.{Sizes}
use Rattle.rows.specs.Read.{within}
use Rattle.rows.specs.Held.{Held}
use Rattle.mps.specs.Export.{mps_of}
use Rattle.mps.specs.Problem.{sheet_of}
use Rattle.store.specs.Table.{Table}
use Rattle.rows.specs.Bounds.{BoundTable}

-- the discrete variables are among all, and the tables have room
unfoldable pub formed : Sizes → Bool
formed x = leb x.discrete x.variables && within x

-- the export, of every problem that the tables are of
pub record Exports (slots : Table) (bounds : BoundTable) (m : List ℤ) (sizes : Sizes) (l : List ℕ) (r : ℕ) (l' : List ℕ) : Type 0 where
  pub lines : (p : Lp) → Held slots bounds m sizes p → Written l 0 (mps_of (sheet_of p)) r l'
