-- The sheet of a generated problem, and the export of an accepted model.
use Rattle.std.specs.Prelude.{List, [], ◌∷◌, map, ℕ, zero, suc, ◌-◌, length, get_or, Option}
use Rattle.value.specs.declared.Value.{Value}
use Rattle.value.specs.Decimal.{zero_value}
use Rattle.language.specs.Numbering.{Entry, Lp, less_rows, equal_rows, rows, lower_of, upper_of}
use Rattle.language.specs.Listing.{right_of, coefficients_of}
use Rattle.language.specs.Answer.{Accepted}
use Rattle.mps.specs.Sheet.{Column, Bounds, Sheet}
use Rattle.mps.specs.Export.{mps_of}

unfoldable pub entry_right : Entry → Value
entry_right e = right_of e.fact

unfoldable pub entry_floor : Entry → Option Value
entry_floor e = e.floor

-- the coefficient of variable j, from 0, in a row
unfoldable pub cell_of : ℕ → Entry → Value
cell_of j e = get_or (coefficients_of e.fact) j zero_value

unfoldable pub column_at : Lp → ℕ → Column
column_at p j = record { cells = map (cell_of j) (rows p); objective = get_or p.objective j zero_value }

unfoldable pub bounds_at : Lp → ℕ → Bounds
bounds_at p j = record { lower = lower_of p.entries j; upper = upper_of p.entries j }

-- for k variables from j on
unfoldable pub each : {A : Type 0} → (ℕ → A) → ℕ → ℕ → List A
each f zero j = []
each f (suc k) j = f j ∷ each f k (suc j)

unfoldable pub sheet_of : Lp → Sheet
sheet_of p = record {
  floors = map entry_floor (less_rows p);
  equal = length (equal_rows p);
  discrete = each (column_at p) p.discrete 0;
  continuous = each (column_at p) (length p.variables - p.discrete) p.discrete;
  rights = map entry_right (rows p);
  bounds = each (bounds_at p) (length p.variables) 0;
}

unfoldable pub export_of : Accepted → List ℕ
export_of a = mps_of (sheet_of a.problem)
