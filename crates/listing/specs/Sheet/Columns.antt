-- The lines of coefficients, as the table of counts tells them.
use Rattle.std.specs.Prelude.{cond, List, [], ◌∷◌, ◌++◌, ℕ, zero, suc, ◌+◌, ℤ}
use Rattle.value.specs.declared.Value.{Value}
use Rattle.value.specs.Decimal.{is_zero}
use Rattle.language.specs.Listing.{Line, col_line}
use Rattle.rows.specs.Slots.{objective_row}
use Rattle.rows.specs.Read.{slot_at, count_at, value_of}

-- a coefficient's line; none for zero
unfoldable pub cell_lines : ℕ → ℕ → Value → List Line
cell_lines j i v = cond (is_zero v) [] (col_line j i v ∷ [])

-- variable j in k rows from row i on, and then in the objective
unfoldable pub column_from : List ℤ → ℕ → ℕ → ℕ → ℕ → List Line
column_from m less j zero i = col_line (j + 1) (i + 1) (value_of (count_at m objective_row j)) ∷ []
column_from m less j (suc k) i = cell_lines (j + 1) (i + 1) (value_of (count_at m (slot_at less i) j)) ++ column_from m less j k (i + 1)

-- k variables from j on, each in all of the rows
unfoldable pub columns_from : List ℤ → ℕ → ℕ → ℕ → ℕ → List Line
columns_from m less rows zero j = []
columns_from m less rows (suc k) j = column_from m less j rows 0 ++ columns_from m less rows k (j + 1)
