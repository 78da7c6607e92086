-- Request #101, what the reader of an export prints: a listing's `row`, `low`, `var` and `col` lines without strings, names and index values.
use Rattle.std.specs.Prelude.{cond, List, [], ◌∷◌, ◌++◌, ℕ, suc, ltb, length, Option}
use Rattle.rules.specs.Characters.{code, bytes}
use Rattle.value.specs.declared.Value.{Value}
use Rattle.value.specs.Decimal.{is_zero}
use Rattle.value.specs.Printed.{natural, printed}
use Rattle.language.specs.Listing.{Line, lp_line, row_line, low_line, var_line, col_line, ending_line, kind_by, low_lines, kind_field, fields, upper_field}
use Rattle.language.specs.Listing as Listing
use Rattle.mps.specs.Sheet.{Column, Bounds, Sheet, columns}

-- a line without its string or name and without its index values; nothing for `lp` and `end`
unfoldable pub bare_line : Line → List ℕ
bare_line (lp_line a b c d s t) = []
bare_line (row_line n q v s e) = bytes "row" ++ fields (natural n ∷ kind_field q ∷ printed v ∷ [])
bare_line (low_line n v) = bytes "low" ++ fields (natural n ∷ printed v ∷ [])
bare_line (var_line n d l u s e) = bytes "var" ++ fields (natural n ∷ (cond d (code "D") (code "C") ∷ []) ∷ printed l ∷ upper_field u ∷ [])
bare_line (col_line j i v) = bytes "col" ++ fields (natural j ∷ natural i ∷ printed v ∷ [])
bare_line ending_line = []

unfoldable pub bare_lines : List Line → List ℕ
bare_lines [] = []
bare_lines (l ∷ ls) = bare_line l ++ bare_lines ls

-- ---- the lines of a sheet; i and j count rows and variables from 0

-- rows with a list of floors are `L` or `R`, those behind them `E`
unfoldable pub rows_from : ℕ → List (Option Value) → List Value → List Line
rows_from i ws [] = []
rows_from i [] (v ∷ vs) = row_line (suc i) Listing.equal v [] [] ∷ rows_from (suc i) [] vs
rows_from i (w ∷ ws) (v ∷ vs) = row_line (suc i) (kind_by w) v [] [] ∷ (low_lines (suc i) w ++ rows_from (suc i) ws vs)

-- the first `discrete` variables are `D`
unfoldable pub variables_from : ℕ → ℕ → List Bounds → List Line
variables_from discrete j [] = []
variables_from discrete j (b ∷ bs) = var_line (suc j) (ltb j discrete) b.lower b.upper [] [] ∷ variables_from discrete (suc j) bs

-- rows rise, zeros are left out, and row M+1, the objective, is always given
unfoldable pub cells_from : ℕ → ℕ → List Value → List Line
cells_from j i [] = []
cells_from j i (v ∷ vs) = cond (is_zero v) [] (col_line (suc j) (suc i) v ∷ []) ++ cells_from j (suc i) vs

unfoldable pub column_of : ℕ → Column → List Line
column_of j c = cells_from j 0 c.cells ++ (col_line (suc j) (suc (length c.cells)) c.objective ∷ [])

unfoldable pub columns_of : ℕ → List Column → List Line
columns_of j [] = []
columns_of j (c ∷ cs) = column_of j c ++ columns_of (suc j) cs

unfoldable pub sheet_lines : Sheet → List Line
sheet_lines s =
    rows_from 0 s.floors s.rights
    ++ (variables_from (length s.discrete) 0 s.bounds
    ++ columns_of 0 (columns s))

unfoldable pub bare_of : Sheet → List ℕ
bare_of s = bare_lines (sheet_lines s)
