-- Document 01, "Listing": the lines, and their bytes.
use Rattle.std.specs.Prelude.{Bool, true, false, cond, List, [], ◌∷◌, ◌++◌, map, ℕ, zero, suc, ltb, length, get_or, ℤ, Option, Some, None}
use Rattle.rules.specs.Characters.{code, bytes, tab, line_feed}
use Rattle.value.specs.declared.Value.{Value}
use Rattle.value.specs.Decimal.{zero_value, is_zero}
use Rattle.value.specs.Printed.{natural, printed, printed_whole}
use Rattle.language.specs.Syntax.{Name, Relation, at_most, at_least, between}
use Rattle.language.specs.Syntax
use Rattle.language.specs.Model.{Model}
use Rattle.language.specs.Numbering.{Variable, Row, Fact, bound, row, Entry, Lp, less_rows, rows, lower_of, upper_of}

-- `L`, `E`, and `R` for a row with a floor
pub data Kind : Type 0 where
  less equal range : Kind

-- numbers of variables and rows are those printed, from 1
pub data Line : Type 0 where
  lp_line : (discrete variables less rows : ℕ) → (title data_title : List ℕ) → Line  -- N1, N, M1, M, model string, data string
  row_line : (number : ℕ) → Kind → Value → List ℕ → List ℤ → Line  -- number, `L`, `E` or `R`, right side, string, index values
  low_line : (row : ℕ) → Value → Line  -- row, floor
  var_line : (number : ℕ) → (discrete : Bool) → Value → Option Value → List ℕ → List ℤ → Line  -- number, `D` or `C`, lower, upper or `inf`, name, index values
  col_line : (variable row : ℕ) → Value → Line  -- variable, row, coefficient
  ending_line : Line

-- ---- the lines of a problem

abbrev pub right_of : Fact → Value
right_of (bound j v) = zero_value
right_of (row r v) = v

abbrev pub coefficients_of : Fact → Row
coefficients_of (bound j v) = []
coefficients_of (row r v) = r

abbrev pub kind_of : Relation → Kind
kind_of at_most = less
kind_of at_least = less
kind_of Syntax.equal = equal
kind_of (between h) = range

-- of a row from `<=` or `>=`, by its floor
abbrev pub kind_by : Option Value → Kind
kind_by None = less
kind_by (Some v) = range

-- a floor's line follows its row's
unfoldable pub low_lines : ℕ → Option Value → List Line
low_lines n None = []
low_lines n (Some v) = low_line n v ∷ []

unfoldable pub row_lines : ℕ → List Entry → List Line
row_lines n [] = []
row_lines n (e ∷ es) =
    row_line n (kind_of e.source.constraint.relation) (right_of e.fact) e.source.constraint.title e.source.element
    ∷ (low_lines n e.floor ++ row_lines (suc n) es)

no_name : Name
no_name = record { spelling = []; place = 0; sort = Syntax.index }

-- variable j from 0, of those with number suc j on
unfoldable pub var_lines : List Name → Lp → ℕ → List Variable → List Line
unfolding no_name
var_lines names p j [] = []
var_lines names p j (v ∷ vs) =
    var_line (suc j) (ltb j p.discrete) (lower_of p.entries j) (upper_of p.entries j) (get_or names v.name no_name).spelling v.element
    ∷ var_lines names p (suc j) vs

-- the `col` lines of variable j in the rows from number n on: rows rise, zeros are left out, and row M+1, the objective, is always given
unfoldable pub column_lines : ℕ → ℕ → List Entry → Row → List Line
column_lines j n [] o = col_line (suc j) n (get_or o j zero_value) ∷ []
column_lines j n (e ∷ es) o =
    let v = get_or (coefficients_of e.fact) j zero_value in
    elim (is_zero v) [ true ↦ column_lines j (suc n) es o | false ↦ col_line (suc j) n v ∷ column_lines j (suc n) es o ]

-- by variable, k of them from j on
unfoldable pub col_lines : ℕ → ℕ → List Entry → Row → List Line
col_lines zero j es o = []
col_lines (suc k) j es o = column_lines j 1 es o ++ col_lines k (suc j) es o

unfoldable pub lines_of : Model → Lp → List Line
lines_of m p =
    lp_line p.discrete (length p.variables) (length (less_rows p)) (length (rows p)) m.structure.title m.given.title
    ∷ (row_lines 1 (rows p)
    ++ (var_lines m.structure.names p 0 p.variables
    ++ (col_lines (length p.variables) 0 (rows p) p.objective
    ++ (ending_line ∷ []))))

-- ---- the bytes of a line: fields parted by one tab, a line feed at the end

unfoldable pub fields : List (List ℕ) → List ℕ
fields [] = line_feed ∷ []
fields (f ∷ fs) = tab ∷ (f ++ fields fs)

unfoldable pub upper_field : Option Value → List ℕ
upper_field None = bytes "inf"
upper_field (Some v) = printed v

unfoldable pub kind_field : Kind → List ℕ
kind_field less = bytes "L"
kind_field equal = bytes "E"
kind_field range = bytes "R"

unfoldable pub bytes_of : Line → List ℕ
-- without a data section the last field of `lp` is empty (decision 42)
bytes_of (lp_line a b c d s t) = bytes "lp" ++ fields (natural a ∷ natural b ∷ natural c ∷ natural d ∷ s ∷ t ∷ [])
bytes_of (row_line n q v s e) = bytes "row" ++ fields (natural n ∷ kind_field q ∷ printed v ∷ s ∷ map printed_whole e)
bytes_of (low_line n v) = bytes "low" ++ fields (natural n ∷ printed v ∷ [])
bytes_of (var_line n d l u s e) = bytes "var" ++ fields (natural n ∷ (cond d (code "D") (code "C") ∷ []) ∷ printed l ∷ upper_field u ∷ s ∷ map printed_whole e)
bytes_of (col_line j i v) = bytes "col" ++ fields (natural j ∷ natural i ∷ printed v ∷ [])
bytes_of ending_line = bytes "end" ++ fields []

-- each line is written from the byte where the last one ended
unfoldable pub bytes_of_all : List Line → List ℕ
bytes_of_all [] = []
bytes_of_all (l ∷ ls) = bytes_of l ++ bytes_of_all ls
