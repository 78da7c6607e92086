-- Request #101, the export: NAME, ROWS, COLUMNS, RHS, BOUNDS, ENDATA. All six heads are always there, and a line feed ends every line
-- (decision 45). Fields are parted by one space, data lines start with one.
use Rattle.std.specs.Prelude.{cond, List, [], ◌∷◌, ◌++◌, ℕ, zero, suc, length, Option, Some, None}
use Rattle.rules.specs.Characters.{bytes, line_feed}
use Rattle.value.specs.declared.Value.{Value}
use Rattle.value.specs.Decimal.{negate, is_zero}
use Rattle.value.specs.Printed.{natural, printed}
use Rattle.mps.specs.Sheet.{Column, Bounds, Sheet, less}

-- ---- the lines, with rows and variables by number, from 1

-- a name with its number, and what follows it in the line
unfoldable pub named : List ℕ → ℕ → List ℕ → List ℕ
named w n r = w ++ (natural n ++ r)

unfoldable pub less_line : ℕ → List ℕ
less_line n = named (bytes " L R") n (bytes "\n")

-- a floor is a row of its own (document 02, #104)
unfoldable pub floor_line : ℕ → List ℕ
floor_line n = named (bytes " G F") n (bytes "\n")

unfoldable pub equal_line : ℕ → List ℕ
equal_line n = named (bytes " E R") n (bytes "\n")

-- the start of a coefficient's line: of variable j in row n, in its floor, and in the objective
unfoldable pub cell_head : ℕ → ℕ → List ℕ
cell_head j n = named (bytes " C") j (named (bytes " R") n (bytes " "))

unfoldable pub floor_cell_head : ℕ → ℕ → List ℕ
floor_cell_head j n = named (bytes " C") j (named (bytes " F") n (bytes " "))

unfoldable pub objective_head : ℕ → List ℕ
objective_head j = named (bytes " C") j (bytes " OBJ ")

unfoldable pub right_head : ℕ → List ℕ
right_head n = named (bytes " MODEL R") n (bytes " ")

unfoldable pub floor_head : ℕ → List ℕ
floor_head n = named (bytes " MODEL F") n (bytes " ")

unfoldable pub lower_head : ℕ → List ℕ
lower_head j = named (bytes " LO MODEL C") j (bytes " ")

unfoldable pub upper_head : ℕ → List ℕ
upper_head j = named (bytes " UP MODEL C") j (bytes " ")

unfoldable pub no_upper_line : ℕ → List ℕ
no_upper_line j = named (bytes " PL MODEL C") j (bytes "\n")

-- a line that ends with a value
unfoldable pub value_line : List ℕ → Value → List ℕ
value_line h v = h ++ (printed v ++ (line_feed ∷ []))

-- what a floor adds, if there is one
abbrev pub if_floor : Option Value → (Value → List ℕ) → List ℕ
if_floor None f = []
if_floor (Some w) f = f w

-- ---- the sections; i and j count rows and variables from 0. A floor's line follows its row's in each of them

-- rows from `<=` and `>=`
unfoldable pub less_lines : ℕ → List (Option Value) → List ℕ
less_lines i [] = []
less_lines i (w ∷ ws) = less_line (suc i) ++ (if_floor w (λ _. floor_line (suc i)) ++ less_lines (suc i) ws)

-- k rows from `=`
unfoldable pub equal_lines : ℕ → ℕ → List ℕ
equal_lines zero i = []
equal_lines (suc k) i = equal_line (suc i) ++ equal_lines k (suc i)

-- the floor of the next row, and those of the rows that follow; none behind the last of the list
abbrev pub first_floor : List (Option Value) → Option Value
first_floor [] = None
first_floor (w ∷ ws) = w

abbrev pub later_floors : List (Option Value) → List (Option Value)
later_floors [] = []
later_floors (w ∷ ws) = ws

-- the coefficients of variable j in the rows from i on: zeros are left out
unfoldable pub cell_lines : ℕ → ℕ → List (Option Value) → List Value → List ℕ
cell_lines j i ws [] = []
cell_lines j i ws (v ∷ vs) =
    cond (is_zero v) [] (value_line (cell_head (suc j) (suc i)) v ++ if_floor (first_floor ws) (λ _. value_line (floor_cell_head (suc j) (suc i)) v))
    ++ cell_lines j (suc i) (later_floors ws) vs

-- Readers of MPS minimise, so the objective's coefficient changes its sign; it comes last and is always given
unfoldable pub column_lines : List (Option Value) → ℕ → Column → List ℕ
column_lines ws j c = cell_lines j 0 ws c.cells ++ value_line (objective_head (suc j)) (negate c.objective)

unfoldable pub columns_from : List (Option Value) → ℕ → List Column → List ℕ
columns_from ws j [] = []
columns_from ws j (c ∷ cs) = column_lines ws j c ++ columns_from ws (suc j) cs

-- whole variables, if any, stand between two markers
unfoldable pub discrete_lines : List (Option Value) → List Column → List ℕ
discrete_lines ws [] = []
discrete_lines ws (c ∷ cs) = bytes " M 'MARKER' 'INTORG'\n" ++ (columns_from ws 0 (c ∷ cs) ++ bytes " M 'MARKER' 'INTEND'\n")

-- each row has its line, also for 0
unfoldable pub right_lines : ℕ → List (Option Value) → List Value → List ℕ
right_lines i ws [] = []
right_lines i ws (v ∷ vs) =
    value_line (right_head (suc i)) v ++ (if_floor (first_floor ws) (λ w. value_line (floor_head (suc i)) w) ++ right_lines (suc i) (later_floors ws) vs)

unfoldable pub upper_line : ℕ → Option Value → List ℕ
upper_line j None = no_upper_line j
upper_line j (Some v) = value_line (upper_head j) v

unfoldable pub bound_lines : ℕ → List Bounds → List ℕ
bound_lines j [] = []
bound_lines j (b ∷ bs) = value_line (lower_head (suc j)) b.lower ++ (upper_line (suc j) b.upper ++ bound_lines (suc j) bs)

-- ---- the export

unfoldable pub mps_of : Sheet → List ℕ
mps_of s =
    bytes "NAME MODEL\nROWS\n N OBJ\n"
    ++ (less_lines 0 s.floors ++ (equal_lines s.equal (less s)
    ++ (bytes "COLUMNS\n"
    ++ (discrete_lines s.floors s.discrete ++ (columns_from s.floors (length s.discrete) s.continuous
    ++ (bytes "RHS\n" ++ (right_lines 0 s.floors s.rights
    ++ (bytes "BOUNDS\n" ++ (bound_lines 0 s.bounds
    ++ bytes "ENDATA\n")))))))))
