-- The parts of the reader of exports (`mps`, `read_sheet`) that inner functions follow, and the bytes that are written of what each reads.
-- `proofs/Sections` joins them again.
use Rattle.std.specs.Prelude.{Bool, false, cond, List, [], ◌∷◌, ◌++◌, ℕ, zero, suc, ◌+◌, ◌-◌, leb, ltb, length, get_or, Option, Some, None}
use Rattle.rules.specs.Characters.{bytes}
use Rattle.rules.specs.Limits.{variable_limit}
use Rattle.value.specs.declared.Value.{Value}
use Rattle.value.specs.Decimal.{zero_value, is_zero}
use Rattle.language.specs.Listing.{row_line, var_line, col_line, kind_by, low_lines}
use Rattle.language.specs.Listing as Listing
use Rattle.listing.specs.Shown.{shown_lines}
use Rattle.listing.specs.Bare.{bare_row}
use Rattle.mps.specs.Sheet.{Column, Bounds, Sheet}
use Rattle.mps.specs.Export.{named, cell_head, floor_cell_head, right_head, lower_head, value_line}
use Rattle.mps.specs.Report.{bare_line, bare_lines, column_of, columns_of}
use Rattle.mps.specs.Reading.{Read, Reader, follow, ◌>>=◌, give, unless, strip, expect, read_value, line_value, read_floor, read_upper, read_columns, read_discrete, Kinds, read_kinds}

-- ---- one thing after the other

unfoldable pub read_each : {A : Type 0} → (ℕ → Reader A) → ℕ → ℕ → Reader (List A)
read_each m zero i = give []
read_each m (suc k) i = m i >>= λ a. read_each m k (suc i) >>= λ xs. give (a ∷ xs)

unfoldable pub bytes_each : {A : Type 0} → (ℕ → A → List ℕ) → ℕ → List A → List ℕ
bytes_each f i [] = []
bytes_each f i (a ∷ xs) = f i a ++ bytes_each f (suc i) xs

-- ---- rows

unfoldable pub opening : Reader Kinds
opening = do
  _ ← expect (bytes "NAME MODEL\nROWS\n N OBJ\n")
  n ← read_kinds
  _ ← expect (bytes "COLUMNS\n")
  give n

-- ---- coefficients; i and j count rows and variables from 0, and a list has it which rows have a floor

-- the start of a line of variable j, in what a word and a number name
unfoldable pub head_of : ℕ → List ℕ → ℕ → List ℕ
head_of j w n = named (bytes " C") j (named w n (bytes " "))

-- a coefficient's line again, in the floor of its row, if this has one
unfoldable pub again_line : List Bool → ℕ → ℕ → Value → List ℕ
again_line bs j i v = cond (get_or bs i false) (value_line (floor_cell_head (suc j) (suc i)) v) []

-- 0 where no line is
unfoldable pub cell_or : (Value → List ℕ) → List ℕ → Option (List ℕ) → Option (Read Value)
cell_or again l None = give zero_value l
cell_or again l (Some r) = follow (read_value r) (λ v. unless (is_zero v) (expect (again v) >>= λ _. give v))

unfoldable pub cell_at : List Bool → ℕ → ℕ → Reader Value
cell_at bs j i = λ l. cell_or (again_line bs j i) l (strip (cell_head (suc j) (suc i)) l)

unfoldable pub cell_bytes : ℕ → ℕ → Value → List ℕ
cell_bytes j i v = bare_lines (cond (is_zero v) [] (col_line (suc j) (suc i) v ∷ []))

unfoldable pub column_bytes : ℕ → Column → List ℕ
column_bytes j c = bare_lines (column_of j c)

unfoldable pub columns_bytes : ℕ → List Column → List ℕ
columns_bytes j cs = bare_lines (columns_of j cs)

-- whole variables, then the others
pub record Matrix : Type 0 where
  pub discrete : List Column
  pub continuous : List Column

unfoldable pub read_matrix : List Bool → ℕ → Reader Matrix
read_matrix bs rows = do
  ds ← read_discrete bs rows
  cs ← read_columns bs rows (variable_limit - length ds) (length ds)
  give (record { discrete = ds; continuous = cs })

unfoldable pub matrix_bytes : Matrix → List ℕ
matrix_bytes m = columns_bytes 0 (m.discrete ++ m.continuous)

-- ---- right sides and bounds

-- a row's right side, and its floor
pub record Side : Type 0 where
  pub right : Value
  pub floor : Option Value

unfoldable pub floor_at : List Bool → ℕ → Reader (Option Value)
floor_at bs i = read_floor (get_or bs i false) i

unfoldable pub side_at : List Bool → ℕ → Reader Side
side_at bs i = do
  v ← line_value (right_head (suc i))
  w ← floor_at bs i
  give (record { right = v; floor = w })

-- what is written of a row by number, whatever its values
unfoldable pub side_shown : ℕ → Bool → Value → Option Value → List ℕ
side_shown n q v w = bare_row n (cond q Listing.equal (kind_by w)) v ++ shown_lines (low_lines n w)

unfoldable pub side_bytes : ℕ → ℕ → Side → List ℕ
side_bytes less i s =
    bare_line (row_line (suc i) (cond (leb less i) Listing.equal (kind_by s.floor)) s.right [] [])
    ++ bare_lines (cond (leb less i) [] (low_lines (suc i) s.floor))

unfoldable pub bounds_at : ℕ → Reader Bounds
bounds_at j = do
  v ← line_value (lower_head (suc j))
  u ← read_upper (suc j)
  give (record { lower = v; upper = u })

unfoldable pub bounds_bytes : ℕ → ℕ → Bounds → List ℕ
bounds_bytes discrete j b = bare_line (var_line (suc j) (ltb j discrete) b.lower b.upper [] [])

unfoldable pub rights_part : List Bool → ℕ → Reader (List Side)
rights_part bs rows = do
  _ ← expect (bytes "RHS\n")
  read_each (side_at bs) rows 0

unfoldable pub bounds_part : ℕ → Reader (List Bounds)
bounds_part variables = do
  _ ← expect (bytes "BOUNDS\n")
  bs ← read_each bounds_at variables 0
  _ ← expect (bytes "ENDATA\n")
  give bs

-- ---- behind the columns, and behind the rows

pub record Sides : Type 0 where
  pub sides : List Side
  pub bounds : List Bounds

unfoldable pub sides_part : List Bool → ℕ → ℕ → Reader Sides
sides_part bs rows variables = do
  ss ← rights_part bs rows
  bounds ← bounds_part variables
  give (record { sides = ss; bounds = bounds })

unfoldable pub sides_bytes : ℕ → ℕ → Sides → List ℕ
sides_bytes less discrete s = bytes_each (side_bytes less) 0 s.sides ++ bytes_each (bounds_bytes discrete) 0 s.bounds

abbrev pub rights_of : List Side → List Value
rights_of [] = []
rights_of (s ∷ ss) = s.right ∷ rights_of ss

-- the floors of the first rows
abbrev pub floors_of : ℕ → List Side → List (Option Value)
floors_of zero ss = []
floors_of (suc n) [] = []
floors_of (suc n) (s ∷ ss) = s.floor ∷ floors_of n ss

abbrev pub sheet_of : Kinds → Matrix → Sides → Sheet
sheet_of n m s =
    record {
      floors = floors_of (length n.less) s.sides;
      equal = n.equal;
      discrete = m.discrete;
      continuous = m.continuous;
      rights = rights_of s.sides;
      bounds = s.bounds;
    }

unfoldable pub sheet_from : Kinds → Reader Sheet
sheet_from n = do
  m ← read_matrix n.less (length n.less + n.equal)
  s ← sides_part n.less (length n.less + n.equal) (length m.discrete + length m.continuous)
  give (sheet_of n m s)
