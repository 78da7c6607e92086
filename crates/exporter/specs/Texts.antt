-- The export, as the tables of a problem tell it: what is written whatever they hold, with nothing for a value that is out of
-- range. Of the tables of a problem it is the definition's (`proofs/Told.antt`).
use Rattle.std.specs.Prelude.{cond, List, [], ◌∷◌, ◌++◌, ℕ, zero, suc, ◌+◌, ◌-◌, ltb, ℤ, Option, Some, None}
use Rattle.rules.specs.Characters.{bytes, line_feed}
use Rattle.value.specs.declared.Value.{Value}
use Rattle.value.specs.Decimal.{negate, is_zero, in_range}
use Rattle.value.specs.Printed.{shown}
use Rattle.store.specs.Table.{Table, word_at}
use Rattle.store.specs.Packed.{unpacked}
use Rattle.rows.specs.Slots.{objective_row, floor_slot}
use Rattle.rows.specs.Bounds.{BoundTable}
use Rattle.rows.specs.Read.{slot_at, count_at, value_of, lower_in, upper_in, end_in}
use Rattle.mps.specs.Export.{named, less_line, floor_line, equal_line, cell_head, floor_cell_head, objective_head, right_head, floor_head, lower_head, upper_head, no_upper_line, if_floor}

-- a text for each of k numbers from i on
unfoldable pub text_from : (ℕ → List ℕ) → ℕ → ℕ → List ℕ
text_from f zero i = []
text_from f (suc k) i = f i ++ text_from f k (i + 1)

-- a line that ends with a value
unfoldable pub shown_line : List ℕ → Value → List ℕ
shown_line h v = h ++ (shown v ++ (line_feed ∷ []))

-- ---- rows and variables are counted from 0, and numbered from 1

-- the floor of row i, if it is one of the first `less` and has one
unfoldable pub floor_at : Table → ℕ → ℕ → Option Value
floor_at t less i = cond (ltb i less) (end_in (word_at t (floor_slot i))) None

-- the row that a floor adds, by its number
unfoldable pub floor_row : ℕ → Option Value → List ℕ
floor_row n w = if_floor w (λ _. floor_line n)

-- the lines of row i, of which the first `less` are those of `<=` and `>=`
unfoldable pub row_text : Table → ℕ → ℕ → List ℕ
row_text t less i = cond (ltb i less) (less_line (i + 1) ++ floor_row (i + 1) (floor_at t less i)) (equal_line (i + 1))

-- the start of a coefficient's line: of variable j in row i or in its floor, by their numbers and the row's first word
unfoldable pub cell_start : ℕ → List ℕ → ℕ → List ℕ
cell_start j w i = named (bytes " C") j (named w i (bytes " "))

-- a coefficient in a row, and again in its floor
unfoldable pub shown_twice : ℕ → ℕ → Value → Option Value → List ℕ
shown_twice j i v w = shown_line (cell_head j i) v ++ if_floor w (λ _. shown_line (floor_cell_head j i) v)

-- none for zero
unfoldable pub shown_cell : ℕ → ℕ → Value → Option Value → List ℕ
shown_cell j i v w = cond (is_zero v) [] (shown_twice j i v w)

-- of variable j in row i
unfoldable pub cell_text : Table → List ℤ → ℕ → ℕ → ℕ → List ℕ
cell_text t m less j i = shown_cell (j + 1) (i + 1) (value_of (count_at m (slot_at less i) j)) (floor_at t less i)

-- the opposite of a value; what is out of range stays
unfoldable pub opposite : Value → Value
opposite v = cond (in_range v) (negate v) v

unfoldable pub objective_text : List ℤ → ℕ → List ℕ
objective_text m j = shown_line (objective_head (j + 1)) (opposite (value_of (count_at m objective_row j)))

-- variable j in n rows and in the objective
unfoldable pub column_text : Table → List ℤ → ℕ → ℕ → ℕ → List ℕ
column_text t m less n j = text_from (cell_text t m less j) n 0 ++ objective_text m j

-- k discrete variables
unfoldable pub discrete_text : Table → List ℤ → ℕ → ℕ → ℕ → List ℕ
discrete_text t m less n zero = []
discrete_text t m less n (suc k) = bytes " M 'MARKER' 'INTORG'\n" ++ (text_from (column_text t m less n) (suc k) 0 ++ bytes " M 'MARKER' 'INTEND'\n")

-- a floor's line, by its number
unfoldable pub shown_floor : ℕ → Option Value → List ℕ
shown_floor n w = if_floor w (λ v. shown_line (floor_head n) v)

-- the right side of row i, and its floor
unfoldable pub right_text : Table → ℕ → ℕ → List ℕ
right_text t less i = shown_line (right_head (i + 1)) (unpacked (word_at t (slot_at less i))) ++ shown_floor (i + 1) (floor_at t less i)

unfoldable pub shown_upper : ℕ → Option Value → List ℕ
shown_upper j None = no_upper_line j
shown_upper j (Some v) = shown_line (upper_head j) v

-- the bounds of variable j
unfoldable pub bound_text : BoundTable → ℕ → List ℕ
bound_text b j = shown_line (lower_head (j + 1)) (lower_in b j) ++ shown_upper (j + 1) (upper_in b j)

-- ---- sections

unfoldable pub rows_text : Table → ℕ → ℕ → List ℕ
rows_text t less n = bytes "NAME MODEL\nROWS\n N OBJ\n" ++ text_from (row_text t less) n 0

unfoldable pub columns_text : Table → List ℤ → ℕ → ℕ → ℕ → ℕ → List ℕ
columns_text t m less n discrete variables =
    bytes "COLUMNS\n" ++ (discrete_text t m less n discrete ++ text_from (column_text t m less n) (variables - discrete) discrete)

unfoldable pub rights_text : Table → ℕ → ℕ → List ℕ
rights_text t less n = bytes "RHS\n" ++ text_from (right_text t less) n 0

unfoldable pub bounds_text : BoundTable → ℕ → List ℕ
bounds_text b n = bytes "BOUNDS\n" ++ (text_from (bound_text b) n 0 ++ bytes "ENDATA\n")
