-- A reader of exports, which goes as the code goes. Nobody has to believe it: `proofs/Sound` and `proofs/Complete` show that it finds the
-- sheet whose export a text is, and nothing where there is none.
use Rattle.std.specs.Prelude.{Bool, true, false, cond, List, [], ◌∷◌, ◌++◌, ℕ, zero, suc, ◌+◌, ◌-◌, eqb, length, Option, Some, None}
use Rattle.rules.specs.Characters.{bytes, line_feed}
use Rattle.rules.specs.Limits.{row_limit, variable_limit}
use Rattle.value.specs.declared.Value.{Value}
use Rattle.value.specs.Decimal.{zero_value, negate, is_zero}
use Rattle.value.specs.Printed.{printed}
use Rattle.value.proofs.ReadBack.{read_back}
use Rattle.lexer.specs.Text.{front, behind, same_bytes}
use Rattle.mps.specs.Sheet.{Column, Bounds, Sheet}
use Rattle.mps.specs.Export.{less_line, floor_line, equal_line, cell_head, floor_cell_head, objective_head, right_head, floor_head, lower_head, upper_head, no_upper_line, value_line}

-- what is read, and the text that follows it
pub record Read (A : Type 0) : Type 0 where
  pub what : A
  pub rest : List ℕ

abbrev pub Reader : Type 0 → Type 0
Reader A = List ℕ → Option (Read A)

module _ {A B : Type 0} where
  abbrev pub follow : Option (Read A) → (A → Reader B) → Option (Read B)
  follow None f = None
  follow (Some r) f = f r.what r.rest

  infixl 1 ◌>>=◌
  abbrev pub ◌>>=◌ : Reader A → (A → Reader B) → Reader B
  ◌>>=◌ m f = λ l. follow (m l) f

module _ {A : Type 0} where
  abbrev pub give : A → Reader A
  give a = λ l. Some (record { what = a; rest = l })

  -- nothing unless a test holds
  abbrev pub unless : Bool → Reader A → Reader A
  unless true m = λ l. None
  unless false m = m

-- ---- words and values

-- what follows a word
unfoldable pub strip : List ℕ → List ℕ → Option (List ℕ)
strip [] l = Some l
strip (b ∷ w) [] = None
strip (b ∷ w) (c ∷ l) = elim (eqb b c) [ true ↦ strip w l | false ↦ None ]

abbrev pub as_read : Option (List ℕ) → Option (Read (Unit {0}))
as_read None = None
as_read (Some l) = Some (record { what = tt; rest = l })

abbrev pub expect : List ℕ → Reader (Unit {0})
expect w = λ l. as_read (strip w l)

unfoldable pub in_line : ℕ → Bool
in_line b = cond (eqb b line_feed) false true

-- the value whose print these bytes are
unfoldable pub print_of : List ℕ → Option Value → Option Value
print_of f (Some v) = cond (same_bytes (printed v) f) (Some v) None
print_of f None = None

unfoldable pub value_of : List ℕ → Option Value
value_of f = print_of f (read_back f)

abbrev pub value_then : Option Value → List ℕ → Option (Read Value)
value_then None l = None
value_then (Some v) l = follow (as_read (strip (line_feed ∷ []) l)) (λ _. give v)

-- a value and the line feed that follows it
unfoldable pub read_value : Reader Value
read_value l = value_then (value_of (front in_line l)) (behind in_line l)

-- a value's line
unfoldable pub line_value : List ℕ → Reader Value
line_value h = do
  _ ← expect h
  read_value

-- ---- sections

-- whether a floor's line is here
unfoldable pub floor_here : ℕ → List ℕ → Read Bool
floor_here i l = elim (strip (floor_line (suc i)) l) [ None ↦ record { what = false; rest = l } | Some r ↦ record { what = true; rest = r } ]

-- rows from `<=` and `>=`, at most k, from row i on: which of them have a floor
unfoldable pub less_rows : ℕ → ℕ → List ℕ → Read (List Bool)
less_rows zero i l = record { what = []; rest = l }
less_rows (suc k) i l = elim (strip (less_line (suc i)) l) [
  | None ↦ record { what = []; rest = l }
  | Some r ↦
      let f = floor_here i r in
      let q = less_rows k (suc i) f.rest in
      record { what = f.what ∷ q.what; rest = q.rest }
]

-- how many rows from `=` are named, at most k, from row i on
unfoldable pub equal_rows : ℕ → ℕ → List ℕ → Read ℕ
equal_rows zero i l = record { what = 0; rest = l }
equal_rows (suc k) i l = elim (strip (equal_line (suc i)) l) [
  | None ↦ record { what = 0; rest = l }
  | Some r ↦
      let q = equal_rows k (suc i) r in
      record { what = suc q.what; rest = q.rest }
]

-- whether the next row has a floor, and the rows that follow
abbrev pub first_has : List Bool → Bool
first_has [] = false
first_has (b ∷ bs) = b

abbrev pub later_have : List Bool → List Bool
later_have [] = []
later_have (b ∷ bs) = bs

-- a coefficient again, in the row's floor, if it has one
unfoldable pub repeated : Bool → ℕ → ℕ → Value → Reader (Unit {0})
repeated false j i v = give tt
repeated true j i v = expect (value_line (floor_cell_head (suc j) (suc i)) v)

-- a coefficient, if its line is here, and those of the rows that follow; a line with a zero is none
unfoldable pub cell_by : (Value → Reader (Unit {0})) → Reader (List Value) → List ℕ → Option (List ℕ) → Option (Read (List Value))
cell_by again m l None = follow (m l) (λ vs. give (zero_value ∷ vs))
cell_by again m l (Some r) = follow (read_value r) (λ v. unless (is_zero v) (again v >>= λ _. m >>= λ vs. give (v ∷ vs)))

-- the coefficients of variable j in k rows from row i on
unfoldable pub read_cells : ℕ → ℕ → ℕ → List Bool → Reader (List Value)
read_cells j zero i bs = give []
read_cells j (suc k) i bs = λ l. cell_by (repeated (first_has bs) j i) (read_cells j k (suc i) (later_have bs)) l (strip (cell_head (suc j) (suc i)) l)

unfoldable pub read_column : List Bool → ℕ → ℕ → Reader Column
read_column bs rows j = do
  vs ← read_cells j rows 0 bs
  v ← line_value (objective_head (suc j))
  give (record { cells = vs; objective = negate v })

-- a column, if one begins here, and those that follow
unfoldable pub columns_by : Reader Column → Reader (List Column) → List ℕ → Option (List ℕ) → Option (Read (List Column))
columns_by m ms l None = give [] l
columns_by m ms l (Some r) = follow (m l) (λ c. ms >>= λ cs. give (c ∷ cs))

-- at most k variables from variable j on, as far as lines of columns go
unfoldable pub read_columns : List Bool → ℕ → ℕ → ℕ → Reader (List Column)
read_columns bs rows zero j = give []
read_columns bs rows (suc k) j = λ l. columns_by (read_column bs rows j) (read_columns bs rows k (suc j)) l (strip (bytes " C") l)

abbrev pub is_none : List Column → Bool
is_none [] = true
is_none (c ∷ cs) = false

unfoldable pub discrete_by : List Bool → ℕ → List ℕ → Option (List ℕ) → Option (Read (List Column))
discrete_by bs rows l None = give [] l
discrete_by bs rows l (Some r) =
    follow (read_columns bs rows variable_limit 0 r) (λ cs. unless (is_none cs) (expect (bytes " M 'MARKER' 'INTEND'\n") >>= λ _. give cs))

unfoldable pub read_discrete : List Bool → ℕ → Reader (List Column)
read_discrete bs rows = λ l. discrete_by bs rows l (strip (bytes " M 'MARKER' 'INTORG'\n") l)

-- a floor, if the row has one
unfoldable pub read_floor : Bool → ℕ → Reader (Option Value)
read_floor false i = give None
read_floor true i = do
  w ← line_value (floor_head (suc i))
  give (Some w)

-- the right sides and floors of the rows from `<=` and `>=`, from row i on
pub record Sides : Type 0 where
  pub rights : List Value
  pub floors : List (Option Value)

unfoldable pub read_less : ℕ → List Bool → Reader Sides
read_less i [] = give (record { rights = []; floors = [] })
read_less i (b ∷ bs) = do
  v ← line_value (right_head (suc i))
  w ← read_floor b i
  q ← read_less (suc i) bs
  give (record { rights = v ∷ q.rights; floors = w ∷ q.floors })

unfoldable pub read_equal : ℕ → ℕ → Reader (List Value)
read_equal zero i = give []
read_equal (suc k) i = do
  v ← line_value (right_head (suc i))
  vs ← read_equal k (suc i)
  give (v ∷ vs)

unfoldable pub upper_by : ℕ → List ℕ → Option (List ℕ) → Option (Read (Option Value))
upper_by j l (Some r) = give None r
upper_by j l None = follow (line_value (upper_head j) l) (λ v. give (Some v))

unfoldable pub read_upper : ℕ → Reader (Option Value)
read_upper j = λ l. upper_by j l (strip (no_upper_line j) l)

unfoldable pub read_bounds : ℕ → ℕ → Reader (List Bounds)
read_bounds zero j = give []
read_bounds (suc k) j = do
  v ← line_value (lower_head (suc j))
  u ← read_upper (suc j)
  bs ← read_bounds k (suc j)
  give (record { lower = v; upper = u } ∷ bs)

-- ---- the whole text

-- the rows of either kind
pub record Kinds : Type 0 where
  pub less : List Bool  -- whether each has a floor
  pub equal : ℕ

unfoldable pub read_kinds : Reader Kinds
read_kinds = λ l.
    let a = less_rows row_limit 0 l in
    let b = equal_rows (row_limit - length a.what) (length a.what) a.rest in
    Some (record { what = record { less = a.what; equal = b.what }; rest = b.rest })

unfoldable pub read_sheet : Reader Sheet
read_sheet = do
  _ ← expect (bytes "NAME MODEL\nROWS\n N OBJ\n")
  n ← read_kinds
  _ ← expect (bytes "COLUMNS\n")
  ds ← read_discrete n.less (length n.less + n.equal)
  cs ← read_columns n.less (length n.less + n.equal) (variable_limit - length ds) (length ds)
  _ ← expect (bytes "RHS\n")
  q ← read_less 0 n.less
  vs ← read_equal n.equal (length n.less)
  _ ← expect (bytes "BOUNDS\n")
  bs ← read_bounds (length ds + length cs) 0
  _ ← expect (bytes "ENDATA\n")
  give (record { floors = q.floors; equal = n.equal; discrete = ds; continuous = cs; rights = q.rights ++ vs; bounds = bs })

-- nothing may follow
abbrev pub alone : Option (Read Sheet) → Option Sheet
alone None = None
alone (Some r) = elim r.rest [ [] ↦ Some r.what | b ∷ t ↦ None ]

-- the sheet whose export a text is
unfoldable pub sheet_in : List ℕ → Option Sheet
sheet_in text = alone (read_sheet text)
