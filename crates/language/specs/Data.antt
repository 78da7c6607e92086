-- Document 01, "Grammar", "Meaning" and "Order": the data section. Portions are carried out as read.
use Rattle.std.specs.Prelude.{Bool, true, false, cond, ◌&&◌, not, List, [], ◌∷◌, ℕ, zero, suc, eqb, Option, Some, None, length, ℤ, neg_ℤ}
use Rattle.rules.specs.declared.Refusal.TheVariants.{Misplaced, BadIndex, Missing, Full}
use Rattle.rules.specs.Limits.{byte_limit, nesting_limit}
use Rattle.lexer.specs.Marks.{plus_sign, minus_sign, comma, opens, closes, opens_list, closes_list, init_word, close_word}
use Rattle.value.specs.declared.Value.{Value}
use Rattle.value.specs.Decimal.{negate}
use Rattle.lexer.specs.Text.{Kind}
use Rattle.lexer.specs.Text
use Rattle.language.specs.Syntax.{Name, Spans, point, span}
use Rattle.language.specs.Reader.{Reader, ◌>>=◌, give, refuse, lift, next, look, is_mark, is_name, demand, require, expect, bracket, is_index, known, read_known, read_index, read_string}
use Rattle.language.specs.Formulas.{is_sum}
use Rattle.language.specs.Declarations.{is_in}
use Rattle.language.specs.Store.{Store, scope_of, Portion, portion_by, Bound, set_at, element_of, position_run, accept}

-- ---- a portion's head

-- An entry is a fixed whole number (digits, optionally signed; decision 38) or an index name, which only marks its position
pub data Entry : Type 0 where
  fixed : ℤ → Entry
  marked : ℕ → Entry

-- the whole number of a literal without a point
unfoldable pub digits_of : Kind → Option ℤ
digits_of (Text.mark c) = None
digits_of (Text.name l) = None
digits_of (Text.literal w v) = cond w (Some v.m) None
digits_of (Text.string l) = None
digits_of Text.end = None
digits_of (Text.wrong r) = None

abbrev pub with_minus : Bool → ℤ → ℤ
with_minus true k = neg_ℤ k
with_minus false k = k

unfoldable pub signed_entry : Bool → Reader Entry
signed_entry negative = do
  t ← next
  k ← demand (digits_of t.kind) t.place
  give (fixed (with_minus negative k))

unfoldable pub entry_by : List Name → ℕ → Kind → Reader Entry
entry_by names p (Text.mark c) = cond (eqb c plus_sign) (signed_entry false) (cond (eqb c minus_sign) (signed_entry true) (refuse Misplaced p))
entry_by names p (Text.name l) = do
  u ← known names l p
  _ ← require (is_index u.sort) Misplaced p
  give (marked u.number)
entry_by names p (Text.literal w v) = cond w (give (fixed v.m)) (refuse Misplaced p)
entry_by names p (Text.string l) = refuse Misplaced p
entry_by names p Text.end = refuse Misplaced p
entry_by names p (Text.wrong r) = refuse r p

unfoldable pub read_entry : List Name → Reader Entry
read_entry names = do
  t ← next
  entry_by names t.place t.kind

-- as many entries as the domain has indices, and the `]`
unfoldable pub entries_of : List Name → Spans → Reader (List Entry)
entries_of names point = give []
entries_of names (span i f g p point) = do
  e ← read_entry names
  _ ← expect closes_list
  give (e ∷ [])
entries_of names (span i f g p (span j f' g' q d)) = do
  e ← read_entry names
  _ ← expect comma
  es ← entries_of names (span j f' g' q d)
  give (e ∷ es)

-- the index names of the marked positions, left to right
unfoldable pub marks_of : List Entry → List ℕ
marks_of [] = []
marks_of (fixed k ∷ es) = marks_of es
marks_of (marked i ∷ es) = i ∷ marks_of es

unfoldable pub no_repeats : List ℕ → Bool
no_repeats [] = true
no_repeats (i ∷ l) = elim (is_in i l) [ true ↦ false | false ↦ no_repeats l ]

unfoldable pub all_in : List ℕ → List ℕ → Bool
all_in [] m = true
all_in (i ∷ l) m = elim (is_in i m) [ true ↦ all_in l m | false ↦ false ]

-- l is a rearrangement of the marks m, which have no repeats
unfoldable pub rearranges : List ℕ → List ℕ → Bool
rearranges l m = eqb (length l) (length m) && no_repeats l && all_in l m

-- the position that an index name marks, counted from n
unfoldable pub position_of : ℕ → List Entry → ℕ → ℕ
position_of i [] n = n
position_of i (fixed k ∷ es) n = position_of i es (suc n)
position_of i (marked j ∷ es) n = elim (eqb i j) [ true ↦ n | false ↦ position_of i es (suc n) ]

unfoldable pub positions_of : List ℕ → List Entry → List ℕ
positions_of [] es = []
positions_of (i ∷ l) es = position_of i es 0 ∷ positions_of l es

-- the index names of an order, and its `)`
unfoldable pub order_from : List Name → ℕ → Reader (List ℕ)
order_from names zero = refuse Full 0
order_from names (suc n) = do
  i ← read_index names
  t ← look
  elim (is_mark comma t) [
    | true ↦ do
      _ ← next
      l ← order_from names n
      give (i.number ∷ l)
    | false ↦ do
      _ ← expect closes
      give (i.number ∷ [])
  ]

-- an optional order `(` indices `)`: a rearrangement of the marks, else 7 at the portion's name (decision 31); without it, left
-- to right
unfoldable pub read_order : List Name → ℕ → List ℕ → Reader (List ℕ)
read_order names p marks = do
  t ← look
  elim (is_mark opens t) [
    | true ↦ do
      _ ← bracket opens nesting_limit
      l ← order_from names byte_limit
      _ ← require (rearranges l marks) BadIndex p
      give l
    | false ↦ give marks
  ]

-- ---- the numbers of a portion

unfoldable pub bound_of : List Entry → Bound
bound_of [] = []
bound_of (fixed k ∷ es) = Some k ∷ bound_of es
bound_of (marked i ∷ es) = None ∷ bound_of es

unfoldable pub value_of : Kind → Option Value
value_of (Text.mark c) = None
value_of (Text.name l) = None
value_of (Text.literal w v) = Some v
value_of (Text.string l) = None
value_of Text.end = None
value_of (Text.wrong r) = None

abbrev pub signed_value : Bool → Value → Value
signed_value true v = negate v
signed_value false v = v

-- A number is `+` or `-`, then a literal: a sign awaited and not found is 10 there, a sign without a literal 3 at what follows
-- (decision 35)
unfoldable pub read_number : Portion → List ℤ → Store → Reader Store
read_number x e st = do
  t ← next
  _ ← require (is_sum t) Missing t.place
  u ← next
  v ← demand (value_of u.kind) u.place
  lift (accept x e t.place (signed_value (is_mark minus_sign t) v) st)

-- a step for each number of a run
unfoldable pub each_read : {A : Type 0} → (ℤ → A → Reader A) → List ℤ → A → Reader A
each_read f [] a = give a
each_read f (k ∷ ks) a = f k a >>= λ b. each_read f ks b

-- the positions still to run, outermost first: limits once the next token has passed its tests up to 5 (decision 33). Each run
-- takes one number; empty runs take none (decision 37)
unfoldable pub runs : Portion → List ℕ → Bound → Store → Reader Store
runs x [] b st = read_number x (element_of b) st
runs x (j ∷ js) b st = do
  _ ← look
  ks ← lift (position_run x.domain b j (scope_of st))
  each_read (λ k st. runs x js (set_at j k b) st) ks st

-- marks are tested at the `]`, an order at its `)` (decision 31)
unfoldable pub subscripted_portion : List Name → Portion → Store → Reader Store
subscripted_portion names x st = do
  _ ← bracket opens_list nesting_limit
  es ← entries_of names x.domain
  _ ← require (no_repeats (marks_of es)) BadIndex x.place
  o ← read_order names x.place (marks_of es)
  runs x (positions_of o es) (bound_of es) st

abbrev pub is_point : Spans → Bool
is_point point = true
is_point (span i f g p d) = false

-- Portion: name of an integer or real, for a subscripted one entries and an optional order, then numbers
unfoldable pub portion_of : List Name → Store → Reader Store
portion_of names st = do
  u ← read_known names
  x ← demand (portion_by u.number u.place u.sort) u.place
  elim (is_point x.domain) [ true ↦ runs x [] [] st | false ↦ subscripted_portion names x st ]

-- one or more portions
unfoldable pub portions_of : List Name → ℕ → Store → Reader Store
portions_of names zero st = give st
portions_of names (suc n) st = do
  a ← portion_of names st
  t ← look
  elim (is_name t) [ true ↦ portions_of names n a | false ↦ give a ]

-- ---- the data section and the text's end

pub record Given : Type 0 where
  pub title : List ℕ  -- empty if there is no data section
  pub store : Store

-- behind the last portion: `CLOSE`; a sign is one number too many (decision 36)
unfoldable pub read_close : Reader (Unit {0})
read_close = do
  t ← next
  _ ← require (not (is_sum t)) Missing t.place
  require (is_mark close_word t) Misplaced t.place

-- Data: `INIT`, string, then one or more portions
unfoldable pub data_of : List Name → Reader Given
data_of names = do
  s ← read_string
  st ← portions_of names byte_limit []
  _ ← read_close
  give (record { title = s.title; store = st })

abbrev pub is_end : Kind → Bool
is_end (Text.mark c) = false
is_end (Text.name l) = false
is_end (Text.literal w v) = false
is_end (Text.string l) = false
is_end Text.end = true
is_end (Text.wrong r) = false

-- only blanks may follow `CLOSE` (decision 8)
unfoldable pub read_end : Reader (Unit {0})
read_end = do
  t ← next
  require (is_end t.kind) Misplaced t.place

-- at most one data section, `CLOSE`
unfoldable pub read_data : List Name → Reader Given
read_data names = do
  t ← next
  g ← elim (is_mark init_word t) [
    | true ↦ data_of names
    | false ↦ do
      _ ← require (is_mark close_word t) Misplaced t.place
      give (record { title = []; store = [] })
  ]
  _ ← read_end
  give g
