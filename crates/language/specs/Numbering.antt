-- Document 01, "Numbering and bounds": variables by number, rows, bounds, the objective.
use Rattle.std.specs.Prelude.{Bool, true, false, cond, ◌&&◌, List, [], ◌∷◌, ◌++◌, map, ℕ, suc, eqb, ltb, length, get_or, set, replicate, ℤ, Option, Some, None}
use Rattle.rules.specs.declared.Refusal.TheVariants.{Full, Outside}
use Rattle.language.specs.Outcome.{Outcome, done, ◌>>=◌, or_refuse, fitting, check}
use Rattle.rules.specs.Limits.{variable_limit, row_limit}
use Rattle.value.specs.declared.Value.{Value}
use Rattle.value.specs.Decimal.{zero_value, one_value, negate, sum_of, product_of, is_at_most}
use Rattle.language.specs.Scope.{Scope, bind, unbound, same_element}
use Rattle.language.specs.Syntax.{Formula, Formulas, Spans, Form, Term, also, factor, variable, sigma, Constraint, Relation, at_most, at_least, equal, between, Side, bare, form}
use Rattle.language.specs.Syntax
use Rattle.language.specs.Evaluation.{limits_of, run_of, each, eval, eval_all, within, over}
use Rattle.language.specs.Model.{Model, start, Declaration, discretes, continuouses}
use Rattle.language.specs.Store.{all_given}

-- ---- variables: discrete ones first, then continuous; in each, by declaration, elements with the first index outermost

-- a declared variable: a name with one element of its domain
pub record Variable : Type 0 where
  pub name : ℕ
  pub element : List ℤ

-- the 513th is 6 at the declared name (decision 41)
unfoldable pub add_variable : Declaration → Scope → List ℤ → List Variable → Outcome (List Variable)
add_variable d s e vs = do
  _ ← check Full d.place (ltb (length vs) variable_limit)
  done (vs ++ (record { name = d.name; element = e } ∷ []))

unfoldable pub add_variables : Scope → List Declaration → List Variable → Outcome (List Variable)
add_variables s [] vs = done vs
add_variables s (d ∷ ds) vs = do
  ws ← over d.domain s (add_variable d) vs
  add_variables s ds ws

unfoldable pub same_variable : Variable → ℕ → List ℤ → Bool
same_variable v i e = eqb v.name i && same_element v.element e

abbrev pub later : Option ℕ → Option ℕ
later None = None
later (Some j) = Some (suc j)

-- the number of a variable, here counted from 0: its place among the variables
unfoldable pub number_of : ℕ → List ℤ → List Variable → Option ℕ
number_of i e [] = None
number_of i e (v ∷ vs) = elim (same_variable v i e) [ true ↦ Some 0 | false ↦ later (number_of i e vs) ]

-- ---- coefficients of one row, gathered one per variable in text order; each partial sum must fit

abbrev pub Row : Type 0
Row = List Value

-- the sign of a term under a sign
abbrev pub xor : Bool → Bool → Bool
xor true true = false
xor true false = true
xor false b = b

abbrev pub signed : Bool → Value → Value
signed true v = negate v
signed false v = v

-- a coefficient's sum is refused at the variable (decision 27)
unfoldable pub add_at : ℕ → Value → ℕ → Row → Outcome Row
add_at j v p r = do
  w ← fitting p (sum_of (get_or r j zero_value) v)
  done (set r j w)

-- over the variables by number
module _ (vs : List Variable) where
  -- the number of the variable that is read at p: subscripts, then the domain test (9)
  unfoldable pub variable_at : ℕ → Spans → Formulas → ℕ → Scope → Outcome ℕ
  variable_at i d fs p s = do
    ks ← eval_all fs s p
    _ ← within d ks (unbound s) p
    or_refuse Outside p (number_of i ks vs)

  unfoldable mutual
    -- c is the coefficient before the form (the product written before its sigma), m whether a minus stands before it; signs
    -- come last (decision 26)
    pub gather : Form → Scope → Value → Bool → Row → Outcome Row
    gather Syntax.end s c m r = done r
    gather (also n t f) s c m r = do
      q ← gather_term t s c (xor m n) r
      gather f s c m q

    pub gather_term : Term → Scope → Value → Bool → Row → Outcome Row
    gather_term (factor f p t) s c m r = do
      v ← eval f s
      w ← fitting p (product_of c v)
      gather_term t s w m r
    gather_term (variable i d fs p) s c m r = do
      j ← variable_at i d fs p s
      add_at j (signed m c) p r
    gather_term (sigma i f g h p) s c m r = do
      l ← limits_of (eval f s) (eval g s)
      ks ← run_of l i s p
      each (λ k q. gather h (bind i k s) c m q) ks r

  -- the row of a form: a coefficient starts at 1, a gathered sum at 0
  unfoldable pub gathered : Form → Scope → Outcome Row
  gathered f s = gather f s one_value false (replicate (length vs) zero_value)

-- ---- constraints

-- a constraint, by its number in text order from 0, at one element of its domain
pub record Source : Type 0 where
  pub ordinal : ℕ
  pub constraint : Constraint
  pub element : List ℤ

-- what it becomes: a bound on the variable of a number, or a row with its right side
pub data Fact : Type 0 where
  bound : ℕ → Value → Fact
  row : Row → Value → Fact

pub record Entry : Type 0 where
  pub source : Source
  pub fact : Fact
  pub floor : Option Value  -- where one is written

-- a `>=` row is negated on both sides, after gathering (decision 27)
abbrev pub flips : Relation → Bool
flips at_most = false
flips at_least = true
flips equal = false
flips (between h) = false

-- left side, right side
unfoldable pub fact_of : List Variable → Side → Relation → Formula → Scope → Outcome Fact
fact_of vs (bare i d fs p) r g s = do
  j ← variable_at vs i d fs p s
  v ← eval g s
  done (bound j v)
fact_of vs (form f) r g s = do
  cs ← gathered vs f s
  v ← eval g s
  done (row (map (signed (flips r)) cs) (signed (flips r) v))

-- the floor, after both sides
unfoldable pub floor_at : Relation → Scope → Outcome (Option Value)
floor_at at_most s = done None
floor_at at_least s = done None
floor_at equal s = done None
floor_at (between h) s = do
  v ← eval h s
  done (Some v)

abbrev pub is_row : Fact → Bool
is_row (bound j v) = false
is_row (row r v) = true

abbrev pub is_equal : Relation → Bool
is_equal at_most = false
is_equal at_least = false
is_equal equal = true
is_equal (between h) = false

unfoldable pub keep : {A : Type 0} → (A → Bool) → List A → List A
keep f [] = []
keep f (a ∷ l) = elim (f a) [ true ↦ a ∷ keep f l | false ↦ keep f l ]

abbrev pub any_row : Entry → Bool
any_row e = is_row e.fact

abbrev pub less_row : Entry → Bool
less_row e = cond (is_equal e.source.constraint.relation) false (is_row e.fact)

abbrev pub equal_row : Entry → Bool
equal_row e = cond (is_equal e.source.constraint.relation) (is_row e.fact) false

-- the 513th row is 6 at its string, after both sides and the floor (decision 30)
unfoldable pub row_count : Fact → ℕ → List Entry → Outcome (Unit {0})
row_count (bound j v) p es = done tt
row_count (row r v) p es = check Full p (ltb (length (keep any_row es)) row_limit)

unfoldable pub add_entry : List Variable → ℕ → Constraint → Scope → List ℤ → List Entry → Outcome (List Entry)
add_entry vs n c s e es = do
  f ← fact_of vs c.left c.relation c.right s
  w ← floor_at c.relation s
  _ ← row_count f c.place es
  done (es ++ (record { source = record { ordinal = n; constraint = c; element = e }; fact = f; floor = w } ∷ []))

-- constraints in text order from number n on, element by element
unfoldable pub add_entries : List Variable → Scope → ℕ → List Constraint → List Entry → Outcome (List Entry)
add_entries vs s n [] es = done es
add_entries vs s n (c ∷ cs) es = do
  fs ← over c.domain s (add_entry vs n c) es
  add_entries vs s (suc n) cs fs

-- ---- bounds

abbrev pub bound_at : Fact → ℕ → Option Value
bound_at (bound i v) j = cond (eqb i j) (Some v) None
bound_at (row r v) j = None

-- a floor on a bare variable
abbrev pub floor_for : Fact → Option Value → ℕ → Option Value
floor_for (bound i v) w j = cond (eqb i j) w None
floor_for (row r v) w j = None

abbrev pub lower_at : Relation → Fact → Option Value → ℕ → Option Value
lower_at at_most f w j = None
lower_at at_least f w j = bound_at f j
lower_at equal f w j = bound_at f j
lower_at (between h) f w j = floor_for f w j

abbrev pub upper_at : Relation → Fact → ℕ → Option Value
upper_at at_most f j = bound_at f j
upper_at at_least f j = None
upper_at equal f j = bound_at f j
upper_at (between h) f j = bound_at f j

-- what is stated, in text order
unfoldable pub picked : (Entry → Option Value) → List Entry → List Value
picked f [] = []
picked f (e ∷ es) = elim (f e) [ Some v ↦ v ∷ picked f es | None ↦ picked f es ]

unfoldable pub extreme : (Value → Value → Bool) → Value → List Value → Value
extreme le v [] = v
extreme le v (w ∷ l) = extreme le (cond (le v w) w v) l

abbrev pub is_at_least : Value → Value → Bool
is_at_least v w = is_at_most w v

-- The lower bound is the largest stated, else 0; the upper the smallest stated, else none
unfoldable pub largest : List Value → Value
largest [] = zero_value
largest (v ∷ l) = extreme is_at_most v l

unfoldable pub smallest : List Value → Option Value
smallest [] = None
smallest (v ∷ l) = Some (extreme is_at_least v l)

unfoldable pub lower_of : List Entry → ℕ → Value
lower_of es j = largest (picked (λ e. lower_at e.source.constraint.relation e.fact e.floor j) es)

unfoldable pub upper_of : List Entry → ℕ → Option Value
upper_of es j = smallest (picked (λ e. upper_at e.source.constraint.relation e.fact j) es)

-- ---- the generated problem

pub record Lp : Type 0 where
  pub discrete : ℕ  -- N1
  pub variables : List Variable  -- by number
  pub entries : List Entry  -- in text order
  pub objective : Row

-- those from `<=` and `>=` take 1 to M1 in text order, then those from `=` to M
unfoldable pub less_rows : Lp → List Entry
less_rows p = keep less_row p.entries

unfoldable pub equal_rows : Lp → List Entry
equal_rows p = keep equal_row p.entries

unfoldable pub rows : Lp → List Entry
rows p = less_rows p ++ equal_rows p

-- missing data, variables, the objective (negated for MINIMIZE), constraints
unfoldable pub generate : Model → Outcome Lp
generate m = do
  _ ← all_given 0 m.structure.names (start m)
  a ← add_variables (start m) (discretes m) []
  b ← add_variables (start m) (continuouses m) a
  o ← gathered b m.structure.objective (start m)
  es ← add_entries b (start m) 0 m.structure.constraints []
  done (record { discrete = length a; variables = b; entries = es; objective = map (signed m.structure.minimize) o })
