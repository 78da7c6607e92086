-- What code tells of what it read, and what a table of constraints tells of them.
use Rattle.std.specs.Prelude.{Ok, Err, Result, MatchResult, ◌≡◌, Bool, true, false, List, [], ◌∷◌, ℕ, ◌≤◌, length, take, drop, get_or}
use Rattle.rules.specs.Limits.{nesting_limit, constraint_limit}
use Rattle.lexer.specs.Marks as Marks
use Rattle.lexer.specs.Numbers.{number}
use Rattle.language.specs.Syntax.{Formula, Name, Relation, at_most, at_least, equal, between, Side, bare, form, Constraint}
use Rattle.lexer.specs.Text.{Token}
use Rattle.language.specs.Outcome.{done}
use Rattle.language.specs.Reader.{read_string}
use Rattle.language.specs.Formulas.{formula_at, optional_domain}
use Rattle.language.specs.Linear.{Linear, linear_at, side_of}
use Rattle.tokens.specs.Stored.{size, Stands, Moves, Gives}
use Rattle.constraints.specs.declared.Bounds.{Bounds}
use Rattle.constraints.specs.declared.Sites.{Sites}
use Rattle.constraints.specs.declared.Record.{Record}
use Rattle.constraints.specs.declared.Stopped.{Stopped}
use Rattle.constraints.specs.Readers.{plain_by, Comparison, constraints_in}
use Rattle.lexer.specs.declared.Mark.TheVariants.{AtMost}

-- the mark by which a relation is written
abbrev pub relation_mark : Relation → ℕ
relation_mark at_most = Marks.at_most
relation_mark at_least = Marks.at_least
relation_mark equal = Marks.equals
relation_mark (between h) = Marks.at_most

abbrev pub has_floor : Relation → Bool
has_floor at_most = false
has_floor at_least = false
has_floor equal = false
has_floor (between h) = true

-- a relation is written by the mark m, without a floor
pub record IsRelation (m : ℕ) (names : List Name) (r : Relation) : Type 0 where
  pub mark : relation_mark r ≡ m
  pub plain : r ≡ plain_by m

-- a formula follows the two signs of a floor
pub record FloorStands (names : List Name) (l : List Token) (h : Formula) : Type 0 where
  pub comma : Token
  pub sign : Token
  pub formula : List Token
  pub rest : List Token
  pub tokens : l ≡ comma ∷ sign ∷ formula
  pub reads : formula_at names nesting_limit formula ≡ done (record { what = h; rest = rest })

-- the floor of a relation, if it has one, is at the head of the tokens
abbrev pub FloorAt : List Name → List Token → Relation → Type 0
FloorAt names l at_most = Unit {0}
FloorAt names l at_least = Unit {0}
FloorAt names l equal = Unit {0}
FloorAt names l (between h) = FloorStands names l h

-- what was read behind the right side of the relation of the mark m, at the head of the tokens l: whether a floor stands there
pub record IsFloor (m : ℕ) (l : List Token) (b : Bool) (names : List Name) (r : Relation) : Type 0 where
  pub mark : relation_mark r ≡ relation_mark (plain_by m)
  pub floor : has_floor r ≡ b
  pub stands : FloorAt names l r

-- a relation's mark, where its right side stands, and whether it has a floor
pub record Compares (s ts : List ℕ) (r : Bounds) (names : List Name) (c : Comparison) : Type 0 where
  pub relation : relation_mark c.relation ≡ number r.mark
  pub right : Stands (formula_at names nesting_limit) s ts r.right c.right
  pub floor : has_floor c.relation ≡ r.floor
  pub floor_stands : FloorAt names right.rest c.relation

-- the answer of a test
pub record IsTrue (b : Bool) (names : List Name) (v : Bool) : Type 0 where
  pub same : v ≡ b

-- a left side stands at a
pub record SideAt (s ts : List ℕ) (a : ℕ) (names : List Name) (l : Side) : Type 0 where
  pub linear : Linear
  pub stands : Stands (linear_at names nesting_limit) s ts a linear
  pub side : l ≡ side_of linear.signed linear.form

-- a side that states a bound: one variable, without sign or factor
abbrev pub is_bare : Side → Bool
is_bare (bare i d fs p) = true
is_bare (form f) = false

-- the positions of a constraint's parts, and the mark of its relation
pub record Located (s ts : List ℕ) (r : Sites) (names : List Name) (c : Constraint) : Type 0 where
  pub title : Stands read_string s ts r.title (record { title = c.title; place = c.place })
  pub left : SideAt s ts r.left names c.left
  pub relation : relation_mark c.relation ≡ number r.mark
  pub right : Stands (formula_at names nesting_limit) s ts r.right c.right
  pub floor : has_floor c.relation ≡ r.floor
  pub floor_stands : FloorAt names right.rest c.relation
  pub domain : Stands (optional_domain names) s ts r.domain c.domain

-- what row k is where a table has none, and row k of a table
abbrev pub no_row : Record
no_row = record { title = 0; left = 0; mark = AtMost; bare = false; floor = false; entries = 0; right = 0; domain = 0 }

abbrev pub row_at : List Record → ℕ → Record
row_at t k = get_or t k no_row

-- a constraint's row
pub record RowOf (s ts : List ℕ) (r : Record) (names : List Name) (c : Constraint) : Type 0 where
  pub title : Stands read_string s ts r.title (record { title = c.title; place = c.place })
  pub left : SideAt s ts r.left names c.left
  pub relation : relation_mark c.relation ≡ number r.mark
  pub bare : is_bare c.left ≡ r.bare
  pub floor : has_floor c.relation ≡ r.floor
  pub entries : size c.domain ≡ r.entries
  pub right : Stands (formula_at names nesting_limit) s ts r.right c.right
  pub floor_stands : FloorAt names right.rest c.relation
  pub domain : Stands (optional_domain names) s ts r.domain c.domain

-- the rows of a list of constraints, in their order
abbrev pub Rows : List ℕ → List ℕ → List Record → List Name → List Constraint → Type 0
Rows s ts [] names [] = Unit {0}
Rows s ts [] names (x ∷ xs) = ⊥
Rows s ts (r ∷ rows) names [] = ⊥
Rows s ts (r ∷ rows) names (x ∷ xs) = RowOf s ts r names x × Rows s ts rows names xs

-- all constraints, in the first rows of a table t that becomes t'; what stands behind the rows that were filled stays, at a refusal too
pub record Constrained (s ns ts : List ℕ) (t : List Record) (at : ℕ) (r : Result (ℕ × ℕ) Stopped) (t' : List Record) : Type 0 where
  pub size : length t' ≡ length t
  pub within : MatchResult r (λ w. w.0 ≤ 64) (λ e. e.count ≤ 64)
  pub gives : MatchResult r (λ w. Gives (constraints_in constraint_limit) (Rows s ts (take w.0 t')) s ns ts at (Ok w.1)) (λ e. Moves (constraints_in constraint_limit) s ns ts at (Err e.refused))
  pub rest : MatchResult r (λ w. drop w.0 t' ≡ drop w.0 t) (λ e. drop e.count t' ≡ drop e.count t)
