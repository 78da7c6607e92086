-- What code tells of a constraint's row, for every text, and for all names and constraints that the tables tell of.
use Rattle.std.specs.Prelude.{◌≡◌, List, ℕ}
use Rattle.rules.specs.Limits.{nesting_limit}
use Rattle.language.specs.Syntax.{Name, Spans, Constraint}
use Rattle.language.specs.Reader.{Titled, read_string}
use Rattle.language.specs.Formulas.{formula_at, optional_domain}
use Rattle.language.specs.Numbering.{flips, is_equal}
use Rattle.tokens.specs.Stored.{size, Stands}
use Rattle.evaluator.specs.Tables.{DomainAt}
use Rattle.constraints.specs.declared.Record.{Record}
use Rattle.constraints.specs.Rows.{SideAt, is_bare, has_floor, FloorAt, row_at, RowOf}
use Rattle.rows.specs.Bounds.{states_lower, states_upper}
use Rattle.matrix.specs.declared.parts.Parts.{Parts}

-- the place of a string
pub record PlaceIs (ts : List ℕ) (at r : ℕ) : Type 0 where
  pub is : (s : List ℕ) (t : Titled) → Stands read_string s ts at t → t.place ≡ r

-- the first entry of a constraint's domain
pub record FirstIs (ts : List ℕ) (at r : ℕ) : Type 0 where
  pub is : (s : List ℕ) (names : List Name) (d : Spans) → Stands (optional_domain names) s ts at d → DomainAt s ts names d r

-- the parts of a constraint
pub record Tells (s ts : List ℕ) (names : List Name) (c : Constraint) (r : Parts) : Type 0 where
  pub place : c.place ≡ r.place
  pub left : SideAt s ts r.left names c.left
  pub right : Stands (formula_at names nesting_limit) s ts r.right c.right
  pub floor : has_floor c.relation ≡ r.floor
  pub floor_stands : FloorAt names right.rest c.relation
  pub domain : DomainAt s ts names c.domain r.at
  pub count : size c.domain ≡ r.count
  pub bare : is_bare c.left ≡ r.bare
  pub flips : flips c.relation ≡ r.flips
  pub equal : is_equal c.relation ≡ r.equal
  pub lower : states_lower c.relation ≡ r.lower
  pub upper : states_upper c.relation ≡ r.upper

-- of the constraint in row k
pub record PartsAre (ts : List ℕ) (t : List Record) (k : ℕ) (r : Parts) : Type 0 where
  pub is : (s : List ℕ) (names : List Name) (c : Constraint) → RowOf s ts (row_at t k) names c → Tells s ts names c r
