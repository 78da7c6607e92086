-- What code tells of a model that it read.
use Rattle.std.specs.Prelude.{Err, Ok, Result, IfOk, MatchResult, ◌≡◌, Bool, List, ℕ, ◌≤◌, take}
use Rattle.rules.specs.declared.Refused.{Refused}
use Rattle.rules.specs.Limits.{nesting_limit}
use Rattle.language.specs.Outcome.{Outcome, done, refused}
use Rattle.language.specs.Syntax.{Name, Form, Structure}
use Rattle.language.specs.Reader.{Read, Titled, read_string}
use Rattle.language.specs.Linear.{Linear, linear_at}
use Rattle.language.specs.Grammar.{structure}
use Rattle.tokens.specs.Stored.{from, Stands, Moves, Gives, rows_of}
use Rattle.declarations.specs.Tables.{NamesAre}
use Rattle.constraints.specs.declared.Record.{Record}
use Rattle.constraints.specs.Rows.{Rows}
use Rattle.parser.specs.declared.Body.{Body}
use Rattle.parser.specs.declared.Parsed.{Parsed}
use Rattle.parser.specs.Readers.{Objective, Content, content_in}

-- a string stands at a
pub record TitleAt (s ts : List ℕ) (a : ℕ) (names : List Name) (x : Titled) : Type 0 where
  pub stands : Stands read_string s ts a x

-- a linear form stands at a
pub record FormAt (s ts : List ℕ) (a : ℕ) (names : List Name) (f : Form) : Type 0 where
  pub linear : Linear
  pub stands : Stands (linear_at names nesting_limit) s ts a linear
  pub form : f ≡ linear.form

-- an objective is a minimum or not, and its form stands at a
pub record ObjectiveAt (s ts : List ℕ) (b : Bool) (a : ℕ) (names : List Name) (x : Objective) : Type 0 where
  pub minimize : x.minimize ≡ b
  pub form : FormAt s ts a names x.form

-- the same, and the rows of the constraints
pub record ContentAt (s ts : List ℕ) (b : Bool) (a : ℕ) (rows : List Record) (names : List Name) (x : Content) : Type 0 where
  pub objective : ObjectiveAt s ts b a names x.objective
  pub constraints : Rows s ts rows names x.constraints

pub record Bodied (s ns ts : List ℕ) (at : ℕ) (r : Result (Body × ℕ) Refused) (t : List Record) : Type 0 where
  pub within : IfOk r (λ w. w.0.constraints ≤ 64)
  pub gives : MatchResult r (λ w. Gives content_in (ContentAt s ts w.0.minimize w.0.objective (take w.0.constraints t)) s ns ts at (Ok w.1)) (λ e. Moves content_in s ns ts at (Err e))

-- a model whose names and constraints are the first rows of two tables
pub record StructureAt (s ts : List ℕ) (r : Parsed) (ns : List ℕ) (t : List Record) (x : Structure) : Type 0 where
  pub place : ℕ
  pub title : Stands read_string s ts r.title (record { title = x.title; place = place })
  pub names : NamesAre s ts (rows_of r.names ns) x.names
  pub minimize : x.minimize ≡ r.minimize
  pub objective : FormAt s ts r.objective x.names x.objective
  pub constraints : Rows s ts (take r.constraints t) x.names x.constraints

-- the same refusal, or the tables tell of the model
abbrev pub Parsing : Outcome (Read Structure) → List ℕ → List ℕ → Result (Parsed × ℕ) Refused → List ℕ → List Record → Type 0
Parsing (done x) s ts (Ok w) ns t = (x.rest ≡ from s ts w.1) × StructureAt s ts w.0 ns t x.what
Parsing (done x) s ts (Err e) ns t = ⊥
Parsing (refused m q) s ts (Ok w) ns t = ⊥
Parsing (refused m q) s ts (Err e) ns t = (m ≡ e.refusal) × (q ≡ e.place)

pub record ParsedAs (s ts : List ℕ) (r : Result (Parsed × ℕ) Refused) (ns : List ℕ) (t : List Record) : Type 0 where
  pub named : IfOk r (λ w. w.0.names ≤ 64)
  pub constrained : IfOk r (λ w. w.0.constraints ≤ 64)
  pub outcome : Parsing (structure (from s ts 0)) s ts r ns t
