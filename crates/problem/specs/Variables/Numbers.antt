-- What code answers, for every text, names and data that the tables hold: the variables of one name, of the names of a sort, and all of
-- them, in the rows of a table.
use Rattle.std.specs.Prelude.{Err, Ok, Result, ◌≡◌, List, [], ℕ, ◌<◌, ◌≤◌, length, Option, Some, None, slice_get}
use Rattle.rules.specs.declared.Refused.{Refused}
use Rattle.rules.specs.Limits.{variable_limit}
use Rattle.language.specs.Outcome.{Outcome, done, refused, ◌>>=◌}
use Rattle.language.specs.All.{All}
use Rattle.language.specs.Syntax.{Name, Sort, Spans}
use Rattle.language.specs.Evaluation.{over}
use Rattle.language.specs.Model.{Declaration, as_discrete, as_continuous, declared}
use Rattle.language.specs.Numbering.{Variable, add_variable, add_variables}
use Rattle.tokens.specs.Stored.{Shaped, size}
use Rattle.store.specs.Key.{name_bound}
use Rattle.store.specs.Entries.{Keyed, Numbered}
use Rattle.evaluator.specs.Steps.Names.{row_word}
use Rattle.evaluator.specs.Tables.{World, DomainAt, Stands}
use Rattle.evaluator.specs.Cycle.{seen_by, nothing_bound}
use Rattle.elements.specs.Placed.{Placed}
use Rattle.problem.specs.Variables.Order.{InOrder}
use Rattle.store.specs.Table.{Table}

-- a variable with a key, of a name below k
pub record Below (k : ℕ) (v : Variable) : Type 0 where
  pub keyed : Keyed v.name v.element
  pub less : v.name < k

-- n rows that hold the variables
pub record Held (t : Table) (n : ℕ) (vs : List Variable) : Type 0 where
  pub rows : Numbered t n vs
  pub few : n ≤ variable_limit

-- o gives variables which n rows hold; those that were not in vs are of names below each k with Q k
pub record Adds (o : Outcome (List Variable)) (Q : ℕ → Type 0) (vs : List Variable) (n : ℕ) (t : Table) : Type 0 where
  pub variables : List Variable
  pub is : o ≡ done variables
  pub held : Held t n variables
  pub below : (k : ℕ) → Q k → All (Below k) vs → All (Below k) variables

abbrev pub Answers : Outcome (List Variable) → (ℕ → Type 0) → List Variable → Result ℕ Refused → Table → Type 0
Answers o Q vs (Ok n) t = Adds o Q vs n t
Answers o Q vs (Err e) t = o ≡ refused e.refusal e.place

-- ---- one name

-- name i has the domain d
pub record Ranges {ns ts : List ℕ} {ds : Table} {given : ℕ} (w : World ns ts ds given) (i : ℕ) (d : Spans) : Type 0 where
  pub named : i < name_bound
  pub stands : DomainAt w.text ts (seen_by w i) d (row_word ns i 4)
  pub sized : size d ≡ row_word ns i 3

abbrev pub declared_at : List ℕ → ℕ → Spans → Declaration
declared_at ns i d = record { name = i; domain = d; place = row_word ns i 0 }

pub record AddsName (ns ts : List ℕ) (ds : Table) (given i from : ℕ) (t : Table) (r : Result ℕ Refused) (t' : Table) : Type 0 where
  pub size : length t' ≡ length t
  pub is : (w : World ns ts ds given) (d : Spans) (vs : List Variable) → Ranges w i d → Held t from vs → All (Below i) vs
      → Answers (over d (nothing_bound w) (add_variable (declared_at ns i d)) vs) (λ k. i < k) vs r t'

-- ---- the names of a sort

-- f has the domain of a name of sort x
pub record Taken (f : Sort → Option Spans) (x : Sort) (c : ℕ) : Type 0 where
  pub domain : Spans
  pub is : f x ≡ Some domain
  pub sized : size domain ≡ c
  pub stands : (s ts : List ℕ) (before : List Name) (at : ℕ) → Stands s ts before x at → DomainAt s ts before domain at

-- f has the domains of the names whose sort has the number k
pub record Picks (f : Sort → Option Spans) (k : ℕ) : Type 0 where
  pub takes : (x : Sort) (c : ℕ) → Shaped x k c → Taken f x c
  pub leaves : (x : Sort) (j c : ℕ) → Shaped x j c → (j ≡ k → ⊥) → f x ≡ None

module _ (f : Sort → Option Spans) (names : List Name) where
  -- k is above all names that f takes
  abbrev pub Above : ℕ → Type 0
  Above k = (j : ℕ) (y : Name) (e : Spans) → slice_get names j ≡ Some y → f y.sort ≡ Some e → j < k

  -- the variables are of names below each name from number i on that f takes
  abbrev pub Before : ℕ → List Variable → Type 0
  Before i vs = (j : ℕ) (y : Name) (e : Spans) → i ≤ j → slice_get names j ≡ Some y → f y.sort ≡ Some e → All (Below j) vs

pub record AddsSort (ns ts : List ℕ) (ds : Table) (given k from : ℕ) (t : Table) (r : Result ℕ Refused) (t' : Table) : Type 0 where
  pub is : (w : World ns ts ds given) (f : Sort → Option Spans) (vs : List Variable) → Placed ns w.names → Picks f k
      → Held t from vs → Before f w.names 0 vs
      → Answers (add_variables (nothing_bound w) (declared f 0 w.names) vs) (Above f w.names) vs r t'

-- ---- all

module _ {ns ts : List ℕ} {ds : Table} {given : ℕ} (w : World ns ts ds given) where
  -- the discrete variables, and the continuous ones behind them
  abbrev pub discrete_ones : Outcome (List Variable)
  discrete_ones = add_variables (nothing_bound w) (declared as_discrete 0 w.names) []

  abbrev pub continuous_ones : List Variable → Outcome (List Variable)
  continuous_ones vs = add_variables (nothing_bound w) (declared as_continuous 0 w.names) vs

  -- n rows hold them all, of which the first a are discrete
  pub record Counts (a n : ℕ) (t : Table) : Type 0 where
    pub discretes : List Variable
    pub variables : List Variable
    pub first : discrete_ones ≡ done discretes
    pub all : continuous_ones discretes ≡ done variables
    pub count : a ≡ length discretes
    pub rows : Numbered t n variables
    pub few : n ≤ variable_limit
    pub known : All (Below (length w.names)) variables

  abbrev pub Counting : Result (ℕ × ℕ) Refused → Table → Type 0
  Counting (Ok (a, n)) t = Counts a n t
  Counting (Err e) t = (discrete_ones >>= λ vs. continuous_ones vs) ≡ refused e.refusal e.place

pub record NumbersAs (ns ts : List ℕ) (ds : Table) (given : ℕ) (r : Result (ℕ × ℕ) Refused) (t : Table) : Type 0 where
  pub is : (w : World ns ts ds given) → Placed ns w.names → InOrder w.names → Counting w r t
