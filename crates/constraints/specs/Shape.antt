-- What code tells of a left side and of a domain, for all names that the table tells of.
use Rattle.std.specs.Prelude.{◌≡◌, Bool, not, List, ℕ, ◌≤◌}
use Rattle.lexer.specs.Text.{Token}
use Rattle.language.specs.Syntax.{Name, Spans, Side}
use Rattle.language.specs.Reader.{look, read_index}
use Rattle.language.specs.Formulas.{is_sum, in_domain, entries_of, optional_domain}
use Rattle.onepass.specs.Entries.{read}
use Rattle.tokens.specs.Stored.{from, size, Named, Stands}
use Rattle.constraints.specs.Rows.{SideAt, is_bare}

pub record IsAlone (ts : List ℕ) (at : ℕ) (r : Bool) : Type 0 where
  pub is : (s : List ℕ) (t : Token) (l : List Token) → look (from s ts at) ≡ read t l → r ≡ not (is_sum t)

-- whether the side that stands there states a bound
pub record IsBare (s ns ts : List ℕ) (at : ℕ) (r : Bool) : Type 0 where
  pub is : (names : List Name) → Named s ns names → (l : Side) → SideAt s ts at names l → r ≡ is_bare l

-- how many entries a domain has whose first one stands there
pub record EntriesAre (s ns ts : List ℕ) (at r : ℕ) : Type 0 where
  pub is : (names : List Name) → Named s ns names → (d : Spans) → Stands (entries_of (in_domain names) (read_index names) 3) s ts at d → size d ≡ r
  pub few : r ≤ 4

-- how many entries the domain has that stands there, or may stand there
pub record SizeIs (s ns ts : List ℕ) (at r : ℕ) : Type 0 where
  pub is : (names : List Name) → Named s ns names → (d : Spans) → Stands (optional_domain names) s ts at d → size d ≡ r
  pub few : r ≤ 4
