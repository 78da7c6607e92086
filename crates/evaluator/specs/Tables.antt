-- The tables that evaluation reads, and what they hold: names, their declared formulas and domains, tokens and data.
use Rattle.std.specs.Prelude.{◌≡◌, Bool, List, ◌∷◌, ℕ, ◌≤◌, length, take, ℤ, Option, Some, None, slice_get}
use Rattle.rules.specs.Limits.{nesting_limit, name_limit, index_limit}
use Rattle.value.specs.declared.Value.{Value}
use Rattle.value.specs.Decimal.{Valid}
use Rattle.lexer.specs.Text.{Token}
use Rattle.lexer.specs.Text
use Rattle.language.specs.Outcome.{done}
use Rattle.language.specs.Syntax.{Formula, Spans, Name, Sort}
use Rattle.language.specs.Syntax
use Rattle.language.specs.Formulas.{formula_at}
use Rattle.onepass.specs.Entries.{ReadsSpans}
use Rattle.tokens.specs.Stored.{from, Named, size}
use Rattle.store.specs.Key.{key_of}
use Rattle.store.specs.Table.{Table, Sorted, lookup}
use Rattle.store.specs.Packed.{unpacked}
use Rattle.store.specs.Entries.{Keyed}
use Rattle.evaluator.specs.Steps.Names.{Resolved, row_word}

-- ---- what was declared stands where the name's row says, read with the names before it

pub record FormulaAt (s ts : List ℕ) (before : List Name) (f : Formula) (at : ℕ) : Type 0 where
  pub rest : List Token
  pub reads : formula_at before nesting_limit (from s ts at) ≡ done (record { what = f; rest = rest })

-- the first entry of a domain of at most four indices
pub record DomainAt (s ts : List ℕ) (before : List Name) (d : Spans) (at : ℕ) : Type 0 where
  pub rest : List Token
  pub reads : ReadsSpans before d (from s ts at) rest
  pub few : size d ≤ index_limit

abbrev pub Stands : List ℕ → List ℕ → List Name → Sort → ℕ → Type 0
Stands s ts before Syntax.index at = Unit {0}
Stands s ts before (Syntax.integer d) at = DomainAt s ts before d at
Stands s ts before (Syntax.real d) at = DomainAt s ts before d at
Stands s ts before (Syntax.formula f) at = FormulaAt s ts before f at
Stands s ts before (Syntax.discrete d) at = DomainAt s ts before d at
Stands s ts before (Syntax.continuous d) at = DomainAt s ts before d at

-- ---- data

abbrev pub value_in : Option ℕ → Option Value
value_in None = None
value_in (Some w) = Some (unpacked w)

-- n rows that hold what is known, each a value
pub record Given (ds : Table) (n : ℕ) (known : ℕ → List ℤ → Option Value) : Type 0 where
  pub sorted : Sorted ds n
  pub agrees : (i : ℕ) (ks : List ℤ) → Keyed i ks → known i ks ≡ value_in (lookup ds n (key_of i ks))
  pub valid : (i : ℕ) (ks : List ℤ) (v : Value) → known i ks ≡ Some v → Valid v

-- ---- all of them, with the text that the tokens were read from

pub record Tables (s ns ts : List ℕ) (ds : Table) (given : ℕ) (names : List Name) (known : ℕ → List ℤ → Option Value) : Type 0 where
  pub few : length names ≤ name_limit
  pub named : Named s ns names
  pub resolved : Resolved s ns ts
  pub literals : (at : ℕ) (w : Bool) (v : Value) (p : ℕ) (l : List Token) → from s ts at ≡ record { kind = Text.literal w v; place = p } ∷ l → Valid v
  pub declared : (i : ℕ) (x : Name) → slice_get names i ≡ Some x → Stands s ts (take i names) x.sort (row_word ns i 4)
  pub stored : Given ds given known

-- a text, names and data that the tables hold
pub record World (ns ts : List ℕ) (ds : Table) (given : ℕ) : Type 0 where
  pub text : List ℕ
  pub names : List Name
  pub known : ℕ → List ℤ → Option Value
  pub tables : Tables text ns ts ds given names known
