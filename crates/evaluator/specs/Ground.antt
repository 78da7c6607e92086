-- What stays while data are read: a text, its names, and tokens that hold their numbers.
use Rattle.std.specs.Prelude.{◌≡◌, Bool, List, ◌∷◌, ℕ, ◌≤◌, length, take, ℤ, Option, Some, slice_get}
use Rattle.rules.specs.Limits.{name_limit}
use Rattle.value.specs.declared.Value.{Value}
use Rattle.value.specs.Decimal.{Valid}
use Rattle.lexer.specs.Text.{Token}
use Rattle.lexer.specs.Text
use Rattle.language.specs.Syntax.{Name}
use Rattle.tokens.specs.Stored.{from, Named}
use Rattle.evaluator.specs.Steps.Names.{Resolved, row_word}
use Rattle.evaluator.specs.Tables.{Stands, Given, World}
use Rattle.store.specs.Table.{Table}

pub record Ground (s ns ts : List ℕ) : Type 0 where
  pub names : List Name
  pub few : length names ≤ name_limit
  pub named : Named s ns names
  pub resolved : Resolved s ns ts
  pub literals : (at : ℕ) (w : Bool) (v : Value) (p : ℕ) (l : List Token) → from s ts at ≡ record { kind = Text.literal w v; place = p } ∷ l → Valid v
  pub declared : (i : ℕ) (x : Name) → slice_get names i ≡ Some x → Stands s ts (take i names) x.sort (row_word ns i 4)

-- with n rows that hold what is known, a world
abbrev pub world_on : {s ns ts : List ℕ} {ds : Table} {n : ℕ} {known : ℕ → List ℤ → Option Value} → Ground s ns ts → Given ds n known → World ns ts ds n
world_on {s} {ns} {ts} {ds} {n} {known} g d = record {
  text = s;
  names = g.names;
  known = known;
  tables = record { few = g.few; named = g.named; resolved = g.resolved; literals = g.literals; declared = g.declared; stored = d };
}
