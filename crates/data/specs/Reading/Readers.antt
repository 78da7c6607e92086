-- The readers of a portion's parts, and what code answers as the definition's outcome.
use Rattle.std.specs.Prelude.{Err, Ok, Result, ◌≡◌, Bool, List, ℕ, ◌+◌}
use Rattle.rules.specs.declared.Refused.{Refused}
use Rattle.rules.specs.declared.Refusal.TheVariants.{Missing}
use Rattle.value.specs.declared.Value.{Value}
use Rattle.lexer.specs.Marks.{minus_sign}
use Rattle.language.specs.Outcome.{Outcome, done, refused}
use Rattle.language.specs.Syntax.{Name}
use Rattle.language.specs.Reader.{Reader, Read, ◌>>=◌, give, next, is_mark, demand, require, Titled, read_index}
use Rattle.language.specs.Formulas.{is_sum}
use Rattle.language.specs.Data.{Entry, marked, value_of, signed_value}
use Rattle.tokens.specs.Stored.{spelling, from, Named}
use Rattle.data.specs.declared.reading.entries.Entry.{Entry as Held}
use Rattle.data.specs.declared.reading.numbers.Numbered.{Numbered}
use Rattle.data.specs.declared.reading.ends.Titled.{Titled as Title}
use Rattle.data.specs.Reading.Entries.{entry_of}

-- ---- answers

-- for all names that the table tells of, the reader m gives at the position what the answer r says
pub record Answers {A R : Type 0} (outcome : List ℕ → List ℕ → R → Outcome (Read A)) (m : List Name → Reader A) (s ns ts : List ℕ) (at : ℕ) (r : R) : Type 0 where
  pub is : (names : List Name) → Named s ns names → m names (from s ts at) ≡ outcome s ts r

-- the same of a reader that asks for no names, in every text
pub record Says {A R : Type 0} (outcome : List ℕ → List ℕ → R → Outcome (Read A)) (m : Reader A) (ts : List ℕ) (at : ℕ) (r : R) : Type 0 where
  pub is : (s : List ℕ) → m (from s ts at) ≡ outcome s ts r

abbrev pub leaves : {A : Type 0} → A → List ℕ → List ℕ → ℕ → Outcome (Read A)
leaves a s ts at = done (record { what = a; rest = from s ts at })

-- ---- an index, an entry

abbrev pub indexed : List ℕ → List ℕ → Result (ℕ × ℕ) Refused → Outcome (Read ℕ)
indexed s ts (Ok (i, a)) = leaves i s ts a
indexed s ts (Err e) = refused e.refusal e.place

unfoldable pub index_in : List Name → Reader ℕ
index_in names = do
  u ← read_index names
  give u.number

abbrev pub entered : List ℕ → List ℕ → Result (Held × ℕ) Refused → Outcome (Read Entry)
entered s ts (Ok (e, a)) = leaves (entry_of e) s ts a
entered s ts (Err e) = refused e.refusal e.place

unfoldable pub mark_in : List Name → Reader Entry
mark_in names = do
  i ← index_in names
  give (marked i)

-- ---- a number: its sign's place, and its value

pub record Number : Type 0 where
  pub sign : ℕ
  pub value : Value

abbrev pub numbered : List ℕ → List ℕ → Result Numbered Refused → Outcome (Read Number)
numbered s ts (Ok x) = leaves (record { sign = x.place; value = x.value }) s ts x.next
numbered s ts (Err e) = refused e.refusal e.place

unfoldable pub literal_in : ℕ → Bool → Reader Number
literal_in p minus = do
  u ← next
  v ← demand (value_of u.kind) u.place
  give (record { sign = p; value = signed_value minus v })

unfoldable pub number_in : Reader Number
number_in = do
  t ← next
  _ ← require (is_sum t) Missing t.place
  literal_in t.place (is_mark minus_sign t)

-- ---- the ends of the data section

abbrev pub passed : List ℕ → List ℕ → Result ℕ Refused → Outcome (Read (Unit {0}))
passed s ts (Ok a) = leaves tt s ts a
passed s ts (Err e) = refused e.refusal e.place

abbrev pub titled : List ℕ → List ℕ → Result Title Refused → Outcome (Read Titled)
titled s ts (Ok x) = leaves (record { title = spelling s (x.place + 1) x.length; place = x.place }) s ts x.next
titled s ts (Err e) = refused e.refusal e.place
