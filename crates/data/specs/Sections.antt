-- The data section and the text's end.
use Rattle.std.specs.Prelude.{Err, Ok, Result, ◌≡◌, true, false, List, [], ℕ, ◌+◌}
use Rattle.rules.specs.declared.Refused.{Refused}
use Rattle.rules.specs.declared.Refusal.TheVariants.{Misplaced}
use Rattle.rules.specs.Limits.{byte_limit}
use Rattle.lexer.specs.Marks.{init_word, close_word}
use Rattle.language.specs.Outcome.{Outcome, done, refused}
use Rattle.language.specs.Syntax.{Name}
use Rattle.language.specs.Reader.{Reader, Read, ◌>>=◌, give, next, is_mark, require}
use Rattle.language.specs.Data.{Given, portions_of, read_close, data_of, read_data}
use Rattle.tokens.specs.Stored.{spelling, from}
use Rattle.evaluator.specs.Ground.{Ground}
use Rattle.data.specs.declared.Given.{Given as Held}
use Rattle.data.specs.declared.sections.Section.{Section}
use Rattle.data.specs.Stores.{Stores}
use Rattle.data.specs.Taking.{TakenIs}
use Rattle.store.specs.Table.{Table}

-- all portions, into an empty store
pub record FillsAll (s ns ts : List ℕ) (at : ℕ) (r : Result (ℕ × ℕ) Refused) (ds : Table) : Type 0 where
  pub is : (g : Ground s ns ts) → TakenIs (portions_of g.names byte_limit [] (from s ts at)) s ts ds r

-- ---- the data section

-- the same refusal, or the title by its place, a table that holds the store, and what is left from the position on
abbrev pub SectionIs : Outcome (Read Given) → List ℕ → List ℕ → Table → Result Section Refused → Type 0
SectionIs (done x) s ts ds (Ok w) = (x.rest ≡ from s ts w.next) × (x.what.title ≡ spelling s (w.place + 1) w.length) × Stores ds w.count x.what.store
SectionIs (done x) s ts ds (Err e) = ⊥
SectionIs (refused r q) s ts ds (Ok x) = ⊥
SectionIs (refused r q) s ts ds (Err e) = (r ≡ e.refusal) × (q ≡ e.place)

pub record Sections (m : List Name → Reader Given) (s ns ts : List ℕ) (at : ℕ) (r : Result Section Refused) (ds : Table) : Type 0 where
  pub is : (g : Ground s ns ts) → SectionIs (m g.names (from s ts at)) s ts ds r

-- the portions and `CLOSE`, behind the title
unfoldable pub rest_in : List ℕ → ℕ → ℕ → List Name → Reader Given
rest_in s p n names = do
  st ← portions_of names byte_limit []
  _ ← read_close
  give (record { title = spelling s (p + 1) n; store = st })

-- a data section and its `CLOSE`, or `CLOSE` alone
unfoldable pub section_in : List Name → Reader Given
section_in names = do
  t ← next
  elim (is_mark init_word t) [
    | true ↦ data_of names
    | false ↦ do
      _ ← require (is_mark close_word t) Misplaced t.place
      give (record { title = []; store = [] })
  ]

-- ---- with the text's end

-- the same refusal, or the title by its place and a table that holds the store
abbrev pub GivenIs : Outcome (Read Given) → List ℕ → Table → Result Held Refused → Type 0
GivenIs (done x) s ds (Ok w) = (x.what.title ≡ spelling s (w.place + 1) w.length) × Stores ds w.count x.what.store
GivenIs (done x) s ds (Err e) = ⊥
GivenIs (refused r q) s ds (Ok x) = ⊥
GivenIs (refused r q) s ds (Err e) = (r ≡ e.refusal) × (q ≡ e.place)

-- whatever the table held before: the store starts empty
pub record ReadsData (s ns ts : List ℕ) (at : ℕ) (r : Result Held Refused) (ds : Table) : Type 0 where
  pub is : (g : Ground s ns ts) → GivenIs (read_data g.names (from s ts at)) s ds r
