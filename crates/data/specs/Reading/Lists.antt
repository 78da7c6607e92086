-- The readers of a portion's entries, its order and its head.
use Rattle.std.specs.Prelude.{Err, Ok, Result, ◌≡◌, List, [], ◌∷◌, ℕ, zero, suc, ◌≤◌, length}
use Rattle.rules.specs.declared.Refused.{Refused}
use Rattle.data.specs.declared.reading.entries.Entries.{Entries}
use Rattle.rules.specs.declared.Refusal.TheVariants.{BadIndex}
use Rattle.rules.specs.Limits.{byte_limit, nesting_limit}
use Rattle.lexer.specs.Marks.{comma, opens_list, closes_list}
use Rattle.language.specs.Outcome.{Outcome, done, refused}
use Rattle.language.specs.Syntax.{Name}
use Rattle.language.specs.Reader.{Reader, Read, ◌>>=◌, give, require, expect, bracket}
use Rattle.language.specs.Data.{Entry, read_entry, marks_of, no_repeats, rearranges, positions_of, order_from, read_order}
use Rattle.tokens.specs.Stored.{from, Named}
use Rattle.data.specs.declared.reading.heads.Plan.{Plan}
use Rattle.data.specs.declared.reading.few.Few.{Few}
use Rattle.data.specs.Reading.Few.{numbers_of, Keeps}
use Rattle.data.specs.Reading.Entries.{entries_of}
use Rattle.data.specs.Reading.Readers.{leaves}

-- ---- entries

unfoldable pub item_in : ℕ → List Name → Reader Entry
item_in c names = do
  e ← read_entry names
  _ ← expect c
  give e

-- the sign behind an entry, with how many are due before it
unfoldable pub separator_of : ℕ → ℕ
separator_of zero = comma
separator_of (suc zero) = closes_list
separator_of (suc (suc n)) = comma

-- n entries and the `]`
unfoldable pub list_in : ℕ → List Name → Reader (List Entry)
list_in zero names = give []
list_in (suc n) names = do
  e ← item_in (separator_of (suc n)) names
  es ← list_in n names
  give (e ∷ es)

abbrev pub listed : List ℕ → List ℕ → Result (Entries × ℕ) Refused → Outcome (Read (List Entry))
listed s ts (Ok (e, a)) = leaves (entries_of e) s ts a
listed s ts (Err e) = refused e.refusal e.place

-- of a domain of at most four indices
pub record Lists (s ns ts : List ℕ) (at n : ℕ) (r : Result (Entries × ℕ) Refused) : Type 0 where
  pub is : (names : List Name) → Named s ns names → n ≤ 4 → list_in n names (from s ts at) ≡ listed s ts r

-- ---- an order

abbrev pub OrderIs : Outcome (Read (List ℕ)) → List ℕ → List ℕ → Result (Few × ℕ) Refused → Type 0
OrderIs (done x) s ts (Ok (f, a)) = (x.rest ≡ from s ts a) × Keeps f x.what
OrderIs (done x) s ts (Err e) = ⊥
OrderIs (refused r q) s ts (Ok (f, a)) = ⊥
OrderIs (refused r q) s ts (Err e) = (r ≡ e.refusal) × (q ≡ e.place)

-- the indices of an order: of a long one, that it is long
pub record Ordered (s ns ts : List ℕ) (at : ℕ) (r : Result (Few × ℕ) Refused) : Type 0 where
  pub is : (names : List Name) → Named s ns names → OrderIs (order_from names byte_limit (from s ts at)) s ts r

abbrev pub ordered : List ℕ → List ℕ → Result (Few × ℕ) Refused → Outcome (Read (List ℕ))
ordered s ts (Ok (f, a)) = leaves (numbers_of f) s ts a
ordered s ts (Err e) = refused e.refusal e.place

-- the marks m rearranged, for the portion's name at p
unfoldable pub bracketed_in : ℕ → List ℕ → List Name → Reader (List ℕ)
bracketed_in p m names = do
  l ← order_from names byte_limit
  _ ← require (rearranges l m) BadIndex p
  give l

unfoldable pub optional_in : ℕ → List ℕ → List Name → Reader (List ℕ)
optional_in p m names = read_order names p m

-- an order of at most four marks
pub record Orders (o : List ℕ → List Name → Reader (List ℕ)) (s ns ts : List ℕ) (at : ℕ) (marks : Few) (r : Result (Few × ℕ) Refused) : Type 0 where
  pub is : (names : List Name) → Named s ns names → (m : List ℕ) → Keeps marks m → length m ≤ 4 → o m names (from s ts at) ≡ ordered s ts r

-- ---- a head

pub record Head : Type 0 where
  pub positions : List ℕ
  pub entries : List Entry

-- marks are tested at the `]`, an order at its `)`
unfoldable pub order_in : ℕ → List Entry → List Name → Reader Head
order_in p es names = do
  _ ← require (no_repeats (marks_of es)) BadIndex p
  o ← read_order names p (marks_of es)
  give (record { positions = positions_of o es; entries = es })

unfoldable pub rest_in : ℕ → ℕ → List Name → Reader Head
rest_in p n names = do
  es ← list_in n names
  order_in p es names

-- the head of a portion whose name stands at p and has n indices
unfoldable pub head_in : ℕ → ℕ → List Name → Reader Head
head_in p n names = do
  _ ← bracket opens_list nesting_limit
  rest_in p n names

abbrev pub planned : List ℕ → List ℕ → Result Plan Refused → Outcome (Read Head)
planned s ts (Ok x) = leaves (record { positions = numbers_of x.runs; entries = entries_of x.entries }) s ts x.next
planned s ts (Err e) = refused e.refusal e.place

-- of a domain of n indices, at most four
pub record Heads (m : List Name → Reader Head) (s ns ts : List ℕ) (at n : ℕ) (r : Result Plan Refused) : Type 0 where
  pub is : (names : List Name) → Named s ns names → n ≤ 4 → m names (from s ts at) ≡ planned s ts r
