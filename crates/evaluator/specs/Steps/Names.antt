-- Names by the numbers that their tokens hold.
use Rattle.std.specs.Prelude.{Err, None, Ok, Option, Result, Some, ◌≡◌, cond, List, ℕ, zero, suc, ◌+◌, ◌-◌, ◌*◌, ◌/◌, ◌<◌, ◌≤◌, eqb, ltb, length, get_or, take}
use Rattle.rules.specs.declared.Refused.{Refused}
use Rattle.rules.specs.Limits.{name_limit}
use Rattle.language.specs.Outcome.{Outcome, done, refused}
use Rattle.language.specs.Syntax.{Name}
use Rattle.language.specs.Reader.{Read}
use Rattle.tokens.specs.declared.Found.{Found}
use Rattle.tokens.specs.declared.Seen.{Seen}
use Rattle.tokens.specs.Stored.{kind_part, place_part, payload_part, name_bytes, spelling, from, Looks, look_up, Named}
use Rattle.onepass.specs.Walk.{walk_head}
use Rattle.evaluator.specs.Steps.Passing.{Skips}
use Rattle.evaluator.specs.declared.steps.names.Listed.{Listed}

-- ---- numbers in name tokens

-- one more than the name's number, 0 for an unknown name
abbrev pub number_part : ℕ → ℕ
number_part w = payload_part w / 16

abbrev pub number_found : Option Found → ℕ
number_found (Some x) = suc x.number
number_found None = 0

-- what a word's token spells, if it is a name
abbrev pub word_spelling : List ℕ → ℕ → List ℕ
word_spelling s w = spelling s (place_part w) (name_bytes (payload_part w))

-- each name token holds the number that the table tells
pub record Resolved (s ns ts : List ℕ) : Type 0 where
  pub numbers : (at : ℕ) → at < length ts → kind_part (get_or ts at 0) ≡ 1 → number_part (get_or ts at 0) ≡ number_found (look_up s (word_spelling s (get_or ts at 0)) ns 0)

-- a number that a token has room for
unfoldable pub number_kept : Option Found → ℕ
number_kept (Some x) = cond (ltb x.number name_limit) (suc x.number) 0
number_kept None = 0

unfoldable pub resolved_word : List ℕ → List ℕ → ℕ → ℕ
resolved_word s ns w = cond (eqb (kind_part w) 1) (w - payload_part w + name_bytes (payload_part w) + number_kept (look_up s (word_spelling s w) ns 0) * 16) w

-- the words resolved: every token stays what it is, and of a table of at most 64 names each name token holds its number
pub record Resolves (s ns ts ts' : List ℕ) : Type 0 where
  pub size : length ts' ≡ length ts
  pub same : (t : List ℕ) (at : ℕ) → from t ts' at ≡ from t ts at
  pub resolved : length ns ≤ name_limit * 5 → Resolved s ns ts'

-- ---- rows

-- word f of row i
unfoldable pub row_word : List ℕ → ℕ → ℕ → ℕ
row_word ns i f = get_or ns (i * 5 + f) 0

-- the name of the number that a token holds
unfoldable pub listed_of : List ℕ → ℕ → Option Listed
listed_of ns zero = None
listed_of ns (suc i) = Some (record { number = i; sort = (row_word ns i 2); count = (row_word ns i 3); start = (row_word ns i 4) })

-- its number alone, if it is among the first `level`
unfoldable pub number_below : ℕ → ℕ → ℕ
number_below level zero = 0
number_below level (suc i) = cond (ltb i level) i 0

-- the number of an index by its token's word
unfoldable pub index_number : ℕ → ℕ → ℕ
index_number level w = cond (eqb (kind_part w) 1) (number_below level (number_part w)) 0

-- ---- `(`, an index and a comma

-- what the token t at the position a says
abbrev pub HeadAt : List ℕ → ℕ → ℕ → Result Seen Refused → Result (ℕ × ℕ) Refused → Type 0
HeadAt ts level a (Ok t) (Ok (i, c)) = (i ≡ index_number level (get_or ts a 0)) × Skips ts t.next c
HeadAt ts level a (Ok t) (Err e) = ⊥
HeadAt ts level a (Err e) (Ok (i, c)) = ⊥
HeadAt ts level a (Err e) (Err w) = (e.refusal ≡ w.refusal) × (e.place ≡ w.place)

-- the token behind the bracket, and its number
pub record Opens (ts : List ℕ) (level at : ℕ) (r : Result (ℕ × ℕ) Refused) : Type 0 where
  pub behind : ℕ
  pub skips : Skips ts at behind
  pub token : Result Seen Refused
  pub looks : Looks ts behind token
  pub answer : HeadAt ts level behind token r

abbrev pub head_outcome : List ℕ → List ℕ → Result (ℕ × ℕ) Refused → Outcome (Read ℕ)
head_outcome s ts (Ok (i, a)) = done (record { what = i; rest = from s ts a })
head_outcome s ts (Err e) = refused e.refusal e.place

-- of resolved tokens, the definition's head
pub record Heads (ts : List ℕ) (level at : ℕ) (r : Result (ℕ × ℕ) Refused) : Type 0 where
  pub is : (s ns : List ℕ) (names : List Name) → Named s ns names → Resolved s ns ts → walk_head (take level names) (from s ts at) ≡ head_outcome s ts r
