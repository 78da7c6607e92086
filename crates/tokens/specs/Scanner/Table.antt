-- A text's tokens in a table, one word each, and what the scanner promises of the table.
use Rattle.std.specs.Prelude.{◌≡◌, cond, List, ◌⊎◌, ℕ, ◌+◌, ◌*◌, ◌/◌, ◌%◌, ◌<◌, ◌≤◌, pos, nat_abs, length, get_or, take, drop}
use Rattle.rules.specs.Limits.{byte_limit, name_length, string_length}
use Rattle.rules.specs.Refusals.{refusal_number}
use Rattle.value.specs.declared.Value.{Value}
use Rattle.value.specs.Decimal.{Valid}
use Rattle.lexer.specs.declared.Token.{Token}
use Rattle.lexer.specs.declared.Token.TheVariants.{Mark, Name, Literal, String, End, Wrong}
use Rattle.lexer.specs.Numbers.{number}
use Rattle.lexer.specs.Text.{tokens}
use Rattle.tokens.specs.Stored.{kind_part, payload_part, view}

-- a word for each byte of a text, and one for its end
unfoldable pub table_size : ℕ
table_size = byte_limit + 1

-- ---- one token

abbrev pub kind_number : Token → ℕ
kind_number (Mark m) = number m
kind_number (Name a n) = 1
kind_number (Literal w v) = cond w 2 3
kind_number (String a n) = 4
kind_number End = 0
kind_number (Wrong r) = 5

abbrev pub value_payload : Value → ℕ
value_payload v = nat_abs v.m * 8 + v.s

abbrev pub payload_of : Token → ℕ
payload_of (Mark m) = 0
payload_of (Name a n) = n
payload_of (Literal w v) = value_payload v
payload_of (String a n) = n
payload_of End = 0
payload_of (Wrong r) = refusal_number r

-- the value that a literal's payload is
abbrev pub value_of : ℕ → Value
value_of x = record { m = pos (x / 8); s = x % 8 }

-- a literal's value: never negative
pub record Plain (v : Value) : Type 0 where
  pub sign : v.m ≡ pos (nat_abs v.m)
  pub valid : Valid v

-- a word has room for the token
abbrev pub Packs : Token → Type 0
Packs (Mark m) = Unit {0}
Packs (Name a n) = n ≤ name_length
Packs (Literal w v) = Plain v
Packs (String a n) = n ≤ string_length
Packs End = Unit {0}
Packs (Wrong r) = Unit {0}

-- ---- the table

-- of a name, the payload is its length and nothing else
abbrev pub ShortName : ℕ → Type 0
ShortName w = kind_part w ≡ 1 → payload_part w ≤ name_length

-- the words of the text s
pub record Holds (s ts : List ℕ) : Type 0 where
  pub all : view s ts ≡ tokens s
  pub names : (i : ℕ) → i < length ts → ShortName (get_or ts i 0)

-- t was lent, r words of it are written, and t' is what it is then: the text's first tokens, as many as t has words; all of them,
-- or so many that a table shorter than `table_size` is full
pub record Scanned (s t : List ℕ) (r : ℕ) (t' : List ℕ) : Type 0 where
  pub size : length t' ≡ length t
  pub within : r ≤ length t
  pub behind : drop r t' ≡ drop r t
  pub words : view s (take r t') ≡ take (length t) (tokens s)
  pub names : (i : ℕ) → i < r → ShortName (get_or t' i 0)
  pub ends : (length (tokens s) ≡ r) ⊎ ((r ≡ length t) × (r < table_size))
