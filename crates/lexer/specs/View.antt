-- What the public calls answer, in the definition's terms: a name or a string is a part of the text.
use Rattle.std.specs.Prelude.{◌≡◌, Bool, true, false, cond, List, [], ◌∷◌, ℕ, ◌+◌, ◌-◌, ◌<◌, ◌≤◌, length, take, drop}
use Rattle.rules.specs.Limits.{name_length, string_length, token_limit}
use Rattle.value.specs.Decimal.{Valid}
use Rattle.lexer.specs.Numbers.{number}
use Rattle.lexer.specs.Text as Text
use Rattle.lexer.specs.Text.{Kind, mark, name, literal, string, end, wrong, tokens_from, counted}
use Rattle.lexer.specs.declared.Token.{Token}
use Rattle.lexer.specs.declared.Token.TheVariants.{Mark, Name, Literal, String, End, Wrong}
use Rattle.lexer.specs.declared.Cursor.{Cursor}
use Rattle.lexer.specs.declared.Read.{Read}
use Rattle.lexer.specs.declared.Source.{Source}

-- ---- tokens

-- the n bytes of the text from a on, or as many of them as it has
abbrev pub part_of : List ℕ → ℕ → ℕ → List ℕ
part_of s a n = take n (drop a s)

abbrev pub kind_of : List ℕ → Token → Kind
kind_of s (Mark m) = mark (number m)
kind_of s (Name a n) = name (part_of s a n)
kind_of s (Literal w v) = literal w v
kind_of s (String a n) = string (part_of s a n)
kind_of s End = end
kind_of s (Wrong r) = wrong r

-- n bytes from a on, which is `from`, are in the text, and at most `limit`
pub record Part (s : List ℕ) (from limit a n : ℕ) : Type 0 where
  pub starts : a ≡ from
  pub short : n ≤ limit
  pub inside : a + n ≤ length s

-- what a caller may rely on without the definition: a name is the part of the text at its token's place, a string the part
-- behind its brace, a literal's value is valid
abbrev pub Within : List ℕ → ℕ → Token → Type 0
Within s p (Mark m) = Unit {0}
Within s p (Name a n) = Part s p name_length a n
Within s p (Literal w v) = Valid v
Within s p (String a n) = Part s (p + 1) string_length a n
Within s p End = Unit {0}
Within s p (Wrong r) = Unit {0}

-- ---- the cursor

-- no token comes after
abbrev pub is_last : Kind → Bool
is_last (mark c) = false
is_last (name l) = false
is_last (literal w v) = false
is_last (string l) = false
is_last end = true
is_last (wrong r) = true

-- where a token k from `at` on stands, and the cursor past it: places rise; the end stands at the text's length, or at a cursor
-- that is past it, any other token in the text
pub record Placed (s : List ℕ) (at : ℕ) (k : Kind) (place next : ℕ) : Type 0 where
  pub low : at ≤ place
  pub high : place ≤ at + (length s - at)
  pub ends : k ≡ end → place ≡ at + (length s - at)
  pub inside : (k ≡ end → ⊥) → place < length s
  pub moves : is_last k ≡ false → (place < next) × (next ≤ length s)

-- the tokens from `at` on are this one, and then those from its `next` on, unless it is the last
pub record Reads (s : List ℕ) (at : ℕ) (r : Read Cursor) : Type 0 where
  pub tokens : tokens_from at 0 (drop at s) ≡ record { kind = kind_of s r.token; place = r.place } ∷ cond (is_last (kind_of s r.token)) [] (tokens_from r.next.at 0 (drop r.next.at s))
  pub within : Within s r.place r.token
  pub placed : Placed s at (kind_of s r.token) r.place r.next.at

-- ---- with the count of the tokens before `INIT` or `CLOSE`

-- the tokens that are still to come
unfoldable pub coming_at : List ℕ → Source → List Text.Token
coming_at s c = cond c.counts (counted c.left (tokens_from c.at 0 (drop c.at s))) (tokens_from c.at 0 (drop c.at s))

-- a text's beginning
abbrev pub start_of : Source
start_of = record { at = 0; left = token_limit; counts = true }

pub record Turns (s : List ℕ) (c : Source) (r : Read Source) : Type 0 where
  pub tokens : coming_at s c ≡ record { kind = kind_of s r.token; place = r.place } ∷ cond (is_last (kind_of s r.token)) [] (coming_at s r.next)
  pub within : Within s r.place r.token
  pub placed : Placed s c.at (kind_of s r.token) r.place r.next.at
