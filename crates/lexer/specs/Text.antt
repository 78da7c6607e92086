-- Document 01, "Text": the tokens of a text, from left to right. A refusal of a token by itself (2, 3 shape, 4 length, 5),
-- by the token count (6) or by the text's length (1) is a token too, and the last one: so a token's own tests come before its
-- placement, everywhere (decision 5; the numbers are those of docs/DECISIONS.md).
use Rattle.std.specs.Prelude.{Bool, true, false, cond, ◌&&◌, ◌||◌, not, List, [], ◌∷◌, ◌++◌, ℕ, zero, suc, ◌+◌, ◌-◌, eqb, leb, length, take, drop, Option, Some, None}
use Rattle.rules.specs.declared.Refusal.{Refusal}
use Rattle.rules.specs.declared.Refusal.TheVariants.{LongText, StrangeByte, Misplaced, BadName, Unfit, Full}
use Rattle.rules.specs.Characters.{code, space, tab, line_feed, carriage_return}
use Rattle.rules.specs.Limits.{byte_limit, token_limit, name_length, string_length, power_digits}
use Rattle.value.specs.declared.Value.{Value}
use Rattle.value.specs.Literal.{is_digit, literal_of}
use Rattle.lexer.specs.Marks.{Word, capital_words, small_words, init_word, close_word, at_most, at_least}

pub data Kind : Type 0 where
  mark : ℕ → Kind  -- a sign or a word, by its number in `Marks`
  name : List ℕ → Kind  -- its bytes
  literal : Bool → Value → Kind  -- whether it is digits only, and what it is
  string : List ℕ → Kind  -- the bytes between the braces
  end : Kind  -- the text's end
  wrong : Refusal → Kind  -- no token, and why

pub record Token : Type 0 where
  pub kind : Kind
  pub place : ℕ

-- one token and how many bytes it has
pub record Step : Type 0 where
  pub token : Token
  pub size : ℕ

abbrev pub step : Kind → ℕ → ℕ → Step
step k p n = record { token = record { kind = k; place = p }; size = n }

-- ---- runs of bytes: each token is the longest one possible; no blank is needed between tokens (decision 2)

-- the bytes of a class at the front, and what stands behind them
unfoldable pub front : (ℕ → Bool) → List ℕ → List ℕ
front c [] = []
front c (b ∷ t) = elim (c b) [ true ↦ b ∷ front c t | false ↦ [] ]

unfoldable pub behind : (ℕ → Bool) → List ℕ → List ℕ
behind c [] = []
behind c (b ∷ t) = elim (c b) [ true ↦ behind c t | false ↦ b ∷ t ]

unfoldable pub same_bytes : List ℕ → List ℕ → Bool
same_bytes [] [] = true
same_bytes [] (b ∷ t) = false
same_bytes (a ∷ s) [] = false
same_bytes (a ∷ s) (b ∷ t) = elim (eqb a b) [ true ↦ same_bytes s t | false ↦ false ]

-- ---- blanks are space, tab, line feed and carriage return

unfoldable pub is_blank : ℕ → Bool
is_blank b = eqb b space || eqb b tab || eqb b line_feed || eqb b carriage_return

-- ---- names are a lower-case letter, then lower-case letters and digits, at most 15 bytes; the six words are not names, but
-- kinds of their own (decision 6)

unfoldable pub is_small : ℕ → Bool
is_small b = leb (code "a") b && leb b (code "z")

unfoldable pub in_name : ℕ → Bool
in_name b = is_small b || is_digit b

-- a run of letters: the word that it is, or else what it is as no word
unfoldable pub among : List Word → List ℕ → Kind → Kind
among [] l k = k
among (w ∷ ws) l k = elim (same_bytes w.spelling l) [ true ↦ mark w.mark | false ↦ among ws l k ]

unfoldable pub name_step : ℕ → List ℕ → Step
name_step p l = step (among small_words l (cond (leb (length l) name_length) (name l) (wrong BadName))) p (length l)

-- ---- capital words: a run of capitals is one token, misshapen if it is none of them

unfoldable pub is_capital : ℕ → Bool
is_capital b = leb (code "A") b && leb b (code "Z")

unfoldable pub word_step : ℕ → List ℕ → Step
word_step p l = step (among capital_words l (wrong Misplaced)) p (length l)

-- ---- signs: + - * , ; : = ( ) [ ] and `<=`, `>=`; a lone `<` or `>` starts no token (decision 1)

unfoldable pub is_sign : ℕ → Bool
is_sign b =
    eqb b (code "+") || eqb b (code "-") || eqb b (code "*") || eqb b (code ",") || eqb b (code ";") || eqb b (code ":")
    || eqb b (code "=") || eqb b (code "(") || eqb b (code ")") || eqb b (code "[") || eqb b (code "]")

unfoldable pub order_step : ℕ → ℕ → List ℕ → Step
order_step p k [] = step (wrong StrangeByte) p 0
order_step p k (b ∷ t) = cond (eqb b (code "=")) (step (mark k) p 2) (step (wrong StrangeByte) p 0)

-- ---- literals: digits, digits.digits or .digits; a point with no digit behind it starts no token (decision 1). A literal of
-- more than 18 digits is one token, 5 at its first byte (decision 3). A power of ten may follow: `E`, an optional sign and one or
-- two digits (decision 50)

unfoldable pub literal_kind : Bool → Option Value → Kind
literal_kind w (Some v) = literal w v
literal_kind w None = wrong Unfit

unfoldable pub valued : Bool → ℕ → List ℕ → Step
valued w p l = step (literal_kind w (literal_of l)) p (length l)

-- a point and a digit
unfoldable pub pointed : List ℕ → Bool
pointed [] = false
pointed (b ∷ []) = false
pointed (b ∷ c ∷ t) = eqb b (code ".") && is_digit c

-- how many bytes at the front are a sign, at most one
unfoldable pub sign_length : List ℕ → ℕ
sign_length [] = 0
sign_length (b ∷ t) = cond (eqb b (code "+") || eqb b (code "-")) 1 0

-- the bytes of `E`, a sign of s bytes and n digits: no power without a digit, and a third digit starts the next token
unfoldable pub power_size : ℕ → ℕ → ℕ
power_size s zero = 0
power_size s (suc n) = 1 + s + cond (leb (suc n) power_digits) (suc n) power_digits

-- how many bytes at the front are `E`, an optional sign and one or two digits; 0 where these are not all there
unfoldable pub power_length : List ℕ → ℕ
power_length [] = 0
power_length (b ∷ t) = cond (eqb b (code "E")) (power_size (sign_length t) (length (front is_digit (drop (sign_length t) t)))) 0

-- the decimal l, which is digits only or not, and its power if one stands behind it: then it is no longer digits only
unfoldable pub powered : Bool → ℕ → List ℕ → List ℕ → Step
powered w p l r = valued (w && eqb (power_length r) 0) p (l ++ take (power_length r) r)

-- the digits w at the front, and what stands behind them
unfoldable pub literal_step : ℕ → List ℕ → List ℕ → Step
literal_step p w r = elim (pointed r) [ true ↦ powered false p (w ++ (code "." ∷ front is_digit (drop 1 r))) (behind is_digit (drop 1 r)) | false ↦ powered true p w r ]

-- ---- a string is `{`, 1 to 60 bytes from 32 to 126 other than braces, `}`; another length, or no end, is misshapen at its `{`

unfoldable pub no_brace : ℕ → Bool
no_brace b = not (eqb b (code "}"))

unfoldable pub in_string : ℕ → Bool
in_string b = leb 32 b && leb b 126 && not (eqb b (code "{"))

-- it reaches to its `}` or to the text's end: first the first byte that may not stand in it, wherever it stands, then the
-- shape (decision 4); `e` is what the string is where every byte may stand
unfoldable pub strange : ℕ → List ℕ → Step → Step
strange p [] e = e
strange p (b ∷ t) e = elim (in_string b) [ true ↦ strange (suc p) t e | false ↦ step (wrong StrangeByte) p 0 ]

-- 1 to 60 bytes and a brace behind them
unfoldable pub well_shaped : List ℕ → List ℕ → Bool
well_shaped l [] = false
well_shaped l (b ∷ t) = leb 1 (length l) && leb (length l) string_length

unfoldable pub string_step : ℕ → List ℕ → List ℕ → Step
string_step p l r = strange (suc p) l (step (cond (well_shaped l r) (string l) (wrong Misplaced)) p (length l + 2))

-- ---- the token at p whose first byte is b

unfoldable pub step_at : ℕ → ℕ → List ℕ → Step
step_at p b t =
    cond (is_sign b) (step (mark b) p 1)
    (cond (is_digit b || pointed (b ∷ t)) (literal_step p (front is_digit (b ∷ t)) (behind is_digit (b ∷ t)))
    (cond (is_small b) (name_step p (front in_name (b ∷ t)))
    (cond (is_capital b) (word_step p (front is_capital (b ∷ t)))
    (cond (eqb b (code "{")) (string_step p (front no_brace t) (behind no_brace t))
    (cond (eqb b (code "<")) (order_step p at_most t)
    (cond (eqb b (code ">")) (order_step p at_least t)
    (step (wrong StrangeByte) p 0)))))))

-- ---- the tokens of a text

unfoldable pub is_wrong : Kind → Bool
is_wrong (mark c) = false
is_wrong (name l) = false
is_wrong (literal w v) = false
is_wrong (string l) = false
is_wrong end = false
is_wrong (wrong r) = true

-- the tokens from byte p on, the last one the end or a refusal; k is how many bytes of the last token are still to pass
unfoldable pub tokens_from : ℕ → ℕ → List ℕ → List Token
tokens_from p k [] = record { kind = end; place = p } ∷ []
tokens_from p (suc k) (b ∷ t) = tokens_from (suc p) k t
tokens_from p zero (b ∷ t) =
    elim (is_blank b) [
      | true ↦ tokens_from (suc p) 0 t
      | false ↦ let x = step_at p b t in
          elim (is_wrong x.token.kind) [ true ↦ x.token ∷ [] | false ↦ x.token ∷ tokens_from (suc p) (x.size - 1) t ]
    ]

-- tokens that no longer count: the end, a refusal, `INIT` and `CLOSE`, and all behind (decision 7)
unfoldable pub uncounted : Kind → Bool
uncounted (mark c) = eqb c init_word || eqb c close_word
uncounted (name l) = false
uncounted (literal w v) = false
uncounted (string l) = false
uncounted end = true
uncounted (wrong r) = true

-- with n tokens more at most before `INIT` or `CLOSE`
unfoldable pub counted : ℕ → List Token → List Token
counted n [] = []
counted zero (t ∷ ts) = cond (uncounted t.kind) (t ∷ ts) (record { kind = wrong Full; place = t.place } ∷ [])
counted (suc n) (t ∷ ts) = elim (uncounted t.kind) [ true ↦ t ∷ ts | false ↦ t ∷ counted n ts ]

-- 1 for a text above 16,384 bytes; then tokens left to right
unfoldable pub tokens : List ℕ → List Token
tokens text =
    cond (leb (length text) byte_limit) (counted token_limit (tokens_from 0 0 text)) (record { kind = wrong LongText; place = byte_limit } ∷ [])
