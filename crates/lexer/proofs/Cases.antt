-- Small texts and their tokens: each sign and word, each refusal of a token with its place, the longest token possible, and
-- the edges of names, strings and literals. antt computes them over the definition.
use mathlib.Core.Path.{◌≡◌, refl}
use mathlib.Core.Bool.{true, false}
use mathlib.Core.List.{List, [], ◌∷◌, map}
use Prim.Native.Nat.{ℕ}
use Prim.Native.String.{String}
use lib.IntN.{pos}
use lib.ListN.{replicate}
use Rattle.rules.specs.declared.Refusal.TheVariants.{LongText, StrangeByte, Misplaced, BadName, Unfit, Full}
use Rattle.rules.specs.Characters.{bytes, space}
use Rattle.rules.specs.Limits.{byte_limit, token_limit, name_length, string_length, digit_limit, power_digits, mantissa_limit, scale_limit}
use Rattle.rational.specs.Fraction.{◌⊗◌, integer}
use Rattle.value.specs.Decimal.{tenths, with_sign, seek, choose, fit_of}
use Rattle.value.specs.Literal.{is_digit, all_digits, digit_of, number_from, before, after, is_decimal, decimal_number, decimal_of, significand, exponent, power_by, power_of, scaled_by, raised_by, literal_of}
use Rattle.lexer.specs.Marks.{plus_sign, minus_sign, times_sign, comma, semicolon, colon, equals, at_most, at_least, opens, closes, opens_list, closes_list, open_word, close_word, maximize_word, minimize_word, init_word, sum_word, sigma_word, index_word, integer_word, real_word, formula_word, discrete_word, continuous_word, capital_words, small_words}
use Rattle.lexer.specs.Text.{Kind, mark, name, literal, string, end, wrong, Token, front, behind, same_bytes, is_blank, is_small, in_name, among, name_step, is_capital, word_step, is_sign, order_step, literal_kind, valued, pointed, sign_length, power_size, power_length, powered, literal_step, no_brace, in_string, strange, well_shaped, string_step, step_at, is_wrong, tokens_from, uncounted, counted, tokens}

-- a token of the kind k at p
infixl 70 ◌at◌
abbrev ◌at◌ : Kind → ℕ → Token
k at p = record { kind = k; place = p }

-- a literal that is digits only, and one with a point or a power: m / 10^s
abbrev whole : ℕ → Kind
whole m = literal true (record { m = pos m; s = 0 })

abbrev decimal : ℕ → ℕ → Kind
decimal m s = literal false (record { m = pos m; s = s })

pub record Case : Type 0 where
  pub text : List ℕ
  pub gives : List Token

abbrev case : String → List Token → Case
case t l = record { text = bytes t; gives = l }

unfoldable cases : List Case
cases =
    -- blanks
    case "" (end at 0 ∷ [])
    ∷ case " \t\n\r" (end at 4 ∷ [])
    -- signs
    ∷ case "+-*,;:=" (mark plus_sign at 0 ∷ mark minus_sign at 1 ∷ mark times_sign at 2 ∷ mark comma at 3 ∷ mark semicolon at 4 ∷ mark colon at 5 ∷ mark equals at 6 ∷ end at 7 ∷ [])
    ∷ case "()[]" (mark opens at 0 ∷ mark closes at 1 ∷ mark opens_list at 2 ∷ mark closes_list at 3 ∷ end at 4 ∷ [])
    ∷ case "<=>==" (mark at_most at 0 ∷ mark at_least at 2 ∷ mark equals at 4 ∷ end at 5 ∷ [])
    ∷ case "<" (wrong StrangeByte at 0 ∷ [])
    ∷ case "> =" (wrong StrangeByte at 0 ∷ [])
    ∷ case "x<y" (name (bytes "x") at 0 ∷ wrong StrangeByte at 1 ∷ [])
    ∷ case "=>" (mark equals at 0 ∷ wrong StrangeByte at 1 ∷ [])
    -- capital words
    ∷ case "OPEN\tCLOSE" (mark open_word at 0 ∷ mark close_word at 5 ∷ end at 10 ∷ [])
    ∷ case "MAXIMIZE\nMINIMIZE\r" (mark maximize_word at 0 ∷ mark minimize_word at 9 ∷ end at 18 ∷ [])
    ∷ case "INIT SUM S" (mark init_word at 0 ∷ mark sum_word at 5 ∷ mark sigma_word at 9 ∷ end at 10 ∷ [])
    ∷ case "S SU" (mark sigma_word at 0 ∷ wrong Misplaced at 2 ∷ [])
    ∷ case "SX" (wrong Misplaced at 0 ∷ [])
    ∷ case "OPENCLOSE" (wrong Misplaced at 0 ∷ [])
    ∷ case "xS" (name (bytes "x") at 0 ∷ mark sigma_word at 1 ∷ end at 2 ∷ [])
    ∷ case "Sx" (mark sigma_word at 0 ∷ name (bytes "x") at 1 ∷ end at 2 ∷ [])
    -- names and the six words
    ∷ case "index integer real" (mark index_word at 0 ∷ mark integer_word at 6 ∷ mark real_word at 14 ∷ end at 18 ∷ [])
    ∷ case "formula discrete continuous" (mark formula_word at 0 ∷ mark discrete_word at 8 ∷ mark continuous_word at 17 ∷ end at 27 ∷ [])
    ∷ case "reals rea real1 x2y" (name (bytes "reals") at 0 ∷ name (bytes "rea") at 6 ∷ name (bytes "real1") at 10 ∷ name (bytes "x2y") at 16 ∷ end at 19 ∷ [])
    ∷ case "abcdefghijklmn5" (name (bytes "abcdefghijklmn5") at 0 ∷ end at 15 ∷ [])
    ∷ case "a abcdefghijklmno6" (name (bytes "a") at 0 ∷ wrong BadName at 2 ∷ [])
    -- literals
    ∷ case "2x" (whole 2 at 0 ∷ name (bytes "x") at 1 ∷ end at 2 ∷ [])
    ∷ case "1CLOSE" (whole 1 at 0 ∷ mark close_word at 1 ∷ end at 6 ∷ [])
    ∷ case "1.50 .5 0.0" (decimal 15 1 at 0 ∷ decimal 5 1 at 5 ∷ decimal 0 0 at 8 ∷ end at 11 ∷ [])
    ∷ case "1.2.3" (decimal 12 1 at 0 ∷ decimal 3 1 at 3 ∷ end at 5 ∷ [])
    ∷ case "1." (whole 1 at 0 ∷ wrong StrangeByte at 1 ∷ [])
    ∷ case ".x" (wrong StrangeByte at 0 ∷ [])
    ∷ case "000000000123456789" (whole 123456789 at 0 ∷ end at 18 ∷ [])
    ∷ case "0000000000123456789" (wrong Unfit at 0 ∷ [])
    ∷ case "1.00000000000000000" (decimal 1 0 at 0 ∷ end at 19 ∷ [])
    ∷ case "+1.000000000000000000" (mark plus_sign at 0 ∷ wrong Unfit at 1 ∷ [])
    ∷ case "999999999 1000000000" (whole 999999999 at 0 ∷ wrong Unfit at 10 ∷ [])
    ∷ case "0.000001 0.0000001" (decimal 1 6 at 0 ∷ wrong Unfit at 9 ∷ [])
    -- powers of ten
    ∷ case "2.5E-3 .5E+02 1E0" (decimal 25 4 at 0 ∷ decimal 50 0 at 7 ∷ decimal 1 0 at 14 ∷ end at 17 ∷ [])
    ∷ case "0.0000001E1 0E99 1E9" (decimal 1 6 at 0 ∷ decimal 0 0 at 12 ∷ wrong Unfit at 17 ∷ [])
    ∷ case "2E001" (decimal 2 0 at 0 ∷ whole 1 at 4 ∷ end at 5 ∷ [])
    ∷ case "2E1.5" (decimal 20 0 at 0 ∷ decimal 5 1 at 3 ∷ end at 5 ∷ [])
    ∷ case "2E 5" (whole 2 at 0 ∷ wrong Misplaced at 1 ∷ [])
    ∷ case "2E+" (whole 2 at 0 ∷ wrong Misplaced at 1 ∷ [])
    ∷ case "x2E3" (name (bytes "x2") at 0 ∷ wrong Misplaced at 2 ∷ [])
    -- strings
    ∷ case "{}" (wrong Misplaced at 0 ∷ [])
    ∷ case "{a}{ ?~}" (string (bytes "a") at 0 ∷ string (bytes " ?~") at 3 ∷ end at 8 ∷ [])
    ∷ case "{012345678901234567890123456789012345678901234567890123456789}" (string (bytes "012345678901234567890123456789012345678901234567890123456789") at 0 ∷ end at 62 ∷ [])
    ∷ case "{0123456789012345678901234567890123456789012345678901234567890}" (wrong Misplaced at 0 ∷ [])
    ∷ case "x {abc" (name (bytes "x") at 0 ∷ wrong Misplaced at 2 ∷ [])
    ∷ case "{a{b}" (wrong StrangeByte at 2 ∷ [])
    ∷ case "{a\nb" (wrong StrangeByte at 2 ∷ [])
    ∷ case "{0123456789012345678901234567890123456789012345678901234567890\t}" (wrong StrangeByte at 62 ∷ [])
    -- other bytes
    ∷ case " ?" (wrong StrangeByte at 1 ∷ [])
    ∷ case "}" (wrong StrangeByte at 0 ∷ [])
    -- a text of 16,385 bytes
    ∷ record { text = replicate 16385 space; gives = wrong LongText at 16384 ∷ [] }
    ∷ []

cases-hold : map (λ (c : Case). tokens c.text) cases ≡ map (λ (c : Case). c.gives) cases
unfolding cases byte_limit token_limit name_length string_length digit_limit power_digits mantissa_limit scale_limit ◌⊗◌ integer tenths with_sign seek choose fit_of is_digit all_digits digit_of number_from before after is_decimal decimal_number decimal_of significand exponent power_by power_of scaled_by raised_by literal_of capital_words small_words front behind same_bytes is_blank is_small in_name among name_step is_capital word_step is_sign order_step literal_kind valued pointed sign_length power_size power_length powered literal_step no_brace in_string strange well_shaped string_step step_at is_wrong tokens_from uncounted counted tokens
cases-hold = refl

-- ---- at most two tokens before `INIT` or `CLOSE`

unfoldable counts : List Case
counts =
    case "a b" (name (bytes "a") at 0 ∷ name (bytes "b") at 2 ∷ end at 3 ∷ [])
    ∷ case "a b c d" (name (bytes "a") at 0 ∷ name (bytes "b") at 2 ∷ wrong Full at 4 ∷ [])
    ∷ case "a b ?" (name (bytes "a") at 0 ∷ name (bytes "b") at 2 ∷ wrong StrangeByte at 4 ∷ [])
    ∷ case "a b INIT c" (name (bytes "a") at 0 ∷ name (bytes "b") at 2 ∷ mark init_word at 4 ∷ name (bytes "c") at 9 ∷ end at 10 ∷ [])
    ∷ case "a CLOSE c d" (name (bytes "a") at 0 ∷ mark close_word at 2 ∷ name (bytes "c") at 8 ∷ name (bytes "d") at 10 ∷ end at 11 ∷ [])
    ∷ []

counts-hold : map (λ (c : Case). counted 2 (tokens_from 0 0 c.text)) counts ≡ map (λ (c : Case). c.gives) counts
unfolding counts name_length is_digit capital_words small_words front behind same_bytes is_blank is_small in_name among name_step is_capital word_step is_sign pointed step_at is_wrong tokens_from uncounted counted
counts-hold = refl
