-- Document 01, "Values": a decimal is digits, digits.digits or .digits, at most 18 digits in all. Document 02, #102: a literal is a
-- decimal, or a decimal followed by `E`, an optional sign and one or two digits, and is then the decimal times that power of ten
-- (decision 50; the numbers are those of docs/DECISIONS.md). What is no literal, has more digits, or doesn't fit, is too big.
use Rattle.std.specs.Prelude.{Bool, true, false, cond, ◌&&◌, List, [], ◌∷◌, ◌++◌, ℕ, suc, ◌+◌, ◌-◌, ◌*◌, ◌^◌, leb, eqb, length, ℤ, pos, negsuc, neg_ℤ, Option, Some, None}
use Rattle.value.specs.declared.Value.{Value}
use Rattle.rules.specs.Characters.{code}
use Rattle.rules.specs.Limits.{digit_limit, power_digits}
use Rattle.rational.specs.Fraction.{Fraction, ◌⊗◌, integer}
use Rattle.value.specs.Decimal.{tenths, fit_of}

unfoldable pub is_digit : ℕ → Bool
is_digit b = leb (code "0") b && leb b (code "9")

unfoldable pub all_digits : List ℕ → Bool
all_digits [] = true
all_digits (b ∷ t) = elim (is_digit b) [ true ↦ all_digits t | false ↦ false ]

-- the number that digits write after n; a byte that is no digit counts as 0
unfoldable pub digit_of : ℕ → ℕ
digit_of b = cond (is_digit b) (b - code "0") 0

unfoldable pub number_from : ℕ → List ℕ → ℕ
number_from n [] = n
number_from n (b ∷ t) = number_from (n * 10 + digit_of b) t

-- the bytes before the first point, and those after it
unfoldable pub before : List ℕ → List ℕ
before [] = []
before (b ∷ t) = elim (eqb b (code ".")) [ true ↦ [] | false ↦ b ∷ before t ]

unfoldable pub after : List ℕ → List ℕ
after [] = []
after (b ∷ t) = elim (eqb b (code ".")) [ true ↦ t | false ↦ after t ]

-- digits before and after the point, and the last byte one of them: digits, digits.digits or .digits; at most 18 digits
unfoldable pub is_decimal : List ℕ → Bool
is_decimal t =
    all_digits (before t) && all_digits (after t) && cond (eqb (length t) (length (before t))) (leb 1 (length t)) (leb 1 (length (after t)))
    && leb (length (before t) + length (after t)) digit_limit

-- the number that a decimal writes
unfoldable pub decimal_number : List ℕ → Fraction
decimal_number t = tenths (pos (number_from 0 (before t ++ after t))) (length (after t))

-- the value of a decimal; what is no decimal has none
unfoldable pub decimal_of : List ℕ → Option Value
decimal_of t = cond (is_decimal t) (fit_of (decimal_number t)) None

-- the bytes before the first `E`, and those after it
unfoldable pub significand : List ℕ → List ℕ
significand [] = []
significand (b ∷ t) = elim (eqb b (code "E")) [ true ↦ [] | false ↦ b ∷ significand t ]

unfoldable pub exponent : List ℕ → List ℕ
exponent [] = []
exponent (b ∷ t) = elim (eqb b (code "E")) [ true ↦ t | false ↦ exponent t ]

-- the power that one or two digits write, behind a minus or not
unfoldable pub power_by : Bool → List ℕ → Option ℤ
power_by minus t =
    let k = pos (number_from 0 t) in
    cond (all_digits t && leb 1 (length t) && leb (length t) power_digits) (Some (cond minus (neg_ℤ k) k)) None

-- the power that an optional sign and one or two digits write; anything else writes none
unfoldable pub power_of : List ℕ → Option ℤ
power_of [] = None
power_of (b ∷ t) = cond (eqb b (code "-")) (power_by true t) (cond (eqb b (code "+")) (power_by false t) (power_by false (b ∷ t)))

-- a number times 10^k, or divided by it
unfoldable pub scaled_by : ℤ → Fraction → Fraction
scaled_by (pos k) q = q ⊗ integer (pos (10 ^ k))
scaled_by (negsuc k) q = q ⊗ tenths (pos 1) (suc k)

-- the value of a decimal times a power of ten: only the product must fit
unfoldable pub raised_by : Option ℤ → List ℕ → Option Value
raised_by None t = None
raised_by (Some e) t = cond (is_decimal t) (fit_of (scaled_by e (decimal_number t))) None

-- the value of a literal; what is no literal has none
unfoldable pub literal_of : List ℕ → Option Value
literal_of t = cond (eqb (length (significand t)) (length t)) (decimal_of t) (raised_by (power_of (exponent t)) (significand t))
