-- What the functions inside the lexer answer, in the definition's terms.
use Rattle.std.specs.Prelude.{◌≡◌, Bool, true, false, cond, List, ◌∷◌, ◌++◌, ℕ, ◌+◌, ◌-◌, ◌<◌, ◌≤◌, eqb, length, drop, Option, Some, None}
use Rattle.value.specs.declared.Value.{Value}
use Rattle.rules.specs.declared.Refusal.TheVariants.{StrangeByte, Unfit}
use Rattle.rules.specs.Characters.{code}
use Rattle.value.specs.Literal.{is_digit}
use Rattle.lexer.specs.Marks.{Word, at_most, at_least}
use Rattle.lexer.specs.Numbers.{number}
use Rattle.lexer.specs.Text as Text
use Rattle.lexer.specs.Text.{Kind, mark, wrong, is_sign, no_brace, among, step, pointed, sign_length, power_length, powered, front, behind, string_step, order_step}
use Rattle.lexer.specs.View.{kind_of, Within}
use Rattle.lexer.specs.declared.Token.TheVariants.{Literal, Wrong}
use Rattle.lexer.specs.declared.Found.{Found}
use Rattle.lexer.specs.declared.Mark.{Mark}

-- ---- runs of bytes

-- n bytes of the class c stand from `at` on
pub record RunLength (s : List ℕ) (at : ℕ) (c : ℕ → Bool) (n : ℕ) : Type 0 where
  pub count : n ≡ length (front c (drop at s))
  pub bound : n ≤ length s - at

-- ---- one token

-- the code found what the definition has
pub record Gives (s : List ℕ) (r : Found) (x : Text.Step) : Type 0 where
  pub same : step (kind_of s r.token) r.place r.size ≡ x
  pub within : Within s r.place r.token

-- a literal's value, or that there is none
abbrev pub found_of : Bool → Option Value → ℕ → ℕ → Found
found_of w (Some v) at n = record { token = Literal w v; place = at; size = n }
found_of w None at n = record { token = Wrong Unfit; place = at; size = n }

-- the sign of one byte that b is, if it is one
abbrev pub IsSign : ℕ → Option Mark → Type 0
IsSign b (Some m) = (is_sign b ≡ true) × (number m ≡ b)
IsSign b None = is_sign b ≡ false

-- the word's kind, or k without a word
abbrev pub word_kind : Option Mark → Kind → Kind
word_kind (Some m) k = mark (number m)
word_kind None k = k

-- the word of the list that l is, if it is one of them
pub record IsWord (ws : List Word) (l : List ℕ) (w : Option Mark) : Type 0 where
  pub is : (k : Kind) → among ws l k ≡ word_kind w k

-- w digits stand from `at` on, and behind them a point and a digit
pub record PointAfter (s : List ℕ) (at w : ℕ) : Type 0 where
  pub digits : RunLength s at is_digit w
  pub point : pointed (drop (at + w) s) ≡ true
  pub inside : at + w < length s

-- n bytes of a sign stand at `at`
pub record SignLength (s : List ℕ) (at n : ℕ) : Type 0 where
  pub count : n ≡ sign_length (drop at s)
  pub small : n ≤ 1

-- n bytes of a power of ten stand from `at` on
pub record PowerLength (s : List ℕ) (at n : ℕ) : Type 0 where
  pub count : n ≡ power_length (drop at s)
  pub bound : n ≤ length s - at

-- parts of the definition's `literal_step` and `step_at`
abbrev pub fraction_step : ℕ → List ℕ → Text.Step
fraction_step p l =
    powered false p (front is_digit l ++ (code "." ∷ front is_digit (drop 1 (behind is_digit l)))) (behind is_digit (drop 1 (behind is_digit l)))

abbrev pub other_step : ℕ → ℕ → List ℕ → Text.Step
other_step p b t =
    cond (eqb b (code "{")) (string_step p (front no_brace t) (behind no_brace t))
    (cond (eqb b (code "<")) (order_step p at_most t)
    (cond (eqb b (code ">")) (order_step p at_least t)
    (step (wrong StrangeByte) p 0)))
