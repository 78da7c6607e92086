-- The edges of what a literal is, and texts that are none, and values rounded to whole numbers: tables of inputs and answers,
-- which antt computes over the definitions of `specs/`. (Document 01's proof cases are one table, in `language`.)
use Rattle.std.specs.Prelude.{Option, Some, None}
use mathlib.Core.Path.{◌≡◌, refl}
use mathlib.Core.List.{List, [], ◌∷◌, map}
use Prim.Native.Nat.{ℕ}
use Prim.Native.String.{String}
use lib.IntN.{ℤ, pos, neg_ℤ}
use Rattle.rules.specs.Characters.{bytes}
use Rattle.rules.specs.Limits.{mantissa_limit, scale_limit, digit_limit, power_digits}
use Rattle.rational.specs.Fraction.{◌⊗◌, integer}
use Rattle.value.specs.declared.Value.{Value}
use Rattle.value.specs.Decimal.{tenths, with_sign, seek, choose, fit_of, negate, floor_of, ceiling_of}
use Rattle.value.specs.Literal.{is_digit, all_digits, digit_of, number_from, before, after, is_decimal, decimal_number, decimal_of, significand, exponent, power_by, power_of, scaled_by, raised_by, literal_of}

record Case : Type 0 where
  text : String
  expected : Option Value

value : ℕ → ℕ → Option Value
value m s = Some (record { m = pos m; s = s })

cases : List Case
cases =
    record { text = ".5"; expected = value 5 1 } ∷
    record { text = "000000000000000012"; expected = value 12 0 } ∷
    record { text = "0000000000000000012"; expected = None } ∷
    record { text = ""; expected = None } ∷
    record { text = "."; expected = None } ∷
    record { text = "1."; expected = None } ∷
    record { text = "1.2.3"; expected = None } ∷
    record { text = "2x"; expected = None } ∷
    record { text = "-1"; expected = None } ∷
    record { text = "2.5E-3"; expected = value 25 4 } ∷
    record { text = ".5E+02"; expected = value 50 0 } ∷
    record { text = "0.0000001E1"; expected = value 1 6 } ∷
    record { text = "100000000000000000E-19"; expected = value 1 2 } ∷
    record { text = "1000000000000000000E-18"; expected = None } ∷
    record { text = "0E99"; expected = value 0 0 } ∷
    record { text = "1E9"; expected = None } ∷
    record { text = "1E-7"; expected = None } ∷
    record { text = "2E"; expected = None } ∷
    record { text = "2E-"; expected = None } ∷
    record { text = "2E001"; expected = None } ∷
    record { text = "E1"; expected = None } ∷
    []

cases-hold : map (λ (c : Case). literal_of (bytes c.text)) cases ≡ map (λ (c : Case). c.expected) cases
unfolding cases value literal_of is_decimal decimal_number decimal_of significand exponent power_by power_of scaled_by raised_by is_digit all_digits number_from digit_of before after ◌⊗◌ integer tenths fit_of choose seek with_sign mantissa_limit scale_limit digit_limit power_digits
cases-hold = refl

record Rounded : Type 0 where
  number : Value
  floor : ℤ
  ceiling : ℤ

rounded : List Rounded
rounded =
    record { number = record { m = pos 15; s = 1 }; floor = pos 1; ceiling = pos 2 } ∷
    record { number = record { m = neg_ℤ (pos 15); s = 1 }; floor = neg_ℤ (pos 2); ceiling = neg_ℤ (pos 1) } ∷
    record { number = record { m = pos 1; s = 6 }; floor = pos 0; ceiling = pos 1 } ∷
    record { number = record { m = neg_ℤ (pos 1); s = 6 }; floor = neg_ℤ (pos 1); ceiling = pos 0 } ∷
    record { number = record { m = pos 2; s = 0 }; floor = pos 2; ceiling = pos 2 } ∷
    record { number = record { m = neg_ℤ (pos 2); s = 0 }; floor = neg_ℤ (pos 2); ceiling = neg_ℤ (pos 2) } ∷
    record { number = record { m = pos 0; s = 0 }; floor = pos 0; ceiling = pos 0 } ∷
    []

floors-hold : map (λ (c : Rounded). floor_of c.number) rounded ≡ map (λ (c : Rounded). c.floor) rounded
unfolding rounded floor_of
floors-hold = refl

ceilings-hold : map (λ (c : Rounded). ceiling_of c.number) rounded ≡ map (λ (c : Rounded). c.ceiling) rounded
unfolding rounded ceiling_of floor_of negate
ceilings-hold = refl
