-- `value::digit` meets its contract.
use mathlib.Core.Path.{sym, ◌∙◌}
use Rattle.value.specs.Literal.{is_digit}
use Rattle.value.proofs.Reading.{digit_value, digit-none}
use Rattle.value.proofs.digit.Goals as goal

pub returns-then-is_ascii_digit : goal.returns-then-is_ascii_digit
unfolding is_digit
returns-then-is_ascii_digit c = digit_value _ (sym c.is_ascii_digit.ensures.value ∙ c.if-is_ascii_digit.true)

pub returns : goal.returns
unfolding is_digit
returns c = digit-none _ (sym c.is_ascii_digit.ensures.value ∙ c.if-is_ascii_digit.false)
