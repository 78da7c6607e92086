-- `value::power_by` meets its contract.
use mathlib.Core.Path.{sym, ◌∙◌}
use borrow.Author.Tests.{not-true, not-false, eqb-true, eqb-false}
use Rattle.value.proofs.Powers.{power-none, power-long, power-strange, power-digits}
use Rattle.value.proofs.power_by.Goals as goal

pub returns-then-is_empty : goal.returns-then-is_empty
returns-then-is_empty c = power-none _ _ (eqb-true _ _ (sym c.is_empty.ensures ∙ c.if-is_empty.true))

pub returns-then-t-gt-POWER_DIGITS : goal.returns-then-t-gt-POWER_DIGITS
returns-then-t-gt-POWER_DIGITS c = search power-long depth 5

pub returns-then-not-all_digits : goal.returns-then-not-all_digits
returns-then-not-all_digits c = power-strange _ _ (sym (not-true _ c.if-not-all_digits.true-raw) ∙ c.all_digits.ensures)

pub returns : goal.returns
returns c =
    power-digits _ _ _ (eqb-false _ _ (sym c.is_empty.ensures ∙ c.if-is_empty.false)) c.if-t-gt-POWER_DIGITS.false (sym (not-false _ c.if-not-all_digits.false-raw) ∙ c.all_digits.ensures) c.number-k.ensures
