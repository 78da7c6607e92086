-- `value::literal` meets its contract.
use mathlib.Core.Path.{sym, ◌∙◌}
use Rattle.value.proofs.Powers.{literal-alone, literal-raised, literal-none}
use Rattle.value.proofs.literal.Goals as goal

pub returns-in_default : goal.returns-in_default
returns-in_default c = literal-alone _ _ (sym c.in_default.is ∙ c.first.ensures) c.decimal.ensures

pub returns-in_err-minus : goal.returns-in_err-minus
returns-in_err-minus c = literal-none _ _ _ (sym c.in-Some.is ∙ c.first.ensures) _ c.power_of.ensures c.in_err-minus.was c.from_residual.ensures

pub returns : goal.returns
returns c = literal-raised _ _ _ (sym c.in-Some.is ∙ c.first.ensures) _ _ _ c.power_of.ensures c.in_ok-minus.was c.decimal-2.ensures
