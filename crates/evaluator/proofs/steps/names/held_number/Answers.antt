-- `names::held_number` meets its contract.
use Rattle.evaluator.proofs.steps.Numbers.{kept-name, kept-beyond, kept-nothing}
use Rattle.evaluator.proofs.steps.names.held_number.Goals as goal

pub returns-in_default : goal.returns-in_default
returns-in_default c = search kept-nothing depth 6

pub returns-then-found-ge-NAME_LIMIT : goal.returns-then-found-ge-NAME_LIMIT
returns-then-found-ge-NAME_LIMIT c = kept-beyond _ _ c.in-Some.is c.if-found-ge-NAME_LIMIT.true

pub returns : goal.returns
returns c = kept-name _ _ c.in-Some.is c.if-found-ge-NAME_LIMIT.false
