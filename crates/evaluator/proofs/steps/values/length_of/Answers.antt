-- `values::length_of` meets its contract.
use Rattle.evaluator.proofs.steps.Runs.{span_small, length_none, length-low, length_high, length-span}
use Rattle.evaluator.proofs.steps.values.length_of.Goals as goal

pub returns-then-b-a : goal.returns-then-b-a
returns-then-b-a c = search length_none depth 6

pub returns-then-not-is_small : goal.returns-then-not-is_small
returns-then-not-is_small c = search length-low depth 6

pub returns-then-not-is_small-2 : goal.returns-then-not-is_small-2
returns-then-not-is_small-2 c = search length_high depth 6

pub span-requires : goal.span-requires
span-requires c = search span_small depth 9

pub returns : goal.returns
returns c = search length-span depth 12
