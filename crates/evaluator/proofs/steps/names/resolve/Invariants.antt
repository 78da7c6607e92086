-- `names::resolve` meets its contract.
use Rattle.evaluator.proofs.steps.Numbers.{Resolving}
use Rattle.evaluator.proofs.steps.names.resolve.Given as goal

abbrev pub invariant-loop-word : goal.invariant-loop-word
invariant-loop-word l = Resolving l.text l.names l.initial.tokens l.word-index l.tokens
