-- `values::grown` meets its contract.
use Rattle.evaluator.proofs.steps.Answers.{grown-is}
use Rattle.evaluator.proofs.steps.values.grown.Goals as goal

pub returns : goal.returns
returns c = search grown-is depth 6
