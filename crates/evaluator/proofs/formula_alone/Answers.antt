-- `formula_alone` meets its contract.
use Rattle.evaluator.proofs.Alone.{seen-ok, single-is}
use Rattle.evaluator.proofs.formula_alone.Goals as goal

pub returns : goal.returns
returns c = search (single-is, seen-ok, c.in_ok-v.was, c.in_ok-sign.was) depth 14
