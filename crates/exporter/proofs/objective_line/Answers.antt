-- `exporter::objective_line` meets its contract.
use native.Mathlib.Omega.{arith}
use Rattle.value.proofs.Integers.{back}
use Rattle.exporter.proofs.Writing.{objective-line}
use Rattle.exporter.proofs.objective_line.Goals as goal

pub returns : goal.returns
returns c =
    let e = rw (back c.count_at.type_inv) at c.value_of-v.ensures in
    (objective-line _ _ _ _ _ c.count_at.ensures e c.neg-opposite.ensures c.value_line.ensures.0, omega arith)
