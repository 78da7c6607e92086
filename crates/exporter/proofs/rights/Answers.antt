-- `exporter::rights` meets its contract.
use native.Mathlib.Omega.{arith}
use Rattle.exporter.proofs.Writing.{text-start, text-more, text-end}
use Rattle.exporter.proofs.rights.Goals as goal

pub loop-i-init : goal.loop-i-init
loop-i-init c = (omega arith, text-start _ _ _ _)

pub loop-i-preserved : goal.loop-i-preserved
loop-i-preserved c = (omega arith, text-more _ _ _ c.loop-i.invariant.1 c.loop-i-test.true c.right_line-next.ensures.0)

pub returns : goal.returns
returns c = (text-end _ _ _ c.loop-i.invariant.1 c.loop-i-test.false, omega arith)
