-- `exporter::all_bounds` meets its contract.
use native.Mathlib.Omega.{arith}
use Rattle.exporter.proofs.Writing.{text-start, text-more, text-end}
use Rattle.exporter.proofs.all_bounds.Goals as goal

pub loop-j-init : goal.loop-j-init
loop-j-init c = (omega arith, text-start _ _ _ _)

pub loop-j-preserved : goal.loop-j-preserved
loop-j-preserved c = (omega arith, text-more _ _ _ c.loop-j.invariant.1 c.loop-j-test.true c.bound_lines-next.ensures.0)

pub returns : goal.returns
returns c = (text-end _ _ _ c.loop-j.invariant.1 c.loop-j-test.false, omega arith)
