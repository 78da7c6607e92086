-- `sheet::columns` meets its contract.
use native.Mathlib.Omega.{arith}
use Rattle.listing.proofs.sheet.Coefficients.{columns-start, columns-more, columns-end}
use Rattle.listing.proofs.sheet.columns.Goals as goal

pub loop-j-init : goal.loop-j-init
loop-j-init c = (omega arith, columns-start _ _ _ _ _ _)

pub loop-j-preserved : goal.loop-j-preserved
loop-j-preserved c =
    (omega arith, columns-more _ _ _ _ _ c.loop-j.invariant.1 c.loop-j-test.true c.column-next.ensures.0)

pub returns : goal.returns
returns c = (columns-end _ _ _ _ _ c.loop-j.invariant.1 c.loop-j-test.false, omega arith)
