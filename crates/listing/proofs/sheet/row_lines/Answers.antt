-- `sheet::row_lines` meets its contract.
use Rattle.listing.proofs.sheet.Writing.{writing_start, writing_more, writing-end}
use Rattle.listing.proofs.sheet.row_lines.Goals as goal

pub loop-i-init : goal.loop-i-init
loop-i-init c = writing_start _ _ _ _

pub loop-i-preserved : goal.loop-i-preserved
loop-i-preserved c =
    writing_more _ _ c.loop-i.invariant c.loop-i-test.true c.row_line-next.auto.out c.row_line-next.ensures

pub returns : goal.returns
returns c = writing-end _ _ c.loop-i.invariant c.loop-i-test.false
