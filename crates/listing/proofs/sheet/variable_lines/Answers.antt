-- `sheet::variable_lines` meets its contract.
use Rattle.listing.proofs.sheet.Writing.{writing_start, writing_more, writing-end}
use Rattle.listing.proofs.sheet.variable_lines.Goals as goal

pub loop-j-init : goal.loop-j-init
loop-j-init c = writing_start _ _ _ _

pub loop-j-preserved : goal.loop-j-preserved
loop-j-preserved c =
    writing_more _ _ c.loop-j.invariant c.loop-j-test.true c.variable_line-next.auto.out c.variable_line-next.ensures

pub returns : goal.returns
returns c = writing-end _ _ c.loop-j.invariant c.loop-j-test.false
