-- `spans::row_lines` meets its contract.
use Rattle.spans.proofs.Telling.{spanning-more, spanning-end}
use Rattle.spans.proofs.row_lines.Goals as goal

pub loop-i-preserved : goal.loop-i-preserved
loop-i-preserved c =
    let w = c in
    let t = w in
    spanning-more _ _ _ _ _ _ _ _ t.loop-i.invariant t.loop-i-test.true w.row_line-next.auto.out w.row_line-next.ensures

pub returns : goal.returns
returns c = spanning-end _ _ _ _ _ _ _ _ c.loop-i.invariant c.loop-i-test.false
