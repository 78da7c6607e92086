-- `rows::state` meets its contract.
use Rattle.rows.specs.Bounds.{nth_bound}
use Rattle.rows.proofs.Bounding.{bound-out, bound-in}
use Rattle.rows.proofs.state.Goals as goal

pub returns-then-bounds-j : goal.returns-then-bounds-j
returns-then-bounds-j c = bound-out _ _ _ _ _ c.if-bounds-j.true

pub returns : goal.returns
unfolding nth_bound
returns c = bound-in _ _ _ _ _ _ _ c.stated_if.ensures c.stated_if-2.ensures
