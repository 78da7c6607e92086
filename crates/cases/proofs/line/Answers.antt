-- `cases::line` meets its contract.
use native.Mathlib.Omega.{arith}
use Rattle.cases.proofs.Laws.{line-is}
use Rattle.cases.proofs.line.Goals as goal

pub field-at-requires : goal.field-at-requires
field-at-requires c = omega arith

pub field-at-requires-2 : goal.field-at-requires-2
field-at-requires-2 c = omega arith

pub field-at-requires-3 : goal.field-at-requires-3
field-at-requires-3 c = omega arith

pub put-requires : goal.put-requires
put-requires c = omega arith

pub returns : goal.returns
returns c =
    let e = c in
    let b = e in
    let l = b in
    let p = l in
    let n = p in
    line-is _ _ _ _ _ _ _ _ _ _ _ _ _ _ _ n.digits-at.ensures.0 p.field-at.ensures.0 l.field-at-2.ensures.0 b.field-at-3.ensures.0 e.put.ensures
