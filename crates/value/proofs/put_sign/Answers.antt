-- `value::put_sign` meets its contract.
use Rattle.value.proofs.Integers.{back}
use Rattle.value.proofs.Writing.{written_none, sign-negative, sign-other}
use Rattle.value.proofs.put_sign.Goals as goal

pub returns-then-m-lt0 : goal.returns-then-m-lt0
returns-then-m-lt0 c =
    let s = c in
    rw (sign-negative s.args.m (rw (back s.ranges.m.sfits) at c.if-m-lt0.true)) c.put.ensures

pub returns : goal.returns
returns c =
    let s = c in
    rw (sign-other s.args.m (rw (back s.ranges.m.sfits) at c.if-m-lt0.false)) (written_none _ 0)
