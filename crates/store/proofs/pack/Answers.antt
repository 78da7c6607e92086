-- `store::pack` meets its contract.
use Rattle.value.proofs.Integers.{back}
use Rattle.store.proofs.Words.{packed-out, packed-in}
use Rattle.store.proofs.pack.Goals as goal

pub returns-then-s-gt-SCALE_LIMIT : goal.returns-then-s-gt-SCALE_LIMIT
returns-then-s-gt-SCALE_LIMIT c = packed-out _ c.if-s-gt-SCALE_LIMIT.true

pub returns : goal.returns
returns c = packed-in _ _ (rw (back {z = c.args.v.m} c.struct_told-1.given.0.1) at c.digit.ensures.0) c.if-s-gt-SCALE_LIMIT.false
