-- `value::chosen` meets its contract.
use Rattle.value.proofs.Integers.{back}
use Rattle.value.proofs.Scales.{choose-fits, choose-too-big}
use Rattle.value.proofs.chosen.Goals as goal

pub returns-then-m-le-MANTISSA_LIMIT : goal.returns-then-m-le-MANTISSA_LIMIT
returns-then-m-le-MANTISSA_LIMIT c = rw (back c.with_sign.type_inv, c.with_sign.ensures, back c.ranges.z.sfits) (choose-fits _ _ _ c.if-m-le-MANTISSA_LIMIT.true)

pub returns : goal.returns
returns c = choose-too-big _ _ _ c.if-m-le-MANTISSA_LIMIT.false
