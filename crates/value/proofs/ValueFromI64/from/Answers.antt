-- `value::ValueFromI64::from` meets its contract.
use Rattle.value.specs.Decimal.{of_whole}
use Rattle.value.proofs.Integers.{back}
use Rattle.value.proofs.ValueFromI64.from.Goals as goal

pub returns : goal.returns
unfolding of_whole
returns c = rw (back c.ranges.k.sfits)
