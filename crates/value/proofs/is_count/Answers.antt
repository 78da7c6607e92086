-- `value::is_count` meets its contract.
use Rattle.value.specs.Gathering.{is_count}
use Rattle.value.proofs.Integers.{back}
use Rattle.value.proofs.is_count.Goals as goal

pub returns : goal.returns
unfolding is_count
returns c = rw (c.unsigned_abs.ensures.value, back c.ranges.z.sfits, c.count_limit.ensures)
