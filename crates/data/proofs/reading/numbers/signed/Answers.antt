-- `numbers::signed` meets its contract.
use Rattle.data.proofs.reading.Steps.{opposite-fits, signed-minus, signed-plus}
use Rattle.data.proofs.reading.numbers.signed.Goals as goal

pub overflow_sub-result : goal.overflow_sub-result
overflow_sub-result c = search opposite-fits

pub returns-then-minus : goal.returns-then-minus
returns-then-minus c = search signed-minus

pub returns : goal.returns
returns c = search signed-plus
