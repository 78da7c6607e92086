-- `lexer::power_length` meets its contract.
use Rattle.lexer.proofs.Powers.{power-out, power-other, power-here}
use Rattle.lexer.proofs.power_length.Goals as goal

pub returns-then-s-at : goal.returns-then-s-at
returns-then-s-at c = search power-out depth 5

pub returns-then-byte_at-ne69 : goal.returns-then-byte_at-ne69
returns-then-byte_at-ne69 c = search power-other depth 6

pub returns : goal.returns
returns c = search (power-here, c.run_length-n.ensures.run) depth 12
