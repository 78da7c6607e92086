-- `lexer::power_size` meets its contract.
use Rattle.lexer.proofs.Powers.{size-long, size_none, size-some}
use Rattle.lexer.proofs.power_size.Goals as goal

pub returns-then-n-gt-POWER_DIGITS : goal.returns-then-n-gt-POWER_DIGITS
returns-then-n-gt-POWER_DIGITS c = search size-long depth 5

pub returns-then-n-eq0 : goal.returns-then-n-eq0
returns-then-n-eq0 c = search size_none depth 5

pub returns-else-n-eq0 : goal.returns-else-n-eq0
returns-else-n-eq0 c = search size-some depth 6
