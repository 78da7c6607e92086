-- `frames::digit` meets its contract.
use native.Mathlib.Omega.{arith}
use Rattle.cases.proofs.frames.Laws.{digit_low, digit-high, digit-is}
use Rattle.cases.proofs.frames.digit.Goals as goal

pub returns-then-b-lt48 : goal.returns-then-b-lt48
returns-then-b-lt48 c = (search digit_low depth 4, omega arith)

pub returns-then-b-gt57 : goal.returns-then-b-gt57
returns-then-b-gt57 c = (search digit-high depth 4, omega arith)

pub returns : goal.returns
returns c = (search digit-is depth 4, omega arith)
