-- `spans::span_line` meets its contract.
use native.Mathlib.Omega.{arith}
use Rattle.spans.proofs.Telling.{span_less, span-equal, span-range}
use Rattle.spans.proofs.span_line.Goals as goal

pub returns-in-Less : goal.returns-in-Less
returns-in-Less c = (search span_less depth 9, omega arith)

pub returns-in-Equal : goal.returns-in-Equal
returns-in-Equal c = (search span-equal depth 8, omega arith)

pub returns-in-Range : goal.returns-in-Range
returns-in-Range c = (search span-range depth 6, omega arith)
