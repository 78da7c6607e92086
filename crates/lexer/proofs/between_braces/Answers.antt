-- `lexer::between_braces` meets its contract.
use Rattle.lexer.proofs.Runs.{braces-out, run-slice}
use Rattle.lexer.proofs.between_braces.Goals as goal

pub returns-then-length-at : goal.returns-then-length-at
returns-then-length-at c = search braces-out depth 5

pub returns : goal.returns
returns c = search (run-slice, c.run_length-n.ensures.run) depth 7
