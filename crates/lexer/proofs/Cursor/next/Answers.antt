-- `Cursor::next` meets its contract.
use native.Mathlib.Omega.{arith}
use Rattle.lexer.proofs.Stream.{next-end, next-token, size-most}
use Rattle.lexer.proofs.Cursor.next.Goals as goal

pub returns-then-s-at : goal.returns-then-s-at
returns-then-s-at c = search (next-end, c.run_length.ensures.run) depth 8

pub overflow_add-result : goal.overflow_add-result
overflow_add-result c = omega (arith, size-most _ _ _ c.if-s-at.false c.token_at-found.ensures)

pub returns : goal.returns
returns c = search (next-token, c.run_length.ensures.run) depth 9
