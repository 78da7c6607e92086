-- `lexer::word_or` meets its contract.
use Rattle.std.specs.Prelude.{Some}
use Rattle.lexer.proofs.Same.{picks-same}
use Rattle.lexer.proofs.word_or.Goals as goal

pub returns-then-eq : goal.returns-then-eq
returns-then-eq c = picks-same _ _ _ _ (Some c.args.word) c.args.other c.eq.ensures c.if-eq.true

pub returns-else-eq : goal.returns-else-eq
returns-else-eq c = picks-same _ _ _ _ (Some c.args.word) c.args.other c.eq.ensures c.if-eq.false
