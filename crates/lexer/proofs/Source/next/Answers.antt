-- `Source::next` meets its contract.
use Rattle.lexer.proofs.Calls.{turn-free, turn-full, turn_on}
use Rattle.lexer.proofs.Source.next.Goals as goal

pub returns-then-self-ends_count : goal.returns-then-self-ends_count
returns-then-self-ends_count c = search turn-free depth 6

pub returns-then-left-eq0 : goal.returns-then-left-eq0
returns-then-left-eq0 c = search turn-full depth 7

pub returns : goal.returns
returns c = search turn_on depth 7
