-- `token_alone` meets its contract.
use Rattle.evaluator.proofs.Alone.{seen-ok, alone-literal, alone-name}
use Rattle.evaluator.proofs.token_alone.Goals as goal

pub returns-then-token : goal.returns-then-token
returns-then-token c = search (alone-literal, seen-ok, c.in_ok-token.was) depth 10

pub returns : goal.returns
returns c = search (alone-name, seen-ok, c.in_ok-token.was) depth 11
