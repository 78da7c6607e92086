-- `declarations::subscripted` meets its contract.
use Rattle.std.proofs.lemmas.Result.{err_from_is_err_and}
use Rattle.declarations.proofs.EntryLaws.{subscripted-some, subscripted-none, subscripted-wrong}
use Rattle.declarations.proofs.subscripted.Goals as goal

pub returns-in_err-token : goal.returns-in_err-token
returns-in_err-token c = let p = err_from_is_err_and c.from_residual.result c.from_residual.ensures.1 in rw (p.1, p.2) (search (subscripted-wrong, c.in_err-token.was) depth 6)

pub returns-then-token : goal.returns-then-token
returns-then-token c =
    subscripted-some c.args.text.bytes.now c.args.text.names.now c.args.text.tokens.now c.args.at c.token_at.result c.token_at.ensures c.in_ok-token.token c.domain.result c.in_ok-token.was c.if-token.true c.domain.ensures

pub returns : goal.returns
returns c = search (subscripted-none, c.in_ok-token.was) depth 8
