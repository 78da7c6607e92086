-- `sections::optional_section` meets its contract.
use Rattle.std.proofs.lemmas.Result.{err_from_is_err_and}
use Rattle.data.proofs.Filling.{section-data, section-none, section-other, section-wrong}
use Rattle.data.proofs.sections.optional_section.Goals as goal

pub returns-in_err-token : goal.returns-in_err-token
returns-in_err-token c = let p = err_from_is_err_and c.from_residual.result c.from_residual.ensures.1 in rw (p.1, p.2) (search (section-wrong, c.in_err-token.was) depth 6)

pub returns-then-token : goal.returns-then-token
returns-then-token c = search (section-data, c.in_ok-token.was) depth 7

pub returns-then-token-2 : goal.returns-then-token-2
returns-then-token-2 c = search (section-other, c.in_ok-token.was) depth 7

pub returns : goal.returns
returns c = search (section-none, c.in_ok-token.was) depth 7
