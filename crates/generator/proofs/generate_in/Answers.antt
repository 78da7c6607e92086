-- `generator::generate_in` meets its contract.
use Rattle.std.proofs.lemmas.Result.{err_from_is_err_and}
use Rattle.generator.proofs.Listings.{text-unread, text-printed}
use Rattle.generator.proofs.generate_in.Goals as goal

pub returns-in_err-model : goal.returns-in_err-model
returns-in_err-model g c = λ f d. let p = err_from_is_err_and c.from_residual.result c.from_residual.ensures.1 in rw (p.1, p.2) (search (text-unread, c.in_err-model.was) depth 8)

pub returns : goal.returns
returns g c = λ f d. let w = c.part.ensures f d in search (text-printed, c.in_ok-model.was) depth 8
