-- `rows::bound_at` meets its contract.
use borrow.Author.Rules.{rules}
use Rattle.rows.specs.Bounds.{nth_bound}
use Rattle.rows.proofs.bound_at.Goals as goal

pub returns : goal.returns
unfolding nth_bound
returns c = search rules
