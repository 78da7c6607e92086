-- `reach::added` meets its contract.
use Rattle.reach.proofs.Reaching.{added-open, added-unfit, added-both}
use Rattle.reach.proofs.added.Goals as goal

pub returns-in_err-bound : goal.returns-in_err-bound
returns-in_err-bound c = rw c.from_residual.ensures (added-open _ _ _ c.in_err-bound.was)

pub returns-in_err-product : goal.returns-in_err-product
returns-in_err-product c = rw c.from_residual-in_err-product.ensures (added-unfit _ _ _ _ _ c.in_ok-bound.was c.mul.ensures c.in_err-product.was)

pub returns : goal.returns
returns c = added-both _ _ _ _ _ _ _ c.in_ok-bound.was c.mul.ensures c.in_ok-product.was c.add.ensures
