-- `listing::put_text` meets its contract.
use native.Mathlib.Omega.{arith}
use Rattle.listing.proofs.Writing.{left-all, text-more, text-end}
use Rattle.listing.proofs.put_text.Goals as goal

pub loop-b-init : goal.loop-b-init
loop-b-init c = (omega arith, left-all _ _ _)

pub loop-b-preserved : goal.loop-b-preserved
loop-b-preserved c = (omega arith, search text-more depth 7)

pub returns : goal.returns
returns c = search text-end depth 7
