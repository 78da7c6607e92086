-- `cases::field` meets its contract.
use native.Mathlib.Omega.{arith}
use Rattle.listing.proofs.Writing.{tab-then}
use Rattle.cases.proofs.field.Goals as goal

pub put-next-requires : goal.put-next-requires
put-next-requires c = omega arith

pub digits-requires : goal.digits-requires
digits-requires c = omega arith

pub returns : goal.returns
returns c = (search tab-then depth 6, omega arith)
