-- `few::Few::at` meets its contract.
use native.Mathlib.Omega.{arith}
use Rattle.store.proofs.Fews.{length-few, at-past, at-kept}
use Rattle.store.proofs.few.Few.at.Goals as goal

pub returns-then-length-i : goal.returns-then-length-i
returns-then-length-i g c = search at-past depth 6

pub offset_bounds-self-i : goal.offset_bounds-self-i
offset_bounds-self-i g c = omega (arith, length-few c.args.self)

pub listed : goal.listed
listed g c = omega (arith, length-few c.args.self)

pub bounds-self-i : goal.bounds-self-i
bounds-self-i g c = omega (arith, length-few c.args.self)

pub returns : goal.returns
returns g c = search at-kept depth 7
