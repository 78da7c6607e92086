-- `few::Few::at` meets its contract.
use native.Mathlib.Omega.{arith}
use Rattle.data.proofs.reading.Lists.{at-past, at-kept, length-few}
use Rattle.data.proofs.reading.few.Few.at.Goals as goal

pub returns-then-length-i : goal.returns-then-length-i
returns-then-length-i c = search at-past

pub bounds-self-i : goal.bounds-self-i
bounds-self-i c = omega (arith, length-few c.args.self)

pub offset_bounds-self-i : goal.offset_bounds-self-i
offset_bounds-self-i c = omega (arith, length-few c.args.self)

pub returns : goal.returns
returns c = search at-kept
