-- `value::digit_at` meets its contract.
use lib.Dec.{lit<}
use native.Mathlib.Nat.{one-le-pow}
use native.Mathlib.Omega.{arith}
use Rattle.value.proofs.digit_at.Goals as goal

pub nonzero_div-result : goal.nonzero_div-result
nonzero_div-result c = omega (arith, c.power.ensures, one-le-pow c.args.k 10 (lit< tt))
