-- `value::quotient` meets its contract.
use native.Mathlib.Omega.{arith}
use native.Mathlib.Nat.{one-le-pow}
use lib.Dec.{lit<}
use Rattle.value.proofs.Rounding.{quotient-none}
use Rattle.value.proofs.quotient.Goals as goal

pub nonzero_div-result : goal.nonzero_div-result
nonzero_div-result c = omega (arith, c.power.ensures, one-le-pow c.args.s 10 (lit< tt))

pub returns : goal.returns
returns c = quotient-none _ _ c.requires c.if-s-lt19.false
