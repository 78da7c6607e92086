-- `reach::takes_lower` meets its contract.
use native.Mathlib.Omega.{arith}
use Rattle.value.proofs.Integers.{back}
use Rattle.reach.proofs.Reaching.{takes-least, takes-greatest}
use Rattle.reach.proofs.takes_lower.Goals as goal

pub returns-in-Least : goal.returns-in-Least
returns-in-Least c = rw (back {z = c.args.c.m} (omega arith)) (takes-least _ _ c.in-Least.is)

pub returns-in-Greatest : goal.returns-in-Greatest
returns-in-Greatest c = rw (back {z = c.args.c.m} (omega arith)) (takes-greatest _ _ c.in-Greatest.is)
