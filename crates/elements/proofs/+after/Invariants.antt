-- `elements::after` meets its contract.
use Prim.Native.Nat.{◌-◌}
use lib.ListN.{length}
use Rattle.elements.specs.Held.{held}
use Rattle.elements.proofs.+after.Given as goal

abbrev pub decreases-after : goal.decreases-after
decreases-after l = length (held l.here) - l.m
