-- `layouts::layout_of` meets its contract.
use Prim.Native.Nat.{◌*◌}
use lib.ListN.{length-take}
use Rattle.data.proofs.Laying.{lays-not, lays-visible}
use native.Mathlib.Omega.{arith}
use Rattle.data.proofs.layouts.layout_of.Goals as goal

pub returns-then-text-level : goal.returns-then-text-level
returns-then-text-level c = search lays-not

pub slice_bounds-earlier-end : goal.slice_bounds-earlier-end
slice_bounds-earlier-end c = let s = c in omega (arith, length-take (s.args.level * 5) s.args.text.names.now)

pub returns : goal.returns
returns c = search lays-visible
