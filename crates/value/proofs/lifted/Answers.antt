-- `value::lifted` meets its contract.
use mathlib.Core.Path.{◌∙◌}
use Prim.Native.Nat.{◌*◌, ◌<◌, ◌^◌}
use mir.Syntax.{w64}
use mir.Facts.{to_z_pos}
use Rattle.value.proofs.Powers.{lift-large, lift-high, lift-small}
use Rattle.value.proofs.lifted.Goals as goal

pub returns-then-x-gt-MANTISSA_LIMIT : goal.returns-then-x-gt-MANTISSA_LIMIT
returns-then-x-gt-MANTISSA_LIMIT c = search lift-large depth 5

pub returns-then-k-gt-LARGEST_POWER : goal.returns-then-k-gt-LARGEST_POWER
returns-then-k-gt-LARGEST_POWER c = search lift-high depth 6

pub returns : goal.returns
returns c =
    let small : c.args.x * c.power.result < 2 ^ 63 = search lift-small depth 8 in
    c.normalise-2.ensures ∙ rw (to_z_pos w64 small, c.power.ensures)
