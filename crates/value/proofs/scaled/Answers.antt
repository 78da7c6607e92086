-- `value::scaled` meets its contract.
use mathlib.Core.Path.{◌∙◌}
use Prim.Native.Nat.{◌<◌, ◌^◌}
use native.Mathlib.Omega.{arith}
use borrow.Author.Rules.{sfits_of}
use lib.IntN.{pos}
use mir.Syntax.{w64}
use mir.Facts.{to_z-of_z, to_z_pos}
use Rattle.rules.specs.Limits.{mantissa_limit, scale_limit}
use Rattle.value.proofs.Integers.{sfits, back}
use Rattle.value.proofs.Operations.{power_small, scaled_small}
use Rattle.value.proofs.scaled.Goals as goal

-- what `power` gave is small

pub power-requires : goal.power-requires
unfolding scale_limit
power-requires c = omega (arith, c.requires.1)

pub overflow_cast-power : goal.overflow_cast-power
unfolding scale_limit
overflow_cast-power c =
    let small : c.power.result < 2 ^ 63 = omega (arith, c.power.ensures, power_small c.args.k c.requires.1) in
    sfits (pos c.power.result) small

pub times-requires : goal.times-requires
unfolding mantissa_limit scale_limit
times-requires c =
    let small : c.power.result < 2 ^ 63 = omega (arith, c.power.ensures, power_small c.args.k c.requires.1) in
    let s = c in
    rw (back s.ranges.m.sfits, to_z_pos w64 small, c.power.ensures) (omega (arith, scaled_small s.args.m s.args.k s.requires.0 s.requires.1))

pub returns : goal.returns
unfolding scale_limit
returns c =
    let small : c.power.result < 2 ^ 63 = omega (arith, c.power.ensures, power_small c.args.k c.requires.1) in
    let p = c in
    to_z-of_z {w = w64} (sfits_of c.times.type_inv) ∙ c.times.ensures ∙ rw (back p.ranges.m.sfits, to_z_pos w64 small, p.power.ensures)
