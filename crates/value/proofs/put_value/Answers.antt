-- `value::put_value` meets its contract.
use mathlib.Core.Path.{◌∙◌}
use Prim.Native.Nat.{◌/◌}
use native.Mathlib.Omega.{arith}
use Rattle.value.proofs.Integers.{back}
use Rattle.value.proofs.Ranges.{range-places}
use Rattle.value.proofs.Scales.{power_pos}
use Rattle.value.proofs.Writing.{written_then, printed-parts, sign-next, digits-place}
use Rattle.value.proofs.put_value.Goals as goal

pub power-requires : goal.power-requires
power-requires c = omega (arith, range-places _ c.requires)

pub nonzero_div-whole : goal.nonzero_div-whole
nonzero_div-whole c = power_pos _ _ c.power.ensures

pub put_digits-mid-requires : goal.put_digits-mid-requires
put_digits-mid-requires c = (c.width_of.ensures.1, omega (arith, sign-next _ _ _ _ c.put_sign-at.ensures))

pub put_places-requires : goal.put_places-requires
put_places-requires c =
    let d = c in
    let g = d in
    (omega (arith, range-places _ g.requires), omega (arith, digits-place _ _ _ _ _ _ d.put_digits-mid.ensures, d.width_of.ensures.1, sign-next _ _ _ _ g.put_sign-at.ensures))

pub returns : goal.returns
returns c =
    let p = c in
    let d = p in
    let w = d in
    let g = w in
    let q = g in
    let a = q in
    let s = a in
    let b = back {z = s.args.v.m} a.struct_told-1.given.0.1 in
    rw (printed-parts s.args.v a.unsigned_abs-x.result (a.unsigned_abs-x.result / q.power.result) w.width_of.result (a.unsigned_abs-x.ensures.value ∙ rw b) (rw q.power.ensures) w.width_of.ensures.0)
    (written_then _ _ _ _ _ _ _ _ (rw b at g.put_sign-at.ensures) (written_then _ _ _ _ _ _ _ _ d.put_digits-mid.ensures p.put_places.ensures))
