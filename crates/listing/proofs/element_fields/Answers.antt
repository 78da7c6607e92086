-- `listing::element_fields` meets its contract.
use Prim.Native.Nat.{◌≤◌}
use native.Mathlib.Omega.{arith}
use Rattle.value.proofs.Integers.{back}
use Rattle.store.proofs.Elements.{length-few}
use Rattle.listing.proofs.Writing.{left-all, element-more, element-end}
use Rattle.listing.proofs.element_fields.Goals as goal

pub loop-i-init : goal.loop-i-init
loop-i-init c = (omega arith, left-all _ _ _)

pub whole_field-next-requires : goal.whole_field-next-requires
whole_field-next-requires c =
    let few : c.length-i-end.result ≤ 4 = rw c.length-i-end.ensures (length-few c.args.e) in
    omega (arith, few)

pub loop-i-preserved : goal.loop-i-preserved
loop-i-preserved c =
    let h = rw c.length-i-end.ensures at c.loop-i-test.true in
    let w = rw (back c.at.type_inv, c.at.ensures) at c.whole_field-next.ensures.0 in
    (omega arith, element-more _ _ _ c.loop-i.invariant.1 h w)

pub put-requires : goal.put-requires
put-requires c =
    let few : c.length-i-end.result ≤ 4 = rw c.length-i-end.ensures (length-few c.args.e) in
    omega (arith, few)

pub returns : goal.returns
returns c = element-end _ _ _ c.loop-i.invariant.1 (rw c.length-i-end.ensures at c.loop-i-test.false) c.put.ensures
