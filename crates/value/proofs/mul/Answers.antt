-- `value::mul` meets its contract.
use mathlib.Core.Path.{sym, ◌∙◌}
use Prim.Native.Nat.{◌+◌, ◌≤◌}
use native.Mathlib.Omega.{arith}
use native.Mathlib.Nat.{mul-le-mul}
use Rattle.value.proofs.Integers.{back}
use Rattle.value.proofs.Ranges.{Both, both_of, range_small, range-places, both-in-range, not-in-range}
use Rattle.value.proofs.Operations.{product-fit}
use Rattle.value.proofs.mul.Goals as goal

pub times-m-requires : goal.times-m-requires
times-m-requires c =
    let both : Both c.args.a c.args.b = both_of _ _ _ c.both_in_range.ensures c.if-both_in_range.true in
    let t = c in
    rw (back c.struct_told-1.given.0.1, back c.struct_told-then-both_in_range-1.given.0.1)
    (omega (arith, mul-le-mul (range_small _ both.left) (range_small _ both.right)))

pub overflow_add-s : goal.overflow_add-s
overflow_add-s c =
    let both : Both c.args.a c.args.b = both_of _ _ _ c.both_in_range.ensures c.if-both_in_range.true in
    let scales : c.args.a.s + c.args.b.s ≤ 12 = omega (arith, range-places _ both.left, range-places _ both.right) in
    record { fits = omega (arith, scales) }

pub normalise-requires : goal.normalise-requires
normalise-requires c =
    let both : Both c.args.a c.args.b = both_of _ _ _ c.both_in_range.ensures c.if-both_in_range.true in
    let scales : c.args.a.s + c.args.b.s ≤ 12 = omega (arith, range-places _ both.left, range-places _ both.right) in
    omega (arith, scales)

pub returns-then-both_in_range : goal.returns-then-both_in_range
returns-then-both_in_range c =
    let both : Both c.args.a c.args.b = both_of _ _ _ c.both_in_range.ensures c.if-both_in_range.true in
    let p = c in
    let t = p in
    let s = t in
    c.normalise.ensures
    ∙ rw (back p.times-m.type_inv, p.times-m.ensures, back p.struct_told-1.given.0.1, back p.struct_told-then-both_in_range-1.given.0.1, product-fit s.args.a s.args.b) (both-in-range _ _ _ both)

pub returns : goal.returns
returns c = not-in-range _ _ _ (sym c.if-both_in_range.false ∙ c.both_in_range.ensures)
