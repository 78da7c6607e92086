-- `value::add` meets its contract.
use mathlib.Core.Path.{◌≡◌, sym, ◌∙◌}
use native.Mathlib.Omega.{arith}
use lib.IntN.{◌+ℤ◌}
use Rattle.value.specs.Gathering.{millionths}
use Rattle.value.proofs.Integers.{back}
use Rattle.value.proofs.Ranges.{Both, both_of, both-in-range, not-in-range}
use Rattle.value.proofs.Operations.{millionths-small, sum-fit}
use Rattle.value.proofs.add.Goals as goal

pub plus-requires : goal.plus-requires
plus-requires c =
    let both : Both c.args.a c.args.b = both_of _ _ _ c.both_in_range.ensures c.if-both_in_range.true in
    let t = c in
    rw (back c.aligned.type_inv, back c.aligned-then-both_in_range.type_inv, c.aligned.ensures, c.aligned-then-both_in_range.ensures)
    (omega (arith, millionths-small t.args.a both.left, millionths-small t.args.b both.right))

pub returns-then-both_in_range : goal.returns-then-both_in_range
returns-then-both_in_range c =
    let both : Both c.args.a c.args.b = both_of _ _ _ c.both_in_range.ensures c.if-both_in_range.true in
    let exact : c.plus.result ≡ millionths c.args.a +ℤ millionths c.args.b = c.plus.ensures
    ∙ rw (back c.aligned.type_inv, back c.aligned-then-both_in_range.type_inv, c.aligned.ensures, c.aligned-then-both_in_range.ensures) in
    let p = c in
    let t = p in
    let s = t in
    c.of_millionths.ensures
    ∙ rw (back p.plus.type_inv, exact, sum-fit s.args.a s.args.b both.left both.right) (both-in-range _ _ _ both)

pub returns : goal.returns
returns c = not-in-range _ _ _ (sym c.if-both_in_range.false ∙ c.both_in_range.ensures)
