-- `value::Value::at_most` meets its contract.
use Rattle.rules.specs.Limits.{mantissa_limit, scale_limit}
use Rattle.value.specs.Decimal.{is_at_most}
use Rattle.value.proofs.Integers.{back}
use Rattle.value.proofs.Ranges.{Both, both_of, range_small, range-places}
use Rattle.value.proofs.Value.at_most.Goals as goal

pub scaled-requires : goal.scaled-requires
unfolding mantissa_limit scale_limit
scaled-requires c =
    let both : Both c.args.self c.args.other = both_of _ _ _ c.both_in_range.ensures c.if-both_in_range.true in
    let t = c in
    (rw (back c.struct_told-1.given.0.1) (range_small _ both.left), range-places _ both.right)

pub scaled-requires-then-both_in_range : goal.scaled-requires-then-both_in_range
unfolding mantissa_limit scale_limit
scaled-requires-then-both_in_range c =
    let both : Both c.args.self c.args.other = both_of _ _ _ c.both_in_range.ensures c.if-both_in_range.true in
    let t = c in
    (rw (back c.struct_told-then-both_in_range-1.given.0.1) (range_small _ both.right), range-places _ both.left)

pub returns-then-both_in_range : goal.returns-then-both_in_range
unfolding is_at_most
returns-then-both_in_range c =
    let both : Both c.args.self c.args.other = both_of _ _ _ c.both_in_range.ensures c.if-both_in_range.true in
    let p = c in
    let t = p in
    rw (back p.scaled.type_inv, back c.scaled-then-both_in_range.type_inv, p.scaled.ensures, c.scaled-then-both_in_range.ensures, back p.struct_told-1.given.0.1, back c.struct_told-then-both_in_range-1.given.0.1, both.left, both.right)
