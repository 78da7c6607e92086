-- `value::gather` meets its contract.
use mathlib.Core.Path.{◌≡◌, sym, ◌∙◌}
use mathlib.Core.Bool.{true}
use native.Mathlib.Omega.{arith}
use borrow.Author.Tests.{not-true, not-false}
use lib.IntN.{pos, ◌+ℤ◌}
use lib.ListN.{get_or}
use Rattle.value.specs.Decimal.{in_range}
use Rattle.value.specs.Gathering.{millionths, of_millionths, is_count}
use Rattle.value.proofs.Integers.{back}
use Rattle.value.proofs.Operations.{millionths-small}
use Rattle.value.proofs.Gathering.{count-is, no_place, no_value, no-count, no-fit, fits-there}
use Rattle.value.proofs.gather.Goals as goal

-- the element as it was, and the sum

pub returns-then-sums-k : goal.returns-then-sums-k
returns-then-sums-k c = no_place _ _ _ c.if-sums-k.true

pub returns-then-not-in_range : goal.returns-then-not-in_range
returns-then-not-in_range c = no_value _ _ _ (sym c.in_range.ensures ∙ not-true _ c.if-not-in_range.true-raw)

pub returns-then-not-is_count : goal.returns-then-not-is_count
returns-then-not-is_count c =
    let counted : c.is_count.result ≡ is_count (get_or c.args.sums.now c.args.k (pos 0)) = c.is_count.ensures ∙ rw (back c.old-1.given) in
    no-count _ _ _ (sym counted ∙ not-true _ c.if-not-is_count.true-raw)

pub plus-sum-requires : goal.plus-sum-requires
plus-sum-requires c =
    let counted : c.is_count.result ≡ is_count (get_or c.args.sums.now c.args.k (pos 0)) = c.is_count.ensures ∙ rw (back c.old-1.given) in
    let in-range : in_range c.args.v ≡ true = let e = c in sym e.in_range.ensures ∙ not-false _ e.if-not-in_range.false-raw in
    let is-count : is_count (get_or c.args.sums.now c.args.k (pos 0)) ≡ true = sym counted ∙ not-false _ c.if-not-is_count.false-raw in
    let t = c in
    rw (back t.old-1.given, back c.aligned.type_inv, c.aligned.ensures)
    (omega (arith, count-is _ is-count, millionths-small _ in-range))

pub returns : goal.returns
returns c =
    let counted : c.is_count.result ≡ is_count (get_or c.args.sums.now c.args.k (pos 0)) = c.is_count.ensures ∙ rw (back c.old-1.given) in
    let in-range : in_range c.args.v ≡ true = let e = c in sym e.in_range.ensures ∙ not-false _ e.if-not-in_range.false-raw in
    let is-count : is_count (get_or c.args.sums.now c.args.k (pos 0)) ≡ true = sym counted ∙ not-false _ c.if-not-is_count.false-raw in
    let exact : c.plus-sum.result ≡ ((get_or c.args.sums.now c.args.k (pos 0)) +ℤ millionths c.args.v) = let a = c in
    c.plus-sum.ensures ∙ rw (back a.old-1.given, back a.aligned.type_inv, a.aligned.ensures) in
    let summed : c.of_millionths.result ≡ of_millionths ((get_or c.args.sums.now c.args.k (pos 0)) +ℤ millionths c.args.v) = c.of_millionths.ensures ∙ rw (back c.plus-sum.type_inv, exact) in
    let m = c in
    let p = m in
    let t = p in
    rw (back p.plus-sum.type_inv, exact)
    (fits-there _ _ _ _ t.if-sums-k.false in-range is-count (sym summed) (rw c.if-is_none.false at c.is_none.ensures))

pub returns-then-is_none : goal.returns-then-is_none
returns-then-is_none c =
    let exact : c.plus-sum.result ≡ ((get_or c.args.sums.now c.args.k (pos 0)) +ℤ millionths c.args.v) = let a = c in
    c.plus-sum.ensures ∙ rw (back a.old-1.given, back a.aligned.type_inv, a.aligned.ensures) in
    let summed : c.of_millionths.result ≡ of_millionths ((get_or c.args.sums.now c.args.k (pos 0)) +ℤ millionths c.args.v) = c.of_millionths.ensures ∙ rw (back c.plus-sum.type_inv, exact) in
    no-fit _ _ _ _ (sym summed) (rw c.if-is_none.true at c.is_none.ensures)
