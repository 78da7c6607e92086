-- `elements::inside` and `elements::turns` meet their contracts.
use Rattle.std.proofs.lemmas.Result.{err_from_is_err_and}
use Rattle.elements.proofs.Entering.{inside-none, inside-limit, inside-run, inside-turns, turns-start, turns-end, turns-found, turns-refused, turns-last, turns_more}
use Rattle.std.proofs.Common.{rules, ◌≡◌, true, false, ◌+ℤ◌, ◌<◌, ◌^◌, pos, to_z, of_z, w64}
use lib.Signed.{lt_z, mag}
use Rattle.value.proofs.Integers.{back}
use Rattle.elements.proofs.Numbers.{next-mag}
use Rattle.elements.proofs.+inside_turns.Goals as goal

pub inside-returns-then-count-eq0 : goal.inside-returns-then-count-eq0
inside-returns-then-count-eq0 t c = search inside-none

pub inside-returns-in_err-entry : goal.inside-returns-in_err-entry
inside-returns-in_err-entry t c = let p = err_from_is_err_and c.from_residual.result c.from_residual.ensures.1 in rw (p.1, p.2) (search (inside-limit, c.in_err-entry.was) depth 7)

pub inside-returns-in_err-run : goal.inside-returns-in_err-run
inside-returns-in_err-run t c = let p = err_from_is_err_and c.from_residual-in_err-run.result c.from_residual-in_err-run.ensures.1 in rw (p.1, p.2) (search (inside-run, c.in_ok-entry.was, c.in_err-run.was) depth 9)

pub inside-returns : goal.inside-returns
inside-returns t c = search (inside-turns, c.in_ok-entry.was, c.in_ok-run.was) depth 11

pub turns-loop-number-init : goal.turns-loop-number-init
turns-loop-number-init t c =
    let b : mag c.args.run.number < 2 ^ 63 = search rules in
    rw (back b) (turns-start _ _ _ _ _ _ _ _)

pub turns-returns-in_err-found : goal.turns-returns-in_err-found
turns-returns-in_err-found t c =
    let p = err_from_is_err_and c.from_residual.result c.from_residual.ensures.1 in
    let b : mag c.args.run.upper < 2 ^ 63 = search rules in
    let f = rw (back b) at c.loop-number-test.true in
    let g = rw (back b) at c.with-inner.ensures in
    rw (p.1, p.2) (turns-refused _ _ _ _ _ _ _ _ _ c.loop-number.invariant f _ g _ c.inside.ensures _ c.in_err-found.was)

pub turns-returns-then-is_some : goal.turns-returns-then-is_some
turns-returns-then-is_some t c =
    let b : mag c.args.run.upper < 2 ^ 63 = search rules in
    let f = rw (back b) at c.loop-number-test.true in
    let g = rw (back b) at c.with-inner.ensures in
    turns-found _ _ _ _ _ _ _ _ _ c.loop-number.invariant f _ g _ c.inside.ensures _ c.in_ok-found.was _ c.is_some.ensures c.if-is_some.true

pub turns-loop-number-preserved : goal.turns-loop-number-preserved
turns-loop-number-preserved t c =
    let b : mag c.args.run.upper < 2 ^ 63 = search rules in
    let d : mag (to_z w64 c.loop-number.number-bits) < 2 ^ 63 = search rules in
    let f = rw (back b) at c.loop-number-test.true in
    let g = rw (back b) at c.with-inner.ensures in
    let less : lt_z (to_z w64 c.loop-number.number-bits) (to_z w64 (of_z w64 c.args.run.upper)) ≡ true = search rules in
    let next : mag (to_z w64 c.loop-number.number-bits +ℤ pos 1) < 2 ^ 63 = next-mag _ c.args.run.upper (rw (back b) at less) d b in
    rw (back next) (turns_more _ _ _ _ _ _ _ _ _ c.loop-number.invariant f _ g _ c.inside.ensures _ c.in_ok-found.was _ c.is_some.ensures c.if-is_some.false)

pub turns-returns : goal.turns-returns
turns-returns t c =
    let b : mag c.args.run.upper < 2 ^ 63 = search rules in
    turns-end _ _ _ _ _ _ _ _ _ c.loop-number.invariant (rw (back b) at c.loop-number-test.false)

pub turns-returns-else-is_some : goal.turns-returns-else-is_some
turns-returns-else-is_some t c =
    let b : mag c.args.run.upper < 2 ^ 63 = search rules in
    let f = rw (back b) at c.loop-number-test.true in
    let g = rw (back b) at c.with-inner.ensures in
    let last : lt_z (to_z w64 c.loop-number.number-bits) (to_z w64 (of_z w64 c.args.run.upper)) ≡ false = search rules in
    turns-last _ _ _ _ _ _ _ _ _ c.loop-number.invariant f _ g _ c.inside.ensures _ c.in_ok-found.was _ c.is_some.ensures c.if-is_some.false (rw (back b) at last)
