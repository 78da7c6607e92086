-- `value::put_digits` meets its contract.
use mathlib.Core.Path.{◌∙◌}
use native.Mathlib.Omega.{arith}
use Rattle.value.proofs.Writing.{written-length, digits_step, digits-none, length_digits}
use Rattle.value.proofs.put_digits.Goals as goal

pub loop-j-preserved : goal.loop-j-preserved
loop-j-preserved c =
    let l = c in
    let p = c in
    (omega arith, omega (arith, p.put-i.ensures.next), written-length _ _ _ _ _ p.put-i.ensures ∙ l.loop-j.invariant.2, digits_step _ _ _ _ _ l.loop-j.j _ p.put-i.ensures p.digit_at.ensures c.loop-j-test.true ∙ l.loop-j.invariant.3)

pub returns : goal.returns
returns c =
    let l = c in
    record { next = omega (arith, length_digits l.args.k l.args.n); bytes = rw (digits-none l.loop-j.j l.args.n c.loop-j-test.false) at l.loop-j.invariant.3 }
