-- `value::width_of` meets its contract.
use Prim.Native.Nat.{◌+◌, ◌-◌}
use mathlib.Core.Path.{◌≡◌, sym, ◌∙◌}
use native.Mathlib.Omega.{arith}
use Rattle.value.proofs.Writing.{width-stop, width-end, width-next}
use Rattle.value.proofs.width_of.Goals as goal

pub returns-then-n-power : goal.returns-then-n-power
returns-then-n-power c =
    let l = c in
    (sym (width-stop (18 - l.loop-w.w) l.loop-w.w l.args.n (rw c.power.ensures at c.if-n-power.true)) ∙ l.loop-w.invariant.2, omega arith)

pub loop-w-preserved : goal.loop-w-preserved
loop-w-preserved c =
    let l = c in
    let e : 18 - l.loop-w.w - 1 ≡ 18 - (l.loop-w.w + 1) = omega arith in
    (omega arith, omega arith, rw (← e) (sym (width-next (18 - l.loop-w.w) l.loop-w.w l.args.n (omega arith) (rw c.power.ensures at c.if-n-power.false)) ∙ l.loop-w.invariant.2))

pub returns : goal.returns
returns c =
    let w : c.loop-w.w ≡ 18 = omega arith in
    (sym w ∙ sym (width-end (18 - c.loop-w.w) c.loop-w.w c.args.n (omega arith)) ∙ c.loop-w.invariant.2, omega arith)
