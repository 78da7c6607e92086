-- `value::number` meets its contract. The invariant: what is left reads on to the same number, and there is room for it.
use mathlib.Core.Path.{◌≡◌, sym, ◌∙◌, subst}
use native.Mathlib.Omega.{arith}
use Prim.Native.Nat.{ℕ, suc, ◌+◌, ◌-◌, ◌*◌, ◌^◌, ◌<◌, ◌≤◌}
use lib.ListN.{length, get_or}
use Rattle.value.proofs.Reading.{number-next, number-end, room_next, room_small, digit-small}
use Rattle.value.proofs.number.Goals as goal

pub overflow_mul-x : goal.overflow_mul-x
overflow_mul-x c = omega (arith, room_small _ _ _ c.loop-b.invariant.0)

pub overflow_add-x : goal.overflow_add-x
overflow_add-x c =
    let l = c in
    omega (arith, c.digit.ensures, digit-small (get_or l.args.t.now l.loop-b.b-index 0), room_small _ _ _ l.loop-b.invariant.0)

pub loop-b-preserved : goal.loop-b-preserved
loop-b-preserved c =
    let l = c in
    let t = l.args.t.now in
    let h : l.loop-b.b-index < length t = c.loop-b-test.true in
    let d : c.digit.result < 10 = rw c.digit.ensures (digit-small (get_or t l.loop-b.b-index 0)) in
    let e : length t - l.loop-b.b-index ≡ suc (length t - (l.loop-b.b-index + 1)) = omega arith in
    (room_next l.loop-b.x c.digit.result _ _ d (subst (λ (n : ℕ). (l.loop-b.x + 1) * 10 ^ n ≤ 10 ^ 18) e l.loop-b.invariant.0), rw c.digit.ensures (sym (number-next t l.loop-b.x l.loop-b.b-index h) ∙ l.loop-b.invariant.1))

pub returns : goal.returns
returns c = sym (number-end _ _ _ c.loop-b-test.false) ∙ c.loop-b.invariant.1
