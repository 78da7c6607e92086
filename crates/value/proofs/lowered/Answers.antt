-- `value::lowered` meets its contract. The invariant: what is left is the same number.
use mathlib.Core.Path.{◌≡◌, ◌∙◌}
use Prim.Native.Nat.{◌+◌, ◌-◌, ◌<◌, ◌^◌}
use mir.Syntax.{w64}
use mir.Facts.{to_z_pos}
use native.Mathlib.Omega.{arith}
use Rattle.value.proofs.Powers.{fewer-next, fewer-none, fewer-all}
use Rattle.value.proofs.lowered.Goals as goal

pub returns-then-y-ne0 : goal.returns-then-y-ne0
returns-then-y-ne0 c = fewer-none _ _ _ _ c.loop.invariant.0 (omega arith) c.if-y-ne0.true

pub loop-preserved : goal.loop-preserved
loop-preserved c =
    let e : c.args.s - (c.loop.counter + 1 - 18) ≡ c.args.s - (c.loop.counter - 18) - 1 = omega arith in
    (rw e (fewer-next _ _ _ _ c.loop.invariant.0 (omega arith) c.if-y-ne0.false), omega arith)

pub returns : goal.returns
returns c =
    let small : c.loop.y < 2 ^ 63 = omega (arith, c.loop.invariant.0.small) in
    let e : c.min.result ≡ c.args.s - (c.loop.counter - 18) = omega arith in
    fewer-all _ _ _ _ _ _ c.loop.invariant.0 e (c.normalise.ensures ∙ rw (to_z_pos w64 small))
