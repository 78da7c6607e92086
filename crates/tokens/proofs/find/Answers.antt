-- `tokens::find` meets its contract.
use Prim.Native.Nat.{◌+◌, ◌-◌, ◌*◌, ◌≤◌}
use mathlib.Core.Path.{◌≡◌}
use native.Mathlib.Omega.{arith}
use lib.ListN.{length}
use Rattle.tokens.proofs.Tables.{tells-start, tells-name, tells-nothing, tells-on}
use Rattle.tokens.proofs.find.Goals as goal

pub loop-number-init : goal.loop-number-init
loop-number-init c = search tells-start

pub returns-then-same : goal.returns-then-same
returns-then-same c =
    let h : 5 ≤ length c.args.names.now - c.loop-number.number * 5 = omega arith in
    tells-name _ _ _ _ _ _ c.loop-number.invariant c.same_name-same.ensures h c.if-same.true

pub loop-number-preserved : goal.loop-number-preserved
loop-number-preserved c =
    let h : 5 ≤ length c.args.names.now - c.loop-number.number * 5 = omega arith in
    let e : (c.loop-number.number + 1) * 5 ≡ c.loop-number.number * 5 + 5 = omega arith in
    rw e (tells-on _ _ _ _ _ _ c.loop-number.invariant c.same_name-same.ensures h c.if-same.false)

pub returns : goal.returns
returns c = tells-nothing _ _ _ _ _ (omega arith) c.loop-number.invariant
