-- `passing::behind_bracket` meets its contract.
use native.Mathlib.Omega.{arith}
use Prim.Native.Nat.{◌≤◌}
use lib.ListN.{length}
use Rattle.evaluator.proofs.steps.Passed.{open-start, open-end, open_more, open-closed, open-less, open-other}
use Rattle.evaluator.proofs.steps.passing.behind_bracket.Goals as goal

pub loop-i-init : goal.loop-i-init
loop-i-init c = open-start _ _

pub loop-i-preserved-then-k : goal.loop-i-preserved-then-k
loop-i-preserved-then-k c = search open_more depth 6

pub loop-i-preserved-then-not-closes : goal.loop-i-preserved-then-not-closes
loop-i-preserved-then-not-closes c = search open-other depth 7

pub returns-then-depth-eq0 : goal.returns-then-depth-eq0
returns-then-depth-eq0 c = search open-closed depth 8

pub loop-i-preserved : goal.loop-i-preserved
loop-i-preserved c = search open-less depth 8

pub returns : goal.returns
returns c =
    let past : length c.args.tokens.now ≤ c.max.result = omega (arith, c.max.ensures) in
    search open-end depth 6
