-- `value::normalise` meets its contract. The invariant: the scales below i do not serve.
use mathlib.Core.Path.{◌∙◌}
use Rattle.value.proofs.Integers.{back}
use Rattle.value.proofs.Scales.{sought-next, fit_found, fit_none, power_pos}
use Rattle.value.proofs.normalise.Goals as goal

pub nonzero_rem-x : goal.nonzero_rem-x
nonzero_rem-x c = search power_pos depth 6

pub nonzero_div-x : goal.nonzero_div-x
nonzero_div-x c = search power_pos depth 6

pub returns-then-x-d-eq0 : goal.returns-then-x-d-eq0
returns-then-x-d-eq0 c =
    let l = c in
    let s = l in
    let b = back {z = s.args.z} s.ranges.z.sfits in
    fit_found _ _ _ (l.unsigned_abs-x.ensures.value ∙ rw b) _ _ _ l.loop-i.invariant c.loop-i-test.true c.power-d.ensures c.if-x-d-eq0.true (c.chosen.ensures ∙ rw b)

pub loop-i-preserved : goal.loop-i-preserved
loop-i-preserved c = search sought-next depth 9

pub returns : goal.returns
returns c =
    let l = c in
    let s = l in
    fit_none _ _ _ (l.unsigned_abs-x.ensures.value ∙ rw (back {z = s.args.z} s.ranges.z.sfits)) _ l.loop-i.invariant c.loop-i-test.false
