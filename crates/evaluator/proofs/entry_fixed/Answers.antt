-- `entry_fixed` meets its contract.
use Rattle.evaluator.proofs.Alone.{seen-ok, entry-fixed}
use Rattle.evaluator.proofs.entry_fixed.Goals as goal

-- the facts by their paths: they are too many for a search
pub returns : goal.returns
returns c =
    let token = seen-ok _ _ _ c.ok.ensures.value c.in_ok-token.was in
    entry-fixed _ _ _ _ _ _ _ c.formula_alone.ensures _ _ c.in_ok-v.was _ c.token_at.ensures _ token _ c.skip-upper.ensures
    _ c.formula_alone-2.ensures _ _ c.in_ok-w.was _ c.limits_of.ensures
