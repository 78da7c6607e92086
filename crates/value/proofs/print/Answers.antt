-- `value::print` meets its contract.
use mathlib.Core.Path.{sym, ◌∙◌}
use Rattle.value.proofs.Writing.{written_none, shown-printed, shown-none}
use Rattle.value.proofs.print.Goals as goal

pub returns-then-in_range : goal.returns-then-in_range
returns-then-in_range c =
    let p = c in
    let t = p in
    rw (shown-printed _ (sym t.in_range.ensures ∙ t.if-in_range.true)) p.put_value.ensures

pub returns : goal.returns
returns c = rw (shown-none _ (sym c.in_range.ensures ∙ c.if-in_range.false)) (written_none _ 0)
