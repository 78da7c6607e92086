-- `value::ValueNeg::neg` meets its contract.
use mathlib.Core.Path.{sym, ◌∙◌}
use native.Mathlib.Omega.{arith}
use Rattle.value.proofs.Integers.{back}
use Rattle.value.proofs.Ranges.{range_small}
use Rattle.value.proofs.Operations.{negate-is}
use Rattle.value.proofs.ValueNeg.neg.Goals as goal

pub minus-requires : goal.minus-requires
minus-requires c = rw (back c.struct_told-1.given.0.1) (omega (arith, range_small _ (sym c.in_range.ensures ∙ c.if-in_range.true)))

pub returns-then-in_range : goal.returns-then-in_range
returns-then-in_range c =
    let t = c in
    rw (sym t.in_range.ensures ∙ t.if-in_range.true, back c.minus.type_inv, c.minus.ensures, back c.struct_told-1.given.0.1) (negate-is _)
