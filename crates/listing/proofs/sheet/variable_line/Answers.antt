-- `sheet::variable_line` meets its contract.
use native.Mathlib.Omega.{arith}
use Rattle.listing.proofs.sheet.Words.{name-most}
use Rattle.listing.proofs.sheet.Writing.{variable-short, variable-written}
use Rattle.listing.proofs.sheet.variable_line.Goals as goal

pub overflow_add-result : goal.overflow_add-result
overflow_add-result c =
    let a = c.args in
    omega (arith, variable-short _ _ _ _ _ _ c.variable.ensures (rw c.name_of-name.ensures (omega (arith, c.requires.0, name-most a.text.now a.names.now c.name_at.result))))

pub returns : goal.returns
returns c =
    variable-written _ _ _ c.rest_from-from.ensures _ _ _ _ _ _ _ _ _ _ _ c.requires.0 c.lower_of-lower.ensures c.upper_of-upper.ensures c.name_at.ensures c.name_of-name.ensures c.element_at-e.ensures c.variable.ensures
