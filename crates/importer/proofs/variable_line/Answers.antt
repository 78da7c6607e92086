-- `importer::variable_line` meets its contract.
use native.Mathlib.Omega.{arith}
use Rattle.listing.proofs.Lengths.{variable-most}
use Rattle.listing.proofs.Writing.{written_from}
use Rattle.importer.proofs.variable_line.Goals as goal

pub overflow_add-result : goal.overflow_add-result
overflow_add-result c =
    let a = c.args in
    omega (arith, c.variable.ensures.next, variable-most a.number a.discrete a.lower a.upper)

pub returns : goal.returns
returns c =
    let a = c.args in
    (written_from _ _ _ _ _ _ c.rest_from-from.ensures c.variable.ensures, omega (arith, c.variable.ensures.next, variable-most a.number a.discrete a.lower a.upper))
