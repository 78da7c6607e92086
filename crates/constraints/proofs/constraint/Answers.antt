-- `constraints::constraint` meets its contract.
use Rattle.constraints.proofs.RowLaws.{row_is}
use Rattle.constraints.proofs.constraint.Goals as goal

pub returns : goal.returns
returns c = search (row_is, c.in_ok-sites.ensures, c.is_bare-bare.ensures, c.entries_at-entries.ensures) depth 8
