-- `importer::less_rows` meets its contract.
use native.Mathlib.Omega.{arith}
use Rattle.importer.proofs.Stripping.{move-inside}
use Rattle.importer.proofs.Rows.{list-first, list-out, list-stop, list-more}
use Rattle.importer.proofs.less_rows.Goals as goal

pub loop-k-init : goal.loop-k-init
loop-k-init c = search list-first depth 6

pub returns-in_default : goal.returns-in_default
returns-in_default c = search list-stop depth 9

pub named-floor-requires : goal.named-floor-requires
named-floor-requires c = (search move-inside depth 6, omega arith)

pub loop-k-preserved : goal.loop-k-preserved
loop-k-preserved c = search list-more depth 12

pub returns : goal.returns
returns c = search list-out depth 8
