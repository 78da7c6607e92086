-- `importer::equal_rows` meets its contract.
use Rattle.importer.proofs.Rows.{count-first, count-out, count-stop, count-more}
use Rattle.importer.proofs.equal_rows.Goals as goal

pub loop-k-init : goal.loop-k-init
loop-k-init c = search count-first depth 6

pub returns-in_default : goal.returns-in_default
returns-in_default c = search count-stop depth 9

pub loop-k-preserved : goal.loop-k-preserved
loop-k-preserved c = search count-more depth 10

pub returns : goal.returns
returns c = search count-out depth 8
