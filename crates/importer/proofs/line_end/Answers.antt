-- `importer::line_end` meets its contract.
use Rattle.importer.proofs.Values.{run-first, run_more, run-stop, run_out}
use Rattle.importer.proofs.line_end.Goals as goal

pub loop-i-init : goal.loop-i-init
loop-i-init c = search run-first

pub returns-then-text-i-eq10 : goal.returns-then-text-i-eq10
returns-then-text-i-eq10 c = search run-stop depth 7

pub loop-i-preserved : goal.loop-i-preserved
loop-i-preserved c = search run_more depth 7

pub returns : goal.returns
returns c = search run_out depth 7
