-- `generator::call` meets its contract.
use Rattle.generator.proofs.Entries.{calls-list, calls-export, calls-read}
use Rattle.generator.proofs.call.Goals as goal

pub returns-in-List : goal.returns-in-List
returns-in-List c = search calls-list depth 6

pub returns-in-Export : goal.returns-in-Export
returns-in-Export c = search calls-export depth 6

pub returns-in-Read : goal.returns-in-Read
returns-in-Read c = search calls-read depth 6
