-- `generator::recipe_read_export` meets its contract.
use Rattle.generator.proofs.Exports.{reads-back}
use Rattle.generator.proofs.recipe_read_export.Goals as goal

pub returns : goal.returns
returns c = search reads-back depth 8
