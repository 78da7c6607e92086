-- `recipe::answer` meets its contract.
use Rattle.recipe.proofs.Printing.{entry-prints}
use Rattle.recipe.proofs.answer.Goals as goal

pub returns : goal.returns
returns c = search entry-prints depth 8
