-- `recipe::tell` meets its contract.
use Rattle.recipe.proofs.Printing.{tells-report, tells-refusal}
use Rattle.recipe.proofs.tell.Goals as goal

pub returns-then-a-eq0 : goal.returns-then-a-eq0
returns-then-a-eq0 c = search tells-report depth 6

pub returns : goal.returns
returns c = search tells-refusal depth 8
