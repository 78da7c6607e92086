-- `generator::behind_brace` meets its contract.
use Rattle.generator.proofs.Listings.{brace-inside, brace-outside}
use Rattle.generator.proofs.behind_brace.Goals as goal

pub returns-then-p : goal.returns-then-p
returns-then-p c = search brace-inside

pub returns : goal.returns
returns c = search brace-outside
