-- `next` meets its contract: the innermost run goes on, or what `after` gives.
use Rattle.elements.proofs.Going.{next-is, next-on}
use Rattle.elements.proofs.next.Goals as goal

pub returns-then-has_more : goal.returns-then-has_more
returns-then-has_more c = search next-on depth 16

pub returns : goal.returns
returns c = search next-is
