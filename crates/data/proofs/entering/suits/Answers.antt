-- `entering::suits` meets its contract.
use Rattle.data.proofs.Accepting.{suits-real, suits-whole}
use borrow.Author.Tests.{not-true}
use Rattle.data.proofs.entering.suits.Goals as goal

pub returns-then-not-whole : goal.returns-then-not-whole
returns-then-not-whole c = search (suits-real, not-true)

pub returns : goal.returns
returns c = search suits-whole depth 7
