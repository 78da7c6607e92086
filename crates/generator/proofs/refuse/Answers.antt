-- `generator::refuse` meets its contract.
use borrow.Author.Rules.{rules}
use Rattle.generator.proofs.Answers.{numbered}
use Rattle.generator.proofs.refuse.Goals as goal

pub returns : goal.returns
returns c = record { value = search numbered; out_after = search rules }
