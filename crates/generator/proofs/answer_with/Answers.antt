-- `generator::answer_with` meets its contract.
use Rattle.generator.proofs.Answers.{report-gives}
use Rattle.generator.proofs.answer_with.Goals as goal

pub returns : goal.returns
returns g c = λ f d. let w = c.generate-generated.ensures f d in search report-gives depth 8
