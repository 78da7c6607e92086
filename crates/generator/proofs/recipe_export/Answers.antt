-- `generator::recipe_export` meets its contract.
use Rattle.mps.specs.Problem.{export_of}
use Rattle.generator.proofs.Exports.{export-defined, export-carries}
use Rattle.generator.proofs.recipe_export.Goals as goal

pub returns : goal.returns
returns c = let h = c.answer_with.ensures export_of (λ t o r o' p. p.1) in record { defined = export-defined _ _ _ _ h; meaning = export-carries _ _ _ _ h }
