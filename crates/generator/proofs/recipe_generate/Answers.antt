-- `generator::recipe_generate` meets its contract.
use Rattle.language.specs.Answer.{listing_of}
use Rattle.generator.proofs.Answers.{listing-defined, listing-accepts, listing-means}
use Rattle.generator.proofs.recipe_generate.Goals as goal

pub returns : goal.returns
returns c =
    let h = c.answer_with.ensures listing_of (λ t o r o' p. p.1) in
    record { defined = listing-defined _ _ _ _ h; accepts = listing-accepts _ _ _ _ h; meaning = listing-means _ _ _ _ h }
