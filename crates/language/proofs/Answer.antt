-- Laws of `specs/Answer`.
use mathlib.Core.Path.{◌≡◌, subst}
use mathlib.Core.List.{List}
use Prim.Native.Nat.{ℕ}
use Rattle.language.specs.Outcome.{done}
use Rattle.language.proofs.Outcome.{after, done-injective}
use Rattle.language.specs.Model.{read_model}
use Rattle.language.specs.Numbering.{generate}
use Rattle.language.specs.Answer.{Accepted, accepted}

-- the model was read from the text, and the problem generated from the model
pub accepted-of : (text : List ℕ) (a : Accepted) → accepted text ≡ done a → (read_model text ≡ done a.model) × (generate a.model ≡ done a.problem)
unfolding accepted
accepted-of text a e =
    after (read_model text) _ a e λ m rm e.
    after (generate m) _ a e λ p gp e.
    subst (λ (a : Accepted). (read_model text ≡ done a.model) × (generate a.model ≡ done a.problem)) (done-injective e) (rm, gp)
