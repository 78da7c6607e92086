-- The problem of an accepted text is valid.
use mathlib.Core.Path.{◌≡◌, subst}
use mathlib.Core.List.{List}
use Prim.Native.Nat.{ℕ}
use Rattle.value.specs.Decimal.{Valid}
use Rattle.value.proofs.Reading.{literal-valid}
use Rattle.lexer.specs.Text.{tokens}
use Rattle.language.specs.Outcome.{done}
use Rattle.language.specs.Model.{Model, read_model, start}
use Rattle.language.specs.Numbering.{Lp, generate}
use Rattle.language.specs.Answer.{Accepted, accepted}
use Rattle.language.proofs.Answer.{accepted-of}
use Rattle.language.specs.Literals.{AllLiterals}
use Rattle.language.specs.Valid.{ValidScope, ValidStore, ValidProblem}
use Rattle.language.proofs.Shapes.{AllShaped, shaped-right, tokens-shaped}
use Rattle.language.proofs.PhrasedModel.{structure-written}
use Rattle.language.proofs.Facts.{model-read, model-facts}
use Rattle.language.proofs.ValidStore.{scope-valid}
use Rattle.language.proofs.ValidData.{ValidTokens, ValidGiven, read_data-valid}
use Rattle.language.proofs.ValidProblem.{generate-valid}

-- the literals of the trees, and the data
pub record ValidModel (m : Model) : Type 0 where
  pub structure : AllLiterals Valid m.structure
  pub store : ValidStore m.given.store

pub start-valid : (m : Model) → ValidModel m → ValidScope (start m)
unfolding start
start-valid m h = scope-valid m.given.store h.store

pub problem-valid : (m : Model) (p : Lp) → ValidModel m → generate m ≡ done p → ValidProblem p
problem-valid m p h e = generate-valid m p h.structure (start-valid m h) e

pub model-valid : (text : List ℕ) (m : Model) → read_model text ≡ done m → ValidModel m
model-valid text m e =
    let r = model-read text m e in
    let w = structure-written text r.first r.structure-done in
    let shaped : AllShaped Valid (tokens text) = tokens-shaped Valid literal-valid text in
    let rest : ValidTokens r.first.rest = shaped-right Valid w.phrase r.first.rest (subst (AllShaped Valid) w.taken shaped) in
    let literals : AllLiterals Valid m.structure = (model-facts Valid text m shaped e).structure.literals in
    record {
      structure = literals;
      store = subst ValidGiven r.given_is ((read_data-valid m.structure.names literals.0).gives r.first.rest r.second rest r.data-done).what;
    }

pub accepted-valid : (text : List ℕ) (a : Accepted) → accepted text ≡ done a → ValidProblem a.problem
accepted-valid text a e = let r = accepted-of text a e in problem-valid a.model a.problem (model-valid text a.model r.0) r.1
