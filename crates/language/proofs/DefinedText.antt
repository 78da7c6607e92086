-- In an accepted text every written value is defined.
use mathlib.Core.Path.{◌≡◌, subst}
use mathlib.Core.List.{List}
use Prim.Native.Nat.{ℕ}
use Rattle.language.specs.Outcome.{done}
use Rattle.language.specs.Model.{Model, read_model}
use Rattle.language.specs.Answer.{Accepted, accepted}
use Rattle.language.proofs.Answer.{accepted-of}
use Rattle.language.specs.Named.{NamedStructure}
use Rattle.language.specs.Defined.{DefinedModel}
use Rattle.language.proofs.PhrasedModel.{structure-written}
use Rattle.language.proofs.Facts.{model-read}
use Rattle.language.proofs.NamedRead.{structure-named}
use Rattle.language.proofs.DefinedModel.{defined}

pub model-named : (text : List ℕ) (m : Model) → read_model text ≡ done m → NamedStructure m.structure
model-named text m e =
    let r = model-read text m e in
    subst NamedStructure r.structure-is (structure-named (structure-written text r.first r.structure-done).writes)

pub accepted-defined : (text : List ℕ) (a : Accepted) → accepted text ≡ done a → DefinedModel a.model
accepted-defined text a e =
    let r = accepted-of text a e in
    defined a.model a.problem (model-named text a.model r.0) r.1
