-- Document 01's case is accepted, so that demand 3 speaks of it.
use mathlib.Core.Path.{◌≡◌, refl}
use Rattle.rules.specs.Characters.{bytes}
use Rattle.language.specs.Answer.{answer}
use Rattle.language.specs.Computed.{computed}
use Rattle.language.specs.Demand3.{Demand3}
use Rattle.language.proofs.Cases.{blend}
use Rattle.language.proofs.Accepted.{kept}

blend-accepted : (answer (bytes blend) 162).number ≡ 0
unfolding computed blend
blend-accepted = refl

pub blend-kept : Demand3 (bytes blend) 162
blend-kept = kept (bytes blend) 162 blend-accepted
