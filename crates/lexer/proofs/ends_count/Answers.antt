-- `lexer::ends_count` meets its contract.
use mathlib.Core.Path.{refl, sym}
use mathlib.Core.Logic.{⊎_elim}
use Rattle.lexer.specs.Text.{uncounted}
use Rattle.lexer.proofs.Words.{ends-it, still-counted}
use Rattle.lexer.proofs.ends_count.Goals as goal

pub returns-in-Init : goal.returns-in-Init
unfolding uncounted
returns-in-Init c = rw c.in-Mark.is (sym (⊎_elim (ends-it _ _ refl) (ends-it _ _ refl) c.in-Init.is))

pub returns-in_default : goal.returns-in_default
returns-in_default c = rw c.in-Mark.is (sym (still-counted _ c.in_default.not-Init c.in_default.not-Close))

pub returns-in-Name : goal.returns-in-Name
unfolding uncounted
returns-in-Name c = ⊎_elim (λ e. rw e.2 refl) (λ o. ⊎_elim (λ e. rw e.2 refl) (λ e. rw e.2 refl) o) c.in-Name.is

pub returns-in-End : goal.returns-in-End
unfolding uncounted
returns-in-End c = ⊎_elim (λ e. rw e refl) (λ e. rw e.1 refl) c.in-End.is
