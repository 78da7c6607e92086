-- A domain run while its tokens are walked, as code does that keeps tokens and no trees: like `over`, but each entry's limits are
-- walked anew at its tokens. One theorem (proofs/WalkedOver.antt) joins this to `over`.
use Rattle.std.specs.Prelude.{List, [], ◌∷◌, ℕ, zero, suc, ℤ}
use Rattle.lexer.specs.Text.{Token}
use Rattle.language.specs.Outcome.{Outcome, ◌>>=◌}
use Rattle.language.specs.Syntax.{Name}
use Rattle.language.specs.Scope.{Scope, bind}
use Rattle.language.specs.Evaluation.{run_of, each}
use Rattle.onepass.specs.Walk.{Walk, walk_entry}

-- a step at each element of a domain with n entries, which stand at ts
unfoldable pub walk_over : {A : Type 0} → List Name → Walk → ℕ → List Token → Scope → (Scope → List ℤ → A → Outcome A) → A → Outcome A
walk_over names F zero ts s f a = f s [] a
walk_over names F (suc n) ts s f a = do
  e ← walk_entry names F s ts
  ks ← run_of e.what.limits e.what.number s e.what.place
  each (λ k b. walk_over names F n e.rest (bind e.what.number k s) (λ t x. f t (k ∷ x)) b) ks a
