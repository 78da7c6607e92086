-- `recipe::named` meets its contract.
use Rattle.recipe.proofs.Asking.{asked-export, asked-read, asked-unknown}
use Rattle.recipe.proofs.named.Goals as goal

pub returns-then-eq : goal.returns-then-eq
returns-then-eq c = asked-export _ _ (rw c.as_slice.ensures at c.eq.ensures) c.if-eq.true

pub returns-then-eq-2 : goal.returns-then-eq-2
returns-then-eq-2 c =
    let a = rw c.as_slice.ensures at c.eq.ensures in
    let b = rw c.as_slice-2.ensures at c.eq-2.ensures in
    asked-read _ _ a _ b c.if-eq.false c.if-eq-2.true

pub returns : goal.returns
returns c =
    let a = rw c.as_slice.ensures at c.eq.ensures in
    let b = rw c.as_slice-2.ensures at c.eq-2.ensures in
    asked-unknown _ _ a _ b c.if-eq.false c.if-eq-2.false
