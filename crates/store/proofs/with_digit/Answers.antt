-- `store::with_digit` meets its contract.
use Rattle.store.proofs.Back.{digit-none, digit-more}
use native.Mathlib.Omega.{arith}
use Rattle.store.proofs.Words.{moved-is}
use Rattle.store.proofs.with_digit.Goals as goal

pub returns-then-d-eq0 : goal.returns-then-d-eq0
returns-then-d-eq0 c = digit-none _ _ c.if-d-eq0.true

pub returns : goal.returns
returns c = digit-more _ _ _ _ c.if-d-eq0.false (moved-is c.args.d (omega arith)) c.with.ensures
