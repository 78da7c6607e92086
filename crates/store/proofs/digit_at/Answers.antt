-- `store::digit_at` meets its contract.
use mathlib.Core.Path.{◌∙◌}
use native.Mathlib.Omega.{arith}
use Rattle.store.proofs.Keys.{digit_at_lem, digit-past}
use Rattle.value.proofs.Integers.{back}
use Rattle.store.proofs.digit_at.Goals as goal

pub returns-then-i-length : goal.returns-then-i-length
returns-then-i-length c = (
  c.digit.ensures.0 ∙ rw (back {z = c.at.result} c.at.type_inv, c.at.ensures) (digit_at_lem _ _ (omega arith)),
  c.digit.ensures.1,
)

pub returns : goal.returns
returns c = (digit-past _ _ (omega arith), omega arith)
