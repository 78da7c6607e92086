-- `rows::count_at` meets its contract.
use native.Mathlib.Omega.{arith}
use Rattle.value.proofs.Integers.{back}
use Rattle.rows.specs.Read.{count_at}
use Rattle.rows.proofs.Reading.{count_none}
use Rattle.rows.proofs.count_at.Goals as goal

pub returns-then-n-k : goal.returns-then-n-k
returns-then-n-k c = count_none _ _ _ (omega arith)

pub returns-then-n-j : goal.returns-then-n-j
returns-then-n-j c = count_none _ _ _ (omega arith)

pub returns-then-at-n : goal.returns-then-at-n
unfolding count_at
returns-then-at-n c = back c.result-1.given

pub returns : goal.returns
returns c = count_none _ _ _ (omega arith)
