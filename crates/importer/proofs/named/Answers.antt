-- `importer::named` meets its contract.
use native.Mathlib.Omega.{arith}
use Rattle.importer.proofs.Stripping.{move-inside, named_none, named-number, named-all}
use Rattle.importer.proofs.named.Goals as goal

pub returns-in_err-next : goal.returns-in_err-next
returns-in_err-next c = rw c.from_residual.ensures (search (named_none, c.in_err-next.was) depth 10)

pub strip_number-requires : goal.strip_number-requires
strip_number-requires c = (search (move-inside, c.in_ok-next.was) depth 6, omega arith)

pub returns-in_err-next-2 : goal.returns-in_err-next-2
returns-in_err-next-2 c = rw c.from_residual-in_err-next-2.ensures (search (named-number, c.in_ok-next.was, c.in_err-next-2.was) depth 12)

pub strip-requires-2 : goal.strip-requires-2
strip-requires-2 c = search (move-inside, c.in_ok-next-2.was) depth 6

pub returns : goal.returns
returns c = search (named-all, c.in_ok-next.was, c.in_ok-next-2.was) depth 12
