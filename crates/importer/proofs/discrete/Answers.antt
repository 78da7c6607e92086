-- `importer::discrete` meets its contract.
use native.Mathlib.Omega.{arith}
use Rattle.importer.proofs.Stripping.{move-inside}
use Rattle.importer.proofs.Variables.{discrete-none, discrete-bad, discrete-empty, discrete-open, discrete-all, columns-inside}
use Rattle.importer.proofs.discrete.Goals as goal

pub returns-in_default : goal.returns-in_default
returns-in_default c = search discrete-none depth 9

pub columns-requires : goal.columns-requires
columns-requires c = (search move-inside depth 6, omega arith, omega arith, omega arith)

pub returns-in_err-read : goal.returns-in_err-read
returns-in_err-read c = rw c.from_residual.ensures (search (discrete-bad, c.in_err-read.was) depth 11)

pub returns-then-read-eq0 : goal.returns-then-read-eq0
returns-then-read-eq0 c = search (discrete-empty, c.in_ok-read.was) depth 13

pub strip-requires-2 : goal.strip-requires-2
strip-requires-2 c = search (columns-inside, c.in_ok-read.was) depth 7

pub returns-in_err-next : goal.returns-in_err-next
returns-in_err-next c = rw c.from_residual-in_err-next.ensures (search (discrete-open, c.in_ok-read.was, c.in_err-next.was) depth 15)

pub returns : goal.returns
returns c = search (discrete-all, c.in_ok-read.was, c.in_ok-next.was) depth 16
