-- `running::each` and `running::runs` meet their contracts: with each call one position less is left to run.
use Rattle.std.proofs.lemmas.Result.{err_from_is_err_and}
use Prim.Native.Nat.{◌<◌}
use native.Mathlib.Omega.{arith}
use Rattle.data.proofs.Carried.{each_start, each-end, each-wrong, each_on, runs_number, runs-wrong, runs-refused, runs-each, few-positions}
use Rattle.data.proofs.running.+each_runs.Goals as goal

pub each-loop-i-init : goal.each-loop-i-init
each-loop-i-init t c = search each_start depth 4

pub each-returns-in_err-next : goal.each-returns-in_err-next
each-returns-in_err-next t c = let p = err_from_is_err_and c.from_residual.result c.from_residual.ensures.1 in rw (p.1, p.2, ← c.in_err-next.was) (search (each-wrong, c.in_err-next.was) depth 12)

pub each-loop-i-preserved : goal.each-loop-i-preserved
each-loop-i-preserved t c = search (each_on, c.in_ok-next.was) depth 12

pub each-returns : goal.each-returns
each-returns t c = search each-end depth 6

pub runs-returns-then-length-k : goal.runs-returns-then-length-k
runs-returns-then-length-k t c = search runs_number depth 8

pub runs-each-requires : goal.runs-each-requires
runs-each-requires t c = let few : c.args.k < 4 = search few-positions depth 5 in (omega arith, few)

pub runs-returns-in_err-token_at : goal.runs-returns-in_err-token_at
runs-returns-in_err-token_at t c = let p = err_from_is_err_and c.from_residual.result c.from_residual.ensures.1 in rw (p.1, p.2) (search (runs-wrong, c.in_err-token_at.was) depth 8)

pub runs-returns-in_err-l : goal.runs-returns-in_err-l
runs-returns-in_err-l t c = let p = err_from_is_err_and c.from_residual-in_err-l.result c.from_residual-in_err-l.ensures.1 in rw (p.1, p.2) (search (runs-refused, c.in_ok-token_at.was, c.in_err-l.was) depth 11)

pub runs-returns : goal.runs-returns
runs-returns t c = search (runs-each, c.in_ok-token_at.was, c.in_ok-l.was) depth 12
