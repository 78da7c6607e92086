-- `reach::end_of` meets its contract.
use Rattle.reach.specs.Tables.{is_greatest}
use Rattle.reach.proofs.Reaching.{Reaching}
use Rattle.reach.proofs.end_of.Given as goal

abbrev pub invariant-loop-j : goal.invariant-loop-j
invariant-loop-j l = Reaching l.counts l.bounds l.k (is_greatest l.end) l.n l.j l.t
