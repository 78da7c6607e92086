-- `matrix::all` meets its contract.
use Rattle.evaluator.specs.Context.{Over}
use Rattle.matrix.proofs.Listing.{AllOn}
use Rattle.matrix.proofs.all.Given as goal

abbrev pub invariant-loop-k : goal.invariant-loop-k
invariant-loop-k l =
    Over AllOn l.stored l.variables l.total l.constraints l.count l.initial.slots l.initial.bounds l.initial.counts l.f l.slots l.bounds l.counts l.k
