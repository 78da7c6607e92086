-- `matrix::rows_of` meets its contract.
use Rattle.evaluator.specs.Context.{Over}
use Rattle.elements.specs.Walk.{ToCome}
use Rattle.elements.proofs.Walking.{Reads}
use Rattle.matrix.proofs.Looping.{RowsOn}
use Rattle.matrix.proofs.rows_of.Given as goal

abbrev pub invariant-loop-here : goal.invariant-loop-here
invariant-loop-here l =
    Over RowsOn l.stored l.variables l.total l.k l.parts l.initial.f l.initial.slots l.initial.counts l.f l.slots l.counts (ToCome l.here-iterator)
    × Reads l.stored 64 l.here-iterator
