-- `matrix::bounds_of` meets its contract.
use Rattle.evaluator.specs.Context.{Over}
use Rattle.elements.specs.Walk.{ToCome}
use Rattle.elements.proofs.Walking.{Reads}
use Rattle.matrix.proofs.Looping.{BoundsOn}
use Rattle.matrix.proofs.bounds_of.Given as goal

abbrev pub invariant-loop-here : goal.invariant-loop-here
invariant-loop-here l =
    Over BoundsOn l.stored l.variables l.total l.parts l.initial.bounds l.bounds (ToCome l.here-iterator) × Reads l.stored 64 l.here-iterator
