-- `running::element` meets its contract.
use Rattle.data.specs.Reading.Entries.{entries_of}
use Rattle.data.proofs.Positions.{Making}
use Rattle.data.proofs.running.element.Given as goal

abbrev pub invariant-loop-k : goal.invariant-loop-k
invariant-loop-k l = Making (entries_of l.bound) l.k l.e
