-- `few::Few::no_repeats` meets its contract.
use Rattle.data.specs.Reading.Few.{numbers_of}
use Rattle.data.proofs.reading.Lists.{Single}
use Rattle.data.proofs.reading.few.Few.no_repeats.Given as goal

abbrev pub invariant-loop-k : goal.invariant-loop-k
invariant-loop-k l = Single (numbers_of l.self) l.k
