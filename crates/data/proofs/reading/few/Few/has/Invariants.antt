-- `few::Few::has` meets its contract.
use Rattle.data.specs.Reading.Few.{numbers_of}
use Rattle.data.proofs.reading.Lists.{Seeks}
use Rattle.data.proofs.reading.few.Few.has.Given as goal

abbrev pub invariant-loop-k : goal.invariant-loop-k
invariant-loop-k l = Seeks (numbers_of l.self) l.x l.from l.k
