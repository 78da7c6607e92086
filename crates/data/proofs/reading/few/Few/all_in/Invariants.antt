-- `few::Few::all_in` meets its contract.
use Rattle.data.specs.Reading.Few.{numbers_of}
use Rattle.data.proofs.reading.Lists.{Among}
use Rattle.data.proofs.reading.few.Few.all_in.Given as goal

abbrev pub invariant-loop-k : goal.invariant-loop-k
invariant-loop-k l = Among (numbers_of l.self) (numbers_of l.others) l.k
