-- `add_sort` meets its contract.
use Rattle.tokens.specs.Stored.{sort_number}
use Rattle.problem.proofs.variables.Sorts.{SortOn}
use Rattle.evaluator.specs.Context.{Over}
use Rattle.problem.proofs.variables.add_sort.Given as goal

abbrev pub invariant-loop-i : goal.invariant-loop-i
invariant-loop-i l = Over SortOn l.stored (sort_number l.sort) l.from l.initial.variables l.variables l.i l.n
