-- `spans::row_lines` meets its contract.
use Rattle.spans.proofs.Telling.{Spanning}
use Rattle.spans.proofs.row_lines.Given as goal

abbrev pub invariant-loop-i : goal.invariant-loop-i
invariant-loop-i l = Spanning l.slots l.bounds l.counts l.less l.n l.size l.initial.out l.at l.i l.out l.next
