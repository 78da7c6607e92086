-- `layouts::lay_out` meets its contract.
use Rattle.data.proofs.Laying.{LaidOn}
use Rattle.tokens.specs.Text.{In}
use Rattle.data.proofs.layouts.lay_out.Given as goal

abbrev pub invariant-loop : goal.invariant-loop
invariant-loop l = In LaidOn l.text l.level l.at l.count l.starts l.indices l.a l.counter
