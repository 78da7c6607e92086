-- `declarations::entries` meets its contract.
use Rattle.tokens.specs.Stored.{sort_number}
use Rattle.declarations.proofs.ListLaws.{EntriesOn}
use Rattle.declarations.proofs.entries.Given as goal

abbrev pub invariant-loop : goal.invariant-loop
invariant-loop l = EntriesOn l.text l.tokens l.initial.names (sort_number l.sort) l.count l.at l.counter l.n l.start l.names
