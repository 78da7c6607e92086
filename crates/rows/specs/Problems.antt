-- What tables need of a problem: each variable has a key, and each entry comes from a constraint.
use Rattle.std.specs.Prelude.{List}
use Rattle.language.specs.Listed.{At}
use Rattle.language.specs.Syntax.{Constraint}
use Rattle.language.specs.Numbering.{Variable, Entry}
use Rattle.store.specs.Entries.{Keyed}

abbrev pub KeyedVariable : Variable → Type 0
KeyedVariable v = Keyed v.name v.element

-- an entry comes from the constraint of its number
abbrev pub FromConstraint : List Constraint → Entry → Type 0
FromConstraint cs e = At cs e.source.ordinal e.source.constraint
