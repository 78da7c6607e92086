-- The readers of a constraint's domain, each a function of the names.
use Rattle.std.specs.Prelude.{List, ℕ}
use Rattle.language.specs.Syntax.{Name, Spans}
use Rattle.language.specs.Reader.{Reader, Used, read_index}
use Rattle.language.specs.Formulas.{Entry, entry_of, entries_of, in_domain, domain_of, optional_domain}

-- an entry, its index read by I
unfoldable pub entry_with : (List Name → Reader Used) → List Name → Reader Entry
entry_with I names = entry_of (in_domain names) (I names)

unfoldable pub entries_in : ℕ → List Name → Reader Spans
entries_in n names = entries_of (in_domain names) (read_index names) n

unfoldable pub domain_in : List Name → Reader Spans
domain_in names = domain_of names

unfoldable pub optional_in : List Name → Reader Spans
optional_in names = optional_domain names
