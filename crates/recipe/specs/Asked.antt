-- What is asked of the program, by its word.
use Rattle.std.specs.Prelude.{None, Option, Some, cond, List, ℕ}
use Rattle.rules.specs.Characters.{bytes}
use Rattle.lexer.specs.Text.{same_bytes}
use Rattle.generator.specs.declared.Entry.{Entry}
use Rattle.generator.specs.declared.Entry.TheVariants as entry

unfoldable pub job_of : List ℕ → Option Entry
job_of word = cond (same_bytes word (bytes "--mps")) (Some entry.Export) (cond (same_bytes word (bytes "--read-mps")) (Some entry.Read) None)
