-- Names and strings, as the tables tell them; limits.
use Rattle.std.specs.Prelude.{Bool, ◌&&◌, List, ℕ, ◌+◌, leb, get_or}
use Rattle.rules.specs.Limits.{byte_limit}
use Rattle.lexer.specs.View.{part_of}
use Rattle.tokens.specs.Stored.{place_part, payload_part}
use Rattle.constraints.specs.declared.Record.{Record}
use Rattle.constraints.specs.Rows.{row_at}
use Rattle.evaluator.specs.Steps.Names.{row_word}
use Rattle.rows.specs.declared.Sizes.{Sizes}
use Rattle.rows.specs.Read as rows

-- the name of a number: its row tells its place and the number of its bytes
unfoldable pub name_at : List ℕ → List ℕ → ℕ → List ℕ
name_at s ns i = part_of s (row_word ns i 0) (row_word ns i 1)

-- the string whose token stands at a position
unfoldable pub string_at : List ℕ → List ℕ → ℕ → List ℕ
string_at s ts at = part_of s (place_part (get_or ts at 0) + 1) (payload_part (get_or ts at 0))

-- the string of the constraint of a number
unfoldable pub title_of : List ℕ → List ℕ → List Record → ℕ → List ℕ
title_of s ts cs i = string_at s ts (row_at cs i).title

-- a text of n bytes and a problem of these sizes are within the limits
unfoldable pub within : ℕ → Sizes → Bool
within n x = leb n byte_limit && rows.within x
