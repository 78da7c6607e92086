-- The parts of a model, each read by a function of the names.
use Rattle.std.specs.Prelude.{Bool, List}
use Rattle.lexer.specs.Marks.{open_word, colon}
use Rattle.rules.specs.Limits.{nesting_limit, constraint_limit}
use Rattle.language.specs.Syntax.{Name, Form, Constraint}
use Rattle.language.specs.Reader.{Reader, give, expect, Titled, read_string, ◌>>=◌}
use Rattle.language.specs.Linear.{linear_at}
use Rattle.language.specs.Grammar.{read_goal, constraints_of}

-- `OPEN` and a string
unfoldable pub opening_in : List Name → Reader Titled
opening_in names = do
  _ ← expect open_word
  read_string

-- an objective: whether it is a minimum, and its form
pub record Objective : Type 0 where
  pub minimize : Bool
  pub form : Form

unfoldable pub objective_in : List Name → Reader Objective
objective_in names = do
  m ← read_goal
  _ ← expect colon
  l ← linear_at names nesting_limit
  give (record { minimize = m; form = l.form })

-- what stands behind the declarations
pub record Content : Type 0 where
  pub objective : Objective
  pub constraints : List Constraint

unfoldable pub content_in : List Name → Reader Content
content_in names = do
  o ← objective_in names
  cs ← constraints_of names constraint_limit
  give (record { objective = o; constraints = cs })
