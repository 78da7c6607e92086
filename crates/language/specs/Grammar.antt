-- Document 01, "Grammar": a model up to its data section.
use Rattle.std.specs.Prelude.{Bool, true, false, cond, ◌||◌, List, [], ◌∷◌, ℕ, zero, suc, Option, Some, None}
use Rattle.rules.specs.declared.Refusal.TheVariants.{Misplaced, Full}
use Rattle.rules.specs.Limits.{nesting_limit, constraint_limit}
use Rattle.lexer.specs.Marks as Marks
use Rattle.lexer.specs.Marks.{open_word, maximize_word, minimize_word, comma, colon, equals}
use Rattle.lexer.specs.Text.{Token}
use Rattle.language.specs.Syntax.{Name, Relation, at_most, at_least, equal, between, Constraint, Structure}
use Rattle.language.specs.Reader.{Reader, ◌>>=◌, give, refuse, next, look, is_mark, is_string, demand, require, expect, read_string}
use Rattle.language.specs.Formulas.{formula_at, optional_domain}
use Rattle.language.specs.Linear.{linear_at, side_of}
use Rattle.language.specs.Declarations.{declarations}

-- one of `<= >= =`
unfoldable pub relation_of : Token → Option Relation
relation_of t =
    cond (is_mark Marks.at_most t) (Some at_most)
    (cond (is_mark Marks.at_least t) (Some at_least)
    (cond (is_mark equals t) (Some equal)
    None))

unfoldable pub read_relation : Reader Relation
read_relation = do
  t ← next
  demand (relation_of t) t.place

-- behind a `<=` right side a floor may stand: `,`, `>=` and a formula. A `,` behind any other right side is left to the reader of
-- what follows, which refuses it
unfoldable pub read_floor : List Name → Relation → Reader Relation
read_floor names at_most = do
  t ← look
  elim (is_mark comma t) [
    | true ↦ do
      _ ← next
      _ ← expect Marks.at_least
      h ← formula_at names nesting_limit
      give (between h)
    | false ↦ give at_most
  ]
read_floor names at_least = give at_least
read_floor names equal = give equal
read_floor names (between h) = give (between h)

-- Constraint: string, linear form, one of `<= >= =`, formula, optional floor, optional domain
unfoldable pub constraint_of : List Name → Reader Constraint
constraint_of names = do
  s ← read_string
  l ← linear_at names nesting_limit
  r ← read_relation
  f ← formula_at names nesting_limit
  q ← read_floor names r
  d ← optional_domain names
  give (record { title = s.title; place = s.place; left = side_of l.signed l.form; relation = q; right = f; domain = d })

-- one or more constraints, at most n; one more is 6 at its string, before its linear form (decision 15)
unfoldable pub constraints_of : List Name → ℕ → Reader (List Constraint)
constraints_of names zero = do
  t ← look
  refuse Full t.place
constraints_of names (suc n) = do
  c ← constraint_of names
  t ← look
  elim (is_string t) [
    | true ↦ do
      cs ← constraints_of names n
      give (c ∷ cs)
    | false ↦ give (c ∷ [])
  ]

-- `MAXIMIZE` or `MINIMIZE`: whether it is the latter
unfoldable pub read_goal : Reader Bool
read_goal = do
  t ← next
  _ ← require (is_mark maximize_word t || is_mark minimize_word t) Misplaced t.place
  give (is_mark minimize_word t)

-- Model: `OPEN`, string, declarations, objective, one or more constraints, ..
unfoldable pub structure : Reader Structure
structure = do
  _ ← expect open_word
  s ← read_string
  names ← declarations
  m ← read_goal
  _ ← expect colon
  l ← linear_at names nesting_limit
  cs ← constraints_of names constraint_limit
  give (record { title = s.title; names = names; minimize = m; objective = l.form; constraints = cs })
