-- The readers of constraints, each a function of the names.
use Rattle.std.specs.Prelude.{Bool, cond, List, ℕ, eqb}
use Rattle.rules.specs.Limits.{nesting_limit}
use Rattle.lexer.specs.Marks as Marks
use Rattle.language.specs.Formulas.{formula_at}
use Rattle.language.specs.Syntax.{Formula, Name, Relation, at_most, at_least, equal, Constraint}
use Rattle.language.specs.Reader.{Reader, give, look, expect, is_string, Titled, read_string, ◌>>=◌}
use Rattle.language.specs.Grammar.{read_relation, read_floor, read_goal, constraint_of, constraints_of}

unfoldable pub title_in : List Name → Reader Titled
title_in names = read_string

unfoldable pub relation_in : List Name → Reader Relation
relation_in names = read_relation

-- the relation that is written by a mark, without a floor
unfoldable pub plain_by : ℕ → Relation
plain_by m = cond (eqb m Marks.at_most) at_most (cond (eqb m Marks.at_least) at_least equal)

-- a floor behind its `,`
unfoldable pub floor_formula_in : List Name → Reader Formula
floor_formula_in names = do
  _ ← expect Marks.at_least
  formula_at names nesting_limit

-- what may follow the right side of the relation of a mark
unfoldable pub floor_in : ℕ → List Name → Reader Relation
floor_in m names = read_floor names (plain_by m)

-- a relation with its right side
pub record Comparison : Type 0 where
  pub relation : Relation
  pub right : Formula

unfoldable pub comparison_in : List Name → Reader Comparison
comparison_in names = do
  r ← read_relation
  f ← formula_at names nesting_limit
  q ← read_floor names r
  give (record { relation = q; right = f })

unfoldable pub goal_in : List Name → Reader Bool
goal_in names = read_goal

unfoldable pub constraint_in : List Name → Reader Constraint
constraint_in names = constraint_of names

-- whether a string stands there; it stays
unfoldable pub more_in : List Name → Reader Bool
more_in names = do
  t ← look
  give (is_string t)

-- one or more constraints, at most n
unfoldable pub constraints_in : ℕ → List Name → Reader (List Constraint)
constraints_in n names = constraints_of names n
