-- The readers of formulas, each a function of the names, at the nesting that the code has.
use Rattle.std.specs.Prelude.{Result, ◌≡◌, List, ℕ}
use Rattle.rules.specs.declared.Refused.{Refused}
use Rattle.language.specs.Syntax.{Name, Formula, Spans}
use Rattle.language.specs.Reader.{Reader, ◌>>=◌, known}
use Rattle.language.specs.Formulas.{factors, term_of, summands, part_of, sum_formula, subscripts_of, formulas_of, named_by, nested_of, primary_of, inside_at, formula_at}
use Rattle.tokens.specs.Stored.{Moves, spelling, size}

unfoldable pub inside_in : ℕ → List Name → Reader Formula
inside_in n names = inside_at names n

unfoldable pub formula_in : ℕ → List Name → Reader Formula
formula_in n names = formula_at names n

unfoldable pub primary_in : ℕ → List Name → Reader Formula
primary_in n names = primary_of names n (inside_at names n)

unfoldable pub term_in : ℕ → List Name → Reader Formula
term_in n names = term_of (primary_of names n (inside_at names n))

unfoldable pub part_in : ℕ → ℕ → List Name → Reader Formula
part_in n c names = part_of (inside_at names n) c

unfoldable pub sum_in : ℕ → ℕ → List Name → Reader Formula
sum_in n p names = sum_formula names n (inside_at names n) p

unfoldable pub nested_in : ℕ → ℕ → List Name → Reader Formula
nested_in n p names = nested_of n (inside_at names n) p

-- a name of x bytes at p
unfoldable pub named_in : List ℕ → ℕ → ℕ → ℕ → List Name → Reader Formula
named_in s n p x names = known names (spelling s p x) p >>= (λ u. named_by n (inside_at names n) u.number p u.sort)

-- ---- what does not depend on the tree so far

-- at most k factors more
pub record Factors (s ns ts : List ℕ) (n k at : ℕ) (r : Result ℕ Refused) : Type 0 where
  pub moves : (f : Formula) → Moves (λ names. factors (primary_of names n (inside_at names n)) k f) s ns ts at r

-- at most k summands more
pub record Summands (s ns ts : List ℕ) (n k at : ℕ) (r : Result ℕ Refused) : Type 0 where
  pub moves : (f : Formula) → Moves (λ names. summands (term_of (primary_of names n (inside_at names n))) k f) s ns ts at r

-- the subscripts of a name whose domain has k indices, with and without the opening bracket
pub record Subscripts (s ns ts : List ℕ) (n k at : ℕ) (r : Result ℕ Refused) : Type 0 where
  pub moves : (d : Spans) → size d ≡ k → Moves (λ names. subscripts_of n (inside_at names n) d) s ns ts at r

pub record Entries (s ns ts : List ℕ) (n k at : ℕ) (r : Result ℕ Refused) : Type 0 where
  pub moves : (d : Spans) → size d ≡ k → Moves (λ names. formulas_of (inside_at names n) d) s ns ts at r
