-- Document 01, "Grammar": linear forms and sigmas.
use Rattle.std.specs.Prelude.{Bool, true, false, cond, ◌&&◌, List, ℕ, zero, suc, eqb, Option, Some, None}
use Rattle.rules.specs.declared.Refusal.TheVariants.{Misplaced, Full}
use Rattle.rules.specs.Limits.{token_limit}
use Rattle.lexer.specs.Marks.{minus_sign, times_sign, comma, closes, sigma_word}
use Rattle.lexer.specs.Text.{Kind}
use Rattle.lexer.specs.Text
use Rattle.language.specs.Syntax.{Spans, Name, Sort, Form, Term, also, factor, variable, sigma, Side, bare, form}
use Rattle.language.specs.Syntax
use Rattle.language.specs.Reader.{Reader, ◌>>=◌, give, refuse, next, look, is_mark, expect, Used, find}
use Rattle.language.specs.Formulas.{is_sum, read_sign, part_of, head_of, subscripts_of, primary_by, inside_at, formula_at}

-- what a token begins in a linear term
pub data Head : Type 0 where
  a_sigma : Head
  a_variable : ℕ → Spans → Head  -- its number and declared domain
  a_primary : Head

unfoldable pub head_by_sort : ℕ → Sort → Head
head_by_sort i Syntax.index = a_primary
head_by_sort i (Syntax.integer d) = a_primary
head_by_sort i (Syntax.real d) = a_primary
head_by_sort i (Syntax.formula f) = a_primary
head_by_sort i (Syntax.discrete d) = a_variable i d
head_by_sort i (Syntax.continuous d) = a_variable i d

unfoldable pub head_by_name : Option Used → Head
head_by_name None = a_primary
head_by_name (Some u) = head_by_sort u.number u.sort

-- sigmas are allowed or not: an `S` where none is allowed is no primary, so 3 at it (decision 17)
unfoldable pub head_by : List Name → Bool → Kind → Head
head_by names sigmas (Text.mark c) = cond (sigmas && eqb c sigma_word) a_sigma a_primary
head_by names sigmas (Text.name l) = head_by_name (find l names 0 0)
head_by names sigmas (Text.literal w v) = a_primary
head_by names sigmas (Text.string l) = a_primary
head_by names sigmas Text.end = a_primary
head_by names sigmas (Text.wrong r) = a_primary

-- Linear term: any number of primaries each followed by `*`, then a variable or a sigma. S reads a sigma behind its word at a
-- place, n is the nesting left
unfoldable pub linear_term : List Name → (ℕ → Reader Term) → Bool → ℕ → ℕ → Reader Term
linear_term names S sigmas n zero = refuse Full 0
linear_term names S sigmas n (suc k) = do
  t ← next
  elim (head_by names sigmas t.kind) [
    | a_sigma ↦ S t.place
    | a_variable i d ↦ do
      fs ← subscripts_of n (inside_at names n) d
      give (variable i d fs t.place)
    | a_primary ↦ do
      f ← primary_by names n (inside_at names n) t.place t.kind
      p ← expect times_sign
      r ← linear_term names S sigmas n k
      give (factor f p r)
  ]

-- the terms behind one, joined by `+` or `-`
unfoldable pub linear_terms : Reader Term → ℕ → Reader Form
linear_terms T zero = give Syntax.end
linear_terms T (suc k) = do
  t ← look
  elim (is_sum t) [
    | true ↦ do
      _ ← next
      u ← T
      f ← linear_terms T k
      give (also (is_mark minus_sign t) u f)
    | false ↦ give Syntax.end
  ]

-- a linear form, and whether a sign stands in front of it
pub record Linear : Type 0 where
  pub signed : Bool
  pub form : Form

-- Linear form: optional sign, then linear terms joined by `+` or `-`
unfoldable pub linear_of : Reader Term → Reader Linear
linear_of T = do
  s ← read_sign
  u ← T
  f ← linear_terms T token_limit
  give (record { signed = s.written; form = also s.negative u f })

-- no sigma stands where none is allowed
abbrev pub no_sigma : ℕ → Reader Term
no_sigma p = refuse Misplaced p

-- a linear form without sigma
unfoldable pub plain_form : List Name → ℕ → Reader Form
plain_form names n = do
  l ← linear_of (linear_term names no_sigma false n token_limit)
  give l.form

-- a sigma's body: another sigma, read by S, or a linear form without sigma (decision 17)
unfoldable pub body_of : List Name → (ℕ → Reader Term) → ℕ → Reader Form
body_of names S n = do
  t ← look
  elim (is_mark sigma_word t) [
    | true ↦ do
      _ ← next
      u ← S t.place
      give (also false u Syntax.end)
    | false ↦ plain_form names n
  ]

-- `S(index, lower, upper, body)`, whose word stands at p, with n brackets that may be opened
unfoldable pub sigma_at : List Name → ℕ → ℕ → Reader Term
sigma_at names zero p = do
  _ ← head_of names zero
  refuse Full 0
sigma_at names (suc n) p = do
  i ← head_of names (suc n)
  f ← part_of (formula_at names n) comma
  g ← part_of (formula_at names n) comma
  h ← body_of names (sigma_at names n) n
  _ ← expect closes
  give (sigma i.number f g h p)

unfoldable pub linear_at : List Name → ℕ → Reader Linear
linear_at names n = linear_of (linear_term names (sigma_at names n) true n token_limit)

-- A constraint whose left side is one variable, without sign or factor, is a bound (decision 29)
unfoldable pub side_of_term : Term → Form → Side
side_of_term (factor f p t) r = form (also false (factor f p t) r)
side_of_term (sigma i f g h p) r = form (also false (sigma i f g h p) r)
side_of_term (variable i d fs p) Syntax.end = bare i d fs p
side_of_term (variable i d fs p) (also m t r) = form (also false (variable i d fs p) (also m t r))

unfoldable pub side_of : Bool → Form → Side
side_of true f = form f
side_of false Syntax.end = form Syntax.end
side_of false (also true t r) = form (also true t r)
side_of false (also false t r) = side_of_term t r
