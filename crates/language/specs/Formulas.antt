-- Document 01, "Grammar": formulas and domains. Each reader takes the reader below it as an argument; the nesting ties them.
-- A loop has as many turns as a text may have tokens, which it never takes (proofs/Turns).
use Rattle.std.specs.Prelude.{Bool, true, false, cond, ◌||◌, List, ℕ, zero, suc, ◌-◌, eqb}
use Rattle.rules.specs.declared.Refusal.TheVariants.{Misplaced, Full}
use Rattle.rules.specs.Limits.{token_limit, nesting_limit, index_limit}
use Rattle.lexer.specs.Marks.{plus_sign, minus_sign, times_sign, comma, at_most, opens, closes, opens_list, closes_list, sum_word}
use Rattle.lexer.specs.Text.{Token, Kind}
use Rattle.lexer.specs.Text
use Rattle.language.specs.Syntax.{Formula, Formulas, Spans, Name, Sort, more, point, span, datum, times, plus, minus, sum}
use Rattle.language.specs.Syntax
use Rattle.language.specs.Reader.{Reader, ◌>>=◌, give, refuse, next, look, is_mark, expect, bracket, Used, known, read_index}

-- ---- formulas

-- primaries joined by `*`
unfoldable pub factors : Reader Formula → ℕ → Formula → Reader Formula
factors P zero f = give f
factors P (suc n) f = do
  t ← look
  elim (is_mark times_sign t) [
    | true ↦ do
      p ← expect times_sign
      g ← P
      factors P n (times f g p)
    | false ↦ give f
  ]

-- Term: primaries joined by `*`
unfoldable pub term_of : Reader Formula → Reader Formula
term_of P = do
  f ← P
  factors P token_limit f

abbrev pub is_sum : Token → Bool
is_sum t = is_mark plus_sign t || is_mark minus_sign t

abbrev pub negated : Bool → Formula → Formula
negated true f = minus f
negated false f = f

-- terms joined by `+` or `-`
unfoldable pub summands : Reader Formula → ℕ → Formula → Reader Formula
summands T zero f = give f
summands T (suc n) f = do
  t ← look
  elim (is_sum t) [
    | true ↦ do
      _ ← next
      g ← T
      summands T n (plus f (negated (is_mark minus_sign t) g) t.place)
    | false ↦ give f
  ]

-- an optional sign: whether one stands there, and whether it is `-`
pub record Signed : Type 0 where
  pub written : Bool
  pub negative : Bool

unfoldable pub read_sign : Reader Signed
read_sign = do
  t ← look
  elim (is_sum t) [
    | true ↦ do
      _ ← next
      give (record { written = true; negative = is_mark minus_sign t })
    | false ↦ give (record { written = false; negative = false })
  ]

-- Formula: optional sign, then terms joined by `+` or `-`; the sign belongs to the first term (decision 18)
unfoldable pub formula_of : Reader Formula → Reader Formula
formula_of T = do
  s ← read_sign
  f ← T
  summands T token_limit (negated s.negative f)

-- a formula and the sign c after it
unfoldable pub part_of : Reader Formula → ℕ → Reader Formula
part_of F c = do
  f ← F
  _ ← expect c
  give f

-- `(`, an index and a comma, after `SUM` or `S`; n is the nesting left
unfoldable pub head_of : List Name → ℕ → Reader Used
head_of names n = do
  _ ← bracket opens n
  i ← read_index names
  _ ← expect comma
  give i

-- `SUM(index, lower, upper, formula)`, whose word stands at p
unfoldable pub sum_formula : List Name → ℕ → Reader Formula → ℕ → Reader Formula
sum_formula names n F p = do
  i ← head_of names n
  f ← part_of F comma
  g ← part_of F comma
  h ← part_of F closes
  give (sum i.number f g h p)

-- as many formulas as the domain has indices
unfoldable pub formulas_of : Reader Formula → Spans → Reader Formulas
formulas_of F point = give Syntax.none
formulas_of F (span i lower upper p point) = do
  f ← part_of F closes_list
  give (more f Syntax.none)
formulas_of F (span i lower upper p (span j lower' upper' q d)) = do
  f ← part_of F comma
  fs ← formulas_of F (span j lower' upper' q d)
  give (more f fs)

-- names with a domain carry `[` as many formulas `]`
unfoldable pub subscripts_of : ℕ → Reader Formula → Spans → Reader Formulas
subscripts_of n F point = give Syntax.none
subscripts_of n F (span i lower upper p d) = do
  _ ← bracket opens_list n
  formulas_of F (span i lower upper p d)

-- a primary that is a name: an index, an integer, a real, a declared formula, whose tree stands there (decision 24); else 3
unfoldable pub named_by : ℕ → Reader Formula → ℕ → ℕ → Sort → Reader Formula
named_by n F i p Syntax.index = give (Syntax.index i p)
named_by n F i p (Syntax.integer d) = do
  fs ← subscripts_of n F d
  give (datum i d fs p)
named_by n F i p (Syntax.real d) = do
  fs ← subscripts_of n F d
  give (datum i d fs p)
named_by n F i p (Syntax.formula f) = give f
named_by n F i p (Syntax.discrete d) = refuse Misplaced p
named_by n F i p (Syntax.continuous d) = refuse Misplaced p

-- `(` formula `)`, the bracket read already; the thirteenth open one is 6 at it (decision 16)
unfoldable pub nested_of : ℕ → Reader Formula → ℕ → Reader Formula
nested_of zero F p = refuse Full p
nested_of (suc n) F p = part_of F closes

-- the primary that a token at p begins; n is the nesting left, F reads inside one more bracket
unfoldable pub primary_by : List Name → ℕ → Reader Formula → ℕ → Kind → Reader Formula
primary_by names n F p (Text.mark c) =
    cond (eqb c sum_word) (sum_formula names n F p)
    (cond (eqb c opens) (nested_of n F p)
    (refuse Misplaced p))
primary_by names n F p (Text.name l) = do
  u ← known names l p
  named_by n F u.number p u.sort
primary_by names n F p (Text.literal w v) = give (Syntax.literal v)
primary_by names n F p (Text.string l) = refuse Misplaced p
primary_by names n F p Text.end = refuse Misplaced p
primary_by names n F p (Text.wrong r) = refuse r p

unfoldable pub primary_of : List Name → ℕ → Reader Formula → Reader Formula
primary_of names n F = do
  t ← next
  primary_by names n F t.place t.kind

-- a formula inside one of n brackets that may be opened; with none it is never read
unfoldable pub inside_at : List Name → ℕ → Reader Formula
inside_at names zero = refuse Full 0
inside_at names (suc n) = formula_of (term_of (primary_of names n (inside_at names n)))

-- a formula that may open n brackets, one in the other
unfoldable pub formula_at : List Name → ℕ → Reader Formula
formula_at names n = inside_at names (suc n)

-- ---- domains: `(` one to four, comma-separated, of lower formula `<=` index `<=` upper formula `)`

pub record Entry : Type 0 where
  pub number : ℕ
  pub lower : Formula
  pub upper : Formula
  pub place : ℕ

-- one entry, its index read by I; F reads a formula in the domain's bracket
unfoldable pub entry_of : Reader Formula → Reader Used → Reader Entry
entry_of F I = do
  f ← part_of F at_most
  i ← I
  _ ← expect at_most
  g ← F
  give (record { number = i.number; lower = f; upper = g; place = i.place })

abbrev pub span_of : Entry → Spans → Spans
span_of e d = span e.number e.lower e.upper e.place d

-- at most n entries more behind this one; the fifth is 3 at the `,` (decision 12)
unfoldable pub entries_of : Reader Formula → Reader Used → ℕ → Reader Spans
entries_of F I zero = do
  e ← entry_of F I
  _ ← expect closes
  give (span_of e point)
entries_of F I (suc n) = do
  e ← entry_of F I
  t ← look
  elim (is_mark comma t) [
    | true ↦ do
      _ ← next
      d ← entries_of F I n
      give (span_of e d)
    | false ↦ do
      _ ← expect closes
      give (span_of e point)
  ]

-- the formulas of a domain stand in one bracket
abbrev pub in_domain : List Name → Reader Formula
in_domain names = inside_at names nesting_limit

-- a constraint's domain: one to four indices, in any order and even twice (decision 14)
unfoldable pub domain_of : List Name → Reader Spans
domain_of names = do
  _ ← bracket opens nesting_limit
  entries_of (in_domain names) (read_index names) (index_limit - 1)

unfoldable pub optional_domain : List Name → Reader Spans
optional_domain names = do
  t ← look
  elim (is_mark opens t) [ true ↦ domain_of names | false ↦ give point ]
