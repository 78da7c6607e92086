-- Document 01, "Grammar": declarations stand in the order of the six words, each at most once: word, comma-separated list, `;`.
-- A name is usable after its own list entry has ended. All six lists may be absent (decision 10).
use Rattle.std.specs.Prelude.{Bool, true, false, ◌&&◌, not, List, [], ◌∷◌, ◌++◌, ℕ, zero, suc, ◌-◌, eqb, ltb, length}
use Rattle.rules.specs.declared.Refusal.TheVariants.{Misplaced, BadName, Full}
use Rattle.rules.specs.Limits.{token_limit, nesting_limit, name_limit, index_limit}
use Rattle.lexer.specs.Marks.{comma, semicolon, equals, opens, closes, opens_list, closes_list, index_word, integer_word, real_word, formula_word, discrete_word, continuous_word}
use Rattle.language.specs.Syntax.{Spans, Name, Sort, point}
use Rattle.language.specs.Syntax
use Rattle.language.specs.Reader.{Reader, ◌>>=◌, give, refuse, next, look, is_mark, is_some, demand, require, expect, bracket, name_of, Titled, Used, find, read_known, read_index}
use Rattle.language.specs.Formulas.{formula_at, entry_of, span_of, in_domain}

-- a new name: 3 if there is none, 4 if it is declared again, 6 if it is the 65th (decision 13)
unfoldable pub new_name : List Name → Reader Titled
new_name names = do
  t ← next
  l ← demand (name_of t.kind) t.place
  _ ← require (not (is_some (find l names 0 0))) BadName t.place
  _ ← require (ltb (length names) name_limit) Full t.place
  give (record { title = l; place = t.place })

-- the indices of a list, at most n more behind this one; the list may repeat one (decisions 11, 12)
unfoldable pub indices_of : List Name → ℕ → Reader (List ℕ)
indices_of names zero = do
  i ← read_index names
  _ ← expect closes_list
  give (i.number ∷ [])
indices_of names (suc n) = do
  i ← read_index names
  t ← look
  elim (is_mark comma t) [
    | true ↦ do
      _ ← next
      l ← indices_of names n
      give (i.number ∷ l)
    | false ↦ do
      _ ← expect closes_list
      give (i.number ∷ [])
  ]

unfoldable pub is_in : ℕ → List ℕ → Bool
is_in i [] = false
is_in i (j ∷ l) = elim (eqb i j) [ true ↦ true | false ↦ is_in i l ]

-- the index that is due in a declared domain, and was not named in it before (decisions 11, 12)
unfoldable pub read_due : List Name → ℕ → List ℕ → Reader Used
read_due names i named = do
  u ← read_known names
  _ ← require (eqb u.number i && not (is_in i named)) Misplaced u.place
  give u

-- The domain names the same indices in the same order, none twice, else 3
unfoldable pub due_of : List Name → List ℕ → List ℕ → Reader Spans
due_of names [] named = give point
due_of names (i ∷ []) named = do
  e ← entry_of (in_domain names) (read_due names i named)
  _ ← expect closes
  give (span_of e point)
due_of names (i ∷ j ∷ l) named = do
  e ← entry_of (in_domain names) (read_due names i named)
  _ ← expect comma
  d ← due_of names (j ∷ l) (i ∷ named)
  give (span_of e d)

-- a name, or name `[` one to four indices `]` domain
unfoldable pub subscripted : List Name → Reader Spans
subscripted names = do
  t ← look
  elim (is_mark opens_list t) [
    | true ↦ do
      _ ← bracket opens_list nesting_limit
      l ← indices_of names (index_limit - 1)
      _ ← bracket opens nesting_limit
      due_of names l []
    | false ↦ give point
  ]

-- what stands behind the name in an entry of each word's list
unfoldable pub index_entry : List Name → Reader Sort
index_entry names = give Syntax.index

unfoldable pub formula_entry : List Name → Reader Sort
formula_entry names = do
  _ ← expect equals
  f ← formula_at names nesting_limit
  give (Syntax.formula f)

unfoldable pub domain_entry : (Spans → Sort) → List Name → Reader Sort
domain_entry sort names = do
  d ← subscripted names
  give (sort d)

-- the list's entries, each ended by `,` or by the list's `;`; inside its own entry a name is unknown (decision 13)
unfoldable pub entries_from : (List Name → Reader Sort) → ℕ → List Name → Reader (List Name)
entries_from E zero names = refuse Full 0
entries_from E (suc n) names = do
  x ← new_name names
  s ← E names
  t ← next
  let all = names ++ (record { spelling = x.title; place = x.place; sort = s } ∷ [])
  elim (is_mark comma t) [
    | true ↦ entries_from E n all
    | false ↦ do
      _ ← require (is_mark semicolon t) Misplaced t.place
      give all
  ]

-- one of the six lists, if its word stands here
unfoldable pub list_of : ℕ → (List Name → Reader Sort) → List Name → Reader (List Name)
list_of word E names = do
  t ← look
  elim (is_mark word t) [
    | true ↦ do
      _ ← next
      entries_from E token_limit names
    | false ↦ give names
  ]

unfoldable pub declarations : Reader (List Name)
declarations = do
  a ← list_of index_word index_entry []
  b ← list_of integer_word (domain_entry Syntax.integer) a
  c ← list_of real_word (domain_entry Syntax.real) b
  d ← list_of formula_word formula_entry c
  e ← list_of discrete_word (domain_entry Syntax.discrete) d
  list_of continuous_word (domain_entry Syntax.continuous) e
