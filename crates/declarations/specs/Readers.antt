-- The readers of declarations, each a function of the names.
use Rattle.std.specs.Prelude.{Bool, true, false, ◌&&◌, not, List, [], ◌∷◌, ℕ, zero, suc, ◌-◌, ◌+◌, eqb, get_or}
use Rattle.rules.specs.declared.Refusal.TheVariants.{Misplaced}
use Rattle.rules.specs.Limits.{nesting_limit, index_limit}
use Rattle.lexer.specs.Marks.{comma, opens, opens_list, closes_list, semicolon, index_word}
use Rattle.language.specs.Syntax.{Name, Sort, Spans}
use Rattle.language.specs.Syntax
use Rattle.language.specs.Reader.{Reader, give, require, next, look, is_mark, expect, bracket, Used, read_known, Titled, ◌>>=◌}
use Rattle.language.specs.Declarations.{due_of, indices_of, subscripted, index_entry, formula_entry, domain_entry, new_name, entries_from, list_of}

-- the first k numbers of a list, the last one first
unfoldable pub shown : List ℕ → ℕ → List ℕ
shown l zero = []
shown l (suc k) = get_or l k 0 ∷ shown l k

-- the index i that is due, where `taken` says whether it was named before
unfoldable pub due_with : ℕ → Bool → List Name → Reader Used
due_with i taken names = do
  u ← read_known names
  _ ← require (eqb u.number i && not taken) Misplaced u.place
  give u

-- a declared domain with the indices l
unfoldable pub due_in : List ℕ → List Name → Reader Spans
due_in l names = due_of names l []

-- behind an index of a list: `,` where n more are allowed, or `]`; whether the list goes on
unfoldable pub joint_in : ℕ → List Name → Reader Bool
joint_in zero names = do
  _ ← expect closes_list
  give false
joint_in (suc n) names = do
  t ← look
  elim (is_mark comma t) [
    | true ↦ do
      _ ← next
      give true
    | false ↦ do
      _ ← expect closes_list
      give false
  ]

unfoldable pub indices_in : List Name → Reader (List ℕ)
indices_in names = indices_of names (index_limit - 1)

-- `[` indices `]` and their domain
unfoldable pub domain_in : List Name → Reader Spans
domain_in names = do
  _ ← bracket opens_list nesting_limit
  l ← indices_in names
  _ ← bracket opens nesting_limit
  due_in l names

unfoldable pub subscripted_in : List Name → Reader Spans
subscripted_in names = subscripted names

-- what stands behind a declared name of sort k
unfoldable pub entry_in : ℕ → List Name → Reader Sort
entry_in zero = index_entry
entry_in (suc zero) = domain_entry Syntax.integer
entry_in (suc (suc zero)) = domain_entry Syntax.real
entry_in (suc (suc (suc zero))) = formula_entry
entry_in (suc (suc (suc (suc zero)))) = domain_entry Syntax.discrete
entry_in (suc (suc (suc (suc (suc k))))) = domain_entry Syntax.continuous

unfoldable pub new_name_in : List Name → Reader Titled
new_name_in names = new_name names

-- the `,` or `;` behind an entry; whether the list goes on
unfoldable pub separator_in : List Name → Reader Bool
separator_in names = do
  t ← next
  elim (is_mark comma t) [
    | true ↦ give true
    | false ↦ do
      _ ← require (is_mark semicolon t) Misplaced t.place
      give false
  ]

-- a declared name, and whether its list goes on
pub record One : Type 0 where
  pub name : Name
  pub more : Bool

-- one entry of a list of sort k, with the sign that ends it
unfoldable pub row_in : ℕ → List Name → Reader One
row_in k names = do
  x ← new_name names
  y ← entry_in k names
  b ← separator_in names
  give (record { name = record { spelling = x.title; place = x.place; sort = y }; more = b })

-- at most n entries of sort k
unfoldable pub entries_in : ℕ → ℕ → List Name → Reader (List Name)
entries_in k n names = entries_from (entry_in k) n names

-- the list of sort k, if its word stands there; the words have the numbers from 140 on
unfoldable pub list_in : ℕ → List Name → Reader (List Name)
list_in k names = list_of (index_word + k) (entry_in k) names

-- n lists, from that of sort k on
unfoldable pub lists_in : ℕ → ℕ → List Name → Reader (List Name)
lists_in zero k names = give names
lists_in (suc n) k names = do
  all ← list_in k names
  lists_in n (suc k) all
