-- Readers: what is read from the tokens that are left, and the tokens then left. A token passes its own tests before anything
-- is asked of it (document 01, "Order").
use Rattle.std.specs.Prelude.{Bool, true, false, List, [], ◌∷◌, ℕ, zero, suc, eqb, Option, Some, None}
use Rattle.rules.specs.declared.Refusal.{Refusal}
use Rattle.rules.specs.declared.Refusal.TheVariants.{Misplaced, BadName, Full}
use Rattle.language.specs.Outcome.{Outcome, done, refused}
use Rattle.lexer.specs.Text.{Token, Kind, mark, name, literal, string, end, wrong, same_bytes}
use Rattle.language.specs.Syntax.{Name, Sort}
use Rattle.language.specs.Syntax

pub record Read (A : Type 0) : Type 0 where
  pub what : A
  pub rest : List Token

abbrev pub Reader : Type 0 → Type 0
Reader A = List Token → Outcome (Read A)

module _ {A B : Type 0} where
  abbrev pub follow : Outcome (Read A) → (A → Reader B) → Outcome (Read B)
  follow (done r) f = f r.what r.rest
  follow (refused n p) f = refused n p

  infixl 1 ◌>>=◌
  abbrev pub ◌>>=◌ : Reader A → (A → Reader B) → Reader B
  ◌>>=◌ m f = λ ts. follow (m ts) f

module _ {A : Type 0} where
  abbrev pub give : A → Reader A
  give a = λ ts. done (record { what = a; rest = ts })

  abbrev pub refuse : Refusal → ℕ → Reader A
  refuse n p = λ ts. refused n p

  -- an evaluation between two tokens
  abbrev pub as_read : Outcome A → List Token → Outcome (Read A)
  as_read (done a) ts = done (record { what = a; rest = ts })
  as_read (refused n p) ts = refused n p

  abbrev pub lift : Outcome A → Reader A
  lift o = λ ts. as_read o ts

-- ---- one token

unfoldable pub passed : Kind → Token → List Token → Outcome (Read Token)
passed (mark c) t ts = done (record { what = t; rest = ts })
passed (name l) t ts = done (record { what = t; rest = ts })
passed (literal w v) t ts = done (record { what = t; rest = ts })
passed (string l) t ts = done (record { what = t; rest = ts })
passed end t ts = done (record { what = t; rest = ts })
passed (wrong r) t ts = refused r t.place

-- the next token, after its own tests (decision 5); a token list always ends with `end` or a refusal (decision 9)
unfoldable pub next : Reader Token
next [] = refused Misplaced 0
next (t ∷ ts) = passed t.kind t ts

-- the same, and it stays
unfoldable pub look : Reader Token
look [] = refused Misplaced 0
look (t ∷ ts) = passed t.kind t (t ∷ ts)

-- the number of a sign or word; other kinds have 0, which is none's
unfoldable pub mark_of : Kind → ℕ
mark_of (mark c) = c
mark_of (name l) = 0
mark_of (literal w v) = 0
mark_of (string l) = 0
mark_of end = 0
mark_of (wrong r) = 0

unfoldable pub name_of : Kind → Option (List ℕ)
name_of (mark c) = None
name_of (name l) = Some l
name_of (literal w v) = None
name_of (string l) = None
name_of end = None
name_of (wrong r) = None

unfoldable pub string_of : Kind → Option (List ℕ)
string_of (mark c) = None
string_of (name l) = None
string_of (literal w v) = None
string_of (string l) = Some l
string_of end = None
string_of (wrong r) = None

abbrev pub is_mark : ℕ → Token → Bool
is_mark c t = eqb (mark_of t.kind) c

abbrev pub is_some : {A : Type 0} → Option A → Bool
is_some None = false
is_some (Some a) = true

abbrev pub is_string : Token → Bool
is_string t = is_some (string_of t.kind)

abbrev pub is_name : Token → Bool
is_name t = is_some (name_of t.kind)

-- a kind that may stand there, or 3
unfoldable pub demand : {A : Type 0} → Option A → ℕ → Reader A
demand (Some a) p = give a
demand None p = refuse Misplaced p

unfoldable pub require : Bool → Refusal → ℕ → Reader (Unit {0})
require true n p = give tt
require false n p = refuse n p

-- the sign or word c, or 3; its place
unfoldable pub expect : ℕ → Reader ℕ
expect c = do
  t ← next
  _ ← require (is_mark c t) Misplaced t.place
  give t.place

-- an opening bracket, with n more allowed: the thirteenth is 6 at it, after its placement (decision 16)
unfoldable pub bracket : ℕ → ℕ → Reader ℕ
bracket c zero = do
  p ← expect c
  refuse Full p
bracket c (suc n) = expect c

-- a string and its place
pub record Titled : Type 0 where
  pub title : List ℕ
  pub place : ℕ

unfoldable pub read_string : Reader Titled
read_string = do
  t ← next
  l ← demand (string_of t.kind) t.place
  give (record { title = l; place = t.place })

-- ---- names

-- a name in the table: its number, what was declared of it, and the place where it is used
pub record Used : Type 0 where
  pub number : ℕ
  pub sort : Sort
  pub place : ℕ

unfoldable pub find : List ℕ → List Name → ℕ → ℕ → Option Used
find l [] i p = None
find l (x ∷ xs) i p = elim (same_bytes l x.spelling) [ true ↦ Some (record { number = i; sort = x.sort; place = p }) | false ↦ find l xs (suc i) p ]

unfoldable pub found : Option Used → ℕ → Reader Used
found (Some u) p = give u
found None p = refuse BadName p

-- the spelling at place p as a declared name, or 4
unfoldable pub known : List Name → List ℕ → ℕ → Reader Used
known names l p = found (find l names 0 p) p

-- a name (else 3) that is declared (else 4); of a wrong sort it is 3 where it is used (decision 6)
unfoldable pub read_known : List Name → Reader Used
read_known names = do
  t ← next
  l ← demand (name_of t.kind) t.place
  known names l t.place

unfoldable pub is_index : Sort → Bool
is_index Syntax.index = true
is_index (Syntax.integer d) = false
is_index (Syntax.real d) = false
is_index (Syntax.formula f) = false
is_index (Syntax.discrete d) = false
is_index (Syntax.continuous d) = false

-- an index, or 3 for another kind of name
unfoldable pub read_index : List Name → Reader Used
read_index names = do
  u ← read_known names
  _ ← require (is_index u.sort) Misplaced u.place
  give u
