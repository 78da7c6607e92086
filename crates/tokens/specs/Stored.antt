-- The token table and the name table as the definition's tokens and names, and what it means that code moves a position as a
-- reader of the definition does.
use Rattle.std.specs.Prelude.{Err, None, Ok, Option, Result, Some, ◌≡◌, true, false, cond, List, [], ◌∷◌, ◌++◌, ℕ, zero, suc, ◌+◌, ◌*◌, ◌/◌, ◌%◌, eqb, ltb, pos, length, take, drop, get_or}
use Rattle.rules.specs.declared.Refused.{Refused}
use Rattle.rules.specs.declared.Refusal.{Refusal}
use Rattle.rules.specs.declared.Refusal.TheVariants.{LongText, StrangeByte, Misplaced, BadName, Unfit, Full}
use Rattle.lexer.specs.Text.{Token, Kind, same_bytes}
use Rattle.lexer.specs.Text
use Rattle.language.specs.Outcome.{Outcome, done, refused}
use Rattle.language.specs.Syntax.{Name, Sort, Spans, point, span}
use Rattle.language.specs.Syntax
use Rattle.language.specs.Reader.{Reader, Read, Used, look, next, read_known}
use Rattle.tokens.specs.declared.Sort.{Sort as CodeSort}
use Rattle.tokens.specs.declared.Sort.TheVariants.{Index, Integer, Real, Formula, Discrete, Continuous}
use Rattle.tokens.specs.declared.Seen.{Seen}
use Rattle.tokens.specs.declared.Found.{Found}
use Rattle.tokens.specs.declared.Known.{Known}

-- ---- tokens: one word each, of kind, place (below 2^15) and payload (below 2^33)

abbrev pub word_of : ℕ → ℕ → ℕ → ℕ
word_of k p x = k * 281474976710656 + p * 8589934592 + x

abbrev pub kind_part : ℕ → ℕ
kind_part w = w / 281474976710656

abbrev pub place_part : ℕ → ℕ
place_part w = w / 8589934592 % 32768

abbrev pub payload_part : ℕ → ℕ
payload_part w = w % 8589934592

-- the number of a name's bytes stands in the payload's lowest four bits
abbrev pub name_bytes : ℕ → ℕ
name_bytes x = x % 16

-- n bytes of the text s, from the i-th behind p on
unfoldable pub bytes_from : List ℕ → ℕ → ℕ → ℕ → List ℕ
bytes_from s p i zero = []
bytes_from s p i (suc n) = get_or s (p + i) 0 ∷ bytes_from s p (suc i) n

-- a name is the bytes at its place
unfoldable pub spelling : List ℕ → ℕ → ℕ → List ℕ
spelling s p n = bytes_from s p 0 n

-- a token's own refusal, by its number; other numbers are 3
unfoldable pub refusal_of : ℕ → Refusal
refusal_of zero = Misplaced
refusal_of (suc zero) = LongText
refusal_of (suc (suc zero)) = StrangeByte
refusal_of (suc (suc (suc zero))) = Misplaced
refusal_of (suc (suc (suc (suc zero)))) = BadName
refusal_of (suc (suc (suc (suc (suc zero))))) = Unfit
refusal_of (suc (suc (suc (suc (suc (suc zero)))))) = Full
refusal_of (suc (suc (suc (suc (suc (suc (suc n))))))) = Misplaced

-- 0 the end, 1 a name (payload: its length in the lowest four bits), 2 and 3 a literal without and with a point (its value,
-- 8 m + s), 4 a string (its length), 5 a refusal (its number), from 6 on a sign or word
unfoldable pub kind_of : List ℕ → ℕ → ℕ → ℕ → Kind
kind_of s zero p x = Text.end
kind_of s (suc zero) p x = Text.name (spelling s p (name_bytes x))
kind_of s (suc (suc zero)) p x = Text.literal true (record { m = pos (x / 8); s = x % 8 })
kind_of s (suc (suc (suc zero))) p x = Text.literal false (record { m = pos (x / 8); s = x % 8 })
kind_of s (suc (suc (suc (suc zero)))) p x = Text.string (spelling s (p + 1) x)
kind_of s (suc (suc (suc (suc (suc zero))))) p x = Text.wrong (refusal_of x)
kind_of s (suc (suc (suc (suc (suc (suc k)))))) p x = Text.mark (suc (suc (suc (suc (suc (suc k))))))

-- the token of kind k with the place p and the payload x
unfoldable pub token : List ℕ → ℕ → ℕ → ℕ → Token
token s k p x = record { kind = kind_of s k p x; place = p }

-- the tokens that a table holds, with the text that they were read from
unfoldable pub view : List ℕ → List ℕ → List Token
view s [] = []
view s (w ∷ ts) = token s (kind_part w) (place_part w) (payload_part w) ∷ view s ts

-- the tokens from the position `at` on
unfoldable pub from : List ℕ → List ℕ → ℕ → List Token
from s ts at = view s (drop at ts)

-- the number of a sign or word; other kinds have 0
unfoldable pub mark_number : ℕ → ℕ
mark_number zero = 0
mark_number (suc zero) = 0
mark_number (suc (suc zero)) = 0
mark_number (suc (suc (suc zero))) = 0
mark_number (suc (suc (suc (suc zero)))) = 0
mark_number (suc (suc (suc (suc (suc zero))))) = 0
mark_number (suc (suc (suc (suc (suc (suc k)))))) = suc (suc (suc (suc (suc (suc k)))))

-- ---- what code sees at a position

pub record Unread (l : List Token) (r : Refusal) (p : ℕ) : Type 0 where
  pub looks : look l ≡ refused r p
  pub nexts : next l ≡ refused r p

abbrev pub Sees : List ℕ → List ℕ → ℕ → Result Seen Refused → Type 0
Sees s ts at (Ok t) = (t.kind ≡ 5 → ⊥) × (from s ts at ≡ token s t.kind t.place t.payload ∷ from s ts t.next)
Sees s ts at (Err e) = Unread (from s ts at) e.refusal e.place

-- for every text
pub record Looks (ts : List ℕ) (at : ℕ) (r : Result Seen Refused) : Type 0 where
  pub sees : (s : List ℕ) → Sees s ts at r

-- ---- names: five words each, place, length, sort, number of indices, and the position of what was declared

-- the i-th name and those behind it: the first one that is spelled l
unfoldable pub look_up : List ℕ → List ℕ → List ℕ → ℕ → Option Found
look_up s l [] i = None
look_up s l (p ∷ []) i = None
look_up s l (p ∷ n ∷ []) i = None
look_up s l (p ∷ n ∷ k ∷ []) i = None
look_up s l (p ∷ n ∷ k ∷ c ∷ []) i = None
look_up s l (p ∷ n ∷ k ∷ c ∷ q ∷ ns) i = elim (same_bytes l (spelling s p n)) [ true ↦ Some (record { number = i; sort = k; count = c }) | false ↦ look_up s l ns (suc i) ]

unfoldable pub size : Spans → ℕ
size point = 0
size (span i f g p d) = suc (size d)

-- the numbers of the code's sorts
abbrev pub sort_number : CodeSort → ℕ
sort_number Index = 0
sort_number Integer = 1
sort_number Real = 2
sort_number Formula = 3
sort_number Discrete = 4
sort_number Continuous = 5

-- 0 an index, 1 an integer, 2 a real, 3 a formula, 4 a discrete, 5 a continuous variable
abbrev pub Shaped : Sort → ℕ → ℕ → Type 0
Shaped Syntax.index k c = k ≡ 0
Shaped (Syntax.integer d) k c = (k ≡ 1) × (size d ≡ c)
Shaped (Syntax.real d) k c = (k ≡ 2) × (size d ≡ c)
Shaped (Syntax.formula f) k c = k ≡ 3
Shaped (Syntax.discrete d) k c = (k ≡ 4) × (size d ≡ c)
Shaped (Syntax.continuous d) k c = (k ≡ 5) × (size d ≡ c)

-- the table tells of each name its spelling, its sort and how many indices its domain has
abbrev pub Named : List ℕ → List ℕ → List Name → Type 0
Named s [] [] = Unit {0}
Named s [] (y ∷ ys) = ⊥
Named s (p ∷ []) ys = ⊥
Named s (p ∷ n ∷ []) ys = ⊥
Named s (p ∷ n ∷ k ∷ []) ys = ⊥
Named s (p ∷ n ∷ k ∷ c ∷ []) ys = ⊥
Named s (p ∷ n ∷ k ∷ c ∷ q ∷ ns) [] = ⊥
Named s (p ∷ n ∷ k ∷ c ∷ q ∷ ns) (y ∷ ys) = (y.spelling ≡ spelling s p n) × Shaped y.sort k c × Named s ns ys

-- the first n rows of a table
abbrev pub rows_of : ℕ → List ℕ → List ℕ
rows_of n t = take (n * 5) t

-- row n is written, where the table has room for it, and what stands behind it stays
pub record Put (t : List ℕ) (n : ℕ) (row t' : List ℕ) : Type 0 where
  pub size : length t' ≡ length t
  pub rows : rows_of (n + 1) t' ≡ cond (ltb n (length t / 5)) (rows_of n t ++ row) (rows_of (n + 1) t)
  pub rest : drop ((n + 1) * 5) t' ≡ drop ((n + 1) * 5) t

-- ---- what stands at a position

-- the reader m reads x there
pub record Stands {A : Type 0} (m : Reader A) (s ts : List ℕ) (at : ℕ) (x : A) : Type 0 where
  pub rest : List Token
  pub reads : m (from s ts at) ≡ done (record { what = x; rest = rest })

abbrev pub Knowing : Outcome (Read Used) → List ℕ → List ℕ → Result Known Refused → Type 0
Knowing (done x) s ts (Ok w) = (x.rest ≡ from s ts w.next) × (x.what.number ≡ w.number) × Shaped x.what.sort w.sort w.count × (x.what.place ≡ w.place)
Knowing (done x) s ts (Err e) = ⊥
Knowing (refused r q) s ts (Ok x) = ⊥
Knowing (refused r q) s ts (Err e) = (r ≡ e.refusal) × (q ≡ e.place)

abbrev pub known_found : ℕ → ℕ → Option Found → Result Known Refused
known_found p a (Some x) = Ok (record { number = x.number; sort = x.sort; count = x.count; place = p; next = a })
known_found p a None = Err (record { refusal = BadName; place = p })

-- what the table says of a token: 3 where it is no name, 4 where the name is unknown
unfoldable pub known_by : List ℕ → List ℕ → Result Seen Refused → Result Known Refused
known_by s ns (Ok t) = cond (eqb t.kind 1) (known_found t.place t.next (look_up s (spelling s t.place (name_bytes t.payload)) ns 0)) (Err (record { refusal = Misplaced; place = t.place }))
known_by s ns (Err e) = Err e

pub record KnownAt (s ns ts : List ℕ) (at : ℕ) (r : Result Known Refused) : Type 0 where
  pub token : Result Seen Refused
  pub looks : Looks ts at token
  pub answer : r ≡ known_by s ns token

-- a declared name stands there, for all names that the table tells of
pub record Knows (s ns ts : List ℕ) (at : ℕ) (r : Result Known Refused) : Type 0 where
  pub knows : (names : List Name) → Named s ns names → Knowing (read_known names (from s ts at)) s ts r

-- ---- moves

-- the same refusal, or what is left stands from the position on
abbrev pub Matches : {A : Type 0} → Outcome (Read A) → List ℕ → List ℕ → Result ℕ Refused → Type 0
Matches (done x) s ts (Ok a) = x.rest ≡ from s ts a
Matches (done x) s ts (Err e) = ⊥
Matches (refused r q) s ts (Ok a) = ⊥
Matches (refused r q) s ts (Err e) = (r ≡ e.refusal) × (q ≡ e.place)

-- for all names that the table tells of: their trees do not matter
pub record Moves {A : Type 0} (m : List Name → Reader A) (s ns ts : List ℕ) (at : ℕ) (r : Result ℕ Refused) : Type 0 where
  pub matches : (names : List Name) → Named s ns names → Matches (m names (from s ts at)) s ts r

-- the same, and what code tells of what was read
pub record Gives {A : Type 0} (m : List Name → Reader A) (Q : List Name → A → Type 0) (s ns ts : List ℕ) (at : ℕ) (r : Result ℕ Refused) : Type 0 where
  pub moves : Moves m s ns ts at r
  pub tells : (names : List Name) → Named s ns names → (x : Read A) → m names (from s ts at) ≡ done x → Q names x.what
