-- A table is a list of rows: a key, and a word that belongs to it. Its first n rows count, in rising order of their keys.
use Rattle.std.specs.Prelude.{◌≡◌, Bool, true, false, cond, List, ℕ, zero, suc, ◌+◌, ◌-◌, ◌/◌, ◌<◌, ◌≤◌, length, get_or, set, eqb, ltb, leb, Option, Some, None, Result, Ok, Err}
use Rattle.std.specs.Result.{result_ok}
use Rattle.store.specs.declared.Key.{Key}
use Rattle.store.specs.declared.Row.{Row}
use Rattle.store.specs.declared.InsertError.{InsertError}
use Rattle.store.specs.declared.InsertError.TheVariants.{Present, NoRoom}
use Rattle.store.specs.Key.{key_number}

abbrev pub Table : Type 0
Table = List Row

-- what row i is where a table has none
abbrev pub no_row : Row
no_row = record { key = record { high = 0; middle = 0; low = 0 }; word = 0 }

unfoldable pub nth_row : Table → ℕ → Row
nth_row t i = get_or t i no_row

unfoldable pub key_at : Table → ℕ → ℕ
key_at t i = key_number (nth_row t i).key

unfoldable pub word_at : Table → ℕ → ℕ
word_at t i = (nth_row t i).word

-- row n lies in the table
unfoldable pub has_room : Table → ℕ → Bool
has_room t n = ltb n (length t)

pub record Sorted (t : Table) (n : ℕ) : Type 0 where
  pub rising : (p q : ℕ) → p < q → q < n → key_at t p < key_at t q

-- ---- looking up

-- of n rows from row i on, the first whose key is k
unfoldable pub row_from : Table → ℕ → ℕ → ℕ → Option ℕ
row_from t k i zero = None
row_from t k i (suc n) = cond (eqb (key_at t i) k) (Some i) (row_from t k (i + 1) n)

unfoldable pub row_of : Table → ℕ → ℕ → Option ℕ
row_of t n k = row_from t k 0 n

unfoldable pub word_in : Table → Option ℕ → Option ℕ
word_in t (Some i) = Some (word_at t i)
word_in t None = None

-- the word that belongs to a key
unfoldable pub lookup : Table → ℕ → ℕ → Option ℕ
lookup t n k = word_in t (row_of t n k)

-- ---- by halving

abbrev pub halfway : ℕ → ℕ → ℕ
halfway a b = a + (b - a) / 2

-- the rows from a on and before b, halved up to f times: the upper half where the key halfway is below k, else the lower half
unfoldable pub rank_in : Table → ℕ → ℕ → ℕ → ℕ → ℕ
rank_in t k zero a b = a
rank_in t k (suc f) a b = cond (ltb a b) (cond (ltb (key_at t (halfway a b)) k) (rank_in t k f (halfway a b + 1) b) (rank_in t k f a (halfway a b))) a

-- where halving n rows ends: in a sorted table, how many are below k
unfoldable pub rank_of : Table → ℕ → ℕ → ℕ
rank_of t n k = rank_in t k n 0 n

unfoldable pub place_at : Table → ℕ → ℕ → ℕ → Result ℕ ℕ
place_at t n k at = cond (leb n at) (Err at) (cond (eqb (key_at t at) k) (Ok at) (Err at))

-- the row there has the key, or it is free
unfoldable pub place_of : Table → ℕ → ℕ → Result ℕ ℕ
place_of t n k = place_at t n k (rank_of t n k)

unfoldable pub found_row : Table → ℕ → ℕ → Option ℕ
found_row t n k = result_ok (place_of t n k)

-- what a search by halving has found: in a sorted table what the search from the front finds
pub record Finds (t : Table) (n k : ℕ) (r : Option ℕ) : Type 0 where
  pub within : (i : ℕ) → r ≡ Some i → i < n
  pub is_row : Sorted t n → r ≡ row_of t n k

-- in a sorted table the rows before `from` are below k, and those from `to` on are not
pub record Between (t : Table) (n k from to : ℕ) : Type 0 where
  pub ordered : from ≤ to
  pub within : to ≤ n
  pub below : Sorted t n → (p : ℕ) → p < from → key_at t p < k
  pub above : Sorted t n → (p : ℕ) → to ≤ p → p < n → k ≤ key_at t p

-- where k stands, or where it would stand
abbrev pub PlaceIs : Table → ℕ → ℕ → Result ℕ ℕ → Type 0
PlaceIs t n k (Ok i) = (i < n) × (key_at t i ≡ k)
PlaceIs t n k (Err at) = Between t n k at at × (at < n → key_at t at ≡ k → ⊥)

-- ---- writing

-- a row written
unfoldable pub row_set : Table → ℕ → Key → ℕ → Table
row_set t i k w = set t i (record { key = k; word = w })

-- row n written, if it lies in the table
unfoldable pub appended : Table → ℕ → Key → ℕ → Table
appended t n k w = cond (has_room t n) (row_set t n k w) t

-- the rows from a on and below e moved up by one, those before as they were
pub record Moved (t : Table) (a e : ℕ) (t' : Table) : Type 0 where
  pub size : length t' ≡ length t
  pub before : (j : ℕ) → j < a + 1 → nth_row t' j ≡ nth_row t j
  pub moved : (j : ℕ) → a ≤ j → j < e → nth_row t' (j + 1) ≡ nth_row t j
  pub behind : (j : ℕ) → e + 1 ≤ j → nth_row t' j ≡ nth_row t j

-- a table of n rows with one row more: k and w in row `at`, the rows from there on moved up by one, what stands behind as it was
pub record Grown (t : Table) (n at k w : ℕ) (t' : Table) : Type 0 where
  pub within : at ≤ n
  pub before : (p : ℕ) → p < at → nth_row t' p ≡ nth_row t p
  pub key : key_at t' at ≡ k
  pub word : word_at t' at ≡ w
  pub after : (p : ℕ) → at ≤ p → p < n → nth_row t' (p + 1) ≡ nth_row t p
  pub behind : (j : ℕ) → n + 1 ≤ j → nth_row t' j ≡ nth_row t j

abbrev pub insertion_at : Result ℕ ℕ → Bool → Result (Unit {0}) InsertError
insertion_at (Ok i) room = Err Present
insertion_at (Err at) room = cond room (Ok tt) (Err NoRoom)

unfoldable pub insertion_of : Table → ℕ → ℕ → Result (Unit {0}) InsertError
insertion_of t n k = insertion_at (place_of t n k) (has_room t n)

-- in a sorted table, what the answer of an insertion says of the word that its key had before, and of the room
abbrev pub Says : Result (Unit {0}) InsertError → Option ℕ → Bool → Type 0
Says (Ok _) o room = (o ≡ None) × (room ≡ true)
Says (Err Present) o room = (w : ℕ) × (o ≡ Some w)
Says (Err NoRoom) o room = (o ≡ None) × (room ≡ false)

-- the word w entered at the key k
unfoldable pub entered : ℕ → ℕ → (ℕ → Option ℕ) → ℕ → Option ℕ
entered k w f q = cond (eqb q k) (Some w) (f q)

-- an insertion: its answer, and where it is done the table with one row more
pub record Inserted (t : Table) (n k w : ℕ) (r : Result (Unit {0}) InsertError) (t' : Table) : Type 0 where
  pub size : length t' ≡ length t
  pub answer : r ≡ insertion_of t n k
  pub present : r ≡ Err Present → t' ≡ t
  pub no_room : r ≡ Err NoRoom → t' ≡ t
  pub done : r ≡ Ok tt → Grown t n (rank_of t n k) k w t'
