-- The rows of a problem, in slots: those of `<=` and `>=` from the first slot on, those of `=` from the last one back, each in
-- text order; so a row keeps its slot while others come. A slot has two rows of the table (the constraint's number and element as
-- their key; the right side as the word of one, the floor as that of the other, 0 where there is none) and a row of counts. The
-- objective has a row of counts behind the slots, and one row more is spare; the rows of floors follow these.
use Rattle.std.specs.Prelude.{◌≡◌, Bool, true, false, cond, List, ℕ, suc, ◌+◌, ◌-◌, ◌*◌, ◌≤◌, ltb, length, take, drop, ℤ, Option, Some, None}
use Rattle.rules.specs.Limits.{row_limit, variable_limit}
use Rattle.value.specs.declared.Value.{Value}
use Rattle.value.specs.Decimal.{Valid}
use Rattle.language.specs.Valid.{ValidIfAny}
use Rattle.language.specs.Numbering.{Variable, Row, Entry, keep, is_equal, less_row, equal_row}
use Rattle.language.specs.Listed.{At}
use Rattle.language.specs.Listing.{right_of, coefficients_of, kind_of, kind_by}
use Rattle.language.specs.Listing as Listing
use Rattle.store.specs.Key.{key_of}
use Rattle.store.specs.Table.{Table, key_at, word_at, has_room}
use Rattle.store.specs.Packed.{packed}
use Rattle.store.specs.Entries.{Keyed}
use Rattle.rows.specs.declared.Filled.{Filled}
use Rattle.rows.specs.Counts.{RowOf}

-- ---- rows of counts

-- the first n counts of row k; a row has room for every variable
unfoldable pub counts_at : List ℤ → ℕ → ℕ → List ℤ
counts_at m n k = take n (drop (k * variable_limit) m)

unfoldable pub objective_row : ℕ
objective_row = row_limit

unfoldable pub spare_row : ℕ
spare_row = suc row_limit

-- the objective's coefficients
pub record ObjectiveHeld (vs : List Variable) (m : List ℤ) (r : Row) : Type 0 where
  pub row : RowOf vs (counts_at m (length vs) objective_row) r

-- ---- slots

-- the row with the floor of slot k
unfoldable pub floor_slot : ℕ → ℕ
floor_slot k = cond (ltb k (row_limit + 2)) (k + row_limit + 2) 0

-- a floor's word
unfoldable pub floor_word : Option Value → ℕ
floor_word None = 0
floor_word (Some v) = packed v

-- what slot k holds
pub record Slot (vs : List Variable) (t : Table) (m : List ℤ) (k : ℕ) (e : Entry) : Type 0 where
  pub keyed : Keyed e.source.ordinal e.source.element
  pub key : key_at t k ≡ key_of e.source.ordinal e.source.element
  pub valid : Valid (right_of e.fact)
  pub right : word_at t k ≡ packed (right_of e.fact)
  pub kind : kind_of e.source.constraint.relation ≡ cond (is_equal e.source.constraint.relation) Listing.equal (kind_by e.floor)
  pub valid_floor : ValidIfAny e.floor
  pub floor : word_at t (floor_slot k) ≡ floor_word e.floor
  pub row : RowOf vs (counts_at m (length vs) k) (coefficients_of e.fact)

-- the slot of the i-th row of `<=` and `>=`, and of the i-th of `=`, from 0
unfoldable pub less_slot : ℕ → ℕ
less_slot i = i

unfoldable pub equal_slot : ℕ → ℕ
equal_slot i = row_limit - suc i

-- the slot of the row that comes next; where all are taken, the spare row
unfoldable pub next_slot : ℕ → ℕ → Bool → ℕ
next_slot less equal b = elim (ltb (less + equal) row_limit) [
  | true ↦ elim b [ true ↦ equal_slot equal | false ↦ less_slot less ]
  | false ↦ spare_row
]

-- all rows among the entries
pub record RowsHeld (vs : List Variable) (t : Table) (m : List ℤ) (less equal : ℕ) (es : List Entry) : Type 0 where
  pub less_count : less ≡ length (keep less_row es)
  pub equal_count : equal ≡ length (keep equal_row es)
  pub room : less + equal ≤ row_limit
  pub less_rows : (i : ℕ) (e : Entry) → At (keep less_row es) i e → Slot vs t m (less_slot i) e
  pub equal_rows : (i : ℕ) (e : Entry) → At (keep equal_row es) i e → Slot vs t m (equal_slot i) e

-- ---- one row more

-- one more, as far as there are slots
unfoldable pub one_more : ℕ → ℕ
one_more n = cond (ltb n row_limit) (n + 1) n

unfoldable pub counted_as : Filled → Bool → Filled
counted_as f true = record { less = f.less; equal = one_more f.equal }
counted_as f false = record { less = one_more f.less; equal = f.equal }

-- row s of a table now has the key k and the word w, if it lies there, and every other row is as it was
pub record Entered (t : Table) (s k w : ℕ) (t' : Table) : Type 0 where
  pub size : length t' ≡ length t
  pub key : key_at t' s ≡ cond (has_room t s) k (key_at t s)
  pub word : word_at t' s ≡ cond (has_room t s) w (word_at t s)
  pub other_key : (p : ℕ) → (p ≡ s → ⊥) → key_at t' p ≡ key_at t p
  pub other_word : (p : ℕ) → (p ≡ s → ⊥) → word_at t' p ≡ word_at t p

-- the first n counts of row s of a matrix are now p, and those of every other row as they were
pub record RowPut (n : ℕ) (m : List ℤ) (s : ℕ) (p m' : List ℤ) : Type 0 where
  pub size : length m' ≡ length m
  pub here : counts_at m' n s ≡ p
  pub others : (k : ℕ) → (k ≡ s → ⊥) → counts_at m' n k ≡ counts_at m n k

-- the next row of the constraint number i at the element l, with its right side v and the word w of its floor
pub record Wrote (t : Table) (f : Filled) (b : Bool) (i : ℕ) (l : List ℤ) (v : Value) (w : ℕ) (r : Filled) (t' : Table) : Type 0 where
  pub filled : r ≡ counted_as f b
  pub between : Table
  pub row : Entered t (next_slot f.less f.equal b) (key_of i l) (packed v) between
  pub floor : Entered between (floor_slot (next_slot f.less f.equal b)) (key_of i l) w t'
