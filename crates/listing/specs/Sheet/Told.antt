-- Lines that the tables tell: those of each row, with its floor's, and of each variable.
use Rattle.std.specs.Prelude.{◌≡◌, cond, List, [], ◌∷◌, ◌++◌, ℕ, ◌+◌, ◌*◌, ◌≤◌, leb, ltb, length, ℤ, Option}
use Rattle.value.specs.declared.Value.{Value}
use Rattle.value.specs.Printed.{Written}
use Rattle.language.specs.Listed.{At}
use Rattle.language.specs.Listing.{Kind, Line, row_line, var_line, kind_by, low_lines}
use Rattle.language.specs.Listing as Listing
use Rattle.listing.specs.Shown.{shown_lines}
use Rattle.constraints.specs.declared.Record.{Record}
use Rattle.store.specs.Key.{key_of}
use Rattle.store.specs.Table.{Table, key_at, word_at}
use Rattle.store.specs.Packed.{unpacked}
use Rattle.store.specs.Entries.{Keyed}
use Rattle.rows.specs.Bounds.{BoundTable}
use Rattle.rows.specs.Read.{slot_at, lower_in, upper_in, end_in}
use Rattle.rows.specs.Slots.{floor_slot}
use Rattle.listing.specs.Sheet.Strings.{name_at, title_of}

-- the floor of a slot, and the kind of row i, from 0, of which the first `less` are those of `<=` and `>=`
unfoldable pub floor_in : Table → ℕ → Option Value
floor_in rows k = end_in (word_at rows (floor_slot k))

unfoldable pub kind_at : ℕ → ℕ → Option Value → Kind
kind_at less i w = cond (leb less i) Listing.equal (kind_by w)

unfoldable pub concat : List (List Line) → List Line
concat [] = []
concat (ks ∷ kss) = ks ++ concat kss

-- the line of the row in slot k, of number n and kind q
pub record RowAlone (s ts : List ℕ) (cs : List Record) (rows : Table) (k n : ℕ) (q : Kind) (ks : List Line) : Type 0 where
  pub constraint : ℕ
  pub element : List ℤ
  pub keyed : Keyed constraint element
  pub key : key_at rows k ≡ key_of constraint element
  pub is : ks ≡ row_line n q (unpacked (word_at rows k)) (title_of s ts cs constraint) element ∷ []

-- the lines of row i, from 0: its own, and its floor's
pub record RowTold (s ts : List ℕ) (cs : List Record) (rows : Table) (less i : ℕ) (ks : List Line) : Type 0 where
  pub own : List Line
  pub alone : RowAlone s ts cs rows (slot_at less i) (i + 1) (kind_at less i (floor_in rows (slot_at less i))) own
  pub is : ks ≡ own ++ low_lines (i + 1) (floor_in rows (slot_at less i))

-- the line of variable j, from 0
pub record VariableTold (s ns : List ℕ) (vs : Table) (bs : BoundTable) (discrete j : ℕ) (ks : List Line) : Type 0 where
  pub name : ℕ
  pub element : List ℤ
  pub keyed : Keyed name element
  pub key : key_at vs j ≡ key_of name element
  pub is : ks ≡ var_line (j + 1) (ltb j discrete) (lower_in bs j) (upper_in bs j) (name_at s ns name) element ∷ []

-- the lines of n things, each told by its number
pub record Told (T : ℕ → List Line → Type 0) (n : ℕ) (kss : List (List Line)) : Type 0 where
  pub size : length kss ≡ n
  pub each : (i : ℕ) (ks : List Line) → At kss i ks → T i ks

-- ---- what is written of them

-- the lines that are told of one thing, in at most so many bytes
pub record Writes (most : ℕ) (T : List Line → Type 0) (l : List ℕ) (at r : ℕ) (l' : List ℕ) : Type 0 where
  pub short : r ≤ at + most
  pub lines : (ks : List Line) → T ks → Written l at (shown_lines ks) r l'

-- the lines of n things, each of at most 2^15 bytes
pub record WritesAll (T : ℕ → List Line → Type 0) (n : ℕ) (l : List ℕ) (at r : ℕ) (l' : List ℕ) : Type 0 where
  pub most : r ≤ at + 32768 * n
  pub lines : (kss : List (List Line)) → Told T n kss → Written l at (shown_lines (concat kss)) r l'
