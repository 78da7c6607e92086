-- Laws of writing: a text for each number, one number more; the lines piece by piece.
use Rattle.std.specs.Prelude.{Option, Some, None}
use mathlib.Core.Path.{◌≡◌, refl, sym, ◌∙◌, ap}
use mathlib.Core.Bool.{Bool, true, false, cond, ◌&&◌}
use mathlib.Core.List.{List, ◌++◌, append_assoc, append-nil}
use Prim.Native.Nat.{ℕ, zero, suc, ◌+◌, ◌-◌, ◌<◌, ◌≤◌}
use native.Mathlib.Omega.{arith}
use borrow.Author.Tests.{lt-ltb, le-ltb}
use mir.Syntax.{w64}
use mir.Val.{to_z}
use lib.Dec.{leb}
use lib.IntN.{ℤ, pos}
use Rattle.rules.specs.Characters.{bytes}
use Rattle.rules.specs.Limits.{row_limit, mantissa_limit}
use Rattle.value.specs.declared.Value.{Value}
use Rattle.value.specs.Decimal.{negate, is_zero, in_range, of_whole}
use Rattle.value.specs.Printed.{natural, shown, Written}
use Rattle.value.proofs.Writing.{written_none, written_then}
use Rattle.listing.proofs.Showing.{whole_is, natural-shown, natural-read}
use Rattle.listing.proofs.Writing.{Left, left-all, left-more}
use Rattle.rows.specs.declared.Sizes.{Sizes}
use Rattle.rows.specs.Slots.{objective_row, floor_slot}
use Rattle.rows.specs.Bounds.{BoundTable}
use Rattle.rows.specs.Read.{within, slot_at, count_at, value_of, lower_in, upper_in, end_in}
use Rattle.store.specs.Table.{Table, word_at}
use Rattle.store.specs.Packed.{unpacked}
use Rattle.rows.proofs.Reading.{zero-count}
use Rattle.mps.specs.Export.{named, less_line, floor_line, equal_line, cell_head, floor_cell_head, objective_head, right_head, floor_head, lower_head, upper_head, no_upper_line}
use Rattle.exporter.specs.Exports.{formed}
use Rattle.exporter.specs.Texts.{text_from, shown_line, floor_at, floor_row, row_text, cell_start, shown_twice, shown_cell, cell_text, opposite, objective_text, column_text, discrete_text, shown_floor, right_text, shown_upper, bound_text, rows_text, columns_text, rights_text, bounds_text}

-- ---- a text for each number

one_less : (n i : ℕ) → i < n → n - i ≡ suc (n - (i + 1))
one_less n i h = omega arith

pub text-start : (f : ℕ → List ℕ) (n : ℕ) (l : List ℕ) (at : ℕ) → Left l at (text_from f n 0) l at (text_from f (n - 0) 0)
text-start f n l at = let e : n - 0 ≡ n = omega arith in rw e (left-all l at _)

-- of those from 0 on
pub text-all : (f : ℕ → List ℕ) (n : ℕ) {l : List ℕ} {at r : ℕ} {l' : List ℕ} → Written l at (text_from f (n - 0) 0) r l' → Written l at (text_from f n 0) r l'
text-all f n w = let e : n - 0 ≡ n = omega arith in rw e at w

module _ (f : ℕ → List ℕ) (n i : ℕ) {l₀ : List ℕ} {at₀ : ℕ} {text l : List ℕ} {at : ℕ} (h : Left l₀ at₀ text l at (text_from f (n - i) i)) where
  pub text-more : {r : ℕ} {l' : List ℕ} → i < n → Written l at (f i) r l' → Left l₀ at₀ text l' r (text_from f (n - (i + 1)) (i + 1))
  unfolding text_from
  text-more b w = left-more (f i) _ (rw (one_less n i b)) h w

  pub text-end : n ≤ i → Written l₀ at₀ text at l
  unfolding text_from
  text-end b = let e : n - i ≡ 0 = omega arith in h.whole _ _ (rw e (written_none l at))

-- ---- numbers and sizes

-- a number that was cast
pub number-written : (n : ℕ) (v : Value) {l : List ℕ} {at r : ℕ} {l' : List ℕ} → n ≤ 512 → v ≡ of_whole (to_z w64 n) → Written l at (shown v) r l' → Written l at (natural n) r l'
unfolding mantissa_limit
number-written n v h e w = rw (whole_is v (to_z w64 n) e ∙ natural-read n (omega arith) ∙ natural-shown n (omega arith)) at w

pub formed-test : (x : Sizes) (b : Bool) → b ≡ within x → (leb x.discrete x.variables && b) ≡ formed x
unfolding formed
formed-test x b e = rw e

-- ---- lines

module _ {l : List ℕ} {at r : ℕ} {l' : List ℕ} {r' : ℕ} {l'' : List ℕ} where
  pub named-then : (w : List ℕ) (n : ℕ) (end : List ℕ) → Written l at (w ++ natural n) r l' → Written l' r end r' l'' → Written l at (named w n end) r' l''
  unfolding named
  named-then w n end a b = rw (← append_assoc w (natural n) end) (written_then _ _ _ _ _ _ _ _ a b)

  pub value-then : (h : List ℕ) (v : Value) {s : ℕ} {k : List ℕ} → Written l at h r l' → Written l' r (shown v) s k → Written k s (bytes "\n") r' l'' → Written l at (shown_line h v) r' l''
  unfolding shown_line
  value-then h v a b c = written_then _ _ _ _ _ _ _ _ a (written_then _ _ _ _ _ _ _ _ b c)

  pub cell-then : (j : ℕ) (w : List ℕ) (i : ℕ) (v : Value) → Written l at (bytes " C" ++ natural j) r l' → Written l' r (shown_line (named w i (bytes " ")) v) r' l''
      → Written l at (shown_line (cell_start j w i) v) r' l''
  unfolding shown_line cell_start named
  cell-then j w i v a b = simp append_assoc (simp append_assoc at (written_then _ _ _ _ _ _ _ _ a b))

  pub twice-at : (j i : ℕ) (v : Value) (u : Option Value) (x : Value) → u ≡ Some x → Written l at (shown_line (cell_start j (bytes " R") i) v) r l' → Written l' r (shown_line (cell_start j (bytes " F") i) v) r' l''
      → Written l at (shown_twice j i v u) r' l''
  unfolding shown_twice cell_head floor_cell_head cell_start
  twice-at j i v u x e a b = rw e (written_then _ _ _ _ _ _ _ _ a b)

pub twice-none : (j i : ℕ) (v : Value) (u : Option Value) {l : List ℕ} {at r : ℕ} {l' : List ℕ} → u ≡ None → Written l at (shown_line (cell_start j (bytes " R") i) v) r l' → Written l at (shown_twice j i v u) r l'
unfolding shown_twice cell_head cell_start
twice-none j i v u e w = rw (e, append-nil (shown_line (cell_head j i) v)) w

-- no line for zero
module _ (l : List ℕ) (at j i : ℕ) (z : ℤ) (w : Option Value) where
  zero-cell : is_zero (value_of z) ≡ true → Written l at (shown_cell j i (value_of z) w) at l
  unfolding shown_cell
  zero-cell e = rw e (written_none l at)

  pub cell-none : z ≡ pos 0 → Written l at (shown_cell j i (value_of z) w) at l
  unfolding is_zero
  cell-none e = zero-cell (rw (e, zero-count))

  pub cell-zero : (v : Value) (b : Bool) → v ≡ value_of z → b ≡ is_zero v → b ≡ true → Written l at (shown_cell j i (value_of z) w) at l
  cell-zero v b e g h = zero-cell (ap is_zero (sym e) ∙ sym g ∙ h)

  pub cell-lines : (v : Value) (b : Bool) (r : ℕ) (l' : List ℕ) → v ≡ value_of z → b ≡ is_zero v → b ≡ false → Written l at (shown_twice j i v w) r l'
      → Written l at (shown_cell j i (value_of z) w) r l'
  unfolding shown_cell
  cell-lines v b r l' e g h x = rw (← e, ← g, h) x

-- ---- floors

module _ (t : Table) (less i : ℕ) where
  pub floor-here : (u : Option Value) → i < less → u ≡ end_in (word_at t (floor_slot i)) → u ≡ floor_at t less i
  unfolding floor_at
  floor-here u h e = rw (lt-ltb i less h) e

  pub floor-behind : less ≤ i → None ≡ floor_at t less i
  unfolding floor_at
  floor-behind h = rw (le-ltb i less h)

module _ (n : ℕ) (u : Option Value) (l : List ℕ) (at : ℕ) (e : u ≡ None) where
  pub no-floor-row : Written l at (floor_row n u) at l
  unfolding floor_row
  no-floor-row = rw e (written_none l at)

  pub no-floor-line : Written l at (shown_floor n u) at l
  unfolding shown_floor
  no-floor-line = rw e (written_none l at)

-- ---- the lines that the tables tell

module _ {l : List ℕ} {at r : ℕ} {l' : List ℕ} where
  pub floor-row : (n : ℕ) (u : Option Value) (v : Value) → u ≡ Some v → Written l at (named (bytes " G F") n (bytes "\n")) r l' → Written l at (floor_row n u) r l'
  unfolding floor_row floor_line
  floor-row n u v e w = rw e w

  pub less-line : (t : Table) (less i : ℕ) (u : Option Value) {s : ℕ} {k : List ℕ} → i < less → u ≡ floor_at t less i
      → Written l at (named (bytes " L R") (i + 1) (bytes "\n")) s k → Written k s (floor_row (i + 1) u) r l' → Written l at (row_text t less i) r l'
  unfolding row_text less_line
  less-line t less i u h e w x = rw (lt-ltb i less h, ← e) (written_then _ _ _ _ _ _ _ _ w x)

  pub equal-line : (t : Table) (less i : ℕ) → less ≤ i → Written l at (named (bytes " E R") (i + 1) (bytes "\n")) r l' → Written l at (row_text t less i) r l'
  unfolding row_text equal_line
  equal-line t less i h w = rw (le-ltb i less h) w

  pub cell-told : (t : Table) (m : List ℤ) (less j i k : ℕ) (z : ℤ) (u : Option Value) → k ≡ slot_at less i → z ≡ count_at m k j → u ≡ floor_at t less i
      → Written l at (shown_cell (j + 1) (i + 1) (value_of z) u) r l' → Written l at (cell_text t m less j i) r l'
  unfolding cell_text
  cell-told t m less j i k z u e g h w = rw (← e, ← g, ← h) w

  pub objective-line : (m : List ℤ) (j : ℕ) (z : ℤ) (v u : Value) → z ≡ count_at m 512 j → v ≡ value_of z → u ≡ cond (in_range v) (negate v) v
      → Written l at (shown_line (named (bytes " C") (j + 1) (bytes " OBJ ")) u) r l' → Written l at (objective_text m j) r l'
  unfolding objective_text objective_head opposite objective_row row_limit
  objective-line m j z v u e g h w = rw (← e, ← g, ← h) w

  pub floor-line : (n : ℕ) (u : Option Value) (v : Value) → u ≡ Some v → Written l at (shown_line (named (bytes " MODEL F") n (bytes " ")) v) r l' → Written l at (shown_floor n u) r l'
  unfolding shown_floor floor_head
  floor-line n u v e w = rw e w

  pub right-line : (t : Table) (less i k w : ℕ) (v : Value) (u : Option Value) {s : ℕ} {q : List ℕ} → k ≡ slot_at less i → w ≡ word_at t k → v ≡ unpacked w → u ≡ floor_at t less i
      → Written l at (shown_line (named (bytes " MODEL R") (i + 1) (bytes " ")) v) s q → Written q s (shown_floor (i + 1) u) r l' → Written l at (right_text t less i) r l'
  unfolding right_text right_head
  right-line t less i k w v u e g h f x y = rw (← e, ← g, ← h, ← f) (written_then _ _ _ _ _ _ _ _ x y)

  pub upper-none : (j : ℕ) (u : Option Value) → u ≡ None → Written l at (named (bytes " PL MODEL C") j (bytes "\n")) r l' → Written l at (shown_upper j u) r l'
  unfolding shown_upper no_upper_line
  upper-none j u e w = rw e w

  pub upper-at : (j : ℕ) (u : Option Value) (v : Value) → u ≡ Some v → Written l at (shown_line (named (bytes " UP MODEL C") j (bytes " ")) v) r l' → Written l at (shown_upper j u) r l'
  unfolding shown_upper upper_head
  upper-at j u v e w = rw e w

  pub bound-lines : (b : BoundTable) (j : ℕ) (v : Value) (u : Option Value) {s : ℕ} {k : List ℕ} → v ≡ lower_in b j → u ≡ upper_in b j
      → Written l at (shown_line (named (bytes " LO MODEL C") (j + 1) (bytes " ")) v) s k → Written k s (shown_upper (j + 1) u) r l' → Written l at (bound_text b j) r l'
  unfolding bound_text lower_head
  bound-lines b j v u e g w x = rw (← e, ← g) (written_then _ _ _ _ _ _ _ _ w x)

-- ---- columns and sections

module _ {l : List ℕ} {at r : ℕ} {l' : List ℕ} {r' : ℕ} {l'' : List ℕ} where
  pub column-then : (t : Table) (m : List ℤ) (less n j : ℕ) → Written l at (text_from (cell_text t m less j) n 0) r l' → Written l' r (objective_text m j) r' l''
      → Written l at (column_text t m less n j) r' l''
  unfolding column_text
  column-then t m less n j w x = written_then _ _ _ _ _ _ _ _ w x

  pub rows_then : (t : Table) (less n : ℕ) → Written l at (bytes "NAME MODEL\nROWS\n N OBJ\n") r l' → Written l' r (text_from (row_text t less) n 0) r' l''
      → Written l at (rows_text t less n) r' l''
  unfolding rows_text
  rows_then t less n w x = written_then _ _ _ _ _ _ _ _ w x

  pub rights-then : (t : Table) (less n : ℕ) → Written l at (bytes "RHS\n") r l' → Written l' r (text_from (right_text t less) n 0) r' l'' → Written l at (rights_text t less n) r' l''
  unfolding rights_text
  rights-then t less n w x = written_then _ _ _ _ _ _ _ _ w x

  module _ {s : ℕ} {k : List ℕ} where
    pub discrete-then : (t : Table) (m : List ℤ) (less n d : ℕ) → (d ≡ 0 → ⊥) → Written l at (bytes " M 'MARKER' 'INTORG'\n") s k → Written k s (text_from (column_text t m less n) (d - 0) 0) r l'
        → Written l' r (bytes " M 'MARKER' 'INTEND'\n") r' l'' → Written l at (discrete_text t m less n d) r' l''
    unfolding discrete_text
    discrete-then t m less n zero e w x y = absurd (e refl)
    discrete-then t m less n (suc d) e w x y = written_then _ _ _ _ _ _ _ _ w (written_then _ _ _ _ _ _ _ _ (text-all _ (suc d) x) y)

    pub columns-then : (t : Table) (m : List ℤ) (less n d v : ℕ) → Written l at (bytes "COLUMNS\n") s k → Written k s (discrete_text t m less n d) r l'
        → Written l' r (text_from (column_text t m less n) (v - d) d) r' l'' → Written l at (columns_text t m less n d v) r' l''
    unfolding columns_text
    columns-then t m less n d v w x y = written_then _ _ _ _ _ _ _ _ w (written_then _ _ _ _ _ _ _ _ x y)

    pub bounds-then : (b : BoundTable) (n : ℕ) → Written l at (bytes "BOUNDS\n") s k → Written k s (text_from (bound_text b) n 0) r l'
        → Written l' r (bytes "ENDATA\n") r' l'' → Written l at (bounds_text b n) r' l''
    unfolding bounds_text
    bounds-then b n w x y = written_then _ _ _ _ _ _ _ _ w (written_then _ _ _ _ _ _ _ _ x y)

pub discrete-none : (t : Table) (m : List ℤ) (less n d : ℕ) (l : List ℕ) (at : ℕ) → d ≡ 0 → Written l at (discrete_text t m less n d) at l
unfolding discrete_text
discrete-none t m less n zero l at e = written_none l at
discrete-none t m less n (suc d) l at e = absurd (omega arith)
