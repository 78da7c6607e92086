-- Laws of the lines of coefficients, one row or one variable more.
use mathlib.Core.Path.{◌≡◌, ◌∙◌, ap}
use mathlib.Core.List.{List, ◌++◌}
use Prim.Native.Nat.{ℕ, suc, ◌+◌, ◌-◌, ◌<◌, ◌≤◌}
use native.Mathlib.Omega.{arith}
use lib.IntN.{ℤ}
use Rattle.rules.specs.Limits.{row_limit}
use Rattle.value.specs.declared.Value.{Value}
use Rattle.value.specs.Printed.{Written}
use Rattle.language.specs.Listing.{Line, col_line}
use Rattle.listing.specs.Shown.{shown_line, shown_lines}
use Rattle.listing.proofs.Writing.{Left, left-all, left-more}
use Rattle.listing.proofs.Lines.{lines-append, lines_end}
use Rattle.rows.specs.Slots.{objective_row}
use Rattle.rows.specs.Read.{slot_at, count_at, value_of}
use Rattle.listing.specs.Sheet.Columns.{cell_lines, column_from, columns_from}
use Rattle.listing.proofs.sheet.Cells.{one_line}

-- lines written, others left
pub lines_then : {l : List ℕ} {at : ℕ} {text l' : List ℕ} {at' : ℕ} (all ks ls : List Line) {r : ℕ} {l'' : List ℕ}
    → all ≡ ks ++ ls → Left l at text l' at' (shown_lines all) → Written l' at' (shown_lines ks) r l'' → Left l at text l'' r (shown_lines ls)
lines_then all ks ls e h w = left-more (shown_lines ks) (shown_lines ls) (ap shown_lines e ∙ lines-append ks ls) h w

one_less : (n i : ℕ) → i < n → n - i ≡ suc (n - (i + 1))
one_less n i h = omega arith

module _ (m : List ℤ) (less : ℕ) (l : List ℕ) (at : ℕ) where
  pub column-start : (j n : ℕ) → Left l at (shown_lines (column_from m less j n 0)) l at (shown_lines (column_from m less j (n - 0) 0))
  column-start j n = let e : n - 0 ≡ n = omega arith in rw e (left-all l at _)

  pub columns-start : (rows n : ℕ) → Left l at (shown_lines (columns_from m less rows n 0)) l at (shown_lines (columns_from m less rows (n - 0) 0))
  columns-start rows n = let e : n - 0 ≡ n = omega arith in rw e (left-all l at _)

module _ (m : List ℤ) (less : ℕ) {l₀ : List ℕ} {at₀ : ℕ} {text l : List ℕ} {at : ℕ} where
  pub column-more : (j n i k : ℕ) (z : ℤ) {r : ℕ} {l' : List ℕ} → Left l₀ at₀ text l at (shown_lines (column_from m less j (n - i) i)) → i < n
      → k ≡ slot_at less i → z ≡ count_at m k j → Written l at (shown_lines (cell_lines (j + 1) (i + 1) (value_of z))) r l'
      → Left l₀ at₀ text l' r (shown_lines (column_from m less j (n - (i + 1)) (i + 1)))
  unfolding column_from
  column-more j n i k z h b e g w = lines_then _ _ _ (rw (one_less n i b, ← e, ← g)) h w

  pub column-end : (j n i : ℕ) (z : ℤ) (v : Value) {r : ℕ} {l' : List ℕ} → Left l₀ at₀ text l at (shown_lines (column_from m less j (n - i) i)) → i ≤ n → n ≤ i
      → z ≡ count_at m 512 j → v ≡ value_of z → Written l at (shown_line (col_line (j + 1) (n + 1) v)) r l' → Written l₀ at₀ text r l'
  unfolding column_from objective_row row_limit
  column-end j n i z v h a b e g w =
      let x : n - i ≡ 0 = omega arith in
      let y : i ≡ n = omega arith in
      h.whole _ _ (rw (x, y, ← e, ← g) (one_line (col_line (j + 1) (n + 1) v) w))

  pub columns-more : (rows n j : ℕ) {r : ℕ} {l' : List ℕ} → Left l₀ at₀ text l at (shown_lines (columns_from m less rows (n - j) j)) → j < n
      → Written l at (shown_lines (column_from m less j rows 0)) r l' → Left l₀ at₀ text l' r (shown_lines (columns_from m less rows (n - (j + 1)) (j + 1)))
  unfolding columns_from
  columns-more rows n j h b w = lines_then _ _ _ (rw (one_less n j b)) h w

  pub columns-end : (rows n j : ℕ) → Left l₀ at₀ text l at (shown_lines (columns_from m less rows (n - j) j)) → n ≤ j → Written l₀ at₀ text at l
  unfolding columns_from
  columns-end rows n j h b = let x : n - j ≡ 0 = omega arith in lines_end (rw x at h)
