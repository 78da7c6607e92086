-- Laws of the line of one coefficient.
use mathlib.Core.Path.{◌≡◌, sym, ◌∙◌, ap}
use mathlib.Core.Bool.{Bool, true, false}
use mathlib.Core.List.{List, [], ◌∷◌, append-nil}
use Prim.Native.Nat.{ℕ}
use lib.IntN.{ℤ, pos}
use Rattle.value.specs.declared.Value.{Value}
use Rattle.value.specs.Decimal.{is_zero}
use Rattle.value.specs.Printed.{Written}
use Rattle.language.specs.Listing.{Line, col_line}
use Rattle.listing.specs.Shown.{shown_line, shown_lines}
use Rattle.listing.proofs.Lines.{lines_none}
use Rattle.rows.specs.Read.{value_of}
use Rattle.rows.proofs.Reading.{zero-count}
use Rattle.listing.specs.Sheet.Columns.{cell_lines}

-- ---- lines

-- one line
pub one_line : {l : List ℕ} {at : ℕ} (k : Line) {r : ℕ} {l' : List ℕ} → Written l at (shown_line k) r l' → Written l at (shown_lines (k ∷ [])) r l'
unfolding shown_lines
one_line k w = rw (append-nil (shown_line k)) w

zero-line : (j i : ℕ) (v : Value) → is_zero v ≡ true → cell_lines j i v ≡ []
unfolding cell_lines
zero-line j i v e = rw e

module _ (l : List ℕ) (at j i : ℕ) (z : ℤ) where
  zero-written : is_zero (value_of z) ≡ true → Written l at (shown_lines (cell_lines j i (value_of z))) at l
  zero-written e = rw (zero-line j i (value_of z) e) (lines_none l at)

  pub cell-none : z ≡ pos 0 → Written l at (shown_lines (cell_lines j i (value_of z))) at l
  unfolding is_zero
  cell-none e = zero-written (rw (e, zero-count))

  pub cell-zero : (v : Value) (b : Bool) → v ≡ value_of z → b ≡ is_zero v → b ≡ true → Written l at (shown_lines (cell_lines j i (value_of z))) at l
  cell-zero v b e g h = zero-written (ap is_zero (sym e) ∙ sym g ∙ h)

  pub cell-line : (v : Value) (b : Bool) (r : ℕ) (l' : List ℕ) → v ≡ value_of z → b ≡ is_zero v → b ≡ false → Written l at (shown_line (col_line j i v)) r l'
      → Written l at (shown_lines (cell_lines j i (value_of z))) r l'
  unfolding cell_lines
  cell-line v b r l' e g h w = rw (← e, ← g, h) (one_line (col_line j i v) w)
