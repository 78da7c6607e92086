-- Laws of the lines of rows and of coefficients.
use mathlib.Core.Path.{◌≡◌, refl, sym, ◌∙◌, ap}
use mathlib.Core.Bool.{Bool, true, false, cond}
use mathlib.Core.List.{List, [], ◌∷◌, ◌++◌}
use Prim.Native.Nat.{ℕ, zero, suc, ◌+◌, ◌<◌}
use native.Mathlib.Omega.{arith}
use native.Mathlib.Numerals.{add-one}
use borrow.Author.Tests.{lt-leb, leb-false}
use lib.Dec.{leb}
use lib.ListN.{length, get_or}
use lib.IntN.{ℤ}
use Rattle.rules.specs.Limits.{row_limit}
use Rattle.value.specs.declared.Value.{Value}
use Rattle.value.specs.Decimal.{zero_value, is_zero}
use Rattle.language.specs.Listed.{At}
use Rattle.language.specs.Numbering.{Row, Entry, is_equal, keep, less_row, equal_row}
use Rattle.language.proofs.Numbered.{less-first}
use Rattle.language.specs.Listing.{Line, row_line, col_line, right_of, coefficients_of, kind_of, low_lines, row_lines, column_lines, col_lines}
use Rattle.rows.specs.Slots.{objective_row}
use Rattle.rows.specs.Read.{slot_at, count_at, value_of}
use Rattle.listing.specs.Sheet.Columns.{cell_lines, column_from, columns_from}
use Rattle.listing.specs.Sheet.Told.{concat}
use Rattle.listing.proofs.sheet.Groups.{groups}

-- ---- the lines of rows

abbrev pub row_group : ℕ → Entry → List Line
row_group n e = row_line n (kind_of e.source.constraint.relation) (right_of e.fact) e.source.constraint.title e.source.element ∷ low_lines n e.floor

pub rows-joined : (n : ℕ) (es : List Entry) → concat (groups row_group n es) ≡ row_lines n es
unfolding concat groups row_lines
rows-joined n [] = refl
rows-joined n (e ∷ es) = ap (λ l. row_group n e ++ l) (rows-joined (suc n) es)

-- those of `=` come last
pub equal-last : (es : List Entry) (i : ℕ) (e : Entry) → At (keep less_row es ++ keep equal_row es) i e → is_equal e.source.constraint.relation ≡ leb (length (keep less_row es)) i
equal-last es i e a = go (is_equal e.source.constraint.relation) refl
  where
    at : (t : Bool) → leb (length (keep less_row es)) i ≡ t → is_equal e.source.constraint.relation ≡ true → true ≡ t
    at true h q = refl
    at false h q = sym q ∙ (less-first es i e a).0 (leb-false (length (keep less_row es)) i h)

    go : (b : Bool) → is_equal e.source.constraint.relation ≡ b → b ≡ leb (length (keep less_row es)) i
    go true q = at (leb (length (keep less_row es)) i) refl q
    go false q = sym (lt-leb (length (keep less_row es)) i ((less-first es i e a).1 q))

-- ---- coefficients

cell-then : (j n : ℕ) (v : Value) (ls : List Line) → cell_lines (j + 1) n v ++ ls ≡ elim (is_zero v) as (λ _. List Line) [ true ↦ ls | false ↦ col_line (suc j) n v ∷ ls ]
unfolding cell_lines
cell-then j n v ls = go (is_zero v)
  where
    go : (t : Bool) → cond t [] (col_line (j + 1) n v ∷ []) ++ ls ≡ elim t as (λ _. List Line) [ true ↦ ls | false ↦ col_line (suc j) n v ∷ ls ]
    go true = refl
    go false = rw (add-one j)

module _ (m : List ℤ) (less : ℕ) (o : Row) (j : ℕ) where
  -- the coefficient of variable j in each of the rows from number i on, and in the objective
  pub record Column (i : ℕ) (es : List Entry) : Type 0 where
    pub rows : (n : ℕ) (e : Entry) → At es n e → value_of (count_at m (slot_at less (i + n)) j) ≡ get_or (coefficients_of e.fact) j zero_value
    pub last : value_of (count_at m 512 j) ≡ get_or o j zero_value

  column-next : (i : ℕ) (e : Entry) (es : List Entry) → Column i (e ∷ es) → Column (i + 1) es
  column-next i e es h =
      record {
        rows = λ n f a. let x : i + suc n ≡ i + 1 + n = omega arith in rw x at (h.rows (suc n) f a);
        last = h.last;
      }

  pub column-told : (i : ℕ) (es : List Entry) → Column i es → column_from m less j (length es) i ≡ column_lines j (i + 1) es o
  unfolding column_from column_lines objective_row row_limit
  column-told i [] h = rw (h.last, add-one j)
  column-told i (e ∷ es) h =
      let x : i + 0 ≡ i = omega arith in
      let c = get_or (coefficients_of e.fact) j zero_value in
      let v : value_of (count_at m (slot_at less i) j) ≡ c = rw x at (h.rows 0 e refl) in
      let rest : column_from m less j (length es) (i + 1) ≡ column_lines j (suc (i + 1)) es o = rw (add-one (i + 1)) at (column-told (i + 1) es (column-next i e es h)) in
      ap (λ w. cell_lines (j + 1) (i + 1) w ++ column_from m less j (length es) (i + 1)) v ∙ ap (λ ls. cell_lines (j + 1) (i + 1) c ++ ls) rest ∙ cell-then j (i + 1) c (column_lines j (suc (i + 1)) es o)

pub columns-told : (m : List ℤ) (less : ℕ) (o : Row) (es : List Entry) (k j : ℕ) → ((n : ℕ) → n < j + k → Column m less o n 0 es)
    → columns_from m less (length es) k j ≡ col_lines k j es o
unfolding columns_from col_lines
columns-told m less o es zero j h = refl
columns-told m less o es (suc k) j h =
    let x : columns_from m less (length es) k (j + 1) ≡ col_lines k (j + 1) es o = columns-told m less o es k (j + 1) (λ n b. h n (omega arith)) in
    rw (column-told m less o j 0 es (h j (omega arith)), x, add-one j)
