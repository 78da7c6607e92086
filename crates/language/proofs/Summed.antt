-- The sum over the listing's `col` lines with a row's number is the row's value.
use Rattle.std.specs.Prelude.{Option, Some, None}
use mathlib.Core.Path.{◌≡◌, refl, sym, ◌∙◌, ap}
use mathlib.Core.Bool.{Bool, true, false}
use mathlib.Core.List.{List, [], ◌∷◌, ◌++◌, map}
use Prim.Native.Nat.{ℕ, zero, suc, ◌+◌, ◌-◌, ◌<◌}
use native.Mathlib.Omega.{arith}
use lib.ListN.{length, get_or, length-map}
use borrow.Author.Tests.{eq-eqb, ne_eqb}
use Rattle.value.specs.Number.{exactly}
use Rattle.language.specs.Listed.{At}
use Rattle.value.specs.Rational.{ℚ, 𝟎, ◌⊕◌, ◌⊗◌}
use Rattle.value.proofs.Rational.{add-zero, zero-add, add_assoc, zero-mul}
use Rattle.value.specs.declared.Value.{Value}
use Rattle.value.specs.Decimal.{zero_value, is_zero}
use Rattle.language.specs.Syntax.{Name}
use Rattle.language.specs.Model.{Model}
use Rattle.language.specs.Numbering.{Variable, Row, Entry, Lp, rows}
use Rattle.language.specs.Listing.{Line, col_line, ending_line, coefficients_of, low_lines, row_lines, var_lines, column_lines, col_lines, lines_of}
use Rattle.language.specs.Demand3.{column_term, row_value, by_number}
use Rattle.language.proofs.Gathered.{dot}
use Rattle.value.proofs.Numbers.{exactly-is_zero}

sum_from : (ℕ → ℚ) → ℕ → ℕ → ℚ
sum_from f zero j = 𝟎
sum_from f (suc n) j = f j ⊕ sum_from f n (suc j)

module _ (y : ℕ → ℚ) where
  sum-append : (i : ℕ) (a b : List Line) → row_value i y (a ++ b) ≡ row_value i y a ⊕ row_value i y b
  unfolding row_value
  sum-append i [] b = sym (zero-add _)
  sum-append i (l ∷ a) b = rw (sum-append i a b) (sym (add_assoc _ _ _))

  -- lines that are no `col` lines count nothing
  skip : (i : ℕ) (a b : List Line) → row_value i y a ≡ 𝟎 → row_value i y (a ++ b) ≡ row_value i y b
  skip i a b e = sum-append i a b ∙ rw e (zero-add _)

  low-lines-zero : (i n : ℕ) (w : Option Value) → row_value i y (low_lines n w) ≡ 𝟎
  unfolding row_value column_term low_lines
  low-lines-zero i n None = refl
  low-lines-zero i n (Some v) = zero-add 𝟎

  row-lines-zero : (i n : ℕ) (es : List Entry) → row_value i y (row_lines n es) ≡ 𝟎
  unfolding row_value column_term row_lines
  row-lines-zero i n [] = refl
  row-lines-zero i n (e ∷ es) = zero-add _ ∙ skip i (low_lines n e.floor) _ (low-lines-zero i n e.floor) ∙ row-lines-zero i (suc n) es

  var-lines-zero : (i : ℕ) (names : List Name) (p : Lp) (j : ℕ) (vs : List Variable) → row_value i y (var_lines names p j vs) ≡ 𝟎
  unfolding row_value column_term var_lines
  var-lines-zero i names p j [] = refl
  var-lines-zero i names p j (v ∷ vs) = zero-add _ ∙ var-lines-zero i names p (suc j) vs

  -- one line
  line_same : (i j : ℕ) (v : Value) (ls : List Line) → row_value i y (col_line j i v ∷ ls) ≡ exactly v ⊗ y j ⊕ row_value i y ls
  unfolding row_value column_term
  line_same i j v ls = rw (eq-eqb i i refl) refl

  line_other : (i k j : ℕ) (v : Value) (ls : List Line) → (k ≡ i → ⊥) → row_value i y (col_line j k v ∷ ls) ≡ row_value i y ls
  unfolding row_value column_term
  line_other i k j v ls n = rw (ne_eqb k i n) (zero-add _)

  nothing : (i : ℕ) → row_value i y [] ≡ 𝟎
  unfolding row_value
  nothing i = refl

  -- one variable's lines: the rows before row n have none
  before : (j n : ℕ) (es : List Entry) (o : Row) (i : ℕ) → i < n → row_value i y (column_lines j n es o) ≡ 𝟎
  unfolding column_lines
  before j n [] o i h = line_other i n (suc j) (get_or o j zero_value) [] (λ e. omega arith) ∙ nothing i
  before j n (e ∷ es) o i h = go (is_zero (get_or (coefficients_of e.fact) j zero_value)) (before j (suc n) es o i (omega arith))
    where
      go : (t : Bool) → row_value i y (column_lines j (suc n) es o) ≡ 𝟎
          → row_value i y (elim t [ true ↦ column_lines j (suc n) es o | false ↦ col_line (suc j) n (get_or (coefficients_of e.fact) j zero_value) ∷ column_lines j (suc n) es o ]) ≡ 𝟎
      go true ih = ih
      go false ih = line_other i n (suc j) (get_or (coefficients_of e.fact) j zero_value) _ (λ e. omega arith) ∙ ih

  -- its line in row n, or none for a zero
  here : (j n : ℕ) (e : Entry) (es : List Entry) (o : Row)
      → row_value n y (column_lines j n (e ∷ es) o) ≡ exactly (get_or (coefficients_of e.fact) j zero_value) ⊗ y (suc j)
  unfolding column_lines
  here j n e es o = go (is_zero v) refl
    where
      v : Value
      v = get_or (coefficients_of e.fact) j zero_value

      rest : row_value n y (column_lines j (suc n) es o) ≡ 𝟎
      rest = before j (suc n) es o n (omega arith)

      go : (t : Bool) → is_zero v ≡ t → row_value n y (elim t [ true ↦ column_lines j (suc n) es o | false ↦ col_line (suc j) n v ∷ column_lines j (suc n) es o ]) ≡ exactly v ⊗ y (suc j)
      go true z = rest ∙ sym (zero-mul (y (suc j))) ∙ ap (λ q. q ⊗ y (suc j)) (sym (exactly-is_zero v z))
      go false z = line_same n (suc j) v _ ∙ ap (λ q. exactly v ⊗ y (suc j) ⊕ q) rest ∙ add-zero _

  -- the rows after row n
  after-row : (j n : ℕ) (e : Entry) (es : List Entry) (o : Row) (i : ℕ) → n < i → row_value i y (column_lines j n (e ∷ es) o) ≡ row_value i y (column_lines j (suc n) es o)
  unfolding column_lines
  after-row j n e es o i h = go (is_zero (get_or (coefficients_of e.fact) j zero_value))
    where
      go : (t : Bool)
          → row_value i y (elim t [ true ↦ column_lines j (suc n) es o | false ↦ col_line (suc j) n (get_or (coefficients_of e.fact) j zero_value) ∷ column_lines j (suc n) es o ]) ≡ row_value i y (column_lines j (suc n) es o)
      go true = refl
      go false = line_other i n (suc j) (get_or (coefficients_of e.fact) j zero_value) _ (λ e. omega arith)

  of_row : (j n : ℕ) (es : List Entry) (o : Row) (k : ℕ) (e : Entry) → At es k e → row_value (n + k) y (column_lines j n es o) ≡ exactly (get_or (coefficients_of e.fact) j zero_value) ⊗ y (suc j)
  of_row j n [] o k e h = absurd h
  of_row j n (d ∷ es) o zero e h =
      let same : n + 0 ≡ n = omega arith in
      ap (λ i. row_value i y (column_lines j n (d ∷ es) o)) same ∙ here j n d es o ∙ ap (λ (x : Entry). exactly (get_or (coefficients_of x.fact) j zero_value) ⊗ y (suc j)) h
  of_row j n (d ∷ es) o (suc k) e h =
      let same : n + suc k ≡ suc n + k = omega arith in
      after-row j n d es o (n + suc k) (omega arith) ∙ ap (λ i. row_value i y (column_lines j (suc n) es o)) same ∙ of_row j (suc n) es o k e h

  last : (j n : ℕ) (o : Row) → row_value n y (column_lines j n [] o) ≡ exactly (get_or o j zero_value) ⊗ y (suc j)
  unfolding column_lines
  last j n o = line_same n (suc j) (get_or o j zero_value) [] ∙ ap (λ q. exactly (get_or o j zero_value) ⊗ y (suc j) ⊕ q) (nothing n) ∙ add-zero _

  of-objective : (j n : ℕ) (es : List Entry) (o : Row) → row_value (n + length es) y (column_lines j n es o) ≡ exactly (get_or o j zero_value) ⊗ y (suc j)
  of-objective j n [] o =
      let same : n + 0 ≡ n = omega arith in
      ap (λ i. row_value i y (column_lines j n [] o)) same ∙ last j n o
  of-objective j n (e ∷ es) o =
      let same : n + suc (length es) ≡ suc n + length es = omega arith in
      after-row j n e es o (n + suc (length es)) (omega arith) ∙ ap (λ i. row_value i y (column_lines j (suc n) es o)) same ∙ of-objective j (suc n) es o

  -- all variables
  all-columns : (es : List Entry) (o r : Row) (i : ℕ) → ((j : ℕ) → row_value i y (column_lines j 1 es o) ≡ exactly (get_or r j zero_value) ⊗ y (suc j))
      → (n j : ℕ) → row_value i y (col_lines n j es o) ≡ sum_from (λ j. exactly (get_or r j zero_value) ⊗ y (suc j)) n j
  unfolding sum_from col_lines
  all-columns es o r i h zero j = nothing i
  all-columns es o r i h (suc n) j = sum-append i (column_lines j 1 es o) (col_lines n (suc j) es o) ∙ rw (h j, all-columns es o r i h n (suc j))

  pub of-lines : (i : ℕ) (m : Model) (p : Lp) → row_value i y (lines_of m p) ≡ row_value i y (col_lines (length p.variables) 0 (rows p) p.objective)
  unfolding lines_of row_value column_term
  of-lines i m p =
      zero-add _
      ∙ skip i (row_lines 1 (rows p)) _ (row-lines-zero i 1 (rows p))
      ∙ skip i (var_lines m.structure.names p 0 p.variables) _ (var-lines-zero i _ p 0 p.variables)
      ∙ sum-append i (col_lines (length p.variables) 0 (rows p) p.objective) (ending_line ∷ [])
      ∙ ap (λ q. row_value i y (col_lines (length p.variables) 0 (rows p) p.objective) ⊕ q) (zero-add 𝟎) ∙ add-zero _

sum_same : (f g : ℕ → ℚ) → ((j : ℕ) → f j ≡ g j) → (n j : ℕ) → sum_from f n j ≡ sum_from g n j
unfolding sum_from
sum_same f g h zero j = refl
sum_same f g h (suc n) j = rw (h j, sum_same f g h n (suc j))

sum-shift : (f : ℕ → ℚ) (n j : ℕ) → sum_from f n (suc j) ≡ sum_from (λ k. f (suc k)) n j
unfolding sum_from
sum-shift f zero j = refl
sum-shift f (suc n) j = ap (λ q. f (suc j) ⊕ q) (sum-shift f n (suc j))

dot-sum : (r : Row) (xs : List ℚ) (n : ℕ) → length r ≡ n → length xs ≡ n → sum_from (λ j. exactly (get_or r j zero_value) ⊗ get_or xs j 𝟎) n 0 ≡ dot r xs
unfolding sum_from dot
dot-sum [] [] zero a b = refl
dot-sum [] [] (suc n) a b = absurd (omega arith)
dot-sum [] (x ∷ xs) n a b = absurd (omega arith)
dot-sum (v ∷ r) [] n a b = absurd (omega arith)
dot-sum (v ∷ r) (x ∷ xs) zero a b = absurd (omega arith)
dot-sum (v ∷ r) (x ∷ xs) (suc n) a b =
    ap (λ q. exactly v ⊗ x ⊕ q) (sum-shift (λ j. exactly (get_or (v ∷ r) j zero_value) ⊗ get_or (x ∷ xs) j 𝟎) n 0 ∙ dot-sum r xs n (omega arith) (omega arith))

module _ (m : Model) (p : Lp) (x : Variable → ℚ) where
  pub by_number_lem : (j : ℕ) → by_number p x (suc j) ≡ get_or (map x p.variables) j 𝟎
  unfolding by_number
  by_number_lem j = let e : suc j - 1 ≡ j = omega arith in ap (λ k. get_or (map x p.variables) k 𝟎) e

  -- the sum over all variables
  total : (i : ℕ) (r : Row) → length r ≡ length p.variables
      → ((j : ℕ) → row_value i (by_number p x) (column_lines j 1 (rows p) p.objective) ≡ exactly (get_or r j zero_value) ⊗ by_number p x (suc j))
      → row_value i (by_number p x) (lines_of m p) ≡ dot r (map x p.variables)
  total i r long h =
      of-lines (by_number p x) i m p
      ∙ all-columns (by_number p x) (rows p) p.objective r i h (length p.variables) 0
      ∙ sum_same _ (λ j. exactly (get_or r j zero_value) ⊗ get_or (map x p.variables) j 𝟎) (λ j. ap (λ q. exactly (get_or r j zero_value) ⊗ q) (by_number_lem j)) (length p.variables) 0
      ∙ dot-sum r (map x p.variables) (length p.variables) long (length-map p.variables x)

  -- the lines of row i, counted from 0, and of the objective
  pub row-lines : (i : ℕ) (e : Entry) → At (rows p) i e → length (coefficients_of e.fact) ≡ length p.variables
      → row_value (suc i) (by_number p x) (lines_of m p) ≡ dot (coefficients_of e.fact) (map x p.variables)
  row-lines i e at long =
      let same : suc i ≡ 1 + i = omega arith in
      total (suc i) (coefficients_of e.fact) long
      (λ j. ap (λ k. row_value k (by_number p x) (column_lines j 1 (rows p) p.objective)) same ∙ of_row (by_number p x) j 1 (rows p) p.objective i e at)

  pub objective-lines : length p.objective ≡ length p.variables
      → row_value (suc (length (rows p))) (by_number p x) (lines_of m p) ≡ dot p.objective (map x p.variables)
  objective-lines long =
      let same : suc (length (rows p)) ≡ 1 + length (rows p) = omega arith in
      total (suc (length (rows p))) p.objective long
      (λ j. ap (λ k. row_value k (by_number p x) (column_lines j 1 (rows p) p.objective)) same ∙ of-objective (by_number p x) j 1 (rows p) p.objective)
