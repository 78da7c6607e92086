-- Coefficients: one, those of a variable, and its line of the objective.
use Rattle.std.specs.Prelude.{Option, Some, None}
use mathlib.Core.Path.{◌≡◌, refl, sym, ◌∙◌, ap}
use mathlib.Core.Bool.{Bool, true, false, not, cond}
use mathlib.Core.List.{List, [], ◌∷◌, ◌++◌, append_assoc, append-nil}
use Prim.Native.Nat.{ℕ, zero, suc, ◌+◌, ◌*◌, ◌^◌, ◌<◌, ◌≤◌}
use native.Mathlib.Omega.{arith}
use native.Mathlib.Numerals.{add-one}
use borrow.Author.Tests.{not-true, not-false}
use lib.ListN.{length, get_or, drop}
use lib.IntN.{pos}
use Rattle.rules.specs.Characters.{bytes, line_feed}
use Rattle.value.specs.declared.Value.{Value}
use Rattle.value.specs.Decimal.{Valid, of_whole, is_zero, in_range, negate}
use Rattle.value.specs.Printed.{shown, Written}
use Rattle.value.proofs.Writing.{written_then, shown-valid}
use Rattle.value.proofs.Operations.{zero-valid, negate-valid, valid-negated}
use Rattle.language.specs.Listing.{Line, col_line}
use Rattle.listing.specs.Shown.{shown_line, shown_lines}
use Rattle.mps.specs.Sheet.{Column}
use Rattle.mps.specs.Export.{named, cell_head, floor_cell_head, objective_head, value_line}
use Rattle.mps.specs.Report.{bare_line, bare_lines, cells_from, column_of}
use Rattle.mps.specs.Reading.{Read, Reader, follow, ◌>>=◌, give, unless, strip, as_read, expect, read_value, line_value, first_has, later_have, repeated, cell_by, read_cells, read_column}
use Rattle.importer.specs.Sections.{read_each, bytes_each, head_of, again_line, cell_or, cell_at, cell_bytes, column_bytes}
use Rattle.importer.specs.Steps.{rest_of, Strips, read_of, Finds, Walked, Walks}
use Rattle.importer.proofs.Stripping.{then-none, then_some}
use Rattle.importer.proofs.Walking.{Each, each-length, each_more, each-stop}
use Rattle.importer.proofs.Lines.{column-bare, cell-written}

-- ---- a coefficient's line again, in the floor

module _ (bs : List Bool) (j i : ℕ) (v : Value) (text : List ℕ) (at : ℕ) (q : Bool) (g : q ≡ get_or bs i false) where
  pub again-none : not q ≡ true → at ≤ length text → Strips (again_line bs j i v) text at (Some at)
  unfolding again_line strip
  again-none f h = record { is = rw (← g, not-true q f); inside = h }

  module _ (f : not q ≡ false) (ok : Valid v) (m : Option ℕ) (s : Strips (head_of (j + 1) (bytes " F") (i + 1)) text at m) where
    line-is : head_of (j + 1) (bytes " F") (i + 1) ++ (shown v ++ (line_feed ∷ [])) ≡ again_line bs j i v
    unfolding again_line head_of floor_cell_head value_line
    line-is = rw (← g, not-false q f, shown-valid v ok, add-one j, add-one i)

    pub again-head : m ≡ None → Strips (again_line bs j i v) text at None
    again-head e = rw line-is at (then-none s (shown v ++ (line_feed ∷ [])) e)

    module _ (n : ℕ) (e : m ≡ Some n) (k : Option ℕ) (t : Strips (shown v) text n k) where
      pub again-other : k ≡ None → Strips (again_line bs j i v) text at None
      again-other z = rw line-is at (then_some s (shown v ++ (line_feed ∷ [])) e (then-none t (line_feed ∷ []) z))

      pub again-all : (x : ℕ) (r : Option ℕ) → k ≡ Some x → Strips (line_feed ∷ []) text x r → Strips (again_line bs j i v) text at r
      again-all x r z u = rw line-is at (then_some s (shown v ++ (line_feed ∷ [])) e (then_some t (line_feed ∷ []) z u))

-- ---- one coefficient

module _ (bs : List Bool) (j i : ℕ) (text : List ℕ) (at : ℕ) (m : Option ℕ) (s : Strips (head_of (j + 1) (bytes " R") (i + 1)) text at m) where
  head : strip (cell_head (suc j) (suc i)) (drop at text) ≡ rest_of text m
  unfolding head_of cell_head
  head = rw (add-one j, add-one i) at s.is

  pub cell-blank : (z : Value) → m ≡ None → z ≡ of_whole (pos 0) → at ≤ length text → Finds (cell_at bs j i) text at (Some (z, at))
  unfolding cell_at cell_or of_whole
  cell-blank z e f h = record { is = rw (head, e, f); inside = (rw f zero-valid, h) }

  module _ (n : ℕ) (e : m ≡ Some n) (r : Option (Value × ℕ)) (d : Finds read_value text n r) where
    pub cell-unread : r ≡ None → Finds (cell_at bs j i) text at None
    unfolding cell_at cell_or
    cell-unread f = record { is = rw (head, e, d.is, f); inside = tt }

    module _ (v : Value) (x : ℕ) (f : r ≡ Some (v, x)) (z : Bool) (g : z ≡ is_zero v) where
      pub cell-zero : z ≡ true → Finds (cell_at bs j i) text at None
      unfolding cell_at cell_or
      cell-zero k = record { is = rw (head, e, d.is, f, ← g, k); inside = tt }

      module _ (k : z ≡ false) (a : Option ℕ) (t : Strips (again_line bs j i v) text x a) where
        pub cell_other : a ≡ None → Finds (cell_at bs j i) text at None
        unfolding cell_at cell_or
        cell_other y = record { is = rw (head, e, d.is, f, ← g, k, t.is, y); inside = tt }

        pub cell-found : (y : ℕ) → a ≡ Some y → Finds (cell_at bs j i) text at (Some (v, y))
        unfolding cell_at cell_or
        cell-found y u = record { is = rw (head, e, d.is, f, ← g, k, t.is, u); inside = ((rw f at d.inside).0, rw u at t.inside) }

-- ---- the coefficients of a variable

module _ (bs : List Bool) (n j : ℕ) (text : List ℕ) (at : ℕ) (out : List ℕ) (place i next : ℕ) (o : List ℕ) (p : ℕ) (h : Each (cell_at bs j) (cell_bytes j) n text at out place i next o p) (b : i < n) (r : Option (Value × ℕ)) (d : Finds (cell_at bs j i) text next r) where
  pub cells-more : (v : Value) (x p' : ℕ) (o' : List ℕ) → n ≤ 512 → j < 512 → r ≡ Some (v, x) → Written o p (shown_lines (cond (is_zero v) [] (col_line (j + 1) (i + 1) v ∷ []))) p' o' → p' ≤ p + 128
      → Each (cell_at bs j) (cell_bytes j) n text at out place (i + 1) x o' p'
  cells-more v x p' o' k t e w s =
      let f = rw e at d.inside in
      each_more (cell_at bs j) (cell_bytes j) n text at out place i next o p h b v x p' o' (rw e at d.is) f.1 (cell-written j i v t (omega arith) f.0 w) (omega arith)

  pub cells-stop : (l : List ℕ) → r ≡ None → Walks (read_each (cell_at bs j) n 0) (bytes_each (cell_bytes j) 0) (256 * n) text at out place None l
  cells-stop l e = record { is = each-stop (cell_at bs j) (cell_bytes j) n text at out place i next o p h b (rw e at d.is); inside = tt }

-- ---- as the definition reads and prints them

again-is : (bs : List Bool) (j i : ℕ) (v : Value) (l : List ℕ) → repeated (get_or bs i false) j i v l ≡ expect (again_line bs j i v) l
unfolding again_line repeated strip
again-is bs j i v l = go (get_or bs i false)
  where
    go : (b : Bool) → repeated b j i v l ≡ expect (cond b (value_line (floor_cell_head (suc j) (suc i)) v) []) l
    go true = refl
    go false = refl

pub first-has : (bs : List Bool) (i : ℕ) → first_has (drop i bs) ≡ get_or bs i false
first-has [] zero = refl
first-has [] (suc i) = refl
first-has (b ∷ bs) zero = refl
first-has (b ∷ bs) (suc i) = first-has bs i

pub later-have : (bs : List Bool) (i : ℕ) → later_have (drop i bs) ≡ drop (suc i) bs
later-have [] zero = refl
later-have [] (suc i) = refl
later-have (b ∷ bs) zero = refl
later-have (b ∷ bs) (suc i) = later-have bs i

same-cells : (again : Value → Reader (Unit {0})) (w : Value → List ℕ) (m m' : Reader (List Value)) → ((v : Value) (l : List ℕ) → again v l ≡ expect (w v) l) → ((l : List ℕ) → m l ≡ m' l)
    → (l : List ℕ) (o : Option (List ℕ)) → cell_by again m l o ≡ follow (cell_or w l o) (λ v. m' >>= λ vs. give (v ∷ vs))
unfolding cell_by cell_or
same-cells again w m m' a h l None = rw (h l)
same-cells again w m m' a h l (Some r) = go (read_value r)
  where
    behind : (v : Value) (q : Option (Read (Unit {0}))) → follow q (λ _. m >>= λ vs. give (v ∷ vs)) ≡ follow (follow q (λ _. give v)) (λ v. m' >>= λ vs. give (v ∷ vs))
    behind v None = refl
    behind v (Some x) = rw (h x.rest)

    zero_or : (v : Value) (t : List ℕ) (z : Bool) → unless z (again v >>= λ _. m >>= λ vs. give (v ∷ vs)) t ≡ follow (unless z (expect (w v) >>= λ _. give v) t) (λ v. m' >>= λ vs. give (v ∷ vs))
    zero_or v t true = refl
    zero_or v t false = rw (a v t) (behind v (as_read (strip (w v) t)))

    go : (q : Option (Read Value)) → follow q (λ v. unless (is_zero v) (again v >>= λ _. m >>= λ vs. give (v ∷ vs)))
        ≡ follow (follow q (λ v. unless (is_zero v) (expect (w v) >>= λ _. give v))) (λ v. m' >>= λ vs. give (v ∷ vs))
    go None = refl
    go (Some x) = zero_or x.what x.rest (is_zero x.what)

module _ (bs : List Bool) (j : ℕ) where
  cells-from : (k i : ℕ) (l : List ℕ) → read_cells j k i (drop i bs) l ≡ read_each (cell_at bs j) k i l
  unfolding read_cells read_each cell_at
  cells-from zero i l = refl
  cells-from (suc k) i l =
      rw (first-has bs i, later-have bs i)
      (same-cells (repeated (get_or bs i false) j i) (again_line bs j i) (read_cells j k (suc i) (drop (suc i) bs)) (read_each (cell_at bs j) k (suc i)) (again-is bs j i) (cells-from k (suc i)) l (strip (cell_head (suc j) (suc i)) l))

  pub cells_are : (k : ℕ) (l : List ℕ) → read_cells j k 0 bs l ≡ read_each (cell_at bs j) k 0 l
  cells_are k l = cells-from k 0 l

pub bare-append : (a b : List Line) → bare_lines (a ++ b) ≡ bare_lines a ++ bare_lines b
unfolding bare_lines
bare-append [] b = refl
bare-append (x ∷ a) b = ap (λ (l : List ℕ). bare_line x ++ l) (bare-append a b) ∙ sym (append_assoc (bare_line x) (bare_lines a) (bare_lines b))

pub cells-bytes : (j i : ℕ) (vs : List Value) → bare_lines (cells_from j i vs) ≡ bytes_each (cell_bytes j) i vs
unfolding cells_from bytes_each cell_bytes bare_lines
cells-bytes j i [] = refl
cells-bytes j i (v ∷ vs) =
    bare-append (cond (is_zero v) [] (col_line (suc j) (suc i) v ∷ [])) (cells_from j (suc i) vs)
    ∙ ap (λ (l : List ℕ). bare_lines (cond (is_zero v) [] (col_line (suc j) (suc i) v ∷ [])) ++ l) (cells-bytes j (suc i) vs)

column-bytes : (j : ℕ) (c : Column) → column_bytes j c ≡ bytes_each (cell_bytes j) 0 c.cells ++ bare_line (col_line (suc j) (suc (length c.cells)) c.objective)
unfolding column_bytes column_of bare_lines
column-bytes j c =
    bare-append (cells_from j 0 c.cells) (col_line (suc j) (suc (length c.cells)) c.objective ∷ [])
    ∙ rw (cells-bytes j 0 c.cells, append-nil (bare_line (col_line (suc j) (suc (length c.cells)) c.objective)))

-- ---- a column

module _ (bs : List Bool) (rows j : ℕ) (text : List ℕ) (at : ℕ) (out : List ℕ) (place : ℕ) (r : Option (ℕ × ℕ)) (o : List ℕ) (h : Walks (read_each (cell_at bs j) rows 0) (bytes_each (cell_bytes j) 0) (256 * rows) text at out place r o) where
  pub column-none : (l : List ℕ) → r ≡ None → Walks (read_column bs rows j) (column_bytes j) 131328 text at out place None l
  unfolding read_column
  column-none l e = record { is = rw (cells_are bs j rows (drop at text), (rw e at h.is)); inside = tt }

  module _ (n p : ℕ) (e : r ≡ Some (n, p)) (f : Option (Value × ℕ)) (d : Finds (line_value (named (bytes " C") (j + 1) (bytes " OBJ "))) text n f) where
    goal : line_value (objective_head (suc j)) (drop n text) ≡ read_of text f
    unfolding objective_head
    goal = rw (add-one j) at d.is

    walked : Walked (read_each (cell_at bs j) rows 0) (bytes_each (cell_bytes j) 0) text at out place n p o
    walked = rw e at h.is

    pub column-open : (l : List ℕ) → f ≡ None → Walks (read_column bs rows j) (column_bytes j) 131328 text at out place None l
    unfolding read_column
    column-open l g = record { is = rw (cells_are bs j rows (drop at text), walked.is, (rw g at goal)); inside = tt }

    module _ (v : Value) (x : ℕ) (g : f ≡ Some (v, x)) (w : Value) (i : w ≡ cond (in_range v) (negate v) v) (p' : ℕ) (o' : List ℕ) where
      valid : Valid v
      valid = (rw g at d.inside).0

      opposite : w ≡ negate v
      opposite = i ∙ valid-negated v valid

      count : length walked.what ≡ rows
      count = each-length (cell_at bs j) (cell_bytes j) rows 0 (drop at text) _ walked.is

      pub column-all : rows ≤ 512 → j < 512 → Written o p (shown_line (col_line (j + 1) (rows + 1) w)) p' o' → p' ≤ p + 128 → Walks (read_column bs rows j) (column_bytes j) 131328 text at out place (Some (x, p')) o'
      unfolding read_column
      column-all a b k s =
          let ok : Valid w = rw opposite (negate-valid v valid) in
          let line = rw (add-one j, add-one rows, column-bare (suc j) (suc rows) w (omega arith) (omega arith) ok) at k in
          let c : Column = record { cells = walked.what; objective = negate v } in
          record {
            is =
                record {
                  what = c;
                  is = rw (cells_are bs j rows (drop at text), walked.is, (rw g at goal));
                  written = rw (column-bytes j c, count, ← opposite) (written_then _ _ _ _ _ _ _ _ walked.written line);
                };
            inside = ((rw g at d.inside).1, omega (arith, (rw e at h.inside).1));
          }

pub column-place : (bs : List Bool) (rows j : ℕ) (text : List ℕ) (at : ℕ) (out : List ℕ) (place : ℕ) (r : Option (ℕ × ℕ)) (o : List ℕ) (n p : ℕ)
    → Walks (read_each (cell_at bs j) rows 0) (bytes_each (cell_bytes j) 0) (256 * rows) text at out place r o → r ≡ Some (n, p) → rows ≤ 512 → place < 2 ^ 39 → p < 2 ^ 40
column-place bs rows j text at out place r o n p h e b k = omega (arith, (rw e at h.inside).1)
