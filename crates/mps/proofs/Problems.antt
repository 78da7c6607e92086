-- The sheet of an accepted text's problem is of document 01's form, and what a reader of its export reports is the listing without its strings,
-- names and index values.
use Rattle.std.specs.Prelude.{None, Option}
use mathlib.Core.Path.{◌≡◌, refl, sym, ◌∙◌, ap, subst}
use mathlib.Core.Bool.{Bool, true, false, cond}
use mathlib.Core.List.{List, [], ◌∷◌, ◌++◌, map, append_assoc, append-nil}
use Prim.Native.Nat.{ℕ, zero, suc, ◌+◌, ◌-◌, ◌≤◌}
use native.Mathlib.Omega.{arith}
use lib.Dec.{ltb}
use lib.ListN.{length, get_or, length-append, length-map}
use Rattle.value.specs.declared.Value.{Value}
use Rattle.value.specs.Decimal.{Valid, zero_value, is_zero}
use Rattle.value.proofs.Operations.{zero-valid}
use Rattle.language.specs.Listed.{In}
use Rattle.language.proofs.Listed.{in_left, in_right}
use Rattle.language.specs.All.{All}
use Rattle.language.proofs.All.{in_all, all_append, all_get_d, all_map}
use Rattle.language.specs.Outcome.{done}
use Rattle.language.proofs.Outcome.{after, done-injective}
use Rattle.language.specs.Scope.{Scope}
use Rattle.language.specs.Syntax.{Name, Relation, at_most, at_least, between}
use Rattle.language.specs.Syntax
use Rattle.language.specs.Written.{scope_at}
use Rattle.language.specs.Model.{Model, start, discretes, continuouses}
use Rattle.language.specs.Store.{all_given}
use Rattle.language.specs.Numbering.{Variable, add_variables, Row, gathered, Entry, is_equal, add_entries, less_row, equal_row, Lp, less_rows, equal_rows, rows, lower_of, upper_of, generate}
use Rattle.language.proofs.Numbered.{variables-made, keep-in}
use Rattle.language.specs.Demand3.{FloorIs}
use Rattle.language.proofs.Kept.{keeps}
use Rattle.language.specs.Listing.{Kind, Line, row_line, var_line, col_line, ending_line, right_of, coefficients_of, kind_of, low_lines, row_lines, var_lines, column_lines, col_lines, lines_of, kind_by}
use Rattle.language.specs.Listing as Listing
use Rattle.language.specs.Answer.{Accepted, accepted}
use Rattle.language.proofs.Answer.{accepted-of}
use Rattle.language.specs.Valid.{ValidIfAny, ValidEntry, ValidProblem}
use Rattle.language.proofs.ValidProblem.{lower-valid, upper-valid}
use Rattle.language.proofs.ValidText.{accepted-valid}
use Rattle.language.proofs.ProperText.{right_of-valid, coefficients-valid, kept-all}
use Rattle.mps.specs.Sheet.{columns, ColumnFormed, BoundsFormed, Formed}
use Rattle.mps.specs.Report.{bare_line, bare_lines, rows_from, variables_from, cells_from, column_of, columns_of, sheet_lines, bare_of}
use Rattle.mps.specs.Problem.{entry_right, entry_floor, cell_of, column_at, bounds_at, each, sheet_of}

-- ---- what is known of a generated problem

rows-valid : (p : Lp) → ValidProblem p → All ValidEntry (rows p)
unfolding rows less_rows equal_rows
rows-valid p h = all_append ValidEntry (less_rows p) (equal_rows p) (kept-all ValidEntry less_row p.entries h.entries) (kept-all ValidEntry equal_row p.entries h.entries)

rows-counted : (p : Lp) → length (rows p) ≡ length (map entry_floor (less_rows p)) + length (equal_rows p)
unfolding rows
rows-counted p = rw (length-map (less_rows p) entry_floor) (length-append (less_rows p) (equal_rows p))

floors-valid : (p : Lp) → ValidProblem p → All ValidIfAny (map entry_floor (less_rows p))
unfolding less_rows entry_floor
floors-valid p h = all_map ValidEntry ValidIfAny entry_floor (λ e k. k.floor) (less_rows p) (kept-all ValidEntry less_row p.entries h.entries)

pub discrete-first : (m : Model) (p : Lp) → generate m ≡ done p → p.discrete ≤ length p.variables
unfolding generate
discrete-first m p e =
    after (all_given 0 m.structure.names (start m)) _ p e λ _ _ e.
    after (add_variables (start m) (discretes m) []) _ p e λ a da e.
    after (add_variables (start m) (continuouses m) a) _ p e λ b cb e.
    after (gathered b m.structure.objective (start m)) _ p e λ o ob e.
    after (add_entries b (start m) 0 m.structure.constraints []) _ p e λ es ce e.
    let v = variables-made m a b da cb in
    subst (λ (q : Lp). q.discrete ≤ length q.variables) (done-injective e)
    (omega (arith, v.counted, length-append v.discrete v.continuous, ap length v.joined))

right_valid : (e : Entry) → ValidEntry e → Valid (entry_right e)
unfolding entry_right
right_valid e h = right_of-valid e.fact h.fact

cell-valid : (j : ℕ) (e : Entry) → ValidEntry e → Valid (cell_of j e)
unfolding cell_of
cell-valid j e h = all_get_d Valid (coefficients_of e.fact) j zero_value (coefficients-valid e.fact h.fact) zero-valid

-- ---- one for each variable

module _ {A : Type 0} (f : ℕ → A) where
  each-length : (k j : ℕ) → length (each f k j) ≡ k
  unfolding each
  each-length zero j = refl
  each-length (suc k) j = ap suc (each-length k (suc j))

  each_all : (P : A → Type 0) → ((j : ℕ) → P (f j)) → (k j : ℕ) → All P (each f k j)
  unfolding each
  each_all P h zero j = tt
  each_all P h (suc k) j = (h j, each_all P h k (suc j))

  each_append : (k l j : ℕ) → each f k j ++ each f l (j + k) ≡ each f (k + l) j
  unfolding each
  each_append zero l j = let a : j + 0 ≡ j = omega arith in let b : 0 + l ≡ l = omega arith in rw (a, b)
  each_append (suc k) l j =
      let a : j + suc k ≡ suc j + k = omega arith in
      let b : suc k + l ≡ suc (k + l) = omega arith in
      rw (a, b) (ap (λ r. f j ∷ r) (each_append k l (suc j)))

-- ---- the sheet's form

column-formed : (p : Lp) → ValidProblem p → (j : ℕ) → ColumnFormed (length (map entry_floor (less_rows p)) + length (equal_rows p)) (column_at p j)
unfolding column_at
column-formed p h j = record {
  size = length-map (rows p) (cell_of j) ∙ rows-counted p;
  cells = all_map ValidEntry Valid (cell_of j) (cell-valid j) (rows p) (rows-valid p h);
  objective = all_get_d Valid p.objective j zero_value h.objective zero-valid;
}

bounds-formed : (p : Lp) → ValidProblem p → (j : ℕ) → BoundsFormed (bounds_at p j)
unfolding bounds_at
bounds-formed p h j = record { lower = lower-valid p.entries j h.entries; upper = upper-valid p.entries j h.entries }

problem-formed : (p : Lp) → ValidProblem p → p.discrete ≤ length p.variables → Formed (sheet_of p)
unfolding sheet_of
problem-formed p h d =
    let n = length p.variables in
    let a = each-length (column_at p) p.discrete 0 in
    let b = each-length (column_at p) (n - p.discrete) p.discrete in
    record {
      row_count = length-map (rows p) entry_right ∙ rows-counted p;
      few_rows = omega (arith, h.few-rows, rows-counted p);
      variable_count = omega (arith, a, b, each-length (bounds_at p) n 0);
      few_variables = omega (arith, a, b, h.few-variables);
      floors = floors-valid p h;
      discrete = each_all (column_at p) _ (column-formed p h) p.discrete 0;
      continuous = each_all (column_at p) _ (column-formed p h) (n - p.discrete) p.discrete;
      rights = all_map ValidEntry Valid entry_right right_valid (rows p) (rows-valid p h);
      bounds = each_all (bounds_at p) BoundsFormed (bounds-formed p h) n 0;
    }

pub sheet-formed : (text : List ℕ) (a : Accepted) → accepted text ≡ done a → Formed (sheet_of a.problem)
sheet-formed text a e = problem-formed a.problem (accepted-valid text a e) (discrete-first a.model a.problem (accepted-of text a e).1)

-- ---- the lines

bare-append : (ks ls : List Line) → bare_lines (ks ++ ls) ≡ bare_lines ks ++ bare_lines ls
unfolding bare_lines
bare-append [] ls = refl
bare-append (k ∷ ks) ls = ap (λ r. bare_line k ++ r) (bare-append ks ls) ∙ sym (append_assoc (bare_line k) (bare_lines ks) (bare_lines ls))

-- A row from `<=` or `>=` has its kind by its floor; one from `=` has no floor.
abbrev KindByFloor : Entry → Type 0
KindByFloor e = kind_by e.floor ≡ kind_of e.source.constraint.relation

abbrev NoFloor : Entry → Type 0
NoFloor e = (Listing.equal ≡ kind_of e.source.constraint.relation) × (None ≡ e.floor)

kind-by-floor : (r : Relation) (s : Scope) (w : Option Value) (t : Bool) → FloorIs r s w → cond (is_equal r) false t ≡ true → kind_by w ≡ kind_of r
kind-by-floor at_most s w t h e = ap kind_by h
kind-by-floor at_least s w t h e = ap kind_by h
kind-by-floor Syntax.equal s w t h e = cc
kind-by-floor (between f) s w t h e = ap kind_by h.1

no-floor : (r : Relation) (s : Scope) (w : Option Value) (t : Bool) → FloorIs r s w → cond (is_equal r) t false ≡ true → (Listing.equal ≡ kind_of r) × (None ≡ w)
no-floor at_most s w t h e = cc
no-floor at_least s w t h e = cc
no-floor Syntax.equal s w t h e = (refl, sym h)
no-floor (between f) s w t h e = cc

module _ (m : Model) (p : Lp) (made : generate m ≡ done p) where
  floor-is : (e : Entry) → In (rows p) e → FloorIs e.source.constraint.relation (scope_at m e.source) e.floor
  floor-is e k = (keeps m p made).row-floor k.place e k.at

  less-kinds : All KindByFloor (less_rows p)
  unfolding rows less_rows equal_rows
  less-kinds = in_all KindByFloor (less_rows p) λ e k.
      kind-by-floor e.source.constraint.relation _ e.floor _ (floor-is e (in_left (less_rows p) (equal_rows p) e k)) (keep-in less_row p.entries e k).1

  equal-kinds : All NoFloor (equal_rows p)
  unfolding rows less_rows equal_rows
  equal-kinds = in_all NoFloor (equal_rows p) λ e k.
      no-floor e.source.constraint.relation _ e.floor _ (floor-is e (in_right (less_rows p) (equal_rows p) e k)) (keep-in equal_row p.entries e k).1

-- the line of a row, and what follows it
row_same : (n : ℕ) (e : Entry) (k : Kind) (w : Option Value) (ks ls : List Line) → k ≡ kind_of e.source.constraint.relation → w ≡ e.floor → bare_lines ks ≡ bare_lines ls
    → bare_lines (row_line n k (entry_right e) [] [] ∷ (low_lines n w ++ ks))
    ≡ bare_lines (row_line n (kind_of e.source.constraint.relation) (right_of e.fact) e.source.constraint.title e.source.element ∷ (low_lines n e.floor ++ ls))
unfolding bare_lines bare_line entry_right
row_same n e k w ks ls a b h = rw (a, b, bare-append (low_lines n e.floor) ks, bare-append (low_lines n e.floor) ls, h)

equal-rows : (i : ℕ) (es : List Entry) → All NoFloor es → bare_lines (rows_from i [] (map entry_right es)) ≡ bare_lines (row_lines (suc i) es)
unfolding rows_from row_lines low_lines
equal-rows i [] h = refl
equal-rows i (e ∷ es) h = row_same (suc i) e _ None _ _ h.0.0 h.0.1 (equal-rows (suc i) es h.1)

all-rows : (i : ℕ) (es fs : List Entry) → All KindByFloor es → All NoFloor fs
    → bare_lines (rows_from i (map entry_floor es) (map entry_right (es ++ fs))) ≡ bare_lines (row_lines (suc i) (es ++ fs))
unfolding rows_from row_lines entry_floor
all-rows i [] fs h k = equal-rows i fs k
all-rows i (e ∷ es) fs h k = row_same (suc i) e _ e.floor _ _ h.0 refl (all-rows (suc i) es fs h.1 k)

variables-same : (names : List Name) (p : Lp) (j : ℕ) (vs : List Variable)
    → bare_lines (variables_from p.discrete j (each (bounds_at p) (length vs) j)) ≡ bare_lines (var_lines names p j vs)
unfolding bare_lines bare_line variables_from var_lines each bounds_at
variables-same names p j [] = refl
variables-same names p j (v ∷ vs) =
    ap (λ r. bare_line (var_line (suc j) (ltb j p.discrete) (lower_of p.entries j) (upper_of p.entries j) [] []) ++ r) (variables-same names p (suc j) vs)

cells_same : (j i n : ℕ) (es : List Entry) (o : Row) → n ≡ i + length es
    → cells_from j i (map (cell_of j) es) ++ (col_line (suc j) (suc n) (get_or o j zero_value) ∷ []) ≡ column_lines j (suc i) es o
unfolding cells_from column_lines cell_of
cells_same j i n [] o h = let e : n ≡ i = omega arith in rw e
cells_same j i n (e ∷ es) o h = go (is_zero (cell_of j e)) (cells_same j (suc i) n es o (omega arith))
  where
    last : List Line
    last = col_line (suc j) (suc n) (get_or o j zero_value) ∷ []

    go : (t : Bool) → cells_from j (suc i) (map (cell_of j) es) ++ last ≡ column_lines j (suc (suc i)) es o
        → (cond t [] (col_line (suc j) (suc i) (cell_of j e) ∷ []) ++ cells_from j (suc i) (map (cell_of j) es)) ++ last
        ≡ elim t as (λ _. List Line) [ true ↦ column_lines j (suc (suc i)) es o | false ↦ col_line (suc j) (suc i) (cell_of j e) ∷ column_lines j (suc (suc i)) es o ]
    go true ih = ih
    go false ih = ap (λ r. col_line (suc j) (suc i) (cell_of j e) ∷ r) ih

columns-same : (p : Lp) (k j : ℕ) → columns_of j (each (column_at p) k j) ≡ col_lines k j (rows p) p.objective
unfolding columns_of column_of col_lines each column_at
columns-same p zero j = refl
columns-same p (suc k) j =
    ap (λ r. column_of j (column_at p j) ++ r) (columns-same p k (suc j))
    ∙ ap (λ r. r ++ col_lines k (suc j) (rows p) p.objective) (cells_same j 0 _ (rows p) p.objective (length-map (rows p) (cell_of j) ∙ omega arith))

-- part by part
parts_same : (a b c k l m : List Line) → bare_lines a ≡ bare_lines k → bare_lines b ≡ bare_lines l → bare_lines c ≡ bare_lines m → bare_lines (a ++ (b ++ c)) ≡ bare_lines (k ++ (l ++ m))
parts_same a b c k l m ea eb ec = rw (bare-append a (b ++ c), bare-append b c, bare-append k (l ++ m), bare-append l m, ea, eb, ec)

module _ (m : Model) (p : Lp) (made : generate m ≡ done p) where
  rows-part : bare_lines (rows_from 0 (map entry_floor (less_rows p)) (map entry_right (rows p))) ≡ bare_lines (row_lines 1 (rows p))
  unfolding rows
  rows-part = all-rows 0 (less_rows p) (equal_rows p) (less-kinds m p made) (equal-kinds m p made)

  variables-part : bare_lines (variables_from (length (each (column_at p) p.discrete 0)) 0 (each (bounds_at p) (length p.variables) 0)) ≡ bare_lines (var_lines m.structure.names p 0 p.variables)
  variables-part = rw (each-length (column_at p) p.discrete 0) (variables-same m.structure.names p 0 p.variables)

  columns-part : bare_lines (columns_of 0 (each (column_at p) p.discrete 0 ++ each (column_at p) (length p.variables - p.discrete) p.discrete))
      ≡ bare_lines (col_lines (length p.variables) 0 (rows p) p.objective ++ (ending_line ∷ []))
  unfolding bare_lines bare_line
  columns-part =
      let n = length p.variables in
      let a : 0 + p.discrete ≡ p.discrete = omega arith in
      let b : p.discrete + (n - p.discrete) ≡ n = omega (arith, discrete-first m p made) in
      let ls = col_lines n 0 (rows p) p.objective in
      ap bare_lines (ap (columns_of 0) (rw (a, b) at (each_append (column_at p) p.discrete (n - p.discrete) 0)) ∙ columns-same p n 0)
      ∙ sym (bare-append ls (ending_line ∷ []) ∙ append-nil (bare_lines ls))

  pub bare-listing : bare_of (sheet_of p) ≡ bare_lines (lines_of m p)
  unfolding bare_of sheet_lines sheet_of lines_of bare_lines bare_line
  bare-listing =
      let s = sheet_of p in
      let vars = var_lines m.structure.names p 0 p.variables in
      let cols = col_lines (length p.variables) 0 (rows p) p.objective ++ (ending_line ∷ []) in
      parts_same (rows_from 0 s.floors s.rights) (variables_from (length s.discrete) 0 s.bounds) (columns_of 0 (columns s)) (row_lines 1 (rows p)) vars cols rows-part variables-part columns-part

pub read-back-is : (text : List ℕ) (a : Accepted) → accepted text ≡ done a → bare_of (sheet_of a.problem) ≡ bare_lines (lines_of a.model a.problem)
read-back-is text a e = bare-listing a.model a.problem (accepted-of text a e).1
