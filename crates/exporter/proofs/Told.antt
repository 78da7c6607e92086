-- What the tables of a problem tell is the definition's export of the problem.
use Rattle.std.specs.Prelude.{Option, Some, None}
use mathlib.Core.Path.{◌≡◌, refl, sym, ◌∙◌, ap}
use mathlib.Core.Bool.{Bool, true, false, not, cond}
use mathlib.Core.List.{List, [], ◌∷◌, ◌++◌, map, append_assoc}
use Prim.Native.Nat.{ℕ, zero, suc, ◌+◌, ◌-◌, ◌<◌, ◌≤◌}
use native.Mathlib.Omega.{arith}
use native.Mathlib.Numerals.{add-one}
use borrow.Author.Tests.{lt-ltb, le-ltb, le-leb, leb-true, not-true}
use lib.Dec.{leb}
use lib.ListN.{length, get_or, length-append, length-map}
use lib.IntN.{ℤ}
use Rattle.rules.specs.Characters.{bytes}
use Rattle.value.specs.declared.Value.{Value}
use Rattle.value.specs.Decimal.{Valid, zero_value, negate, is_zero}
use Rattle.value.specs.Printed.{Written}
use Rattle.value.proofs.Operations.{negate-valid, valid-negated}
use Rattle.value.proofs.Ranges.{and_left, and_right}
use Rattle.value.proofs.Writing.{written_then, shown-valid}
use Rattle.language.specs.Listed.{At}
use Rattle.language.proofs.Listed.{at_length}
use Rattle.language.specs.Numbering.{Entry, Lp, less_rows, equal_rows, rows, lower_of, upper_of}
use Rattle.language.specs.Valid.{ValidIfAny}
use Rattle.store.specs.Table.{Table, word_at}
use Rattle.store.specs.Packed.{unpacked}
use Rattle.rows.specs.declared.Sizes.{Sizes}
use Rattle.rows.specs.Slots.{objective_row, less_slot, Slot}
use Rattle.rows.specs.Bounds.{BoundTable}
use Rattle.rows.specs.Read.{within, slot_at, count_at, value_of}
use Rattle.rows.specs.Held.{Held}
use Rattle.rows.proofs.Reading.{Within, within-yes, yes-within}
use Rattle.rows.proofs.Held.{slot_held, value-told, word_back, lower-told, upper-told, floor-told, row-valid, lower-held, upper-held}
use Rattle.mps.specs.Export.{cell_head, floor_cell_head, objective_head, right_head, floor_head, lower_head, upper_head, value_line, if_floor, less_lines, equal_lines, first_floor, later_floors, cell_lines, column_lines, columns_from, discrete_lines, right_lines, upper_line, bound_lines, mps_of}
use Rattle.mps.specs.Problem.{entry_right, entry_floor, cell_of, column_at, bounds_at, each, sheet_of}
use Rattle.exporter.specs.Texts.{text_from, shown_line, floor_at, floor_row, row_text, shown_twice, shown_cell, cell_text, opposite, objective_text, column_text, discrete_text, shown_floor, right_text, shown_upper, bound_text, rows_text, columns_text, rights_text, bounds_text}
use Rattle.exporter.specs.Exports.{formed, Exports}

-- ---- lines of valid values

line-shown : (h : List ℕ) (v : Value) → Valid v → shown_line h v ≡ value_line h v
unfolding shown_line value_line
line-shown h v k = rw (shown-valid v k)

upper-shown : (j : ℕ) (u : Option Value) → ValidIfAny u → shown_upper j u ≡ upper_line j u
unfolding shown_upper upper_line
upper-shown j None k = refl
upper-shown j (Some v) k = line-shown (upper_head j) v k

floor-shown : (n : ℕ) (w : Option Value) → ValidIfAny w → shown_floor n w ≡ if_floor w (λ v. value_line (floor_head n) v)
unfolding shown_floor
floor-shown n None k = refl
floor-shown n (Some v) k = line-shown (floor_head n) v k

twice-shown : (j i : ℕ) (v : Value) (w : Option Value) → Valid v → shown_twice j i v w ≡ value_line (cell_head j i) v ++ if_floor w (λ _. value_line (floor_cell_head j i) v)
unfolding shown_twice
twice-shown j i v None k = rw (line-shown (cell_head j i) v k)
twice-shown j i v (Some x) k = rw (line-shown (cell_head j i) v k, line-shown (floor_cell_head j i) v k)

cell-shown : (j i : ℕ) (v : Value) (w : Option Value) → Valid v
    → shown_cell j i v w ≡ cond (is_zero v) [] (value_line (cell_head j i) v ++ if_floor w (λ _. value_line (floor_cell_head j i) v))
unfolding shown_cell
cell-shown j i v w k = ap (λ r. cond (is_zero v) [] r) (twice-shown j i v w k)

-- ---- floors

module _ (t : Table) (less : ℕ) where
  record FloorTold (i : ℕ) (w : Option Value) : Type 0 where
    value : floor_at t less i ≡ w
    valid : ValidIfAny w

  -- those of the rows from row i on; none behind the last of the list
  abbrev FloorsTold : ℕ → List (Option Value) → Type 0
  FloorsTold i ws = (n : ℕ) → FloorTold (i + n) (get_or ws n None)

  first-told : (i : ℕ) (ws : List (Option Value)) → FloorsTold i ws → FloorTold i (first_floor ws)
  first-told i [] h = let x : i + 0 ≡ i = omega arith in rw x at (h 0)
  first-told i (w ∷ ws) h = let x : i + 0 ≡ i = omega arith in rw x at (h 0)

  later-told : (i : ℕ) (ws : List (Option Value)) → FloorsTold i ws → FloorsTold (i + 1) (later_floors ws)
  later-told i [] h n = let y : i + 1 + n ≡ i + suc n = omega arith in rw y (h (suc n))
  later-told i (w ∷ ws) h n = let y : i + 1 + n ≡ i + suc n = omega arith in rw y (h (suc n))

  -- ---- rows

  equal-told : (k i : ℕ) → less ≤ i → text_from (row_text t less) k i ≡ equal_lines k i
  unfolding text_from row_text equal_lines
  equal-told zero i h = refl
  equal-told (suc k) i h = rw (le-ltb i less h, equal-told k (i + 1) (omega arith), add-one i)

  rows_told : (k i : ℕ) (ws : List (Option Value)) → i + length ws ≡ less → FloorsTold i ws
      → text_from (row_text t less) (length ws + k) i ≡ less_lines i ws ++ equal_lines k (i + length ws)
  unfolding text_from row_text floor_row less_lines
  rows_told k i [] e h =
      let x : 0 + k ≡ k = omega arith in
      let y : i + 0 ≡ i = omega arith in
      rw (x, y) (equal-told k i (omega arith))
  rows_told k i (w ∷ ws) e h =
      let x : suc (length ws) + k ≡ suc (length ws + k) = omega arith in
      let y : i + suc (length ws) ≡ i + 1 + length ws = omega arith in
      let c = first-told i (w ∷ ws) h in
      rw (x, y, lt-ltb i less (omega arith), c.value, rows_told k (i + 1) ws (omega arith) (later-told i (w ∷ ws) h), add-one i)
      (simp append_assoc)

-- ---- coefficients

module _ (m : List ℤ) (less j : ℕ) where
  -- the coefficient in row i
  record CellTold (i : ℕ) (e : Entry) : Type 0 where
    value : value_of (count_at m (slot_at less i) j) ≡ cell_of j e
    valid : Valid (cell_of j e)

  cells_told : (t : Table) (i : ℕ) (ws : List (Option Value)) (es : List Entry) → FloorsTold t less i ws → ((n : ℕ) (e : Entry) → At es n e → CellTold (i + n) e)
      → text_from (cell_text t m less j) (length es) i ≡ cell_lines j i ws (map (cell_of j) es)
  unfolding text_from cell_text cell_lines
  cells_told t i ws [] f h = refl
  cells_told t i ws (e ∷ es) f h =
      let x : i + 0 ≡ i = omega arith in
      let c = rw x at (h 0 e refl) in
      let w = first-told t less i ws f in
      let rest = cells_told t (i + 1) (later_floors ws) es (later-told t less i ws f) (λ n f a. let y : i + 1 + n ≡ i + suc n = omega arith in rw y (h (suc n) f a)) in
      rw (c.value, w.value, cell-shown (j + 1) (i + 1) (cell_of j e) (first_floor ws) c.valid, rest, add-one i, add-one j)

  objective-told : (v : Value) → value_of (count_at m objective_row j) ≡ v → Valid v → objective_text m j ≡ value_line (objective_head (suc j)) (negate v)
  unfolding objective_text opposite
  objective-told v e k = rw (e, valid-negated v k, line-shown (objective_head (j + 1)) (negate v) (negate-valid v k), add-one j)

-- ---- right sides

rights-told : (t : Table) (less i : ℕ) (ws : List (Option Value)) (es : List Entry) → FloorsTold t less i ws
    → ((n : ℕ) (e : Entry) → At es n e → (unpacked (word_at t (slot_at less (i + n))) ≡ entry_right e) × Valid (entry_right e))
    → text_from (right_text t less) (length es) i ≡ right_lines i ws (map entry_right es)
unfolding text_from right_text right_lines
rights-told t less i ws [] f h = refl
rights-told t less i ws (e ∷ es) f h =
    let x : i + 0 ≡ i = omega arith in
    let c = rw x at (h 0 e refl) in
    let w = first-told t less i ws f in
    let rest = rights-told t less (i + 1) (later_floors ws) es (later-told t less i ws f) (λ n f a. let y : i + 1 + n ≡ i + suc n = omega arith in rw y (h (suc n) f a)) in
    rw (c.0, line-shown (right_head (i + 1)) (entry_right e) c.1, w.value, floor-shown (i + 1) (first_floor ws) w.valid, rest, add-one i)
    (append_assoc (value_line (right_head (suc i)) (entry_right e)) _ _)

-- ---- a problem's

each-length : {A : Type 0} (f : ℕ → A) (k j : ℕ) → length (each f k j) ≡ k
unfolding each
each-length f zero j = refl
each-length f (suc k) j = ap suc (each-length f k (suc j))

joined : (a l e c d k r q b u n : List ℕ) → (a ++ (l ++ e)) ++ ((c ++ (d ++ k)) ++ ((r ++ q) ++ (b ++ (u ++ n)))) ≡ a ++ (l ++ (e ++ (c ++ (d ++ (k ++ (r ++ (q ++ (b ++ (u ++ n)))))))))
joined a l e c d k r q b u n = simp append_assoc

-- each floor of a list of rows, and none behind it
each-floor : (P : ℕ → Option Value → Type 0) (es : List Entry) → ((i : ℕ) (e : Entry) → At es i e → P i (entry_floor e)) → ((i : ℕ) → length es ≤ i → P i None)
    → (i : ℕ) → P i (get_or (map entry_floor es) i None)
each-floor P [] h k i = k i (omega arith)
each-floor P (e ∷ es) h k zero = h 0 e refl
each-floor P (e ∷ es) h k (suc i) = each-floor (λ n w. P (suc n) w) es (λ n f a. h (suc n) f a) (λ n g. k (suc n) (omega arith)) i

module _ {t : Table} {b : BoundTable} {m : List ℤ} {z : Sizes} {p : Lp} (h : Held t b m z p) where
  count : length (rows p) ≡ z.less + z.equal
  unfolding rows less_rows equal_rows
  count = omega (arith, length-append (less_rows p) (equal_rows p), h.rows.less_count, h.rows.equal_count)

  slot : (i : ℕ) (e : Entry) → At (rows p) i e → Slot p.variables t m (slot_at z.less i) e
  unfolding rows less_rows equal_rows
  slot i e a = slot_held p.variables t m z.less z.equal p.entries h.rows i e a

  floors : FloorsTold t z.less 0 (map entry_floor (less_rows p))
  unfolding less_rows less_slot entry_floor floor_at
  floors n =
      let x : 0 + n ≡ n = omega arith in
      rw x
      (each-floor (FloorTold t z.less) (less_rows p)
      (λ i e a.
      let s = h.rows.less_rows i e a in
      let g : i < z.less = omega (arith, h.rows.less_count, at_length (less_rows p) i e a) in
      record { value = rw (lt-ltb i z.less g) (floor-told p.variables t m i e s); valid = s.valid_floor })
      (λ i g. record { value = rw (le-ltb i z.less (omega (arith, h.rows.less_count))); valid = tt })
      n)

  all-rows : text_from (row_text t z.less) (z.less + z.equal) 0 ≡ less_lines 0 (map entry_floor (less_rows p)) ++ equal_lines z.equal (length (map entry_floor (less_rows p)))
  unfolding less_rows
  all-rows =
      let ws = map entry_floor (less_rows p) in
      let c : length ws ≡ z.less = length-map (less_rows p) entry_floor ∙ sym h.rows.less_count in
      let x : 0 + length ws ≡ length ws = omega arith in
      rw (← c) (rw x at (rows_told t (length ws) z.equal 0 ws x (rw c floors)))

  cell : (j : ℕ) → j < length p.variables → (i : ℕ) (e : Entry) → At (rows p) i e → CellTold m z.less j i e
  unfolding cell_of
  cell j g i e a =
      let s = slot i e a in
      record { value = value-told p.variables m _ j _ s.row g; valid = row-valid p.variables _ _ j s.row g }

  column : (j : ℕ) → j < length p.variables → column_text t m z.less (z.less + z.equal) j ≡ column_lines (map entry_floor (less_rows p)) j (column_at p j)
  unfolding column_text column_lines column_at
  column j g =
      let r = h.objective.row in
      let cells = cells_told m z.less j t 0 (map entry_floor (less_rows p)) (rows p) floors (λ n e a. let x : 0 + n ≡ n = omega arith in rw x (cell j g n e a)) in
      rw (← count, cells, objective-told m z.less j (get_or p.objective j zero_value) (value-told p.variables m objective_row j _ r g) (row-valid p.variables _ _ j r g))

  columns : (k j : ℕ) → j + k ≤ length p.variables
      → text_from (column_text t m z.less (z.less + z.equal)) k j ≡ columns_from (map entry_floor (less_rows p)) j (each (column_at p) k j)
  unfolding text_from columns_from each
  columns zero j g = refl
  columns (suc k) j g = rw (column j (omega arith), columns k (j + 1) (omega arith), add-one j)

  discrete : (k : ℕ) → k ≤ length p.variables → discrete_text t m z.less (z.less + z.equal) k ≡ discrete_lines (map entry_floor (less_rows p)) (each (column_at p) k 0)
  unfolding discrete_text discrete_lines each
  discrete zero g = refl
  discrete (suc k) g = rw (columns (suc k) 0 (omega arith))

  rights : text_from (right_text t z.less) (z.less + z.equal) 0 ≡ right_lines 0 (map entry_floor (less_rows p)) (map entry_right (rows p))
  unfolding entry_right
  rights =
      rw (← count)
      (rights-told t z.less 0 (map entry_floor (less_rows p)) (rows p) floors
      (λ n e a.
      let x : 0 + n ≡ n = omega arith in
      let s = slot n e a in
      rw x (ap unpacked s.right ∙ word_back _ s.valid, s.valid)))

  bound-told : (j : ℕ) → j < z.variables → bound_text b j ≡ value_line (lower_head (suc j)) (lower_of p.entries j) ++ upper_line (suc j) (upper_of p.entries j)
  unfolding bound_text
  bound-told j g =
      let lower = lower-told p.entries b j (h.stated.lower j g) in
      let upper = upper-told p.entries b j (h.stated.upper j g) in
      rw (lower, upper, line-shown (lower_head (j + 1)) _ (lower-held p.entries j (h.stated.valid_lower j g)), upper-shown (j + 1) _ (upper-held p.entries j (h.stated.valid_upper j g)), add-one j)

  bounds : (k j : ℕ) → j + k ≤ z.variables → text_from (bound_text b) k j ≡ bound_lines j (each (bounds_at p) k j)
  unfolding text_from bound_lines each bounds_at
  bounds zero j g = refl
  bounds (suc k) j g = rw (bound-told j (omega arith), bounds k (j + 1) (omega arith), add-one j, append_assoc (value_line (lower_head (suc j)) (lower_of p.entries j)))

  -- ---- all of it

  export-told : rows_text t z.less (z.less + z.equal) ++ (columns_text t m z.less (z.less + z.equal) z.discrete z.variables ++ (rights_text t z.less (z.less + z.equal) ++ bounds_text b z.variables))
      ≡ mps_of (sheet_of p)
  unfolding rows_text columns_text rights_text bounds_text mps_of sheet_of less_rows equal_rows
  export-told =
      let ws = map entry_floor (less_rows p) in
      rw (
        all-rows,
        discrete z.discrete (omega (arith, h.discrete, h.among)),
        columns (z.variables - z.discrete) z.discrete (omega (arith, h.discrete, h.variables, h.among)),
        rights,
        bounds z.variables 0 (omega arith),
        h.rows.equal_count,
        h.discrete,
        h.variables,
        each-length (column_at p) p.discrete 0,
      )
      (joined (bytes "NAME MODEL\nROWS\n N OBJ\n") (less_lines 0 ws) (equal_lines (length (equal_rows p)) (length ws)) (bytes "COLUMNS\n")
      (discrete_lines ws (each (column_at p) p.discrete 0)) (columns_from ws p.discrete (each (column_at p) (length p.variables - p.discrete) p.discrete)) (bytes "RHS\n")
      (right_lines 0 ws (map entry_right (rows p))) (bytes "BOUNDS\n") (bound_lines 0 (each (bounds_at p) (length p.variables) 0)) (bytes "ENDATA\n"))

  all-formed : formed z ≡ true
  unfolding formed
  all-formed =
      let among : z.discrete ≤ z.variables = omega (arith, h.discrete, h.variables, h.among) in
      rw (le-leb z.discrete z.variables among) (yes-within z (omega (arith, h.variables, h.few)) h.rows.room)

-- ---- what `write` answers

-- sizes within the limits
pub record Limited (x : Sizes) : Type 0 where
  pub among : x.discrete ≤ x.variables
  pub sizes : Within x

pub formed-yes : (x : Sizes) → formed x ≡ true → Limited x
unfolding formed
formed-yes x e =
    record {
      among = leb-true x.discrete x.variables (and_left _ (within x) e);
      sizes = within-yes x (and_right (leb x.discrete x.variables) _ e);
    }

module _ (t : Table) (b : BoundTable) (m : List ℤ) (z : Sizes) where
  pub exports-none : (f : Bool) (l : List ℕ) (r : ℕ) (l' : List ℕ) → f ≡ formed z → not f ≡ true → Exports t b m z l r l'
  exports-none f l r l' e n = record { lines = λ p h. never (sym (all-formed h) ∙ sym e ∙ not-true f n) }
    where
      never : {A : Type 0} → ◌≡◌ {A = Bool} true false → A
      never q = let z : ◌≡◌ {A = ℕ} 0 1 = cc in absurd (omega arith)

  pub exports-all : {l : List ℕ} {r₁ : ℕ} {l₁ : List ℕ} {r₂ : ℕ} {l₂ : List ℕ} {r₃ : ℕ} {l₃ : List ℕ} {r₄ : ℕ} {l₄ : List ℕ}
      → Written l 0 (rows_text t z.less (z.less + z.equal)) r₁ l₁ → Written l₁ r₁ (columns_text t m z.less (z.less + z.equal) z.discrete z.variables) r₂ l₂
      → Written l₂ r₂ (rights_text t z.less (z.less + z.equal)) r₃ l₃ → Written l₃ r₃ (bounds_text b z.variables) r₄ l₄ → Exports t b m z l r₄ l₄
  exports-all x y u v =
      record {
        lines = λ p h. rw (← export-told h) (written_then _ _ _ _ _ _ _ _ x (written_then _ _ _ _ _ _ _ _ y (written_then _ _ _ _ _ _ _ _ u v)));
      }
