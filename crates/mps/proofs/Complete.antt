-- The export of every sheet of document 01's form is read, and gives that sheet. So an export is of one sheet, and what is not read is none.
use Rattle.std.specs.Prelude.{Option, Some, None}
use mathlib.Core.Path.{◌≡◌, refl, sym, ◌∙◌, ap, subst}
use mathlib.Core.Bool.{Bool, true, false, cond}
use mathlib.Core.List.{List, [], ◌∷◌, ◌++◌, map, append_assoc}
use Prim.Native.Nat.{ℕ, zero, suc, ◌+◌, ◌-◌, ◌≤◌}
use native.Mathlib.Omega.{arith}
use lib.ListN.{length, length-map, take, drop, take-append-drop, length-take, length-drop}
use Rattle.rules.specs.Characters.{bytes}
use Rattle.rules.specs.Limits.{mantissa_limit, row_limit, variable_limit}
use Rattle.value.specs.declared.Value.{Value}
use Rattle.value.specs.Decimal.{Valid, is_zero, negate}
use Rattle.value.proofs.Operations.{negate-valid, zero_is}
use Rattle.language.specs.All.{All}
use Rattle.language.proofs.All.{all_left, all_right}
use Rattle.language.specs.Valid.{ValidIfAny}
use Rattle.language.proofs.Outcome.{some-injective}
use Rattle.mps.specs.Sheet.{Column, Bounds, Sheet, ColumnFormed, BoundsFormed, Formed}
use Rattle.mps.specs.Export.{named, less_line, floor_line, equal_line, cell_head, floor_cell_head, objective_head, right_head, floor_head, lower_head, upper_head, no_upper_line, value_line, if_floor, first_floor, later_floors, less_lines, equal_lines, cell_lines, column_lines, columns_from, discrete_lines, right_lines, upper_line, bound_lines, mps_of}
use Rattle.mps.specs.Reading.{Read, strip, as_read, floor_here, less_rows, equal_rows, repeated, cell_by, read_cells, read_column, columns_by, read_columns, discrete_by, read_discrete, read_floor, read_less, read_equal, upper_by, read_upper, read_bounds, read_kinds, read_sheet, alone, sheet_in}
use Rattle.mps.proofs.Stripped.{strip-own, cell_other, cell-objective}
use Rattle.mps.proofs.Values.{onward, past_word, value_text, value_read, line_first, line_read, negate-twice}
use Rattle.mps.proofs.Floors.{has_floor, first-has, later-have, both-rights}
use Rattle.mps.proofs.Sound.{opening, closing}

-- ---- rows

-- what no line of a floor begins, and no line of a row from `<=` or `>=`
record Ends (r : List ℕ) : Type 0 where
  floor : (n : ℕ) → strip (floor_line n) r ≡ None
  less : (n : ℕ) → strip (less_line n) r ≡ None

no-floor : (n i : ℕ) (ws : List (Option Value)) (r : List ℕ) → Ends r → strip (floor_line n) (less_lines i ws ++ r) ≡ None
unfolding strip less_lines less_line floor_line named
no-floor n i [] r s = s.floor n
no-floor n i (w ∷ ws) r s = refl

floor-found : (i : ℕ) (w : Option Value) (r : List ℕ) → strip (floor_line (suc i)) r ≡ None
    → floor_here i (if_floor w (λ _. floor_line (suc i)) ++ r) ≡ record { what = has_floor w; rest = r }
unfolding floor_here
floor-found i None r s = rw (s, floor_here)
floor-found i (Some w) r s = rw (strip-own (floor_line (suc i)) r, floor_here)

less-rows : (k i : ℕ) (ws : List (Option Value)) (r : List ℕ) → length ws ≤ k → Ends r → less_rows k i (less_lines i ws ++ r) ≡ record { what = map has_floor ws; rest = r }
unfolding less_rows less_lines
less-rows zero i [] r h s = refl
less-rows zero i (w ∷ ws) r h s = absurd (omega arith)
less-rows (suc k) i [] r h s = rw (s.less (suc i), less_rows)
less-rows (suc k) i (w ∷ ws) r h s =
    let low = if_floor w (λ _. floor_line (suc i)) in
    rw (append_assoc (less_line (suc i)), append_assoc low, strip-own (less_line (suc i)) (low ++ (less_lines (suc i) ws ++ r)), less_rows, floor-found i w (less_lines (suc i) ws ++ r) (no-floor (suc i) (suc i) ws r s))
    (ap {B = Read (List Bool)} (λ q. record { what = has_floor w ∷ q.what; rest = q.rest }) (less-rows k (suc i) ws r (omega arith) s))

equal-rows : (k n i : ℕ) (r : List ℕ) → n ≤ k → ((m : ℕ) → strip (equal_line m) r ≡ None) → equal_rows k i (equal_lines n i ++ r) ≡ record { what = n; rest = r }
unfolding equal_rows equal_lines
equal-rows zero zero i r h s = refl
equal-rows zero (suc n) i r h s = absurd (omega arith)
equal-rows (suc k) zero i r h s = rw (s (suc i), equal_rows)
equal-rows (suc k) (suc n) i r h s =
    rw (append_assoc (equal_line (suc i)), strip-own (equal_line (suc i)) (equal_lines n (suc i) ++ r), equal_rows)
    (ap {B = Read ℕ} (λ q. record { what = suc q.what; rest = q.rest }) (equal-rows k n (suc i) r (omega arith) s))

-- a line of the other kind, or the next head
less-ends : (k i : ℕ) (r : List ℕ) → Ends (equal_lines k i ++ (bytes "COLUMNS\n" ++ r))
unfolding strip equal_lines less_line floor_line equal_line named
less-ends zero i r = record { floor = λ n. refl; less = λ n. refl }
less-ends (suc k) i r = record { floor = λ n. refl; less = λ n. refl }

equal-ends : (n : ℕ) (r : List ℕ) → strip (equal_line n) (bytes "COLUMNS\n" ++ r) ≡ None
unfolding strip equal_line named
equal-ends n r = refl

kinds-read : (ws : List (Option Value)) (b : ℕ) (r : List ℕ) → length ws + b ≤ row_limit
    → read_kinds (less_lines 0 ws ++ (equal_lines b (length ws) ++ (bytes "COLUMNS\n" ++ r))) ≡ Some (record { what = record { less = map has_floor ws; equal = b }; rest = bytes "COLUMNS\n" ++ r })
unfolding read_kinds
kinds-read ws b r h =
    rw (
      less-rows row_limit 0 ws (equal_lines b (length ws) ++ (bytes "COLUMNS\n" ++ r)) (omega arith) (less-ends b (length ws) r),
      length-map ws has_floor,
      equal-rows (row_limit - length ws) b (length ws) (bytes "COLUMNS\n" ++ r) (omega arith) (λ n. equal-ends n r),
    )

-- ---- columns

-- a cell's lines
abbrev cell_of : ℕ → ℕ → Option Value → Value → List ℕ
cell_of j i w v = value_line (cell_head (suc j) (suc i)) v ++ if_floor w (λ _. value_line (floor_cell_head (suc j) (suc i)) v)

cell-first : (j i : ℕ) (w : Option Value) (v : Value) (a r : List ℕ)
    → (cell_of j i w v ++ a) ++ r ≡ cell_head (suc j) (suc i) ++ (value_text v ++ (if_floor w (λ _. value_line (floor_cell_head (suc j) (suc i)) v) ++ (a ++ r)))
cell-first j i w v a r =
    let line = value_line (cell_head (suc j) (suc i)) v in
    let low = if_floor w (λ _. value_line (floor_cell_head (suc j) (suc i)) v) in
    append_assoc (line ++ low) a r ∙ append_assoc line low (a ++ r) ∙ line_first (cell_head (suc j) (suc i)) v (low ++ (a ++ r))

-- the line of row m is not among those of later rows, nor behind them
no_cell : (j m i : ℕ) (ws : List (Option Value)) (vs : List Value) (r : List ℕ) → strip (cell_head (suc j) m) r ≡ None → m ≤ i → i + length vs ≤ mantissa_limit
    → strip (cell_head (suc j) m) (cell_lines j i ws vs ++ r) ≡ None
unfolding cell_lines
no_cell j m i ws [] r s h k = s
no_cell j m i ws (v ∷ vs) r s h k = go (is_zero v) (no_cell j m (suc i) (later_floors ws) vs r s (omega arith) (omega arith))
  where
    others : List ℕ
    others = cell_lines j (suc i) (later_floors ws) vs

    go : (t : Bool) → strip (cell_head (suc j) m) (others ++ r) ≡ None → strip (cell_head (suc j) m) ((cond t [] (cell_of j i (first_floor ws) v) ++ others) ++ r) ≡ None
    go true e = e
    go false e = rw (cell-first j i (first_floor ws) v others r) (cell_other (suc j) m _ (suc i) (omega arith) (omega arith) (omega arith))

again-read : (w : Option Value) (j i : ℕ) (v : Value) (r : List ℕ)
    → repeated (has_floor w) j i v (if_floor w (λ _. value_line (floor_cell_head (suc j) (suc i)) v) ++ r) ≡ Some (record { what = tt; rest = r })
unfolding repeated
again-read None j i v r = refl
again-read (Some w) j i v r = ap as_read (strip-own (value_line (floor_cell_head (suc j) (suc i)) v) r)

cells-read : (j i : ℕ) (ws : List (Option Value)) (vs : List Value) (r : List ℕ) → All Valid vs → i + length vs ≤ mantissa_limit → ((m : ℕ) → strip (cell_head (suc j) m) r ≡ None)
    → read_cells j (length vs) i (map has_floor ws) (cell_lines j i ws vs ++ r) ≡ Some (record { what = vs; rest = r })
unfolding read_cells cell_by cell_lines
cells-read j i ws [] r h k s = refl
cells-read j i ws (v ∷ vs) r h k s = rw (first-has ws, later-have ws) (go (is_zero v) refl (cells-read j (suc i) (later_floors ws) vs r h.1 (omega arith) s))
  where
    others : List ℕ
    others = cell_lines j (suc i) (later_floors ws) vs

    read : List ℕ → Option (Read (List Value))
    read = read_cells j (length vs) (suc i) (map has_floor (later_floors ws))

    go : (t : Bool) → is_zero v ≡ t → read (others ++ r) ≡ Some (record { what = vs; rest = r })
        → cell_by (repeated (has_floor (first_floor ws)) j i) read ((cond t [] (cell_of j i (first_floor ws) v) ++ others) ++ r)
        (strip (cell_head (suc j) (suc i)) ((cond t [] (cell_of j i (first_floor ws) v) ++ others) ++ r))
        ≡ Some (record { what = v ∷ vs; rest = r })
    go true e ih =
        rw (no_cell j (suc i) (suc i) (later_floors ws) vs r (s (suc i)) (omega arith) (omega arith))
        (onward _ _ _ _ ih (ap (λ w. Some (record { what = w ∷ vs; rest = r })) (sym (zero_is v h.0 e))))
    go false e ih =
        rw (cell-first j i (first_floor ws) v others r, strip-own (cell_head (suc j) (suc i)))
        (onward _ _ _ _ (value_read v _ h.0) (rw e (onward _ _ _ _ (again-read (first_floor ws) j i v (others ++ r)) (onward _ _ _ _ ih refl))))

-- all begin with the letter
abbrev Starts : List ℕ → Type 0
Starts l = (r : List ℕ) × (l ≡ bytes " C" ++ r)

cells-start : (j i : ℕ) (ws : List (Option Value)) (vs : List Value) (r : List ℕ) → Starts r → Starts (cell_lines j i ws vs ++ r)
unfolding cell_lines cell_head named
cells-start j i ws [] r s = s
cells-start j i ws (v ∷ vs) r s = go (is_zero v) (cells-start j (suc i) (later_floors ws) vs r s)
  where
    others : List ℕ
    others = cell_lines j (suc i) (later_floors ws) vs

    go : (t : Bool) → Starts (others ++ r) → Starts ((cond t [] (cell_of j i (first_floor ws) v) ++ others) ++ r)
    go true h = h
    go false h = (_, cell-first j i (first_floor ws) v others r)

column-start : (ws : List (Option Value)) (j : ℕ) (c : Column) (r : List ℕ) → Starts (column_lines ws j c ++ r)
unfolding column_lines value_line objective_head named
column-start ws j c r = rw (append_assoc (cell_lines j 0 ws c.cells)) (cells-start j 0 ws c.cells _ (_, refl))

objective-ends : (j m : ℕ) (v : Value) (r : List ℕ) → strip (cell_head (suc j) m) (value_line (objective_head (suc j)) v ++ r) ≡ None
objective-ends j m v r = rw line_first (cell-objective (suc j) m (value_text v ++ r))

closing-ends : (r : List ℕ) → strip (bytes " C") (closing ++ r) ≡ None
unfolding strip
closing-ends r = refl

module _ (ws : List (Option Value)) (rows : ℕ) (few : rows ≤ row_limit) where
  column-read : (j : ℕ) (c : Column) (r : List ℕ) → ColumnFormed rows c → read_column (map has_floor ws) rows j (column_lines ws j c ++ r) ≡ Some (record { what = c; rest = r })
  unfolding read_column column_lines row_limit mantissa_limit
  column-read j c r h =
      let v = negate c.objective in
      let t = value_line (objective_head (suc j)) v ++ r in
      let k : read_cells j rows 0 (map has_floor ws) (cell_lines j 0 ws c.cells ++ t) ≡ Some (record { what = c.cells; rest = t }) =
      rw (← h.size) (cells-read j 0 ws c.cells t h.cells (omega (arith, h.size)) (λ m. objective-ends j m v r)) in
      rw (append_assoc (cell_lines j 0 ws c.cells))
      (onward _ _ _ _ k (onward _ _ _ _ (line_read (objective_head (suc j)) v r (negate-valid c.objective h.objective))
      (ap (λ w. Some (record { what = record { cells = c.cells; objective = w }; rest = r })) (negate-twice c.objective))))

  columns-read : (k j : ℕ) (cs : List Column) (r : List ℕ) → All (ColumnFormed rows) cs → length cs ≤ k → strip (bytes " C") r ≡ None
      → read_columns (map has_floor ws) rows k j (columns_from ws j cs ++ r) ≡ Some (record { what = cs; rest = r })
  unfolding read_columns columns_by columns_from
  columns-read zero j [] r h n s = refl
  columns-read zero j (c ∷ cs) r h n s = absurd (omega arith)
  columns-read (suc k) j [] r h n s = rw s
  columns-read (suc k) j (c ∷ cs) r h n s =
      let t = columns_from ws (suc j) cs ++ r in
      let b = column-start ws j c t in
      let e : strip (bytes " C") (column_lines ws j c ++ t) ≡ Some b.0 = ap (strip (bytes " C")) b.1 ∙ strip-own (bytes " C") b.0 in
      rw (append_assoc (column_lines ws j c), e)
      (onward _ _ _ _ (column-read j c t h.0) (onward _ _ _ _ (columns-read k (suc j) cs r h.1 (omega arith) s) refl))

  discrete-read : (cs : List Column) (r : List ℕ) → All (ColumnFormed rows) cs → length cs ≤ variable_limit → strip opening r ≡ None
      → read_discrete (map has_floor ws) rows (discrete_lines ws cs ++ r) ≡ Some (record { what = cs; rest = r })
  unfolding read_discrete discrete_by discrete_lines
  discrete-read [] r h n s = rw s
  discrete-read (c ∷ cs) r h n s =
      let t = columns_from ws 0 (c ∷ cs) in
      rw (append_assoc opening, append_assoc t, strip-own opening)
      (onward _ _ _ _ (columns-read variable_limit 0 (c ∷ cs) (closing ++ r) h n (closing-ends r)) (past_word closing r _ _ refl))

-- what stands where no whole variable is
opening-ends : (ws : List (Option Value)) (j : ℕ) (cs : List Column) (r : List ℕ) → strip opening (columns_from ws j cs ++ (bytes "RHS\n" ++ r)) ≡ None
unfolding strip columns_from
opening-ends ws j [] r = refl
opening-ends ws j (c ∷ cs) r = rw (append_assoc (column_lines ws j c)) (ap (strip opening) (column-start ws j c (columns_from ws (suc j) cs ++ (bytes "RHS\n" ++ r))).1)

columns-end : (r : List ℕ) → strip (bytes " C") (bytes "RHS\n" ++ r) ≡ None
unfolding strip
columns-end r = refl

-- ---- right sides and bounds

floor-read : (i : ℕ) (w : Option Value) (r : List ℕ) → ValidIfAny w → read_floor (has_floor w) i (if_floor w (λ v. value_line (floor_head (suc i)) v) ++ r) ≡ Some (record { what = w; rest = r })
unfolding read_floor
floor-read i None r h = refl
floor-read i (Some w) r h = onward _ _ _ _ (line_read (floor_head (suc i)) w r h) refl

less-read : (i : ℕ) (ws : List (Option Value)) (us : List Value) (r : List ℕ) → length us ≡ length ws → All ValidIfAny ws → All Valid us
    → read_less i (map has_floor ws) (right_lines i ws us ++ r) ≡ Some (record { what = record { rights = us; floors = ws }; rest = r })
unfolding read_less right_lines
less-read i [] [] r n g h = refl
less-read i [] (u ∷ us) r n g h = absurd (omega arith)
less-read i (w ∷ ws) [] r n g h = absurd (omega arith)
less-read i (w ∷ ws) (u ∷ us) r n g h =
    let low = if_floor w (λ v. value_line (floor_head (suc i)) v) in
    let t = right_lines (suc i) ws us ++ r in
    rw (append_assoc (value_line (right_head (suc i)) u), append_assoc low)
    (onward _ _ _ _ (line_read (right_head (suc i)) u (low ++ t) h.0)
    (onward _ _ _ _ (floor-read i w t g.0)
    (onward _ _ _ _ (less-read (suc i) ws us r (omega arith) g.1 h.1) refl)))

equal-read : (i : ℕ) (vs : List Value) (r : List ℕ) → All Valid vs → read_equal (length vs) i (right_lines i [] vs ++ r) ≡ Some (record { what = vs; rest = r })
unfolding read_equal right_lines
equal-read i [] r h = refl
equal-read i (v ∷ vs) r h =
    rw (append_assoc (value_line (right_head (suc i)) v))
    (onward _ _ _ _ (line_read (right_head (suc i)) v (right_lines (suc i) [] vs ++ r) h.0) (onward _ _ _ _ (equal-read (suc i) vs r h.1) refl))

upper-apart : (j : ℕ) (r : List ℕ) → strip (no_upper_line j) (upper_head j ++ r) ≡ None
unfolding strip no_upper_line upper_head named
upper-apart j r = refl

upper-read : (j : ℕ) (u : Option Value) (r : List ℕ) → ValidIfAny u → read_upper j (upper_line j u ++ r) ≡ Some (record { what = u; rest = r })
unfolding read_upper upper_by upper_line
upper-read j None r h = rw (strip-own (no_upper_line j))
upper-read j (Some v) r h =
    let e : strip (no_upper_line j) (value_line (upper_head j) v ++ r) ≡ None = rw line_first (upper-apart j (value_text v ++ r)) in
    rw e (onward _ _ _ _ (line_read (upper_head j) v r h) refl)

bounds-read : (j : ℕ) (bs : List Bounds) (r : List ℕ) → All BoundsFormed bs → read_bounds (length bs) j (bound_lines j bs ++ r) ≡ Some (record { what = bs; rest = r })
unfolding read_bounds bound_lines
bounds-read j [] r h = refl
bounds-read j (b ∷ bs) r h =
    rw (append_assoc (value_line (lower_head (suc j)) b.lower), append_assoc (upper_line (suc j) b.upper))
    (onward _ _ _ _ (line_read (lower_head (suc j)) b.lower (upper_line (suc j) b.upper ++ (bound_lines (suc j) bs ++ r)) h.0.lower)
    (onward _ _ _ _ (upper-read (suc j) b.upper (bound_lines (suc j) bs ++ r) h.0.upper)
    (onward _ _ _ _ (bounds-read (suc j) bs r h.1) refl)))

-- ---- the whole text

-- of a sheet with the right sides of both kinds apart
module _ (ws : List (Option Value)) (same : ℕ) (ds cs : List Column) (us vs : List Value) (bs : List Bounds) where
  abbrev parted : Sheet
  parted = record { floors = ws; equal = same; discrete = ds; continuous = cs; rights = us ++ vs; bounds = bs }

  parted-read : Formed parted → length us ≡ length ws → length vs ≡ same → read_sheet (mps_of parted) ≡ Some (record { what = parted; rest = [] })
  unfolding read_sheet mps_of
  parted-read h a b =
      let rows = length ws + same in
      let ending = bytes "ENDATA\n" in
      let t₅ = bytes "BOUNDS\n" ++ (bound_lines 0 bs ++ ending) in
      let t₄ = right_lines (length ws) [] vs ++ t₅ in
      let t₃ = right_lines 0 ws us ++ t₄ in
      let t₂ = columns_from ws (length ds) cs ++ (bytes "RHS\n" ++ t₃) in
      let t₁ = discrete_lines ws ds ++ t₂ in
      let equals : read_equal same (length ws) t₄ ≡ Some (record { what = vs; rest = t₅ }) = rw (← b) (equal-read (length ws) vs t₅ (all_right Valid us vs h.rights)) in
      let bounds : read_bounds (length ds + length cs) 0 (bound_lines 0 bs ++ ending) ≡ Some (record { what = bs; rest = ending }) =
      rw (← h.variable_count) (bounds-read 0 bs ending h.bounds) in
      rw (both-rights ws us vs a, append_assoc (right_lines 0 ws us))
      (past_word (bytes "NAME MODEL\nROWS\n N OBJ\n") (less_lines 0 ws ++ (equal_lines same (length ws) ++ (bytes "COLUMNS\n" ++ t₁))) _ _
      (onward _ _ _ _ (kinds-read ws same t₁ h.few_rows) (rw (length-map ws has_floor)
      (past_word (bytes "COLUMNS\n") t₁ _ _
      (onward _ _ _ _ (discrete-read ws rows h.few_rows ds t₂ h.discrete (omega (arith, h.few_variables)) (opening-ends ws (length ds) cs t₃))
      (onward _ _ _ _ (columns-read ws rows h.few_rows _ (length ds) cs (bytes "RHS\n" ++ t₃) h.continuous (omega (arith, h.few_variables)) (columns-end t₃))
      (past_word (bytes "RHS\n") t₃ _ _
      (onward _ _ _ _ (less-read 0 ws us t₄ a h.floors (all_left Valid us vs h.rights))
      (onward _ _ _ _ equals
      (past_word (bytes "BOUNDS\n") (bound_lines 0 bs ++ ending) _ _
      (onward _ _ _ _ bounds
      (past_word ending [] _ _ refl))))))))))))

sheet-read : (s : Sheet) → Formed s → read_sheet (mps_of s) ≡ Some (record { what = s; rest = [] })
sheet-read s h =
    let n = length s.floors in
    let us = take n s.rights in
    let vs = drop n s.rights in
    let e : ◌≡◌ {A = Sheet} (parted s.floors s.equal s.discrete s.continuous us vs s.bounds) s =
    ap {B = Sheet} (λ l. record { floors = s.floors; equal = s.equal; discrete = s.discrete; continuous = s.continuous; rights = l; bounds = s.bounds }) (take-append-drop n s.rights) in
    subst (λ s. read_sheet (mps_of s) ≡ Some (record { what = s; rest = [] })) e
    (parted-read s.floors s.equal s.discrete s.continuous us vs s.bounds (subst Formed (sym e) h)
    (length-take n s.rights ∙ omega (arith, h.row_count)) (length-drop n s.rights ∙ omega (arith, h.row_count)))

pub complete : (s : Sheet) → Formed s → sheet_in (mps_of s) ≡ Some s
unfolding sheet_in
complete s h = ap alone (sheet-read s h)

-- ---- an export is of one sheet, and a text in which none is found is no export

pub export-once : (s t : Sheet) → Formed s → Formed t → mps_of s ≡ mps_of t → s ≡ t
export-once s t hs ht e = some-injective (sym (complete s hs) ∙ ap sheet_in e ∙ complete t ht)

pub not-export : (text : List ℕ) → sheet_in text ≡ None → (s : Sheet) → Formed s → mps_of s ≡ text → ⊥
not-export text n s h e = cc (sym n ∙ ap sheet_in (sym e) ∙ complete s h)
