-- What the reader finds is a sheet of document 01's form, and the text is its export.
use Rattle.std.specs.Prelude.{Option, Some, None}
use mathlib.Core.Path.{◌≡◌, refl, sym, ◌∙◌, ap, subst}
use mathlib.Core.Bool.{Bool, true, false}
use mathlib.Core.List.{List, [], ◌∷◌, ◌++◌, map, append_assoc, head-eq_of_cons-eq, tail-eq_of_cons-eq}
use Prim.Native.Nat.{ℕ, zero, suc, ◌+◌, ◌-◌, ◌≤◌}
use native.Mathlib.Omega.{arith}
use lib.ListN.{length, length-append, length-map}
use Rattle.rules.specs.Characters.{bytes}
use Rattle.rules.specs.Limits.{row_limit, variable_limit}
use Rattle.value.specs.declared.Value.{Value}
use Rattle.value.specs.Decimal.{Valid, is_zero}
use Rattle.value.proofs.Operations.{negate-valid, zero-valid}
use Rattle.language.specs.All.{All}
use Rattle.language.proofs.All.{all_append}
use Rattle.language.specs.Valid.{ValidIfAny}
use Rattle.language.proofs.Outcome.{some-injective}
use Rattle.mps.specs.Sheet.{Column, Bounds, Sheet, ColumnFormed, BoundsFormed, Formed}
use Rattle.mps.specs.Export.{less_line, floor_line, equal_line, cell_head, floor_cell_head, objective_head, right_head, floor_head, lower_head, upper_head, no_upper_line, value_line, if_floor, first_floor, later_floors, less_lines, equal_lines, cell_lines, column_lines, columns_from, discrete_lines, right_lines, upper_line, bound_lines, mps_of}
use Rattle.mps.specs.Reading.{Read, strip, read_value, line_value, floor_here, less_rows, equal_rows, repeated, cell_by, read_cells, read_column, columns_by, read_columns, is_none, discrete_by, read_discrete, read_floor, Sides, read_less, read_equal, upper_by, read_upper, read_bounds, Kinds, read_kinds, read_sheet, alone, sheet_in}
use Rattle.mps.proofs.Stripped.{strip-is}
use Rattle.mps.proofs.Values.{after, word-taken, after-word, after-unless, Taken, head-taken, line_taken, negate-twice}
use Rattle.mps.proofs.Floors.{has_floor, first-has, later-have, both-rights}

-- one print behind another
joined : (a b l m r : List ℕ) → l ≡ a ++ m → m ≡ b ++ r → l ≡ (a ++ b) ++ r
joined a b l m r e f = e ∙ ap (λ k. a ++ k) f ∙ sym (append_assoc a b r)

-- a list of so many entries, all with a property
record Many {A : Type 0} (P : A → Type 0) (k : ℕ) (l : List A) : Type 0 where
  size : length l ≡ k
  all : All P l

record Few {A : Type 0} (P : A → Type 0) (k : ℕ) (l : List A) : Type 0 where
  size : length l ≤ k
  all : All P l

-- ---- rows

floor-here : (i : ℕ) (l : List ℕ) (w : Option Value) → has_floor w ≡ (floor_here i l).what → l ≡ if_floor w (λ _. floor_line (suc i)) ++ (floor_here i l).rest
unfolding floor_here
floor-here i l w e = go (strip (floor_line (suc i)) l) refl w e
  where
    found : Option (List ℕ) → Read Bool
    found o = elim o as (λ _. Read Bool) [ None ↦ record { what = false; rest = l } | Some r ↦ record { what = true; rest = r } ]

    go : (o : Option (List ℕ)) → strip (floor_line (suc i)) l ≡ o → (w : Option Value) → has_floor w ≡ (found o).what → l ≡ if_floor w (λ _. floor_line (suc i)) ++ (found o).rest
    go None p None e = refl
    go None p (Some w) e = cc
    go (Some r) p None e = cc
    go (Some r) p (Some w) e = strip-is _ l r p

-- whatever their floors are
record Named (k i : ℕ) (l : List ℕ) (q : Read (List Bool)) : Type 0 where
  text : (ws : List (Option Value)) → map has_floor ws ≡ q.what → l ≡ less_lines i ws ++ q.rest
  few : length q.what ≤ k

none_named : (k i : ℕ) (l : List ℕ) → Named k i l (record { what = []; rest = l })
unfolding less_lines
none_named k i l = record { text = text; few = omega arith }
  where
    text : (ws : List (Option Value)) → map has_floor ws ≡ [] → l ≡ less_lines i ws ++ l
    text [] e = refl
    text (w ∷ ws) e = cc

less-named : (k i : ℕ) (l : List ℕ) → Named k i l (less_rows k i l)
unfolding less_rows less_lines
less-named zero i l = none_named zero i l
less-named (suc k) i l = go (strip (less_line (suc i)) l) refl (less-named k (suc i))
  where
    text : (r : List ℕ) → strip (less_line (suc i)) l ≡ Some r → (q : Read (List Bool)) → Named k (suc i) (floor_here i r).rest q
        → (ws : List (Option Value)) → map has_floor ws ≡ (floor_here i r).what ∷ q.what → l ≡ less_lines i ws ++ q.rest
    text r p q h [] e = cc
    text r p q h (w ∷ ws) e =
        joined (less_line (suc i)) _ l r q.rest (strip-is (less_line (suc i)) l r p)
        (joined (if_floor w (λ _. floor_line (suc i))) (less_lines (suc i) ws) r _ q.rest (floor-here i r w (head-eq_of_cons-eq e)) (h.text ws (tail-eq_of_cons-eq e)))

    go : (o : Option (List ℕ)) → strip (less_line (suc i)) l ≡ o → ((r : List ℕ) → Named k (suc i) r (less_rows k (suc i) r))
        → Named (suc k) i l (elim o as (λ _. Read (List Bool)) [
          | None ↦ record { what = []; rest = l }
          | Some r ↦ let f = floor_here i r in let q = less_rows k (suc i) f.rest in record { what = f.what ∷ q.what; rest = q.rest }
        ])
    go None p h = none_named (suc k) i l
    go (Some r) p h = let t = h (floor_here i r).rest in record { text = text r p _ t; few = omega (arith, t.few) }

record Counted (k i : ℕ) (l : List ℕ) (q : Read ℕ) : Type 0 where
  text : l ≡ equal_lines q.what i ++ q.rest
  few : q.what ≤ k

equal-counted : (k i : ℕ) (l : List ℕ) → Counted k i l (equal_rows k i l)
unfolding equal_rows equal_lines
equal-counted zero i l = record { text = refl; few = omega arith }
equal-counted (suc k) i l = go (strip (equal_line (suc i)) l) refl (equal-counted k (suc i))
  where
    go : (o : Option (List ℕ)) → strip (equal_line (suc i)) l ≡ o → ((r : List ℕ) → Counted k (suc i) r (equal_rows k (suc i) r))
        → Counted (suc k) i l (elim o as (λ _. Read ℕ) [
          | None ↦ record { what = 0; rest = l }
          | Some r ↦ let q = equal_rows k (suc i) r in record { what = suc q.what; rest = q.rest }
        ])
    go None p h = record { text = refl; few = omega arith }
    go (Some r) p h = record { text = joined (equal_line (suc i)) _ l r _ (strip-is (equal_line (suc i)) l r p) (h r).text; few = omega (arith, (h r).few) }

-- ---- columns

-- in the row's floor
again-taken : (w : Option Value) (j i : ℕ) (v : Value) (l : List ℕ) (q : Read (Unit {0})) → repeated (has_floor w) j i v l ≡ Some q
    → l ≡ if_floor w (λ _. value_line (floor_cell_head (suc j) (suc i)) v) ++ q.rest
unfolding repeated
again-taken None j i v l q e = ap (λ (a : Read (Unit {0})). a.rest) (some-injective e)
again-taken (Some w) j i v l q e = word-taken (value_line (floor_cell_head (suc j) (suc i)) v) l q e

cells-taken : (j k i : ℕ) (ws : List (Option Value)) (l : List ℕ) (q : Read (List Value)) → read_cells j k i (map has_floor ws) l ≡ Some q → Taken (cell_lines j i ws) (Many Valid k) l q
unfolding read_cells cell_by cell_lines is_zero
cells-taken j zero i ws l q e = subst (Taken (cell_lines j i ws) (Many Valid 0) l) (some-injective e) (record { text = refl; fine = record { size = refl; all = tt } })
cells-taken j (suc k) i ws l q e = go (strip (cell_head (suc j) (suc i)) l) refl (cells-taken j k (suc i) (later_floors ws)) (rw (first-has ws, later-have ws) at e)
  where
    line : Value → List ℕ
    line v = value_line (cell_head (suc j) (suc i)) v

    low : Value → List ℕ
    low v = if_floor (first_floor ws) (λ _. value_line (floor_cell_head (suc j) (suc i)) v)

    others : List Value → List ℕ
    others vs = cell_lines j (suc i) (later_floors ws) vs

    read : List ℕ → Option (Read (List Value))
    read = read_cells j k (suc i) (map has_floor (later_floors ws))

    go : (o : Option (List ℕ)) → strip (cell_head (suc j) (suc i)) l ≡ o
        → ((r : List ℕ) (p : Read (List Value)) → read r ≡ Some p → Taken others (Many Valid k) r p)
        → cell_by (repeated (has_floor (first_floor ws)) j i) read l o ≡ Some q → Taken (cell_lines j i ws) (Many Valid (suc k)) l q
    go None p ih e =
        after (read l) _ q e λ vs a e.
        let t = ih l vs a in
        subst (Taken (cell_lines j i ws) (Many Valid (suc k)) l) (some-injective e) (record { text = t.text; fine = record { size = ap suc t.fine.size; all = (zero-valid, t.fine.all) } })
    go (Some r) p ih e =
        after (read_value r) _ q e λ v b e.
        after-unless (is_zero v.what) _ v.rest q e λ z e.
        after (repeated (has_floor (first_floor ws)) j i v.what v.rest) _ q e λ u c e.
        after (read u.rest) _ q e λ vs a e.
        let h = head-taken (cell_head (suc j) (suc i)) l r v (strip-is _ l r p) b in
        let t = ih u.rest vs a in
        subst (Taken (cell_lines j i ws) (Many Valid (suc k)) l) (some-injective e)
        (record {
          text = rw z
              (joined (line v.what ++ low v.what) (others vs.what) l u.rest vs.rest
              (joined (line v.what) (low v.what) l v.rest u.rest h.text (again-taken (first_floor ws) j i v.what v.rest u c)) t.text);
          fine = record { size = ap suc t.fine.size; all = (h.fine, t.fine.all) };
        })

column-taken : (ws : List (Option Value)) (rows j : ℕ) (l : List ℕ) (q : Read Column) → read_column (map has_floor ws) rows j l ≡ Some q → Taken (column_lines ws j) (ColumnFormed rows) l q
unfolding read_column column_lines
column-taken ws rows j l q e =
    after (read_cells j rows 0 (map has_floor ws) l) _ q e λ vs a e.
    after (line_value (objective_head (suc j)) vs.rest) _ q e λ v b e.
    let t = cells-taken j rows 0 ws l vs a in
    let h = line_taken (objective_head (suc j)) vs.rest v b in
    subst (Taken (column_lines ws j) (ColumnFormed rows) l) (some-injective e)
    (record {
      text = rw (negate-twice v.what) (joined (cell_lines j 0 ws vs.what) _ l vs.rest v.rest t.text h.text);
      fine = record { size = t.fine.size; cells = t.fine.all; objective = negate-valid v.what h.fine };
    })

columns-taken : (ws : List (Option Value)) (rows k j : ℕ) (l : List ℕ) (q : Read (List Column)) → read_columns (map has_floor ws) rows k j l ≡ Some q → Taken (columns_from ws j) (Few (ColumnFormed rows) k) l q
unfolding read_columns columns_by columns_from
columns-taken ws rows zero j l q e = subst (Taken (columns_from ws j) (Few (ColumnFormed rows) 0) l) (some-injective e) (record { text = refl; fine = record { size = omega arith; all = tt } })
columns-taken ws rows (suc k) j l q e = go (strip (bytes " C") l) (columns-taken ws rows k (suc j)) e
  where
    go : (o : Option (List ℕ)) → ((r : List ℕ) (p : Read (List Column)) → read_columns (map has_floor ws) rows k (suc j) r ≡ Some p → Taken (columns_from ws (suc j)) (Few (ColumnFormed rows) k) r p)
        → columns_by (read_column (map has_floor ws) rows j) (read_columns (map has_floor ws) rows k (suc j)) l o ≡ Some q → Taken (columns_from ws j) (Few (ColumnFormed rows) (suc k)) l q
    go None ih e = subst (Taken (columns_from ws j) (Few (ColumnFormed rows) (suc k)) l) (some-injective e) (record { text = refl; fine = record { size = omega arith; all = tt } })
    go (Some r) ih e =
        after (read_column (map has_floor ws) rows j l) _ q e λ c b e.
        after (read_columns (map has_floor ws) rows k (suc j) c.rest) _ q e λ cs a e.
        let h = column-taken ws rows j l c b in
        let t = ih c.rest cs a in
        subst (Taken (columns_from ws j) (Few (ColumnFormed rows) (suc k)) l) (some-injective e)
        (record {
          text = joined (column_lines ws j c.what) _ l c.rest cs.rest h.text t.text;
          fine = record { size = omega (arith, t.fine.size); all = (h.fine, t.fine.all) };
        })

-- the markers
abbrev pub opening : List ℕ
opening = bytes " M 'MARKER' 'INTORG'\n"

abbrev pub closing : List ℕ
closing = bytes " M 'MARKER' 'INTEND'\n"

discrete-some : (ws : List (Option Value)) (cs : List Column) → is_none cs ≡ false → discrete_lines ws cs ≡ opening ++ (columns_from ws 0 cs ++ closing)
unfolding discrete_lines
discrete-some ws [] e = cc
discrete-some ws (c ∷ cs) e = refl

discrete-taken : (ws : List (Option Value)) (rows : ℕ) (l : List ℕ) (q : Read (List Column)) → read_discrete (map has_floor ws) rows l ≡ Some q → Taken (discrete_lines ws) (Few (ColumnFormed rows) variable_limit) l q
unfolding read_discrete discrete_by discrete_lines
discrete-taken ws rows l q e = go (strip opening l) refl e
  where
    go : (o : Option (List ℕ)) → strip opening l ≡ o → discrete_by (map has_floor ws) rows l o ≡ Some q → Taken (discrete_lines ws) (Few (ColumnFormed rows) variable_limit) l q
    go None p e = subst (Taken (discrete_lines ws) (Few (ColumnFormed rows) variable_limit) l) (some-injective e) (record { text = refl; fine = record { size = omega arith; all = tt } })
    go (Some r) p e =
        after (read_columns (map has_floor ws) rows variable_limit 0 r) _ q e λ cs a e.
        after-unless (is_none cs.what) _ cs.rest q e λ z e.
        after-word closing cs.rest _ q e λ s b e.
        let t = columns-taken ws rows variable_limit 0 r cs a in
        subst (Taken (discrete_lines ws) (Few (ColumnFormed rows) variable_limit) l) (some-injective e)
        (record {
          text = rw (discrete-some ws cs.what z) (joined opening (columns_from ws 0 cs.what ++ closing) l r s (strip-is opening l r p) (joined (columns_from ws 0 cs.what) closing r cs.rest s t.text b));
          fine = t.fine;
        })

-- ---- right sides

record FloorRead (b : Bool) (w : Option Value) : Type 0 where
  has : has_floor w ≡ b
  valid : ValidIfAny w

record SidesRead (bs : List Bool) (s : Sides) : Type 0 where
  size : length s.rights ≡ length s.floors
  has : map has_floor s.floors ≡ bs
  floors : All ValidIfAny s.floors
  rights : All Valid s.rights

abbrev side_lines : ℕ → Sides → List ℕ
side_lines i s = right_lines i s.floors s.rights

floor-taken : (b : Bool) (i : ℕ) (l : List ℕ) (q : Read (Option Value)) → read_floor b i l ≡ Some q → Taken (λ w. if_floor w (λ v. value_line (floor_head (suc i)) v)) (FloorRead b) l q
unfolding read_floor
floor-taken false i l q e = subst (Taken _ (FloorRead false) l) (some-injective e) (record { text = refl; fine = record { has = refl; valid = tt } })
floor-taken true i l q e =
    after (line_value (floor_head (suc i)) l) _ q e λ v b e.
    let h = line_taken (floor_head (suc i)) l v b in
    subst (Taken _ (FloorRead true) l) (some-injective e) (record { text = h.text; fine = record { has = refl; valid = h.fine } })

less-taken : (i : ℕ) (bs : List Bool) (l : List ℕ) (q : Read Sides) → read_less i bs l ≡ Some q → Taken (side_lines i) (SidesRead bs) l q
unfolding read_less right_lines
less-taken i [] l q e = subst (Taken (side_lines i) (SidesRead []) l) (some-injective e) (record { text = refl; fine = record { size = refl; has = refl; floors = tt; rights = tt } })
less-taken i (b ∷ bs) l q e =
    after (line_value (right_head (suc i)) l) _ q e λ v c e.
    after (read_floor b i v.rest) _ q e λ w d e.
    after (read_less (suc i) bs w.rest) _ q e λ s a e.
    let h = line_taken (right_head (suc i)) l v c in
    let g = floor-taken b i v.rest w d in
    let t = less-taken (suc i) bs w.rest s a in
    subst (Taken (side_lines i) (SidesRead (b ∷ bs)) l) (some-injective e)
    (record {
      text = joined (value_line (right_head (suc i)) v.what) _ l v.rest s.rest h.text
          (joined (if_floor w.what (λ v. value_line (floor_head (suc i)) v)) _ v.rest w.rest s.rest g.text t.text);
      fine = record {
        size = ap suc t.fine.size;
        has = λ k. g.fine.has k ∷ t.fine.has k;
        floors = (g.fine.valid, t.fine.floors);
        rights = (h.fine, t.fine.rights);
      };
    })

equal-taken : (k i : ℕ) (l : List ℕ) (q : Read (List Value)) → read_equal k i l ≡ Some q → Taken (right_lines i []) (Many Valid k) l q
unfolding read_equal right_lines
equal-taken zero i l q e = subst (Taken (right_lines i []) (Many Valid 0) l) (some-injective e) (record { text = refl; fine = record { size = refl; all = tt } })
equal-taken (suc k) i l q e =
    after (line_value (right_head (suc i)) l) _ q e λ v b e.
    after (read_equal k (suc i) v.rest) _ q e λ vs a e.
    let h = line_taken (right_head (suc i)) l v b in
    let t = equal-taken k (suc i) v.rest vs a in
    subst (Taken (right_lines i []) (Many Valid (suc k)) l) (some-injective e)
    (record {
      text = joined (value_line (right_head (suc i)) v.what) _ l v.rest vs.rest h.text t.text;
      fine = record { size = ap suc t.fine.size; all = (h.fine, t.fine.all) };
    })

-- ---- bounds

upper-taken : (j : ℕ) (l : List ℕ) (q : Read (Option Value)) → read_upper j l ≡ Some q → Taken (upper_line j) ValidIfAny l q
unfolding read_upper upper_by upper_line
upper-taken j l q e = go (strip (no_upper_line j) l) refl e
  where
    go : (o : Option (List ℕ)) → strip (no_upper_line j) l ≡ o → upper_by j l o ≡ Some q → Taken (upper_line j) ValidIfAny l q
    go None p e =
        after (line_value (upper_head j) l) _ q e λ v b e.
        let h = line_taken (upper_head j) l v b in
        subst (Taken (upper_line j) ValidIfAny l) (some-injective e) (record { text = h.text; fine = h.fine })
    go (Some r) p e = subst (Taken (upper_line j) ValidIfAny l) (some-injective e) (record { text = strip-is _ l r p; fine = tt })

bounds-taken : (k j : ℕ) (l : List ℕ) (q : Read (List Bounds)) → read_bounds k j l ≡ Some q → Taken (bound_lines j) (Many BoundsFormed k) l q
unfolding read_bounds bound_lines
bounds-taken zero j l q e = subst (Taken (bound_lines j) (Many BoundsFormed 0) l) (some-injective e) (record { text = refl; fine = record { size = refl; all = tt } })
bounds-taken (suc k) j l q e =
    after (line_value (lower_head (suc j)) l) _ q e λ v b e.
    after (read_upper (suc j) v.rest) _ q e λ u c e.
    after (read_bounds k (suc j) u.rest) _ q e λ bs a e.
    let h = line_taken (lower_head (suc j)) l v b in
    let g = upper-taken (suc j) v.rest u c in
    let t = bounds-taken k (suc j) u.rest bs a in
    subst (Taken (bound_lines j) (Many BoundsFormed (suc k)) l) (some-injective e)
    (record {
      text = joined (value_line (lower_head (suc j)) v.what) _ l v.rest bs.rest h.text
          (joined (upper_line (suc j) u.what) _ v.rest u.rest bs.rest g.text t.text);
      fine = record { size = ap suc t.fine.size; all = (record { lower = h.fine; upper = g.fine }, t.fine.all) };
    })

-- ---- the whole text

record KindsTaken (l : List ℕ) (q : Read Kinds) : Type 0 where
  text : (ws : List (Option Value)) → map has_floor ws ≡ q.what.less → l ≡ less_lines 0 ws ++ (equal_lines q.what.equal (length ws) ++ q.rest)
  few : length q.what.less + q.what.equal ≤ row_limit

kinds-taken : (l : List ℕ) (q : Read Kinds) → read_kinds l ≡ Some q → KindsTaken l q
unfolding read_kinds
kinds-taken l q e =
    let a = less_rows row_limit 0 l in
    let n = length a.what in
    let ha = less-named row_limit 0 l in
    let hb = equal-counted (row_limit - n) n a.rest in
    subst (KindsTaken l) (some-injective e)
    (record {
      text = λ ws h. rw (sym (length-map ws has_floor) ∙ ap length h) (ha.text ws h ∙ ap (λ r. less_lines 0 ws ++ r) hb.text);
      few = omega (arith, ha.few, hb.few);
    })

record IsExport (l : List ℕ) (s : Sheet) : Type 0 where
  formed : Formed s
  text : mps_of s ≡ l

-- what stands behind a print
onto : (a l m r : List ℕ) → l ≡ a ++ m → m ≡ r → l ≡ a ++ r
onto a l m r e f = e ∙ ap (λ k. a ++ k) f

-- the right sides of both kinds
both-taken : (us : Read Sides) (vs : Read (List Value)) (l : List ℕ) → length us.what.rights ≡ length us.what.floors → l ≡ side_lines 0 us.what ++ us.rest
    → us.rest ≡ right_lines (length us.what.floors) [] vs.what ++ vs.rest → l ≡ right_lines 0 us.what.floors (us.what.rights ++ vs.what) ++ vs.rest
both-taken us vs l h e f = rw (both-rights us.what.floors us.what.rights vs.what h) (joined (side_lines 0 us.what) _ l us.rest vs.rest e f)

sheet-taken : (l : List ℕ) (q : Read Sheet) → read_sheet l ≡ Some q → q.rest ≡ [] → IsExport l q.what
unfolding read_sheet mps_of
sheet-taken l q e =
    after-word (bytes "NAME MODEL\nROWS\n N OBJ\n") l _ q e λ l₁ t₁ e.
    after (read_kinds l₁) _ q e λ n t₂ e.
    let marks = n.what.less in
    let same = n.what.equal in
    after-word (bytes "COLUMNS\n") n.rest _ q e λ l₃ t₃ e.
    after (read_discrete marks (length marks + same) l₃) _ q e λ ds t₄ e.
    after (read_columns marks (length marks + same) (variable_limit - length ds.what) (length ds.what) ds.rest) _ q e λ cs t₅ e.
    after-word (bytes "RHS\n") cs.rest _ q e λ l₆ t₆ e.
    after (read_less 0 marks l₆) _ q e λ us t₇ e.
    after (read_equal same (length marks) us.rest) _ q e λ vs t₈ e.
    after-word (bytes "BOUNDS\n") vs.rest _ q e λ l₉ t₉ e.
    after (read_bounds (length ds.what + length cs.what) 0 l₉) _ q e λ bs t e.
    after-word (bytes "ENDATA\n") bs.rest _ q e λ l₀ t₀ e.
    let u = less-taken 0 marks l₆ us t₇ in
    let ws = us.what.floors in
    let count : length marks ≡ length ws = sym (ap length u.fine.has) ∙ length-map ws has_floor in
    let k = kinds-taken l₁ n t₂ in
    let d = discrete-taken ws (length ws + same) l₃ ds (rw (count, ← u.fine.has) at t₄) in
    let c = columns-taken ws (length ws + same) _ _ ds.rest cs (rw (count, ← u.fine.has) at t₅) in
    let v = equal-taken same (length ws) us.rest vs (rw count at t₈) in
    let b = bounds-taken _ 0 l₉ bs t in
    subst (λ (r : Read Sheet). r.rest ≡ [] → IsExport l r.what) (some-injective e) λ z.
    record {
      formed = record {
        row_count = length-append us.what.rights vs.what ∙ omega (arith, u.fine.size, v.fine.size);
        few_rows = omega (arith, k.few, count);
        variable_count = b.fine.size;
        few_variables = omega (arith, d.fine.size, c.fine.size);
        floors = u.fine.floors;
        discrete = d.fine.all;
        continuous = c.fine.all;
        rights = all_append Valid us.what.rights vs.what u.fine.rights v.fine.all;
        bounds = b.fine.all;
      };
      text = sym
          (onto (bytes "NAME MODEL\nROWS\n N OBJ\n") l l₁ _ t₁
          (onto (less_lines 0 ws) l₁ _ _ (k.text ws u.fine.has)
          (onto (equal_lines same (length ws)) _ n.rest _ refl
          (onto (bytes "COLUMNS\n") n.rest l₃ _ t₃
          (onto (discrete_lines ws ds.what) l₃ ds.rest _ d.text
          (onto (columns_from ws (length ds.what) cs.what) ds.rest cs.rest _ c.text
          (onto (bytes "RHS\n") cs.rest l₆ _ t₆
          (onto (right_lines 0 ws (us.what.rights ++ vs.what)) l₆ vs.rest _ (both-taken us vs l₆ u.fine.size u.text v.text)
          (onto (bytes "BOUNDS\n") vs.rest l₉ _ t₉
          (onto (bound_lines 0 bs.what) l₉ bs.rest _ b.text
          (onto (bytes "ENDATA\n") bs.rest l₀ [] t₀ z)))))))))));
    }

pub sound : (text : List ℕ) (s : Sheet) → sheet_in text ≡ Some s → Formed s × (mps_of s ≡ text)
unfolding sheet_in
sound text s e = go (read_sheet text) refl e
  where
    last : (q : Read Sheet) (r : List ℕ) → q.rest ≡ r → read_sheet text ≡ Some q → elim r as (λ _. Option Sheet) [ [] ↦ Some q.what | b ∷ t ↦ None ] ≡ Some s → Formed s × (mps_of s ≡ text)
    last q [] z p e = let h = subst (IsExport text) (some-injective e) (sheet-taken text q p z) in (h.formed, h.text)
    last q (b ∷ t) z p e = cc

    go : (o : Option (Read Sheet)) → read_sheet text ≡ o → alone o ≡ Some s → Formed s × (mps_of s ≡ text)
    go None p e = cc
    go (Some q) p e = last q q.rest refl p e
