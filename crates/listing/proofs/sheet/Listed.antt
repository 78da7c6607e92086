-- The listing: the tables of a problem tell its lines.
use mathlib.Core.Path.{◌≡◌, refl, sym, ◌∙◌, ap, subst}
use mathlib.Core.Bool.{Bool, true, false, not}
use mathlib.Core.List.{List, [], ◌∷◌, ◌++◌}
use Prim.Native.Nat.{ℕ, ◌+◌, ◌<◌, ◌≤◌}
use native.Mathlib.Omega.{arith}
use native.Mathlib.Numerals.{add-one}
use borrow.Author.Tests.{not-true}
use lib.Dec.{leb}
use lib.ListN.{length, length-append}
use lib.IntN.{ℤ}
use Rattle.rules.specs.Limits.{row_limit}
use Rattle.value.specs.Printed.{Written}
use Rattle.value.proofs.Writing.{written_then}
use Rattle.lexer.specs.View.{part_of}
use Rattle.language.specs.All.{All}
use Rattle.language.proofs.All.{all-at, all_append, all_left, all_right}
use Rattle.language.specs.Listed.{At}
use Rattle.language.proofs.Listed.{at_length, at-get_d}
use Rattle.language.specs.Model.{Model}
use Rattle.language.specs.Numbering.{Entry, Lp, is_equal, keep, less_row, equal_row, less_rows, equal_rows, rows}
use Rattle.language.specs.Listing.{Line, lp_line, ending_line, right_of, coefficients_of, kind_of, row_lines, var_lines, col_lines, lines_of}
use Rattle.language.specs.Proper.{Proper}
use Rattle.language.proofs.ProperText.{kept-all}
use Rattle.constraints.specs.declared.Record.{Record}
use Rattle.listing.specs.Shown.{shown_line, shown_lines}
use Rattle.listing.proofs.Lines.{lines_join}
use Rattle.store.specs.Table.{Table, word_at}
use Rattle.store.specs.Packed.{unpacked}
use Rattle.store.specs.Entries.{variable_key}
use Rattle.rows.specs.Slots.{objective_row, Slot}
use Rattle.rows.specs.Bounds.{BoundTable}
use Rattle.rows.specs.declared.Sizes.{Sizes}
use Rattle.rows.specs.Read.{slot_at}
use Rattle.rows.specs.Held.{Held}
use Rattle.rows.proofs.Reading as reading
use Rattle.rows.proofs.Held.{slot_held, value-told, word_back, floor-told, lower-told, upper-told}
use Rattle.listing.specs.Sheet.Columns.{columns_from}
use Rattle.listing.specs.Sheet.Strings.{string_at, within}
use Rattle.listing.specs.Sheet.Told.{floor_in, kind_at, concat, RowTold, VariableTold, Told, WritesAll}
use Rattle.rows.specs.Problems.{KeyedVariable, FromConstraint}
use Rattle.listing.specs.Sheet.Shown.{Shown, Lists}
use Rattle.listing.proofs.sheet.Cells.{one_line}
use Rattle.listing.proofs.sheet.Words.{yes-within}
use Rattle.listing.proofs.sheet.Texts.{spelled-part, name-told, string-told, title-told}
use Rattle.listing.proofs.sheet.Slots.{row_group, rows-joined, equal-last, Column, columns-told}
use Rattle.listing.proofs.sheet.Variables.{undeclared, variable_group, variables-joined}
use Rattle.listing.proofs.sheet.Writing.{all_told}
use Rattle.listing.proofs.sheet.Groups.{groups, groups-length, group_at, all_of}

-- ---- lines after lines

line-join : (k : Line) (ls : List Line) {l : List ℕ} {at r : ℕ} {l' : List ℕ} {r' : ℕ} {l'' : List ℕ} → Written l at (shown_line k) r l' → Written l' r (shown_lines ls) r' l''
    → Written l at (shown_lines (k ∷ ls)) r' l''
unfolding shown_lines
line-join k ls w v = written_then _ _ _ _ _ _ _ _ w v

-- ---- the lines of a problem, and what the tables tell of them

module _ {s ns ts : List ℕ} {cs : List Record} {vs rs : Table} {bs : BoundTable} {m : List ℤ} {z : Sizes} {at place bytes : ℕ} {x : Model} {p : Lp} (h : Shown s ns ts cs vs rs bs m z at place bytes x p) where
  abbrev lesses : List Entry
  lesses = keep less_row p.entries

  abbrev equals : List Entry
  equals = keep equal_row p.entries

  abbrev first_line : Line
  first_line = lp_line p.discrete (length p.variables) (length lesses) (length (lesses ++ equals)) x.structure.title x.given.title

  abbrev variable_lines : List Line
  variable_lines = var_lines x.structure.names p 0 p.variables

  abbrev column_lines : List Line
  column_lines = col_lines (length p.variables) 0 (lesses ++ equals) p.objective

  parts : lines_of x p ≡ first_line ∷ (row_lines 1 (lesses ++ equals) ++ (variable_lines ++ (column_lines ++ (ending_line ∷ []))))
  unfolding lines_of less_rows equal_rows rows
  parts = refl

  proper : All Proper (first_line ∷ (row_lines 1 (lesses ++ equals) ++ (variable_lines ++ (column_lines ++ (ending_line ∷ [])))))
  proper = subst (All Proper) parts h.proper

  counts : length (lesses ++ equals) ≡ z.less + z.equal
  counts = omega (arith, length-append lesses equals, h.rows_held.less_count, h.rows_held.equal_count)

  -- the first line
  first-told : first_line ≡ lp_line z.discrete z.variables z.less (z.less + z.equal) (string_at s ts at) (part_of s place bytes)
  first-told =
      let t = string-told s ts at _ h.title proper.0.title in
      let d = spelled-part s place bytes _ h.data_title proper.0.data-title in
      cc (h.discrete, h.numbered.count, h.rows_held.less_count, counts, t, d)

  -- rows
  sources : All (FromConstraint x.structure.constraints) (lesses ++ equals)
  sources = all_append _ lesses equals (kept-all _ less_row p.entries h.sources) (kept-all _ equal_row p.entries h.sources)

  slot : (i : ℕ) (e : Entry) → At (lesses ++ equals) i e → Slot p.variables rs m (slot_at z.less i) e
  slot i e a = slot_held p.variables rs m z.less z.equal p.entries h.rows_held i e a

  -- the lines of each row are proper
  row-proper : All Proper (concat (groups row_group 1 (lesses ++ equals)))
  row-proper = subst (All Proper) (sym (rows-joined 1 (lesses ++ equals))) (all_left Proper (row_lines 1 (lesses ++ equals)) _ proper.1)

  rows_told : Told (RowTold s ts cs rs z.less) (z.less + z.equal) (groups row_group 1 (lesses ++ equals))
  unfolding kind_at floor_in
  rows_told =
      record {
        size = groups-length row_group 1 (lesses ++ equals) ∙ counts;
        each = λ i ks a.
            let r = group_at row_group 1 (lesses ++ equals) i ks a in
            let e = r.0 in
            let o = slot i e r.1 in
            let visible = (subst (All Proper) r.2 (all_of Proper _ i ks a row-proper)).0.title in
            let n : 1 + i ≡ i + 1 = omega arith in
            let floor : floor_in rs (slot_at z.less i) ≡ e.floor = floor-told p.variables rs m (slot_at z.less i) e o in
            let last : is_equal e.source.constraint.relation ≡ leb z.less i = equal-last p.entries i e r.1 ∙ ap (λ k. leb k i) (sym h.rows_held.less_count) in
            let kind : kind_of e.source.constraint.relation ≡ kind_at z.less i (floor_in rs (slot_at z.less i)) = o.kind ∙ cc (last, floor) in
            let right : unpacked (word_at rs (slot_at z.less i)) ≡ right_of e.fact = ap unpacked o.right ∙ word_back _ o.valid in
            let title = title-told s ts cs x.structure.names x.structure.constraints e.source.ordinal e.source.constraint h.constrained (all-at _ (lesses ++ equals) i e r.1 sources) visible in
            record {
              own = _;
              alone = record { constraint = e.source.ordinal; element = e.source.element; keyed = o.keyed; key = o.key; is = refl };
              is = r.2 ∙ cc (n, kind, right, title, floor);
            };
      }

  -- variables
  variable-proper : All Proper (concat (groups (variable_group x.structure.names p) 0 p.variables))
  variable-proper =
      subst (All Proper) (sym (variables-joined x.structure.names p 0 p.variables))
      (all_left Proper variable_lines _ (all_right Proper (row_lines 1 (lesses ++ equals)) _ proper.1))

  variables-told : Told (VariableTold s ns vs bs z.discrete) z.variables (groups (variable_group x.structure.names p) 0 p.variables)
  variables-told =
      record {
        size = groups-length (variable_group x.structure.names p) 0 p.variables ∙ sym h.numbered.count;
        each = λ j ks a.
            let r = group_at (variable_group x.structure.names p) 0 p.variables j ks a in
            let v = r.0 in
            let b : j < z.variables = omega (arith, h.numbered.count, at_length p.variables j v r.1) in
            let n : 0 + j ≡ j = omega arith in
            let is = rw (n, ← add-one j) at r.2 in
            let visible = (subst (All Proper) r.2 (all_of Proper _ j ks a variable-proper)).0.name in
            let name = name-told s ns x.structure.names v.name undeclared h.named refl visible in
            let lower = lower-told p.entries bs j (h.bounds.lower j b) in
            let upper = upper-told p.entries bs j (h.bounds.upper j b) in
            record {
              name = v.name;
              element = v.element;
              keyed = all-at KeyedVariable p.variables j v r.1 h.keyed;
              key = h.numbered.keys j v b ∙ ap variable_key (at-get_d p.variables j v v r.1);
              is = is ∙ cc (h.discrete, name, lower, upper);
            };
      }

  -- coefficients
  column : (j : ℕ) → j < length p.variables → Column m z.less p.objective j 0 (lesses ++ equals)
  unfolding objective_row row_limit
  column j b =
      record {
        rows = λ i e a. let n : 0 + i ≡ i = omega arith in rw n (value-told p.variables m (slot_at z.less i) j (coefficients_of e.fact) (slot i e a).row b);
        last = value-told p.variables m 512 j p.objective h.objective.row b;
      }

  coefficients-told : columns_from m z.less (z.less + z.equal) z.variables 0 ≡ column_lines
  coefficients-told = rw (← counts, h.numbered.count) (columns-told m z.less p.objective (lesses ++ equals) (length p.variables) 0 (λ n b. column n (omega arith)))

  -- the tables without names and strings
  pub shown-held : p.discrete ≤ length p.variables → Held rs bs m z p
  shown-held a =
      record {
        discrete = h.discrete;
        variables = h.numbered.count;
        among = a;
        few = h.few;
        rows = h.rows_held;
        objective = h.objective;
        stated = h.bounds;
      }

  -- ---- all of them written
  pub all-within : within (length s) z ≡ true
  all-within = yes-within (length s) z h.short (reading.yes-within z (omega (arith, h.numbered.count, h.few)) h.rows_held.room)

  pub all-written : {l : List ℕ} {r₁ : ℕ} {l₁ : List ℕ} {r₂ : ℕ} {l₂ : List ℕ} {r₃ : ℕ} {l₃ : List ℕ} {r₄ : ℕ} {l₄ : List ℕ} {r₅ : ℕ} {l₅ : List ℕ}
      → Written l 0 (shown_line (lp_line z.discrete z.variables z.less (z.less + z.equal) (string_at s ts at) (part_of s place bytes))) r₁ l₁
      → WritesAll (RowTold s ts cs rs z.less) (z.less + z.equal) l₁ r₁ r₂ l₂
      → WritesAll (VariableTold s ns vs bs z.discrete) z.variables l₂ r₂ r₃ l₃
      → Written l₃ r₃ (shown_lines (columns_from m z.less (z.less + z.equal) z.variables 0)) r₄ l₄
      → Written l₄ r₄ (shown_line ending_line) r₅ l₅ → Written l 0 (shown_lines (lines_of x p)) r₅ l₅
  all-written a b c d e =
      rw parts
      (line-join first_line _ (rw first-told a)
      (lines_join (row_lines 1 (lesses ++ equals)) _ (all_told _ _ _ _ b rows_told (rows-joined 1 (lesses ++ equals)))
      (lines_join variable_lines _ (all_told _ _ _ _ c variables-told (variables-joined x.structure.names p 0 p.variables))
      (lines_join column_lines (ending_line ∷ []) (rw coefficients-told at d) (one_line ending_line e)))))

-- ---- what `write` answers

module _ (s ns ts : List ℕ) (cs : List Record) (vs rs : Table) (bs : BoundTable) (m : List ℤ) (z : Sizes) (at place bytes : ℕ) where
  pub lists-none : (b : Bool) (l : List ℕ) (r : ℕ) (l' : List ℕ) → b ≡ within (length s) z → not b ≡ true → Lists s ns ts cs vs rs bs m z at place bytes l r l'
  lists-none b l r l' e n = record { lines = λ x p h. never (sym (all-within h) ∙ sym e ∙ not-true b n) }
    where
      never : {A : Type 0} → ◌≡◌ {A = Bool} true false → A
      never q = let z : ◌≡◌ {A = ℕ} 0 1 = cc in absurd (omega arith)

  pub lists-all : {l : List ℕ} {r₁ : ℕ} {l₁ : List ℕ} {r₂ : ℕ} {l₂ : List ℕ} {r₃ : ℕ} {l₃ : List ℕ} {r₄ : ℕ} {l₄ : List ℕ} {r₅ : ℕ} {l₅ : List ℕ}
      → Written l 0 (shown_line (lp_line z.discrete z.variables z.less (z.less + z.equal) (string_at s ts at) (part_of s place bytes))) r₁ l₁
      → WritesAll (RowTold s ts cs rs z.less) (z.less + z.equal) l₁ r₁ r₂ l₂
      → WritesAll (VariableTold s ns vs bs z.discrete) z.variables l₂ r₂ r₃ l₃
      → Written l₃ r₃ (shown_lines (columns_from m z.less (z.less + z.equal) z.variables 0)) r₄ l₄
      → Written l₄ r₄ (shown_line ending_line) r₅ l₅ → Lists s ns ts cs vs rs bs m z at place bytes l r₅ l₅
  lists-all a b c d e = record { lines = λ x p h. all-written h a b c d e }
