-- Demand 3 on a read model: the listing of a generated problem keeps the model's meaning.
use Rattle.std.specs.Prelude.{Option, Some, None}
use mathlib.Core.Path.{◌≡◌, refl, sym, ◌∙◌, ap, subst, subst₂}
use mathlib.Core.Logic.{◌↔◌, inl, inr}
use mathlib.Core.Bool.{Bool}
use mathlib.Core.List.{List, [], map}
use Prim.Native.Nat.{ℕ, suc}
use lib.IntN.{ℤ}
use lib.ListN.{length, length-map}
use Rattle.value.specs.Number.{exactly}
use Rattle.language.specs.Listed.{At, In}
use Rattle.language.proofs.Listed.{at-get_d, at_map}
use Rattle.value.specs.Rational.{ℚ, 𝟎, ◌⊑◌}
use Rattle.value.proofs.Rational.{⊑_refl, ⊑_trans, ⊑-antisym}
use Rattle.language.specs.Outcome.{done}
use Rattle.language.proofs.Outcome.{after, done-injective}
use Rattle.value.specs.declared.Value.{Value}
use Rattle.language.specs.Scope.{Scope}
use Rattle.language.specs.Syntax.{Formula, Name, Relation, at_most, at_least, equal, between, Side, bare, form}
use Rattle.language.specs.Written.{value, subscripts, negated_if, Declared, scope_at}
use Rattle.language.specs.Model.{Model, start, discretes, continuouses}
use Rattle.language.specs.Store.{all_given}
use Rattle.language.specs.Numbering.{Variable, Row, signed, gathered, add_variables, add_entries, Source, Entry, Fact, flips, fact_of, lower_of, upper_of, Lp, less_rows, equal_rows, rows, generate}
use Rattle.language.specs.Listing.{Kind, Line, row_line, low_line, var_line, right_of, coefficients_of, kind_of, lines_of}
use Rattle.language.specs.Demand3.{Holds, RowMet, States, Lower, Upper, Names, side_value, left_value, right_value, lower_by, lower_value, row_value, BelowUpper, Feasible, by_number, RowLine, LowLine, VariableLine, IsLower, IsUpper, FloorIs, Meets, Keeps, OneToOne, IsForm}
use Rattle.value.proofs.Numbers.{exactly-zero}
use Rattle.language.proofs.Gathered.{dot, gathered-done, gathered-long}
use Rattle.language.proofs.Elements.{walk}
use Rattle.language.proofs.Entries.{dot-signed, floor-done, AboveFloor, met, of-form, entries, placed, entries-grown, Made, entry-made, made-entry}
use Rattle.language.proofs.Numbered.{Variables, variables-made, rows_of, in_table, variable-numbers, variable-order, discrete-first, row-numbers, row-order, less-first, in_rows, rows_in_lem, row-form, form-row}
use Rattle.language.proofs.Stated.{names-bound, lower-bound, upper-bound}
use Rattle.language.proofs.Summed.{by_number_lem, row-lines, objective-lines}
use Rattle.language.proofs.Lines.{every-line, in_order, lp-line, end_line, row-line, low-line, var-line, variable-line, objective-line}

-- ---- one constraint at one element

module _ (vs : List Variable) (x : Variable → ℚ) (r : Relation) (g : Formula) (s : Scope) (f : Fact) where
  row-values : (d : Side) → fact_of vs d r g s ≡ done f → IsForm d
      → (dot (coefficients_of f) (map x vs) ≡ negated_if (flips r) (side_value x d s)) × (exactly (right_of f) ≡ negated_if (flips r) (value g s))
  unfolding side_value
  row-values (bare n d fs p) e k = absurd k
  row-values (form h) e k =
      let o = of-form vs h r g s f e in
      (ap (λ f. dot (coefficients_of f) (map x vs)) o.fact-is ∙ o.left-value x, ap (λ f. exactly (right_of f)) o.fact-is ∙ o.right-value)

  -- a row and its floor are met where the written constraint holds
  row-met : (d : Side) → fact_of vs d r g s ≡ done f → IsForm d → (w : Option Value) → FloorIs r s w
      → (RowMet (kind_of r) (dot (coefficients_of f) (map x vs)) (exactly (right_of f)) × AboveFloor w (dot (coefficients_of f) (map x vs)))
      ↔ Holds r s (side_value x d s) (value g s)
  row-met d e k w is =
      let v = row-values d e k in (
        λ h. (met r s w _ _ is).0 (subst₂ Both v.0 v.1 h),
        λ h. subst₂ Both (sym v.0) (sym v.1) ((met r s w _ _ is).1 h),
      )
    where
      Both : ℚ → ℚ → Type 0
      Both p q = RowMet (kind_of r) p q × AboveFloor w p

-- a side that names a variable has its number for a value
names-value : (x : Variable → ℚ) (d : Side) (s : Scope) (v : Variable) → Names d s v → side_value x d s ≡ x v
unfolding side_value
names-value x (bare n d fs p) s v k = ap x k
names-value x (form f) s v k = absurd k

-- a relation holds where its lower and its upper bound are kept
module _ (s : Scope) (p q : ℚ) where
  keeps-lower : (r : Relation) → Lower r → Holds r s p q → lower_by r s q ⊑ p
  unfolding lower_by
  keeps-lower at_most k h = absurd k
  keeps-lower at_least k h = h
  keeps-lower equal k h = subst (λ y. y ⊑ p) h (⊑_refl p)
  keeps-lower (between f) k h = h.1

  keeps-upper : (r : Relation) → Upper r → Holds r s p q → p ⊑ q
  keeps-upper at_most k h = h
  keeps-upper at_least k h = absurd k
  keeps-upper equal k h = subst (λ y. p ⊑ y) h (⊑_refl p)
  keeps-upper (between f) k h = h.0

  holds-between : (r : Relation) → (Lower r → lower_by r s q ⊑ p) → (Upper r → p ⊑ q) → Holds r s p q
  unfolding lower_by
  holds-between at_most low high = high tt
  holds-between at_least low high = low tt
  holds-between equal low high = ⊑-antisym (high tt) (low tt)
  holds-between (between f) low high = (high tt, low tt)

-- ---- the whole model

module _ (m : Model) (vs : List Variable) (n : ℕ) (variables-made : Variables m vs n)
    (es : List Entry) (generated : walk (entries vs) (start m) (placed 0 m.structure.constraints) ≡ done es) where
  numbered : OneToOne vs (Declared m)
  numbered = variable-numbers m vs n variables-made

  lower-is : (j : ℕ) (v : Variable) → At vs j v → IsLower m v (lower_of es j)
  lower-is = lower-bound m vs es generated numbered.once

  upper_is : (j : ℕ) (v : Variable) → At vs j v → IsUpper m v (upper_of es j)
  upper_is = upper-bound m vs es generated numbered.once

  made : (e : Entry) → In es e → Made m vs e
  made = entry-made m vs es generated

  -- a row of the list, with its constraint
  row-of : (i : ℕ) (e : Entry) → At (rows_of es) i e → Made m vs e × IsForm e.source.constraint.left
  row-of i e at =
      let k = rows_in_lem es e (record { place = i; at = at }) in
      let o = made e k.0 in
      (o, row-form vs e.source.constraint.left _ _ _ e.fact o.made k.1)

  floor-is : (i : ℕ) (e : Entry) → At (rows_of es) i e → FloorIs e.source.constraint.relation (scope_at m e.source) e.floor
  floor-is i e at = floor-done e.source.constraint.relation (scope_at m e.source) e.floor (row-of i e at).0.floor

  row-long : (d : Side) (r : Relation) (g : Formula) (s : Scope) (f : Fact) → fact_of vs d r g s ≡ done f → IsForm d → length (coefficients_of f) ≡ length vs
  row-long (bare n d fs p) r g s f e k = absurd k
  row-long (form h) r g s f e k = let o = of-form vs h r g s f e in ap (λ f. length (coefficients_of f)) o.fact-is ∙ o.long

  long-row : (i : ℕ) (e : Entry) → At (rows_of es) i e → length (coefficients_of e.fact) ≡ length vs
  long-row i e at = let o = row-of i e at in row-long e.source.constraint.left _ _ _ e.fact o.0.made o.1

  module _ (x : Variable → ℚ) where
    left_is : (i : ℕ) (e : Entry) → At (rows_of es) i e
        → dot (coefficients_of e.fact) (map x vs) ≡ negated_if (flips e.source.constraint.relation) (left_value m x e.source)
    unfolding left_value
    left_is i e at = let o = row-of i e at in (row-values vs x _ _ _ e.fact e.source.constraint.left o.0.made o.1).0

    right_is : (i : ℕ) (e : Entry) → At (rows_of es) i e
        → exactly (right_of e.fact) ≡ negated_if (flips e.source.constraint.relation) (right_value m e.source)
    unfolding right_value
    right_is i e at = let o = row-of i e at in (row-values vs x _ _ _ e.fact e.source.constraint.left o.0.made o.1).1

    record Fits : Type 0 where
      meets-rows : (i : ℕ) (e : Entry) → At (rows_of es) i e → RowMet (kind_of e.source.constraint.relation) (dot (coefficients_of e.fact) (map x vs)) (exactly (right_of e.fact))
      meets-floors : (i : ℕ) (e : Entry) → At (rows_of es) i e → AboveFloor e.floor (dot (coefficients_of e.fact) (map x vs))
      above_lower : (j : ℕ) (v : Variable) → At vs j v → exactly (lower_of es j) ⊑ x v
      below-upper : (j : ℕ) (v : Variable) → At vs j v → BelowUpper (upper_of es j) (x v)

    meets-fits : Meets m x → Fits
    unfolding left_value right_value lower_value
    meets-fits h =
        record {
          meets-rows = λ i e at. (both i e at).0;
          meets-floors = λ i e at. (both i e at).1;
          above_lower = λ j v at. above v (lower_of es j) (numbered.of_number j v at) (lower-is j v at);
          below-upper = λ j v at. below v (upper_of es j) (upper_is j v at);
        }
      where
        both : (i : ℕ) (e : Entry) → At (rows_of es) i e
            → RowMet (kind_of e.source.constraint.relation) (dot (coefficients_of e.fact) (map x vs)) (exactly (right_of e.fact)) × AboveFloor e.floor (dot (coefficients_of e.fact) (map x vs))
        both i e at =
            let o = row-of i e at in
            (row-met vs x _ _ _ e.fact e.source.constraint.left o.0.made o.1 e.floor (floor-is i e at)).1 (h.constraints e.source o.0.written)

        above : (v : Variable) (l : Value) → Declared m v → IsLower m v l → exactly l ⊑ x v
        above v l d b = elim b.stated [
          | inl (o, t, e) ↦ subst₂ ◌⊑◌ e (names-value x o.constraint.left (scope_at m o) v t.names)
              (keeps-lower _ _ _ o.constraint.relation t.kind (h.constraints o t.written))
          | inr (unstated, e) ↦ subst (λ q. q ⊑ x v) (sym (ap exactly e ∙ exactly-zero))
              (h.at_least_0 v d unstated)
        ]

        below : (v : Variable) (u : Option Value) → IsUpper m v u → BelowUpper u (x v)
        below v None k = tt
        below v (Some u) (k, (o, t, e)) =
            subst₂ ◌⊑◌ (names-value x o.constraint.left (scope_at m o) v t.names) e
            (keeps-upper _ _ _ o.constraint.relation t.kind (h.constraints o t.written))

    fits-meets : Fits → Meets m x
    unfolding left_value right_value side_value lower_value
    fits-meets h =
        record {
          constraints = λ o w.
              let a = made-entry m vs es generated o w in
              holds o a.0 a.1 a.2 a.3 o.constraint.left refl;
          at_least_0 = λ v d unstated.
              let n = numbered.has-number v d in
              least v (lower_of es n.place) unstated (h.above_lower n.place v n.at) (lower-is n.place v n.at);
        }
      where
        least : (v : Variable) (l : Value) → ((o : Source) → States Lower m v o → ⊥) → exactly l ⊑ x v → IsLower m v l → 𝟎 ⊑ x v
        least v l unstated k b = elim b.stated [
          | inl (o, t, e) ↦ absurd (unstated o t)
          | inr (unsaid, e) ↦ subst (λ q. q ⊑ x v) (ap exactly e ∙ exactly-zero) k
        ]

        below : (v : Variable) (o : Source) (u : Option Value) → IsUpper m v u → BelowUpper u (x v) → States Upper m v o → x v ⊑ right_value m o
        below v o None k b t = absurd (k o t)
        below v o (Some u) k b t = ⊑_trans b (k.0 o t)

        holds : (o : Source) (f : Fact) (w : Option Value) → Made m vs (record { source = o; fact = f; floor = w }) → In es (record { source = o; fact = f; floor = w })
            → (d : Side) → o.constraint.left ≡ d → Holds o.constraint.relation (scope_at m o) (left_value m x o) (right_value m o)
        holds o f w e k (bare n d fs p) same =
            let s : Scope = scope_at m o in
            let v : Variable = record { name = n; element = subscripts fs s } in
            let named : Names o.constraint.left s v = subst (λ d. Names d s v) (sym same) refl in
            let b = names-bound vs o.constraint.relation o.constraint.right s f o.constraint.left e.made v named in
            subst (λ y. Holds o.constraint.relation s y (right_value m o)) (sym (names-value x o.constraint.left s v named))
            (holds-between _ _ _ o.constraint.relation
            (λ t. ⊑_trans ((lower-is b.number v b.at).least o (record { written = e.written; kind = t; names = named })) (h.above_lower b.number v b.at))
            (λ t. below v o (upper_of es b.number) (upper_is b.number v b.at) (h.below-upper b.number v b.at) (record { written = e.written; kind = t; names = named })))
        holds o f w e k (form g) same =
            let is_form : IsForm o.constraint.left = rw same tt in
            let r = in_rows es (record { source = o; fact = f; floor = w }) k (form-row vs o.constraint.left _ _ _ f e.made is_form) in
            (row-met vs x _ _ _ f o.constraint.left e.made is_form w (floor-done o.constraint.relation (scope_at m o) w e.floor)).0
            (h.meets-rows r.place _ r.at, h.meets-floors r.place _ r.at)

-- ---- the printed lines

-- what a generated problem is made of
record Parts (m : Model) (p : Lp) : Type 0 where
  variables-made : Variables m p.variables p.discrete
  entries-made : walk (entries p.variables) (start m) (placed 0 m.structure.constraints) ≡ done p.entries
  form-row : Row
  form-made : gathered p.variables m.structure.objective (start m) ≡ done form-row
  objective-is : p.objective ≡ map (signed m.structure.minimize) form-row

-- each variable's name stands in the table
table : (m : Model) (p : Lp) → Parts m p → (j : ℕ) (v : Variable) → At p.variables j v → (n : Name) × At m.structure.names v.name n
table m p parts j v at = in_table m v ((variable-numbers m p.variables p.discrete parts.variables-made).of_number j v at)

module _ (m : Model) (p : Lp) (parts : Parts m p) (x : Variable → ℚ) where
  abbrev ls : List Line
  ls = lines_of m p

  abbrev y : ℕ → ℚ
  y = by_number p x

  rows_are : (i : ℕ) (e : Entry) → At (rows p) i e → At (rows_of p.entries) i e
  unfolding rows less_rows equal_rows
  rows_are i e at = at

  are-rows : (i : ℕ) (e : Entry) → At (rows_of p.entries) i e → At (rows p) i e
  unfolding rows less_rows equal_rows
  are-rows i e at = at

  lines_are : (i : ℕ) (e : Entry) → At (rows p) i e → row_value (suc i) y ls ≡ dot (coefficients_of e.fact) (map x p.variables)
  lines_are i e at = row-lines m p x i e at (long-row m p.variables p.discrete parts.variables-made p.entries parts.entries-made i e (rows_are i e at))

  assigned : (j : ℕ) (v : Variable) → At p.variables j v → y (suc j) ≡ x v
  assigned j v at = by_number_lem m p x j ∙ at-get_d (map x p.variables) j (x v) 𝟎 (at_map x p.variables j v at)

  abbrev FitsHere : Type 0
  FitsHere = Fits m p.variables p.discrete parts.variables-made p.entries parts.entries-made x

  feasible-fits : Feasible ls y → FitsHere
  feasible-fits h =
      record {
        meets-rows = λ i e at.
            let at' = are-rows i e at in
            subst (λ q. RowMet (kind_of e.source.constraint.relation) q (exactly (right_of e.fact))) (lines_are i e at')
            (h.meets-rows (suc i) (kind_of e.source.constraint.relation) (right_of e.fact) e.source.constraint.title e.source.element (row-line m p i e at'));
        meets-floors = λ i e at. let at' = are-rows i e at in subst (AboveFloor e.floor) (lines_are i e at') (above i e at' e.floor refl);
        above_lower = λ j v at.
            subst (λ q. exactly (lower_of p.entries j) ⊑ q) (assigned j v at) (h.above_lower (suc j) _ _ _ _ _ (var-line m p j v at));
        below-upper = λ j v at.
            subst (BelowUpper (upper_of p.entries j)) (assigned j v at) (h.below-upper (suc j) _ _ _ _ _ (var-line m p j v at));
      }
    where
      above : (i : ℕ) (e : Entry) → At (rows p) i e → (w : Option Value) → e.floor ≡ w → AboveFloor w (row_value (suc i) y ls)
      above i e at None f = tt
      above i e at (Some v) f = h.meets-floors (suc i) v (low-line m p i e v at f)

  fits-feasible : FitsHere → Feasible ls y
  fits-feasible h =
      record {
        meets-rows = λ n q v s e k. of_row n q v s e (every-line m p (table m p parts) (row_line n q v s e) k);
        meets-floors = λ n v k. of_low n v (every-line m p (table m p parts) (low_line n v) k);
        above_lower = λ n d l u s e k. of-lower n d l u s e (every-line m p (table m p parts) (var_line n d l u s e) k);
        below-upper = λ n d l u s e k. of-upper n d l u s e (every-line m p (table m p parts) (var_line n d l u s e) k);
      }
    where
      of_row : (n : ℕ) (q : Kind) (v : Value) (s : List ℕ) (e : List ℤ) → RowLine p n q v s e → RowMet q (row_value n y ls) (exactly v)
      of_row n q v s t o =
          let e = o.entry in
          let met = subst (λ z. RowMet (kind_of e.source.constraint.relation) z (exactly (right_of e.fact))) (sym (lines_are o.number e o.at))
          (h.meets-rows o.number e (rows_are o.number e o.at)) in
          subst (λ k. RowMet q (row_value k y ls) (exactly v)) (sym o.number_is)
          (subst (λ t. RowMet t (row_value (suc o.number) y ls) (exactly v)) (sym o.kind-is)
          (subst (λ w. RowMet (kind_of e.source.constraint.relation) (row_value (suc o.number) y ls) (exactly w)) (sym o.right_is) met))

      of_low : (n : ℕ) (v : Value) → LowLine p n v → exactly v ⊑ row_value n y ls
      of_low n v o =
          subst (λ k. exactly v ⊑ row_value k y ls) (sym o.number_is)
          (subst₂ AboveFloor o.floor-is (sym (lines_are o.number o.entry o.at)) (h.meets-floors o.number o.entry (rows_are o.number o.entry o.at)))

      of-lower : (n : ℕ) (d : Bool) (l : Value) (u : Option Value) (s : List ℕ) (e : List ℤ) → VariableLine m p n d l u s e → exactly l ⊑ y n
      of-lower n d l u s e o =
          subst₂ (λ w z. exactly w ⊑ z) (sym o.lower-is) (sym (ap y o.number_is ∙ assigned o.number o.variable o.at))
          (h.above_lower o.number o.variable o.at)

      of-upper : (n : ℕ) (d : Bool) (l : Value) (u : Option Value) (s : List ℕ) (e : List ℤ) → VariableLine m p n d l u s e → BelowUpper u (y n)
      of-upper n d l u s e o =
          subst₂ BelowUpper (sym o.upper_is) (sym (ap y o.number_is ∙ assigned o.number o.variable o.at))
          (h.below-upper o.number o.variable o.at)

of_parts : (m : Model) (p : Lp) → Parts m p → Keeps m p
unfolding rows less_rows equal_rows
of_parts m p parts =
    let vs = p.variables in
    let n = p.discrete in
    let es = p.entries in
    let gv = parts.variables-made in
    let ge = parts.entries-made in
    let minus = m.structure.minimize in
    record {
      every-line = every-line m p (table m p parts);
      in_order = in_order m p;
      lp-line = lp-line m p;
      end_line = end_line m p;
      row-line = row-line m p;
      low-line = low-line m p;
      variable-line = variable-line m p;
      objective-line = objective-line m p;
      variable-numbers = variable-numbers m vs n gv;
      variable-order = variable-order m vs n gv;
      discrete-first = discrete-first m vs n gv;
      row-numbers = row-numbers m vs es ge;
      row-order = row-order m vs es ge;
      less-first = less-first es;
      row-left = λ x i e at. lines_are m p parts x i e at ∙ left_is m vs n gv es ge x i e at;
      row-right = λ i e at. right_is m vs n gv es ge (λ v. 𝟎) i e at;
      row-floor = floor-is m vs n gv es ge;
      objective = λ x.
          objective-lines m p x
          (ap length parts.objective-is ∙ length-map parts.form-row (signed minus) ∙ gathered-long vs x m.structure.objective (start m) parts.form-row parts.form-made)
          ∙ ap (λ r. dot r (map x vs)) parts.objective-is ∙ dot-signed minus parts.form-row (map x vs)
          ∙ ap (negated_if minus) (gathered-done vs x m.structure.objective (start m) parts.form-row parts.form-made);
      lower-bound = lower-is m vs n gv es ge;
      upper-bound = upper_is m vs n gv es ge;
      allows = λ x. (λ h. fits-meets m vs n gv es ge x (feasible-fits m p parts x h), λ h. fits-feasible m p parts x (meets-fits m vs n gv es ge x h));
    }

-- a generated problem keeps the meaning of its model
pub keeps : (m : Model) (p : Lp) → generate m ≡ done p → Keeps m p
unfolding generate
keeps m p e =
    after (all_given 0 m.structure.names (start m)) _ p e λ _ _ e.
    after (add_variables (start m) (discretes m) []) _ p e λ a ga e.
    after (add_variables (start m) (continuouses m) a) _ p e λ b gb e.
    after (gathered b m.structure.objective (start m)) _ p e λ o go e.
    after (add_entries b (start m) 0 m.structure.constraints []) _ p e λ es ge e.
    let w = entries-grown b (start m) 0 m.structure.constraints [] es ge in
    subst (Keeps m) (done-injective e)
    (of_parts m _
    (record { variables-made = variables-made m a b ga gb; entries-made = w.gives ∙ ap done w.appended; form-row = o; form-made = go; objective-is = refl }))
