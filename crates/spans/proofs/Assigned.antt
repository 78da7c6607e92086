-- A row's value at any numbers, one for each printed number of a variable, is that of its coefficients at an assignment to the
-- variables.
use Rattle.std.specs.Prelude.{Option, Some, None}
use mathlib.Core.Path.{◌≡◌, refl, sym, ◌∙◌, ap, subst}
use mathlib.Core.Bool.{true, cond}
use mathlib.Core.List.{List, [], ◌∷◌, map}
use Prim.Native.Nat.{ℕ, suc}
use lib.Dec.{eqb}
use lib.ListN.{length}
use Rattle.value.specs.declared.Value.{Value}
use Rattle.value.specs.Rational.{ℚ, 𝟎, ◌⊕◌, ◌⊗◌}
use Rattle.value.specs.Number.{exactly}
use Rattle.language.specs.Listed.{At, In, Distinct}
use Rattle.language.proofs.Listed.{at-get_d, at_map, in-later}
use Rattle.language.specs.Outcome.{done}
use Rattle.language.proofs.Outcome.{after, done-injective}
use Rattle.language.specs.Scope.{Scope}
use Rattle.language.specs.Syntax.{Formula, Relation, Side, bare, form}
use Rattle.language.specs.Model.{Model, start, discretes, continuouses}
use Rattle.language.specs.Store.{all_given}
use Rattle.language.specs.Numbering.{Variable, add_variables, number_of, gathered, Fact, fact_of, is_row, Entry, add_entries, Lp, less_rows, equal_rows, rows, generate}
use Rattle.language.specs.Listing.{Line, lp_line, row_line, low_line, var_line, col_line, ending_line, coefficients_of, lines_of}
use Rattle.language.specs.Demand3.{column_term, row_value, by_number, ColumnLine}
use Rattle.language.proofs.Gathered.{dot, number_of-at}
use Rattle.language.proofs.DataGiven.{at_some}
use Rattle.language.proofs.EachNumbered.{in-number_of}
use Rattle.language.proofs.Entries.{of-form, entries-grown, entry-made}
use Rattle.language.proofs.Numbered.{rows_in_lem, row-form}
use Rattle.language.proofs.Summed.{by_number_lem, row-lines}
use Rattle.language.proofs.Kept.{keeps}

-- ---- a row has a coefficient for each variable

fact-long : (vs : List Variable) (d : Side) (r : Relation) (g : Formula) (s : Scope) (f : Fact) → fact_of vs d r g s ≡ done f → is_row f ≡ true → length (coefficients_of f) ≡ length vs
fact-long vs (bare i d fs q) r g s f e k = absurd (row-form vs (bare i d fs q) r g s f e k)
fact-long vs (form h) r g s f e k = let o = of-form vs h r g s f e in ap (λ f. length (coefficients_of f)) o.fact-is ∙ o.long

abbrev Long : Lp → Type 0
Long p = (i : ℕ) (e : Entry) → At (rows p) i e → length (coefficients_of e.fact) ≡ length p.variables

pub rows_long : (m : Model) (p : Lp) → generate m ≡ done p → Long p
unfolding generate rows less_rows equal_rows
rows_long m p e =
    after (all_given 0 m.structure.names (start m)) _ p e λ _ _ e.
    after (add_variables (start m) (discretes m) []) _ p e λ a _ e.
    after (add_variables (start m) (continuouses m) a) _ p e λ b _ e.
    after (gathered b m.structure.objective (start m)) _ p e λ _ _ e.
    after (add_entries b (start m) 0 m.structure.constraints []) _ p e λ es ge e.
    let w = entries-grown b (start m) 0 m.structure.constraints [] es ge in
    subst Long (done-injective e)
    (λ i x at.
    let k = rows_in_lem es x (record { place = i; at = at }) in
    fact-long b _ _ _ _ x.fact (entry-made m b es (w.gives ∙ ap done w.appended) x k.0).made k.1)

-- ---- the assignment

module _ (vs : List Variable) (y : ℕ → ℚ) where
  abbrev number_at : Option ℕ → ℚ
  number_at None = 𝟎
  number_at (Some j) = y (suc j)

  unfoldable pub assigned : Variable → ℚ
  assigned v = number_at (number_of v.name v.element vs)

  pub assigned-is : Distinct vs → (j : ℕ) (v : Variable) → At vs j v → assigned v ≡ y (suc j)
  unfolding assigned
  assigned-is d j v at =
      let k = in-number_of v.name v.element vs (record { place = j; at = at }) in
      ap number_at k.is ∙ ap (λ i. y (suc i)) (d.once k.it j v (number_of-at v.name v.element vs k.it k.is) at)

-- ---- the sum over the `col` lines

module _ (i : ℕ) (y z : ℕ → ℚ) where
  same-term : (l : Line) → ((j n : ℕ) (v : Value) → l ≡ col_line j n v → y j ≡ z j) → column_term i y l ≡ column_term i z l
  unfolding column_term
  same-term (lp_line a b c d s t) h = refl
  same-term (row_line n q v s e) h = refl
  same-term (low_line n v) h = refl
  same-term (var_line n d l u s e) h = refl
  same-term (col_line j n v) h = ap (λ q. cond (eqb n i) (exactly v ⊗ q) 𝟎) (h j n v refl)
  same-term ending_line h = refl

  same-value : (ls : List Line) → ((j n : ℕ) (v : Value) → In ls (col_line j n v) → y j ≡ z j) → row_value i y ls ≡ row_value i z ls
  unfolding row_value
  same-value [] h = refl
  same-value (l ∷ ls) h =
      ap (λ q. q ⊕ row_value i y ls) (same-term l (λ j n v e. h j n v (record { place = 0; at = e })))
      ∙ ap (λ q. column_term i z l ⊕ q) (same-value ls (λ j n v k. h j n v (in-later l ls (col_line j n v) k)))

module _ (m : Model) (p : Lp) (made : generate m ≡ done p) (y : ℕ → ℚ) where
  abbrev x : Variable → ℚ
  x = assigned p.variables y

  of-column : (j n : ℕ) (v : Value) → ColumnLine p j n v → y j ≡ by_number p x j
  of-column j n v c =
      let k = at_some p.variables c.variable c.variable-within in
      subst (λ j. y j ≡ by_number p x j) (sym c.variable-is)
      (sym (by_number_lem m p x c.variable ∙ at-get_d (map x p.variables) c.variable (x k.0) 𝟎 (at_map x p.variables c.variable k.0 k.1)
      ∙ assigned-is p.variables y (keeps m p made).variable-numbers.once c.variable k.0 k.1))

  pub row-value : (i : ℕ) (e : Entry) → At (rows p) i e → row_value (suc i) y (lines_of m p) ≡ dot (coefficients_of e.fact) (map (assigned p.variables y) p.variables)
  row-value i e at =
      same-value (suc i) y (by_number p x) (lines_of m p) (λ j n v k. of-column j n v ((keeps m p made).every-line (col_line j n v) k))
      ∙ row-lines m p x i e at (rows_long m p made i e at)
