-- Laws of what the tables of a problem tell: the row of a number, its coefficients, right side and floor, the bounds of a
-- variable; and that each of these values is valid.
use Rattle.std.specs.Prelude.{Option, Some, None}
use mathlib.Core.Path.{◌≡◌, refl, sym, ◌∙◌, ap}
use mathlib.Core.Logic.{inl, inr}
use mathlib.Core.List.{List, [], ◌∷◌, ◌++◌}
use Prim.Native.Nat.{ℕ, ◌-◌, ◌*◌, ◌<◌, ◌≤◌}
use native.Mathlib.Omega.{arith}
use borrow.Author.Tests.{lt-ltb, le-ltb, ne_eqb}
use lib.ListN.{length, get_or}
use lib.Seq.{get_or-take, get_or-drop}
use lib.IntN.{ℤ, pos}
use Rattle.rules.specs.Limits.{variable_limit}
use Rattle.value.specs.declared.Value.{Value}
use Rattle.value.specs.Decimal.{Valid, zero_value, is_at_most}
use Rattle.value.specs.Gathering.{of_millionths}
use Rattle.value.proofs.Fitting.{fit_of-valid}
use Rattle.value.proofs.Operations.{zero-valid}
use Rattle.language.specs.All.{All}
use Rattle.language.specs.Valid.{ValidIfAny}
use Rattle.language.specs.Listed.{At}
use Rattle.language.proofs.Listed.{Split, at_length, at-append}
use Rattle.language.specs.Numbering.{Variable, Row, Entry, keep, less_row, equal_row, is_at_least, largest, smallest, lower_of, upper_of}
use Rattle.language.proofs.ValidProblem.{extreme-valid}
use Rattle.store.specs.Table.{Table, word_at}
use Rattle.store.specs.Packed.{packed, unpacked}
use Rattle.store.proofs.Words.{unpacked-packed}
use Rattle.rows.specs.Counts.{RowOf}
use Rattle.rows.specs.Slots.{counts_at, floor_slot, floor_word, Slot, RowsHeld}
use Rattle.rows.specs.Bounds.{lowers_of, uppers_of, kept_of, BoundTable, nth_bound}
use Rattle.rows.specs.Read.{slot_at, count_at, fitted, value_of, lower_in, upper_in, end_in}
use Rattle.rows.proofs.Bounding.{packed_above}

-- ---- rows

-- the row of number i, from 0, of all rows
pub slot_held : (vs : List Variable) (t : Table) (m : List ℤ) (less equal : ℕ) (es : List Entry) → RowsHeld vs t m less equal es → (i : ℕ) (e : Entry)
    → At (keep less_row es ++ keep equal_row es) i e → Slot vs t m (slot_at less i) e
unfolding slot_at
slot_held vs t m less equal es h i e a = go (at-append (keep less_row es) (keep equal_row es) i e a)
  where
    go : Split (keep less_row es) (keep equal_row es) i e → Slot vs t m (slot_at less i) e
    go (inl b) =
        let c : i < less = omega (arith, h.less_count, at_length (keep less_row es) i e b) in
        rw (lt-ltb i less c) (h.less_rows i e b)
    go (inr b) =
        let c : less ≤ i = omega (arith, h.less_count, b.1) in
        let d : i - less ≡ b.0 = omega (arith, h.less_count, b.1) in
        rw (le-ltb i less c, d) (h.equal_rows b.0 e b.2)

-- ---- coefficients

count-told : (m : List ℤ) (n k j : ℕ) → j < n → get_or (counts_at m n k) j (pos 0) ≡ count_at m k j
unfolding counts_at count_at variable_limit
count-told m n k j h = get_or-take n _ j (pos 0) h ∙ get_or-drop (k * 512) m j (pos 0)

pub value-told : (vs : List Variable) (m : List ℤ) (k j : ℕ) (r : Row) → RowOf vs (counts_at m (length vs) k) r → j < length vs → value_of (count_at m k j) ≡ get_or r j zero_value
unfolding value_of fitted
value-told vs m k j r h b =
    ap fitted (ap of_millionths (sym (count-told m (length vs) k j b)) ∙ h.row.same j (omega (arith, h.count)))

-- ---- bounds

-- a valid value comes back from its word
pub word_back : (v : Value) → Valid v → unpacked (packed v) ≡ v
word_back v h = unpacked-packed v h.small h.places

lower-back : (l : List Value) → fitted (kept_of is_at_most l) ≡ largest l
unfolding fitted kept_of largest
lower-back [] = refl
lower-back (v ∷ l) = refl

upper-back : (l : List Value) → kept_of is_at_least l ≡ smallest l
unfolding kept_of smallest
upper-back [] = refl
upper-back (v ∷ l) = refl

module _ (es : List Entry) (b : BoundTable) (j : ℕ) where
  pub lower-told : (nth_bound b j).lower ≡ kept_of is_at_most (lowers_of es j) → lower_in b j ≡ lower_of es j
  unfolding lower_in lower_of lowers_of
  lower-told e = ap fitted e ∙ lower-back (lowers_of es j)

  pub upper-told : (nth_bound b j).upper ≡ kept_of is_at_least (uppers_of es j) → upper_in b j ≡ upper_of es j
  unfolding upper_in upper_of uppers_of
  upper-told e = e ∙ upper-back (uppers_of es j)

-- ---- floors

end_back : (o : Option Value) → ValidIfAny o → end_in (floor_word o) ≡ o
unfolding end_in floor_word
end_back None h = refl
end_back (Some v) h = rw (ne_eqb (packed v) 0 (packed_above v h)) (ap Some (word_back v h))

pub floor-told : (vs : List Variable) (t : Table) (m : List ℤ) (k : ℕ) (e : Entry) → Slot vs t m k e → end_in (word_at t (floor_slot k)) ≡ e.floor
floor-told vs t m k e h = ap end_in h.floor ∙ end_back e.floor h.valid_floor

-- ---- every value is valid

-- a coefficient
pub row-valid : (vs : List Variable) (l : List ℤ) (r : Row) (j : ℕ) → RowOf vs l r → j < length vs → Valid (get_or r j zero_value)
unfolding of_millionths
row-valid vs l r j h b = fit_of-valid _ _ (h.row.same j (omega (arith, h.count)))

lower-kept : (l : List Value) → All Valid l → Valid (largest l)
unfolding largest
lower-kept [] h = zero-valid
lower-kept (v ∷ l) h = extreme-valid is_at_most v l h.0 h.1

upper-kept : (l : List Value) → All Valid l → ValidIfAny (smallest l)
unfolding smallest
upper-kept [] h = tt
upper-kept (v ∷ l) h = extreme-valid is_at_least v l h.0 h.1

-- bounds
module _ (es : List Entry) (j : ℕ) where
  pub lower-held : All Valid (lowers_of es j) → Valid (lower_of es j)
  unfolding lower_of lowers_of
  lower-held h = lower-kept _ h

  pub upper-held : All Valid (uppers_of es j) → ValidIfAny (upper_of es j)
  unfolding upper_of uppers_of
  upper-held h = upper-kept _ h
