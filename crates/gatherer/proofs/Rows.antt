-- Laws of a row of counts: a coefficient added as the definition adds it.
use Rattle.std.specs.Prelude.{Option, Some, None}
use mathlib.Core.Path.{◌≡◌, refl, sym, ◌∙◌, ap, subst}
use mathlib.Core.Bool.{Bool, true, false}
use mathlib.Core.List.{List}
use Prim.Native.Nat.{ℕ, ◌<◌, ◌≤◌}
use native.Mathlib.Omega.{arith}
use native.Mathlib.Decide.{ℕ_discrete}
use borrow.Author.Tests.{ltb-true, ltb-false}
use lib.Dec.{ltb}
use lib.ListN.{length, get_or, set, length-set, get_or-eq_default}
use lib.Seq.{get_or-set_same, get_or-set_other}
use lib.IntN.{ℤ, pos, nat_abs, ◌+ℤ◌}
use Rattle.rules.specs.declared.Refusal.TheVariants.{Unfit}
use Rattle.value.specs.declared.Value.{Value}
use Rattle.value.specs.Decimal.{Valid, zero_value, sum_of}
use Rattle.value.specs.Gathering.{millionths, of_millionths, is_fit, count_limit, Gathered, Counts}
use Rattle.value.proofs.Gathering.{count_small, of_millionths-sum, gathers-fit, gathered-value}
use Rattle.language.specs.Outcome.{done, refused}
use Rattle.language.specs.Numbering.{Row, add_at}
use Rattle.rows.specs.Counts.{RowIs}

-- ---- a coefficient added

module _ (l : List ℤ) (r : Row) (h : RowIs l r) where
  -- each count is that of a value
  counts : Counts l
  counts = record { small = λ j. go j (ltb j (length r)) refl }
    where
      go : (j : ℕ) (b : Bool) → ltb j (length r) ≡ b → nat_abs (get_or l j (pos 0)) < count_limit
      go j true e = count_small _ _ (h.same j (ltb-true j (length r) e))
      go j false e =
          let q : length l ≤ j = omega (arith, ltb-false j (length r) e, h.size) in
          rw (get_or-eq_default l (pos 0) q) (omega arith)

  module _ (j : ℕ) (v : Value) (b : j < length r) (d : Valid v) where
    -- the sum of counts is the sum of values
    sum_is : of_millionths (get_or l j (pos 0) +ℤ millionths v) ≡ sum_of (get_or r j zero_value) v
    sum_is = of_millionths-sum _ _ v (h.same j b) d

    row-set : (z : ℤ) (a : Value) → of_millionths z ≡ Some a → RowIs (set l j z) (set r j a)
    row-set z a e = record { size = length-set l j z ∙ h.size ∙ sym (length-set r j a); same = λ i g. go i g (ℕ_discrete i j) }
      where
        go : (i : ℕ) → i < length (set r j a) → Dec (i ≡ j) → of_millionths (get_or (set l j z) i (pos 0)) ≡ Some (get_or (set r j a) i zero_value)
        go i g (yes f) = rw (f, get_or-set_same l j z (pos 0) (omega (arith, h.size)), get_or-set_same r j a zero_value b) e
        go i g (no f) = rw (get_or-set_other l j i z (pos 0) f, get_or-set_other r j i a zero_value f) (h.same i (omega (arith, length-set r j a)))

    -- the new row
    pub record Added (l' : List ℤ) (p : ℕ) : Type 0 where
      pub row : Row
      pub is : add_at j v p r ≡ done row
      pub count : length row ≡ length r
      pub same : RowIs l' row

    pub added : (l' : List ℤ) (p : ℕ) → Gathered l j v true l' → Added l' p
    unfolding add_at
    added l' p g =
        let (a, e) = gathered-value l j v (sym g.answer) in
        record {
          row = set r j a;
          is = rw (sym sum_is ∙ e) refl;
          count = length-set r j a;
          same = subst (λ x. RowIs x (set r j a)) (sym g.sums) (row-set (get_or l j (pos 0) +ℤ millionths v) a e);
        }

    pub not-added : (l' : List ℤ) (p : ℕ) → Gathered l j v false l' → add_at j v p r ≡ refused Unfit p
    unfolding add_at is_fit
    not-added l' p g = go (sum_of (get_or r j zero_value) v) refl
      where
        fits : is_fit (sum_of (get_or r j zero_value) v) ≡ false
        fits = ap is_fit (sym sum_is) ∙ sym (gathers-fit l j v d (omega (arith, h.size)) counts) ∙ sym g.answer

        go : (f : Option Value) → sum_of (get_or r j zero_value) v ≡ f → add_at j v p r ≡ refused Unfit p
        go (Some a) e = absurd (let f = fits in let z : ◌≡◌ {A = ℕ} 0 1 = cc in omega arith)
        go None e = rw e refl
