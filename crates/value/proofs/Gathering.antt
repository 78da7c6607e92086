-- Laws of gathering (`specs/Gathering.antt`): what each way of `gather` gives; counts stay counts; a count gathers as values
-- are added.
use Rattle.std.specs.Prelude.{Option, Some, None, is_some}
use mathlib.Core.Path.{◌≡◌, refl, sym, ◌∙◌, ap}
use mathlib.Core.Bool.{Bool, true, false, cond, ◌&&◌}
use mathlib.Core.List.{List}
use Prim.Native.Nat.{ℕ, zero, suc, ◌*◌, ◌^◌, ◌<◌, ◌≤◌}
use native.Mathlib.Omega.{arith}
use native.Mathlib.Nat.{le-mul_of_pos_right}
use native.Mathlib.Decide.{ℕ_discrete}
use borrow.Author.Tests.{lt-ltb, le-ltb, ltb-true}
use lib.Dec.{ltb}
use lib.ListN.{length, get_or, set, replicate}
use lib.Seq.{get_or-set_same, get_or-set_other}
use lib.IntN.{ℤ, pos, nat_abs, ◌+ℤ◌}
use Rattle.rules.specs.Limits.{mantissa_limit, scale_limit}
use Rattle.value.specs.declared.Value.{Value}
use Rattle.rational.specs.Fraction.{◌≈◌}
use Rattle.value.specs.Decimal.{Valid, tenths, frac, sum_of, in_range}
use Rattle.value.specs.Gathering.{millionths, of_millionths, is_fit, count_limit, is_count, gathers, Gathered, Counts}
use Rattle.value.proofs.Integers.{nat_abs_mul}
use Rattle.value.proofs.Scales.{ten-pos}
use Rattle.rational.proofs.Fraction.{≈-sym, ≈-trans, ⊕-cong}
use Rattle.value.proofs.Tenths.{tenths-sum}
use Rattle.value.proofs.Fitting.{fit_of-exact, fit_of-valid, fit_of-cong, fit_of-≈}
use Rattle.value.proofs.Ranges.{and-false, and_left, and_right, valid-in-range}
use Rattle.value.proofs.Operations.{millionths-≈}

-- ---- counts

pub count-is : (z : ℤ) → is_count z ≡ true → nat_abs z < count_limit
unfolding is_count
count-is z e = ltb-true _ _ e

is-count : (z : ℤ) → nat_abs z < count_limit → is_count z ≡ true
unfolding is_count
is-count z h = lt-ltb _ _ h

-- what fits is a count
pub count_small : (z : ℤ) (v : Value) → of_millionths z ≡ Some v → nat_abs z < count_limit
unfolding of_millionths frac tenths ◌≈◌ mantissa_limit scale_limit
count_small z v e =
    let size : nat_abs v.m * 1000000 ≡ nat_abs z * 10 ^ v.s = sym (nat_abs_mul v.m (pos 1000000)) ∙ ap nat_abs (fit_of-exact _ v e) ∙ nat_abs_mul z (pos (10 ^ v.s)) in
    omega (arith, (fit_of-valid _ v e).small, le-mul_of_pos_right (nat_abs z) (ten-pos v.s))

-- ---- values and counts

pub of_millionths-own : (v : Value) → Valid v → of_millionths (millionths v) ≡ Some v
unfolding of_millionths
of_millionths-own v h = fit_of-≈ _ v h (≈-sym _ _ (millionths-≈ v (valid-in-range v h)))

-- a count to which a value is added is the sum of the values
pub of_millionths-sum : (z : ℤ) (a v : Value) → of_millionths z ≡ Some a → Valid v → of_millionths (z +ℤ millionths v) ≡ sum_of a v
unfolding of_millionths sum_of
of_millionths-sum z a v e h =
    fit_of-cong _ _
    (≈-trans _ _ _ (tenths-sum z (millionths v) scale_limit) (⊕-cong _ _ _ _ (≈-sym _ _ (fit_of-exact _ a e)) (millionths-≈ v (valid-in-range v h))))

-- ---- what `gather` gives

module _ (l : List ℤ) (k : ℕ) (v : Value) where
  pub no_place : length l ≤ k → Gathered l k v false l
  unfolding gathers
  no_place h = record { answer = rw (le-ltb k (length l) h); sums = refl }

  pub no_value : in_range v ≡ false → Gathered l k v false l
  unfolding gathers
  no_value e = record { answer = rw (e, and-false); sums = refl }

  pub no-count : is_count (get_or l k (pos 0)) ≡ false → Gathered l k v false l
  unfolding gathers
  no-count e = record { answer = rw (e, and-false); sums = refl }

  pub no-fit : (r : Option Value) → of_millionths (get_or l k (pos 0) +ℤ millionths v) ≡ r → is_some r ≡ false → Gathered l k v false l
  unfolding gathers is_fit
  no-fit (Some a) e f = absurd (let w : ◌≡◌ {A = ℕ} 0 1 = cc in omega arith)
  no-fit None e f = record { answer = rw (e, and-false); sums = refl }

  pub fits-there : (r : Option Value) → k < length l → in_range v ≡ true → is_count (get_or l k (pos 0)) ≡ true
      → of_millionths (get_or l k (pos 0) +ℤ millionths v) ≡ r → is_some r ≡ true → Gathered l k v true (set l k (get_or l k (pos 0) +ℤ millionths v))
  unfolding gathers is_fit
  fits-there (Some a) h e f g i = record { answer = rw (lt-ltb k (length l) h, e, f, g); sums = refl }
  fits-there None h e f g i = absurd (let w : ◌≡◌ {A = ℕ} 0 1 = cc in omega arith)

  -- of a value, a place and counts only the sum is asked
  pub gathers-fit : Valid v → k < length l → Counts l → gathers l k v ≡ is_fit (of_millionths (get_or l k (pos 0) +ℤ millionths v))
  unfolding gathers
  gathers-fit hv hk hl = rw (lt-ltb k (length l) hk, valid-in-range v hv, is-count _ (hl.small k))

-- ---- counts are kept

pub counts-zeros : (n : ℕ) → Counts (replicate n (pos 0))
counts-zeros n = record { small = go n }
  where
    go : (n i : ℕ) → nat_abs (get_or (replicate n (pos 0)) i (pos 0)) < count_limit
    go zero i = omega arith
    go (suc n) zero = omega arith
    go (suc n) (suc i) = go n i

counts-set : (l : List ℤ) (k : ℕ) (x : ℤ) → k < length l → Counts l → nat_abs x < count_limit → Counts (set l k x)
counts-set l k x h c g = record { small = λ i. go i (ℕ_discrete i k) }
  where
    go : (i : ℕ) → Dec (i ≡ k) → nat_abs (get_or (set l k x) i (pos 0)) < count_limit
    go i (yes e) = rw (e, get_or-set_same l k x (pos 0) h) g
    go i (no f) = rw (get_or-set_other l k i x (pos 0) f) (c.small i)

-- a sum that fits has a value
fit-value : (r : Option Value) → is_fit r ≡ true → (v : Value) × (r ≡ Some v)
unfolding is_fit
fit-value (Some v) e = (v, refl)
fit-value None e = absurd (let w : ◌≡◌ {A = ℕ} 0 1 = cc in omega arith)

module _ (l : List ℤ) (k : ℕ) (v : Value) where
  pub gathered-value : gathers l k v ≡ true → (a : Value) × (of_millionths (get_or l k (pos 0) +ℤ millionths v) ≡ Some a)
  unfolding gathers
  gathered-value e = fit-value _ (and_right (ltb k (length l) && in_range v && is_count (get_or l k (pos 0))) _ e)

  pub gathered-place : gathers l k v ≡ true → k < length l
  unfolding gathers
  gathered-place e = ltb-true _ _ (and_left _ _ (and_left _ _ (and_left _ _ e)))

  pub counts-kept : (r : Bool) (l' : List ℤ) → Counts l → Gathered l k v r l' → Counts l'
  counts-kept r l' c g = go r g.answer g.sums
    where
      go : (t : Bool) → t ≡ gathers l k v → l' ≡ cond t (set l k (get_or l k (pos 0) +ℤ millionths v)) l → Counts l'
      go true e f =
          let p = gathered-value (sym e) in
          rw f (counts-set l k _ (gathered-place (sym e)) c (count_small _ p.0 p.1))
      go false e f = rw f c
