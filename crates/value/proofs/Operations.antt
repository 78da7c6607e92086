-- Sum, difference, product, sign, order and whole numbers: what the code computes is what the definitions say; the operations
-- are exact, give values, and refuse only what no value is.
use Rattle.std.specs.Prelude.{Option, None, Some, Ok, Err, ok_or}
use mathlib.Core.Path.{◌≡◌, refl, sym, subst}
use mathlib.Core.Bool.{Bool, true, false, cond, ◌&&◌}
use Prim.Native.Nat.{ℕ, zero, suc, ◌+◌, ◌-◌, ◌*◌, ◌%◌, ◌^◌, ◌<◌, ◌≤◌}
use native.Mathlib.Omega.{arith}
use native.Mathlib.Nat.{pow-le-pow_right, mul-le-mul}
use borrow.Author.Tests.{eqb-true, ne_eqb}
use lib.Dec.{T, eqb, lit<}
use lib.IntN.{ℤ, pos, negsuc, neg_ℤ, nat_abs, ◌+ℤ◌, ◌-ℤ◌, ◌*ℤ◌, +ℤ_idl}
use Rattle.rules.specs.Limits.{mantissa_limit, scale_limit}
use Rattle.value.specs.declared.Value.{Value}
use Rattle.rational.specs.Fraction.{◌≈◌, ◌≼◌, ◌⊕◌, ◌⊗◌, opposite}
use Rattle.value.specs.Decimal.{Valid, tenths, frac, fit_of, sum_of, product_of, negate, is_at_most, is_zero, whole_of, of_whole, in_range, zero_value}
use Rattle.value.specs.Gathering.{millionths, of_millionths}
use Rattle.value.proofs.Integers.{nat_abs-neg, nat_abs_mul}
use Rattle.rational.proofs.Fraction.{≈-trans, ⊕-cong}
use Rattle.value.proofs.Tenths.{tenths-sum, tenths-product, tenths-opposite, tenths-scale}
use Rattle.value.proofs.Fitting.{fit_of-exact, fit_of-valid, fit_of-cong, fit_of-refused}
use Rattle.value.proofs.Ranges.{range_small, range-places, valid-in-range}

-- ---- millionths

pub power_small : (k : ℕ) → k ≤ 6 → 10 ^ k ≤ 1000000
power_small k h = pow-le-pow_right {n = 10} (lit< tt) {i = k} {j = 6} h

pub scaled_small : (m : ℤ) (k : ℕ) → nat_abs m ≤ 999999999 → k ≤ 6 → nat_abs m * 10 ^ k < 10 ^ 15
scaled_small m k h g = omega (arith, mul-le-mul h (power_small k g))

module _ (v : Value) (h : in_range v ≡ true) where
  pub millionths-small : nat_abs (millionths v) < 10 ^ 15
  unfolding millionths scale_limit
  millionths-small = rw (nat_abs_mul v.m (pos (10 ^ (6 - v.s)))) (scaled_small v.m (6 - v.s) (range_small v h) (omega arith))

  pub millionths-≈ : tenths (millionths v) scale_limit ≈ frac v
  unfolding millionths scale_limit frac
  millionths-≈ =
      let e : 6 - v.s + v.s ≡ 6 = omega (arith, range-places v h) in
      rw e at (tenths-scale v.m v.s (6 - v.s))

-- ---- what the code computes

module _ (a b : Value) (ha : in_range a ≡ true) (hb : in_range b ≡ true) where
  pub sum-fit : of_millionths (millionths a +ℤ millionths b) ≡ sum_of a b
  unfolding of_millionths sum_of
  sum-fit = fit_of-cong _ _ (≈-trans _ _ _ (tenths-sum _ _ _) (⊕-cong _ _ _ _ (millionths-≈ a ha) (millionths-≈ b hb)))

pub product-fit : (a b : Value) → fit_of (tenths (a.m *ℤ b.m) (a.s + b.s)) ≡ product_of a b
unfolding product_of frac
product-fit a b = fit_of-cong _ _ (tenths-product _ _ _ _)

-- ---- the operations

module _ (a b c : Value) where
  pub sum-exact : sum_of a b ≡ Some c → frac c ≈ frac a ⊕ frac b
  unfolding sum_of
  sum-exact e = fit_of-exact _ c e

  pub sum-valid : sum_of a b ≡ Some c → Valid c
  unfolding sum_of
  sum-valid e = fit_of-valid _ c e

  pub sum-refused : sum_of a b ≡ None → Valid c → frac c ≈ frac a ⊕ frac b → ⊥
  unfolding sum_of
  sum-refused e h q = fit_of-refused _ c e h q

  pub product-exact : product_of a b ≡ Some c → frac c ≈ frac a ⊗ frac b
  unfolding product_of
  product-exact e = fit_of-exact _ c e

  pub product-valid : product_of a b ≡ Some c → Valid c
  unfolding product_of
  product-valid e = fit_of-valid _ c e

  pub product-refused : product_of a b ≡ None → Valid c → frac c ≈ frac a ⊗ frac b → ⊥
  unfolding product_of
  product-refused e h q = fit_of-refused _ c e h q

-- ---- the opposite

pub negate-is : (v : Value) → ◌≡◌ {A = Value} (record { m = pos 0 -ℤ v.m; s = v.s }) (negate v)
unfolding negate
negate-is v = rw (+ℤ_idl (neg_ℤ v.m))

pub negate-valid : (v : Value) → Valid v → Valid (negate v)
unfolding negate
negate-valid v h = record { small = rw (nat_abs-neg v.m) h.small; places = h.places; least = rw (nat_abs-neg v.m) h.least }

pub negate-exact : (v : Value) → frac (negate v) ≡ opposite (frac v)
unfolding negate frac
negate-exact v = tenths-opposite v.m v.s

pub valid-negated : (v : Value) → Valid v → cond (in_range v) (negate v) v ≡ negate v
valid-negated v h = rw (valid-in-range v h)

-- ---- the order

true-T : (t : Bool) → T t → t ≡ true
true-T true h = refl
true-T false h = absurd h

module _ (a b : Value) where
  pub at-most-≼ : is_at_most a b ≡ true → frac a ≼ frac b
  unfolding is_at_most frac tenths ◌≼◌
  at-most-≼ e = record { le = subst T (sym e) tt }

  pub ≼-at-most : frac a ≼ frac b → is_at_most a b ≡ true
  unfolding is_at_most frac tenths ◌≼◌
  ≼-at-most h = true-T _ h.le

  pub valid-at-most : Valid a → Valid b → cond (in_range a && in_range b) (is_at_most a b) false ≡ is_at_most a b
  valid-at-most ha hb = rw (valid-in-range a ha, valid-in-range b hb)

-- ---- zero and whole numbers

pub zero-valid : Valid zero_value
unfolding mantissa_limit scale_limit
zero-valid = record { small = omega arith; places = omega arith; least = λ h. absurd (omega arith) }

-- the one value that is zero
pub zero_is : (v : Value) → Valid v → is_zero v ≡ true → v ≡ zero_value
unfolding is_zero
zero_is v h e = go v.m v.s h.least (eqb-true _ _ e)
  where
    go : (m : ℤ) (s : ℕ) → (0 < s → nat_abs m % 10 ≡ 0 → ⊥) → nat_abs m ≡ 0 → ◌≡◌ {A = Value} (record { m = m; s = s }) zero_value
    go (pos zero) zero f z = refl
    go (pos zero) (suc s) f z = absurd (f (omega arith) refl)
    go (pos (suc n)) s f z = absurd (omega arith)
    go (negsuc n) s f z = absurd (omega arith)

pub whole-yes : (v : Value) → v.s ≡ 0 → Ok v.m ≡ ok_or (whole_of v) v
unfolding whole_of
whole-yes v e = rw e refl

pub whole-no : (v : Value) → (v.s ≡ 0 → ⊥) → Err v ≡ ok_or (whole_of v) v
unfolding whole_of
whole-no v f = rw (ne_eqb v.s 0 f) refl

-- what `i64::try_from` says of a value

pub try-yes : (o : Option ℤ) (v : Value) (k : ℤ) → ok_or o v ≡ Ok k → o ≡ Some k
try-yes (Some x) v k e = let d : x ≡ k = cc in rw d refl
try-yes None v k e = absurd (let w : ◌≡◌ {A = ℕ} 0 1 = cc in omega arith)

pub try-no : (o : Option ℤ) (v w : Value) → ok_or o v ≡ Err w → o ≡ None
try-no None v w e = refl
try-no (Some x) v w e = absurd (let w : ◌≡◌ {A = ℕ} 0 1 = cc in omega arith)

pub of_whole-valid : (k : ℤ) → nat_abs k ≤ mantissa_limit → Valid (of_whole k)
unfolding of_whole scale_limit
of_whole-valid k h = record { small = h; places = omega arith; least = λ g. absurd (omega arith) }

pub whole_of-of_whole : (k : ℤ) → whole_of (of_whole k) ≡ Some k
unfolding whole_of of_whole
whole_of-of_whole k = refl

pub of_whole-whole_of : (v : Value) (k : ℤ) → whole_of v ≡ Some k → of_whole k ≡ v
unfolding whole_of of_whole
of_whole-whole_of v k e = go (eqb v.s 0) refl e
  where
    go : (t : Bool) → eqb v.s 0 ≡ t → cond t (Some v.m) None ≡ Some k → ◌≡◌ {A = Value} (record { m = k; s = 0 }) v
    go true p h =
        let m : v.m ≡ k = cc in
        let s : v.s ≡ 0 = eqb-true _ _ p in
        rw (← m, ← s)
    go false p h = absurd (let w : ◌≡◌ {A = ℕ} 0 1 = cc in omega arith)
