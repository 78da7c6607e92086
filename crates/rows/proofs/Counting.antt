-- Laws of rows of counts: zeros, opposites, and a function at every count.
use Rattle.std.specs.Prelude.{Some}
use mathlib.Core.Path.{◌≡◌, refl, sym, ◌∙◌, ap}
use mathlib.Core.Bool.{true, false}
use mathlib.Core.List.{List, [], ◌∷◌, map}
use Prim.Native.Nat.{ℕ, zero, suc, ◌^◌, ◌<◌, ◌≤◌}
use native.Mathlib.Omega.{arith}
use borrow.Author.Tests.{ltb-false, le-ltb}
use lib.ListN.{length, get_or, replicate, length-map, length-replicate, get_or-replicate, get_or-map}
use lib.Seq.{ext_get_or}
use lib.IntN.{ℤ, pos, negsuc, neg_ℤ, nat_abs, ◌-ℤ◌, +ℤ_idl}
use lib.Signed.{mag, lt_z}
use mir.Syntax.{w64}
use mir.Val.{SFits}
use Rattle.rules.specs.Limits.{scale_limit}
use Rattle.value.specs.declared.Value.{Value}
use Rattle.rational.specs.Fraction.{opposite}
use Rattle.rational.proofs.Fraction.{opposite-cong}
use Rattle.value.specs.Decimal.{zero_value, tenths, negate}
use Rattle.value.specs.Gathering.{millionths, of_millionths, count_limit}
use Rattle.value.proofs.Integers.{opposite-fits}
use Rattle.value.proofs.Fitting.{fit_of-exact, fit_of-valid, fit_of-≈}
use Rattle.value.proofs.Operations.{zero-valid, negate-valid, negate-exact}
use Rattle.value.proofs.Gathering.{count_small, of_millionths-own}
use Rattle.language.specs.Numbering.{Variable, Row, signed}
use Rattle.language.proofs.Entries.{map_same}
use Rattle.rows.specs.Counts.{RowIs, RowOf, opposed}

-- ---- a function at the first i counts, the others as they were

pub record Turned (f : ℤ → ℤ) (l : List ℤ) (i : ℕ) (l' : List ℤ) : Type 0 where
  pub size : length l' ≡ length l
  pub turned : (j : ℕ) → j < i → get_or l' j (pos 0) ≡ f (get_or l j (pos 0))
  pub rest : (j : ℕ) → i ≤ j → get_or l' j (pos 0) ≡ get_or l j (pos 0)

module _ (f : ℤ → ℤ) (l : List ℤ) where
  pub turned-end : (i : ℕ) (u : List ℤ) → Turned f l i u → length u ≤ i → u ≡ map f l
  turned-end i u r h = ext_get_or (pos 0) u (map f l) (r.size ∙ sym (length-map l f)) (λ j g. r.turned j (omega arith) ∙ sym (at_map l j (omega (arith, r.size))))
    where
      at_map : (l : List ℤ) (j : ℕ) → j < length l → get_or (map f l) j (pos 0) ≡ f (get_or l j (pos 0))
      at_map [] j g = absurd (omega arith)
      at_map (z ∷ l) zero g = refl
      at_map (z ∷ l) (suc j) g = at_map l j (omega arith)

-- ---- zeros

zero-count : of_millionths (pos 0) ≡ Some zero_value
unfolding millionths scale_limit
zero-count = of_millionths-own zero_value zero-valid

pub row-zeros : (n : ℕ) → RowIs (replicate n (pos 0)) (replicate n zero_value)
row-zeros n =
    record {
      size = length-replicate n (pos 0) ∙ sym (length-replicate n zero_value);
      same = λ j h. let g : j < n = omega (arith, length-replicate n zero_value) in ap of_millionths (get_or-replicate n j (pos 0) (pos 0) g) ∙ zero-count ∙ ap Some (sym (get_or-replicate n j zero_value zero_value g));
    }

pub zeros_of : (vs : List Variable) → RowOf vs (replicate (length vs) (pos 0)) (replicate (length vs) zero_value)
zeros_of vs = record { count = length-replicate (length vs) zero_value; row = row-zeros (length vs) }

-- ---- opposites

module _ (z : ℤ) where
  pub opposed-low : lt_z z (negsuc 999999999999999) ≡ true → z ≡ opposed z
  unfolding opposed
  opposed-low e = rw e

  pub opposed-other : lt_z z (negsuc 999999999999999) ≡ false → pos 0 -ℤ z ≡ opposed z
  unfolding opposed
  opposed-other e = rw e (+ℤ_idl (neg_ℤ z))

  other-small : lt_z z (negsuc 999999999999999) ≡ false → mag z < 2 ^ 63 → nat_abs z < 2 ^ 63
  other-small = go z
    where
      go : (z : ℤ) → lt_z z (negsuc 999999999999999) ≡ false → mag z < 2 ^ 63 → nat_abs z < 2 ^ 63
      go (pos n) e h = h
      go (negsuc n) e h = omega (arith, ltb-false 999999999999999 n e)

  pub opposed-fits : lt_z z (negsuc 999999999999999) ≡ false → mag z < 2 ^ 63 → SFits w64 (pos 0 -ℤ z)
  opposed-fits e h = opposite-fits z (other-small e h)

  small-other : nat_abs z < count_limit → lt_z z (negsuc 999999999999999) ≡ false
  small-other = go z
    where
      go : (z : ℤ) → nat_abs z < count_limit → lt_z z (negsuc 999999999999999) ≡ false
      go (pos n) h = refl
      go (negsuc n) h = le-ltb 999999999999999 n (omega arith)

  pub opposed-count : nat_abs z < count_limit → opposed z ≡ neg_ℤ z
  unfolding opposed
  opposed-count h = rw (small-other h)

  tenths-opposite : (s : ℕ) → tenths (neg_ℤ z) s ≡ opposite (tenths z s)
  unfolding opposite tenths
  tenths-opposite s = refl

  negated : (v : Value) → of_millionths z ≡ Some v → of_millionths (neg_ℤ z) ≡ Some (negate v)
  unfolding of_millionths
  negated v e =
      fit_of-≈ _ (negate v) (negate-valid v (fit_of-valid _ v e))
      (rw (negate-exact v, tenths-opposite scale_limit) (opposite-cong _ _ (fit_of-exact _ v e)))

  pub opposed-value : (v : Value) → of_millionths z ≡ Some v → of_millionths (opposed z) ≡ Some (negate v)
  opposed-value v e = ap of_millionths (opposed-count (count_small z v e)) ∙ negated v e

opposed-zero : opposed (pos 0) ≡ pos 0
unfolding opposed
opposed-zero = refl

negate_zero : negate zero_value ≡ zero_value
unfolding negate
negate_zero = refl

pub row-opposed : (l : List ℤ) (r : Row) → RowIs l r → RowIs (map opposed l) (map negate r)
row-opposed l r h =
    record {
      size = length-map l opposed ∙ h.size ∙ sym (length-map r negate);
      same = λ j g. at j (omega (arith, length-map r negate));
    }
  where
    here : (j : ℕ) → get_or (map opposed l) j (pos 0) ≡ opposed (get_or l j (pos 0))
    here j = ap (λ (d : ℤ). get_or (map opposed l) j d) (sym opposed-zero) ∙ get_or-map opposed l j (pos 0)

    there : (j : ℕ) → get_or (map negate r) j zero_value ≡ negate (get_or r j zero_value)
    there j = ap (λ (d : Value). get_or (map negate r) j d) (sym negate_zero) ∙ get_or-map negate r j zero_value

    at : (j : ℕ) → j < length r → of_millionths (get_or (map opposed l) j (pos 0)) ≡ Some (get_or (map negate r) j zero_value)
    at j g = ap of_millionths (here j) ∙ opposed-value _ _ (h.same j g) ∙ ap Some (sym (there j))

-- under a sign
pub row-negated : (l : List ℤ) (r : Row) → RowIs l r → RowIs (map opposed l) (map (signed true) r)
row-negated l r h = row-opposed l r h

pub row_kept : (l : List ℤ) (r : Row) → RowIs l r → RowIs l (map (signed false) r)
row_kept l r h = rw (map_same r) h

module _ (vs : List Variable) (l : List ℤ) (r : Row) (h : RowOf vs l r) where
  pub of-negated : RowOf vs (map opposed l) (map (signed true) r)
  of-negated = record { count = length-map r (signed true) ∙ h.count; row = row-negated l r h.row }

  pub of-kept : RowOf vs l (map (signed false) r)
  of-kept = record { count = length-map r (signed false) ∙ h.count; row = row_kept l r h.row }
