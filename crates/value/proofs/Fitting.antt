-- Laws of the lowest form, once for every sequence of denominators: it is exact, least, and depends on the number alone.
-- Then those of `fit_of`: exact, valid, of the number alone, and refusing only what no value is.
use Rattle.std.specs.Prelude.{None, Some}
use mathlib.Core.Path.{◌≡◌, refl, sym, ◌∙◌, ap, subst}
use mathlib.Core.Bool.{Bool, true, false, cond}
use Prim.Native.Nat.{ℕ, zero, suc, ◌+◌, ◌-◌, ◌*◌, ◌/◌, ◌%◌, ◌^◌, ◌<◌, ◌≤◌}
use native.Mathlib.Omega.{arith}
use native.Mathlib.Nat.{mul_assoc, mul_comm, mul_left_comm, mul-mod_left, mul-div_cancel, div-add-mod', div-one, mod-one, eq_of_mul-eq-mul_right, pow-suc}
use native.Mathlib.Decide.{ℕ_discrete}
use borrow.Author.Tests.{eqb-true, eqb-false, leb-true}
use lib.Dec.{eqb, leb}
use lib.IntN.{ℤ, pos, nat_abs, ◌*ℤ◌}
use Rattle.rules.specs.Limits.{mantissa_limit, scale_limit}
use Rattle.value.specs.declared.Value.{Value}
use Rattle.rational.specs.Fraction.{Fraction, ◌≈◌}
use Rattle.value.specs.Decimal.{Valid, tenths, frac, with_sign, Lowest, at, none, seek, choose, ten, fit_of}
use Rattle.value.proofs.Integers.{nat_abs_mul, with_sign-scale, with_sign-own, with_sign-size, with_sign-cross}
use Rattle.value.proofs.Scales.{Sought, sought-first, sought-next, fit_found, fit_none, choose-fits, choose-too-big, divides, ten-pos}

-- x / D over d, where it can be written so
over : (x D d : ℕ) → x * d % D ≡ 0 → x * d / D * D ≡ x * d
over x D d e = let p = div-add-mod' (x * d) D in omega arith

-- another name for the number is written over d with the same numerator
same : (x D x' D' d : ℕ) → 0 < D → x * D' ≡ x' * D → x * d % D ≡ 0 → x' * d ≡ x * d / D * D'
same x D x' D' d h e z =
    let q = x * d / D in
    let a : x' * d * D ≡ x' * D * d = simp (mul_assoc, mul_comm, mul_left_comm) in
    let b : x * D' * d ≡ x * d * D' = simp (mul_assoc, mul_comm, mul_left_comm) in
    let c : q * D * D' ≡ q * D' * D = simp (mul_assoc, mul_comm, mul_left_comm) in
    eq_of_mul-eq-mul_right D h (x' * d) (q * D') (a ∙ ap (λ (n : ℕ). n * d) (sym e) ∙ b ∙ ap (λ (n : ℕ). n * D') (sym (over x D d z)) ∙ c)

module _ (den : ℕ → ℕ) where
  -- one place of the search
  step : Bool → ℕ → ℕ → ℕ → ℕ → Lowest
  step t k i x D = elim t [ true ↦ at (x * den i / D) i | false ↦ seek den k (suc i) x D ]

  pub seek-exact : (k i x D m j : ℕ) → seek den k i x D ≡ at m j → m * D ≡ x * den j
  unfolding seek step
  seek-exact zero i x D m j e = absurd (let w : ◌≡◌ {A = ℕ} 0 1 = cc in omega arith)
  seek-exact (suc k) i x D m j e = go (seek-exact k (suc i) x D m j) (eqb (x * den i % D) 0) refl e
    where
      go : (seek den k (suc i) x D ≡ at m j → m * D ≡ x * den j) → (t : Bool) → eqb (x * den i % D) 0 ≡ t → step t k i x D ≡ at m j → m * D ≡ x * den j
      go r true p h =
          let u : x * den i / D ≡ m = cc in
          let v : i ≡ j = cc in
          ap (λ (n : ℕ). n * D) (sym u) ∙ over x D (den i) (eqb-true (x * den i % D) 0 p) ∙ ap (λ (n : ℕ). x * den n) v
      go r false p h = r h

  pub seek-cong : (k i x D x' D' : ℕ) → 0 < D → 0 < D' → x * D' ≡ x' * D → seek den k i x D ≡ seek den k i x' D'
  unfolding seek step
  seek-cong zero i x D x' D' h h' e = refl
  seek-cong (suc k) i x D x' D' h h' e = go (seek-cong k (suc i) x D x' D' h h' e) (eqb (x * den i % D) 0) (eqb (x' * den i % D') 0) refl refl
    where
      zero-there : (y E y' E' : ℕ) → 0 < E → y * E' ≡ y' * E → y * den i % E ≡ 0 → y' * den i % E' ≡ 0
      zero-there y E y' E' g q z = rw (same y E y' E' (den i) g q z) (mul-mod_left (y * den i / E) E')

      go : seek den k (suc i) x D ≡ seek den k (suc i) x' D' → (t u : Bool) → eqb (x * den i % D) 0 ≡ t → eqb (x' * den i % D') 0 ≡ u → step t k i x D ≡ step u k i x' D'
      go r true true p q = ap (λ (n : ℕ). at n i) (sym (rw (same x D x' D' (den i) h e (eqb-true (x * den i % D) 0 p)) (mul-div_cancel (x * den i / D) h')))
      go r true false p q = absurd (eqb-false (x' * den i % D') 0 q (zero-there x D x' D' h e (eqb-true (x * den i % D) 0 p)))
      go r false true p q = absurd (eqb-false (x * den i % D) 0 p (zero-there x' D' x D h' (sym e) (eqb-true (x' * den i % D') 0 q)))
      go r false false p q = r

  pub seek-range : (k i x D m j : ℕ) → seek den k i x D ≡ at m j → j < i + k
  unfolding seek step
  seek-range zero i x D m j e = absurd (let w : ◌≡◌ {A = ℕ} 0 1 = cc in omega arith)
  seek-range (suc k) i x D m j e = go (seek-range k (suc i) x D m j) (eqb (x * den i % D) 0) e
    where
      go : (seek den k (suc i) x D ≡ at m j → j < suc i + k) → (t : Bool) → step t k i x D ≡ at m j → j < i + suc k
      go r true h = let v : i ≡ j = cc in omega arith
      go r false h = omega (arith, r h)

  -- no place before the one that is found would do
  pub seek-least : (k i x D m j l : ℕ) → seek den k i x D ≡ at m j → i ≤ l → l < j → x * den l % D ≡ 0 → ⊥
  unfolding seek step
  seek-least zero i x D m j l e a b z = let w : ◌≡◌ {A = ℕ} 0 1 = cc in omega arith
  seek-least (suc k) i x D m j l e a b z = go (seek-least k (suc i) x D m j l) (eqb (x * den i % D) 0) refl e (ℕ_discrete i l)
    where
      go : (seek den k (suc i) x D ≡ at m j → suc i ≤ l → l < j → x * den l % D ≡ 0 → ⊥) → (t : Bool) → eqb (x * den i % D) 0 ≡ t → step t k i x D ≡ at m j → Dec (i ≡ l) → ⊥
      go r true p h d = let v : i ≡ j = cc in omega arith
      go r false p h (yes q) = eqb-false (x * den i % D) 0 p (rw q z)
      go r false p h (no f) = r h (omega (arith, f)) b z

  -- what is found is its own lowest form
  pub seek-own : (k i x D m j : ℕ) → 0 < D → 0 < den j → seek den k i x D ≡ at m j → seek den k i m (den j) ≡ at m j
  seek-own k i x D m j h g e = seek-cong k i m (den j) x D g h (seek-exact k i x D m j e) ∙ e

-- ---- `fit_of`

-- what the answer `Fits v` tells
record FoundOf (q : Fraction) (v : Value) : Type 0 where
  place : seek ten 7 0 (nat_abs q.num) q.den ≡ at (nat_abs v.m) v.s
  sign : with_sign q.num (nat_abs v.m) ≡ v.m
  small : nat_abs v.m ≤ 999999999

found_of_lem : (q : Fraction) (v : Value) → fit_of q ≡ Some v → FoundOf q v
unfolding fit_of choose mantissa_limit scale_limit
found_of_lem q v e = go (seek ten 7 0 (nat_abs q.num) q.den) refl e
  where
    in-range : (m i : ℕ) → seek ten 7 0 (nat_abs q.num) q.den ≡ at m i → (t : Bool) → leb m 999999999 ≡ t → cond t (Some (record { m = with_sign q.num m; s = i })) None ≡ Some v → FoundOf q v
    in-range m i p true l h =
        let r : ◌≡◌ {A = Value} (record { m = with_sign q.num m; s = i }) v = cc in
        subst (FoundOf q) r
        (record {
          place = rw (with_sign-size q.num m) p;
          sign = ap (with_sign q.num) (with_sign-size q.num m);
          small = rw (with_sign-size q.num m) (leb-true _ _ l);
        })
    in-range m i p false l h = absurd (let w : ◌≡◌ {A = ℕ} 0 1 = cc in omega arith)

    go : (f : Lowest) → seek ten 7 0 (nat_abs q.num) q.den ≡ f → choose q.num f ≡ Some v → FoundOf q v
    go (at m i) p h = in-range m i p (leb m 999999999) refl h
    go none p h = absurd (let w : ◌≡◌ {A = ℕ} 0 1 = cc in omega arith)

pub fit_of-exact : (q : Fraction) (v : Value) → fit_of q ≡ Some v → frac v ≈ q
unfolding frac tenths ◌≈◌
fit_of-exact q v e =
    let f = found_of_lem q v e in
    subst (λ (z : ℤ). z *ℤ pos q.den ≡ q.num *ℤ pos (10 ^ v.s)) f.sign
    (with_sign-cross q.num (nat_abs v.m) q.den (10 ^ v.s) (seek-exact ten 7 0 _ q.den _ v.s f.place))

pub fit_of-valid : (q : Fraction) (v : Value) → fit_of q ≡ Some v → Valid v
unfolding mantissa_limit scale_limit
fit_of-valid q v e = record { small = f.small; places = omega (arith, seek-range ten 7 0 _ q.den _ v.s f.place); least = least }
  where
    f : FoundOf q v
    f = found_of_lem q v e

    own : seek ten 7 0 (nat_abs v.m) (10 ^ v.s) ≡ at (nat_abs v.m) v.s
    own = seek-own ten 7 0 _ q.den _ v.s q.positive (ten-pos v.s) f.place

    least : 0 < v.s → nat_abs v.m % 10 ≡ 0 → ⊥
    least h z =
        let one : v.s - (v.s - 1) ≡ 1 = omega arith in
        seek-least ten 7 0 _ (10 ^ v.s) _ v.s (v.s - 1) own (omega arith) (omega arith) (divides (nat_abs v.m) v.s (v.s - 1) (omega arith) (rw one z))

choose-sign : (z z' : ℤ) → ((x : ℕ) → with_sign z x ≡ with_sign z' x) → (f : Lowest) → choose z f ≡ choose z' f
unfolding choose
choose-sign z z' h (at m i) = rw (h m)
choose-sign z z' h none = refl

-- the answer depends on the number alone
pub fit_of-cong : (p q : Fraction) → p ≈ q → fit_of p ≡ fit_of q
unfolding ◌≈◌ fit_of
fit_of-cong p q e =
    let size : nat_abs p.num * q.den ≡ nat_abs q.num * p.den = sym (nat_abs_mul p.num (pos q.den)) ∙ ap nat_abs e ∙ nat_abs_mul q.num (pos p.den) in
    ap (choose p.num) (seek-cong ten (suc scale_limit) 0 _ p.den _ q.den p.positive q.positive size)
    ∙ choose-sign p.num q.num (λ x. sym (with_sign-scale p.num q.den x q.positive) ∙ ap (λ (y : ℤ). with_sign y x) e ∙ with_sign-scale q.num p.den x p.positive) _

-- ---- a value is its own lowest form

not-before : (x k : ℕ) → x % 10 ^ suc k ≡ 0 → x % 10 ≡ 0
not-before x k e =
    let q = x / 10 ^ suc k in
    let a : q * 10 ^ suc k ≡ x = let p = div-add-mod' x (10 ^ suc k) in omega arith in
    let b : 10 ^ suc k ≡ 10 ^ k * 10 = pow-suc 10 k in
    ap (λ (n : ℕ). n % 10) (sym a ∙ ap (λ (n : ℕ). q * n) b ∙ sym (mul_assoc q (10 ^ k) 10)) ∙ mul-mod_left (q * 10 ^ k) 10

-- no place before s serves, of the seven
sought-up : (x s : ℕ) → (0 < s → x % 10 ≡ 0 → ⊥) → (i : ℕ) → i ≤ s → i ≤ 7 → Sought x s i
sought-up x s f zero g h = sought-first x s
sought-up x s f (suc i) g h =
    let one : i + 1 ≡ suc i = omega arith in
    let k : s - i ≡ suc (s - suc i) = omega arith in
    rw one at (sought-next x s i (10 ^ (s - i)) (sought-up x s f i (omega arith) (omega arith)) (omega arith) refl (λ e. f (omega arith) (not-before x (s - suc i) (rw (← k) e))))

pub fit_of-own : (v : Value) → Valid v → fit_of (frac v) ≡ Some v
unfolding frac mantissa_limit scale_limit
fit_of-own v h =
    let x = nat_abs v.m in
    let none_left : v.s - v.s ≡ 0 = omega arith in
    let power : 1 ≡ 10 ^ (v.s - v.s) = rw none_left in
    sym
    (fit_found v.m x v.s refl v.s 1 (Some v) (sought-up x v.s h.least v.s (omega arith) (omega (arith, h.places))) h.places power (mod-one x)
    (rw (div-one x) (ap (λ (z : ℤ). Some (record { m = z; s = v.s })) (sym (with_sign-own v.m)) ∙ choose-fits v.m x v.s h.small)))

pub fit_of-≈ : (q : Fraction) (v : Value) → Valid v → frac v ≈ q → fit_of q ≡ Some v
fit_of-≈ q v h e = sym (fit_of-cong (frac v) q e) ∙ fit_of-own v h

-- nothing that fits is refused
pub fit_of-refused : (q : Fraction) (v : Value) → fit_of q ≡ None → Valid v → frac v ≈ q → ⊥
fit_of-refused q v e h s = let p = fit_of-≈ q v h s in let w : ◌≡◌ {A = ℕ} 0 1 = cc in omega arith

-- a number has one value
pub unique : (v w : Value) → Valid v → Valid w → frac v ≈ frac w → v ≡ w
unique v w hv hw e = let p = fit_of-≈ (frac w) v hv e in let q = fit_of-own w hw in cc

-- ---- what never fits: more than six places of which the last is not 0, and a whole number that is too large

pub fit_of-deep : (x s : ℕ) → 6 < s → (x % 10 ≡ 0 → ⊥) → None ≡ fit_of (tenths (pos x) s)
fit_of-deep x s h f = fit_none (pos x) x s refl 7 (sought-up x s (λ _. f) 7 (omega arith) (omega arith)) (omega arith)

pub fit_of-large : (x : ℕ) → 999999999 < x → None ≡ fit_of (tenths (pos x) 0)
fit_of-large x h = fit_found (pos x) x 0 refl 0 1 None (sought-first x 0) (omega arith) refl (mod-one x) (rw (div-one x) (choose-too-big (pos x) x 0 h))
