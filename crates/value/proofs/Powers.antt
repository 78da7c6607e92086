-- Laws of powers of ten (`specs/Literal.antt`): a number times one, the first `E`, the power behind it, and what a literal is.
use Rattle.std.specs.Prelude.{Option, Some, None}
use mathlib.Core.Path.{◌≡◌, refl, sym, ◌∙◌, ap}
use mathlib.Core.Bool.{Bool, true, false, cond, ◌&&◌}
use mathlib.Core.List.{List, [], ◌∷◌, ◌++◌, append-nil}
use Prim.Native.Nat.{ℕ, zero, suc, ◌+◌, ◌-◌, ◌*◌, ◌/◌, ◌%◌, ◌^◌, ◌<◌, ◌≤◌}
use native.Mathlib.Omega.{arith}
use native.Mathlib.Nat.{mul-one, mul_assoc, mul-le-mul, div-add-mod', pow-le-pow_right, le-mul_of_pos_right}
use native.Mathlib.Numerals.{add-one}
use borrow.Author.Tests.{le-leb, lt-leb, eq-eqb, ne_eqb, eqb-true}
use lib.Dec.{eqb, lit<}
use lib.ListN.{length, take, drop, length-append}
use lib.Pow.{pow-add}
use lib.IntN.{ℤ, pos, negsuc, neg_ℤ, ◌*ℤ◌}
use Rattle.rules.specs.Limits.{power_digits}
use Rattle.value.specs.declared.Value.{Value}
use Rattle.rational.specs.Fraction.{Fraction, ◌≈◌, ◌⊗◌, integer}
use Rattle.rational.proofs.Integer.{*ℤ-id}
use Rattle.rational.proofs.Fraction.{≈-sym, ≈-trans, ⊗-one}
use Rattle.value.specs.Decimal.{tenths, fit_of}
use Rattle.value.specs.Literal.{all_digits, number_from, before, after, is_decimal, decimal_number, decimal_of, significand, exponent, power_by, power_of, scaled_by, raised_by, literal_of}
use Rattle.value.specs.Parts.{signed_power, IsPower}
use Rattle.value.proofs.Tenths.{tenths-product, tenths-scale}
use Rattle.value.proofs.Fitting.{fit_of-cong, fit_of-deep, fit_of-large}
use Rattle.value.proofs.Scales.{ten-pos}
use Rattle.value.proofs.Ranges.{and-false}
use Rattle.std.specs.List.{position, position_or_len, slice_get}
use Rattle.std.proofs.lemmas.List.Recursion.{is_position_or_len}
use Rattle.value.proofs.Reading.{first-found, first-nowhere, other-digits, not-letter, number-room, room_small, before-all, after-all, part-rest}

-- ---- a number times a power of ten

pub scaled-none : (q : Fraction) → scaled_by (pos 0) q ≈ q
unfolding scaled_by
scaled-none q = ⊗-one q

scaled-times : (z : ℤ) (f k : ℕ) → tenths (z *ℤ pos (10 ^ k)) f ≈ scaled_by (pos k) (tenths z f)
unfolding scaled_by ◌≈◌ ◌⊗◌ integer tenths
scaled-times z f k = ap (λ (n : ℕ). (z *ℤ pos (10 ^ k)) *ℤ pos n) (mul-one (10 ^ f))

scaled-over : (z : ℤ) (f k : ℕ) → tenths z (f + suc k) ≈ scaled_by (negsuc k) (tenths z f)
unfolding scaled_by
scaled-over z f k = rw (*ℤ-id z) at (tenths-product z (pos 1) f (suc k))

module _ (x f k : ℕ) where
  -- divided by it
  lowered-fit : fit_of (tenths (pos x) (f + k)) ≡ fit_of (scaled_by (signed_power true k) (tenths (pos x) f))
  unfolding signed_power
  lowered-fit = go k
    where
      go : (k : ℕ) → fit_of (tenths (pos x) (f + k)) ≡ fit_of (scaled_by (neg_ℤ (pos k)) (tenths (pos x) f))
      go zero = let e : f + 0 ≡ f = omega arith in rw e (fit_of-cong _ _ (≈-sym _ _ (scaled-none (tenths (pos x) f))))
      go (suc k) = fit_of-cong _ _ (scaled-over (pos x) f k)

  -- times it, of no more places than there are
  kept-fit : k ≤ f → fit_of (tenths (pos x) (f - k)) ≡ fit_of (scaled_by (signed_power false k) (tenths (pos x) f))
  unfolding signed_power
  kept-fit h =
      let e : k + (f - k) ≡ f = omega arith in
      fit_of-cong _ _ (≈-trans _ _ _ (≈-sym _ _ (rw e at (tenths-scale (pos x) (f - k) k))) (scaled-times (pos x) f k))

  -- times it, of more
  lifted-fit : f < k → fit_of (tenths (pos (x * 10 ^ (k - f))) 0) ≡ fit_of (scaled_by (signed_power false k) (tenths (pos x) f))
  unfolding signed_power
  lifted-fit h =
      let e : k - f + f ≡ k = omega arith in
      let n : f + 0 ≡ f = omega arith in
      let p : x * 10 ^ (k - f) * 10 ^ f ≡ x * 10 ^ k = mul_assoc x (10 ^ (k - f)) (10 ^ f) ∙ ap (λ (m : ℕ). x * m) (sym (pow-add 10 (k - f) f) ∙ ap (λ (m : ℕ). 10 ^ m) e) in
      fit_of-cong _ _ (≈-trans _ _ _ (≈-sym _ _ (rw (n, p) at (tenths-scale (pos (x * 10 ^ (k - f))) 0 f))) (scaled-times (pos x) f k))

-- ---- the outcomes of `raised`

module _ (x f k : ℕ) (minus : Bool) (r : Option Value) where
  pub raise-over : minus ≡ true → r ≡ fit_of (tenths (pos x) (f + k)) → r ≡ fit_of (scaled_by (signed_power minus k) (tenths (pos x) f))
  raise-over e q = rw e (q ∙ lowered-fit x f k)

  pub raise-kept : minus ≡ false → k ≤ f → r ≡ fit_of (tenths (pos x) (f - k)) → r ≡ fit_of (scaled_by (signed_power minus k) (tenths (pos x) f))
  raise-kept e h q = rw e (q ∙ kept-fit x f k h)

  pub raise-more : minus ≡ false → f < k → r ≡ fit_of (tenths (pos (x * 10 ^ (k - f))) 0) → r ≡ fit_of (scaled_by (signed_power minus k) (tenths (pos x) f))
  raise-more e h q = rw e (q ∙ lifted-fit x f k h)

-- ---- the loop of `lowered`: zeros are taken off

pub record Fewer (x s y i : ℕ) : Type 0 where
  pub small : y ≤ x
  pub same : fit_of (tenths (pos y) i) ≡ fit_of (tenths (pos x) s)

module _ (x s y i : ℕ) (w : Fewer x s y i) (h : 18 < i) where
  pub fewer-next : y % 10 ≡ 0 → Fewer x s (y / 10) (i - 1)
  fewer-next e =
      let n : 1 + (i - 1) ≡ i = omega arith in
      let p : y / 10 * 10 ^ 1 ≡ y = omega (arith, div-add-mod' y 10) in
      record {
        small = omega (arith, w.small);
        same = fit_of-cong _ _ (≈-sym _ _ (rw (n, p) at (tenths-scale (pos (y / 10)) (i - 1) 1))) ∙ w.same;
      }

  pub fewer-none : (y % 10 ≡ 0 → ⊥) → None ≡ fit_of (tenths (pos x) s)
  fewer-none f = fit_of-deep y i (omega arith) f ∙ w.same

pub fewer-all : (x s y i j : ℕ) (r : Option Value) → Fewer x s y i → j ≡ i → r ≡ fit_of (tenths (pos y) j) → r ≡ fit_of (tenths (pos x) s)
fewer-all x s y i j r w e f = rw e at f ∙ w.same

-- ---- the outcomes of `lifted`

module _ (x k : ℕ) where
  pub lift-large : 999999999 < x → None ≡ fit_of (tenths (pos (x * 10 ^ k)) 0)
  lift-large h = fit_of-large (x * 10 ^ k) (omega (arith, le-mul_of_pos_right x (ten-pos k)))

  pub lift-high : (x ≡ 0 → ⊥) → 8 < k → None ≡ fit_of (tenths (pos (x * 10 ^ k)) 0)
  lift-high f h =
      let one : 1 ≤ x = omega (arith, f) in
      fit_of-large (x * 10 ^ k) (omega (arith, mul-le-mul one (pow-le-pow_right {n = 10} (lit< tt) {i = 9} {j = k} h)))

  pub lift-small : (d : ℕ) → x ≤ 999999999 → k ≤ 8 → d ≡ 10 ^ k → x * d < 2 ^ 63
  lift-small d g h e =
      let p : d ≤ 10 ^ 8 = rw e (pow-le-pow_right {n = 10} (lit< tt) {i = k} {j = 8} h) in
      omega (arith, mul-le-mul g p)

-- ---- the first `E`

pub letter-first : (t : List ℕ) → length (significand t) ≡ position_or_len (λ b. eqb b 69) t
unfolding significand
letter-first = is_position_or_len (λ t. length (significand t)) (λ b. eqb b 69) refl (λ b t. go (eqb b 69) b t)
  where
    go : (u : Bool) (b : ℕ) (t : List ℕ) → length {A = ℕ} (elim u as (λ _. List ℕ) [ true ↦ [] | false ↦ b ∷ significand t ]) ≡ cond u 0 (1 + length (significand t))
    go true b t = refl
    go false b t = omega arith

significand-take : (t : List ℕ) → significand t ≡ take (length (significand t)) t
unfolding significand
significand-take [] = refl
significand-take (b ∷ t) = go (significand-take t) (eqb b 69)
  where
    go : significand t ≡ take (length (significand t)) t → (u : Bool) → elim u as (λ _. List ℕ) [ true ↦ [] | false ↦ b ∷ significand t ] ≡ take (length {A = ℕ} (elim u as (λ _. List ℕ) [ true ↦ [] | false ↦ b ∷ significand t ])) (b ∷ t)
    go r true = refl
    go r false = ap (λ (l : List ℕ). b ∷ l) r

exponent-drop : (t : List ℕ) → exponent t ≡ drop (suc (length (significand t))) t
unfolding significand exponent
exponent-drop [] = refl
exponent-drop (b ∷ t) = go (exponent-drop t) (eqb b 69)
  where
    go : exponent t ≡ drop (suc (length (significand t))) t → (u : Bool) → elim u as (λ _. List ℕ) [ true ↦ t | false ↦ exponent t ] ≡ drop (length {A = ℕ} (elim u as (λ _. List ℕ) [ true ↦ [] | false ↦ b ∷ significand t ])) t
    go r true = refl
    go r false = r

-- ---- the power that digits write

pub power-none : (minus : Bool) (t : List ℕ) → length t ≡ 0 → IsPower (power_by minus t) None
unfolding power_by all_digits
power-none minus [] e = record { same = refl; small = tt }
power-none minus (b ∷ t) e = absurd (omega arith)

module _ (minus : Bool) (t : List ℕ) where
  pub power-long : 2 < length t → IsPower (power_by minus t) None
  unfolding power_by power_digits
  power-long h = record { same = rw (lt-leb (length t) 2 h, and-false); small = tt }

  pub power-strange : false ≡ all_digits t → IsPower (power_by minus t) None
  unfolding power_by
  power-strange e = record { same = rw (← e); small = tt }

  pub power-digits : (k : ℕ) → (length t ≡ 0 → ⊥) → length t ≤ 2 → true ≡ all_digits t → k ≡ number_from 0 t → IsPower (power_by minus t) (Some (minus, k))
  unfolding power_by power_digits signed_power
  power-digits k f h e n =
      record {
        same = rw (← e, le-leb 1 (length t) (omega (arith, f)), le-leb (length t) 2 h, n);
        small = room_small k 0 100 (rw n (number-room 0 t 0 100 (omega (arith, pow-le-pow_right {n = 10} (lit< tt) {i = length t + 0} {j = 2} (omega arith)))));
      }

-- an optional sign before it, by the first byte b
pub power-empty : (t : List ℕ) → None ≡ slice_get t 0 → IsPower (power_of t) None
unfolding power_of
power-empty [] e = record { same = refl; small = tt }
power-empty (x ∷ t) e = absurd (let w : ◌≡◌ {A = ℕ} 0 1 = cc in omega arith)

module _ (b : ℕ) (r : Option (Bool × ℕ)) where
  pub power-minus : (t : List ℕ) → Some b ≡ slice_get t 0 → b ≡ 45 → IsPower (power_by true (take (length t - 1) (drop 1 t))) r → IsPower (power_of t) r
  unfolding power_of
  power-minus [] h e i = absurd (let w : ◌≡◌ {A = ℕ} 0 1 = cc in omega arith)
  power-minus (x ∷ t) h e i = let q : x ≡ 45 = cc in rw (eq-eqb x 45 q) (rw (part-rest (x ∷ t) 1) at i)

  pub power-plus : (t : List ℕ) → Some b ≡ slice_get t 0 → b ≡ 43 → IsPower (power_by false (take (length t - 1) (drop 1 t))) r → IsPower (power_of t) r
  unfolding power_of
  power-plus [] h e i = absurd (let w : ◌≡◌ {A = ℕ} 0 1 = cc in omega arith)
  power-plus (x ∷ t) h e i = let p : x ≡ 43 = cc in rw (ne_eqb x 45 (λ w. omega arith), eq-eqb x 43 p) (rw (part-rest (x ∷ t) 1) at i)

  pub power-plain : (t : List ℕ) → Some b ≡ slice_get t 0 → (b ≡ 45 → ⊥) → (b ≡ 43 → ⊥) → IsPower (power_by false t) r → IsPower (power_of t) r
  unfolding power_of
  power-plain [] h f g i = absurd (let w : ◌≡◌ {A = ℕ} 0 1 = cc in omega arith)
  power-plain (x ∷ t) h f g i = let q : b ≡ x = cc in rw (ne_eqb x 45 (λ w. f (q ∙ w)), ne_eqb x 43 (λ w. g (q ∙ w))) i

-- ---- a literal, by the place p of its `E`

-- without a power a decimal is what it is
raised-none : (t : List ℕ) → raised_by (Some (signed_power false 0)) t ≡ decimal_of t
unfolding raised_by decimal_of signed_power
raised-none t = ap (λ (v : Option Value). cond (is_decimal t) v None) (fit_of-cong _ _ (scaled-none (decimal_number t)))

-- no `E`
pub literal-alone : (t : List ℕ) (r : Option Value) → None ≡ position (λ b. eqb b 69) t → r ≡ raised_by (Some (signed_power false 0)) t → r ≡ literal_of t
unfolding literal_of
literal-alone t r h e =
    let n = letter-first t ∙ first-nowhere (λ b. eqb b 69) t (sym h) in
    rw (eq-eqb (length (significand t)) (length t) n) (e ∙ raised-none t)

module _ (t : List ℕ) (p : ℕ) (r : Option Value) (first : Some p ≡ position (λ b. eqb b 69) t) where
  at : p ≡ length (significand t)
  at = (first-found (λ b. eqb b 69) t p (sym first)).0 ∙ sym (letter-first t)

  is-raised : literal_of t ≡ raised_by (power_of (take (length t - (p + 1)) (drop (p + 1) t))) (take p t)
  unfolding literal_of
  is-raised =
      let h = (first-found (λ b. eqb b 69) t p (sym first)).1 in
      let a : significand t ≡ take p t = rw at (significand-take t) in
      let b : exponent t ≡ drop (p + 1) t = rw (add-one, at) (exponent-drop t) in
      rw (part-rest t (p + 1), ne_eqb (length (significand t)) (length t) (λ e. omega (arith, at)), a, b)

  pub literal-raised : (i : Option (Bool × ℕ)) (minus : Bool) (k : ℕ) → IsPower (power_of (take (length t - (p + 1)) (drop (p + 1) t))) i → i ≡ Some (minus, k)
      → r ≡ raised_by (Some (signed_power minus k)) (take p t) → r ≡ literal_of t
  literal-raised i minus k q e f = f ∙ rw (is-raised, ← q.same, e)

  pub literal-none : (i : Option (Bool × ℕ)) → IsPower (power_of (take (length t - (p + 1)) (drop (p + 1) t))) i → i ≡ None → r ≡ None → r ≡ literal_of t
  unfolding raised_by
  literal-none i q e f = f ∙ rw (is-raised, ← q.same, e)

-- a power that is read has at most two digits
pub power_small : (o : Option ℤ) (i : Option (Bool × ℕ)) (minus : Bool) (k : ℕ) → IsPower o i → i ≡ Some (minus, k) → k < 100
power_small o i minus k q e = rw e at q.small

-- ---- what a literal is worth, for every spelling

digits-plain : (t : List ℕ) → all_digits t ≡ true → significand t ≡ t
unfolding significand
digits-plain [] e = refl
digits-plain (b ∷ t) e = rw (ne_eqb b 69 (not-letter b t e), significand) (ap (λ (l : List ℕ). b ∷ l) (digits-plain t (other-digits b t e)))

-- a decimal has no `E`
parts-plain : (t : List ℕ) → all_digits (before t) ≡ true → all_digits (after t) ≡ true → significand t ≡ t
unfolding significand before after
parts-plain [] e f = refl
parts-plain (b ∷ t) e f = go (parts-plain t) (eqb b 46) refl e f
  where
    go : (all_digits (before t) ≡ true → all_digits (after t) ≡ true → significand t ≡ t) → (u : Bool) → eqb b 46 ≡ u
        → all_digits (elim u as (λ _. List ℕ) [ true ↦ [] | false ↦ b ∷ before t ]) ≡ true → all_digits (elim u as (λ _. List ℕ) [ true ↦ t | false ↦ after t ]) ≡ true
        → significand (b ∷ t) ≡ b ∷ t
    go r true p e f = rw (ne_eqb b 69 (λ q. omega (arith, eqb-true b 46 p)), significand) (ap (λ (l : List ℕ). b ∷ l) (digits-plain t f))
    go r false p e f = rw (ne_eqb b 69 (not-letter b (before t) e), significand) (ap (λ (l : List ℕ). b ∷ l) (r (other-digits b (before t) e) f))

decimal-plain : (t : List ℕ) → is_decimal t ≡ true → significand t ≡ t
unfolding is_decimal
decimal-plain t e = go (all_digits (before t)) refl (all_digits (after t)) refl _ _ e
  where
    go : (a : Bool) → all_digits (before t) ≡ a → (b : Bool) → all_digits (after t) ≡ b → (c d : Bool) → (a && b && c && d) ≡ true → significand t ≡ t
    go true p true q c d h = parts-plain t p q
    go true p false q c d h = absurd (let w : ◌≡◌ {A = ℕ} 0 1 = cc in omega arith)
    go false p b q c d h = absurd (let w : ◌≡◌ {A = ℕ} 0 1 = cc in omega arith)

pub literal-decimal : (t : List ℕ) → is_decimal t ≡ true → literal_of t ≡ fit_of (decimal_number t)
unfolding literal_of decimal_of
literal-decimal t e = rw (eq-eqb (length (significand t)) (length t) (ap length (decimal-plain t e)), e)

-- digits are a whole number
pub literal-number : (t : List ℕ) (v : Value) → all_digits t ≡ true → literal_of t ≡ Some v → fit_of (tenths (pos (number_from 0 t)) 0) ≡ Some v
unfolding literal_of decimal_of decimal_number
literal-number t v e = rw (eq-eqb (length (significand t)) (length t) (ap length (digits-plain t e)), before-all t e, after-all t e, append-nil t) (go (is_decimal t))
  where
    go : (u : Bool) → cond u (fit_of (tenths (pos (number_from 0 t)) 0)) None ≡ Some v → fit_of (tenths (pos (number_from 0 t)) 0) ≡ Some v
    go true h = h
    go false h = absurd (let w : ◌≡◌ {A = ℕ} 0 1 = cc in omega arith)

-- the bytes before the `E` and behind it
module _ (p : List ℕ) where
  joined-before : (d : List ℕ) → length (significand d) ≡ length d → significand (d ++ 69 ∷ p) ≡ d
  unfolding significand
  joined-before [] e = refl
  joined-before (b ∷ d) e = go (joined-before d) (eqb b 69) e
    where
      go : (length (significand d) ≡ length d → significand (d ++ 69 ∷ p) ≡ d) → (u : Bool)
          → length {A = ℕ} (elim u as (λ _. List ℕ) [ true ↦ [] | false ↦ b ∷ significand d ]) ≡ suc (length d)
          → elim u as (λ _. List ℕ) [ true ↦ [] | false ↦ b ∷ significand (d ++ 69 ∷ p) ] ≡ b ∷ d
      go r true h = absurd (omega arith)
      go r false h = ap (λ (l : List ℕ). b ∷ l) (r (omega arith))

  joined-behind : (d : List ℕ) → length (significand d) ≡ length d → exponent (d ++ 69 ∷ p) ≡ p
  unfolding significand exponent
  joined-behind [] e = refl
  joined-behind (b ∷ d) e = go (joined-behind d) (eqb b 69) e
    where
      go : (length (significand d) ≡ length d → exponent (d ++ 69 ∷ p) ≡ p) → (u : Bool)
          → length {A = ℕ} (elim u as (λ _. List ℕ) [ true ↦ [] | false ↦ b ∷ significand d ]) ≡ suc (length d)
          → elim u as (λ _. List ℕ) [ true ↦ d ++ 69 ∷ p | false ↦ exponent (d ++ 69 ∷ p) ] ≡ p
      go r true h = absurd (omega arith)
      go r false h = r (omega arith)

  -- a decimal and a power: the decimal times it
  pub literal-power : (d : List ℕ) (e : ℤ) → is_decimal d ≡ true → power_of p ≡ Some e → literal_of (d ++ 69 ∷ p) ≡ fit_of (scaled_by e (decimal_number d))
  unfolding literal_of raised_by
  literal-power d e h q =
      let n = ap length (decimal-plain d h) in
      rw (joined-before d n, joined-behind d n, ne_eqb (length d) (length (d ++ 69 ∷ p)) (λ z. omega (arith, length-append d (69 ∷ p))), q, h)
