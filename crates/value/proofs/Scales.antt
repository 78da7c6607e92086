-- Steps of `seek` over powers of ten: where x / 10^s can be written over 10^i, by a test on x alone.
use Rattle.std.specs.Prelude.{Option, Some, None}
use Rattle.value.specs.declared.Value.{Value}
use mathlib.Core.Path.{◌≡◌, refl, sym, ◌∙◌, ap}
use Prim.Native.Nat.{ℕ, zero, suc, ◌+◌, ◌-◌, ◌*◌, ◌/◌, ◌%◌, ◌^◌, ◌<◌, ◌≤◌}
use native.Mathlib.Omega.{arith}
use native.Mathlib.Nat.{mul_assoc, one-le-pow, mod-one, div-add-mod', mul-mod_left, mul-div-mul_right, eq_of_mul-eq-mul_right}
use borrow.Author.Tests.{eq-eqb, ne_eqb, le-leb, lt-leb}
use lib.Dec.{lit<}
use lib.Pow.{pow-add}
use lib.IntN.{ℤ, nat_abs}
use Rattle.rules.specs.Limits.{mantissa_limit, scale_limit}
use Rattle.value.specs.Decimal.{tenths, at, with_sign, seek, ten, choose, fit_of}

pub ten-pos : (k : ℕ) → 0 < 10 ^ k
ten-pos k = one-le-pow k 10 (lit< tt)

-- a power of ten is no zero divisor
pub power_pos : (d k : ℕ) → d ≡ 10 ^ k → 0 < d
power_pos d k e = rw e (ten-pos k)

over : (x D : ℕ) → x % D ≡ 0 → x / D * D ≡ x
over x D e = let p = div-add-mod' x D in omega arith

module _ (x s i : ℕ) (h : i ≤ s) where
  split : 10 ^ s ≡ 10 ^ (s - i) * 10 ^ i
  split = let e : s ≡ (s - i) + i = omega arith in ap (λ (n : ℕ). 10 ^ n) e ∙ pow-add 10 (s - i) i

  quotient : x * 10 ^ i / 10 ^ s ≡ x / 10 ^ (s - i)
  quotient = rw split (mul-div-mul_right x (10 ^ (s - i)) (ten-pos i))

  pub divides : x % 10 ^ (s - i) ≡ 0 → x * 10 ^ i % 10 ^ s ≡ 0
  divides e =
      let d = 10 ^ (s - i) in
      let a : x / d * d ≡ x = over x d e in
      let b : x * 10 ^ i ≡ x / d * 10 ^ s = ap (λ (n : ℕ). n * 10 ^ i) (sym a) ∙ mul_assoc (x / d) d (10 ^ i) ∙ ap (λ (n : ℕ). x / d * n) (sym split) in
      rw b (mul-mod_left (x / d) (10 ^ s))

  divided : x * 10 ^ i % 10 ^ s ≡ 0 → x % 10 ^ (s - i) ≡ 0
  divided e =
      let d = 10 ^ (s - i) in
      let a : x * 10 ^ i / 10 ^ s * 10 ^ s ≡ x * 10 ^ i = over (x * 10 ^ i) (10 ^ s) e in
      let b : x / d * d * 10 ^ i ≡ x * 10 ^ i = mul_assoc (x / d) d (10 ^ i) ∙ ap (λ (n : ℕ). x / d * n) (sym split) ∙ ap (λ (n : ℕ). n * 10 ^ s) (sym quotient) ∙ a in
      let c : x / d * d ≡ x = eq_of_mul-eq-mul_right (10 ^ i) (ten-pos i) (x / d * d) x b in
      ap (λ (n : ℕ). n % d) (sym c) ∙ mul-mod_left (x / d) d

  -- the first scale that serves
  pub seek_found : (k : ℕ) → x % 10 ^ (s - i) ≡ 0 → seek ten (suc k) i x (10 ^ s) ≡ at (x / 10 ^ (s - i)) i
  unfolding seek
  seek_found k e = rw (eq-eqb (x * 10 ^ i % 10 ^ s) 0 (divides e), quotient, seek)

  pub seek-next : (k : ℕ) → (x % 10 ^ (s - i) ≡ 0 → ⊥) → seek ten (suc k) i x (10 ^ s) ≡ seek ten k (suc i) x (10 ^ s)
  unfolding seek
  seek-next k f = rw (ne_eqb (x * 10 ^ i % 10 ^ s) 0 (λ e. f (divided e)), seek)

  -- the scale s always serves
  pub below : (x % 10 ^ (s - i) ≡ 0 → ⊥) → i < s
  below f = go (s - i) refl
    where
      go : (n : ℕ) → s - i ≡ n → i < s
      go zero e = absurd (f (ap (λ (n : ℕ). x % 10 ^ n) e ∙ mod-one x))
      go (suc n) e = omega arith

-- ---- the loop of `normalise`: the scales below i do not serve

pub record Sought (x s i : ℕ) : Type 0 where
  pub low : i ≤ s
  pub same : seek ten (7 - i) i x (10 ^ s) ≡ seek ten 7 0 x (10 ^ s)

pub sought-first : (x s : ℕ) → Sought x s 0
sought-first x s = record { low = omega arith; same = refl }

pub sought-next : (x s i d : ℕ) → Sought x s i → i ≤ 6 → d ≡ 10 ^ (s - i) → (x % d ≡ 0 → ⊥) → Sought x s (i + 1)
sought-next x s i d w h e f =
    let n : 7 - i ≡ suc (6 - i) = omega arith in
    let m : 7 - (i + 1) ≡ 6 - i = omega arith in
    let j : i + 1 ≡ suc i = omega arith in
    let g : x % 10 ^ (s - i) ≡ 0 → ⊥ = λ z. f (rw e z) in
    record {
      low = omega (arith, below x s i w.low g);
      same = rw (m, j) (sym (seek-next x s i w.low (6 - i) g) ∙ ap (λ (j : ℕ). seek ten j i x (10 ^ s)) (sym n) ∙ w.same);
    }

module _ (z : ℤ) (x s : ℕ) (size : x ≡ nat_abs z) where
  fit-sought : fit_of (tenths z s) ≡ choose z (seek ten 7 0 x (10 ^ s))
  unfolding fit_of tenths scale_limit
  fit-sought = rw size

  pub fit_found : (i d : ℕ) (r : Option Value) → Sought x s i → i ≤ 6 → d ≡ 10 ^ (s - i) → x % d ≡ 0 → r ≡ choose z (at (x / d) i) → r ≡ fit_of (tenths z s)
  fit_found i d r w h e p q =
      let n : 7 - i ≡ suc (6 - i) = omega arith in
      let f = seek_found x s i w.low (6 - i) (rw (← e) p) in
      q ∙ ap (choose z) (rw e (sym f) ∙ ap (λ (j : ℕ). seek ten j i x (10 ^ s)) (sym n) ∙ w.same) ∙ sym fit-sought

  pub fit_none : (i : ℕ) → Sought x s i → 6 < i → None ≡ fit_of (tenths z s)
  unfolding seek choose
  fit_none i w h =
      let m : 7 - i ≡ 0 = omega arith in
      ap (choose z) (sym (ap (λ (j : ℕ). seek ten j i x (10 ^ s)) m) ∙ w.same) ∙ sym fit-sought

-- ---- what is chosen of a place

pub choose-fits : (z : ℤ) (m i : ℕ) → m ≤ 999999999 → Some (record { m = with_sign z m; s = i }) ≡ choose z (at m i)
unfolding choose mantissa_limit
choose-fits z m i h = rw (le-leb m 999999999 h)

pub choose-too-big : (z : ℤ) (m i : ℕ) → 999999999 < m → None ≡ choose z (at m i)
unfolding choose mantissa_limit
choose-too-big z m i h = rw (lt-leb m 999999999 h)
