-- What is printed reads back as the same value, so that two values never print alike; and how long a printed value is.
use Rattle.std.specs.Prelude.{Option, Some, None}
use mathlib.Core.Path.{◌≡◌, refl, sym, ◌∙◌, ap}
use mathlib.Core.Bool.{Bool, true, false, cond}
use mathlib.Core.List.{List, [], ◌∷◌, ◌++◌, append-nil}
use Prim.Native.Nat.{ℕ, zero, suc, ◌+◌, ◌-◌, ◌*◌, ◌/◌, ◌%◌, ◌^◌, ◌<◌, ◌≤◌}
use native.Mathlib.Omega.{arith}
use native.Mathlib.Nat.{mul_assoc, mul_comm, mul_left_comm, add-mul, mod-one, mod-lt, mod-eq_of_lt, div-add-mod', div-lt_iff_lt-mul, pow-suc, pow-le-pow_right}
use native.Mathlib.Decide.{ℕ_discrete}
use borrow.Author.Tests.{eq-eqb, ne_eqb, le-leb, leb-true, leb-false}
use lib.Dec.{eqb, leb, lit<}
use lib.Arith.{mod-mul}
use lib.ListN.{length, length-append}
use lib.Pow.{pow-add}
use lib.IntN.{ℤ, pos, negsuc, neg_ℤ, nat_abs}
use Rattle.rules.specs.Characters.{code}
use Rattle.rules.specs.Limits.{mantissa_limit, scale_limit, digit_limit}
use Rattle.value.specs.declared.Value.{Value}
use Rattle.value.specs.Decimal.{Valid, tenths, frac, fit_of, negate}
use Rattle.value.specs.Literal.{is_digit, all_digits, digit_of, number_from, before, after, is_decimal, decimal_number, literal_of}
use Rattle.value.specs.Printed.{digits, width_from, natural, minus_sign, places, printed}
use Rattle.value.proofs.Scales.{ten-pos}
use Rattle.value.proofs.Fitting.{fit_of-own}
use Rattle.value.proofs.Reading.{digit-test, digit_value, other-digits, not-point, not-minus, before-all, after-all, number_append, literal-empty}
use Rattle.value.proofs.Powers.{literal-decimal}
use Rattle.value.proofs.Writing.{length_digits, digits-none, places-none, places-some, sign-short}

-- ---- reading: a `-` and a literal, or a literal

unfoldable pub opposite : Option Value → Option Value
opposite (Some v) = Some (negate v)
opposite None = None

unfoldable pub read_back : List ℕ → Option Value
read_back [] = literal_of []
read_back (b ∷ t) = cond (eqb b (code "-")) (opposite (literal_of t)) (literal_of (b ∷ t))

-- what is empty is no literal
pub read-empty : read_back [] ≡ None
unfolding read_back
read-empty = sym (literal-empty [] refl)

-- ---- the digits of a number

byte-digit : (d : ℕ) → d < 10 → is_digit (d + 48) ≡ true
byte-digit d h = sym (digit-test (d + 48) (omega arith)) ∙ le-leb (d + 48) 57 (omega arith)

byte-value : (d : ℕ) → d < 10 → digit_of (d + 48) ≡ d
byte-value d h = sym (digit_value (d + 48) (byte-digit d h)) ∙ omega arith

digits-all : (k n : ℕ) → all_digits (digits k n) ≡ true
unfolding digits all_digits
digits-all zero n = refl
digits-all (suc k) n = rw (byte-digit (n / 10 ^ k % 10) (mod-lt (n / 10 ^ k) (lit< tt)), all_digits) (digits-all k n)

digits_number : (k n m : ℕ) → number_from m (digits k n) ≡ m * 10 ^ k + n % 10 ^ k
unfolding digits number_from
digits_number zero n m = omega (arith, mod-one n)
digits_number (suc k) n m =
    let d = n / 10 ^ k % 10 in
    let e : digit_of (d + 48) ≡ d = byte-value d (mod-lt (n / 10 ^ k) (lit< tt)) in
    let split : n % 10 ^ suc k ≡ d * 10 ^ k + n % 10 ^ k = rw (pow-suc 10 k, mul_comm (10 ^ k) 10) (mod-mul n (lit< tt) (ten-pos k)) in
    let more : m * 10 ^ suc k ≡ m * 10 * 10 ^ k = rw (pow-suc 10 k) (simp (mul_assoc, mul_comm, mul_left_comm)) in
    let sum : (m * 10 + d) * 10 ^ k + n % 10 ^ k ≡ m * 10 ^ suc k + n % 10 ^ suc k = omega (arith, split, more, add-mul (m * 10) d (10 ^ k)) in
    ap (λ (i : ℕ). number_from (m * 10 + i) (digits k n)) e ∙ digits_number k n (m * 10 + d) ∙ sum

-- ---- the width: at least w, and enough

width-from : (k w n : ℕ) → w ≤ width_from k w n
unfolding width_from
width-from zero w n = omega arith
width-from (suc k) w n = go (width-from k (suc w) n) (leb (10 ^ w) n)
  where
    go : suc w ≤ width_from k (suc w) n → (t : Bool) → w ≤ (elim t as (λ _. ℕ) [ true ↦ width_from k (suc w) n | false ↦ w ])
    go h true = omega arith
    go h false = omega arith

width-enough : (k w n : ℕ) → n < 10 ^ (w + k) → n < 10 ^ width_from k w n
unfolding width_from
width-enough zero w n h = let e : w + 0 ≡ w = omega arith in rw e at h
width-enough (suc k) w n h =
    let e : w + suc k ≡ suc w + k = omega arith in
    go (width-enough k (suc w) n (rw e at h)) (leb (10 ^ w) n) refl
  where
    go : n < 10 ^ width_from k (suc w) n → (t : Bool) → leb (10 ^ w) n ≡ t → n < 10 ^ (elim t as (λ _. ℕ) [ true ↦ width_from k (suc w) n | false ↦ w ])
    go r true e = r
    go r false e = leb-false _ _ e

below_power : (w b n : ℕ) → 10 ^ w ≤ n → n < 10 ^ b → w < b
below_power w b n h g = go (leb b w) refl
  where
    go : (t : Bool) → leb b w ≡ t → w < b
    go true e = absurd (omega (arith, pow-le-pow_right {n = 10} (lit< tt) {i = b} {j = w} (leb-true _ _ e)))
    go false e = leb-false _ _ e

width_small : (k w n b : ℕ) → w ≤ b → n < 10 ^ b → width_from k w n ≤ b
unfolding width_from
width_small zero w n b h g = h
width_small (suc k) w n b h g = go (width_small k (suc w) n b) (leb (10 ^ w) n) refl
  where
    go : (suc w ≤ b → n < 10 ^ b → width_from k (suc w) n ≤ b) → (t : Bool) → leb (10 ^ w) n ≡ t → (elim t as (λ _. ℕ) [ true ↦ width_from k (suc w) n | false ↦ w ]) ≤ b
    go r true e = r (below_power w b n (leb-true _ _ e) g) g
    go r false e = h

-- ---- a text in two parts: digits before and after a point

before-digits : (a b : List ℕ) → all_digits a ≡ true → before (a ++ 46 ∷ b) ≡ a
unfolding before
before-digits [] b e = refl
before-digits (x ∷ a) b e = rw (ne_eqb x 46 (not-point x a e), before) (ap (λ (l : List ℕ). x ∷ l) (before-digits a b (other-digits x a e)))

after-digits : (a b : List ℕ) → all_digits a ≡ true → after (a ++ 46 ∷ b) ≡ b
unfolding after
after-digits [] b e = refl
after-digits (x ∷ a) b e = rw (ne_eqb x 46 (not-point x a e), after) (after-digits a b (other-digits x a e))

module _ (a b : List ℕ) (ea : all_digits a ≡ true) (eb : all_digits b ≡ true) (h : length a + length b ≤ 18) where
  -- the value of a literal without a point, and with one
  pub literal-digits : 0 < length a → b ≡ [] → literal_of a ≡ fit_of (tenths (pos (number_from 0 (a ++ b))) (length b))
  unfolding is_decimal decimal_number all_digits digit_limit
  literal-digits g n =
      literal-decimal a (rw (before-all a ea, after-all a ea, ea, eq-eqb (length a) (length a) refl, le-leb 1 (length a) g, le-leb (length a + 0) 18 (omega arith)))
      ∙ rw (n, before-all a ea, after-all a ea)

  pub literal-point : 0 < length b → literal_of (a ++ 46 ∷ b) ≡ fit_of (tenths (pos (number_from 0 (a ++ b))) (length b))
  unfolding is_decimal decimal_number digit_limit
  literal-point g =
      literal-decimal (a ++ 46 ∷ b)
      (rw (before-digits a b ea, after-digits a b ea, ea, eb, ne_eqb (length (a ++ 46 ∷ b)) (length a) (λ n. omega (arith, length-append a (46 ∷ b))), le-leb 1 (length b) g, le-leb (length a + length b) 18 h))
      ∙ rw (before-digits a b ea, after-digits a b ea)

read_plain : (a b : List ℕ) → all_digits a ≡ true → 0 < length a → read_back (a ++ b) ≡ literal_of (a ++ b)
unfolding read_back
read_plain [] b e h = absurd (omega arith)
read_plain (x ∷ a) b e h = rw (ne_eqb x 45 (not-minus x a e))

-- ---- a value's text

module _ (x s : ℕ) (small : x ≤ 999999999) (scale : s ≤ 6) where
  whole : ℕ
  whole = x / 10 ^ s

  whole-small : whole < 10 ^ (9 - s)
  unfolding whole
  whole-small =
      let e : 9 - s + s ≡ 9 = omega arith in
      let p : 10 ^ (9 - s) * 10 ^ s ≡ 10 ^ 9 = sym (pow-add 10 (9 - s) s) ∙ ap (λ (k : ℕ). 10 ^ k) e in
      (div-lt_iff_lt-mul (ten-pos s)).1 (omega (arith, p))

  width : ℕ
  width = width_from 17 1 whole

  width-short : width ≤ 9 - s
  unfolding width
  width-short = width_small 17 1 whole (9 - s) (omega arith) whole-small

  width_positive : 0 < width
  unfolding width
  width_positive = width-from 17 1 whole

  whole_wide : whole < 10 ^ width
  unfolding width
  whole_wide = width-enough 17 1 whole (omega (arith, whole-small, pow-le-pow_right {n = 10} (lit< tt) {i = 9 - s} {j = 18} (omega arith)))

  -- the digits of both parts write x
  both-parts : number_from 0 (digits width whole ++ digits s x) ≡ x
  unfolding whole
  both-parts =
      let first : number_from 0 (digits width whole) ≡ whole = digits_number width whole 0 ∙ omega (arith, mod-eq_of_lt whole_wide) in
      number_append 0 (digits width whole) (digits s x) ∙ rw first (digits_number s x whole ∙ div-add-mod' x (10 ^ s))

  parts-value : fit_of (tenths (pos (number_from 0 (digits width whole ++ digits s x))) (length (digits s x))) ≡ fit_of (tenths (pos x) s)
  parts-value = rw (both-parts, length_digits s x)

  text : List ℕ
  text = natural whole ++ places s x

  text-is : text ≡ digits width whole ++ places s x
  unfolding text natural width
  text-is = refl

  text-value : literal_of text ≡ fit_of (tenths (pos x) s)
  text-value = rw text-is (go (ℕ_discrete s 0))
    where
      ea : all_digits (digits width whole) ≡ true
      ea = digits-all width whole

      eb : all_digits (digits s x) ≡ true
      eb = digits-all s x

      h : length (digits width whole) + length (digits s x) ≤ 18
      h = omega (arith, length_digits width whole, length_digits s x, width-short)

      go : Dec (s ≡ 0) → literal_of (digits width whole ++ places s x) ≡ fit_of (tenths (pos x) s)
      go (yes e) =
          rw (places-none s x e, append-nil (digits width whole))
          (literal-digits _ (digits s x) ea eb h (omega (arith, length_digits width whole, width_positive)) (digits-none s x (omega arith)) ∙ parts-value)
      go (no f) = rw (places-some s x f) (literal-point _ _ ea eb h (omega (arith, length_digits s x, f)) ∙ parts-value)

  read-text : read_back text ≡ literal_of text
  read-text = rw text-is (read_plain (digits width whole) (places s x) (digits-all width whole) (omega (arith, length_digits width whole, width_positive)))

  text-short : length text ≤ 10
  text-short = rw text-is (go (ℕ_discrete s 0))
    where
      go : Dec (s ≡ 0) → length (digits width whole ++ places s x) ≤ 10
      go (yes e) = rw (places-none s x e) (omega (arith, length-append (digits width whole) [], length_digits width whole, width-short))
      go (no f) = rw (places-some s x f) (omega (arith, length-append (digits width whole) (46 ∷ digits s x), length_digits width whole, length_digits s x, width-short))

-- ---- a value reads back as itself

module _ (v : Value) (h : Valid v) where
  size : nat_abs v.m ≤ 999999999
  unfolding mantissa_limit
  size = h.small

  scale : v.s ≤ 6
  unfolding scale_limit
  scale = h.places

  -- its text without the sign
  unsigned : List ℕ
  unsigned = text (nat_abs v.m) v.s size scale

  unsigned-value : literal_of unsigned ≡ Some (record { m = pos (nat_abs v.m); s = v.s })
  unfolding unsigned frac
  unsigned-value =
      text-value (nat_abs v.m) v.s size scale
      ∙ fit_of-own (record { m = pos (nat_abs v.m); s = v.s }) (record { small = h.small; places = h.places; least = h.least })

  printed-is : printed v ≡ minus_sign v.m ++ unsigned
  unfolding printed unsigned text whole
  printed-is = refl

  pub read_back_lem : read_back (printed v) ≡ Some v
  unfolding read_back opposite negate minus_sign unsigned
  read_back_lem = rw printed-is (go v.m refl)
    where
      go : (z : ℤ) → v.m ≡ z → read_back (minus_sign z ++ unsigned) ≡ Some v
      go (pos n) e =
          let m : pos (nat_abs v.m) ≡ v.m = rw e in
          read-text (nat_abs v.m) v.s size scale ∙ unsigned-value ∙ ap (λ (z : ℤ). Some (record { m = z; s = v.s })) m
      go (negsuc n) e =
          let m : neg_ℤ (pos (nat_abs v.m)) ≡ v.m = rw e in
          ap opposite unsigned-value ∙ ap (λ (z : ℤ). Some (record { m = z; s = v.s })) m

  pub printed-short : length (printed v) ≤ 11
  unfolding unsigned
  printed-short =
      rw printed-is
      (omega (arith, length-append (minus_sign v.m) unsigned, sign-short v.m, text-short (nat_abs v.m) v.s size scale))

-- two values print alike only if they are the same
pub printed-unique : (v w : Value) → Valid v → Valid w → printed v ≡ printed w → v ≡ w
printed-unique v w hv hw e =
    let p : Some v ≡ Some w = sym (read_back_lem v hv) ∙ ap read_back e ∙ read_back_lem w hw in
    cc
