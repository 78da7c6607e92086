-- Laws of digits and decimals (`specs/Literal.antt`); `Powers` has those of powers of ten.
use Rattle.std.specs.Prelude.{Option, Some, None}
use mathlib.Core.Path.{◌≡◌, refl, sym, ◌∙◌, ap, subst}
use mathlib.Core.Bool.{Bool, true, false, cond, not, ◌&&◌}
use mathlib.Core.List.{List, [], ◌∷◌, ◌++◌, append-nil}
use Prim.Native.Nat.{ℕ, suc, ◌+◌, ◌-◌, ◌*◌, ◌^◌, ◌<◌, ◌≤◌}
use native.Mathlib.Omega.{arith}
use native.Mathlib.Nat.{mul_assoc, mul_comm, mul_left_comm, mul-le-mul_right, pow-suc, one-le-pow, pow-le-pow_right, le-mul_of_pos_right}
use native.Mathlib.Numerals.{add-one}
use borrow.Author.Tests.{le-leb, lt-leb, leb-true, ltb-true, ltb-false, eq-eqb, ne_eqb}
use lib.Dec.{leb, ltb, eqb, lit<}
use lib.ListN.{length, get_or, take, drop, length-drop, drop_of_length-le}
use lib.Seq.{drop-cons, take_all, drop-length}
use Rattle.std.specs.List.{list_all, position, position_or_len}
use Rattle.std.proofs.lemmas.List.Sums.{prefix_len-le-length}
use Rattle.std.proofs.lemmas.List.Recursion.{is_position_or_len}
use lib.IntN.{ℤ, pos, negsuc, nat_abs}
use Rattle.rules.specs.Limits.{digit_limit, mantissa_limit}
use Rattle.rational.specs.Fraction.{Fraction, ◌⊗◌, integer}
use Rattle.value.specs.declared.Value.{Value}
use Rattle.value.specs.Decimal.{Valid, Lowest, at, none as nowhere, with_sign, choose, tenths, fit_of}
use Rattle.value.specs.Literal.{is_digit, all_digits, digit_of, number_from, before, after, is_decimal, decimal_number, decimal_of, significand, exponent, power_of, scaled_by, raised_by, literal_of}
use Rattle.value.specs.Parts.{parts_value}
use Rattle.value.proofs.Fitting.{fit_of-valid}
use Rattle.value.proofs.Ranges.{and-true, and-false}

-- ---- a digit

pub digit-test : (b : ℕ) → 48 ≤ b → leb b 57 ≡ is_digit b
unfolding is_digit
digit-test b h = rw (le-leb 48 b h)

pub digit-from : (b : ℕ) → is_digit b ≡ true → 48 ≤ b
unfolding is_digit
digit-from b e = go (leb 48 b) refl e
  where
    go : (t : Bool) → leb 48 b ≡ t → (t && leb b 57) ≡ true → 48 ≤ b
    go true p h = leb-true 48 b p
    go false p h = absurd (let w : ◌≡◌ {A = ℕ} 0 1 = cc in omega arith)

pub digit-to : (b : ℕ) → is_digit b ≡ true → b ≤ 57
unfolding is_digit
digit-to b e = go (leb 48 b) e
  where
    go : (t : Bool) → (t && leb b 57) ≡ true → b ≤ 57
    go true h = leb-true b 57 h
    go false h = absurd (let w : ◌≡◌ {A = ℕ} 0 1 = cc in omega arith)

pub digit_value : (b : ℕ) → is_digit b ≡ true → b - 48 ≡ digit_of b
unfolding digit_of
digit_value b e = rw e

pub digit-none : (b : ℕ) → is_digit b ≡ false → 0 ≡ digit_of b
unfolding digit_of
digit-none b e = rw e

pub digit-small : (b : ℕ) → digit_of b < 10
unfolding digit_of
digit-small b = go (is_digit b) refl
  where
    go : (t : Bool) → is_digit b ≡ t → cond t (b - 48) 0 < 10
    go true e = omega (arith, digit-to b e)
    go false e = omega arith

-- ---- the digits that are left

pub all-listed : (t : List ℕ) → list_all is_digit t ≡ all_digits t
unfolding all_digits
all-listed [] = refl
all-listed (b ∷ t) = go (all-listed t) (is_digit b)
  where
    go : list_all is_digit t ≡ all_digits t → (u : Bool) → (u && list_all is_digit t) ≡ elim u as (λ _. Bool) [ true ↦ all_digits t | false ↦ false ]
    go r true = r
    go r false = refl

-- the first of them, and the others
module _ (x : ℕ) (a : List ℕ) (e : all_digits (x ∷ a) ≡ true) where
  pub first-digit : is_digit x ≡ true
  unfolding all_digits
  first-digit = go (is_digit x) refl e
    where
      go : (t : Bool) → is_digit x ≡ t → (elim t as (λ _. Bool) [ true ↦ all_digits a | false ↦ false ]) ≡ true → is_digit x ≡ true
      go true p h = p
      go false p h = absurd (let w : ◌≡◌ {A = ℕ} 0 1 = cc in omega arith)

  pub other-digits : all_digits a ≡ true
  unfolding all_digits
  other-digits = rw (first-digit, all_digits) at e

  pub not-point : x ≡ 46 → ⊥
  not-point p = omega (arith, digit-from x first-digit)

  pub not-minus : x ≡ 45 → ⊥
  not-minus p = omega (arith, digit-from x first-digit)

  pub not-letter : x ≡ 69 → ⊥
  not-letter p = omega (arith, digit-to x first-digit)

pub number-next : (t : List ℕ) (x i : ℕ) → i < length t → number_from x (drop i t) ≡ number_from (x * 10 + digit_of (get_or t i 0)) (drop (i + 1) t)
unfolding number_from
number-next t x i h = rw (add-one, drop-cons t i 0 h)

pub number-end : (t : List ℕ) (x i : ℕ) → length t ≤ i → number_from x (drop i t) ≡ x
unfolding number_from
number-end t x i h = rw (drop_of_length-le t h)

pub number_append : (m : ℕ) (a b : List ℕ) → number_from m (a ++ b) ≡ number_from (number_from m a) b
unfolding number_from
number_append m [] b = refl
number_append m (x ∷ a) b = number_append (m * 10 + digit_of x) a b

-- ---- room for k digits more, within limit

pub room_next : (x d k limit : ℕ) → d < 10 → (x + 1) * 10 ^ suc k ≤ limit → (x * 10 + d + 1) * 10 ^ k ≤ limit
room_next x d k limit h g =
    let le : x * 10 + d + 1 ≤ (x + 1) * 10 = omega arith in
    let e : (x + 1) * 10 * 10 ^ k ≡ (x + 1) * 10 ^ suc k = rw pow-suc (simp (mul_assoc, mul_comm, mul_left_comm)) in
    omega (arith, mul-le-mul_right (10 ^ k) le, e)

pub room_small : (x k limit : ℕ) → (x + 1) * 10 ^ k ≤ limit → x < limit
room_small x k limit h = omega (arith, le-mul_of_pos_right (x + 1) (one-le-pow k 10 (lit< tt)))

pub number-room : (m : ℕ) (t : List ℕ) (k limit : ℕ) → (m + 1) * 10 ^ (length t + k) ≤ limit → (number_from m t + 1) * 10 ^ k ≤ limit
unfolding number_from
number-room m [] k limit h = let e : 0 + k ≡ k = omega arith in subst (λ (i : ℕ). (m + 1) * 10 ^ i ≤ limit) e h
number-room m (b ∷ t) k limit h =
    let e : suc (length t) + k ≡ suc (length t + k) = omega arith in
    number-room (m * 10 + digit_of b) t k limit
    (room_next m (digit_of b) (length t + k) limit (digit-small b) (subst (λ (i : ℕ). (m + 1) * 10 ^ i ≤ limit) e h))

-- there is room for 18 digits, in one part or two
pub room-start : (n : ℕ) → n ≤ 18 → 1 * 10 ^ n ≤ 10 ^ 18
room-start n h = omega (arith, pow-le-pow_right {n = 10} (lit< tt) {i = n} {j = 18} h)

module _ (a b : List ℕ) (ha : length a ≤ 18) (hb : length b ≤ 18 - length a) (m : ℕ) (e : m ≡ number_from 0 a) where
  pub room-rest : (m + 1) * 10 ^ length b ≤ 10 ^ 18
  room-rest = rw e (number-room 0 a (length b) (10 ^ 18) (room-start _ (omega arith)))

  pub parts-small : (x : ℕ) → x ≡ number_from m b → x < 2 ^ 63
  parts-small x f =
      let n : length b ≡ length b + 0 = omega arith in
      let g = room_small (number_from m b) 0 (10 ^ 18) (number-room m b 0 (10 ^ 18) (subst (λ (i : ℕ). (m + 1) * 10 ^ i ≤ 10 ^ 18) n room-rest)) in
      omega arith

  -- the value of two parts, from what their digits are
  pub parts-value : (j : ℤ) (x : ℕ) → x ≡ number_from m b → true ≡ all_digits a → true ≡ all_digits b → fit_of (scaled_by j (tenths (pos x) (length b))) ≡ parts_value j a b
  unfolding parts_value digit_limit
  parts-value j x f p q = rw (le-leb (length a + length b) 18 (omega arith), ← p, ← q, number_append 0 a b, ← e, ← f)

module _ (e : ℤ) (a b : List ℕ) where
  pub parts-long : 18 < length a → None ≡ parts_value e a b
  unfolding parts_value digit_limit
  parts-long h = rw (lt-leb (length a + length b) 18 (omega arith), and-false)

  pub parts-longer : length a ≤ 18 → 18 - length a < length b → None ≡ parts_value e a b
  unfolding parts_value digit_limit
  parts-longer h g = rw (lt-leb (length a + length b) 18 (omega arith), and-false)

  pub parts-strange : false ≡ all_digits a → None ≡ parts_value e a b
  unfolding parts_value
  parts-strange h = rw (← h)

  pub parts-strange-after : false ≡ all_digits b → None ≡ parts_value e a b
  unfolding parts_value
  parts-strange-after h = rw (← h, and-false)

-- ---- a byte that is sought

module _ (p : ℕ → Bool) (t : List ℕ) where
  pub first-found : (i : ℕ) → position p t ≡ Some i → (i ≡ position_or_len p t) × (i < length t)
  first-found i e = go (ltb (position_or_len p t) (length t)) refl e
    where
      go : (u : Bool) → ltb (position_or_len p t) (length t) ≡ u → cond u (Some (position_or_len p t)) None ≡ Some i → (i ≡ position_or_len p t) × (i < length t)
      go true h e = let q : i ≡ position_or_len p t = cc in (q, omega (arith, ltb-true _ _ h))
      go false h e = absurd (let w : ◌≡◌ {A = ℕ} 0 1 = cc in omega arith)

  pub first-nowhere : position p t ≡ None → position_or_len p t ≡ length t
  first-nowhere e = go (ltb (position_or_len p t) (length t)) refl e
    where
      go : (u : Bool) → ltb (position_or_len p t) (length t) ≡ u → cond u (Some (position_or_len p t)) None ≡ None → position_or_len p t ≡ length t
      go true h e = absurd (let w : ◌≡◌ {A = ℕ} 0 1 = cc in omega arith)
      go false h e = omega (arith, ltb-false _ _ h, prefix_len-le-length (λ x. not (p x)) t)

-- ---- the first point

before-first : (t : List ℕ) → length (before t) ≡ position_or_len (λ b. eqb b 46) t
unfolding before
before-first = is_position_or_len (λ t. length (before t)) (λ b. eqb b 46) refl (λ b t. go (eqb b 46) b t)
  where
    go : (u : Bool) (b : ℕ) (t : List ℕ) → length {A = ℕ} (elim u as (λ _. List ℕ) [ true ↦ [] | false ↦ b ∷ before t ]) ≡ cond u 0 (1 + length (before t))
    go true b t = refl
    go false b t = omega arith

pub point-at : (t : List ℕ) (p : ℕ) → Some p ≡ position (λ b. eqb b 46) t → (p ≡ length (before t)) × (p < length t)
point-at t p h = let f = first-found (λ b. eqb b 46) t p (sym h) in (f.0 ∙ sym (before-first t), f.1)

pub point-nowhere : (t : List ℕ) → None ≡ position (λ b. eqb b 46) t → length t ≤ length (before t)
point-nowhere t h = omega (arith, before-first t, first-nowhere (λ b. eqb b 46) t (sym h))

before-take : (t : List ℕ) → before t ≡ take (length (before t)) t
unfolding before
before-take [] = refl
before-take (b ∷ t) = go (before-take t) (eqb b 46)
  where
    go : before t ≡ take (length (before t)) t → (u : Bool) → elim u as (λ _. List ℕ) [ true ↦ [] | false ↦ b ∷ before t ] ≡ take (length {A = ℕ} (elim u as (λ _. List ℕ) [ true ↦ [] | false ↦ b ∷ before t ])) (b ∷ t)
    go r true = refl
    go r false = ap (λ (l : List ℕ). b ∷ l) r

after-drop : (t : List ℕ) → after t ≡ drop (suc (length (before t))) t
unfolding before after
after-drop [] = refl
after-drop (b ∷ t) = go (after-drop t) (eqb b 46)
  where
    go : after t ≡ drop (suc (length (before t))) t → (u : Bool) → elim u as (λ _. List ℕ) [ true ↦ t | false ↦ after t ] ≡ drop (length {A = ℕ} (elim u as (λ _. List ℕ) [ true ↦ [] | false ↦ b ∷ before t ])) t
    go r true = refl
    go r false = r

-- digits have none
pub before-all : (a : List ℕ) → all_digits a ≡ true → before a ≡ a
unfolding before
before-all [] e = refl
before-all (x ∷ a) e = rw (ne_eqb x 46 (not-point x a e), before) (ap (λ (l : List ℕ). x ∷ l) (before-all a (other-digits x a e)))

pub after-all : (a : List ℕ) → all_digits a ≡ true → after a ≡ []
unfolding after
after-all [] e = refl
after-all (x ∷ a) e = rw (ne_eqb x 46 (not-point x a e), after) (after-all a (other-digits x a e))

-- ---- parts of t: from q to its end, and from its end

pub part-rest : (t : List ℕ) (q : ℕ) → take (length t - q) (drop q t) ≡ drop q t
part-rest t q = take_all (length t - q) (drop q t) (omega (arith, length-drop q t))

pub part_none : (t : List ℕ) → take (length t - length t) (drop (length t) t) ≡ []
part_none t = part-rest t (length t) ∙ drop-length t

-- ---- a decimal times the power e: the outcomes, by the place p of the point

pub raised-empty : (e : ℤ) (t : List ℕ) → length t ≡ 0 → None ≡ raised_by (Some e) t
unfolding raised_by is_decimal before after all_digits
raised-empty e [] h = refl
raised-empty e (b ∷ t) h = absurd (omega arith)

module _ (e : ℤ) (t : List ℕ) (p : ℕ) (at : p ≡ length (before t)) where
  is-before : before t ≡ take p t
  is-before = rw at (before-take t)

  is-after : after t ≡ drop (p + 1) t
  is-after = rw (add-one, at) (after-drop t)

  long_after : length (after t) ≡ length t - (p + 1)
  long_after = ap length is-after ∙ length-drop (p + 1) t

  -- no point, a point at the end, a point elsewhere
  pub raised-whole : 0 < length t → length t ≤ p → parts_value e t [] ≡ raised_by (Some e) t
  unfolding parts_value raised_by is_decimal decimal_number
  raised-whole g h =
      rw (is-before ∙ take_all p t h, is-after ∙ drop_of_length-le t {i = p + 1} (omega arith), append-nil t, eq-eqb (length t) (length t) refl, le-leb 1 (length t) g, and-true)

  pub raised-ends : p < length t → length t ≤ p + 1 → None ≡ raised_by (Some e) t
  unfolding raised_by is_decimal
  raised-ends g h =
      rw (ne_eqb (length t) (length (before t)) (λ e. omega (arith, at)), lt-leb 1 (length (after t)) (omega (arith, long_after)), and-false)

  pub raised-parts : p + 1 < length t → parts_value e (take p t) (drop (p + 1) t) ≡ raised_by (Some e) t
  unfolding parts_value raised_by is_decimal decimal_number
  raised-parts h =
      rw (ne_eqb (length t) (length (before t)) (λ e. omega (arith, at)), le-leb 1 (length (after t)) (omega (arith, long_after)), and-true, is-before, is-after)

-- ---- what is read is a value, and not negative

record Good (v : Value) : Type 0 where
  valid : Valid v
  plain : v.m ≡ pos (nat_abs v.m)

choose-plain : (z : ℤ) (n : ℕ) (l : Lowest) (v : Value) → z ≡ pos n → choose z l ≡ Some v → v.m ≡ pos (nat_abs v.m)
unfolding choose with_sign
choose-plain z n nowhere v p e = absurd (let w : ◌≡◌ {A = ℕ} 0 1 = cc in omega arith)
choose-plain z n (at m i) v p e = go (leb m mantissa_limit) (rw p at e)
  where
    go : (u : Bool) → cond u (Some (record { m = pos m; s = i })) None ≡ Some v → v.m ≡ pos (nat_abs v.m)
    go true e = let q : ◌≡◌ {A = Value} (record { m = pos m; s = i }) v = cc in subst (λ (x : Value). x.m ≡ pos (nat_abs x.m)) q refl
    go false e = absurd (let w : ◌≡◌ {A = ℕ} 0 1 = cc in omega arith)

-- where a test holds, the value of a fraction that is not negative
tested-good : (u : Bool) (n : ℕ) (q : Fraction) (v : Value) → q.num ≡ pos n → cond u (fit_of q) None ≡ Some v → Good v
unfolding fit_of
tested-good true n q v e h = record { valid = fit_of-valid q v h; plain = choose-plain q.num n _ v e h }
tested-good false n q v e h = absurd (let w : ◌≡◌ {A = ℕ} 0 1 = cc in omega arith)

raised-good : (o : Option ℤ) (t : List ℕ) (v : Value) → raised_by o t ≡ Some v → Good v
unfolding raised_by scaled_by decimal_number tenths integer ◌⊗◌
raised-good None t v e = absurd (let w : ◌≡◌ {A = ℕ} 0 1 = cc in omega arith)
raised-good (Some (pos k)) t v e = tested-good (is_decimal t) _ _ v refl e
raised-good (Some (negsuc k)) t v e = tested-good (is_decimal t) _ _ v refl e

literal-good : (t : List ℕ) (v : Value) → literal_of t ≡ Some v → Good v
unfolding literal_of decimal_of decimal_number tenths
literal-good t v e = go (eqb (length (significand t)) (length t)) e
  where
    go : (u : Bool) → cond u (decimal_of t) (raised_by (power_of (exponent t)) (significand t)) ≡ Some v → Good v
    go true h = tested-good (is_decimal t) _ _ v refl h
    go false h = raised-good (power_of (exponent t)) (significand t) v h

pub literal-empty : (t : List ℕ) → length t ≡ 0 → None ≡ literal_of t
unfolding literal_of significand decimal_of is_decimal before after all_digits
literal-empty [] e = refl
literal-empty (b ∷ t) e = absurd (omega arith)

pub literal-valid : (t : List ℕ) (v : Value) → literal_of t ≡ Some v → Valid v
literal-valid t v e = (literal-good t v e).valid

pub literal-plain : (t : List ℕ) (v : Value) → literal_of t ≡ Some v → v.m ≡ pos (nat_abs v.m)
literal-plain t v e = (literal-good t v e).plain
