-- Laws of keys read back: the digits in the words of a key, and the element of its digits.
use mathlib.Core.Path.{◌≡◌, refl, ◌∙◌}
use mathlib.Core.List.{List, [], ◌∷◌, ◌++◌}
use Prim.Native.Nat.{ℕ, zero, suc, ◌+◌, ◌*◌, ◌/◌, ◌%◌, ◌<◌, ◌≤◌}
use native.Mathlib.Omega.{arith}
use borrow.Author.Tests.{ne_eqb}
use lib.ListN.{length, get_or}
use lib.IntN.{ℤ, pos, nat_abs, ◌-ℤ◌}
use Rattle.rules.specs.Limits.{mantissa_limit, index_limit}
use Rattle.store.specs.declared.Key.{Key}
use Rattle.store.specs.declared.Element.{Element}
use Rattle.store.specs.Element.{list_of, extended}
use Rattle.store.specs.Key.{digit_of, digit_at, with_digit, name_digit, paired, three_words, key_number, key_of, four_digits, high_of, middle_of, low_of, name_of, element_of}
use Rattle.store.specs.Entries.{Keyed}
use Rattle.store.proofs.Keys.{digit-below, digit-above, digit-parts, name-digit}
use Rattle.store.proofs.Words.{moved_back}
use Rattle.store.proofs.Elements.{extended-room}

-- ---- digits

digit-at-below : (l : List ℤ) (i : ℕ) → digit_at l i < 2147483648
unfolding digit_at
digit-at-below [] i = omega arith
digit-at-below (k ∷ l) zero = digit-below k
digit-at-below (k ∷ l) (suc i) = digit-at-below l i

upper-digit : (w x y : ℕ) → w ≡ x * 2147483648 + y → y < 2147483648 → w / 2147483648 ≡ x
upper-digit w x y e h = omega arith

lower-digit : (w x y : ℕ) → w ≡ x * 2147483648 + y → y < 2147483648 → w % 2147483648 ≡ y
lower-digit w x y e h = omega arith

-- ---- elements

module _ (e : Element) (d : ℕ) where
  pub digit-none : d ≡ 0 → list_of e ≡ with_digit (list_of e) d
  unfolding with_digit
  digit-none h = rw h

  pub digit-more : (r : Element) (j : ℤ) → (d ≡ 0 → ⊥) → j ≡ pos d -ℤ pos 1000000000 → list_of r ≡ extended (list_of e) j → list_of r ≡ with_digit (list_of e) d
  unfolding with_digit mantissa_limit
  digit-more r j h p q = rw (ne_eqb d 0 h) (rw p at q)

some-digit : {x l : List ℤ} (k : ℤ) → x ≡ l → length l < 4 → nat_abs k ≤ mantissa_limit → with_digit x (digit_of k) ≡ l ++ (k ∷ [])
unfolding with_digit mantissa_limit
some-digit {l = l} k e h b =
    rw (e, ne_eqb (digit_of k) 0 (λ p. omega (arith, digit-above k b)), moved_back (digit_of k) k (digit-parts k b)) (extended-room l k h)

four-digits : (l : List ℤ) → length l ≤ 4 → ((i : ℕ) → nat_abs (get_or l i (pos 0)) ≤ mantissa_limit) → four_digits (digit_at l 0) (digit_at l 1) (digit_at l 2) (digit_at l 3) ≡ l
unfolding four_digits digit_at with_digit
four-digits [] h s = refl
four-digits (a ∷ []) h s = some-digit a refl (omega arith) (s 0)
four-digits (a ∷ b ∷ []) h s = some-digit b (some-digit a refl (omega arith) (s 0)) (omega arith) (s 1)
four-digits (a ∷ b ∷ c ∷ []) h s = some-digit c (some-digit b (some-digit a refl (omega arith) (s 0)) (omega arith) (s 1)) (omega arith) (s 2)
four-digits (a ∷ b ∷ c ∷ d ∷ []) h s =
    some-digit d (some-digit c (some-digit b (some-digit a refl (omega arith) (s 0)) (omega arith) (s 1)) (omega arith) (s 2)) (omega arith) (s 3)
four-digits (a ∷ b ∷ c ∷ d ∷ e ∷ l) h s = absurd (omega arith)

-- ---- words

whole : (x l : ℕ) → l < 18446744073709551616 → (x * 18446744073709551616 + l) / 18446744073709551616 ≡ x
whole x l h = omega arith

rest : (x l : ℕ) → l < 18446744073709551616 → (x * 18446744073709551616 + l) % 18446744073709551616 ≡ l
rest x l h = omega arith

-- three words, read back from their number
module _ (h m l : ℕ) (y : m < 18446744073709551616) (z : l < 18446744073709551616) where
  three-high : high_of (three_words h m l) ≡ h
  unfolding high_of three_words
  three-high = rw (whole (h * 18446744073709551616 + m) l z) (whole h m y)

  three-middle : middle_of (three_words h m l) ≡ m
  unfolding middle_of three_words
  three-middle = rw (whole (h * 18446744073709551616 + m) l z) (rest h m y)

  three-low : low_of (three_words h m l) ≡ l
  unfolding low_of three_words
  three-low = rest (h * 18446744073709551616 + m) l z

-- a number that is the key of n and l
module _ (k n : ℕ) (l : List ℤ) (a : Keyed n l) (e : k ≡ key_of n l) where
  middle-below : digit_at l 1 * 2147483648 + digit_at l 2 < 18446744073709551616
  middle-below = omega (arith, digit-at-below l 1, digit-at-below l 2)

  low_below : digit_at l 3 < 18446744073709551616
  low_below = omega (arith, digit-at-below l 3)

  high_word : high_of k ≡ name_digit n * 2147483648 + digit_at l 0
  unfolding key_of paired
  high_word = rw e (three-high _ _ _ middle-below low_below)

  middle-word : middle_of k ≡ digit_at l 1 * 2147483648 + digit_at l 2
  unfolding key_of paired
  middle-word = rw e (three-middle _ _ _ middle-below low_below)

  low_word : low_of k ≡ digit_at l 3
  unfolding key_of paired
  low_word = rw e (three-low _ _ _ middle-below low_below)

  pub name_back : name_of k ≡ n
  unfolding name_of
  name_back = upper-digit (high_of k) (name_digit n) (digit_at l 0) high_word (digit-at-below l 0) ∙ name-digit n a.named

  pub element-back : element_of k ≡ l
  unfolding element_of index_limit
  element-back =
      let f : high_of k % 2147483648 ≡ digit_at l 0 = lower-digit (high_of k) (name_digit n) (digit_at l 0) high_word (digit-at-below l 0) in
      let g : middle_of k / 2147483648 % 2147483648 ≡ digit_at l 1 = omega (arith, middle-word, digit-at-below l 1, digit-at-below l 2) in
      let h : middle_of k % 2147483648 ≡ digit_at l 2 = lower-digit (middle_of k) (digit_at l 1) (digit_at l 2) middle-word (digit-at-below l 2) in
      let j : low_of k % 2147483648 ≡ digit_at l 3 = omega (arith, low_word, digit-at-below l 3) in
      rw (f, g, h, j) (four-digits l a.subscripts.few a.subscripts.small)

-- ---- keys

module _ (k : Key) (y : k.middle < 18446744073709551616) (z : k.low < 18446744073709551616) where
  key-high : high_of (key_number k) ≡ k.high
  unfolding key_number
  key-high = three-high k.high k.middle k.low y z

  key-middle : middle_of (key_number k) ≡ k.middle
  unfolding key_number
  key-middle = three-middle k.high k.middle k.low y z

  key-low : low_of (key_number k) ≡ k.low
  unfolding key_number
  key-low = three-low k.high k.middle k.low y z

  pub name-read : k.high / 2147483648 ≡ name_of (key_number k)
  unfolding name_of
  name-read = rw key-high refl

  pub element-read : (o p q r s : Element) → list_of o ≡ [] → list_of p ≡ with_digit (list_of o) (k.high % 2147483648)
      → list_of q ≡ with_digit (list_of p) (k.middle / 2147483648 % 2147483648) → list_of r ≡ with_digit (list_of q) (k.middle % 2147483648)
      → list_of s ≡ with_digit (list_of r) (k.low % 2147483648) → list_of s ≡ element_of (key_number k)
  unfolding element_of four_digits
  element-read o p q r s u f g h j = j ∙ rw (h, g, f, u, key-high, key-middle, key-low) refl
