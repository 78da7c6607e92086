-- Laws of what is shown of a number or a value: how long it is, and that it is what the definition prints.
use Rattle.std.specs.Prelude.{Option, Some, None}
use mathlib.Core.Path.{◌≡◌, refl, sym, ◌∙◌, ap}
use mathlib.Core.Bool.{Bool, true, false, cond}
use mathlib.Core.List.{List, [], ◌∷◌, ◌++◌}
use Prim.Native.Nat.{ℕ, zero, suc, ◌+◌, ◌/◌, ◌^◌, ◌<◌, ◌≤◌}
use native.Mathlib.Omega.{arith}
use borrow.Author.Tests.{le-leb, lt-leb}
use mir.Syntax.{w64}
use mir.Val.{to_z}
use mir.Facts.{to_z_pos}
use lib.Dec.{leb}
use lib.ListN.{length, take, length-append, length-take}
use lib.IntN.{ℤ, pos, nat_abs}
use Rattle.rules.specs.Characters.{code}
use Rattle.rules.specs.Limits.{mantissa_limit, scale_limit, byte_limit}
use Rattle.value.specs.declared.Value.{Value}
use Rattle.value.specs.Decimal.{in_range, of_whole}
use Rattle.value.specs.Printed.{width_from, natural, minus_sign, places, printed, printed_whole, shown}
use Rattle.value.proofs.Ranges.{range-places}
use Rattle.value.proofs.Writing.{length_digits, sign-short, shown-printed, shown-none}
use Rattle.lexer.specs.View.{part_of}
use Rattle.language.proofs.Figures.{natural-whole}
use Rattle.language.specs.Listing.{kind_by, kind_field}
use Rattle.language.specs.Listing as Listing
use Rattle.listing.specs.declared.Kind.{Kind}
use Rattle.listing.specs.declared.Kind.TheVariants.{Less, Equal, Range}
use Rattle.listing.specs.Kinds.{kind_in}
use Rattle.listing.specs.Shown.{shown_whole, shown_natural}

-- ---- lengths

width-most : (k w n : ℕ) → width_from k w n ≤ w + k
unfolding width_from
width-most zero w n = omega arith
width-most (suc k) w n = go (leb (10 ^ w) n) (width-most k (suc w) n)
  where
    go : (t : Bool) → width_from k (suc w) n ≤ suc w + k → elim t as (λ _. ℕ) [ true ↦ width_from k (suc w) n | false ↦ w ] ≤ w + suc k
    go true h = omega arith
    go false h = omega arith

natural-most : (n : ℕ) → length (natural n) ≤ 18
unfolding natural
natural-most n = omega (arith, length_digits (width_from 17 1 n) n, width-most 17 1 n)

places-most : (s n : ℕ) → length (places s n) ≤ s + 1
unfolding places
places-most zero n = omega arith
places-most (suc s) n = omega (arith, length_digits (suc s) n)

printed-most : (v : Value) → in_range v ≡ true → length (printed v) ≤ 26
unfolding printed
printed-most v e =
    let n = nat_abs v.m in
    let w = natural (n / 10 ^ v.s) in
    omega (arith, length-append (minus_sign v.m) (w ++ places v.s n), length-append w (places v.s n), sign-short v.m, natural-most (n / 10 ^ v.s), places-most v.s n, range-places v e)

pub shown-most : (v : Value) → length (shown v) ≤ 26
shown-most v = go (in_range v) refl
  where
    go : (t : Bool) → in_range v ≡ t → length (shown v) ≤ 26
    go true e = rw (shown-printed v e) (printed-most v e)
    go false e = rw (shown-none v e) (omega arith)

-- ---- whole numbers

pub whole_is : (v : Value) (k : ℤ) → v ≡ of_whole k → shown v ≡ shown_whole k
unfolding shown_whole
whole_is v k e = ap shown e

module _ (k : ℤ) where
  pub whole-shown : nat_abs k ≤ mantissa_limit → shown_whole k ≡ printed_whole k
  unfolding shown_whole printed_whole of_whole in_range scale_limit
  whole-shown h = shown-printed (of_whole k) (rw (le-leb _ _ h))

  pub whole-none : mantissa_limit < nat_abs k → shown_whole k ≡ []
  unfolding shown_whole of_whole in_range
  whole-none h = shown-none (of_whole k) (rw (lt-leb _ _ h))

module _ (n : ℕ) where
  pub natural-shown : n ≤ mantissa_limit → shown_natural n ≡ natural n
  unfolding shown_natural
  natural-shown h = whole-shown (pos n) h ∙ natural-whole n

  -- of a number that was cast
  pub natural-read : n ≤ 999999999 → shown_whole (to_z w64 n) ≡ shown_natural n
  unfolding shown_natural
  natural-read h = ap shown_whole (to_z_pos w64 {n = n} (omega arith))

  pub natural-none : 999999999 < n → shown_natural n ≡ []
  unfolding shown_natural mantissa_limit
  natural-none h = whole-none (pos n) h

-- ---- an upper bound

-- ---- the letter of a kind

module _ (k : Kind) where
  pub letter-less : k ≡ Less → code "L" ∷ [] ≡ kind_field (kind_in k)
  unfolding kind_field kind_in
  letter-less e = rw e

  pub letter-equal : k ≡ Equal → code "E" ∷ [] ≡ kind_field (kind_in k)
  unfolding kind_field kind_in
  letter-equal e = rw e

  pub letter-range : k ≡ Range → code "R" ∷ [] ≡ kind_field (kind_in k)
  unfolding kind_field kind_in
  letter-range e = rw e

-- the kind of a row, by whether it is one of `=` and by its floor
module _ (b : Bool) (o : Option Value) where
  pub kind-equal : b ≡ true → kind_in Equal ≡ cond b Listing.equal (kind_by o)
  unfolding kind_in
  kind-equal e = rw e

  pub kind-less : b ≡ false → o ≡ None → kind_in Less ≡ cond b Listing.equal (kind_by o)
  unfolding kind_in
  kind-less e f = rw (e, f)

  pub kind-range : (v : Value) → b ≡ false → o ≡ Some v → kind_in Range ≡ cond b Listing.equal (kind_by o)
  unfolding kind_in
  kind-range v e f = rw (e, f)

-- ---- a string that is cut

module _ (p s : List ℕ) (e : p ≡ part_of s 0 16384) where
  pub cut_most : length p ≤ 16384
  cut_most = rw e (simp length-take (omega arith))

  pub cut-is : take byte_limit s ≡ p
  unfolding byte_limit
  cut-is = sym e
