-- Laws of printed text and of writing it (`specs/Printed.antt`).
use mathlib.Core.Path.{◌≡◌, refl, sym, ◌∙◌, ap, subst}
use mathlib.Core.Bool.{true, false}
use mathlib.Core.List.{List, [], ◌∷◌, ◌++◌, append-nil}
use Prim.Native.Nat.{ℕ, zero, suc, ◌+◌, ◌-◌, ◌/◌, ◌%◌, ◌^◌, ◌<◌, ◌≤◌}
use native.Mathlib.Omega.{arith}
use native.Mathlib.Nat.{add-zero, add-suc, suc-add}
use native.Mathlib.Numerals.{add-one}
use borrow.Author.Tests.{ltb-true, le-leb, lt-leb}
use lib.Dec.{T}
use lib.ListN.{length, set, take, drop, length-append, length-drop, take-append-drop, drop_of_length-le}
use lib.Seq.{sets, set_out, length-sets, take_all, take-set-le, drop-set-add}
use borrow.Rule.Slice.PartMut.{put_mid}
use lib.Signed.{lt_z}
use lib.IntN.{ℤ, pos, negsuc, nat_abs}
use Rattle.value.specs.declared.Value.{Value}
use Rattle.value.specs.Decimal.{Valid, in_range}
use Rattle.value.specs.Printed.{digits, width_from, natural, minus_sign, places, printed, shown, Written}
use Rattle.value.proofs.Ranges.{valid-in-range}

sets-append : (l : List ℕ) (i : ℕ) (xs ys : List ℕ) → sets (sets l i xs) (i + length xs) ys ≡ sets l i (xs ++ ys)
sets-append l i [] ys = rw add-zero
sets-append l i (x ∷ xs) ys = rw (add-suc, ← suc-add) (sets-append (set l i x) (suc i) xs ys)

-- ---- one text after the other

pub written_none : (l : List ℕ) (at : ℕ) → Written l at [] at l
written_none l at = record { next = sym (add-zero at); bytes = refl }

pub written_then : (l : List ℕ) (at : ℕ) (xs : List ℕ) (r : ℕ) (l' : List ℕ) (ys : List ℕ) (r' : ℕ) (l'' : List ℕ) → Written l at xs r l' → Written l' r ys r' l'' → Written l at (xs ++ ys) r' l''
written_then l at xs r l' ys r' l'' w v = record {
  next = omega (arith, w.next, v.next, length-append xs ys);
  bytes = v.bytes ∙ rw (w.bytes, w.next) (sets-append l at xs ys);
}

-- a byte past the end
pub written-past : (l : List ℕ) (at b : ℕ) → length l ≤ at → Written l at (b ∷ []) (at + 1) l
written-past l at b h = record { next = refl; bytes = sym (set_out l at b h) }

pub written-length : (l : List ℕ) (at : ℕ) (xs : List ℕ) (r : ℕ) (l' : List ℕ) → Written l at xs r l' → length l' ≡ length l
written-length l at xs r l' w = ap length w.bytes ∙ length-sets l at xs

-- the rest of a slice, lent and given back
sets-rest : (xs l : List ℕ) (at i : ℕ) → sets l (at + i) xs ≡ take at l ++ sets (drop at l) i xs
sets-rest [] l at i = sym (take-append-drop at l)
sets-rest (x ∷ xs) l at i =
    let h : at ≤ at + i = omega arith in
    ap (λ (n : ℕ). sets (set l (at + i) x) n xs) (sym (add-suc at i)) ∙ sets-rest xs (set l (at + i) x) at (suc i)
    ∙ rw (take-set-le at l (at + i) x h, drop-set-add at l i x)

pub written-rest : (l : List ℕ) (at : ℕ) (text : List ℕ) (r : ℕ) (p : List ℕ) → at ≤ length l → Written (take (length l - at) (drop at l)) 0 text r p → Written l at text (at + r) (put_mid at (length l - at) l p)
written-rest l at text r p h w =
    let whole = take_all (length l - at) (drop at l) (omega (arith, length-drop at l)) in
    let end = drop_of_length-le (drop at l) {i = length l - at} (omega (arith, length-drop at l)) in
    record {
      next = omega (arith, w.next);
      bytes = rw (end, append-nil p, w.bytes, whole) (sym (sets-rest text l at 0) ∙ ap (λ (n : ℕ). sets l n text) (add-zero at));
    }

-- ---- digits

pub length_digits : (k n : ℕ) → length (digits k n) ≡ k
unfolding digits
length_digits zero n = refl
length_digits (suc k) n = ap suc (length_digits k n)

pub digits-none : (k n : ℕ) → k ≤ 0 → digits k n ≡ []
unfolding digits
digits-none zero n h = refl
digits-none (suc k) n h = absurd (omega arith)

digits-next : (k n : ℕ) → 0 < k → digits k n ≡ (n / 10 ^ (k - 1) % 10 + 48) ∷ digits (k - 1) n
unfolding digits
digits-next zero n h = absurd (omega arith)
digits-next (suc k) n h = let e : suc k - 1 ≡ k = omega arith in rw e

-- one digit of a run
pub digits_step : (l : List ℕ) (i b r : ℕ) (l' : List ℕ) (j n : ℕ) → Written l i (b ∷ []) r l' → b ≡ n / 10 ^ (j - 1) % 10 + 48 → 0 < j → sets l' r (digits (j - 1) n) ≡ sets l i (digits j n)
digits_step l i b r l' j n w e h = rw (w.bytes, w.next, add-one, digits-next j n h, e)

pub digits-place : (l : List ℕ) (at k n r : ℕ) (l' : List ℕ) → Written l at (digits k n) r l' → r ≡ at + k
digits-place l at k n r l' w = omega (arith, w.next, length_digits k n)

-- ---- the width

pub width-stop : (k w n : ℕ) → n < 10 ^ w → width_from k w n ≡ w
unfolding width_from
width-stop zero w n h = refl
width-stop (suc k) w n h = rw (lt-leb (10 ^ w) n h, width_from)

pub width-end : (k w n : ℕ) → k ≤ 0 → width_from k w n ≡ w
unfolding width_from
width-end zero w n h = refl
width-end (suc k) w n h = absurd (omega arith)

pub width-next : (k w n : ℕ) → 0 < k → 10 ^ w ≤ n → width_from k w n ≡ width_from (k - 1) (w + 1) n
unfolding width_from
width-next zero w n h g = absurd (omega arith)
width-next (suc k) w n h g = let e : suc k - 1 ≡ k = omega arith in rw (le-leb (10 ^ w) n g, e, add-one, width_from)

-- ---- sign and places

pub sign-negative : (m : ℤ) → lt_z m (pos 0) ≡ true → minus_sign m ≡ 45 ∷ []
unfolding minus_sign
sign-negative (pos n) e = absurd (let h : n < 0 = ltb-true n 0 e in omega arith)
sign-negative (negsuc n) e = refl

pub sign-other : (m : ℤ) → lt_z m (pos 0) ≡ false → minus_sign m ≡ []
unfolding minus_sign
sign-other (pos n) e = refl
sign-other (negsuc n) e = absurd (subst T e tt)

pub sign-short : (m : ℤ) → length (minus_sign m) ≤ 1
unfolding minus_sign
sign-short (pos n) = omega arith
sign-short (negsuc n) = omega arith

pub sign-next : (l : List ℕ) (m : ℤ) (r : ℕ) (l' : List ℕ) → Written l 0 (minus_sign m) r l' → r ≤ 1
sign-next l m r l' w = omega (arith, w.next, sign-short m)

pub places-none : (s x : ℕ) → s ≡ 0 → places s x ≡ []
unfolding places
places-none zero x e = refl
places-none (suc s) x e = absurd (omega arith)

pub places-some : (s x : ℕ) → (s ≡ 0 → ⊥) → places s x ≡ 46 ∷ digits s x
unfolding places
places-some zero x f = absurd (f refl)
places-some (suc s) x f = refl

-- ---- a value's text

pub printed-parts : (v : Value) (x w k : ℕ) → x ≡ nat_abs v.m → w ≡ x / 10 ^ v.s → k ≡ width_from 17 1 w → printed v ≡ minus_sign v.m ++ (digits k w ++ places v.s x)
unfolding printed natural
printed-parts v x w k ex ew ek = rw (ek, ew, ex)

pub shown-printed : (v : Value) → in_range v ≡ true → shown v ≡ printed v
unfolding shown
shown-printed v e = rw e

pub shown-none : (v : Value) → in_range v ≡ false → shown v ≡ []
unfolding shown
shown-none v e = rw e

pub shown-valid : (v : Value) → Valid v → shown v ≡ printed v
shown-valid v h = shown-printed v (valid-in-range v h)
