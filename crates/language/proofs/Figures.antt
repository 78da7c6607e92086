-- Numbers and values as they are printed: which bytes they have, and that they can be read back.
use Rattle.std.specs.Prelude.{Option, Some, None}
use mathlib.Core.Path.{◌≡◌, refl, sym, ◌∙◌, ap}
use mathlib.Core.Bool.{cond}
use mathlib.Core.List.{List, [], ◌∷◌, map, append-nil}
use Prim.Native.Nat.{ℕ, zero, suc, ◌/◌, ◌^◌, ◌<◌, ◌≤◌}
use native.Mathlib.Omega.{arith}
use lib.Dec.{eqb, leb}
use lib.ListN.{length, get_or}
use lib.IntN.{ℤ, pos, negsuc, nat_abs}
use borrow.Author.Tests.{le-leb}
use Rattle.rules.specs.Characters.{code}
use Rattle.rules.specs.Limits.{mantissa_limit}
use Rattle.value.specs.declared.Value.{Value}
use Rattle.value.specs.Decimal.{Valid, zero_value, of_whole}
use Rattle.value.proofs.Operations.{of_whole-valid}
use Rattle.value.specs.Printed.{digits, natural, minus_sign, places, printed, printed_whole}
use Rattle.value.proofs.ReadBack.{read_back, read-empty, read_back_lem}
use Rattle.language.specs.Listing.{Kind, less, equal, range, upper_field, kind_field}
use Rattle.language.specs.All.{All}
use Rattle.language.proofs.All.{all_append, all_get_d, all-weaken}
use Rattle.language.specs.Valid.{Small, SmallElement, ValidIfAny}
use Rattle.language.specs.Proper.{Visible, Text}

-- ---- the bytes

-- a digit, `-` or `.`
record Figure (b : ℕ) : Type 0 where
  least : 45 ≤ b
  most : b ≤ 57

digits-figures : (k n : ℕ) → All Figure (digits k n)
unfolding digits
digits-figures zero n = tt
digits-figures (suc k) n = (omega arith, digits-figures k n)

natural-figures : (n : ℕ) → All Figure (natural n)
unfolding natural
natural-figures n = digits-figures _ n

sign-figures : (z : ℤ) → All Figure (minus_sign z)
unfolding minus_sign
sign-figures (pos n) = tt
sign-figures (negsuc n) = (omega arith, tt)

places-figures : (k n : ℕ) → All Figure (places k n)
unfolding places
places-figures zero n = tt
places-figures (suc k) n = (omega arith, digits-figures (suc k) n)

printed-figures : (v : Value) → All Figure (printed v)
unfolding printed
printed-figures v =
    all_append Figure (minus_sign v.m) _ (sign-figures v.m)
    (all_append Figure (natural (nat_abs v.m / 10 ^ v.s)) _ (natural-figures _) (places-figures v.s (nat_abs v.m)))

figures-text : (s : List ℕ) → All Figure s → Text s
figures-text s h = all-weaken Figure Visible (λ b f. omega (arith, f.least, f.most)) s h

pub natural-text : (n : ℕ) → Text (natural n)
natural-text n = figures-text (natural n) (natural-figures n)

pub printed-text : (v : Value) → Text (printed v)
printed-text v = figures-text (printed v) (printed-figures v)

pub whole-text : (k : ℤ) → Text (printed_whole k)
unfolding printed_whole
whole-text k = printed-text (of_whole k)

pub upper-text : (u : Option Value) → Text (upper_field u)
unfolding upper_field
upper-text None = omega arith
upper-text (Some v) = printed-text v

-- a printed value has a byte, since what is empty is no literal
pub printed-some : (v : Value) → Valid v → 0 < length (printed v)
printed-some v h = go (printed v) (read_back_lem v h)
  where
    go : (s : List ℕ) → read_back s ≡ Some v → 0 < length s
    go [] e = absurd (let q = read-empty in cc)
    go (b ∷ s) e = omega arith

-- ---- read back

abbrev fitted : Option Value → Value
fitted (Some v) = v
fitted None = zero_value

unfoldable pub read_value : List ℕ → Value
read_value s = fitted (read_back s)

pub value-back : (v : Value) → Valid v → read_value (printed v) ≡ v
unfolding read_value
value-back v h = ap fitted (read_back_lem v h)

unfoldable pub read_whole : List ℕ → ℤ
read_whole s = (read_value s).m

pub whole_back : (k : ℤ) → Small k → read_whole (printed_whole k) ≡ k
unfolding read_whole printed_whole of_whole
whole_back k h = ap (λ v. v.m) (value-back (of_whole k) (of_whole-valid k h))

pub wholes-back : (e : List ℤ) → SmallElement e → map read_whole (map printed_whole e) ≡ e
wholes-back [] h = refl
wholes-back (k ∷ e) h = λ i. whole_back k h.0 i ∷ wholes-back e h.1 i

-- a natural number is printed as the whole number that it is
pub natural-whole : (n : ℕ) → printed_whole (pos n) ≡ natural n
unfolding printed_whole of_whole printed minus_sign places
natural-whole n = append-nil (natural (n / 10 ^ 0)) ∙ ap natural (omega arith)

unfoldable pub read_natural : List ℕ → ℕ
read_natural s = nat_abs (read_whole s)

pub natural-back : (n : ℕ) → n ≤ mantissa_limit → read_natural (natural n) ≡ n
unfolding read_natural
natural-back n h = ap read_natural (sym (natural-whole n)) ∙ ap nat_abs (whole_back (pos n) h)

pub natural-once : (m n : ℕ) → m ≤ mantissa_limit → n ≤ mantissa_limit → natural m ≡ natural n → m ≡ n
natural-once m n hm hn e = sym (natural-back m hm) ∙ ap read_natural e ∙ natural-back n hn

-- a printed value begins with no letter, `inf` with one
unfoldable pub read_upper : List ℕ → Option Value
read_upper s = cond (leb (get_or s 0 0) 57) (Some (read_value s)) None

pub upper-back : (u : Option Value) → ValidIfAny u → read_upper (upper_field u) ≡ u
unfolding read_upper upper_field
upper-back None h = refl
upper-back (Some v) h =
    let first : get_or (printed v) 0 0 ≤ 57 = all_get_d (λ b. b ≤ 57) (printed v) 0 0 (all-weaken Figure (λ b. b ≤ 57) (λ b f. f.most) (printed v) (printed-figures v)) (omega arith) in
    ap {B = Option Value} (λ t. cond t (Some (read_value (printed v))) None) (le-leb (get_or (printed v) 0 0) 57 first) ∙ ap {B = Option Value} Some (value-back v h)

-- ---- letters

pub kind-text : (q : Kind) → Text (kind_field q)
unfolding kind_field
kind-text less = omega arith
kind-text equal = omega arith
kind-text range = omega arith

unfoldable pub read_kind : List ℕ → Kind
read_kind s = cond (eqb (get_or s 0 0) (code "L")) less (cond (eqb (get_or s 0 0) (code "E")) equal range)

pub kind-back : (q : Kind) → read_kind (kind_field q) ≡ q
unfolding read_kind kind_field
kind-back less = refl
kind-back equal = refl
kind-back range = refl
