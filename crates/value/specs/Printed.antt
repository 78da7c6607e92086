-- Document 01, "Values", printed: `-` if negative, a whole part without spare zeros, a point and s digits if s > 0.
use Rattle.std.specs.Prelude.{◌≡◌, true, false, cond, List, [], ◌∷◌, ◌++◌, ℕ, zero, suc, ◌+◌, ◌/◌, ◌%◌, ◌^◌, leb, length, ℤ, pos, negsuc, nat_abs}
use Rattle.std.proofs.lemmas.List.Edits.{sets}
use Rattle.rules.specs.Characters.{code}
use Rattle.value.specs.declared.Value.{Value}
use Rattle.value.specs.Decimal.{in_range, of_whole}

-- the lowest k digits of n, as bytes, highest first
unfoldable pub digits : ℕ → ℕ → List ℕ
digits zero n = []
digits (suc k) n = (n / 10 ^ k % 10 + code "0") ∷ digits k n

-- how many digits n has, of those from w up to w + k
unfoldable pub width_from : ℕ → ℕ → ℕ → ℕ
width_from zero w n = w
width_from (suc k) w n = elim (leb (10 ^ w) n) [ true ↦ width_from k (suc w) n | false ↦ w ]

-- a natural number without spare zeros, of at most 18 digits
unfoldable pub natural : ℕ → List ℕ
natural n = digits (width_from 17 1 n) n

unfoldable pub minus_sign : ℤ → List ℕ
minus_sign (pos n) = []
minus_sign (negsuc n) = code "-" ∷ []

unfoldable pub places : ℕ → ℕ → List ℕ
places zero n = []
places (suc k) n = code "." ∷ digits (suc k) n

unfoldable pub printed : Value → List ℕ
printed v = minus_sign v.m ++ (natural (nat_abs v.m / 10 ^ v.s) ++ places v.s (nat_abs v.m))

-- a whole number
unfoldable pub printed_whole : ℤ → List ℕ
printed_whole k = printed (of_whole k)

-- ---- what code writes

-- nothing for what is no value
unfoldable pub shown : Value → List ℕ
shown v = cond (in_range v) (printed v) []

-- text was written into l from a place on, as far as l reaches: r is the place after it, whether or not l reaches that far,
-- and l' what l then holds
pub record Written (l : List ℕ) (at : ℕ) (text : List ℕ) (r : ℕ) (l' : List ℕ) : Type 0 where
  pub next : r ≡ at + length text
  pub bytes : l' ≡ sets l at text
