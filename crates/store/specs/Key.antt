-- The key of a name and an element: one number, in three words. Its digits, most significant first, are the name's number and one
-- digit for each of four subscripts.
use Rattle.std.specs.Prelude.{cond, List, [], ◌∷◌, ℕ, zero, suc, ◌+◌, ◌*◌, ◌/◌, ◌%◌, leb, ltb, eqb, ℤ, pos, nat_abs, ◌+ℤ◌, ◌-ℤ◌}
use Rattle.rules.specs.Limits.{mantissa_limit}
use Rattle.store.specs.declared.Key.{Key}
use Rattle.store.specs.Element.{extended}

-- a number in bounds moved above zero, from 1 to 1,999,999,999; 0 for any other
unfoldable pub digit_of : ℤ → ℕ
digit_of k = cond (leb (nat_abs k) mantissa_limit) (nat_abs (k +ℤ pos (suc mantissa_limit))) 0

-- the digit of position i; 0 where the list has none
unfoldable pub digit_at : List ℤ → ℕ → ℕ
digit_at [] i = 0
digit_at (k ∷ l) zero = digit_of k
digit_at (k ∷ l) (suc i) = digit_at l i

-- one number more, by its digit; the same where the digit is 0
unfoldable pub with_digit : List ℤ → ℕ → List ℤ
with_digit l d = cond (eqb d 0) l (extended l (pos d -ℤ pos (suc mantissa_limit)))

-- names are told apart below 2^20
unfoldable pub name_bound : ℕ
name_bound = 1048576

unfoldable pub name_digit : ℕ → ℕ
name_digit i = cond (ltb i name_bound) i name_bound

-- two digits of 31 bits
unfoldable pub paired : ℕ → ℕ → ℕ
paired x y = x * 2147483648 + y

-- three words as one number
unfoldable pub three_words : ℕ → ℕ → ℕ → ℕ
three_words high middle low = (high * 18446744073709551616 + middle) * 18446744073709551616 + low

unfoldable pub key_number : Key → ℕ
key_number k = three_words k.high k.middle k.low

unfoldable pub key_of : ℕ → List ℤ → ℕ
key_of i l = three_words (paired (name_digit i) (digit_at l 0)) (paired (digit_at l 1) (digit_at l 2)) (digit_at l 3)

-- ---- a key read back

-- the numbers of four digits
unfoldable pub four_digits : ℕ → ℕ → ℕ → ℕ → List ℤ
four_digits a b c d = with_digit (with_digit (with_digit (with_digit [] a) b) c) d

-- the words of a key's number
unfoldable pub high_of : ℕ → ℕ
high_of k = k / 18446744073709551616 / 18446744073709551616

unfoldable pub middle_of : ℕ → ℕ
middle_of k = k / 18446744073709551616 % 18446744073709551616

unfoldable pub low_of : ℕ → ℕ
low_of k = k % 18446744073709551616

-- the name and the element by the digits of a key's number
unfoldable pub name_of : ℕ → ℕ
name_of k = high_of k / 2147483648

unfoldable pub element_of : ℕ → List ℤ
element_of k = four_digits (high_of k % 2147483648) (middle_of k / 2147483648 % 2147483648) (middle_of k % 2147483648) (low_of k % 2147483648)
