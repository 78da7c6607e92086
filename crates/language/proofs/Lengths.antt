-- How long a line and a listing are.
use mathlib.Core.Path.{◌≡◌, refl, sym, ◌∙◌, ap}
use mathlib.Core.List.{List, [], ◌∷◌, ◌++◌, append_assoc}
use Prim.Native.Nat.{ℕ, ◌+◌, ◌*◌, ◌<◌, ◌≤◌}
use native.Mathlib.Omega.{arith}
use lib.Dec.{lit<}
use lib.ListN.{length, length-append}
use Rattle.language.specs.Listing.{Line, lp_line, row_line, low_line, var_line, col_line, ending_line, fields, bytes_of, bytes_of_all}
use Rattle.language.proofs.Parts.{word_of, fields_of, bytes-parts}

-- a tab for each field, and a line feed
pub fields-least : (fs : List (List ℕ)) → length fs < length (fields fs)
unfolding fields
fields-least [] = lit< tt
fields-least (f ∷ fs) = omega (arith, length-append f (fields fs), fields-least fs)

parts-least : (l : Line) → 3 ≤ length (word_of l) + length (fields_of l)
parts-least (lp_line a b c d s t) = omega arith
parts-least (row_line n q v s e) = omega arith
parts-least (low_line n v) = omega arith
parts-least (var_line n d l u s e) = omega arith
parts-least (col_line j i v) = omega arith
parts-least ending_line = omega arith

-- `end` and a line feed is the shortest line
pub line-least : (l : Line) → 4 ≤ length (bytes_of l)
line-least l = rw (bytes-parts l) (omega (arith, length-append (word_of l) (fields (fields_of l)), fields-least (fields_of l), parts-least l))

pub all_append : (ks ls : List Line) → bytes_of_all (ks ++ ls) ≡ bytes_of_all ks ++ bytes_of_all ls
unfolding bytes_of_all
all_append [] ls = refl
all_append (k ∷ ks) ls = ap (λ r. bytes_of k ++ r) (all_append ks ls) ∙ sym (append_assoc (bytes_of k) (bytes_of_all ks) (bytes_of_all ls))

-- the sum of the lines' lengths
unfoldable pub size : List Line → ℕ
size [] = 0
size (l ∷ ls) = length (bytes_of l) + size ls

pub all-length : (ls : List Line) → length (bytes_of_all ls) ≡ size ls
unfolding bytes_of_all size
all-length [] = refl
all-length (l ∷ ls) = length-append (bytes_of l) (bytes_of_all ls) ∙ ap (λ n. length (bytes_of l) + n) (all-length ls)

pub all-least : (ls : List Line) → 4 * length ls ≤ length (bytes_of_all ls)
unfolding bytes_of_all
all-least [] = omega arith
all-least (l ∷ ls) = omega (arith, length-append (bytes_of l) (bytes_of_all ls), line-least l, all-least ls)
