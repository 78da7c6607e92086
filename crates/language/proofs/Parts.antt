-- A line is its word and its fields.
use mathlib.Core.Path.{◌≡◌, refl}
use mathlib.Core.Bool.{cond}
use mathlib.Core.List.{List, [], ◌∷◌, ◌++◌, map}
use Prim.Native.Nat.{ℕ}
use Rattle.rules.specs.Characters.{code, bytes}
use Rattle.value.specs.Printed.{natural, printed, printed_whole}
use Rattle.language.specs.Listing.{Line, lp_line, row_line, low_line, var_line, col_line, ending_line, fields, upper_field, kind_field, bytes_of}

abbrev pub word_of : Line → List ℕ
word_of (lp_line a b c d s t) = bytes "lp"
word_of (row_line n q v s e) = bytes "row"
word_of (low_line n v) = bytes "low"
word_of (var_line n d l u s e) = bytes "var"
word_of (col_line j i v) = bytes "col"
word_of ending_line = bytes "end"

abbrev pub fields_of : Line → List (List ℕ)
fields_of (lp_line a b c d s t) = natural a ∷ natural b ∷ natural c ∷ natural d ∷ s ∷ t ∷ []
fields_of (row_line n q v s e) = natural n ∷ kind_field q ∷ printed v ∷ s ∷ map printed_whole e
fields_of (low_line n v) = natural n ∷ printed v ∷ []
fields_of (var_line n d l u s e) = natural n ∷ (cond d (code "D") (code "C") ∷ []) ∷ printed l ∷ upper_field u ∷ s ∷ map printed_whole e
fields_of (col_line j i v) = natural j ∷ natural i ∷ printed v ∷ []
fields_of ending_line = []

abbrev pub parts_of : Line → List (List ℕ)
parts_of l = word_of l ∷ fields_of l

pub bytes-parts : (l : Line) → bytes_of l ≡ word_of l ++ fields (fields_of l)
unfolding bytes_of
bytes-parts (lp_line a b c d s t) = refl
bytes-parts (row_line n q v s e) = refl
bytes-parts (low_line n v) = refl
bytes-parts (var_line n d l u s e) = refl
bytes-parts (col_line j i v) = refl
bytes-parts ending_line = refl
