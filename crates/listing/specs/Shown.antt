-- What the writers write of any line: its bytes, with nothing for a number or a value that is out of range. Of a proper line
-- these are the definition's bytes (`proofs/Lines.antt`).
use Rattle.std.specs.Prelude.{cond, List, [], ◌∷◌, ◌++◌, map, ℕ, ℤ, pos, Option, Some, None}
use Rattle.rules.specs.Characters.{code, bytes, tab}
use Rattle.value.specs.declared.Value.{Value}
use Rattle.value.specs.Decimal.{of_whole}
use Rattle.value.specs.Printed.{shown}
use Rattle.language.specs.Listing.{Line, lp_line, row_line, low_line, var_line, col_line, ending_line, kind_field, fields}
use Rattle.language.proofs.Parts.{word_of}

unfoldable pub shown_whole : ℤ → List ℕ
shown_whole k = shown (of_whole k)

unfoldable pub shown_natural : ℕ → List ℕ
shown_natural n = shown_whole (pos n)

-- a value, or a word where there is none
abbrev pub shown_or : List ℕ → Option Value → List ℕ
shown_or w None = w
shown_or w (Some v) = shown v

unfoldable pub shown_upper : Option Value → List ℕ
shown_upper u = shown_or (bytes "inf") u

-- fields without the line's end
unfoldable pub tabbed : List (List ℕ) → List ℕ
tabbed [] = []
tabbed (f ∷ fs) = tab ∷ (f ++ tabbed fs)

abbrev pub shown_fields : Line → List (List ℕ)
shown_fields (lp_line a b c d s t) = shown_natural a ∷ shown_natural b ∷ shown_natural c ∷ shown_natural d ∷ s ∷ t ∷ []
shown_fields (row_line n q v s e) = shown_natural n ∷ kind_field q ∷ shown v ∷ s ∷ map shown_whole e
shown_fields (low_line n v) = shown_natural n ∷ shown v ∷ []
shown_fields (var_line n d l u s e) = shown_natural n ∷ (cond d (code "D") (code "C") ∷ []) ∷ shown l ∷ shown_upper u ∷ s ∷ map shown_whole e
shown_fields (col_line j i v) = shown_natural j ∷ shown_natural i ∷ shown v ∷ []
shown_fields ending_line = []

unfoldable pub shown_line : Line → List ℕ
shown_line l = word_of l ++ fields (shown_fields l)

unfoldable pub shown_lines : List Line → List ℕ
shown_lines [] = []
shown_lines (l ∷ ls) = shown_line l ++ shown_lines ls

-- a refusal's line: `refused`, its number and its place, and a line feed (decision 43)
unfoldable pub shown_refused : ℕ → ℕ → List ℕ
shown_refused n p = bytes "refused" ++ fields (shown_natural n ∷ shown_natural p ∷ [])
