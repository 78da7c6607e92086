-- How long what is written of a line is, so that a caller's sum of lengths fits.
use Rattle.std.specs.Prelude.{Option, Some, None}
use mathlib.Core.Path.{◌≡◌, refl, ap}
use mathlib.Core.Bool.{Bool}
use mathlib.Core.List.{List, [], ◌∷◌, map}
use Prim.Native.Nat.{ℕ, suc, ◌+◌, ◌*◌, ◌≤◌}
use native.Mathlib.Omega.{arith}
use lib.ListN.{length, length-append}
use lib.IntN.{ℤ, pos}
use Rattle.value.specs.declared.Value.{Value}
use Rattle.value.specs.Decimal.{of_whole}
use Rattle.language.specs.Listing.{Kind, less, equal, range, Line, lp_line, row_line, low_line, low_lines, var_line, col_line, ending_line, kind_field, fields}
use Rattle.language.proofs.Parts.{word_of}
use Rattle.listing.specs.Shown.{shown_whole, shown_natural, shown_upper, shown_fields, shown_line, shown_lines}
use Rattle.listing.specs.Bare.{bare_row, bare_variable}
use Rattle.listing.proofs.Showing.{shown-most}

-- a tab, the field and what follows it; the line feed
pub field-length : (f : List ℕ) (fs : List (List ℕ)) → length (fields (f ∷ fs)) ≡ suc (length f + length (fields fs))
unfolding fields
field-length f fs = ap suc (length-append f (fields fs))

pub end-length : length (fields []) ≡ 1
unfolding fields
end-length = refl

whole-most : (k : ℤ) → length (shown_whole k) ≤ 26
unfolding shown_whole
whole-most k = shown-most (of_whole k)

pub natural-most : (n : ℕ) → length (shown_natural n) ≤ 26
unfolding shown_natural
natural-most n = whole-most (pos n)

upper-most : (u : Option Value) → length (shown_upper u) ≤ 26
unfolding shown_upper
upper-most None = omega arith
upper-most (Some v) = shown-most v

kind-most : (q : Kind) → length (kind_field q) ≤ 26
unfolding kind_field
kind-most less = omega arith
kind-most equal = omega arith
kind-most range = omega arith

wholes-most : (e : List ℤ) → length (fields (map shown_whole e)) ≤ 27 * length e + 1
wholes-most [] = omega (arith, end-length)
wholes-most (k ∷ e) = omega (arith, field-length (shown_whole k) (map shown_whole e), whole-most k, wholes-most e)

-- the bytes of a line's strings, and 27 for each index value
abbrev pub varied_of : Line → ℕ
varied_of (lp_line a b c d s t) = length s + length t
varied_of (row_line n q v s e) = length s + 27 * length e
varied_of (low_line n v) = 0
varied_of (var_line n d l u s e) = length s + 27 * length e
varied_of (col_line j i v) = 0
varied_of ending_line = 0

pub line-most : (k : Line) → length (shown_line k) ≤ 128 + varied_of k
unfolding shown_line
line-most k = rw (length-append (word_of k) (fields (shown_fields k))) (go k)
  where
    go : (k : Line) → length (word_of k) + length (fields (shown_fields k)) ≤ 128 + varied_of k
    go (lp_line a b c d s t) = simp (field-length, end-length) (omega (arith, natural-most a, natural-most b, natural-most c, natural-most d))
    go (row_line n q v s e) = simp field-length (omega (arith, natural-most n, kind-most q, shown-most v, wholes-most e))
    go (low_line n v) = simp (field-length, end-length) (omega (arith, natural-most n, shown-most v))
    go (var_line n d l u s e) = simp field-length (omega (arith, natural-most n, shown-most l, upper-most u, wholes-most e))
    go (col_line j i v) = simp (field-length, end-length) (omega (arith, natural-most j, natural-most i, shown-most v))
    go ending_line = simp end-length (omega arith)

pub low-most : (n : ℕ) (o : Option Value) → length (shown_lines (low_lines n o)) ≤ 128
unfolding low_lines shown_lines
low-most n None = omega arith
low-most n (Some v) = simp length-append (omega (arith, line-most (low_line n v)))

pub row-most : (n : ℕ) (q : Kind) (v : Value) → length (bare_row n q v) ≤ 128
unfolding bare_row
row-most n q v = simp (length-append, field-length, end-length) (omega (arith, natural-most n, kind-most q, shown-most v))

pub variable-most : (n : ℕ) (d : Bool) (v : Value) (u : Option Value) → length (bare_variable n d v u) ≤ 128
unfolding bare_variable
variable-most n d v u = simp (length-append, field-length, end-length) (omega (arith, natural-most n, shown-most v, upper-most u))
