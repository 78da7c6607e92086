-- Laws for callers: what is written of a proper line is the definition's, line after line into the rest of an output, and what a
-- cleared output then holds.
use Rattle.std.specs.Prelude.{Option, Some, None}
use mathlib.Core.Path.{◌≡◌, refl, sym, ◌∙◌, ap}
use mathlib.Core.List.{List, [], ◌∷◌, ◌++◌, map, append_assoc, append-nil}
use Prim.Native.Nat.{ℕ, zero, suc, ◌+◌, ◌-◌, ◌≤◌, min}
use native.Mathlib.Omega.{arith}
use lib.ListN.{length, take, drop, replicate, length-replicate}
use lib.Seq.{sets-eq}
use lib.IntN.{ℤ}
use borrow.Rule.Slice.PartMut.{put_mid}
use Rattle.value.specs.declared.Value.{Value}
use Rattle.value.specs.Printed.{printed_whole, Written}
use Rattle.value.proofs.Writing.{written_none, written_then, shown-valid}
use Rattle.language.specs.Listing.{Line, lp_line, row_line, low_line, low_lines, var_line, col_line, ending_line, fields, upper_field, bytes_of, bytes_of_all}
use Rattle.language.specs.All.{All}
use Rattle.language.specs.Valid.{SmallElement, ValidIfAny}
use Rattle.language.specs.Proper.{Proper}
use Rattle.language.proofs.Parts.{word_of, fields_of, bytes-parts}
use Rattle.listing.specs.Shown.{shown_whole, shown_upper, shown_fields, shown_line, shown_lines}
use Rattle.listing.proofs.Writing.{Left, left-more, written_from}
use Rattle.listing.proofs.Showing.{whole-shown, natural-shown}

-- ---- proper lines

wholes-shown : (e : List ℤ) → SmallElement e → map shown_whole e ≡ map printed_whole e
wholes-shown [] h = refl
wholes-shown (k ∷ e) h = rw (whole-shown k h.0, wholes-shown e h.1)

upper-shown : (u : Option Value) → ValidIfAny u → shown_upper u ≡ upper_field u
unfolding shown_upper upper_field
upper-shown None h = refl
upper-shown (Some v) h = shown-valid v h

fields-shown : (k : Line) → Proper k → shown_fields k ≡ fields_of k
fields-shown (lp_line a b c d s t) h =
    cc (natural-shown a h.discrete, natural-shown b h.variables, natural-shown c h.less, natural-shown d h.rows)
fields-shown (row_line n q v s e) h = cc (natural-shown n h.number, shown-valid v h.right, wholes-shown e h.element)
fields-shown (low_line n v) h = cc (natural-shown n h.row, shown-valid v h.floor)
fields-shown (var_line n d l u s e) h =
    cc (natural-shown n h.number, shown-valid l h.lower, upper-shown u h.upper, wholes-shown e h.element)
fields-shown (col_line j i v) h = cc (natural-shown j h.variable, natural-shown i h.row, shown-valid v h.coefficient)
fields-shown ending_line h = refl

pub line-shown : (k : Line) → Proper k → shown_line k ≡ bytes_of k
unfolding shown_line
line-shown k h = ap (λ fs. word_of k ++ fields fs) (fields-shown k h) ∙ sym (bytes-parts k)

pub lines-shown : (ks : List Line) → All Proper ks → shown_lines ks ≡ bytes_of_all ks
unfolding shown_lines bytes_of_all
lines-shown [] h = refl
lines-shown (k ∷ ks) h = rw (line-shown k h.0, lines-shown ks h.1)

-- ---- line after line

pub lines-append : (ks ls : List Line) → shown_lines (ks ++ ls) ≡ shown_lines ks ++ shown_lines ls
unfolding shown_lines
lines-append [] ls = refl
lines-append (k ∷ ks) ls = ap (λ r. shown_line k ++ r) (lines-append ks ls) ∙ sym (append_assoc (shown_line k) (shown_lines ks) (shown_lines ls))

pub lines_join : (ks ls : List Line) {l : List ℕ} {at r : ℕ} {l' : List ℕ} {r' : ℕ} {l'' : List ℕ} → Written l at (shown_lines ks) r l' → Written l' r (shown_lines ls) r' l''
    → Written l at (shown_lines (ks ++ ls)) r' l''
lines_join ks ls w v = rw (lines-append ks ls) (written_then _ _ _ _ _ _ _ _ w v)

pub lines_none : (l : List ℕ) (at : ℕ) → Written l at (shown_lines []) at l
unfolding shown_lines
lines_none l at = written_none l at

-- a floor's line, if there is a floor
pub low-none : (n : ℕ) (o : Option Value) (l : List ℕ) → o ≡ None → Written l 0 (shown_lines (low_lines n o)) 0 l
unfolding low_lines
low-none n o l e = rw e (lines_none l 0)

pub low-some : (n : ℕ) (o : Option Value) (v : Value) {l : List ℕ} {r : ℕ} {l' : List ℕ} → o ≡ Some v → Written l 0 (shown_line (low_line n v)) r l' → Written l 0 (shown_lines (low_lines n o)) r l'
unfolding low_lines shown_lines
low-some n o v e w = rw (e, append-nil (shown_line (low_line n v))) w

pub lines_end : {l₀ : List ℕ} {at₀ : ℕ} {text l : List ℕ} {at : ℕ} → Left l₀ at₀ text l at (shown_lines []) → Written l₀ at₀ text at l
lines_end h = h.whole _ _ (lines_none _ _)

-- a line that was written into the rest of l, lent from a place on
module _ (k : Line) (l : List ℕ) (at from : ℕ) (e : from ≡ min at (length l)) {n : ℕ} {p : List ℕ} (w : Written (take (length l - from) (drop from l)) 0 (shown_line k) n p) where
  -- is written in l at that place
  pub line-written : Written l at (shown_line k) (at + n) (put_mid from (length l - from) l p)
  line-written = written_from l at from (shown_line k) n p e w

  -- one line more after those written
  pub lines_more : {l₀ : List ℕ} {at₀ : ℕ} (ks : List Line) → Written l₀ at₀ (shown_lines ks) at l → Written l₀ at₀ (shown_lines (ks ++ (k ∷ []))) (at + n) (put_mid from (length l - from) l p)
  unfolding shown_lines
  lines_more ks v = rw (lines-append ks (k ∷ []), append-nil (shown_line k)) (written_then _ _ _ _ _ _ _ _ v line-written)

  -- one line less of those left
  pub lines_left : {l₀ : List ℕ} {at₀ : ℕ} {text : List ℕ} (ks : List Line) → Left l₀ at₀ text l at (shown_lines (k ∷ ks)) → Left l₀ at₀ text (put_mid from (length l - from) l p) (at + n) (shown_lines ks)
  unfolding shown_lines
  lines_left ks h = left-more (shown_line k) (shown_lines ks) refl h line-written

-- ---- a cleared output

drop-zeros : (n k : ℕ) → drop {A = ℕ} k (replicate n 0) ≡ replicate (n - k) 0
drop-zeros n zero = let e : n - 0 ≡ n = omega arith in rw e
drop-zeros zero (suc k) = let e : 0 - suc k ≡ 0 = omega arith in rw e
drop-zeros (suc n) (suc k) = let e : suc n - suc k ≡ n - k = omega arith in rw e (drop-zeros n k)

-- bytes after the text are zero
pub written-zeros : (n : ℕ) {text : List ℕ} {r : ℕ} {l : List ℕ} → Written (replicate n 0) 0 text r l → r ≤ n → l ≡ text ++ replicate (n - r) 0
written-zeros n {text} {r} {l} w h =
    let zeros = replicate {A = ℕ} n 0 in
    let e : 0 + length text ≡ r = sym w.next in
    w.bytes ∙ sets-eq text zeros 0 (omega (arith, length-replicate {A = ℕ} n 0, e)) ∙ rw (e, drop-zeros n r)
