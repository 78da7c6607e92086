-- Laws of writing: a text piece by piece, a line field by field, and the rest of an output.
use Rattle.std.specs.Prelude.{Option}
use mathlib.Core.Path.{◌≡◌, refl, sym, ◌∙◌, ap}
use mathlib.Core.Bool.{Bool, true, false, cond}
use mathlib.Core.List.{List, [], ◌∷◌, ◌++◌, map, append_assoc, append-nil}
use Prim.Native.Nat.{ℕ, suc, ◌+◌, ◌-◌, ◌<◌, ◌≤◌, min}
use native.Mathlib.Omega.{arith}
use native.Mathlib.Numerals.{add-one}
use borrow.Author.Tests.{leb-true, leb-false}
use borrow.Author.Fill.{fill_none, fill_more}
use lib.Dec.{leb}
use lib.ListN.{length, take, drop, get_or, set, replicate, length-set, drop_of_length-le}
use lib.Seq.{sets, set_out, take-length, take-nil, drop-nil, drop-length, drop-cons}
use lib.IntN.{ℤ, pos}
use borrow.Rule.Slice.PartMut.{put_mid}
use Rattle.rules.specs.Characters.{code, bytes, tab, line_feed}
use Rattle.value.specs.declared.Value.{Value}
use Rattle.value.specs.Printed.{shown, Written}
use Rattle.value.proofs.Writing.{written_none, written_then, written-rest}
use Rattle.language.specs.Listing.{Kind, Line, row_line, var_line, ending_line, kind_field, fields}
use Rattle.language.proofs.Parts.{word_of}
use Rattle.listing.specs.Shown.{shown_whole, shown_natural, shown_or, shown_upper, tabbed, shown_fields, shown_line, shown_refused}
use Rattle.listing.specs.Bare.{bare_row, bare_variable, row_start, variable_start}

-- ---- a text, piece by piece

-- to write what is left, at a place of l', is to write the whole text, at a place of l
pub record Left (l : List ℕ) (at : ℕ) (text : List ℕ) (l' : List ℕ) (at' : ℕ) (left : List ℕ) : Type 0 where
  pub whole : (r : ℕ) (l'' : List ℕ) → Written l' at' left r l'' → Written l at text r l''

pub left-all : (l : List ℕ) (at : ℕ) (text : List ℕ) → Left l at text l at text
left-all l at text = record { whole = λ r l'' w. w }

pub left-more : {l : List ℕ} {at : ℕ} {text l' : List ℕ} {at' : ℕ} {left : List ℕ} (piece rest : List ℕ) {r : ℕ} {l'' : List ℕ}
    → left ≡ piece ++ rest → Left l at text l' at' left → Written l' at' piece r l'' → Left l at text l'' r rest
left-more piece rest e h w = record { whole = λ r k v. h.whole r k (rw e (written_then _ _ _ _ _ _ _ _ w v)) }

-- byte i of a text, and its end
module _ (t : List ℕ) (i : ℕ) {l : List ℕ} {at : ℕ} {text l' : List ℕ} {at' : ℕ} where
  pub text-more : {r : ℕ} {l'' : List ℕ} → Left l at text l' at' (drop i t) → i < length t → Written l' at' (get_or t i 0 ∷ []) r l'' → Left l at text l'' r (drop (i + 1) t)
  text-more h b w = left-more (get_or t i 0 ∷ []) (drop (i + 1) t) (rw add-one (drop-cons t i 0 b)) h w

  pub text-end : Left l at text l' at' (drop i t) → length t ≤ i → Written l at text at' l'
  text-end h b = h.whole at' l' (rw (drop_of_length-le t {i = i} b) (written_none l' at'))

-- ---- a line: its word, then field by field

pub line-then : (k : Line) {l : List ℕ} {r : ℕ} {l' : List ℕ} {r' : ℕ} {l'' : List ℕ} → Written l 0 (word_of k) r l' → Written l' r (fields (shown_fields k)) r' l'' → Written l 0 (shown_line k) r' l''
unfolding shown_line
line-then k w v = written_then _ _ _ _ _ _ _ _ w v

-- a field's tab, and what follows it in the field
pub tab-then : {l : List ℕ} {at r : ℕ} {l' f : List ℕ} {r' : ℕ} {l'' : List ℕ} → Written l at (tab ∷ []) r l' → Written l' r f r' l'' → Written l at (tab ∷ f) r' l''
tab-then w v = written_then _ _ _ _ _ _ _ _ w v

pub field-then : {l : List ℕ} {at : ℕ} {f : List ℕ} {r : ℕ} {l' : List ℕ} (fs : List (List ℕ)) {r' : ℕ} {l'' : List ℕ}
    → Written l at (tab ∷ f) r l' → Written l' r (fields fs) r' l'' → Written l at (fields (f ∷ fs)) r' l''
unfolding fields
field-then fs w v = written_then _ _ _ _ _ _ _ _ w v

pub line-end : {l : List ℕ} {at r : ℕ} {l' : List ℕ} → Written l at (line_feed ∷ []) r l' → Written l at (fields []) r l'
unfolding fields
line-end w = w

pub end_line : {l : List ℕ} {r : ℕ} {l' : List ℕ} → Written l 0 (bytes "end\n") r l' → Written l 0 (shown_line ending_line) r l'
unfolding shown_line fields
end_line w = w

pub refused-then : (n p : ℕ) {l : List ℕ} {r : ℕ} {l' : List ℕ} {r' : ℕ} {l'' : List ℕ}
    → Written l 0 (bytes "refused") r l' → Written l' r (fields (shown_natural n ∷ shown_natural p ∷ [])) r' l'' → Written l 0 (shown_refused n p) r' l''
unfolding shown_refused
refused-then n p w v = written_then _ _ _ _ _ _ _ _ w v

-- ---- what a line starts with, field by field, and the rest of it

pub tab-more : {l : List ℕ} {at : ℕ} {f : List ℕ} {r : ℕ} {l' : List ℕ} (fs : List (List ℕ)) {r' : ℕ} {l'' : List ℕ}
    → Written l at (tab ∷ f) r l' → Written l' r (tabbed fs) r' l'' → Written l at (tabbed (f ∷ fs)) r' l''
unfolding tabbed
tab-more fs w v = written_then _ _ _ _ _ _ _ _ w v

pub tab-last : {l : List ℕ} {at : ℕ} {f : List ℕ} {r : ℕ} {l' : List ℕ} → Written l at (tab ∷ f) r l' → Written l at (tabbed (f ∷ [])) r l'
unfolding tabbed
tab-last {l} {at} {f} w = rw (append-nil f) w

fields-parted : (fs gs : List (List ℕ)) → fields (fs ++ gs) ≡ tabbed fs ++ fields gs
unfolding fields tabbed
fields-parted [] gs = refl
fields-parted (f ∷ fs) gs = ap (λ (t : List ℕ). tab ∷ t) (rw (fields-parted fs gs) (sym (append_assoc f (tabbed fs) (fields gs))))

start-then : (w : List ℕ) (fs gs : List (List ℕ)) {l : List ℕ} {r : ℕ} {l' : List ℕ} {r' : ℕ} {l'' : List ℕ} → Written l 0 (w ++ tabbed fs) r l' → Written l' r (fields gs) r' l''
    → Written l 0 (w ++ fields (fs ++ gs)) r' l''
start-then w fs gs x y = rw (fields-parted fs gs, ← append_assoc w (tabbed fs) (fields gs)) (written_then _ _ _ _ _ _ _ _ x y)

module _ (n : ℕ) (q : Kind) (v : Value) {l : List ℕ} {r : ℕ} {l' : List ℕ} {r' : ℕ} {l'' : List ℕ} where
  pub row-word : Written l 0 (bytes "row") r l' → Written l' r (tabbed (shown_natural n ∷ kind_field q ∷ shown v ∷ [])) r' l'' → Written l 0 (row_start n q v) r' l''
  unfolding row_start
  row-word w x = written_then _ _ _ _ _ _ _ _ w x

  pub row-bare : Written l 0 (row_start n q v) r l' → Written l' r (fields []) r' l'' → Written l 0 (bare_row n q v) r' l''
  unfolding row_start bare_row
  row-bare w x = start-then (bytes "row") (shown_natural n ∷ kind_field q ∷ shown v ∷ []) [] w x

  pub row-then : (s : List ℕ) (e : List ℤ) → Written l 0 (row_start n q v) r l' → Written l' r (fields (s ∷ map shown_whole e)) r' l'' → Written l 0 (shown_line (row_line n q v s e)) r' l''
  unfolding row_start shown_line
  row-then s e w x = start-then (bytes "row") (shown_natural n ∷ kind_field q ∷ shown v ∷ []) (s ∷ map shown_whole e) w x

module _ (n : ℕ) (d : Bool) (v : Value) (u : Option Value) {l : List ℕ} {r : ℕ} {l' : List ℕ} {r' : ℕ} {l'' : List ℕ} where
  pub variable-word : Written l 0 (bytes "var") r l' → Written l' r (tabbed (shown_natural n ∷ (cond d (code "D") (code "C") ∷ []) ∷ shown v ∷ shown_or (bytes "inf") u ∷ [])) r' l''
      → Written l 0 (variable_start n d v u) r' l''
  unfolding variable_start shown_upper
  variable-word w x = written_then _ _ _ _ _ _ _ _ w x

  pub variable-bare : Written l 0 (variable_start n d v u) r l' → Written l' r (fields []) r' l'' → Written l 0 (bare_variable n d v u) r' l''
  unfolding variable_start bare_variable
  variable-bare w x = start-then (bytes "var") (shown_natural n ∷ (cond d (code "D") (code "C") ∷ []) ∷ shown v ∷ shown_upper u ∷ []) [] w x

  pub variable-then : (s : List ℕ) (e : List ℤ) → Written l 0 (variable_start n d v u) r l' → Written l' r (fields (s ∷ map shown_whole e)) r' l''
      → Written l 0 (shown_line (var_line n d v u s e)) r' l''
  unfolding variable_start shown_line
  variable-then s e w x = start-then (bytes "var") (shown_natural n ∷ (cond d (code "D") (code "C") ∷ []) ∷ shown v ∷ shown_upper u ∷ []) (s ∷ map shown_whole e) w x

-- index value i, and the last
module _ (f : ℤ → List ℕ) (e : List ℤ) (i : ℕ) {l : List ℕ} {at : ℕ} {text l' : List ℕ} {at' r : ℕ} {l'' : List ℕ} where
  pub element-more : Left l at text l' at' (fields (map f (drop i e))) → i < length e → Written l' at' (tab ∷ f (get_or e i (pos 0))) r l'' → Left l at text l'' r (fields (map f (drop (i + 1) e)))
  unfolding fields
  element-more h b w = left-more (tab ∷ f (get_or e i (pos 0))) (fields (map f (drop (i + 1) e))) (rw (add-one, drop-cons e i (pos 0) b)) h w

  pub element-end : Left l at text l' at' (fields (map f (drop i e))) → length e ≤ i → Written l' at' (line_feed ∷ []) r l'' → Written l at text r l''
  element-end h b w = h.whole r l'' (rw (drop_of_length-le e {i = i} b) (line-end w))

-- ---- the rest of an output, lent and given back

sets-past : (text l : List ℕ) (at : ℕ) → length l ≤ at → sets l at text ≡ l
sets-past [] l at h = refl
sets-past (b ∷ text) l at h = rw (set_out l at b h) (sets-past text l (suc at) (omega arith))

written-empty : (l : List ℕ) (at : ℕ) (text : List ℕ) (r : ℕ) (p : List ℕ) → length l ≤ at → Written (take (length l - length l) (drop (length l) l)) 0 text r p → Written l at text (at + r) (put_mid (length l) (length l - length l) l p)
written-empty l at text r p h w =
    let none = drop_of_length-le l {i = length l} (omega arith) in
    let e : p ≡ [] = w.bytes ∙ rw (none, take-nil (length l - length l)) (sets-past text [] 0 (omega arith)) in
    record { next = omega (arith, w.next); bytes = rw (e, none, drop-nil {A = ℕ} (length l - length l), append-nil (take (length l) l), take-length l) (sym (sets-past text l at h)) }

pub written_from : (l : List ℕ) (at from : ℕ) (text : List ℕ) (r : ℕ) (p : List ℕ) → from ≡ min at (length l) → Written (take (length l - from) (drop from l)) 0 text r p → Written l at text (at + r) (put_mid from (length l - from) l p)
written_from l at from text r p e w = go (leb at (length l)) refl
  where
    go : (t : Bool) → leb at (length l) ≡ t → Written l at text (at + r) (put_mid from (length l - from) l p)
    go true q = let h = leb-true at (length l) q in let k : from ≡ at = omega arith in rw k (written-rest l at text r p h (rw k at w))
    go false q = let h = leb-false at (length l) q in let k : from ≡ length l = omega arith in rw k (written-empty l at text r p (omega arith) (rw k at w))

-- ---- every byte zero

pub record Cleared (l : List ℕ) (i : ℕ) (l' : List ℕ) : Type 0 where
  pub within : i ≤ length l
  pub size : length l' ≡ length l
  pub zeros : l' ≡ replicate i 0 ++ drop i l

pub cleared-none : (l : List ℕ) → Cleared l 0 l
cleared-none l = record { within = omega arith; size = refl; zeros = fill_none l 0 }

pub cleared_more : {l : List ℕ} {i : ℕ} {l' : List ℕ} → Cleared l i l' → i < length l' → Cleared l (i + 1) (set l' i 0)
cleared_more {l} {i} {l'} h b =
    record {
      within = omega (arith, h.size);
      size = length-set l' i 0 ∙ h.size;
      zeros = rw h.zeros (fill_more i 0 l (omega (arith, h.size)));
    }

pub cleared-all : {l : List ℕ} {i : ℕ} {l' : List ℕ} → Cleared l i l' → length l' ≤ i → l' ≡ replicate (length l) 0
cleared-all {l} {i} {l'} h b =
    let e : i ≡ length l = omega (arith, h.within, h.size) in
    h.zeros ∙ rw (e, drop-length l) (append-nil (replicate (length l) 0))
