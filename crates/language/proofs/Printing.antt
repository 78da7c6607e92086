-- Printing loses nothing: the bytes of a listing are those of no other proper lines.
use mathlib.Core.Path.{◌≡◌, refl, sym, ◌∙◌, ap}
use mathlib.Core.Bool.{Bool, true, false, cond}
use mathlib.Core.List.{List, [], ◌∷◌, ◌++◌, map, append_assoc, append-nil}
use Prim.Native.Nat.{ℕ, zero, suc, ◌<◌}
use native.Mathlib.Omega.{arith}
use lib.Dec.{eqb, lit<}
use lib.ListN.{get_or, drop, replicate}
use lib.IntN.{ℤ}
use Rattle.rules.specs.Characters.{code, bytes, tab, line_feed}
use Rattle.value.specs.Printed.{printed_whole}
use Rattle.lexer.specs.Text.{same_bytes}
use Rattle.language.specs.Listing.{Line, lp_line, row_line, low_line, var_line, col_line, ending_line, fields, bytes_of, bytes_of_all}
use Rattle.language.specs.All.{All}
use Rattle.language.proofs.All.{all_append}
use Rattle.language.specs.Proper.{Text, Proper}
use Rattle.language.proofs.Parts.{word_of, fields_of, parts_of, bytes-parts}
use Rattle.language.proofs.Fields.{NoLineFeed, text-line, fields-once, fields-line}
use Rattle.language.proofs.Figures.{natural-text, printed-text, whole-text, upper-text, read_value, value-back, read_whole, wholes-back, read_natural, natural-back, read_upper, upper-back, kind-text, read_kind, kind-back}

word-text : (l : Line) → Text (word_of l)
word-text (lp_line a b c d s t) = omega arith
word-text (row_line n q v s e) = omega arith
word-text (low_line n v) = omega arith
word-text (var_line n d l u s e) = omega arith
word-text (col_line j i v) = omega arith
word-text ending_line = omega arith

-- a variable is discrete or continuous
abbrev letter_of : Bool → List ℕ
letter_of d = cond d (code "D") (code "C") ∷ []

letter-text : (d : Bool) → Text (letter_of d)
letter-text true = omega arith
letter-text false = omega arith

letter-back : (d : Bool) → eqb (get_or (letter_of d) 0 0) (code "D") ≡ d
letter-back true = refl
letter-back false = refl

wholes-text : (e : List ℤ) → All Text (map printed_whole e)
wholes-text [] = tt
wholes-text (k ∷ e) = (whole-text k, wholes-text e)

fields-text : (l : Line) → Proper l → All Text (fields_of l)
fields-text (lp_line a b c d s t) h = (natural-text a, (natural-text b, (natural-text c, (natural-text d, (h.title, (h.data-title, tt))))))
fields-text (row_line n q v s e) h = (natural-text n, (kind-text q, (printed-text v, (h.title, wholes-text e))))
fields-text (low_line n v) h = (natural-text n, (printed-text v, tt))
fields-text (var_line n d l u s e) h = (natural-text n, (letter-text d, (printed-text l, (upper-text u, (h.name, wholes-text e)))))
fields-text (col_line j i v) h = (natural-text j, (natural-text i, (printed-text v, tt)))
fields-text ending_line h = tt

parts-text : (l : Line) → Proper l → All Text (parts_of l)
parts-text l h = (word-text l, fields-text l h)

-- a line has one line feed, its last byte
pub line-feed : (l : Line) → Proper l → (s : List ℕ) × (bytes_of l ≡ s ++ (line_feed ∷ [])) × All NoLineFeed s
line-feed l h =
    let k = fields-line (fields_of l) (fields-text l h) in (
      word_of l ++ k.0,
      bytes-parts l ∙ ap (λ r. word_of l ++ r) k.1 ∙ sym (append_assoc (word_of l) k.0 (line_feed ∷ [])),
      all_append NoLineFeed (word_of l) k.0 (text-line (word_of l) (word-text l)) k.2,
    )

-- a line begins with a letter
line-starts : (l : Line) (r : List ℕ) → 0 < get_or (bytes_of l ++ r) 0 0
unfolding bytes_of
line-starts (lp_line a b c d s t) r = lit< tt
line-starts (row_line n q v s e) r = lit< tt
line-starts (low_line n v) r = lit< tt
line-starts (var_line n d l u s e) r = lit< tt
line-starts (col_line j i v) r = lit< tt
line-starts ending_line r = lit< tt

not_zeros : (l : Line) (r : List ℕ) (a : ℕ) → replicate a 0 ≡ bytes_of l ++ r → ⊥
not_zeros l r a e = let z : ◌≡◌ {A = ℕ} (get_or (replicate a 0) 0 0) (get_or (bytes_of l ++ r) 0 0) = ap (λ s. get_or s 0 0) e in omega (arith, starts a, line-starts l r)
  where
    starts : (a : ℕ) → ◌≡◌ {A = ℕ} (get_or (replicate a 0) 0 0) 0
    starts zero = refl
    starts (suc a) = refl

-- a line read back from its word and its fields
unfoldable line_by : List ℕ → List (List ℕ) → Line
line_by w fs =
    let f : ℕ → List ℕ = λ i. get_or fs i [] in
    cond (same_bytes w (bytes "lp")) (lp_line (read_natural (f 0)) (read_natural (f 1)) (read_natural (f 2)) (read_natural (f 3)) (f 4) (f 5))
    (cond (same_bytes w (bytes "row")) (row_line (read_natural (f 0)) (read_kind (f 1)) (read_value (f 2)) (f 3) (map read_whole (drop 4 fs)))
    (cond (same_bytes w (bytes "low")) (low_line (read_natural (f 0)) (read_value (f 1)))
    (cond (same_bytes w (bytes "var")) (var_line (read_natural (f 0)) (eqb (get_or (f 1) 0 0) (code "D")) (read_value (f 2)) (read_upper (f 3)) (f 4) (map read_whole (drop 5 fs)))
    (cond (same_bytes w (bytes "col")) (col_line (read_natural (f 0)) (read_natural (f 1)) (read_value (f 2))) ending_line))))

line_of : List (List ℕ) → Line
line_of ps = line_by (get_or ps 0 []) (drop 1 ps)

line-back : (l : Line) → Proper l → line_of (parts_of l) ≡ l
unfolding line_of line_by same_bytes
line-back (lp_line a b c d s t) h =
    λ i. lp_line (natural-back a h.discrete i) (natural-back b h.variables i) (natural-back c h.less i) (natural-back d h.rows i) s t
line-back (row_line n q v s e) h = λ i. row_line (natural-back n h.number i) (kind-back q i) (value-back v h.right i) s (wholes-back e h.element i)
line-back (low_line n v) h = λ i. low_line (natural-back n h.row i) (value-back v h.floor i)
line-back (var_line n d l u s e) h =
    λ i. var_line (natural-back n h.number i) (letter-back d i) (value-back l h.lower i) (upper-back u h.upper i) s (wholes-back e h.element i)
line-back (col_line j n v) h = λ i. col_line (natural-back j h.variable i) (natural-back n h.row i) (value-back v h.coefficient i)
line-back ending_line h = refl

-- a line, and what follows it
line-once : (k l : Line) (r t : List ℕ) → Proper k → Proper l → bytes_of k ++ r ≡ bytes_of l ++ t → (k ≡ l) × (r ≡ t)
unfolding fields
line-once k l r t hk hl e =
    let e' : fields (parts_of k) ++ r ≡ fields (parts_of l) ++ t = ap (λ f. tab ∷ f) (ap (λ f. f ++ r) (sym (bytes-parts k)) ∙ e ∙ ap (λ f. f ++ t) (bytes-parts l)) in
    let p = fields-once (parts_of k) (parts_of l) r t (parts-text k hk) (parts-text l hl) e' in
    (sym (line-back k hk) ∙ ap line_of p.0 ∙ line-back l hl, p.1)

-- bytes after the listing are zero
pub printed-once-filled : (ks ls : List Line) (a b : ℕ) → All Proper ks → All Proper ls → bytes_of_all ks ++ replicate a 0 ≡ bytes_of_all ls ++ replicate b 0 → ks ≡ ls
unfolding bytes_of_all
printed-once-filled [] [] a b hk hl e = refl
printed-once-filled [] (l ∷ ls) a b hk hl e = absurd (not_zeros l (bytes_of_all ls ++ replicate b 0) a (e ∙ append_assoc (bytes_of l) (bytes_of_all ls) (replicate b 0)))
printed-once-filled (k ∷ ks) [] a b hk hl e = absurd (not_zeros k (bytes_of_all ks ++ replicate a 0) b (sym e ∙ append_assoc (bytes_of k) (bytes_of_all ks) (replicate a 0)))
printed-once-filled (k ∷ ks) (l ∷ ls) a b hk hl e =
    let e' = sym (append_assoc (bytes_of k) (bytes_of_all ks) (replicate a 0)) ∙ e ∙ append_assoc (bytes_of l) (bytes_of_all ls) (replicate b 0) in
    let p = line-once k l _ _ hk.0 hl.0 e' in
    let q = printed-once-filled ks ls a b hk.1 hl.1 p.1 in
    λ i. p.0 i ∷ q i

pub printed-once : (ks ls : List Line) → All Proper ks → All Proper ls → bytes_of_all ks ≡ bytes_of_all ls → ks ≡ ls
printed-once ks ls hk hl e = printed-once-filled ks ls 0 0 hk hl (append-nil (bytes_of_all ks) ∙ e ∙ sym (append-nil (bytes_of_all ls)))
