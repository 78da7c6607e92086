-- Laws of the lines that tables tell: one line written, and line after line.
use Rattle.std.specs.Prelude.{Option}
use mathlib.Core.Path.{◌≡◌, refl, sym, ◌∙◌, ap, subst}
use mathlib.Core.Bool.{Bool, cond}
use mathlib.Core.List.{List, [], ◌∷◌, ◌++◌}
use Prim.Native.Nat.{ℕ, zero, suc, ◌+◌, ◌-◌, ◌*◌, ◌<◌, ◌≤◌, min}
use native.Mathlib.Omega.{arith}
use native.Mathlib.Numerals.{add-one}
use lib.Dec.{leb, ltb}
use lib.ListN.{length, take, drop, drop_of_length-le}
use lib.Seq.{take_all}
use borrow.Rule.Slice.PartMut.{put_mid}
use Rattle.rules.specs.Limits.{byte_limit}
use Rattle.value.specs.declared.Value.{Value}
use Rattle.value.specs.Printed.{Written}
use Rattle.language.specs.Listed.{At}
use Rattle.language.specs.Listing.{Kind, Line, lp_line, row_line, var_line, kind_by, low_lines}
use Rattle.language.specs.Listing as Listing
use Rattle.listing.specs.Shown.{shown_line, shown_lines}
use Rattle.listing.proofs.Writing.{Left, left-all, left-more, written_from}
use Rattle.listing.proofs.Lines.{lines-append, lines_join, lines_end}
use Rattle.listing.proofs.Lengths.{line-most}
use Rattle.store.specs.declared.Element.{Element}
use Rattle.store.specs.Element.{list_of}
use Rattle.store.specs.Key.{name_of, element_of}
use Rattle.store.specs.Table.{Table, key_at, word_at}
use Rattle.store.specs.Packed.{unpacked}
use Rattle.store.proofs.Elements.{length-few}
use Rattle.store.proofs.Back.{name_back, element-back}
use Rattle.rows.specs.Slots.{floor_slot}
use Rattle.rows.specs.Bounds.{BoundTable}
use Rattle.rows.specs.Read.{slot_at, lower_in, upper_in, end_in}
use Rattle.constraints.specs.declared.Record.{Record}
use Rattle.listing.specs.Sheet.Strings.{name_at, title_of}
use Rattle.listing.specs.Sheet.Told.{floor_in, kind_at, concat, RowAlone, RowTold, VariableTold, Told, Writes, WritesAll}
use Rattle.listing.proofs.sheet.Cells.{one_line}
use Rattle.listing.proofs.sheet.Words.{name-most, title-most}

-- ---- one line

module _ {l : List ℕ} {n : ℕ} {p : List ℕ} where
  -- how long a line is, whose string is a part of a text
  pub row-short : (i : ℕ) (q : Kind) (v : Value) (title : List ℕ) (e : Element) → Written l 0 (shown_line (row_line i q v title (list_of e))) n p
      → length title ≤ 16384 → n ≤ 32000
  row-short i q v title e w h = omega (arith, w.next, line-most (row_line i q v title (list_of e)), length-few e)

  pub variable-short : (j : ℕ) (d : Bool) (a : Value) (b : Option Value) (name : List ℕ) (e : Element)
      → Written l 0 (shown_line (var_line j d a b name (list_of e))) n p → length name ≤ 16384 → n ≤ 32768
  variable-short j d a b name e w h = omega (arith, w.next, line-most (var_line j d a b name (list_of e)), length-few e)

module _ (l : List ℕ) (at from : ℕ) (f : from ≡ min at (length l)) {n : ℕ} {p : List ℕ} where
  -- into the rest of l, lent from a place on
  lent-line : (k : Line) (ks : List Line) → ks ≡ k ∷ [] → Written (take (length l - from) (drop from l)) 0 (shown_line k) n p
      → Written l at (shown_lines ks) (at + n) (put_mid from (length l - from) l p)
  lent-line k ks e w = rw e (one_line k (written_from l at from (shown_line k) n p f w))

  pub row_written : (s ts : List ℕ) (cs : List Record) (rows : Table) (k number w name : ℕ) (q : Kind) (v : Value) (title : List ℕ) (e : Element) → length s ≤ 16384 → w ≡ word_at rows k
      → v ≡ unpacked w → name ≡ name_of (key_at rows k) → title ≡ title_of s ts cs name → list_of e ≡ element_of (key_at rows k)
      → Written (take (length l - from) (drop from l)) 0 (shown_line (row_line number q v title (list_of e))) n p
      → Writes 32000 (RowAlone s ts cs rows k number q) l at (at + n) (put_mid from (length l - from) l p)
  row_written s ts cs rows k number w name q v title e h b c d g x written =
      record {
        short = let y = row-short _ _ _ _ _ written (rw g (omega (arith, title-most s ts cs name))) in omega arith;
        lines = λ z t.
            let right : v ≡ unpacked (word_at rows k) = c ∙ ap unpacked b in
            let named : title ≡ title_of s ts cs t.constraint = g ∙ ap (title_of s ts cs) (d ∙ name_back (key_at rows k) t.constraint t.element t.keyed t.key) in
            let same : z ≡ row_line number q v title (list_of e) ∷ [] = t.is ∙ cc (right, named, x ∙ element-back (key_at rows k) t.constraint t.element t.keyed t.key) in
            lent-line _ z same written;
      }

  pub variable-written : (s ns : List ℕ) (vs : Table) (bs : BoundTable) (discrete j name : ℕ) (lower : Value) (upper : Option Value) (spelled : List ℕ) (e : Element) → length s ≤ 16384
      → lower ≡ lower_in bs j → upper ≡ upper_in bs j → name ≡ name_of (key_at vs j) → spelled ≡ name_at s ns name → list_of e ≡ element_of (key_at vs j)
      → Written (take (length l - from) (drop from l)) 0 (shown_line (var_line (j + 1) (ltb j discrete) lower upper spelled (list_of e))) n p
      → Writes 32768 (VariableTold s ns vs bs discrete j) l at (at + n) (put_mid from (length l - from) l p)
  variable-written s ns vs bs discrete j name lower upper spelled e h low high d g x written =
      record {
        short = let y = variable-short _ _ _ _ _ _ written (rw g (omega (arith, name-most s ns name))) in omega arith;
        lines = λ z t.
            let named : spelled ≡ name_at s ns t.name = g ∙ ap (name_at s ns) (d ∙ name_back (key_at vs j) t.name t.element t.keyed t.key) in
            let same : z ≡ var_line (j + 1) (ltb j discrete) lower upper spelled (list_of e) ∷ [] = t.is ∙ cc (low, high, named, x ∙ element-back (key_at vs j) t.name t.element t.keyed t.key) in
            lent-line _ z same written;
      }

-- a row's line, and its floor's
pub row-both : (s ts : List ℕ) (cs : List Record) (rows : Table) (less i k : ℕ) (o : Option Value) (q : Kind) {l : List ℕ} {at r : ℕ} {l' : List ℕ} {r' : ℕ} {l'' : List ℕ} → k ≡ slot_at less i
    → o ≡ end_in (word_at rows (floor_slot k)) → q ≡ cond (leb less i) Listing.equal (kind_by o) → Writes 32000 (RowAlone s ts cs rows k (i + 1) q) l at r l'
    → (Written l' r (shown_lines (low_lines (i + 1) o)) r' l'') × (r' ≤ r + 128) → Writes 32768 (RowTold s ts cs rows less i) l at r' l''
unfolding floor_in kind_at
row-both s ts cs rows less i k o q {l} {at} {r} {l'} {r'} {l''} a b c w (v, short) =
    let floor : o ≡ floor_in rows (slot_at less i) = b ∙ ap (floor_in rows) a in
    let kind : q ≡ kind_at less i (floor_in rows (slot_at less i)) = c ∙ ap (kind_at less i) floor in
    record {
      short = omega (arith, w.short);
      lines = λ ks t.
          let alone = subst (λ n. RowAlone s ts cs rows k (i + 1) n t.own) (sym kind) (subst (λ n. RowAlone s ts cs rows n (i + 1) (kind_at less i (floor_in rows (slot_at less i))) t.own) (sym a) t.alone) in
          let low = subst (λ n. Written l' r (shown_lines (low_lines (i + 1) n)) r' l'') floor v in
          subst (λ n. Written l at (shown_lines n) r' l'') (sym t.is) (lines_join t.own _ (w.lines t.own alone) low);
    }

-- the first line, with strings that are no longer than the text
pub first-written : (s : List ℕ) (a b c d : ℕ) (t u : List ℕ) {l : List ℕ} {r : ℕ} {l' : List ℕ} → length s ≤ 16384 → length t ≤ length s → length u ≤ length s
    → Written l 0 (shown_line (lp_line a b c d (take byte_limit t) (take byte_limit u))) r l'
    → (Written l 0 (shown_line (lp_line a b c d t u)) r l') × (r ≤ 32896)
unfolding byte_limit
first-written s a b c d t u h x y w =
    let e : take 16384 t ≡ t = take_all 16384 t (omega arith) in
    let g : take 16384 u ≡ u = take_all 16384 u (omega arith) in
    let v = rw (e, g) at w in
    (v, omega (arith, v.next, line-most (lp_line a b c d t u)))

-- ---- line after line

-- those of i of n things are written
pub record Writing (T : ℕ → List Line → Type 0) (n i : ℕ) (l₀ : List ℕ) (at₀ : ℕ) (l : List ℕ) (at : ℕ) : Type 0 where
  pub within : i ≤ n
  pub most : at ≤ at₀ + 32768 * i
  pub size : length l ≡ length l₀
  pub left : (kss : List (List Line)) → Told T n kss → Left l₀ at₀ (shown_lines (concat kss)) l at (shown_lines (concat (drop i kss)))

at_here : (kss : List (List Line)) (i : ℕ) → i < length kss → (ks : List Line) × At kss i ks × (drop i kss ≡ ks ∷ drop (suc i) kss)
at_here [] i h = absurd (omega arith)
at_here (ks ∷ kss) zero h = (ks, refl, refl)
at_here (ks ∷ kss) (suc i) h = at_here kss i (omega arith)

module _ (T : ℕ → List Line → Type 0) (n : ℕ) where
  pub writing_start : (l : List ℕ) (at : ℕ) → Writing T n 0 l at l at
  writing_start l at = record { within = omega arith; most = omega arith; size = refl; left = λ kss t. left-all l at (shown_lines (concat kss)) }

  module _ {i : ℕ} {l₀ : List ℕ} {at₀ : ℕ} {l : List ℕ} {at : ℕ} (h : Writing T n i l₀ at₀ l at) where
    pub writing_more : {r : ℕ} {l' : List ℕ} → i < n → length l' ≡ length l → Writes 32768 (T i) l at r l' → Writing T n (i + 1) l₀ at₀ l' r
    unfolding concat
    writing_more b s w =
        record {
          within = omega arith;
          most = omega (arith, w.short, h.most);
          size = s ∙ h.size;
          left = λ kss t.
              let x = at_here kss i (omega (arith, t.size)) in
              let e : shown_lines (concat (drop i kss)) ≡ shown_lines x.0 ++ shown_lines (concat (drop (suc i) kss)) =
              ap (λ z. shown_lines (concat z)) x.2 ∙ lines-append x.0 (concat (drop (suc i) kss)) in
              left-more (shown_lines x.0) (shown_lines (concat (drop (i + 1) kss))) (rw (add-one i) e) (h.left kss t) (w.lines x.0 (t.each i x.0 x.1));
        }

    pub writing-end : n ≤ i → WritesAll T n l₀ at₀ at l
    unfolding concat
    writing-end b =
        let e : i ≡ n = omega (arith, h.within) in
        record {
          most = omega (arith, h.most);
          lines = λ kss t. let d : drop i kss ≡ [] = drop_of_length-le kss {i = i} (omega (arith, t.size)) in lines_end (rw d at (h.left kss t));
        }

-- all of them, one after the other
pub all_told : (T : ℕ → List Line → Type 0) (n : ℕ) (kss : List (List Line)) (ks : List Line) {l : List ℕ} {at r : ℕ} {l' : List ℕ} → WritesAll T n l at r l' → Told T n kss → concat kss ≡ ks
    → Written l at (shown_lines ks) r l'
all_told T n kss ks {l} {at} {r} {l'} w t e = subst (λ ks. Written l at (shown_lines ks) r l') e (w.lines kss t)
