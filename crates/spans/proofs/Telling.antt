-- Laws of the report's lines, row after row; and that of every problem that the tables hold they are the definition's.
use Rattle.std.specs.Prelude.{Option, Some, None}
use mathlib.Core.Path.{◌≡◌, refl, sym, ◌∙◌, ap, subst}
use mathlib.Core.Bool.{Bool, true, false, not, cond, ◌&&◌}
use mathlib.Core.List.{List, [], ◌∷◌, ◌++◌, append_assoc, append-nil}
use Prim.Native.Nat.{ℕ, zero, suc, ◌+◌, ◌*◌, ◌<◌, ◌≤◌}
use native.Mathlib.Omega.{arith}
use native.Mathlib.Numerals.{add-one}
use borrow.Author.Tests.{not-true}
use lib.Dec.{leb}
use lib.ListN.{length, drop, length-append, drop_of_length-le}
use lib.IntN.{ℤ}
use Rattle.rules.specs.Limits.{mantissa_limit}
use Rattle.value.specs.declared.Value.{Value}
use Rattle.value.specs.Decimal.{Valid, is_at_most, in_range}
use Rattle.value.specs.Printed.{Written}
use Rattle.value.proofs.Ranges.{valid-in-range}
use Rattle.value.proofs.Writing.{written_none, written_then, shown-valid}
use Rattle.language.specs.Listed.{At}
use Rattle.language.specs.Valid.{ValidIfAny}
use Rattle.language.specs.Numbering.{Entry, Lp, is_equal, less_rows, equal_rows, rows}
use Rattle.language.specs.Listing.{Kind, less, range, ending_line, right_of, kind_of, kind_by}
use Rattle.language.specs.Listing as Listing
use Rattle.store.specs.Table.{Table, word_at}
use Rattle.store.specs.Packed.{unpacked}
use Rattle.rows.specs.declared.Sizes.{Sizes}
use Rattle.rows.specs.Slots.{floor_slot, Slot}
use Rattle.rows.specs.Read.{within, slot_at, end_in}
use Rattle.rows.specs.Held.{Held}
use Rattle.rows.proofs.Reading.{yes-within}
use Rattle.rows.proofs.Held.{word_back, floor-told}
use Rattle.reach.specs.Reach.{reach}
use Rattle.reach.specs.Tables.{Reaches}
use Rattle.reach.proofs.Reaching.{slot, reach-valid}
use Rattle.listing.specs.declared.Kind as code
use Rattle.listing.specs.declared.Kind.TheVariants.{Less, Equal, Range}
use Rattle.listing.specs.Kinds.{kind_in}
use Rattle.listing.specs.Shown.{shown_line}
use Rattle.listing.specs.Spans.{shown_end, idle_field, shown_span}
use Rattle.listing.proofs.Showing.{natural-shown}
use Rattle.listing.proofs.Writing.{Left, left-all, left-more}
use Rattle.listing.proofs.sheet.Slots.{equal-last}
use Rattle.spans.specs.Spans.{SpanLine, span_line, last_line, is_idle, span_of, spans_from, spans_of, end_field, span_bytes, all_span_bytes}
use Rattle.spans.specs.Told.{idle_in, span_text, Holds, RowWritten, RowsWritten, Reports}
use Rattle.rows.specs.Bounds.{BoundTable}

-- ---- what code answers

module _ (o : Option Value) (v : Value) where
  pub idle-none : o ≡ None → false ≡ idle_in o v
  unfolding idle_in
  idle-none e = rw e

  pub idle-at : (h : Value) (b : Bool) → o ≡ Some h → b ≡ cond (in_range h && in_range v) (is_at_most h v) false → b ≡ idle_in o v
  unfolding idle_in
  idle-at h b e i = rw e i

module _ (q : code.Kind) (n : ℕ) (a g : Option Value) (v : Value) {l : List ℕ} {at : ℕ} where
  pub span_less : (b : Bool) {r : ℕ} {l' : List ℕ} → q ≡ Less → b ≡ idle_in g v → Written l at (shown_span n a g b) r l' → Written l at (span_text (kind_in q) n a g v) r l'
  unfolding span_text kind_in
  span_less b e i w = rw (e, ← i) w

  pub span-equal : {r : ℕ} {l' : List ℕ} → q ≡ Equal → Written l at (shown_span n a g false) r l' → Written l at (span_text (kind_in q) n a g v) r l'
  unfolding span_text kind_in
  span-equal e w = rw e w

  pub span-range : q ≡ Range → Written l at (span_text (kind_in q) n a g v) at l
  unfolding span_text kind_in
  span-range e = rw e (written_none l at)

-- ---- of valid values it is what the definition says

end-shown : (o : Option Value) → ValidIfAny o → shown_end o ≡ end_field o
unfolding shown_end end_field
end-shown None h = refl
end-shown (Some v) h = shown-valid v h

span-shown : (n : ℕ) (a g : Option Value) (b : Bool) → n ≤ 512 → ValidIfAny a → ValidIfAny g → shown_span n a g b ≡ span_bytes (span_line n a g b)
unfolding shown_span span_bytes idle_field mantissa_limit
span-shown n a g b h ha hg = rw (natural-shown n (omega arith), end-shown a ha, end-shown g hg)

idle-told : (o : Option Value) (v : Value) → ValidIfAny o → Valid v → idle_in o v ≡ is_idle less o v
unfolding idle_in is_idle
idle-told None v ho hv = refl
idle-told (Some h) v ho hv = rw (valid-in-range h ho, valid-in-range v hv)

one_line : (k : SpanLine) → all_span_bytes (k ∷ []) ≡ span_bytes k
unfolding all_span_bytes
one_line k = append-nil (span_bytes k)

no_line : all_span_bytes [] ≡ []
unfolding all_span_bytes
no_line = refl

bytes-append : (ks ls : List SpanLine) → all_span_bytes (ks ++ ls) ≡ all_span_bytes ks ++ all_span_bytes ls
unfolding all_span_bytes
bytes-append [] ls = refl
bytes-append (k ∷ ks) ls = ap (λ r. span_bytes k ++ r) (bytes-append ks ls) ∙ sym (append_assoc (span_bytes k) (all_span_bytes ks) (all_span_bytes ls))

module _ (p : Lp) (e : Entry) (n : ℕ) (h : n ≤ 512) (valid : Valid (right_of e.fact)) where
  line-shown : (b : Bool) → shown_span n (reach false p e) (reach true p e) b ≡ all_span_bytes (span_line n (reach false p e) (reach true p e) b ∷ [])
  line-shown b = span-shown n _ _ b h (reach-valid false p e) (reach-valid true p e) ∙ sym (one_line _)

  text-told : (q : Kind) → span_text q n (reach false p e) (reach true p e) (right_of e.fact) ≡ all_span_bytes (span_of p n q e)
  unfolding span_text span_of
  text-told less = ap (shown_span n (reach false p e) (reach true p e)) (idle-told (reach true p e) (right_of e.fact) (reach-valid true p e) valid) ∙ line-shown _
  text-told Listing.equal = line-shown false
  text-told range = sym no_line

-- ---- the line of a row

last-rows : (p : Lp) (i : ℕ) (e : Entry) → At (rows p) i e → is_equal e.source.constraint.relation ≡ leb (length (less_rows p)) i
unfolding rows less_rows equal_rows
last-rows p i e a = equal-last p.entries i e a

module _ {t : Table} {b : BoundTable} {m : List ℤ} {first n : ℕ} {p : Lp} (h : Holds t b m first n p) (i : ℕ) (e : Entry) (a : At (rows p) i e) where
  here : Slot p.variables t m (slot_at first i) e
  here = rw h.lesses (slot h.held i e a)

  count_less : length (less_rows p) ≡ first
  unfolding less_rows
  count_less = sym h.held.rows.less_count ∙ sym h.lesses

  kind-told : (o : Option Value) → o ≡ end_in (word_at t (floor_slot (slot_at first i))) → cond (leb first i) Listing.equal (kind_by o) ≡ kind_of e.source.constraint.relation
  kind-told o f =
      let floor : o ≡ e.floor = f ∙ floor-told p.variables t m (slot_at first i) e here in
      let last : is_equal e.source.constraint.relation ≡ leb first i = last-rows p i e a ∙ ap (λ k. leb k i) count_less in
      rw (floor, ← last) (sym here.kind)

  right-told : unpacked (word_at t (slot_at first i)) ≡ right_of e.fact
  right-told = ap unpacked here.right ∙ word_back _ here.valid

  end-told : (greatest : Bool) (k : ℕ) (r : Option Value) → Reaches m b k n greatest r → k ≡ slot_at first i → r ≡ reach greatest p e
  end-told greatest k r w q = w.is t h.sizes p h.held h.variables i e a (q ∙ ap (λ x. slot_at x i) h.lesses)

pub row_written : (t : Table) (b : BoundTable) (m : List ℤ) (first n i k : ℕ) (o : Option Value) (q : code.Kind) (u g : Option Value) (w : ℕ) (v : Value) {l : List ℕ} {at r : ℕ} {l' : List ℕ}
    → i < 512 → k ≡ slot_at first i → o ≡ end_in (word_at t (floor_slot k)) → kind_in q ≡ cond (leb first i) Listing.equal (kind_by o)
    → Reaches m b k n false u → Reaches m b k n true g → w ≡ word_at t k → v ≡ unpacked w
    → (Written l at (span_text (kind_in q) (i + 1) u g v) r l') × (r ≤ at + 128) → RowWritten t b m first n i l at r l'
row_written t b m first n i k o q u g w v {l} {at} {r} {l'} few slot_is floor-is kind-is least greatest word-is right_is x =
    record {
      short = x.1;
      line = λ p h e a.
          let kind = kind-is ∙ kind-told h i e a o (floor-is ∙ ap (λ k. end_in (word_at t (floor_slot k))) slot_is) in
          let low = end-told h i e a false k u least slot_is in
          let high = end-told h i e a true k g greatest slot_is in
          let right = right_is ∙ ap unpacked (word-is ∙ ap (word_at t) slot_is) ∙ right-told h i e a in
          let valid = (here h i e a).valid in
          subst (λ z. Written l at z r l') (rw (kind, low, high, right) (text-told p e (i + 1) (omega arith) valid (kind_of e.source.constraint.relation))) x.0;
    }

-- ---- row after row

drop_at : {A : Type 0} (l : List A) (i : ℕ) → i < length l → (a : A) × At l i a × (drop i l ≡ a ∷ drop (suc i) l)
drop_at [] i h = absurd (omega arith)
drop_at (a ∷ l) zero h = (a, refl, refl)
drop_at (a ∷ l) (suc i) h = drop_at l i (omega arith)

first-row : (p : Lp) (n : ℕ) (e : Entry) (es : List Entry)
    → all_span_bytes (spans_from p n (e ∷ es)) ≡ all_span_bytes (span_of p n (kind_of e.source.constraint.relation) e) ++ all_span_bytes (spans_from p (suc n) es)
unfolding spans_from
first-row p n e es = bytes-append _ _

no_rows : (p : Lp) (n : ℕ) → all_span_bytes (spans_from p n []) ≡ []
unfolding spans_from all_span_bytes
no_rows p n = refl

module _ (t : Table) (b : BoundTable) (m : List ℤ) (first n k : ℕ) (l₀ : List ℕ) (at₀ : ℕ) where
  -- i of k rows are written, and what is left makes the lines of all
  pub record Spanning (i : ℕ) (l : List ℕ) (at : ℕ) : Type 0 where
    pub within : i ≤ k
    pub short : at ≤ at₀ + 128 * i
    pub size : length l ≡ length l₀
    pub left : (p : Lp) → Holds t b m first n p → k ≡ length (rows p) → Left l₀ at₀ (all_span_bytes (spans_from p 1 (rows p))) l at (all_span_bytes (spans_from p (suc i) (drop i (rows p))))

  pub spanning-first : Spanning 0 l₀ at₀
  spanning-first = record { within = omega arith; short = omega arith; size = refl; left = λ p h c. left-all l₀ at₀ _ }

  module _ {i : ℕ} {l : List ℕ} {at : ℕ} (s : Spanning i l at) where
    pub spanning-more : {r : ℕ} {l' : List ℕ} → i < k → length l' ≡ length l → RowWritten t b m first n i l at r l' → Spanning (i + 1) l' r
    spanning-more more size w =
        record {
          within = omega arith;
          short = omega (arith, w.short, s.short);
          size = size ∙ s.size;
          left = λ p h c.
              let d = drop_at (rows p) i (omega arith) in
              let e = ap (λ es. all_span_bytes (spans_from p (suc i) es)) d.2 ∙ first-row p (suc i) d.0 (drop (suc i) (rows p)) in
              rw (add-one i) (left-more _ _ e (s.left p h c) (rw (add-one i) at (w.line p h d.0 d.1)));
        }

    pub spanning-end : k ≤ i → RowsWritten t b m first n k l₀ at₀ at l
    spanning-end end =
        record {
          short = omega (arith, s.short, s.within);
          lines = λ p h c. (s.left p h c).whole _ _ (rw (drop_of_length-le (rows p) {i = i} (omega arith), no_rows p (suc i)) (written_none l at));
        }

-- ---- the report

row_count_lem : {t : Table} {b : BoundTable} {m : List ℤ} {z : Sizes} {p : Lp} → Held t b m z p → z.less + z.equal ≡ length (rows p)
unfolding rows less_rows equal_rows
row_count_lem {t} {b} {m} {z} {p} h = omega (arith, length-append (less_rows p) (equal_rows p), h.rows.less_count, h.rows.equal_count)

last_line_lem : span_bytes last_line ≡ shown_line ending_line
unfolding span_bytes shown_line
last_line_lem = refl

report-parts : (p : Lp) → all_span_bytes (spans_of p) ≡ all_span_bytes (spans_from p 1 (rows p)) ++ shown_line ending_line
unfolding spans_of
report-parts p = bytes-append (spans_from p 1 (rows p)) (last_line ∷ []) ∙ ap (λ r. all_span_bytes (spans_from p 1 (rows p)) ++ r) (one_line last_line ∙ last_line_lem)

module _ (t : Table) (b : BoundTable) (m : List ℤ) (z : Sizes) where
  pub reports-none : (f : Bool) (l : List ℕ) (r : ℕ) (l' : List ℕ) → f ≡ within z → not f ≡ true → Reports t b m z l r l'
  reports-none f l r l' e n = record { lines = λ p h. never (sym (yes-within z (omega (arith, h.variables, h.few)) h.rows.room) ∙ sym e ∙ not-true f n) }
    where
      never : {A : Type 0} → ◌≡◌ {A = Bool} true false → A
      never q = cc

  pub reports-all : {l : List ℕ} {r : ℕ} {l' : List ℕ} {r' : ℕ} {l'' : List ℕ} → RowsWritten t b m z.less z.variables (z.less + z.equal) l 0 r l' → Written l' r (shown_line ending_line) r' l''
      → Reports t b m z l r' l''
  reports-all w v =
      record {
        lines = λ p h.
            rw (report-parts p)
            (written_then _ _ _ _ _ _ _ _ (w.lines p (record { sizes = z; held = h; lesses = refl; variables = h.variables }) (row_count_lem h)) v);
      }
