-- Laws of a portion's entries over plain variables.
use Rattle.std.specs.Prelude.{None, Some}
use mathlib.Core.Path.{◌≡◌, refl, sym, ◌∙◌, ap}
use mathlib.Core.Bool.{Bool, true, false}
use mathlib.Core.List.{List, [], ◌∷◌, ◌++◌, map, append_assoc, append-nil}
use Rattle.std.proofs.lemmas.List.{length-map, map-set}
use Prim.Native.Nat.{ℕ, zero, suc, ◌+◌, ◌<◌, ◌≤◌}
use native.Mathlib.Omega.{arith}
use lib.Dec.{eqb}
use lib.ListN.{length, get_or, drop, set, get_or-map, drop_of_length-le}
use lib.Seq.{drop-cons}
use lib.IntN.{ℤ}
use Rattle.language.specs.Data.{Entry, fixed, marked, marks_of, position_of, positions_of, bound_of}
use Rattle.language.specs.Store.{set_at}
use Rattle.store.specs.Few.{items_of, one_more}
use Rattle.store.proofs.Fews.{length-few, map-more}
use Rattle.data.specs.declared.reading.few.Few.{Few}
use Rattle.data.specs.declared.reading.entries.Entry.{Entry as Held}
use Rattle.data.specs.declared.reading.entries.Entry.TheVariants.{Fixed, Marked}
use Rattle.data.specs.declared.reading.entries.Entries.{Entries}
use Rattle.data.specs.Reading.Few.{Holds, Keeps, Adds}
use Rattle.data.specs.Reading.Entries.{entry_of, entries_of, marks_index}
use Rattle.data.proofs.reading.Lists.{holds-keeps, keeps-holds, adds-keeps}

pub none-held : (e : Entries) → items_of e.entries ≡ [] → entries_of e ≡ []
unfolding entries_of
none-held e h = rw h refl

pub marks-other : (x : Held) (i : ℕ) (k : ℤ) → x ≡ Fixed k → false ≡ marks_index i (entry_of x)
marks-other x i k e = rw e refl

pub marks-same : (x : Held) (i j : ℕ) → x ≡ Marked j → eqb i j ≡ marks_index i (entry_of x)
marks-same x i j e = rw e refl

module _ (e : Entries) where
  length-is : length (entries_of e) ≡ length (items_of e.entries)
  unfolding entries_of
  length-is = length-map (items_of e.entries) entry_of

  pub entries-few : length (entries_of e) ≤ 4
  entries-few = omega (arith, length-is, length-few e.entries)

  pub entries-count : (n : ℕ) → n ≡ length (items_of e.entries) → n ≡ length (entries_of e)
  entries-count n d = d ∙ sym length-is

  -- the entry at a position
  pub entry-is : (i : ℕ) (x : Held) → x ≡ get_or (items_of e.entries) i (Marked 0) → entry_of x ≡ get_or (entries_of e) i (marked 0)
  unfolding entries_of
  entry-is i x d = ap entry_of d ∙ sym (get_or-map entry_of (items_of e.entries) i (Marked 0))

  -- one entry more
  pub entry-more : (x : Held) (r : Entries) → items_of r.entries ≡ one_more (items_of e.entries) x → entries_of r ≡ one_more (entries_of e) (entry_of x)
  unfolding entries_of
  entry-more x r d = ap (map entry_of) d ∙ map-more entry_of (items_of e.entries) x

  -- another entry at a position
  pub put-entry : (i : ℕ) (x : Held) (r : Entries) → items_of r.entries ≡ set (items_of e.entries) i x → entries_of r ≡ set (entries_of e) i (entry_of x)
  unfolding entries_of
  put-entry i x r d = ap (map entry_of) d ∙ map-set entry_of (items_of e.entries) i x

-- ---- what positions are bound to

bound-set : (l : List Entry) (j : ℕ) (k : ℤ) → bound_of (set l j (fixed k)) ≡ set_at j k (bound_of l)
unfolding bound_of set_at
bound-set [] j k = refl
bound-set (fixed x ∷ l) zero k = refl
bound-set (marked i ∷ l) zero k = refl
bound-set (fixed x ∷ l) (suc j) k = ap (λ m. Some x ∷ m) (bound-set l j k)
bound-set (marked i ∷ l) (suc j) k = ap (λ m. None ∷ m) (bound-set l j k)

pub fix-is : (e : Entries) (j : ℕ) (k : ℤ) (r : Entries) → items_of r.entries ≡ set (items_of e.entries) j (Fixed k) → bound_of (entries_of r) ≡ set_at j k (bound_of (entries_of e))
fix-is e j k r d = ap bound_of (put-entry e j (Fixed k) r d) ∙ bound-set (entries_of e) j k

-- ---- marks

pub entry_here : (l : List Entry) (k : ℕ) → k < length l → drop k l ≡ get_or l k (marked 0) ∷ drop (k + 1) l
entry_here l k h = let e : k + 1 ≡ suc k = omega arith in rw e (drop-cons l k (marked 0) h)

pub marks-length : (es : List Entry) → length (marks_of es) ≤ length es
unfolding marks_of
marks-length [] = omega arith
marks-length (fixed k ∷ es) = omega (arith, marks-length es)
marks-length (marked i ∷ es) = omega (arith, marks-length es)

-- the marks before position k are kept
pub record Marking (l : List Entry) (k : ℕ) (f : Few) : Type 0 where
  pub shown : List ℕ
  pub keeps : Keeps f shown
  pub all : shown ++ marks_of (drop k l) ≡ marks_of l

module _ (l : List Entry) where
  pub marking-start : (f : Few) → Holds f [] → Marking l 0 f
  marking-start f h = record { shown = []; keeps = holds-keeps f [] h; all = refl }

  pub marking-end : (n k : ℕ) (f : Few) → n ≡ length l → Marking l k f → n ≤ k → length l ≤ 4 → Holds f (marks_of l)
  unfolding marks_of
  marking-end n k f e m h g =
      keeps-holds f (marks_of l) (omega (arith, marks-length l)) (rw (← m.all, drop_of_length-le l {i = k} (omega arith), append-nil) m.keeps)

  module _ (n k : ℕ) (f : Few) (x : Held) (e : n ≡ length l) (m : Marking l k f) (h : k < n) (g : entry_of x ≡ get_or l k (marked 0)) where
    pub marking-fixed : (z : ℤ) → x ≡ Fixed z → Marking l (k + 1) f
    unfolding marks_of
    marking-fixed z d =
        let i : get_or l k (marked 0) ≡ fixed z = sym g ∙ ap entry_of d in
        record { shown = m.shown; keeps = m.keeps; all = ap (λ t. m.shown ++ marks_of t) (sym (entry_here l k (omega arith) ∙ ap (λ y. y ∷ drop (k + 1) l) i)) ∙ m.all }

    pub marking-marked : (i : ℕ) (r : Few) → x ≡ Marked i → Adds f i r → Marking l (k + 1) r
    unfolding marks_of
    marking-marked i r d a =
        let j : get_or l k (marked 0) ≡ marked i = sym g ∙ ap entry_of d in
        record {
          shown = m.shown ++ (i ∷ []);
          keeps = adds-keeps f i r a m.shown m.keeps;
          all = append_assoc m.shown (i ∷ []) (marks_of (drop (k + 1) l)) ∙ ap (λ t. m.shown ++ marks_of t) (sym (entry_here l k (omega arith) ∙ ap (λ y. y ∷ drop (k + 1) l) j)) ∙ m.all;
        }

-- ---- the position that an index marks

pub record Placing (l : List Entry) (i k : ℕ) : Type 0 where
  pub placing : position_of i (drop k l) k ≡ position_of i l 0

module _ (l : List Entry) (i : ℕ) where
  pub placing-start : Placing l i 0
  placing-start = record { placing = refl }

  pub placing-end : (n k : ℕ) → n ≡ length l → Placing l i k → n ≤ k → k ≤ n → n ≡ position_of i l 0
  unfolding position_of
  placing-end n k e p h g = let d : n ≡ k = omega arith in d ∙ sym (ap (λ t. position_of i t k) (drop_of_length-le l {i = k} (omega arith))) ∙ p.placing

  position-by : (x : Entry) (t : List Entry) (k : ℕ) (b : Bool) → marks_index i x ≡ b → position_of i (x ∷ t) k ≡ elim b as (λ _. ℕ) [ true ↦ k | false ↦ position_of i t (suc k) ]
  unfolding position_of
  position-by (fixed z) t k true e = absurd (let w : ◌≡◌ {A = ℕ} 0 1 = cc in omega arith)
  position-by (fixed z) t k false e = refl
  position-by (marked j) t k b e = ap (λ b. elim b as (λ _. ℕ) [ true ↦ k | false ↦ position_of i t (suc k) ]) e

  module _ (n k : ℕ) (x : Held) (b : Bool) (e : n ≡ length l) (p : Placing l i k) (h : k < n) (g : entry_of x ≡ get_or l k (marked 0)) (f : b ≡ marks_index i (entry_of x)) where
    placed_by : (c : Bool) → b ≡ c → position_of i (drop k l) k ≡ elim c as (λ _. ℕ) [ true ↦ k | false ↦ position_of i (drop (k + 1) l) (suc k) ]
    placed_by c d = ap (λ t. position_of i t k) (entry_here l k (omega arith)) ∙ position-by (get_or l k (marked 0)) (drop (k + 1) l) k c (ap (marks_index i) (sym g) ∙ sym f ∙ d)

    pub placing-found : b ≡ true → k ≡ position_of i l 0
    placing-found d = sym (placed_by true d) ∙ p.placing

    pub placing-on : b ≡ false → Placing l i (k + 1)
    placing-on d = let s : k + 1 ≡ suc k = omega arith in record { placing = ap (position_of i (drop (k + 1) l)) s ∙ sym (placed_by false d) ∙ p.placing }

-- ---- the positions of an order

pub positions-length : (l : List ℕ) (es : List Entry) → length (positions_of l es) ≡ length l
unfolding positions_of
positions-length [] es = refl
positions-length (i ∷ l) es = ap suc (positions-length l es)

pub record Ordering (l : List Entry) (o : List ℕ) (k : ℕ) (f : Few) : Type 0 where
  pub shown : List ℕ
  pub keeps : Keeps f shown
  pub all : shown ++ positions_of (drop k o) l ≡ positions_of o l

module _ (l : List Entry) (o : List ℕ) where
  pub ordering-start : (f : Few) → Holds f [] → Ordering l o 0 f
  ordering-start f h = record { shown = []; keeps = holds-keeps f [] h; all = refl }

  pub ordering-end : (n k : ℕ) (f : Few) → n ≡ length o → Ordering l o k f → n ≤ k → length o ≤ 4 → Holds f (positions_of o l)
  unfolding positions_of
  ordering-end n k f e m h g =
      keeps-holds f (positions_of o l) (omega (arith, positions-length o l)) (rw (← m.all, drop_of_length-le o {i = k} (omega arith), append-nil) m.keeps)

  pub ordering-on : (n k i p : ℕ) (f r : Few) → n ≡ length o → Ordering l o k f → k < n → i ≡ get_or o k 0 → p ≡ position_of i l 0 → Adds f p r → Ordering l o (k + 1) r
  unfolding positions_of
  ordering-on n k i p f r e m h g j a =
      let s : k + 1 ≡ suc k = omega arith in
      let d : drop k o ≡ i ∷ drop (k + 1) o = rw s (drop-cons o k 0 (omega arith) ∙ ap (λ y. y ∷ drop (suc k) o) (sym g)) in
      record {
        shown = m.shown ++ (p ∷ []);
        keeps = adds-keeps f p r a m.shown m.keeps;
        all = append_assoc m.shown (p ∷ []) (positions_of (drop (k + 1) o) l) ∙ ap (λ y. m.shown ++ (y ∷ positions_of (drop (k + 1) o) l)) j ∙ ap (λ t. m.shown ++ positions_of t l) (sym d) ∙ m.all;
      }
