-- Laws of slots: one row more, written where it belongs; what is no row changes nothing.
use Rattle.std.specs.Prelude.{Option}
use mathlib.Core.Path.{◌≡◌, refl, sym, ◌∙◌, ap, subst}
use mathlib.Core.Bool.{Bool, true, false, cond}
use mathlib.Core.List.{List, [], ◌∷◌, ◌++◌, append-nil}
use mathlib.Core.Logic.{inl, inr}
use Prim.Native.Nat.{ℕ, zero, suc, ◌+◌, ◌-◌, ◌<◌, ◌≤◌}
use native.Mathlib.Omega.{arith}
use borrow.Author.Tests.{lt-ltb, le-ltb, ltb-true, ltb-false}
use lib.Dec.{ltb}
use lib.IntN.{ℤ}
use lib.ListN.{length, length-append}
use Rattle.rules.specs.Limits.{row_limit}
use Rattle.value.specs.declared.Value.{Value}
use Rattle.value.specs.Decimal.{Valid}
use Rattle.language.specs.Scope.{Scope}
use Rattle.language.specs.Syntax.{Relation}
use Rattle.language.specs.Syntax
use Rattle.language.specs.Valid.{ValidIfAny}
use Rattle.language.specs.Demand3.{FloorIs}
use Rattle.language.specs.Listed.{At}
use Rattle.language.proofs.Listed.{Split, at-append, at_length}
use Rattle.language.specs.Numbering.{Variable, Row, Entry, is_row, is_equal, keep, any_row, less_row, equal_row}
use Rattle.language.specs.Listing.{right_of, coefficients_of, kind_of, kind_by}
use Rattle.language.specs.Listing as Listing
use Rattle.store.specs.declared.Key.{Key}
use Rattle.store.specs.Key.{key_number, key_of}
use Rattle.store.specs.Table.{Table, nth_row, key_at, word_at, has_room, row_set, appended}
use Rattle.store.specs.Packed.{packed}
use Rattle.store.specs.Entries.{Keyed}
use Rattle.store.proofs.Rows.{grown-append, append-size, row_other}
use Rattle.rows.specs.Counts.{RowOf}
use Rattle.rows.specs.declared.Filled.{Filled}
use Rattle.rows.specs.Slots.{counts_at, objective_row, spare_row, ObjectiveHeld, floor_slot, floor_word, Slot, less_slot, equal_slot, next_slot, RowsHeld, one_more, counted_as, Entered, RowPut, Wrote}

-- ---- entries of a kind

module _ {A : Type 0} (f : A → Bool) where
  keep_append : (l m : List A) → keep f (l ++ m) ≡ keep f l ++ keep f m
  unfolding keep
  keep_append [] m = refl
  keep_append (a ∷ l) m = go (f a) (keep_append l m)
    where
      go : (t : Bool) → keep f (l ++ m) ≡ keep f l ++ keep f m
          → elim t [ true ↦ a ∷ keep f (l ++ m) | false ↦ keep f (l ++ m) ] ≡ elim t [ true ↦ a ∷ keep f l | false ↦ keep f l ] ++ keep f m
      go true e = ap (λ (x : List A). a ∷ x) e
      go false e = e

  keep_one : (a : A) → f a ≡ true → keep f (a ∷ []) ≡ a ∷ []
  unfolding keep
  keep_one a e = ap (λ (t : Bool). elim t [ true ↦ a ∷ [] | false ↦ [] ]) e

  keep-none : (a : A) → f a ≡ false → keep f (a ∷ []) ≡ []
  unfolding keep
  keep-none a e = ap (λ (t : Bool). elim t [ true ↦ a ∷ [] | false ↦ [] ]) e

  keep-more : (l : List A) (a : A) → f a ≡ true → keep f (l ++ (a ∷ [])) ≡ keep f l ++ (a ∷ [])
  keep-more l a e = keep_append l (a ∷ []) ∙ ap (λ (x : List A). keep f l ++ x) (keep_one a e)

  keep_same : (l : List A) (a : A) → f a ≡ false → keep f (l ++ (a ∷ [])) ≡ keep f l
  keep_same l a e = keep_append l (a ∷ []) ∙ ap (λ (x : List A). keep f l ++ x) (keep-none a e) ∙ append-nil (keep f l)

-- rows of both kinds together are all rows
pub rows-counted : (es : List Entry) → length (keep less_row es) + length (keep equal_row es) ≡ length (keep any_row es)
unfolding keep
rows-counted [] = refl
rows-counted (e ∷ es) = go (is_equal e.source.constraint.relation) (is_row e.fact) (rows-counted es)
  where
    go : (t u : Bool) → length (keep less_row es) + length (keep equal_row es) ≡ length (keep any_row es)
        → length {A = Entry} (elim (cond t false u) [ true ↦ e ∷ keep less_row es | false ↦ keep less_row es ])
        + length {A = Entry} (elim (cond t u false) [ true ↦ e ∷ keep equal_row es | false ↦ keep equal_row es ])
        ≡ length {A = Entry} (elim u [ true ↦ e ∷ keep any_row es | false ↦ keep any_row es ])
    go true true h = omega arith
    go true false h = h
    go false true h = omega arith
    go false false h = h

-- ---- a row of a table

module _ (t : Table) (s : ℕ) (k : Key) (w : ℕ) where
  row-kept : (p : ℕ) → (p ≡ s → ⊥) → nth_row (appended t s k w) p ≡ nth_row t p
  unfolding appended
  row-kept p d = go (has_room t s)
    where
      go : (b : Bool) → nth_row (cond b (row_set t s k w) t) p ≡ nth_row t p
      go true = row_other t s k w p d
      go false = refl

  key-put : (b : Bool) → has_room t s ≡ b → key_at (appended t s k w) s ≡ cond b (key_number k) (key_at t s)
  unfolding appended
  key-put true e = (grown-append t s k w e).key
  key-put false e = rw e refl

  word-put : (b : Bool) → has_room t s ≡ b → word_at (appended t s k w) s ≡ cond b w (word_at t s)
  unfolding appended
  word-put true e = (grown-append t s k w e).word
  word-put false e = rw e refl

  pub entered : Entered t s (key_number k) w (appended t s k w)
  unfolding key_at word_at
  entered =
      record {
        size = append-size t s k w;
        key = key-put (has_room t s) refl;
        word = word-put (has_room t s) refl;
        other_key = λ p d. rw (row-kept p d);
        other_word = λ p d. rw (word_at, row-kept p d);
      }

-- a row that lies in the table
module _ (t : Table) (s k w : ℕ) (t' : Table) (x : Entered t s k w t') (h : s < length t) where
  entered-key : key_at t' s ≡ k
  unfolding has_room
  entered-key = x.key ∙ rw (lt-ltb s (length t) h) refl

  entered-word : word_at t' s ≡ w
  unfolding has_room
  entered-word = x.word ∙ rw (lt-ltb s (length t) h) refl

-- ---- slots

module _ (less equal : ℕ) (h : less + equal < 512) where
  pub next-less : next_slot less equal false ≡ less
  unfolding next_slot less_slot row_limit
  next-less = rw (lt-ltb (less + equal) 512 h, next_slot)

  pub next-equal : next_slot less equal true ≡ 511 - equal
  unfolding next_slot equal_slot row_limit
  next-equal = rw (lt-ltb (less + equal) 512 h, next_slot) (omega arith)

pub next-spare : (less equal : ℕ) (b : Bool) → 512 ≤ less + equal → next_slot less equal b ≡ 513
unfolding next_slot spare_row row_limit
next-spare less equal b h = rw (le-ltb (less + equal) 512 h, next_slot)

-- a slot lies behind the objective's row only where it is the spare row
pub next-within : (less equal : ℕ) (b : Bool) → (next_slot less equal b ≤ 513) × (next_slot less equal b ≡ 512 → ⊥)
next-within less equal b = go (ltb (less + equal) 512) refl b
  where
    go : (t : Bool) → ltb (less + equal) 512 ≡ t → (b : Bool) → (next_slot less equal b ≤ 513) × (next_slot less equal b ≡ 512 → ⊥)
    go true e true = rw (next-equal less equal (ltb-true (less + equal) 512 e)) (omega arith, λ z. omega arith)
    go true e false = rw (next-less less equal (ltb-true (less + equal) 512 e)) (omega (arith, ltb-true (less + equal) 512 e), λ z. omega (arith, ltb-true (less + equal) 512 e))
    go false e b = rw (next-spare less equal b (ltb-false (less + equal) 512 e)) (omega arith, λ z. omega arith)

-- a row that has a slot stands before the objective's
pub next_low : (less equal : ℕ) (b : Bool) → less + equal < 512 → next_slot less equal b < 512
next_low less equal true h = rw (next-equal less equal h) (omega arith)
next_low less equal false h = rw (next-less less equal h) (omega arith)

-- the second row of a slot
module _ (k : ℕ) where
  pub floor-row : k < 514 → k + 514 ≡ floor_slot k
  unfolding floor_slot row_limit
  floor-row h = rw (lt-ltb k 514 h) (omega arith)

  pub floor-past : 514 ≤ k → 0 ≡ floor_slot k
  unfolding floor_slot row_limit
  floor-past h = rw (le-ltb k 514 h) refl

-- both rows of slot s written
module _ (t half t' : Table) (s k v w : ℕ) (x : Entered t s k v half) (y : Entered half (floor_slot s) k w t') (low : s < 512) where
  -- those of another slot
  pair-other : (i : ℕ) → i < 512 → (i ≡ s → ⊥) → (key_at t' i ≡ key_at t i) × (word_at t' i ≡ word_at t i) × (word_at t' (floor_slot i) ≡ word_at t (floor_slot i))
  pair-other i h d =
      let e : s + 514 ≡ floor_slot s = floor-row s (omega arith) in
      let f : i + 514 ≡ floor_slot i = floor-row i (omega arith) in (
        y.other_key i (λ z. omega arith) ∙ x.other_key i d,
        y.other_word i (λ z. omega arith) ∙ x.other_word i d,
        y.other_word (floor_slot i) (λ z. d (omega arith)) ∙ x.other_word (floor_slot i) (λ z. omega arith),
      )

  pair-here : 1026 ≤ length t → (key_at t' s ≡ k) × (word_at t' s ≡ v) × (word_at t' (floor_slot s) ≡ w)
  pair-here h =
      let e : s + 514 ≡ floor_slot s = floor-row s (omega arith) in (
        y.other_key s (λ z. omega arith) ∙ entered-key t s k v half x (omega arith),
        y.other_word s (λ z. omega arith) ∙ entered-word t s k v half x (omega arith),
        entered-word half (floor_slot s) k w t' y (omega (arith, x.size)),
      )

-- counted within the slots
pub one_more_lem : (n : ℕ) → n < 512 → one_more n ≡ n + 1
unfolding one_more row_limit
one_more_lem n h = rw (lt-ltb n 512 h)

-- the kind of a row, by its floor
kind-is : (r : Relation) (s : Scope) (w : Option Value) → FloorIs r s w → kind_of r ≡ cond (is_equal r) Listing.equal (kind_by w)
kind-is Syntax.at_most s w h = rw h refl
kind-is Syntax.at_least s w h = rw h refl
kind-is Syntax.equal s w h = refl
kind-is (Syntax.between g) s w h = rw h.1 refl

module _ (vs : List Variable) (t half t' : Table) (m m' : List ℤ) (s k v w : ℕ) (p : List ℤ) (x : Entered t s k v half) (y : Entered half (floor_slot s) k w t') (low : s < 512)
    (put : RowPut (length vs) m s p m') where
  slot_kept : (i : ℕ) (e : Entry) → i < 512 → (i ≡ s → ⊥) → Slot vs t m i e → Slot vs t' m' i e
  slot_kept i e b d h =
      let o = pair-other t half t' s k v w x y low i b d in
      record {
        keyed = h.keyed;
        key = o.0 ∙ h.key;
        valid = h.valid;
        right = o.1 ∙ h.right;
        kind = h.kind;
        valid_floor = h.valid_floor;
        floor = o.2 ∙ h.floor;
        row = subst (λ l. RowOf vs l (coefficients_of e.fact)) (sym (put.others i d)) h.row;
      }

  slot-new : (e : Entry) (c : Scope) → 1026 ≤ length t → Keyed e.source.ordinal e.source.element → k ≡ key_of e.source.ordinal e.source.element → Valid (right_of e.fact)
      → v ≡ packed (right_of e.fact) → FloorIs e.source.constraint.relation c e.floor → ValidIfAny e.floor → w ≡ floor_word e.floor → RowOf vs p (coefficients_of e.fact)
      → Slot vs t' m' s e
  slot-new e c size u a d b f g l r =
      let o = pair-here t half t' s k v w x y low size in
      record {
        keyed = u;
        key = o.0 ∙ a;
        valid = d;
        right = o.1 ∙ b;
        kind = kind-is e.source.constraint.relation c e.floor f;
        valid_floor = g;
        floor = o.2 ∙ l;
        row = subst (λ l. RowOf vs l (coefficients_of e.fact)) (sym put.here) r;
      }

  module _ (less equal : ℕ) (es : List Entry) (e : Entry) (h : RowsHeld vs t m less equal es) (room : less + equal < 512) (z : is_row e.fact ≡ true) (new : Slot vs t' m' s e) where
    -- of a kind that has a row more, whose slots are at `slot`
    rows_more : (f : Entry → Bool) (slot : ℕ → ℕ) → f e ≡ true → s ≡ slot (length (keep f es)) → ((i : ℕ) → i < length (keep f es) → (slot i < 512) × (slot i ≡ s → ⊥))
        → ((i : ℕ) (d : Entry) → At (keep f es) i d → Slot vs t m (slot i) d) → (i : ℕ) (d : Entry) → At (keep f (es ++ (e ∷ []))) i d → Slot vs t' m' (slot i) d
    rows_more f slot a b apart held i d at = go (at-append (keep f es) (e ∷ []) i d (subst (λ l. At l i d) (keep-more f es e a) at))
      where
        last : (j : ℕ) → i ≡ length (keep f es) + j → At (e ∷ []) j d → Slot vs t' m' (slot i) d
        last zero c k = let w : i ≡ length (keep f es) = omega arith in rw w (subst (λ x. Slot vs t' m' (slot (length (keep f es))) x) k (subst (λ x. Slot vs t' m' x e) b new))
        last (suc j) c k = absurd k

        go : Split (keep f es) (e ∷ []) i d → Slot vs t' m' (slot i) d
        go (inl k) = let o = apart i (at_length (keep f es) i d k) in slot_kept (slot i) d o.0 o.1 (held i d k)
        go (inr k) = last k.0 k.1 k.2

    -- and of the other kind
    rows_same : (f : Entry → Bool) (slot : ℕ → ℕ) → f e ≡ false → ((i : ℕ) → i < length (keep f es) → (slot i < 512) × (slot i ≡ s → ⊥))
        → ((i : ℕ) (d : Entry) → At (keep f es) i d → Slot vs t m (slot i) d) → (i : ℕ) (d : Entry) → At (keep f (es ++ (e ∷ []))) i d → Slot vs t' m' (slot i) d
    rows_same f slot a apart held i d at =
        let k = subst (λ l. At l i d) (keep_same f es e a) at in
        let o = apart i (at_length (keep f es) i d k) in
        slot_kept (slot i) d o.0 o.1 (held i d k)

    -- a row of `<=` or `>=`
    less-held : s ≡ less → is_equal e.source.constraint.relation ≡ false → RowsHeld vs t' m' (less + 1) equal (es ++ (e ∷ []))
    unfolding less_slot equal_slot row_limit
    less-held a q =
        let is : less_row e ≡ true = rw (q, z) refl in
        let not : equal_row e ≡ false = rw (q) refl in
        record {
          less_count = rw (keep-more less_row es e is, length-append (keep less_row es) (e ∷ [])) (omega (arith, h.less_count));
          equal_count = rw (keep_same equal_row es e not) h.equal_count;
          room = omega arith;
          less_rows = rows_more less_row less_slot is (a ∙ h.less_count) (λ i b. (omega (arith, h.less_count), λ c. omega (arith, h.less_count))) h.less_rows;
          equal_rows = rows_same equal_row equal_slot not (λ i b. (omega (arith, h.equal_count), λ c. omega (arith, h.equal_count))) h.equal_rows;
        }

    -- a row of `=`
    equal-held : s ≡ 511 - equal → is_equal e.source.constraint.relation ≡ true → RowsHeld vs t' m' less (equal + 1) (es ++ (e ∷ []))
    unfolding less_slot equal_slot row_limit
    equal-held a q =
        let is : equal_row e ≡ true = rw (q, z) refl in
        let not : less_row e ≡ false = rw (q) refl in
        record {
          less_count = rw (keep_same less_row es e not) h.less_count;
          equal_count = rw (keep-more equal_row es e is, length-append (keep equal_row es) (e ∷ [])) (omega (arith, h.equal_count));
          room = omega arith;
          less_rows = rows_same less_row less_slot not (λ i b. (omega (arith, h.less_count), λ c. omega (arith, h.less_count))) h.less_rows;
          equal_rows = rows_more equal_row equal_slot is (omega (arith, h.equal_count)) (λ i b. (omega (arith, h.equal_count), λ c. omega (arith, h.equal_count))) h.equal_rows;
        }

-- ---- what the code of slots answers

pub room-none : (less equal : ℕ) → 512 ≤ less → false ≡ ltb (less + equal) row_limit
unfolding row_limit
room-none less equal h = sym (le-ltb (less + equal) 512 (omega arith))

pub room-left : (less equal : ℕ) → less < 512 → ltb equal (512 - less) ≡ ltb (less + equal) row_limit
unfolding row_limit
room-left less equal h = go (ltb equal (512 - less)) refl
  where
    go : (b : Bool) → ltb equal (512 - less) ≡ b → b ≡ ltb (less + equal) 512
    go true e = sym (lt-ltb (less + equal) 512 (omega (arith, ltb-true equal (512 - less) e)))
    go false e = sym (le-ltb (less + equal) 512 (omega (arith, ltb-false equal (512 - less) e)))

module _ (less equal : ℕ) (r : Bool) (h : r ≡ ltb (less + equal) row_limit) where
  pub has-slot : r ≡ true → less + equal < 512
  unfolding row_limit
  has-slot e = ltb-true (less + equal) 512 (sym h ∙ e)

  pub slot-spare : (b : Bool) → r ≡ false → 513 ≡ next_slot less equal b
  unfolding row_limit
  slot-spare b e = sym (next-spare less equal b (ltb-false (less + equal) 512 (sym h ∙ e)))

  pub slot-equal : (b : Bool) → r ≡ true → b ≡ true → 511 - equal ≡ next_slot less equal b
  slot-equal b e d = sym (next-equal less equal (has-slot e)) ∙ ap (next_slot less equal) (sym d)

  pub slot-less : (b : Bool) → r ≡ true → b ≡ false → less ≡ next_slot less equal b
  slot-less b e d = sym (next-less less equal (has-slot e)) ∙ ap (next_slot less equal) (sym d)

pub more-counted : (n : ℕ) → n < 512 → n + 1 ≡ one_more n
more-counted n h = sym (one_more_lem n h)

pub none-counted : (n : ℕ) → 512 ≤ n → n ≡ one_more n
unfolding one_more row_limit
none-counted n h = rw (le-ltb n 512 h)

module _ (f : Filled) (b : Bool) (n : ℕ) where
  pub counted-equal : b ≡ true → n ≡ one_more f.equal → record { less = f.less; equal = n } ≡ counted_as f b
  unfolding counted_as
  counted-equal d e = rw (d, e)

  pub counted-less : b ≡ false → n ≡ one_more f.less → record { less = n; equal = f.equal } ≡ counted_as f b
  unfolding counted_as
  counted-less d e = rw (d, e)

module _ (f : Filled) (b : Bool) (r : Filled) (room : f.less + f.equal < 512) where
  counted-equal-is : b ≡ true → r ≡ counted_as f b → (r.less ≡ f.less) × (r.equal ≡ f.equal + 1)
  unfolding counted_as
  counted-equal-is d e = rw (e, d) (refl, one_more_lem f.equal (omega arith))

  counted-less-is : b ≡ false → r ≡ counted_as f b → (r.less ≡ f.less + 1) × (r.equal ≡ f.equal)
  unfolding counted_as
  counted-less-is d e = rw (e, d) (one_more_lem f.less (omega arith), refl)

pub wrote : (t half t' : Table) (f r : Filled) (b : Bool) (i : ℕ) (l : List ℤ) (v : Value) (s q u w : ℕ) (k : Key) → s ≡ next_slot f.less f.equal b → key_number k ≡ key_of i l
    → u ≡ packed v → half ≡ appended t s k u → q ≡ floor_slot s → t' ≡ appended half q k w → r ≡ counted_as f b → Wrote t f b i l v w r t'
wrote t half t' f r b i l v s q u w k hs hk hu hh hq ht hr =
    record { filled = hr; between = half; row = rw (sym hs, sym hk, sym hu, hh) (entered t s k u); floor = rw (sym hs, sym hq, sym hk, ht) (entered half q k w) }

-- ---- one entry more

module _ (vs : List Variable) (t : Table) (m : List ℤ) where
  pub rows_none : RowsHeld vs t m 0 0 []
  unfolding keep
  rows_none = record { less_count = refl; equal_count = refl; room = omega arith; less_rows = λ i e a. absurd a; equal_rows = λ i e a. absurd a }

  -- a bound is no row
  pub bound-passed : (less equal : ℕ) (es : List Entry) (e : Entry) → RowsHeld vs t m less equal es → is_row e.fact ≡ false → RowsHeld vs t m less equal (es ++ (e ∷ []))
  bound-passed less equal es e h z =
      record {
        less_count = rw (keep_same less_row es e not-less) h.less_count;
        equal_count = rw (keep_same equal_row es e not_equal) h.equal_count;
        room = h.room;
        less_rows = rw (keep_same less_row es e not-less) h.less_rows;
        equal_rows = rw (keep_same equal_row es e not_equal) h.equal_rows;
      }
    where
      go-less : (q : Bool) → cond q false (is_row e.fact) ≡ false
      go-less true = refl
      go-less false = z

      go-equal : (q : Bool) → cond q (is_row e.fact) false ≡ false
      go-equal true = z
      go-equal false = refl

      not-less : less_row e ≡ false
      not-less = go-less (is_equal e.source.constraint.relation)

      not_equal : equal_row e ≡ false
      not_equal = go-equal (is_equal e.source.constraint.relation)

  -- a row in its slot
  module _ (t' : Table) (m' p : List ℤ) (f r : Filled) (b : Bool) (es : List Entry) (e : Entry) where
    pub row-added : RowsHeld vs t m f.less f.equal es → f.less + f.equal < 512 → 1026 ≤ length t → is_row e.fact ≡ true → is_equal e.source.constraint.relation ≡ b
        → Keyed e.source.ordinal e.source.element → Valid (right_of e.fact) → (c : Scope) → FloorIs e.source.constraint.relation c e.floor → ValidIfAny e.floor
        → (w : ℕ) → w ≡ floor_word e.floor → Wrote t f b e.source.ordinal e.source.element (right_of e.fact) w r t'
        → RowPut (length vs) m (next_slot f.less f.equal b) p m' → RowOf vs p (coefficients_of e.fact) → RowsHeld vs t' m' r.less r.equal (es ++ (e ∷ []))
    row-added h room size z q keyed valid c fl vf w hw x put row = go b refl
      where
        low : next_slot f.less f.equal b < 512
        low = next_low f.less f.equal b room

        new : Slot vs t' m' (next_slot f.less f.equal b) e
        new = slot-new vs t x.between t' m m' _ _ _ w p x.row x.floor low put e c size keyed refl valid refl fl vf hw row

        go : (c : Bool) → b ≡ c → RowsHeld vs t' m' r.less r.equal (es ++ (e ∷ []))
        go true d =
            let (a, o) = counted-equal-is f b r room d x.filled in
            rw (a, o)
            (equal-held vs t x.between t' m m' _ _ _ w p x.row x.floor low put f.less f.equal es e h room z new
            (ap (next_slot f.less f.equal) d ∙ next-equal f.less f.equal room) (q ∙ d))
        go false d =
            let (a, o) = counted-less-is f b r room d x.filled in
            rw (a, o)
            (less-held vs t x.between t' m m' _ _ _ w p x.row x.floor low put f.less f.equal es e h room z new
            (ap (next_slot f.less f.equal) d ∙ next-less f.less f.equal room) (q ∙ d))

-- ---- the objective

module _ (vs : List Variable) (m m' p : List ℤ) where
  pub objective-put : (s : ℕ) (r : Row) → s ≡ 512 → RowPut (length vs) m s p m' → RowOf vs p r → ObjectiveHeld vs m' r
  unfolding objective_row row_limit
  objective-put s r e y h = record { row = subst (λ l. RowOf vs l r) (sym y.here ∙ ap (counts_at m' (length vs)) e) h }

  -- rows are written elsewhere
  pub objective-stays : (less equal : ℕ) (b : Bool) → RowPut (length vs) m (next_slot less equal b) p m' → counts_at m' (length vs) objective_row ≡ counts_at m (length vs) objective_row
  unfolding objective_row row_limit
  objective-stays less equal b y = y.others 512 (λ e. (next-within less equal b).1 (sym e))

pub objective-same : (vs : List Variable) (m m' : List ℤ) (r : Row) → counts_at m' (length vs) objective_row ≡ counts_at m (length vs) objective_row → ObjectiveHeld vs m r → ObjectiveHeld vs m' r
objective-same vs m m' r e h = record { row = subst (λ l. RowOf vs l r) (sym e) h.row }
