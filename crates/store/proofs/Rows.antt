-- Laws of writing: a row written, rows moved up, and a table that has grown by a row at its place, which stays sorted and in
-- which every other key is found as before.
use Rattle.std.specs.Prelude.{Some}
use mathlib.Core.Path.{◌≡◌, refl, sym, ◌∙◌, ap}
use mathlib.Core.Bool.{Bool, true, false, cond}
use mathlib.Core.Logic.{⊎_elim}
use Prim.Native.Nat.{ℕ, ◌+◌, ◌-◌, ◌<◌, ◌≤◌}
use native.Mathlib.Omega.{arith}
use native.Mathlib.Nat.{eq-or-lt_of_le}
use borrow.Author.Tests.{lt-ltb, le-ltb, ltb-true, eqb-true, eqb-false}
use lib.Dec.{eqb, ltb}
use lib.ListN.{length, length-set}
use lib.Seq.{get_or-set_same, get_or-set_other}
use Rattle.store.specs.declared.Key.{Key}
use Rattle.store.specs.Key.{key_number}
use Rattle.store.specs.Table.{Table, no_row, nth_row, key_at, word_at, has_room, Sorted, row_of, lookup, row_set, appended, Moved, Grown, entered}
use Rattle.store.proofs.Keys.{as-less, three}
use Rattle.store.proofs.Halving.{row-or-none, row_at, row-none, lookup-at, lookup-none}

-- ---- a row written

module _ (t : Table) (i : ℕ) (k : Key) (w : ℕ) where
  pub row-size : length (row_set t i k w) ≡ length t
  unfolding row_set
  row-size = length-set t i _

  pub row_other : (p : ℕ) → (p ≡ i → ⊥) → nth_row (row_set t i k w) p ≡ nth_row t p
  unfolding row_set nth_row
  row_other p d = get_or-set_other t i p _ no_row (λ e. d (omega arith))

  row_here : i < length t → nth_row (row_set t i k w) i ≡ record { key = k; word = w }
  unfolding row_set nth_row
  row_here g = get_or-set_same t i _ no_row g

  module _ (g : i < length t) where
    row-key : key_at (row_set t i k w) i ≡ key_number k
    unfolding key_at
    row-key = rw (row_here g) refl

    row_word_lem : word_at (row_set t i k w) i ≡ w
    unfolding word_at
    row_word_lem = rw (word_at, row_here g) refl

  -- where row i lies in the table, and where not
  pub append-room : i < length t → row_set t i k w ≡ appended t i k w
  unfolding appended has_room
  append-room h = rw (lt-ltb i (length t) h)

  pub append-none : length t ≤ i → t ≡ appended t i k w
  unfolding appended has_room
  append-none h = rw (le-ltb i (length t) h)

  pub append-size : length (appended t i k w) ≡ length t
  unfolding appended
  append-size = go (has_room t i)
    where
      go : (b : Bool) → length (cond b (row_set t i k w) t) ≡ length t
      go true = row-size
      go false = refl

-- ---- a table that has grown

pub grown-append : (t : Table) (n : ℕ) (k : Key) (w : ℕ) → has_room t n ≡ true → Grown t n n (key_number k) w (appended t n k w)
unfolding appended has_room
grown-append t n k w e =
    let h = ltb-true n (length t) e in
    rw e record {
      within = omega arith;
      before = λ p a. row_other t n k w p (λ r. omega arith);
      key = row-key t n k w h;
      word = row_word_lem t n k w h;
      after = λ p a b. absurd (omega arith);
      behind = λ j f. row_other t n k w j (λ r. omega arith);
    }

pub grown-insert : (t u : Table) (n at : ℕ) (k : Key) (w : ℕ) → Moved t at n u → at ≤ n → n < length t
    → Grown t n at (key_number k) w (row_set u at k w)
grown-insert t u n at k w m a g = record {
  within = a;
  before = λ p b. row_other u at k w p (λ r. omega arith) ∙ m.before p (omega arith);
  key = row-key u at k w (omega (arith, m.size));
  word = row_word_lem u at k w (omega (arith, m.size));
  after = λ p b c. row_other u at k w (p + 1) (λ r. omega arith) ∙ m.moved p b c;
  behind = λ j f. row_other u at k w j (λ r. omega arith) ∙ m.behind j f;
}

module _ (t : Table) (n at k w : ℕ) (t' : Table) (g : Grown t n at k w t') where
  pub key-before : (p : ℕ) → p < at → key_at t' p ≡ key_at t p
  unfolding key_at
  key-before p h = rw (g.before p h)

  word-before : (p : ℕ) → p < at → word_at t' p ≡ word_at t p
  unfolding word_at
  word-before p h = rw (word_at, g.before p h)

  key-after : (p : ℕ) → at ≤ p → p < n → key_at t' (p + 1) ≡ key_at t p
  unfolding key_at
  key-after p h f = rw (g.after p h f)

  word_after : (p : ℕ) → at ≤ p → p < n → word_at t' (p + 1) ≡ word_at t p
  unfolding word_at
  word_after p h f = rw (word_at, g.after p h f)

  -- row p behind `at`, from the row that moved there
  key-later : (p : ℕ) → at < p → p ≤ n → key_at t' p ≡ key_at t (p - 1)
  key-later p h f = let e : p - 1 + 1 ≡ p = omega arith in rw e at (key-after (p - 1) (omega arith) (omega arith))

  -- where k belongs there
  module _ (s : Sorted t n) (b : (p : ℕ) → p < at → key_at t p < k) (a : (p : ℕ) → at ≤ p → p < n → k < key_at t p) where
    pub grown-sorted : Sorted t' (n + 1)
    grown-sorted = record {
      rising = λ p q u v. three p at
          (λ y. three q at
          (λ z. as-less (key-before p y) (key-before q z) (s.rising p q u (omega (arith, g.within))))
          (λ z. as-less (key-before p y) (ap (λ (j : ℕ). key_at t' j) z ∙ g.key) (b p y))
          (λ z. as-less (key-before p y) (key-later q z (omega arith)) (s.rising p (q - 1) (omega arith) (omega arith))))
          (λ y. as-less (ap (λ (j : ℕ). key_at t' j) y ∙ g.key) (key-later q (omega arith) (omega arith)) (a (q - 1) (omega arith) (omega arith)))
          (λ y. as-less (key-later p y (omega arith)) (key-later q (omega arith) (omega arith)) (s.rising (p - 1) (q - 1) (omega arith) (omega arith)));
    }

    -- no row has a key that no row had, and is not k
    grown-none : (q : ℕ) → (q ≡ k → ⊥) → ((p : ℕ) → p < n → key_at t p ≡ q → ⊥) → (p : ℕ) → p < n + 1 → key_at t' p ≡ q → ⊥
    grown-none q d f p h e = three p at
        (λ y. f p (omega (arith, g.within)) (sym (key-before p y) ∙ e))
        (λ y. d (sym e ∙ ap (λ (j : ℕ). key_at t' j) y ∙ g.key))
        (λ y. f (p - 1) (omega arith) (sym (key-later p y (omega arith)) ∙ e))

    pub grown-lookup : (q : ℕ) → lookup t' (n + 1) q ≡ entered k w (lookup t n) q
    unfolding entered
    grown-lookup q = go (eqb q k) refl
      where
        go : (x : Bool) → eqb q k ≡ x → lookup t' (n + 1) q ≡ cond x (Some w) (lookup t n q)
        go true e = lookup-at t' (n + 1) q grown-sorted at (omega (arith, g.within)) (g.key ∙ sym (eqb-true q k e)) ∙ ap Some g.word
        go false e = ⊎_elim
            (λ r. three r.0 at
            (λ y. lookup-at t' (n + 1) q grown-sorted r.0 (omega (arith, r.1)) (key-before r.0 y ∙ r.2) ∙ ap Some (word-before r.0 y) ∙ sym (lookup-at t n q s r.0 r.1 r.2))
            (λ y. later r (omega arith))
            (λ y. later r (omega arith)))
            (λ f. lookup-none t' (n + 1) q (grown-none q (eqb-false q k e) f) ∙ sym (lookup-none t n q f))
            (row-or-none t q n)
          where
            later : (r : (i : ℕ) × (i < n) × (key_at t i ≡ q)) → at ≤ r.0 → lookup t' (n + 1) q ≡ lookup t n q
            later r y =
                lookup-at t' (n + 1) q grown-sorted (r.0 + 1) (omega (arith, r.1)) (key-after r.0 y r.1 ∙ r.2)
                ∙ ap Some (word_after r.0 y r.1)
                ∙ sym (lookup-at t n q s r.0 r.1 r.2)

-- ---- a row behind the others

module _ (t : Table) (n k w : ℕ) (t' : Table) (g : Grown t n n k w t') (s : Sorted t n) (b : (p : ℕ) → p < n → key_at t p < k) where
  pub last-sorted : Sorted t' (n + 1)
  last-sorted = grown-sorted t n n k w t' g s b (λ p h f. absurd (omega arith))

  pub last_row : (q : ℕ) → row_of t' (n + 1) q ≡ cond (eqb q k) (Some n) (row_of t n q)
  last_row q = go (eqb q k) refl
    where
      go : (x : Bool) → eqb q k ≡ x → row_of t' (n + 1) q ≡ cond x (Some n) (row_of t n q)
      go true e = row_at t' (n + 1) q last-sorted n (omega arith) (g.key ∙ sym (eqb-true q k e))
      go false e = ⊎_elim
          (λ r. row_at t' (n + 1) q last-sorted r.0 (omega (arith, r.1)) (key-before t n n k w t' g r.0 r.1 ∙ r.2) ∙ sym (row_at t n q s r.0 r.1 r.2))
          (λ f. row-none t' (n + 1) q (grown-none t n n k w t' g s b (λ p h f. absurd (omega arith)) q (eqb-false q k e) f) ∙ sym (row-none t n q f))
          (row-or-none t q n)

-- a key above the last row's is above all
pub above-last : (t : Table) (n k : ℕ) → Sorted t n → (0 < n → key_at t (n - 1) < k) → (p : ℕ) → p < n → key_at t p < k
above-last t n k s h p f = ⊎_elim
    (λ e. rw e (h (omega arith)))
    (λ y. omega (arith, s.rising p (n - 1) y (omega arith), h (omega arith)))
    (eq-or-lt_of_le {n = p} {m = n - 1} (omega arith))

-- a row appended whose key is above the last
module _ (t : Table) (n : ℕ) (k : Key) (w : ℕ) (s : Sorted t n) (r : has_room t n ≡ true) (b : 0 < n → key_at t (n - 1) < key_number k) where
  pub append-sorted : Sorted (appended t n k w) (n + 1)
  append-sorted = last-sorted t n (key_number k) w (appended t n k w) (grown-append t n k w r) s (above-last t n (key_number k) s b)

  pub append-lookup : (q : ℕ) → lookup (appended t n k w) (n + 1) q ≡ entered (key_number k) w (lookup t n) q
  append-lookup =
      grown-lookup t n n (key_number k) w (appended t n k w) (grown-append t n k w r) s (above-last t n (key_number k) s b) (λ p h f. absurd (omega arith))

-- row n of a table of r rows
pub room-rows : (t : Table) (n r : ℕ) → length t ≡ r → has_room t n ≡ ltb n r
unfolding has_room
room-rows t n r e = rw e
