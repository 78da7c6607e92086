-- Laws of the search by halving: keys are compared word by word; a key bracketed in a sorted table; the row that a search from
-- the front finds; where halving ends, in any table.
use Rattle.std.specs.Prelude.{Option, Some, None, Result, Ok, Err}
use Rattle.std.specs.Result.{result_ok}
use mathlib.Core.Path.{◌≡◌, refl, sym, ◌∙◌, ap}
use mathlib.Core.Bool.{Bool, true, false, cond, ◌&&◌}
use mathlib.Core.Logic.{◌⊎◌, inl, inr, ⊎_elim}
use Prim.Native.Nat.{ℕ, zero, suc, ◌+◌, ◌-◌, ◌*◌, ◌<◌, ◌≤◌}
use native.Mathlib.Omega.{arith}
use native.Mathlib.Nat.{eq-or-lt_of_le}
use borrow.Author.Tests.{lt-ltb, le-ltb, ltb-true, ltb-false, le-leb, lt-leb, leb-true, leb-false, eq-eqb, ne_eqb, eqb-true, eqb-false}
use lib.Dec.{eqb, ltb, leb}
use Rattle.std.specs.Ordering.{nat_cmp, is_lt, is_some_and, partial_ordering_then}
use Rattle.store.specs.declared.Key.{Key}
use Rattle.store.specs.Key.{three_words, key_number}
use Rattle.store.specs.Table.{Table, key_at, word_at, Sorted, row_from, row_of, word_in, lookup, halfway, rank_in, rank_of, place_at, place_of, found_row, Finds, Between, PlaceIs}
use Rattle.store.proofs.Keys.{higher, nearer, three}

-- ---- three words as one number

module _ (h m l a b c : ℕ) where
  high-less : h < a → m < 18446744073709551616 → l < 18446744073709551616 → three_words h m l < three_words a b c
  unfolding three_words
  high-less u v w = higher 18446744073709551616 _ l _ c (higher 18446744073709551616 h m a b u v) w

  middle-less : h ≡ a → m < b → l < 18446744073709551616 → three_words h m l < three_words a b c
  unfolding three_words
  middle-less u v w = rw u (higher 18446744073709551616 _ l _ c (nearer (a * 18446744073709551616) v) w)

  low-less : h ≡ a → m ≡ b → l < c → three_words h m l < three_words a b c
  unfolding three_words
  low-less u v w = rw (u, v) (nearer ((a * 18446744073709551616 + b) * 18446744073709551616) w)

more : {x y : ℕ} → y < x → ltb x y ≡ false
more {x} {y} h = le-ltb x y (omega arith)

less-not-equal : {A : Type 0} {x y : ℕ} → x ≡ y → x < y → A
less-not-equal e h = absurd (omega arith)

module _ (h m l a b c : ℕ) (w : m < 18446744073709551616) (x : l < 18446744073709551616) (y : b < 18446744073709551616) (z : c < 18446744073709551616)
    (e : three_words h m l ≡ three_words a b c) where
  pub same-high : h ≡ a
  same-high = three h a (λ u. less-not-equal e (high-less h m l a b c u w x)) (λ u. u) (λ u. less-not-equal (sym e) (high-less a b c h m l u y z))

  pub same-middle : m ≡ b
  same-middle = three m b
      (λ u. less-not-equal e (middle-less h m l a b c same-high u x))
      (λ u. u)
      (λ u. less-not-equal (sym e) (middle-less a b c h m l (sym same-high) u z))

  pub same_low : l ≡ c
  same_low = three l c
      (λ u. less-not-equal e (low-less h m l a b c same-high same-middle u))
      (λ u. u)
      (λ u. less-not-equal (sym e) (low-less a b c h m l (sym same-high) (sym same-middle) u))

-- by the last word, where the others are equal
module _ (h m l a b c : ℕ) (p : h ≡ a) (q : m ≡ b) where
  last_less : ltb l c ≡ ltb (three_words h m l) (three_words a b c)
  last_less = three l c
      (λ u. lt-ltb l c u ∙ sym (lt-ltb _ _ (low-less h m l a b c p q u)))
      (λ u. rw (p, q, u) (le-ltb c c (omega arith) ∙ sym (le-ltb (three_words a b c) (three_words a b c) (omega arith))))
      (λ u. more u ∙ sym (more (low-less a b c h m l (sym p) (sym q) u)))

  last-equal : eqb l c ≡ eqb (three_words h m l) (three_words a b c)
  last-equal = three l c
      (λ u. ne_eqb l c (λ e. omega arith) ∙ sym (ne_eqb _ _ (λ e. less-not-equal e (low-less h m l a b c p q u))))
      (λ u. rw (p, q, u) (eq-eqb c c refl ∙ sym (eq-eqb (three_words a b c) (three_words a b c) refl)))
      (λ u. ne_eqb l c (λ e. omega arith) ∙ sym (ne_eqb _ _ (λ e. less-not-equal (sym e) (low-less a b c h m l (sym p) (sym q) u))))

-- two keys, word by word
module _ (x y : Key) (p : x.middle < 18446744073709551616) (q : x.low < 18446744073709551616) (r : y.middle < 18446744073709551616)
    (s : y.low < 18446744073709551616) where
  pub keys-same : (eqb x.high y.high && (eqb x.middle y.middle && eqb x.low y.low)) ≡ eqb (key_number x) (key_number y)
  unfolding key_number
  keys-same = by-high (eqb x.high y.high) refl
    where
      differ : (three_words x.high x.middle x.low ≡ three_words y.high y.middle y.low → ⊥) → false ≡ eqb (three_words x.high x.middle x.low) (three_words y.high y.middle y.low)
      differ f = sym (ne_eqb _ _ f)

      by-middle : x.high ≡ y.high → (b : Bool) → eqb x.middle y.middle ≡ b → (b && eqb x.low y.low) ≡ eqb (three_words x.high x.middle x.low) (three_words y.high y.middle y.low)
      by-middle h true e = last-equal _ _ _ _ _ _ h (eqb-true _ _ e)
      by-middle h false e = differ (λ f. eqb-false _ _ e (same-middle _ _ _ _ _ _ p q r s f))

      by-high : (b : Bool) → eqb x.high y.high ≡ b → (b && (eqb x.middle y.middle && eqb x.low y.low)) ≡ eqb (three_words x.high x.middle x.low) (three_words y.high y.middle y.low)
      by-high true e = by-middle (eqb-true _ _ e) (eqb x.middle y.middle) refl
      by-high false e = differ (λ f. eqb-false _ _ e (same-high _ _ _ _ _ _ p q r s f))

  -- by the first word that differs
  pub keys-less : is_some_and is_lt (partial_ordering_then (Some (nat_cmp x.high y.high)) (partial_ordering_then (Some (nat_cmp x.middle y.middle)) (Some (nat_cmp x.low y.low))))
      ≡ ltb (key_number x) (key_number y)
  unfolding key_number
  keys-less = three x.high y.high
      (λ u. rw (lt-ltb x.high y.high u) (sym (key-less (high-less x.high x.middle x.low y.high y.middle y.low u p q))))
      (λ u. rw (same-less u, eq-eqb x.high y.high u) (three x.middle y.middle
      (λ v. rw (lt-ltb x.middle y.middle v) (sym (key-less (middle-less x.high x.middle x.low y.high y.middle y.low u v q))))
      (λ v. rw (same-less v, eq-eqb x.middle y.middle v) (by-low ∙ last_less x.high x.middle x.low y.high y.middle y.low u v))
      (λ v. rw (more v, ne_eqb x.middle y.middle (λ e. omega arith)) (sym (key-more (middle-less y.high y.middle y.low x.high x.middle x.low (sym u) v s))))))
      (λ u. rw (more u, ne_eqb x.high y.high (λ e. omega arith)) (sym (key-more (high-less y.high y.middle y.low x.high x.middle x.low u r s))))
    where
      same-less : {a b : ℕ} → a ≡ b → ltb a b ≡ false
      same-less {a} {b} e = le-ltb a b (omega arith)

      key-less : three_words x.high x.middle x.low < three_words y.high y.middle y.low → ltb (key_number x) (key_number y) ≡ true
      key-less h = lt-ltb _ _ h

      key-more : three_words y.high y.middle y.low < three_words x.high x.middle x.low → ltb (key_number x) (key_number y) ≡ false
      key-more h = more h

      by-low : is_some_and is_lt (Some (nat_cmp x.low y.low)) ≡ ltb x.low y.low
      by-low = three x.low y.low
          (λ u. rw (lt-ltb x.low y.low u) refl)
          (λ u. rw (same-less u, eq-eqb x.low y.low u) refl)
          (λ u. rw (more u, ne_eqb x.low y.low (λ e. omega arith)) refl)

-- ---- a bracketed key

pub between_start : (t : Table) (n k : ℕ) → Between t n k 0 n
between_start t n k = record {
  ordered = omega arith;
  within = omega arith;
  below = λ s p h. absurd (omega arith);
  above = λ s p h g. absurd (omega arith);
}

module _ (t : Table) (n k from to m : ℕ) (b : Between t n k from to) (f : from ≤ m) (g : m < to) where
  up : key_at t m < k → Between t n k (m + 1) to
  up h = record {
    ordered = omega arith;
    within = b.within;
    below = λ s p y. ⊎_elim (λ e. rw e h) (λ z. omega (arith, s.rising p m z (omega (arith, b.within)), h)) (eq-or-lt_of_le {n = p} {m = m} (omega arith));
    above = b.above;
  }

  down : k ≤ key_at t m → Between t n k from m
  down h = record {
    ordered = f;
    within = omega (arith, b.within);
    below = b.below;
    above = λ s p y z. ⊎_elim (λ e. rw (← e) h) (λ w. omega (arith, s.rising m p w z, h)) (eq-or-lt_of_le {n = m} {m = p} y);
  }

  -- by the test of row m
  pub between-up : (r : Bool) → r ≡ ltb (key_at t m) k → r ≡ true → Between t n k (m + 1) to
  between-up r e a = up (ltb-true (key_at t m) k (sym e ∙ a))

  pub between-down : (r : Bool) → r ≡ ltb (key_at t m) k → r ≡ false → Between t n k from m
  between-down r e a = down (ltb-false (key_at t m) k (sym e ∙ a))

pub between-end : (t : Table) (n k from to : ℕ) → Between t n k from to → to ≤ from → Between t n k from from
between-end t n k from to b h = let e : to ≡ from = omega (arith, b.ordered) in rw e at b

-- ---- a free place

module _ (t : Table) (n k at : ℕ) (s : Sorted t n) (b : Between t n k at at) (f : at < n → key_at t at ≡ k → ⊥) where
  pub free-above : (p : ℕ) → at ≤ p → p < n → k < key_at t p
  free-above p y z = three k (key_at t p)
      (λ u. u)
      (λ u. ⊎_elim (λ e. absurd (f (omega arith) (rw e (sym u)))) (λ w. absurd (omega (arith, s.rising at p w z, b.above s at (omega arith) (omega arith)))) (eq-or-lt_of_le {n = at} {m = p} y))
      (λ u. absurd (omega (arith, b.above s p y z)))

  pub free-none : (p : ℕ) → p < n → key_at t p ≡ k → ⊥
  free-none p z e = three p at (λ y. omega (arith, b.below s p y)) (λ y. omega (arith, free-above p (omega arith) z)) (λ y. omega (arith, free-above p (omega arith) z))

-- ---- the row that a search from the front finds

module _ (t : Table) (k : ℕ) where
  from_at : (n i j : ℕ) → i ≤ j → j < i + n → ((p : ℕ) → i ≤ p → p < j → key_at t p ≡ k → ⊥) → key_at t j ≡ k → row_from t k i n ≡ Some j
  unfolding row_from
  from_at zero i j a b h e = absurd (omega arith)
  from_at (suc n) i j a b h e = ⊎_elim
      (λ w. rw (eq-eqb (key_at t i) k (rw w e)) (ap Some w))
      (λ w. rw (ne_eqb (key_at t i) k (h i (omega arith) w)) (from_at n (i + 1) j (omega arith) (omega arith) (λ p y z. h p (omega arith) z) e))
      (eq-or-lt_of_le {n = i} {m = j} a)

  from-none : (n i : ℕ) → ((p : ℕ) → i ≤ p → p < i + n → key_at t p ≡ k → ⊥) → row_from t k i n ≡ None
  unfolding row_from
  from-none zero i h = refl
  from-none (suc n) i h = rw (ne_eqb (key_at t i) k (h i (omega arith) (omega arith))) (from-none n (i + 1) (λ p y z. h p (omega arith) (omega arith)))

  -- a row has the key, or none has
  pub row-or-none : (n : ℕ) → ((i : ℕ) × (i < n) × (key_at t i ≡ k)) ⊎ ((p : ℕ) → p < n → key_at t p ≡ k → ⊥)
  row-or-none zero = inr (λ p h e. omega arith)
  row-or-none (suc n) = go (eqb (key_at t n) k) refl (row-or-none n)
    where
      go : (b : Bool) → eqb (key_at t n) k ≡ b → ((i : ℕ) × (i < n) × (key_at t i ≡ k)) ⊎ ((p : ℕ) → p < n → key_at t p ≡ k → ⊥)
          → ((i : ℕ) × (i < suc n) × (key_at t i ≡ k)) ⊎ ((p : ℕ) → p < suc n → key_at t p ≡ k → ⊥)
      go true e r = inl (n, omega arith, eqb-true (key_at t n) k e)
      go false e (inl r) = inl (r.0, omega (arith, r.1), r.2)
      go false e (inr r) = inr (λ p h f. ⊎_elim (λ w. eqb-false (key_at t n) k e (rw w at f)) (λ w. r p w f) (eq-or-lt_of_le {n = p} {m = n} (omega arith)))

module _ (t : Table) (n k : ℕ) where
  pub row_at : Sorted t n → (i : ℕ) → i < n → key_at t i ≡ k → row_of t n k ≡ Some i
  unfolding row_of
  row_at s i h e = from_at t k n 0 i (omega arith) (omega arith) (λ p y z w. omega (arith, s.rising p i z h)) e

  pub row-none : ((p : ℕ) → p < n → key_at t p ≡ k → ⊥) → row_of t n k ≡ None
  unfolding row_of
  row-none f = from-none t k n 0 (λ p y z. f p (omega arith))

  pub lookup-at : Sorted t n → (i : ℕ) → i < n → key_at t i ≡ k → lookup t n k ≡ Some (word_at t i)
  unfolding lookup word_in
  lookup-at s i h e = rw (row_at s i h e)

  pub lookup-none : ((p : ℕ) → p < n → key_at t p ≡ k → ⊥) → lookup t n k ≡ None
  unfolding lookup word_in
  lookup-none f = rw (row-none f)

-- ---- halving

module _ (t : Table) (k : ℕ) where
  -- more turns than rows make no difference
  rank-turns : (f g a b : ℕ) → b ≤ a + f → b ≤ a + g → rank_in t k f a b ≡ rank_in t k g a b
  unfolding rank_in
  rank-turns zero zero a b h j = refl
  rank-turns zero (suc g) a b h j = rw (le-ltb a b (omega arith))
  rank-turns (suc f) zero a b h j = rw (le-ltb a b (omega arith))
  rank-turns (suc f) (suc g) a b h j = go (λ c d u v. rank-turns f g c d u v) (ltb a b) refl (ltb (key_at t (halfway a b)) k)
    where
      go : ((c d : ℕ) → d ≤ c + f → d ≤ c + g → rank_in t k f c d ≡ rank_in t k g c d) → (x : Bool) → ltb a b ≡ x → (y : Bool)
          → cond x (cond y (rank_in t k f (halfway a b + 1) b) (rank_in t k f a (halfway a b))) a ≡ cond x (cond y (rank_in t k g (halfway a b + 1) b) (rank_in t k g a (halfway a b))) a
      go r true e true = r (halfway a b + 1) b (omega arith) (omega arith)
      go r true e false = let u = ltb-true a b e in r a (halfway a b) (omega arith) (omega arith)
      go r false e y = refl

  rank-done : (f a b : ℕ) → b ≤ a → rank_in t k f a b ≡ a
  unfolding rank_in
  rank-done zero a b h = refl
  rank-done (suc f) a b h = rw (le-ltb a b h)

  -- one turn, with as many behind it as there are rows
  rank-turn : (f a b : ℕ) → a < b → b ≤ a + f
      → rank_in t k f a b ≡ cond (ltb (key_at t (halfway a b)) k) (rank_in t k (b - (halfway a b + 1)) (halfway a b + 1) b) (rank_in t k (halfway a b - a) a (halfway a b))
  unfolding rank_in
  rank-turn zero a b h j = absurd (omega arith)
  rank-turn (suc f) a b h j = rw (lt-ltb a b h) (go (ltb (key_at t (halfway a b)) k))
    where
      go : (y : Bool) → cond y (rank_in t k f (halfway a b + 1) b) (rank_in t k f a (halfway a b))
          ≡ cond y (rank_in t k (b - (halfway a b + 1)) (halfway a b + 1) b) (rank_in t k (halfway a b - a) a (halfway a b))
      go true = rank-turns f (b - (halfway a b + 1)) (halfway a b + 1) b (omega arith) (omega arith)
      go false = rank-turns f (halfway a b - a) a (halfway a b) (omega arith) (omega arith)

  -- the loop of `rank`
  pub rank-start : (n : ℕ) → rank_in t k (n - 0) 0 n ≡ rank_of t n k
  unfolding rank_of
  rank-start n = rank-turns (n - 0) n 0 n (omega arith) (omega arith)

  module _ (n a b : ℕ) (i : rank_in t k (b - a) a b ≡ rank_of t n k) where
    pub rank_up : a < b → (r : Bool) → r ≡ ltb (key_at t (halfway a b)) k → r ≡ true → rank_in t k (b - (halfway a b + 1)) (halfway a b + 1) b ≡ rank_of t n k
    rank_up h r e f = sym (rank-turn (b - a) a b h (omega arith) ∙ rw (← e, f) refl) ∙ i

    pub rank_down : a < b → (r : Bool) → r ≡ ltb (key_at t (halfway a b)) k → r ≡ false → rank_in t k (halfway a b - a) a (halfway a b) ≡ rank_of t n k
    rank_down h r e f = sym (rank-turn (b - a) a b h (omega arith) ∙ rw (← e, f) refl) ∙ i

    pub rank-end : b ≤ a → a ≡ rank_of t n k
    rank-end h = sym (rank-done (b - a) a b h) ∙ i

module _ (t : Table) (n k : ℕ) where
  rank-in : (f a b : ℕ) → Between t n k a b → b ≤ a + f → Between t n k (rank_in t k f a b) (rank_in t k f a b)
  unfolding rank_in
  rank-in zero a b h j = between-end t n k a b h (omega arith)
  rank-in (suc f) a b h j = go (λ c d u v. rank-in f c d u v) (ltb a b) refl (ltb (key_at t (halfway a b)) k) refl
    where
      go : ((c d : ℕ) → Between t n k c d → d ≤ c + f → Between t n k (rank_in t k f c d) (rank_in t k f c d)) → (x : Bool) → ltb a b ≡ x → (y : Bool) → ltb (key_at t (halfway a b)) k ≡ y
          → Between t n k (cond x (cond y (rank_in t k f (halfway a b + 1) b) (rank_in t k f a (halfway a b))) a) (cond x (cond y (rank_in t k f (halfway a b + 1) b) (rank_in t k f a (halfway a b))) a)
      go r true e true d =
          let u = ltb-true a b e in
          r (halfway a b + 1) b (between-up t n k a b (halfway a b) h (omega arith) (omega arith) true (sym d) refl) (omega arith)
      go r true e false d =
          let u = ltb-true a b e in
          r a (halfway a b) (between-down t n k a b (halfway a b) h (omega arith) (omega arith) false (sym d) refl) (omega arith)
      go r false e y d = between-end t n k a b h (ltb-false a b e)

  -- in a sorted table the rank is the number of rows below k
  pub rank_between : Between t n k (rank_of t n k) (rank_of t n k)
  unfolding rank_of
  rank_between = rank-in n 0 n (between_start t n k) (omega arith)

  -- the answers of `locate`
  module _ (at : ℕ) (h : at ≡ rank_of t n k) where
    pub place-last : n ≤ at → Err at ≡ place_of t n k
    unfolding place_of place_at
    place-last g = rw (← h, le-leb n at g) refl

    pub place-taken : at < n → (r : Bool) → r ≡ eqb (key_at t at) k → r ≡ true → Ok at ≡ place_of t n k
    unfolding place_of place_at
    place-taken g r e f = rw (← h, lt-leb n at g, ← e, f) refl

    pub place-free : at < n → (r : Bool) → r ≡ eqb (key_at t at) k → r ≡ false → Err at ≡ place_of t n k
    unfolding place_of place_at
    place-free g r e f = rw (← h, lt-leb n at g, ← e, f) refl

  pub place_is : PlaceIs t n k (place_of t n k)
  unfolding place_of place_at
  place_is = go (leb n (rank_of t n k)) refl (eqb (key_at t (rank_of t n k)) k) refl
    where
      go : (x : Bool) → leb n (rank_of t n k) ≡ x → (y : Bool) → eqb (key_at t (rank_of t n k)) k ≡ y
          → PlaceIs t n k (cond x (Err (rank_of t n k)) (cond y (Ok (rank_of t n k)) (Err (rank_of t n k))))
      go true e y d = (rank_between, λ h f. omega (arith, leb-true n (rank_of t n k) e))
      go false e true d = (leb-false n (rank_of t n k) e, eqb-true (key_at t (rank_of t n k)) k d)
      go false e false d = (rank_between, λ h f. eqb-false (key_at t (rank_of t n k)) k d f)

  -- a free place is the rank
  pub free-rank : (at : ℕ) → Err at ≡ place_of t n k → at ≡ rank_of t n k
  unfolding place_of place_at
  free-rank at = go (leb n (rank_of t n k)) (eqb (key_at t (rank_of t n k)) k)
    where
      go : (x y : Bool) → Err at ≡ cond x (Err (rank_of t n k)) (cond y (Ok (rank_of t n k)) (Err (rank_of t n k))) → at ≡ rank_of t n k
      go true y e = cc
      go false true e = absurd (let z : ◌≡◌ {A = ℕ} 0 1 = cc in omega arith)
      go false false e = cc

  -- what `find` answers
  pub finds-row : (f : Option ℕ) → f ≡ found_row t n k → Finds t n k f
  unfolding found_row
  finds-row f e = rw e (go (place_of t n k) place_is)
    where
      go : (p : Result ℕ ℕ) → PlaceIs t n k p → Finds t n k (result_ok p)
      go (Ok i) g = record { within = λ j f. let w : i ≡ j = cc in omega (arith, g.0); is_row = λ s. sym (row_at t n k s i g.0 g.1) }
      go (Err at) g = record { within = λ j f. absurd (let w : ◌≡◌ {A = ℕ} 0 1 = cc in omega arith); is_row = λ s. sym (row-none t n k (free-none t n k at s g.0 g.1)) }

  -- the answers of `find_early`: a row that has the key, in a sorted table the only one
  pub finds-early : (i : ℕ) → i < n → (r : Bool) → r ≡ eqb (key_at t i) k → r ≡ true → Finds t n k (Some i)
  finds-early i h r e f = record { within = λ j g. let w : i ≡ j = cc in omega arith; is_row = λ s. sym (row_at t n k s i h (eqb-true (key_at t i) k (sym e ∙ f))) }

  pub finds-sorted : (f : Option ℕ) → Finds t n k f → Sorted t n → f ≡ found_row t n k
  finds-sorted f g s = g.is_row s ∙ sym ((finds-row (found_row t n k) refl).is_row s)

  -- in a sorted table the word there is the one that the search from the front finds
  pub found_word : Sorted t n → word_in t (found_row t n k) ≡ lookup t n k
  unfolding lookup
  found_word s = ap (word_in t) ((finds-row (found_row t n k) refl).is_row s)
