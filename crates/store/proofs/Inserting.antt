-- Laws of an insertion: what the code answers, and what it means in a sorted table.
use mathlib.Core.Path.{◌≡◌, refl, sym, ◌∙◌, subst}
use mathlib.Core.Bool.{Bool, true, false}
use Prim.Native.Nat.{ℕ, ◌+◌, ◌<◌, ◌≤◌}
use native.Mathlib.Omega.{arith}
use borrow.Author.Tests.{lt-ltb, le-ltb, lt-leb, eq-eqb}
use lib.ListN.{length}
use Rattle.store.specs.declared.Key.{Key}
use Rattle.std.specs.Prelude.{Result, Ok, Err}
use Rattle.store.specs.declared.InsertError.{InsertError}
use Rattle.store.specs.declared.InsertError.TheVariants.{Present, NoRoom}
use Rattle.store.specs.Key.{key_number}
use Rattle.store.specs.Table.{Table, key_at, word_at, has_room, Sorted, lookup, rank_of, place_at, place_of, PlaceIs, row_set, Moved, Grown, insertion_at, insertion_of, Says, entered, Inserted}
use Rattle.store.proofs.Halving.{lookup-at, lookup-none, free-above, free-none, rank_between, place_is, free-rank}
use Rattle.store.proofs.Rows.{row-size, grown-insert, grown-sorted, grown-lookup}

-- ---- the answers of `insert`

module _ (t : Table) (n k w : ℕ) (r : Result ℕ ℕ) (h : r ≡ place_of t n k) where
  pub insert-present : (i : ℕ) → r ≡ Ok i → Inserted t n k w (Err Present) t
  unfolding insertion_of
  insert-present i e = record {
    size = refl;
    answer = rw (← h, e) refl;
    present = λ _. refl;
    no_room = λ _. refl;
    done = λ f. absurd (let z : ◌≡◌ {A = ℕ} 0 1 = cc in omega arith);
  }

  pub insert-no-room : (at : ℕ) → r ≡ Err at → length t ≤ n → Inserted t n k w (Err NoRoom) t
  unfolding insertion_of has_room
  insert-no-room at e f = record {
    size = refl;
    answer = rw (← h, e, le-ltb n (length t) f) refl;
    present = λ _. refl;
    no_room = λ _. refl;
    done = λ g. absurd (let z : ◌≡◌ {A = ℕ} 0 1 = cc in omega arith);
  }

  -- the place is among the rows, or behind the last
  pub free-within : (at : ℕ) → r ≡ Err at → at ≤ n
  free-within at e = rw (← (free-rank t n k at (sym e ∙ h))) at (rank_between t n k).within

pub insert-done : (t u : Table) (n : ℕ) (k : Key) (w : ℕ) (r : Result ℕ ℕ) (at : ℕ) → r ≡ place_of t n (key_number k) → r ≡ Err at → n < length t
    → Moved t at n u → Inserted t n (key_number k) w (Ok tt) (row_set u at k w)
unfolding insertion_of has_room
insert-done t u n k w r at h e f m = record {
  size = row-size u at k w ∙ m.size;
  answer = rw (← h, e, lt-ltb n (length t) f) refl;
  present = λ d. absurd (let z : ◌≡◌ {A = ℕ} 0 1 = cc in omega arith);
  no_room = λ d. absurd (let z : ◌≡◌ {A = ℕ} 0 1 = cc in omega arith);
  done = λ d.
      subst (λ p. Grown t n p (key_number k) w (row_set u at k w)) (free-rank t n (key_number k) at (sym e ∙ h))
      (grown-insert t u n at k w m (free-within t n (key_number k) w r h at e) f);
}

-- ---- in a sorted table

module _ (t : Table) (n k w : ℕ) (r : Result (Unit {0}) InsertError) (t' : Table) (f : Inserted t n k w r t') (s : Sorted t n) where
  -- a word is present exactly where the search from the front finds one
  pub inserted-says : Says r (lookup t n k) (has_room t n)
  unfolding insertion_of
  inserted-says = rw f.answer (go (place_of t n k) (place_is t n k) (has_room t n))
    where
      go : (p : Result ℕ ℕ) → PlaceIs t n k p → (b : Bool) → Says (insertion_at p b) (lookup t n k) b
      go (Ok i) g b = (word_at t i, lookup-at t n k s i g.0 g.1)
      go (Err at) g true = (lookup-none t n k (free-none t n k at s g.0 g.1), refl)
      go (Err at) g false = (lookup-none t n k (free-none t n k at s g.0 g.1), refl)

  module _ (d : r ≡ Ok tt) where
    free : rank_of t n k < n → key_at t (rank_of t n k) ≡ k → ⊥
    unfolding insertion_of place_of place_at
    free h g =
        let e : ◌≡◌ {A = Result (Unit {0}) InsertError} (Ok tt) (Err Present) = sym d ∙ f.answer ∙ rw (lt-leb n (rank_of t n k) h, eq-eqb (key_at t (rank_of t n k)) k g) refl in
        absurd (let z : ◌≡◌ {A = ℕ} 0 1 = cc in omega arith)

    above : (p : ℕ) → rank_of t n k ≤ p → p < n → k < key_at t p
    above = free-above t n k (rank_of t n k) s (rank_between t n k) free

    pub inserted-sorted : Sorted t' (n + 1)
    inserted-sorted = grown-sorted t n (rank_of t n k) k w t' (f.done d) s ((rank_between t n k).below s) above

    pub inserted-lookup : (q : ℕ) → lookup t' (n + 1) q ≡ entered k w (lookup t n) q
    inserted-lookup = grown-lookup t n (rank_of t n k) k w t' (f.done d) s ((rank_between t n k).below s) above
