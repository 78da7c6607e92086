-- Laws of a part of a matrix that is lent and put back: its own row, and all others.
use mathlib.Core.Path.{◌≡◌, sym, ◌∙◌, ap}
use mathlib.Core.List.{List, ◌++◌}
use Prim.Native.Nat.{ℕ, ◌+◌, ◌-◌, ◌*◌, ◌<◌, ◌≤◌}
use native.Mathlib.Omega.{arith}
use lib.IntN.{ℤ}
use lib.ListN.{length, take, drop, length-drop, take-append-drop}
use lib.Seq.{take-append-le, drop-append-le, take_at, drop_at, length-take-le, drop-drop}
use borrow.Rule.Slice.PartMut.{put_mid, drop_put, same_len_mid, mid_len}
use Rattle.store.proofs.Keys.{three}
use Rattle.rules.specs.Limits.{variable_limit}
use Rattle.rows.specs.Slots.{counts_at, RowPut}

-- a part that lies within the first of two lists
near : (u q : List ℤ) (b k : ℕ) → b + k ≤ length u → take k (drop b (u ++ q)) ≡ take k (drop b u)
near u q b k h = rw (drop-append-le b u q (omega arith)) (take-append-le k (drop b u) q (omega (arith, length-drop b u)))

module _ (l p : List ℤ) (a e : ℕ) (h : a ≤ e) (g : e ≤ length l) (s : length p ≡ e - a) where
  part_same : take (e - a) (drop a (put_mid a (e - a) l p)) ≡ p
  part_same = rw (drop_at (take a l) (p ++ drop (e - a) (drop a l)) a (length-take-le a l (omega arith))) (take_at p _ (e - a) s)

  part-before : (b k : ℕ) → b + k ≤ a → take k (drop b (put_mid a (e - a) l p)) ≡ take k (drop b l)
  part-before b k m =
      let n : b + k ≤ length (take a l) = omega (arith, length-take-le a l (omega arith)) in
      near (take a l) (p ++ drop (e - a) (drop a l)) b k n ∙ sym (near (take a l) (drop a l) b k n) ∙ ap (λ (z : List ℤ). take k (drop b z)) (take-append-drop a l)

  part-after : (b k : ℕ) → take k (drop (e + b) (put_mid a (e - a) l p)) ≡ take k (drop (e + b) l)
  part-after b k =
      ap (λ (z : List ℤ). take k z) (sym (drop-drop b e (put_mid a (e - a) l p)) ∙ ap (λ (z : List ℤ). drop b z) (drop_put a e l p h g s) ∙ drop-drop b e l)

-- the first n counts of row s lent, as a part from a to e
module _ (m p : List ℤ) (n s a e : ℕ) (ha : a ≡ s * 512) (he : e ≡ a + n) (hn : n ≤ 512) (g : e ≤ length m) (f : length p ≡ length (take (e - a) (drop a m))) where
  lent-size : length p ≡ e - a
  lent-size = f ∙ mid_len a e m g

  part-size : length (put_mid a (e - a) m p) ≡ length m
  part-size = same_len_mid a (e - a) m p f

  counts-here : counts_at (put_mid a (e - a) m p) n s ≡ p
  unfolding counts_at variable_limit
  counts-here =
      let w : n ≡ e - a = omega arith in
      ap (λ (k : ℕ). take k (drop (s * 512) (put_mid a (e - a) m p))) w ∙ ap (λ (k : ℕ). take (e - a) (drop k (put_mid a (e - a) m p))) (sym ha)
      ∙ part_same m p a e (omega arith) g lent-size

  counts-other : (k : ℕ) → (k ≡ s → ⊥) → counts_at (put_mid a (e - a) m p) n k ≡ counts_at m n k
  unfolding counts_at variable_limit
  counts-other k d = three k s (λ h. before h) (λ h. absurd (d h)) (λ h. after h)
    where
      before : k < s → take n (drop (k * 512) (put_mid a (e - a) m p)) ≡ take n (drop (k * 512) m)
      before h = part-before m p a e (omega arith) g lent-size (k * 512) n (omega arith)

      after : s < k → take n (drop (k * 512) (put_mid a (e - a) m p)) ≡ take n (drop (k * 512) m)
      after h =
          let w : k * 512 ≡ e + (k * 512 - e) = omega arith in
          rw w (part-after m p a e (omega arith) g lent-size (k * 512 - e) n)

  pub row_put : RowPut n m s p (put_mid a (e - a) m p)
  row_put = record { size = part-size; here = counts-here; others = counts-other }
