-- Laws of a walk for each number from one limit to another: its first number, and what comes after a thing that is reached at one
-- of its numbers.
use mathlib.Core.Path.{◌≡◌, refl, ◌∙◌, ap}
use mathlib.Core.Logic.{◌⊎◌, inl, inr}
use mathlib.Core.List.{List, [], ◌∷◌}
use Prim.Native.Nat.{ℕ, zero, suc, ◌+◌, ◌-◌, ◌<◌}
use native.Mathlib.Omega.{arith}
use lib.IntN.{ℤ, pos, negsuc, neg_ℤ, ◌+ℤ◌}
use lib.Signed.{◌≤ℤ◌}
use Rattle.rules.specs.declared.Refusal.{Refusal}
use Rattle.rational.specs.Integer.{up, down}
use Rattle.rational.proofs.Integer.{by_parts, add_parts, neg-up, neg-down, le_parts}
use Rattle.language.specs.Ranges.{up_from, range}
use Rattle.elements.specs.Elements.{Walked, finished, stopped, reaches, followed, chained, Behind}
use Rattle.elements.proofs.Walks.{After, behind-followed}

-- ---- ranges

pub up_is : (z : ℤ) (p q : ℕ) → up z + q ≡ p + down z → up z ≡ p - q
up_is (pos n) p q h = omega arith
up_is (negsuc n) p q h = omega arith

-- how many numbers a range has, by the parts of its limits
pub range_size : (a b : ℤ) → up (b +ℤ pos 1 +ℤ neg_ℤ a) ≡ up b + 1 + down a - (down b + up a)
range_size a b = up_is (b +ℤ pos 1 +ℤ neg_ℤ a) _ _ (omega (arith, add_parts b (pos 1), add_parts (b +ℤ pos 1) (neg_ℤ a), neg-up a, neg-down a))

pub range_none : (a b : ℤ) → (b +ℤ pos 1) ≤ℤ a → range a b ≡ []
range_none a b h =
    let e : up (b +ℤ pos 1 +ℤ neg_ℤ a) ≡ 0 = omega (arith, le_parts _ _ h, add_parts b (pos 1), range_size a b) in
    ap (up_from a) e

pub range-here : (a b : ℤ) → a ≤ℤ b → range a b ≡ a ∷ range (a +ℤ pos 1) b
range-here a b h =
    let e : up (b +ℤ pos 1 +ℤ neg_ℤ a) ≡ suc (up (b +ℤ pos 1 +ℤ neg_ℤ (a +ℤ pos 1))) = omega (arith, le_parts _ _ h, range_size a b, range_size (a +ℤ pos 1) b, add_parts a (pos 1)) in
    ap (up_from a) e

-- the n numbers behind k in a range
range-rest : (a b k : ℤ) (m n : ℕ) → m ≡ up (b +ℤ pos 1 +ℤ neg_ℤ a) → 0 < m → (k +ℤ pos 1 +ℤ pos n) ≡ (a +ℤ pos m) → up_from (k +ℤ pos 1) n ≡ range (k +ℤ pos 1) b
range-rest a b k m n s h c =
    let e : n ≡ up (b +ℤ pos 1 +ℤ neg_ℤ (k +ℤ pos 1)) = omega (arith, range_size a b, range_size (k +ℤ pos 1) b, add_parts (k +ℤ pos 1) (pos n), add_parts a (pos m), ap up c, ap down c) in
    ap (up_from (k +ℤ pos 1)) e

-- ---- a walk for each number

module _ {A : Type 0} (w : ℤ → Walked A) (k : ℤ) (ks : List ℤ) where
  -- the first number has nothing, a refusal, or something
  pub chained-finished : w k ≡ finished → chained w (k ∷ ks) ≡ chained w ks
  unfolding chained followed
  chained-finished e = rw e

  pub chained-stopped : (n : Refusal) (p : ℕ) → w k ≡ stopped n p → chained w (k ∷ ks) ≡ stopped n p
  unfolding chained followed
  chained-stopped n p e = rw e

  pub chained-reaches : (a : A) (v : Walked A) → w k ≡ reaches a v → chained w (k ∷ ks) ≡ reaches a (followed v (chained w ks))
  unfolding chained followed
  chained-reaches a v e = rw e

module _ {A : Type 0} (w : ℤ → Walked A) where
  -- of n numbers from c on, the one at which a is reached, and how many are behind it
  record Reached (c : ℤ) (n : ℕ) (a : A) (u : Walked A) : Type 0 where
    number : ℤ
    left : ℕ
    some : 0 < n
    counts : (number +ℤ pos 1 +ℤ pos left) ≡ (c +ℤ pos n)
    rest : Walked A
    behind : Behind (w number) a rest
    joins : u ≡ followed rest (chained w (up_from (number +ℤ pos 1) left))

  behind-up_from : (n : ℕ) (c : ℤ) (a : A) (u : Walked A) → Behind (chained w (up_from c n)) a u → Reached c n a u
  unfolding chained
  behind-up_from zero c a u h = absurd h
  behind-up_from (suc n) c a u h = go (behind-followed (w c) (chained w (up_from (c +ℤ pos 1) n)) a u h) (behind-up_from n (c +ℤ pos 1) a u)
    where
      one_less : (c +ℤ pos 1 +ℤ pos n) ≡ (c +ℤ pos (suc n))
      one_less = by_parts _ _ (omega (arith, add_parts (c +ℤ pos 1) (pos n), add_parts c (pos 1), add_parts c (pos (suc n))))

      go : After (w c) (chained w (up_from (c +ℤ pos 1) n)) a u ⊎ Behind (chained w (up_from (c +ℤ pos 1) n)) a u → (Behind (chained w (up_from (c +ℤ pos 1) n)) a u → Reached (c +ℤ pos 1) n a u) → Reached c (suc n) a u
      go (inl x) ih = record { number = c; left = n; some = omega arith; counts = one_less; rest = x.rest; behind = x.behind; joins = x.joins }
      go (inr x) ih =
          let r = ih x in
          record { number = r.number; left = r.left; some = omega arith; counts = r.counts ∙ one_less; rest = r.rest; behind = r.behind; joins = r.joins }

  -- a is reached at a number; what comes after it there, and then at the numbers behind
  pub record Within (b : ℤ) (a : A) (u : Walked A) : Type 0 where
    pub number : ℤ
    pub rest : Walked A
    pub behind : Behind (w number) a rest
    pub joins : u ≡ followed rest (chained w (range (number +ℤ pos 1) b))

  pub behind-range : (c b : ℤ) (a : A) (u : Walked A) → Behind (chained w (range c b)) a u → Within b a u
  behind-range c b a u h =
      let n : ℕ = up (b +ℤ pos 1 +ℤ neg_ℤ c) in
      let r = behind-up_from n c a u h in
      let e = range-rest c b r.number n r.left refl r.some r.counts in
      record { number = r.number; rest = r.rest; behind = r.behind; joins = r.joins ∙ ap (λ l. followed r.rest (chained w l)) e }
