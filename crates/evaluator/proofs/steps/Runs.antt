-- Laws of runs: bounds, lengths, the numbers of a run, and the domain test of one number.
use Rattle.std.specs.Prelude.{Err, Ok, Result}
use Rattle.rules.specs.declared.Refused.{Refused}
use mathlib.Core.Path.{◌≡◌, refl, sym, ◌∙◌, ap, subst}
use mathlib.Core.Bool.{Bool, true, false, cond, ◌&&◌, not}
use mathlib.Core.List.{List}
use Prim.Native.Nat.{ℕ, suc, ◌+◌, ◌^◌, ◌<◌, ◌≤◌}
use native.Mathlib.Omega.{arith}
use borrow.Author.Tests.{le-leb, lt-leb, leb-true, ltb-true, ltb-false, not-true, not-false}
use lib.Dec.{T, leb, ltb}
use lib.ListN.{length, get_or}
use lib.IntN.{ℤ, pos, negsuc, nat_abs, ◌+ℤ◌, ◌-ℤ◌, neg_ℤ}
use lib.Signed.{mag, lt_z, le_z, non_neg}
use mir.Syntax.{w64}
use mir.Val.{SFits, Fits, to_z, of_z}
use mir.Facts.{to_z-of_z, to_z_pos}
use Rattle.rules.specs.declared.Refusal.TheVariants.{BadIndex, NotWhole, Outside}
use Rattle.rules.specs.Limits.{mantissa_limit, run_limit, index_limit}
use Rattle.rational.specs.Integer.{up, down}
use Rattle.rational.proofs.Integer.{add_parts, neg-up, neg-down, le_parts, le_z-true}
use Rattle.value.proofs.Integers.{mag-le, nat_abs-add, nat_abs-sub, back}
use Rattle.value.proofs.Ranges.{and_right}
use Rattle.language.specs.Scope.{bound_to}
use Rattle.language.specs.Evaluation.{is_none, length_of, fresh, run_of}
use Rattle.evaluator.specs.declared.steps.scope.Scope.{Scope as Held}
use Rattle.evaluator.specs.declared.steps.values.Limits.{Limits}
use Rattle.evaluator.specs.declared.steps.values.Bounds.{Bounds}
use Rattle.evaluator.specs.Steps.Scopes.{bindings_of, bound_more, scope_of}
use Rattle.evaluator.specs.Steps.Values.{inside_limits, limits_in, SmallLimits, SmallSpan, count_of, run_answer, RunIs, number_in, Tests}

-- a number as it is read back
abbrev pub seen : ℤ → ℤ
seen k = to_z w64 (of_z w64 k)

-- ---- bounds

pub parts-size : (z : ℤ) → nat_abs z ≡ up z + down z
parts-size (pos n) = omega arith
parts-size (negsuc n) = omega arith

-- the order of the code's tests
lt_not_le : (a b : ℤ) → lt_z a b ≡ true → le_z b a ≡ false
lt_not_le (pos a) (pos b) e = lt-leb b a (ltb-true a b e)
lt_not_le (pos a) (negsuc b) e = absurd (let z : ◌≡◌ {A = ℕ} 0 1 = cc in omega arith)
lt_not_le (negsuc a) (pos b) e = refl
lt_not_le (negsuc a) (negsuc b) e = lt-leb a b (ltb-true b a e)

not-lt-le : (a b : ℤ) → lt_z a b ≡ false → le_z b a ≡ true
not-lt-le (pos a) (pos b) e = le-leb b a (ltb-false a b e)
not-lt-le (pos a) (negsuc b) e = refl
not-lt-le (negsuc a) (pos b) e = absurd (let z : ◌≡◌ {A = ℕ} 0 1 = cc in omega arith)
not-lt-le (negsuc a) (negsuc b) e = le-leb a b (ltb-false b a e)

module _ (k : ℤ) (h : SFits w64 k) where
  pub small_low : lt_z (seen k) (negsuc 999999998) ≡ true → false ≡ leb (nat_abs k) mantissa_limit
  unfolding mantissa_limit
  small_low e = go k (subst (λ z. lt_z z (negsuc 999999998) ≡ true) (to_z-of_z h) e)
    where
      go : (k : ℤ) → lt_z k (negsuc 999999998) ≡ true → false ≡ leb (nat_abs k) 999999999
      go (pos n) e = absurd (let z : ◌≡◌ {A = ℕ} 0 1 = cc in omega arith)
      go (negsuc n) e = sym (lt-leb (suc n) 999999999 (omega (arith, ltb-true 999999998 n e)))

  pub small-high : lt_z (seen k) (negsuc 999999998) ≡ false → le_z (seen k) (pos 999999999) ≡ leb (nat_abs k) mantissa_limit
  unfolding mantissa_limit
  small-high e = rw (to_z-of_z h) (go k (subst (λ z. lt_z z (negsuc 999999998) ≡ false) (to_z-of_z h) e))
    where
      go : (k : ℤ) → lt_z k (negsuc 999999998) ≡ false → le_z k (pos 999999999) ≡ leb (nat_abs k) 999999999
      go (pos n) e = refl
      go (negsuc n) e = sym (le-leb (suc n) 999999999 (omega (arith, ltb-false 999999998 n e)))

-- ---- the length of a run

module _ (a b : ℤ) (f : SFits w64 a) (g : SFits w64 b) (h : SmallSpan a b) where
  span-read : seen b -ℤ seen a ≡ b -ℤ a
  span-read = rw (to_z-of_z f, to_z-of_z g) refl

  pub span_fits : SFits w64 (seen b -ℤ seen a)
  unfolding mantissa_limit
  span_fits = rw span-read (record { sfits = omega (arith, mag-le (b -ℤ a), nat_abs-sub b a, h.low, h.high) })

  span-back : seen (seen b -ℤ seen a) ≡ b -ℤ a
  span-back = to_z-of_z span_fits ∙ span-read

  -- it is not below zero
  span-parts : (up b + down a + down (b -ℤ a) ≡ up (b -ℤ a) + (down b + up a)) × (down (b -ℤ a) ≡ 0)
  span-parts =
      let l = le_parts a b (le_z-true a b h.rises) in
      let s : up b + down a + down (b -ℤ a) ≡ up (b -ℤ a) + (down b + up a) = omega (arith, add_parts b (neg_ℤ a), neg-up a, neg-down a) in
      (s, one (b -ℤ a) (omega arith))
    where
      one : (z : ℤ) → down z ≤ up z → down z ≡ 0
      one (pos n) e = refl
      one (negsuc n) e = absurd (omega arith)

  pub span-count : nat_abs (seen (seen b -ℤ seen a)) + 1 ≡ up (b +ℤ pos 1 -ℤ a)
  span-count =
      let (s, z) = span-parts in
      rw span-back
      (let w : up (b +ℤ pos 1 -ℤ a) ≡ up (b -ℤ a) + 1 = go (b +ℤ pos 1 -ℤ a) (omega (arith, add_parts (b +ℤ pos 1) (neg_ℤ a), add_parts b (pos 1), neg-up a, neg-down a)) in
      omega (arith, parts-size (b -ℤ a)))
    where
      go : (z : ℤ) → up z ≡ up (b -ℤ a) + 1 + down z → up z ≡ up (b -ℤ a) + 1
      go (pos n) e = omega arith
      go (negsuc n) e = absurd (omega arith)

  pub span-cast : T (non_neg (seen (seen b -ℤ seen a))) × Fits w64 (nat_abs (seen (seen b -ℤ seen a)))
  unfolding mantissa_limit
  span-cast = rw span-back (go (b -ℤ a) span-parts.1, record { fits = omega (arith, nat_abs-sub b a, h.low, h.high) })
    where
      go : (z : ℤ) → down z ≡ 0 → T (non_neg z)
      go (pos n) e = tt
      go (negsuc n) e = absurd (omega arith)

  pub span-sum : Fits w64 (nat_abs (seen (seen b -ℤ seen a)) + 1)
  unfolding mantissa_limit
  span-sum = rw span-back (record { fits = omega (arith, nat_abs-sub b a, h.low, h.high) })

pub span_small : (a b : ℤ) (x y : Bool) → x ≡ leb (nat_abs a) mantissa_limit → not x ≡ false → y ≡ leb (nat_abs b) mantissa_limit → not y ≡ false → lt_z b a ≡ false → SmallSpan a b
span_small a b x y e f g h i =
    record {
      low = leb-true (nat_abs a) mantissa_limit (sym e ∙ not-false x f);
      high = leb-true (nat_abs b) mantissa_limit (sym g ∙ not-false y h);
      rises = not-lt-le b a i;
    }

module _ (k : ℤ) (x : Bool) (m : mag k < 2 ^ 63) (e : x ≡ leb (nat_abs (seen k)) mantissa_limit) where
  -- the test of a number that was read back
  test-is : x ≡ leb (nat_abs k) mantissa_limit
  test-is = e ∙ ap (λ z. leb (nat_abs z) mantissa_limit) (back {z = k} m)

  wide : not x ≡ true → leb (nat_abs k) mantissa_limit ≡ false
  wide f = sym test-is ∙ not-true x f

  small : not x ≡ false → leb (nat_abs k) mantissa_limit ≡ true
  small f = sym test-is ∙ not-false x f

module _ (l : Limits) where
  pub length_none : mag l.lower < 2 ^ 63 → mag l.upper < 2 ^ 63 → lt_z (seen l.upper) (seen l.lower) ≡ true → 0 ≡ count_of l
  unfolding count_of length_of
  length_none f g e =
      none (leb (nat_abs l.lower) mantissa_limit) (leb (nat_abs l.upper) mantissa_limit) _
      (go l.lower l.upper (subst (λ z. lt_z l.upper z ≡ true) (back {z = l.lower} f) (subst (λ z. lt_z z (seen l.lower) ≡ true) (back {z = l.upper} g) e)))
    where
      none : (x y : Bool) (n : ℕ) → n ≡ 0 → 0 ≡ cond x (cond y n 0) 0
      none true true n e = sym e
      none true false n e = refl
      none false y n e = refl

      up_none : (z : ℤ) → up z ≤ down z → up z ≡ 0
      up_none (pos n) e = omega arith
      up_none (negsuc n) e = refl

      below : (a b : ℤ) → lt_z b a ≡ true → up b + down a + 1 ≤ up a + down b
      below (pos a) (pos b) e = omega (arith, ltb-true b a e)
      below (negsuc a) (pos b) e = absurd (let z : ◌≡◌ {A = ℕ} 0 1 = cc in omega arith)
      below (pos a) (negsuc b) e = omega arith
      below (negsuc a) (negsuc b) e = omega (arith, ltb-true a b e)

      go : (a b : ℤ) → lt_z b a ≡ true → up (b +ℤ pos 1 -ℤ a) ≡ 0
      go a b e = up_none (b +ℤ pos 1 -ℤ a) (omega (arith, below a b e, add_parts (b +ℤ pos 1) (neg_ℤ a), add_parts b (pos 1), neg-up a, neg-down a))

  pub length-low : (x : Bool) → mag l.lower < 2 ^ 63 → x ≡ leb (nat_abs (seen l.lower)) mantissa_limit → not x ≡ true → 0 ≡ count_of l
  unfolding count_of
  length-low x m e f = rw (wide l.lower x m e f) refl

  pub length_high : (x : Bool) → mag l.upper < 2 ^ 63 → x ≡ leb (nat_abs (seen l.upper)) mantissa_limit → not x ≡ true → 0 ≡ count_of l
  unfolding count_of
  length_high x m e f = rw (wide l.upper x m e f) (none (leb (nat_abs l.lower) mantissa_limit))
    where
      none : (y : Bool) → ◌≡◌ {A = ℕ} 0 (cond y 0 0)
      none true = refl
      none false = refl

  pub length-span : (x y : Bool) (n : ℕ) → mag l.lower < 2 ^ 63 → mag l.upper < 2 ^ 63 → x ≡ leb (nat_abs (seen l.lower)) mantissa_limit → not x ≡ false
      → y ≡ leb (nat_abs (seen l.upper)) mantissa_limit → not y ≡ false → n ≡ up (seen l.upper +ℤ pos 1 -ℤ seen l.lower) → n ≡ count_of l
  unfolding count_of length_of
  length-span x y n f g a b c d e = e ∙ rw (back {z = l.lower} f, back {z = l.upper} g, small l.lower x f a b, small l.upper y g c d) refl

  count_small : SmallLimits l → count_of l ≡ length_of (limits_in l)
  unfolding count_of
  count_small h = rw (le-leb (nat_abs l.lower) mantissa_limit h.low, le-leb (nat_abs l.upper) mantissa_limit h.high) refl

-- ---- the run of an index

module _ (l : Limits) (i p n : ℕ) (s : Held) (h : n ≡ count_of l) where
  pub run_long : 256 < n → Err (record { refusal = NotWhole; place = p }) ≡ run_answer l i s p
  unfolding run_answer run_limit
  run_long e = rw (← h, lt-leb n 256 e) refl

  module _ (e : n ≤ 256) (b : Bool) (g : b ≡ (is_none (bound_to i (bindings_of s)) && ltb (length (bindings_of s)) index_limit)) where
    pub run-bound : not b ≡ true → Err (record { refusal = BadIndex; place = p }) ≡ run_answer l i s p
    unfolding run_answer run_limit
    run-bound f = rw (← h, le-leb n 256 e, ← g, not-true b f) refl

    pub run-count : not b ≡ false → Ok n ≡ run_answer l i s p
    unfolding run_answer run_limit
    run-count f = rw (← h, le-leb n 256 e, ← g, not-false b f) refl

-- what the answer says
pub run_is : (l : Limits) (i : ℕ) (s : Held) (p : ℕ) (r : Result ℕ Refused) → r ≡ run_answer l i s p → RunIs l i s p r
unfolding run_answer run_of fresh scope_of
run_is l i s p r h = rw h (go (leb (count_of l) run_limit) refl (is_none (bound_to i (bindings_of s)) && ltb (length (bindings_of s)) index_limit) refl)
  where
    go : (x : Bool) → leb (count_of l) run_limit ≡ x → (y : Bool) → (is_none (bound_to i (bindings_of s)) && ltb (length (bindings_of s)) index_limit) ≡ y
        → RunIs l i s p (cond x (cond y (Ok (count_of l)) (Err (record { refusal = BadIndex; place = p }))) (Err (record { refusal = NotWhole; place = p })))
    go false e y d = record {
      is = λ m known. rw (← (count_small l m), e) refl;
      count = λ m k f. absurd (let z : ◌≡◌ {A = ℕ} 0 1 = cc in omega arith);
      short = λ k f. absurd (let z : ◌≡◌ {A = ℕ} 0 1 = cc in omega arith);
      room = λ k f. absurd (let z : ◌≡◌ {A = ℕ} 0 1 = cc in omega arith);
    }
    go true e false d = record {
      is = λ m known. rw (← (count_small l m), e, d) refl;
      count = λ m k f. absurd (let z : ◌≡◌ {A = ℕ} 0 1 = cc in omega arith);
      short = λ k f. absurd (let z : ◌≡◌ {A = ℕ} 0 1 = cc in omega arith);
      room = λ k f. absurd (let z : ◌≡◌ {A = ℕ} 0 1 = cc in omega arith);
    }
    go true e true d = record {
      is = λ m known. rw (← (count_small l m), e, d) refl;
      count = λ m k f. let q : count_of l ≡ k = cc in sym q ∙ count_small l m;
      short = λ k f. let q : count_of l ≡ k = cc in rw q at (leb-true (count_of l) run_limit e);
      room = λ k f. and_right (is_none (bound_to i (bindings_of s))) _ d;
    }

-- ---- the numbers of a run

module _ (a : ℤ) (j : ℕ) (f : SFits w64 a) (h : nat_abs a ≤ mantissa_limit) (g : j ≤ run_limit) where
  pub nth-cast : SFits w64 (pos j)
  unfolding run_limit
  nth-cast = record { sfits = omega arith }

  nth_read : seen a +ℤ to_z w64 j ≡ a +ℤ pos j
  unfolding run_limit
  nth_read = rw (to_z-of_z f, to_z_pos w64 {n = j} (omega arith)) refl

  pub nth-fits : SFits w64 (seen a +ℤ to_z w64 j)
  unfolding mantissa_limit run_limit
  nth-fits = rw nth_read (record { sfits = omega (arith, mag-le (a +ℤ pos j), nat_abs-add a (pos j)) })

  pub nth-is : to_z w64 (of_z w64 (seen a +ℤ to_z w64 j)) ≡ a +ℤ pos j
  nth-is = to_z-of_z nth-fits ∙ nth_read

pub nth-may : (a : ℤ) (j : ℕ) (x : Bool) → x ≡ leb (nat_abs a) mantissa_limit → not x ≡ false → j ≤ 256 → (nat_abs a ≤ mantissa_limit) × (j ≤ run_limit)
unfolding run_limit
nth-may a j x e f g = (leb-true (nat_abs a) mantissa_limit (sym e ∙ not-false x f), g)

module _ (l : Limits) (j : ℕ) where
  pub nth-wide : (x : Bool) → mag l.lower < 2 ^ 63 → x ≡ leb (nat_abs (seen l.lower)) mantissa_limit → not x ≡ true → pos 0 ≡ number_in l j
  unfolding number_in
  nth-wide x m e f = rw (wide l.lower x m e f) refl

  pub nth_beyond : 256 < j → pos 0 ≡ number_in l j
  unfolding number_in run_limit
  nth_beyond e = rw (lt-leb j 256 e) (none (leb (nat_abs l.lower) mantissa_limit))
    where
      none : (x : Bool) → pos 0 ≡ cond x (pos 0) (pos 0)
      none true = refl
      none false = refl

  pub number_small : nat_abs l.lower ≤ mantissa_limit → j ≤ run_limit → number_in l j ≡ l.lower +ℤ pos j
  unfolding number_in
  number_small h g = rw (le-leb (nat_abs l.lower) mantissa_limit h, le-leb j run_limit g) refl

  pub nth_number : (x : Bool) (k : ℤ) → mag l.lower < 2 ^ 63 → x ≡ leb (nat_abs (seen l.lower)) mantissa_limit → not x ≡ false → j ≤ 256 → mag k < 2 ^ 63
      → k ≡ seen l.lower +ℤ pos j → seen k ≡ number_in l j
  unfolding number_in run_limit
  nth_number x k m a b c n e = back {z = k} n ∙ e ∙ ap (λ z. z +ℤ pos j) (back {z = l.lower} m) ∙ rw (small l.lower x m a b, le-leb j 256 c) refl

  pub nth-bound : (s : Held) (i : ℕ) (k : ℤ) (t : Held) → mag k < 2 ^ 63 → k ≡ number_in l j → bindings_of t ≡ bound_more i (seen k) (bindings_of s)
      → bindings_of t ≡ bound_more i (number_in l j) (bindings_of s)
  nth-bound s i k t n e g = g ∙ ap (λ z. bound_more i z (bindings_of s)) (back {z = k} n ∙ e)

-- ---- the domain test of one number

module _ (l : Limits) (k : ℤ) (m : mag k < 2 ^ 63) (f : mag l.lower < 2 ^ 63) where
  pub lies-below : lt_z (seen k) (seen l.lower) ≡ true → false ≡ inside_limits l k
  lies-below h = let d = lt_not_le k l.lower (rw (back {z = k} m, back {z = l.lower} f) at h) in rw d refl

  pub lies-above : lt_z (seen k) (seen l.lower) ≡ false → mag l.upper < 2 ^ 63 → le_z (seen k) (seen l.upper) ≡ inside_limits l k
  lies-above h g = let d = not-lt-le k l.lower (rw (back {z = k} m, back {z = l.lower} f) at h) in rw (back {z = k} m, back {z = l.upper} g, d) refl

module _ (s : Held) (ks : List ℤ) (j : ℕ) (b : Bounds) (p : ℕ) (k : ℤ) (e : k ≡ get_or ks j (pos 0)) (m : mag k < 2 ^ 63) (f : mag b.limits.lower < 2 ^ 63) where
  pub test_low : lt_z (seen k) (seen b.limits.lower) ≡ true → Tests s ks j b p (Err (record { refusal = Outside; place = p }))
  test_low h =
      let d = lt_not_le k b.limits.lower (rw (back {z = k} m, back {z = b.limits.lower} f) at h) in
      record { is = rw (← e) (rw d refl, refl, refl) }

  module _ (n : lt_z (seen k) (seen b.limits.lower) ≡ false) (g : mag b.limits.upper < 2 ^ 63) where
    above : le_z b.limits.lower k ≡ true
    above = not-lt-le k b.limits.lower (rw (back {z = k} m, back {z = b.limits.lower} f) at n)

    pub test-high : lt_z (seen b.limits.upper) (seen k) ≡ true → Tests s ks j b p (Err (record { refusal = Outside; place = p }))
    test-high h =
        let d = lt_not_le b.limits.upper k (rw (back {z = k} m, back {z = b.limits.upper} g) at h) in
        record { is = rw (← e) (rw (above, d) refl, refl, refl) }

    pub test-inside : lt_z (seen b.limits.upper) (seen k) ≡ false → (t : Held) → bindings_of t ≡ bound_more b.number (seen k) (bindings_of s) → Tests s ks j b p (Ok t)
    test-inside h t q =
        let d = not-lt-le b.limits.upper k (rw (back {z = k} m, back {z = b.limits.upper} g) at h) in
        record { is = rw (← e) (rw (above, d) refl, q ∙ rw (back {z = k} m) refl) }
