-- Laws of at most four numbers over plain variables.
use mathlib.Core.Path.{◌≡◌, refl, sym, ◌∙◌, ap}
use mathlib.Core.Bool.{Bool, true, false, cond, ◌&&◌}
use mathlib.Core.List.{List, [], ◌∷◌, ◌++◌}
use mathlib.Core.Logic.{◌⊎◌, inl, inr}
use Prim.Native.Nat.{ℕ, zero, suc, ◌+◌, min, ◌<◌, ◌≤◌}
use native.Mathlib.Omega.{arith}
use borrow.Author.Tests.{eq-eqb, ne_eqb, lt-ltb, le-ltb}
use lib.Dec.{eqb}
use Rattle.std.proofs.lemmas.List.{length-set, take_more_set}
use lib.ListN.{length, get_or, set, take, drop, length-take, length-append, get_or-eq_default, drop_of_length-le}
use lib.Seq.{take_all, get_or-take, drop-cons}
use Rattle.language.specs.Declarations.{is_in}
use Rattle.language.specs.Data.{no_repeats, all_in, rearranges}
use Rattle.data.specs.declared.reading.few.Few.{Few}
use Rattle.data.specs.Reading.Few.{numbers_of, Holds, Keeps, Adds, rearranges_kept, Rearranges}

-- ---- the numbers that are kept

pub holds-none : (l : List ℕ) → Holds (record { count = 0; numbers = l }) []
unfolding numbers_of
holds-none l = record { count = refl; numbers = refl }

pub holds-keeps : (f : Few) (l : List ℕ) → Holds f l → Keeps f l
holds-keeps f l h = record { all = λ g. (h.count, h.numbers); more = λ g. omega (arith, h.count) }

pub keeps-holds : (f : Few) (l : List ℕ) → length l ≤ 4 → Keeps f l → Holds f l
keeps-holds f l g k = record { count = (k.all g).0; numbers = (k.all g).1 }

few-or-more : (n : ℕ) → (n ≤ 4) ⊎ (4 < n)
few-or-more zero = inl (omega arith)
few-or-more (suc zero) = inl (omega arith)
few-or-more (suc (suc zero)) = inl (omega arith)
few-or-more (suc (suc (suc zero))) = inl (omega arith)
few-or-more (suc (suc (suc (suc zero)))) = inl (omega arith)
few-or-more (suc (suc (suc (suc (suc n))))) = inr (omega arith)

module _ (f : Few) where
  length-within : length (numbers_of f) ≤ f.count
  unfolding numbers_of
  length-within = simp length-take (omega arith)

  pub length-few : length (numbers_of f) ≤ 4
  unfolding numbers_of
  length-few = simp length-take (omega arith)

  pub at-past : (n i : ℕ) → n ≡ length (numbers_of f) → n ≤ i → 0 ≡ get_or (numbers_of f) i 0
  at-past n i e h = sym (get_or-eq_default (numbers_of f) 0 {n = i} (omega arith))

  pub at-kept : (n i : ℕ) → n ≡ length (numbers_of f) → i < n → get_or f.numbers i 0 ≡ get_or (numbers_of f) i 0
  unfolding numbers_of
  at-kept n i e h = sym (get_or-take f.count (take 4 f.numbers) i 0 (omega (arith, length-within)) ∙ get_or-take 4 f.numbers i 0 (omega (arith, length-few)))

  pub length-count : (n : ℕ) → length f.numbers ≡ 4 → n ≡ min f.count 4 → n ≡ length (numbers_of f)
  unfolding numbers_of
  length-count n full e = e ∙ simp length-take (omega arith)

  -- one number more
  module _ (i : ℕ) where
    pub with-room : length f.numbers ≡ 4 → f.count < 4 → Adds f i (record { count = f.count + 1; numbers = set f.numbers f.count i })
    unfolding numbers_of
    with-room full h =
        record {
          count = rw (lt-ltb f.count 4 h) refl;
          numbers = rw (lt-ltb f.count 4 h, take_all 4 (set f.numbers f.count i) (omega (arith, length-set f.numbers f.count i)), take_all 4 f.numbers (omega arith)) (take_more_set f.numbers f.count i (omega arith));
        }

    pub with-more : 4 ≤ f.count → Adds f i (record { count = 5; numbers = f.numbers })
    unfolding numbers_of
    with-more h = record { count = rw (le-ltb f.count 4 h) refl; numbers = rw (le-ltb f.count 4 h) (all 5 (omega arith) ∙ sym (all f.count h)) }
      where
        all : (n : ℕ) → 4 ≤ n → take n (take 4 f.numbers) ≡ take 4 f.numbers
        all n h = take_all n (take 4 f.numbers) (simp length-take (omega arith))

    -- of a list that is kept
    module _ (r : Few) (w : Adds f i r) (l : List ℕ) (k : Keeps f l) where
      longer : length (l ++ (i ∷ [])) ≡ length l + 1
      longer = length-append l (i ∷ [])

      pub adds-keeps : Keeps r (l ++ (i ∷ []))
      adds-keeps = go (few-or-more (f.count + 1)) (few-or-more (length l))
        where
          go : (f.count + 1 ≤ 4) ⊎ (4 < f.count + 1) → (length l ≤ 4) ⊎ (4 < length l) → Keeps r (l ++ (i ∷ []))
          go (inl a) (inl b) =
              let c : r.count ≡ f.count + 1 = w.count ∙ rw (lt-ltb f.count 4 (omega arith)) refl in
              let n : numbers_of r ≡ numbers_of f ++ (i ∷ []) = w.numbers ∙ rw (lt-ltb f.count 4 (omega arith)) refl in
              let e = (k.all b).0 in
              record { all = λ g. (omega (arith, longer, e), n ∙ ap (λ l. l ++ (i ∷ [])) (k.all b).1); more = λ g. omega (arith, longer, e) }
          go (inl a) (inr b) = absurd (omega (arith, k.more b))
          go (inr a) (inl b) =
              let c : r.count ≡ 5 = w.count ∙ rw (le-ltb f.count 4 (omega arith)) refl in
              let e = (k.all b).0 in
              record { all = λ g. absurd (omega (arith, longer, e)); more = λ g. omega arith }
          go (inr a) (inr b) =
              let c : r.count ≡ 5 = w.count ∙ rw (le-ltb f.count 4 (omega arith)) refl in
              record { all = λ g. absurd (omega (arith, longer)); more = λ g. omega arith }

-- ---- tests

here : (l : List ℕ) (k : ℕ) → k < length l → drop k l ≡ get_or l k 0 ∷ drop (k + 1) l
here l k h = let e : k + 1 ≡ suc k = omega arith in rw e (drop-cons l k 0 h)

-- is x there from position k on, as from position `start` on
pub record Seeks (l : List ℕ) (x start k : ℕ) : Type 0 where
  pub seeks : is_in x (drop k l) ≡ is_in x (drop start l)

module _ (l : List ℕ) (x start : ℕ) where
  pub seeks-start : Seeks l x start start
  seeks-start = record { seeks = refl }

  pub seeks-none : (n k : ℕ) → n ≡ length l → Seeks l x start k → n ≤ k → false ≡ is_in x (drop start l)
  unfolding is_in
  seeks-none n k e s h = sym (ap (is_in x) (drop_of_length-le l {i = k} (omega arith))) ∙ s.seeks

  is-in : (k : ℕ) (b : Bool) → k < length l → eqb x (get_or l k 0) ≡ b → is_in x (drop k l) ≡ elim b as (λ _. Bool) [ true ↦ true | false ↦ is_in x (drop (k + 1) l) ]
  unfolding is_in
  is-in k b h e = ap (is_in x) (here l k h) ∙ ap (λ b. elim b as (λ _. Bool) [ true ↦ true | false ↦ is_in x (drop (k + 1) l) ]) e

  module _ (n k y : ℕ) (e : n ≡ length l) (s : Seeks l x start k) (h : k < n) (f : y ≡ get_or l k 0) where
    pub seeks-found : x ≡ y → true ≡ is_in x (drop start l)
    seeks-found g = sym (is-in k true (omega arith) (eq-eqb x (get_or l k 0) (g ∙ f))) ∙ s.seeks

    pub seeks-on : (x ≡ y → ⊥) → Seeks l x start (k + 1)
    seeks-on g = record { seeks = sym (is-in k false (omega arith) (ne_eqb x (get_or l k 0) (λ d. g (d ∙ sym f)))) ∙ s.seeks }

-- no number is there twice from position k on, as in all
pub record Single (l : List ℕ) (k : ℕ) : Type 0 where
  pub single : no_repeats (drop k l) ≡ no_repeats l

module _ (l : List ℕ) where
  pub single-start : Single l 0
  single-start = record { single = refl }

  pub single-end : (n k : ℕ) → n ≡ length l → Single l k → n ≤ k → true ≡ no_repeats l
  unfolding no_repeats
  single-end n k e s h = sym (ap no_repeats (drop_of_length-le l {i = k} (omega arith))) ∙ s.single

  no-repeats : (k : ℕ) (b : Bool) → k < length l → is_in (get_or l k 0) (drop (k + 1) l) ≡ b
      → no_repeats (drop k l) ≡ elim b as (λ _. Bool) [ true ↦ false | false ↦ no_repeats (drop (k + 1) l) ]
  unfolding no_repeats
  no-repeats k b h e = ap no_repeats (here l k h) ∙ ap (λ b. elim b as (λ _. Bool) [ true ↦ false | false ↦ no_repeats (drop (k + 1) l) ]) e

  module _ (n k x : ℕ) (b : Bool) (e : n ≡ length l) (s : Single l k) (h : k < n) (f : x ≡ get_or l k 0) (g : b ≡ is_in x (drop (k + 1) l)) where
    pub single-not : b ≡ true → false ≡ no_repeats l
    single-not i = sym (no-repeats k true (omega arith) (ap (λ y. is_in y (drop (k + 1) l)) (sym f) ∙ sym g ∙ i)) ∙ s.single

    pub single-on : b ≡ false → Single l (k + 1)
    single-on i = record { single = sym (no-repeats k false (omega arith) (ap (λ y. is_in y (drop (k + 1) l)) (sym f) ∙ sym g ∙ i)) ∙ s.single }

-- each number from position k on is among the others, as all are
pub record Among (l m : List ℕ) (k : ℕ) : Type 0 where
  pub among : all_in (drop k l) m ≡ all_in l m

module _ (l m : List ℕ) where
  pub among-start : Among l m 0
  among-start = record { among = refl }

  pub among-end : (n k : ℕ) → n ≡ length l → Among l m k → n ≤ k → true ≡ all_in l m
  unfolding all_in
  among-end n k e s h = sym (ap (λ l. all_in l m) (drop_of_length-le l {i = k} (omega arith))) ∙ s.among

  all_in_lem : (k : ℕ) (b : Bool) → k < length l → is_in (get_or l k 0) m ≡ b → all_in (drop k l) m ≡ elim b as (λ _. Bool) [ true ↦ all_in (drop (k + 1) l) m | false ↦ false ]
  unfolding all_in
  all_in_lem k b h e = ap (λ l. all_in l m) (here l k h) ∙ ap (λ b. elim b as (λ _. Bool) [ true ↦ all_in (drop (k + 1) l) m | false ↦ false ]) e

  module _ (n k x : ℕ) (b : Bool) (e : n ≡ length l) (s : Among l m k) (h : k < n) (f : x ≡ get_or l k 0) (g : b ≡ is_in x (drop 0 m)) where
    pub among-not : b ≡ false → false ≡ all_in l m
    among-not i = sym (all_in_lem k false (omega arith) (ap (λ y. is_in y m) (sym f) ∙ sym g ∙ i)) ∙ s.among

    pub among-on : b ≡ true → Among l m (k + 1)
    among-on i = record { among = sym (all_in_lem k true (omega arith) (ap (λ y. is_in y m) (sym f) ∙ sym g ∙ i)) ∙ s.among }

-- ---- an order

module _ (order marks : Few) where
  pub rearranges-count : (order.count ≡ marks.count → ⊥) → false ≡ rearranges_kept order marks
  unfolding rearranges_kept
  rearranges-count h = rw (ne_eqb order.count marks.count h) refl

  module _ (h : order.count ≡ marks.count) (b : Bool) (f : b ≡ no_repeats (numbers_of order)) where
    pub rearranges-not : b ≡ false → false ≡ rearranges_kept order marks
    unfolding rearranges_kept
    rearranges-not e = rw (eq-eqb order.count marks.count h, ← f, e) refl

    pub rearranges_last : (r : Bool) → b ≡ true → r ≡ all_in (numbers_of order) (numbers_of marks) → r ≡ rearranges_kept order marks
    unfolding rearranges_kept
    rearranges_last r e g = g ∙ rw (eq-eqb order.count marks.count h, ← f, e) refl

  -- of an order and marks that are kept
  pub rearranges-is : (r : Bool) → r ≡ rearranges_kept order marks → Rearranges order marks r
  unfolding rearranges_kept rearranges
  rearranges-is r w = record { is = λ l m k i j. w ∙ go l m k i j (few-or-more (length l)) }
    where
      three : (a b c : Bool) → cond a (cond b c false) false ≡ (a && b && c)
      three true true c = refl
      three true false c = refl
      three false b c = refl

      go : (l m : List ℕ) → Keeps order l → Keeps marks m → length m ≤ 4 → (length l ≤ 4) ⊎ (4 < length l)
          → cond (eqb order.count marks.count) (cond (no_repeats (numbers_of order)) (all_in (numbers_of order) (numbers_of marks)) false) false
          ≡ (eqb (length l) (length m) && no_repeats l && all_in l m)
      go l m k i j (inl g) = rw ((k.all g).1, (i.all j).1, (k.all g).0, (i.all j).0) (three (eqb (length l) (length m)) (no_repeats l) (all_in l m))
      go l m k i j (inr g) = rw (ne_eqb order.count marks.count (λ e. omega (arith, k.more g, (i.all j).0)), ne_eqb (length l) (length m) (λ e. omega arith)) refl
