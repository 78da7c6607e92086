-- Laws of at most four items: how many, one more, the one at a position, another at a position, the first ones.
use mathlib.Core.Path.{◌≡◌, refl, sym, ◌∙◌, ap, subst}
use mathlib.Core.List.{List, [], ◌∷◌, ◌++◌, map}
use Prim.Native.Nat.{ℕ, zero, suc, min, ◌+◌, ◌<◌, ◌≤◌}
use native.Mathlib.Omega.{arith}
use native.Mathlib.Numerals.{unary_clauses}
use mathlib.Core.Bool.{Bool, true, false, cond}
use lib.Dec.{ltb}
use borrow.Author.Tests.{lt-ltb, le-ltb, ltb-true}
use lib.ListN.{length, get_or, take, set, length-take, length-set, length-append, get_or-eq_default}
use lib.Seq.{get_or-take, take-nil, take_all, set_out}
use Rattle.std.proofs.lemmas.List.{take_more_set, get_or_default, length-map, map-append}
use Rattle.rules.specs.Limits.{index_limit}
use Rattle.store.specs.declared.few.Few.{Few}
use Rattle.store.specs.Few.{items_of, one_more}

pub none-is : {A : Type 0} (l : List A) → items_of (record { count = 0; items = l }) ≡ []
unfolding items_of
none-is l = refl

-- four items one by one
pub four-items : {A : Type 0} (l : List A) (a b c d : A) → length l ≡ 4 → l ≡ get_or l 0 a ∷ get_or l 1 b ∷ get_or l 2 c ∷ get_or l 3 d ∷ []
four-items (p ∷ q ∷ r ∷ s ∷ []) a b c d h = refl
four-items [] a b c d h = absurd (omega arith)
four-items (p ∷ []) a b c d h = absurd (omega arith)
four-items (p ∷ q ∷ []) a b c d h = absurd (omega arith)
four-items (p ∷ q ∷ r ∷ []) a b c d h = absurd (omega arith)
four-items (p ∷ q ∷ r ∷ s ∷ t ∷ l) a b c d h = absurd (omega arith)

take_both : {A : Type 0} (c n : ℕ) (l : List A) → take (min c n) l ≡ take n (take c l)
take_both zero n l = simp unary_clauses (sym (take-nil n))
take_both (suc c) zero l = let e : min (suc c) 0 ≡ 0 = omega arith in rw e refl
take_both (suc c) (suc n) [] = simp unary_clauses refl
take_both (suc c) (suc n) (x ∷ l) = simp unary_clauses (ap (λ m. x ∷ m) (take_both c n l))

module _ {A : Type 0} (f : Few A) where
  pub length-within : length (items_of f) ≤ f.count
  unfolding items_of
  length-within = simp length-take (omega arith)

  pub length-few : length (items_of f) ≤ 4
  unfolding items_of
  length-few = simp length-take (omega arith)

  pub at-past : (n i : ℕ) (x : A) → n ≡ length (items_of f) → n ≤ i → x ≡ get_or (items_of f) i x
  at-past n i x e h = sym (get_or-eq_default (items_of f) x {n = i} (omega arith))

  pub at-kept : (n i : ℕ) (x y : A) → length f.items ≡ 4 → n ≡ length (items_of f) → i < n → get_or f.items i y ≡ get_or (items_of f) i x
  unfolding items_of
  at-kept n i x y full e h = get_or_default f.items i y x (omega (arith, length-few)) ∙ sym (get_or-take f.count (take 4 f.items) i x (omega (arith, length-within)) ∙ get_or-take 4 f.items i x (omega (arith, length-few)))

  module _ (full : length f.items ≡ 4) where
    pub length-count : (n : ℕ) → n ≡ min f.count 4 → n ≡ length (items_of f)
    unfolding items_of
    length-count n e = e ∙ simp length-take (omega arith)

    with-room : (x : A) → f.count < 4 → items_of (record { count = f.count + 1; items = set f.items f.count x }) ≡ one_more (items_of f) x
    unfolding items_of one_more index_limit
    with-room x h =
        rw (take_all 4 (set f.items f.count x) (omega (arith, length-set f.items f.count x)), take_all 4 f.items (omega arith), lt-ltb (length (take f.count f.items)) 4 (simp length-take (omega arith)))
        (take_more_set f.items f.count x (omega arith))

    pub with-none : (x : A) → 4 ≤ f.count → items_of f ≡ one_more (items_of f) x
    unfolding one_more index_limit
    with-none x h = rw (le-ltb (length (items_of f)) 4 (omega (arith, length-count 4 (omega arith))))

  -- one more, by the count before
  module _ (full : length f.items ≡ 4) (x a b c d : A) where
    with-place : (n : ℕ) → f.count ≡ n → n < 4
        → items_of (record { count = n + 1; items = set (get_or f.items 0 a ∷ get_or f.items 1 b ∷ get_or f.items 2 c ∷ get_or f.items 3 d ∷ []) n x }) ≡ one_more (items_of f) x
    with-place n e h =
        ap (λ l. items_of (record { count = n + 1; items = set l n x })) (sym (four-items f.items a b c d full))
        ∙ subst (λ m. items_of (record { count = m + 1; items = set f.items m x }) ≡ one_more (items_of f) x) e (with-room full x (omega arith))

    pub with-first : f.count ≡ 0 → items_of (record { count = 1; items = x ∷ get_or f.items 1 b ∷ get_or f.items 2 c ∷ get_or f.items 3 d ∷ [] }) ≡ one_more (items_of f) x
    with-first e = with-place 0 e (omega arith)

    pub with-second : f.count ≡ 1 → items_of (record { count = 2; items = get_or f.items 0 a ∷ x ∷ get_or f.items 2 c ∷ get_or f.items 3 d ∷ [] }) ≡ one_more (items_of f) x
    with-second e = with-place 1 e (omega arith)

    pub with-third : f.count ≡ 2 → items_of (record { count = 3; items = get_or f.items 0 a ∷ get_or f.items 1 b ∷ x ∷ get_or f.items 3 d ∷ [] }) ≡ one_more (items_of f) x
    with-third e = with-place 2 e (omega arith)

    pub with-fourth : f.count ≡ 3 → items_of (record { count = 4; items = get_or f.items 0 a ∷ get_or f.items 1 b ∷ get_or f.items 2 c ∷ x ∷ [] }) ≡ one_more (items_of f) x
    with-fourth e = with-place 3 e (omega arith)

  pub cut-is : (n m : ℕ) → m ≡ min f.count n → items_of (record { count = m; items = f.items }) ≡ take n (items_of f)
  unfolding items_of
  cut-is n m e = rw e (go (take 4 f.items))
    where
      go : (l : List A) → take (min f.count n) l ≡ take n (take f.count l)
      go l = take_both f.count n l

take-set : {A : Type 0} (n : ℕ) (l : List A) (i : ℕ) (x : A) → take n (set l i x) ≡ set (take n l) i x
take-set zero l i x = refl
take-set (suc n) [] i x = refl
take-set (suc n) (y ∷ l) zero x = refl
take-set (suc n) (y ∷ l) (suc i) x = ap (λ m. y ∷ m) (take-set n l i x)

module _ {A : Type 0} (f : Few A) (i : ℕ) (x : A) where
  pub set-within : items_of (record { count = f.count; items = set f.items i x }) ≡ set (items_of f) i x
  unfolding items_of
  set-within = ap (take f.count) (take-set 4 f.items i x) ∙ take-set f.count (take 4 f.items) i x

  pub set-past : 4 ≤ i → items_of f ≡ set (items_of f) i x
  set-past h = sym (set_out (items_of f) i x (omega (arith, length-few f)))

-- a list of at most four items is one of these
pub items-are : {A : Type 0} (l : List A) → length l ≤ 4 → items_of (record { count = 4; items = l }) ≡ l
unfolding items_of
items-are l h = rw (take_all 4 l h) (take_all 4 l h)

pub length-more : {A : Type 0} (l : List A) (x : A) → length l ≤ 4 → length (one_more l x) ≤ 4
unfolding one_more index_limit
length-more l x h = go (ltb (length l) 4) refl
  where
    go : (b : Bool) → ltb (length l) 4 ≡ b → length (cond b (l ++ (x ∷ [])) l) ≤ 4
    go true e = simp length-append (omega (arith, ltb-true (length l) 4 e))
    go false e = h

-- one item more where there is room
pub more-room : {A : Type 0} (l : List A) (x : A) → length l < 4 → one_more l x ≡ l ++ (x ∷ [])
unfolding one_more index_limit
more-room l x h = rw (lt-ltb (length l) 4 h) refl

pub map-more : {A B : Type 0} (f : A → B) (l : List A) (x : A) → map f (one_more l x) ≡ one_more (map f l) (f x)
unfolding one_more
map-more f l x = rw (length-map l f) (go (ltb (length l) index_limit))
  where
    go : (b : Bool) → map f (cond b (l ++ (x ∷ [])) l) ≡ cond b (map f l ++ (f x ∷ [])) (map f l)
    go true = map-append f l (x ∷ [])
    go false = refl
