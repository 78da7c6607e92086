-- Laws of the positions of a portion over plain variables: its element, and the scope of a position.
use Rattle.std.specs.Prelude.{Option, Some, None}
use mathlib.Core.Path.{◌≡◌, refl, sym, ◌∙◌, ap, subst}
use mathlib.Core.Bool.{Bool, true, false}
use mathlib.Core.List.{List, [], ◌∷◌, ◌++◌, append_assoc, append-nil}
use Prim.Native.Nat.{ℕ, zero, suc, ◌+◌, ◌-◌, ◌<◌, ◌≤◌, ◌^◌}
use native.Mathlib.Omega.{arith}
use borrow.Author.Tests.{lt-ltb, ltb-true, ltb-false}
use lib.Dec.{ltb}
use lib.ListN.{length, get_or, drop, length-append, drop_of_length-le}
use lib.Seq.{drop-cons}
use lib.IntN.{ℤ, pos}
use lib.Signed.{mag}
use mir.Syntax.{w64}
use mir.Val.{to_z, of_z}
use Rattle.rules.specs.Limits.{index_limit}
use Rattle.value.specs.declared.Value.{Value}
use Rattle.value.proofs.Integers.{back}
use Rattle.language.specs.All.{All}
use Rattle.language.specs.Scope.{Scope}
use Rattle.language.specs.Store.{Bound, bind_if, element_of}
use Rattle.language.specs.Data.{Entry, fixed, marked, bound_of}
use Rattle.store.specs.declared.Element.{Element}
use Rattle.store.specs.Element.{list_of, extended}
use Rattle.store.proofs.Elements.{extended-room}
use Rattle.evaluator.specs.declared.steps.scope.Scope.{Scope as Held}
use Rattle.evaluator.specs.Steps.Scopes.{binding, bindings_of, bound_more, scope_of, Small}
use Rattle.evaluator.proofs.steps.Scopes.{scope-bind, small-none, small-bind}
use Rattle.data.specs.declared.reading.few.Few.{Few}
use Rattle.data.specs.declared.reading.entries.Entry.{Entry as Slot}
use Rattle.data.specs.declared.reading.entries.Entry.TheVariants.{Fixed, Marked}
use Rattle.data.specs.declared.reading.entries.Entries.{Entries}
use Rattle.data.specs.Reading.Few.{numbers_of}
use Rattle.data.specs.Reading.Entries.{entry_of, entries_of}
use Rattle.data.proofs.reading.Marks.{entries-few, entry_here}
use Rattle.data.specs.Running.{before, SmallIf, SmallPositions, Before}

-- ---- positions bound

-- what a position is bound to
abbrev slot : Entry → Option ℤ
slot (fixed k) = Some k
slot (marked i) = None

bound-cons : (x : Entry) (l : List Entry) → bound_of (x ∷ l) ≡ slot x ∷ bound_of l
unfolding bound_of
bound-cons (fixed k) l = refl
bound-cons (marked i) l = refl

pub bound-length : (l : List Entry) → length (bound_of l) ≡ length l
unfolding bound_of
bound-length [] = refl
bound-length (fixed k ∷ l) = ap suc (bound-length l)
bound-length (marked i ∷ l) = ap suc (bound-length l)

-- ---- an element

number_at : Option ℤ → ℤ
number_at None = pos 0
number_at (Some k) = k

element-cons : (x : Option ℤ) (b : Bound) → element_of (x ∷ b) ≡ number_at x ∷ element_of b
unfolding element_of number_at
element-cons None b = refl
element-cons (Some k) b = refl

pub element-length : (b : Bound) → length (element_of b) ≡ length b
unfolding element_of
element-length [] = refl
element-length (None ∷ b) = ap suc (element-length b)
element-length (Some k ∷ b) = ap suc (element-length b)

-- the numbers of the positions before k
pub record Making (l : List Entry) (k : ℕ) (e : Element) : Type 0 where
  pub count : length (list_of e) ≡ k
  pub all : list_of e ++ element_of (bound_of (drop k l)) ≡ element_of (bound_of l)

module _ (l : List Entry) where
  pub making-start : (e : Element) → list_of e ≡ [] → Making l 0 e
  making-start e h = record { count = ap length h; all = ap (λ m. m ++ element_of (bound_of l)) h }

  pub making-end : (n k : ℕ) (e : Element) → n ≡ length l → Making l k e → n ≤ k → list_of e ≡ element_of (bound_of l)
  unfolding element_of bound_of
  making-end n k e i m h = sym (append-nil (list_of e)) ∙ ap (λ t. list_of e ++ element_of (bound_of t)) (sym (drop_of_length-le l {i = k} (omega arith))) ∙ m.all

  module _ (n k : ℕ) (e r : Element) (x : Slot) (i : n ≡ length l) (few : length l ≤ 4) (m : Making l k e) (h : k < n) (g : entry_of x ≡ get_or l k (marked 0)) where
    making-by : (z : ℤ) → number_at (slot (entry_of x)) ≡ z → list_of r ≡ extended (list_of e) z → Making l (k + 1) r
    making-by z f w =
        let room : list_of r ≡ list_of e ++ (z ∷ []) = w ∙ extended-room (list_of e) z (omega (arith, m.count)) in
        let rest : element_of (bound_of (drop k l)) ≡ z ∷ element_of (bound_of (drop (k + 1) l)) =
        ap (λ t. element_of (bound_of t)) (entry_here l k (omega arith) ∙ ap (λ y. y ∷ drop (k + 1) l) (sym g)) ∙ ap element_of (bound-cons (entry_of x) (drop (k + 1) l))
        ∙ element-cons (slot (entry_of x)) (bound_of (drop (k + 1) l)) ∙ ap (λ z. z ∷ element_of (bound_of (drop (k + 1) l))) f in
        record {
          count = ap length room ∙ length-append (list_of e) (z ∷ []) ∙ ap (λ n. n + 1) m.count;
          all = ap (λ t. t ++ element_of (bound_of (drop (k + 1) l))) room ∙ append_assoc (list_of e) (z ∷ []) (element_of (bound_of (drop (k + 1) l))) ∙ ap (λ t. list_of e ++ t) (sym rest) ∙ m.all;
        }

    pub making-fixed : (z : ℤ) → x ≡ Fixed z → mag z < 2 ^ 63 → list_of r ≡ extended (list_of e) (to_z w64 (of_z w64 z)) → Making l (k + 1) r
    unfolding number_at
    making-fixed z d b w = making-by z (ap (λ x. number_at (slot (entry_of x))) d) (w ∙ ap (extended (list_of e)) (back {z = z} b))

    pub making-marked : (i : ℕ) → x ≡ Marked i → list_of r ≡ extended (list_of e) (pos 0) → Making l (k + 1) r
    unfolding number_at
    making-marked i d w = making-by (pos 0) (ap (λ x. number_at (slot (entry_of x))) d) w

-- ---- the scope of a position

before-none : (b : Bound) (n : ℕ) (s : Scope) → before [] b n s ≡ s
unfolding before
before-none b zero s = refl
before-none b (suc n) s = refl

-- a number that a position is bound to
small_at : (l : List Entry) (k : ℕ) (z : ℤ) → All SmallIf (bound_of l) → get_or l k (marked 0) ≡ fixed z → SmallIf (Some z)
unfolding bound_of
small_at [] k z h e = absurd (let w : ◌≡◌ {A = ℕ} 0 1 = cc in omega arith)
small_at (fixed x ∷ l) zero z h e = let d : x ≡ z = cc in subst (λ x. SmallIf (Some x)) d h.0
small_at (marked i ∷ l) zero z h e = absurd (let w : ◌≡◌ {A = ℕ} 0 1 = cc in omega arith)
small_at (fixed x ∷ l) (suc k) z h e = small_at l k z h.1 e
small_at (marked i ∷ l) (suc k) z h e = small_at l k z h.1 e

-- a fixed entry is one of the entries
fixed-within : (l : List Entry) (k : ℕ) (z : ℤ) → get_or l k (marked 0) ≡ fixed z → k < length l
fixed-within [] k z e = absurd (let w : ◌≡◌ {A = ℕ} 0 1 = cc in omega arith)
fixed-within (x ∷ l) zero z e = omega arith
fixed-within (x ∷ l) (suc k) z e = omega (arith, fixed-within l k z e)

-- the positions before k are bound, those from k on are left
pub record Scoping (e : Entries) (f : Few) (j k : ℕ) (sc : Held) : Type 0 where
  pub is : length (numbers_of f) ≡ length (entries_of e) → (known : ℕ → List ℤ → Option Value)
      → before (drop k (numbers_of f)) (bound_of (drop k (entries_of e))) (j - k) (scope_of known sc) ≡ before (numbers_of f) (bound_of (entries_of e)) j (record { known = known; bound = [] })
  pub count : length (bindings_of sc) ≤ k
  pub small : SmallPositions e → Small sc

module _ (e : Entries) (f : Few) (j : ℕ) where
  pub scoping-start : (sc : Held) → bindings_of sc ≡ [] → Scoping e f j 0 sc
  unfolding scope_of
  scoping-start sc h =
      let z : j - 0 ≡ j = omega arith in
      record { is = λ l known. rw (z, h) refl; count = rw h (omega arith); small = λ s. small-none sc h }

  pub scoping-end : (k : ℕ) (sc : Held) → Scoping e f j k sc → j ≤ k → Before e f j sc
  unfolding before
  scoping-end k sc s h =
      let z : j - k ≡ 0 = omega arith in
      record { is = λ l known. ap (λ n. before (drop k (numbers_of f)) (bound_of (drop k (entries_of e))) n (scope_of known sc)) (sym z) ∙ s.is l known; small = s.small }

  module _ (k : ℕ) (sc : Held) (x : Slot) (s : Scoping e f j k sc) (h : k < j) (g : entry_of x ≡ get_or (entries_of e) k (marked 0)) where
    -- one position less is left
    step : (i : ℕ) → i ≡ get_or (numbers_of f) k 0 → length (numbers_of f) ≡ length (entries_of e) → k < length (entries_of e) → (t : Scope)
        → before (drop k (numbers_of f)) (bound_of (drop k (entries_of e))) (j - k) t ≡ before (drop (k + 1) (numbers_of f)) (bound_of (drop (k + 1) (entries_of e))) (j - (k + 1)) (bind_if i (slot (entry_of x)) t)
    unfolding before
    step i n l w t =
        let z : j - k ≡ suc (j - (k + 1)) = omega arith in
        let y : k + 1 ≡ suc k = omega arith in
        let a : drop k (numbers_of f) ≡ i ∷ drop (k + 1) (numbers_of f) = rw y (drop-cons (numbers_of f) k 0 (omega arith) ∙ ap (λ i. i ∷ drop (suc k) (numbers_of f)) (sym n)) in
        let b : bound_of (drop k (entries_of e)) ≡ slot (entry_of x) ∷ bound_of (drop (k + 1) (entries_of e)) =
        ap bound_of (entry_here (entries_of e) k w ∙ ap (λ y. y ∷ drop (k + 1) (entries_of e)) (sym g)) ∙ bound-cons (entry_of x) (drop (k + 1) (entries_of e)) in
        rw (a, b, z) refl

    pub scoping-marked : (m : ℕ) → x ≡ Marked m → Scoping e f j (k + 1) sc
    scoping-marked m d =
        record { is = λ l known. go l known (ltb k (length (entries_of e))) refl; count = omega (arith, s.count); small = s.small }
      where
        go : length (numbers_of f) ≡ length (entries_of e) → (known : ℕ → List ℤ → Option Value) → (b : Bool) → ltb k (length (entries_of e)) ≡ b
            → before (drop (k + 1) (numbers_of f)) (bound_of (drop (k + 1) (entries_of e))) (j - (k + 1)) (scope_of known sc)
            ≡ before (numbers_of f) (bound_of (entries_of e)) j (record { known = known; bound = [] })
        go l known true w =
            ap (λ y. before (drop (k + 1) (numbers_of f)) (bound_of (drop (k + 1) (entries_of e))) (j - (k + 1)) (bind_if (get_or (numbers_of f) k 0) y (scope_of known sc))) (sym (ap (λ x. slot (entry_of x)) d))
            ∙ sym (step (get_or (numbers_of f) k 0) refl l (ltb-true k (length (entries_of e)) w) (scope_of known sc)) ∙ s.is l known
        go l known false w =
            let long : length (entries_of e) ≤ k = ltb-false k (length (entries_of e)) w in
            ap (λ m. before m (bound_of (drop (k + 1) (entries_of e))) (j - (k + 1)) (scope_of known sc)) (drop_of_length-le (numbers_of f) {i = k + 1} (omega arith))
            ∙ before-none (bound_of (drop (k + 1) (entries_of e))) (j - (k + 1)) (scope_of known sc)
            ∙ sym (before-none (bound_of (drop k (entries_of e))) (j - k) (scope_of known sc))
            ∙ ap (λ m. before m (bound_of (drop k (entries_of e))) (j - k) (scope_of known sc)) (sym (drop_of_length-le (numbers_of f) {i = k} (omega arith)))
            ∙ s.is l known

    pub scoping-fixed : (i : ℕ) (z : ℤ) (t : Held) → i ≡ get_or (numbers_of f) k 0 → x ≡ Fixed z → mag z < 2 ^ 63 → bindings_of t ≡ bound_more i (to_z w64 (of_z w64 z)) (bindings_of sc) → Scoping e f j (k + 1) t
    unfolding index_limit bound_more
    scoping-fixed i z t n d b w =
        let at : get_or (entries_of e) k (marked 0) ≡ fixed z = sym g ∙ ap entry_of d in
        let here : k < length (entries_of e) = fixed-within (entries_of e) k z at in
        let bound : bindings_of t ≡ bound_more i z (bindings_of sc) = w ∙ ap (λ z. bound_more i z (bindings_of sc)) (back {z = z} b) in
        let room : ltb (length (bindings_of sc)) 4 ≡ true = lt-ltb (length (bindings_of sc)) 4 (omega (arith, s.count, entries-few e)) in
        record {
          is = λ l known.
              ap (before (drop (k + 1) (numbers_of f)) (bound_of (drop (k + 1) (entries_of e))) (j - (k + 1)))
              (scope-bind known sc t i z bound room ∙ ap (λ y. bind_if i y (scope_of known sc)) (sym (ap (λ x. slot (entry_of x)) d)))
              ∙ sym (step i n l here (scope_of known sc)) ∙ s.is l known;
          count = rw (bound, more i z room) (omega (arith, s.count));
          small = λ p. small-bind sc t i z bound (small_at (entries_of e) k z p at) (s.small p);
        }
      where
        more : (i : ℕ) (z : ℤ) → ltb (length (bindings_of sc)) 4 ≡ true → bound_more i z (bindings_of sc) ≡ binding i z ∷ bindings_of sc
        more i z room = rw room refl
