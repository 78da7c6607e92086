-- Laws of scopes: what is bound, one index more, none, and bounds.
use Rattle.std.specs.Prelude.{Option, Some, None, map, reverse}
use mathlib.Core.Path.{◌≡◌, refl, sym, ◌∙◌, ap, subst}
use mathlib.Core.Bool.{Bool, true, false, cond, ◌&&◌}
use mathlib.Core.List.{List, [], ◌∷◌, ◌++◌}
use Prim.Native.Nat.{ℕ, min, ◌+◌, ◌^◌, ◌<◌, ◌≤◌}
use native.Mathlib.Omega.{arith}
use borrow.Author.Tests.{ltb-true, ltb-false}
use lib.Dec.{eqb, ltb}
use lib.ListN.{length, get_or, take}
use lib.Seq.{take_all}
use lib.IntN.{ℤ, pos, nat_abs}
use lib.Signed.{mag}
use mir.Syntax.{w64}
use mir.Val.{to_z, of_z}
use Rattle.std.proofs.lemmas.List.{take_more, map-append, reverse-append, length-reverse, length-map}
use Rattle.rules.specs.Limits.{mantissa_limit, index_limit}
use Rattle.value.specs.declared.Value.{Value}
use Rattle.value.proofs.Integers.{back}
use Rattle.language.specs.Scope.{Binding, bind, unbound, bound_to}
use Rattle.language.specs.Evaluation.{is_none}
use Rattle.store.specs.Few.{items_of, one_more}
use Rattle.store.proofs.Fews.{length-within, length-few, length-count, at-kept}
use Rattle.evaluator.specs.declared.steps.scope.Binding.{Binding as HeldBinding}
use Rattle.evaluator.specs.declared.steps.scope.Scope.{Scope as Held}
use Rattle.evaluator.specs.Steps.Scopes.{binding, binding_of, bindings_of, bound_more, scope_of, AllSmall, Small}

-- ---- nothing bound, one index more

-- how many are bound
count-is : (s : Held) → length (bindings_of s) ≡ length (items_of s.bound)
unfolding bindings_of
count-is s = simp (length-reverse, length-map) refl

pub none-bound : (s : Held) → items_of s.bound ≡ [] → bindings_of s ≡ []
unfolding bindings_of
none-bound s e = rw e refl

pub bind-more : (s t : Held) (i : ℕ) (k : ℤ) → items_of t.bound ≡ one_more (items_of s.bound) (record { name = i; at = k }) → bindings_of t ≡ bound_more i k (bindings_of s)
unfolding bindings_of one_more bound_more
bind-more s t i k e = rw (e, length-reverse (map binding_of l), length-map l binding_of) (go (ltb (length l) index_limit))
  where
    l : List HeldBinding
    l = items_of s.bound

    go : (b : Bool) → reverse (map binding_of (cond b (l ++ (record { name = i; at = k } ∷ [])) l)) ≡ cond b (binding i k ∷ reverse (map binding_of l)) (reverse (map binding_of l))
    go true = ap reverse (map-append binding_of l (record { name = i; at = k } ∷ [])) ∙ reverse-append (map binding_of l) (binding i k ∷ [])
    go false = refl

-- ---- what an index is bound to

-- the first n of them
first : Held → ℕ → List Binding
first s n = reverse (map binding_of (take n (items_of s.bound)))

abbrev item : Held → ℕ → HeldBinding
item s n = get_or s.bound.items n (record { name = 0; at = pos 0 })

module _ (s : Held) (full : length s.bound.items ≡ 4) (i n : ℕ) (room : n < 4) where
  -- the last of them, where there are so many
  first-more : n < s.bound.count → first s (n + 1) ≡ binding_of (item s n) ∷ first s n
  unfolding first
  first-more h =
      let x = item s n in
      let l = items_of s.bound in
      let m = length-count s.bound full (min s.bound.count 4) refl in
      let g : get_or l n x ≡ x = sym (at-kept s.bound (length l) n x (record { name = 0; at = pos 0 }) full refl (omega arith)) in
      ap (λ l. reverse (map binding_of l)) (take_more l n x (omega arith))
      ∙ ap reverse (map-append binding_of (take n l) (get_or l n x ∷ []))
      ∙ reverse-append (map binding_of (take n l)) (binding_of (get_or l n x) ∷ [])
      ∙ ap (λ x. binding_of x ∷ first s n) g

  first-same : s.bound.count ≤ n → first s (n + 1) ≡ first s n
  unfolding first
  first-same h =
      let k = length-within s.bound in
      ap (λ l. reverse (map binding_of l)) (take_all (n + 1) (items_of s.bound) (omega arith) ∙ sym (take_all n (items_of s.bound) (omega arith)))

  -- an index that is the last of them
  first-here : (ltb n s.bound.count && eqb i (item s n).name) ≡ true → bound_to i (first s (n + 1)) ≡ Some (item s n).at
  unfolding bound_to
  first-here e = go (ltb n s.bound.count) refl e
    where
      go : (b : Bool) → ltb n s.bound.count ≡ b → (b && eqb i (item s n).name) ≡ true → bound_to i (first s (n + 1)) ≡ Some (item s n).at
      go true f e = rw (first-more (ltb-true n s.bound.count f), e, bound_to)
      go false f e = absurd (let z : ◌≡◌ {A = ℕ} 0 1 = cc in omega arith)

  -- and one that is not
  first-other : (ltb n s.bound.count && eqb i (item s n).name) ≡ false → bound_to i (first s (n + 1)) ≡ bound_to i (first s n)
  unfolding bound_to
  first-other e = go (ltb n s.bound.count) refl e
    where
      go : (b : Bool) → ltb n s.bound.count ≡ b → (b && eqb i (item s n).name) ≡ false → bound_to i (first s (n + 1)) ≡ bound_to i (first s n)
      go true f e = rw (first-more (ltb-true n s.bound.count f), e, bound_to)
      go false f e = ap (bound_to i) (first-same (ltb-false n s.bound.count f))

module _ (s : Held) (full : length s.bound.items ≡ 4) (i : ℕ) where
  to-four : bindings_of s ≡ first s 4
  unfolding bindings_of first
  to-four = ap (λ l. reverse (map binding_of l)) (sym (take_all 4 (items_of s.bound) (length-few s.bound)))

  pub bound-fourth : (ltb 3 s.bound.count && eqb i (item s 3).name) ≡ true → mag (item s 3).at < 2 ^ 63 → Some (to_z w64 (of_z w64 (item s 3).at)) ≡ bound_to i (bindings_of s)
  bound-fourth e h = ap Some (back h) ∙ sym (ap (bound_to i) to-four ∙ first-here s full i 3 (omega arith) e)

  module _ (f : (ltb 3 s.bound.count && eqb i (item s 3).name) ≡ false) where
    to-three : bound_to i (bindings_of s) ≡ bound_to i (first s 3)
    to-three = ap (bound_to i) to-four ∙ first-other s full i 3 (omega arith) f

    pub bound-third : (ltb 2 s.bound.count && eqb i (item s 2).name) ≡ true → mag (item s 2).at < 2 ^ 63 → Some (to_z w64 (of_z w64 (item s 2).at)) ≡ bound_to i (bindings_of s)
    bound-third e h = ap Some (back h) ∙ sym (to-three ∙ first-here s full i 2 (omega arith) e)

    module _ (g : (ltb 2 s.bound.count && eqb i (item s 2).name) ≡ false) where
      to-two : bound_to i (bindings_of s) ≡ bound_to i (first s 2)
      to-two = to-three ∙ first-other s full i 2 (omega arith) g

      pub bound-second : (ltb 1 s.bound.count && eqb i (item s 1).name) ≡ true → mag (item s 1).at < 2 ^ 63 → Some (to_z w64 (of_z w64 (item s 1).at)) ≡ bound_to i (bindings_of s)
      bound-second e h = ap Some (back h) ∙ sym (to-two ∙ first-here s full i 1 (omega arith) e)

      module _ (k : (ltb 1 s.bound.count && eqb i (item s 1).name) ≡ false) where
        to-one : bound_to i (bindings_of s) ≡ bound_to i (first s 1)
        to-one = to-two ∙ first-other s full i 1 (omega arith) k

        pub bound-first : (ltb 0 s.bound.count && eqb i (item s 0).name) ≡ true → mag (item s 0).at < 2 ^ 63 → Some (to_z w64 (of_z w64 (item s 0).at)) ≡ bound_to i (bindings_of s)
        bound-first e h = ap Some (back h) ∙ sym (to-one ∙ first-here s full i 0 (omega arith) e)

        pub bound-nothing : (ltb 0 s.bound.count && eqb i (item s 0).name) ≡ false → None ≡ bound_to i (bindings_of s)
        unfolding bound_to first
        bound-nothing e = sym (to-one ∙ first-other s full i 0 (omega arith) e)

-- ---- room for one more

module _ (s : Held) (i : ℕ) (b : Option ℤ) (h : b ≡ bound_to i (bindings_of s)) where
  pub takes-not : (k : ℤ) → b ≡ Some k → false ≡ (is_none (bound_to i (bindings_of s)) && ltb (length (bindings_of s)) index_limit)
  takes-not k e = rw (← h, e)

  pub takes-room : b ≡ None → (n : ℕ) → n ≡ length (items_of s.bound) → ltb n 4 ≡ (is_none (bound_to i (bindings_of s)) && ltb (length (bindings_of s)) index_limit)
  unfolding index_limit
  takes-room e n f = rw (← h, e) (ap (λ m. ltb m 4) (f ∙ sym (count-is s)))

-- ---- the definition's scope

module _ (known : ℕ → List ℤ → Option Value) where
  -- an index bound where there is room
  pub scope-bind : (s t : Held) (i : ℕ) (k : ℤ) → bindings_of t ≡ bound_more i k (bindings_of s) → ltb (length (bindings_of s)) index_limit ≡ true → scope_of known t ≡ bind i k (scope_of known s)
  unfolding scope_of bind bound_more
  scope-bind s t i k e h = rw (e, h)

  pub scope-none : (s t : Held) → bindings_of t ≡ [] → scope_of known t ≡ unbound (scope_of known s)
  unfolding scope_of unbound
  scope-none s t e = rw e

-- ---- bounds

pub small-none : (t : Held) → bindings_of t ≡ [] → Small t
small-none t e = record { small = subst AllSmall (sym e) tt }

pub small-bind : (s t : Held) (i : ℕ) (k : ℤ) → bindings_of t ≡ bound_more i k (bindings_of s) → nat_abs k ≤ mantissa_limit → Small s → Small t
unfolding bound_more
small-bind s t i k e h m = record { small = subst AllSmall (sym e) (go (ltb (length (bindings_of s)) index_limit)) }
  where
    go : (b : Bool) → AllSmall (cond b (binding i k ∷ bindings_of s) (bindings_of s))
    go true = (h, m.small)
    go false = m.small

pub small-to : (l : List Binding) (i : ℕ) (k : ℤ) → AllSmall l → bound_to i l ≡ Some k → nat_abs k ≤ mantissa_limit
unfolding bound_to
small-to [] i k m e = absurd (let z : ◌≡◌ {A = ℕ} 0 1 = cc in omega arith)
small-to (b ∷ l) i k m e = go (eqb i b.name) (small-to l i k m.1) e
  where
    go : (t : Bool) → (bound_to i l ≡ Some k → nat_abs k ≤ mantissa_limit) → (elim t as (λ _. Option ℤ) [ true ↦ Some b.at | false ↦ bound_to i l ]) ≡ Some k → nat_abs k ≤ mantissa_limit
    go true f e = let d : b.at ≡ k = cc in subst (λ z. nat_abs z ≤ mantissa_limit) d m.0
    go false f e = f e
