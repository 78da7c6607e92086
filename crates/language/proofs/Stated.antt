-- The bounds of a variable are those that the text states for it: the largest lower one, or 0, and the smallest upper one, or none.
use Rattle.std.specs.Prelude.{Option, Some, None}
use mathlib.Core.Path.{◌≡◌, refl, sym, ◌∙◌, ap, subst}
use mathlib.Core.Logic.{inl, inr}
use mathlib.Core.Bool.{Bool, true, false, cond}
use mathlib.Core.List.{List}
use Prim.Native.Nat.{ℕ}
use lib.Dec.{eqb}
use borrow.Author.Tests.{eqb-true, eq-eqb}
use Rattle.value.specs.Number.{exactly}
use Rattle.value.specs.Rational.{ℚ, ◌⊑◌}
use Rattle.value.specs.declared.Value.{Value}
use Rattle.language.specs.Listed.{At, In, Distinct}
use Rattle.language.proofs.Listed.{at-unique}
use Rattle.language.specs.Outcome.{done}
use Rattle.language.proofs.Outcome.{some-injective}
use Rattle.language.specs.Scope.{Scope}
use Rattle.language.specs.Syntax.{Formula, Relation, at_most, at_least, equal, between, Side, bare, form}
use Rattle.language.specs.Written.{value, subscripts, scope_at}
use Rattle.language.specs.Model.{Model, start}
use Rattle.language.specs.Numbering.{Variable, Source, Entry, Fact, fact_of, bound_at, lower_at, upper_at, picked, largest, smallest, lower_of, upper_of}
use Rattle.language.specs.Demand3.{Lower, Upper, Names, States, IsLower, IsUpper, FloorIs, right_value, lower_by, lower_value}
use Rattle.language.proofs.Bounds.{floor-bound, bound-floor, in-picked, picked-in, largest-in, largest-bounds, smallest-none, smallest-in, smallest-bounds}
use Rattle.language.proofs.Elements.{walk}
use Rattle.language.proofs.Entries.{floor-done, OfBare, of_bare, of-form, entries, placed, entry-made, made-entry}

-- ---- one constraint at one element

module _ (vs : List Variable) (r : Relation) (g : Formula) (s : Scope) (f : Fact) where
  -- a bound on the variable of number j names it
  bound-names : (d : Side) → fact_of vs d r g s ≡ done f → (j : ℕ) (u : Value) (v : Variable) → bound_at f j ≡ Some u → At vs j v → Names d s v × (value g s ≡ exactly u)
  bound-names (bare n d fs p) e j u v b at = go (eqb o.number j) refl (sym (ap (λ f. bound_at f j) o.fact-is) ∙ b)
    where
      o : OfBare vs n fs g s f
      o = of_bare vs n d fs p r g s f e

      named : Variable
      named = record { name = n; element = subscripts fs s }

      go : (t : Bool) → eqb o.number j ≡ t → cond t (Some o.stated) None ≡ Some u → (named ≡ v) × (value g s ≡ exactly u)
      go true t c = (at-unique vs j named v (subst (λ i. At vs i named) (eqb-true o.number j t) o.at) at, o.right ∙ ap exactly (some-injective c))
      go false t c = cc
  bound-names (form h) e j u v b at = cc (sym (ap (λ f. bound_at f j) (of-form vs h r g s f e).fact-is) ∙ b)

  -- and a left side that names a variable is a bound on it
  pub record Bound (v : Variable) : Type 0 where
    pub number : ℕ
    pub stated : Value
    pub at : At vs number v
    pub here : bound_at f number ≡ Some stated
    pub right : value g s ≡ exactly stated

  pub names-bound : (d : Side) → fact_of vs d r g s ≡ done f → (v : Variable) → Names d s v → Bound v
  names-bound (bare n d fs p) e v k =
      let o = of_bare vs n d fs p r g s f e in
      record {
        number = o.number;
        stated = o.stated;
        at = subst (λ w. At vs o.number w) k o.at;
        here = ap (λ f. bound_at f o.number) o.fact-is ∙ ap (λ t. cond t (Some o.stated) None) (eq-eqb o.number o.number refl);
        right = o.right;
      }
  names-bound (form h) e v k = absurd k

-- ---- lower and upper ones

-- a bound on variable j; where its right side is q, what it states is `by q`, and that is u
record Read (by : ℚ → ℚ) (f : Fact) (j : ℕ) (u : Value) : Type 0 where
  bound : Value
  here : bound_at f j ≡ Some bound
  is : (q : ℚ) → q ≡ exactly bound → by q ≡ exactly u

right-read : (f : Fact) (j : ℕ) (u : Value) → bound_at f j ≡ Some u → Read (λ q. q) f j u
right-read f j u e = record { bound = u; here = e; is = λ q k. k }

-- `at` reads the bounds of the kind K, `by` gives their written values
record Reads (K : Relation → Type 0) (at : Relation → Fact → Option Value → ℕ → Option Value) (by : Relation → Scope → ℚ → ℚ) : Type 0 where
  says : (r : Relation) (s : Scope) (f : Fact) (w : Option Value) (j : ℕ) (u : Value) → FloorIs r s w → at r f w j ≡ Some u → K r × Read (by r s) f j u
  said : (r : Relation) (s : Scope) (f : Fact) (w : Option Value) (j : ℕ) (t : Value) → FloorIs r s w → K r → bound_at f j ≡ Some t
      → (u : Value) × (at r f w j ≡ Some u) × Read (by r s) f j u

lowers : Reads Lower lower_at lower_by
unfolding lower_by
lowers = record { says = says; said = said }
  where
    floor-read : (h : Formula) (s : Scope) (f : Fact) (w : Option Value) (j : ℕ) (t u : Value) → FloorIs (between h) s w → w ≡ Some u → bound_at f j ≡ Some t
        → Read (λ q. value h s) f j u
    floor-read h s f w j t u (v, is, same) e b = record { bound = t; here = b; is = λ q k. sym same ∙ ap exactly (some-injective (sym is ∙ e)) }

    says : (r : Relation) (s : Scope) (f : Fact) (w : Option Value) (j : ℕ) (u : Value) → FloorIs r s w → lower_at r f w j ≡ Some u → Lower r × Read (lower_by r s) f j u
    says at_most s f w j u k e = cc
    says at_least s f w j u k e = (tt, right-read f j u e)
    says equal s f w j u k e = (tt, right-read f j u e)
    says (between h) s f w j u k e = let b = floor-bound f w j u e in (tt, floor-read h s f w j b.0 u k b.2 b.1)

    said : (r : Relation) (s : Scope) (f : Fact) (w : Option Value) (j : ℕ) (t : Value) → FloorIs r s w → Lower r → bound_at f j ≡ Some t
        → (u : Value) × (lower_at r f w j ≡ Some u) × Read (lower_by r s) f j u
    said at_most s f w j t k l b = absurd l
    said at_least s f w j t k l b = (t, b, right-read f j t b)
    said equal s f w j t k l b = (t, b, right-read f j t b)
    said (between h) s f w j t k l b = (k.0, bound-floor f w j t b ∙ k.1, floor-read h s f w j t k.0 k k.1 b)

-- an upper bound is a right side
abbrev right_by : Relation → Scope → ℚ → ℚ
right_by r s q = q

abbrev upper_read : Relation → Fact → Option Value → ℕ → Option Value
upper_read r f w j = upper_at r f j

uppers : Reads Upper upper_read right_by
uppers = record { says = λ r s f w j u k e. says r f j u e; said = λ r s f w j t k h b. (t, said r f j t h b, right-read f j t b) }
  where
    says : (r : Relation) (f : Fact) (j : ℕ) (u : Value) → upper_at r f j ≡ Some u → Upper r × Read (λ q. q) f j u
    says at_most f j u e = (tt, right-read f j u e)
    says at_least f j u e = cc
    says equal f j u e = (tt, right-read f j u e)
    says (between h) f j u e = (tt, right-read f j u e)

    said : (r : Relation) (f : Fact) (j : ℕ) (t : Value) → Upper r → bound_at f j ≡ Some t → upper_at r f j ≡ Some t
    said at_most f j t k b = b
    said at_least f j t k b = absurd k
    said equal f j t k b = b
    said (between h) f j t k b = b

module _ (m : Model) (vs : List Variable) (es : List Entry) (generated : walk (entries vs) (start m) (placed 0 m.structure.constraints) ≡ done es)
    (once : Distinct vs) (j : ℕ) (v : Variable) (here : At vs j v) where
  module _ (K : Relation → Type 0) (at : Relation → Fact → Option Value → ℕ → Option Value) (by : Relation → Scope → ℚ → ℚ) (reads : Reads K at by) where
    abbrev values : List Value
    values = picked (λ e. at e.source.constraint.relation e.fact e.floor j) es

    abbrev value_at : Source → ℚ
    value_at o = by o.constraint.relation (scope_at m o) (right_value m o)

    -- what is picked for variable j is what the text states for it
    value-stated : (u : Value) → In values u → (o : Source) × States K m v o × (value_at o ≡ exactly u)
    unfolding right_value
    value-stated u h =
        let p = picked-in _ es u h in
        let o = p.0.source in
        let f = p.0.fact in
        let r = o.constraint.relation in
        let made = entry-made m vs es generated p.0 p.1 in
        let s = reads.says r (scope_at m o) f p.0.floor j u (floor-done r _ _ made.floor) p.2 in
        let n = bound-names vs r o.constraint.right _ f o.constraint.left made.made j s.1.bound v s.1.here here in
        (o, record { written = made.written; kind = s.0; names = n.0 }, s.1.is _ n.1)

    stated-value : (o : Source) → States K m v o → (u : Value) × In values u × (value_at o ≡ exactly u)
    unfolding right_value
    stated-value o t =
        let r = o.constraint.relation in
        let a = made-entry m vs es generated o t.written in
        let b = names-bound vs r o.constraint.right _ a.0 o.constraint.left a.2.made v t.names in
        let same : b.number ≡ j = once.once b.number j v b.at here in
        let bound : bound_at a.0 j ≡ Some b.stated = subst (λ i. bound_at a.0 i ≡ Some b.stated) same b.here in
        let s = reads.said r (scope_at m o) a.0 a.1 j b.stated (floor-done r _ _ a.2.floor) t.kind bound in (
          s.0,
          in-picked _ es (record { source = o; fact = a.0; floor = a.1 }) s.0 a.3 s.1,
          s.2.is _ (b.right ∙ ap exactly (some-injective (sym bound ∙ s.2.here))),
        )

  pub lower-bound : IsLower m v (lower_of es j)
  unfolding lower_of lower_value
  lower-bound =
      let ls : List Value = values Lower lower_at lower_by lowers in
      record {
        least = λ o t. let u = stated-value Lower lower_at lower_by lowers o t in subst (λ q. q ⊑ exactly (largest ls)) (sym u.2) (largest-bounds ls u.0 u.1);
        stated = elim (largest-in ls) [
          | inl h ↦ inl (value-stated Lower lower_at lower_by lowers (largest ls) h)
          | inr (none-picked, e) ↦ inr (λ o t. let u = stated-value Lower lower_at lower_by lowers o t in none-picked u.0 u.1, e)
        ];
      }

  pub upper-bound : IsUpper m v (upper_of es j)
  unfolding upper_of
  upper-bound = go (smallest ls) refl
    where
      ls : List Value
      ls = values Upper upper_read right_by uppers

      go : (b : Option Value) → smallest ls ≡ b → IsUpper m v b
      go None e = λ o t. let u = stated-value Upper upper_read right_by uppers o t in smallest-none ls e u.0 u.1
      go (Some u) e = (
        λ o t.
            let w = stated-value Upper upper_read right_by uppers o t in
            subst (λ q. exactly u ⊑ q) (sym w.2) (smallest-bounds ls u e w.0 w.1),
        value-stated Upper upper_read right_by uppers u (smallest-in ls u e),
      )
