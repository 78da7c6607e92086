-- In a model from which a problem is generated every written value is defined: the objective, both sides and the floor of each
-- constraint at each written element, and the limits of every domain.
use Rattle.std.specs.Prelude.{Option, Some, None}
use mathlib.Core.Path.{◌≡◌, refl, ap, subst}
use mathlib.Core.Bool.{not}
use mathlib.Core.Logic.{◌⊎◌, inl, inr}
use mathlib.Core.List.{List, [], ◌∷◌}
use Prim.Native.Nat.{ℕ, zero, suc, ◌+◌}
use native.Mathlib.Omega.{arith}
use lib.ListN.{length}
use lib.IntN.{ℤ}
use Rattle.rules.specs.declared.Refusal.TheVariants.{Missing}
use Rattle.value.specs.declared.Value.{Value}
use Rattle.language.specs.Listed.{At, In}
use Rattle.language.proofs.Listed.{in-nil, in-cons}
use Rattle.language.specs.All.{All}
use Rattle.language.proofs.All.{all-at, all_in_lem}
use Rattle.language.specs.Outcome.{done, check}
use Rattle.language.proofs.Outcome.{after}
use Rattle.language.specs.Scope.{Scope, bind}
use Rattle.language.specs.Syntax.{Name, Sort, Spans, point, span, Constraint}
use Rattle.language.specs.Syntax
use Rattle.language.specs.Evaluation.{over, is_none}
use Rattle.language.specs.Store.{is_given, given_by, all_given}
use Rattle.language.specs.Model.{Model, start, Declaration, as_discrete, as_continuous, declared, discretes, continuouses}
use Rattle.language.specs.Numbering.{Variable, add_variable, add_variables, gathered, fact_of, floor_at, Source, Entry, add_entry, add_entries, Lp, generate}
use Rattle.language.specs.Written.{InDomain, bind_all, Written, Declared, scope_at}
use Rattle.language.specs.Named.{NamedDomain, NamedSort, NamedEntry, NamedConstraint, NamedStructure}
use Rattle.language.specs.Defined.{Has, Defined, DefinedDomain, DefinedSide, DefinedSort, DefinedFloor, DefinedModel}
use Rattle.language.proofs.Numbered.{variables-made, variable-numbers}
use Rattle.language.proofs.Defined.{over-defined, over-at, gathered-defined, fact-defined, floor-defined}
use Rattle.language.proofs.EachNumbered.{declared-in}

-- ---- data: each element of a declared domain has a value

known_at : (d : Spans) (e : List ℤ) (s : Scope) → (bind_all d e s).known ≡ s.known
unfolding bind_all bind
known_at point e s = refl
known_at (span i f g p d) [] s = refl
known_at (span i f g p d) (k ∷ e) s = known_at d e (bind i k s)

is-there : (i p : ℕ) (s : Scope) (e : List ℤ) (u w : Unit {0}) → is_given i p s e u ≡ done w → Has (s.known i e)
unfolding is_given
is-there i p s e u w h = go (s.known i e) refl h
  where
    go : (o : Option Value) → s.known i e ≡ o → check Missing p (not (is_none o)) ≡ done w → Has (s.known i e)
    go (Some v) k h = record { it = v; is = k }
    go None k h = cc

data-defined : (names : List Name) (i p : ℕ) (d : Spans) (s : Scope) (u : Unit {0}) → NamedDomain names d → over d s (is_given i p) tt ≡ done u
    → DefinedDomain d s × ((e : List ℤ) → InDomain d s e → Has (s.known i e))
data-defined names i p d s u a h = (
  over-defined names d s (is_given i p) tt u a h,
  λ e n.
      let x = over-at d s (is_given i p) tt u h e n in
      subst (λ (f : ℕ → List ℤ → Option Value). Has (f i e)) (known_at d e s) (is-there i p (bind_all d e s) e x.0 x.1 x.2),
)

all_given-at : (i : ℕ) (xs : List Name) (s : Scope) (u : Unit {0}) → all_given i xs s ≡ done u → (j : ℕ) (x : Name) → At xs j x
    → (w : Unit {0}) × (given_by (i + j) x.place x.sort s ≡ done w)
unfolding all_given
all_given-at i [] s u e j x at = absurd at
all_given-at i (y ∷ xs) s u e zero x at =
    after (given_by i y.place y.sort s) _ u e λ w g _.
    let z : i ≡ i + 0 = omega arith in
    (w, subst (λ (x : Name). given_by (i + 0) x.place x.sort s ≡ done w) at (subst (λ n. given_by n y.place y.sort s ≡ done w) z g))
all_given-at i (y ∷ xs) s u e (suc j) x at =
    after (given_by i y.place y.sort s) _ u e λ _ _ e.
    let z : suc i + j ≡ i + suc j = omega arith in
    let r = all_given-at (suc i) xs s u e j x at in
    (r.0, subst (λ n. given_by n x.place x.sort s ≡ done r.0) z r.1)

-- ---- variables: each declared domain is walked

add_variables-at : (s : Scope) (ds : List Declaration) (vs ws : List Variable) → add_variables s ds vs ≡ done ws → (d : Declaration) → In ds d
    → (a : List Variable) × (b : List Variable) × (over d.domain s (add_variable d) a ≡ done b)
unfolding add_variables
add_variables-at s [] vs ws e d n = absurd (in-nil d n)
add_variables-at s (c ∷ ds) vs ws e d n =
    after (over c.domain s (add_variable c) vs) _ ws e λ us o e.
    go us o (in-cons c ds d n) (add_variables-at s ds us ws e d)
  where
    go : (us : List Variable) → over c.domain s (add_variable c) vs ≡ done us → (c ≡ d) ⊎ In ds d
        → (In ds d → (a : List Variable) × (b : List Variable) × (over d.domain s (add_variable d) a ≡ done b))
        → (a : List Variable) × (b : List Variable) × (over d.domain s (add_variable d) a ≡ done b)
    go us o (inl k) ih = (vs, us, subst (λ (d : Declaration). over d.domain s (add_variable d) vs ≡ done us) k o)
    go us o (inr k) ih = ih k

walked-defined : (f : Sort → Option Spans) (s : Scope) (xs : List Name) (vs ws : List Variable) → add_variables s (declared f 0 xs) vs ≡ done ws
    → (j : ℕ) (x : Name) (d : Spans) → At xs j x → f x.sort ≡ Some d → NamedDomain xs d → DefinedDomain d s
walked-defined f s xs vs ws e j x d at is a =
    let c = declared-in f 0 xs j x d at is in
    let o = add_variables-at s (declared f 0 xs) vs ws e c.0 c.3 in
    over-defined xs d s (add_variable c.0) o.0 o.1 a (subst (λ d. over d s (add_variable c.0) o.0 ≡ done o.1) c.2 o.2)

-- ---- constraints: each is taken at each of its elements

add_entries-at : (vs : List Variable) (s : Scope) (n : ℕ) (cs : List Constraint) (es fs : List Entry) → add_entries vs s n cs es ≡ done fs → (c : Constraint) → In cs c
    → (i : ℕ) × (a : List Entry) × (b : List Entry) × (over c.domain s (add_entry vs i c) a ≡ done b)
unfolding add_entries
add_entries-at vs s n [] es fs e c h = absurd (in-nil c h)
add_entries-at vs s n (x ∷ cs) es fs e c h =
    after (over x.domain s (add_entry vs n x) es) _ fs e λ gs o e.
    go gs o (in-cons x cs c h) (add_entries-at vs s (suc n) cs gs fs e c)
  where
    Walked : Type 0
    Walked = (i : ℕ) × (a : List Entry) × (b : List Entry) × (over c.domain s (add_entry vs i c) a ≡ done b)

    go : (gs : List Entry) → over x.domain s (add_entry vs n x) es ≡ done gs → (x ≡ c) ⊎ In cs c → (In cs c → Walked) → Walked
    go gs o (inl k) ih = (n, es, gs, subst (λ (c : Constraint). over c.domain s (add_entry vs n c) es ≡ done gs) k o)
    go gs o (inr k) ih = ih k

module _ (m : Model) (vs : List Variable) (fs : List Entry) (taken : add_entries vs (start m) 0 m.structure.constraints [] ≡ done fs)
    (named : All (NamedConstraint m.structure.names) m.structure.constraints) where
  domain-defined : (c : Constraint) → In m.structure.constraints c → DefinedDomain c.domain (start m)
  domain-defined c n =
      let o = add_entries-at vs (start m) 0 m.structure.constraints [] fs taken c n in
      over-defined m.structure.names c.domain (start m) (add_entry vs o.0 c) o.1 o.2 (all_in_lem (NamedConstraint m.structure.names) m.structure.constraints c n named).domain o.3

  -- both sides, and the floor
  sides-defined : (P : Variable → Type 0) → ((j : ℕ) (v : Variable) → At vs j v → P v) → (o : Source) → Written m o
      → DefinedSide P o.constraint.left (scope_at m o) × Defined o.constraint.right (scope_at m o) × DefinedFloor o.constraint.relation (scope_at m o)
  unfolding scope_at add_entry
  sides-defined P numbered o w =
      let c = o.constraint in
      let n : In m.structure.constraints c = record { place = o.ordinal; at = w.listed } in
      let h = all_in_lem (NamedConstraint m.structure.names) m.structure.constraints c n named in
      let t = add_entries-at vs (start m) 0 m.structure.constraints [] fs taken c n in
      let x = over-at c.domain (start m) (add_entry vs t.0 c) t.1 t.2 t.3 o.element w.inside in
      let s = bind_all c.domain o.element (start m) in
      after (fact_of vs c.left c.relation c.right s) _ x.1 x.2 λ f cf e.
      after (floor_at c.relation s) _ x.1 e λ v cv _.
      let d = fact-defined m.structure.names vs P numbered c.left c.relation c.right s f h.left h.right cf in
      (d.0, d.1, floor-defined m.structure.names c.relation s v h.floor cv)

-- ---- names

module _ (m : Model) (u : Unit {0}) (given : all_given 0 m.structure.names (start m) ≡ done u)
    (a : List Variable) (first : add_variables (start m) (declared as_discrete 0 m.structure.names) [] ≡ done a)
    (vs : List Variable) (then : add_variables (start m) (declared as_continuous 0 m.structure.names) a ≡ done vs) (named : All (NamedEntry m.structure.names) m.structure.names) where
  given-at : (i : ℕ) (x : Name) → At m.structure.names i x → (s : Sort) → x.sort ≡ s → (w : Unit {0}) × (given_by i x.place s (start m) ≡ done w)
  given-at i x at s is =
      let r = all_given-at 0 m.structure.names (start m) u given i x at in
      let z : 0 + i ≡ i = omega arith in
      (r.0, subst (λ s. given_by i x.place s (start m) ≡ done r.0) is (subst (λ n. given_by n x.place x.sort (start m) ≡ done r.0) z r.1))

  named-at : (i : ℕ) (x : Name) → At m.structure.names i x → (s : Sort) → x.sort ≡ s → NamedSort m.structure.names s
  named-at i x at s is = subst (NamedSort m.structure.names) is (all-at (NamedEntry m.structure.names) m.structure.names i x at named)

  name-defined : (i : ℕ) (x : Name) → At m.structure.names i x → (s : Sort) → x.sort ≡ s → DefinedSort i s (start m)
  unfolding given_by as_discrete as_continuous
  name-defined i x at Syntax.index is = tt
  name-defined i x at (Syntax.integer d) is =
      let g = given-at i x at (Syntax.integer d) is in
      data-defined m.structure.names i x.place d (start m) g.0 (named-at i x at (Syntax.integer d) is) g.1
  name-defined i x at (Syntax.real d) is =
      let g = given-at i x at (Syntax.real d) is in
      data-defined m.structure.names i x.place d (start m) g.0 (named-at i x at (Syntax.real d) is) g.1
  name-defined i x at (Syntax.formula f) is = tt
  name-defined i x at (Syntax.discrete d) is =
      walked-defined as_discrete (start m) m.structure.names [] a first i x d at (ap as_discrete is) (named-at i x at (Syntax.discrete d) is)
  name-defined i x at (Syntax.continuous d) is =
      walked-defined as_continuous (start m) m.structure.names a vs then i x d at (ap as_continuous is) (named-at i x at (Syntax.continuous d) is)

-- ---- the model

pub defined : (m : Model) (p : Lp) → NamedStructure m.structure → generate m ≡ done p → DefinedModel m
unfolding generate discretes continuouses
defined m p named e =
    after (all_given 0 m.structure.names (start m)) _ p e λ u given e.
    after (add_variables (start m) (discretes m) []) _ p e λ a first e.
    after (add_variables (start m) (continuouses m) a) _ p e λ vs then e.
    after (gathered vs m.structure.objective (start m)) _ p e λ o gathers e.
    after (add_entries vs (start m) 0 m.structure.constraints []) _ p e λ es taken _.
    let numbered : (j : ℕ) (v : Variable) → At vs j v → Declared m v = (variable-numbers m vs (length a) (variables-made m a vs first then)).of_number in
    record {
      names = λ i x at. name-defined m u given a first vs then named.table i x at x.sort refl;
      objective = gathered-defined m.structure.names vs (Declared m) numbered m.structure.objective (start m) o named.objective gathers;
      domains = domain-defined m vs es taken named.constraints;
      left = λ o w. (sides-defined m vs es taken named.constraints (Declared m) numbered o w).0;
      right = λ o w. (sides-defined m vs es taken named.constraints (Declared m) numbered o w).1;
      floor = λ o w. (sides-defined m vs es taken named.constraints (Declared m) numbered o w).2;
    }
