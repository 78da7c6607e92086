-- Every element of a declared domain of variables has a number: behind a passed domain test, no variable is refused for want of
-- one.
use Rattle.std.specs.Prelude.{Option, Some, None}
use mathlib.Core.Path.{◌≡◌, refl, sym, ◌∙◌, ap, subst}
use mathlib.Core.Bool.{Bool, true, false}
use mathlib.Core.Logic.{◌⊎◌, inl, inr}
use mathlib.Core.List.{List, [], ◌∷◌, ◌++◌}
use Prim.Native.Nat.{ℕ, zero, suc, ◌+◌}
use native.Mathlib.Omega.{arith}
use lib.ListN.{length}
use lib.IntN.{ℤ, pos, negsuc}
use borrow.Author.Tests.{eq-eqb}
use Rattle.language.specs.Listed.{At, In}
use Rattle.language.proofs.Listed.{in-nil, in-cons, in-here, in-later, in_left, in_right}
use Rattle.language.specs.Outcome.{done}
use Rattle.language.specs.Scope.{Scope, unbound, same_whole, same_element}
use Rattle.language.specs.Syntax.{Formulas, Spans, Sort, Name}
use Rattle.language.specs.Syntax
use Rattle.language.specs.Evaluation.{eval_all, within}
use Rattle.language.specs.Store.{scope_of}
use Rattle.language.specs.Model.{Model, start, Declaration, as_discrete, as_continuous, declared, discretes, continuouses}
use Rattle.language.specs.Numbering.{Variable, add_variables, same_variable, later, number_of, variable_at}
use Rattle.language.specs.Written.{InDomain, Declared}
use Rattle.language.specs.Named.{IsVariable, NamedVariable}
use Rattle.language.specs.Defined.{Has}
use Rattle.language.proofs.Numbered.{variables-made, variable-numbers}
use Rattle.language.proofs.Defined.{many, within-defined}

-- ---- a variable that stands in the list is found

same_whole-refl : (k : ℤ) → same_whole k k ≡ true
unfolding same_whole
same_whole-refl (pos n) = eq-eqb n n refl
same_whole-refl (negsuc n) = eq-eqb n n refl

pub same_element-refl : (e : List ℤ) → same_element e e ≡ true
unfolding same_element
same_element-refl [] = refl
same_element-refl (k ∷ e) = rw (same_whole-refl k, same_element) (same_element-refl e)

same_variable-refl : (i : ℕ) (e : List ℤ) → same_variable (record { name = i; element = e }) i e ≡ true
unfolding same_variable
same_variable-refl i e = rw (eq-eqb i i refl) (same_element-refl e)

pub in-number_of : (i : ℕ) (e : List ℤ) (vs : List Variable) → In vs (record { name = i; element = e }) → Has (number_of i e vs)
unfolding number_of
in-number_of i e [] h = absurd (in-nil _ h)
in-number_of i e (v ∷ vs) h = go (same_variable v i e) refl (in-cons v vs _ h) (in-number_of i e vs)
  where
    next : Has (number_of i e vs) → Has (later (number_of i e vs))
    next x = record { it = _; is = ap later x.is }

    go : (t : Bool) → same_variable v i e ≡ t → (v ≡ record { name = i; element = e }) ⊎ In vs (record { name = i; element = e })
        → (In vs (record { name = i; element = e }) → Has (number_of i e vs)) → Has {A = ℕ} (elim t [ true ↦ Some 0 | false ↦ later (number_of i e vs) ])
    go true q k ih = record { it = 0; is = refl }
    go false q (inl k) ih = cc (sym (same_variable-refl i e) ∙ sym (ap (λ (v : Variable). same_variable v i e) k) ∙ q)
    go false q (inr k) ih = next (ih k)

-- ---- the variables of a model

-- a name of a sort is declared by its number, with its domain
pub declared-in : (f : Sort → Option Spans) (i : ℕ) (xs : List Name) (j : ℕ) (x : Name) (d : Spans) → At xs j x → f x.sort ≡ Some d
    → (c : Declaration) × (c.name ≡ i + j) × (c.domain ≡ d) × In (declared f i xs) c
unfolding declared
declared-in f i [] j x d at e = absurd at
declared-in f i (y ∷ xs) zero x d at e =
    (record { name = i; domain = d; place = y.place }, omega arith, refl, rw (ap (λ (x : Name). f x.sort) at ∙ e, declared) (in-here _ (declared f (suc i) xs)))
declared-in f i (y ∷ xs) (suc j) x d at e = go (f y.sort) (declared-in f (suc i) xs j x d at e)
  where
    go : (o : Option Spans) → (c : Declaration) × (c.name ≡ suc i + j) × (c.domain ≡ d) × In (declared f (suc i) xs) c
        → (c : Declaration) × (c.name ≡ i + suc j) × (c.domain ≡ d)
        × In {A = Declaration} (elim o [ Some d ↦ record { name = i; domain = d; place = y.place } ∷ declared f (suc i) xs | None ↦ declared f (suc i) xs ]) c
    go (Some b) r = (r.0, omega (arith, r.1), r.2, in-later _ (declared f (suc i) xs) r.0 r.3)
    go None r = (r.0, omega (arith, r.1), r.2, r.3)

variable-declared : (m : Model) (i : ℕ) (d : Spans) → IsVariable m.structure.names i d → (c : Declaration) × (c.name ≡ i) × (c.domain ≡ d) × In (discretes m ++ continuouses m) c
unfolding discretes continuouses as_discrete as_continuous
variable-declared m i d h = go h.sort
  where
    xs : List Name
    xs = m.structure.names

    go : (h.entry.sort ≡ Syntax.discrete d) ⊎ (h.entry.sort ≡ Syntax.continuous d) → (c : Declaration) × (c.name ≡ i) × (c.domain ≡ d) × In (declared as_discrete 0 xs ++ declared as_continuous 0 xs) c
    go (inl e) =
        let r = declared-in as_discrete 0 xs i h.entry d h.at (ap as_discrete e) in
        (r.0, omega (arith, r.1), r.2, in_left (declared as_discrete 0 xs) (declared as_continuous 0 xs) r.0 r.3)
    go (inr e) =
        let r = declared-in as_continuous 0 xs i h.entry d h.at (ap as_continuous e) in
        (r.0, omega (arith, r.1), r.2, in_right (declared as_discrete 0 xs) (declared as_continuous 0 xs) r.0 r.3)

module _ (m : Model) (a vs : List Variable) (first : add_variables (start m) (discretes m) [] ≡ done a) (then : add_variables (start m) (continuouses m) a ≡ done vs) where
  pub each-numbered : (v : Variable) → Declared m v → Has (number_of v.name v.element vs)
  each-numbered v d = in-number_of v.name v.element vs ((variable-numbers m vs (length a) (variables-made m a vs first then)).has-number v d)

  -- subscripts that pass the domain test of a variable have a number, whatever indices are bound
  pub never-outside : (i : ℕ) (d : Spans) (fs : Formulas) (p : ℕ) (s : Scope) (ks : List ℤ) (u : Unit {0}) → NamedVariable m.structure.names i d fs → s.known ≡ (start m).known
      → eval_all fs s p ≡ done ks → within d ks (unbound s) p ≡ done u → Has (number_of i ks vs)
  unfolding unbound start scope_of
  never-outside i d fs p s ks u h k e w =
      let same : unbound s ≡ start m = λ i. record { known = k i; bound = [] } in
      let c = variable-declared m i d h.0 in
      let inside = (within-defined m.structure.names d ks (unbound s) p u h.2 (many d fs s p ks h.1 e) w).inside in
      each-numbered (record { name = i; element = ks })
      (record { declaration = c.0; listed = c.3; named = c.1; inside = rw c.2 (subst (λ t. InDomain d t ks) same inside) })

  -- so a variable is refused only by its subscripts or its domain test
  pub variable-numbered : (i : ℕ) (d : Spans) (fs : Formulas) (p : ℕ) (s : Scope) (ks : List ℤ) (u : Unit {0}) → NamedVariable m.structure.names i d fs → s.known ≡ (start m).known
      → eval_all fs s p ≡ done ks → within d ks (unbound s) p ≡ done u → (j : ℕ) × (variable_at vs i d fs p s ≡ done j)
  unfolding variable_at
  variable-numbered i d fs p s ks u h k e w =
      let n = never-outside i d fs p s ks u h k e w in
      (n.it, rw (e, w, n.is) refl)
