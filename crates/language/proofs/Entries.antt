-- What the declarations and constraints become: variables and entries, each from its written element, with their values.
use Rattle.std.specs.Prelude.{Option, Some, None}
use mathlib.Core.Path.{◌≡◌, refl, sym, ◌∙◌, ap, subst}
use mathlib.Core.Logic.{◌↔◌, ◌⊎◌, inl, inr}
use mathlib.Core.Bool.{Bool, true, false, cond}
use mathlib.Core.List.{List, [], ◌∷◌, ◌++◌, map, append_assoc, append-nil}
use Prim.Native.Nat.{ℕ, zero, suc, ◌+◌, ◌<◌}
use native.Mathlib.Omega.{arith}
use lib.Dec.{ltb}
use lib.ListN.{length, length-map}
use lib.IntN.{ℤ}
use Rattle.value.specs.Number.{exactly}
use Rattle.language.specs.Listed.{At, In}
use Rattle.language.proofs.Listed.{in-nil, in-cons, in-here, in-later}
use Rattle.value.specs.Rational.{ℚ, 𝟎, neg, ◌⊑◌}
use Rattle.value.proofs.Rational.{neg-mono, neg-neg, neg-add, neg-mul, neg-zero}
use Rattle.rules.specs.declared.Refusal.TheVariants.{Full, Outside}
use Rattle.language.specs.Outcome.{Outcome, done, ◌>>=◌}
use Rattle.language.proofs.Outcome.{after, after_check, some_of, done-injective}
use Rattle.rules.specs.Limits.{variable_limit}
use Rattle.value.specs.declared.Value.{Value}
use Rattle.language.specs.Scope.{Scope, unbound}
use Rattle.language.specs.Syntax.{Formula, Formulas, Spans, Form, Constraint, Relation, at_most, at_least, equal, between, bare, form}
use Rattle.language.specs.Evaluation.{eval, eval_all, within, over}
use Rattle.language.specs.Written.{value, subscripts, form_value, negated_if, Written, scope_at}
use Rattle.language.specs.Model.{Model, start, Declaration}
use Rattle.language.specs.Numbering.{Variable, add_variable, add_variables, number_of, variable_at, Row, signed, gathered, Source, Entry, Fact, bound, row, flips, is_equal, fact_of, floor_at, row_count, add_entry, add_entries}
use Rattle.language.specs.Listing.{kind_of, kind_by}
use Rattle.language.specs.Listing as Listing
use Rattle.language.specs.Demand3.{Holds, RowMet, FloorIs, Rising}
use Rattle.value.proofs.Numbers.{exactly-negate}
use Rattle.language.proofs.Evaluated.{eval-done, eval_all-done}
use Rattle.language.proofs.Gathered.{dot, number_of-at, gathered-done, gathered-long}
use Rattle.language.proofs.Listwise.{collect, Grown, over-grown}
use Rattle.language.proofs.Ordered.{rising-nil, rising-cons}
use Rattle.language.proofs.Elements.{Walk, walk, walk-in, in-walk, only}

-- ---- negated rows

pub exactly-signed : (m : Bool) (v : Value) → exactly (signed m v) ≡ negated_if m (exactly v)
unfolding negated_if
exactly-signed true v = exactly-negate v
exactly-signed false v = refl

dot-neg : (r : Row) (xs : List ℚ) → dot (map (signed true) r) xs ≡ neg (dot r xs)
unfolding dot
dot-neg [] xs = sym neg-zero
dot-neg (v ∷ r) [] = sym neg-zero
dot-neg (v ∷ r) (x ∷ xs) = rw (dot-neg r xs, exactly-negate, neg-mul) (sym (neg-add _ _))

pub map_same : (r : Row) → map (signed false) r ≡ r
map_same [] = refl
map_same (v ∷ r) = ap (λ l. v ∷ l) (map_same r)

pub dot-signed : (m : Bool) (r : Row) (xs : List ℚ) → dot (map (signed m) r) xs ≡ negated_if m (dot r xs)
unfolding negated_if
dot-signed true r xs = dot-neg r xs
dot-signed false r xs = ap (λ l. dot l xs) (map_same r)

-- ---- floors

-- a floor that is read is the written one
pub floor-done : (r : Relation) (s : Scope) (w : Option Value) → floor_at r s ≡ done w → FloorIs r s w
unfolding floor_at
floor-done at_most s w e = sym (done-injective e)
floor-done at_least s w e = sym (done-injective e)
floor-done equal s w e = sym (done-injective e)
floor-done (between h) s w e = after (eval h s) _ w e λ v hv e. (v, sym (done-injective e), sym (eval-done h s v hv))

-- a row's kind, by its floor
pub floor-kind : (r : Relation) (s : Scope) (w : Option Value) → FloorIs r s w → kind_of r ≡ cond (is_equal r) Listing.equal (kind_by w)
floor-kind at_most s w h = ap kind_by (sym h)
floor-kind at_least s w h = ap kind_by (sym h)
floor-kind equal s w h = refl
floor-kind (between f) s w h = ap kind_by (sym h.1)

-- a row's value is not below its floor, if it has one
abbrev pub AboveFloor : Option Value → ℚ → Type 0
AboveFloor None p = Unit
AboveFloor (Some v) p = exactly v ⊑ p

no-floor : (w : Option Value) (p : ℚ) → w ≡ None → AboveFloor w p
no-floor w p e = subst (λ w. AboveFloor w p) (sym e) tt

-- a row and its floor are met exactly when the written constraint holds
pub met : (r : Relation) (s : Scope) (w : Option Value) (p q : ℚ) → FloorIs r s w
    → (RowMet (kind_of r) (negated_if (flips r) p) (negated_if (flips r) q) × AboveFloor w (negated_if (flips r) p)) ↔ Holds r s p q
unfolding negated_if
met at_most s w p q f = (λ h. h.0, λ h. (h, no-floor w p f))
met at_least s w p q f = (λ h. rw (neg-neg p, neg-neg q) at (neg-mono h.0), λ h. (neg-mono h, no-floor w (neg p) f))
met equal s w p q f = (λ h. h.0, λ h. (h, no-floor w p f))
met (between g) s w p q (v, is, same) = (
  λ h. (h.0, subst (λ z. z ⊑ p) same (subst (λ w. AboveFloor w p) is h.1)),
  λ h. (h.0, subst (λ w. AboveFloor w p) (sym is) (subst (λ z. z ⊑ p) (sym same) h.1)),
)

-- ---- one fact

pub record OfBare (vs : List Variable) (n : ℕ) (fs : Formulas) (g : Formula) (s : Scope) (f : Fact) : Type 0 where
  pub number : ℕ
  pub stated : Value
  pub fact-is : f ≡ bound number stated
  pub at : At vs number (record { name = n; element = subscripts fs s })
  pub right : value g s ≡ exactly stated

pub of_bare : (vs : List Variable) (n : ℕ) (d : Spans) (fs : Formulas) (p : ℕ) (r : Relation) (g : Formula) (s : Scope) (f : Fact)
    → fact_of vs (bare n d fs p) r g s ≡ done f → OfBare vs n fs g s f
unfolding fact_of variable_at
of_bare vs n d fs p r g s f e =
    after (variable_at vs n d fs p s) _ f e λ j vj e.
    after (eval_all fs s p) _ j vj λ ks fk vj.
    after (within d ks (unbound s) p) _ j vj λ _ _ vj.
    after (eval g s) _ f e λ v gv e.
    record {
      number = j;
      stated = v;
      fact-is = sym (done-injective e);
      at = rw (eval_all-done fs s p ks fk) (number_of-at n ks vs j (some_of Outside p (number_of n ks vs) j vj));
      right = eval-done g s v gv;
    }

pub record OfForm (vs : List Variable) (h : Form) (r : Relation) (g : Formula) (s : Scope) (f : Fact) : Type 0 where
  pub coefficients : Row
  pub right : Value
  pub fact-is : f ≡ row coefficients right
  pub left-value : (x : Variable → ℚ) → dot coefficients (map x vs) ≡ negated_if (flips r) (form_value x h s)
  pub long : length coefficients ≡ length vs
  pub right-value : exactly right ≡ negated_if (flips r) (value g s)

pub of-form : (vs : List Variable) (h : Form) (r : Relation) (g : Formula) (s : Scope) (f : Fact)
    → fact_of vs (form h) r g s ≡ done f → OfForm vs h r g s f
unfolding fact_of
of-form vs h r g s f e =
    after (gathered vs h s) _ f e λ cs hc e.
    after (eval g s) _ f e λ v gv e.
    record {
      coefficients = map (signed (flips r)) cs;
      right = signed (flips r) v;
      fact-is = sym (done-injective e);
      left-value = λ x. dot-signed (flips r) cs (map x vs) ∙ ap (negated_if (flips r)) (gathered-done vs x h s cs hc);
      long = length-map cs (signed (flips r)) ∙ gathered-long vs (λ v. 𝟎) h s cs hc;
      right-value = exactly-signed (flips r) v ∙ ap (negated_if (flips r)) (sym (eval-done g s v gv));
    }

-- ---- variables and entries as walks

unfoldable pub variable_for : Declaration → Scope → List ℤ → Outcome (List Variable)
variable_for d s e = done (record { name = d.name; element = e } ∷ [])

pub variable-one : (d : Declaration) (t : Scope) (e : List ℤ) (l : List Variable) → variable_for d t e ≡ done l
    → (v : Variable) × (v ∷ [] ≡ l) × (d.name ≡ v.name) × (e ≡ v.element)
unfolding variable_for
variable-one d t e l h = (record { name = d.name; element = e }, done-injective h, refl, refl)

abbrev pub variables : Walk Declaration Variable
variables =
    record { domain = λ d. d.domain; step = variable_for; key = λ d. d.name; number = λ v. v.name; element = λ v. v.element; one = variable-one }

-- a constraint with its number
pub record Placed : Type 0 where
  pub ordinal : ℕ
  pub constraint : Constraint

unfoldable pub placed : ℕ → List Constraint → List Placed
placed n [] = []
placed n (c ∷ cs) = record { ordinal = n; constraint = c } ∷ placed (suc n) cs

abbrev entry_with : Source → Fact → Option Value → Entry
entry_with o f w = record { source = o; fact = f; floor = w }

abbrev source_at : Placed → List ℤ → Source
source_at c e = record { ordinal = c.ordinal; constraint = c.constraint; element = e }

unfoldable pub entry_for : List Variable → Placed → Scope → List ℤ → Outcome (List Entry)
entry_for vs c s e = do
  f ← fact_of vs c.constraint.left c.constraint.relation c.constraint.right s
  w ← floor_at c.constraint.relation s
  done (entry_with (source_at c e) f w ∷ [])

entry_for-done : (vs : List Variable) (c : Placed) (s : Scope) (e : List ℤ) (l : List Entry) → entry_for vs c s e ≡ done l
    → (f : Fact) × (w : Option Value) × (fact_of vs c.constraint.left c.constraint.relation c.constraint.right s ≡ done f)
    × (floor_at c.constraint.relation s ≡ done w) × (entry_with (source_at c e) f w ∷ [] ≡ l)
unfolding entry_for
entry_for-done vs c s e l h =
    after (fact_of vs c.constraint.left c.constraint.relation c.constraint.right s) _ l h λ f made h.
    after (floor_at c.constraint.relation s) _ l h λ w floored one.
    (f, w, made, floored, done-injective one)

pub entry-one : (vs : List Variable) (c : Placed) (t : Scope) (e : List ℤ) (l : List Entry) → entry_for vs c t e ≡ done l
    → (x : Entry) × (x ∷ [] ≡ l) × (c.ordinal ≡ x.source.ordinal) × (e ≡ x.source.element)
entry-one vs c t e l h = let a = entry_for-done vs c t e l h in (_, a.4, refl, refl)

abbrev pub entries : List Variable → Walk Placed Entry
entries vs =
    record {
      domain = λ c. c.constraint.domain;
      step = entry_for vs;
      key = λ c. c.ordinal;
      number = λ e. e.source.ordinal;
      element = λ e. e.source.element;
      one = entry-one vs;
    }

variable-grown : (d : Declaration) (t : Scope) (e : List ℤ) (a b : List Variable) → add_variable d t e a ≡ done b → Grown (variable_for d t e) a b
unfolding add_variable variable_for
variable-grown d t e a b h =
    after_check Full d.place (ltb (length a) variable_limit) _ b h λ _ h.
    record { new = record { name = d.name; element = e } ∷ []; gives = refl; appended = done-injective h }

pub variables-grown : (s : Scope) (ds : List Declaration) (a b : List Variable) → add_variables s ds a ≡ done b → Grown (walk variables s ds) a b
unfolding add_variables collect
variables-grown s [] a b e = record { new = []; gives = refl; appended = append-nil a ∙ done-injective e }
variables-grown s (d ∷ ds) a b e =
    after (over d.domain s (add_variable d) a) _ b e λ c oc e.
    let x = over-grown d.domain s (add_variable d) (variable_for d) (variable-grown d) a c oc in
    let y = variables-grown s ds c b e in
    record {
      new = x.new ++ y.new;
      gives = rw (x.gives, y.gives) refl;
      appended = sym (append_assoc a x.new y.new) ∙ ap (λ l. l ++ y.new) x.appended ∙ y.appended;
    }

entry-grown : (vs : List Variable) (n : ℕ) (c : Constraint) (t : Scope) (e : List ℤ) (a b : List Entry)
    → add_entry vs n c t e a ≡ done b → Grown (entry_for vs (record { ordinal = n; constraint = c }) t e) a b
unfolding add_entry entry_for
entry-grown vs n c t e a b h =
    after (fact_of vs c.left c.relation c.right t) _ b h λ f fd h.
    after (floor_at c.relation t) _ b h λ w wd h.
    after (row_count f c.place a) _ b h λ _ _ h.
    record { new = record { source = record { ordinal = n; constraint = c; element = e }; fact = f; floor = w } ∷ []; gives = rw (fd, wd) refl; appended = done-injective h }

pub entries-grown : (vs : List Variable) (s : Scope) (n : ℕ) (cs : List Constraint) (a b : List Entry) → add_entries vs s n cs a ≡ done b
    → Grown (walk (entries vs) s (placed n cs)) a b
unfolding add_entries collect placed
entries-grown vs s n [] a b e = record { new = []; gives = refl; appended = append-nil a ∙ done-injective e }
entries-grown vs s n (c ∷ cs) a b e =
    after (over c.domain s (add_entry vs n c) a) _ b e λ d od e.
    let x = over-grown c.domain s (add_entry vs n c) (entry_for vs (record { ordinal = n; constraint = c })) (entry-grown vs n c) a d od in
    let y = entries-grown vs s (suc n) cs d b e in
    record {
      new = x.new ++ y.new;
      gives = rw (x.gives, y.gives) refl;
      appended = sym (append_assoc a x.new y.new) ∙ ap (λ l. l ++ y.new) x.appended ∙ y.appended;
    }

-- ---- places among the constraints

pub placed-in : (n : ℕ) (cs : List Constraint) (q : Placed) → In (placed n cs) q → (i : ℕ) × (q.ordinal ≡ n + i) × At cs i q.constraint
unfolding placed
placed-in n [] q h = absurd (in-nil q h)
placed-in n (c ∷ cs) q h = go (in-cons _ (placed (suc n) cs) q h) (placed-in (suc n) cs q)
  where
    go : (record { ordinal = n; constraint = c } ≡ q) ⊎ In (placed (suc n) cs) q → (In (placed (suc n) cs) q → (i : ℕ) × (q.ordinal ≡ suc n + i) × At cs i q.constraint)
        → (i : ℕ) × (q.ordinal ≡ n + i) × At (c ∷ cs) i q.constraint
    go (inl k) ih = (0, sym (ap (λ (x : Placed). x.ordinal) k) ∙ omega arith, ap (λ (x : Placed). x.constraint) k)
    go (inr k) ih = let r = ih k in (suc r.0, r.1 ∙ omega arith, r.2)

pub in-placed : (n : ℕ) (cs : List Constraint) (i : ℕ) (c : Constraint) → At cs i c → In (placed n cs) (record { ordinal = n + i; constraint = c })
unfolding placed
in-placed n [] i c h = absurd h
in-placed n (b ∷ cs) zero c h = let e : n ≡ n + 0 = omega arith in record { place = 0; at = λ k. record { ordinal = e k; constraint = h k } }
in-placed n (b ∷ cs) (suc i) c h =
    let e : suc n + i ≡ n + suc i = omega arith in
    in-later _ (placed (suc n) cs) _ (rw e at (in-placed (suc n) cs i c h))

pub rising-placed : (n : ℕ) (cs : List Constraint) → Rising (λ (c d : Placed). c.ordinal < d.ordinal) (placed n cs)
unfolding placed
rising-placed n [] = rising-nil
rising-placed n (c ∷ cs) = rising-cons _ (placed (suc n) cs) (λ d h. omega (arith, (placed-in (suc n) cs d h).1)) (rising-placed (suc n) cs)

-- ---- all of them

module _ (m : Model) (vs : List Variable) where
  abbrev pub made_of : Source → Outcome Fact
  made_of o = fact_of vs o.constraint.left o.constraint.relation o.constraint.right (scope_at m o)

  pub record Made (e : Entry) : Type 0 where
    pub written : Written m e.source
    pub made : made_of e.source ≡ done e.fact
    pub floor : floor_at e.source.constraint.relation (scope_at m e.source) ≡ done e.floor

  is-placed : (o : Source) → Written m o → In (placed 0 m.structure.constraints) (record { ordinal = o.ordinal; constraint = o.constraint })
  is-placed o w =
      let from0 : 0 + o.ordinal ≡ o.ordinal = omega arith in
      subst (λ k. In (placed 0 m.structure.constraints) (record { ordinal = k; constraint = o.constraint })) from0
      (in-placed 0 m.structure.constraints o.ordinal o.constraint w.listed)

  module _ (es : List Entry) (generated : walk (entries vs) (start m) (placed 0 m.structure.constraints) ≡ done es) where
    pub entry-made : (e : Entry) → In es e → Made e
    unfolding scope_at
    entry-made e h =
        let w = walk-in (entries vs) (start m) (placed 0 m.structure.constraints) es generated e h in
        let c = w.source in
        let a = entry_for-done vs c _ e.source.element (e ∷ []) w.gives in
        let q = placed-in 0 m.structure.constraints c w.listed in
        let same : q.0 ≡ c.ordinal = omega (arith, q.1) in
        subst Made (only _ e (e ∷ []) a.4 (in-here e []))
        (record { written = record { listed = subst (λ i. At m.structure.constraints i c.constraint) same q.2; inside = w.inside }; made = a.2; floor = a.3 })

    pub made-entry : (o : Source) → Written m o
        → (f : Fact) × (w : Option Value) × Made (record { source = o; fact = f; floor = w }) × In es (record { source = o; fact = f; floor = w })
    unfolding scope_at
    made-entry o w =
        let c : Placed = record { ordinal = o.ordinal; constraint = o.constraint } in
        let r = in-walk (entries vs) (start m) (placed 0 m.structure.constraints) es generated c (is-placed o w) o.element w.inside in
        let a = entry_for-done vs c _ o.element (r.0 ∷ []) r.1 in
        (a.0, a.1, record { written = w; made = a.2; floor = a.3 }, subst (In es) (sym (only _ r.0 (r.0 ∷ []) a.4 (in-here r.0 []))) r.2)
