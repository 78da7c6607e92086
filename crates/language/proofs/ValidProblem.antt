-- A problem that is generated from valid literals and data has valid values and small index numbers only, and no more variables
-- and rows than the tables take.
use Rattle.std.specs.Prelude.{Option, Some, None}
use mathlib.Core.Path.{◌≡◌, refl, ap, subst}
use mathlib.Core.Bool.{Bool, true, false, cond}
use mathlib.Core.List.{List, [], ◌∷◌, ◌++◌, map, append-nil}
use Prim.Native.Nat.{ℕ, suc, ◌≤◌}
use native.Mathlib.Omega.{arith}
use lib.Dec.{eqb, ltb}
use lib.ListN.{length, get_or, length-append}
use lib.IntN.{ℤ}
use borrow.Author.Tests.{ltb-true}
use Rattle.rules.specs.Limits.{variable_limit, row_limit}
use Rattle.rules.specs.declared.Refusal.TheVariants.{Full}
use Rattle.value.specs.declared.Value.{Value}
use Rattle.value.specs.Decimal.{Valid, zero_value, one_value, sum_of, product_of, is_at_most}
use Rattle.value.proofs.Operations.{sum-valid, negate-valid, zero-valid}
use Rattle.language.specs.All.{All}
use Rattle.language.proofs.All.{all-with, all_set, all_replicate, all_map}
use Rattle.language.specs.Outcome.{done}
use Rattle.language.proofs.Outcome.{check-of, after, after-fits, after_check, done-injective, some-injective}
use Rattle.language.specs.Scope.{Scope, bind}
use Rattle.language.specs.Syntax.{Name, Sort, Spans, Form, Term, also, factor, variable, sigma, Formula, Constraint, Relation, at_most, at_least, equal, between, Side, bare, form}
use Rattle.language.specs.Syntax
use Rattle.language.specs.Evaluation.{limits_of, run_of, eval, over}
use Rattle.language.specs.Store.{all_given}
use Rattle.language.specs.Model.{Model, start, Declaration, as_discrete, as_continuous, declared, discretes, continuouses}
use Rattle.language.specs.Numbering.{Variable, add_variable, add_variables, Row, xor, signed, add_at, variable_at, gather, gather_term, gathered, Source, Fact, bound, row, Entry, flips, fact_of, floor_at, is_row, is_equal, keep, any_row, less_row, equal_row, row_count, add_entry, add_entries, bound_at, lower_at, upper_at, picked, extreme, largest, smallest, is_at_least, lower_of, upper_of, Lp, less_rows, equal_rows, rows, generate}
use Rattle.language.specs.Literals.{AllFormula, AllSpans, AllForm, AllTerm, AllSide, AllRelation, AllConstraint, AllSort, AllNames, AllLiterals}
use Rattle.language.specs.Valid.{SmallElement, ValidScope, ValidRow, ValidVariable, ValidFact, ValidEntry, ValidProblem, ValidIfAny}
use Rattle.language.proofs.Bounds.{floor-bound}
use Rattle.language.proofs.Valid.{bind-valid, each_keeps, eval-valid, run-valid, over-keeps}

-- ---- declared domains

abbrev pub DeclaredLiterals : Declaration → Type 0
DeclaredLiterals d = AllSpans Valid d.domain

declared-literals : (f : Sort → Option Spans) → ((s : Sort) (d : Spans) → AllSort Valid s → f s ≡ Some d → AllSpans Valid d)
    → (i : ℕ) (xs : List Name) → AllNames Valid xs → All DeclaredLiterals (declared f i xs)
unfolding declared
declared-literals f from i [] h = tt
declared-literals f from i (x ∷ xs) h = go (f x.sort) refl (declared-literals f from (suc i) xs h.1)
  where
    go : (o : Option Spans) → f x.sort ≡ o → All DeclaredLiterals (declared f (suc i) xs)
        → All DeclaredLiterals (elim o [ Some d ↦ record { name = i; domain = d; place = x.place } ∷ declared f (suc i) xs | None ↦ declared f (suc i) xs ])
    go (Some d) e ih = (from x.sort d h.0 e, ih)
    go None e ih = ih

discrete-literals : (s : Sort) (d : Spans) → AllSort Valid s → as_discrete s ≡ Some d → AllSpans Valid d
unfolding as_discrete
discrete-literals Syntax.index d h e = cc
discrete-literals (Syntax.integer c) d h e = cc
discrete-literals (Syntax.real c) d h e = cc
discrete-literals (Syntax.formula f) d h e = cc
discrete-literals (Syntax.discrete c) d h e = subst (AllSpans Valid) (some-injective e) h
discrete-literals (Syntax.continuous c) d h e = cc

continuous-literals : (s : Sort) (d : Spans) → AllSort Valid s → as_continuous s ≡ Some d → AllSpans Valid d
unfolding as_continuous
continuous-literals Syntax.index d h e = cc
continuous-literals (Syntax.integer c) d h e = cc
continuous-literals (Syntax.real c) d h e = cc
continuous-literals (Syntax.formula f) d h e = cc
continuous-literals (Syntax.discrete c) d h e = cc
continuous-literals (Syntax.continuous c) d h e = subst (AllSpans Valid) (some-injective e) h

-- ---- bounds

picked-valid : (f : Entry → Option Value) → ((e : Entry) (v : Value) → ValidEntry e → f e ≡ Some v → Valid v) → (es : List Entry) → All ValidEntry es → All Valid (picked f es)
unfolding picked
picked-valid f from [] h = tt
picked-valid f from (e ∷ es) h = go (f e) refl (picked-valid f from es h.1)
  where
    go : (o : Option Value) → f e ≡ o → All Valid (picked f es) → All Valid (elim o [ Some v ↦ v ∷ picked f es | None ↦ picked f es ])
    go (Some v) k ih = (from e v h.0 k, ih)
    go None k ih = ih

pub extreme-valid : (le : Value → Value → Bool) (v : Value) (l : List Value) → Valid v → All Valid l → Valid (extreme le v l)
unfolding extreme
extreme-valid le v [] hv h = hv
extreme-valid le v (w ∷ l) hv h = extreme-valid le (cond (le v w) w v) l (go (le v w)) h.1
  where
    go : (t : Bool) → Valid (cond t w v)
    go true = h.0
    go false = hv

largest-valid : (l : List Value) → All Valid l → Valid (largest l)
unfolding largest
largest-valid [] h = zero-valid
largest-valid (v ∷ l) h = extreme-valid is_at_most v l h.0 h.1

smallest-valid : (l : List Value) → All Valid l → ValidIfAny (smallest l)
unfolding smallest
smallest-valid [] h = tt
smallest-valid (v ∷ l) h = extreme-valid is_at_least v l h.0 h.1

bound_at-valid : (f : Fact) (j : ℕ) (v : Value) → ValidFact f → bound_at f j ≡ Some v → Valid v
bound_at-valid (bound i w) j v h e = go (eqb i j) e
  where
    go : (t : Bool) → cond t (Some w) None ≡ Some v → Valid v
    go true e = subst Valid (some-injective e) h
    go false e = cc
bound_at-valid (row r w) j v h e = cc

lower_at-valid : (r : Relation) (f : Fact) (w : Option Value) (j : ℕ) (v : Value) → ValidFact f → ValidIfAny w → lower_at r f w j ≡ Some v → Valid v
lower_at-valid at_most f w j v h k e = cc
lower_at-valid at_least f w j v h k e = bound_at-valid f j v h e
lower_at-valid equal f w j v h k e = bound_at-valid f j v h e
lower_at-valid (between g) f w j v h k e = subst ValidIfAny (floor-bound f w j v e).2 k

upper_at-valid : (r : Relation) (f : Fact) (j : ℕ) (v : Value) → ValidFact f → upper_at r f j ≡ Some v → Valid v
upper_at-valid at_most f j v h e = bound_at-valid f j v h e
upper_at-valid at_least f j v h e = cc
upper_at-valid equal f j v h e = bound_at-valid f j v h e
upper_at-valid (between g) f j v h e = bound_at-valid f j v h e

pub lower-valid : (es : List Entry) (j : ℕ) → All ValidEntry es → Valid (lower_of es j)
unfolding lower_of
lower-valid es j h =
    largest-valid _
    (picked-valid (λ e. lower_at e.source.constraint.relation e.fact e.floor j)
    (λ e v k o. lower_at-valid e.source.constraint.relation e.fact e.floor j v k.fact k.floor o) es h)

pub upper-valid : (es : List Entry) (j : ℕ) → All ValidEntry es → ValidIfAny (upper_of es j)
unfolding upper_of
upper-valid es j h =
    smallest-valid _ (picked-valid (λ e. upper_at e.source.constraint.relation e.fact j) (λ e v k o. upper_at-valid e.source.constraint.relation e.fact j v k.fact o) es h)

-- ---- counts of rows

kept_append : {A : Type 0} (f : A → Bool) (l m : List A) → keep f (l ++ m) ≡ keep f l ++ keep f m
unfolding keep
kept_append {A} f [] m = refl
kept_append {A} f (a ∷ l) m = go (f a) (kept_append f l m)
  where
    go : (t : Bool) → keep f (l ++ m) ≡ keep f l ++ keep f m
        → ◌≡◌ {A = List A} (elim t [ true ↦ a ∷ keep f (l ++ m) | false ↦ keep f (l ++ m) ]) (elim t as (λ _. List A) [ true ↦ a ∷ keep f l | false ↦ keep f l ] ++ keep f m)
    go true ih = ap (λ k. a ∷ k) ih
    go false ih = ih

-- each row is from `<=` or `>=`, or from `=`
rows-counted : (es : List Entry) → length (keep less_row es ++ keep equal_row es) ≡ length (keep any_row es)
unfolding keep
rows-counted [] = refl
rows-counted (e ∷ es) = go (is_equal e.source.constraint.relation) (is_row e.fact) (rows-counted es)
  where
    kept : Bool → List Entry → List Entry
    kept t l = elim t [ true ↦ e ∷ l | false ↦ l ]

    go : (t u : Bool) → length (keep less_row es ++ keep equal_row es) ≡ length (keep any_row es)
        → length (kept (cond t false u) (keep less_row es) ++ kept (cond t u false) (keep equal_row es)) ≡ length (kept u (keep any_row es))
    go true true ih = omega (arith, ih, length-append (keep less_row es) (keep equal_row es), length-append (keep less_row es) (e ∷ keep equal_row es))
    go true false ih = ih
    go false true ih = ap suc ih
    go false false ih = ih

-- ---- variables, rows and facts

record ValidVariables (vs : List Variable) : Type 0 where
  all : All ValidVariable vs
  few : length vs ≤ variable_limit

add_variable-valid : (d : Declaration) (s : Scope) (e : List ℤ) (vs ws : List Variable) → SmallElement e → ValidVariables vs → add_variable d s e vs ≡ done ws → ValidVariables ws
unfolding add_variable
add_variable-valid d s e vs ws he h a =
    after_check Full d.place (ltb (length vs) variable_limit) _ ws a λ t a.
    subst ValidVariables (done-injective a)
    (record { all = all-with ValidVariable vs _ h.all he; few = rw length-append (omega (arith, ltb-true (length vs) variable_limit t)) })

add_variables-valid : (s : Scope) (ds : List Declaration) (vs ws : List Variable) → ValidScope s → All DeclaredLiterals ds → ValidVariables vs
    → add_variables s ds vs ≡ done ws → ValidVariables ws
unfolding add_variables
add_variables-valid s [] vs ws hs hd h e = subst ValidVariables (done-injective e) h
add_variables-valid s (d ∷ ds) vs ws hs hd h e =
    after (over d.domain s (add_variable d) vs) _ ws e λ us o e.
    add_variables-valid s ds us ws hs hd.1
    (over-keeps ValidVariables d.domain s (add_variable d) hd.0 hs (λ t x a b _ hx ha e. add_variable-valid d t x a b hx ha e) vs us h o) e

record ValidEntries (es : List Entry) : Type 0 where
  all : All ValidEntry es
  few : length (keep any_row es) ≤ row_limit

-- one more entry, which is counted if it is a row
counted-few : (es : List Entry) (o : Source) (f : Fact) (w : Option Value) (p : ℕ) (u : Unit {0}) → length (keep any_row es) ≤ row_limit → row_count f p es ≡ done u
    → length (keep any_row (es ++ (record { source = o; fact = f; floor = w } ∷ []))) ≤ row_limit
unfolding row_count keep
counted-few es o (bound j v) w p u h c = rw (kept_append any_row es, append-nil) h
counted-few es o (row r v) w p u h c = rw (kept_append any_row es, length-append) (omega (arith, ltb-true (length (keep any_row es)) row_limit (check-of Full p _ u c)))

-- each coefficient is 0 or a sum's result
add_at-valid : (j : ℕ) (v : Value) (p : ℕ) (r q : Row) → ValidRow r → add_at j v p r ≡ done q → ValidRow q
unfolding add_at
add_at-valid j v p r q h e =
    after-fits p (sum_of (get_or r j zero_value) v) _ q e λ w a e.
    subst ValidRow (done-injective e) (all_set Valid r j w h (sum-valid _ v w a))

module _ (vs : List Variable) where
  mutual
    unfolding gather

    gather-valid : (f : Form) (s : Scope) (c : Value) (m : Bool) (r q : Row) → AllForm Valid f → ValidScope s → ValidRow r → gather vs f s c m r ≡ done q → ValidRow q
    gather-valid Syntax.end s c m r q l hs h e = subst ValidRow (done-injective e) h
    gather-valid (also n t f) s c m r q l hs h e =
        after (gather_term vs t s c (xor m n) r) _ q e λ u tu e.
        gather-valid f s c m u q l.1 hs (gather_term-valid t s c (xor m n) r u l.0 hs h tu) e

    gather_term-valid : (t : Term) (s : Scope) (c : Value) (m : Bool) (r q : Row) → AllTerm Valid t → ValidScope s → ValidRow r → gather_term vs t s c m r ≡ done q → ValidRow q
    gather_term-valid (factor f p t) s c m r q l hs h e =
        after (eval f s) _ q e λ v _ e.
        after-fits p (product_of c v) _ q e λ w _ e.
        gather_term-valid t s w m r q l.1 hs h e
    gather_term-valid (variable i d fs p) s c m r q l hs h e =
        after (variable_at vs i d fs p s) _ q e λ j _ e.
        add_at-valid j (signed m c) p r q h e
    gather_term-valid (sigma i f g b p) s c m r q l hs h e =
        after (limits_of (eval f s) (eval g s)) _ q e λ x fg e.
        after (run_of x i s p) _ q e λ ks ru e.
        each_keeps ValidRow (λ k u. gather vs b (bind i k s) c m u)
        (λ k u w hk hu e. gather-valid b (bind i k s) c m u w l.2 (bind-valid i k s hk hs) hu e)
        ks r q (run-valid f g i s p x ks l.0 l.1 hs fg ru) h e

  pub gathered-valid : (f : Form) (s : Scope) (r : Row) → AllForm Valid f → ValidScope s → gathered vs f s ≡ done r → ValidRow r
  unfolding gathered
  gathered-valid f s r l hs e = gather-valid f s one_value false _ r l hs (all_replicate Valid (length vs) zero_value zero-valid) e

  signed-valid : (m : Bool) (v : Value) → Valid v → Valid (signed m v)
  signed-valid true v h = negate-valid v h
  signed-valid false v h = h

  signed_row-valid : (m : Bool) (r : Row) → ValidRow r → ValidRow (map (signed m) r)
  signed_row-valid m r h = all_map Valid Valid (signed m) (signed-valid m) r h

  fact_of-valid : (l : Side) (r : Relation) (g : Formula) (s : Scope) (f : Fact) → AllSide Valid l → AllFormula Valid g → ValidScope s → fact_of vs l r g s ≡ done f → ValidFact f
  unfolding fact_of
  fact_of-valid (bare i d fs p) r g s f l h hs e =
      after (variable_at vs i d fs p s) _ f e λ j _ e.
      after (eval g s) _ f e λ v gv e.
      subst ValidFact (done-injective e) (eval-valid g s v h hs gv)
  fact_of-valid (form x) r g s f l h hs e =
      after (gathered vs x s) _ f e λ cs xc e.
      after (eval g s) _ f e λ v gv e.
      subst ValidFact (done-injective e)
      (signed_row-valid (flips r) cs (gathered-valid x s cs l hs xc), signed-valid (flips r) v (eval-valid g s v h hs gv))

  floor-valid : (r : Relation) (s : Scope) (w : Option Value) → AllRelation Valid r → ValidScope s → floor_at r s ≡ done w → ValidIfAny w
  unfolding floor_at
  floor-valid at_most s w l hs e = subst ValidIfAny (done-injective e) tt
  floor-valid at_least s w l hs e = subst ValidIfAny (done-injective e) tt
  floor-valid equal s w l hs e = subst ValidIfAny (done-injective e) tt
  floor-valid (between h) s w l hs e = after (eval h s) _ w e λ v hv e. subst ValidIfAny (done-injective e) (eval-valid h s v l hs hv)

  add_entry-valid : (n : ℕ) (c : Constraint) (s : Scope) (e : List ℤ) (es fs : List Entry) → AllConstraint Valid c → ValidScope s → SmallElement e → ValidEntries es
      → add_entry vs n c s e es ≡ done fs → ValidEntries fs
  unfolding add_entry
  add_entry-valid n c s e es fs l hs he h a =
      after (fact_of vs c.left c.relation c.right s) _ fs a λ f cf a.
      after (floor_at c.relation s) _ fs a λ w cw a.
      after (row_count f c.place es) _ fs a λ u rc a.
      subst ValidEntries (done-injective a)
      (record {
        all = all-with ValidEntry es _ h.all (
            record {
              element = he;
              fact = fact_of-valid c.left c.relation c.right s f l.0 l.1 hs cf;
              floor = floor-valid c.relation s w l.2 hs cw;
            }
            );
        few = counted-few es (record { ordinal = n; constraint = c; element = e }) f w c.place u h.few rc;
      })

  add_entries-valid : (s : Scope) (n : ℕ) (cs : List Constraint) (es fs : List Entry) → ValidScope s → All (AllConstraint Valid) cs → ValidEntries es
      → add_entries vs s n cs es ≡ done fs → ValidEntries fs
  unfolding add_entries
  add_entries-valid s n [] es fs hs l h e = subst ValidEntries (done-injective e) h
  add_entries-valid s n (c ∷ cs) es fs hs l h e =
      after (over c.domain s (add_entry vs n c) es) _ fs e λ gs o e.
      add_entries-valid s (suc n) cs gs fs hs l.1
      (over-keeps ValidEntries c.domain s (add_entry vs n c) l.0.3 hs
      (λ t x a b ht hx ha e. add_entry-valid n c t x a b l.0 ht hx ha e) es gs h o) e

-- ---- the problem

pub generate-valid : (m : Model) (p : Lp) → AllLiterals Valid m.structure → ValidScope (start m) → generate m ≡ done p → ValidProblem p
unfolding generate discretes continuouses less_rows equal_rows rows keep
generate-valid m p l hs e =
    after (all_given 0 m.structure.names (start m)) _ p e λ _ _ e.
    after (add_variables (start m) (discretes m) []) _ p e λ a da e.
    after (add_variables (start m) (continuouses m) a) _ p e λ b cb e.
    after (gathered b m.structure.objective (start m)) _ p e λ o ob e.
    after (add_entries b (start m) 0 m.structure.constraints []) _ p e λ es ce e.
    subst ValidProblem (done-injective e)
    (let first = add_variables-valid (start m) (discretes m) [] a hs (declared-literals as_discrete discrete-literals 0 m.structure.names l.0) (record { all = tt; few = omega arith }) da in
    let both = add_variables-valid (start m) (continuouses m) a b hs (declared-literals as_continuous continuous-literals 0 m.structure.names l.0) first cb in
    let entries = add_entries-valid b (start m) 0 m.structure.constraints [] es hs l.2 (record { all = tt; few = omega arith }) ce in
    record {
      variables = both.all;
      entries = entries.all;
      objective = signed_row-valid b m.structure.minimize o (gathered-valid b m.structure.objective (start m) o l.1 hs ob);
      few-discrete = first.few;
      few-variables = both.few;
      few-rows = rw rows-counted entries.few;
    })
