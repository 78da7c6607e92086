-- The variables and the rows have their numbers one to one, in the order of declarations, constraints and elements; discrete
-- variables and rows from `<=` and `>=` come first.
use Rattle.std.specs.Prelude.{Option, Some, None}
use mathlib.Core.Path.{◌≡◌, refl, sym, ◌∙◌, ap, subst}
use mathlib.Core.Logic.{◌↔◌, ◌⊎◌, inl, inr}
use mathlib.Core.Bool.{Bool, true, false, cond}
use mathlib.Core.List.{List, [], ◌∷◌, ◌++◌, map}
use Prim.Native.Nat.{ℕ, suc, ◌+◌, ◌<◌}
use native.Mathlib.Omega.{arith}
use lib.Dec.{ltb}
use lib.ListN.{length}
use borrow.Author.Tests.{ltb-true, lt-ltb}
use Rattle.language.specs.Listed.{At, In}
use Rattle.language.proofs.Listed.{Split, at-unique, at_length, at-append, in-nil, in-cons, in-here, in-later, in-append, in_left, in_right, in_map, map-in, distinct-from-map}
use Rattle.language.specs.Outcome.{done}
use Rattle.language.specs.Scope.{Scope}
use Rattle.language.specs.Syntax.{Name, Sort, Spans, Relation, Side, bare, form}
use Rattle.language.specs.Syntax
use Rattle.language.specs.Model.{Model, start, Declaration, declared, as_discrete, as_continuous, discretes, continuouses}
use Rattle.language.specs.Numbering.{Variable, add_variables, Source, Entry, Fact, fact_of, is_row, is_equal, keep, less_row, equal_row}
use Rattle.language.specs.Written.{Declared}
use Rattle.language.specs.Demand3.{OneToOne, RowSource, IsForm, source_of, Rising, Precedes, Among, EarlierVariable, EarlierRow}
use Rattle.language.specs.Demand3
use Rattle.language.proofs.Ordered.{rising-nil, rising-cons, rising-head, rising-tail, rising-append, rising-as, distinct-rising, not_itself}
use Rattle.language.proofs.Collected.{collect-append}
use Rattle.language.proofs.Elements.{Before, walk, walk-in, in-walk, rising-walk, only}
use Rattle.language.proofs.Entries.{variables, variables-grown, entries, placed, rising-placed, entry-made, made-entry, of_bare, of-form}

-- ---- declarations: a name's number is its place in the table

record Declares (f : Sort → Option Spans) (i : ℕ) (xs : List Name) (d : Declaration) : Type 0 where
  ordinal : ℕ
  name : Name
  at : At xs ordinal name
  name-is : d.name ≡ i + ordinal
  domain-is : f name.sort ≡ Some d.domain

declares : (f : Sort → Option Spans) (i : ℕ) (xs : List Name) (d : Declaration) → In (declared f i xs) d → Declares f i xs d
unfolding declared
declares f i [] d h = absurd (in-nil d h)
declares f i (x ∷ xs) d h = go (f x.sort) refl h (declares f (suc i) xs d)
  where
    later : Declares f (suc i) xs d → Declares f i (x ∷ xs) d
    later r =
        record {
          ordinal = suc r.ordinal;
          name = r.name;
          at = r.at;
          name-is = r.name-is ∙ omega arith;
          domain-is = r.domain-is;
        }

    first : (s : Spans) → f x.sort ≡ Some s → (record { name = i; domain = s; place = x.place } ≡ d) ⊎ In (declared f (suc i) xs) d
        → (In (declared f (suc i) xs) d → Declares f (suc i) xs d) → Declares f i (x ∷ xs) d
    first s fs (inl k) ih =
        record {
          ordinal = 0;
          name = x;
          at = refl;
          name-is = sym (ap (λ (y : Declaration). y.name) k) ∙ omega arith;
          domain-is = fs ∙ ap (λ (y : Declaration). Some y.domain) k;
        }
    first s fs (inr k) ih = later (ih k)

    go : (o : Option Spans) → f x.sort ≡ o
        → In (elim o [ Some s ↦ record { name = i; domain = s; place = x.place } ∷ declared f (suc i) xs | None ↦ declared f (suc i) xs ]) d
        → (In (declared f (suc i) xs) d → Declares f (suc i) xs d) → Declares f i (x ∷ xs) d
    go (Some s) fs h ih = first s fs (in-cons _ (declared f (suc i) xs) d h) ih
    go None fs h ih = later (ih h)

rising-declared : (f : Sort → Option Spans) (i : ℕ) (xs : List Name) → Rising (λ (d e : Declaration). d.name < e.name) (declared f i xs)
unfolding declared
rising-declared f i [] = rising-nil
rising-declared f i (x ∷ xs) = go (f x.sort) (rising-declared f (suc i) xs)
  where
    ByName : List Declaration → Type 0
    ByName l = Rising (λ (d e : Declaration). d.name < e.name) l

    go : (o : Option Spans) → ByName (declared f (suc i) xs)
        → ByName (elim o [ Some s ↦ record { name = i; domain = s; place = x.place } ∷ declared f (suc i) xs | None ↦ declared f (suc i) xs ])
    go (Some s) ih = rising-cons _ (declared f (suc i) xs) (λ d h. omega (arith, (declares f (suc i) xs d h).name-is)) ih
    go None ih = ih

same_name : (f g : Sort → Option Spans) (xs : List Name) (d e : Declaration) (a : Declares f 0 xs d) (b : Declares g 0 xs e) → d.name ≡ e.name → a.name ≡ b.name
same_name f g xs d e a b h =
    let same : a.ordinal ≡ b.ordinal = omega (arith, a.name-is, b.name-is) in
    at-unique xs b.ordinal a.name b.name (subst (λ k. At xs k a.name) same a.at) b.at

not-both : (s : Sort) (d e : Spans) → as_discrete s ≡ Some d → as_continuous s ≡ Some e → ⊥
unfolding as_discrete as_continuous
not-both Syntax.index d e h k = cc
not-both (Syntax.integer x) d e h k = cc
not-both (Syntax.real x) d e h k = cc
not-both (Syntax.formula x) d e h k = cc
not-both (Syntax.discrete x) d e h k = cc
not-both (Syntax.continuous x) d e h k = cc

module _ (m : Model) where
  abbrev all_declared : List Declaration
  all_declared = discretes m ++ continuouses m

  apart : (d e : Declaration) → In (discretes m) d → In (continuouses m) e → d.name ≡ e.name → ⊥
  unfolding discretes continuouses
  apart d e h k n =
      let xs = m.structure.names in
      let a = declares as_discrete 0 xs d h in
      let b = declares as_continuous 0 xs e k in
      let x : a.name ≡ b.name = same_name as_discrete as_continuous xs d e a b n in
      not-both b.name.sort d.domain e.domain (sym (ap (λ (y : Name). as_discrete y.sort) x) ∙ a.domain-is) b.domain-is

-- ---- variables

-- the variables of a model, of which the first n are discrete
pub record Variables (m : Model) (vs : List Variable) (n : ℕ) : Type 0 where
  pub discrete : List Variable
  pub continuous : List Variable
  pub discrete-made : walk variables (start m) (discretes m) ≡ done discrete
  pub continuous-made : walk variables (start m) (continuouses m) ≡ done continuous
  pub joined : discrete ++ continuous ≡ vs
  pub counted : length discrete ≡ n

pub variables-made : (m : Model) (a vs : List Variable) → add_variables (start m) (discretes m) [] ≡ done a → add_variables (start m) (continuouses m) a ≡ done vs
    → Variables m vs (length a)
variables-made m a vs first then =
    let u = variables-grown (start m) (discretes m) [] a first in
    let v = variables-grown (start m) (continuouses m) a vs then in
    record { discrete = a; continuous = v.new; discrete-made = u.gives ∙ ap done u.appended; continuous-made = v.gives; joined = v.appended; counted = refl }

module _ (m : Model) where
  among : (ds : List Declaration) (vs : List Variable) → walk variables (start m) ds ≡ done vs → (v : Variable) → In vs v → Among ds v
  among ds vs g v h =
      let w = walk-in variables (start m) ds vs g v h in
      record { declaration = w.source; listed = w.listed; named = w.number_is }

  by_name : (ds : List Declaration) (vs : List Variable) → walk variables (start m) ds ≡ done vs → Rising (λ (d e : Declaration). d.name < e.name) ds
      → Rising (Before variables) vs
  by_name = rising-walk variables (start m)

  kinds-apart : (v w : Variable) → Among (discretes m) v → Among (continuouses m) w → v.name ≡ w.name → ⊥
  kinds-apart v w a b n = apart m a.declaration b.declaration a.listed b.listed (a.named ∙ n ∙ sym b.named)

  earlier-apart : (v w : Variable) → EarlierVariable m v w → v ≡ w → ⊥
  earlier-apart v w (Demand3.by_kind a b) e = kinds-apart v w a b (ap (λ (x : Variable). x.name) e)
  earlier-apart v w (Demand3.by-declaration k n) e = omega (arith, ap (λ (x : Variable). x.name) e)
  earlier-apart v w (Demand3.by-element n p) e = not_itself w.element (subst (λ (x : Variable). Precedes x.element w.element) e p)

  -- the name of a declared variable stands in the table
  pub in_table : (v : Variable) → Declared m v → (x : Name) × At m.structure.names v.name x
  unfolding discretes continuouses
  in_table v p = go (in-append (discretes m) (continuouses m) p.declaration p.listed)
    where
      found : (f : Sort → Option Spans) → In (declared f 0 m.structure.names) p.declaration → (x : Name) × At m.structure.names v.name x
      found f h =
          let r = declares f 0 m.structure.names p.declaration h in
          let same : r.ordinal ≡ v.name = omega (arith, r.name-is, p.named) in
          (r.name, subst (λ i. At m.structure.names i r.name) same r.at)

      go : In (discretes m) p.declaration ⊎ In (continuouses m) p.declaration → (x : Name) × At m.structure.names v.name x
      go (inl h) = found as_discrete h
      go (inr h) = found as_continuous h

  module _ (vs : List Variable) (n : ℕ) (made : Variables m vs n) where
    abbrev first : List Variable
    first = made.discrete

    abbrev later : List Variable
    later = made.continuous

    of-discrete : (v : Variable) → In first v → Among (discretes m) v
    of-discrete = among (discretes m) first made.discrete-made

    of-continuous : (v : Variable) → In later v → Among (continuouses m) v
    of-continuous = among (continuouses m) later made.continuous-made

    pub variable-order : Rising (EarlierVariable m) vs
    unfolding discretes continuouses
    variable-order =
        subst (Rising (EarlierVariable m)) made.joined
        (rising-append first later
        (rising-as first (by_name (discretes m) first made.discrete-made (rising-declared as_discrete 0 m.structure.names))
        (λ v w h k o. earlier v w (inl (of-discrete v h, of-discrete w k)) o))
        (rising-as later (by_name (continuouses m) later made.continuous-made (rising-declared as_continuous 0 m.structure.names))
        (λ v w h k o. earlier v w (inr (of-continuous v h, of-continuous w k)) o))
        (λ v w h k. Demand3.by_kind (of-discrete v h) (of-continuous w k)))
      where
        earlier : (v w : Variable) → (Among (discretes m) v × Among (discretes m) w) ⊎ (Among (continuouses m) v × Among (continuouses m) w)
            → Before variables v w → EarlierVariable m v w
        earlier v w k (inl o) = Demand3.by-declaration k o
        earlier v w k (inr o) = Demand3.by-element o.0 o.1

    pub discrete-first : (i : ℕ) (v : Variable) → At vs i v → (ltb i n ≡ true) ↔ Among (discretes m) v
    discrete-first i v at = go (at-append first later i v (subst (λ l. At l i v) (sym made.joined) at))
      where
        go : Split first later i v → (ltb i n ≡ true) ↔ Among (discretes m) v
        go (inl h) = (λ t. of-discrete v (record { place = i; at = h }), λ a. lt-ltb i n (omega (arith, at_length first i v h, made.counted)))
        go (inr h) = (
          λ t. absurd (omega (arith, ltb-true i n t, h.1, made.counted)),
          λ a. absurd (kinds-apart v v a (of-continuous v (record { place = h.0; at = h.2 })) refl),
        )

    all_made : walk variables (start m) (all_declared m) ≡ done vs
    all_made = collect-append _ (discretes m) (continuouses m) first later made.discrete-made made.continuous-made ∙ ap done made.joined

    pub variable-numbers : OneToOne vs (Declared m)
    variable-numbers =
        record {
          has-number = λ v p.
              let d = p.declaration in
              let r = in-walk variables (start m) (all_declared m) vs all_made d p.listed v.element p.inside in
              let o = variables.one d _ v.element (r.0 ∷ []) r.1 in
              let name : o.0.name ≡ v.name = sym o.2 ∙ p.named in
              let same : o.0 ≡ v = (λ i. record { name = name i; element = sym o.3 i }) in
              subst (In vs) (sym (only o.0 r.0 (r.0 ∷ []) o.1 (in-here r.0 [])) ∙ same) r.2;
          of_number = λ j v h.
              let w = walk-in variables (start m) (all_declared m) vs all_made v (record { place = j; at = h }) in
              record { declaration = w.source; listed = w.listed; named = w.number_is; inside = w.inside };
          once = distinct-from-map (λ v. v) vs (distinct-rising (λ v. v) vs variable-order earlier-apart);
        }

-- ---- the entries that pass a test

in-keep : {A : Type 0} (p : A → Bool) (l : List A) (a : A) → In l a → p a ≡ true → In (keep p l) a
unfolding keep
in-keep {A} p [] a h t = absurd (in-nil a h)
in-keep {A} p (b ∷ l) a h t = go (p b) refl (in-cons b l a h) (λ k. in-keep p l a k t)
  where
    go : (s : Bool) → p b ≡ s → (b ≡ a) ⊎ In l a → (In l a → In (keep p l) a) → In (elim s [ true ↦ b ∷ keep p l | false ↦ keep p l ]) a
    go true e (inl k) ih = record { place = 0; at = k }
    go true e (inr k) ih = in-later b (keep p l) a (ih k)
    go false e (inl k) ih = cc (sym t ∙ sym (ap p k) ∙ e)
    go false e (inr k) ih = ih k

pub keep-in : {A : Type 0} (p : A → Bool) (l : List A) (a : A) → In (keep p l) a → In l a × (p a ≡ true)
unfolding keep
keep-in {A} p [] a h = absurd (in-nil a h)
keep-in {A} p (b ∷ l) a h = go (p b) refl h (keep-in p l a)
  where
    first : p b ≡ true → (In (keep p l) a → In l a × (p a ≡ true)) → (b ≡ a) ⊎ In (keep p l) a → In (b ∷ l) a × (p a ≡ true)
    first e ih (inl k) = (record { place = 0; at = k }, sym (ap p k) ∙ e)
    first e ih (inr k) = (in-later b l a (ih k).0, (ih k).1)

    go : (s : Bool) → p b ≡ s → In (elim s [ true ↦ b ∷ keep p l | false ↦ keep p l ]) a → (In (keep p l) a → In l a × (p a ≡ true)) → In (b ∷ l) a × (p a ≡ true)
    go true e h ih = first e ih (in-cons b (keep p l) a h)
    go false e h ih = (in-later b l a (ih h).0, (ih h).1)

rising-keep : {A : Type 0} {R : A → A → Type 0} (p : A → Bool) (l : List A) → Rising R l → Rising R (keep p l)
unfolding keep
rising-keep {A} {R} p [] r = r
rising-keep {A} {R} p (b ∷ l) r = go (p b) (rising-keep p l (rising-tail b l r))
  where
    go : (s : Bool) → Rising R (keep p l) → Rising R (elim s [ true ↦ b ∷ keep p l | false ↦ keep p l ])
    go true ih = rising-cons b (keep p l) (λ a h. rising-head b l r a (keep-in p l a h).0) ih
    go false ih = ih

-- ---- rows

pub form-row : (vs : List Variable) (d : Side) (r : Relation) (g : _) (s : Scope) (f : Fact) → fact_of vs d r g s ≡ done f → IsForm d → is_row f ≡ true
form-row vs (bare n d fs p) r g s f e k = absurd k
form-row vs (form h) r g s f e k = ap is_row (of-form vs h r g s f e).fact-is

pub row-form : (vs : List Variable) (d : Side) (r : Relation) (g : _) (s : Scope) (f : Fact) → fact_of vs d r g s ≡ done f → is_row f ≡ true → IsForm d
row-form vs (bare n d fs p) r g s f e k = cc (sym k ∙ ap is_row (of_bare vs n d fs p r g s f e).fact-is)
row-form vs (form h) r g s f e k = tt

abbrev pub rows_of : List Entry → List Entry
rows_of es = keep less_row es ++ keep equal_row es

pub in_rows : (es : List Entry) (e : Entry) → In es e → is_row e.fact ≡ true → In (rows_of es) e
in_rows es e h k = go (is_equal e.source.constraint.relation) refl
  where
    go : (t : Bool) → is_equal e.source.constraint.relation ≡ t → In (rows_of es) e
    go true i = in_right (keep less_row es) (keep equal_row es) e (in-keep equal_row es e h (ap (λ t. cond t (is_row e.fact) false) i ∙ k))
    go false i = in_left (keep less_row es) (keep equal_row es) e (in-keep less_row es e h (ap (λ t. cond t false (is_row e.fact)) i ∙ k))

less-is : (t u : Bool) → cond t false u ≡ true → (t ≡ false) × (u ≡ true)
less-is true u e = cc
less-is false u e = (refl, e)

equal_is : (t u : Bool) → cond t u false ≡ true → (t ≡ true) × (u ≡ true)
equal_is true u e = (refl, e)
equal_is false u e = cc

-- rows from `<=` and `>=`, and rows from `=`
less-in : (es : List Entry) (e : Entry) → In (keep less_row es) e → In es e × (is_equal e.source.constraint.relation ≡ false) × (is_row e.fact ≡ true)
less-in es e h =
    let r = keep-in less_row es e h in
    let s = less-is (is_equal e.source.constraint.relation) (is_row e.fact) r.1 in
    (r.0, s.0, s.1)

equal-in : (es : List Entry) (e : Entry) → In (keep equal_row es) e → In es e × (is_equal e.source.constraint.relation ≡ true) × (is_row e.fact ≡ true)
equal-in es e h =
    let r = keep-in equal_row es e h in
    let s = equal_is (is_equal e.source.constraint.relation) (is_row e.fact) r.1 in
    (r.0, s.0, s.1)

pub rows_in_lem : (es : List Entry) (e : Entry) → In (rows_of es) e → In es e × (is_row e.fact ≡ true)
rows_in_lem es e h = go (in-append (keep less_row es) (keep equal_row es) e h)
  where
    go : In (keep less_row es) e ⊎ In (keep equal_row es) e → In es e × (is_row e.fact ≡ true)
    go (inl k) = let r = less-in es e k in (r.0, r.2)
    go (inr k) = let r = equal-in es e k in (r.0, r.2)

pub less-first : (es : List Entry) (i : ℕ) (e : Entry) → At (rows_of es) i e → (i < length (keep less_row es)) ↔ (is_equal e.source.constraint.relation ≡ false)
less-first es i e at = go (at-append (keep less_row es) (keep equal_row es) i e at)
  where
    go : Split (keep less_row es) (keep equal_row es) i e → (i < length (keep less_row es)) ↔ (is_equal e.source.constraint.relation ≡ false)
    go (inl h) = (λ t. (less-in es e (record { place = i; at = h })).1, λ f. at_length (keep less_row es) i e h)
    go (inr h) = (λ t. absurd (omega (arith, h.1)), λ f. cc (sym (equal-in es e (record { place = h.0; at = h.2 })).1 ∙ f))

earlier-sources : (a b : Entry) → EarlierRow a b → source_of a ≡ source_of b → ⊥
earlier-sources a b (Demand3.by_kind f t) e = cc (sym t ∙ sym (ap (λ (o : Source). is_equal o.constraint.relation) e) ∙ f)
earlier-sources a b (Demand3.by-text k n) e = omega (arith, ap (λ (o : Source). o.ordinal) e)
earlier-sources a b (Demand3.by-element n p) e = not_itself b.source.element (subst (λ (o : Source). Precedes o.element b.source.element) e p)

module _ (m : Model) (vs : List Variable) (es : List Entry) (generated : walk (entries vs) (start m) (placed 0 m.structure.constraints) ≡ done es) where
  by-ordinal : Rising (Before (entries vs)) es
  by-ordinal =
      rising-walk (entries vs) (start m) (placed 0 m.structure.constraints) es generated (rising-placed 0 m.structure.constraints)

  pub row-order : Rising EarlierRow (rows_of es)
  row-order =
      rising-append (keep less_row es) (keep equal_row es)
      (rising-as (keep less_row es) (rising-keep less_row es by-ordinal) (λ a b h k o. earlier a b ((less-in es a h).1 ∙ sym (less-in es b k).1) o))
      (rising-as (keep equal_row es) (rising-keep equal_row es by-ordinal) (λ a b h k o. earlier a b ((equal-in es a h).1 ∙ sym (equal-in es b k).1) o))
      (λ a b h k. Demand3.by_kind (less-in es a h).1 (equal-in es b k).1)
    where
      earlier : (a b : Entry) → is_equal a.source.constraint.relation ≡ is_equal b.source.constraint.relation
          → Before (entries vs) a b → EarlierRow a b
      earlier a b k (inl o) = Demand3.by-text k o
      earlier a b k (inr o) = Demand3.by-element o.0 o.1

  pub row-numbers : OneToOne (map source_of (rows_of es)) (RowSource m)
  row-numbers =
      record {
        has-number = λ o r.
            let a = made-entry m vs es generated o r.written in
            let e : Entry = record { source = o; fact = a.0; floor = a.1 } in
            in_map source_of (rows_of es) e (in_rows es e a.3 (form-row vs o.constraint.left _ _ _ a.0 a.2.made r.no_bound));
        of_number = λ i o h.
            let r = map-in source_of (rows_of es) o (record { place = i; at = h }) in
            let k = rows_in_lem es r.0 r.1 in
            let x = entry-made m vs es generated r.0 k.0 in
            subst (RowSource m) r.2 (record { written = x.written; no_bound = row-form vs r.0.source.constraint.left _ _ _ r.0.fact x.made k.1 });
        once = distinct-rising source_of (rows_of es) row-order earlier-sources;
      }
