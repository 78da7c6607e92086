-- Laws over plain variables for a primary that is a name, and for a datum.
use Rattle.std.specs.Prelude.{Err, Ok, Result, Option, Some, None, slice_get}
use Rattle.rules.specs.declared.Refused.{Refused}
use mathlib.Core.Path.{◌≡◌, refl, sym, ◌∙◌, ap, subst}
use mathlib.Core.Bool.{true, false, ◌||◌}
use mathlib.Core.List.{List, [], ◌∷◌}
use Prim.Native.Nat.{ℕ, zero, suc, ◌<◌, ◌≤◌}
use native.Mathlib.Omega.{arith}
use lib.Dec.{eqb}
use lib.ListN.{length, drop}
use lib.IntN.{ℤ}
use Rattle.rules.specs.declared.Refusal.{Refusal}
use Rattle.rules.specs.declared.Refusal.TheVariants.{Misplaced, BadName, Missing}
use Rattle.rules.specs.Limits.{nesting_limit, name_limit, index_limit}
use Rattle.value.specs.declared.Value.{Value}
use Rattle.value.proofs.Operations.{of_whole-valid}
use Rattle.lexer.specs.Text.{Token}
use Rattle.language.specs.Outcome.{Outcome, done, refused, or_refuse}
use Rattle.language.specs.Syntax.{Name, Sort, Spans, point, span}
use Rattle.language.specs.Syntax
use Rattle.language.specs.Reader.{as_read}
use Rattle.language.specs.Scope.{unbound, bound_to}
use Rattle.language.specs.Evaluation.{eval, within}
use Rattle.language.specs.Model.{what_of}
use Rattle.onepass.specs.Walk.{walk_inside, walk_found, walk_named, walk_datum, walk_subscripts}
use Rattle.onepass.specs.Entries.{read, index_count}
use Rattle.onepass.proofs.Steps.{on, same-what, what-as}
use Rattle.onepass.proofs.Walked.{walked}
use Rattle.onepass.proofs.WalkedDomain.{within-walk, subscripts-count}
use Rattle.tokens.specs.Stored.{size, Shaped}
use Rattle.tokens.proofs.Tables.{false-true}
use Rattle.store.specs.declared.Element.{Element}
use Rattle.store.specs.Element.{list_of, Subscripts}
use Rattle.store.specs.Key.{name_bound, key_of}
use Rattle.store.specs.Table.{Table, lookup}
use Rattle.store.specs.Packed.{unpacked}
use Rattle.store.specs.Entries.{Keyed}
use Rattle.evaluator.specs.declared.steps.scope.Scope.{Scope as Held}
use Rattle.evaluator.specs.declared.steps.names.Listed.{Listed}
use Rattle.evaluator.specs.Steps.Scopes.{bindings_of, scope_of, Small}
use Rattle.evaluator.specs.Steps.Values.{bound_by, bound_answer, word_answer, known_answer}
use Rattle.evaluator.proofs.steps.Answers.{known-word}
use Rattle.evaluator.proofs.steps.Scopes.{small-to}
use Rattle.evaluator.specs.Tables.{DomainAt, FormulaAt, Stands, value_in, World}
use Rattle.evaluator.specs.Cycle.{formula_in, value_outcome, ValidAnswer, numbers_outcome, SmallNumbers, passed_outcome, seen_by, under, nothing_bound, tokens_at, Values, SubscriptsAre, WithinIs, KnownAs, Told, NamedIs, DatumIs}
use Rattle.evaluator.proofs.Laws.{stop}

-- ---- lists of names

pub below_length : {A : Type 0} (l : List A) (i : ℕ) (x : A) → slice_get l i ≡ Some x → i < length l
below_length [] i x e = absurd (let z : ◌≡◌ {A = ℕ} 0 1 = cc in omega arith)
below_length (y ∷ l) zero x e = omega arith
below_length (y ∷ l) (suc i) x e = omega (arith, below_length l i x e)

-- name i, and the names behind it
pub record Split (l : List Name) (i : ℕ) : Type 0 where
  pub name : Name
  pub here : slice_get l i ≡ Some name
  pub behind : drop i l ≡ name ∷ drop (suc i) l

pub split : (l : List Name) (i : ℕ) → i < length l → Split l i
split [] i h = absurd (omega arith)
split (x ∷ l) zero h = record { name = x; here = refl; behind = refl }
split (x ∷ l) (suc i) h = let r = split l i (omega arith) in record { name = r.name; here = r.here; behind = r.behind }

-- ---- outcomes

as-refused : {A : Type 0} (o : Outcome A) (l : List Token) (m : Refusal) (p : ℕ) → as_read o l ≡ refused m p → o ≡ refused m p
as-refused (done a) l m p e = absurd (let z : ◌≡◌ {A = ℕ} 0 1 = cc in omega arith)
as-refused (refused k q) l m p e = cc

as-done : {A : Type 0} (o : Outcome A) (l : List Token) (a : A) (r : List Token) → as_read o l ≡ read a r → o ≡ done a
as-done (done b) l a r e = ap done (same-what e)
as-done (refused k q) l a r e = absurd (let z : ◌≡◌ {A = ℕ} 0 1 = cc in omega arith)

pub size-count : (d : Spans) → size d ≡ index_count d
unfolding size index_count
size-count point = refl
size-count (span i f g p d) = ap suc (size-count d)

-- ---- a name

module _ (ns ts : List ℕ) (ds : Table) (given level : ℕ) (sc : Held) (n p at : ℕ) (x : Option Listed) where
  pub named-unknown : x ≡ None → NamedIs n p ns ts ds given level sc at x (Err (record { refusal = BadName; place = p }))
  unfolding walk_found
  named-unknown e = record { is = λ w g l t. rw (subst (Told w l p) e t level) refl; valid = λ w g l t. tt }

  module _ (row : Listed) (e : x ≡ Some row) where
    known : (w : World ns ts ds given) (l : List ℕ) → Told w l p x → KnownAs w l p row.number row.sort row.count row.start
    known w l t = subst (Told w l p) e t

    pub named-late : level ≤ row.number → NamedIs n p ns ts ds given level sc at x (Err (record { refusal = BadName; place = p }))
    unfolding walk_found
    named-late h = record { is = λ w g l t. rw ((known w l t).late level h) refl; valid = λ w g l t. tt }

    module _ (h : row.number < level) where
      -- by the name's sort, which its row tells, and what stands where it was declared
      by-sort : (r : Result (Value × ℕ) Refused)
          → ((w : World ns ts ds given) → Small sc → row.number < length w.names → (y : Sort) → Shaped y row.sort row.count → Stands w.text ts (seen_by w row.number) y row.start
          → (walk_named (walk_inside (seen_by w level) n) row.number p y (under w sc) (tokens_at w at) ≡ value_outcome w.text ts r) × ValidAnswer r)
          → NamedIs n p ns ts ds given level sc at x r
      unfolding walk_found
      by-sort r f =
          record {
            is = λ w g l t. let d = known w l t in rw (d.found level h) (f w g (below_length w.names row.number d.name d.stands) d.name.sort d.shaped (stands w l t)).0;
            valid = λ w g l t. let d = known w l t in (f w g (below_length w.names row.number d.name d.stands) d.name.sort d.shaped (stands w l t)).1;
          }
        where
          stands : (w : World ns ts ds given) (l : List ℕ) (t : Told w l p x) → Stands w.text ts (seen_by w row.number) (known w l t).name.sort row.start
          stands w l t = let d = known w l t in subst (Stands w.text ts (seen_by w row.number) d.name.sort) (sym d.row) (w.tables.declared row.number d.name d.stands)

      pub named-index : (r : Result (Value × ℕ) Refused) → row.sort ≡ 0 → r ≡ bound_answer p at sc row.number → NamedIs n p ns ts ds given level sc at x r
      unfolding walk_named eval bound_answer bound_by scope_of
      named-index r z f = by-sort r go
        where
          go : (w : World ns ts ds given) → Small sc → row.number < length w.names → (y : Sort) → Shaped y row.sort row.count → Stands w.text ts (seen_by w row.number) y row.start
              → (walk_named (walk_inside (seen_by w level) n) row.number p y (under w sc) (tokens_at w at) ≡ value_outcome w.text ts r) × ValidAnswer r
          go w g b Syntax.index s a = rw f (pick (bound_to row.number (bindings_of sc)) refl)
            where
              pick : (o : Option ℤ) → bound_to row.number (bindings_of sc) ≡ o → (as_read (eval (Syntax.index row.number p) (under w sc)) (tokens_at w at) ≡ value_outcome w.text ts (bound_by p at (bound_to row.number (bindings_of sc)))) × ValidAnswer (bound_by p at (bound_to row.number (bindings_of sc)))
              pick None o = rw o (refl, tt)
              pick (Some j) o = rw o (refl, of_whole-valid j (small-to (bindings_of sc) row.number j g.small o))
          go w g b (Syntax.integer d) s a = absurd (omega (arith, s.0, z))
          go w g b (Syntax.real d) s a = absurd (omega (arith, s.0, z))
          go w g b (Syntax.formula d) s a = absurd (omega (arith, s, z))
          go w g b (Syntax.discrete d) s a = absurd (omega (arith, s.0, z))
          go w g b (Syntax.continuous d) s a = absurd (omega (arith, s.0, z))

      -- a declared formula, read with the names before it
      module _ (z : row.sort ≡ 3) (r : Result (Value × ℕ) Refused) (f : Values (formula_in 12) ns ts ds given row.number sc row.start r) where
        formula-is : (w : World ns ts ds given) → Small sc → (y : _) (a : FormulaAt w.text ts (seen_by w row.number) y row.start) → as_read (eval y (under w sc)) a.rest ≡ value_outcome w.text ts r
        unfolding formula_in nesting_limit
        formula-is w g y a = sym (walked (seen_by w row.number) 12 (tokens_at w row.start) y a.rest a.reads (under w sc)) ∙ f.is w g

        by-formula : (u : Result (Value × ℕ) Refused)
            → ((w : World ns ts ds given) → Small sc → (y : _) → FormulaAt w.text ts (seen_by w row.number) y row.start → (as_read (eval y (under w sc)) (tokens_at w at) ≡ value_outcome w.text ts u) × ValidAnswer u)
            → NamedIs n p ns ts ds given level sc at x u
        unfolding walk_named
        by-formula u g = by-sort u go
          where
            go : (w : World ns ts ds given) → Small sc → row.number < length w.names → (y : Sort) → Shaped y row.sort row.count → Stands w.text ts (seen_by w row.number) y row.start
                → (walk_named (walk_inside (seen_by w level) n) row.number p y (under w sc) (tokens_at w at) ≡ value_outcome w.text ts u) × ValidAnswer u
            go w h b Syntax.index s a = absurd (omega (arith, s, z))
            go w h b (Syntax.integer d) s a = absurd (omega (arith, s.0, z))
            go w h b (Syntax.real d) s a = absurd (omega (arith, s.0, z))
            go w h b (Syntax.formula y) s a = g w h y a
            go w h b (Syntax.discrete d) s a = absurd (omega (arith, s.0, z))
            go w h b (Syntax.continuous d) s a = absurd (omega (arith, s.0, z))

        pub named-refused : (e : Refused) → r ≡ Err e → NamedIs n p ns ts ds given level sc at x r
        named-refused z d =
            by-formula r λ w g y a. (
              ap (λ o. as_read o (tokens_at w at)) (as-refused (eval y (under w sc)) a.rest z.refusal z.place (formula-is w g y a ∙ ap (value_outcome w.text ts) d)) ∙ sym (ap (value_outcome w.text ts) d),
              subst ValidAnswer (sym d) tt,
            )

        pub named-formula : (v : Value) (b : ℕ) → r ≡ Ok (v, b) → NamedIs n p ns ts ds given level sc at x (Ok (v, at))
        named-formula v b d =
            by-formula (Ok (v, at)) λ w g y a. (
              ap (λ o. as_read o (tokens_at w at)) (as-done (eval y (under w sc)) a.rest v (tokens_at w b) (formula-is w g y a ∙ ap (value_outcome w.text ts) d)),
              subst ValidAnswer d (f.valid w g),
            )

      pub named-datum : (r : Result (Value × ℕ) Refused) → (eqb row.sort 1 || eqb row.sort 2) ≡ true → DatumIs n row.number row.count row.start p ns ts ds given level sc at r → NamedIs n p ns ts ds given level sc at x r
      unfolding walk_named
      named-datum r t f = by-sort r go
        where
          go : (w : World ns ts ds given) → Small sc → row.number < length w.names → (y : Sort) → Shaped y row.sort row.count → Stands w.text ts (seen_by w row.number) y row.start
              → (walk_named (walk_inside (seen_by w level) n) row.number p y (under w sc) (tokens_at w at) ≡ value_outcome w.text ts r) × ValidAnswer r
          go w g b Syntax.index s a = absurd (false-true (subst (λ k. (eqb k 1 || eqb k 2) ≡ true) s t))
          go w g b (Syntax.integer d) s a = (f.is w g b d a s.1, f.valid w g b d a s.1)
          go w g b (Syntax.real d) s a = (f.is w g b d a s.1, f.valid w g b d a s.1)
          go w g b (Syntax.formula d) s a = absurd (false-true (subst (λ k. (eqb k 1 || eqb k 2) ≡ true) s t))
          go w g b (Syntax.discrete d) s a = absurd (false-true (subst (λ k. (eqb k 1 || eqb k 2) ≡ true) s.0 t))
          go w g b (Syntax.continuous d) s a = absurd (false-true (subst (λ k. (eqb k 1 || eqb k 2) ≡ true) s.0 t))

      pub named_other : (row.sort ≡ 0 → ⊥) → (row.sort ≡ 3 → ⊥) → (eqb row.sort 1 || eqb row.sort 2) ≡ false → NamedIs n p ns ts ds given level sc at x (Err (record { refusal = Misplaced; place = p }))
      unfolding walk_named
      named_other z y t = by-sort (Err (record { refusal = Misplaced; place = p })) go
        where
          go : (w : World ns ts ds given) → Small sc → row.number < length w.names → (y : Sort) → Shaped y row.sort row.count → Stands w.text ts (seen_by w row.number) y row.start
              → (walk_named (walk_inside (seen_by w level) n) row.number p y (under w sc) (tokens_at w at) ≡ refused Misplaced p) × Unit {0}
          go w g b Syntax.index s a = absurd (z s)
          go w g b (Syntax.integer d) s a = absurd (false-true (sym (subst (λ k. (eqb k 1 || eqb k 2) ≡ false) s.0 t)))
          go w g b (Syntax.real d) s a = absurd (false-true (sym (subst (λ k. (eqb k 1 || eqb k 2) ≡ false) s.0 t)))
          go w g b (Syntax.formula d) s a = absurd (y s)
          go w g b (Syntax.discrete d) s a = (refl, tt)
          go w g b (Syntax.continuous d) s a = (refl, tt)

-- ---- a datum

module _ (ns ts : List ℕ) (ds : Table) (given level : ℕ) (sc : Held) (n i c q p at : ℕ) (y : Result (Element × ℕ) Refused) (h : SubscriptsAre n p c ns ts ds given level sc at y) where
  pub numbers-at : (z : Result (Element × ℕ) Refused) → y ≡ z → (w : World ns ts ds given) → Small sc → (d : Spans) → DomainAt w.text ts (seen_by w i) d q → size d ≡ c
      → walk_subscripts (walk_inside (seen_by w level) n) d (under w sc) p (tokens_at w at) ≡ numbers_outcome w.text ts z
  numbers-at z e w g d a s = h.is w g d s (subst (λ k. k ≤ index_limit) s a.few) ∙ ap (numbers_outcome w.text ts) e

  pub datum-subscripts : (e : Refused) → y ≡ Err e → DatumIs n i c q p ns ts ds given level sc at (Err e)
  unfolding walk_datum
  datum-subscripts z e = record { is = λ w g b d a s. stop _ _ z.refusal z.place (numbers-at _ e w g d a s); valid = λ w g b d a s. tt }

  module _ (e : Element) (a : ℕ) (f : y ≡ Ok (e, a)) (t : Result Unit Refused) (k : WithinIs ns ts ds given i q e p t) where
    pub small : (w : World ns ts ds given) → Small sc → (d : Spans) → DomainAt w.text ts (seen_by w i) d q → size d ≡ c → Subscripts (list_of e)
    small w g d b s = subst SmallNumbers f (h.small w g (subst (λ k. k ≤ index_limit) s b.few))

    -- the domain test of the tree
    pub within-at : (z : Result Unit Refused) → t ≡ z → (w : World ns ts ds given) → Small sc → (d : Spans) → DomainAt w.text ts (seen_by w i) d q → size d ≡ c
        → within d (list_of e) (unbound (under w sc)) p ≡ passed_outcome z
    unfolding unbound scope_of
    within-at z j w g d b s =
        let count = subscripts-count (walk_inside (seen_by w level) n) d (under w sc) p (tokens_at w at) (list_of e) (tokens_at w a) (numbers-at _ f w g d b s) in
        sym (ap what_of (within-walk (seen_by w i) d (list_of e) count (nothing_bound w) p (tokens_at w q) b.rest b.reads) ∙ what-as (within d (list_of e) (nothing_bound w) p) b.rest)
        ∙ k.is w (small w g d b s) ∙ ap passed_outcome j

    pub datum-outside : (e : Refused) → t ≡ Err e → DatumIs n i c q p ns ts ds given level sc at (Err e)
    unfolding walk_datum
    datum-outside z j =
        record {
          is = λ w g b d x s.
              on _ _ (list_of e) (tokens_at w a) _ (numbers-at _ f w g d x s) (stop _ _ z.refusal z.place (ap (λ o. as_read o (tokens_at w a)) (within-at _ j w g d x s)));
          valid = λ w g b d x s. tt;
        }

    module _ (j : t ≡ Ok tt) (r : Result (Value × ℕ) Refused) (l : r ≡ known_answer ds given i (list_of e) p a) where
      -- what is stored, and what is known
      keyed : (w : World ns ts ds given) → i < length w.names → Subscripts (list_of e) → Keyed i (list_of e)
      unfolding name_bound name_limit
      keyed w b x = record { named = omega (arith, w.tables.few); subscripts = x }

      known_is : (w : World ns ts ds given) → i < length w.names → Subscripts (list_of e)
          → (as_read (or_refuse Missing p (w.known i (list_of e))) (tokens_at w a) ≡ value_outcome w.text ts r) × ValidAnswer r
      unfolding word_answer
      known_is w b x = go (lookup ds given (key_of i (list_of e))) (w.tables.stored.agrees i (list_of e) (keyed w b x)) (l ∙ known-word ds given i p a (list_of e) w.tables.stored.sorted)
        where
          go : (u : Option ℕ) → w.known i (list_of e) ≡ value_in u → r ≡ word_answer p a u
              → (as_read (or_refuse Missing p (w.known i (list_of e))) (tokens_at w a) ≡ value_outcome w.text ts r) × ValidAnswer r
          go None u v = rw (u, v) (refl, tt)
          go (Some z) u v = let y = w.tables.stored.valid i (list_of e) (unpacked z) u in rw (u, v) (refl, y)

      pub datum-known : DatumIs n i c q p ns ts ds given level sc at r
      unfolding walk_datum scope_of
      datum-known =
          record {
            is = λ w g b d x s.
                on _ _ (list_of e) (tokens_at w a) _ (numbers-at _ f w g d x s)
                (on _ _ tt (tokens_at w a) _ (ap (λ o. as_read o (tokens_at w a)) (within-at _ j w g d x s)) (known_is w b (small w g d x s)).0);
            valid = λ w g b d x s. (known_is w b (small w g d x s)).1;
          }
