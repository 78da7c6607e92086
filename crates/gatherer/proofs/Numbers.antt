-- Laws over plain variables for a variable's number, and for the variable that a token names.
use Rattle.std.specs.Prelude.{Err, Ok, Result, Option, Some, None}
use Rattle.rules.specs.declared.Refused.{Refused}
use mathlib.Core.Path.{◌≡◌, refl, sym, ◌∙◌, ap, subst}
use mathlib.Core.Bool.{Bool, true, false, cond, ◌||◌, ◌&&◌}
use mathlib.Core.List.{List, [], ◌∷◌}
use Prim.Native.Nat.{ℕ, zero, suc, ◌<◌, ◌≤◌}
use native.Mathlib.Omega.{arith}
use borrow.Author.Tests.{eq-eqb, ne_eqb, eqb-true, eqb-false, lt-ltb, le-ltb, ltb-true, ltb-false}
use lib.Dec.{eqb, ltb}
use lib.ListN.{length, get_or}
use Rattle.rules.specs.declared.Refusal.TheVariants.{Outside}
use Rattle.rules.specs.Limits.{name_limit}
use Rattle.lexer.specs.Text.{same_bytes}
use Rattle.language.specs.Outcome.{or_refuse}
use Rattle.language.specs.Syntax.{Name, Sort, Spans}
use Rattle.language.specs.Syntax
use Rattle.language.specs.Reader.{as_read, Used, find}
use Rattle.language.specs.Linear.{a_primary, head_by_sort, head_by_name, head_by}
use Rattle.language.specs.Numbering.{number_of}
use Rattle.onepass.specs.WalkLinear.{walk_number}
use Rattle.onepass.proofs.Steps.{on}
use Rattle.tokens.specs.Stored.{name_bytes, spelling, kind_of, Looks, Shaped}
use Rattle.tokens.proofs.Tables.{false-true}
use Rattle.store.specs.declared.Element.{Element}
use Rattle.store.specs.Element.{list_of}
use Rattle.store.specs.Key.{name_bound, key_of}
use Rattle.store.specs.Table.{Table, found_row}
use Rattle.store.specs.Entries.{Keyed}
use Rattle.store.proofs.Halving.{finds-row}
use Rattle.store.proofs.Held.{numbered-at, numbered-nothing}
use Rattle.evaluator.specs.declared.steps.scope.Scope.{Scope}
use Rattle.evaluator.specs.declared.steps.names.Listed.{Listed}
use Rattle.evaluator.specs.Steps.Scopes.{Small}
use Rattle.evaluator.specs.Steps.Names.{number_part, row_word, listed_of}
use Rattle.evaluator.proofs.steps.Numbers.{unknown, known, row-of, row-shaped}
use Rattle.evaluator.specs.Tables.{World, Stands}
use Rattle.evaluator.specs.Cycle.{seen_by, under, tokens_at, SubscriptsAre, WithinIs}
use Rattle.evaluator.proofs.Laws.{stop}
use Rattle.evaluator.proofs.Names.{below_length, numbers-at, within-at, small}
use Rattle.gatherer.specs.Cycle.{Model, Declared, NumberIs, Heads, variable_listed, variable_seen, Begins}

-- ---- a variable's number

module _ (ns ts : List ℕ) (ds : Table) (given : ℕ) (xs : Table) (total level : ℕ) (sc : Scope) (n i k q p at : ℕ) (y : Result (Element × ℕ) Refused) (h : SubscriptsAre n p k ns ts ds given level sc at y) where
  pub number-subscripts : (e : Refused) → y ≡ Err e → NumberIs n i k q p ns ts ds given xs total level sc at (Err e)
  unfolding walk_number
  number-subscripts z e =
      record {
        is = λ w g d x. stop _ _ z.refusal z.place (numbers-at ns ts ds given level sc n i k q p at y h _ e w.world g d x.stands x.count);
        below = λ w j a z. absurd (let z : ◌≡◌ {A = ℕ} 0 1 = cc in omega arith);
      }

  module _ (e : Element) (a : ℕ) (f : y ≡ Ok (e, a)) (t : Result Unit Refused) (u : WithinIs ns ts ds given i q e p t) where
    pub number-outside : (e : Refused) → t ≡ Err e → NumberIs n i k q p ns ts ds given xs total level sc at (Err e)
    unfolding walk_number
    number-outside z j =
        record {
          is = λ w g d x.
              on _ _ (list_of e) (tokens_at w.world a) _ (numbers-at ns ts ds given level sc n i k q p at y h _ f w.world g d x.stands x.count)
              (stop _ _ z.refusal z.place (ap (λ o. as_read o (tokens_at w.world a)) (within-at ns ts ds given level sc n i k q p at y h e a f t u _ j w.world g d x.stands x.count)));
          below = λ w j a z. absurd (let z : ◌≡◌ {A = ℕ} 0 1 = cc in omega arith);
        }

    module _ (j : t ≡ Ok tt) (key : ℕ) (b : key ≡ key_of i (list_of e)) (r : Option ℕ) (z : r ≡ found_row xs total key) where
      keyed : (w : Model ns ts ds given xs total) → Small sc → (d : Spans) → Declared w.world i d k q → Keyed i (list_of e)
      unfolding name_bound name_limit
      keyed w g d x =
          record {
            named = omega (arith, w.world.tables.few, x.below);
            subscripts = small ns ts ds given level sc n i k q p at y h e a f t u w.world g d x.stands x.count;
          }

      -- what the table of variables tells
      looked : (w : Model ns ts ds given xs total) → Small sc → (d : Spans) → Declared w.world i d k q → (v : Option ℕ) → number_of i (list_of e) w.variables ≡ v
          → walk_number w.variables (seen_by w.world level) n i d p (under w.world sc) (tokens_at w.world at) ≡ as_read (or_refuse Outside p v) (tokens_at w.world a)
      unfolding walk_number
      looked w g d x v c =
          on _ _ (list_of e) (tokens_at w.world a) _ (numbers-at ns ts ds given level sc n i k q p at y h _ f w.world g d x.stands x.count)
          (on _ _ tt (tokens_at w.world a) _ (ap (λ o. as_read o (tokens_at w.world a)) (within-at ns ts ds given level sc n i k q p at y h e a f t u _ j w.world g d x.stands x.count))
          (ap (λ v. as_read (or_refuse Outside p v) (tokens_at w.world a)) c))

      pub number-nothing : r ≡ None → NumberIs n i k q p ns ts ds given xs total level sc at (Err (record { refusal = Outside; place = p }))
      number-nothing v =
          record {
            is = λ w g d x. looked w g d x None (numbered-nothing xs total w.variables i (list_of e) key w.held (keyed w g d x) b r z v);
            below = λ w j a z. absurd (let z : ◌≡◌ {A = ℕ} 0 1 = cc in omega arith);
          }

      pub number-found : (o : ℕ) → r ≡ Some o → NumberIs n i k q p ns ts ds given xs total level sc at (Ok (o, a))
      number-found o v =
          record {
            is = λ w g d x. looked w g d x (Some o) (numbered-at xs total w.variables i (list_of e) key w.held (keyed w g d x) b r o z v);
            below = λ w l a' c. let s : o ≡ l = ap (λ (y : Result (ℕ × ℕ) Refused). elim y as (λ _. ℕ) [ Ok q ↦ q.0 | Err e ↦ o ]) c in subst (λ x. x < total) s ((finds-row xs total key r z).within o v);
          }

-- ---- the variable that a token names

-- a name's head does not depend on its place
head-place : (l : List ℕ) (names : List Name) (i p p' : ℕ) → head_by_name (find l names i p) ≡ head_by_name (find l names i p')
unfolding find head_by_name
head-place l [] i p p' = refl
head-place l (x ∷ names) i p p' = go (same_bytes l x.spelling) (head-place l names (suc i) p p')
  where
    go : (b : Bool) → head_by_name (find l names (suc i) p) ≡ head_by_name (find l names (suc i) p')
        → head_by_name (elim b as (λ _. Option Used) [ true ↦ Some (record { number = i; sort = x.sort; place = p }) | false ↦ find l names (suc i) p ])
        ≡ head_by_name (elim b as (λ _. Option Used) [ true ↦ Some (record { number = i; sort = x.sort; place = p' }) | false ↦ find l names (suc i) p' ])
    go true e = refl
    go false e = e

module _ (ns ts : List ℕ) (level at k : ℕ) where
  begins-mark : (k ≡ 1 → ⊥) → Begins ns ts level at k None
  unfolding head_by kind_of
  begins-mark e = record { heads = λ p x b h g t ds given w. go p x g w k e t }
    where
      go : {ds : Table} {given : ℕ} (p x : ℕ) (g : Bool) (w : World ns ts ds given) (k : ℕ) → (k ≡ 1 → ⊥) → (g && eqb k 134) ≡ false → head_by (seen_by w level) g (kind_of w.text k p x) ≡ a_primary
      go p x g w zero e t = refl
      go p x g w (suc zero) e t = absurd (e refl)
      go p x g w (suc (suc zero)) e t = refl
      go p x g w (suc (suc (suc zero))) e t = refl
      go p x g w (suc (suc (suc (suc zero)))) e t = refl
      go p x g w (suc (suc (suc (suc (suc zero))))) e t = refl
      go p x g w (suc (suc (suc (suc (suc (suc k)))))) e t = rw t refl

  module _ (one : k ≡ 1) (v : Option Listed) (e : v ≡ listed_of ns (number_part (get_or ts at 0))) where
    -- the head of a name is that of what is found
    by_name : (r : Option Listed)
        → ((p x b : ℕ) → Looks ts at (Ok (record { kind = k; place = p; payload = x; next = b })) → (ds : Table) (given : ℕ) (w : World ns ts ds given) → Heads w (head_by_name (find (spelling w.text p (name_bytes x)) (seen_by w level) 0 p)) r)
        → Begins ns ts level at k r
    unfolding head_by kind_of
    by_name r f = record { heads = λ p x b h g t ds given w. subst (λ o. Heads w o r) (place p x g w) (f p x b h ds given w) }
      where
        place : {ds : Table} {given : ℕ} (p x : ℕ) (g : Bool) (w : World ns ts ds given)
            → head_by_name (find (spelling w.text p (name_bytes x)) (seen_by w level) 0 p) ≡ head_by (seen_by w level) g (kind_of w.text k p x)
        place p x g w = head-place _ _ 0 p 0 ∙ rw one refl

    begins-unknown : v ≡ None → Begins ns ts level at k None
    unfolding head_by_name
    begins-unknown f =
        by_name None (λ p x b h ds given w. ap head_by_name (unknown w.text ns ts w.names w.tables.named w.tables.resolved at (record { kind = k; place = p; payload = x; next = b }) (Ok (record { kind = k; place = p; payload = x; next = b })) h refl one v e f level))

    module _ (u : Listed) (f : v ≡ Some u) where
      begins-late : level ≤ u.number → Begins ns ts level at k None
      unfolding head_by_name
      begins-late l =
          by_name None
          (λ p x b h ds given w. ap head_by_name ((known w.text ns ts w.names w.tables.named w.tables.resolved at (record { kind = k; place = p; payload = x; next = b }) (Ok (record { kind = k; place = p; payload = x; next = b })) h refl one v e u f).late level l))

      module _ (l : u.number < level) where
        -- by the name's sort, which its row tells, and what stands where it was declared
        by-sort : (r : Option Listed)
            → ((ds : Table) (given : ℕ) (w : World ns ts ds given) → u.number < length w.names → (y : Sort) → Shaped y u.sort u.count → Stands w.text ts (seen_by w u.number) y u.start → Heads w (head_by_sort u.number y) r)
            → Begins ns ts level at k r
        unfolding head_by_name
        by-sort r g = by_name r go
          where
            go : (p x b : ℕ) → Looks ts at (Ok (record { kind = k; place = p; payload = x; next = b })) → (ds : Table) (given : ℕ) (w : World ns ts ds given) → Heads w (head_by_name (find (spelling w.text p (name_bytes x)) (seen_by w level) 0 p)) r
            go p x b h ds given w =
                let d = known w.text ns ts w.names w.tables.named w.tables.resolved at (record { kind = k; place = p; payload = x; next = b }) (Ok (record { kind = k; place = p; payload = x; next = b })) h refl one v e u f in
                let (y, z, row) = row-of w.text ns ts w.names w.tables.named w.tables.resolved at (record { kind = k; place = p; payload = x; next = b }) (Ok (record { kind = k; place = p; payload = x; next = b })) h refl one v e u f in
                subst (λ o. Heads w (head_by_name o) r) (sym (d.found level l))
                (g ds given w (below_length w.names u.number d.name d.stands) d.name.sort
                (subst (λ k. Shaped d.name.sort k u.count) (sym y) (subst (Shaped d.name.sort (row_word ns u.number 2)) (sym z) (row-shaped w.text ns w.names u.number d.name w.tables.named d.stands)))
                (subst (Stands w.text ts (seen_by w u.number) d.name.sort) (sym row) (w.tables.declared u.number d.name d.stands)))

        begins-variable : (eqb u.sort 4 || eqb u.sort 5) ≡ true → Begins ns ts level at k (Some u)
        unfolding head_by_sort
        begins-variable t = by-sort (Some u) go
          where
            go : (ds : Table) (given : ℕ) (w : World ns ts ds given) → u.number < length w.names → (y : Sort) → Shaped y u.sort u.count → Stands w.text ts (seen_by w u.number) y u.start → Heads w (head_by_sort u.number y) (Some u)
            go ds given w b Syntax.index s a = absurd (false-true (subst (λ k. (eqb k 4 || eqb k 5) ≡ true) s t))
            go ds given w b (Syntax.integer d) s a = absurd (false-true (subst (λ k. (eqb k 4 || eqb k 5) ≡ true) s.0 t))
            go ds given w b (Syntax.real d) s a = absurd (false-true (subst (λ k. (eqb k 4 || eqb k 5) ≡ true) s.0 t))
            go ds given w b (Syntax.formula d) s a = absurd (false-true (subst (λ k. (eqb k 4 || eqb k 5) ≡ true) s t))
            go ds given w b (Syntax.discrete d) s a = (d, (refl, record { below = b; stands = a; count = s.1 }))
            go ds given w b (Syntax.continuous d) s a = (d, (refl, record { below = b; stands = a; count = s.1 }))

        begins-other : (eqb u.sort 4 || eqb u.sort 5) ≡ false → Begins ns ts level at k None
        unfolding head_by_sort
        begins-other t = by-sort None go
          where
            go : (ds : Table) (given : ℕ) (w : World ns ts ds given) → u.number < length w.names → (y : Sort) → Shaped y u.sort u.count → Stands w.text ts (seen_by w u.number) y u.start → head_by_sort u.number y ≡ a_primary
            go ds given w b Syntax.index s a = refl
            go ds given w b (Syntax.integer d) s a = refl
            go ds given w b (Syntax.real d) s a = refl
            go ds given w b (Syntax.formula d) s a = refl
            go ds given w b (Syntax.discrete d) s a = absurd (false-true (sym (subst (λ k. (eqb k 4 || eqb k 5) ≡ false) s.0 t)))
            go ds given w b (Syntax.continuous d) s a = absurd (false-true (sym (subst (λ k. (eqb k 4 || eqb k 5) ≡ false) s.0 t)))

  pub begins-of : (r : Option Listed) → r ≡ variable_seen ns ts level at k → Begins ns ts level at k r
  unfolding variable_seen
  begins-of r e = rw e (go (eqb k 1) refl)
    where
      by-sort : k ≡ 1 → (w : Listed) → Some w ≡ listed_of ns (number_part (get_or ts at 0)) → w.number < level → (b : Bool) → (eqb w.sort 4 || eqb w.sort 5) ≡ b
          → Begins ns ts level at k (cond b (Some w) None)
      by-sort one z g l true t = begins-variable one _ g z refl l t
      by-sort one z g l false t = begins-other one _ g z refl l t

      by_level : k ≡ 1 → (w : Listed) → Some w ≡ listed_of ns (number_part (get_or ts at 0)) → (b : Bool) → ltb w.number level ≡ b
          → Begins ns ts level at k (cond b (cond (eqb w.sort 4 || eqb w.sort 5) (Some w) None) None)
      by_level one z g true l = by-sort one z g (ltb-true z.number level l) (eqb z.sort 4 || eqb z.sort 5) refl
      by_level one z g false l = begins-late one _ g z refl (ltb-false z.number level l)

      by_name : k ≡ 1 → (v : Option Listed) → v ≡ listed_of ns (number_part (get_or ts at 0)) → Begins ns ts level at k (variable_listed level v)
      by_name one (Some x) g = by_level one x g (ltb x.number level) refl
      by_name one None g = begins-unknown one None g refl

      go : (b : Bool) → eqb k 1 ≡ b → Begins ns ts level at k (cond b (variable_listed level (listed_of ns (number_part (get_or ts at 0)))) None)
      go true one = by_name (eqb-true k 1 one) (listed_of ns (number_part (get_or ts at 0))) refl
      go false one = begins-mark (eqb-false k 1 one)

  -- the answers of `variable_at`
  pub at_mark_lem : (k ≡ 1 → ⊥) → None ≡ variable_seen ns ts level at k
  unfolding variable_seen
  at_mark_lem e = rw (ne_eqb k 1 e) refl

  module _ (one : k ≡ 1) (v : Option Listed) (e : v ≡ listed_of ns (number_part (get_or ts at 0))) where
    pub at-unknown : v ≡ None → None ≡ variable_seen ns ts level at k
    unfolding variable_seen
    at-unknown f = rw (eq-eqb k 1 one, ← e, f) refl

    module _ (w : Listed) (f : v ≡ Some w) where
      pub at-late : level ≤ w.number → None ≡ variable_seen ns ts level at k
      unfolding variable_seen
      at-late l = rw (eq-eqb k 1 one, ← e, f, le-ltb w.number level l) refl

      pub at-variable : w.number < level → (eqb w.sort 4 || eqb w.sort 5) ≡ true → Some w ≡ variable_seen ns ts level at k
      unfolding variable_seen
      at-variable l t = rw (eq-eqb k 1 one, ← e, f, lt-ltb w.number level l, t) refl

      pub at_other : w.number < level → (eqb w.sort 4 || eqb w.sort 5) ≡ false → None ≡ variable_seen ns ts level at k
      unfolding variable_seen
      at_other l t = rw (eq-eqb k 1 one, ← e, f, lt-ltb w.number level l, t) refl
