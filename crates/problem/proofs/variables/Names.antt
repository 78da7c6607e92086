-- Laws of the loop over the elements of one name: it starts, appends a row, is refused or ends.
use Rattle.std.specs.Prelude.{Err, None, Ok, Option, Result, Some}
use Rattle.rules.specs.declared.Refused.{Refused}
use mathlib.Core.Path.{◌≡◌, refl, sym, ◌∙◌, ap, subst, subst₂}
use mathlib.Core.Bool.{true}
use mathlib.Core.List.{List, [], ◌∷◌, ◌++◌, map}
use Prim.Native.Nat.{ℕ, ◌+◌, ◌-◌, ◌<◌, ◌≤◌}
use native.Mathlib.Omega.{arith}
use borrow.Author.Tests.{lt-ltb, le-ltb}
use lib.ListN.{length}
use lib.IntN.{ℤ}
use Rattle.rules.specs.declared.Refusal.TheVariants.{Full}
use Rattle.rules.specs.Limits.{variable_limit}
use Rattle.language.specs.Outcome.{Outcome, done, refused}
use Rattle.language.specs.All.{All}
use Rattle.language.proofs.All.{all-with, all_get_d}
use Rattle.language.specs.Scope.{Scope}
use Rattle.language.specs.Syntax.{Spans}
use Rattle.language.specs.Evaluation.{over}
use Rattle.language.specs.Model.{Declaration}
use Rattle.language.specs.Numbering.{Variable, add_variable}
use Rattle.store.specs.declared.Element.{Element}
use Rattle.store.specs.declared.Key.{Key}
use Rattle.store.specs.Element.{list_of}
use Rattle.store.specs.Key.{key_number, key_of}
use Rattle.store.specs.Table.{Table, key_at, has_room, appended}
use Rattle.store.specs.Entries.{Keyed, variable_key, Numbered}
use Rattle.store.proofs.Keys.{key-name, key-precedes}
use Rattle.store.proofs.Rows.{append-size}
use Rattle.store.proofs.Held.{numbered-append, numbered-last}
use Rattle.evaluator.specs.Steps.Names.{row_word}
use Rattle.evaluator.specs.Tables.{World}
use Rattle.evaluator.specs.Cycle.{nothing_bound, under}
use Rattle.elements.specs.declared.here.Here.{Here}
use Rattle.elements.specs.Held.{held, number_of, scope_at}
use Rattle.elements.specs.Steps.{FirstIs, NextIs}
use Rattle.elements.specs.Loops.{Remains}
use Rattle.elements.proofs.Held.{scope-held}
use Rattle.elements.proofs.Loops.{loop-start, loop-more, loop-refused, loop-done, loop-stopped, loop-rises, loop-subscripts}
use Rattle.problem.specs.Variables.Numbers.{Below, Held, Adds, Ranges, declared_at, AddsName}

-- ---- one variable more

added_full : (d : Declaration) (s : Scope) (e : List ℤ) (vs : List Variable) → 512 ≤ length vs → add_variable d s e vs ≡ refused Full d.place
unfolding add_variable variable_limit
added_full d s e vs h = rw (le-ltb (length vs) variable_limit h)

added_more : (d : Declaration) (s : Scope) (e : List ℤ) (vs : List Variable) → length vs < 512 → add_variable d s e vs ≡ done (vs ++ (record { name = d.name; element = e } ∷ []))
unfolding add_variable variable_limit
added_more d s e vs h = rw (lt-ltb (length vs) variable_limit h)

-- ---- keys rise

-- the last row is below any element of the name that r has
abbrev Under : Table → ℕ → ℕ → Result (Option Here) Refused → Type 0
Under t n i (Ok (Some h)) = (e : Element) → list_of e ≡ map number_of (held h) → 0 < n → key_at t (n - 1) < key_of i (list_of e)
Under t n i (Ok None) = Unit {0}
Under t n i (Err e) = Unit {0}

-- where all variables are of names before
last-below : (t : Table) (n i : ℕ) (vs : List Variable) (l : List ℤ) → Numbered t n vs → All (Below i) vs → Keyed i l → 0 < n → key_at t (n - 1) < key_of i l
last-below t n i [] l h b a f = absurd (omega (arith, h.count))
last-below t n i (v ∷ vs) l h b a f =
    let x = all_get_d (Below i) (v ∷ vs) (n - 1) v b b.0 in
    subst (λ k. k < key_of i l) (sym (h.keys (n - 1) v (omega arith))) (key-name x.keyed a x.less)

last-key : (t : Table) (n : ℕ) (vs : List Variable) (v : Variable) → n ≡ length vs → Numbered t (n + 1) (vs ++ (v ∷ [])) → key_at t n ≡ variable_key v
last-key t n vs v c h = subst (λ (m : ℕ). key_at t m ≡ variable_key v) (sym c) (numbered-last t vs v (subst (λ (m : ℕ). Numbered t (m + 1) (vs ++ (v ∷ []))) c h))

-- ---- the loop

module _ (ns ts : List ℕ) (ds : Table) (given i from : ℕ) (t₀ : Table) where
  abbrev step : Spans → Scope → List ℤ → List Variable → Outcome (List Variable)
  step d = add_variable (declared_at ns i d)

  abbrev Left : (w : World ns ts ds given) → Spans → Result (Option Here) Refused → List Variable → Outcome (List Variable) → Type 0
  Left w d = Remains w i (row_word ns i 3) (row_word ns i 4) (step d)

  abbrev outcome : (w : World ns ts ds given) → Spans → List Variable → Outcome (List Variable)
  outcome w d = over d (nothing_bound w) (step d)

  -- at a turn, for a domain d and the variables vs at the start
  record OnAt (w : World ns ts ds given) (d : Spans) (vs : List Variable) (t : Table) (n : ℕ) (r : Result (Option Here) Refused) : Type 0 where
    variables : List Variable
    remains : Left w d r variables (outcome w d vs)
    held : Held t n variables
    below : (k : ℕ) → i < k → All (Below k) vs → All (Below k) variables
    under : Under t n i r

  -- C is what may be to come
  pub record NameOn (t : Table) (n : ℕ) (C : Result (Option Here) Refused → Type 0) : Type 0 where
    pub size : length t ≡ length t₀
    pub room : 512 ≤ length t
    on : (r : Result (Option Here) Refused) → C r → (w : World ns ts ds given) (d : Spans) (vs : List Variable) → Ranges w i d → Held t₀ from vs → All (Below i) vs → OnAt w d vs t n r

  -- an element has a key
  element-keyed : (w : World ns ts ds given) (d : Spans) → Ranges w i d → (h : Here) (vs : List Variable) (o : Outcome (List Variable))
      → Left w d (Ok (Some h)) vs o → (e : Element) → list_of e ≡ map number_of (held h) → Keyed i (list_of e)
  element-keyed w d g h vs o m e q = record {
    named = g.named;
    subscripts = loop-subscripts w i (row_word ns i 3) (row_word ns i 4) (step d) h vs o m (scope_at h) (scope-held h) e q;
  }

  pub name-start : (c at : ℕ) (C : Result (Option Here) Refused → Type 0) → c ≡ row_word ns i 3 → at ≡ row_word ns i 4
      → ((r : Result (Option Here) Refused) → C r → FirstIs ns ts ds given i c at r) → 512 ≤ length t₀ → NameOn t₀ from C
  name-start c at C p q f l = record { size = refl; room = l; on = go }
    where
      first : (r : Result (Option Here) Refused) → C r → FirstIs ns ts ds given i (row_word ns i 3) (row_word ns i 4) r
      first r k = subst₂ (λ x y. FirstIs ns ts ds given i x y r) p q (f r k)

      go : (r : Result (Option Here) Refused) → C r → (w : World ns ts ds given) (d : Spans) (vs : List Variable) → Ranges w i d → Held t₀ from vs → All (Below i) vs → OnAt w d vs t₀ from r
      go r k w d vs g h b = record { variables = vs; remains = start; held = h; below = λ k l x. x; under = lower r start }
        where
          start : Left w d r vs (outcome w d vs)
          start = loop-start w i (row_word ns i 3) (row_word ns i 4) (step d) d g.stands g.sized r (first r k) vs

          lower : (x : Result (Option Here) Refused) → Left w d x vs (outcome w d vs) → Under t₀ from i x
          lower (Ok (Some y)) m = λ e q l. last-below t₀ from i vs (list_of e) h.rows b (element-keyed w d g y vs (outcome w d vs) m e q) l
          lower (Ok None) m = tt
          lower (Err e) m = tt

  pub name-stopped : (t : Table) (n : ℕ) (C : Result (Option Here) Refused → Type 0) → NameOn t n C → (r : Result (Option Here) Refused) → C r → (e : Refused) → r ≡ Err e → AddsName ns ts ds given i from t₀ (Err e) t
  name-stopped t n C s r v z e = record { size = s.size; is = go }
    where
      go : (w : World ns ts ds given) (d : Spans) (vs : List Variable) → Ranges w i d → Held t₀ from vs → All (Below i) vs
          → outcome w d vs ≡ refused z.refusal z.place
      go w d vs g h b =
          let a = s.on r v w d vs g h b in
          let o = outcome w d vs in
          loop-stopped w i (row_word ns i 3) (row_word ns i 4) (step d) z a.variables o
          (subst (λ x. Left w d x a.variables o) e a.remains)

  module _ (t : Table) (n : ℕ) (C : Result (Option Here) Refused → Type 0) (s : NameOn t n C) (y : Result (Option Here) Refused) (v : C y) where
    pub name_done : y ≡ Ok None → AddsName ns ts ds given i from t₀ (Ok n) t
    name_done e = record { size = s.size; is = go }
      where
        go : (w : World ns ts ds given) (d : Spans) (vs : List Variable) → Ranges w i d → Held t₀ from vs → All (Below i) vs
            → Adds (outcome w d vs) (λ k. i < k) vs n t
        go w d vs g h b =
            let a = s.on y v w d vs g h b in
            let o = outcome w d vs in
            record {
              variables = a.variables;
              is = loop-done w i (row_word ns i 3) (row_word ns i 4) (step d) a.variables o (subst (λ x. Left w d x a.variables o) e a.remains);
              held = a.held;
              below = a.below;
            }

    module _ (h : Here) (e : Element) (f : y ≡ Ok (Some h)) (q : list_of e ≡ map number_of (held h)) where
      -- the turn, at an element
      at-element : (w : World ns ts ds given) (d : Spans) (vs : List Variable) → Ranges w i d → Held t₀ from vs → All (Below i) vs → OnAt w d vs t n (Ok (Some h))
      at-element w d vs g hd b = subst (OnAt w d vs t n) f (s.on y v w d vs g hd b)

      pub name-full : (p : ℕ) → 512 ≤ n → p ≡ row_word ns i 0 → AddsName ns ts ds given i from t₀ (Err (record { refusal = Full; place = p })) t
      name-full p l z = record { size = s.size; is = go }
        where
          go : (w : World ns ts ds given) (d : Spans) (vs : List Variable) → Ranges w i d → Held t₀ from vs → All (Below i) vs
              → outcome w d vs ≡ refused Full p
          go w d vs g hd b =
              let a = at-element w d vs g hd b in
              loop-refused w i (row_word ns i 3) (row_word ns i 4) (step d) h a.variables (outcome w d vs) a.remains
              (scope_at h) (scope-held h) e q Full p
              (added_full (declared_at ns i d) (under w (scope_at h)) (list_of e) a.variables (omega (arith, l, a.held.rows.count)) ∙ ap (λ (x : ℕ). refused Full x) (sym z))

      module _ (key : Key) (t' : Table) (D : Result (Option Here) Refused → Type 0) (l : n < 512) (z : key_number key ≡ key_of i (list_of e)) (u : t' ≡ appended t n key 0)
          (x : (r : Result (Option Here) Refused) → D r → NextIs ns ts ds given i h r) where
        has_room_lem : has_room t n ≡ true
        unfolding has_room
        has_room_lem = lt-ltb n (length t) (omega (arith, l, s.room))

        next-size : length t' ≡ length t₀
        next-size = rw u (append-size t n key 0) ∙ s.size

        next-on : (r' : Result (Option Here) Refused) → D r' → (w : World ns ts ds given) (d : Spans) (vs : List Variable) → Ranges w i d → Held t₀ from vs → All (Below i) vs → OnAt w d vs t' (n + 1) r'
        unfolding variable_limit
        next-on r' k' w d vs g hd b = record {
          variables = more;
          remains = rest;
          held = record { rows = rows; few = omega arith };
          below = λ k y b. all-with (Below k) a.variables one (a.below k y b) (record { keyed = keyed; less = y });
          under = rises r' (x r' k') rest;
        }
          where
            a : OnAt w d vs t n (Ok (Some h))
            a = at-element w d vs g hd b

            o : Outcome (List Variable)
            o = outcome w d vs

            one : Variable
            one = record { name = i; element = list_of e }

            more : List Variable
            more = a.variables ++ (one ∷ [])

            keyed : Keyed i (list_of e)
            keyed = element-keyed w d g h a.variables o a.remains e q

            rest : Left w d r' more o
            rest =
                loop-more w i (row_word ns i 3) (row_word ns i 4) (step d) h a.variables o a.remains (scope_at h) (scope-held h) e q more r'
                (added_more (declared_at ns i d) (under w (scope_at h)) (list_of e) a.variables (omega (arith, l, a.held.rows.count))) (x r' k')

            rows : Numbered t' (n + 1) more
            rows = subst (λ y. Numbered y (n + 1) more) (sym u) (numbered-append t n a.variables one key 0 a.held.rows keyed z has_room_lem (a.under e q))

            last : key_at t' n ≡ key_of i (list_of e)
            last = last-key t' n a.variables one a.held.rows.count rows

            rises : (y : Result (Option Here) Refused) → NextIs ns ts ds given i h y → Left w d y more o → Under t' (n + 1) i y
            rises (Ok (Some m)) y k = λ c p _.
                let j : n + 1 - 1 ≡ n = omega arith in
                rw (j, last) (key-precedes keyed (element-keyed w d g m more o k c p) refl
                (loop-rises w i (row_word ns i 3) (row_word ns i 4) (step d) d g.stands g.sized h m a.variables o a.remains y e c q p))
            rises (Ok None) y k = tt
            rises (Err e) y k = tt

        pub name-more : NameOn t' (n + 1) D
        name-more = record { size = next-size; room = omega (arith, next-size, s.size, s.room); on = next-on }
