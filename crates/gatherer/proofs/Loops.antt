-- Laws over plain variables for the two loops that write the row: what is gathered from here on is what is gathered from the
-- start.
use Rattle.std.specs.Prelude.{Err, Ok, Result}
use Rattle.rules.specs.declared.Refused.{Refused}
use mathlib.Core.Path.{◌≡◌, refl, sym, ◌∙◌, ap, subst}
use mathlib.Core.Bool.{Bool, true, false, ◌||◌}
use mathlib.Core.List.{List}
use Prim.Native.Nat.{ℕ, zero, suc, ◌+◌, ◌-◌, ◌<◌, ◌≤◌}
use native.Mathlib.Omega.{arith}
use lib.Dec.{eqb}
use lib.ListN.{length}
use lib.IntN.{ℤ, pos, ◌+ℤ◌, +ℤ_assoc, +ℤ_idr}
use Rattle.rules.specs.Limits.{token_limit, run_limit}
use Rattle.value.specs.declared.Value.{Value}
use Rattle.value.specs.Decimal.{Valid}
use Rattle.lexer.specs.Marks.{minus_sign}
use Rattle.language.specs.Outcome.{Outcome, done, refused}
use Rattle.language.specs.Outcome as outcome
use Rattle.language.specs.Reader.{Reader, Read, ◌>>=◌, give, is_mark, as_read}
use Rattle.language.specs.Formulas.{is_sum}
use Rattle.language.specs.Scope.{bind}
use Rattle.language.specs.Ranges.{up_from}
use Rattle.language.specs.Evaluation.{each}
use Rattle.language.specs.Numbering.{Row, xor}
use Rattle.language.specs.Model.{what_of}
use Rattle.onepass.specs.Walk.{skip, behind_bracket}
use Rattle.onepass.specs.WalkLinear.{walk_linear_terms, walk_runs}
use Rattle.onepass.specs.Entries.{read}
use Rattle.onepass.proofs.Steps.{on}
use Rattle.tokens.specs.declared.Seen.{Seen}
use Rattle.tokens.specs.Stored.{token, Sees, Looks}
use Rattle.tokens.proofs.Moved.{look_is}
use Rattle.evaluator.specs.declared.steps.scope.Scope.{Scope}
use Rattle.evaluator.specs.declared.steps.values.Limits as code
use Rattle.evaluator.specs.Steps.Scopes.{bindings_of, bound_more, Small}
use Rattle.evaluator.specs.Steps.Passing.{Ends}
use Rattle.evaluator.specs.Steps.Values.{number_in}
use Rattle.evaluator.proofs.steps.Runs.{number_small}
use Rattle.evaluator.proofs.steps.Scopes.{scope-bind, small-bind}
use Rattle.evaluator.proofs.steps.Passed.{is-mark, skips-seen}
use Rattle.evaluator.specs.Cycle.{seen_by, under, tokens_at, Ready}
use Rattle.evaluator.proofs.Laws.{stop}
use Rattle.evaluator.proofs.Turns.{nth-small}
use Rattle.rows.specs.Counts.{RowOf}
use Rattle.gatherer.specs.Cycle.{term_in, terms_in, body_in, Model, Does, Gathers, RunsAre}
use Rattle.gatherer.proofs.Forms.{done_at, refused-at}
use Rattle.store.specs.Table.{Table}

-- ---- terms

module _ (n : ℕ) (sigmas : Bool) (ns ts : List ℕ) (ds : Table) (given : ℕ) (xs : Table) (total level : ℕ) (sc : Scope) (at : ℕ) (c : Value) (m : Bool) (l₀ : List ℤ) where
  -- at most k terms more, from a on and with the row r
  abbrev on_row : Model ns ts ds given xs total → ℕ → Row → ℕ → Outcome (Read Row)
  on_row w k r a = terms_in sigmas n k w.variables (seen_by w.world level) (under w.world sc) c m r (tokens_at w.world a)

  pub record Reached (w : Model ns ts ds given xs total) (r₀ : Row) (k a : ℕ) (l : List ℤ) : Type 0 where
    pub row : Row
    pub holds : RowOf w.variables l row
    pub same : on_row w k row a ≡ on_row w token_limit r₀ at

  -- behind j terms
  pub record TermsOn (j a : ℕ) (l : List ℤ) : Type 0 where
    pub size : length l ≡ length l₀
    pub reached : (w : Model ns ts ds given xs total) → Small sc → Valid c → (r₀ : Row) → RowOf w.variables l₀ r₀ → Reached w r₀ (4096 - j) a l

  pub terms-start : TermsOn 0 at l₀
  unfolding token_limit
  terms-start = record { size = refl; reached = λ w g v r x. record { row = r; holds = x; same = refl } }

  module _ (j a : ℕ) (l : List ℤ) (o : TermsOn j a l) where
    -- by what the terms from here on do
    from-here : (z : Result ℕ Refused) (l' : List ℤ)
        → ((w : Model ns ts ds given xs total) → Small sc → Valid c → (r : Row) → RowOf w.variables l r → Does w.world.text ts w.variables (on_row w (4096 - j) r a) z l')
        → Gathers (terms_in sigmas n token_limit) ns ts ds given xs total level sc at c m l₀ z l'
    from-here z l' f =
        record {
          does = λ w g v r x.
              let q = o.reached w g v r x in
              subst (λ o. Does w.world.text ts w.variables o z l') q.same (f w g v q.row q.holds);
        }

    pub terms-none : 4096 ≤ j → Gathers (terms_in sigmas n token_limit) ns ts ds given xs total level sc at c m l₀ (Ok a) l
    unfolding terms_in walk_linear_terms
    terms-none h = from-here (Ok a) l (λ w g v r x. record { gathered = r; is = go (4096 - j) (omega arith) w r; row = x })
      where
        go : (k : ℕ) → k ≤ 0 → (w : Model ns ts ds given xs total) (r : Row) → on_row w k r a ≡ read r (tokens_at w.world a)
        go zero h w r = refl
        go (suc k) h w r = absurd (omega arith)

    module _ (t : Result Seen Refused) (i : j < 4096) (h : Looks ts a t) where
      pub terms-wrong : (e : Refused) → t ≡ Err e → Gathers (terms_in sigmas n token_limit) ns ts ds given xs total level sc at c m l₀ (Err e) l
      unfolding terms_in walk_linear_terms
      terms-wrong z e = from-here (Err z) l (λ w g v r x. go (4096 - j) (omega arith) w r)
        where
          go : (k : ℕ) → 0 < k → (w : Model ns ts ds given xs total) (r : Row) → on_row w k r a ≡ refused z.refusal z.place
          go zero i w r = absurd (omega arith)
          go (suc k) i w r = stop _ _ z.refusal z.place (subst (Sees w.world.text ts a) e (h.sees w.world.text)).looks

      module _ (here : Seen) (e : t ≡ Ok here) where
        turn : Model ns ts ds given xs total → ℕ → Row → Bool → Bool → Reader Row
        turn w k r f s = elim s as (λ _. Reader Row) [
          | true ↦ skip >>= (λ _. term_in sigmas n w.variables (seen_by w.world level) (under w.world sc) c (xor m f) r
              >>= (λ q. terms_in sigmas n k w.variables (seen_by w.world level) (under w.world sc) c m q))
          | false ↦ give r
        ]

        turns : (s : Bool) → (eqb here.kind 43 || eqb here.kind 45) ≡ s → (w : Model ns ts ds given xs total) (r : Row) → on_row w (4096 - j) r a ≡ turn w (4096 - (j + 1)) r (eqb here.kind 45) s (tokens_at w.world a)
        unfolding terms_in walk_linear_terms turn token
        turns s q w r = go (4096 - j) refl
          where
            sums : is_sum (token w.world.text here.kind here.place here.payload) ≡ s
            sums = rw (is-mark w.world.text here.kind here.place here.payload 43 (omega arith), is-mark w.world.text here.kind here.place here.payload 45 (omega arith)) q

            go : (k : ℕ) → 4096 - j ≡ k → on_row w k r a ≡ turn w (4096 - (j + 1)) r (eqb here.kind 45) s (tokens_at w.world a)
            go zero m = absurd (omega arith)
            go (suc k) m =
                let d : 4096 - (j + 1) ≡ k = omega arith in
                on _ _ (token w.world.text here.kind here.place here.payload) (tokens_at w.world a) _ (look_is w.world.text ts a here (subst (Sees w.world.text ts a) e (h.sees w.world.text)))
                (ap (λ s. turn w k r (is_mark minus_sign (token w.world.text here.kind here.place here.payload)) s (tokens_at w.world a)) sums
                ∙ ap (λ f. turn w k r f s (tokens_at w.world a)) (is-mark w.world.text here.kind here.place here.payload 45 (omega arith))
                ∙ ap (λ k. turn w k r (eqb here.kind 45) s (tokens_at w.world a)) (sym d))

        pub terms-end : (eqb here.kind 43 || eqb here.kind 45) ≡ false → Gathers (terms_in sigmas n token_limit) ns ts ds given xs total level sc at c m l₀ (Ok a) l
        unfolding turn
        terms-end q = from-here (Ok a) l (λ w g v r u. record { gathered = r; is = turns false q w r; row = u })

        module _ (q : (eqb here.kind 43 || eqb here.kind 45) ≡ true) (f : Bool) (d : f ≡ xor m (eqb here.kind 45)) (z : Result ℕ Refused) (l' : List ℤ) (s : Gathers (term_in sigmas n) ns ts ds given xs total level sc here.next c f l z l') where
          next-term : Gathers (term_in sigmas n) ns ts ds given xs total level sc here.next c (xor m (eqb here.kind 45)) l z l'
          next-term = subst (λ f. Gathers (term_in sigmas n) ns ts ds given xs total level sc here.next c f l z l') d s

          pub terms-refused : (e : Refused) → z ≡ Err e → Gathers (terms_in sigmas n token_limit) ns ts ds given xs total level sc at c m l₀ (Err e) l'
          unfolding turn
          terms-refused y u =
              from-here (Err y) l' (λ w g v r x.
              turns true q w r ∙ on _ _ tt (tokens_at w.world here.next) _ ((skips-seen ts a here t h e).is w.world.text) (stop _ _ y.refusal y.place (refused-at next-term w g v r x u)))

          pub terms-on : (b : ℕ) → z ≡ Ok b → length l' ≡ length l → TermsOn (j + 1) b l'
          unfolding turn
          terms-on b u s' =
              record {
                size = s' ∙ o.size;
                reached = λ w g v r₀ x.
                    let s = o.reached w g v r₀ x in
                    let d = done_at next-term w g v s.row s.holds u in
                    record {
                      row = d.gathered;
                      holds = d.row;
                      same =
                          sym (turns true q w s.row ∙ on _ _ tt (tokens_at w.world here.next) _ ((skips-seen ts a here t h e).is w.world.text) (on _ _ d.gathered (tokens_at w.world b) _ d.is refl))
                          ∙ s.same;
                    };
              }

-- ---- the numbers of a run

module _ (n i : ℕ) (ns ts : List ℕ) (ds : Table) (given : ℕ) (xs : Table) (total level : ℕ) (sc : Scope) (at : ℕ) (c : Value) (m : Bool) (b : code.Limits) (k : ℕ) (l₀ : List ℤ) where
  -- the body at a number
  pub step : Model ns ts ds given xs total → ℤ → Row → Outcome Row
  step w x r = what_of (body_in n w.variables (seen_by w.world level) (bind i x (under w.world sc)) c m r (tokens_at w.world at))

  pub record Turned (w : Model ns ts ds given xs total) (r₀ : Row) (j : ℕ) (l : List ℤ) : Type 0 where
    pub row : Row
    pub holds : RowOf w.variables l row
    pub same : each (step w) (up_from (b.lower +ℤ pos j) (k - j)) row ≡ each (step w) (up_from b.lower k) r₀

  pub record RunsOn (j : ℕ) (l : List ℤ) : Type 0 where
    pub size : length l ≡ length l₀
    pub within : j ≤ k
    pub turned : (w : Model ns ts ds given xs total) → Small sc → Ready sc b k → Valid c → (r₀ : Row) → RowOf w.variables l₀ r₀ → Turned w r₀ j l

  pub runs-start : RunsOn 0 l₀
  runs-start =
      let d : k - 0 ≡ k = omega arith in
      record { size = refl; within = omega arith; turned = λ w g y v r x. record { row = r; holds = x; same = rw (d, +ℤ_idr b.lower) refl } }

  module _ (j : ℕ) (l : List ℤ) (o : RunsOn j l) where
    pub runs-end : (end : ℕ) → k ≤ j → Ends ts at end → RunsAre n i ns ts ds given xs total level sc at c m b k l₀ (Ok end) l
    unfolding walk_runs step each
    runs-end end h f =
        record {
          does = λ w g y v r x.
              let q = o.turned w g y v r x in
              record {
                gathered = q.row;
                is = ap (λ o. as_read o (behind_bracket 0 (tokens_at w.world at))) (sym q.same ∙ last w q.row) ∙ ap (read q.row) (f.is w.world.text);
                row = q.holds;
              };
        }
      where
        last : (w : Model ns ts ds given xs total) (r : Row) → each (step w) (up_from (b.lower +ℤ pos j) (k - j)) r ≡ done r
        last w r = let d : k - j ≡ 0 = omega arith in rw d refl

    module _ (u : j < k) (t : Scope) (f : bindings_of t ≡ bound_more i (number_in b j) (bindings_of sc)) (z : Result ℕ Refused) (l' : List ℤ) (h : Gathers (body_in n) ns ts ds given xs total level t at c m l z l') where
      bound : Ready sc b k → bindings_of t ≡ bound_more i (b.lower +ℤ pos j) (bindings_of sc)
      unfolding run_limit
      bound y = f ∙ ap (λ z. bound_more i z (bindings_of sc)) (number_small b j y.small.low (omega (arith, y.short)))

      inner : Small sc → Ready sc b k → Small t
      inner g y = small-bind sc t i (b.lower +ℤ pos j) (bound y) (nth-small b j y.small (omega (arith, y.count))) g

      -- the body under the index bound to the j-th number
      step_is : (w : Model ns ts ds given xs total) → Ready sc b k → (r : Row)
          → step w (b.lower +ℤ pos j) r ≡ what_of (body_in n w.variables (seen_by w.world level) (under w.world t) c m r (tokens_at w.world at))
      unfolding step
      step_is w y r =
          ap (λ s. what_of (body_in n w.variables (seen_by w.world level) s c m r (tokens_at w.world at))) (sym (scope-bind w.world.known sc t i (b.lower +ℤ pos j) (bound y) y.room))

      round : (w : Model ns ts ds given xs total) (r : Row) (x : Outcome Row) → step w (b.lower +ℤ pos j) r ≡ x
          → each (step w) (up_from (b.lower +ℤ pos j) (k - j)) r ≡ outcome.◌>>=◌ x (λ q. each (step w) (up_from (b.lower +ℤ pos (j + 1)) (k - (j + 1))) q)
      unfolding each
      round w r x e =
          let d : k - j ≡ suc (k - (j + 1)) = omega arith in
          let s : b.lower +ℤ pos j +ℤ pos 1 ≡ b.lower +ℤ pos (j + 1) = +ℤ_assoc b.lower (pos j) (pos 1) in
          rw (d, s) (ap (λ o. outcome.◌>>=◌ o (λ q. each (step w) (up_from (b.lower +ℤ pos (j + 1)) (k - (j + 1))) q)) e)

      pub runs-refused : (e : Refused) → z ≡ Err e → RunsAre n i ns ts ds given xs total level sc at c m b k l₀ (Err e) l'
      unfolding walk_runs step
      runs-refused q e =
          record {
            does = λ w g y v r x.
                let a = o.turned w g y v r x in
                ap (λ o. as_read o (behind_bracket 0 (tokens_at w.world at)))
                (sym a.same ∙ round w a.row (refused q.refusal q.place) (step_is w y a.row ∙ ap what_of (refused-at h w (inner g y) v a.row a.holds e)));
          }

      pub runs_on : (q : ℕ) → z ≡ Ok q → length l' ≡ length l → RunsOn (j + 1) l'
      runs_on q e s =
          record {
            size = s ∙ o.size;
            within = omega arith;
            turned = λ w g y v r x.
                let a = o.turned w g y v r x in
                let d = done_at h w (inner g y) v a.row a.holds e in
                record {
                  row = d.gathered;
                  holds = d.row;
                  same = sym (round w a.row (done d.gathered) (step_is w y a.row ∙ ap what_of d.is)) ∙ a.same;
                };
          }
