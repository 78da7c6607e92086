-- Laws over plain variables for terms, forms, sigmas and bodies.
use Rattle.std.specs.Prelude.{Err, Ok, Result}
use Rattle.rules.specs.declared.Refused.{Refused}
use mathlib.Core.Path.{◌≡◌, refl, sym, ◌∙◌, ap, subst}
use mathlib.Core.Bool.{Bool, true, false, cond}
use mathlib.Core.List.{List}
use Prim.Native.Nat.{ℕ, zero, suc, ◌+◌, ◌*◌, ◌-◌, ◌<◌}
use native.Mathlib.Omega.{arith}
use borrow.Author.Tests.{eq-eqb, ne_eqb}
use lib.Dec.{eqb}
use lib.ListN.{length}
use lib.IntN.{ℤ}
use Rattle.rules.specs.declared.Refusal.TheVariants.{Full}
use Rattle.rules.specs.Limits.{token_limit, nesting_limit}
use Rattle.value.specs.declared.Value.{Value}
use Rattle.value.specs.Decimal.{Valid, one_value}
use Rattle.lexer.specs.Text.{Token}
use Rattle.language.specs.Outcome.{Outcome, done, refused}
use Rattle.language.specs.Reader.{Reader, Read, follow, ◌>>=◌}
use Rattle.language.specs.Formulas.{Signed, read_sign}
use Rattle.language.specs.Numbering.{Variable, Row, xor}
use Rattle.onepass.specs.Walk.{skip, value_at}
use Rattle.onepass.specs.WalkLinear.{walk_linear, walk_body_form, walk_runs, walk_sigma, gather_at}
use Rattle.onepass.specs.Entries.{read}
use Rattle.onepass.proofs.Steps.{on}
use Rattle.tokens.specs.declared.Seen.{Seen}
use Rattle.tokens.specs.Stored.{token, Sees, Looks}
use Rattle.tokens.proofs.Moved.{look_is}
use Rattle.evaluator.specs.declared.steps.scope.Scope.{Scope}
use Rattle.evaluator.specs.declared.steps.names.Listed.{Listed}
use Rattle.evaluator.specs.Steps.Scopes.{Small}
use Rattle.evaluator.specs.Steps.Passing.{Led, Leads}
use Rattle.evaluator.proofs.steps.Passed.{is-mark, skips-seen}
use Rattle.evaluator.specs.Cycle.{limits_walk, seen_by, under, tokens_at}
use Rattle.evaluator.proofs.Laws.{stop}
use Rattle.gatherer.specs.declared.Ending.{Ending}
use Rattle.gatherer.specs.declared.Ending.TheVariants as ending
use Rattle.gatherer.specs.declared.Running.{Running}
use Rattle.rows.specs.Counts.{RowOf}
use Rattle.gatherer.proofs.Forward.{one_fewer}
use Rattle.gatherer.specs.Cycle.{Gatherers, sigmas_in, term_in, terms_in, form_in, sigma_in, body_in, gather_in, Model, Done, Does, Carried, Ends, term_walk, EndingIs, Gathers, VariableIs, running_outcome, ReadyRun, RunningIs, RunsAre}
use Rattle.store.specs.Table.{Table}

-- ---- sequences

-- a step that is known, and what the rest does
pub then-does : {A : Type 0} (s ts : List ℕ) (vs : List Variable) (o : Outcome (Read A)) (f : A → Reader Row) (a : A) (k : List Token) (z : Result ℕ Refused) (l : List ℤ)
    → o ≡ read a k → Does s ts vs (f a k) z l → Does s ts vs (follow o f) z l
then-does s ts vs o f a k z l e d = subst (λ o. Does s ts vs (follow o f) z l) (sym e) d

module _ {ns ts : List ℕ} {ds : Table} {given : ℕ} {xs : Table} {total level : ℕ} {sc : Scope} {G : Gatherers} {at : ℕ} {c : Value} {m : Bool} {l : List ℤ} {z : Result ℕ Refused} {l' : List ℤ}
    (h : Gathers G ns ts ds given xs total level sc at c m l z l') (w : Model ns ts ds given xs total) (g : Small sc) (v : Valid c) (r : Row) (x : RowOf w.variables l r) where
  abbrev walk : Outcome (Read Row)
  walk = G w.variables (seen_by w.world level) (under w.world sc) c m r (tokens_at w.world at)

  pub done_at : {a : ℕ} → z ≡ Ok a → Done w.world.text ts w.variables (G w.variables (seen_by w.world level) (under w.world sc) c m r (tokens_at w.world at)) a l'
  done_at e = subst (λ z. Does w.world.text ts w.variables walk z l') e (h.does w g v r x)

  pub refused-at : {y : Refused} → z ≡ Err y → G w.variables (seen_by w.world level) (under w.world sc) c m r (tokens_at w.world at) ≡ refused y.refusal y.place
  refused-at e = subst (λ z. Does w.world.text ts w.variables walk z l') e (h.does w g v r x)

module _ (ns ts : List ℕ) (ds : Table) (given : ℕ) (xs : Table) (total level : ℕ) (sc : Scope) where
  -- ---- a term

  module _ (n at : ℕ) (c : Value) (m sigmas : Bool) (l : List ℤ) (x : Result Ending Refused) (h : EndingIs n sigmas ns ts ds given level sc at c x) where
    abbrev carried : Model ns ts ds given xs total → Row → Carried
    carried w r = record { variables = w.variables; sigma = sigmas_in sigmas n w.variables (seen_by w.world level); minus = m; row = r }

    ends_at : (y : Result Ending Refused) → x ≡ y → (w : Model ns ts ds given xs total) → Small sc → Valid c → (r : Row)
        → Ends w.world level n sigmas sc (carried w r) (term_in sigmas n w.variables (seen_by w.world level) (under w.world sc) c m r (tokens_at w.world at)) y
    unfolding term_in term_walk
    ends_at y e w g v r = subst (Ends w.world level n sigmas sc (carried w r) (term_walk w.world level n sigmas sc (carried w r) token_limit c (tokens_at w.world at))) e (h.is w.world g v (carried w r))

    pub term-end : (e : Refused) → x ≡ Err e → Gathers (term_in sigmas n) ns ts ds given xs total level sc at c m l (Err e) l
    term-end z e = record { does = λ w g v r y. ends_at _ e w g v r }

    pub term-variable : (y : Ending) (u : Value) (v : Listed) (p a : ℕ) (z : Result ℕ Refused) (l' : List ℤ) → x ≡ Ok y → y ≡ ending.Variable u v p a → VariableIs n v.number v.count v.start p ns ts ds given xs total level sc a u m l z l'
        → Gathers (term_in sigmas n) ns ts ds given xs total level sc at c m l z l'
    term-variable y u v p a z l' e b f =
        record {
          does = λ w g d r j.
              let o = ends_at _ (e ∙ ap Ok b) w g d r in
              subst (λ o. Does w.world.text ts w.variables o z l') (sym o.is) (f.does w g o.valid r j o.domain o.declared);
        }

    pub term-sigma : (y : Ending) (u : Value) (p a : ℕ) (z : Result ℕ Refused) (l' : List ℤ) → x ≡ Ok y → y ≡ ending.Sigma u p a → Gathers (sigma_in n p) ns ts ds given xs total level sc a u m l z l'
        → Gathers (term_in sigmas n) ns ts ds given xs total level sc at c m l z l'
    unfolding sigmas_in sigma_in
    term-sigma y u p a z l' e d f =
        record {
          does = λ w g v r j.
              let o = ends_at _ (e ∙ ap Ok d) w g v r in
              subst (λ o. Does w.world.text ts w.variables o z l')
              (sym (o.is ∙ ap (λ b. sigmas_in b n w.variables (seen_by w.world level) p (under w.world sc) u m r (tokens_at w.world a)) (h.allowed u p a (e ∙ ap Ok d))))
              (f.does w g o.valid r j);
        }

  -- ---- a form

  module _ (n at : ℕ) (c : Value) (m sigmas : Bool) (l : List ℤ) (x : Result (Bool × ℕ) Refused) (d : Leads ts at x) where
    form_rest : Model ns ts ds given xs total → Row → Bool → Reader Row
    form_rest w r b =
        term_in sigmas n w.variables (seen_by w.world level) (under w.world sc) c (xor m b) r
        >>= (λ q. terms_in sigmas n token_limit w.variables (seen_by w.world level) (under w.world sc) c m q)

    led-sign : (b : Bool) (a : ℕ) → x ≡ Ok (b, a) → (w : Model ns ts ds given xs total) (r : Row) (z : Result ℕ Refused) (l' : List ℤ)
        → Does w.world.text ts w.variables (form_rest w r b (tokens_at w.world a)) z l'
        → Does w.world.text ts w.variables (form_in sigmas n w.variables (seen_by w.world level) (under w.world sc) c m r (tokens_at w.world at)) z l'
    unfolding form_in walk_linear form_rest terms_in
    led-sign b a e w r z l' f = go (read_sign (tokens_at w.world at)) (subst (Led (read_sign (tokens_at w.world at)) w.world.text ts) e (d.led w.world.text))
      where
        go : (o : Outcome (Read Signed)) → Led o w.world.text ts (Ok (b, a)) → Does w.world.text ts w.variables (follow o (λ g. form_rest w r g.negative)) z l'
        go (done y) d = rw (d.0, d.1) f
        go (refused k q) d = absurd d

    pub form-sign : (e : Refused) → x ≡ Err e → Gathers (form_in sigmas n) ns ts ds given xs total level sc at c m l (Err e) l
    unfolding form_in walk_linear
    form-sign z e = record { does = λ w g v r y. stop _ _ z.refusal z.place (go w.world.text (read_sign (tokens_at w.world at)) (subst (Led (read_sign (tokens_at w.world at)) w.world.text ts) e (d.led w.world.text))) }
      where
        go : (s : List ℕ) (o : Outcome (Read Signed)) → Led o s ts (Err z) → o ≡ refused z.refusal z.place
        go s (done y) d = absurd d
        go s (refused j q) d = rw (d.0, d.1) refl

    module _ (b : Bool) (a : ℕ) (e : x ≡ Ok (b, a)) (f : Bool) (i : f ≡ xor m b) (z : Result ℕ Refused) (l₁ : List ℤ) (h : Gathers (term_in sigmas n) ns ts ds given xs total level sc a c f l z l₁) where
      first : Gathers (term_in sigmas n) ns ts ds given xs total level sc a c (xor m b) l z l₁
      first = subst (λ f. Gathers (term_in sigmas n) ns ts ds given xs total level sc a c f l z l₁) i h

      pub form-term : (e : Refused) → z ≡ Err e → Gathers (form_in sigmas n) ns ts ds given xs total level sc at c m l (Err e) l₁
      unfolding form_rest
      form-term o j = record { does = λ w g v r y. led-sign b a e w r (Err o) l₁ (stop _ _ o.refusal o.place (refused-at first w g v r y j)) }

      pub form-rest : (q : ℕ) (u : Result ℕ Refused) (l₂ : List ℤ) → z ≡ Ok q → Gathers (terms_in sigmas n token_limit) ns ts ds given xs total level sc q c m l₁ u l₂
          → Gathers (form_in sigmas n) ns ts ds given xs total level sc at c m l u l₂
      unfolding form_rest
      form-rest q u l₂ j t =
          record {
            does = λ w g v r y.
                let o = done_at first w g v r y j in
                led-sign b a e w r u l₂ (then-does _ _ _ _ _ o.gathered (tokens_at w.world q) u l₂ o.is (t.does w g v o.gathered o.row));
          }

  -- ---- a sigma behind its word

  pub sigma-full : (n p at : ℕ) (c : Value) (m : Bool) (l : List ℤ) → n ≡ 0 → Gathers (sigma_in n p) ns ts ds given xs total level sc at c m l (Err (record { refusal = Full; place = 0 })) l
  unfolding sigma_in walk_sigma
  sigma-full zero p at c m l e = record { does = λ w g v r y. refl }
  sigma-full (suc n) p at c m l e = absurd (omega arith)

  -- the run and the body at its numbers
  bodies : ℕ → Value → Bool → Model ns ts ds given xs total → Row → ℕ → List ℤ → Reader Row
  bodies n c m w r i ks = walk_runs w.variables (seen_by w.world level) (body_in n w.variables (seen_by w.world level)) i (under w.world sc) c m r ks

  sigma-is : (n p at : ℕ) (c : Value) (m : Bool) (x : Result Running Refused) → (n ≡ 0 → ⊥) → RunningIs n p ns ts ds given level sc at x → (w : Model ns ts ds given xs total) → Small sc → (r : Row) (y : Result Running Refused) → x ≡ y
      → sigma_in n p w.variables (seen_by w.world level) (under w.world sc) c m r (tokens_at w.world at) ≡ running_outcome w.world (bodies (n - 1) c m w r) y
  unfolding sigma_in walk_sigma limits_walk value_at body_in bodies
  sigma-is zero p at c m x o h w g r y e = absurd (o refl)
  sigma-is (suc n) p at c m x o h w g r y e =
      let d : suc n - 1 ≡ n = omega arith in
      h.is w.world g (bodies n c m w r) ∙ ap (running_outcome w.world (bodies n c m w r)) e ∙ ap (λ n. running_outcome w.world (bodies n c m w r) y) (sym d)

  module _ (n p at : ℕ) (c : Value) (m : Bool) (l : List ℤ) (o : n ≡ 0 → ⊥) (x : Result Running Refused) (h : RunningIs n p ns ts ds given level sc at x) where
    pub sigma-refused : (e : Refused) → x ≡ Err e → Gathers (sigma_in n p) ns ts ds given xs total level sc at c m l (Err e) l
    sigma-refused z e = record { does = λ w g v r y. sigma-is n p at c m x o h w g r _ e }

    pub sigma-runs : (w : Running) (z : Result ℕ Refused) (l' : List ℤ) → x ≡ Ok w → RunsAre (n - 1) w.index ns ts ds given xs total level sc w.body c m w.limits w.count l z l'
        → Gathers (sigma_in n p) ns ts ds given xs total level sc at c m l z l'
    unfolding bodies
    sigma-runs y z l' e f =
        record {
          does = λ w g v r y.
              subst (λ o. Does w.world.text ts w.variables o z l') (sym (sigma-is n p at c m x o h w g r _ e)) (f.does w g (subst (ReadyRun sc) e (h.ready w.world g)) v r y);
        }

  -- ---- a body

  module _ (n at : ℕ) (c : Value) (m : Bool) (l : List ℤ) (t : Result Seen Refused) (h : Looks ts at t) where
    pub body-wrong : (e : Refused) → t ≡ Err e → Gathers (body_in n) ns ts ds given xs total level sc at c m l (Err e) l
    unfolding body_in walk_body_form
    body-wrong z e = record { does = λ w g v r y. stop _ _ z.refusal z.place (subst (Sees w.world.text ts at) e (h.sees w.world.text)).looks }

    module _ (here : Seen) (e : t ≡ Ok here) where
      turn : Model ns ts ds given xs total → Row → Bool → Reader Row
      turn w r f = elim f as (λ _. Reader Row) [
        | true ↦ skip >>= (λ _. walk_sigma w.variables (seen_by w.world level) n here.place (under w.world sc) c (xor m false) r)
        | false ↦ form_in false n w.variables (seen_by w.world level) (under w.world sc) c m r
      ]

      turns : (w : Model ns ts ds given xs total) (r : Row) (f : Bool) → eqb here.kind 134 ≡ f
          → body_in n w.variables (seen_by w.world level) (under w.world sc) c m r (tokens_at w.world at) ≡ turn w r f (tokens_at w.world at)
      unfolding body_in walk_body_form turn token form_in term_in sigmas_in
      turns w r f i =
          on _ _ (token w.world.text here.kind here.place here.payload) (tokens_at w.world at) _ (look_is w.world.text ts at here (subst (Sees w.world.text ts at) e (h.sees w.world.text)))
          (ap (λ f. turn w r f (tokens_at w.world at)) (is-mark w.world.text here.kind here.place here.payload 134 (omega arith) ∙ i))

      xor-false : (m : Bool) → m ≡ xor m false
      xor-false true = refl
      xor-false false = refl

      pub body-sigma : (z : Result ℕ Refused) (l' : List ℤ) → here.kind ≡ 134 → Gathers (sigma_in n here.place) ns ts ds given xs total level sc here.next c m l z l' → Gathers (body_in n) ns ts ds given xs total level sc at c m l z l'
      unfolding turn sigma_in
      body-sigma z l' i f =
          record {
            does = λ w g v r u.
                subst (λ o. Does w.world.text ts w.variables o z l') (sym (turns w r true (eq-eqb here.kind 134 i)))
                (then-does _ _ _ _ _ tt (tokens_at w.world here.next) z l' ((skips-seen ts at here t h e).is w.world.text)
                (subst (λ m. Does w.world.text ts w.variables (walk_sigma w.variables (seen_by w.world level) n here.place (under w.world sc) c m r (tokens_at w.world here.next)) z l') (xor-false m) (f.does w g v r u)));
          }

      pub body-form : (z : Result ℕ Refused) (l' : List ℤ) → (here.kind ≡ 134 → ⊥) → Gathers (form_in false n) ns ts ds given xs total level sc at c m l z l' → Gathers (body_in n) ns ts ds given xs total level sc at c m l z l'
      unfolding turn
      body-form z l' i f =
          record { does = λ w g v r u. subst (λ o. Does w.world.text ts w.variables o z l') (sym (turns w r false (ne_eqb here.kind 134 i))) (f.does w g v r u) }

  -- ---- a whole form

  pub gathered-form : (at : ℕ) (l : List ℤ) (z : Result ℕ Refused) (l' : List ℤ) → Gathers (form_in true 12) ns ts ds given xs total level sc at one_value false l z l'
      → Gathers (gather_in nesting_limit) ns ts ds given xs total level sc at one_value false l z l'
  unfolding gather_in gather_at form_in term_in sigmas_in nesting_limit
  gathered-form at l z l' h = record { does = h.does }

-- ---- measures: ten for each token behind the position, so that a body's sigma has fewer; a form with sigmas has more than any

module _ (ts : List ℕ) (at s : ℕ) where
  pub body-falls : (w : Seen) (t : Result Seen Refused) → Looks ts at t → t ≡ Ok w → 10 * (length ts - at) + 4 ≡ s → 10 * (length ts - w.next) + 6 < s
  body-falls w t h e f = omega (arith, one_fewer ts at w t h e)

  module _ (ns : List ℕ) (ds : Table) (given level : ℕ) (sc : Scope) (n : ℕ) where
    pub sigma-falls : (p : ℕ) (w : Running) (x : Result Running Refused) → RunningIs n p ns ts ds given level sc at x → x ≡ Ok w → 10 * (length ts - at) + 6 ≡ s → 10 * (length ts - w.body) + 5 < s
    sigma-falls p w x h e f = omega (arith, h.after w e)

    pub term-falls : (c u : Value) (sigmas : Bool) (p a : ℕ) (x : Result Ending Refused) (y : Ending) → EndingIs n sigmas ns ts ds given level sc at c x → x ≡ Ok y → y ≡ ending.Sigma u p a
        → cond sigmas (10 * length ts + 10) 0 + 1 ≡ s → 10 * (length ts - a) + 6 < s
    term-falls c u sigmas p a x y h e d f =
        let g : 10 * length ts + 10 + 1 ≡ s = subst (λ b. cond b (10 * length ts + 10) 0 + 1 ≡ s) (h.allowed u p a (e ∙ ap Ok d)) f in
        omega arith
