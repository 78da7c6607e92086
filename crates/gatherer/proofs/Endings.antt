-- Laws over plain variables for the primaries before a variable or a sigma.
use Rattle.std.specs.Prelude.{Err, None, Ok, Option, Result, Some}
use Rattle.rules.specs.declared.Refused.{Refused}
use mathlib.Core.Path.{◌≡◌, refl, sym, ◌∙◌, ap, subst}
use mathlib.Core.Bool.{Bool, true, false, ◌&&◌}
use mathlib.Core.List.{List}
use Prim.Native.Nat.{ℕ, zero, suc, ◌+◌, ◌-◌, ◌<◌, ◌≤◌}
use native.Mathlib.Omega.{arith}
use borrow.Author.Tests.{eqb-true}
use lib.Dec.{eqb}
use Rattle.rules.specs.declared.Refusal.TheVariants.{Full}
use Rattle.rules.specs.Limits.{token_limit}
use Rattle.value.specs.declared.Value.{Value}
use Rattle.value.specs.Decimal.{Valid, product_of, if_in_range}
use Rattle.value.proofs.Ranges.{and_left, and_right, valid-both}
use Rattle.value.proofs.Operations.{product-valid}
use Rattle.lexer.specs.Text.{Token}
use Rattle.language.specs.Outcome.{Outcome, done, refused, fitting}
use Rattle.language.specs.Syntax.{Name}
use Rattle.language.specs.Reader.{Reader, Read, follow, ◌>>=◌, lift, next}
use Rattle.language.specs.Linear.{Head, a_sigma, a_variable, a_primary, head_by}
use Rattle.language.specs.Numbering.{Row}
use Rattle.onepass.specs.Walk.{walk_primary_by, walk_primary, walk_inside}
use Rattle.onepass.specs.WalkLinear.{walk_variable, walk_linear_term}
use Rattle.onepass.proofs.Steps.{on}
use Rattle.tokens.specs.declared.Seen.{Seen}
use Rattle.tokens.specs.Stored.{token, kind_of, Sees, Looks}
use Rattle.tokens.proofs.Moved.{next-is}
use Rattle.evaluator.specs.declared.steps.scope.Scope.{Scope}
use Rattle.evaluator.specs.declared.steps.names.Listed.{Listed}
use Rattle.evaluator.specs.Steps.Scopes.{Small}
use Rattle.evaluator.specs.Steps.Values.{fitted_at}
use Rattle.evaluator.specs.Tables.{World}
use Rattle.evaluator.specs.Cycle.{primary_in, value_outcome, ValidAnswer, seen_by, under, tokens_at, Values, Continues}
use Rattle.evaluator.proofs.Laws.{stop, regroup, fitted-outcome, fitted-valid, refused-is, value-is, value-valid}
use Rattle.gatherer.specs.declared.Ending.TheVariants as ending
use Rattle.gatherer.specs.Cycle.{factor_in, Heads, variable_seen, Carried, term_walk, EndingIs}
use Rattle.gatherer.proofs.Numbers.{begins-of}
use Rattle.store.specs.Table.{Table}

-- ---- a primary and its `*`

module _ (ns ts : List ℕ) (ds : Table) (given level : ℕ) (sc : Scope) (n at : ℕ) (c : Value) (r : Result (Value × ℕ) Refused) (h : Values (primary_in n) ns ts ds given level sc at r) where
  pub factor-refused : (e : Refused) → r ≡ Err e → Continues (factor_in n) ns ts ds given level sc at c (Err e)
  unfolding factor_in primary_in
  factor-refused z e =
      record {
        is = λ w g y. stop _ _ z.refusal z.place (refused-is ns ts ds given level sc h e w g);
        valid = λ w g y. tt;
      }

  module _ (v : Value) (a : ℕ) (e : r ≡ Ok (v, a)) (t : Result Seen Refused) (l : Looks ts a t) where
    pub factor-wrong : (e : Refused) → t ≡ Err e → Continues (factor_in n) ns ts ds given level sc at c (Err e)
    unfolding factor_in primary_in
    factor-wrong z f =
        record {
          is = λ w g y. on _ _ v (tokens_at w a) _ (value-is ns ts ds given level sc h e w g) (stop _ _ z.refusal z.place (subst (Sees w.text ts a) f (l.sees w.text)).nexts);
          valid = λ w g y. tt;
        }

    pub factor-product : (w : Seen) (q : Result (Value × ℕ) Refused) → t ≡ Ok w → q ≡ fitted_at w.place w.next (if_in_range c v (product_of c v)) → Continues (factor_in n) ns ts ds given level sc at c q
    unfolding factor_in primary_in token
    factor-product z q f i =
        record {
          is = λ w g y.
              on _ _ v (tokens_at w a) _ (value-is ns ts ds given level sc h e w g)
              (on _ _ (token w.text z.kind z.place z.payload) (tokens_at w z.next) _ (next-is w.text ts a z (subst (Sees w.text ts a) f (l.sees w.text)))
              (fitted-outcome w.text ts z.place z.next (product_of c v) ∙ ap (value_outcome w.text ts) (sym (exact w g y))));
          valid = λ w g y. subst ValidAnswer (sym (exact w g y)) (fitted-valid z.place z.next (product_of c v) (product-valid c v));
        }
      where
        exact : World ns ts ds given → Small sc → Valid c → q ≡ fitted_at z.place z.next (product_of c v)
        exact w g y = i ∙ ap (fitted_at z.place z.next) (valid-both c v (product_of c v) y (value-valid ns ts ds given level sc h e w g))

-- ---- the loop

sigma-head : (names : List Name) (s : List ℕ) (b : Bool) (k p x : ℕ) → (b && eqb k 134) ≡ true → head_by names b (kind_of s k p x) ≡ a_sigma
unfolding head_by kind_of
sigma-head names s b k p x t = rw (eqb-true k 134 (and_right b (eqb k 134) t), and_left b (eqb k 134) t) refl

regroup-two : {A B C D : Type 0} (o : Outcome (Read A)) (K : A → Reader B) (M : A → B → Reader C) (L : C → Reader D)
    → follow o (λ v l. follow (K v l) (λ x l. follow (M v x l) L)) ≡ follow (follow o (λ v l. follow (K v l) (M v))) L
regroup-two (done x) K M L = regroup (K x.what x.rest) (M x.what) L
regroup-two (refused m p) K M L = refl

module _ (n : ℕ) (sigmas : Bool) (ns ts : List ℕ) (ds : Table) (given level : ℕ) (sc : Scope) (at : ℕ) (c : Value) where
  -- with the product u at a behind j primaries, the term is what it is from its start
  pub record EndingOn (j a : ℕ) (u : Value) : Type 0 where
    pub same : (w : World ns ts ds given) → Small sc → Valid c → (g : Carried) → term_walk w level n sigmas sc g (4096 - j) u (tokens_at w a) ≡ term_walk w level n sigmas sc g token_limit c (tokens_at w at)
    pub valid : World ns ts ds given → Small sc → Valid c → Valid u

  pub ending-start : EndingOn 0 at c
  unfolding token_limit
  ending-start = record { same = λ w g y q. refl; valid = λ w g y. y }

  -- what the head h of a token begins
  turn : World ns ts ds given → Carried → ℕ → Value → Token → Head → Reader Row
  turn w g k u t h = elim h as (λ _. Reader Row) [
    | a_sigma ↦ g.sigma t.place (under w sc) u g.minus g.row
    | a_variable i d ↦ walk_variable g.variables (seen_by w level) n i d t.place (under w sc) u g.minus g.row
    | a_primary ↦ walk_primary_by (seen_by w level) (walk_inside (seen_by w level) n) t.place t.kind (under w sc)
        >>= (λ v. next >>= (λ x. lift (fitting x.place (product_of u v)) >>= (λ y. term_walk w level n sigmas sc g k y)))
  ]

  module _ (j a : ℕ) (u : Value) (o : EndingOn j a u) where
    stops : (e : Refused) → ((w : World ns ts ds given) → Small sc → Valid u → (g : Carried) → term_walk w level n sigmas sc g (4096 - j) u (tokens_at w a) ≡ refused e.refusal e.place)
        → EndingIs n sigmas ns ts ds given level sc at c (Err e)
    stops z f =
        record {
          is = λ w s y g. sym (o.same w s y g) ∙ f w s (o.valid w s y) g;
          allowed = λ u p a e. absurd (let z : ◌≡◌ {A = ℕ} 0 1 = cc in omega arith);
        }

    pub ending-none : 4096 ≤ j → EndingIs n sigmas ns ts ds given level sc at c (Err (record { refusal = Full; place = 0 }))
    unfolding term_walk walk_linear_term
    ending-none h = stops (record { refusal = Full; place = 0 }) (λ w s y g. go (4096 - j) (omega arith) w g)
      where
        go : (k : ℕ) → k ≤ 0 → (w : World ns ts ds given) (g : Carried) → term_walk w level n sigmas sc g k u (tokens_at w a) ≡ refused Full 0
        go zero h w g = refl
        go (suc k) h w g = absurd (omega arith)

    module _ (t : Result Seen Refused) (m : j < 4096) (h : Looks ts a t) where
      pub ending-wrong : (e : Refused) → t ≡ Err e → EndingIs n sigmas ns ts ds given level sc at c (Err e)
      unfolding term_walk walk_linear_term
      ending-wrong z e = stops z (λ w s y g. go (4096 - j) (omega arith) w g)
        where
          go : (k : ℕ) → 0 < k → (w : World ns ts ds given) (g : Carried) → term_walk w level n sigmas sc g k u (tokens_at w a) ≡ refused z.refusal z.place
          go zero m w g = absurd (omega arith)
          go (suc k) m w g = stop _ _ z.refusal z.place (subst (Sees w.text ts a) e (h.sees w.text)).nexts

      module _ (here : Seen) (e : t ≡ Ok here) where
        turns : (w : World ns ts ds given) (g : Carried) (f : Head) → head_by (seen_by w level) sigmas (kind_of w.text here.kind here.place here.payload) ≡ f
            → term_walk w level n sigmas sc g (4096 - j) u (tokens_at w a) ≡ turn w g (4096 - (j + 1)) u (token w.text here.kind here.place here.payload) f (tokens_at w here.next)
        unfolding term_walk walk_linear_term turn token
        turns w g f i = go (4096 - j) refl
          where
            go : (k : ℕ) → 4096 - j ≡ k → term_walk w level n sigmas sc g k u (tokens_at w a) ≡ turn w g (4096 - (j + 1)) u (token w.text here.kind here.place here.payload) f (tokens_at w here.next)
            go zero e' = absurd (omega arith)
            go (suc k) e' =
                let d : 4096 - (j + 1) ≡ k = omega arith in
                on _ _ (token w.text here.kind here.place here.payload) (tokens_at w here.next) _ (next-is w.text ts a here (subst (Sees w.text ts a) e (h.sees w.text)))
                (ap (λ f. turn w g k u (token w.text here.kind here.place here.payload) f (tokens_at w here.next)) i ∙ ap (λ k. turn w g k u (token w.text here.kind here.place here.payload) f (tokens_at w here.next)) (sym d))

        pub ending-sigma : (sigmas && eqb here.kind 134) ≡ true → EndingIs n sigmas ns ts ds given level sc at c (Ok (ending.Sigma u here.place here.next))
        unfolding turn token
        ending-sigma i =
            record {
              is = λ w s c g. record { is = sym (o.same w s c g) ∙ turns w g a_sigma (sigma-head (seen_by w level) w.text sigmas here.kind here.place here.payload i); valid = o.valid w s c };
              allowed = λ u p a e. and_left sigmas (eqb here.kind 134) i;
            }

        module _ (i : (sigmas && eqb here.kind 134) ≡ false) (v : Option Listed) (vs : v ≡ variable_seen ns ts level a here.kind) where
          head_at : (r : Option Listed) → v ≡ r → (w : World ns ts ds given) → Heads w (head_by (seen_by w level) sigmas (kind_of w.text here.kind here.place here.payload)) r
          head_at r f w = subst (Heads w (head_by (seen_by w level) sigmas (kind_of w.text here.kind here.place here.payload))) f ((begins-of ns ts level a here.kind v vs).heads here.place here.payload here.next (subst (Looks ts a) e h) sigmas i ds given w)

          pub ending-variable : (w : Listed) → v ≡ Some w → EndingIs n sigmas ns ts ds given level sc at c (Ok (ending.Variable u w here.place here.next))
          unfolding turn token
          ending-variable y d =
              record {
                is = λ w s c g.
                    let r = head_at _ d w in
                    record { domain = r.0; declared = r.1.1; is = sym (o.same w s c g) ∙ turns w g (a_variable y.number r.0) r.1.0; valid = o.valid w s c };
                allowed = λ u p a e. absurd (let z : ◌≡◌ {A = ℕ} 0 1 = cc in omega arith);
              }

          module _ (d : v ≡ None) (z : Result (Value × ℕ) Refused) (f : Continues (factor_in n) ns ts ds given level sc a u z) where
            -- the primary behind its first token
            primary-at : (w : World ns ts ds given)
                → factor_in n u (seen_by w level) (under w sc) (tokens_at w a)
                ≡ (walk_primary_by (seen_by w level) (walk_inside (seen_by w level) n) here.place (kind_of w.text here.kind here.place here.payload) (under w sc) >>= (λ v. next >>= (λ x. lift (fitting x.place (product_of u v))))) (tokens_at w here.next)
            unfolding factor_in walk_primary token
            primary-at w =
                ap (λ o. follow (follow o (λ t. walk_primary_by (seen_by w level) (walk_inside (seen_by w level) n) t.place t.kind (under w sc))) (λ v. next >>= (λ x. lift (fitting x.place (product_of u v)))))
                (next-is w.text ts a here (subst (Sees w.text ts a) e (h.sees w.text)))

            factored : (z' : Result (Value × ℕ) Refused) → z ≡ z' → (w : World ns ts ds given) → Small sc → Valid u → (g : Carried)
                → term_walk w level n sigmas sc g (4096 - j) u (tokens_at w a) ≡ follow (value_outcome w.text ts z') (λ y. term_walk w level n sigmas sc g (4096 - (j + 1)) y)
            unfolding turn token
            factored z' q w s r g =
                turns w g a_primary (head_at _ d w)
                ∙ regroup-two (walk_primary_by (seen_by w level) (walk_inside (seen_by w level) n) here.place (kind_of w.text here.kind here.place here.payload) (under w sc) (tokens_at w here.next)) (λ v. next) (λ v x. lift (fitting x.place (product_of u v))) (λ y. term_walk w level n sigmas sc g (4096 - (j + 1)) y)
                ∙ ap (λ o. follow o (λ y. term_walk w level n sigmas sc g (4096 - (j + 1)) y)) (sym (primary-at w) ∙ f.is w s r ∙ ap (value_outcome w.text ts) q)

            pub ending-refused : (e : Refused) → z ≡ Err e → EndingIs n sigmas ns ts ds given level sc at c (Err e)
            ending-refused z r = stops z (λ w s y g. factored _ r w s y g)

            pub ending-on : (v : Value) (q : ℕ) → z ≡ Ok (v, q) → EndingOn (j + 1) q v
            ending-on v q r =
                record {
                  same = λ w s y g. sym (factored _ r w s (o.valid w s y) g) ∙ o.same w s y g;
                  valid = λ w s y. subst ValidAnswer r (f.valid w s (o.valid w s y));
                }
