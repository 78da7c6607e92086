-- Laws over plain variables for the turns of a sum's run.
use Rattle.std.specs.Prelude.{Err, Ok, Result, Option, Some, None}
use Rattle.rules.specs.declared.Refused.{Refused}
use mathlib.Core.Path.{◌≡◌, refl, sym, ◌∙◌, ap, subst}
use mathlib.Core.Bool.{false}
use mathlib.Core.List.{List}
use Prim.Native.Nat.{ℕ, suc, ◌+◌, ◌-◌, ◌<◌, ◌≤◌}
use native.Mathlib.Omega.{arith}
use lib.IntN.{ℤ, pos, negsuc, nat_abs, ◌+ℤ◌, ◌-ℤ◌, neg_ℤ, +ℤ_assoc, +ℤ_idr}
use Rattle.rules.specs.Limits.{mantissa_limit, run_limit}
use Rattle.value.specs.declared.Value.{Value}
use Rattle.value.specs.Decimal.{Valid, zero_value, sum_of, if_in_range}
use Rattle.rational.specs.Integer.{up, down}
use Rattle.rational.proofs.Integer.{add_parts, neg-up, neg-down}
use Rattle.value.proofs.Ranges.{valid-both}
use Rattle.value.proofs.Operations.{sum-valid, zero-valid}
use Rattle.language.specs.Outcome.{Outcome, done, refused, fitting, ◌>>=◌}
use Rattle.language.specs.Scope.{bind}
use Rattle.language.specs.Ranges.{up_from}
use Rattle.language.specs.Evaluation.{length_of, each, add_to}
use Rattle.language.specs.Reader.{as_read}
use Rattle.language.specs.Model.{what_of}
use Rattle.onepass.specs.Walk.{walk_inside, walk_turns, walk_body, behind_bracket}
use Rattle.onepass.specs.Entries.{read}
use Rattle.evaluator.specs.declared.steps.scope.Scope.{Scope as Held}
use Rattle.evaluator.specs.declared.steps.values.Limits as code
use Rattle.evaluator.specs.Steps.Scopes.{bindings_of, bound_more, Small}
use Rattle.evaluator.specs.Steps.Passing.{Ends}
use Rattle.evaluator.specs.Steps.Values.{fitted_at, signed_value, limits_in, SmallLimits, number_in}
use Rattle.evaluator.proofs.steps.Runs.{number_small}
use Rattle.evaluator.proofs.steps.Scopes.{scope-bind, small-bind}
use Rattle.evaluator.specs.Tables.{World}
use Rattle.evaluator.specs.Cycle.{inside_in, value_outcome, ValidAnswer, seen_by, under, tokens_at, Values, Ready, BodyIs}
use Rattle.evaluator.proofs.Laws.{fitted-valid}
use Rattle.store.specs.Table.{Table}

-- the j-th number of a run is a value's
pub nth-small : (l : code.Limits) (j : ℕ) → SmallLimits l → j < length_of (limits_in l) → nat_abs (l.lower +ℤ pos j) ≤ mantissa_limit
unfolding length_of
nth-small l j h b = go l.lower l.upper (l.lower +ℤ pos j) h.low h.high b (add_parts l.lower (pos j))
  where
    size : (z : ℤ) → nat_abs z ≡ up z + down z
    size (pos n) = omega arith
    size (negsuc n) = omega arith

    one : (z : ℤ) → 0 < up z → down z ≡ 0
    one (pos n) e = refl
    one (negsuc n) e = absurd (omega arith)

    go : (a b z : ℤ) → nat_abs a ≤ mantissa_limit → nat_abs b ≤ mantissa_limit → j < up (b +ℤ pos 1 -ℤ a) → up z + (down a + 0) ≡ up a + j + down z → nat_abs z ≤ mantissa_limit
    go a b z f g i e =
        let w : down (b +ℤ pos 1 -ℤ a) ≡ 0 = one (b +ℤ pos 1 -ℤ a) (omega arith) in
        let s : up (b +ℤ pos 1 -ℤ a) + (down b + up a) ≡ up b + 1 + down a + down (b +ℤ pos 1 -ℤ a) = omega (arith, add_parts (b +ℤ pos 1) (neg_ℤ a), add_parts b (pos 1), neg-up a, neg-down a) in
        near z (omega (arith, size a, size b)) (omega (arith, size a, size b))
      where
        near : (z : ℤ) → up z ≤ mantissa_limit + down z → down z ≤ mantissa_limit + up z → nat_abs z ≤ mantissa_limit
        near (pos n) e f = omega arith
        near (negsuc n) e f = omega arith

module _ (n i p : ℕ) (ns ts : List ℕ) (ds : Table) (given level : ℕ) (sc : Held) (at : ℕ) (l : code.Limits) (k : ℕ) where
  -- what the body adds at a number, and the turns from a number on
  pub added : World ns ts ds given → ℤ → Value → Outcome Value
  added w x v = add_to p v (what_of (walk_inside (seen_by w level) n (bind i x (under w sc)) (tokens_at w at)))

  -- with the sum v before the j-th turn the turns give what they give from the start
  pub record TurnsOn (v : Value) (j : ℕ) : Type 0 where
    pub within : j ≤ k
    pub same : (w : World ns ts ds given) → Small sc → Ready sc l k → each (added w) (up_from (l.lower +ℤ pos j) (k - j)) v ≡ each (added w) (up_from l.lower k) zero_value
    pub valid : World ns ts ds given → Small sc → Ready sc l k → Valid v

  pub turns-start : (v : Value) → v ≡ zero_value → TurnsOn v 0
  turns-start v e =
      let d : k - 0 ≡ k = omega arith in
      record { within = omega arith; same = λ w g r. rw (e, d, +ℤ_idr l.lower) refl; valid = λ w g r. subst Valid (sym e) zero-valid }

  -- a refusal of the turns is the body's
  body-stops : (e : Refused) (r : Result (Value × ℕ) Refused) → r ≡ Err e
      → ((w : World ns ts ds given) → Small sc → Ready sc l k → each (added w) (up_from l.lower k) zero_value ≡ refused e.refusal e.place) → BodyIs n i p ns ts ds given level sc at l k r
  unfolding walk_body walk_turns added
  body-stops z r e f =
      record {
        is = λ w g y. ap (λ o. as_read o (behind_bracket 0 (tokens_at w at))) (f w g y) ∙ sym (ap (value_outcome w.text ts) e);
        valid = λ w g y. subst ValidAnswer (sym e) tt;
      }

  module _ (v : Value) (j : ℕ) (o : TurnsOn v j) where
    pub body_end : (end : ℕ) → k ≤ j → Ends ts at end → BodyIs n i p ns ts ds given level sc at l k (Ok (v, end))
    unfolding walk_body walk_turns added each
    body_end end h f =
        record {
          is = λ w g y. ap (λ o. as_read o (behind_bracket 0 (tokens_at w at))) (sym (o.same w g y) ∙ last w) ∙ ap (read v) (f.is w.text);
          valid = o.valid;
        }
      where
        last : (w : World ns ts ds given) → each (added w) (up_from (l.lower +ℤ pos j) (k - j)) v ≡ done v
        last w = let d : k - j ≡ 0 = omega arith in rw d refl

    module _ (m : j < k) (t : Held) (b : bindings_of t ≡ bound_more i (number_in l j) (bindings_of sc)) (r : Result (Value × ℕ) Refused) (h : Values (inside_in n) ns ts ds given level t at r) where
      -- the body under the index bound to the j-th number
      bound : Ready sc l k → bindings_of t ≡ bound_more i (l.lower +ℤ pos j) (bindings_of sc)
      unfolding run_limit
      bound y = b ∙ ap (λ z. bound_more i z (bindings_of sc)) (number_small l j y.small.low (omega (arith, y.short)))

      inner : Small sc → Ready sc l k → Small t
      inner g y = small-bind sc t i (l.lower +ℤ pos j) (bound y) (nth-small l j y.small (omega (arith, y.count))) g

      body_at : (z : Result (Value × ℕ) Refused) → r ≡ z → (w : World ns ts ds given) → Small sc → Ready sc l k
          → walk_inside (seen_by w level) n (bind i (l.lower +ℤ pos j) (under w sc)) (tokens_at w at) ≡ value_outcome w.text ts z
      unfolding inside_in
      body_at z e w g y =
          ap (λ s. walk_inside (seen_by w level) n s (tokens_at w at)) (sym (scope-bind w.known sc t i (l.lower +ℤ pos j) (bound y) y.room)) ∙ h.is w (inner g y) ∙ ap (value_outcome w.text ts) e

      -- one turn
      turn : (w : World ns ts ds given) (x : Outcome Value) → added w (l.lower +ℤ pos j) v ≡ x
          → each (added w) (up_from (l.lower +ℤ pos j) (k - j)) v ≡ (x >>= λ u. each (added w) (up_from (l.lower +ℤ pos (j + 1)) (k - (j + 1))) u)
      unfolding each
      turn w x e =
          let d : k - j ≡ suc (k - (j + 1)) = omega arith in
          let s : l.lower +ℤ pos j +ℤ pos 1 ≡ l.lower +ℤ pos (j + 1) = +ℤ_assoc l.lower (pos j) (pos 1) in
          rw (d, s) (ap (λ o. o >>= λ u. each (added w) (up_from (l.lower +ℤ pos (j + 1)) (k - (j + 1))) u) e)

      pub body_refused : (e : Refused) → r ≡ Err e → BodyIs n i p ns ts ds given level sc at l k r
      unfolding added
      body_refused z e =
          body-stops z r e (λ w g y. sym (o.same w g y) ∙ turn w (refused z.refusal z.place) (ap (λ x. add_to p v (what_of x)) (body_at _ e w g y)))

      module _ (z : Value) (a : ℕ) (e : r ≡ Ok (z, a)) (end : ℕ) (q : Result (Value × ℕ) Refused) (f : q ≡ fitted_at p end (if_in_range v (signed_value false z) (sum_of v (signed_value false z)))) where
        exact : World ns ts ds given → Small sc → Ready sc l k → q ≡ fitted_at p end (sum_of v z)
        unfolding signed_value
        exact w g y = f ∙ ap (fitted_at p end) (valid-both v z (sum_of v z) (o.valid w g y) (subst ValidAnswer e (h.valid w (inner g y))))

        sum-at : (w : World ns ts ds given) → Small sc → Ready sc l k → added w (l.lower +ℤ pos j) v ≡ fitting p (sum_of v z)
        unfolding added
        sum-at w g y = ap (λ x. add_to p v (what_of x)) (body_at _ e w g y)

        pub body-unfit : (e : Refused) → q ≡ Err e → BodyIs n i p ns ts ds given level sc at l k q
        unfolding fitted_at
        body-unfit err d = body-stops err q d (λ w g y. sym (o.same w g y) ∙ turn w (refused err.refusal err.place) (sum-at w g y ∙ go (sum_of v z) (sym (exact w g y) ∙ d)))
          where
            go : (x : Option Value) → fitted_at p end x ≡ Err err → fitting p x ≡ refused err.refusal err.place
            go (Some u) e = absurd (let z : ◌≡◌ {A = ℕ} 0 1 = cc in omega arith)
            go None e = cc

        pub turns-on : (u : Value) (s : ℕ) → q ≡ Ok (u, s) → TurnsOn u (j + 1)
        unfolding fitted_at
        turns-on u s d =
            record {
              within = omega arith;
              same = λ w g y. sym (turn w (done u) (sum-at w g y ∙ go (sum_of v z) (sym (exact w g y) ∙ d))) ∙ o.same w g y;
              valid = λ w g y. subst ValidAnswer (sym (exact w g y) ∙ d) (fitted-valid p end (sum_of v z) (sum-valid v z));
            }
          where
            go : (x : Option Value) → fitted_at p end x ≡ Ok (u, s) → fitting p x ≡ done u
            go (Some y) e = let z : (y, end) ≡ (u, s) = cc in ap (λ (z : Value × ℕ). done z.0) z
            go None e = absurd (let z : ◌≡◌ {A = ℕ} 0 1 = cc in omega arith)
