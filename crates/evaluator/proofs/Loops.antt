-- Laws over plain variables for the loops of terms and formulas: what is walked from here on is what is walked from the start.
use Rattle.std.specs.Prelude.{Err, Ok, Result, Option}
use Rattle.rules.specs.declared.Refused.{Refused}
use mathlib.Core.Path.{◌≡◌, refl, sym, ◌∙◌, ap, subst}
use mathlib.Core.Bool.{Bool, true, false, ◌||◌}
use mathlib.Core.List.{List}
use Prim.Native.Nat.{ℕ, zero, suc, ◌+◌, ◌-◌, ◌<◌, ◌≤◌}
use native.Mathlib.Omega.{arith}
use lib.Dec.{eqb}
use borrow.Author.Tests.{eq-eqb, ne_eqb}
use Rattle.rules.specs.Limits.{token_limit}
use Rattle.value.specs.declared.Value.{Value}
use Rattle.value.specs.Decimal.{Valid, sum_of, product_of, if_in_range}
use Rattle.value.proofs.Ranges.{valid-both}
use Rattle.value.proofs.Operations.{sum-valid, product-valid}
use Rattle.lexer.specs.Marks.{minus_sign}
use Rattle.language.specs.Outcome.{Outcome, refused, fitting}
use Rattle.language.specs.Syntax.{Name}
use Rattle.language.specs.Reader.{Reader, Read, follow, as_read, ◌>>=◌, give, lift, is_mark}
use Rattle.language.specs.Formulas.{is_sum}
use Rattle.language.specs.Scope.{Scope}
use Rattle.language.specs.Numbering.{signed}
use Rattle.onepass.specs.Walk.{Walk, skip, walk_factors, walk_summands}
use Rattle.onepass.specs.Entries.{read}
use Rattle.onepass.proofs.Steps.{on}
use Rattle.tokens.specs.declared.Seen.{Seen}
use Rattle.tokens.specs.Stored.{token, Sees, Looks}
use Rattle.tokens.proofs.Moved.{look_is}
use Rattle.evaluator.specs.declared.steps.scope.Scope.{Scope as Held}
use Rattle.evaluator.specs.Steps.Scopes.{Small}
use Rattle.evaluator.specs.Steps.Values.{fitted_at, signed_value}
use Rattle.evaluator.proofs.steps.Passed.{is-mark, skips-seen}
use Rattle.evaluator.specs.Tables.{World}
use Rattle.evaluator.specs.Cycle.{primary_in, term_in, factors_in, summands_in, value_outcome, ValidAnswer, seen_by, under, tokens_at, Values, Continues}
use Rattle.evaluator.proofs.Laws.{stop, fitted-outcome, fitted-valid, signed_is, signed-valid, refused-is, value-is, value-valid}
use Rattle.store.specs.Table.{Table}

-- a turn more leaves one less
next_turn : (turns : ℕ) → turns < 4096 → 4096 - turns - 1 ≡ 4096 - (turns + 1)
next_turn turns m = omega arith

-- with the value u at a and at most k turns more, a loop gives what it gives from its start, at `at` with v
pub record LoopOn (W : ℕ → Value → List Name → Walk) (ns ts : List ℕ) (ds : Table) (given level : ℕ) (sc : Held) (at : ℕ) (v : Value) (k a : ℕ) (u : Value) : Type 0 where
  pub same : (w : World ns ts ds given) → Small sc → Valid v → W k u (seen_by w level) (under w sc) (tokens_at w a) ≡ W token_limit v (seen_by w level) (under w sc) (tokens_at w at)
  pub valid : World ns ts ds given → Small sc → Valid v → Valid u

module _ (ns ts : List ℕ) (ds : Table) (given level : ℕ) (sc : Held) (at : ℕ) (v : Value) where
  -- ---- any such loop

  module _ (W : ℕ → Value → List Name → Walk) (k a : ℕ) (u : Value) (o : LoopOn W ns ts ds given level sc at v k a u) where
    -- it ends here, stops, or goes on
    loop-ends : ((w : World ns ts ds given) → W k u (seen_by w level) (under w sc) (tokens_at w a) ≡ read u (tokens_at w a)) → Continues (W token_limit) ns ts ds given level sc at v (Ok (u, a))
    loop-ends f = record { is = λ w g y. sym (o.same w g y) ∙ f w; valid = o.valid }

    loop-stops : (e : Refused) (r : Result (Value × ℕ) Refused) → r ≡ Err e
        → ((w : World ns ts ds given) → Small sc → Valid u → W k u (seen_by w level) (under w sc) (tokens_at w a) ≡ refused e.refusal e.place) → Continues (W token_limit) ns ts ds given level sc at v r
    loop-stops z r e f =
        record {
          is = λ w g y. sym (o.same w g y) ∙ f w g (o.valid w g y) ∙ sym (ap (value_outcome w.text ts) e);
          valid = λ w g y. subst ValidAnswer (sym e) tt;
        }

    loop-on : (j b : ℕ) (x : Value)
        → ((w : World ns ts ds given) → Small sc → Valid u → W k u (seen_by w level) (under w sc) (tokens_at w a) ≡ W j x (seen_by w level) (under w sc) (tokens_at w b))
        → (World ns ts ds given → Small sc → Valid u → Valid x) → LoopOn W ns ts ds given level sc at v j b x
    loop-on j b x f y = record { same = λ w g z. sym (f w g (o.valid w g z)) ∙ o.same w g z; valid = λ w g z. y w g (o.valid w g z) }

  -- an operand behind a sign at p, joined to u by f, and what follows
  joined : (List Name → Walk) → (Value → Option Value) → (Value → List Name → Walk) → ℕ → List Name → Scope → Reader Value
  joined T f L p names s = skip >>= (λ _. T names s >>= (λ w. lift (fitting p (f w)) >>= (λ x. L x names s)))

  turn : (List Name → Walk) → (Value → Option Value) → (Value → List Name → Walk) → ℕ → Value → List Name → Scope → Bool → Reader Value
  turn T f L p u names s b = elim b as (λ _. Reader Value) [ true ↦ joined T f L p names s | false ↦ give u ]

  module _ (T : List Name → Walk) (a : ℕ) (t : Result Seen Refused) (h : Looks ts a t) (seen : Seen) (e : t ≡ Ok seen) (r : Result (Value × ℕ) Refused) (k : Values T ns ts ds given level sc seen.next r) (f : Value → Option Value) (L : Value → List Name → Walk) where
    joined-refused : (e : Refused) → r ≡ Err e → (w : World ns ts ds given) → Small sc → joined T f L seen.place (seen_by w level) (under w sc) (tokens_at w a) ≡ refused e.refusal e.place
    unfolding joined
    joined-refused z i w g = on _ _ tt (tokens_at w seen.next) _ ((skips-seen ts a seen t h e).is w.text) (stop _ _ z.refusal z.place (refused-is ns ts ds given level sc k i w g))

    module _ (z : Value) (c : ℕ) (i : r ≡ Ok (z, c)) (q : Result (Value × ℕ) Refused) (w : World ns ts ds given) (g : Small sc) (j : q ≡ fitted_at seen.place c (f z)) where
      joined-fit : (X : Outcome (Read Value)) → as_read (fitting seen.place (f z)) (tokens_at w c) ≡ X → joined T f L seen.place (seen_by w level) (under w sc) (tokens_at w a) ≡ follow X (λ x. L x (seen_by w level) (under w sc))
      unfolding joined
      joined-fit X d =
          on _ _ tt (tokens_at w seen.next) _ ((skips-seen ts a seen t h e).is w.text)
          (on _ _ z (tokens_at w c) _ (value-is ns ts ds given level sc k i w g) (ap (λ o. follow o (λ x. L x (seen_by w level) (under w sc))) d))

      fit_at : (s : Result (Value × ℕ) Refused) → q ≡ s → as_read (fitting seen.place (f z)) (tokens_at w c) ≡ value_outcome w.text ts s
      fit_at s d = fitted-outcome w.text ts seen.place c (f z) ∙ ap (value_outcome w.text ts) (sym j ∙ d)

      joined-unfit : (e : Refused) → q ≡ Err e → joined T f L seen.place (seen_by w level) (under w sc) (tokens_at w a) ≡ refused e.refusal e.place
      joined-unfit z d = joined-fit (refused z.refusal z.place) (fit_at _ d)

      joined-on : (u : Value) (o : ℕ) → q ≡ Ok (u, o) → joined T f L seen.place (seen_by w level) (under w sc) (tokens_at w a) ≡ L u (seen_by w level) (under w sc) (tokens_at w o)
      joined-on u o d = joined-fit (read u (tokens_at w o)) (fit_at _ d)

  -- ---- factors

  module _ (n : ℕ) where
    pub factors-start : LoopOn (factors_in n) ns ts ds given level sc at v 4096 at v
    unfolding token_limit
    factors-start = record { same = λ w g y. refl; valid = λ w g y. y }

    module _ (turns a : ℕ) (u : Value) (o : LoopOn (factors_in n) ns ts ds given level sc at v (4096 - turns) a u) where
      abbrev left : ℕ
      left = 4096 - turns

      pub factors-none : 4096 ≤ turns → Continues (factors_in n token_limit) ns ts ds given level sc at v (Ok (u, a))
      unfolding factors_in walk_factors
      factors-none h = loop-ends (factors_in n) left a u o (λ w. go left (omega arith) w)
        where
          go : (left : ℕ) → left ≤ 0 → (w : World ns ts ds given) → factors_in n left u (seen_by w level) (under w sc) (tokens_at w a) ≡ read u (tokens_at w a)
          go zero h w = refl
          go (suc left) h w = absurd (omega arith)

      module _ (t : Result Seen Refused) (m : turns < 4096) (h : Looks ts a t) where
        pub factors-wrong : (e : Refused) → t ≡ Err e → Continues (factors_in n token_limit) ns ts ds given level sc at v (Err e)
        unfolding factors_in walk_factors
        factors-wrong z e = loop-stops (factors_in n) left a u o z (Err z) refl (λ w g y. go left (omega arith) w)
          where
            go : (left : ℕ) → 0 < left → (w : World ns ts ds given) → factors_in n left u (seen_by w level) (under w sc) (tokens_at w a) ≡ refused z.refusal z.place
            go zero m w = absurd (omega arith)
            go (suc left) m w = stop _ _ z.refusal z.place (subst (Sees w.text ts a) e (h.sees w.text)).looks

        module _ (seen : Seen) (e : t ≡ Ok seen) where
          factors-turn : (c : Bool) → eqb seen.kind 42 ≡ c → (w : World ns ts ds given)
              → factors_in n left u (seen_by w level) (under w sc) (tokens_at w a) ≡ turn (primary_in n) (product_of u) (factors_in n (left - 1)) seen.place u (seen_by w level) (under w sc) c (tokens_at w a)
          unfolding factors_in walk_factors turn joined primary_in token
          factors-turn c i w = go left (omega arith)
            where
              go : (left : ℕ) → 0 < left → factors_in n left u (seen_by w level) (under w sc) (tokens_at w a) ≡ turn (primary_in n) (product_of u) (factors_in n (left - 1)) seen.place u (seen_by w level) (under w sc) c (tokens_at w a)
              go zero m = absurd (omega arith)
              go (suc left) m =
                  let d : suc left - 1 ≡ left = omega arith in
                  on _ _ (token w.text seen.kind seen.place seen.payload) (tokens_at w a) _ (look_is w.text ts a seen (subst (Sees w.text ts a) e (h.sees w.text)))
                  (ap (λ c. turn (primary_in n) (product_of u) (factors_in n left) seen.place u (seen_by w level) (under w sc) c (tokens_at w a)) (is-mark w.text seen.kind seen.place seen.payload 42 (omega arith) ∙ i)
                  ∙ ap (λ left. turn (primary_in n) (product_of u) (factors_in n left) seen.place u (seen_by w level) (under w sc) c (tokens_at w a)) (sym d))

          pub factors-end : (seen.kind ≡ 42 → ⊥) → Continues (factors_in n token_limit) ns ts ds given level sc at v (Ok (u, a))
          unfolding turn
          factors-end i = loop-ends (factors_in n) left a u o (factors-turn false (ne_eqb seen.kind 42 i))

          module _ (i : seen.kind ≡ 42) (r : Result (Value × ℕ) Refused) (f : Values (primary_in n) ns ts ds given level sc seen.next r) where
            to-joined : (w : World ns ts ds given) → factors_in n left u (seen_by w level) (under w sc) (tokens_at w a) ≡ joined (primary_in n) (product_of u) (factors_in n (left - 1)) seen.place (seen_by w level) (under w sc) (tokens_at w a)
            unfolding turn
            to-joined w = factors-turn true (eq-eqb seen.kind 42 i) w

            pub factors-refused : (e : Refused) → r ≡ Err e → Continues (factors_in n token_limit) ns ts ds given level sc at v r
            factors-refused y d = loop-stops (factors_in n) left a u o y r d (λ w g z. to-joined w ∙ joined-refused (primary_in n) a t h seen e r f (product_of u) (factors_in n (left - 1)) y d w g)

            module _ (z : Value) (c : ℕ) (d : r ≡ Ok (z, c)) (q : Result (Value × ℕ) Refused) (l : q ≡ fitted_at seen.place c (if_in_range u z (product_of u z))) where
              exact : World ns ts ds given → Small sc → Valid u → q ≡ fitted_at seen.place c (product_of u z)
              exact w g y = l ∙ ap (fitted_at seen.place c) (valid-both u z (product_of u z) y (value-valid ns ts ds given level sc f d w g))

              pub factors-unfit : (e : Refused) → q ≡ Err e → Continues (factors_in n token_limit) ns ts ds given level sc at v q
              factors-unfit y c' =
                  loop-stops (factors_in n) left a u o y q c' (λ w g y'. to-joined w ∙ joined-unfit (primary_in n) a t h seen e r f (product_of u) (factors_in n (left - 1)) z c d q w g (exact w g y') y c')

              pub factors-on : (s : Value) (c' : ℕ) → q ≡ Ok (s, c') → LoopOn (factors_in n) ns ts ds given level sc at v (4096 - (turns + 1)) c' s
              factors-on s c' d' =
                  subst (λ j. LoopOn (factors_in n) ns ts ds given level sc at v j c' s) (next_turn turns m)
                  (loop-on (factors_in n) left a u o (left - 1) c' s
                  (λ w g y'. to-joined w ∙ joined-on (primary_in n) a t h seen e r f (product_of u) (factors_in n (left - 1)) z c d q w g (exact w g y') s c' d')
                  (λ w g y'. subst ValidAnswer (sym (exact w g y') ∙ d') (fitted-valid seen.place c (product_of u z) (product-valid u z))))

  -- ---- summands

  module _ (n : ℕ) where
    pub summands-start : LoopOn (summands_in n) ns ts ds given level sc at v 4096 at v
    unfolding token_limit
    summands-start = record { same = λ w g y. refl; valid = λ w g y. y }

    module _ (turns a : ℕ) (u : Value) (o : LoopOn (summands_in n) ns ts ds given level sc at v (4096 - turns) a u) where
      abbrev rest : ℕ
      rest = 4096 - turns

      pub summands-none : 4096 ≤ turns → Continues (summands_in n token_limit) ns ts ds given level sc at v (Ok (u, a))
      unfolding summands_in walk_summands
      summands-none h = loop-ends (summands_in n) rest a u o (λ w. go rest (omega arith) w)
        where
          go : (rest : ℕ) → rest ≤ 0 → (w : World ns ts ds given) → summands_in n rest u (seen_by w level) (under w sc) (tokens_at w a) ≡ read u (tokens_at w a)
          go zero h w = refl
          go (suc rest) h w = absurd (omega arith)

      module _ (t : Result Seen Refused) (m : turns < 4096) (h : Looks ts a t) where
        pub summands-wrong : (e : Refused) → t ≡ Err e → Continues (summands_in n token_limit) ns ts ds given level sc at v (Err e)
        unfolding summands_in walk_summands
        summands-wrong z e = loop-stops (summands_in n) rest a u o z (Err z) refl (λ w g y. go rest (omega arith) w)
          where
            go : (rest : ℕ) → 0 < rest → (w : World ns ts ds given) → summands_in n rest u (seen_by w level) (under w sc) (tokens_at w a) ≡ refused z.refusal z.place
            go zero m w = absurd (omega arith)
            go (suc rest) m w = stop _ _ z.refusal z.place (subst (Sees w.text ts a) e (h.sees w.text)).looks

        module _ (seen : Seen) (e : t ≡ Ok seen) where
          -- the sum or the difference
          plus : Value → Option Value
          plus z = sum_of u (signed (eqb seen.kind 45) z)

          summands-turn : (c : Bool) → (eqb seen.kind 43 || eqb seen.kind 45) ≡ c → (w : World ns ts ds given)
              → summands_in n rest u (seen_by w level) (under w sc) (tokens_at w a) ≡ turn (term_in n) plus (summands_in n (rest - 1)) seen.place u (seen_by w level) (under w sc) c (tokens_at w a)
          unfolding summands_in walk_summands turn joined term_in token plus
          summands-turn c i w = go rest (omega arith)
            where
              sums : is_sum (token w.text seen.kind seen.place seen.payload) ≡ c
              sums = rw (is-mark w.text seen.kind seen.place seen.payload 43 (omega arith), is-mark w.text seen.kind seen.place seen.payload 45 (omega arith)) i

              go : (rest : ℕ) → 0 < rest → summands_in n rest u (seen_by w level) (under w sc) (tokens_at w a) ≡ turn (term_in n) plus (summands_in n (rest - 1)) seen.place u (seen_by w level) (under w sc) c (tokens_at w a)
              go zero m = absurd (omega arith)
              go (suc rest) m =
                  let d : suc rest - 1 ≡ rest = omega arith in
                  on _ _ (token w.text seen.kind seen.place seen.payload) (tokens_at w a) _ (look_is w.text ts a seen (subst (Sees w.text ts a) e (h.sees w.text)))
                  (ap (λ c. turn (term_in n) (λ z. sum_of u (signed (is_mark minus_sign (token w.text seen.kind seen.place seen.payload)) z)) (summands_in n rest) seen.place u (seen_by w level) (under w sc) c (tokens_at w a)) sums
                  ∙ ap (λ (m : Bool). turn (term_in n) (λ z. sum_of u (signed m z)) (summands_in n rest) seen.place u (seen_by w level) (under w sc) c (tokens_at w a)) (is-mark w.text seen.kind seen.place seen.payload 45 (omega arith))
                  ∙ ap (λ rest. turn (term_in n) plus (summands_in n rest) seen.place u (seen_by w level) (under w sc) c (tokens_at w a)) (sym d))

          pub summands-end : (eqb seen.kind 43 || eqb seen.kind 45) ≡ false → Continues (summands_in n token_limit) ns ts ds given level sc at v (Ok (u, a))
          unfolding turn
          summands-end i = loop-ends (summands_in n) rest a u o (summands-turn false i)

          module _ (i : (eqb seen.kind 43 || eqb seen.kind 45) ≡ true) (r : Result (Value × ℕ) Refused) (f : Values (term_in n) ns ts ds given level sc seen.next r) where
            to-sum : (w : World ns ts ds given) → summands_in n rest u (seen_by w level) (under w sc) (tokens_at w a) ≡ joined (term_in n) plus (summands_in n (rest - 1)) seen.place (seen_by w level) (under w sc) (tokens_at w a)
            unfolding turn
            to-sum w = summands-turn true i w

            pub summands-refused : (e : Refused) → r ≡ Err e → Continues (summands_in n token_limit) ns ts ds given level sc at v r
            summands-refused y d = loop-stops (summands_in n) rest a u o y r d (λ w g z. to-sum w ∙ joined-refused (term_in n) a t h seen e r f plus (summands_in n (rest - 1)) y d w g)

            module _ (z : Value) (c : ℕ) (d : r ≡ Ok (z, c)) (q : Result (Value × ℕ) Refused) (l : q ≡ fitted_at seen.place c (if_in_range u (signed_value (eqb seen.kind 45) z) (sum_of u (signed_value (eqb seen.kind 45) z)))) where
              exact-sum : World ns ts ds given → Small sc → Valid u → q ≡ fitted_at seen.place c (plus z)
              unfolding plus
              exact-sum w g y =
                  let y' = value-valid ns ts ds given level sc f d w g in
                  l ∙ ap (fitted_at seen.place c) (valid-both u (signed_value (eqb seen.kind 45) z) _ y (signed-valid (eqb seen.kind 45) z y') ∙ ap (sum_of u) (signed_is (eqb seen.kind 45) z y'))

              pub summands-unfit : (e : Refused) → q ≡ Err e → Continues (summands_in n token_limit) ns ts ds given level sc at v q
              summands-unfit y c' =
                  loop-stops (summands_in n) rest a u o y q c' (λ w g y'. to-sum w ∙ joined-unfit (term_in n) a t h seen e r f plus (summands_in n (rest - 1)) z c d q w g (exact-sum w g y') y c')

              pub summands-on : (s : Value) (c' : ℕ) → q ≡ Ok (s, c') → LoopOn (summands_in n) ns ts ds given level sc at v (4096 - (turns + 1)) c' s
              unfolding plus
              summands-on s c' d' =
                  subst (λ j. LoopOn (summands_in n) ns ts ds given level sc at v j c' s) (next_turn turns m)
                  (loop-on (summands_in n) rest a u o (rest - 1) c' s
                  (λ w g y'. to-sum w ∙ joined-on (term_in n) a t h seen e r f plus (summands_in n (rest - 1)) z c d q w g (exact-sum w g y') s c' d')
                  (λ w g y'. subst ValidAnswer (sym (exact-sum w g y') ∙ d') (fitted-valid seen.place c (plus z) (sum-valid u (signed (eqb seen.kind 45) z)))))
