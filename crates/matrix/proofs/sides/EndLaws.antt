-- Laws over plain variables for a right side and the floor behind it: their values, and the facts that are made with them.
use Rattle.std.specs.Prelude.{Err, Ok, Result, Option, Some, None}
use Rattle.rules.specs.declared.Refused.{Refused}
use mathlib.Core.Path.{◌≡◌, refl, sym, ◌∙◌, ap, subst}
use mathlib.Core.Bool.{Bool, true, false, not}
use mathlib.Core.List.{List, ◌∷◌, map}
use Prim.Native.Nat.{ℕ}
use borrow.Author.Tests.{not-true, not-false}
use Rattle.rules.specs.Limits.{nesting_limit}
use Rattle.value.specs.declared.Value.{Value}
use Rattle.lexer.specs.Text.{Token}
use Rattle.language.specs.Outcome.{Outcome, done, refused, ◌>>=◌}
use Rattle.language.specs.Syntax.{Formula, Formulas, Form, Spans, Relation, at_most, at_least, equal, between, bare, form}
use Rattle.language.specs.Reader.{as_read}
use Rattle.language.specs.Formulas.{formula_at}
use Rattle.language.specs.Scope as Evaluated
use Rattle.language.specs.Evaluation.{eval}
use Rattle.language.specs.Numbering.{Variable, Row, signed, variable_at, gathered, Fact, bound, row, flips, fact_of, floor_at}
use Rattle.language.specs.Model.{what_of}
use Rattle.onepass.specs.Walk.{skip}
use Rattle.onepass.proofs.Steps.{same_rest, what-as}
use Rattle.onepass.proofs.Walked.{walked}
use Rattle.tokens.specs.Stored.{from}
use Rattle.tokens.proofs.Tables.{false-true}
use Rattle.store.specs.Packed.{packed}
use Rattle.evaluator.specs.declared.steps.scope.Scope.{Scope}
use Rattle.evaluator.specs.Steps.Scopes.{Small}
use Rattle.evaluator.specs.Steps.Passing.{Skips}
use Rattle.evaluator.specs.Tables.{World}
use Rattle.evaluator.specs.Cycle.{formula_in, value_outcome, ValidAnswer, seen_by, under, tokens_at, Values}
use Rattle.constraints.specs.Rows.{has_floor}
use Rattle.rows.specs.Slots.{floor_word}
use Rattle.matrix.specs.Sides.Answers.{EndsAt, ends_of, EndsAre, fact_with}
use Rattle.store.specs.Table.{Table}

-- ---- what is made with both

-- h makes a fact of the right side
abbrev pub with_floor : (Value → Fact) → Outcome (Value × Option Value) → Outcome (Fact × Option Value)
with_floor h o = o >>= λ x. done (h x.0, x.1)

joined : (h : Value → Fact) (o : Outcome Value) (q : Outcome (Option Value))
    → ((o >>= λ v. done (h v)) >>= λ f. q >>= λ u. done (f, u)) ≡ with_floor h (o >>= λ v. q >>= λ u. done (v, u))
joined h (done v) (done u) = refl
joined h (done v) (refused n p) = refl
joined h (refused n p) q = refl

module _ (vs : List Variable) (e : Relation) (g : Formula) (s : Evaluated.Scope) where
  pub bare_ends : (i : ℕ) (d : Spans) (fs : Formulas) (p j : ℕ) → variable_at vs i d fs p s ≡ done j → fact_with vs (bare i d fs p) e g s ≡ with_floor (bound j) (ends_of g e s)
  unfolding fact_with fact_of ends_of
  bare_ends i d fs p j h = rw h (joined (bound j) (eval g s) (floor_at e s))

  pub form-ends : (f : Form) (cs : Row) → gathered vs f s ≡ done cs → fact_with vs (form f) e g s ≡ with_floor (λ v. row (map (signed (flips e)) cs) (signed (flips e) v)) (ends_of g e s)
  unfolding fact_with fact_of ends_of
  form-ends f cs h = rw h (joined (λ v. row (map (signed (flips e)) cs) (signed (flips e) v)) (eval g s) (floor_at e s))

-- ---- one formula

-- one token is skipped
behind : (s ts : List ℕ) (i j : ℕ) (t : Token) (l : List Token) → Skips ts i j → from s ts i ≡ t ∷ l → from s ts j ≡ l
unfolding skip
behind s ts i j t l k e = sym (same_rest (ap skip (sym e) ∙ k.is s))

no-floor : (e : Relation) (s : Evaluated.Scope) → has_floor e ≡ false → floor_at e s ≡ done None
unfolding floor_at
no-floor at_most s h = refl
no-floor at_least s h = refl
no-floor equal s h = refl
no-floor (between g) s h = absurd (false-true (sym h))

module _ (ns ts : List ℕ) (ds : Table) (given level : ℕ) (sc : Scope) where
  module _ (at : ℕ) (v : Result (Value × ℕ) Refused) (f : Values (formula_in nesting_limit) ns ts ds given level sc at v) (w : World ns ts ds given) (s : Small sc) where
    valid-at : (y : Result (Value × ℕ) Refused) → v ≡ y → ValidAnswer y
    valid-at y e = subst ValidAnswer e (f.valid w s)

    module _ (g : Formula) (rest : List Token) (h : formula_at (seen_by w level) nesting_limit (tokens_at w at) ≡ done (record { what = g; rest = rest })) where
      walk_is : (y : Result (Value × ℕ) Refused) → v ≡ y → as_read (eval g (under w sc)) rest ≡ value_outcome w.text ts y
      unfolding formula_in
      walk_is y e = sym (walked (seen_by w level) nesting_limit (tokens_at w at) g rest h (under w sc)) ∙ f.is w s ∙ ap (value_outcome w.text ts) e

      value-at : (y : Result (Value × ℕ) Refused) → v ≡ y → eval g (under w sc) ≡ what_of (value_outcome w.text ts y)
      value-at y e = sym (what-as (eval g (under w sc)) rest) ∙ ap what_of (walk_is y e)

      rest_at : (x : Value) (a : ℕ) → v ≡ Ok (x, a) → tokens_at w a ≡ rest
      rest_at x a e = sym (same_rest (ap (λ o. as_read o rest) (sym (value-at _ e)) ∙ walk_is _ e))

  -- ---- both

  module _ (floor : Bool) (at : ℕ) (v : Result (Value × ℕ) Refused) (f : Values (formula_in nesting_limit) ns ts ds given level sc at v) where
    pub ends-refused : (e : Refused) → v ≡ Err e → EndsAre floor ns ts ds given level sc at (Err e)
    unfolding ends_of
    ends-refused z e = record { is = λ w s g q b u. rw (value-at at v f w s g u.right.rest u.right.reads _ e) refl }

    module _ (x : Value) (a : ℕ) (e : v ≡ Ok (x, a)) where
      pub ends-alone : not floor ≡ true → EndsAre floor ns ts ds given level sc at (Ok (x, 0))
      unfolding ends_of floor_word
      ends-alone z =
          record {
            is = λ w s g q b u.
                record {
                  floor = None;
                  is = rw (value-at at v f w s g u.right.rest u.right.reads _ e, no-floor q (under w sc) (b ∙ not-true floor z)) refl;
                  word-is = refl;
                  valid = valid-at at v f w s _ e;
                  valid_floor = tt;
                };
          }

      module _ (z : not floor ≡ false) (b c : ℕ) (first : Skips ts a b) (second : Skips ts b c) (l : Result (Value × ℕ) Refused) (k : Values (formula_in nesting_limit) ns ts ds given level sc c l) where
        -- the floor's value, behind the right side and two signs
        low-at : (y : Result (Value × ℕ) Refused) → l ≡ y → (w : World ns ts ds given) → Small sc → (g : Formula) (q : Relation) → has_floor q ≡ floor → EndsAt w level at g q
            → floor_at q (under w sc) ≡ (what_of (value_outcome w.text ts y) >>= λ o. done (Some o))
        unfolding floor_at
        low-at y i w s g at_most h u = absurd (false-true (h ∙ not-false floor z))
        low-at y i w s g at_least h u = absurd (false-true (h ∙ not-false floor z))
        low-at y i w s g equal h u = absurd (false-true (h ∙ not-false floor z))
        low-at y i w s g (between t) h u =
            let fl = u.floor in
            let one = behind w.text ts a b fl.comma _ first (rest_at at v f w s g u.right.rest u.right.reads x a e ∙ fl.tokens) in
            let two = behind w.text ts b c fl.sign fl.formula second one in
            rw (value-at c l k w s t fl.rest (ap (formula_at (seen_by w level) nesting_limit) two ∙ fl.reads) y i) refl

        pub ends_low : (e : Refused) → l ≡ Err e → EndsAre floor ns ts ds given level sc at (Err e)
        unfolding ends_of
        ends_low z i = record { is = λ w s g q h u. rw (value-at at v f w s g u.right.rest u.right.reads _ e, low-at _ i w s g q h u) refl }

        pub ends-both : (y : Value) (d : ℕ) → l ≡ Ok (y, d) → (word : ℕ) → word ≡ packed y → EndsAre floor ns ts ds given level sc at (Ok (x, word))
        unfolding ends_of floor_word
        ends-both y d i word j =
            record {
              is = λ w s g q h u.
                  record {
                    floor = Some y;
                    is = rw (value-at at v f w s g u.right.rest u.right.reads _ e, low-at _ i w s g q h u) refl;
                    word-is = j;
                    valid = valid-at at v f w s _ e;
                    valid_floor = valid-at c l k w s _ i;
                  };
            }
