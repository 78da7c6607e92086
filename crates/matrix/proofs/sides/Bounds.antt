-- Laws over plain variables for a bound: the variable's number, the right side and the floor.
use Rattle.std.specs.Prelude.{Err, None, Ok, Option, Result, Some}
use Rattle.rules.specs.declared.Refused.{Refused}
use mathlib.Core.Path.{◌≡◌, refl, sym, ◌∙◌, ap, subst}
use mathlib.Core.Bool.{Bool, true, false, ◌&&◌, cond}
use mathlib.Core.List.{List}
use Prim.Native.Nat.{ℕ}
use native.Mathlib.Omega.{arith}
use lib.Dec.{eqb}
use Rattle.rules.specs.declared.Refusal.TheVariants.{Misplaced}
use Rattle.rules.specs.Limits.{nesting_limit}
use Rattle.value.specs.declared.Value.{Value}
use Rattle.lexer.specs.Marks.{sigma_word}
use Rattle.lexer.specs.Text.{Token, Kind}
use Rattle.lexer.specs.Text
use Rattle.language.proofs.Outcome.{refused-done}
use Rattle.language.specs.Syntax.{Name, Formula, Formulas, Spans, Relation, Side, bare, form}
use Rattle.language.specs.Reader.{as_read}
use Rattle.language.specs.Linear.{a_sigma, a_variable, a_primary, head_by}
use Rattle.language.specs.Numbering.{variable_at, bound, fact_of}
use Rattle.language.specs.Model.{what_of}
use Rattle.onepass.specs.WalkLinear.{walk_number}
use Rattle.onepass.proofs.Steps.{same-what, same_rest, what-as}
use Rattle.onepass.proofs.WalkedLinear.{Bare, bare-walk}
use Rattle.tokens.specs.declared.Seen.{Seen}
use Rattle.tokens.specs.Stored.{token, kind_of, Sees, Looks}
use Rattle.tokens.proofs.Moved.{next-is}
use Rattle.tokens.proofs.Tables.{false-true}
use Rattle.evaluator.specs.declared.steps.scope.Scope.{Scope}
use Rattle.evaluator.specs.declared.steps.names.Listed.{Listed}
use Rattle.evaluator.specs.Steps.Scopes.{Small}
use Rattle.evaluator.specs.Cycle.{seen_by, under, tokens_at}
use Rattle.constraints.specs.Rows.{is_bare, has_floor}
use Rattle.gatherer.specs.Cycle.{Model, number_outcome, NumberIs, Heads, variable_seen, Begins}
use Rattle.gatherer.proofs.Numbers.{begins-of}
use Rattle.matrix.specs.declared.sides.Bounded.{Bounded}
use Rattle.matrix.specs.Sides.Answers.{LeftAt, EndsAt, ends_of, EndsFound, EndsAre, NumberOf, fact_with, BoundFound, BoundIs}
use Rattle.constraints.proofs.SideLaws.{bare-side}
use Rattle.matrix.proofs.sides.EndLaws.{with_floor, bare_ends}
use Rattle.store.specs.Table.{Table}

module _ (ns ts : List ℕ) (ds : Table) (given : ℕ) (xs : Table) (total level : ℕ) (sc : Scope) where
  -- ---- the variable's number

  -- a variable, with sigmas and without
  no-mark : (names : List Name) (k : Kind) (i : ℕ) (d : Spans) → head_by names true k ≡ a_variable i d → head_by names false k ≡ a_variable i d
  unfolding head_by
  no-mark names (Text.mark c) i d e = absurd (go (eqb c sigma_word) e)
    where
      go : (b : Bool) → cond (true && b) a_sigma a_primary ≡ a_variable i d → ⊥
      go true e = let z : ◌≡◌ {A = ℕ} 0 1 = cc in omega arith
      go false e = let z : ◌≡◌ {A = ℕ} 0 1 = cc in omega arith
  no-mark names (Text.name l) i d e = e
  no-mark names (Text.literal w v) i d e = e
  no-mark names (Text.string l) i d e = e
  no-mark names Text.end i d e = e
  no-mark names (Text.wrong r) i d e = e

  -- the side's token and what stands behind it
  side-at : (w : Model ns ts ds given xs total) (at i : ℕ) (d : Spans) (fs : Formulas) (p : ℕ) (a : LeftAt w level at (bare i d fs p))
      → Bare w.variables (seen_by w.world level) nesting_limit i d fs p (tokens_at w.world at) a.stands.rest
  side-at w at i d fs p a =
      let (plain, one) = bare-side a.linear.signed a.linear.form i d fs p a.side in
      bare-walk w.variables (seen_by w.world level) i d fs p nesting_limit (tokens_at w.world at) a.linear a.stands.rest a.stands.reads plain one

  module _ (at : ℕ) (t : Result Seen Refused) (h : Looks ts at t) where
    pub of-wrong : (e : Refused) → t ≡ Err e → NumberOf ns ts ds given xs total level sc at (Err e)
    of-wrong y e =
        record {
          is = λ w g i d fs q a. absurd (refused-done (sym (subst (Sees w.world.text ts at) e (h.sees w.world.text)).nexts ∙ (side-at w at i d fs q a).stands));
          below = λ w j a z. absurd (let z : ◌≡◌ {A = ℕ} 0 1 = cc in omega arith);
        }

    module _ (here : Seen) (e : t ≡ Ok here) (l : Option Listed) (b : l ≡ variable_seen ns ts level at here.kind) where
      -- the token is the side's
      record Stood (w : Model ns ts ds given xs total) (i : ℕ) (d : Spans) (fs : Formulas) (q : ℕ) (y : Option Listed) : Type 0 where
        pub rest : List Token
        pub place : here.place ≡ q
        pub walks : walk_number w.variables (seen_by w.world level) nesting_limit i d q (under w.world sc) (tokens_at w.world here.next) ≡ as_read (variable_at w.variables i d fs q (under w.world sc)) rest
        pub heads : Heads w.world (a_variable i d) y

      stood : (w : Model ns ts ds given xs total) (i : ℕ) (d : Spans) (fs : Formulas) (q : ℕ) → LeftAt w level at (bare i d fs q) → (y : Option Listed) → l ≡ y → Stood w i d fs q y
      unfolding token
      stood w i d fs q z y f =
          let u = side-at w at i d fs q z in
          let s = w.world.text in
          let same = sym (next-is s ts at here (subst (Sees s ts at) e (h.sees s))) ∙ u.stands in
          record {
            rest = z.stands.rest;
            place = ap (λ (t : Token). t.place) (same-what same) ∙ u.at;
            walks = ap (walk_number w.variables (seen_by w.world level) nesting_limit i d q (under w.world sc)) (same_rest same) ∙ u.walks (under w.world sc);
            heads = subst (λ o. Heads w.world o y) (no-mark (seen_by w.world level) (kind_of s here.kind here.place here.payload) i d (ap (λ (t : Token). head_by (seen_by w.world level) true t.kind) (same-what same) ∙ u.begins))
                ((subst (Begins ns ts level at here.kind) f (begins-of ns ts level at here.kind l b)).heads here.place here.payload here.next (subst (Looks ts at) e h) false refl ds given w.world);
          }

      pub of-nothing : l ≡ None → NumberOf ns ts ds given xs total level sc at (Err (record { refusal = Misplaced; place = here.place }))
      of-nothing f =
          record {
            is = λ w g i d fs q z. absurd (let y = (stood w i d fs q z _ f).heads in let z : ◌≡◌ {A = ℕ} 0 1 = cc in omega arith);
            below = λ w j a z. absurd (let z : ◌≡◌ {A = ℕ} 0 1 = cc in omega arith);
          }

      pub of_number : (w : Listed) → l ≡ Some w → (y : Result (ℕ × ℕ) Refused) → NumberIs 12 w.number w.count w.start here.place ns ts ds given xs total level sc here.next y → NumberOf ns ts ds given xs total level sc at y
      unfolding nesting_limit
      of_number one f y o =
          record {
            is = λ w g i d fs r z.
                let u = stood w i d fs r z _ f in
                let (v, known) = u.heads in
                let (same, declared) = known in
                let vi : i ≡ one.number = cc in
                let vd : d ≡ v = cc in
                let n = sym u.walks ∙ ap (λ i. walk_number w.variables (seen_by w.world level) 12 i d r (under w.world sc) (tokens_at w.world here.next)) vi
                ∙ ap (λ d. walk_number w.variables (seen_by w.world level) 12 one.number d r (under w.world sc) (tokens_at w.world here.next)) vd
                ∙ ap (λ r. walk_number w.variables (seen_by w.world level) 12 one.number v r (under w.world sc) (tokens_at w.world here.next)) (sym u.place)
                ∙ o.is w g v declared in
                sym (what-as (variable_at w.variables i d fs r (under w.world sc)) u.rest) ∙ ap what_of n;
            below = o.below;
          }

  -- ---- a bound

  module _ (left right : ℕ) (floor : Bool) (y : Result (ℕ × ℕ) Refused) (h : NumberOf ns ts ds given xs total level sc left y) where
    -- by the variable's number
    by_number_lem : (z : Result (ℕ × ℕ) Refused) → y ≡ z → (r : Result Bounded Refused)
        → ((w : Model ns ts ds given xs total) → Small sc → (i : ℕ) (d : Spans) (fs : Formulas) (p : ℕ)
        → variable_at w.variables i d fs p (under w.world sc) ≡ what_of (number_outcome w.world.text ts z) → (g : Formula) (e : Relation) → has_floor e ≡ floor → EndsAt w.world level right g e
        → BoundFound total (fact_with w.variables (bare i d fs p) e g (under w.world sc)) r)
        → BoundIs floor ns ts ds given xs total level sc left right r
    by_number_lem z e r f = record { is = go }
      where
        go : (w : Model ns ts ds given xs total) → Small sc → (l : Side) → is_bare l ≡ true → LeftAt w level left l → (g : Formula) (o : Relation) → has_floor o ≡ floor → EndsAt w.world level right g o
            → BoundFound total (fact_with w.variables l o g (under w.world sc)) r
        go w s (form x) b a g o t u = absurd (false-true b)
        go w s (bare i d fs p) b a g o t u = f w s i d fs p (h.is w s i d fs p a ∙ ap (λ z. what_of (number_outcome w.world.text ts z)) e) g o t u

    pub bound-number : (e : Refused) → y ≡ Err e → BoundIs floor ns ts ds given xs total level sc left right (Err e)
    unfolding fact_with fact_of
    bound-number z e = by_number_lem _ e (Err z) (λ w s i d fs q n g o t u. rw n refl)

    module _ (j a : ℕ) (e : y ≡ Ok (j, a)) (v : Result (Value × ℕ) Refused) (f : EndsAre floor ns ts ds given level sc right v) where
      pub bound-side : (e : Refused) → v ≡ Err e → BoundIs floor ns ts ds given xs total level sc left right (Err e)
      bound-side z i =
          by_number_lem _ e (Err z) λ w s k d fs q n g o t u.
          bare_ends w.variables o g (under w.world sc) k d fs q j n
          ∙ ap (with_floor (bound j)) (subst (EndsFound (ends_of g o (under w.world sc))) i (f.is w.world s g o t u))

      pub bound-value : (x : Value) (word : ℕ) → v ≡ Ok (x, word) → BoundIs floor ns ts ds given xs total level sc left right (Ok (record { variable = j; right = x; floor = word }))
      bound-value x word i =
          by_number_lem _ e (Ok (record { variable = j; right = x; floor = word })) λ w s k d fs q n g o t u.
          let r = subst (EndsFound (ends_of g o (under w.world sc))) i (f.is w.world s g o t u) in
          record {
            floor = r.floor;
            is = bare_ends w.variables o g (under w.world sc) k d fs q j n ∙ ap (with_floor (bound j)) r.is;
            word-is = r.word-is;
            below = h.below w j a e;
            valid = r.valid;
            valid_floor = r.valid_floor;
          }
