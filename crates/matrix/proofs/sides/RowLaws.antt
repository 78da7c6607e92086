-- Laws over plain variables for rows: gathered from zeros, both sides under the relation's sign.
use Rattle.std.specs.Prelude.{Err, Ok, Result}
use Rattle.rules.specs.declared.Refused.{Refused}
use mathlib.Core.Path.{◌≡◌, refl, sym, ◌∙◌, ap, subst}
use mathlib.Core.Bool.{Bool, true, false}
use mathlib.Core.List.{List, map}
use Prim.Native.Nat.{ℕ}
use native.Mathlib.Omega.{arith}
use lib.ListN.{length, replicate, length-map, length-replicate}
use lib.IntN.{ℤ, pos}
use Rattle.rules.specs.Limits.{nesting_limit, mantissa_limit, scale_limit}
use Rattle.value.specs.declared.Value.{Value}
use Rattle.value.specs.Decimal.{Valid, zero_value, one_value}
use Rattle.language.specs.Outcome.{done}
use Rattle.language.specs.Syntax.{Form, Formula, Relation, Side, bare, form}
use Rattle.language.specs.Reader.{as_read}
use Rattle.language.specs.Linear.{Linear}
use Rattle.language.specs.Numbering.{signed, gathered, row, flips, fact_of}
use Rattle.language.specs.Model.{what_of}
use Rattle.onepass.proofs.Steps.{what-as}
use Rattle.onepass.proofs.WalkedLinear.{gathered-walk}
use Rattle.tokens.proofs.Tables.{false-true}
use Rattle.evaluator.specs.declared.steps.scope.Scope.{Scope}
use Rattle.evaluator.specs.Steps.Scopes.{Small}
use Rattle.evaluator.specs.Steps.Values.{signed_value}
use Rattle.evaluator.specs.Cycle.{seen_by, under, tokens_at}
use Rattle.evaluator.proofs.Laws.{signed_is, signed-valid}
use Rattle.constraints.specs.Rows.{is_bare, has_floor}
use Rattle.rows.specs.Counts.{RowOf, opposed}
use Rattle.rows.proofs.Counting.{zeros_of, of-negated, of-kept}
use Rattle.gatherer.specs.Cycle.{gather_in, Model, Does, Gathers}
use Rattle.matrix.specs.Sides.Answers.{LeftAt, FormAt, EndsAt, ends_of, EndsFound, EndsAre, fact_with, as_is, Holds, GathersTo, Turns, Rowed, RightIs}
use Rattle.constraints.proofs.SideLaws.{form-side}
use Rattle.matrix.proofs.sides.EndLaws.{with_floor, form-ends}
use Rattle.store.specs.Table.{Table}

-- ---- a sign before each coefficient

pub turn-negated : (b : Bool) (m m' : List ℤ) → b ≡ true → m' ≡ map opposed m → Turns b m m'
turn-negated false m m' e f = absurd (false-true e)
turn-negated true m m' e f = rw f (record { size = length-map m opposed; of = λ vs r h. of-negated vs m r h })

pub turn-kept : (b : Bool) (m : List ℤ) → b ≡ false → Turns b m m
turn-kept false m e = record { size = refl; of = λ vs r h. of-kept vs m r h }
turn-kept true m e = absurd (false-true (sym e))

-- ---- a row from zeros

one-valid : Valid one_value
unfolding mantissa_limit scale_limit
one-valid = record { small = omega arith; places = omega arith; least = λ h. absurd (omega arith) }

module _ (ns ts : List ℕ) (ds : Table) (given : ℕ) (xs : Table) (total level : ℕ) (sc : Scope) where
  module _ (at : ℕ) (m m₀ : List ℤ) (e : m₀ ≡ replicate (length m) (pos 0)) (z : Result ℕ Refused) (m' : List ℤ) (h : Gathers (gather_in nesting_limit) ns ts ds given xs total level sc at one_value false m₀ z m') (s : length m' ≡ length m₀) where
    same_size : length m' ≡ length m
    same_size = s ∙ ap (λ (l : List ℤ). length l) e ∙ length-replicate (length m) (pos 0)

    zeros : (w : Model ns ts ds given xs total) → length m ≡ total → RowOf w.variables m₀ (replicate (length w.variables) zero_value)
    zeros w f = subst (λ l. RowOf w.variables l (replicate (length w.variables) zero_value)) (sym (e ∙ ap (λ n. replicate n (pos 0)) (f ∙ w.held.count))) (zeros_of w.variables)

    does : (y : Result ℕ Refused) → z ≡ y → (w : Model ns ts ds given xs total) → Small sc → length m ≡ total → (x : Linear) (a : FormAt w level at x)
        → Does w.world.text ts w.variables (as_read (gathered w.variables x.form (under w.world sc)) a.rest) y m'
    unfolding gather_in gathered
    does y o w g f x a =
        subst (λ y. Does w.world.text ts w.variables (as_read (gathered w.variables x.form (under w.world sc)) a.rest) y m') o
        (subst (λ q. Does w.world.text ts w.variables q z m')
        (gathered-walk w.variables (seen_by w.world level) nesting_limit (tokens_at w.world at) x a.rest a.reads (under w.world sc) one_value false (replicate (length w.variables) zero_value))
        (h.does w g one-valid (replicate (length w.variables) zero_value) (zeros w f)))

    pub gather-done : (a : ℕ) → z ≡ Ok a → GathersTo as_is ns ts ds given xs total level sc at m (Ok tt) m'
    gather-done a o =
        record {
          size = same_size;
          is = λ w g f x b.
              let d = does _ o w g f x b in
              record {
                coefficients = d.gathered;
                is = sym (what-as (gathered w.variables x.form (under w.world sc)) b.rest) ∙ ap what_of d.is;
                counts = d.row;
              };
        }

    pub gather-refused : (e : Refused) → z ≡ Err e → GathersTo as_is ns ts ds given xs total level sc at m (Err e) m'
    gather-refused z o =
        record { size = same_size; is = λ w g f x b. sym (what-as (gathered w.variables x.form (under w.world sc)) b.rest) ∙ ap what_of (does _ o w g f x b) }

  -- ---- an objective

  module _ (at : ℕ) (b : Bool) (m m₁ : List ℤ) (y : Result Unit Refused) (h : GathersTo as_is ns ts ds given xs total level sc at m y m₁) where
    pub objective-refused : (e : Refused) → y ≡ Err e → GathersTo (map (signed b)) ns ts ds given xs total level sc at m (Err e) m₁
    objective-refused z e = record { size = h.size; is = λ w g f x a. subst (λ y. Holds w.variables as_is (gathered w.variables x.form (under w.world sc)) y m₁) e (h.is w g f x a) }

    pub objective-row : y ≡ Ok tt → (m₂ : List ℤ) → Turns b m₁ m₂ → GathersTo (map (signed b)) ns ts ds given xs total level sc at m (Ok tt) m₂
    objective-row e m₂ t =
        record {
          size = t.size ∙ h.size;
          is = λ w g f x a.
              let o = subst (λ y. Holds w.variables as_is (gathered w.variables x.form (under w.world sc)) y m₁) e (h.is w g f x a) in
              record { coefficients = o.coefficients; is = o.is; counts = t.of w.variables o.coefficients o.counts };
        }

  -- ---- a constraint's row

  module _ (left at : ℕ) (b floor : Bool) (m m₁ : List ℤ) (y : Result Unit Refused) (h : GathersTo as_is ns ts ds given xs total level sc left m y m₁) where
    -- by the form's row
    by_form : (z : Result Unit Refused) → y ≡ z → (q : Result (Value × ℕ) Refused) (m₂ : List ℤ) → length m₂ ≡ length m₁
        → ((w : Model ns ts ds given xs total) → Small sc → (f : Form) → Holds w.variables as_is (gathered w.variables f (under w.world sc)) z m₁ → (g : Formula) (e : Relation) → flips e ≡ b
        → has_floor e ≡ floor → EndsAt w.world level at g e → Rowed w.variables (fact_with w.variables (form f) e g (under w.world sc)) q m₂)
        → RightIs b floor ns ts ds given xs total level sc left at m q m₂
    by_form z e q m₂ s k = record { size = s ∙ h.size; is = go }
      where
        go : (w : Model ns ts ds given xs total) → Small sc → length m ≡ total → (l : Side) → is_bare l ≡ false → LeftAt w level left l → (g : Formula) (o : Relation) → flips o ≡ b → has_floor o ≡ floor
            → EndsAt w.world level at g o → Rowed w.variables (fact_with w.variables l o g (under w.world sc)) q m₂
        go w s f (bare i d fs p) n a g o t r u = absurd (false-true (sym n))
        go w s f (form x) n a g o t r u =
            k w s x
            (subst (λ x. Holds w.variables as_is (gathered w.variables x (under w.world sc)) z m₁) (form-side a.linear.signed a.linear.form x a.side)
            (subst (λ z. Holds w.variables as_is (gathered w.variables a.linear.form (under w.world sc)) z m₁) e (h.is w s f a.linear a.stands)))
            g o t r u

    pub row-form : (e : Refused) → y ≡ Err e → RightIs b floor ns ts ds given xs total level sc left at m (Err e) m₁
    unfolding fact_with fact_of
    row-form z e = by_form _ e (Err z) m₁ refl (λ w s f c g o t n u. rw c refl)

    module _ (e : y ≡ Ok tt) (m₂ : List ℤ) (t : Turns b m₁ m₂) (v : Result (Value × ℕ) Refused) (f : EndsAre floor ns ts ds given level sc at v) where
      pub row-side : (e : Refused) → v ≡ Err e → RightIs b floor ns ts ds given xs total level sc left at m (Err e) m₂
      row-side z i =
          by_form _ e (Err z) m₂ t.size λ w s x c g o n l u.
          form-ends w.variables o g (under w.world sc) x c.coefficients c.is
          ∙ ap (with_floor _) (subst (EndsFound (ends_of g o (under w.world sc))) i (f.is w.world s g o l u))

      pub row-value : (x : Value) (word : ℕ) → v ≡ Ok (x, word) → (q : Value) → q ≡ signed_value b x → RightIs b floor ns ts ds given xs total level sc left at m (Ok (q, word)) m₂
      row-value x word i q j =
          by_form _ e (Ok (q, word)) m₂ t.size λ w s z c g o n l u.
          let r = subst (EndsFound (ends_of g o (under w.world sc))) i (f.is w.world s g o l u) in
          record {
            coefficients = map (signed b) c.coefficients;
            floor = r.floor;
            is = form-ends w.variables o g (under w.world sc) z c.coefficients c.is ∙ ap (with_floor _) r.is
                ∙ ap (λ b. done (row (map (signed b) c.coefficients) (signed b x), r.floor)) n
                ∙ ap (λ v. done (row (map (signed b) c.coefficients) v, r.floor)) (sym (j ∙ signed_is b x r.valid));
            word-is = r.word-is;
            counts = t.of w.variables c.coefficients c.counts;
            valid = subst Valid (sym j) (signed-valid b x r.valid);
            valid_floor = r.valid_floor;
          }
