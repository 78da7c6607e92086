-- Laws over plain variables for a variable's coefficient, and for the run of a sigma.
use Rattle.std.specs.Prelude.{Err, Ok, Result}
use Rattle.rules.specs.declared.Refused.{Refused}
use Rattle.evaluator.specs.declared.steps.values.Limits.{Limits}
use mathlib.Core.Path.{◌≡◌, refl, sym, ◌∙◌, ap, subst}
use mathlib.Core.Bool.{Bool, true, false}
use mathlib.Core.List.{List}
use Prim.Native.Nat.{ℕ, ◌<◌, ◌≤◌}
use native.Mathlib.Omega.{arith}
use lib.ListN.{length}
use lib.IntN.{ℤ}
use Rattle.rules.specs.declared.Refusal.TheVariants.{Unfit, Full}
use Rattle.value.specs.declared.Value.{Value}
use Rattle.value.specs.Decimal.{Valid}
use Rattle.value.specs.Gathering.{Gathered}
use Rattle.language.specs.Syntax.{Spans}
use Rattle.language.specs.Reader.{as_read}
use Rattle.language.specs.Evaluation.{run_of}
use Rattle.language.specs.Numbering.{Row, signed, add_at}
use Rattle.onepass.specs.Walk.{walk_head}
use Rattle.onepass.specs.WalkLinear.{walk_number, walk_variable}
use Rattle.onepass.proofs.Steps.{on}
use Rattle.evaluator.specs.declared.steps.scope.Scope.{Scope}
use Rattle.evaluator.specs.declared.steps.values.Limits as code
use Rattle.evaluator.specs.Steps.Scopes.{Small}
use Rattle.evaluator.specs.Steps.Names.{head_outcome, Opens}
use Rattle.evaluator.specs.Steps.Values.{signed_value, limits_in, SmallLimits, run_outcome, run_answer, RunIs}
use Rattle.evaluator.proofs.steps.Numbers.{heads-of}
use Rattle.evaluator.proofs.steps.Runs.{run_is}
use Rattle.evaluator.specs.Tables.{World}
use Rattle.evaluator.specs.Cycle.{limits_walk, limits_outcome, SmallLimited, seen_by, under, tokens_at, LimitsAre}
use Rattle.evaluator.proofs.Laws.{stop, signed_is, signed-valid}
use Rattle.rows.specs.Counts.{RowOf}
use Rattle.gatherer.specs.Cycle.{Model, Declared, number_outcome, NumberIs, VariableIs, RunningIs}
use Rattle.gatherer.proofs.Forward.{head-shorter, limits-behind, length_from}
use Rattle.gatherer.proofs.Rows.{added, not-added}
use Rattle.store.specs.Table.{Table}

-- ---- a variable's coefficient

module _ (n i k q p : ℕ) (ns ts : List ℕ) (ds : Table) (given : ℕ) (xs : Table) (total level : ℕ) (sc : Scope) (at : ℕ) (c : Value) (m : Bool) (l : List ℤ) (y : Result (ℕ × ℕ) Refused) (h : NumberIs n i k q p ns ts ds given xs total level sc at y) where
  number_at : (z : Result (ℕ × ℕ) Refused) → y ≡ z → (w : Model ns ts ds given xs total) → Small sc → (d : Spans) → Declared w.world i d k q
      → walk_number w.variables (seen_by w.world level) n i d p (under w.world sc) (tokens_at w.world at) ≡ number_outcome w.world.text ts z
  number_at z e w g d x = h.is w g d x ∙ ap (number_outcome w.world.text ts) e

  pub variable-refused : (e : Refused) → y ≡ Err e → VariableIs n i k q p ns ts ds given xs total level sc at c m l (Err e) l
  unfolding walk_variable
  variable-refused z e = record { does = λ w g v s f d x. stop _ _ z.refusal z.place (number_at _ e w g d x) }

  module _ (j a : ℕ) (e : y ≡ Ok (j, a)) (v : Value) (f : v ≡ signed_value m c) (b : Bool) (l' : List ℤ) (g : Gathered l j v b l') where
    signed-as : Valid c → v ≡ signed m c
    signed-as u = f ∙ signed_is m c u ∙ go m
      where
        go : (m : Bool) → signed m c ≡ signed m c
        go true = refl
        go false = refl

    valid : Valid c → Valid v
    valid u = subst Valid (sym f) (signed-valid m c u)

    room : (w : Model ns ts ds given xs total) (r : Row) → RowOf w.variables l r → j < length r
    room w r x = omega (arith, h.below w j a e, w.held.count, x.count)

    pub variable-fits : b ≡ true → VariableIs n i k q p ns ts ds given xs total level sc at c m l (Ok a) l'
    unfolding walk_variable
    variable-fits t =
        record {
          does = λ w s u r x d z.
              let o = added l r x.row j v (room w r x) (valid u) l' p (subst (λ b. Gathered l j v b l') t g) in
              record {
                gathered = o.row;
                is = on _ _ j (tokens_at w.world a) _ (number_at _ e w s d z) (ap (λ o. as_read o (tokens_at w.world a)) (ap (λ v. add_at j v p r) (sym (signed-as u)) ∙ o.is));
                row = record { count = o.count ∙ x.count; row = o.same };
              };
        }

    pub variable-unfit : b ≡ false → VariableIs n i k q p ns ts ds given xs total level sc at c m l (Err (record { refusal = Unfit; place = p })) l'
    unfolding walk_variable
    variable-unfit t =
        record {
          does = λ w s u r x d z.
              on _ _ j (tokens_at w.world a) _ (number_at _ e w s d z)
              (ap (λ o. as_read o (tokens_at w.world a)) (ap (λ v. add_at j v p r) (sym (signed-as u)) ∙ not-added l r x.row j v (room w r x) (valid u) l' p (subst (λ b. Gathered l j v b l') t g)));
        }

-- ---- the run of a sigma

module _ (ns ts : List ℕ) (ds : Table) (given level : ℕ) (sc : Scope) (n p at : ℕ) (x : Result (ℕ × ℕ) Refused) (hd : Opens ts level at x) where
  head-is : (y : Result (ℕ × ℕ) Refused) → x ≡ y → (w : World ns ts ds given) → walk_head (seen_by w level) (tokens_at w at) ≡ head_outcome w.text ts y
  head-is y e w = (heads-of ts level at x hd).is w.text ns w.names w.tables.named w.tables.resolved ∙ ap (head_outcome w.text ts) e

  pub run-head : (e : Refused) → x ≡ Err e → RunningIs n p ns ts ds given level sc at (Err e)
  run-head y e = record { is = λ w g K. stop _ _ y.refusal y.place (head-is _ e w); ready = λ w g. tt; after = λ w e. absurd (let z : ◌≡◌ {A = ℕ} 0 1 = cc in omega arith) }

  module _ (i a : ℕ) (e : x ≡ Ok (i, a)) (y : Result (Limits × ℕ) Refused) (h : LimitsAre (limits_walk n) ns ts ds given level sc a y) where
    limits-at : (z : Result (Limits × ℕ) Refused) → y ≡ z → (w : World ns ts ds given) → Small sc → limits_walk n (seen_by w level) (under w sc) (tokens_at w a) ≡ limits_outcome w.text ts z
    limits-at z f w g = h.is w g ∙ ap (limits_outcome w.text ts) f

    pub run-limits : (e : Refused) → y ≡ Err e → RunningIs n p ns ts ds given level sc at (Err e)
    run-limits y f = record { is = λ w g K. on _ _ i (tokens_at w a) _ (head-is _ e w) (stop _ _ y.refusal y.place (limits-at _ f w g)); ready = λ w g. tt; after = λ w e. absurd (let z : ◌≡◌ {A = ℕ} 0 1 = cc in omega arith) }

    module _ (l : code.Limits) (b : ℕ) (f : y ≡ Ok (l, b)) (z : Result ℕ Refused) (told : z ≡ run_answer l i sc p) where
      k : RunIs l i sc p z
      k = run_is l i sc p z told

      small : World ns ts ds given → Small sc → SmallLimits l
      small w g = subst SmallLimited f (h.small w g)

      run_at : (c : Result ℕ Refused) → z ≡ c → (w : World ns ts ds given) → Small sc → run_of (limits_in l) i (under w sc) p ≡ run_outcome l c
      run_at c o w g = k.is (small w g) w.known ∙ ap (run_outcome l) o

      pub run-refused : (e : Refused) → z ≡ Err e → RunningIs n p ns ts ds given level sc at (Err e)
      run-refused y o =
          record {
            is = λ w g K.
                on _ _ i (tokens_at w a) _ (head-is _ e w)
                (on _ _ (limits_in l) (tokens_at w b) _ (limits-at _ f w g) (stop _ _ y.refusal y.place (ap (λ o. as_read o (tokens_at w b)) (run_at _ o w g))));
            ready = λ w g. tt;
            after = λ w e. absurd (let z : ◌≡◌ {A = ℕ} 0 1 = cc in omega arith);
          }

      -- a body that does not stand behind the word is none of any world
      pub run-back : b ≤ at → RunningIs n p ns ts ds given level sc at (Err (record { refusal = Full; place = 0 }))
      unfolding limits_walk
      run-back o = record { is = λ w g K. absurd (go w g); ready = λ w g. tt; after = λ w e. absurd (let z : ◌≡◌ {A = ℕ} 0 1 = cc in omega arith) }
        where
          go : World ns ts ds given → Small sc → ⊥
          go w g =
              let x = head-shorter (seen_by w level) (tokens_at w at) i (tokens_at w a) (head-is _ e w) in
              let y = limits-behind (seen_by w level) n (under w sc) (tokens_at w a) (limits_in l) (tokens_at w b) (limits-at _ f w g) in
              omega (arith, length_from w.text ts at, length_from w.text ts a, length_from w.text ts b)

      pub run-count : (c : ℕ) → z ≡ Ok c → at < b → RunningIs n p ns ts ds given level sc at (Ok (record { index = i; limits = l; count = c; body = b }))
      run-count c o u =
          record {
            is = λ w g K.
                on _ _ i (tokens_at w a) _ (head-is _ e w)
                (on _ _ (limits_in l) (tokens_at w b) _ (limits-at _ f w g)
                (on _ _ _ (tokens_at w b) _ (ap (λ o. as_read o (tokens_at w b)) (run_at _ o w g)) refl));
            ready = λ w g. record { small = small w g; count = k.count (small w g) c o; short = k.short c o; room = k.room c o };
            after = λ w e. let d : b ≡ w.body = cc in subst (λ a. at < a) d u;
          }
