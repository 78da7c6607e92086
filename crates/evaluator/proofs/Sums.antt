-- Laws over plain variables for a sum behind its word.
use Rattle.std.specs.Prelude.{Err, Ok, Result}
use Rattle.value.specs.declared.Value.{Value}
use Rattle.rules.specs.declared.Refused.{Refused}
use Rattle.evaluator.specs.declared.steps.values.Limits.{Limits}
use mathlib.Core.Path.{◌≡◌, ◌∙◌, ap, subst}
use mathlib.Core.List.{List}
use Prim.Native.Nat.{ℕ}
use Rattle.language.specs.Reader.{as_read}
use Rattle.language.specs.Evaluation.{run_of}
use Rattle.onepass.specs.Walk.{walk_head, walk_sum}
use Rattle.onepass.proofs.Steps.{on}
use Rattle.evaluator.specs.declared.steps.scope.Scope.{Scope as Held}
use Rattle.evaluator.specs.declared.steps.values.Limits as code
use Rattle.evaluator.specs.Steps.Scopes.{Small}
use Rattle.evaluator.specs.Steps.Names.{head_outcome, Opens}
use Rattle.evaluator.specs.Steps.Values.{limits_in, SmallLimits, run_outcome, run_answer, RunIs}
use Rattle.evaluator.proofs.steps.Numbers.{heads-of}
use Rattle.evaluator.proofs.steps.Runs.{run_is}
use Rattle.evaluator.specs.Tables.{World}
use Rattle.evaluator.specs.Cycle.{sum_in, limits_walk, limits_outcome, SmallLimited, seen_by, under, tokens_at, Values, LimitsAre, Ready, BodyIs}
use Rattle.evaluator.proofs.Laws.{stop}
use Rattle.store.specs.Table.{Table}

module _ (ns ts : List ℕ) (ds : Table) (given level : ℕ) (sc : Held) (n p at : ℕ) (x : Result (ℕ × ℕ) Refused) (hd : Opens ts level at x) where
  head-is : (y : Result (ℕ × ℕ) Refused) → x ≡ y → (w : World ns ts ds given) → walk_head (seen_by w level) (tokens_at w at) ≡ head_outcome w.text ts y
  head-is y e w = (heads-of ts level at x hd).is w.text ns w.names w.tables.named w.tables.resolved ∙ ap (head_outcome w.text ts) e

  pub sum_head : (e : Refused) → x ≡ Err e → Values (sum_in n p) ns ts ds given level sc at (Err e)
  unfolding sum_in walk_sum
  sum_head z e = record { is = λ w g. stop _ _ z.refusal z.place (head-is _ e w); valid = λ w g. tt }

  module _ (i a : ℕ) (e : x ≡ Ok (i, a)) (y : Result (Limits × ℕ) Refused) (h : LimitsAre (limits_walk n) ns ts ds given level sc a y) where
    limits-at : (z : Result (Limits × ℕ) Refused) → y ≡ z → (w : World ns ts ds given) → Small sc → limits_walk n (seen_by w level) (under w sc) (tokens_at w a) ≡ limits_outcome w.text ts z
    limits-at z f w g = h.is w g ∙ ap (limits_outcome w.text ts) f

    pub sum-limits : (e : Refused) → y ≡ Err e → Values (sum_in n p) ns ts ds given level sc at (Err e)
    unfolding sum_in walk_sum limits_walk
    sum-limits z f = record { is = λ w g. on _ _ i (tokens_at w a) _ (head-is _ e w) (stop _ _ z.refusal z.place (limits-at _ f w g)); valid = λ w g. tt }

    module _ (l : code.Limits) (b : ℕ) (f : y ≡ Ok (l, b)) (z : Result ℕ Refused) (told : z ≡ run_answer l i sc p) where
      k : RunIs l i sc p z
      k = run_is l i sc p z told

      small : World ns ts ds given → Small sc → SmallLimits l
      small w g = subst SmallLimited f (h.small w g)

      run_at : (c : Result ℕ Refused) → z ≡ c → (w : World ns ts ds given) → Small sc → run_of (limits_in l) i (under w sc) p ≡ run_outcome l c
      run_at c o w g = k.is (small w g) w.known ∙ ap (run_outcome l) o

      pub sum-run : (e : Refused) → z ≡ Err e → Values (sum_in n p) ns ts ds given level sc at (Err e)
      unfolding sum_in walk_sum limits_walk
      sum-run z o =
          record {
            is = λ w g.
                on _ _ i (tokens_at w a) _ (head-is _ e w)
                (on _ _ (limits_in l) (tokens_at w b) _ (limits-at _ f w g) (stop _ _ z.refusal z.place (ap (λ o. as_read o (tokens_at w b)) (run_at _ o w g))));
            valid = λ w g. tt;
          }

      pub sum_body : (c : ℕ) (r : Result (Value × ℕ) Refused) → z ≡ Ok c → BodyIs n i p ns ts ds given level sc b l c r → Values (sum_in n p) ns ts ds given level sc at r
      unfolding sum_in walk_sum limits_walk
      sum_body c r o j =
          record {
            is = λ w g.
                on _ _ i (tokens_at w a) _ (head-is _ e w)
                (on _ _ (limits_in l) (tokens_at w b) _ (limits-at _ f w g)
                (on _ _ _ (tokens_at w b) _ (ap (λ o. as_read o (tokens_at w b)) (run_at _ o w g)) (j.is w g (ready w g))));
            valid = λ w g. j.valid w g (ready w g);
          }
        where
          ready : World ns ts ds given → Small sc → Ready sc l c
          ready w g = record { small = small w g; count = k.count (small w g) c o; short = k.short c o; room = k.room c o }
