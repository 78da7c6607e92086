-- Where evaluation gives a value, it is the written value: the first half of demand 3's theorem, over these trees.
use mathlib.Core.Path.{◌≡◌, sym, ◌∙◌, ap}
use mathlib.Core.Logic.{◌↔◌}
use mathlib.Core.List.{List, [], ◌∷◌}
use Prim.Native.Nat.{ℕ}
use lib.Dec.{leb}
use lib.IntN.{ℤ, pos, ◌+ℤ◌}
use lib.Signed.{◌≤ℤ◌}
use Rattle.value.specs.Number.{exactly}
use Rattle.language.specs.Listed.{In}
use Rattle.language.specs.Ranges.{range}
use Rattle.language.proofs.Ranges.{in-range, range-in}
use Rattle.value.specs.Rational.{ℚ, ◌⊕◌, neg, whole, floor, ceiling, ◌⊑◌}
use Rattle.value.proofs.Rational.{floor-whole, floor-is, ceiling-is, add-zero, zero-add, add_assoc}
use Rattle.rules.specs.declared.Refusal.TheVariants.{BadIndex, NotWhole, Missing}
use Rattle.language.specs.Outcome.{Outcome, done}
use Rattle.language.proofs.Outcome.{fits-of, after-whole, after, after-some, after_check, some_of, done-injective}
use Rattle.rules.specs.Limits.{run_limit}
use Rattle.value.specs.declared.Value.{Value}
use Rattle.value.specs.Decimal.{zero_value, sum_of, product_of, whole_of}
use Rattle.language.specs.Scope.{Scope, bind, unbound, bound_to}
use Rattle.language.specs.Syntax.{Formula, Formulas, datum, minus, plus, times, sum}
use Rattle.language.specs.Syntax
use Rattle.language.specs.Evaluation.{Limits, limits_of, whole_at, length_of, run_of, fresh, each, add_to, eval, eval_all, within}
use Rattle.language.specs.Written.{value, subscripts, sum_over, run_between, whole_or0, value_or0}
use Rattle.language.specs.Demand3.{Rising, Run}
use Rattle.language.proofs.Ordered.{rising-range}
use Rattle.language.proofs.LimitsRead.{limits-read}
use Rattle.value.proofs.Rounding.{floor-exactly, ceiling-exactly}
use Rattle.value.proofs.Numbers.{exactly-whole, exactly-zero, exactly-negate, exactly-whole_of, exactly-add, exactly-mul}

-- ---- limits and runs

pub run-done : (l : Limits) (i : ℕ) (s : Scope) (p : ℕ) (ks : List ℤ) → run_of l i s p ≡ done ks → ks ≡ range l.lower l.upper
unfolding run_of length_of
run-done l i s p ks e =
    after_check NotWhole p (leb (length_of l) run_limit) _ ks e λ _ e.
    after (fresh i s p) _ ks e λ _ _ e.
    sym (done-injective e)

-- the run that is read is the run between the written limits
pub run-written : {f g : ℚ} (o q : Outcome Value) (l : Limits) (i : ℕ) (s : Scope) (p : ℕ) (ks : List ℤ) → ((v : Value) → o ≡ done v → f ≡ exactly v)
    → ((v : Value) → q ≡ done v → g ≡ exactly v) → limits_of o q ≡ done l → run_of l i s p ≡ done ks → run_between f g ≡ ks
unfolding run_between
run-written {f} {g} o q l i s p ks fo gq e r =
    let d = limits-read o q l e in
    let a : ceiling f ≡ l.lower = ap ceiling (fo d.low d.low-done) ∙ ceiling-exactly d.low ∙ d.low-is in
    let b : floor g ≡ l.upper = ap floor (gq d.high d.high-done) ∙ floor-exactly d.high ∙ d.high_is in
    rw (a, b) (sym (run-done l i s p ks r))

-- ---- the run between two written limits, as the text says it

-- it goes through exactly the whole numbers that are neither below the lower limit nor above the upper one
pub run-between : (p q : ℚ) (k : ℤ) → In (run_between p q) k ↔ ((p ⊑ whole k) × (whole k ⊑ q))
unfolding run_between
run-between p q k = (
  λ h. let r = in-range (ceiling p) (floor q) k h in ((ceiling-is p k).1 r.0, (floor-is q k).1 r.1),
  λ b. range-in (ceiling p) (floor q) k ((ceiling-is p k).0 b.0) ((floor-is q k).0 b.1),
)

-- rising, so through each of them once
pub run-rising : (p q : ℚ) → Rising (λ j k. (j +ℤ pos 1) ≤ℤ k) (run_between p q)
unfolding run_between
run-rising p q = rising-range (ceiling p) (floor q)

pub run-through : (p q : ℚ) → Run p q (run_between p q)
run-through p q = record { between = run-between p q; rising = run-rising p q }

-- ---- formulas

-- the partial sums of a `SUM`
total-done : (f : ℤ → Outcome Value) (g : ℤ → ℚ) (p : ℕ) → ((k : ℤ) (v : Value) → f k ≡ done v → g k ≡ exactly v)
    → (ks : List ℤ) (v w : Value) → each (λ k u. add_to p u (f k)) ks v ≡ done w → exactly w ≡ exactly v ⊕ sum_over g ks
unfolding each sum_over
total-done f g p fg [] v w e = ap exactly (sym (done-injective e)) ∙ sym (add-zero (exactly v))
total-done f g p fg (k ∷ ks) v w e =
    after (add_to p v (f k)) _ w e λ u vu e.
    after (f k) _ u vu λ x fk vx.
    total-done f g p fg ks u w e
    ∙ ap (λ q. q ⊕ sum_over g ks) (exactly-add v x u (fits-of p (sum_of v x) u vx) ∙ ap (λ q. exactly v ⊕ q) (sym (fg k x fk)))
    ∙ add_assoc (exactly v) (g k) (sum_over g ks)

mutual
  unfolding eval value whole_or0 value_or0 whole_at

  pub eval-done : (f : Formula) (s : Scope) (v : Value) → eval f s ≡ done v → value f s ≡ exactly v
  eval-done (Syntax.literal u) s v e = ap exactly (done-injective e)
  eval-done (Syntax.index i p) s v e =
      after-some BadIndex p (bound_to i s.bound) _ v e λ k b e.
      rw (b, ← (done-injective e)) (sym (exactly-whole k))
  eval-done (datum i d fs p) s v e =
      after (eval_all fs s p) _ v e λ ks fk e.
      after (within d ks (unbound s) p) _ v e λ _ _ e.
      rw (eval_all-done fs s p ks fk, some_of Missing p (s.known i ks) v e)
  eval-done (minus f) s v e =
      after (eval f s) _ v e λ x fx e.
      ap neg (eval-done f s x fx) ∙ sym (exactly-negate x) ∙ ap exactly (done-injective e)
  eval-done (plus f g p) s v e =
      after (eval f s) _ v e λ x fx e.
      after (eval g s) _ v e λ y gy e.
      rw (eval-done f s x fx, eval-done g s y gy) (sym (exactly-add x y v (fits-of p (sum_of x y) v e)))
  eval-done (times f g p) s v e =
      after (eval f s) _ v e λ x fx e.
      after (eval g s) _ v e λ y gy e.
      rw (eval-done f s x fx, eval-done g s y gy) (sym (exactly-mul x y v (fits-of p (product_of x y) v e)))
  eval-done (sum i f g h p) s v e =
      after (limits_of (eval f s) (eval g s)) _ v e λ l fg e.
      after (run_of l i s p) _ v e λ ks r e.
      rw (run-written (eval f s) (eval g s) l i s p ks (λ u d. eval-done f s u d) (λ u d. eval-done g s u d) fg r)
      (sym (total-done (λ k. eval h (bind i k s)) (λ k. value h (bind i k s)) p (λ k u d. eval-done h (bind i k s) u d) ks zero_value v e
      ∙ rw exactly-zero (zero-add (sum_over (λ k. value h (bind i k s)) ks))))

  pub eval_all-done : (fs : Formulas) (s : Scope) (p : ℕ) (ks : List ℤ) → eval_all fs s p ≡ done ks → subscripts fs s ≡ ks
  eval_all-done Syntax.none s p ks e = done-injective e
  eval_all-done (Syntax.more f fs) s p ks e =
      after (eval f s) _ ks e λ x fx e.
      after-whole p (whole_of x) _ ks e λ k xk e.
      after (eval_all fs s p) _ ks e λ l fl e.
      rw (eval-done f s x fx, exactly-whole_of x k xk, floor-whole, eval_all-done fs s p l fl) (done-injective e)
