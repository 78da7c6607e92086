-- All value that evaluation gives is valid, and every number of a run or an element is small, where the literals and the
-- data are valid.
use Rattle.std.specs.Prelude.{Option, Some, None}
use mathlib.Core.Path.{◌≡◌, subst}
use mathlib.Core.Bool.{Bool, true, false, cond}
use mathlib.Core.List.{List, [], ◌∷◌}
use Prim.Native.Nat.{ℕ, ◌+◌}
use native.Mathlib.Omega.{arith}
use lib.Dec.{eqb}
use lib.IntN.{ℤ, pos, negsuc, nat_abs}
use lib.Signed.{◌≤ℤ◌}
use Rattle.rules.specs.declared.Refusal.TheVariants.{BadIndex, Missing}
use Rattle.value.specs.declared.Value.{Value}
use Rattle.rational.specs.Integer.{up, down}
use Rattle.rational.proofs.Integer.{le_parts}
use Rattle.value.specs.Decimal.{Valid, zero_value, sum_of, product_of, whole_of, floor_of, ceiling_of}
use Rattle.value.proofs.Operations.{sum-valid, product-valid, negate-valid, zero-valid, of_whole-valid}
use Rattle.value.proofs.Rounding.{floor-size, ceiling-size}
use Rattle.language.specs.Ranges.{range}
use Rattle.language.proofs.Ranges.{in-range}
use Rattle.language.specs.All.{All}
use Rattle.language.proofs.All.{in_all}
use Rattle.language.specs.Outcome.{Outcome, done}
use Rattle.language.proofs.Outcome.{after, after-some, after-whole, some_of, fits-of, done-injective, some-injective}
use Rattle.language.specs.Scope.{Binding, Scope, bind, unbound, bound_to}
use Rattle.language.specs.Syntax.{Formula, Formulas, Spans, datum, minus, plus, times, sum, point, span}
use Rattle.language.specs.Syntax
use Rattle.language.specs.Evaluation.{Limits, limits_of, whole_at, run_of, each, add_to, eval, eval_all, within, over}
use Rattle.language.specs.Literals.{AllFormula, AllFormulas, AllSpans}
use Rattle.language.proofs.LimitsRead.{limits-read}
use Rattle.language.proofs.Evaluated.{run-done}
use Rattle.language.specs.Valid.{Small, SmallElement, SmallBinding, ValidScope}

-- ---- whole values

pub small-whole : (v : Value) (k : ℤ) → Valid v → whole_of v ≡ Some k → Small k
unfolding whole_of
small-whole v k h e = go (eqb v.s 0) e
  where
    go : (t : Bool) → cond t (Some v.m) None ≡ Some k → Small k
    go true e = let same : v.m ≡ k = cc in subst Small same h.small
    go false e = cc

-- ---- rounded values

pub small-floor : (v : Value) → Valid v → Small (floor_of v)
small-floor v h = omega (arith, h.small, floor-size v)

pub small-ceiling : (v : Value) → Valid v → Small (ceiling_of v)
small-ceiling v h = omega (arith, h.small, ceiling-size v)

-- ---- runs

nat_abs-parts : (k : ℤ) → nat_abs k ≡ up k + down k
nat_abs-parts (pos n) = omega arith
nat_abs-parts (negsuc n) = omega arith

small-between : (a b k : ℤ) → Small a → Small b → a ≤ℤ k → k ≤ℤ b → Small k
small-between a b (pos n) ha hb l r = omega (arith, nat_abs-parts b, le_parts (pos n) b r)
small-between a b (negsuc n) ha hb l r = omega (arith, nat_abs-parts a, le_parts a (negsuc n) l)

range_small : (a b : ℤ) → Small a → Small b → SmallElement (range a b)
range_small a b ha hb = in_all Small (range a b) (λ k n. let h = in-range a b k n in small-between a b k ha hb h.0 h.1)

pub record SmallLimits (l : Limits) : Type 0 where
  pub lower : Small l.lower
  pub upper : Small l.upper

pub limits-small : (o q : Outcome Value) (l : Limits) → ((v : Value) → o ≡ done v → Valid v) → ((v : Value) → q ≡ done v → Valid v)
    → limits_of o q ≡ done l → SmallLimits l
limits-small o q l ho hq e =
    let d = limits-read o q l e in
    record {
      lower = subst Small d.low-is (small-ceiling d.low (ho d.low d.low-done));
      upper = subst Small d.high_is (small-floor d.high (hq d.high d.high-done));
    }

pub run_small : (l : Limits) (i : ℕ) (s : Scope) (p : ℕ) (ks : List ℤ) → SmallLimits l → run_of l i s p ≡ done ks → SmallElement ks
run_small l i s p ks h e = rw (run-done l i s p ks e) (range_small l.lower l.upper h.lower h.upper)

-- a property that each step of a run keeps
pub each_keeps : {A : Type 0} (P : A → Type 0) (f : ℤ → A → Outcome A) → ((k : ℤ) (a b : A) → Small k → P a → f k a ≡ done b → P b)
    → (ks : List ℤ) (a b : A) → SmallElement ks → P a → each f ks a ≡ done b → P b
unfolding each
each_keeps P f keeps [] a b h pa e = subst P (done-injective e) pa
each_keeps P f keeps (k ∷ ks) a b h pa e =
    after (f k a) _ b e λ c fc e.
    each_keeps P f keeps ks c b h.1 (keeps k a c h.0 pa fc) e

-- ---- scopes

pub bound-small : (i : ℕ) (l : List Binding) (k : ℤ) → All SmallBinding l → bound_to i l ≡ Some k → Small k
unfolding bound_to
bound-small i [] k h e = cc
bound-small i (b ∷ l) k h e = go (eqb i b.name) e (bound-small i l k h.1)
  where
    go : (t : Bool) → ◌≡◌ {A = Option ℤ} (elim t [ true ↦ Some b.at | false ↦ bound_to i l ]) (Some k) → (bound_to i l ≡ Some k → Small k) → Small k
    go true e ih = subst Small (some-injective e) h.0
    go false e ih = ih e

pub bind-valid : (i : ℕ) (k : ℤ) (s : Scope) → Small k → ValidScope s → ValidScope (bind i k s)
unfolding bind
bind-valid i k s hk h = record { known = h.known; bound = (hk, h.bound) }

pub unbound-valid : (s : Scope) → ValidScope s → ValidScope (unbound s)
unfolding unbound
unbound-valid s h = record { known = h.known; bound = tt }

-- ---- formulas and domains

pub eval-valid : (f : Formula) (s : Scope) (v : Value) → AllFormula Valid f → ValidScope s → eval f s ≡ done v → Valid v
unfolding eval
eval-valid (Syntax.literal u) s v a h e = subst Valid (done-injective e) a
eval-valid (Syntax.index i p) s v a h e =
    after-some BadIndex p (bound_to i s.bound) _ v e λ k b e.
    subst Valid (done-injective e) (of_whole-valid k (bound-small i s.bound k h.bound b))
eval-valid (datum i d fs p) s v a h e =
    after (eval_all fs s p) _ v e λ ks _ e.
    after (within d ks (unbound s) p) _ v e λ _ _ e.
    h.known i ks v (some_of Missing p (s.known i ks) v e)
eval-valid (minus f) s v a h e =
    after (eval f s) _ v e λ x fx e.
    subst Valid (done-injective e) (negate-valid x (eval-valid f s x a h fx))
eval-valid (plus f g p) s v a h e =
    after (eval f s) _ v e λ x _ e.
    after (eval g s) _ v e λ y _ e.
    sum-valid x y v (fits-of p (sum_of x y) v e)
eval-valid (times f g p) s v a h e =
    after (eval f s) _ v e λ x _ e.
    after (eval g s) _ v e λ y _ e.
    product-valid x y v (fits-of p (product_of x y) v e)
eval-valid (sum i f g b p) s v a h e =
    after (limits_of (eval f s) (eval g s)) _ v e λ l fg e.
    after (run_of l i s p) _ v e λ ks r e.
    each_keeps Valid (λ k u. add_to p u (eval b (bind i k s)))
    (λ k u w _ _ e. after (eval b (bind i k s)) _ w e λ x _ e. sum-valid u x w (fits-of p (sum_of u x) w e))
    ks zero_value v (run_small l i s p ks (limits-small (eval f s) (eval g s) l (λ u d. eval-valid f s u a.0 h d) (λ u d. eval-valid g s u a.1 h d) fg) r)
    zero-valid e

-- the run of an index between two formulas
pub run-valid : (f g : Formula) (i : ℕ) (s : Scope) (p : ℕ) (l : Limits) (ks : List ℤ) → AllFormula Valid f → AllFormula Valid g → ValidScope s
    → limits_of (eval f s) (eval g s) ≡ done l → run_of l i s p ≡ done ks → SmallElement ks
run-valid f g i s p l ks a b h e r =
    run_small l i s p ks (limits-small (eval f s) (eval g s) l (λ u d. eval-valid f s u a h d) (λ u d. eval-valid g s u b h d) e) r

pub eval_all-valid : (fs : Formulas) (s : Scope) (p : ℕ) (ks : List ℤ) → AllFormulas Valid fs → ValidScope s → eval_all fs s p ≡ done ks → SmallElement ks
unfolding eval_all whole_at
eval_all-valid Syntax.none s p ks a h e = subst SmallElement (done-injective e) tt
eval_all-valid (Syntax.more f fs) s p ks a h e =
    after (eval f s) _ ks e λ v fv e.
    after-whole p (whole_of v) _ ks e λ k vk e.
    after (eval_all fs s p) _ ks e λ l fl e.
    subst SmallElement (done-injective e) (small-whole v k (eval-valid f s v a.0 h fv) vk, eval_all-valid fs s p l a.1 h fl)

-- a property that the step at each element of a domain keeps: the scope there is valid and the element small
pub over-keeps : {A : Type 0} (P : A → Type 0) (d : Spans) (s : Scope) (f : Scope → List ℤ → A → Outcome A) → AllSpans Valid d → ValidScope s
    → ((t : Scope) (e : List ℤ) (a b : A) → ValidScope t → SmallElement e → P a → f t e a ≡ done b → P b)
    → (a b : A) → P a → over d s f a ≡ done b → P b
unfolding over
over-keeps P point s f v h keeps a b pa e = keeps s [] a b h tt pa e
over-keeps P (span i lower upper p d) s f v h keeps a b pa e =
    after (limits_of (eval lower s) (eval upper s)) _ b e λ l le e.
    after (run_of l i s p) _ b e λ ks r e.
    each_keeps P (λ k c. over d (bind i k s) (λ t x. f t (k ∷ x)) c)
    (λ k c c' hk pc e. over-keeps P d (bind i k s) (λ t x. f t (k ∷ x)) v.2 (bind-valid i k s hk h) (λ t x x' y ht hx px e. keeps t (k ∷ x) x' y ht (hk, hx) px e) c c' pc e)
    ks a b (run-valid lower upper i s p l ks v.0 v.1 h le r) pa e
