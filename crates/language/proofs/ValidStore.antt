-- The store of the data holds valid values and small index numbers only, where its numbers are valid.
use Rattle.std.specs.Prelude.{Option, Some, None}
use mathlib.Core.Path.{◌≡◌, subst}
use mathlib.Core.Bool.{Bool, true, false, ◌&&◌}
use mathlib.Core.List.{List, [], ◌∷◌}
use Prim.Native.Nat.{ℕ, zero, suc}
use lib.Dec.{eqb, ltb}
use lib.ListN.{length}
use lib.IntN.{ℤ}
use Rattle.rules.specs.Limits.{data_limit}
use Rattle.rules.specs.declared.Refusal.TheVariants.{Missing, Full}
use Rattle.value.specs.declared.Value.{Value}
use Rattle.value.specs.Decimal.{Valid}
use Rattle.value.proofs.Operations.{zero-valid}
use Rattle.language.specs.All.{All}
use Rattle.language.specs.Outcome.{done}
use Rattle.language.proofs.Outcome.{after, after_check, done-injective, some-injective}
use Rattle.language.specs.Syntax.{Spans, point, span}
use Rattle.language.specs.Scope.{Scope, same_element}
use Rattle.language.specs.Evaluation.{limits_of, eval, within, is_none}
use Rattle.language.specs.Store.{Store, stored, scope_of, Portion, Bound, set_at, element_of, bind_if, position_run, whole_if, accept}
use Rattle.language.specs.Literals.{AllSpans}
use Rattle.language.specs.Valid.{Small, SmallElement, ValidScope, ValidStore}
use Rattle.language.proofs.Valid.{bind-valid, run-valid}

stored-valid : (st : Store) (i : ℕ) (e : List ℤ) (v : Value) → ValidStore st → stored st i e ≡ Some v → Valid v
unfolding stored
stored-valid [] i e v h k = cc
stored-valid (x ∷ st) i e v h k = go (eqb x.name i && same_element x.element e) k (stored-valid st i e v h.1)
  where
    go : (t : Bool) → ◌≡◌ {A = Option Value} (elim t [ true ↦ Some x.value | false ↦ stored st i e ]) (Some v) → (stored st i e ≡ Some v → Valid v) → Valid v
    go true k ih = subst Valid (some-injective k) h.0.value
    go false k ih = ih k

pub scope-valid : (st : Store) → ValidStore st → ValidScope (scope_of st)
unfolding scope_of
scope-valid st h = record { known = λ i e v k. stored-valid st i e v h k; bound = tt }

pub accept-valid : (x : Portion) (e : List ℤ) (p : ℕ) (v : Value) (st new : Store) → SmallElement e → Valid v → ValidStore st → accept x e p v st ≡ done new → ValidStore new
unfolding accept
accept-valid x e p v st new he hv h a =
    after (whole_if x.whole p v) _ new a λ _ _ a.
    after (within x.domain e (scope_of st) x.place) _ new a λ _ _ a.
    after_check Missing p (is_none (stored st x.name e)) _ new a λ _ a.
    after_check Full p (ltb (length st) data_limit) _ new a λ _ a.
    subst ValidStore (done-injective a) (record { value = hv; element = he }, h)

-- ---- positions

abbrev pub SmallIf : Option ℤ → Type 0
SmallIf None = Unit
SmallIf (Some k) = Small k

abbrev pub SmallBound : Bound → Type 0
SmallBound b = All SmallIf b

pub set_at-small : (j : ℕ) (k : ℤ) (b : Bound) → Small k → SmallBound b → SmallBound (set_at j k b)
unfolding set_at
set_at-small j k [] hk h = tt
set_at-small zero k (x ∷ b) hk h = (hk, h.1)
set_at-small (suc j) k (x ∷ b) hk h = (h.0, set_at-small j k b hk h.1)

pub element_of-small : (b : Bound) → SmallBound b → SmallElement (element_of b)
unfolding element_of
element_of-small [] h = tt
element_of-small (Some k ∷ b) h = (h.0, element_of-small b h.1)
element_of-small (None ∷ b) h = (zero-valid.small, element_of-small b h.1)

bind_if-valid : (i : ℕ) (x : Option ℤ) (s : Scope) → SmallIf x → ValidScope s → ValidScope (bind_if i x s)
bind_if-valid i None s hx h = h
bind_if-valid i (Some k) s hx h = bind-valid i k s hx h

pub position_run-valid : (d : Spans) (b : Bound) (j : ℕ) (s : Scope) (ks : List ℤ) → AllSpans Valid d → SmallBound b → ValidScope s → position_run d b j s ≡ done ks → SmallElement ks
unfolding position_run
position_run-valid point b j s ks a hb h e = subst SmallElement (done-injective e) tt
position_run-valid (span i f g p d) [] j s ks a hb h e = subst SmallElement (done-injective e) tt
position_run-valid (span i f g p d) (x ∷ b) zero s ks a hb h e =
    after (limits_of (eval f s) (eval g s)) _ ks e λ l fg e.
    run-valid f g i s p l ks a.0 a.1 h fg e
position_run-valid (span i f g p d) (x ∷ b) (suc j) s ks a hb h e =
    position_run-valid d b j (bind_if i x s) ks a.2 hb.1 (bind_if-valid i x s hb.0 h) e
