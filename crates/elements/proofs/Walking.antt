-- Laws of the iterator over a domain, for a caller's loop: what is to come when it starts, what a call has given, and what is to come
-- behind an element.
use Rattle.std.specs.Prelude.{Err, None, Ok, Option, Result, Some}
use mathlib.Core.Path.{◌≡◌, refl, sym, ◌∙◌, ap, subst, subst₂}
use mathlib.Core.Bool.{false}
use mathlib.Core.List.{List}
use Prim.Native.Nat.{ℕ}
use native.Mathlib.Omega.{arith}
use Rattle.rules.specs.declared.Refused.{Refused}
use Rattle.evaluator.specs.declared.Stored.{Stored}
use Rattle.evaluator.specs.declared.Context.{Context}
use Rattle.evaluator.specs.Context.{Over}
use Rattle.store.specs.Table.{Table}
use Rattle.elements.specs.declared.here.Here.{Here}
use Rattle.elements.specs.declared.walk.Walk.{Walk}
use Rattle.elements.specs.Steps.{FirstIs, NextIs}
use Rattle.elements.specs.Walk.{Comes, ToCome, item_of, Gives}

-- the iterator reads what is stored, with the first `level` names
pub record Reads (st : Stored) (n : ℕ) (w : Walk) : Type 0 where
  pub stored : w.cx.stored ≡ st
  pub level : w.cx.level ≡ n

pub reads-start : (c : Context) (v w : Walk) → w ≡ v → v.cx ≡ c → Reads c.stored c.level w
reads-start c v w e f = let g : w.cx ≡ c = ap (λ (w : Walk). w.cx) e ∙ f in record { stored = ap (λ (c : Context). c.stored) g; level = ap (λ (c : Context). c.level) g }

-- at the start the first element is to come
pub comes-first : (ns ts : List ℕ) (ds : Table) (given level count at : ℕ) (v w : Walk) → w ≡ v → v.given ≡ false → FirstIs ns ts ds given level count at v.step
    → (x : Result (Option Here) Refused) → ToCome w x → FirstIs ns ts ds given level count at x
comes-first ns ts ds given level count at v w e f first x k =
    subst (FirstIs ns ts ds given level count at) (sym (subst (λ b. Comes v.cx b v.step x) f (subst (λ w. ToCome w x) e k))) first

-- ---- an item tells what it is of
nothing : (s : Result (Option Here) Refused) → None ≡ item_of s → s ≡ Ok None
nothing (Ok (Some g)) p = absurd (let w : ◌≡◌ {A = ℕ} 0 1 = cc in omega arith)
nothing (Ok None) p = refl
nothing (Err e) p = absurd (let w : ◌≡◌ {A = ℕ} 0 1 = cc in omega arith)

refusal : (e : Refused) (s : Result (Option Here) Refused) → Some (Err e) ≡ item_of s → s ≡ Err e
refusal e (Ok (Some g)) p = absurd (let w : ◌≡◌ {A = ℕ} 0 1 = cc in omega arith)
refusal e (Ok None) p = absurd (let w : ◌≡◌ {A = ℕ} 0 1 = cc in omega arith)
refusal e (Err d) p = let q : d ≡ e = cc in rw q refl

element : (h : Here) (s : Result (Option Here) Refused) → Some (Ok h) ≡ item_of s → s ≡ Ok (Some h)
element h (Ok (Some g)) p = let q : g ≡ h = cc in rw q refl
element h (Ok None) p = absurd (let w : ◌≡◌ {A = ℕ} 0 1 = cc in omega arith)
element h (Err e) p = absurd (let w : ◌≡◌ {A = ℕ} 0 1 = cc in omega arith)

module _ (s : Walk) (r : Option (Result Here Refused)) (t : Walk) (g : Gives s r t) where
  pub gave-none : r ≡ None → t.step ≡ Ok None
  gave-none e = nothing t.step (sym e ∙ g.gives)

  pub reads-on : (st : Stored) (level : ℕ) → Reads st level s → Reads st level t
  reads-on st level w = record { stored = ap (λ (c : Context). c.stored) g.same ∙ w.stored; level = ap (λ (c : Context). c.level) g.same ∙ w.level }

  module _ (i : Result Here Refused) (e : r ≡ Some i) where
    pub gave-err : (d : Refused) → i ≡ Err d → t.step ≡ Err d
    gave-err d f = refusal d t.step (sym (e ∙ ap Some f) ∙ g.gives)

    module _ (h : Here) (f : i ≡ Ok h) where
      pub gave-some : t.step ≡ Ok (Some h)
      gave-some = element h t.step (sym (e ∙ ap Some f) ∙ g.gives)

      -- what comes behind the element
      pub comes-next : (st : Stored) (level : ℕ) → Reads st level s → (x : Result (Option Here) Refused) → ToCome t x → Over NextIs st level h x
      comes-next st level w x c =
          let k : Over NextIs t.cx.stored t.cx.level h x = subst₂ (λ b y. Comes t.cx b y x) g.given gave-some c in
          let v = reads-on st level w in
          subst₂ (λ c l. Over NextIs c l h x) v.stored v.level k
