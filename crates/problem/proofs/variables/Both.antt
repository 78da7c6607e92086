-- The discrete names, then the continuous ones: each sort is picked by its number, and both loops make the whole.
use Rattle.std.specs.Prelude.{Err, Ok, Result, None}
use Rattle.rules.specs.declared.Refused.{Refused}
use mathlib.Core.Path.{◌≡◌, refl, ◌∙◌, ap, subst}
use mathlib.Core.List.{List, []}
use Prim.Native.Nat.{ℕ}
use native.Mathlib.Omega.{arith}
use lib.ListN.{length}
use Rattle.rules.specs.Limits.{variable_limit}
use Rattle.language.specs.Outcome.{refused, ◌>>=◌}
use Rattle.language.specs.Syntax.{Sort}
use Rattle.language.specs.Syntax
use Rattle.language.specs.Model.{as_discrete, as_continuous}
use Rattle.tokens.specs.Stored.{Shaped}
use Rattle.store.proofs.Held.{numbered-none}
use Rattle.evaluator.specs.Tables.{World}
use Rattle.evaluator.proofs.Names.{below_length}
use Rattle.elements.specs.Placed.{Placed}
use Rattle.problem.specs.Variables.Order.{InOrder}
use Rattle.problem.specs.Variables.Numbers.{Adds, Answers, Taken, Picks, Above, AddsSort, discrete_ones, continuous_ones, Counts, NumbersAs}
use Rattle.store.specs.Table.{Table}

-- ---- a sort by its number

picks-discrete : Picks as_discrete 4
unfolding as_discrete
picks-discrete = record { takes = takes; leaves = leaves }
  where
    takes : (x : Sort) (c : ℕ) → Shaped x 4 c → Taken as_discrete x c
    takes Syntax.index c h = absurd (omega (arith, h))
    takes (Syntax.integer d) c h = absurd (omega (arith, h.0))
    takes (Syntax.real d) c h = absurd (omega (arith, h.0))
    takes (Syntax.formula f) c h = absurd (omega (arith, h))
    takes (Syntax.discrete d) c h = record { domain = d; is = refl; sized = h.1; stands = λ s ts before at e. e }
    takes (Syntax.continuous d) c h = absurd (omega (arith, h.0))

    leaves : (x : Sort) (j c : ℕ) → Shaped x j c → (j ≡ 4 → ⊥) → as_discrete x ≡ None
    leaves Syntax.index j c h g = refl
    leaves (Syntax.integer d) j c h g = refl
    leaves (Syntax.real d) j c h g = refl
    leaves (Syntax.formula f) j c h g = refl
    leaves (Syntax.discrete d) j c h g = absurd (g h.0)
    leaves (Syntax.continuous d) j c h g = refl

picks-continuous : Picks as_continuous 5
unfolding as_continuous
picks-continuous = record { takes = takes; leaves = leaves }
  where
    takes : (x : Sort) (c : ℕ) → Shaped x 5 c → Taken as_continuous x c
    takes Syntax.index c h = absurd (omega (arith, h))
    takes (Syntax.integer d) c h = absurd (omega (arith, h.0))
    takes (Syntax.real d) c h = absurd (omega (arith, h.0))
    takes (Syntax.formula f) c h = absurd (omega (arith, h))
    takes (Syntax.discrete d) c h = absurd (omega (arith, h.0))
    takes (Syntax.continuous d) c h = record { domain = d; is = refl; sized = h.1; stands = λ s ts before at e. e }

    leaves : (x : Sort) (j c : ℕ) → Shaped x j c → (j ≡ 5 → ⊥) → as_continuous x ≡ None
    leaves Syntax.index j c h g = refl
    leaves (Syntax.integer d) j c h g = refl
    leaves (Syntax.real d) j c h g = refl
    leaves (Syntax.formula f) j c h g = refl
    leaves (Syntax.discrete d) j c h g = refl
    leaves (Syntax.continuous d) j c h g = absurd (g h.0)

-- ---- both

module _ (ns ts : List ℕ) (ds : Table) (given : ℕ) (t t₁ : Table) (x : Result ℕ Refused) (m : AddsSort ns ts ds given 4 0 t x t₁) where
  first : (w : World ns ts ds given) → Placed ns w.names → Answers (discrete_ones w) (Above as_discrete w.names) [] x t₁
  unfolding variable_limit
  first w p = m.is w as_discrete [] p picks-discrete (record { rows = numbered-none t; few = omega arith }) (λ j y e _ _ _. tt)

  pub number-refused : (e : Refused) → x ≡ Err e → NumbersAs ns ts ds given (Err e) t₁
  number-refused u e = record {
    is = λ w q o.
        let z : discrete_ones w ≡ refused u.refusal u.place = subst (λ y. Answers (discrete_ones w) (Above as_discrete w.names) [] y t₁) e (first w q) in
        ap (λ y. y >>= λ vs. continuous_ones w vs) z;
  }

  module _ (a : ℕ) (e : x ≡ Ok a) (t₂ : Table) (y : Result ℕ Refused) (n : AddsSort ns ts ds given 5 a t₁ y t₂) where
    module _ (w : World ns ts ds given) (p : Placed ns w.names) (o : InOrder w.names) where
      discretes : Adds (discrete_ones w) (Above as_discrete w.names) [] a t₁
      discretes = subst (λ z. Answers (discrete_ones w) (Above as_discrete w.names) [] z t₁) e (first w p)

      second : Answers (continuous_ones w discretes.variables) (Above as_continuous w.names) discretes.variables y t₂
      second = n.is w as_continuous discretes.variables p picks-continuous discretes.held
          (λ j z c _ s q. discretes.below j (λ i x d u v. o.earlier i j x z d c u v s q) tt)

    pub number-later : (e : Refused) → y ≡ Err e → NumbersAs ns ts ds given (Err e) t₂
    number-later e u = record {
      is = λ w p o.
          let vs = (discretes w p o).variables in
          let z : continuous_ones w vs ≡ refused e.refusal e.place = subst (λ z. Answers (continuous_ones w vs) (Above as_continuous w.names) vs z t₂) u (second w p o) in
          ap (λ z. z >>= λ vs. continuous_ones w vs) (discretes w p o).is ∙ z;
    }

    pub number_of : (k : ℕ) → y ≡ Ok k → NumbersAs ns ts ds given (Ok (a, k)) t₂
    number_of k u = record { is = go }
      where
        go : (w : World ns ts ds given) → Placed ns w.names → InOrder w.names → Counts w a k t₂
        go w p o =
            let f = discretes w p o in
            let z : Adds (continuous_ones w f.variables) (Above as_continuous w.names) f.variables k t₂ =
            subst (λ z. Answers (continuous_ones w f.variables) (Above as_continuous w.names) f.variables z t₂) u (second w p o) in
            record {
              discretes = f.variables;
              variables = z.variables;
              first = f.is;
              all = z.is;
              count = f.held.rows.count;
              rows = z.held.rows;
              few = z.held.few;
              known = z.below (length w.names) (λ j x d s q. below_length w.names j x s) (f.below (length w.names) (λ j x d s q. below_length w.names j x s) tt);
            }
