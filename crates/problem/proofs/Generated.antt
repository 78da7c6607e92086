-- What a model generates, step by step.
use mathlib.Core.Path.{◌≡◌, refl, sym, ◌∙◌, ap}
use mathlib.Core.List.{List, [], map}
use Prim.Native.Nat.{ℕ}
use lib.ListN.{length}
use Rattle.rules.specs.declared.Refusal.{Refusal}
use Rattle.language.specs.Outcome.{Outcome, done, refused, ◌>>=◌}
use Rattle.language.specs.Store.{all_given}
use Rattle.language.specs.Model.{Model, start, as_discrete, as_continuous, declared, discretes, continuouses}
use Rattle.language.specs.Numbering.{Variable, Row, Entry, Lp, signed, add_variables, gathered, add_entries, generate}

module _ (m : Model) where
  abbrev pub discrete_ones : Outcome (List Variable)
  discrete_ones = add_variables (start m) (declared as_discrete 0 m.structure.names) []

  abbrev pub continuous_ones : List Variable → Outcome (List Variable)
  continuous_ones vs = add_variables (start m) (declared as_continuous 0 m.structure.names) vs

  abbrev pub objective_row : List Variable → Outcome Row
  objective_row vs = gathered vs m.structure.objective (start m)

  abbrev pub all_entries : List Variable → Outcome (List Entry)
  all_entries vs = add_entries vs (start m) 0 m.structure.constraints []

  pub without-data : (n : Refusal) (q : ℕ) → all_given 0 m.structure.names (start m) ≡ refused n q → generate m ≡ refused n q
  unfolding generate
  without-data n q e = rw e

  module _ (g : all_given 0 m.structure.names (start m) ≡ done tt) where
    pub without-variables : (n : Refusal) (q : ℕ) → (discrete_ones >>= λ vs. continuous_ones vs) ≡ refused n q → generate m ≡ refused n q
    unfolding generate discretes continuouses
    without-variables n q e = go discrete_ones refl
      where
        go : (o : Outcome (List Variable)) → discrete_ones ≡ o → generate m ≡ refused n q
        go (refused k j) x = let y : ◌≡◌ {A = Outcome (List Variable)} (refused k j) (refused n q) = ap (λ o. o >>= λ vs. continuous_ones vs) (sym x) ∙ e in rw (g, x) (same y)
          where
            same : ◌≡◌ {A = Outcome (List Variable)} (refused k j) (refused n q) → ◌≡◌ {A = Outcome Lp} (refused k j) (refused n q)
            same y = cc y
        go (done a) x = let y : continuous_ones a ≡ refused n q = ap (λ o. o >>= λ vs. continuous_ones vs) (sym x) ∙ e in rw (g, x, y)

    module _ (a b : List Variable) (x : discrete_ones ≡ done a) (y : continuous_ones a ≡ done b) where
      pub without-objective : (n : Refusal) (q : ℕ) → objective_row b ≡ refused n q → generate m ≡ refused n q
      unfolding generate discretes continuouses
      without-objective n q e = rw (g, x, y, e)

      module _ (o : Row) (z : objective_row b ≡ done o) where
        pub without-constraints : (n : Refusal) (q : ℕ) → all_entries b ≡ refused n q → generate m ≡ refused n q
        unfolding generate discretes continuouses
        without-constraints n q e = rw (g, x, y, z, e)

        pub generates : (es : List Entry) → all_entries b ≡ done es
            → generate m ≡ done (record { discrete = length a; variables = b; entries = es; objective = map (signed m.structure.minimize) o })
        unfolding generate discretes continuouses
        generates es e = rw (g, x, y, z, e)
