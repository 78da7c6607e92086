-- From what the stations answer to the problem of a model.
use Rattle.std.specs.Prelude.{Err, Ok, Result}
use Rattle.rules.specs.declared.Refused.{Refused}
use mathlib.Core.Path.{◌≡◌, refl, sym, ◌∙◌, ap, subst, subst₂}
use mathlib.Core.Bool.{Bool}
use mathlib.Core.List.{List, [], map}
use Prim.Native.Nat.{ℕ, ◌≤◌}
use lib.ListN.{length, take}
use lib.IntN.{ℤ}
use Rattle.rules.specs.Limits.{nesting_limit, variable_limit}
use Rattle.language.specs.Outcome.{Outcome, done, refused, ◌>>=◌}
use Rattle.language.specs.All.{All}
use Rattle.language.proofs.All.{in_all, all-weaken}
use Rattle.language.specs.Syntax.{Name, Constraint}
use Rattle.language.specs.Scope.{Scope}
use Rattle.language.specs.Store.{all_given}
use Rattle.language.specs.Model.{Model, start, as_discrete, as_continuous, declared}
use Rattle.language.specs.Numbering.{Variable, Row, Entry, Lp, signed, add_variables, gathered, add_entries, generate}
use Rattle.language.proofs.Entries.{entries-grown, entry-made}
use Rattle.tokens.specs.Stored.{Stands}
use Rattle.constraints.specs.declared.Record.{Record}
use Rattle.constraints.specs.Rows.{Rows}
use Rattle.evaluator.specs.Tables.{World}
use Rattle.evaluator.specs.Cycle.{nothing_bound, passed_outcome}
use Rattle.problem.specs.Missing.Given.{AllGiven}
use Rattle.problem.specs.Variables.Numbers.{Below, Counting, NumbersAs}
use Rattle.rows.specs.declared.Filled.{Filled}
use Rattle.rows.specs.Slots.{counts_at, objective_row, ObjectiveHeld}
use Rattle.rows.specs.Counts.{RowOf}
use Rattle.language.specs.Linear.{linear_at}
use Rattle.rows.specs.Bounds.{BoundTable, BoundsHeld}
use Rattle.gatherer.specs.Cycle.{Model as Gathering}
use Rattle.matrix.specs.Answers.{Adds, Objective, ObjectiveAdds, ObjectiveIs, Stays, Generates}
use Rattle.problem.specs.declared.Problem.{Problem}
use Rattle.rows.specs.Problems.{KeyedVariable, FromConstraint}
use Rattle.problem.specs.Problem.{Poses, Holds, Generating, Numbers, ShapesAs, GeneratesAs}
use Rattle.problem.proofs.Generated.{without-data, without-variables, without-objective, without-constraints, generates}
use Rattle.store.specs.Table.{Table}

-- ---- answers

answer-refused : (o : Outcome Lp) (e : Refused) (cs : List Constraint) (xs t : Table) (bs : BoundTable) (c : List ℤ) → o ≡ refused e.refusal e.place → Generating o cs (Err e) xs t bs c
answer-refused o z cs xs t bs c e = subst (λ o. Generating o cs (Err z) xs t bs c) (sym e) (refl, refl)

answer-done : (o : Outcome Lp) (p : Lp) (cs : List Constraint) (w : Problem) (xs t : Table) (bs : BoundTable) (c : List ℤ) → o ≡ done p → Holds xs t bs c w.discrete w.total w.filled cs p
    → Generating o cs (Ok w) xs t bs c
answer-done o p cs z xs t bs c e h = subst (λ o. Generating o cs (Ok z) xs t bs c) (sym e) h

-- every entry comes from a constraint of the model
sources : (m : Model) (vs : List Variable) (es : List Entry) → add_entries vs (start m) 0 m.structure.constraints [] ≡ done es → All (FromConstraint m.structure.constraints) es
sources m vs es e =
    let g = entries-grown vs (start m) 0 m.structure.constraints [] es e in
    in_all (FromConstraint m.structure.constraints) es λ x h. (entry-made m vs es (g.gives ∙ ap done g.appended) x h).written.listed

-- ---- missing data, variables

module _ {ns ts : List ℕ} {ds : Table} {given aim : ℕ} {b : Bool} {cs : List Record} {count : ℕ} {bs : BoundTable} where
  -- what was said of a world's names and scope is said of the model's
  at-start : (P : List Name → Scope → Type 0) (w : World ns ts ds given) (m : Model) → Poses ns ts ds given aim b cs count bs w m → P w.names (nothing_bound w) → P m.structure.names (start m)
  at-start P w m p h = subst₂ P p.names p.start h

  pub missing-refused : (test : Result Unit Refused) → AllGiven ns ts ds given test → (e : Refused) → test ≡ Err e → (xs t : Table) (bs' : BoundTable) (c : List ℤ)
      → GeneratesAs ns ts ds given aim b cs count bs (Err e) xs t bs' c
  missing-refused test a z e xs t bs' c = record {
    is = λ w m p. answer-refused (generate m) z m.structure.constraints xs t bs' c
        (without-data m z.refusal z.place (at-start (λ l r. all_given 0 l r ≡ refused z.refusal z.place) w m p (a.is w p.placed ∙ ap passed_outcome e)));
  }

  module _ (test : Result Unit Refused) (a : AllGiven ns ts ds given test) (inside : test ≡ Ok tt) where
    all-given : (w : World ns ts ds given) (m : Model) → Poses ns ts ds given aim b cs count bs w m → all_given 0 m.structure.names (start m) ≡ done tt
    all-given w m p = at-start (λ l r. all_given 0 l r ≡ done tt) w m p (a.is w p.placed ∙ ap passed_outcome inside)

    pub variables-refused : (r : Result (ℕ × ℕ) Refused) (xs : Table) → NumbersAs ns ts ds given r xs → (e : Refused) → r ≡ Err e → (t : Table) (bs' : BoundTable) (c : List ℤ)
        → GeneratesAs ns ts ds given aim b cs count bs (Err e) xs t bs' c
    variables-refused r xs v z e t bs' c = record {
      is = λ w m p. answer-refused (generate m) z m.structure.constraints xs t bs' c
          (without-variables m (all-given w m p) z.refusal z.place
          (at-start (λ l r. (add_variables r (declared as_discrete 0 l) [] >>= λ vs. add_variables r (declared as_continuous 0 l) vs) ≡ refused z.refusal z.place) w m p
          (subst (λ r. Counting w r xs) e (v.is w p.placed p.ordered))));
    }

    numbers_of_lem : (xs : Table) (discrete total : ℕ) → NumbersAs ns ts ds given (Ok (discrete, total)) xs → (w : World ns ts ds given) (m : Model)
        → Poses ns ts ds given aim b cs count bs w m → Numbers xs discrete total m
    numbers_of_lem xs discrete total v w m p =
        let k = v.is w p.placed p.ordered in
        record {
          given = all-given w m p;
          discretes = k.discretes;
          variables = k.variables;
          first = at-start (λ l r. add_variables r (declared as_discrete 0 l) [] ≡ done k.discretes) w m p k.first;
          all = at-start (λ l r. add_variables r (declared as_continuous 0 l) k.discretes ≡ done k.variables) w m p k.all;
          count = k.count;
          few = k.few;
          numbered = k.rows;
          keyed = all-weaken (Below (length w.names)) KeyedVariable (λ v h. h.keyed) k.variables k.known;
        }

    pub shaped : (r : Result (ℕ × ℕ) Refused) (xs : Table) → NumbersAs ns ts ds given r xs → (discrete total : ℕ) → r ≡ Ok (discrete, total) → (x : Result Problem Refused) (t : Table) (bs' : BoundTable) (c : List ℤ)
        → ShapesAs ns ts ds given xs discrete total aim b cs count bs x t bs' c → GeneratesAs ns ts ds given aim b cs count bs x xs t bs' c
    shaped r xs v discrete total e x t bs' c h = record {
      is = λ w m p. h.is w m p (numbers_of_lem xs discrete total (subst (λ r. NumbersAs ns ts ds given r xs) e v) w m p);
    }

-- ---- the objective, constraints

module _ {ns ts : List ℕ} {ds : Table} {given : ℕ} {xs : Table} {discrete total aim : ℕ} {b : Bool} {cs : List Record} {count : ℕ} {bs : BoundTable} where
  module _ (w : World ns ts ds given) (m : Model) (p : Poses ns ts ds given aim b cs count bs w m) (v : Numbers xs discrete total m) where
    abbrev gathering : Gathering ns ts ds given xs total
    gathering = record { world = w; variables = v.variables; held = v.numbered }

    -- the objective's answer, of the model
    objective-at : (r : Result Unit Refused) (c : List ℤ) → ObjectiveIs b ns ts ds given xs total aim r c → ObjectiveAdds v.variables b (gathered v.variables m.structure.objective (start m)) r c
    objective-at r c o =
        let f = p.objective in
        subst₂ (λ g z. ObjectiveAdds v.variables b (gathered v.variables g z) r c) (sym f.form) p.start
        (o.is v.few gathering f.linear (subst (λ l. Stands (linear_at l nesting_limit) w.text ts aim f.linear) (sym p.names) f.stands))

    -- the constraints' answer, of the model
    entries_at : (c : List ℤ) (r : Result Filled Refused) (t : Table) (bs' : BoundTable) (c' : List ℤ) → Generates ns ts ds given xs total cs count bs c r t bs' c'
        → Adds v.variables (add_entries v.variables (start m) 0 m.structure.constraints []) r t c' bs'
    entries_at c r t bs' c' g =
        subst (λ z. Adds v.variables (add_entries v.variables z 0 m.structure.constraints []) r t c' bs') p.start
        ((g.all v.few).adds gathering p.few m.structure.constraints
        (subst (λ l. Rows w.text ts (take count cs) l m.structure.constraints) (sym p.names) p.constraints) p.unbound)

  pub objective-refused : (r : Result Unit Refused) (c : List ℤ) → ObjectiveIs b ns ts ds given xs total aim r c → (e : Refused) → r ≡ Err e → (t : Table) (bs' : BoundTable) (c' : List ℤ)
      → ShapesAs ns ts ds given xs discrete total aim b cs count bs (Err e) t bs' c'
  objective-refused r c o z e t bs' c' = record {
    is = λ w m p v. answer-refused (generate m) z m.structure.constraints xs t bs' c'
        (without-objective m v.given v.discretes v.variables v.first v.all z.refusal z.place
        (subst (λ r. ObjectiveAdds v.variables b (gathered v.variables m.structure.objective (start m)) r c) e (objective-at w m p v r c o)));
  }

  module _ (r : Result Unit Refused) (c : List ℤ) (o : ObjectiveIs b ns ts ds given xs total aim r c) (inside : r ≡ Ok tt) where
    aimed : (w : World ns ts ds given) (m : Model) → Poses ns ts ds given aim b cs count bs w m → (v : Numbers xs discrete total m)
        → Objective v.variables b (gathered v.variables m.structure.objective (start m)) c
    aimed w m p v = subst (λ r. ObjectiveAdds v.variables b (gathered v.variables m.structure.objective (start m)) r c) inside (objective-at w m p v r c o)

    module _ (x : Result Filled Refused) (t : Table) (bs' : BoundTable) (c' : List ℤ) (g : Generates ns ts ds given xs total cs count bs c x t bs' c') where
      pub constraints-refused : (e : Refused) → x ≡ Err e → ShapesAs ns ts ds given xs discrete total aim b cs count bs (Err e) t bs' c'
      constraints-refused z e = record {
        is = λ w m p v.
            let a = aimed w m p v in
            answer-refused (generate m) z m.structure.constraints xs t bs' c'
            (without-constraints m v.given v.discretes v.variables v.first v.all a.coefficients a.is z.refusal z.place
            (subst (λ x. Adds v.variables (add_entries v.variables (start m) 0 m.structure.constraints []) x t c' bs') e (entries_at w m p v c x t bs' c' g)));
      }

      pub constraints-done : (f : Filled) → x ≡ Ok f → ShapesAs ns ts ds given xs discrete total aim b cs count bs (Ok (record { discrete = discrete; total = total; filled = f })) t bs' c'
      constraints-done f e = record {
        is = λ w m p v.
            let a = aimed w m p v in
            let d = subst (λ x. Adds v.variables (add_entries v.variables (start m) 0 m.structure.constraints []) x t c' bs') e (entries_at w m p v c x t bs' c' g) in
            let size : total ≡ length v.variables = v.numbered.count in
            answer-done (generate m) _ m.structure.constraints (record { discrete = discrete; total = total; filled = f }) xs t bs' c'
            (generates m v.given v.discretes v.variables v.first v.all a.coefficients a.is d.entries d.is)
            (record {
              discretes = v.count;
              few = subst (λ n. n ≤ variable_limit) size v.few;
              numbered = v.numbered;
              keyed = v.keyed;
              sources = sources m v.variables d.entries d.is;
              rows = d.state.rows;
              objective = kept-objective v.variables size (g.all v.few).stays (subst (λ b. ObjectiveHeld v.variables c (map (signed b) a.coefficients)) (sym p.minimize) a.held);
              bounds = subst (λ n. BoundsHeld bs' n d.entries) (sym size) d.state.bounds;
            });
      }
        where
          kept-objective : (vs : List Variable) → total ≡ length vs → Stays total c c' → {r : Row} → ObjectiveHeld vs c r → ObjectiveHeld vs c' r
          kept-objective vs k y {r} h = record { row = subst (λ l. RowOf vs l r) (ap (λ n. counts_at c n objective_row) (sym k) ∙ sym y ∙ ap (λ n. counts_at c' n objective_row) k) h.row }
