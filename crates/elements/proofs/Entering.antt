-- Laws of the first element inside some runs: each answer of `inside` and `turns`.
use Rattle.std.specs.Prelude.{Err, None, Ok, Option, Result, Some}
use Rattle.std.specs.Option.{is_some}
use Rattle.rules.specs.declared.Refused.{Refused}
use mathlib.Core.Path.{◌≡◌, refl, sym, ◌∙◌, ap, subst}
use mathlib.Core.Bool.{Bool, true, false}
use mathlib.Core.List.{List, [], ◌∷◌, ◌++◌, append-nil, append_assoc}
use Prim.Native.Nat.{ℕ, suc, ◌-◌, ◌<◌}
use native.Mathlib.Omega.{arith}
use lib.ListN.{length}
use lib.IntN.{ℤ, pos, ◌+ℤ◌}
use lib.Signed.{◌≤ℤ◌, lt_z, le_z, ≤ℤ_refl}
use Rattle.rules.specs.declared.Refusal.{Refusal}
use Rattle.rules.specs.Limits.{index_limit, nesting_limit}
use Rattle.rational.proofs.Integer.{le_z-true, ≤ℤ-trans}
use Rattle.lexer.specs.Text.{Token}
use Rattle.tokens.proofs.Tables.{false-true}
use Rattle.language.specs.Scope.{Scope, bind}
use Rattle.onepass.specs.Walk.{walk_entry, in_domain_walk}
use Rattle.evaluator.specs.declared.steps.scope.Scope.{Scope as HeldScope}
use Rattle.evaluator.specs.declared.steps.values.Bounds.{Bounds as HeldBounds}
use Rattle.evaluator.specs.Steps.Scopes.{bindings_of}
use Rattle.language.specs.Evaluation as Evaluation
use Rattle.evaluator.specs.Steps.Values.{limits_in, SmallLimits, run_outcome, run_answer, RunIs}
use Rattle.evaluator.proofs.steps.Runs.{run_is}
use Rattle.evaluator.specs.Tables.{World}
use Rattle.evaluator.specs.Cycle.{entry_in, EntryIs, bounds_outcome, SmallEntered, seen_by, nothing_bound, tokens_at}
use Rattle.store.specs.Few.{one_more}
use Rattle.elements.specs.declared.here.Level.{Level as HeldLevel}
use Rattle.elements.specs.declared.here.Here.{Here as HeldHere}
use Rattle.elements.specs.Elements.{Walked, finished, stopped, followed, chained, mapped}
use Rattle.elements.specs.Levels.{Level, here_of, deeper, at_number, turn_of, run_from}
use Rattle.elements.specs.Held.{held, bound}
use Rattle.elements.specs.Steps.{SmallRun, SmallRuns, runs_of, run_of, scope_in, entries_in, Reached, Shows, FirstIs, Grown, GrownBy, Turned, TurnedBy, InsideIs, TurnsAre}
use Rattle.elements.proofs.Levels.{first-none, first-limit, first_run, first_of}
use Rattle.elements.proofs.Runs.{range_none, range-here}
use Rattle.elements.proofs.Numbers.{above, last, between_size, next-above}
use Rattle.elements.proofs.Bound.{scope-more, held-scope, held_small, room-held, more_room, runs_none, runs-length, runs-with, small-append}
use Rattle.store.specs.Table.{Table}

-- ---- the element of an answer

pub some-here : (o : Option HeldHere) (x : Bool) → x ≡ is_some o → x ≡ true → (h : HeldHere) × (o ≡ Some h)
some-here (Some h) x e f = (h, refl)
some-here None x e f = absurd (false-true (sym e ∙ f))

pub none-here : (o : Option HeldHere) (x : Bool) → x ≡ is_some o → x ≡ false → o ≡ None
none-here (Some h) x e f = absurd (false-true (sym f ∙ e))
none-here None x e f = refl

-- ---- what is shown inside one run more

module _ {ns ts : List ℕ} {ds : Table} {given : ℕ} (w : World ns ts ds given) (p : List Level) where
  pub shows-as : (u v : Walked (List Level)) (r : Result (Option HeldHere) Refused) → u ≡ v → Shows w p v r → Shows w p u r
  shows-as u v r e h = subst (λ x. Shows w p x r) (sym e) h

  module _ (l : Level) (u v : Walked (List Level)) where
    pub deeper-at : (h : HeldHere) → Reached w (p ++ (l ∷ [])) u h → Reached w p (followed (deeper l u) v) h
    unfolding followed mapped
    deeper-at h r = record {
      inner = l ∷ r.inner;
      rest = followed (deeper l r.rest) v;
      is = rw r.is;
      runs = r.runs ∙ append_assoc p (l ∷ []) r.inner;
      small = r.small;
    }

    pub deeper-refused : (n : Refusal) (q : ℕ) → u ≡ stopped n q → followed (deeper l u) v ≡ stopped n q
    unfolding followed mapped
    deeper-refused n q e = rw e

    pub deeper-done : u ≡ finished → followed (deeper l u) v ≡ v
    unfolding followed mapped
    deeper-done e = rw e

-- ---- entries

turned-grown : (outer : HeldHere) (l : HeldLevel) (count : ℕ) → (count ≡ 0 → ⊥) → (r : Result (Option HeldHere) Refused) → TurnedBy outer l (count - 1) r → GrownBy outer count r
turned-grown outer l count some (Ok (Some h)) x = record { inner = x.run ∷ x.inner; is = x.is; size = omega (arith, x.size) }
turned-grown outer l count some (Ok None) x = tt
turned-grown outer l count some (Err e) x = tt

module _ (ns ts : List ℕ) (ds : Table) (given level count at : ℕ) (outer : HeldHere) where
  pub inside-none : count ≡ 0 → InsideIs ns ts ds given level count at outer (Ok (Some outer))
  inside-none e = record {
    is = λ w m. record {
      inner = [];
      rest = finished;
      is = rw e (first-none _ _ _ _);
      runs = sym (append-nil (runs_of w outer));
      small = m;
    };
    grown = record { inner = []; is = sym (append-nil (held outer)); size = sym e };
  }

  -- inside no runs
  pub first-is : (r : Result (Option HeldHere) Refused) → held outer ≡ [] → InsideIs ns ts ds given level count at outer r → FirstIs ns ts ds given level count at r
  unfolding here_of
  first-is r e i = record {
    is = λ w.
        let none = runs_none (tokens_at w) outer e in
        subst (λ p. Shows w p (entries_in w level count (scope_in w p) (tokens_at w at)) r) none (i.is w (subst SmallRuns (sym none) tt));
  }

  module _ (sc : HeldScope) (e : bindings_of sc ≡ bound (held outer) []) (x : Result (HeldBounds × ℕ) Refused) (i : EntryIs (entry_in 12) ns ts ds given level sc at x) (some : count ≡ 0 → ⊥) where
    -- the entry at the scope of the outer runs
    entry_at : (w : World ns ts ds given) → SmallRuns (runs_of w outer) → walk_entry (seen_by w level) (in_domain_walk (seen_by w level)) (scope_in w (runs_of w outer)) (tokens_at w at) ≡ bounds_outcome w.text ts x
    unfolding entry_in nesting_limit
    entry_at w m = subst (λ s. walk_entry (seen_by w level) (in_domain_walk (seen_by w level)) s (tokens_at w at) ≡ bounds_outcome w.text ts x) (held-scope (tokens_at w) outer sc e w.known) (i.is w (held_small (tokens_at w) outer sc e m))

    suc-count : count ≡ suc (count - 1)
    suc-count = omega arith

    entries-suc : (w : World ns ts ds given) (s : Scope) (us : List Token) → entries_in w level count s us ≡ entries_in w level (suc (count - 1)) s us
    entries-suc w s us = ap (λ n. entries_in w level n s us) suc-count

    pub inside-limit : (e : Refused) → x ≡ Err e → InsideIs ns ts ds given level count at outer (Err e)
    inside-limit z f = record { is = λ w m. entries-suc w _ _ ∙ first-limit _ _ _ _ (count - 1) z.refusal z.place (entry_at w m ∙ ap (bounds_outcome w.text ts) f); grown = tt }

    module _ (b : HeldBounds) (a : ℕ) (f : x ≡ Ok (b, a)) (y : Result ℕ Refused) (told : y ≡ run_answer b.limits b.number sc b.place) where
      j : RunIs b.limits b.number sc b.place y
      j = run_is b.limits b.number sc b.place y told

      small-limits : (w : World ns ts ds given) → SmallRuns (runs_of w outer) → SmallLimits b.limits
      small-limits w m = subst SmallEntered f (i.small w (held_small (tokens_at w) outer sc e m))

      run_at : (w : World ns ts ds given) → SmallRuns (runs_of w outer) → Evaluation.run_of (limits_in b.limits) b.number (scope_in w (runs_of w outer)) b.place ≡ run_outcome b.limits y
      run_at w m = subst (λ s. Evaluation.run_of (limits_in b.limits) b.number s b.place ≡ run_outcome b.limits y) (held-scope (tokens_at w) outer sc e w.known) (j.is (small-limits w m) w.known)

      pub inside-run : (e : Refused) → y ≡ Err e → InsideIs ns ts ds given level count at outer (Err e)
      inside-run z g = record {
        is = λ w m. entries-suc w _ _
            ∙ first_run _ _ _ _ (count - 1) _ z.refusal z.place (entry_at w m ∙ ap (bounds_outcome w.text ts) f) (run_at w m ∙ ap (run_outcome b.limits) g);
        grown = tt;
      }

      pub inside-turns : (n : ℕ) (l : HeldLevel) (r : Result (Option HeldHere) Refused) → y ≡ Ok n → l ≡ record { name = b.number; number = b.limits.lower; upper = b.limits.upper; behind = a }
          → TurnsAre ns ts ds given level (count - 1) outer l r → InsideIs ns ts ds given level count at outer r
      inside-turns n l r g k t = record {
        is = λ w m.
            shows-as w (runs_of w outer) _ _ r
            (entries-suc w _ _
            ∙ first_of _ _ _ _ (count - 1) _ _ (entry_at w m ∙ ap (bounds_outcome w.text ts) f) (run_at w m ∙ ap (run_outcome b.limits) g)
            ∙ ap (λ l. run_from (entries_in w level (count - 1)) (scope_in w (runs_of w outer)) (run_of w l)) (sym k))
            (t.is w m (rw k (record { number = (small-limits w m).low; upper = (small-limits w m).high })) (subst (λ z. z < index_limit) (sym (runs-length (tokens_at w) outer)) (room-held outer sc e (j.room n g))));
        grown = turned-grown outer l count some r (t.turned (room-held outer sc e (j.room n g)));
      }

-- ---- a run, number by number

module _ (W : Scope → List Token → Walked (List Level)) (s : Scope) (l : Level) where
  pub run_none : le_z l.number l.upper ≡ false → run_from W s l ≡ finished
  unfolding run_from chained
  run_none e = ap (chained (turn_of W s l)) (range_none l.number l.upper (above l.number l.upper e))

  pub run-here : le_z l.number l.upper ≡ true
      → run_from W s l ≡ followed (deeper l (W (bind l.name l.number s) l.rest)) (run_from W s (at_number l (l.number +ℤ pos 1)))
  unfolding run_from chained
  run-here e = ap (chained (turn_of W s l)) (range-here l.number l.upper (le_z-true l.number l.upper e))

  pub run-last : lt_z l.number l.upper ≡ false → run_from W s (at_number l (l.number +ℤ pos 1)) ≡ finished
  unfolding run_from chained
  run-last e = ap (chained (turn_of W s l)) (range_none (l.number +ℤ pos 1) l.upper (last l.number l.upper e))

-- a run has come from its number to k, and nothing was reached on the way
pub record TurnsOn (ns ts : List ℕ) (ds : Table) (given level count : ℕ) (outer : HeldHere) (run : HeldLevel) (k : ℤ) : Type 0 where
  pub is : (w : World ns ts ds given) → SmallRuns (runs_of w outer) → SmallRun (run_of w run) → length (runs_of w outer) < index_limit
      → run_from (entries_in w level count) (scope_in w (runs_of w outer)) (run_of w run)
      ≡ run_from (entries_in w level count) (scope_in w (runs_of w outer)) (at_number (run_of w run) k)
  pub number : run.number ≤ℤ k

-- a run at another of its numbers, as code holds it
abbrev pub held_at : HeldLevel → ℤ → HeldLevel
held_at run k = record { name = run.name; number = k; upper = run.upper; behind = run.behind }

module _ (ns ts : List ℕ) (ds : Table) (given level count : ℕ) (outer : HeldHere) (run : HeldLevel) where
  pub turns-start : TurnsOn ns ts ds given level count outer run run.number
  turns-start = record { is = λ w m n room. refl; number = ≤ℤ_refl run.number }

  module _ (k : ℤ) (o : TurnsOn ns ts ds given level count outer run k) where
    pub turns-end : le_z k run.upper ≡ false → TurnsAre ns ts ds given level count outer run (Ok None)
    turns-end f = record { is = λ w m n room. o.is w m n room ∙ run_none _ _ (at_number (run_of w run) k) f; turned = λ room. tt }

    module _ (f : le_z k run.upper ≡ true) (inner : HeldHere) (g : held inner ≡ one_more (held outer) (held_at run k)) (r : Result (Option HeldHere) Refused) (i : InsideIs ns ts ds given level count run.behind inner r) where
      abbrev l : HeldLevel
      l = held_at run k

      -- what the run still has, from its number on
      turn : (w : World ns ts ds given) → SmallRuns (runs_of w outer) → SmallRun (run_of w run) → length (runs_of w outer) < index_limit
          → run_from (entries_in w level count) (scope_in w (runs_of w outer)) (run_of w run)
          ≡ followed (deeper (run_of w l) (entries_in w level count (bind run.name k (scope_in w (runs_of w outer))) (tokens_at w run.behind)))
          (run_from (entries_in w level count) (scope_in w (runs_of w outer)) (at_number (run_of w run) (k +ℤ pos 1)))
      turn w m n room = o.is w m n room ∙ run-here _ _ (run_of w l) f

      small : (w : World ns ts ds given) → SmallRun (run_of w run) → SmallRun (run_of w l)
      small w m = record { number = between_size run.number k run.upper o.number (le_z-true k run.upper f) m.number m.upper; upper = m.upper }

      -- what is shown at this number
      shown : (w : World ns ts ds given) → SmallRuns (runs_of w outer) → SmallRun (run_of w run) → length (runs_of w outer) < index_limit
          → Shows w (runs_of w outer ++ (run_of w l ∷ [])) (entries_in w level count (bind run.name k (scope_in w (runs_of w outer))) (tokens_at w run.behind)) r
      shown w m n room =
          let same = runs-with (tokens_at w) outer inner l g room in
          let all = small-append (runs_of w outer) (run_of w l ∷ []) m (small w n, tt) in
          subst (λ s. Shows w (runs_of w outer ++ (run_of w l ∷ [])) (entries_in w level count s (tokens_at w run.behind)) r) (scope-more (nothing_bound w) (runs_of w outer) (run_of w l))
          (subst (λ p. Shows w p (entries_in w level count (scope_in w p) (tokens_at w run.behind)) r) same (i.is w (subst SmallRuns (sym same) all)))

      -- the runs at an element that is reached
      within : (h : HeldHere) → length (held outer) < index_limit → Grown inner count h → Turned outer run count h
      within h room x = record {
        run = l;
        inner = x.inner;
        is = x.is ∙ ap (λ p. p ++ x.inner) (g ∙ more_room (held outer) l room) ∙ append_assoc (held outer) (l ∷ []) x.inner;
        size = x.size;
        upper = refl;
        number = o.number;
      }

      pub turns_at : (h : HeldHere) → r ≡ Ok (Some h) → TurnsAre ns ts ds given level count outer run (Ok (Some h))
      turns_at h k = record { is = λ w m n room. shows-as w (runs_of w outer) _ _ (Ok (Some h)) (turn w m n room) (deeper-at w (runs_of w outer) _ _ _ h (subst (Shows w _ _) k (shown w m n room))); turned = λ room. within h room (subst (GrownBy inner count) k i.grown) }

      pub turns-refused : (e : Refused) → r ≡ Err e → TurnsAre ns ts ds given level count outer run (Err e)
      turns-refused z k = record { is = λ w m n room. turn w m n room ∙ deeper-refused w (runs_of w outer) _ _ _ z.refusal z.place (subst (Shows w _ _) k (shown w m n room)); turned = λ room. tt }

      pub turns-found : (p : Option HeldHere) → r ≡ Ok p → (y : Bool) → y ≡ is_some p → y ≡ true → TurnsAre ns ts ds given level count outer run (Ok p)
      turns-found p k y s t =
          let (h, d) = some-here p y s t in
          subst (λ p. TurnsAre ns ts ds given level count outer run (Ok p)) (sym d) (turns_at h (subst (λ p. r ≡ Ok p) d k))

      module _ (p : Option HeldHere) (at_p : r ≡ Ok p) (y : Bool) (s : y ≡ is_some p) (t : y ≡ false) where
        none : r ≡ Ok None
        none = subst (λ p. r ≡ Ok p) (none-here p y s t) at_p

        pub turns-last : lt_z k run.upper ≡ false → TurnsAre ns ts ds given level count outer run (Ok None)
        turns-last b = record { is = λ w m n room. turn w m n room ∙ deeper-done w (runs_of w outer) _ _ _ (subst (Shows w _ _) none (shown w m n room)) ∙ run-last _ _ (run_of w l) b; turned = λ room. tt }

        pub turns_more : TurnsOn ns ts ds given level count outer run (k +ℤ pos 1)
        turns_more = record {
          is = λ w m n room. turn w m n room ∙ deeper-done w (runs_of w outer) _ _ _ (subst (Shows w _ _) none (shown w m n room));
          number = ≤ℤ-trans o.number (next-above k);
        }
