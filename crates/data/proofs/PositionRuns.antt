-- Laws of the run of a position over plain variables.
use Rattle.std.specs.Prelude.{Err, Ok, Result}
use Rattle.rules.specs.declared.Refused.{Refused}
use mathlib.Core.Path.{◌≡◌, refl, sym, ◌∙◌, ap, subst}
use mathlib.Core.List.{List, [], ◌∷◌}
use Prim.Native.Nat.{ℕ, zero, suc, ◌<◌, ◌≤◌}
use native.Mathlib.Omega.{arith}
use lib.ListN.{length, take, get_or}
use lib.IntN.{pos}
use Rattle.rules.specs.declared.Refusal.{Refusal}
use Rattle.rules.specs.Limits.{nesting_limit, mantissa_limit}
use Rattle.lexer.specs.Text.{Token}
use Rattle.language.specs.Outcome.{Outcome, done, refused, ◌>>=◌}
use Rattle.language.proofs.Outcome.{done-injective, refused-done}
use Rattle.language.specs.Syntax.{Name, Formula, Spans, point, span}
use Rattle.language.specs.Reader.{Read, as_read}
use Rattle.language.specs.Scope.{Scope}
use Rattle.language.specs.Evaluation.{Limits, limits_of, run_of, eval}
use Rattle.language.specs.Store.{Store, stored, Portion, Bound, bind_if, position_run}
use Rattle.language.specs.Store as Store
use Rattle.language.specs.Data.{bound_of}
use Rattle.tokens.specs.Stored.{from, size}
use Rattle.onepass.specs.Walk as walk
use Rattle.onepass.specs.Entries.{ReadsEntry}
use Rattle.onepass.proofs.WalkedDomain.{entry-walk}
use Rattle.evaluator.specs.declared.steps.scope.Scope.{Scope as Held}
use Rattle.evaluator.specs.declared.steps.values.Bounds.{Bounds}
use Rattle.evaluator.specs.declared.steps.values.Limits.{Limits as Reach}
use Rattle.evaluator.specs.Steps.Scopes.{scope_of}
use Rattle.evaluator.specs.Steps.Values.{limits_in, SmallLimits, run_answer, RunIs}
use Rattle.evaluator.proofs.steps.Runs.{run_is}
use Rattle.evaluator.specs.Steps.Values as Values
use Rattle.evaluator.specs.Tables.{World}
use Rattle.evaluator.specs.Cycle.{entry_in, bounds_outcome, SmallEntered, EntryIs}
use Rattle.data.specs.declared.reading.entries.Entries.{Entries}
use Rattle.data.specs.Reading.Few.{numbers_of}
use Rattle.data.specs.Reading.Entries.{entries_of}
use Rattle.data.specs.declared.running.Portion.{Portion as Worked}
use Rattle.data.specs.Stores.{Stores}
use Rattle.evaluator.specs.Ground.{Ground, world_on}
use Rattle.data.specs.Layouts.{Laid}
use Rattle.data.specs.Running.{before, Before, Carries, RunsFrom, PositionRuns}
use Rattle.data.proofs.Rows.{stores-given}
use Rattle.data.proofs.Laying.{laid-places, laid-numbers}
use Rattle.data.proofs.Positions.{bound-length}
use Rattle.store.specs.Table.{Table}

-- ---- what evaluation reads while data is read

unfoldable pub world : (s ns ts : List ℕ) (ds : Table) (given : ℕ) (st : Store) → Ground s ns ts → Stores ds given st → World ns ts ds given
world s ns ts ds given st g h = world_on g (stores-given ds given st h)

-- ---- the run of an entry

module _ (sc : Held) (b : Bounds) (r : Result ℕ Refused) (told : r ≡ run_answer b.limits b.number sc b.place) where
  h : RunIs b.limits b.number sc b.place r
  h = run_is b.limits b.number sc b.place r told

  pub run-wrong : (e : Refused) → r ≡ Err e → RunsFrom sc b (Err e)
  run-wrong z e = record { is = λ s known. h.is s known ∙ ap (λ r. Values.run_outcome b.limits r) e; short = λ s. tt }

  pub run-counted : (n : ℕ) → r ≡ Ok n → RunsFrom sc b (Ok (b.limits, n))
  run-counted n e =
      record {
        is = λ s known. h.is s known ∙ ap (λ r. Values.run_outcome b.limits r) e;
        short = λ s. (s, omega (arith, h.count s n e), h.short n e);
      }

-- ---- the entry of a position

-- the entry that stands at a, in the scope t
record EntryOf (names : List Name) (s ts : List ℕ) (d : Spans) (b : Bound) (j : ℕ) (sc : Scope) (a : ℕ) (t : Scope) : Type 0 where
  index : ℕ
  place : ℕ
  lower : Formula
  upper : Formula
  rest : List Token
  reads : ReadsEntry names index lower upper place (from s ts a) rest
  runs : position_run d b j sc ≡ (limits_of (eval lower t) (eval upper t) >>= λ l. run_of l index t place)

entry_of : (names : List Name) (s ts : List ℕ) (d : Spans) (l k : List ℕ) → Laid names s ts d l k → (b : Bound) → length b ≡ size d → (j : ℕ) → j < size d → (sc : Scope)
    → EntryOf names s ts d b j sc (get_or l j 0) (before k b j sc)
unfolding position_run before size
entry_of names s ts point [] [] h b e j f sc = absurd (omega arith)
entry_of names s ts point [] (i ∷ k) h b e j f sc = absurd h
entry_of names s ts point (a ∷ l) k h b e j f sc = absurd h
entry_of names s ts (span i f g q d) [] k h b e j w sc = absurd h
entry_of names s ts (span i f g q d) (a ∷ l) [] h b e j w sc = absurd h
entry_of names s ts (span i f g q d) (a ∷ l) (i' ∷ k) h [] e j w sc = absurd (omega arith)
entry_of names s ts (span i f g q d) (a ∷ l) (i' ∷ k) (m, x, same, more) (y ∷ b) e zero w sc =
    record { index = i'; place = q; lower = f; upper = g; rest = m; reads = x; runs = ap (λ i. limits_of (eval f sc) (eval g sc) >>= λ l. run_of l i sc q) same }
entry_of names s ts (span i f g q d) (a ∷ l) (i' ∷ k) (m, x, same, more) (y ∷ b) e (suc j) w sc =
    later (entry_of names s ts d l k more b (omega arith) j (omega arith) (bind_if i' y sc))
  where
    later : EntryOf names s ts d b j (bind_if i' y sc) (get_or l j 0) (before k b j (bind_if i' y sc))
        → EntryOf names s ts (span i f g q d) (y ∷ b) (suc j) sc (get_or l j 0) (before k b j (bind_if i' y sc))
    later r =
        record { index = r.index; place = r.place; lower = r.lower; upper = r.upper; rest = r.rest; reads = r.reads; runs = ap (λ i. position_run d b j (bind_if i y sc)) same ∙ r.runs }

-- behind the last entry nothing runs
run_past : (d : Spans) (b : Bound) (j : ℕ) (sc : Scope) → size d ≤ j → position_run d b j sc ≡ done []
unfolding position_run size
run_past point b j sc h = refl
run_past (span i f g q d) [] j sc h = refl
run_past (span i f g q d) (x ∷ b) zero sc h = absurd (omega arith)
run_past (span i f g q d) (x ∷ b) (suc j) sc h = run_past d b j (bind_if i x sc) (omega arith)

-- limits that were walked
limits-refused : (o : Outcome Limits) (i q : ℕ) (l : List Token) (n : Refusal) (p : ℕ)
    → as_read {A = walk.Bounds} (o >>= λ l. done (record { number = i; place = q; limits = l })) l ≡ refused n p → o ≡ refused n p
limits-refused (done x) i q l n p e = absurd (refused-done (sym e))
limits-refused (refused m z) i q l n p e = cc

limits-done : (o : Outcome Limits) (i q : ℕ) (l : List Token) (b : walk.Bounds) (m : List Token)
    → as_read (o >>= λ l. done (record { number = i; place = q; limits = l })) l ≡ done (record { what = b; rest = m }) → (o ≡ done b.limits) × (i ≡ b.number) × (q ≡ b.place)
limits-done (done x) i q l b m e =
    let w : ◌≡◌ {A = walk.Bounds} (record { number = i; place = q; limits = x }) b = ap (λ (r : Read walk.Bounds). r.what) (done-injective e) in
    (ap (λ (b : walk.Bounds). done b.limits) w, ap (λ (b : walk.Bounds). b.number) w, ap (λ (b : walk.Bounds). b.place) w)
limits-done (refused n p) i q l b m e = absurd (refused-done e)

-- ---- the run of a position

module _ (ns ts : List ℕ) (ds : Table) (given : ℕ) (h : Worked) (e : Entries) (j : ℕ) where
  pub position_past : (n : ℕ) → n ≡ length (numbers_of h.layout.starts) → n ≤ j → PositionRuns ns ts ds given h e j (Ok ((record { lower = pos 1; upper = pos 0 }), 0))
  unfolding mantissa_limit
  position_past n f i =
      record {
        is = λ s x c st k.
            run_past x.domain (bound_of (entries_of e)) j (Store.scope_of st)
            (omega (arith, laid-places (take h.name c.ground.names) s ts x.domain (numbers_of h.layout.starts) (numbers_of h.layout.indices) c.portrays.laid));
        short = λ s x c st k. (record { low = omega arith; high = omega arith }, omega arith, omega arith);
      }

  module _ (n : ℕ) (f : n ≡ length (numbers_of h.layout.starts)) (i : j < n) (sc : Held) (w : Before e h.layout.indices j sc) (a : ℕ) (y : a ≡ get_or (numbers_of h.layout.starts) j 0) (z : Result (Bounds × ℕ) Refused)
      (v : EntryIs (entry_in 12) ns ts ds given h.name sc a z) where
    -- the entry, with what its tokens give
    module _ (s : List ℕ) (x : Portion) (c : Carries s ns ts h e x) (st : Store) (k : Stores ds given st) where
      abbrev visible : List Name
      visible = take h.name c.ground.names

      abbrev here : World ns ts ds given
      here = world s ns ts ds given st c.ground k

      scope-is : scope_of (stored st) sc ≡ before (numbers_of h.layout.indices) (bound_of (entries_of e)) j (record { known = stored st; bound = [] })
      scope-is =
          w.is (laid-numbers visible s ts x.domain (numbers_of h.layout.starts) (numbers_of h.layout.indices) c.portrays.laid ∙ sym c.long) (stored st)

      entry : EntryOf visible s ts x.domain (bound_of (entries_of e)) j (record { known = stored st; bound = [] }) a (scope_of (stored st) sc)
      entry =
          subst (EntryOf visible s ts x.domain (bound_of (entries_of e)) j (record { known = stored st; bound = [] }) a) (sym scope-is)
          (subst (λ a. EntryOf visible s ts x.domain (bound_of (entries_of e)) j (record { known = stored st; bound = [] }) a (before (numbers_of h.layout.indices) (bound_of (entries_of e)) j (record { known = stored st; bound = [] })))
          (sym y)
          (entry_of visible s ts x.domain (numbers_of h.layout.starts) (numbers_of h.layout.indices) c.portrays.laid (bound_of (entries_of e)) (bound-length (entries_of e) ∙ c.long) j
          (omega (arith, laid-places visible s ts x.domain (numbers_of h.layout.starts) (numbers_of h.layout.indices) c.portrays.laid))
          (record { known = stored st; bound = [] })))

      abbrev limits : Outcome Limits
      limits = limits_of (eval entry.lower (scope_of (stored st) sc)) (eval entry.upper (scope_of (stored st) sc))

      walked : (o : Result (Bounds × ℕ) Refused) → z ≡ o → as_read (limits >>= λ l. done (record { number = entry.index; place = entry.place; limits = l })) entry.rest ≡ bounds_outcome s ts o
      unfolding entry_in nesting_limit world
      walked o q =
          sym (entry-walk visible entry.index entry.lower entry.upper entry.place (from s ts a) entry.rest entry.reads (scope_of (stored st) sc))
          ∙ v.is here (w.small c.small) ∙ ap (bounds_outcome s ts) q

    pub position-wrong : (w : Refused) → z ≡ Err w → PositionRuns ns ts ds given h e j (Err w)
    unfolding Store.scope_of
    position-wrong z q =
        record {
          is = λ s x c st k.
              let t = entry s x c st k in
              t.runs ∙ ap (λ o. o >>= λ l. run_of l t.index (scope_of (stored st) sc) t.place) (limits-refused (limits s x c st k) t.index t.place t.rest z.refusal z.place (walked s x c st k (Err z) q));
          short = λ s x c st k. tt;
        }

    pub position_runs : (b : Bounds) (o : ℕ) (r : Result (Reach × ℕ) Refused) → z ≡ Ok (b, o) → RunsFrom sc b r → PositionRuns ns ts ds given h e j r
    unfolding Store.scope_of
    position_runs b o r q g =
        record {
          is = λ s x c st k.
              let t = entry s x c st k in
              let (d, i, p) = limits-done (limits s x c st k) t.index t.place t.rest (record { number = b.number; place = b.place; limits = limits_in b.limits }) (from s ts o) (walked s x c st k (Ok (b, o)) q) in
              t.runs ∙ ap (λ o. o >>= λ l. run_of l t.index (scope_of (stored st) sc) t.place) d
              ∙ ap (λ i. run_of (limits_in b.limits) i (scope_of (stored st) sc) t.place) i ∙ ap (run_of (limits_in b.limits) b.number (scope_of (stored st) sc)) p
              ∙ g.is (small s x c st k) (stored st);
          short = λ s x c st k. g.short (small s x c st k);
        }
      where
        small : (s : List ℕ) (x : Portion) → Carries s ns ts h e x → (st : Store) → Stores ds given st → SmallLimits b.limits
        small s x c st k = subst SmallEntered q (v.small (world s ns ts ds given st c.ground k) (w.small c.small))
