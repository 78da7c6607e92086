-- Laws of a portion carried out over plain variables: the positions still to run, and the turns of a run.
use Rattle.std.specs.Prelude.{Err, Ok, Result}
use Rattle.rules.specs.declared.Refused.{Refused}
use mathlib.Core.Path.{◌≡◌, refl, sym, ◌∙◌, ap, subst}
use mathlib.Core.List.{List, [], ◌∷◌}
use Prim.Native.Nat.{ℕ, zero, suc, ◌+◌, ◌-◌, ◌<◌, ◌≤◌, ◌^◌}
use native.Mathlib.Omega.{arith}
use lib.ListN.{length, get_or, drop_of_length-le}
use lib.Seq.{drop-cons}
use lib.IntN.{ℤ, pos, ◌+ℤ◌, +ℤ_assoc, +ℤ_idr}
use lib.Signed.{mag}
use mir.Syntax.{w64}
use mir.Val.{to_z, of_z}
use Rattle.value.proofs.Integers.{back}
use Rattle.rules.specs.Limits.{run_limit, index_limit}
use Rattle.language.specs.Outcome.{Outcome, done, refused}
use Rattle.language.specs.Reader.{Reader, Read, follow, as_read, look}
use Rattle.language.specs.Ranges.{up_from}
use Rattle.language.specs.Store.{Store, Portion, Bound, set_at, element_of, position_run}
use Rattle.language.specs.Store as Store
use Rattle.language.specs.Data.{bound_of, each_read, runs}
use Rattle.language.proofs.ValidStore.{set_at-small, element_of-small}
use Rattle.tokens.specs.declared.Seen.{Seen}
use Rattle.tokens.specs.Stored.{from, Sees, Looks}
use Rattle.tokens.proofs.Moved.{look_is}
use Rattle.store.specs.declared.Element.{Element}
use Rattle.store.specs.Element.{list_of}
use Rattle.store.proofs.Elements as Elements
use Rattle.evaluator.specs.declared.steps.values.Limits.{Limits}
use Rattle.evaluator.specs.Steps.Values.{number_in}
use Rattle.evaluator.proofs.steps.Runs.{number_small}
use Rattle.evaluator.proofs.Turns.{nth-small}
use Rattle.data.specs.declared.reading.entries.Entries.{Entries}
use Rattle.data.specs.Reading.Few.{numbers_of}
use Rattle.data.specs.Reading.Entries.{entries_of}
use Rattle.data.proofs.reading.Lists.{length-few}
use Rattle.data.specs.declared.running.Portion.{Portion as Worked}
use Rattle.data.specs.Stores.{Stores}
use Rattle.data.specs.Running.{Carries, run_outcome, ShortRun, PositionRuns}
use Rattle.data.specs.Taking.{TakenIs, Takes}
use Rattle.data.specs.Carrying.{left, RunsTo, Counts, EachTo}
use Rattle.data.proofs.Rows.{element-small}
use Rattle.data.proofs.Positions.{bound-length, element-length}
use Rattle.store.specs.Table.{Table}

-- ---- no position is left

module _ (ns ts : List ℕ) (ds : Table) (given at : ℕ) (h : Worked) (k : ℕ) (e : Entries) (n : ℕ) (c : n ≡ length (numbers_of h.order)) where
  pub runs_number : (w : Element) (r : Result (ℕ × ℕ) Refused) (ds' : Table) → n ≤ k → list_of w ≡ element_of (bound_of (entries_of e)) → Takes ns ts ds given at h w r ds' → RunsTo ns ts ds given at h k e r ds'
  unfolding runs index_limit
  runs_number w r ds' i d t =
      record {
        is = λ s x a st g.
            rw (drop_of_length-le (numbers_of h.order) {i = k} (omega arith), ← d)
            (t.is s x
            (record {
              ground = a.ground;
              portrays = a.portrays;
              long = ap length d ∙ element-length (bound_of (entries_of e)) ∙ bound-length (entries_of e) ∙ a.long;
              small = record { few = Elements.length-few w; small = rw d (element-small (element_of (bound_of (entries_of e))) (element_of-small (bound_of (entries_of e)) a.small)) };
            })
            st g);
      }

  module _ (i : k < n) (t : Result Seen Refused) (l : Looks ts at t) where
    sees : (s : List ℕ) (w : Result Seen Refused) → t ≡ w → Sees s ts at w
    sees s w q = subst (Sees s ts at) q (l.sees s)

    next-position : left h k ≡ get_or (numbers_of h.order) k 0 ∷ left h (k + 1)
    next-position = let y : k + 1 ≡ suc k = omega arith in rw y (drop-cons (numbers_of h.order) k 0 (omega arith))

    -- the turns of the next position
    turns : Portion → Store → List ℤ → Reader Store
    turns x st ks = each_read (λ z st. runs x (left h (k + 1)) (set_at (get_or (numbers_of h.order) k 0) z (bound_of (entries_of e))) st) ks st

    stepped : (s : List ℕ) (x : Portion) (st : Store)
        → runs x (left h k) (bound_of (entries_of e)) st (from s ts at)
        ≡ follow (look (from s ts at)) (λ _ ts. follow (as_read (position_run x.domain (bound_of (entries_of e)) (get_or (numbers_of h.order) k 0) (Store.scope_of st)) ts) (turns x st))
    unfolding runs turns
    stepped s x st = ap (λ js. runs x js (bound_of (entries_of e)) st (from s ts at)) next-position

    pub runs-wrong : (w : Refused) (ds' : Table) → t ≡ Err w → RunsTo ns ts ds given at h k e (Err w) ds'
    runs-wrong z ds' d = record { is = λ s x a st g. rw (stepped s x st, (sees s (Err z) d).looks) (refl, refl) }

    module _ (y : Seen) (j : ℕ) (d : t ≡ Ok y) (f : j ≡ get_or (numbers_of h.order) k 0) (u : Result (Limits × ℕ) Refused) (v : PositionRuns ns ts ds given h e j u) where
      run_is : (s : List ℕ) (x : Portion) (a : Carries s ns ts h e x) (st : Store) → Stores ds given st → (o : Result (Limits × ℕ) Refused) → u ≡ o
          → runs x (left h k) (bound_of (entries_of e)) st (from s ts at) ≡ follow (as_read (run_outcome o) (from s ts at)) (turns x st)
      run_is s x a st g o q =
          stepped s x st
          ∙ ap (λ r. follow r (λ _ ts. follow (as_read (position_run x.domain (bound_of (entries_of e)) (get_or (numbers_of h.order) k 0) (Store.scope_of st)) ts) (turns x st))) (look_is s ts at y (sees s (Ok y) d))
          ∙ ap (λ r. follow (as_read r (from s ts at)) (turns x st)) (ap (λ j. position_run x.domain (bound_of (entries_of e)) j (Store.scope_of st)) (sym f) ∙ v.is s x a st g ∙ ap run_outcome q)

      pub runs-refused : (w : Refused) (ds' : Table) → u ≡ Err w → RunsTo ns ts ds given at h k e (Err w) ds'
      runs-refused z ds' o = record { is = λ s x a st g. rw (run_is s x a st g (Err z) o) (refl, refl) }

      pub runs-each : (w : Limits) (o : ℕ) (r : Result (ℕ × ℕ) Refused) (ds' : Table) → u ≡ Ok (w, o) → EachTo ns ts ds given at h k e w o r ds' → RunsTo ns ts ds given at h k e r ds'
      unfolding turns
      runs-each w o r ds' q g =
          record {
            is = λ s x a st i.
                let (small, within, short) = subst ShortRun q (v.short s x a st i) in
                rw (run_is s x a st i (Ok (w, o)) q) (g.is s x a (record { small = small; within = within; short = short }) st i);
          }

pub few-positions : (h : Worked) (k n : ℕ) → n ≡ length (numbers_of h.order) → k < n → k < 4
few-positions h k n e i = omega (arith, length-few h.order)

-- ---- the turns of a run

up_first : (a : ℤ) (i n : ℕ) → i < n → up_from (a +ℤ pos i) (n - i) ≡ (a +ℤ pos i) ∷ up_from (a +ℤ pos (i + 1)) (n - (i + 1))
up_first a i n h =
    let d : n - i ≡ suc (n - (i + 1)) = omega arith in
    rw d (ap (λ b. (a +ℤ pos i) ∷ up_from b (n - (i + 1))) (+ℤ_assoc a (pos i) (pos 1)))

set_at-length : (j : ℕ) (z : ℤ) (b : Bound) → length (set_at j z b) ≡ length b
unfolding set_at
set_at-length j z [] = refl
set_at-length zero z (x ∷ b) = refl
set_at-length (suc j) z (x ∷ b) = ap suc (set_at-length j z b)

module _ (ns ts : List ℕ) (ds : Table) (given at : ℕ) (h : Worked) (k : ℕ) (e : Entries) (l : Limits) (n : ℕ) where
  -- the later positions for one number
  pub turn : Portion → ℤ → Store → Reader Store
  turn x z st = runs x (left h (k + 1)) (set_at (get_or (numbers_of h.order) k 0) z (bound_of (entries_of e))) st

  pub record EachSo (s : List ℕ) (x : Portion) (st : Store) (a count i : ℕ) (us : Table) : Type 0 where
    pub store : Store
    pub holds : Stores us count store
    pub same : each_read (turn x) (up_from l.lower n) st (from s ts at) ≡ each_read (turn x) (up_from (l.lower +ℤ pos i) (n - i)) store (from s ts a)

  -- i turns are done, with the table us
  pub record EachOn (a count i : ℕ) (us : Table) : Type 0 where
    pub on : (s : List ℕ) (x : Portion) → Carries s ns ts h e x → Counts l n → (st : Store) → Stores ds given st → EachSo s x st a count i us

  pub each_start : EachOn at given 0 ds
  each_start =
      let d : n - 0 ≡ n = omega arith in
      record { on = λ s x a c st g. record { store = st; holds = g; same = rw (d, +ℤ_idr l.lower) refl } }

  module _ (a count i : ℕ) (us : Table) (o : EachOn a count i us) where
    pub each-end : n ≤ i → EachTo ns ts ds given at h k e l n (Ok (a, count)) us
    unfolding turn each_read
    each-end q =
        record {
          is = λ s x b c st g.
              let d : n - i ≡ 0 = omega arith in
              let m = o.on s x b c st g in
              subst (λ r. TakenIs r s ts us (Ok (a, count))) (sym (m.same ∙ ap (λ j. each_read (turn x) (up_from (l.lower +ℤ pos i) j) m.store (from s ts a)) d)) (refl, m.holds);
        }

    module _ (q : i < n) (j : ℕ) (f : j ≡ get_or (numbers_of h.order) k 0) (z : ℤ) (v : z ≡ number_in l i) (fits : mag z < 2 ^ 63) (e' : Entries) (held : bound_of (entries_of e') ≡ set_at j (to_z w64 (of_z w64 z)) (bound_of (entries_of e))) (r : Result (ℕ × ℕ) Refused) (us' : Table)
        (p : RunsTo ns ts us count a h (k + 1) e' r us') where
      w : bound_of (entries_of e') ≡ set_at j z (bound_of (entries_of e))
      w = held ∙ ap (λ z. set_at j z (bound_of (entries_of e))) (back {z = z} fits)

      number_is : Counts l n → z ≡ l.lower +ℤ pos i
      unfolding run_limit
      number_is c = v ∙ number_small l i c.small.low (omega (arith, c.short))

      -- the positions with one more bound
      inner : (s : List ℕ) (x : Portion) → Carries s ns ts h e x → Counts l n → Carries s ns ts h e' x
      inner s x b c =
          record {
            ground = b.ground;
            portrays = b.portrays;
            long = sym (bound-length (entries_of e')) ∙ ap length w ∙ set_at-length j z (bound_of (entries_of e)) ∙ bound-length (entries_of e) ∙ b.long;
            small = rw (w, number_is c) (set_at-small j (l.lower +ℤ pos i) (bound_of (entries_of e)) (nth-small l i c.small (omega (arith, c.within))) b.small);
          }

      -- one turn more
      turned : (s : List ℕ) (x : Portion) (b : Carries s ns ts h e x) (c : Counts l n) (st : Store) (g : Stores ds given st) → TakenIs (turn x (l.lower +ℤ pos i) (o.on s x b c st g).store (from s ts a)) s ts us' r
      unfolding turn
      turned s x b c st g =
          subst (λ y. TakenIs (runs x (left h (k + 1)) y (o.on s x b c st g).store (from s ts a)) s ts us' r)
          (w ∙ ap (λ j. set_at j z (bound_of (entries_of e))) f ∙ ap (λ z. set_at (get_or (numbers_of h.order) k 0) z (bound_of (entries_of e))) (number_is c))
          (p.is s x (inner s x b c) (o.on s x b c st g).store (o.on s x b c st g).holds)

      unrolled : (s : List ℕ) (x : Portion) (b : Carries s ns ts h e x) (c : Counts l n) (st : Store) (g : Stores ds given st)
          → each_read (turn x) (up_from l.lower n) st (from s ts at)
          ≡ follow (turn x (l.lower +ℤ pos i) (o.on s x b c st g).store (from s ts a)) (λ st. each_read (turn x) (up_from (l.lower +ℤ pos (i + 1)) (n - (i + 1))) st)
      unfolding each_read
      unrolled s x b c st g = (o.on s x b c st g).same ∙ ap (λ ks. each_read (turn x) ks (o.on s x b c st g).store (from s ts a)) (up_first l.lower i n q)

      pub each-wrong : (w : Refused) → r ≡ Err w → EachTo ns ts ds given at h k e l n r us'
      unfolding turn
      each-wrong z d =
          record {
            is = λ s x b c st g. rw d (subst (λ u. TakenIs u s ts us' (Err z)) (sym (unrolled s x b c st g)) (go s x (turn x (l.lower +ℤ pos i) (o.on s x b c st g).store (from s ts a)) (subst (TakenIs (turn x (l.lower +ℤ pos i) (o.on s x b c st g).store (from s ts a)) s ts us') d (turned s x b c st g))));
          }
        where
          go : (s : List ℕ) (x : Portion) (u : Outcome (Read Store)) → TakenIs u s ts us' (Err z)
              → TakenIs (follow u (λ st. each_read (turn x) (up_from (l.lower +ℤ pos (i + 1)) (n - (i + 1))) st)) s ts us' (Err z)
          go s x (done u) t = absurd t
          go s x (refused m' y') t = t

      pub each_on : (b c : ℕ) → r ≡ Ok (b, c) → EachOn b c (i + 1) us'
      each_on b c d =
          record {
            on = λ s x m t st g. go s x st (turn x (l.lower +ℤ pos i) (o.on s x m t st g).store (from s ts a)) (unrolled s x m t st g) (subst (TakenIs (turn x (l.lower +ℤ pos i) (o.on s x m t st g).store (from s ts a)) s ts us') d (turned s x m t st g));
          }
        where
          go : (s : List ℕ) (x : Portion) (st : Store) (u : Outcome (Read Store))
              → each_read (turn x) (up_from l.lower n) st (from s ts at) ≡ follow u (λ st. each_read (turn x) (up_from (l.lower +ℤ pos (i + 1)) (n - (i + 1))) st)
              → TakenIs u s ts us' (Ok (b, c)) → EachSo s x st b c (i + 1) us'
          go s x st (done u) m t = record { store = u.what; holds = t.1; same = m ∙ ap (λ y. each_read (turn x) (up_from (l.lower +ℤ pos (i + 1)) (n - (i + 1))) u.what y) t.0 }
          go s x st (refused m' y') m t = absurd t
