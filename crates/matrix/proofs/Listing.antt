-- Laws of the list of constraints: each in its row, one after the other, and all of them.
use Rattle.std.specs.Prelude.{Err, Ok, Result}
use Rattle.rules.specs.declared.Refused.{Refused}
use mathlib.Core.Path.{◌≡◌, refl, ◌∙◌, subst}
use mathlib.Core.Bool.{Bool, true, false}
use mathlib.Core.List.{List, [], ◌∷◌}
use Prim.Native.Nat.{ℕ, zero, suc, ◌+◌, ◌<◌, ◌≤◌}
use native.Mathlib.Numerals.{add-one}
use native.Mathlib.Omega.{arith}
use lib.ListN.{length, take, drop, length-take, drop_of_length-le}
use lib.Seq.{get_or-take}
use lib.IntN.{ℤ}
use Rattle.rules.specs.declared.Refusal.{Refusal}
use Rattle.rules.specs.Limits.{variable_limit, constraint_limit}
use Rattle.language.specs.Outcome.{Outcome, done, refused}
use Rattle.language.specs.Scope.{Scope as Bindings}
use Rattle.language.specs.Syntax.{Name, Constraint}
use Rattle.language.specs.Evaluation.{over}
use Rattle.language.specs.Numbering.{Variable, Entry, add_entry, add_entries}
use Rattle.store.specs.Key.{name_bound}
use Rattle.evaluator.specs.Cycle.{nothing_bound}
use Rattle.constraints.specs.declared.Record.{Record}
use Rattle.constraints.specs.Rows.{is_bare, no_row, row_at, RowOf, Rows}
use Rattle.matrix.specs.declared.parts.Parts.{Parts}
use Rattle.matrix.specs.Parts.Parts.{PartsAre}
use Rattle.rows.specs.declared.Filled.{Filled}
use Rattle.rows.proofs.Slotting.{rows_none}
use Rattle.rows.proofs.Bounding.{bounds-none}
use Rattle.gatherer.specs.Cycle.{Model}
use Rattle.matrix.specs.Answers.{State, Adds, AddsBounds, Stays, Takes, RowsAdd, BoundsAdd, OneAdds, AllAdd, Generates}
use Rattle.store.specs.Table.{Table}
use Rattle.rows.specs.Bounds.{BoundTable, nth_bound, unstated}

-- ---- one constraint

module _ (ns ts : List ℕ) (ds : Table) (given : ℕ) (xs : Table) (total : ℕ) (cs : List Record) (k : ℕ) (f : Filled) (t : Table) (b : BoundTable) (m : List ℤ) (p : Parts) (h : PartsAre ts cs k p) where
  -- what the row tells
  takes : (w : Model ns ts ds given xs total) → k < name_bound → (c : Constraint) → RowOf w.world.text ts (row_at cs k) w.world.names c → Takes ns ts ds given xs total w k c p
  takes w n c r = record { tells = h.is w.world.text w.world.names c r; numbered = n }

  side-is : (v : Bool) → p.bare ≡ v → (w : Model ns ts ds given xs total) (c : Constraint) → RowOf w.world.text ts (row_at cs k) w.world.names c → is_bare c.left ≡ v
  side-is v i w c r = (h.is w.world.text w.world.names c r).bare ∙ i

  pub one-rows : p.bare ≡ false → (r : Result Filled Refused) (t' : Table) (m' : List ℤ) → RowsAdd ns ts ds given xs total k p f t m r t' m' → OneAdds ns ts ds given xs total cs k f t b m r t' b m'
  one-rows i r t' m' a = record { stays = a.stays; adds = λ w n c row es st. a.adds w c (takes w n c row) (side-is false i w c row) b es st }

  module _ (i : p.bare ≡ true) (q : Result Unit Refused) (b' : BoundTable) (a : BoundsAdd ns ts ds given xs total p b q b') where
    pub one-bounds : q ≡ Ok tt → OneAdds ns ts ds given xs total cs k f t b m (Ok f) t b' m
    one-bounds j =
        record {
          stays = refl;
          adds = λ w n c row es st.
              subst (λ z. AddsBounds w.variables (over c.domain (nothing_bound w.world) (add_entry w.variables k c) es) z t m b' f) j
              (a.adds w k c (takes w n c row) (side-is true i w c row) t m f es st);
        }

    pub one-refused : (e : Refused) → q ≡ Err e → OneAdds ns ts ds given xs total cs k f t b m (Err e) t b' m
    one-refused y j =
        record {
          stays = refl;
          adds = λ w n c row es st.
              subst (λ z. AddsBounds w.variables (over c.domain (nothing_bound w.world) (add_entry w.variables k c) es) z t m b' f) j
              (a.adds w k c (takes w n c row) (side-is true i w c row) t m f es st);
        }

-- ---- rows of the table

record RowHere (s ts : List ℕ) (names : List Name) (u : List Record) (l : List Constraint) (k : ℕ) : Type 0 where
  constraint : Constraint
  here : drop k l ≡ constraint ∷ drop (suc k) l
  row : RowOf s ts (row_at u k) names constraint

row_here : (s ts : List ℕ) (names : List Name) (u : List Record) (l : List Constraint) → Rows s ts u names l → (k : ℕ) → k < length u → RowHere s ts names u l k
row_here s ts names [] l h k g = absurd (omega arith)
row_here s ts names (r ∷ u) [] h k g = absurd h
row_here s ts names (r ∷ u) (x ∷ l) h zero g = record { constraint = x; here = refl; row = h.0 }
row_here s ts names (r ∷ u) (x ∷ l) h (suc k) g =
    let y = row_here s ts names u l h.1 k (omega arith) in
    record { constraint = y.constraint; here = y.here; row = y.row }

rows-length : (s ts : List ℕ) (names : List Name) (u : List Record) (l : List Constraint) → Rows s ts u names l → length l ≡ length u
rows-length s ts names [] [] h = refl
rows-length s ts names [] (x ∷ l) h = absurd h
rows-length s ts names (r ∷ u) [] h = absurd h
rows-length s ts names (r ∷ u) (x ∷ l) h = omega (arith, rows-length s ts names u l h.1)

-- the row in the whole table
row-whole : (s ts : List ℕ) (names : List Name) (cs : List Record) (count k : ℕ) (x : Constraint) → k < count → RowOf s ts (row_at (take count cs) k) names x → RowOf s ts (row_at cs k) names x
row-whole s ts names cs count k x g h = subst (λ z. RowOf s ts z names x) (get_or-take count cs k no_row g) h

-- ---- one constraint more

module _ (vs : List Variable) (s : Bindings) (k : ℕ) (l : List Constraint) (es : List Entry) where
  entries_none : drop k l ≡ [] → add_entries vs s k (drop k l) es ≡ done es
  unfolding add_entries
  entries_none e = rw e

  module _ (c : Constraint) (e : drop k l ≡ c ∷ drop (suc k) l) where
    entries-refused : (r : Refusal) (p : ℕ) → over c.domain s (add_entry vs k c) es ≡ refused r p → add_entries vs s k (drop k l) es ≡ refused r p
    unfolding add_entries
    entries-refused r p h = rw (e, h)

    entries-more : (fs : List Entry) → over c.domain s (add_entry vs k c) es ≡ done fs → add_entries vs s k (drop k l) es ≡ add_entries vs s (k + 1) (drop (k + 1) l) fs
    unfolding add_entries
    entries-more fs h = rw (e, h, add-one k)

-- ---- the loop

module _ (ns ts : List ℕ) (ds : Table) (given : ℕ) (xs : Table) (total : ℕ) (cs : List Record) (count : ℕ) (t₀ : Table) (b₀ : BoundTable) (m₀ : List ℤ) where
  abbrev all-entries : (w : Model ns ts ds given xs total) → List Constraint → Outcome (List Entry)
  all-entries w l = add_entries w.variables (nothing_bound w.world) 0 l []

  record AllAt (w : Model ns ts ds given xs total) (l : List Constraint) (f : Filled) (t : Table) (b : BoundTable) (m : List ℤ) (k : ℕ) : Type 0 where
    entries : List Entry
    state : State w.variables t m b f entries
    due : all-entries w l ≡ add_entries w.variables (nothing_bound w.world) k (drop k l) entries

  pub record AllOn (f : Filled) (t : Table) (b : BoundTable) (m : List ℤ) (k : ℕ) : Type 0 where
    pub few : total ≤ 512
    pub rowed : 64 ≤ length cs
    pub room : 1026 ≤ length t
    pub words : 512 ≤ length b
    pub wide : 263168 ≤ length m
    pub slots : length t ≡ length t₀
    pub bounds : length b ≡ length b₀
    pub counts : length m ≡ length m₀
    pub within : k ≤ count
    stays : Stays total m₀ m
    on : (w : Model ns ts ds given xs total) → count ≤ constraint_limit → (l : List Constraint) → Rows w.world.text ts (take count cs) w.world.names l
        → ((i : ℕ) → nth_bound b₀ i ≡ unstated) → AllAt w l f t b m k

  pub all_start : total ≤ 512 → 64 ≤ length cs → 1026 ≤ length t₀ → 512 ≤ length b₀ → 263168 ≤ length m₀ → AllOn (record { less = 0; equal = 0 }) t₀ b₀ m₀ 0
  all_start a b c d e =
      record {
        few = a;
        rowed = b;
        room = c;
        words = d;
        wide = e;
        slots = refl;
        bounds = refl;
        counts = refl;
        within = omega arith;
        stays = refl;
        on = λ w i l r z. record { entries = []; state = record { rows = rows_none w.variables t₀ m₀; bounds = bounds-none b₀ (length w.variables) z }; due = refl };
      }

  module _ (f : Filled) (t : Table) (b : BoundTable) (m : List ℤ) (k : ℕ) (o : AllOn f t b m k) where
    size-rows : count ≤ constraint_limit → length (take count cs) ≡ count
    unfolding constraint_limit
    size-rows h = length-take count cs ∙ omega (arith, o.rowed)

    pub all_done : count ≤ k → AllAdd ns ts ds given xs total cs count b₀ m₀ (Ok f) t b m
    all_done g =
        record {
          stays = o.stays;
          adds = λ w i l r z.
              let x = o.on w i l r z in
              let n : length l ≤ k = omega (arith, rows-length w.world.text ts w.world.names (take count cs) l r, size-rows i) in
              record { entries = x.entries; is = x.due ∙ entries_none w.variables (nothing_bound w.world) k l x.entries (drop_of_length-le l n); state = x.state };
        }

    module _ (g : k < count) (q : Result Filled Refused) (t' : Table) (b' : BoundTable) (m' : List ℤ) (a : OneAdds ns ts ds given xs total cs k f t b m q t' b' m') where
      -- the constraint in row k
      next_row : (w : Model ns ts ds given xs total) → count ≤ constraint_limit → (l : List Constraint) → Rows w.world.text ts (take count cs) w.world.names l → RowHere w.world.text ts w.world.names (take count cs) l k
      next_row w i l r = row_here w.world.text ts w.world.names (take count cs) l r k (omega (arith, size-rows i))

      adds-next : (w : Model ns ts ds given xs total) (i : count ≤ constraint_limit) (l : List Constraint) (r : Rows w.world.text ts (take count cs) w.world.names l) (x : AllAt w l f t b m k)
          → Adds w.variables (over (next_row w i l r).constraint.domain (nothing_bound w.world) (add_entry w.variables k (next_row w i l r).constraint) x.entries) q t' m' b'
      unfolding constraint_limit name_bound
      adds-next w i l r x =
          let c = next_row w i l r in
          a.adds w (omega arith) c.constraint (row-whole w.world.text ts w.world.names cs count k c.constraint g c.row) x.entries x.state

      pub all-refused : (e : Refused) → q ≡ Err e → AllAdd ns ts ds given xs total cs count b₀ m₀ (Err e) t' b' m'
      all-refused u j =
          record {
            stays = a.stays ∙ o.stays;
            adds = λ w i l r z.
                let x = o.on w i l r z in
                let c = next_row w i l r in
                let y = subst (λ z. Adds w.variables (over c.constraint.domain (nothing_bound w.world) (add_entry w.variables k c.constraint) x.entries) z t' m' b') j (adds-next w i l r x) in
                x.due ∙ entries-refused w.variables (nothing_bound w.world) k l x.entries c.constraint c.here u.refusal u.place y;
          }

      pub all_more : (h : Filled) → q ≡ Ok h → length t' ≡ length t → length b' ≡ length b → length m' ≡ length m → AllOn h t' b' m' (k + 1)
      all_more h j ht hb hm =
          record {
            few = o.few;
            rowed = o.rowed;
            room = omega (arith, o.room);
            words = omega (arith, o.words);
            wide = omega (arith, o.wide);
            slots = ht ∙ o.slots;
            bounds = hb ∙ o.bounds;
            counts = hm ∙ o.counts;
            within = omega arith;
            stays = a.stays ∙ o.stays;
            on = λ w i l r z.
                let x = o.on w i l r z in
                let c = next_row w i l r in
                let y = subst (λ z. Adds w.variables (over c.constraint.domain (nothing_bound w.world) (add_entry w.variables k c.constraint) x.entries) z t' m' b') j (adds-next w i l r x) in
                record {
                  entries = y.entries;
                  state = y.state;
                  due = x.due ∙ entries-more w.variables (nothing_bound w.world) k l x.entries c.constraint c.here y.entries y.is;
                };
          }

-- ---- at most 512 variables

module _ (ns ts : List ℕ) (ds : Table) (given : ℕ) (xs : Table) (total : ℕ) (cs : List Record) (count : ℕ) (b : BoundTable) (m : List ℤ) (r : Result Filled Refused) (t' : Table) (b' : BoundTable) (m' : List ℤ) where
  pub too_many : 512 < total → Generates ns ts ds given xs total cs count b m r t' b' m'
  unfolding variable_limit
  too_many h = record { all = λ g. absurd (omega arith) }

  pub few-enough : AllAdd ns ts ds given xs total cs count b m r t' b' m' → Generates ns ts ds given xs total cs count b m r t' b' m'
  few-enough h = record { all = λ _. h }
