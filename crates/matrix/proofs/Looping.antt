-- Laws of the loops over the elements of a constraint: they start, add an entry, are refused or end.
use Rattle.std.specs.Prelude.{Err, None, Ok, Option, Result, Some}
use Rattle.rules.specs.declared.Refused.{Refused}
use mathlib.Core.Path.{◌≡◌, refl, sym, ◌∙◌, subst}
use mathlib.Core.Bool.{true, false}
use mathlib.Core.List.{List, [], map}
use Prim.Native.Nat.{ℕ, ◌≤◌}
use native.Mathlib.Omega.{arith}
use lib.ListN.{length}
use lib.IntN.{ℤ}
use Rattle.language.specs.Outcome.{Outcome}
use Rattle.language.specs.Syntax.{Constraint}
use Rattle.language.specs.Evaluation.{over}
use Rattle.language.specs.Numbering.{Entry, add_entry}
use Rattle.store.specs.declared.Element.{Element}
use Rattle.store.specs.Element.{list_of}
use Rattle.evaluator.specs.declared.steps.scope.Scope.{Scope}
use Rattle.evaluator.specs.Steps.Scopes.{bindings_of}
use Rattle.evaluator.specs.Tables.{DomainAt}
use Rattle.evaluator.specs.Cycle.{nothing_bound, under}
use Rattle.constraints.specs.Rows.{is_bare}
use Rattle.elements.specs.declared.here.Here.{Here}
use Rattle.elements.specs.Held.{held, number_of, bound}
use Rattle.elements.specs.Steps.{FirstIs, NextIs}
use Rattle.elements.specs.Loops.{Remains}
use Rattle.elements.proofs.Held.{element_at, element-held}
use Rattle.elements.proofs.Loops.{loop-start, loop-more, loop-refused, loop-done, loop-stopped, loop-small, loop-subscripts}
use Rattle.matrix.specs.declared.parts.Parts.{Parts}
use Rattle.rows.specs.declared.Filled.{Filled}
use Rattle.gatherer.specs.Cycle.{Model}
use Rattle.matrix.specs.Answers.{State, Adds, AddsBounds, Stays, Takes, RowAdds, RowsAdd, BoundAdds, BoundsAdd}
use Rattle.matrix.proofs.Adding.{seen_all}
use Rattle.store.specs.Table.{Table}
use Rattle.rows.specs.Bounds.{BoundTable}

module _ (ns ts : List ℕ) (ds : Table) (given : ℕ) (xs : Table) (total : ℕ) where
  -- what is left to do at the elements that a step has
  abbrev Left : (w : Model ns ts ds given xs total) (n : ℕ) (c : Constraint) → Parts → Result (Option Here) Refused → List Entry → Outcome (List Entry) → Type 0
  Left w n c p = Remains w.world 64 p.count p.at (add_entry w.variables n c)

  abbrev whole : (w : Model ns ts ds given xs total) (n : ℕ) (c : Constraint) → List Entry → Outcome (List Entry)
  whole w n c es = over c.domain (nothing_bound w.world) (add_entry w.variables n c) es

  left-start : (w : Model ns ts ds given xs total) (n : ℕ) (c : Constraint) (p : Parts) → Takes ns ts ds given xs total w n c p → (r : Result (Option Here) Refused) → FirstIs ns ts ds given 64 p.count p.at r
      → (es : List Entry) → Left w n c p r es (whole w n c es)
  left-start w n c p k r f es =
      loop-start w.world 64 p.count p.at (add_entry w.variables n c) c.domain
      (subst (λ l. DomainAt w.world.text ts l c.domain p.at) (sym (seen_all ns ts ds given xs total w.world)) k.tells.domain) k.tells.count r f es

  -- ---- rows

  module _ (n : ℕ) (p : Parts) (f₀ : Filled) (t₀ : Table) (m₀ : List ℤ) where
    record RowsAt (w : Model ns ts ds given xs total) (c : Constraint) (b : BoundTable) (es : List Entry) (f : Filled) (t : Table) (m : List ℤ) (r : Result (Option Here) Refused) : Type 0 where
      entries : List Entry
      state : State w.variables t m b f entries
      remains : Left w n c p r entries (whole w n c es)

    -- C is what may be to come
    pub record RowsOn (f : Filled) (t : Table) (m : List ℤ) (C : Result (Option Here) Refused → Type 0) : Type 0 where
      pub few : total ≤ 512
      pub room : 1026 ≤ length t
      pub wide : 263168 ≤ length m
      pub slots : length t ≡ length t₀
      pub counts : length m ≡ length m₀
      stays : Stays total m₀ m
      on : (r : Result (Option Here) Refused) → C r → (w : Model ns ts ds given xs total) (c : Constraint) → Takes ns ts ds given xs total w n c p → is_bare c.left ≡ false
          → (b : BoundTable) (es : List Entry) → State w.variables t₀ m₀ b f₀ es → RowsAt w c b es f t m r

    pub rows_start : (C : Result (Option Here) Refused → Type 0) → ((r : Result (Option Here) Refused) → C r → FirstIs ns ts ds given 64 p.count p.at r)
        → total ≤ 512 → 1026 ≤ length t₀ → 263168 ≤ length m₀ → RowsOn f₀ t₀ m₀ C
    rows_start C i x y z = record { few = x; room = y; wide = z; slots = refl; counts = refl; stays = refl; on = λ r v w c k b bs es st. record { entries = es; state = st; remains = left-start w n c p k r (i r v) es } }

    module _ (f : Filled) (t : Table) (m : List ℤ) (C : Result (Option Here) Refused → Type 0) (s : RowsOn f t m C) (q : Result (Option Here) Refused) (v : C q) where
      pub rows-stopped : (e : Refused) → q ≡ Err e → RowsAdd ns ts ds given xs total n p f₀ t₀ m₀ (Err e) t m
      rows-stopped y e =
          record {
            stays = s.stays;
            adds = λ w c k b bs es st.
                let x = s.on q v w c k b bs es st in
                loop-stopped w.world 64 p.count p.at (add_entry w.variables n c) y x.entries (whole w n c es) (subst (λ z. Left w n c p z x.entries (whole w n c es)) e x.remains);
          }

      pub rows-done : q ≡ Ok None → RowsAdd ns ts ds given xs total n p f₀ t₀ m₀ (Ok f) t m
      rows-done e =
          record {
            stays = s.stays;
            adds = λ w c k b bs es st.
                let x = s.on q v w c k b bs es st in
                record {
                  entries = x.entries;
                  is = loop-done w.world 64 p.count p.at (add_entry w.variables n c) x.entries (whole w n c es) (subst (λ z. Left w n c p z x.entries (whole w n c es)) e x.remains);
                  state = x.state;
                };
          }

      module _ (h : Here) (e : q ≡ Ok (Some h)) (sc : Scope) (hs : bindings_of sc ≡ bound (held h) []) (l : Element) (hl : list_of l ≡ map number_of (held h)) (z : Result Filled Refused) (t' : Table) (m' : List ℤ)
          (add : RowAdds ns ts ds given xs total n p sc (list_of l) f t m z t' m') where
        -- the step at the element
        stepped : (w : Model ns ts ds given xs total) (c : Constraint) → Takes ns ts ds given xs total w n c p → is_bare c.left ≡ false → (b : BoundTable) (es : List Entry) → State w.variables t₀ m₀ b f₀ es
            → (x : RowsAt w c b es f t m (Ok (Some h))) → Adds w.variables (add_entry w.variables n c (under w.world sc) (list_of l) x.entries) z t' m' b
        stepped w c k b bs es st x =
            add.adds w c k b
            (loop-small w.world 64 p.count p.at (add_entry w.variables n c) h x.entries (whole w n c es) x.remains sc hs l hl)
            (loop-subscripts w.world 64 p.count p.at (add_entry w.variables n c) h x.entries (whole w n c es) x.remains sc hs l hl)
            bs x.entries x.state

        pub rows-refused : (e : Refused) → z ≡ Err e → RowsAdd ns ts ds given xs total n p f₀ t₀ m₀ (Err e) t' m'
        rows-refused o j =
            record {
              stays = add.stays ∙ s.stays;
              adds = λ w c k b bs es st.
                  let x = subst (RowsAt w c bs es f t m) e (s.on q v w c k b bs es st) in
                  let y = subst (λ z. Adds w.variables (add_entry w.variables n c (under w.world sc) (list_of l) x.entries) z t' m' bs) j (stepped w c k b bs es st x) in
                  loop-refused w.world 64 p.count p.at (add_entry w.variables n c) h x.entries (whole w n c es) x.remains sc hs l hl o.refusal o.place y;
            }

        module _ (g : Filled) (j : z ≡ Ok g) (D : Result (Option Here) Refused → Type 0) (i : (r : Result (Option Here) Refused) → D r → NextIs ns ts ds given 64 h r) where
          -- the entry is added, and the next step is r
          next-at : (r : Result (Option Here) Refused) → D r → (w : Model ns ts ds given xs total) (c : Constraint) → Takes ns ts ds given xs total w n c p → is_bare c.left ≡ false → (b : BoundTable) (es : List Entry) → State w.variables t₀ m₀ b f₀ es → RowsAt w c b es g t' m' r
          next-at r d w c k b bs es st =
              let x = subst (RowsAt w c bs es f t m) e (s.on q v w c k b bs es st) in
              let y = subst (λ z. Adds w.variables (add_entry w.variables n c (under w.world sc) (list_of l) x.entries) z t' m' bs) j (stepped w c k b bs es st x) in
              record {
                entries = y.entries;
                state = y.state;
                remains = loop-more w.world 64 p.count p.at (add_entry w.variables n c) h x.entries (whole w n c es) x.remains sc hs l hl y.entries r y.is (i r d);
              }

          pub rows_more : length t' ≡ length t → length m' ≡ length m → RowsOn g t' m' D
          rows_more ht hm =
              record {
                few = s.few;
                room = omega (arith, s.room);
                wide = omega (arith, s.wide);
                slots = ht ∙ s.slots;
                counts = hm ∙ s.counts;
                stays = add.stays ∙ s.stays;
                on = next-at;
              }

  -- ---- bounds

  module _ (p : Parts) (b₀ : BoundTable) where
    record BoundsAt (w : Model ns ts ds given xs total) (n : ℕ) (c : Constraint) (t : Table) (m : List ℤ) (f : Filled) (es : List Entry) (b : BoundTable) (r : Result (Option Here) Refused) : Type 0 where
      entries : List Entry
      state : State w.variables t m b f entries
      remains : Left w n c p r entries (whole w n c es)

    pub record BoundsOn (b : BoundTable) (C : Result (Option Here) Refused → Type 0) : Type 0 where
      pub few : total ≤ 512
      pub room : 512 ≤ length b
      pub words : length b ≡ length b₀
      on : (r : Result (Option Here) Refused) → C r → (w : Model ns ts ds given xs total) (n : ℕ) (c : Constraint) → Takes ns ts ds given xs total w n c p → is_bare c.left ≡ true
          → (t : Table) (m : List ℤ) (f : Filled) (es : List Entry) → State w.variables t m b₀ f es → BoundsAt w n c t m f es b r

    pub bounds-start : (C : Result (Option Here) Refused → Type 0) → ((r : Result (Option Here) Refused) → C r → FirstIs ns ts ds given 64 p.count p.at r)
        → total ≤ 512 → 512 ≤ length b₀ → BoundsOn b₀ C
    bounds-start C i x y = record { few = x; room = y; words = refl; on = λ r v w n c k a t m f es st. record { entries = es; state = st; remains = left-start w n c p k r (i r v) es } }

    module _ (b : BoundTable) (C : Result (Option Here) Refused → Type 0) (s : BoundsOn b C) (q : Result (Option Here) Refused) (v : C q) where
      pub bounds-stopped : (e : Refused) → q ≡ Err e → BoundsAdd ns ts ds given xs total p b₀ (Err e) b
      bounds-stopped y e =
          record {
            adds = λ w n c k a t m f es st.
                let x = s.on q v w n c k a t m f es st in
                loop-stopped w.world 64 p.count p.at (add_entry w.variables n c) y x.entries (whole w n c es) (subst (λ z. Left w n c p z x.entries (whole w n c es)) e x.remains);
          }

      pub bounds-done : q ≡ Ok None → BoundsAdd ns ts ds given xs total p b₀ (Ok tt) b
      bounds-done e =
          record {
            adds = λ w n c k a t m f es st.
                let x = s.on q v w n c k a t m f es st in
                record {
                  entries = x.entries;
                  is = loop-done w.world 64 p.count p.at (add_entry w.variables n c) x.entries (whole w n c es) (subst (λ z. Left w n c p z x.entries (whole w n c es)) e x.remains);
                  state = x.state;
                };
          }

      module _ (h : Here) (e : q ≡ Ok (Some h)) (sc : Scope) (hs : bindings_of sc ≡ bound (held h) []) (z : Result Unit Refused) (b' : BoundTable) (add : BoundAdds ns ts ds given xs total p sc b z b') where
        stated : (w : Model ns ts ds given xs total) (n : ℕ) (c : Constraint) → Takes ns ts ds given xs total w n c p → is_bare c.left ≡ true → (t : Table) (m : List ℤ) (f : Filled) (es : List Entry)
            → (x : BoundsAt w n c t m f es b (Ok (Some h))) → AddsBounds w.variables (add_entry w.variables n c (under w.world sc) (list_of (element_at h)) x.entries) z t m b' f
        stated w n c k a t m f es x =
            add.adds w n c k a
            (loop-small w.world 64 p.count p.at (add_entry w.variables n c) h x.entries (whole w n c es) x.remains sc hs (element_at h) (element-held h))
            (list_of (element_at h)) t m f x.entries x.state

        pub bounds-refused : (e : Refused) → z ≡ Err e → BoundsAdd ns ts ds given xs total p b₀ (Err e) b'
        bounds-refused o j =
            record {
              adds = λ w n c k a t m f es st.
                  let x = subst (BoundsAt w n c t m f es b) e (s.on q v w n c k a t m f es st) in
                  let y = subst (λ z. AddsBounds w.variables (add_entry w.variables n c (under w.world sc) (list_of (element_at h)) x.entries) z t m b' f) j (stated w n c k a t m f es x) in
                  loop-refused w.world 64 p.count p.at (add_entry w.variables n c) h x.entries (whole w n c es) x.remains sc hs (element_at h) (element-held h) o.refusal o.place y;
            }

        module _ (j : z ≡ Ok tt) (D : Result (Option Here) Refused → Type 0) (i : (r : Result (Option Here) Refused) → D r → NextIs ns ts ds given 64 h r) where
          -- the entry is added, and the next step is r
          bound-next : (r : Result (Option Here) Refused) → D r → (w : Model ns ts ds given xs total) (n : ℕ) (c : Constraint) → Takes ns ts ds given xs total w n c p → is_bare c.left ≡ true → (t : Table) (m : List ℤ) (f : Filled) (es : List Entry) → State w.variables t m b₀ f es
              → BoundsAt w n c t m f es b' r
          bound-next r d w n c k a t m f es st =
              let x = subst (BoundsAt w n c t m f es b) e (s.on q v w n c k a t m f es st) in
              let y = subst (λ z. AddsBounds w.variables (add_entry w.variables n c (under w.world sc) (list_of (element_at h)) x.entries) z t m b' f) j (stated w n c k a t m f es x) in
              record {
                entries = y.entries;
                state = y.state;
                remains = loop-more w.world 64 p.count p.at (add_entry w.variables n c) h x.entries (whole w n c es) x.remains sc hs (element_at h) (element-held h) y.entries r y.is (i r d);
              }

          pub bounds-more : length b' ≡ length b → BoundsOn b' D
          bounds-more hb =
              record {
                few = s.few;
                room = omega (arith, s.room);
                words = hb ∙ s.words;
                on = bound-next;
              }
