-- Laws of one element of a constraint: the entry that it adds, as a row in its slot or as a bound.
use Rattle.std.specs.Prelude.{Err, Ok, Result, Option}
use Rattle.rules.specs.declared.Refused.{Refused}
use mathlib.Core.Path.{◌≡◌, refl, sym, ◌∙◌, ap, subst}
use mathlib.Core.Bool.{Bool, true, false, not}
use mathlib.Core.List.{List, [], ◌∷◌, ◌++◌, map}
use Prim.Native.Nat.{ℕ, ◌+◌, ◌-◌, ◌*◌, ◌<◌, ◌≤◌}
use native.Mathlib.Omega.{arith}
use borrow.Author.Tests.{lt-ltb, le-ltb, ltb-true, ltb-false, not-true, not-false}
use borrow.Rule.Slice.PartMut.{put_mid, mid_len}
use lib.Dec.{ltb}
use lib.ListN.{length, take, drop}
use lib.Seq.{take_all}
use lib.IntN.{ℤ}
use Rattle.rules.specs.declared.Refusal.{Refusal}
use Rattle.rules.specs.declared.Refusal.TheVariants.{Full}
use Rattle.rules.specs.Limits.{row_limit, name_limit, nesting_limit, variable_limit}
use Rattle.value.specs.declared.Value.{Value}
use Rattle.language.specs.Outcome.{Outcome, done, refused, ◌>>=◌}
use Rattle.language.proofs.Outcome.{after, done-injective}
use Rattle.language.specs.Scope.{Scope as Bindings}
use Rattle.language.specs.Syntax.{Form, Constraint}
use Rattle.language.specs.Formulas.{formula_at}
use Rattle.language.specs.Linear.{Linear, linear_at}
use Rattle.language.specs.Numbering.{Variable, Row, signed, gathered, Fact, bound, row, Entry, keep, any_row, fact_of, floor_at, row_count, add_entry}
use Rattle.language.specs.Demand3.{FloorIs}
use Rattle.language.proofs.Entries.{floor-done}
use Rattle.tokens.specs.Stored.{Stands}
use Rattle.store.specs.declared.Element.{Element}
use Rattle.store.specs.Element.{list_of}
use Rattle.evaluator.specs.declared.steps.scope.Scope.{Scope}
use Rattle.evaluator.specs.Steps.Scopes.{bindings_of, scope_of, Small}
use Rattle.evaluator.proofs.steps.Scopes.{small-none}
use Rattle.evaluator.specs.Tables.{World}
use Rattle.evaluator.specs.Cycle.{seen_by, nothing_bound, under}
use Rattle.constraints.specs.Rows.{SideAt, FloorAt, is_bare}
use Rattle.matrix.specs.declared.parts.Parts.{Parts}
use Rattle.rows.specs.declared.Filled.{Filled}
use Rattle.rows.specs.Slots.{objective_row, next_slot, RowsHeld, RowPut, Wrote}
use Rattle.rows.specs.Bounds.{BoundTable, bound_stated, floor_stated}
use Rattle.rows.proofs.Parts.{row_put}
use Rattle.rows.proofs.Slotting.{rows-counted, next-within, row-added, bound-passed, objective-put}
use Rattle.rows.proofs.Bounding.{bound-added, row-passed}
use Rattle.gatherer.specs.Cycle.{Model}
use Rattle.matrix.specs.declared.sides.Bounded.{Bounded}
use Rattle.matrix.specs.Sides.Answers.{EndsAt, fact_with, BoundFound, BoundIs, Holds, GathersTo, RowOn, Rowed, RightIs}
use Rattle.matrix.specs.Answers.{Stays, Takes, RowAdds, BoundAdds, ObjectiveAdds, ObjectiveIs}
use Rattle.store.specs.Table.{Table}

-- ---- what the definition adds

abbrev made : ℕ → Constraint → List ℤ → Fact → Option Value → Entry
made n c e f u = record { source = record { ordinal = n; constraint = c; element = e }; fact = f; floor = u }

module _ (vs : List Variable) (n : ℕ) (c : Constraint) (s : Bindings) (e : List ℤ) (es : List Entry) where
  abbrev facts : Outcome (Fact × Option Value)
  facts = fact_with vs c.left c.relation c.right s

  -- a row is counted
  abbrev entering : Fact × Option Value → Outcome (List Entry)
  entering x = row_count x.0 c.place es >>= λ _. done (es ++ (made n c e x.0 x.1 ∷ []))

  entry-with : add_entry vs n c s e es ≡ (facts >>= entering)
  unfolding add_entry fact_with
  entry-with = go (fact_of vs c.left c.relation c.right s) (floor_at c.relation s)
    where
      go : (o : Outcome Fact) (q : Outcome (Option Value)) → (o >>= λ f. q >>= λ u. entering (f, u)) ≡ ((o >>= λ f. q >>= λ u. done (f, u)) >>= entering)
      go (done f) (done u) = refl
      go (done f) (refused r p) = refl
      go (refused r p) q = refl

  entry-refused : (r : Refusal) (p : ℕ) → facts ≡ refused r p → add_entry vs n c s e es ≡ refused r p
  entry-refused r p h = entry-with ∙ rw h refl

  -- the floor is the written one
  floor-is : (f : Fact) (u : Option Value) → facts ≡ done (f, u) → FloorIs c.relation s u
  unfolding fact_with
  floor-is f u h =
      after (fact_of vs c.left c.relation c.right s) _ (f, u) h λ _ _ h.
      after (floor_at c.relation s) _ (f, u) h λ _ a h.
      floor-done c.relation s u (a ∙ ap (λ (x : Fact × Option Value). done x.1) (done-injective h))

  row-refused-full : (cs : Row) (v : Value) (u : Option Value) → facts ≡ done (row cs v, u) → 512 ≤ length (keep any_row es) → add_entry vs n c s e es ≡ refused Full c.place
  unfolding row_count row_limit
  row-refused-full cs v u h g = entry-with ∙ rw (h, le-ltb (length (keep any_row es)) 512 g) refl

  row-entered : (cs : Row) (v : Value) (u : Option Value) → facts ≡ done (row cs v, u) → length (keep any_row es) < 512 → add_entry vs n c s e es ≡ done (es ++ (made n c e (row cs v) u ∷ []))
  unfolding row_count row_limit
  row-entered cs v u h g = entry-with ∙ rw (h, lt-ltb (length (keep any_row es)) 512 g) refl

  bound-entered : (j : ℕ) (v : Value) (u : Option Value) → facts ≡ done (bound j v, u) → add_entry vs n c s e es ≡ done (es ++ (made n c e (bound j v) u ∷ []))
  unfolding row_count
  bound-entered j v u h = entry-with ∙ rw h refl

-- a row of counts lies in the matrix
pub slot-low : (less equal slot : ℕ) (b : Bool) → slot ≡ next_slot less equal b → slot ≤ 513
slot-low less equal slot b h = omega (arith, (next-within less equal b).0)

-- rows so far
counted : (vs : List Variable) (t : Table) (m : List ℤ) (less equal : ℕ) (es : List Entry) → RowsHeld vs t m less equal es → length (keep any_row es) ≡ less + equal
counted vs t m less equal es h = omega (arith, rows-counted es, h.less_count, h.equal_count)

-- ---- one element

module _ (ns ts : List ℕ) (ds : Table) (given : ℕ) (xs : Table) (total : ℕ) where
  -- all names are visible
  pub seen_all : (w : World ns ts ds given) → seen_by w 64 ≡ w.names
  unfolding name_limit
  seen_all w = take_all 64 w.names w.tables.few

  side-seen : (w : Model ns ts ds given xs total) (n : ℕ) (c : Constraint) (p : Parts) → Takes ns ts ds given xs total w n c p → SideAt w.world.text ts p.left (seen_by w.world 64) c.left
  side-seen w n c p k = rw (seen_all w.world) k.tells.left

  ends-seen : (w : Model ns ts ds given xs total) (n : ℕ) (c : Constraint) (p : Parts) → Takes ns ts ds given xs total w n c p → EndsAt w.world 64 p.right c.right c.relation
  ends-seen w n c p k =
      let x = subst (λ l. (h : Stands (formula_at l nesting_limit) w.world.text ts p.right c.right) × FloorAt l h.rest c.relation) (sym (seen_all w.world))
      (k.tells.right, k.tells.floor_stands) in
      record { right = x.0; floor = x.1 }

  -- a row in its slot
  module _ (n : ℕ) (p : Parts) (sc : Scope) (e : Element) (f : Filled) (t : Table) (m : List ℤ) (few : total ≤ 512) (wide : 263168 ≤ length m)
      (slot : ℕ) (hs : slot ≡ next_slot f.less f.equal p.equal) (q : List ℤ) (side : Result (Value × ℕ) Refused)
      (kept : length q ≡ length (take (slot * 512 + total - slot * 512) (drop (slot * 512) m)))
      (h : RightIs p.flips p.floor ns ts ds given xs total 64 sc p.left p.right (take (slot * 512 + total - slot * 512) (drop (slot * 512) m)) side q) where
    abbrev written : List ℤ
    written = put_mid (slot * 512) (slot * 512 + total - slot * 512) m q

    within : slot * 512 + total ≤ length m
    within = omega (arith, (next-within f.less f.equal p.equal).0)

    put : RowPut total m slot q written
    put = row_put m q total slot (slot * 512) (slot * 512 + total) refl refl few within kept

    stays : Stays total m written
    unfolding objective_row row_limit
    stays = put.others 512 (λ z. (next-within f.less f.equal p.equal).1 (sym hs ∙ sym z))

    rowed : (w : Model ns ts ds given xs total) (c : Constraint) → Takes ns ts ds given xs total w n c p → is_bare c.left ≡ false → Small sc
        → Rowed w.variables (fact_with w.variables c.left c.relation c.right (under w.world sc)) side q
    rowed w c k b sm =
        h.is w sm (mid_len (slot * 512) (slot * 512 + total) m within ∙ omega arith) c.left b (side-seen w n c p k) c.right c.relation k.tells.flips
        k.tells.floor (ends-seen w n c p k)

    pub row-refused : (w : Refused) → side ≡ Err w → RowAdds ns ts ds given xs total n p sc (list_of e) f t m (Err w) t written
    row-refused y i =
        record {
          stays = stays;
          adds = λ w c k b sm sub bs es st.
              entry-refused w.variables n c (under w.world sc) (list_of e) es y.refusal y.place
              (subst (λ z. Rowed w.variables (fact_with w.variables c.left c.relation c.right (under w.world sc)) z q) i (rowed w c k b sm));
        }

    module _ (v : Value) (word : ℕ) (i : side ≡ Ok (v, word)) (room : Bool) (hr : room ≡ ltb (f.less + f.equal) row_limit) where
      on : (w : Model ns ts ds given xs total) (c : Constraint) → Takes ns ts ds given xs total w n c p → is_bare c.left ≡ false → Small sc
          → RowOn w.variables (fact_with w.variables c.left c.relation c.right (under w.world sc)) v word q
      on w c k b sm = subst (λ z. Rowed w.variables (fact_with w.variables c.left c.relation c.right (under w.world sc)) z q) i (rowed w c k b sm)

      pub row-full : not room ≡ true → RowAdds ns ts ds given xs total n p sc (list_of e) f t m (Err (record { refusal = Full; place = p.place })) t written
      unfolding row_limit
      row-full z =
          record {
            stays = stays;
            adds = λ w c k b sm sub bs es st.
                let x = on w c k b sm in
                row-refused-full w.variables n c (under w.world sc) (list_of e) es x.coefficients v x.floor x.is
                (omega (arith, counted _ _ _ _ _ es st.rows, ltb-false (f.less + f.equal) 512 (sym hr ∙ not-true room z)))
                ∙ ap (refused Full) k.tells.place;
          }

      pub row_written : not room ≡ false → 1026 ≤ length t → (g : Filled) (t' : Table) → Wrote t f p.equal n (list_of e) v word g t'
          → RowAdds ns ts ds given xs total n p sc (list_of e) f t m (Ok g) t' written
      unfolding row_limit
      row_written z size g t' wr =
          record {
            stays = stays;
            adds = λ w c k b sm sub bs es st.
                let x = on w c k b sm in
                let low : f.less + f.equal < 512 = ltb-true (f.less + f.equal) 512 (sym hr ∙ not-false room z) in
                let entry = made n c (list_of e) (row x.coefficients v) x.floor in
                let size_is : total ≡ length w.variables = w.held.count in
                record {
                  entries = es ++ (entry ∷ []);
                  is = row-entered w.variables n c (under w.world sc) (list_of e) es x.coefficients v x.floor x.is (omega (arith, counted _ _ _ _ _ es st.rows));
                  state =
                      record {
                        rows = row-added w.variables t m t' written q f g p.equal es entry st.rows low size refl k.tells.equal
                            (record { named = k.numbered; subscripts = sub }) x.valid (under w.world sc)
                            (floor-is w.variables n c (under w.world sc) (list_of e) es (row x.coefficients v) x.floor x.is) x.valid_floor word x.word-is wr
                            (subst (λ y. RowPut (length w.variables) m y q written) hs (subst (λ y. RowPut y m slot q written) size_is put)) x.counts;
                        bounds = row-passed bs (length w.variables) es entry st.bounds refl;
                      };
                };
          }

  -- a bound
  module _ (p : Parts) (sc : Scope) (b : BoundTable) (few : total ≤ 512) (wide : 512 ≤ length b) (stated : Result Bounded Refused)
      (h : BoundIs p.floor ns ts ds given xs total 64 sc p.left p.right stated) where
    bounds : (w : Model ns ts ds given xs total) (n : ℕ) (c : Constraint) → Takes ns ts ds given xs total w n c p → is_bare c.left ≡ true → Small sc → (y : Result Bounded Refused) → stated ≡ y
        → BoundFound total (fact_with w.variables c.left c.relation c.right (under w.world sc)) y
    bounds w n c k bare sm y i =
        subst (BoundFound total (fact_with w.variables c.left c.relation c.right (under w.world sc))) i
        (h.is w sm c.left bare (side-seen w n c p k) c.right c.relation k.tells.floor (ends-seen w n c p k))

    pub bound-refused : (e : Refused) → stated ≡ Err e → BoundAdds ns ts ds given xs total p sc b (Err e) b
    bound-refused z i =
        record { adds = λ w n c k bare sm e t m f es st. entry-refused w.variables n c (under w.world sc) e es z.refusal z.place (bounds w n c k bare sm _ i) }

    pub bound-stated : (w : Bounded) (half b' : BoundTable) → stated ≡ Ok w → half ≡ bound_stated b w.variable p.lower p.upper w.right → b' ≡ floor_stated half w.variable w.floor
        → BoundAdds ns ts ds given xs total p sc b (Ok tt) b'
    bound-stated y half b' i g l =
        record {
          adds = λ w n c k bare sm e t m f es st.
              let x = bounds w n c k bare sm _ i in
              let entry = made n c e (bound y.variable y.right) x.floor in
              record {
                entries = es ++ (entry ∷ []);
                is = bound-entered w.variables n c (under w.world sc) e es y.variable y.right x.floor x.is;
                state =
                    record {
                      rows = bound-passed w.variables t m f.less f.equal es entry st.rows refl;
                      bounds = bound-added b b' (length w.variables) es entry st.bounds y.variable y.right p.lower p.upper refl k.tells.lower k.tells.upper x.valid (under w.world sc)
                          (floor-is w.variables n c (under w.world sc) e es (bound y.variable y.right) x.floor x.is) x.valid_floor (omega (arith, w.held.count)) y.floor x.word-is
                          (l ∙ ap (λ z. floor_stated z y.variable y.floor) g);
                    };
              };
        }

-- ---- the objective

-- nothing is bound in an empty scope
pub under_none : {ns ts : List ℕ} {ds : Table} {given : ℕ} (w : World ns ts ds given) (sc : Scope) → bindings_of sc ≡ [] → under w sc ≡ nothing_bound w
unfolding scope_of
under_none w sc h = rw h

module _ (b : Bool) (ns ts : List ℕ) (ds : Table) (given : ℕ) (xs : Table) (total at : ℕ) where
  pub objective-many : (r : Result Unit Refused) (m' : List ℤ) → 512 < total → ObjectiveIs b ns ts ds given xs total at r m'
  unfolding variable_limit
  objective-many r m' h = record { is = λ g. absurd (omega arith) }

  module _ (m : List ℤ) (few : total ≤ 512) (slot : ℕ) (hs : slot ≡ 512) (wide : 263168 ≤ length m) (sc : Scope) (none : bindings_of sc ≡ []) (r : Result Unit Refused) (q : List ℤ)
      (kept : length q ≡ length (take (slot * 512 + total - slot * 512) (drop (slot * 512) m)))
      (h : GathersTo (map (signed b)) ns ts ds given xs total 64 sc at (take (slot * 512 + total - slot * 512) (drop (slot * 512) m)) r q) where
    abbrev whole : List ℤ
    whole = put_mid (slot * 512) (slot * 512 + total - slot * 512) m q

    gathers : (w : Model ns ts ds given xs total) (x : Linear) → Stands (linear_at w.world.names nesting_limit) w.world.text ts at x
        → Holds w.variables (map (signed b)) (gathered w.variables x.form (nothing_bound w.world)) r q
    gathers w x st =
        subst (λ z. Holds w.variables (map (signed b)) (gathered w.variables x.form z) r q) (under_none w.world sc none)
        (h.is w (small-none sc none) (mid_len (slot * 512) (slot * 512 + total) m (omega arith) ∙ omega arith) x
        (subst (λ z. Stands (linear_at z nesting_limit) w.world.text ts at x) (sym (seen_all ns ts ds given xs total w.world)) st))

    pub objective-is : ObjectiveIs b ns ts ds given xs total at r whole
    objective-is = record { is = λ g w x st. go w x.form r (gathers w x st) }
      where
        put : RowPut total m slot q whole
        put = row_put m q total slot (slot * 512) (slot * 512 + total) refl refl few (omega arith) kept

        go : (w : Model ns ts ds given xs total) (f : Form) (r : Result Unit Refused) → Holds w.variables (map (signed b)) (gathered w.variables f (nothing_bound w.world)) r q
            → ObjectiveAdds w.variables b (gathered w.variables f (nothing_bound w.world)) r whole
        go w f (Ok tt) y =
            record {
              coefficients = y.coefficients;
              is = y.is;
              held = objective-put w.variables m whole q slot (map (signed b) y.coefficients) hs (subst (λ z. RowPut z m slot q whole) w.held.count put) y.counts;
            }
        go w f (Err e) y = y
