-- Laws of bounds: one stated more, and what is no bound changes nothing.
use Rattle.std.specs.Prelude.{Option, Some, None}
use mathlib.Core.Path.{◌≡◌, refl, sym, ◌∙◌, ap}
use mathlib.Core.Bool.{Bool, true, false, cond, ◌&&◌}
use mathlib.Core.List.{List, [], ◌∷◌, ◌++◌}
use Prim.Native.Nat.{ℕ, ◌<◌, ◌≤◌}
use native.Mathlib.Omega.{arith}
use native.Mathlib.Decide.{ℕ_discrete}
use borrow.Author.Tests.{eq-eqb, ne_eqb}
use lib.Dec.{eqb}
use lib.ListN.{length, set, length-set}
use lib.Seq.{get_or-set_same, get_or-set_other, set_out}
use Rattle.rules.specs.Limits.{scale_limit}
use Rattle.value.specs.declared.Value.{Value}
use Rattle.value.specs.Decimal.{Valid, is_at_most, in_range}
use Rattle.value.proofs.Operations.{valid-at-most}
use Rattle.language.specs.Scope.{Scope}
use Rattle.language.specs.Syntax.{Relation, at_most, at_least, equal, between}
use Rattle.language.specs.Valid.{ValidIfAny}
use Rattle.language.specs.Demand3.{FloorIs}
use Rattle.language.specs.All.{All}
use Rattle.language.proofs.All.{all-with}
use Rattle.language.proofs.Outcome.{none-some}
use Rattle.language.specs.Numbering.{Fact, bound, row, Entry, is_row, picked, extreme, is_at_least, bound_at, floor_for, lower_at, upper_at}
use Rattle.store.specs.Packed.{packed, unpacked}
use Rattle.store.proofs.Keys.{digit-above}
use Rattle.store.proofs.Words.{unpacked-packed, packed-in}
use Rattle.rows.specs.Slots.{floor_word}
use Rattle.rows.specs.declared.Bound.{Bound}
use Rattle.rows.specs.Bounds.{lowers_of, uppers_of, kept_of, BoundTable, unstated, nth_bound, BoundsHeld, gives_way, stated_value, stated_if, both_stated, bound_stated, floor_stated, states_lower, states_upper}

-- ---- words

-- the word of a valid value is not 0
pub packed_above : (v : Value) → Valid v → packed v ≡ 0 → ⊥
unfolding scale_limit
packed_above v h e = omega (arith, packed-in v _ refl h.places, digit-above v.m h.small)

-- the order by which a bound is kept: of lower ones the larger, of upper ones the smaller
abbrev order : Bool → Value → Value → Bool
order true = is_at_most
order false = is_at_least

gives-way-is : (larger : Bool) (u v : Value) → Valid u → Valid v → gives_way larger u v ≡ order larger u v
unfolding gives_way
gives-way-is true u v hu hv = valid-at-most u v hu hv
gives-way-is false u v hu hv = valid-at-most v u hv hu

stated-next : (larger : Bool) (u v : Value) → Valid u → Valid v → stated_value larger (Some u) v ≡ cond (order larger u v) v u
unfolding stated_value
stated-next larger u v hu hv = rw (gives-way-is larger u v hu hv)

-- ---- the one that is kept

module _ (le : Value → Value → Bool) where
  extreme-more : (u : Value) (l : List Value) (v : Value) → extreme le u (l ++ (v ∷ [])) ≡ cond (le (extreme le u l) v) v (extreme le u l)
  unfolding extreme
  extreme-more u [] v = refl
  extreme-more u (w ∷ l) v = extreme-more (cond (le u w) w u) l v

  extreme-valid : (u : Value) (l : List Value) → Valid u → All Valid l → Valid (extreme le u l)
  unfolding extreme
  extreme-valid u [] h k = h
  extreme-valid u (w ∷ l) h k = extreme-valid (cond (le u w) w u) l (go (le u w)) k.1
    where
      go : (b : Bool) → Valid (cond b w u)
      go true = k.0
      go false = h

kept_more : (larger : Bool) (l : List Value) (v : Value) → All Valid l → Valid v
    → kept_of (order larger) (l ++ (v ∷ [])) ≡ Some (stated_value larger (kept_of (order larger) l) v)
unfolding kept_of extreme stated_value
kept_more larger [] v h k = refl
kept_more larger (u ∷ l) v h k =
    ap Some
    (extreme-more (order larger) u l v
    ∙ sym (stated-next larger (extreme (order larger) u l) v (extreme-valid (order larger) u l h.0 h.1) k))

-- ---- what is picked

module _ (f : Entry → Option Value) where
  picked_more : (es : List Entry) (e : Entry) (v : Value) → f e ≡ Some v → picked f (es ++ (e ∷ [])) ≡ picked f es ++ (v ∷ [])
  unfolding picked
  picked_more [] e v h = ap (λ (o : Option Value). elim o [ Some v ↦ v ∷ [] | None ↦ [] ]) h
  picked_more (d ∷ es) e v h = go (f d) (picked_more es e v h)
    where
      go : (o : Option Value) → picked f (es ++ (e ∷ [])) ≡ picked f es ++ (v ∷ [])
          → elim o [ Some w ↦ w ∷ picked f (es ++ (e ∷ [])) | None ↦ picked f (es ++ (e ∷ [])) ] ≡ elim o [ Some w ↦ w ∷ picked f es | None ↦ picked f es ] ++ (v ∷ [])
      go (Some w) k = ap (λ (l : List Value). w ∷ l) k
      go None k = k

  picked_same : (es : List Entry) (e : Entry) → f e ≡ None → picked f (es ++ (e ∷ [])) ≡ picked f es
  unfolding picked
  picked_same [] e h = ap (λ (o : Option Value). elim o [ Some v ↦ v ∷ [] | None ↦ [] ]) h
  picked_same (d ∷ es) e h = go (f d) (picked_same es e h)
    where
      go : (o : Option Value) → picked f (es ++ (e ∷ [])) ≡ picked f es
          → ◌≡◌ {A = List Value} (elim o [ Some w ↦ w ∷ picked f (es ++ (e ∷ [])) | None ↦ picked f (es ++ (e ∷ [])) ]) (elim o [ Some w ↦ w ∷ picked f es | None ↦ picked f es ])
      go (Some w) k = ap (λ (l : List Value). w ∷ l) k
      go None k = k

-- the one that is kept, after one entry more
pub record Kept (larger : Bool) (l : List Value) (o : Option Value) : Type 0 where
  pub is : o ≡ kept_of (order larger) l
  pub valid : All Valid l

-- a bound after one more is stated, or none
abbrev stated_if_any : Bool → Option Value → Option Value → Option Value
stated_if_any larger w (Some v) = Some (stated_value larger w v)
stated_if_any larger w None = w

kept_next : (larger : Bool) (f : Entry → Option Value) (es : List Entry) (e : Entry) (o w : Option Value)
    → Kept larger (picked f es) w → ValidIfAny o → f e ≡ o → Kept larger (picked f (es ++ (e ∷ []))) (stated_if_any larger w o)
kept_next larger f es e (Some v) w h d g =
    rw (picked_more f es e v g)
    (record {
      is = ap (λ (x : Option Value). Some (stated_value larger x v)) h.is ∙ sym (kept_more larger (picked f es) v h.valid d);
      valid = all-with Valid (picked f es) v h.valid d;
    })
kept_next larger f es e None w h d g = rw (picked_same f es e g) h

-- ---- the table

module _ (t : BoundTable) (j : ℕ) (lower upper : Bool) (v : Value) where
  pub bound-size : length (bound_stated t j lower upper v) ≡ length t
  unfolding bound_stated
  bound-size = length-set t j _

  bound-here : j < length t → nth_bound (bound_stated t j lower upper v) j ≡ both_stated (nth_bound t j) lower upper v
  unfolding bound_stated nth_bound
  bound-here h = get_or-set_same t j _ unstated h

  bound-other : (q : ℕ) → (q ≡ j → ⊥) → nth_bound (bound_stated t j lower upper v) q ≡ nth_bound t q
  unfolding bound_stated nth_bound
  bound-other q d = get_or-set_other t j q _ unstated d

  -- what the code answers
  pub bound-out : length t ≤ j → t ≡ bound_stated t j lower upper v
  unfolding bound_stated
  bound-out h = sym (set_out t j _ h)

  pub bound-in : (x y : Option Value) → x ≡ stated_if true lower (nth_bound t j).lower v → y ≡ stated_if false upper (nth_bound t j).upper v
      → set t j (record { lower = x; upper = y }) ≡ bound_stated t j lower upper v
  unfolding bound_stated
  bound-in x y e f = rw (e, f)

-- a floor after the right side
module _ (t : BoundTable) (j : ℕ) where
  pub floor-out : (w : ℕ) → w ≡ 0 → t ≡ floor_stated t j w
  unfolding floor_stated
  floor-out w z = rw (eq-eqb w 0 z)

  pub floor-in : (w : ℕ) (v : Value) (t' : BoundTable) → (w ≡ 0 → ⊥) → v ≡ unpacked w → t' ≡ bound_stated t j true false v → t' ≡ floor_stated t j w
  unfolding floor_stated
  floor-in w v t' z e f = rw (ne_eqb w 0 z) (f ∙ ap (bound_stated t j true false) e)

  floor-none : floor_stated t j (floor_word None) ≡ t
  unfolding floor_word
  floor-none = sym (floor-out 0 refl)

  floor-some : (v : Value) → Valid v → floor_stated t j (floor_word (Some v)) ≡ bound_stated t j true false v
  unfolding floor_word
  floor-some v h = sym (floor-in (packed v) v _ (packed_above v h) (sym (unpacked-packed v h.small h.places)) refl)

-- a right side and a floor: a relation does not state lower bounds by both
module _ (t : BoundTable) (j : ℕ) (lower upper : Bool) (v : Value) (o : Option Value) (d : ValidIfAny o) where
  abbrev stated : BoundTable
  stated = floor_stated (bound_stated t j lower upper v) j (floor_word o)

  -- after the floor
  floored : Option Value → Bound → Bound
  floored None x = x
  floored (Some u) x = both_stated x true false u

  both-here : j < length t → nth_bound stated j ≡ floored o (both_stated (nth_bound t j) lower upper v)
  unfolding floored
  both-here h = go o d
    where
      here : nth_bound (bound_stated t j lower upper v) j ≡ both_stated (nth_bound t j) lower upper v
      here = bound-here t j lower upper v h

      go : (o : Option Value) → ValidIfAny o
          → nth_bound (floor_stated (bound_stated t j lower upper v) j (floor_word o)) j ≡ floored o (both_stated (nth_bound t j) lower upper v)
      go None d = ap (λ (x : BoundTable). nth_bound x j) (floor-none _ j) ∙ here
      go (Some u) d =
          ap (λ (x : BoundTable). nth_bound x j) (floor-some _ j u d)
          ∙ bound-here (bound_stated t j lower upper v) j true false u (omega (arith, bound-size t j lower upper v))
          ∙ ap (λ (x : Bound). both_stated x true false u) here

  lower-both : (lower ≡ true → o ≡ None) → j < length t → (nth_bound stated j).lower ≡ stated_if_any true (nth_bound t j).lower (cond lower (Some v) o)
  unfolding stated_if nth_bound floored
  lower-both one h = ap (λ (x : Bound). x.lower) (both-here h) ∙ go o lower one
    where
      go : (o : Option Value) (lower : Bool) → (lower ≡ true → o ≡ None)
          → (floored o (both_stated (nth_bound t j) lower upper v)).lower ≡ stated_if_any true (nth_bound t j).lower (cond lower (Some v) o)
      go None true one = refl
      go None false one = refl
      go (Some u) true one = absurd (none-some (sym (one refl)))
      go (Some u) false one = refl

  upper-both : j < length t → (nth_bound stated j).upper ≡ stated_if_any false (nth_bound t j).upper (cond upper (Some v) None)
  unfolding stated_if nth_bound floored
  upper-both h = ap (λ (x : Bound). x.upper) (both-here h) ∙ go o upper
    where
      go : (o : Option Value) (upper : Bool)
          → (floored o (both_stated (nth_bound t j) lower upper v)).upper ≡ stated_if_any false (nth_bound t j).upper (cond upper (Some v) None)
      go None true = refl
      go None false = refl
      go (Some u) true = refl
      go (Some u) false = refl

  both-other : (q : ℕ) → (q ≡ j → ⊥) → nth_bound stated q ≡ nth_bound t q
  both-other q a = go o d ∙ bound-other t j lower upper v q a
    where
      go : (o : Option Value) → ValidIfAny o
          → nth_bound (floor_stated (bound_stated t j lower upper v) j (floor_word o)) q ≡ nth_bound (bound_stated t j lower upper v) q
      go None d = ap (λ (x : BoundTable). nth_bound x q) (floor-none _ j)
      go (Some u) d = ap (λ (x : BoundTable). nth_bound x q) (floor-some _ j u d) ∙ bound-other (bound_stated t j lower upper v) j true false u q a

-- ---- one entry more

-- what an entry states for variable i
states-lower : (r : Relation) (s : Scope) (w : Option Value) (j : ℕ) (v : Value) → FloorIs r s w → lower_at r (bound j v) w j ≡ cond (states_lower r) (Some v) w
states-lower at_most s w j v h = sym h
states-lower at_least s w j v h = rw (eq-eqb j j refl)
states-lower equal s w j v h = rw (eq-eqb j j refl)
states-lower (between g) s w j v h = rw (eq-eqb j j refl)

states-upper : (r : Relation) (j : ℕ) (v : Value) → upper_at r (bound j v) j ≡ cond (states_upper r) (Some v) None
states-upper at_most j v = rw (eq-eqb j j refl)
states-upper at_least j v = refl
states-upper equal j v = rw (eq-eqb j j refl)
states-upper (between g) j v = rw (eq-eqb j j refl)

-- it does not state lower bounds by both its right side and its floor
lower-once : (r : Relation) (s : Scope) (w : Option Value) → FloorIs r s w → states_lower r ≡ true → w ≡ None
lower-once at_most s w h e = h
lower-once at_least s w h e = h
lower-once equal s w h e = h
lower-once (between g) s w h e = absurd (let u : ◌≡◌ {A = ℕ} 0 1 = cc in omega arith)

no-floor : (f : Fact) (w : Option Value) (i : ℕ) → bound_at f i ≡ None → floor_for f w i ≡ None
no-floor (bound j v) w i e = go (eqb j i) e
  where
    go : (b : Bool) → cond b (Some v) None ≡ None → cond b w None ≡ None
    go true z = absurd (none-some (sym z))
    go false z = refl
no-floor (row r v) w i e = refl

no_bound : (f : Fact) (w : Option Value) (i : ℕ) → bound_at f i ≡ None → (r : Relation) → (lower_at r f w i ≡ None) × (upper_at r f i ≡ None)
no_bound f w i e at_most = (refl, e)
no_bound f w i e at_least = (e, refl)
no_bound f w i e equal = (e, e)
no_bound f w i e (between g) = (no-floor f w i e, e)

module _ (b b' : BoundTable) (n : ℕ) (es : List Entry) (e : Entry) (h : BoundsHeld b n es) where
  held-lower : (i : ℕ) → i < n → Kept true (lowers_of es i) (nth_bound b i).lower
  held-lower i g = record { is = h.lower i g; valid = h.valid_lower i g }

  held-upper : (i : ℕ) → i < n → Kept false (uppers_of es i) (nth_bound b i).upper
  held-upper i g = record { is = h.upper i g; valid = h.valid_upper i g }

  held_of : ((i : ℕ) → i < n → Kept true (lowers_of (es ++ (e ∷ [])) i) (nth_bound b' i).lower) → ((i : ℕ) → i < n → Kept false (uppers_of (es ++ (e ∷ [])) i) (nth_bound b' i).upper)
      → BoundsHeld b' n (es ++ (e ∷ []))
  held_of x y = record { lower = λ i g. (x i g).is; upper = λ i g. (y i g).is; valid_lower = λ i g. (x i g).valid; valid_upper = λ i g. (y i g).valid }

  -- of a variable for which the entry states no more than this
  lower-kept : (i : ℕ) (o : Option Value) → i < n → ValidIfAny o → lower_at e.source.constraint.relation e.fact e.floor i ≡ o
      → (nth_bound b' i).lower ≡ stated_if_any true (nth_bound b i).lower o → Kept true (lowers_of (es ++ (e ∷ [])) i) (nth_bound b' i).lower
  unfolding lowers_of
  lower-kept i o g d q s = rw s (kept_next true (λ e. lower_at e.source.constraint.relation e.fact e.floor i) es e o (nth_bound b i).lower (held-lower i g) d q)

  upper-kept : (i : ℕ) (o : Option Value) → i < n → ValidIfAny o → upper_at e.source.constraint.relation e.fact i ≡ o → (nth_bound b' i).upper ≡ stated_if_any false (nth_bound b i).upper o
      → Kept false (uppers_of (es ++ (e ∷ [])) i) (nth_bound b' i).upper
  unfolding uppers_of
  upper-kept i o g d q s = rw s (kept_next false (λ e. upper_at e.source.constraint.relation e.fact i) es e o (nth_bound b i).upper (held-upper i g) d q)

  lower-same : (i : ℕ) → i < n → bound_at e.fact i ≡ None → (nth_bound b' i).lower ≡ (nth_bound b i).lower → Kept true (lowers_of (es ++ (e ∷ [])) i) (nth_bound b' i).lower
  lower-same i g q s = lower-kept i None g tt (no_bound e.fact e.floor i q e.source.constraint.relation).0 s

  upper-same : (i : ℕ) → i < n → bound_at e.fact i ≡ None → (nth_bound b' i).upper ≡ (nth_bound b i).upper → Kept false (uppers_of (es ++ (e ∷ [])) i) (nth_bound b' i).upper
  upper-same i g q s = upper-kept i None g tt (no_bound e.fact e.floor i q e.source.constraint.relation).1 s

  -- a bound is stated
  module _ (j : ℕ) (v : Value) (lower upper : Bool) (q : e.fact ≡ bound j v) (lo : states_lower e.source.constraint.relation ≡ lower) (up : states_upper e.source.constraint.relation ≡ upper)
      (d : Valid v) (c : Scope) (fl : FloorIs e.source.constraint.relation c e.floor) (vf : ValidIfAny e.floor) (size : n ≤ length b) (x : ℕ) (hx : x ≡ floor_word e.floor)
      (w : b' ≡ floor_stated (bound_stated b j lower upper v) j x) where
    -- after both
    is : b' ≡ floor_stated (bound_stated b j lower upper v) j (floor_word e.floor)
    is = w ∙ ap (floor_stated (bound_stated b j lower upper v) j) hx

    other : (k : ℕ) → (k ≡ j → ⊥) → nth_bound b' k ≡ nth_bound b k
    other k z = ap (λ (t : BoundTable). nth_bound t k) is ∙ both-other b j lower upper v e.floor vf k z

    nothing-else : (i : ℕ) → (i ≡ j → ⊥) → bound_at e.fact i ≡ None
    nothing-else i z = rw (q, ne_eqb j i (λ k. z (sym k)))

    lower-next : (i : ℕ) → i < n → Kept true (lowers_of (es ++ (e ∷ [])) i) (nth_bound b' i).lower
    lower-next i g = go (ℕ_discrete i j)
      where
        states : lower_at e.source.constraint.relation e.fact e.floor j ≡ cond lower (Some v) e.floor
        states = rw (q, sym lo) (states-lower e.source.constraint.relation c e.floor j v fl)

        valid : (a : Bool) → ValidIfAny (cond a (Some v) e.floor)
        valid true = d
        valid false = vf

        once : lower ≡ true → e.floor ≡ None
        once z = lower-once e.source.constraint.relation c e.floor fl (lo ∙ z)

        go : Dec (i ≡ j) → Kept true (lowers_of (es ++ (e ∷ [])) i) (nth_bound b' i).lower
        go (yes z) =
            rw z
            (lower-kept j _ (omega arith) (valid lower) states
            (ap (λ (t : BoundTable). (nth_bound t j).lower) is ∙ lower-both b j lower upper v e.floor vf once (omega arith)))
        go (no z) = lower-same i g (nothing-else i z) (ap (λ (x : Bound). x.lower) (other i z))

    upper-next : (i : ℕ) → i < n → Kept false (uppers_of (es ++ (e ∷ [])) i) (nth_bound b' i).upper
    upper-next i g = go (ℕ_discrete i j)
      where
        states : upper_at e.source.constraint.relation e.fact j ≡ cond upper (Some v) None
        states = rw (q, sym up) (states-upper e.source.constraint.relation j v)

        valid : (a : Bool) → ValidIfAny (cond a (Some v) None)
        valid true = d
        valid false = tt

        go : Dec (i ≡ j) → Kept false (uppers_of (es ++ (e ∷ [])) i) (nth_bound b' i).upper
        go (yes z) =
            rw z
            (upper-kept j _ (omega arith) (valid upper) states
            (ap (λ (t : BoundTable). (nth_bound t j).upper) is ∙ upper-both b j lower upper v e.floor vf (omega arith)))
        go (no z) = upper-same i g (nothing-else i z) (ap (λ (x : Bound). x.upper) (other i z))

    pub bound-added : BoundsHeld b' n (es ++ (e ∷ []))
    bound-added = held_of lower-next upper-next

-- a row states no bound
pub row-passed : (b : BoundTable) (n : ℕ) (es : List Entry) (e : Entry) → BoundsHeld b n es → is_row e.fact ≡ true → BoundsHeld b n (es ++ (e ∷ []))
row-passed b n es e h z = held_of b b n es e h (λ i g. lower-same b b n es e h i g (nothing i) refl) (λ i g. upper-same b b n es e h i g (nothing i) refl)
  where
    go : (f : Fact) (i : ℕ) → is_row f ≡ true → bound_at f i ≡ None
    go (bound j v) i y = absurd (let u : ◌≡◌ {A = ℕ} 0 1 = cc in omega arith)
    go (row r v) i y = refl

    nothing : (i : ℕ) → bound_at e.fact i ≡ None
    nothing i = go e.fact i z

-- nothing is stated yet
pub bounds-none : (b : BoundTable) (n : ℕ) → ((k : ℕ) → nth_bound b k ≡ unstated) → BoundsHeld b n []
unfolding lowers_of uppers_of picked kept_of
bounds-none b n z = record {
  lower = λ j g. ap (λ (x : Bound). x.lower) (z j);
  upper = λ j g. ap (λ (x : Bound). x.upper) (z j);
  valid_lower = λ j g. tt;
  valid_upper = λ j g. tt;
}

-- ---- what the code of bounds answers

module _ (u v : Value) (larger r : Bool) where
  pub way-larger : larger ≡ true → r ≡ cond (in_range u && in_range v) (is_at_most u v) false → r ≡ gives_way larger u v
  unfolding gives_way
  way-larger e f = rw e f

  pub way-smaller : larger ≡ false → r ≡ cond (in_range v && in_range u) (is_at_most v u) false → r ≡ gives_way larger u v
  unfolding gives_way
  way-smaller e f = rw e f

module _ (old : Option Value) (v : Value) (larger : Bool) where
  pub stated-new : old ≡ None → v ≡ stated_value larger old v
  unfolding stated_value
  stated-new e = rw e

  module _ (u : Value) (r : Bool) (e : old ≡ Some u) (hr : r ≡ gives_way larger u v) where
    pub stated-over : r ≡ true → v ≡ stated_value larger old v
    unfolding stated_value
    stated-over f = rw (e, ← hr, f)

    pub stated-old : r ≡ false → u ≡ stated_value larger old v
    unfolding stated_value
    stated-old f = rw (e, ← hr, f)

  module _ (applies : Bool) where
    pub stated-yes : (w : Value) → applies ≡ true → w ≡ stated_value larger old v → Some w ≡ stated_if larger applies old v
    unfolding stated_if
    stated-yes w e f = rw e (ap Some f)

    pub stated-no : applies ≡ false → old ≡ stated_if larger applies old v
    unfolding stated_if
    stated-no e = rw e
