-- Laws of what code makes of the tables: the bound that is taken, one column more, all columns; and that of every problem that the
-- tables hold it is the definition's end of a row.
use Rattle.std.specs.Prelude.{Option, Some, None}
use mathlib.Core.Path.{◌≡◌, refl, sym, ◌∙◌, ap}
use mathlib.Core.Bool.{Bool, true, false, not, cond}
use mathlib.Core.List.{List, [], ◌∷◌}
use Prim.Native.Nat.{ℕ, zero, suc, ◌+◌, ◌-◌, ◌<◌, ◌≤◌}
use native.Mathlib.Omega.{arith}
use native.Mathlib.Numerals.{add-one}
use borrow.Author.Tests.{le-leb, le-ltb}
use lib.ListN.{length, get_or}
use lib.IntN.{ℤ, pos, negsuc}
use lib.Signed.{le_z, lt_z}
use Rattle.value.specs.declared.Value.{Value}
use Rattle.value.specs.Decimal.{Valid, zero_value, of_whole, is_zero, if_in_range, sum_of, product_of}
use Rattle.value.proofs.Operations.{zero-valid, sum-valid, product-valid}
use Rattle.value.proofs.Ranges.{valid-both}
use Rattle.language.specs.Listed.{At}
use Rattle.language.specs.Valid.{ValidIfAny}
use Rattle.language.specs.Numbering.{Row, Entry, Lp, xor, rows, less_rows, equal_rows, lower_of, upper_of}
use Rattle.language.specs.Listing.{coefficients_of}
use Rattle.rows.specs.declared.Sizes.{Sizes}
use Rattle.rows.specs.Bounds.{BoundTable}
use Rattle.rows.specs.Slots.{Slot}
use Rattle.rows.specs.Read.{slot_at, count_at, value_of, lower_in, upper_in}
use Rattle.rows.specs.Held.{Held}
use Rattle.rows.proofs.Held.{slot_held, value-told, lower-told, upper-told, row-valid, lower-held, upper-held}
use Rattle.reach.specs.declared.End.{End}
use Rattle.reach.specs.declared.End.TheVariants.{Least, Greatest}
use Rattle.reach.specs.Reach.{is_negative, takes, added, product, reach_from, reach}
use Rattle.reach.specs.Tables.{is_greatest, lower_taken, sum_in, added_in, column_in, Reaches}
use Rattle.store.specs.Table.{Table}

-- ---- what code answers

least-lower : (z : ℤ) → le_z (pos 0) z ≡ not (lt_z z (pos 0))
least-lower (pos n) = le-leb 0 n (omega arith) ∙ ap not (sym (le-ltb n 0 (omega arith)))
least-lower (negsuc n) = refl

module _ (end : End) (c : Value) where
  pub takes-least : end ≡ Least → le_z (pos 0) c.m ≡ lower_taken (is_greatest end) c
  unfolding lower_taken is_negative
  takes-least e = rw e (least-lower c.m)

  pub takes-greatest : end ≡ Greatest → lt_z c.m (pos 0) ≡ lower_taken (is_greatest end) c
  unfolding lower_taken is_negative
  takes-greatest e = rw e (go (lt_z c.m (pos 0)))
    where
      go : (b : Bool) → b ≡ not (xor true b)
      go true = refl
      go false = refl

module _ (greatest : Bool) (c : Value) where
  pub takes-lower : (b : Bool) (v l : Value) (u : Option Value) → b ≡ lower_taken greatest c → b ≡ true → v ≡ l → Some v ≡ takes greatest c l u
  unfolding takes lower_taken
  takes-lower b v l u e t h = go (xor greatest (is_negative c)) (sym e ∙ t)
    where
      go : (x : Bool) → not x ≡ true → Some v ≡ cond x u (Some l)
      go true e = cc
      go false e = ap Some h

  pub takes-upper : (b : Bool) (r : Option Value) (l : Value) (u : Option Value) → b ≡ lower_taken greatest c → b ≡ false → r ≡ u → r ≡ takes greatest c l u
  unfolding takes lower_taken
  takes-upper b r l u e f h = go (xor greatest (is_negative c)) (sym e ∙ f)
    where
      go : (x : Bool) → not x ≡ false → r ≡ cond x u (Some l)
      go true e = h
      go false e = cc

module _ (t c : Value) (o : Option Value) where
  pub added-open : o ≡ None → None ≡ added_in t c o
  unfolding added_in
  added-open e = rw e

  pub added-unfit : (b : Value) (f : Option Value) → o ≡ Some b → f ≡ if_in_range c b (product_of c b) → f ≡ None → None ≡ added_in t c o
  unfolding added_in sum_in
  added-unfit b f e h k = rw (e, ← h, k)

  pub added-both : (b p : Value) (f g : Option Value) → o ≡ Some b → f ≡ if_in_range c b (product_of c b) → f ≡ Some p → g ≡ if_in_range t p (sum_of t p) → g ≡ added_in t c o
  unfolding added_in sum_in
  added-both b p f g e h k i = rw (e, ← h, k) i

module _ (bounds : BoundTable) (greatest : Bool) (j : ℕ) (t c v : Value) (z : Bool) where
  pub column-zero : v ≡ c → z ≡ is_zero v → z ≡ true → (Some t) ≡ column_in bounds greatest j t c
  unfolding column_in
  column-zero e h k = rw (← e, ← h, k)

  pub column-added : (o r : Option Value) → v ≡ c → z ≡ is_zero v → z ≡ false → o ≡ takes greatest v (lower_in bounds j) (upper_in bounds j)
      → r ≡ added_in t v o → r ≡ column_in bounds greatest j t c
  unfolding column_in
  column-added o r e h k i a = rw (← e, ← h, k, ← i) a

-- ---- all columns

-- i columns more, from variable j on
unfoldable pub columns_in : List ℤ → BoundTable → ℕ → Bool → ℕ → ℕ → Option Value → Option Value
columns_in m bounds k greatest zero j t = t
columns_in m bounds k greatest (suc i) j None = None
columns_in m bounds k greatest (suc i) j (Some t) = columns_in m bounds k greatest i (suc j) (column_in bounds greatest j t (value_of (count_at m k j)))

module _ (m : List ℤ) (bounds : BoundTable) (k : ℕ) (greatest : Bool) where
  open-columns : (i j : ℕ) → columns_in m bounds k greatest i j None ≡ None
  unfolding columns_in
  open-columns zero j = refl
  open-columns (suc i) j = refl

  -- what is left of n columns from variable j on, with the sum t, ends as all of them
  pub record Reaching (n j : ℕ) (t : Value) : Type 0 where
    pub same : columns_in m bounds k greatest (n - j) j (Some t) ≡ columns_in m bounds k greatest n 0 (Some zero_value)

  pub reaching-first : (n : ℕ) (t : Value) → t ≡ of_whole (pos 0) → Reaching n 0 t
  unfolding of_whole
  reaching-first n t e = record { same = let x : n - 0 ≡ n = omega arith in rw (x, e) }

  column-more : (n j : ℕ) (t : Value) (z : ℤ) (o : Option Value) → Reaching n j t → j < n → z ≡ count_at m k j → o ≡ column_in bounds greatest j t (value_of z)
      → columns_in m bounds k greatest (n - suc j) (suc j) o ≡ columns_in m bounds k greatest n 0 (Some zero_value)
  unfolding columns_in
  column-more n j t z o r h e c =
      let x : n - j ≡ suc (n - suc j) = omega arith in
      let same = rw x at r.same in
      rw (c, e) same

  pub reaching-more : (n j : ℕ) (t : Value) (z : ℤ) (o : Option Value) (s : Value) → Reaching n j t → j < n → z ≡ count_at m k j → o ≡ column_in bounds greatest j t (value_of z)
      → o ≡ Some s → Reaching n (j + 1) s
  reaching-more n j t z o s r h e c a = record { same = rw (add-one j) (rw a at (column-more n j t z o r h e c)) }

-- ---- of valid values what code makes is what the definition says

fits-valid : (f : Option Value) → ((v : Value) → f ≡ Some v → Valid v) → ValidIfAny f
fits-valid (Some v) h = h v refl
fits-valid None h = tt

module _ (t : Value) (ht : Valid t) where
  sum_told : (f : Option Value) → ((v : Value) → f ≡ Some v → Valid v) → sum_in t f ≡ added t f
  unfolding sum_in added
  sum_told (Some p) h = (valid-both t p (sum_of t p) ht (h p refl))
  sum_told None h = refl

  added-told : (c : Value) (o : Option Value) → Valid c → ValidIfAny o → added_in t c o ≡ added t (product c o)
  unfolding added_in product added
  added-told c None hc ho = refl
  added-told c (Some b) hc ho = ap (sum_in t) (valid-both c b (product_of c b) hc ho) ∙ sum_told (product_of c b) (λ v e. product-valid c b v e)

  added-valid : (o : Option Value) → ValidIfAny (added t o)
  unfolding added
  added-valid None = tt
  added-valid (Some v) = fits-valid (sum_of t v) (λ s e. sum-valid t v s e)

  column-valid : (z : Bool) (o : Option Value) → ValidIfAny (cond z (Some t) (added t o))
  column-valid true o = ht
  column-valid false o = added-valid o

takes-valid : (greatest : Bool) (c l : Value) (u : Option Value) → Valid l → ValidIfAny u → ValidIfAny (takes greatest c l u)
unfolding takes
takes-valid greatest c l u hl hu = go (xor greatest (is_negative c))
  where
    go : (b : Bool) → ValidIfAny (cond b u (Some l))
    go true = hu
    go false = hl

module _ (m : List ℤ) (bounds : BoundTable) (k : ℕ) (greatest : Bool) (lower : ℕ → Value) (upper : ℕ → Option Value) where
  -- what the tables say of variable j, whose coefficient is c
  record ColumnTold (j : ℕ) (c : Value) : Type 0 where
    coefficient : value_of (count_at m k j) ≡ c
    valid : Valid c
    low : lower_in bounds j ≡ lower j
    valid_low : Valid (lower j)
    high : upper_in bounds j ≡ upper j
    valid_high : ValidIfAny (upper j)

  column-told : (j : ℕ) (c t : Value) → ColumnTold j c → Valid t
      → column_in bounds greatest j t (value_of (count_at m k j)) ≡ cond (is_zero c) (Some t) (added t (product c (takes greatest c (lower j) (upper j))))
  unfolding column_in
  column-told j c t h ht =
      rw (h.coefficient, h.low, h.high, added-told t ht c (takes greatest c (lower j) (upper j)) h.valid (takes-valid greatest c (lower j) (upper j) h.valid_low h.valid_high))

  columns-told : (j : ℕ) (cs : Row) (t : Option Value) → ((i : ℕ) → i < length cs → ColumnTold (j + i) (get_or cs i zero_value)) → ValidIfAny t
      → columns_in m bounds k greatest (length cs) j t ≡ reach_from greatest lower upper j cs t
  unfolding columns_in reach_from
  columns-told j [] t h v = refl
  columns-told j (c ∷ cs) None h v = refl
  columns-told j (c ∷ cs) (Some t) h v =
      let x : j + 0 ≡ j = omega arith in
      let first = rw x at (h 0 (omega arith)) in
      ap (columns_in m bounds k greatest (length cs) (suc j)) (column-told j c t first v)
      ∙ columns-told (suc j) cs _ (λ i g. let y : suc j + i ≡ j + suc i = omega arith in rw y (h (suc i) (omega arith))) (column-valid t v (is_zero c) _)

module _ {slots : Table} {bounds : BoundTable} {m : List ℤ} {sizes : Sizes} {p : Lp} (h : Held slots bounds m sizes p) where
  pub slot : (i : ℕ) (e : Entry) → At (rows p) i e → Slot p.variables slots m (slot_at sizes.less i) e
  unfolding rows less_rows equal_rows
  slot i e a = slot_held p.variables slots m sizes.less sizes.equal p.entries h.rows i e a

  told : (greatest : Bool) (i : ℕ) (e : Entry) → At (rows p) i e
      → columns_in m bounds (slot_at sizes.less i) greatest (length p.variables) 0 (Some zero_value) ≡ reach greatest p e
  unfolding reach
  told greatest i e a =
      let s = (slot i e a).row in
      rw (← s.count)
      (columns-told m bounds (slot_at sizes.less i) greatest (lower_of p.entries) (upper_of p.entries) 0 (coefficients_of e.fact) (Some zero_value)
      (λ j g.
      let x : 0 + j ≡ j = omega arith in
      let b : j < length p.variables = omega (arith, s.count) in
      let d : j < sizes.variables = omega (arith, h.variables) in
      rw x
      (record {
        coefficient = value-told p.variables m _ j _ s b;
        valid = row-valid p.variables _ _ j s b;
        low = lower-told p.entries bounds j (h.stated.lower j d);
        valid_low = lower-held p.entries j (h.stated.valid_lower j d);
        high = upper-told p.entries bounds j (h.stated.upper j d);
        valid_high = upper-held p.entries j (h.stated.valid_upper j d);
      }))
      zero-valid)

-- ---- an end that is not open is a value

module _ (greatest : Bool) (lower : ℕ → Value) (upper : ℕ → Option Value) where
  from-valid : (j : ℕ) (cs : Row) (t : Option Value) → ValidIfAny t → ValidIfAny (reach_from greatest lower upper j cs t)
  unfolding reach_from
  from-valid j [] t h = h
  from-valid j (c ∷ cs) None h = tt
  from-valid j (c ∷ cs) (Some t) h = from-valid (suc j) cs _ (column-valid t h (is_zero c) _)

pub reach-valid : (greatest : Bool) (p : Lp) (e : Entry) → ValidIfAny (reach greatest p e)
unfolding reach
reach-valid greatest p e = from-valid greatest (lower_of p.entries) (upper_of p.entries) 0 (coefficients_of e.fact) (Some zero_value) zero-valid

-- ---- what `end_of` answers

module _ (m : List ℤ) (bounds : BoundTable) (k : ℕ) (greatest : Bool) (n : ℕ) where
  reaches : (r : Option Value) → r ≡ columns_in m bounds k greatest n 0 (Some zero_value) → Reaches m bounds k n greatest r
  reaches r e = record { is = λ slots sizes p h c i f a q. e ∙ rw (q, c) (told h greatest i f a) }

  pub reaches-open : (j : ℕ) (t : Value) (z : ℤ) (o : Option Value) → Reaching m bounds k greatest n j t → j < n → z ≡ count_at m k j → o ≡ column_in bounds greatest j t (value_of z)
      → o ≡ None → Reaches m bounds k n greatest None
  reaches-open j t z o r h e c a =
      reaches None (sym (open-columns m bounds k greatest (n - suc j) (suc j)) ∙ rw a at (column-more m bounds k greatest n j t z o r h e c))

  pub reaches_end : (j : ℕ) (t : Value) → Reaching m bounds k greatest n j t → n ≤ j → Reaches m bounds k n greatest (Some t)
  unfolding columns_in
  reaches_end j t r h = reaches (Some t) (let x : n - j ≡ 0 = omega arith in rw x at r.same)
