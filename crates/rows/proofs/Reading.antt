-- Laws of what is read of the tables: sizes, slots, counts, values and bounds.
use Rattle.std.specs.Prelude.{Option, Some, None, unwrap_or}
use mathlib.Core.Path.{◌≡◌, refl, sym, ◌∙◌, ap}
use mathlib.Core.Bool.{Bool, true, false, ◌&&◌}
use mathlib.Core.List.{List}
use Prim.Native.Nat.{ℕ, ◌+◌, ◌-◌, ◌*◌, ◌<◌, ◌≤◌}
use native.Mathlib.Omega.{arith}
use borrow.Author.Tests.{le-leb, lt-leb, leb-true, leb-false, lt-ltb, le-ltb, eq-eqb, ne_eqb}
use lib.Dec.{leb}
use lib.ListN.{length, get_or-eq_default}
use lib.IntN.{ℤ, pos}
use Rattle.rules.specs.Limits.{variable_limit, row_limit, scale_limit}
use Rattle.value.specs.declared.Value.{Value}
use Rattle.value.specs.Decimal.{zero_value, of_whole}
use Rattle.value.specs.Gathering.{millionths, of_millionths}
use Rattle.value.proofs.Gathering.{of_millionths-own}
use Rattle.value.proofs.Operations.{zero-valid}
use Rattle.value.proofs.Ranges.{and-false, and_left, and_right}
use Rattle.store.specs.Table.{Table, word_at}
use Rattle.store.specs.Packed.{unpacked}
use Rattle.rows.specs.declared.Sizes.{Sizes}
use Rattle.rows.specs.Slots.{floor_slot, less_slot, equal_slot}
use Rattle.rows.specs.declared.Bound.{Bound}
use Rattle.rows.specs.Bounds.{BoundTable, nth_bound}
use Rattle.rows.specs.Read.{within, slot_at, count_at, fitted, value_of, lower_in, upper_in, end_in}

-- ---- sizes

same_test : (a b : ℕ) → a ≤ 512 → leb b (512 - a) ≡ leb (a + b) 512
same_test a b h = go (leb (a + b) 512) refl
  where
    go : (t : Bool) → leb (a + b) 512 ≡ t → leb b (512 - a) ≡ t
    go true e = let k = leb-true (a + b) 512 e in le-leb b (512 - a) (omega arith)
    go false e = let k = leb-false (a + b) 512 e in lt-leb b (512 - a) (omega arith)

module _ (x : Sizes) where
  pub within-no : 512 < x.less → false ≡ within x
  unfolding within variable_limit row_limit
  within-no h = let k : 512 < x.less + x.equal = omega arith in sym (rw (lt-leb (x.less + x.equal) 512 k) (and-false (leb x.variables 512)))

  pub within-test : x.less ≤ 512 → (leb x.variables 512 && leb x.equal (512 - x.less)) ≡ within x
  unfolding within variable_limit row_limit
  within-test h = rw (same_test x.less x.equal h)

  pub record Within : Type 0 where
    pub variables : x.variables ≤ 512
    pub rows : x.less + x.equal ≤ 512

  pub within-yes : within x ≡ true → Within
  unfolding within variable_limit row_limit
  within-yes e =
      record {
        variables = leb-true x.variables 512 (and_left _ (leb (x.less + x.equal) 512) e);
        rows = leb-true (x.less + x.equal) 512 (and_right (leb x.variables 512) _ e);
      }

  pub yes-within : x.variables ≤ variable_limit → x.less + x.equal ≤ row_limit → within x ≡ true
  unfolding within
  yes-within a b = rw (le-leb x.variables variable_limit a, le-leb (x.less + x.equal) row_limit b)

-- ---- slots

module _ (less i : ℕ) where
  pub slot-less : i < less → i ≡ slot_at less i
  unfolding slot_at less_slot
  slot-less h = rw (lt-ltb i less h)

  pub slot-equal : less ≤ i → 512 - 1 - (i - less) ≡ slot_at less i
  unfolding slot_at equal_slot row_limit
  slot-equal h = rw (le-ltb i less h) (omega arith)

  pub slot-past : less ≤ i → 512 ≤ i - less → 0 ≡ slot_at less i
  unfolding slot_at equal_slot row_limit
  slot-past h b = rw (le-ltb i less h) (omega arith)

-- ---- counts and values

pub count_none : (m : List ℤ) (k j : ℕ) → length m ≤ k * 512 + j → pos 0 ≡ count_at m k j
unfolding count_at
count_none m k j h = sym (get_or-eq_default m (pos 0) h)

pub value-fits : (z : ℤ) (f : Option Value) (v : Value) → f ≡ of_millionths z → f ≡ Some v → v ≡ value_of z
unfolding value_of fitted
value-fits z f v e g = rw (← e, g)

pub value-or : (z : ℤ) (f : Option Value) → f ≡ of_millionths z → unwrap_or f (of_whole (pos 0)) ≡ value_of z
unfolding value_of fitted of_whole
value-or z (Some v) e = rw (← e)
value-or z None e = rw (← e)

-- the count 0 is the value 0
pub zero-count : value_of (pos 0) ≡ zero_value
unfolding millionths scale_limit
zero-count = sym (value-fits (pos 0) (of_millionths (pos 0)) zero_value refl (of_millionths-own zero_value zero-valid))

-- ---- bounds

module _ (b : BoundTable) (j : ℕ) (x : Bound) (is : x ≡ nth_bound b j) where
  pub lower-read : (z : Value) → z ≡ of_whole (pos 0) → unwrap_or x.lower z ≡ lower_in b j
  unfolding lower_in fitted of_whole
  lower-read z e = rw (← is, e) (go x.lower)
    where
      go : (o : Option Value) → unwrap_or o zero_value ≡ fitted o
      go (Some v) = refl
      go None = refl

  pub upper-read : x.upper ≡ upper_in b j
  unfolding upper_in
  upper-read = rw is

-- ---- floors

module _ (w : ℕ) where
  end_none : w ≡ 0 → None ≡ end_in w
  unfolding end_in
  end_none e = rw (eq-eqb w 0 e)

  end-some : (v : Value) → (w ≡ 0 → ⊥) → v ≡ unpacked w → (Some v) ≡ end_in w
  unfolding end_in
  end-some v e h = rw (ne_eqb w 0 e) (ap Some h)

module _ (t : Table) (k q w : ℕ) (a : q ≡ floor_slot k) (b : w ≡ word_at t q) where
  same_word : w ≡ word_at t (floor_slot k)
  same_word = b ∙ ap (word_at t) a

  pub no-floor : w ≡ 0 → None ≡ end_in (word_at t (floor_slot k))
  no-floor z = end_none _ (sym same_word ∙ z)

  pub floor-read : (v : Value) → (w ≡ 0 → ⊥) → v ≡ unpacked w → (Some v) ≡ end_in (word_at t (floor_slot k))
  floor-read v z h = end-some _ v (λ n. z (same_word ∙ n)) (h ∙ ap unpacked same_word)
