-- Laws of the steps on values: what each answers, and that it is what the definition says of values.
use Rattle.std.specs.Prelude.{Err, Ok, Result, Option, Some, None, ok_or}
use Rattle.rules.specs.declared.Refused.{Refused}
use mathlib.Core.Path.{◌≡◌, refl, sym, ◌∙◌, ap}
use mathlib.Core.Bool.{Bool, true, false, cond}
use mathlib.Core.List.{List}
use Prim.Native.Nat.{ℕ, ◌/◌, ◌%◌, ◌^◌, ◌<◌}
use native.Mathlib.Omega.{arith}
use lib.IntN.{ℤ, pos}
use lib.Signed.{mag}
use mir.Syntax.{w64}
use mir.Val.{Fits, to_z, of_z}
use mir.Facts.{to_z_pos}
use Rattle.rules.specs.declared.Refusal.TheVariants.{Unfit, BadIndex, NotWhole, Missing}
use Rattle.value.specs.declared.Value.{Value}
use Rattle.value.specs.Decimal.{in_range, if_in_range, sum_of, negate, whole_of, of_whole, floor_of, ceiling_of}
use Rattle.value.proofs.Integers.{back}
use Rattle.value.proofs.Operations.{try-yes, try-no}
use Rattle.store.specs.declared.Element.{Element}
use Rattle.store.specs.declared.Key.{Key}
use Rattle.store.specs.Element.{list_of, extended}
use Rattle.store.specs.Key.{key_number, key_of}
use Rattle.store.specs.Table.{Table, Sorted, word_at, word_in, lookup, found_row, Finds}
use Rattle.store.specs.Packed.{unpacked}
use Rattle.store.proofs.Halving.{found_word, finds-sorted}
use Rattle.language.specs.Scope.{bound_to}
use Rattle.evaluator.specs.declared.steps.scope.Scope.{Scope as Held}
use Rattle.evaluator.specs.declared.steps.values.Limits.{Limits}
use Rattle.evaluator.specs.declared.steps.values.Bounds.{Bounds}
use Rattle.evaluator.specs.Steps.Scopes.{bindings_of}
use Rattle.evaluator.specs.Steps.Values.{fitted_at, signed_value, whole_by, whole_answer, bound_by, bound_answer, word_answer, known_answer}

-- ---- values

pub literal-is : (x : ℕ) → Fits w64 x → ◌≡◌ {A = Value} (record { m = to_z w64 (x / 8); s = x % 8 }) (record { m = pos (x / 8); s = x % 8 })
literal-is x h = rw (to_z_pos w64 {n = x / 8} (omega (arith, h.fits))) refl

module _ (p a : ℕ) (f : Option Value) where
  pub fitted-value : (v : Value) → f ≡ Some v → Ok (v, a) ≡ fitted_at p a f
  unfolding fitted_at
  fitted-value v e = rw e refl

  pub fitted-not : f ≡ None → Err (record { refusal = Unfit; place = p }) ≡ fitted_at p a f
  unfolding fitted_at
  fitted-not e = rw e refl

  pub fitted-same : (g : Option Value) (r : Result (Value × ℕ) Refused) → r ≡ fitted_at p a g → g ≡ f → r ≡ fitted_at p a f
  fitted-same g r e h = e ∙ ap (fitted_at p a) h

pub signed-minus : (b : Bool) (v w : Value) → b ≡ true → w ≡ cond (in_range v) (negate v) v → w ≡ signed_value b v
unfolding signed_value
signed-minus b v w e h = h ∙ rw e refl

pub signed-plus : (b : Bool) (v : Value) → b ≡ false → v ≡ signed_value b v
unfolding signed_value
signed-plus b v e = rw e refl

pub sum_same : (p a : ℕ) (b : Bool) (v w u : Value) (g : Option Value) (r : Result (Value × ℕ) Refused) → u ≡ signed_value b w → g ≡ if_in_range v u (sum_of v u) → r ≡ fitted_at p a g
    → r ≡ fitted_at p a (if_in_range v (signed_value b w) (sum_of v (signed_value b w)))
sum_same p a b v w u g r e f h = h ∙ ap (fitted_at p a) (f ∙ ap (λ u. if_in_range v u (sum_of v u)) e)

-- ---- whole numbers

module _ (p a : ℕ) (v : Value) (w : Result ℤ Value) (h : w ≡ ok_or (whole_of v) v) where
  pub whole-yes : (k : ℤ) → w ≡ Ok k → Ok (v, a) ≡ whole_answer p a v
  unfolding whole_answer whole_by
  whole-yes k e = rw (try-yes (whole_of v) v k (sym h ∙ e)) refl

  pub whole-no : (u : Value) → w ≡ Err u → Err (record { refusal = NotWhole; place = p }) ≡ whole_answer p a v
  unfolding whole_answer whole_by
  whole-no u e = rw (try-no (whole_of v) v u (sym h ∙ e)) refl

module _ (p a i : ℕ) (s : Held) (b : Option ℤ) (h : b ≡ bound_to i (bindings_of s)) where
  pub bound-no : b ≡ None → Err (record { refusal = BadIndex; place = p }) ≡ bound_answer p a s i
  unfolding bound_answer bound_by
  bound-no e = rw (← h, e) refl

  pub bound-yes : (k : ℤ) (v : Value) → b ≡ Some k → mag k < 2 ^ 63 → v ≡ of_whole (to_z w64 (of_z w64 k)) → Ok (v, a) ≡ bound_answer p a s i
  unfolding bound_answer bound_by
  bound-yes k v e m g = rw (g, back m, ← h, e) refl

pub grown-is : (e r : Element) (v : Value) → mag v.m < 2 ^ 63 → list_of r ≡ extended (list_of e) (to_z w64 (of_z w64 v.m)) → list_of r ≡ extended (list_of e) v.m
grown-is e r v h g = g ∙ ap (extended (list_of e)) (back h)

pub limits-are : (v w : Value) (a b : ℤ) → mag a < 2 ^ 63 → mag b < 2 ^ 63 → a ≡ ceiling_of v → b ≡ floor_of w
    → ◌≡◌ {A = Limits} (record { lower = to_z w64 (of_z w64 a); upper = to_z w64 (of_z w64 b) }) (record { lower = ceiling_of v; upper = floor_of w })
limits-are v w a b h k e f = rw (back h, back k, e, f) refl

pub bounds-are : (i q : ℕ) (v w : Value) (l : Limits) → l ≡ record { lower = ceiling_of v; upper = floor_of w }
    → ◌≡◌ {A = Bounds} (record { number = i; place = q; limits = l }) (record { number = i; place = q; limits = record { lower = ceiling_of v; upper = floor_of w } })
bounds-are i q v w l e = rw e refl

-- ---- data

module _ (ds : Table) (p a : ℕ) (f : Option ℕ) where
  pub datum-no : f ≡ None → Err (record { refusal = Missing; place = p }) ≡ word_answer p a (word_in ds f)
  unfolding word_answer word_in
  datum-no e = rw e

  pub datum-yes : (j w : ℕ) (v : Value) → f ≡ Some j → w ≡ word_at ds j → v ≡ unpacked w → Ok (v, a) ≡ word_answer p a (word_in ds f)
  unfolding word_answer word_in
  datum-yes j w v e x y = rw (e, y, x)

module _ (ds : Table) (rows i p a : ℕ) (ks : List ℤ) (k : Key) (f : Option ℕ) (h : key_number k ≡ key_of i ks) (r : Result (Value × ℕ) Refused) (d : r ≡ word_answer p a (word_in ds f)) where
  pub known_is : f ≡ found_row ds rows (key_number k) → r ≡ known_answer ds rows i ks p a
  unfolding known_answer
  known_is g = d ∙ ap (λ f. word_answer p a (word_in ds f)) g ∙ ap (λ n. word_answer p a (word_in ds (found_row ds rows n))) h

  -- found early: in a sorted table the same row
  pub early-is : Finds ds rows (key_number k) f → Sorted ds rows → r ≡ known_answer ds rows i ks p a
  early-is g s = known_is (finds-sorted ds rows (key_number k) f g s)

-- in a sorted table, the word that the search from the front finds
pub known-word : (ds : Table) (rows i p a : ℕ) (ks : List ℤ) → Sorted ds rows → known_answer ds rows i ks p a ≡ word_answer p a (lookup ds rows (key_of i ks))
unfolding known_answer
known-word ds rows i p a ks s = ap (word_answer p a) (found_word ds rows (key_of i ks) s)
