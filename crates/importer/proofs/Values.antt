-- Numbers that are printed to be compared, and values that are read.
use Rattle.std.specs.Prelude.{Option, Some, None}
use mathlib.Core.Path.{◌≡◌, refl, sym, ◌∙◌, ap}
use mathlib.Core.Logic.{◌≢◌}
use mathlib.Core.Bool.{Bool, true, false, not, cond}
use mathlib.Core.List.{List, [], ◌∷◌, ◌++◌, append_assoc, append-nil}
use Prim.Native.Nat.{ℕ, suc, ◌+◌, ◌-◌, ◌<◌, ◌≤◌}
use native.Mathlib.Omega.{arith}
use borrow.Author.Tests.{eq-eqb, ne_eqb, leb-true, leb-false, not-true, not-false}
use mir.Syntax.{w64}
use mir.Val.{to_z}
use lib.Dec.{eqb, leb}
use lib.ListN.{length, get_or, take, drop, drop_of_length-le, length-drop, length-take}
use lib.Seq.{sets-eq, take_at, take-suc, get_or-drop}
use Rattle.rules.specs.Limits.{mantissa_limit}
use Rattle.rules.specs.Characters.{line_feed}
use Rattle.value.specs.declared.Value.{Value}
use Rattle.value.specs.Decimal.{Valid, of_whole, in_range, negate}
use Rattle.value.specs.Literal.{literal_of}
use Rattle.value.specs.Printed.{natural, shown, Written}
use Rattle.value.proofs.Reading.{literal-valid}
use Rattle.value.proofs.Operations.{negate-valid, valid-negated}
use Rattle.value.proofs.Writing.{written-length, shown-valid}
use Rattle.value.proofs.ReadBack.{read_back, opposite}
use Rattle.lexer.specs.Text.{front, behind, same_bytes}
use Rattle.listing.proofs.Showing.{shown-most, whole_is, natural-read, natural-shown}
use Rattle.mps.specs.Reading.{Reader, strip, in_line, print_of, value_of, read_value, line_value}
use Rattle.importer.specs.Steps.{Strips, LineEnds, Finds}
use Rattle.std.proofs.lemmas.List.{drop_more}

-- ---- what was printed into a small buffer

pub print-most : (l : List ℕ) (v : Value) (k : ℕ) (l' : List ℕ) → Written l 0 (shown v) k l' → k ≤ 26
print-most l v k l' w = omega (arith, w.next, shown-most v)

pub print-part : (l : List ℕ) (v : Value) (k : ℕ) (l' : List ℕ) → Written l 0 (shown v) k l' → 32 ≤ length l → take k l' ≡ shown v
print-part l v k l' w h =
    rw (w.bytes, sets-eq (shown v) l 0 (omega (arith, shown-most v))) (take_at (shown v) _ k (omega (arith, w.next)))

-- the buffer has 32 bytes
module _ (l : List ℕ) (v : Value) (k : ℕ) (l' : List ℕ) (w : Written l 0 (shown v) k l') (h : 32 ≤ length l) where
  same_size : length l' ≡ length l
  same_size = written-length _ _ _ _ _ w

  pub print-fits : k ≤ length l'
  print-fits = omega (arith, print-most l v k l' w, same_size)

  pub print-size : k ≡ length (take k l')
  print-size = rw length-take (omega (arith, print-fits))

  pub print-strips : (text : List ℕ) (at : ℕ) (r : Option ℕ) → Strips (take k l') text at r → Strips (shown v) text at r
  print-strips text at r s = rw (print-part l v k l' w h) at s

pub number-strips : (n : ℕ) (v : Value) (text : List ℕ) (at : ℕ) (r : Option ℕ) → v ≡ of_whole (to_z w64 n) → n < 1024 → Strips (shown v) text at r → Strips (natural n) text at r
unfolding mantissa_limit
number-strips n v text at r e g s = rw (whole_is v (to_z w64 n) e ∙ natural-read n (omega arith) ∙ natural-shown n (omega arith)) at s

-- ---- the line's end

in-line : (b : ℕ) → (b ≡ 10 → ⊥) → in_line b ≡ true
unfolding in_line
in-line b h = rw (ne_eqb b 10 h)

at-end : (b : ℕ) → b ≡ 10 → in_line b ≡ false
unfolding in_line
at-end b h = rw (eq-eqb b 10 h)

-- the bytes passed, and the run from here on
pub record Running (text : List ℕ) (at i : ℕ) : Type 0 where
  pub low : at ≤ i
  pub high : i ≤ length text
  pub run : take (i - at) (drop at text) ++ front in_line (drop i text) ≡ front in_line (drop at text)
  pub rest : behind in_line (drop i text) ≡ behind in_line (drop at text)

pub run-first : (text : List ℕ) (at : ℕ) → at ≤ length text → Running text at at
run-first text at h =
    let z : at - at ≡ 0 = omega arith in
    record { low = omega arith; high = h; run = rw z; rest = refl }

module _ (text : List ℕ) (at i : ℕ) (r : Running text at i) where
  front-more : i < length text → (get_or text i 0 ≡ 10 → ⊥) → front in_line (drop i text) ≡ get_or text i 0 ∷ front in_line (drop (i + 1) text)
  unfolding front
  front-more h f = rw (drop_more text i 0 h) (rw (in-line (get_or text i 0) f, front))

  behind_more : i < length text → (get_or text i 0 ≡ 10 → ⊥) → behind in_line (drop i text) ≡ behind in_line (drop (i + 1) text)
  unfolding behind
  behind_more h f = rw (drop_more text i 0 h) (rw (in-line (get_or text i 0) f, behind))

  front-stop : i < length text → get_or text i 0 ≡ 10 → front in_line (drop i text) ≡ []
  unfolding front
  front-stop h e = rw (drop_more text i 0 h) (rw (at-end (get_or text i 0) e, front))

  behind-stop : i < length text → get_or text i 0 ≡ 10 → behind in_line (drop i text) ≡ drop i text
  unfolding behind
  behind-stop h e = rw (drop_more text i 0 h) (rw (at-end (get_or text i 0) e, behind))

  pub run_more : i < length text → (get_or text i 0 ≡ 10 → ⊥) → Running text at (i + 1)
  run_more h f =
      let k : i + 1 - at ≡ suc (i - at) = omega (arith, r.low) in
      let s : at + (i - at) ≡ i = omega (arith, r.low) in
      let g : get_or (drop at text) (i - at) 0 ≡ get_or text i 0 = rw (get_or-drop, s) in
      let t : take (i + 1 - at) (drop at text) ≡ take (i - at) (drop at text) ++ (get_or text i 0 ∷ []) =
      rw (k, take-suc (drop at text) (i - at) 0 (omega (arith, length-drop at text, r.low)), g) in
      record {
        low = omega (arith, r.low);
        high = omega arith;
        run = rw (t, append_assoc (take (i - at) (drop at text)) (get_or text i 0 ∷ []) (front in_line (drop (i + 1) text))) (ap (λ (l : List ℕ). take (i - at) (drop at text) ++ l) (sym (front-more h f)) ∙ r.run);
        rest = sym (behind_more h f) ∙ r.rest;
      }

  pub run-stop : i < length text → get_or text i 0 ≡ 10 → LineEnds text at i
  run-stop h e =
      record {
        low = r.low;
        high = r.high;
        run = sym (append-nil (take (i - at) (drop at text))) ∙ ap (λ (l : List ℕ). take (i - at) (drop at text) ++ l) (sym (front-stop h e)) ∙ r.run;
        rest = sym (behind-stop h e) ∙ r.rest;
      }

  pub run_out : length text ≤ i → LineEnds text at (length text)
  unfolding front behind
  run_out h =
      let z = drop_of_length-le text {i = i} h in
      let y : i ≡ length text = omega (arith, r.high) in
      record {
        low = omega (arith, r.low);
        high = omega arith;
        run = rw (← y) (sym (append-nil (take (i - at) (drop at text))) ∙ (rw z at r.run));
        rest = rw (← y) (z ∙ (rw z at r.rest));
      }

-- ---- a literal with its sign

pub signed-plain : (t : List ℕ) (r : Option Value) → ((rest : List ℕ) → t ≢ (45 ∷ []) ++ rest) → r ≡ literal_of t → r ≡ read_back t
unfolding read_back
signed-plain [] r f e = e
signed-plain (b ∷ t) r f e = rw (ne_eqb b 45 (λ g. f t (ap (λ (x : ℕ). x ∷ t) g))) e

module _ (t rest : List ℕ) (e : t ≡ (45 ∷ []) ++ rest) (r : Option Value) (h : r ≡ literal_of rest) where
  read-minus : read_back t ≡ opposite r
  unfolding read_back
  read-minus = rw (e, h)

  pub minus-big : r ≡ None → None ≡ read_back t
  unfolding opposite
  minus-big g = sym (read-minus ∙ rw g)

  pub minus-fits : (v w : Value) → r ≡ Some v → w ≡ cond (in_range v) (negate v) v → Some w ≡ read_back t
  unfolding opposite
  minus-fits v w g i = ap Some (i ∙ valid-negated v (literal-valid _ v (sym h ∙ g))) ∙ sym (read-minus ∙ rw g)

opposite-valid : (f : Option Value) → ((u : Value) → f ≡ Some u → Valid u) → (v : Value) → opposite f ≡ Some v → Valid v
unfolding opposite
opposite-valid (Some u) h v e = let k : negate u ≡ v = cc in rw k at (negate-valid u (h u refl))
opposite-valid None h v e = absurd (let z : ◌≡◌ {A = ℕ} 0 1 = cc in omega arith)

pub read-valid : (t : List ℕ) (v : Value) → read_back t ≡ Some v → Valid v
unfolding read_back
read-valid [] v e = literal-valid [] v e
read-valid (b ∷ t) v e = go (eqb b 45) e
  where
    go : (u : Bool) → cond u (opposite (literal_of t)) (literal_of (b ∷ t)) ≡ Some v → Valid v
    go true g = opposite-valid (literal_of t) (literal-valid t) v g
    go false g = literal-valid (b ∷ t) v g

-- ---- a print compared

ended : Option (List ℕ) → Bool
ended None = false
ended (Some []) = true
ended (Some (b ∷ l)) = false

same-strip : (w l : List ℕ) → same_bytes w l ≡ ended (strip w l)
unfolding same_bytes strip ended
same-strip [] [] = refl
same-strip [] (b ∷ l) = refl
same-strip (a ∷ w) [] = refl
same-strip (a ∷ w) (b ∷ l) = go (eqb a b) (same-strip w l)
  where
    go : (u : Bool) → same_bytes w l ≡ ended (strip w l)
        → elim u as (λ _. Bool) [ true ↦ same_bytes w l | false ↦ false ] ≡ ended (elim u as (λ _. Option (List ℕ)) [ true ↦ strip w l | false ↦ None ])
    go true e = e
    go false e = refl

module _ (w t : List ℕ) (m : Option ℕ) (s : Strips w t 0 m) where
  pub print-other : m ≡ None → false ≡ same_bytes w t
  unfolding ended
  print-other e = sym (same-strip w t ∙ rw (s.is, e))

  pub print-same : (n : ℕ) → m ≡ Some n → leb (length t) n ≡ same_bytes w t
  unfolding ended
  print-same n e = sym (same-strip w t ∙ rw (s.is, e) (go (drop n t) (length-drop n t) (leb (length t) n) refl))
    where
      inside : n ≤ length t
      inside = rw e at s.inside

      go : (l : List ℕ) → length l ≡ length t - n → (u : Bool) → leb (length t) n ≡ u → ended (Some l) ≡ u
      go [] h true g = refl
      go [] h false g = absurd (omega (arith, inside, leb-false (length t) n g))
      go (b ∷ l) h true g = absurd (omega (arith, leb-true (length t) n g))
      go (b ∷ l) h false g = refl

-- ---- a value and its line feed

module _ (text : List ℕ) (at end : ℕ) (h : LineEnds text at end) (f : Option Value) (g : f ≡ read_back (take (end - at) (drop at text))) where
  pub value-big : f ≡ None → Finds read_value text at None
  unfolding read_value value_of print_of
  value-big e = record { is = rw (← h.run, ← g, e); inside = tt }

  module _ (v : Value) (e : f ≡ Some v) (s : Bool) (i : s ≡ same_bytes (shown v) (take (end - at) (drop at text))) where
    valid : Valid v
    valid = read-valid _ v (sym g ∙ e)

    pub value-other : not s ≡ true → Finds read_value text at None
    unfolding read_value value_of print_of
    value-other k = record { is = rw (← h.run, ← g, e, ← shown-valid v valid, ← i, not-true s k); inside = tt }

    module _ (k : not s ≡ false) (m : Option ℕ) (z : Strips (line_feed ∷ []) text end m) where
      pub value-open : m ≡ None → Finds read_value text at None
      unfolding read_value value_of print_of
      value-open j = record { is = rw (← h.run, ← h.rest, ← g, e, ← shown-valid v valid, ← i, not-false s k, z.is, j); inside = tt }

      pub value_found : (n : ℕ) → m ≡ Some n → Finds read_value text at (Some (v, n))
      unfolding read_value value_of print_of
      value_found n j =
          record {
            is = rw (← h.run, ← h.rest, ← g, e, ← shown-valid v valid, ← i, not-false s k, z.is, j);
            inside = (valid, rw j at z.inside);
          }

-- ---- a value's line

module _ (w text : List ℕ) (at : ℕ) (m : Option ℕ) (s : Strips w text at m) where
  pub line-none : m ≡ None → Finds (line_value w) text at None
  unfolding line_value
  line-none e = record { is = rw (s.is, e); inside = tt }

  pub line-some : (n : ℕ) (r : Option (Value × ℕ)) → m ≡ Some n → Finds read_value text n r → Finds (line_value w) text at r
  unfolding line_value
  line-some n r e f = record { is = rw (s.is, e) f.is; inside = f.inside }

-- where a value's line ends, and the value
module _ {m : Reader Value} {text : List ℕ} {at : ℕ} {r : Option (Value × ℕ)} (d : Finds m text at r) {v : Value} {n : ℕ} (e : r ≡ Some (v, n)) where
  pub found_inside : n ≤ length text
  found_inside = (rw e at d.inside).1

  pub found-valid : Valid v
  found-valid = (rw e at d.inside).0
