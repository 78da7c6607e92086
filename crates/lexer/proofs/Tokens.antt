-- What each function that reads a token answers, as laws over plain variables.
use mathlib.Core.Path.{◌≡◌, refl, sym, ◌∙◌, ap, subst}
use mathlib.Core.Bool.{Bool, true, false, cond, ◌&&◌, ◌||◌}
use mathlib.Core.List.{List, [], ◌∷◌, ◌++◌}
use Rattle.std.specs.Prelude.{Option, Some, None}
use Prim.Native.Nat.{ℕ, zero, suc, ◌+◌, ◌-◌, ◌<◌, ◌≤◌}
use native.Mathlib.Omega.{arith}
use native.Mathlib.Numerals.{add-one}
use borrow.Author.Tests.{eq-eqb, ne_eqb, eqb-true, le-leb, lt-leb, leb-true, ltb-true, ltb-false}
use lib.Dec.{eqb, leb, ltb}
use lib.ListN.{length, get_or, take, drop, drop_of_length-le}
use lib.Seq.{drop-drop, take-add}
use Rattle.rules.specs.declared.Refusal.TheVariants.{StrangeByte, Misplaced, BadName}
use Rattle.rules.specs.Limits.{name_length, string_length}
use Rattle.value.specs.Literal.{is_digit}
use Rattle.value.proofs.Ranges.{and-false}
use Rattle.lexer.specs.declared.Mark.{Mark}
use Rattle.lexer.specs.Marks.{capital_words, small_words}
use Rattle.lexer.specs.Numbers.{number}
use Rattle.lexer.specs.Text as Text
use Rattle.lexer.specs.Text.{mark, name, string, wrong, is_small, is_capital, is_sign, in_name, in_string, no_brace, front, behind, pointed, step, powered, name_step, word_step, literal_step, strange, well_shaped, string_step, order_step, step_at}
use Rattle.lexer.specs.declared.Found.{Found}
use Rattle.lexer.specs.declared.Token.TheVariants.{Mark as MarkToken, Name, String, Wrong}
use Rattle.lexer.specs.View.{part_of}
use Rattle.lexer.specs.Inner.{RunLength, IsSign, IsWord, word_kind, Gives, PointAfter, fraction_step, other_step}
use Rattle.std.proofs.lemmas.List.{drop_more}
use Rattle.lexer.proofs.Runs.{run_is, run-part, run-slice, run-behind}

-- ---- names and words

module _ (s : List ℕ) (at n : ℕ) (w : Option Mark) where
  name-is : RunLength s at in_name n → IsWord small_words (take (at + n - at) (drop at s)) w
      → name_step at (front in_name (drop at s)) ≡ step (word_kind w (cond (leb n name_length) (name (part_of s at n)) (wrong BadName))) at n
  unfolding name_step
  name-is c i =
      let j : IsWord small_words (front in_name (drop at s)) w = subst (λ (l : List ℕ). IsWord small_words l w) (run-slice s at in_name n c) i in
      rw (run-part s at in_name n c, ← c.count) (ap (λ k. step k at n) (j.is _))

  pub name-word : (m : Mark) → RunLength s at in_name n → IsWord small_words (take (at + n - at) (drop at s)) w → w ≡ Some m
      → Gives s (record { token = MarkToken m; place = at; size = n }) (name_step at (front in_name (drop at s)))
  name-word m c i e = record { same = sym (name-is c i ∙ rw e refl); within = tt }

  pub name_new : at < length s → RunLength s at in_name n → IsWord small_words (take (at + n - at) (drop at s)) w → w ≡ None → n ≤ name_length
      → Gives s (record { token = Name at n; place = at; size = n }) (name_step at (front in_name (drop at s)))
  name_new a c i e h =
      record {
        same = sym (name-is c i ∙ rw (e, le-leb n name_length h) refl);
        within = record { starts = refl; short = h; inside = omega (arith, c.bound) };
      }

  pub name-long : RunLength s at in_name n → IsWord small_words (take (at + n - at) (drop at s)) w → w ≡ None → name_length < n
      → Gives s (record { token = Wrong BadName; place = at; size = n }) (name_step at (front in_name (drop at s)))
  name-long c i e h = record { same = sym (name-is c i ∙ rw (e, lt-leb n name_length h) refl); within = tt }

  word-is : RunLength s at is_capital n → IsWord capital_words (take (at + n - at) (drop at s)) w
      → word_step at (front is_capital (drop at s)) ≡ step (word_kind w (wrong Misplaced)) at n
  unfolding word_step
  word-is c i =
      let j : IsWord capital_words (front is_capital (drop at s)) w = subst (λ (l : List ℕ). IsWord capital_words l w) (run-slice s at is_capital n c) i in
      rw (← c.count) (ap (λ k. step k at n) (j.is _))

  pub word-mark : (m : Mark) → RunLength s at is_capital n → IsWord capital_words (take (at + n - at) (drop at s)) w → w ≡ Some m
      → Gives s (record { token = MarkToken m; place = at; size = n }) (word_step at (front is_capital (drop at s)))
  word-mark m c i e = record { same = sym (word-is c i ∙ rw e refl); within = tt }

  pub word-wrong : RunLength s at is_capital n → IsWord capital_words (take (at + n - at) (drop at s)) w → w ≡ None
      → Gives s (record { token = Wrong Misplaced; place = at; size = n }) (word_step at (front is_capital (drop at s)))
  word-wrong c i e = record { same = sym (word-is c i ∙ rw e refl); within = tt }

-- ---- a point and a digit

point-is : (s : List ℕ) (i : ℕ) → pointed (drop i s) ≡ (eqb (get_or s i 0) 46 && is_digit (get_or s (suc i) 0))
unfolding pointed is_digit
point-is [] zero = refl
point-is [] (suc i) = refl
point-is (b ∷ []) zero = sym (and-false (eqb b 46))
point-is (b ∷ c ∷ t) zero = refl
point-is (b ∷ t) (suc i) = point-is t i

module _ (s : List ℕ) (at : ℕ) where
  pub point-end : length s ≤ at → false ≡ pointed (drop at s)
  unfolding pointed
  point-end h = rw (drop_of_length-le s {i = at} h) refl

  pub point-here : (b c : ℕ) (d : Bool) → b ≡ get_or s at 0 → c ≡ get_or s (at + 1) 0 → d ≡ is_digit c → (eqb b 46 && d) ≡ pointed (drop at s)
  point-here b c d e f g = rw (g, f, e, add-one at) (sym (point-is s at))

  point-within : pointed (drop at s) ≡ true → at < length s
  point-within e = go (ltb at (length s)) refl
    where
      go : (u : Bool) → ltb at (length s) ≡ u → at < length s
      go true h = ltb-true at (length s) h
      go false h = cc (sym e ∙ sym (point-end (ltb-false at (length s) h)))

  point-byte : pointed (drop at s) ≡ true → drop at s ≡ 46 ∷ drop (at + 1) s
  point-byte e = drop_more s at 0 (point-within e) ∙ ap (λ (b : ℕ). b ∷ drop (at + 1) s) (go (eqb (get_or s at 0) 46) refl (sym (point-is s at) ∙ e))
    where
      go : (u : Bool) → eqb (get_or s at 0) 46 ≡ u → (u && is_digit (get_or s (suc at) 0)) ≡ true → get_or s at 0 ≡ 46
      go true h q = eqb-true (get_or s at 0) 46 h
      go false h q = cc

-- ---- literals

module _ (s : List ℕ) (at w : ℕ) where
  pub point-after : (b : Bool) → RunLength s at is_digit w → b ≡ pointed (drop (at + w) s) → b ≡ true → PointAfter s at w
  point-after b c e f = record { digits = c; point = sym e ∙ f; inside = point-within s (at + w) (sym e ∙ f) }

  fraction-bytes : (f : ℕ) → PointAfter s at w → RunLength s (at + w + 1) is_digit f
      → take (at + w + 1 + f - at) (drop at s) ≡ front is_digit (drop at s) ++ (46 ∷ front is_digit (drop 1 (behind is_digit (drop at s))))
  fraction-bytes f p c =
      let e : at + w + 1 + f - at ≡ w + suc f = omega arith in
      let b = point-byte s (at + w) p.point in
      rw (e, take-add w (suc f) (drop at s), run-part s at is_digit w p.digits, drop-drop w at s, run-behind s at is_digit w p.digits, b)
      (ap (λ (l : List ℕ). front is_digit (drop at s) ++ (46 ∷ l)) (run-part s (at + w + 1) is_digit f c))

  fraction-behind : (f : ℕ) → PointAfter s at w → RunLength s (at + w + 1) is_digit f → drop (at + w + 1 + f) s ≡ behind is_digit (drop 1 (behind is_digit (drop at s)))
  fraction-behind f p c = rw (run-behind s at is_digit w p.digits, drop-drop 1 (at + w) s) (sym (run-behind s (at + w + 1) is_digit f c))

  pub fraction-is : (f : ℕ) (r : Found) → PointAfter s at w → RunLength s (at + w + 1) is_digit f
      → Gives s r (powered false at (part_of s at (at + w + 1 + f - at)) (drop (at + w + 1 + f) s)) → Gives s r (fraction_step at (drop at s))
  fraction-is f r p c g = rw (fraction-bytes f p c, fraction-behind f p c) at g

  pub literal-fraction : (b : Bool) (r : Found) → RunLength s at is_digit w → b ≡ pointed (drop (at + w) s) → b ≡ true
      → Gives s r (fraction_step at (drop at s)) → Gives s r (literal_step at (front is_digit (drop at s)) (behind is_digit (drop at s)))
  unfolding literal_step
  literal-fraction b r c e f g =
      let q : pointed (behind is_digit (drop at s)) ≡ true = ap pointed (run-behind s at is_digit w c) ∙ sym e ∙ f in
      rw (q, literal_step) g

  pub literal-whole : (b : Bool) (r : Found) → RunLength s at is_digit w → b ≡ pointed (drop (at + w) s) → b ≡ false
      → Gives s r (powered true at (part_of s at (at + w - at)) (drop (at + w) s)) → Gives s r (literal_step at (front is_digit (drop at s)) (behind is_digit (drop at s)))
  unfolding literal_step
  literal-whole b r c e f g =
      let q : pointed (behind is_digit (drop at s)) ≡ false = ap pointed (run-behind s at is_digit w c) ∙ sym e ∙ f in
      rw (q, literal_step) (rw (run-slice s at is_digit w c, ← run-behind s at is_digit w c) at g)

-- ---- strings

strange-at : (l : List ℕ) (p : ℕ) (e : Text.Step) → length (front in_string l) < length l → strange p l e ≡ step (wrong StrangeByte) (p + length (front in_string l)) 0
unfolding strange front
strange-at [] p e h = absurd (omega arith)
strange-at (b ∷ t) p e h = go (in_string b) (strange-at t (suc p) e) h
  where
    go : (u : Bool) → (length (front in_string t) < length t → strange (suc p) t e ≡ step (wrong StrangeByte) (suc p + length (front in_string t)) 0)
        → length {A = ℕ} (elim u as (λ _. List ℕ) [ true ↦ b ∷ front in_string t | false ↦ [] ]) < length (b ∷ t)
        → elim u as (λ _. Text.Step) [ true ↦ strange (suc p) t e | false ↦ step (wrong StrangeByte) p 0 ]
        ≡ step (wrong StrangeByte) (p + length {A = ℕ} (elim u as (λ _. List ℕ) [ true ↦ b ∷ front in_string t | false ↦ [] ])) 0
    go true r h = let q : suc p + length (front in_string t) ≡ p + suc (length (front in_string t)) = omega arith in r (omega arith) ∙ rw q refl
    go false r h = let q : p + 0 ≡ p = omega arith in rw q refl

strange-none : (l : List ℕ) (p : ℕ) (e : Text.Step) → length l ≤ length (front in_string l) → strange p l e ≡ e
unfolding strange front
strange-none [] p e h = refl
strange-none (b ∷ t) p e h = go (in_string b) (strange-none t (suc p) e) h
  where
    go : (u : Bool) → (length t ≤ length (front in_string t) → strange (suc p) t e ≡ e)
        → length (b ∷ t) ≤ length {A = ℕ} (elim u as (λ _. List ℕ) [ true ↦ b ∷ front in_string t | false ↦ [] ])
        → elim u as (λ _. Text.Step) [ true ↦ strange (suc p) t e | false ↦ step (wrong StrangeByte) p 0 ] ≡ e
    go true r h = r (omega arith)
    go false r h = absurd (omega arith)

-- the code's test of a string's shape, l from i - length l to i
abbrev shape : List ℕ → List ℕ → ℕ → Bool
shape s l i = ltb i (length s) && (leb 1 (length l) && leb (length l) string_length)

shape_is : (s l : List ℕ) (i : ℕ) → shape s l i ≡ well_shaped l (drop i s)
unfolding well_shaped
shape_is s l i = go (ltb i (length s)) refl
  where
    go : (u : Bool) → ltb i (length s) ≡ u → (u && (leb 1 (length l) && leb (length l) string_length)) ≡ well_shaped l (drop i s)
    go true h = rw (drop_more s i 0 (ltb-true i (length s) h)) refl
    go false h = rw (drop_of_length-le s {i = i} (ltb-false i (length s) h)) refl

shape-inside : (s l : List ℕ) (i : ℕ) → shape s l i ≡ true → (length l ≤ string_length) × (i < length s)
shape-inside s l i e = go (ltb i (length s)) (leb 1 (length l)) (leb (length l) string_length) refl refl e
  where
    go : (x y z : Bool) → ltb i (length s) ≡ x → leb (length l) string_length ≡ z → (x && (y && z)) ≡ true → (length l ≤ string_length) × (i < length s)
    go true true true h g e = (leb-true (length l) string_length g, ltb-true i (length s) h)
    go true true false h g e = cc
    go true false z h g e = cc
    go false y z h g e = cc

module _ (s l : List ℕ) (at : ℕ) where
  -- l stands between the braces
  abbrev Inner : Type 0
  Inner = l ≡ front no_brace (drop (at + 1) s)

  abbrev here : Text.Step
  here = string_step at (front no_brace (drop (at + 1) s)) (behind no_brace (drop (at + 1) s))

  inner-run : Inner → RunLength s (at + 1) no_brace (length l)
  inner-run e = run_is s (at + 1) no_brace (length l) (ap length e)

  string-is : Inner → here ≡ strange (at + 1) l (step (cond (shape s l (at + 1 + length l)) (string l) (wrong Misplaced)) at (length l + 2))
  unfolding string_step
  string-is e = rw (run-behind s (at + 1) no_brace (length l) (inner-run e), ← e, ← shape_is s l (at + 1 + length l), ← add-one at) refl

  module _ (m : ℕ) where
    pub string-strange : Inner → RunLength l 0 in_string m → m < length l → Gives s (record { token = Wrong StrangeByte; place = at + 1 + m; size = 0 }) here
    string-strange e d h = record {
      same = sym (string-is e ∙ strange-at l (at + 1) _ (omega (arith, d.count)) ∙ rw (← d.count) refl);
      within = tt;
    }

    all-good : Inner → RunLength l 0 in_string m → length l ≤ m → (u : Bool) → shape s l (at + 1 + length l) ≡ u
        → here ≡ step (cond u (string l) (wrong Misplaced)) at (length l + 2)
    all-good e d h u t = string-is e ∙ strange-none l (at + 1) _ (omega (arith, d.count)) ∙ rw t refl

    pub string-good : Inner → RunLength l 0 in_string m → length l ≤ m → shape s l (at + 1 + length l) ≡ true
        → Gives s (record { token = String (at + 1) (length l); place = at; size = length l + 2 }) here
    string-good e d h t =
        let g = shape-inside s l (at + 1 + length l) t in
        record {
          same = sym (all-good e d h true t ∙ ap (λ k. step (string k) at (length l + 2)) (e ∙ sym (run-part s (at + 1) no_brace (length l) (inner-run e))));
          within = record { starts = refl; short = g.0; inside = omega (arith, g.1) };
        }

    pub string-wrong : Inner → RunLength l 0 in_string m → length l ≤ m → shape s l (at + 1 + length l) ≡ false
        → Gives s (record { token = Wrong Misplaced; place = at; size = length l + 2 }) here
    string-wrong e d h t = record { same = sym (all-good e d h false t); within = tt }

-- ---- `<=` and `>=`

order_is : (s : List ℕ) (i p k : ℕ) → order_step p k (drop i s) ≡ cond (eqb (get_or s i 0) 61) (step (mark k) p 2) (step (wrong StrangeByte) p 0)
unfolding order_step
order_is [] zero p k = refl
order_is [] (suc i) p k = refl
order_is (b ∷ t) zero p k = refl
order_is (b ∷ t) (suc i) p k = order_is t i p k

module _ (s : List ℕ) (at : ℕ) (k : Mark) (b : ℕ) where
  pub order-yes : b ≡ get_or s (at + 1) 0 → b ≡ 61 → Gives s (record { token = MarkToken k; place = at; size = 2 }) (order_step at (number k) (drop (at + 1) s))
  order-yes e h = record { same = sym (order_is s (at + 1) at (number k) ∙ rw (eq-eqb (get_or s (at + 1) 0) 61 (sym e ∙ h)) refl); within = tt }

  pub order-no : b ≡ get_or s (at + 1) 0 → (b ≡ 61 → ⊥) → Gives s (record { token = Wrong StrangeByte; place = at; size = 0 }) (order_step at (number k) (drop (at + 1) s))
  order-no e h = record { same = sym (order_is s (at + 1) at (number k) ∙ rw (ne_eqb (get_or s (at + 1) 0) 61 (λ z. h (e ∙ z))) refl); within = tt }

-- ---- by the first byte

via : (f : ℕ → Bool) (b x : ℕ) (g u : Bool) → b ≡ x → g ≡ f b → g ≡ u → f x ≡ u
via f b x g u e h k = ap f (sym e) ∙ sym h ∙ k

pub token-sign : (s : List ℕ) (at b : ℕ) (g : Option Mark) (m : Mark) → b ≡ get_or s at 0 → IsSign b g → g ≡ Some m
    → Gives s (record { token = MarkToken m; place = at; size = 1 }) (step_at at (get_or s at 0) (drop (at + 1) s))
unfolding step_at
token-sign s at b g m e h h' = let q : IsSign b (Some m) = rw h' at h in record { same = rw (← e, q.0, q.1) refl; within = tt }

no-sign : (b x : ℕ) (g : Option Mark) → b ≡ x → IsSign b g → g ≡ None → is_sign x ≡ false
no-sign b x g e h k = let q : IsSign b None = rw k at h in ap is_sign (sym e) ∙ q

module _ (s : List ℕ) (at b : ℕ) (g : Option Mark) (d p l k : Bool) (r : Found) where
  is_number : (u : Bool) → at < length s → b ≡ get_or s at 0 → d ≡ is_digit b → p ≡ pointed (drop at s) → (d || p) ≡ u
      → (is_digit (get_or s at 0) || pointed (get_or s at 0 ∷ drop (at + 1) s)) ≡ u
  is_number u a e i j q = rw (← (i ∙ ap is_digit e), ← (j ∙ ap pointed (drop_more s at 0 a))) q

  pub token-number : at < length s → b ≡ get_or s at 0 → IsSign b g → g ≡ None → d ≡ is_digit b → p ≡ pointed (drop at s) → (d || p) ≡ true
      → Gives s r (literal_step at (front is_digit (drop at s)) (behind is_digit (drop at s))) → Gives s r (step_at at (get_or s at 0) (drop (at + 1) s))
  unfolding step_at
  token-number a e h h' i j q z =
      record { same = z.same ∙ rw (drop_more s at 0 a, no-sign b (get_or s at 0) g e h h', is_number true a e i j q) refl; within = z.within }

  pub token-name : at < length s → b ≡ get_or s at 0 → IsSign b g → g ≡ None → d ≡ is_digit b → p ≡ pointed (drop at s) → (d || p) ≡ false
      → l ≡ is_small b → l ≡ true → Gives s r (name_step at (front in_name (drop at s))) → Gives s r (step_at at (get_or s at 0) (drop (at + 1) s))
  unfolding step_at
  token-name a e h h' i j q m m' z =
      record {
        same = z.same
            ∙ rw (drop_more s at 0 a, no-sign b (get_or s at 0) g e h h', is_number false a e i j q, via is_small b (get_or s at 0) l true e m m') refl;
        within = z.within;
      }

  pub token-word : at < length s → b ≡ get_or s at 0 → IsSign b g → g ≡ None → d ≡ is_digit b → p ≡ pointed (drop at s) → (d || p) ≡ false
      → l ≡ is_small b → l ≡ false → k ≡ is_capital b → k ≡ true → Gives s r (word_step at (front is_capital (drop at s))) → Gives s r (step_at at (get_or s at 0) (drop (at + 1) s))
  unfolding step_at
  token-word a e h h' i j q m m' n n' z =
      record {
        same = z.same
            ∙ rw (drop_more s at 0 a, no-sign b (get_or s at 0) g e h h', is_number false a e i j q, via is_small b (get_or s at 0) l false e m m', via is_capital b (get_or s at 0) k true e n n') refl;
        within = z.within;
      }

  pub token-other : at < length s → b ≡ get_or s at 0 → IsSign b g → g ≡ None → d ≡ is_digit b → p ≡ pointed (drop at s) → (d || p) ≡ false
      → l ≡ is_small b → l ≡ false → k ≡ is_capital b → k ≡ false → Gives s r (other_step at b (drop (at + 1) s)) → Gives s r (step_at at (get_or s at 0) (drop (at + 1) s))
  unfolding step_at
  token-other a e h h' i j q m m' n n' z =
      record {
        same = z.same ∙ ap (λ (x : ℕ). other_step at x (drop (at + 1) s)) e
            ∙ rw (no-sign b (get_or s at 0) g e h h', is_number false a e i j q, via is_small b (get_or s at 0) l false e m m', via is_capital b (get_or s at 0) k false e n n') refl;
        within = z.within;
      }
