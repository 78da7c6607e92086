-- A token's bytes and place: at least one byte and no more than are left, at its first byte, unless it is refused; a refusal
-- stands in the text.
use Rattle.std.specs.Prelude.{Option, Some, None}
use Rattle.value.specs.declared.Value.{Value}
use mathlib.Core.Path.{◌≡◌, refl, sym, ◌∙◌, ap}
use mathlib.Core.Bool.{Bool, true, false, cond, ◌&&◌, ◌||◌}
use mathlib.Core.List.{List, [], ◌∷◌, ◌++◌}
use Prim.Native.Nat.{ℕ, suc, ◌+◌, ◌-◌, ◌<◌, ◌≤◌}
use native.Mathlib.Omega.{arith}
use lib.Dec.{eqb, leb}
use lib.ListN.{length, take, drop, length-take, length-drop, length-append}
use Rattle.rules.specs.declared.Refusal.{Refusal}
use Rattle.rules.specs.declared.Refusal.TheVariants.{StrangeByte, Misplaced, BadName}
use Rattle.rules.specs.Limits.{name_length, string_length}
use Rattle.value.specs.Literal.{is_digit, literal_of}
use Rattle.lexer.specs.Marks.{Word, at_most, at_least}
use Rattle.lexer.specs.Text.{Kind, mark, name, string, wrong, same_bytes, among, Step, step, is_wrong, is_small, is_capital, is_sign, in_name, in_string, no_brace, front, behind, pointed, literal_kind, valued, power_length, powered, name_step, word_step, literal_step, strange, well_shaped, string_step, order_step, step_at}
use Rattle.lexer.specs.View.{is_last}
use Rattle.lexer.proofs.Runs.{front_length, front-first, behind-drop}

-- a token that is last is a refused one
abbrev pub Proper : Kind → Type 0
Proper k = is_last k ≡ is_wrong k

-- a token at p, where l is left
pub record Sized (p : ℕ) (l : List ℕ) (x : Step) : Type 0 where
  pub most : x.size ≤ length l + 1
  pub low : p ≤ x.token.place
  pub high : x.token.place < p + length l
  pub last : Proper x.token.kind
  pub good : is_wrong x.token.kind ≡ false → (x.token.place ≡ p) × (1 ≤ x.size) × (x.size ≤ length l)

-- one of two
either : (p : ℕ) (l : List ℕ) (t : Bool) (x y : Step) → (t ≡ true → Sized p l x) → (t ≡ false → Sized p l y) → Sized p l (cond t x y)
either p l true x y f g = f refl
either p l false x y f g = g refl

within : (l : List ℕ) (k : Kind) (p n : ℕ) → Proper k → 1 ≤ n → n ≤ length l → Sized p l (step k p n)
within l k p n q h g = record { most = omega arith; low = omega arith; high = omega arith; last = q; good = λ _. (refl, h, g) }

refused : (p : ℕ) (l : List ℕ) (r : Refusal) (q : ℕ) → p ≤ q → q < p + length l → Sized p l (step (wrong r) q 0)
unfolding is_wrong
refused p l r q h g = record { most = omega arith; low = h; high = g; last = refl; good = λ e. cc }

refused-here : (p b : ℕ) (t : List ℕ) (r : Refusal) → Sized p (b ∷ t) (step (wrong r) p 0)
refused-here p b t r = refused p (b ∷ t) r p (omega arith) (omega arith)

-- ---- kinds

mark-proper : (c : ℕ) → Proper (mark c)
unfolding is_wrong
mark-proper c = refl

wrong-proper : (r : Refusal) → Proper (wrong r)
unfolding is_wrong
wrong-proper r = refl

name-proper : (u : Bool) (l : List ℕ) → Proper (cond u (name l) (wrong BadName))
unfolding is_wrong
name-proper true l = refl
name-proper false l = refl

string-proper : (u : Bool) (l : List ℕ) → Proper (cond u (string l) (wrong Misplaced))
unfolding is_wrong
string-proper true l = refl
string-proper false l = refl

literal-proper : (w : Bool) (v : Option Value) → Proper (literal_kind w v)
unfolding literal_kind is_wrong
literal-proper w (Some v) = refl
literal-proper w None = refl

among-proper : (ws : List Word) (l : List ℕ) (k : Kind) → Proper k → Proper (among ws l k)
unfolding among is_wrong
among-proper [] l k h = h
among-proper (w ∷ ws) l k h = go (same_bytes w.spelling l) (among-proper ws l k h)
  where
    go : (u : Bool) → Proper (among ws l k) → Proper (elim u as (λ _. Kind) [ true ↦ mark w.mark | false ↦ among ws l k ])
    go true r = refl
    go false r = r

-- ---- names, words, signs of two bytes

small-named : (b : ℕ) → is_small b ≡ true → in_name b ≡ true
unfolding in_name
small-named b e = rw e refl

name-sized : (p b : ℕ) (t : List ℕ) → is_small b ≡ true → Sized p (b ∷ t) (name_step p (front in_name (b ∷ t)))
unfolding name_step
name-sized p b t e =
    within (b ∷ t) _ p _ (among-proper _ _ _ (name-proper (leb (length (front in_name (b ∷ t))) name_length) (front in_name (b ∷ t))))
    (front-first in_name b t (small-named b e)) (front_length in_name (b ∷ t))

word-sized : (p b : ℕ) (t : List ℕ) → is_capital b ≡ true → Sized p (b ∷ t) (word_step p (front is_capital (b ∷ t)))
unfolding word_step
word-sized p b t e = within (b ∷ t) _ p _ (among-proper _ _ _ (wrong-proper Misplaced)) (front-first is_capital b t e) (front_length is_capital (b ∷ t))

order-sized : (p k b : ℕ) (t : List ℕ) → Sized p (b ∷ t) (order_step p k t)
unfolding order_step
order-sized p k b [] = refused-here p b [] StrangeByte
order-sized p k b (c ∷ t) =
    either p _ (eqb c 61) _ _ (λ _. within (b ∷ c ∷ t) _ p 2 (mark-proper k) (omega arith) (omega arith)) (λ _. refused-here p b (c ∷ t) StrangeByte)

-- ---- strings

strange-sized : (p : ℕ) (l m : List ℕ) (q : ℕ) (e : Step) → p ≤ q → q + length m ≤ p + length l → Sized p l e → Sized p l (strange q m e)
unfolding strange
strange-sized p l [] q e h g r = r
strange-sized p l (b ∷ m) q e h g r = go (in_string b) (strange-sized p l m (suc q) e (omega arith) (omega arith) r)
  where
    go : (u : Bool) → Sized p l (strange (suc q) m e) → Sized p l (elim u as (λ _. Step) [ true ↦ strange (suc q) m e | false ↦ step (wrong StrangeByte) q 0 ])
    go true r = r
    go false r = refused p l StrangeByte q h (omega arith)

string-sized : (p b : ℕ) (t : List ℕ) → Sized p (b ∷ t) (string_step p (front no_brace t) (behind no_brace t))
unfolding string_step well_shaped is_wrong
string-sized p b t =
    strange-sized p (b ∷ t) (front no_brace t) (suc p) _ (omega arith) (omega (arith, front_length no_brace t)) (go (behind no_brace t) (behind-drop no_brace t))
  where
    go : (r : List ℕ) → r ≡ drop (length (front no_brace t)) t
        → Sized p (b ∷ t) (step (cond (well_shaped (front no_brace t) r) (string (front no_brace t)) (wrong Misplaced)) p (length (front no_brace t) + 2))
    go [] e = record { most = omega (arith, front_length no_brace t); low = omega arith; high = omega arith; last = refl; good = λ z. cc }
    go (c ∷ r) e =
        let h : suc (length r) ≡ length t - length (front no_brace t) = ap length e ∙ length-drop (length (front no_brace t)) t in
        within (b ∷ t) _ p _ (string-proper (leb 1 (length (front no_brace t)) && leb (length (front no_brace t)) string_length) (front no_brace t))
        (omega arith) (omega (arith, h, front_length no_brace t))

-- ---- literals

-- a point and a digit are two bytes
two : (r : List ℕ) → pointed r ≡ true → 2 ≤ length r
unfolding pointed
two [] e = cc
two (b ∷ []) e = cc
two (b ∷ c ∷ r) e = omega arith

literal-first : (b : ℕ) (t : List ℕ) → (is_digit b || pointed (b ∷ t)) ≡ true → pointed (behind is_digit (b ∷ t)) ≡ false → 1 ≤ length (front is_digit (b ∷ t))
unfolding behind
literal-first b t e h = digit (is_digit b) refl e h
  where
    digit : (u : Bool) → is_digit b ≡ u → (u || pointed (b ∷ t)) ≡ true
        → pointed (elim u as (λ _. List ℕ) [ true ↦ behind is_digit t | false ↦ b ∷ t ]) ≡ false → 1 ≤ length (front is_digit (b ∷ t))
    digit true d a h = front-first is_digit b t d
    digit false d a h = cc (sym a ∙ h)

valued-sized : (w : Bool) (p : ℕ) (l m : List ℕ) → 1 ≤ length m → length m ≤ length l → Sized p l (valued w p m)
unfolding valued
valued-sized w p l m h g = within l _ p _ (literal-proper w (literal_of m)) h g

-- a decimal d, and r behind it
powered-sized : (w : Bool) (p : ℕ) (l d r : List ℕ) → 1 ≤ length d → length d + length r ≤ length l → Sized p l (powered w p d r)
unfolding powered
powered-sized w p l d r h g =
    let n = power_length r in
    let e : length (d ++ take n r) ≡ length d + length (take n r) = length-append d (take n r) in
    valued-sized _ p l (d ++ take n r) (omega (arith, e)) (omega (arith, e, length-take n r))

literal-sized : (p b : ℕ) (t : List ℕ) → (is_digit b || pointed (b ∷ t)) ≡ true → Sized p (b ∷ t) (literal_step p (front is_digit (b ∷ t)) (behind is_digit (b ∷ t)))
unfolding literal_step
literal-sized p b t e = go (pointed (behind is_digit (b ∷ t))) refl
  where
    w : List ℕ
    w = front is_digit (b ∷ t)

    r : List ℕ
    r = behind is_digit (b ∷ t)

    -- the digits behind the point, and what stands behind them
    f : List ℕ
    f = front is_digit (drop 1 r)

    a : length r ≡ length (b ∷ t) - length w
    a = ap length (behind-drop is_digit (b ∷ t)) ∙ length-drop (length w) (b ∷ t)

    o : length (behind is_digit (drop 1 r)) ≡ length (drop 1 r) - length f
    o = ap length (behind-drop is_digit (drop 1 r)) ∙ length-drop (length f) (drop 1 r)

    go : (u : Bool) → pointed r ≡ u → Sized p (b ∷ t) (elim u as (λ _. Step) [ true ↦ powered false p (w ++ (46 ∷ f)) (behind is_digit (drop 1 r)) | false ↦ powered true p w r ])
    go true h =
        let n : length (w ++ (46 ∷ f)) ≡ length w + suc (length f) = length-append w (46 ∷ f) in
        powered-sized false p (b ∷ t) _ _ (omega (arith, n))
        (omega (arith, n, a, o, two r h, front_length is_digit (drop 1 r), length-drop 1 r, front_length is_digit (b ∷ t)))
    go false h = powered-sized true p (b ∷ t) w r (literal-first b t e h) (omega (arith, a, front_length is_digit (b ∷ t)))

-- ---- any token

pub step-sized : (p b : ℕ) (t : List ℕ) → Sized p (b ∷ t) (step_at p b t)
unfolding step_at
step-sized p b t =
    either p (b ∷ t) (is_sign b) _ _ (λ _. within (b ∷ t) _ p 1 (mark-proper b) (omega arith) (omega arith))
    (λ _. either p (b ∷ t) (is_digit b || pointed (b ∷ t)) _ _ (literal-sized p b t)
    (λ _. either p (b ∷ t) (is_small b) _ _ (name-sized p b t)
    (λ _. either p (b ∷ t) (is_capital b) _ _ (word-sized p b t)
    (λ _. either p (b ∷ t) (eqb b 123) _ _ (λ _. string-sized p b t)
    (λ _. either p (b ∷ t) (eqb b 60) _ _ (λ _. order-sized p at_most b t)
    (λ _. either p (b ∷ t) (eqb b 62) _ _ (λ _. order-sized p at_least b t)
    (λ _. refused-here p b t StrangeByte)))))))
