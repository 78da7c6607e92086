-- What the tokens of a text are: names and strings of their length and bytes, literals of what literals give; their places rise,
-- and there are no more of them than bytes and an end.
use Rattle.std.specs.Prelude.{Option, Some, None}
use mathlib.Core.Path.{◌≡◌, refl}
use mathlib.Core.Bool.{Bool, true, false, cond, ◌&&◌, ◌||◌}
use mathlib.Core.List.{List, [], ◌∷◌, ◌++◌}
use Prim.Native.Nat.{ℕ, zero, suc, ◌-◌, ◌≤◌}
use native.Mathlib.Omega.{arith}
use native.Mathlib.Nat.{le_refl}
use lib.Dec.{eqb, leb}
use lib.ListN.{length, drop}
use borrow.Author.Tests.{leb-true}
use Rattle.rules.specs.declared.Refusal.TheVariants.{LongText, StrangeByte, Misplaced, BadName, Full}
use Rattle.rules.specs.Limits.{byte_limit, token_limit, name_length, string_length}
use Rattle.value.specs.declared.Value.{Value}
use Rattle.value.specs.Literal.{is_digit, literal_of}
use Rattle.lexer.specs.Marks.{Word, capital_words, small_words, at_most, at_least}
use Rattle.language.specs.Listed.{In}
use Rattle.language.proofs.Listed.{in-here, in-later}
use Rattle.language.specs.All.{All}
use Rattle.language.proofs.All.{all_left, all_right}
use Rattle.lexer.specs.Text.{Kind, Token, Step, mark, name, literal, string, end, wrong, step, front, behind, same_bytes, is_blank, is_small, in_name, among, name_step, is_capital, word_step, is_sign, order_step, literal_kind, valued, pointed, powered, literal_step, no_brace, in_string, strange, well_shaped, string_step, step_at, is_wrong, tokens_from, uncounted, counted, tokens}

-- ---- shapes

-- a name's spelling, and what stands between the braces of a string
pub record Spelled (l : List ℕ) : Type 0 where
  pub some : 1 ≤ length l
  pub short : length l ≤ name_length
  pub bytes : All (λ b. in_name b ≡ true) l

pub record Printable (l : List ℕ) : Type 0 where
  pub some : 1 ≤ length l
  pub short : length l ≤ string_length
  pub bytes : All (λ b. in_string b ≡ true) l

-- P is what is known of a literal's value
abbrev pub Shaped : (Value → Type 0) → Kind → Type 0
Shaped P (mark c) = Unit {0}
Shaped P (name l) = Spelled l
Shaped P (literal w v) = P v
Shaped P (string l) = Printable l
Shaped P end = Unit {0}
Shaped P (wrong n) = Unit {0}

abbrev pub AllShaped : (Value → Type 0) → List Token → Type 0
AllShaped P ts = All (λ t. Shaped P t.kind) ts

module _ (P : Value → Type 0) (l k : List Token) where
  pub shaped-left : AllShaped P (l ++ k) → AllShaped P l
  shaped-left a = all_left (λ t. Shaped P t.kind) l k a

  pub shaped-right : AllShaped P (l ++ k) → AllShaped P k
  shaped-right a = all_right (λ t. Shaped P t.kind) l k a

-- the places rise, from p on
abbrev pub Rising : ℕ → List Token → Type 0
Rising p [] = Unit {0}
Rising p (t ∷ ts) = (p ≤ t.place) × Rising (suc t.place) ts

pub rising-from : (p q : ℕ) (ts : List Token) → p ≤ q → Rising q ts → Rising p ts
rising-from p q [] h r = tt
rising-from p q (t ∷ ts) h r = (omega (arith, r.0), r.1)

pub rising-before : (p : ℕ) (l ts : List Token) → Rising p (l ++ ts) → Rising p l
rising-before p [] ts r = tt
rising-before p (t ∷ l) ts r = (r.0, rising-before (suc t.place) l ts r.1)

pub rising-behind : (p : ℕ) (l ts : List Token) → Rising p (l ++ ts) → Rising p ts
rising-behind p [] ts r = r
rising-behind p (t ∷ l) ts r = rising-behind p l ts (rising-from p (suc t.place) (l ++ ts) (omega (arith, r.0)) r.1)

-- ---- bytes at the front

all-front : (c : ℕ → Bool) (l : List ℕ) → All (λ b. c b ≡ true) (front c l)
unfolding front
all-front c [] = tt
all-front c (b ∷ t) = go (c b) refl (all-front c t)
  where
    go : (s : Bool) → c b ≡ s → All (λ b. c b ≡ true) (front c t) → All (λ b. c b ≡ true) (elim s as (λ _. List ℕ) [ true ↦ b ∷ front c t | false ↦ [] ])
    go true e h = (e, h)
    go false e h = tt

front-some : (c : ℕ → Bool) (b : ℕ) (t : List ℕ) → c b ≡ true → 1 ≤ length (front c (b ∷ t))
unfolding front
front-some c b t e = rw (e, front) (omega arith)

well-shaped : (l r : List ℕ) → well_shaped l r ≡ true → (1 ≤ length l) × (length l ≤ string_length)
unfolding well_shaped
well-shaped l [] e = cc
well-shaped l (b ∷ t) e = go (leb 1 (length l)) refl (leb (length l) string_length) refl e
  where
    go : (a : Bool) → leb 1 (length l) ≡ a → (c : Bool) → leb (length l) string_length ≡ c → (a && c) ≡ true → (1 ≤ length l) × (length l ≤ string_length)
    go true ea true ec e = (leb-true 1 (length l) ea, leb-true (length l) string_length ec)
    go true ea false ec e = cc
    go false ea c ec e = cc

-- ---- one token

module _ (P : Value → Type 0) (fits : (l : List ℕ) (v : Value) → literal_of l ≡ Some v → P v) where
  -- a step at p: its token has its shape and stands at p, or behind p if it is a refusal
  record Fine (p : ℕ) (s : Step) : Type 0 where
    shape : Shaped P s.token.kind
    low : p ≤ s.token.place
    here : is_wrong s.token.kind ≡ false → s.token.place ≡ p

  fine : {k : Kind} {p n : ℕ} → Shaped P k → Fine p (step k p n)
  fine h = record { shape = h; low = le_refl _; here = λ _. refl }

  pick : {p : ℕ} {x y : Step} (b : Bool) → (b ≡ true → Fine p x) → (b ≡ false → Fine p y) → Fine p (cond b x y)
  pick true h k = h refl
  pick false h k = k refl

  among-shaped : (ws : List Word) (l : List ℕ) (k : Kind) → Shaped P k → Shaped P (among ws l k)
  unfolding among
  among-shaped [] l k h = h
  among-shaped (w ∷ ws) l k h = go (same_bytes w.spelling l) (among-shaped ws l k h)
    where
      go : (b : Bool) → Shaped P (among ws l k) → Shaped P (elim b as (λ _. Kind) [ true ↦ mark w.mark | false ↦ among ws l k ])
      go true h = tt
      go false h = h

  name-fine : (p b : ℕ) (t : List ℕ) → is_small b ≡ true → Fine p (name_step p (front in_name (b ∷ t)))
  unfolding name_step in_name
  name-fine p b t e = fine (among-shaped small_words l _ (go (leb (length l) name_length) refl))
    where
      l : List ℕ
      l = front in_name (b ∷ t)

      go : (s : Bool) → leb (length l) name_length ≡ s → Shaped P (cond s (name l) (wrong BadName))
      go true h = record { some = front-some in_name b t (rw e); short = leb-true (length l) name_length h; bytes = all-front in_name (b ∷ t) }
      go false h = tt

  value-fine : (w : Bool) (p : ℕ) (l : List ℕ) → Fine p (valued w p l)
  unfolding valued literal_kind
  value-fine w p l = fine (go (literal_of l) refl)
    where
      go : (o : Option Value) → literal_of l ≡ o → Shaped P (literal_kind w o)
      go (Some v) e = fits l v e
      go None e = tt

  literal-fine : (p : ℕ) (w r : List ℕ) → Fine p (literal_step p w r)
  unfolding literal_step powered
  literal-fine p w r = go (pointed r)
    where
      go : (b : Bool) → Fine p (elim b as (λ _. Step) [ true ↦ powered false p (w ++ (46 ∷ front is_digit (drop 1 r))) (behind is_digit (drop 1 r)) | false ↦ powered true p w r ])
      go true = value-fine _ p _
      go false = value-fine _ p _

  order-fine : (p k : ℕ) (t : List ℕ) → Fine p (order_step p k t)
  unfolding order_step
  order-fine p k [] = fine tt
  order-fine p k (b ∷ t) = pick (eqb b 61) (λ _. fine tt) (λ _. fine tt)

  strange-fine : {p : ℕ} (q : ℕ) (l : List ℕ) (e : Step) → p ≤ q → (All (λ b. in_string b ≡ true) l → Fine p e) → Fine p (strange q l e)
  unfolding strange is_wrong
  strange-fine q [] e h f = f tt
  strange-fine {p} q (b ∷ t) e h f = go (in_string b) refl (λ f. strange-fine (suc q) t e (omega arith) f)
    where
      go : (s : Bool) → in_string b ≡ s → ((All (λ b. in_string b ≡ true) t → Fine p e) → Fine p (strange (suc q) t e)) → Fine p (elim s as (λ _. Step) [ true ↦ strange (suc q) t e | false ↦ step (wrong StrangeByte) q 0 ])
      go true eb ih = ih (λ a. f (eb, a))
      go false eb ih = record { shape = tt; low = h; here = λ z. cc }

  string-fine : (p : ℕ) (l r : List ℕ) → Fine p (string_step p l r)
  unfolding string_step
  string-fine p l r = strange-fine (suc p) l _ (omega arith) (λ a. fine (go (well_shaped l r) refl a))
    where
      go : (s : Bool) → well_shaped l r ≡ s → All (λ b. in_string b ≡ true) l → Shaped P (cond s (string l) (wrong Misplaced))
      go true e a = let w = well-shaped l r e in record { some = w.0; short = w.1; bytes = a }
      go false e a = tt

  step-fine : (p b : ℕ) (t : List ℕ) → Fine p (step_at p b t)
  unfolding step_at word_step
  step-fine p b t =
      pick (is_sign b) (λ _. fine tt) λ _.
      pick (is_digit b || pointed (b ∷ t)) (λ _. literal-fine p (front is_digit (b ∷ t)) (behind is_digit (b ∷ t))) λ _.
      pick (is_small b) (name-fine p b t) λ _.
      pick (is_capital b) (λ _. fine (among-shaped capital_words (front is_capital (b ∷ t)) (wrong Misplaced) tt)) λ _.
      pick (eqb b 123) (λ _. string-fine p (front no_brace t) (behind no_brace t)) λ _.
      pick (eqb b 60) (λ _. order-fine p at_most t) λ _.
      pick (eqb b 62) (λ _. order-fine p at_least t) λ _. fine tt

  -- ---- the tokens of a text

  record Lexed (p n : ℕ) (ts : List Token) : Type 0 where
    shapes : AllShaped P ts
    rising : Rising p ts
    short : length ts ≤ n

  lexed-later : {p n : ℕ} {ts : List Token} → Lexed (suc p) n ts → Lexed p (suc n) ts
  lexed-later {p} {ts} x = record { shapes = x.shapes; rising = rising-from p (suc p) ts (omega arith) x.rising; short = omega (arith, x.short) }

  lexed : (t : List ℕ) (p k : ℕ) → Lexed p (suc (length t)) (tokens_from p k t)
  unfolding tokens_from
  lexed [] p k = record { shapes = (tt, tt); rising = (le_refl p, tt); short = omega arith }
  lexed (b ∷ t) p (suc k) = lexed-later (lexed t (suc p) k)
  lexed (b ∷ t) p zero = blank (is_blank b) (λ k. lexed t (suc p) k)
    where
      x : Step
      x = step_at p b t

      Later : Type 0
      Later = (k : ℕ) → Lexed (suc p) (suc (length t)) (tokens_from (suc p) k t)

      token : (w : Bool) → is_wrong x.token.kind ≡ w → Later → Lexed p (suc (suc (length t))) (elim w as (λ _. List Token) [ true ↦ x.token ∷ [] | false ↦ x.token ∷ tokens_from (suc p) (x.size - 1) t ])
      token true e ih = let f = step-fine p b t in record { shapes = (f.shape, tt); rising = (f.low, tt); short = omega arith }
      token false e ih =
          let f = step-fine p b t in
          let y = ih (x.size - 1) in
          record { shapes = (f.shape, y.shapes); rising = (f.low, rw (f.here e) y.rising); short = omega (arith, y.short) }

      blank : (s : Bool) → Later → Lexed p (suc (suc (length t))) (elim s as (λ _. List Token) [ true ↦ tokens_from (suc p) 0 t | false ↦ elim (is_wrong x.token.kind) as (λ _. List Token) [ true ↦ x.token ∷ [] | false ↦ x.token ∷ tokens_from (suc p) (x.size - 1) t ] ])
      blank true ih = lexed-later (ih 0)
      blank false ih = token (is_wrong x.token.kind) refl ih

  lexed-counted : (m p : ℕ) (ts : List Token) → AllShaped P ts → Rising p ts → Lexed p (length ts) (counted m ts)
  unfolding counted
  lexed-counted m p [] a r = record { shapes = a; rising = r; short = omega arith }
  lexed-counted zero p (t ∷ ts) a r = go (uncounted t.kind)
    where
      go : (b : Bool) → Lexed p (suc (length ts)) (cond b (t ∷ ts) (record { kind = wrong Full; place = t.place } ∷ []))
      go true = record { shapes = a; rising = r; short = omega arith }
      go false = record { shapes = (tt, tt); rising = (r.0, tt); short = omega arith }
  lexed-counted (suc m) p (t ∷ ts) a r = go (uncounted t.kind) (lexed-counted m (suc t.place) ts a.1 r.1)
    where
      go : (b : Bool) → Lexed (suc t.place) (length ts) (counted m ts) → Lexed p (suc (length ts)) (elim b as (λ _. List Token) [ true ↦ t ∷ ts | false ↦ t ∷ counted m ts ])
      go true y = record { shapes = a; rising = r; short = omega arith }
      go false y = record { shapes = (a.0, y.shapes); rising = (r.0, y.rising); short = omega (arith, y.short) }

  lexed-text : (text : List ℕ) → Lexed 0 (suc (length text)) (tokens text)
  unfolding tokens
  lexed-text text = go (leb (length text) byte_limit)
    where
      go : (b : Bool) → Lexed 0 (suc (length text)) (cond b (counted token_limit (tokens_from 0 0 text)) (record { kind = wrong LongText; place = byte_limit } ∷ []))
      go true =
          let x = lexed text 0 0 in
          let y = lexed-counted token_limit 0 (tokens_from 0 0 text) x.shapes x.rising in
          record { shapes = y.shapes; rising = y.rising; short = omega (arith, x.short, y.short) }
      go false = record { shapes = (tt, tt); rising = (omega arith, tt); short = omega arith }

  -- every token of a text has its shape, every literal P
  pub tokens-shaped : (text : List ℕ) → AllShaped P (tokens text)
  tokens-shaped text = (lexed-text text).shapes

-- the places of a text's tokens rise
pub tokens-rise : (text : List ℕ) → Rising 0 (tokens text)
tokens-rise text = (lexed-text (λ _. Unit {0}) (λ _ _ _. tt) text).rising

-- a text has at most as many tokens as bytes, and an end
pub tokens-few : (text : List ℕ) → length (tokens text) ≤ suc (length text)
tokens-few text = (lexed-text (λ _. Unit {0}) (λ _ _ _. tt) text).short

-- what holds of every literal token of a text
pub literals-shaped : (P : Value → Type 0) (text : List ℕ) → ((w : Bool) (v : Value) (p : ℕ) → In (tokens text) (record { kind = literal w v; place = p }) → P v) → AllShaped P (tokens text)
literals-shaped P text h = go (tokens text) (λ w v p i. h w v p i) (tokens-shaped (λ _. Unit {0}) (λ _ _ _. tt) text)
  where
    one : (k : Kind) (p : ℕ) (ts : List Token) → ((w : Bool) (v : Value) (q : ℕ) → In (record { kind = k; place = p } ∷ ts) (record { kind = literal w v; place = q }) → P v) → Shaped (λ _. Unit {0}) k → Shaped P k
    one (mark c) p ts h s = s
    one (name l) p ts h s = s
    one (literal w v) p ts h s = h w v p (in-here _ ts)
    one (string l) p ts h s = s
    one end p ts h s = s
    one (wrong n) p ts h s = s

    go : (ts : List Token) → ((w : Bool) (v : Value) (p : ℕ) → In ts (record { kind = literal w v; place = p }) → P v) → AllShaped (λ _. Unit {0}) ts → AllShaped P ts
    go [] h s = tt
    go (t ∷ ts) h s = (one t.kind t.place ts h s.0, go ts (λ w v p i. h w v p (in-later t ts _ i)) s.1)
