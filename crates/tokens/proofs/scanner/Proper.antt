-- The tokens of a text: what each is like, and that the last one, and no other, is the end or a refusal.
use Rattle.std.specs.Prelude.{Option, Some, None}
use mathlib.Core.Path.{◌≡◌, refl}
use mathlib.Core.Bool.{Bool, true, false, cond, ◌&&◌, ◌||◌}
use mathlib.Core.List.{List, [], ◌∷◌}
use Prim.Native.Nat.{ℕ, zero, suc, ◌-◌, ◌<◌, ◌≤◌}
use native.Mathlib.Omega.{arith}
use lib.Dec.{eqb, leb}
use lib.ListN.{length, drop}
use borrow.Author.Tests.{leb-true}
use Rattle.rules.specs.declared.Refusal.TheVariants.{StrangeByte, Misplaced, BadName, Full}
use Rattle.rules.specs.Limits.{byte_limit, name_length, string_length, token_limit}
use Rattle.rules.specs.Refusals.{refusal_number}
use Rattle.value.specs.declared.Value.{Value}
use Rattle.value.specs.Literal.{is_digit, literal_of}
use Rattle.value.proofs.Reading.{literal-valid, literal-plain}
use Rattle.lexer.specs.Marks.{Word, capital_words, small_words, at_most, at_least}
use Rattle.lexer.specs.Text.{Kind, mark, name, literal, string, end, wrong, Token, Step, same_bytes, among, front, is_blank, is_sign, is_small, is_capital, in_name, in_string, pointed, is_wrong, literal_kind, valued, powered, name_step, word_step, literal_step, strange, well_shaped, string_step, order_step, step_at, tokens_from, uncounted, counted, tokens}
use Rattle.lexer.specs.declared.Source.{Source}
use Rattle.lexer.specs.View.{is_last, coming_at}
use Rattle.tokens.specs.Stored.{refusal_of}
use Rattle.tokens.proofs.Tables.{false-true}
use Rattle.tokens.specs.Scanner.Table.{Plain}

-- ---- one token

-- a sign's or word's number is that of no other kind, a name and a string are as long as they may be, a literal's value is
-- not negative, and a refusal is one that a token can have
abbrev pub Held : Kind → Type 0
Held (mark c) = 5 < c
Held (name l) = (1 ≤ length l) × (length l ≤ name_length)
Held (literal w v) = Plain v
Held (string l) = (1 ≤ length l) × (length l ≤ string_length)
Held end = Unit {0}
Held (wrong r) = refusal_of (refusal_number r) ≡ r

-- held, and no end
abbrev Found : Kind → Type 0
Found k = Held k × (is_last k ≡ is_wrong k)

abbrev Finds : Step → Type 0
Finds x = Found x.token.kind

either : {A : Type 0} (P : A → Type 0) (t : Bool) (x y : A) → (t ≡ true → P x) → (t ≡ false → P y) → P (cond t x y)
either P true x y f g = f refl
either P false x y f g = g refl

pick : {A : Type 0} (P : A → Type 0) (t : Bool) (x y : A) → P x → P y → P (elim t as (λ _. A) [ true ↦ x | false ↦ y ])
pick P true x y f g = f
pick P false x y f g = g

strange-byte : Found (wrong StrangeByte)
unfolding refusal_of is_wrong
strange-byte = (refl, refl)

misplaced : Found (wrong Misplaced)
unfolding refusal_of is_wrong
misplaced = (refl, refl)

mark-found : (c : ℕ) → 5 < c → Found (mark c)
unfolding is_wrong
mark-found c h = (h, refl)

-- ---- signs and words

sign-large : (b : ℕ) → is_sign b ≡ true → 5 < b
unfolding is_sign
sign-large zero e = absurd (false-true e)
sign-large (suc zero) e = absurd (false-true e)
sign-large (suc (suc zero)) e = absurd (false-true e)
sign-large (suc (suc (suc zero))) e = absurd (false-true e)
sign-large (suc (suc (suc (suc zero)))) e = absurd (false-true e)
sign-large (suc (suc (suc (suc (suc zero))))) e = absurd (false-true e)
sign-large (suc (suc (suc (suc (suc (suc b)))))) e = omega arith

abbrev Marks : List Word → Type 0
Marks [] = Unit {0}
Marks (w ∷ ws) = (5 < w.mark) × Marks ws

among-found : (ws : List Word) (l : List ℕ) (k : Kind) → Marks ws → Found k → Found (among ws l k)
unfolding among
among-found [] l k h f = f
among-found (w ∷ ws) l k h f = go (same_bytes w.spelling l) (among-found ws l k h.1 f)
  where
    go : (u : Bool) → Found (among ws l k) → Found (elim u as (λ _. Kind) [ true ↦ mark w.mark | false ↦ among ws l k ])
    go true f = mark-found w.mark h.0
    go false f = f

capital-marks : Marks capital_words
unfolding capital_words
capital-marks = (omega arith, (omega arith, (omega arith, (omega arith, (omega arith, (omega arith, (omega arith, tt)))))))

small-marks : Marks small_words
unfolding small_words
small-marks = (omega arith, (omega arith, (omega arith, (omega arith, (omega arith, (omega arith, tt))))))

word-found : (p : ℕ) (l : List ℕ) → Finds (word_step p l)
unfolding word_step
word-found p l = among-found capital_words l (wrong Misplaced) capital-marks misplaced

order-found : (p k : ℕ) (t : List ℕ) → 5 < k → Finds (order_step p k t)
unfolding order_step
order-found p k [] h = strange-byte
order-found p k (b ∷ t) h = either Finds (eqb b 61) _ _ (λ _. mark-found k h) (λ _. strange-byte)

-- ---- names

front-some : (b : ℕ) (t : List ℕ) → is_small b ≡ true → 1 ≤ length (front in_name (b ∷ t))
unfolding front in_name
front-some b t e = rw (front, e) (omega arith)

short-found : (l : List ℕ) → 1 ≤ length l → (u : Bool) → leb (length l) name_length ≡ u → Found (cond u (name l) (wrong BadName))
unfolding refusal_of is_wrong
short-found l h true e = ((h, leb-true (length l) name_length e), refl)
short-found l h false e = (refl, refl)

name-found : (p b : ℕ) (t : List ℕ) → is_small b ≡ true → Finds (name_step p (front in_name (b ∷ t)))
unfolding name_step
name-found p b t e =
    let l = front in_name (b ∷ t) in
    among-found small_words l _ small-marks (short-found l (front-some b t e) (leb (length l) name_length) refl)

-- ---- literals

-- a literal is read without a sign
literal-held : (t : List ℕ) (v : Value) → literal_of t ≡ Some v → Plain v
literal-held t v e = record { sign = literal-plain t v e; valid = literal-valid t v e }

valued_found : (w : Bool) (p : ℕ) (l : List ℕ) → Finds (valued w p l)
unfolding valued literal_kind refusal_of is_wrong
valued_found w p l = go (literal_of l) refl
  where
    go : (v : Option Value) → literal_of l ≡ v → Found (literal_kind w v)
    go (Some v) e = (literal-held l v e, refl)
    go None e = (refl, refl)

literal-found : (p : ℕ) (w r : List ℕ) → Finds (literal_step p w r)
unfolding literal_step powered
literal-found p w r = pick Finds (pointed r) _ _ (valued_found _ p _) (valued_found _ p _)

-- ---- strings

strange-found : (l : List ℕ) (p : ℕ) (e : Step) → Finds e → Finds (strange p l e)
unfolding strange
strange-found [] p e f = f
strange-found (b ∷ t) p e f = pick Finds (in_string b) _ _ (strange-found t (suc p) e f) strange-byte

shaped-found : (l r : List ℕ) → Found (cond (well_shaped l r) (string l) (wrong Misplaced))
unfolding well_shaped is_wrong
shaped-found l [] = misplaced
shaped-found l (b ∷ r) = go (leb 1 (length l)) (leb (length l) string_length) refl refl
  where
    go : (u v : Bool) → leb 1 (length l) ≡ u → leb (length l) string_length ≡ v → Found (cond (u && v) (string l) (wrong Misplaced))
    go true true e f = ((leb-true 1 (length l) e, leb-true (length l) string_length f), refl)
    go true false e f = misplaced
    go false v e f = misplaced

string-found : (p : ℕ) (l r : List ℕ) → Finds (string_step p l r)
unfolding string_step
string-found p l r = strange-found l (suc p) _ (shaped-found l r)

-- ---- any token

step-found : (p b : ℕ) (t : List ℕ) → Finds (step_at p b t)
unfolding step_at
step-found p b t =
    either Finds (is_sign b) _ _ (λ e. mark-found b (sign-large b e))
    (λ _. either Finds (is_digit b || pointed (b ∷ t)) _ _ (λ _. literal-found p _ _)
    (λ _. either Finds (is_small b) _ _ (name-found p b t)
    (λ _. either Finds (is_capital b) _ _ (λ _. word-found p _)
    (λ _. either Finds (eqb b 123) _ _ (λ _. string-found p _ _)
    (λ _. either Finds (eqb b 60) _ _ (λ _. order-found p at_most t (omega arith))
    (λ _. either Finds (eqb b 62) _ _ (λ _. order-found p at_least t (omega arith))
    (λ _. strange-byte)))))))

-- ---- all tokens

pub data Proper : List Token → Type 0 where
  last : {t : Token} → Held t.kind → is_last t.kind ≡ true → Proper (t ∷ [])
  more : {t : Token} {ts : List Token} → Held t.kind → is_last t.kind ≡ false → Proper ts → Proper (t ∷ ts)

pub proper-first : {t : Token} {ts : List Token} → Proper (t ∷ ts) → Held t.kind
proper-first (last h e) = h
proper-first (more h e r) = h

from-proper : (l : List ℕ) (p k : ℕ) → Proper (tokens_from p k l)
unfolding tokens_from
from-proper [] p k = last tt refl
from-proper (b ∷ t) p (suc k) = from-proper t (suc p) k
from-proper (b ∷ t) p zero = go (is_blank b) (is_wrong (step_at p b t).token.kind) (step-found p b t).1 (from-proper t (suc p) 0) (from-proper t (suc p) ((step_at p b t).size - 1))
  where
    go : (u v : Bool) → is_last (step_at p b t).token.kind ≡ v → Proper (tokens_from (suc p) 0 t) → Proper (tokens_from (suc p) ((step_at p b t).size - 1) t)
        → Proper (elim u as (λ _. List Token) [
          | true ↦ tokens_from (suc p) 0 t
          | false ↦ elim v as (λ _. List Token) [ true ↦ (step_at p b t).token ∷ [] | false ↦ (step_at p b t).token ∷ tokens_from (suc p) ((step_at p b t).size - 1) t ]
        ])
    go true v e r q = r
    go false true e r q = last (step-found p b t).0 e
    go false false e r q = more (step-found p b t).0 e q

full : (p : ℕ) → Proper (record { kind = wrong Full; place = p } ∷ [])
unfolding refusal_of
full p = last refl refl

counted-proper : (n : ℕ) {l : List Token} → Proper l → Proper (counted n l)
unfolding counted
counted-proper zero (last {t} h e) = either Proper (uncounted t.kind) _ _ (λ _. last h e) (λ _. full t.place)
counted-proper zero (more {t} h e r) = either Proper (uncounted t.kind) _ _ (λ _. more h e r) (λ _. full t.place)
counted-proper (suc n) (last {t} h e) = pick Proper (uncounted t.kind) _ _ (last h e) (last h e)
counted-proper (suc n) (more {t} h e r) = pick Proper (uncounted t.kind) _ _ (more h e r) (more h e (counted-proper n r))

pub coming-proper : (s : List ℕ) (c : Source) → Proper (coming_at s c)
unfolding coming_at
coming-proper s c = either Proper c.counts _ _ (λ _. counted-proper c.left (from-proper (drop c.at s) c.at 0)) (λ _. from-proper (drop c.at s) c.at 0)

pub tokens-proper : (s : List ℕ) → Proper (tokens s)
unfolding tokens refusal_of
tokens-proper s = either Proper (leb (length s) byte_limit) _ _ (λ _. counted-proper token_limit (from-proper s 0 0)) (λ _. last refl refl)
