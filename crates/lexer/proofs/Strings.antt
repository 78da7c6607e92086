-- For callers: a string's bytes are those that `between_braces` gives at its token's place.
use Rattle.std.specs.Prelude.{Option, Some, None}
use Rattle.value.specs.declared.Value.{Value}
use mathlib.Core.Path.{◌≡◌, refl, sym, ◌∙◌, ap, subst}
use mathlib.Core.Bool.{Bool, true, false, cond, ◌||◌}
use mathlib.Core.List.{List, [], ◌∷◌, ◌++◌}
use Prim.Native.Nat.{ℕ, zero, suc, ◌+◌, ◌-◌}
use native.Mathlib.Numerals.{add-one}
use lib.Dec.{eqb, leb}
use lib.ListN.{length, drop}
use lib.Seq.{drop-drop}
use Rattle.rules.specs.declared.Refusal.TheVariants.{LongText, StrangeByte, Misplaced, BadName, Full}
use Rattle.rules.specs.Limits.{byte_limit, token_limit, name_length}
use Rattle.value.specs.Literal.{is_digit, literal_of}
use Rattle.lexer.specs.Marks.{Word, at_most, at_least, capital_words, small_words}
use Rattle.lexer.specs.Text.{Kind, mark, name, literal, string, end, wrong, Token, Step, step, same_bytes, among, is_blank, is_small, is_capital, is_sign, in_name, in_string, no_brace, front, behind, pointed, literal_kind, valued, powered, name_step, word_step, literal_step, strange, well_shaped, string_step, order_step, step_at, is_wrong, tokens_from, uncounted, counted, tokens}
use Rattle.lexer.specs.declared.Source.{Source}
use Rattle.lexer.specs.View.{coming_at}
use Rattle.lexer.proofs.Sizes.{step-sized}

-- ---- one token

abbrev is_string : Kind → Bool
is_string (mark c) = false
is_string (name l) = false
is_string (literal w v) = false
is_string (string l) = true
is_string end = false
is_string (wrong r) = false

-- if it is a string, then l
abbrev Spells : List ℕ → Kind → Type 0
Spells l k = (m : List ℕ) → k ≡ string m → l ≡ m

plain : (l : List ℕ) (k : Kind) → is_string k ≡ false → Spells l k
plain l k h m e = cc (sym (ap is_string e) ∙ h)

among-plain : (ws : List Word) (l : List ℕ) (k : Kind) → is_string k ≡ false → is_string (among ws l k) ≡ false
unfolding among
among-plain [] l k h = h
among-plain (w ∷ ws) l k h = go (same_bytes w.spelling l) (among-plain ws l k h)
  where
    go : (u : Bool) → is_string (among ws l k) ≡ false → is_string (elim u as (λ _. Kind) [ true ↦ mark w.mark | false ↦ among ws l k ]) ≡ false
    go true r = refl
    go false r = r

name-plain : (u : Bool) (l : List ℕ) → is_string (cond u (name l) (wrong BadName)) ≡ false
name-plain true l = refl
name-plain false l = refl

valued_plain : (w : Bool) (p : ℕ) (l : List ℕ) → is_string (valued w p l).token.kind ≡ false
unfolding valued literal_kind
valued_plain w p l = go (literal_of l)
  where
    go : (v : Option Value) → is_string (literal_kind w v) ≡ false
    go (Some v) = refl
    go None = refl

literal-plain : (p : ℕ) (w r : List ℕ) → is_string (literal_step p w r).token.kind ≡ false
unfolding literal_step powered
literal-plain p w r = go (pointed r)
  where
    go : (u : Bool)
        → is_string (elim u as (λ _. Step) [ true ↦ powered false p (w ++ (46 ∷ front is_digit (drop 1 r))) (behind is_digit (drop 1 r)) | false ↦ powered true p w r ]).token.kind ≡ false
    go true = valued_plain _ p _
    go false = valued_plain _ p _

order-plain : (p k : ℕ) (t : List ℕ) → is_string (order_step p k t).token.kind ≡ false
unfolding order_step
order-plain p k [] = refl
order-plain p k (b ∷ t) = go (eqb b 61)
  where
    go : (u : Bool) → is_string (cond u (step (mark k) p 2) (step (wrong StrangeByte) p 0)).token.kind ≡ false
    go true = refl
    go false = refl

strange-spells : (l m : List ℕ) (q : ℕ) (e : Step) → Spells l e.token.kind → Spells l (strange q m e).token.kind
unfolding strange
strange-spells l [] q e h = h
strange-spells l (b ∷ m) q e h = go (in_string b) (strange-spells l m (suc q) e h)
  where
    go : (u : Bool) → Spells l (strange (suc q) m e).token.kind
        → Spells l (elim u as (λ _. Step) [ true ↦ strange (suc q) m e | false ↦ step (wrong StrangeByte) q 0 ]).token.kind
    go true r = r
    go false r = plain l _ refl

string-spells : (p : ℕ) (l r : List ℕ) → Spells l (string_step p l r).token.kind
unfolding string_step
string-spells p l r = strange-spells l l (suc p) _ (go (well_shaped l r))
  where
    go : (u : Bool) → Spells l (cond u (string l) (wrong Misplaced))
    go true m e = cc
    go false m e = plain l _ refl m e

either : (l : List ℕ) (t : Bool) (x y : Step) → Spells l x.token.kind → Spells l y.token.kind → Spells l (cond t x y).token.kind
either l true x y f g = f
either l false x y f g = g

-- the token at p with the first byte b, if it is a string
pub string-step : (p b : ℕ) (t l : List ℕ) → (step_at p b t).token.kind ≡ string l → front no_brace t ≡ l
unfolding step_at name_step word_step
string-step p b t l e = go l e
  where
    f : List ℕ
    f = front no_brace t

    go : Spells f (step_at p b t).token.kind
    go =
        either f (is_sign b) _ _ (plain f _ refl)
        (either f (is_digit b || pointed (b ∷ t)) _ _ (plain f _ (literal-plain p _ _))
        (either f (is_small b) _ _ (plain f _ (among-plain small_words _ _ (name-plain (leb (length (front in_name (b ∷ t))) name_length) _)))
        (either f (is_capital b) _ _ (plain f _ (among-plain capital_words _ _ refl))
        (either f (eqb b 123) _ _ (string-spells p f (behind no_brace t))
        (either f (eqb b 60) _ _ (plain f _ (order-plain p at_most t))
        (either f (eqb b 62) _ _ (plain f _ (order-plain p at_least t))
        (plain f _ refl)))))))

-- ---- every token of a text

-- each token of a list
abbrev pub Each : (Token → Type 0) → List Token → Type 0
Each P [] = Unit {0}
Each P (t ∷ ts) = P t × Each P ts

pub each_at : (P : Token → Type 0) (l : List Token) → Each P l → (i : ℕ) (t : Token) (ts : List Token) → drop i l ≡ t ∷ ts → P t
each_at P [] h zero t ts e = cc
each_at P [] h (suc i) t ts e = cc
each_at P (x ∷ l) h zero t ts e = let q : x ≡ t = cc in subst P q h.0
each_at P (x ∷ l) h (suc i) t ts e = each_at P l h.1 i t ts e

-- what `between_braces` gives at the token's place, if it is a string
pub record Quoted (s : List ℕ) (t : Token) : Type 0 where
  pub bytes : (l : List ℕ) → t.kind ≡ string l → front no_brace (drop (t.place + 1) s) ≡ l

not-quoted : (s : List ℕ) (k : Kind) (p : ℕ) → is_string k ≡ false → Quoted s (record { kind = k; place = p })
not-quoted s k p h = record { bytes = plain _ k h }

tail-is : (s : List ℕ) (p b : ℕ) (t : List ℕ) → drop p s ≡ b ∷ t → drop (suc p) s ≡ t
tail-is s p b t e = rw (← add-one p, ← drop-drop 1 p s, e) refl

step-quoted : (s : List ℕ) (p b : ℕ) (t : List ℕ) → drop p s ≡ b ∷ t → is_wrong (step_at p b t).token.kind ≡ false → Quoted s (step_at p b t).token
step-quoted s p b t e h = record {
  bytes = λ l q. rw (((step-sized p b t).good h).0, add-one p, tail-is s p b t e) (string-step p b t l q);
}

wrong-plain : (k : Kind) → is_wrong k ≡ true → is_string k ≡ false
unfolding is_wrong
wrong-plain (mark c) h = refl
wrong-plain (name l) h = refl
wrong-plain (literal w v) h = refl
wrong-plain (string l) h = sym h
wrong-plain end h = refl
wrong-plain (wrong r) h = refl

from-quoted : (s l : List ℕ) (p k : ℕ) → drop p s ≡ l → Each (Quoted s) (tokens_from p k l)
unfolding tokens_from
from-quoted s [] p k e = (not-quoted s end p refl, tt)
from-quoted s (b ∷ t) p (suc k) e = from-quoted s t (suc p) k (tail-is s p b t e)
from-quoted s (b ∷ t) p zero e =
    go (is_blank b) (is_wrong (step_at p b t).token.kind) refl (from-quoted s t (suc p) 0 (tail-is s p b t e)) (from-quoted s t (suc p) ((step_at p b t).size - 1) (tail-is s p b t e))
  where
    go : (u v : Bool) → is_wrong (step_at p b t).token.kind ≡ v → Each (Quoted s) (tokens_from (suc p) 0 t) → Each (Quoted s) (tokens_from (suc p) ((step_at p b t).size - 1) t)
        → Each (Quoted s) (elim u as (λ _. List Token) [
          | true ↦ tokens_from (suc p) 0 t
          | false ↦ elim v as (λ _. List Token) [ true ↦ (step_at p b t).token ∷ [] | false ↦ (step_at p b t).token ∷ tokens_from (suc p) ((step_at p b t).size - 1) t ]
        ])
    go true v h f g = f
    go false true h f g = (not-quoted s _ _ (wrong-plain _ h), tt)
    go false false h f g = (step-quoted s p b t e h, g)

counted-quoted : (s : List ℕ) (n : ℕ) (ts : List Token) → Each (Quoted s) ts → Each (Quoted s) (counted n ts)
unfolding counted
counted-quoted s n [] h = h
counted-quoted s zero (t ∷ ts) h = go (uncounted t.kind)
  where
    go : (u : Bool) → Each (Quoted s) (cond u (t ∷ ts) (record { kind = wrong Full; place = t.place } ∷ []))
    go true = h
    go false = (not-quoted s (wrong Full) t.place refl, tt)
counted-quoted s (suc n) (t ∷ ts) h = go (uncounted t.kind) (counted-quoted s n ts h.1)
  where
    go : (u : Bool) → Each (Quoted s) (counted n ts) → Each (Quoted s) (elim u as (λ _. List Token) [ true ↦ t ∷ ts | false ↦ t ∷ counted n ts ])
    go true r = h
    go false r = (h.0, r)

pub strings-coming : (s : List ℕ) (c : Source) → Each (Quoted s) (coming_at s c)
unfolding coming_at
strings-coming s c = go c.counts (from-quoted s (drop c.at s) c.at 0 refl)
  where
    go : (u : Bool) → Each (Quoted s) (tokens_from c.at 0 (drop c.at s))
        → Each (Quoted s) (cond u (counted c.left (tokens_from c.at 0 (drop c.at s))) (tokens_from c.at 0 (drop c.at s)))
    go true h = counted-quoted s c.left _ h
    go false h = h

pub strings-stand : (s : List ℕ) → Each (Quoted s) (tokens s)
unfolding tokens
strings-stand s = go (leb (length s) byte_limit)
  where
    go : (u : Bool) → Each (Quoted s) (cond u (counted token_limit (tokens_from 0 0 s)) (record { kind = wrong LongText; place = byte_limit } ∷ []))
    go true = counted-quoted s token_limit _ (from-quoted s s 0 0 refl)
    go false = (not-quoted s (wrong LongText) byte_limit refl, tt)
