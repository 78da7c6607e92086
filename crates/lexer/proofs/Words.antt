-- A run of letters against a list of words, one after the other; which marks end the count.
use mathlib.Core.Path.{◌≡◌, refl}
use mathlib.Core.Bool.{Bool, true, false, cond}
use mathlib.Core.List.{List, [], ◌∷◌}
use Prim.Native.Nat.{ℕ}
use Rattle.std.specs.Prelude.{Option, Some, None}
use Rattle.lexer.specs.declared.Mark.{Mark}
use Rattle.lexer.specs.declared.Mark.TheVariants.{Plus, Minus, Times, Comma, Semicolon, Colon, Equals, AtMost, AtLeast, LeftParen, RightParen, LeftBracket, RightBracket, Open, Close, Maximize, Minimize, Init, Sum, Sigma, Index, Integer, Real, Formula, Discrete, Continuous}
use Rattle.lexer.specs.Marks.{Word}
use Rattle.lexer.specs.Numbers.{number}
use Rattle.lexer.specs.Text.{Kind, mark, same_bytes, among, uncounted}
use Rattle.lexer.specs.Inner.{IsWord, word_kind}

pub word_none : (l : List ℕ) → IsWord [] l None
unfolding among
word_none l = record { is = λ k. refl }

-- one word more in front
pub word-or : (x l : List ℕ) (n : ℕ) (m : Mark) (o r : Option Mark) (ws : List Word) → r ≡ cond (same_bytes x l) (Some m) o → IsWord ws l o → n ≡ number m
    → IsWord (record { spelling = x; mark = n } ∷ ws) l r
unfolding among
word-or x l n m o r ws e w q = rw (e, q) (record { is = λ k. go (same_bytes x l) k })
  where
    go : (u : Bool) (k : Kind) → elim u as (λ _. Kind) [ true ↦ mark (number m) | false ↦ among ws l k ] ≡ word_kind (cond u (Some m) o) k
    go true k = refl
    go false k = w.is k

-- `INIT` and `CLOSE` end the count
pub ends-it : (m n : Mark) → uncounted (mark (number n)) ≡ true → m ≡ n → uncounted (mark (number m)) ≡ true
ends-it m n u e = rw e u

-- a mark that is neither `INIT` nor `CLOSE` does not end the count
pub still-counted : (m : Mark) → (m ≡ Init → ⊥) → (m ≡ Close → ⊥) → uncounted (mark (number m)) ≡ false
unfolding uncounted
still-counted Plus i c = refl
still-counted Minus i c = refl
still-counted Times i c = refl
still-counted Comma i c = refl
still-counted Semicolon i c = refl
still-counted Colon i c = refl
still-counted Equals i c = refl
still-counted AtMost i c = refl
still-counted AtLeast i c = refl
still-counted LeftParen i c = refl
still-counted RightParen i c = refl
still-counted LeftBracket i c = refl
still-counted RightBracket i c = refl
still-counted Open i c = refl
still-counted Close i c = absurd (c refl)
still-counted Maximize i c = refl
still-counted Minimize i c = refl
still-counted Init i c = absurd (i refl)
still-counted Sum i c = refl
still-counted Sigma i c = refl
still-counted Index i c = refl
still-counted Integer i c = refl
still-counted Real i c = refl
still-counted Formula i c = refl
still-counted Discrete i c = refl
still-counted Continuous i c = refl
