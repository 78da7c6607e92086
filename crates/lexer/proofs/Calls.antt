-- For callers: what a token is without the definition; repeated calls give the definition's tokens, with and without the
-- count; where a text begins.
use mathlib.Core.Path.{◌≡◌, refl, sym, ◌∙◌, ap}
use mathlib.Core.Bool.{Bool, true, false, cond, not, ◌||◌}
use mathlib.Core.List.{List, [], ◌∷◌}
use Prim.Native.Nat.{ℕ, zero, suc, ◌+◌, ◌-◌, ◌<◌, ◌≤◌}
use native.Mathlib.Omega.{arith}
use borrow.Author.Tests.{le-leb, lt-leb}
use lib.ListN.{length, drop}
use Rattle.rules.specs.declared.Refusal.TheVariants.{LongText, Full}
use Rattle.rules.specs.Limits.{byte_limit, name_length, string_length}
use Rattle.value.specs.declared.Value.{Value}
use Rattle.value.specs.Decimal.{Valid}
use Rattle.lexer.specs.Text as Text
use Rattle.lexer.specs.Text.{Kind, mark, name, literal, string, end, wrong, tokens_from, uncounted, counted, tokens}
use Rattle.lexer.specs.declared.Token.{Token}
use Rattle.lexer.specs.declared.Token.TheVariants.{Mark, Name, Literal, String, End, Wrong}
use Rattle.lexer.specs.declared.Cursor.{Cursor}
use Rattle.lexer.specs.declared.Read.{Read}
use Rattle.lexer.specs.declared.Source.{Source}
use Rattle.lexer.specs.View.{kind_of, Part, Within, is_last, Reads, coming_at, start_of, Turns}

-- ---- a token without the definition

module _ (s : List ℕ) (p : ℕ) (t : Token) (w : Within s p t) where
  pub name-within : (a n : ℕ) → t ≡ Name a n → Part s p name_length a n
  name-within a n e = rw e at w

  pub string-within : (a n : ℕ) → t ≡ String a n → Part s (p + 1) string_length a n
  string-within a n e = rw e at w

  pub literal-within : (b : Bool) (v : Value) → t ≡ Literal b v → Valid v
  literal-within b v e = rw e at w

-- ---- one call after the other

module _ (s : List ℕ) (call : ℕ → Read Cursor) where
  abbrev given : ℕ → Text.Token
  given at = record { kind = kind_of s (call at).token; place = (call at).place }

  -- n calls at most, the first at `at`, each next one where the last one says
  unfoldable pub called : ℕ → ℕ → List Text.Token
  called zero at = []
  called (suc n) at = given at ∷ elim (is_last (kind_of s (call at).token)) [ true ↦ [] | false ↦ called n (call at).next.at ]

  pub calls-give : ((at : ℕ) → Reads s at (call at)) → (n at : ℕ) → length s - at < n → called n at ≡ tokens_from at 0 (drop at s)
  unfolding called
  calls-give w zero at h = absurd (omega arith)
  calls-give w (suc n) at h = go (is_last (kind_of s (call at).token)) refl (calls-give w n (call at).next.at) ∙ sym (w at).tokens
    where
      go : (u : Bool) → is_last (kind_of s (call at).token) ≡ u
          → (length s - (call at).next.at < n → called n (call at).next.at ≡ tokens_from (call at).next.at 0 (drop (call at).next.at s))
          → given at ∷ elim u as (λ _. List Text.Token) [ true ↦ [] | false ↦ called n (call at).next.at ]
          ≡ given at ∷ cond (is_last (kind_of s (call at).token)) [] (tokens_from (call at).next.at 0 (drop (call at).next.at s))
      go true e r = rw e refl
      go false e r = let m = (w at).placed.moves e in ap (λ (l : List Text.Token). given at ∷ l) (r (omega (arith, m.0, m.1, (w at).placed.low)) ∙ rw e refl)

-- ---- which tokens end the count

any-text : (s : List ℕ) (t : Token) → uncounted (kind_of [] t) ≡ uncounted (kind_of s t)
unfolding uncounted
any-text s (Mark c) = refl
any-text s (Name a n) = refl
any-text s (Literal w v) = refl
any-text s (String a n) = refl
any-text s End = refl
any-text s (Wrong r) = refl

not_last : (k : Kind) → uncounted k ≡ false → is_last k ≡ false
unfolding uncounted
not_last (mark c) e = refl
not_last (name l) e = refl
not_last (literal w v) e = refl
not_last (string l) e = refl
not_last end e = e
not_last (wrong r) e = e

-- ---- the count

module _ (t : Text.Token) (ts : List Text.Token) where
  counted-free : (n : ℕ) → uncounted t.kind ≡ true → counted n (t ∷ ts) ≡ t ∷ ts
  unfolding counted
  counted-free zero e = rw e refl
  counted-free (suc n) e = rw (e, counted) refl

  counted-full : uncounted t.kind ≡ false → counted 0 (t ∷ ts) ≡ record { kind = wrong Full; place = t.place } ∷ []
  unfolding counted
  counted-full e = rw e refl

  counted-on : (n : ℕ) → (n ≡ 0 → ⊥) → uncounted t.kind ≡ false → counted n (t ∷ ts) ≡ t ∷ counted (n - 1) ts
  unfolding counted
  counted-on zero f e = absurd (f refl)
  counted-on (suc n) f e = let m : suc n - 1 ≡ n = omega arith in rw (m, e, counted) refl

counts-on : (c f : Bool) → (not c || f) ≡ false → (c ≡ true) × (f ≡ false)
counts-on true f e = (refl, e)
counts-on false f e = cc

module _ (s : List ℕ) (self : Source) (r : Read Cursor) (f : Bool) where
  pub turn-free : Reads s self.at r → f ≡ uncounted (kind_of [] r.token) → (not self.counts || f) ≡ true
      → Turns s self (record { token = r.token; place = r.place; next = record { at = r.next.at; left = self.left; counts = false } })
  unfolding coming_at
  turn-free w g e = record { tokens = go self.counts refl e; within = w.within; placed = w.placed }
    where
      go : (u : Bool) → self.counts ≡ u → (not u || f) ≡ true
          → coming_at s self ≡ record { kind = kind_of s r.token; place = r.place } ∷ cond (is_last (kind_of s r.token)) [] (tokens_from r.next.at 0 (drop r.next.at s))
      go true d e = rw d (ap (counted self.left) w.tokens ∙ counted-free _ _ self.left (sym (any-text s r.token) ∙ sym g ∙ e))
      go false d e = rw d w.tokens

  pub turn-full : Reads s self.at r → f ≡ uncounted (kind_of [] r.token) → (not self.counts || f) ≡ false → self.left ≡ 0
      → Turns s self (record { token = Wrong Full; place = r.place; next = self })
  unfolding coming_at uncounted
  turn-full w g e z =
      let d = counts-on self.counts f e in
      let u : uncounted (kind_of s r.token) ≡ false = sym (any-text s r.token) ∙ sym g ∙ d.1 in
      record {
        tokens = rw d.0 (ap (counted self.left) w.tokens ∙ rw z (counted-full _ _ u));
        within = tt;
        placed = record {
          low = w.placed.low;
          high = w.placed.high;
          ends = λ q. cc;
          inside = λ _. w.placed.inside (λ q. cc (sym (ap uncounted q) ∙ u));
          moves = λ q. cc;
        };
      }

  pub turn_on : Reads s self.at r → f ≡ uncounted (kind_of [] r.token) → (not self.counts || f) ≡ false → (self.left ≡ 0 → ⊥)
      → Turns s self (record { token = r.token; place = r.place; next = record { at = r.next.at; left = self.left - 1; counts = true } })
  unfolding coming_at
  turn_on w g e z =
      let d = counts-on self.counts f e in
      let u : uncounted (kind_of s r.token) ≡ false = sym (any-text s r.token) ∙ sym g ∙ d.1 in
      let l : is_last (kind_of s r.token) ≡ false = not_last (kind_of s r.token) u in
      record {
        tokens = rw d.0 (ap (counted self.left) w.tokens ∙ counted-on _ _ self.left z u ∙ rw l refl);
        within = w.within;
        placed = w.placed;
      }

-- ---- where a text begins

pub tokens-start : (s : List ℕ) → length s ≤ byte_limit → tokens s ≡ coming_at s start_of
unfolding coming_at tokens
tokens-start s h = rw (le-leb (length s) byte_limit h) refl

pub tokens-long : (s : List ℕ) → byte_limit < length s → tokens s ≡ record { kind = wrong LongText; place = byte_limit } ∷ []
unfolding tokens
tokens-long s h = rw (lt-leb (length s) byte_limit h) refl
