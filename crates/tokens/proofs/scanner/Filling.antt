-- A table that is being filled: what it holds, and behind it what is still to come, are the tokens of the text.
use mathlib.Core.Path.{◌≡◌, refl, sym, ◌∙◌, ap, subst}
use mathlib.Core.Bool.{Bool, true, false}
use mathlib.Core.List.{List, [], ◌∷◌, ◌++◌, append_assoc}
use mathlib.Core.Logic.{inl, inr}
use Prim.Native.Nat.{ℕ, suc, ◌+◌, ◌<◌, ◌≤◌}
use native.Mathlib.Omega.{arith}
use native.Mathlib.Numerals.{add-one}
use lib.ListN.{length, get_or, set, take, drop, length-set}
use lib.Seq.{length-take-le, take_all, take_at, drop-drop, drop-set-lt, take-suc-set, get_or-set_same, get_or-set_other}
use borrow.Author.Count.{below_more}
use Rattle.rules.specs.declared.Refusal.TheVariants.{LongText}
use Rattle.rules.specs.Limits.{byte_limit}
use Rattle.lexer.specs.Text.{Token, tokens}
use Rattle.lexer.specs.declared.Token as declared
use Rattle.lexer.specs.declared.Token.TheVariants.{Mark, Name, Literal, String, End, Wrong}
use Rattle.lexer.specs.declared.Source.{Source}
use Rattle.lexer.specs.declared.Read.{Read}
use Rattle.lexer.specs.View.{kind_of, is_last, coming_at, start_of, Turns}
use Rattle.lexer.proofs.Calls.{tokens-start, tokens-long}
use Rattle.tokens.specs.Stored.{word_of, kind_part, place_part, payload_part, refusal_of, token, view}
use Rattle.tokens.specs.Scanner.Table.{table_size, kind_number, payload_of, Packs, ShortName, Scanned}
use Rattle.tokens.proofs.scanner.Proper.{Held, Proper, proper-first, coming-proper}
use Rattle.tokens.proofs.scanner.Words.{packs, word_held, word-name}

-- i words of t are written, it is u now, and the source is c. Each of these tokens has a byte of its own.
pub record Filling (s t u : List ℕ) (c : Source) (i : ℕ) : Type 0 where
  pub size : length u ≡ length t
  pub within : i ≤ length t
  pub behind : drop i u ≡ drop i t
  pub short : length s ≤ byte_limit
  pub reached : i ≤ c.at
  pub inside : c.at ≤ length s
  pub all : view s (take i u) ++ coming_at s c ≡ tokens s
  pub names : (j : ℕ) → j < i → ShortName (get_or u j 0)

pub filling-start : (s t : List ℕ) (c : Source) → length s ≤ byte_limit → c ≡ start_of → Filling s t t c 0
unfolding view
filling-start s t c h e = rw e (record {
  size = refl;
  within = omega arith;
  behind = refl;
  short = h;
  reached = omega arith;
  inside = omega arith;
  all = sym (tokens-start s h);
  names = λ j g. absurd (omega arith);
})

-- ---- tokens and their words

length-view : (s l : List ℕ) → length (view s l) ≡ length l
unfolding view
length-view s [] = refl
length-view s (w ∷ l) = ap suc (length-view s l)

-- all tokens, in r words of a table that has as many
module _ (s t u : List ℕ) (r : ℕ) (e : view s (take r u) ≡ tokens s) (h : r ≤ length u) (g : length u ≡ length t) where
  all-count : length (tokens s) ≡ r
  all-count = ap (λ (l : List Token). length l) (sym e) ∙ length-view s (take r u) ∙ length-take-le r u h

  all_words : view s (take r u) ≡ take (length t) (tokens s)
  all_words = e ∙ sym (take_all (length t) (tokens s) (omega (arith, all-count)))

-- ---- one word more

view-append : (s a b : List ℕ) → view s (a ++ b) ≡ view s a ++ view s b
unfolding view
view-append s [] b = refl
view-append s (w ∷ a) b = ap (λ (l : List Token). token s (kind_part w) (place_part w) (payload_part w) ∷ l) (view-append s a b)

-- whether a token is the last one does not depend on the text
last-any : (s : List ℕ) (t : declared.Token) → is_last (kind_of [] t) ≡ is_last (kind_of s t)
last-any s (Mark c) = refl
last-any s (Name a n) = refl
last-any s (Literal w v) = refl
last-any s (String a n) = refl
last-any s End = refl
last-any s (Wrong r) = refl

turn-held : (s : List ℕ) (c : Source) (r : Read Source) → Turns s c r → Held (kind_of s r.token)
turn-held s c r w = proper-first (subst Proper w.tokens (coming-proper s c))

module _ (s t u : List ℕ) (c : Source) (i : ℕ) (r : Read Source) (f : Filling s t u c i) (w : Turns s c r) where
  pub turn-packs : Packs r.token
  turn-packs = packs s r.place r.token w.within (turn-held s c r w)

  pub turn-place : r.place ≤ byte_limit
  turn-place = omega (arith, f.short, f.inside, w.placed.high)

  module _ (x : ℕ) (h : i < length u) (e : x ≡ word_of (kind_number r.token) r.place (payload_of r.token)) where
    abbrev given : Token
    given = record { kind = kind_of s r.token; place = r.place }

    more-behind : drop (i + 1) (set u i x) ≡ drop (i + 1) t
    more-behind = drop-set-lt (i + 1) u i x (omega arith) ∙ sym (drop-drop 1 i u) ∙ ap (drop 1) f.behind ∙ drop-drop 1 i t

    more-view : view s (take (i + 1) (set u i x)) ≡ view s (take i u) ++ (given ∷ [])
    unfolding view
    more-view =
        rw (add-one i, take-suc-set u i x h) (view-append s (take i u) (x ∷ [])
        ∙ ap (λ (y : Token). view s (take i u) ++ (y ∷ [])) (word_held s r.place x r.token w.within (turn-held s c r w) turn-place e))

    more-names : (j : ℕ) → j < i + 1 → ShortName (get_or (set u i x) j 0)
    more-names =
        below_more (λ (j : ℕ). ShortName (get_or (set u i x) j 0)) i (λ j g. rw (get_or-set_other u i j x 0 (λ q. omega arith)) (f.names j g))
        (rw (get_or-set_same u i x 0 h) (word-name s r.place x r.token w.within (turn-held s c r w) turn-place e))

    pub filling-more : (b : Bool) → b ≡ is_last (kind_of [] r.token) → b ≡ false → Filling s t (set u i x) r.next (i + 1)
    filling-more b g k =
        let l : is_last (kind_of s r.token) ≡ false = sym (last-any s r.token) ∙ sym g ∙ k in
        let m = w.placed.moves l in
        record {
          size = length-set u i x ∙ f.size;
          within = omega (arith, f.size);
          behind = more-behind;
          short = f.short;
          reached = omega (arith, f.reached, w.placed.low, m.0);
          inside = m.1;
          all = rw more-view (append_assoc (view s (take i u)) (given ∷ []) (coming_at s r.next) ∙ ap (λ (z : List Token). view s (take i u) ++ z) (sym (rw l at w.tokens)) ∙ f.all);
          names = more-names;
        }

    pub filling-last : (b : Bool) → b ≡ is_last (kind_of [] r.token) → b ≡ true → Scanned s t (i + 1) (set u i x)
    filling-last b g k =
        let l : is_last (kind_of s r.token) ≡ true = sym (last-any s r.token) ∙ sym g ∙ k in
        record {
          size = length-set u i x ∙ f.size;
          within = omega (arith, f.size);
          behind = more-behind;
          words = all_words s t (set u i x) (i + 1) (whole l) (simp length-set (omega arith)) (length-set u i x ∙ f.size);
          names = more-names;
          ends = inl (all-count s t (set u i x) (i + 1) (whole l) (simp length-set (omega arith)) (length-set u i x ∙ f.size));
        }
      where
        whole : is_last (kind_of s r.token) ≡ true → view s (take (i + 1) (set u i x)) ≡ tokens s
        whole l = more-view ∙ ap (λ (z : List Token). view s (take i u) ++ z) (sym (rw l at w.tokens)) ∙ f.all

pub filling-out : (s t u : List ℕ) (c : Source) (i r : ℕ) → Filling s t u c i → length u ≤ i → r ≡ length t → Scanned s t r u
unfolding table_size
filling-out s t u c i r f h q = let e : r ≡ i = omega (arith, f.size, f.within) in rw e record {
  size = f.size;
  within = f.within;
  behind = f.behind;
  words =
      sym (ap (take (length t)) (sym f.all) ∙ take_at (view s (take i u)) (coming_at s c) (length t) (length-view s (take i u) ∙ length-take-le i u (omega (arith, f.size, f.within)) ∙ omega (arith, f.size, f.within)));
  names = f.names;
  ends = inr (omega (arith, f.size, f.within), omega (arith, f.short, f.reached, f.inside));
}

-- ---- a text that is too long, and a table of no words

pub scanned-long : (s t : List ℕ) (x : ℕ) → byte_limit < length s → (length t ≡ 0 → ⊥) → x ≡ word_of 5 byte_limit 1 → Scanned s t 1 (set t 0 x)
unfolding view refusal_of
scanned-long s [] x g h e = absurd (h refl)
scanned-long s (y ∷ t) x g h e = record {
  size = refl;
  within = omega arith;
  behind = refl;
  words = all_words s (y ∷ t) (x ∷ t) 1 (whole e) (omega arith) refl;
  names = below_more (λ (j : ℕ). ShortName (get_or (x ∷ t) j 0)) 0 (λ j h. absurd (omega arith)) (word-name s byte_limit x (Wrong LongText) tt refl (omega arith) e);
  ends = inl (all-count s (y ∷ t) (x ∷ t) 1 (whole e) (omega arith) refl);
}
  where
    whole : x ≡ word_of 5 byte_limit 1 → view s (x ∷ []) ≡ tokens s
    whole e = ap (λ (z : Token). z ∷ []) (word_held s byte_limit x (Wrong LongText) tt refl (omega arith) e) ∙ sym (tokens-long s g)

pub scanned-none : (s t : List ℕ) → length t ≡ 0 → Scanned s t 0 t
unfolding table_size view
scanned-none s t h = record {
  size = refl;
  within = omega arith;
  behind = refl;
  words = rw h refl;
  names = λ i g. absurd (omega arith);
  ends = inr (sym h, omega arith);
}
