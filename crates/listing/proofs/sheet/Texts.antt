-- Laws of names and strings: what the tables tell is the part of the text that the definition reads, since all of its bytes are
-- visible.
use mathlib.Core.Path.{◌≡◌, refl, sym, ◌∙◌, ap, subst}
use mathlib.Core.Bool.{Bool, true, false}
use mathlib.Core.List.{List, [], ◌∷◌}
use Prim.Native.Nat.{ℕ, zero, suc, ◌+◌, ◌*◌, ◌<◌}
use native.Mathlib.Omega.{arith}
use borrow.Author.Tests.{ltb-true, ltb-false}
use lib.Dec.{ltb}
use lib.ListN.{length, take, drop, get_or, get_or-eq_default}
use lib.Seq.{drop-cons}
use Rattle.lexer.specs.Text as Text
use Rattle.lexer.specs.View.{part_of}
use Rattle.language.specs.All.{All}
use Rattle.language.specs.Listed.{At}
use Rattle.language.specs.Outcome.{Outcome, done, refused}
use Rattle.language.specs.Syntax.{Name, Constraint}
use Rattle.language.specs.Reader.{Read, Titled, read_string, next, passed, string_of, demand}
use Rattle.language.specs.Proper.{Visible}
use Rattle.language.specs.Proper as Proper
use Rattle.tokens.specs.Stored.{place_part, payload_part, bytes_from, spelling, kind_of, token, from, Named, Stands}
use Rattle.tokens.proofs.Tables.{view-here, view-end}
use Rattle.constraints.specs.declared.Record.{Record}
use Rattle.constraints.specs.Rows.{row_at, Rows}
use Rattle.evaluator.specs.Steps.Names.{row_word}
use Rattle.listing.specs.Sheet.Strings.{name_at, string_at, title_of}

-- ---- visible bytes lie in the text

pub visible-inside : (s : List ℕ) (i : ℕ) → Visible (get_or s i 0) → i < length s
visible-inside s i h = go (ltb i (length s)) refl
  where
    go : (t : Bool) → ltb i (length s) ≡ t → i < length s
    go true e = ltb-true i (length s) e
    go false e = absurd (omega (arith, h.least, get_or-eq_default s 0 {n = i} (ltb-false i (length s) e)))

bytes-part : (s : List ℕ) (p i n : ℕ) → All Visible (bytes_from s p i n) → bytes_from s p i n ≡ take n (drop (p + i) s)
unfolding bytes_from
bytes-part s p i zero h = refl
bytes-part s p i (suc n) h =
    let e : p + suc i ≡ suc (p + i) = omega arith in
    rw (drop-cons s (p + i) 0 (visible-inside s (p + i) h.0)) (ap (λ l. get_or s (p + i) 0 ∷ l) (rw e at (bytes-part s p (suc i) n h.1)))

pub spelling-part : (s : List ℕ) (p n : ℕ) → Proper.Text (spelling s p n) → spelling s p n ≡ part_of s p n
unfolding spelling
spelling-part s p n h = let e : p + 0 ≡ p = omega arith in rw e at (bytes-part s p 0 n h)

-- the same, of a string that is spelled there
pub spelled-part : (s : List ℕ) (p n : ℕ) (l : List ℕ) → l ≡ spelling s p n → Proper.Text l → l ≡ part_of s p n
spelled-part s p n l e h = e ∙ spelling-part s p n (rw e at h)

-- ---- rows of five words

row_next : (a b c d e : ℕ) (t : List ℕ) (i f : ℕ) → row_word (a ∷ b ∷ c ∷ d ∷ e ∷ t) (suc i) f ≡ row_word t i f
unfolding row_word
row_next a b c d e t i f = let x : suc i * 5 + f ≡ suc (suc (suc (suc (suc (i * 5 + f))))) = omega arith in rw x

-- ---- names

spelled_at : (s ns : List ℕ) (names : List Name) (i : ℕ) (d : Name) → Named s ns names → d.spelling ≡ []
    → (get_or names i d).spelling ≡ spelling s (row_word ns i 0) (row_word ns i 1)
unfolding spelling bytes_from row_word
spelled_at s [] [] i d h e = e
spelled_at s [] (y ∷ ys) i d h e = absurd h
spelled_at s (p ∷ []) ys i d h e = absurd h
spelled_at s (p ∷ n ∷ []) ys i d h e = absurd h
spelled_at s (p ∷ n ∷ k ∷ []) ys i d h e = absurd h
spelled_at s (p ∷ n ∷ k ∷ c ∷ []) ys i d h e = absurd h
spelled_at s (p ∷ n ∷ k ∷ c ∷ q ∷ ns) [] i d h e = absurd h
spelled_at s (p ∷ n ∷ k ∷ c ∷ q ∷ ns) (y ∷ ys) zero d h e = h.0
spelled_at s (p ∷ n ∷ k ∷ c ∷ q ∷ ns) (y ∷ ys) (suc i) d h e =
    spelled_at s ns ys i d h.2 e ∙ ap (λ a. spelling s a (row_word ns i 1)) (sym (row_next p n k c q ns i 0)) ∙ ap (spelling s (row_word (p ∷ n ∷ k ∷ c ∷ q ∷ ns) (suc i) 0)) (sym (row_next p n k c q ns i 1))

pub name-told : (s ns : List ℕ) (names : List Name) (i : ℕ) (d : Name) → Named s ns names → d.spelling ≡ [] → Proper.Text (get_or names i d).spelling
    → (get_or names i d).spelling ≡ name_at s ns i
unfolding name_at
name-told s ns names i d h e t = spelled-part s (row_word ns i 0) (row_word ns i 1) _ (spelled_at s ns names i d h e) t

-- ---- strings

abbrev Succeeds : Outcome (Read Titled) → Type 0
Succeeds (done r) = Unit
Succeeds (refused n p) = ⊥

abbrev title_in : Outcome (Read Titled) → List ℕ
title_in (done r) = r.what.title
title_in (refused n p) = []

-- a token that is read as a string is one
string-token : (s : List ℕ) (k p x : ℕ) (ts : List Text.Token) (r : Read Titled) → read_string (token s k p x ∷ ts) ≡ done r → r.what.title ≡ spelling s (p + 1) x
unfolding read_string next passed string_of demand token kind_of
string-token s zero p x ts r e = absurd (subst Succeeds (sym e) tt)
string-token s (suc zero) p x ts r e = absurd (subst Succeeds (sym e) tt)
string-token s (suc (suc zero)) p x ts r e = absurd (subst Succeeds (sym e) tt)
string-token s (suc (suc (suc zero))) p x ts r e = absurd (subst Succeeds (sym e) tt)
string-token s (suc (suc (suc (suc zero)))) p x ts r e = sym (ap title_in e)
string-token s (suc (suc (suc (suc (suc zero))))) p x ts r e = absurd (subst Succeeds (sym e) tt)
string-token s (suc (suc (suc (suc (suc (suc k)))))) p x ts r e = absurd (subst Succeeds (sym e) tt)

none_read : (r : Read Titled) → read_string [] ≡ done r → ⊥
unfolding read_string next
none_read r e = subst Succeeds (sym e) tt

string-spelled : (s ts : List ℕ) (at : ℕ) (r : Read Titled) → read_string (from s ts at) ≡ done r → r.what.title ≡ spelling s (place_part (get_or ts at 0) + 1) (payload_part (get_or ts at 0))
unfolding from
string-spelled s ts at r e = go (ltb at (length ts)) refl
  where
    go : (t : Bool) → ltb at (length ts) ≡ t → r.what.title ≡ spelling s (place_part (get_or ts at 0) + 1) (payload_part (get_or ts at 0))
    go true b = string-token s _ _ _ _ r (rw (view-here s ts at (ltb-true at (length ts) b)) at e)
    go false b = absurd (none_read r (rw (view-end s ts at (ltb-false at (length ts) b)) at e))

pub string-told : (s ts : List ℕ) (at : ℕ) (x : Titled) → Stands read_string s ts at x → Proper.Text x.title → x.title ≡ string_at s ts at
unfolding string_at
string-told s ts at x h t = spelled-part s (place_part (get_or ts at 0) + 1) (payload_part (get_or ts at 0)) x.title (string-spelled s ts at _ h.reads) t

-- ---- constraints

title-stands : (s ts : List ℕ) (cs : List Record) (names : List Name) (xs : List Constraint) (i : ℕ) (x : Constraint) → Rows s ts cs names xs → At xs i x
    → Stands read_string s ts (row_at cs i).title (record { title = x.title; place = x.place })
title-stands s ts [] names [] i x h a = absurd a
title-stands s ts [] names (y ∷ ys) i x h a = absurd h
title-stands s ts (r ∷ cs) names [] i x h a = absurd h
title-stands s ts (r ∷ cs) names (y ∷ ys) zero x h a = subst (λ w. Stands read_string s ts r.title (record { title = w.title; place = w.place })) a h.0.title
title-stands s ts (r ∷ cs) names (y ∷ ys) (suc i) x h a = title-stands s ts cs names ys i x h.1 a

pub title-told : (s ts : List ℕ) (cs : List Record) (names : List Name) (xs : List Constraint) (i : ℕ) (x : Constraint) → Rows s ts cs names xs → At xs i x → Proper.Text x.title
    → x.title ≡ title_of s ts cs i
unfolding title_of
title-told s ts cs names xs i x h a t = string-told s ts (row_at cs i).title _ (title-stands s ts cs names xs i x h a) t
