-- Laws of the readers of one token over plain variables: an index, an entry, a number, the data section's ends.
use Rattle.std.specs.Prelude.{Err, Ok, Result, Option, Some, None}
use Rattle.rules.specs.declared.Refused.{Refused}
use Rattle.data.specs.declared.reading.entries.Entry.{Entry}
use mathlib.Core.Path.{◌≡◌, refl, sym, ◌∙◌, ap, subst}
use mathlib.Core.Bool.{Bool, true, false, ◌||◌}
use mathlib.Core.List.{List, [], ◌∷◌}
use Prim.Native.Nat.{ℕ, zero, suc, ◌/◌, ◌%◌, ◌^◌, ◌<◌}
use native.Mathlib.Omega.{arith}
use borrow.Author.Tests.{eq-eqb, ne_eqb}
use lib.Dec.{eqb}
use lib.IntN.{ℤ, pos, neg_ℤ, ◌-ℤ◌, +ℤ_idl}
use lib.Signed.{mag}
use mir.Syntax.{w64}
use mir.Val.{SFits, to_z, of_z}
use mir.Facts.{to_z-of_z, to_z_pos}
use Rattle.rules.specs.declared.Refusal.TheVariants.{Misplaced, Missing}
use Rattle.value.specs.Decimal.{negate}
use Rattle.value.proofs.Integers.{sfits, back, nat_abs-neg}
use Rattle.lexer.specs.Text.{Token, same_bytes}
use Rattle.language.specs.Outcome.{Outcome, done, refused}
use Rattle.language.proofs.Outcome.{some-injective, none-some}
use Rattle.language.specs.Syntax.{Name, Sort}
use Rattle.language.specs.Reader.{Reader, Read, follow, give, next, name_of, string_of, demand, require, read_string, Used, find, found, known, read_known, is_index, read_index}
use Rattle.language.specs.Data.{marked, digits_of, with_minus, signed_entry, entry_by, read_entry, value_of, signed_value, read_close, is_end, read_end}
use Rattle.tokens.specs.declared.Seen.{Seen}
use Rattle.tokens.specs.declared.Known.{Known}
use Rattle.tokens.specs.Stored.{name_bytes, spelling, kind_of, token, from, Sees, Looks, Shaped, Named, Knowing, KnownAt, Knows}
use Rattle.tokens.proofs.Tables.{false-true, mark-of, mark-same, index-sort, other-sort, no-string}
use Rattle.tokens.proofs.Moved.{next-is, knows-of}
use Rattle.data.specs.declared.reading.entries.Entry.TheVariants.{Fixed, Marked}
use Rattle.data.specs.declared.reading.numbers.Numbered.{Numbered}
use Rattle.data.specs.Reading.Readers.{Answers, Says, leaves, indexed, index_in, entered, mark_in, numbered, literal_in, number_in, passed, titled}

-- ---- kinds

no_end : (s : List ℕ) (k p x : ℕ) → (k ≡ 0 → ⊥) → is_end (kind_of s k p x) ≡ false
unfolding kind_of
no_end s zero p x h = absurd (h refl)
no_end s (suc zero) p x h = refl
no_end s (suc (suc zero)) p x h = refl
no_end s (suc (suc (suc zero))) p x h = refl
no_end s (suc (suc (suc (suc zero)))) p x h = refl
no_end s (suc (suc (suc (suc (suc zero))))) p x h = refl
no_end s (suc (suc (suc (suc (suc (suc k)))))) p x h = refl

no-digits : (s : List ℕ) (k p x : ℕ) → (k ≡ 2 → ⊥) → digits_of (kind_of s k p x) ≡ None
unfolding kind_of digits_of
no-digits s zero p x h = refl
no-digits s (suc zero) p x h = refl
no-digits s (suc (suc zero)) p x h = absurd (h refl)
no-digits s (suc (suc (suc zero))) p x h = refl
no-digits s (suc (suc (suc (suc zero)))) p x h = refl
no-digits s (suc (suc (suc (suc (suc zero))))) p x h = refl
no-digits s (suc (suc (suc (suc (suc (suc k)))))) p x h = refl

some-value : (s : List ℕ) (k p x : ℕ) → (eqb k 2 || eqb k 3) ≡ true → value_of (kind_of s k p x) ≡ Some (record { m = pos (x / 8); s = x % 8 })
unfolding kind_of value_of
some-value s zero p x h = absurd (let w : ◌≡◌ {A = ℕ} 0 1 = cc in omega arith)
some-value s (suc zero) p x h = absurd (let w : ◌≡◌ {A = ℕ} 0 1 = cc in omega arith)
some-value s (suc (suc zero)) p x h = refl
some-value s (suc (suc (suc zero))) p x h = refl
some-value s (suc (suc (suc (suc zero)))) p x h = absurd (let w : ◌≡◌ {A = ℕ} 0 1 = cc in omega arith)
some-value s (suc (suc (suc (suc (suc zero))))) p x h = absurd (let w : ◌≡◌ {A = ℕ} 0 1 = cc in omega arith)
some-value s (suc (suc (suc (suc (suc (suc k)))))) p x h = absurd (false-true (rw (ne_eqb (suc (suc (suc (suc (suc (suc k)))))) 2 (λ e. omega arith), ne_eqb (suc (suc (suc (suc (suc (suc k)))))) 3 (λ e. omega arith)) at h))

no_value : (s : List ℕ) (k p x : ℕ) → (eqb k 2 || eqb k 3) ≡ false → value_of (kind_of s k p x) ≡ None
unfolding kind_of value_of
no_value s zero p x h = refl
no_value s (suc zero) p x h = refl
no_value s (suc (suc zero)) p x h = absurd (let w : ◌≡◌ {A = ℕ} 0 1 = cc in omega arith)
no_value s (suc (suc (suc zero))) p x h = absurd (let w : ◌≡◌ {A = ℕ} 0 1 = cc in omega arith)
no_value s (suc (suc (suc (suc zero)))) p x h = refl
no_value s (suc (suc (suc (suc (suc zero))))) p x h = refl
no_value s (suc (suc (suc (suc (suc (suc k)))))) p x h = refl

-- ---- a payload's mantissa, with its sign

module _ (x : ℕ) (f : x < 18446744073709551616) where
  eighth : to_z w64 (x / 8) ≡ pos (x / 8)
  eighth = to_z_pos w64 (omega arith)

  pub opposite-fits : SFits w64 (pos 0 -ℤ to_z w64 (x / 8))
  opposite-fits = rw (eighth, +ℤ_idl (neg_ℤ (pos (x / 8)))) (sfits _ (omega (arith, nat_abs-neg (pos (x / 8)))))

  pub signed-minus : (minus : Bool) → minus ≡ true → to_z w64 (of_z w64 (pos 0 -ℤ to_z w64 (x / 8))) ≡ with_minus minus (pos (x / 8))
  signed-minus minus e = to_z-of_z opposite-fits ∙ rw (eighth, e) (+ℤ_idl (neg_ℤ (pos (x / 8))))

  pub signed-plus : (minus : Bool) → minus ≡ false → to_z w64 (x / 8) ≡ with_minus minus (pos (x / 8))
  signed-plus minus e = rw e eighth

signed-value : (minus : Bool) (m : ℤ) (s : ℕ) → signed_value minus (record { m = m; s = s }) ≡ record { m = with_minus minus m; s = s }
unfolding negate
signed-value true m s = refl
signed-value false m s = refl

-- ---- a token

module _ (ts : List ℕ) (at : ℕ) (t : Result Seen Refused) (h : Looks ts at t) where
  sees : (s : List ℕ) (w : Result Seen Refused) → t ≡ w → Sees s ts at w
  sees s w e = subst (Sees s ts at) e (h.sees s)

  taken : (s : List ℕ) (w : Seen) → t ≡ Ok w → next (from s ts at) ≡ leaves (token s w.kind w.place w.payload) s ts w.next
  taken s z e = next-is s ts at z (sees s _ e)

  wrong : (s : List ℕ) (e : Refused) → t ≡ Err e → next (from s ts at) ≡ refused e.refusal e.place
  wrong s z e = (sees s _ e).nexts

  -- ---- a string

  pub title-wrong : (e : Refused) → t ≡ Err e → Says titled read_string ts at (Err e)
  unfolding read_string
  title-wrong z e = record { is = λ s. rw (wrong s z e) refl }

  pub title-yes : (w : Seen) → t ≡ Ok w → w.kind ≡ 4 → Says titled read_string ts at (Ok (record { place = w.place; length = w.payload; next = w.next }))
  unfolding read_string demand string_of token kind_of
  title-yes z e i = record { is = λ s. rw (taken s z e, i) refl }

  pub title-no : (w : Seen) → t ≡ Ok w → (w.kind ≡ 4 → ⊥) → Says titled read_string ts at (Err (record { refusal = Misplaced; place = w.place }))
  unfolding read_string demand token
  title-no z e i = record { is = λ s. rw (taken s z e, no-string s z.kind z.place z.payload i) refl }

  -- ---- `CLOSE`, and the text's end

  pub close-wrong : (e : Refused) → t ≡ Err e → Says passed read_close ts at (Err e)
  unfolding read_close
  close-wrong z e = record { is = λ s. rw (wrong s z e) refl }

  pub close-sign : (w : Seen) → t ≡ Ok w → (eqb w.kind 43 || eqb w.kind 45) ≡ true → Says passed read_close ts at (Err (record { refusal = Missing; place = w.place }))
  unfolding read_close require token
  close-sign z e i = record { is = λ s. rw (taken s z e, mark-of s z.kind z.place z.payload, mark-same z.kind 43 (omega arith), mark-same z.kind 45 (omega arith), i) refl }

  pub close-yes : (w : Seen) → t ≡ Ok w → (eqb w.kind 43 || eqb w.kind 45) ≡ false → w.kind ≡ 129 → Says passed read_close ts at (Ok w.next)
  unfolding read_close require token
  close-yes z e i j =
      record { is = λ s. rw (taken s z e, mark-of s z.kind z.place z.payload, mark-same z.kind 43 (omega arith), mark-same z.kind 45 (omega arith), i, mark-same z.kind 129 (omega arith), eq-eqb z.kind 129 j) refl }

  pub close-no : (w : Seen) → t ≡ Ok w → (eqb w.kind 43 || eqb w.kind 45) ≡ false → (w.kind ≡ 129 → ⊥) → Says passed read_close ts at (Err (record { refusal = Misplaced; place = w.place }))
  unfolding read_close require token
  close-no z e i j =
      record { is = λ s. rw (taken s z e, mark-of s z.kind z.place z.payload, mark-same z.kind 43 (omega arith), mark-same z.kind 45 (omega arith), i, mark-same z.kind 129 (omega arith), ne_eqb z.kind 129 j) refl }

  pub end-wrong : (e : Refused) → t ≡ Err e → Says passed read_end ts at (Err e)
  unfolding read_end
  end-wrong z e = record { is = λ s. rw (wrong s z e) refl }

  pub end-yes : (w : Seen) → t ≡ Ok w → w.kind ≡ 0 → Says passed read_end ts at (Ok w.next)
  unfolding read_end require token kind_of
  end-yes z e i = record { is = λ s. rw (taken s z e, i) refl }

  pub end-no : (w : Seen) → t ≡ Ok w → (w.kind ≡ 0 → ⊥) → Says passed read_end ts at (Err (record { refusal = Misplaced; place = w.place }))
  unfolding read_end require token
  end-no z e i = record { is = λ s. rw (taken s z e, no_end s z.kind z.place z.payload i) refl }

  -- ---- a number

  module _ (sign : ℕ) (minus : Bool) where
    pub literal-wrong : (e : Refused) → t ≡ Err e → Says numbered (literal_in sign minus) ts at (Err e)
    unfolding literal_in
    literal-wrong z e = record { is = λ s. rw (wrong s z e) refl }

    pub literal-yes : (w : Seen) (z : ℤ) → t ≡ Ok w → (eqb w.kind 2 || eqb w.kind 3) ≡ true → z ≡ with_minus minus (pos (w.payload / 8)) → mag z < 2 ^ 63
        → Says numbered (literal_in sign minus) ts at (Ok (record { value = (record { m = to_z w64 (of_z w64 z); s = w.payload % 8 }); place = sign; next = w.next }))
    unfolding literal_in demand token
    literal-yes w z e i j b =
        record { is = λ s. rw (taken s w e, some-value s w.kind w.place w.payload i, signed-value minus (pos (w.payload / 8)) (w.payload % 8), ← j) (rw (back {z = z} b) refl) }

    pub literal-no : (w : Seen) → t ≡ Ok w → (eqb w.kind 2 || eqb w.kind 3) ≡ false → Says numbered (literal_in sign minus) ts at (Err (record { refusal = Misplaced; place = w.place }))
    unfolding literal_in demand token
    literal-no z e i = record { is = λ s. rw (taken s z e, no_value s z.kind z.place z.payload i) refl }

  pub number-wrong : (e : Refused) → t ≡ Err e → Says numbered number_in ts at (Err e)
  unfolding number_in
  number-wrong z e = record { is = λ s. rw (wrong s z e) refl }

  pub number-no : (w : Seen) → t ≡ Ok w → (eqb w.kind 43 || eqb w.kind 45) ≡ false → Says numbered number_in ts at (Err (record { refusal = Missing; place = w.place }))
  unfolding number_in require token
  number-no z e i = record { is = λ s. rw (taken s z e, mark-of s z.kind z.place z.payload, mark-same z.kind 43 (omega arith), mark-same z.kind 45 (omega arith), i) refl }

  pub number-yes : (w : Seen) (r : Result Numbered Refused) → t ≡ Ok w → (eqb w.kind 43 || eqb w.kind 45) ≡ true → Says numbered (literal_in w.place (eqb w.kind 45)) ts w.next r → Says numbered number_in ts at r
  unfolding number_in require token
  number-yes z r e i g =
      record { is = λ s. rw (taken s z e, mark-of s z.kind z.place z.payload, mark-same z.kind 43 (omega arith), mark-same z.kind 45 (omega arith), i) (g.is s) }

  -- ---- a fixed entry

  module _ (minus : Bool) where
    pub fixed-wrong : (e : Refused) → t ≡ Err e → Says entered (signed_entry minus) ts at (Err e)
    unfolding signed_entry
    fixed-wrong z e = record { is = λ s. rw (wrong s z e) refl }

    pub fixed-yes : (w : Seen) (z : ℤ) → t ≡ Ok w → w.kind ≡ 2 → z ≡ with_minus minus (pos (w.payload / 8)) → mag z < 2 ^ 63
        → Says entered (signed_entry minus) ts at (Ok ((Fixed (to_z w64 (of_z w64 z))), w.next))
    unfolding signed_entry demand digits_of token kind_of
    fixed-yes w z e i j b = record { is = λ s. rw (taken s w e, i) (rw (back {z = z} b, j) refl) }

    pub fixed_no : (w : Seen) → t ≡ Ok w → (w.kind ≡ 2 → ⊥) → Says entered (signed_entry minus) ts at (Err (record { refusal = Misplaced; place = w.place }))
    unfolding signed_entry demand token
    fixed_no z e i = record { is = λ s. rw (taken s z e, no-digits s z.kind z.place z.payload i) refl }

-- ---- a declared index

module _ (s ns ts : List ℕ) (at : ℕ) (r : Result Known Refused) (told : KnownAt s ns ts at r) where
  h : Knows s ns ts at r
  h = knows-of s ns ts at r told

  knowing : (names : List Name) → Named s ns names → (w : Result Known Refused) → r ≡ w → Knowing (read_known names (from s ts at)) s ts w
  knowing names d w e = subst (Knowing (read_known names (from s ts at)) s ts) e (h.knows names d)

  index_test : Used → Reader ℕ
  index_test u ts = follow (follow (require (is_index u.sort) Misplaced u.place ts) (λ _. give u)) (λ u. give u.number)

  pub index-wrong : (e : Refused) → r ≡ Err e → Answers indexed index_in s ns ts at (Err e)
  unfolding index_in read_index
  index-wrong z e = record { is = λ names d. go (read_known names (from s ts at)) (knowing names d (Err z) e) }
    where
      go : (o : Outcome (Read Used)) → Knowing o s ts (Err z)
          → follow (follow o (λ u ts. follow (require (is_index u.sort) Misplaced u.place ts) (λ _. give u))) (λ u. give u.number) ≡ refused z.refusal z.place
      go (done x) k = absurd k
      go (refused m q) k = rw (k.0, k.1) refl

  index-by : (w : Known) (b : Bool) (z : Result (ℕ × ℕ) Refused) → r ≡ Ok w → ((x : Sort) → Shaped x w.sort w.count → is_index x ≡ b)
      → ((u : Used) → u.place ≡ w.place → u.number ≡ w.number → follow (follow (require b Misplaced u.place (from s ts w.next)) (λ _. give u)) (λ u. give u.number) ≡ indexed s ts z)
      → Answers indexed index_in s ns ts at z
  unfolding index_in read_index
  index-by w b z e f g = record { is = λ names d. go (read_known names (from s ts at)) (knowing names d (Ok w) e) }
    where
      go : (o : Outcome (Read Used)) → Knowing o s ts (Ok w)
          → follow (follow o (λ u ts. follow (require (is_index u.sort) Misplaced u.place ts) (λ _. give u))) (λ u. give u.number) ≡ indexed s ts z
      go (done x) k = rw (k.0, f x.what.sort k.2) (g x.what k.3 k.1)
      go (refused m q) k = absurd k

  pub index-yes : (w : Known) → r ≡ Ok w → w.sort ≡ 0 → Answers indexed index_in s ns ts at (Ok (w.number, w.next))
  unfolding require
  index-yes z e f = index-by z true (Ok (z.number, z.next)) e (λ x g. index-sort x z.sort z.count g f) (λ u q j. rw j refl)

  pub index-other : (w : Known) → r ≡ Ok w → (w.sort ≡ 0 → ⊥) → Answers indexed index_in s ns ts at (Err (record { refusal = Misplaced; place = w.place }))
  unfolding require
  index-other z e f = index-by z false (Err (record { refusal = Misplaced; place = z.place })) e (λ x g. other-sort x z.sort z.count g f) (λ u q j. rw q refl)

module _ (s ns ts : List ℕ) (at : ℕ) (r : Result (ℕ × ℕ) Refused) (h : Answers indexed index_in s ns ts at r) where
  pub mark-yes : (i a : ℕ) → r ≡ Ok (i, a) → Answers entered mark_in s ns ts at (Ok ((Marked i), a))
  unfolding mark_in
  mark-yes i a e = record { is = λ names d. rw (h.is names d, e) refl }

  pub mark-wrong : (e : Refused) → r ≡ Err e → Answers entered mark_in s ns ts at (Err e)
  unfolding mark_in
  mark-wrong z e = record { is = λ names d. rw (h.is names d, e) refl }

-- ---- an entry

-- a name that was found stands where it was looked for
found-place : (l : List ℕ) (names : List Name) (i p : ℕ) (u : Used) → find l names i p ≡ Some u → u.place ≡ p
unfolding find
found-place l [] i p u e = absurd (none-some e)
found-place l (x ∷ xs) i p u e = go (same_bytes l x.spelling) (found-place l xs (suc i) p u) e
  where
    go : (b : Bool) → (find l xs (suc i) p ≡ Some u → u.place ≡ p)
        → ◌≡◌ {A = Option Used} (elim b as (λ _. Option Used) [ true ↦ Some (record { number = i; sort = x.sort; place = p }) | false ↦ find l xs (suc i) p ]) (Some u) → u.place ≡ p
    go true ih e = sym (ap (λ (u : Used). u.place) (some-injective e))
    go false ih e = ih e

-- an index by its name, marked
marked-same : (names : List Name) (l : List ℕ) (p : ℕ) (ts : List Token)
    → follow (follow (follow (known names l p ts) (λ u ts. follow (require (is_index u.sort) Misplaced u.place ts) (λ _. give u))) (λ u. give u.number)) (λ i. give (marked i))
    ≡ follow (known names l p ts) (λ u ts. follow (require (is_index u.sort) Misplaced p ts) (λ _. give (marked u.number)))
unfolding known found require
marked-same names l p ts = go (find l names 0 p) refl
  where
    by : (u : Used) (b : Bool) → u.place ≡ p → follow (follow (follow (require b Misplaced u.place ts) (λ _. give u)) (λ u. give u.number)) (λ i. give (marked i))
        ≡ follow (require b Misplaced p ts) (λ _. give (marked u.number))
    by u true e = refl
    by u false e = ap (refused Misplaced) e

    go : (o : Option Used) → find l names 0 p ≡ o
        → follow (follow (follow (found o p ts) (λ u ts. follow (require (is_index u.sort) Misplaced u.place ts) (λ _. give u))) (λ u. give u.number)) (λ i. give (marked i))
        ≡ follow (found o p ts) (λ u ts. follow (require (is_index u.sort) Misplaced p ts) (λ _. give (marked u.number)))
    go None e = refl
    go (Some u) e = by u (is_index u.sort) (found-place l names 0 p u e)

module _ (names : List Name) (s : List ℕ) (p x : ℕ) (ts : List Token) where
  no-entry : (k : ℕ) → (k ≡ 1 → ⊥) → (k ≡ 2 → ⊥) → (k ≡ 5 → ⊥) → (k ≡ 43 → ⊥) → (k ≡ 45 → ⊥) → entry_by names p (kind_of s k p x) ts ≡ refused Misplaced p
  unfolding entry_by kind_of
  no-entry zero a b c d e = refl
  no-entry (suc zero) a b c d e = absurd (a refl)
  no-entry (suc (suc zero)) a b c d e = absurd (b refl)
  no-entry (suc (suc (suc zero))) a b c d e = refl
  no-entry (suc (suc (suc (suc zero)))) a b c d e = refl
  no-entry (suc (suc (suc (suc (suc zero))))) a b c d e = absurd (c refl)
  no-entry (suc (suc (suc (suc (suc (suc k)))))) a b c d e = rw (ne_eqb (suc (suc (suc (suc (suc (suc k)))))) 43 d, ne_eqb (suc (suc (suc (suc (suc (suc k)))))) 45 e) refl

module _ (s ns ts : List ℕ) (at : ℕ) (t : Result Seen Refused) (h : Looks ts at t) where
  pub entry-wrong : (e : Refused) → t ≡ Err e → Answers entered read_entry s ns ts at (Err e)
  unfolding read_entry
  entry-wrong z e = record { is = λ names d. rw (wrong ts at t h s z e) refl }

  pub entry-mark : (w : Seen) (r : Result (Entry × ℕ) Refused) → t ≡ Ok w → w.kind ≡ 1 → Answers entered mark_in s ns ts at r → Answers entered read_entry s ns ts at r
  unfolding read_entry mark_in index_in read_index read_known demand name_of token kind_of entry_by
  entry-mark z r e i g =
      record {
        is = λ names d.
            rw (taken ts at t h s z e, i)
            (sym (marked-same names (spelling s z.place (name_bytes z.payload)) z.place (from s ts z.next)) ∙ (rw (taken ts at t h s z e, i) at (g.is names d)));
      }

  pub entry_whole : (w : Seen) (z : ℤ) → t ≡ Ok w → w.kind ≡ 2 → z ≡ with_minus false (pos (w.payload / 8)) → mag z < 2 ^ 63
      → Answers entered read_entry s ns ts at (Ok ((Fixed (to_z w64 (of_z w64 z))), w.next))
  unfolding read_entry token kind_of entry_by
  entry_whole w z e i j b = record { is = λ names d. rw (taken ts at t h s w e, i) (rw (back {z = z} b, j) refl) }

  pub entry-plus : (w : Seen) (r : Result (Entry × ℕ) Refused) → t ≡ Ok w → w.kind ≡ 43 → Says entered (signed_entry false) ts w.next r → Answers entered read_entry s ns ts at r
  unfolding read_entry token kind_of entry_by
  entry-plus z r e i g = record { is = λ names d. rw (taken ts at t h s z e, i) (g.is s) }

  pub entry-minus : (w : Seen) (r : Result (Entry × ℕ) Refused) → t ≡ Ok w → w.kind ≡ 45 → Says entered (signed_entry true) ts w.next r → Answers entered read_entry s ns ts at r
  unfolding read_entry token kind_of entry_by
  entry-minus z r e i g = record { is = λ names d. rw (taken ts at t h s z e, i) (g.is s) }

  pub entry_other : (w : Seen) → t ≡ Ok w → (w.kind ≡ 1 → ⊥) → (w.kind ≡ 2 → ⊥) → (w.kind ≡ 43 → ⊥) → (w.kind ≡ 45 → ⊥) → Answers entered read_entry s ns ts at (Err (record { refusal = Misplaced; place = w.place }))
  unfolding read_entry token
  entry_other z e b c d f =
      record { is = λ names n. rw (taken ts at t h s z e) (no-entry names s z.place z.payload (from s ts z.next) z.kind b c (sees ts at t h s _ e).0 d f) }
