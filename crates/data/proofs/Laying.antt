-- Laws of a domain laid out over plain variables.
use Rattle.std.specs.Prelude.{Err, None, Ok, Option, Result, Some}
use Rattle.rules.specs.declared.Refused.{Refused}
use mathlib.Core.Path.{◌≡◌, refl, sym, ◌∙◌, ap, subst}
use mathlib.Core.List.{List, [], ◌∷◌, ◌++◌}
use Prim.Native.Nat.{ℕ, zero, suc, ◌+◌, ◌*◌, ◌/◌, ◌<◌, ◌≤◌}
use native.Mathlib.Omega.{arith}
use lib.ListN.{length, take, get_or}
use Rattle.rules.specs.Limits.{nesting_limit}
use Rattle.lexer.specs.Marks.{at_most}
use Rattle.lexer.specs.Text.{Token}
use Rattle.language.proofs.Outcome.{refused-done}
use Rattle.language.specs.Syntax.{Name, Formula, Spans, point, span}
use Rattle.language.specs.Reader.{next}
use Rattle.language.specs.Formulas.{in_domain}
use Rattle.tokens.specs.declared.Seen.{Seen}
use Rattle.tokens.specs.Stored.{token, from, size, Sees, Looks, Named, Moves}
use Rattle.tokens.proofs.Moved.{next-is, stood, stuck}
use Rattle.formulas.specs.Cycle.{inside_in, part_in}
use Rattle.onepass.specs.Walk.{skip, name_number}
use Rattle.onepass.specs.Entries.{read, ReadsEntry, ReadsSpans}
use Rattle.onepass.proofs.Steps.{same-what, same_rest, skip-next, skip-expect}
use Rattle.evaluator.specs.Steps.Passing.{Skips}
use Rattle.evaluator.specs.Steps.Names.{index_number}
use Rattle.evaluator.proofs.steps.Numbers.{index_of}
use Rattle.data.specs.declared.reading.few.Few.{Few}
use Rattle.data.specs.Reading.Few.{Holds, Keeps, Adds}
use Rattle.data.proofs.reading.Lists.{holds-keeps, adds-keeps}
use Rattle.data.specs.declared.layouts.Layout.{Layout}
use Rattle.data.specs.Layouts.{Laid, LaidBy, Sight, SpanIs, Passes, LaysOut, Lays}

-- ---- one entry

-- what is passed over is what was read
skipped : (s ts : List ℕ) (a b : ℕ) (t : Token) (m : List Token) → Skips ts a b → next (from s ts a) ≡ read t m → from s ts b ≡ m
skipped s ts a b t m k e = same_rest (sym (k.is s) ∙ skip-next (from s ts a) t m e)

module _ (s ns ts : List ℕ) (level at : ℕ) (r : Result ℕ Refused) (h : Moves (part_in 12 at_most) s ns ts at r) where
  pub pass-lower : (e : Refused) → r ≡ Err e → Passes s ns ts level at None
  unfolding part_in nesting_limit
  pass-lower z e =
      record { is = λ names v i f g q m x. refused-done (sym (stuck (part_in 12 at_most) s ns ts at r h (take level names) v.visible z e) ∙ x.lower) }

  module _ (a : ℕ) (e : r ≡ Ok a) (t : Result Seen Refused) (l : Looks ts a t) where
    -- the index stands there
    index_at : (names : List Name) → Sight s ns ts level names → (i : ℕ) (f g : Formula) (q : ℕ) (m : List Token) (x : ReadsEntry (take level names) i f g q (from s ts at) m) → from s ts a ≡ x.at_index
    unfolding part_in nesting_limit
    index_at names v i f g q m x = same_rest (sym (stood (part_in 12 at_most) s ns ts at r h (take level names) v.visible a e).reads ∙ x.lower)

    pub pass-token : (e : Refused) → t ≡ Err e → Passes s ns ts level at None
    pass-token z d =
        record {
          is = λ names v i f g q m x.
              refused-done (sym (subst (Sees s ts a) d (l.sees s)).nexts ∙ ap next (index_at names v i f g q m x) ∙ x.named);
        }

    module _ (y : Seen) (d : t ≡ Ok y) (c : ℕ) (j : Skips ts y.next c) where
      here : Sees s ts a (Ok y)
      here = subst (Sees s ts a) d (l.sees s)

      module _ (names : List Name) (v : Sight s ns ts level names) (i : ℕ) (f g : Formula) (q : ℕ) (m : List Token) (x : ReadsEntry (take level names) i f g q (from s ts at) m) where
        token-read : read (token s y.kind y.place y.payload) (from s ts y.next) ≡ read x.index x.at_sign
        token-read = sym (next-is s ts a y here) ∙ ap next (index_at names v i f g q m x) ∙ x.named

        upper-at : from s ts c ≡ x.at_upper
        upper-at = same_rest (sym (j.is s) ∙ ap skip (same_rest token-read) ∙ skip-expect at_most x.at_sign x.sign_place x.at_upper x.sign)

        number_read : index_number level (get_or ts a 0) ≡ i
        number_read = sym (v.number a y here) ∙ ap (λ (t : Token). name_number (take level names) t.kind) (same-what token-read) ∙ x.number

      module _ (z : Result ℕ Refused) (w : Moves (inside_in 12) s ns ts c z) where
        pub pass-upper : (e : Refused) → z ≡ Err e → Passes s ns ts level at None
        unfolding inside_in nesting_limit
        pass-upper y u =
            record {
              is = λ names v i f g q m x.
                  refused-done (sym (stuck (inside_in 12) s ns ts c z w (take level names) v.visible y u) ∙ ap (in_domain (take level names)) (upper-at names v i f g q m x) ∙ x.upper);
            }

        pub pass_all : (i o b' : ℕ) → i ≡ index_number level (get_or ts a 0) → z ≡ Ok o → Skips ts o b' → Passes s ns ts level at (Some (i, b'))
        unfolding inside_in nesting_limit
        pass_all i o b' n u p =
            record {
              is = λ names v i' f g q m x.
                  let end : from s ts o ≡ x.at_end = same_rest (sym (stood (inside_in 12) s ns ts c z w (take level names) v.visible o u).reads ∙ ap (in_domain (take level names)) (upper-at names v i' f g q m x) ∙ x.upper) in
                  (n ∙ number_read names v i' f g q m x, skipped s ts o b' x.last m p (ap next end ∙ x.ended));
            }

-- ---- all entries

-- one domain behind another
pub behind : Spans → Spans → Spans
behind point e = e
behind (span i f g q d) e = span i f g q (behind d e)

behind-point : (d e : Spans) → size e ≤ 0 → behind d e ≡ d
unfolding behind size
behind-point point point h = refl
behind-point point (span i f g q e) h = absurd (omega arith)
behind-point (span i f g q d) e h = ap (span i f g q) (behind-point d e h)

behind-behind : (d e c : Spans) → behind (behind d e) c ≡ behind d (behind e c)
unfolding behind
behind-behind point e c = refl
behind-behind (span i f g q d) e c = ap (span i f g q) (behind-behind d e c)

pub laid-places : (names : List Name) (s ts : List ℕ) (d : Spans) (l k : List ℕ) → Laid names s ts d l k → length l ≡ size d
unfolding size
laid-places names s ts point [] [] h = refl
laid-places names s ts point [] (i ∷ k) h = absurd h
laid-places names s ts point (a ∷ l) k h = absurd h
laid-places names s ts (span j f g q d) [] k h = absurd h
laid-places names s ts (span j f g q d) (a ∷ l) [] h = absurd h
laid-places names s ts (span j f g q d) (a ∷ l) (i ∷ k) (o, x, y, h) = ap suc (laid-places names s ts d l k h)

pub laid-numbers : (names : List Name) (s ts : List ℕ) (d : Spans) (l k : List ℕ) → Laid names s ts d l k → length k ≡ size d
unfolding size
laid-numbers names s ts point [] [] h = refl
laid-numbers names s ts point [] (i ∷ k) h = absurd h
laid-numbers names s ts point (a ∷ l) k h = absurd h
laid-numbers names s ts (span j f g q d) [] k h = absurd h
laid-numbers names s ts (span j f g q d) (a ∷ l) [] h = absurd h
laid-numbers names s ts (span j f g q d) (a ∷ l) (i ∷ k) (o, x, y, h) = ap suc (laid-numbers names s ts d l k h)

-- entries behind entries
laid_more : (names : List Name) (s ts : List ℕ) (d e : Spans) (l k m n : List ℕ) → Laid names s ts d l k → Laid names s ts e m n → Laid names s ts (behind d e) (l ++ m) (k ++ n)
unfolding behind
laid_more names s ts point e [] [] m n h g = g
laid_more names s ts point e [] (i ∷ k) m n h g = absurd h
laid_more names s ts point e (a ∷ l) k m n h g = absurd h
laid_more names s ts (span j f g q d) e [] k m n h w = absurd h
laid_more names s ts (span j f g q d) e (a ∷ l) [] m n h w = absurd h
laid_more names s ts (span j f g q d) e (a ∷ l) (i ∷ k) m n (o, x, y, h) w = (o, x, y, laid_more names s ts d e l k m n h w)

-- the k entries so far, and those that are left
pub record LaidSo (names : List Name) (s ts : List ℕ) (d : Spans) (starts indices : Few) (a k : ℕ) : Type 0 where
  pub before : Spans
  pub after : Spans
  pub rest : List Token
  pub all : behind before after ≡ d
  pub count : k + size after ≡ size d
  pub reads : ReadsSpans names after (from s ts a) rest
  pub places : List ℕ
  pub numbers : List ℕ
  pub laid : Laid names s ts before places numbers
  pub places-kept : Keeps starts places
  pub numbers-kept : Keeps indices numbers

pub record LaidOn (s ns ts : List ℕ) (level at n : ℕ) (starts indices : Few) (a k : ℕ) : Type 0 where
  pub on : (names : List Name) → Sight s ns ts level names → (d : Spans) (rest : List Token) → ReadsSpans (take level names) d (from s ts at) rest → size d ≡ n → n ≤ 4
      → LaidSo (take level names) s ts d starts indices a k

module _ (s ns ts : List ℕ) (level at n : ℕ) where
  pub laid-start : (starts indices : Few) → Holds starts [] → Holds indices [] → LaidOn s ns ts level at n starts indices at 0
  unfolding behind
  laid-start starts indices k l =
      record {
        on = λ names v d rest r e f.
            record { before = point; after = d; rest = rest; all = refl; count = omega arith; reads = r; places = []; numbers = []; laid = tt; places-kept = holds-keeps starts [] k; numbers-kept = holds-keeps indices [] l };
      }

  module _ (starts indices : Few) (a k : ℕ) (o : LaidOn s ns ts level at n starts indices a k) where
    pub laid_end : n ≤ k → LaysOut s ns ts level at n (record { starts = starts; indices = indices })
    unfolding size
    laid_end h = record { is = λ names v d rest r e f. go names v d e f (o.on names v d rest r e f) }
      where
        go : (names : List Name) → Sight s ns ts level names → (d : Spans) → size d ≡ n → n ≤ 4 → LaidSo (take level names) s ts d starts indices a k
            → LaidBy (take level names) s ts d (record { starts = starts; indices = indices })
        go names v d e f x =
            let same : x.before ≡ d = sym (behind-point x.before x.after (omega (arith, x.count))) ∙ x.all in
            let few : size x.before ≤ 4 = subst (λ d. size d ≤ 4) (sym same) (rw e f) in
            let few-places : length x.places ≤ 4 = rw (laid-places (take level names) s ts x.before x.places x.numbers x.laid) few in
            let few-numbers : length x.numbers ≤ 4 = rw (laid-numbers (take level names) s ts x.before x.places x.numbers x.laid) few in
            rw ((x.places-kept.all few-places).1, (x.numbers-kept.all few-numbers).1) (subst (λ d. Laid (take level names) s ts d x.places x.numbers) same x.laid)

    module _ (r : Option (ℕ × ℕ)) (h : k < n) (p : Passes s ns ts level a r) where
      pub laid-stuck : (z : Layout) → r ≡ None → LaysOut s ns ts level at n z
      unfolding size
      laid-stuck z q = record { is = λ names v d rest r e f. absurd (go names v e (o.on names v d rest r e f)) }
        where
          go : (names : List Name) → Sight s ns ts level names → {d : Spans} → size d ≡ n → LaidSo (take level names) s ts d starts indices a k → ⊥
          go names v {d} e x = by x.after x.count x.rest x.reads
            where
              by : (d' : Spans) → k + size d' ≡ size d → (rest : List Token) → ReadsSpans (take level names) d' (from s ts a) rest → ⊥
              by point c rest w = absurd (omega arith)
              by (span i f g z d) c rest (m, w, more) = subst (λ r. SpanIs s ts r i m) q (p.is names v i f g z m w)

      pub laid_on : (i b : ℕ) (starts' indices' : Few) → r ≡ Some (i, b) → Adds starts a starts' → Adds indices i indices' → LaidOn s ns ts level at n starts' indices' b (k + 1)
      unfolding size behind
      laid_on i b starts' indices' q u l = record { on = λ names v d rest r e f. go names v e (o.on names v d rest r e f) }
        where
          go : (names : List Name) → Sight s ns ts level names → {d : Spans} → size d ≡ n → LaidSo (take level names) s ts d starts indices a k → LaidSo (take level names) s ts d starts' indices' b (k + 1)
          go names v {d} g x = by x.after x.count x.all x.rest x.reads
            where
              by : (after : Spans) → k + size after ≡ size d → behind x.before after ≡ d → (rest : List Token) → ReadsSpans (take level names) after (from s ts a) rest
                  → LaidSo (take level names) s ts d starts' indices' b (k + 1)
              by point c w rest y = absurd (omega arith)
              by (span j f g z e) c w rest (m, y, more) =
                  let (same, there) = subst (λ r. SpanIs s ts r j m) q (p.is names v j f g z m y) in
                  record {
                    before = behind x.before (span j f g z point);
                    after = e;
                    rest = rest;
                    all = behind-behind x.before (span j f g z point) e ∙ w;
                    count = omega arith;
                    reads = subst (λ t. ReadsSpans (take level names) e t rest) (sym there) more;
                    places = x.places ++ (a ∷ []);
                    numbers = x.numbers ++ (i ∷ []);
                    laid = laid_more (take level names) s ts x.before (span j f g z point) x.places x.numbers (a ∷ []) (i ∷ []) x.laid
                        (m, subst (λ i. ReadsEntry (take level names) i f g z (from s ts a) m) (sym same) y, sym same, tt);
                    places-kept = adds-keeps starts a starts' u x.places x.places-kept;
                    numbers-kept = adds-keeps indices i indices' l x.numbers x.numbers-kept;
                  }

-- ---- with all names

-- the rows of the first names
named-take : (s ns : List ℕ) (names : List Name) (k : ℕ) → Named s ns names → Named s (take (k * 5) ns) (take k names)
named-take s ns names zero h = tt
named-take s [] [] (suc k) h = let e : suc k * 5 ≡ suc (k * 5 + 4) = omega arith in rw e tt
named-take s [] (y ∷ ys) (suc k) h = absurd h
named-take s (p ∷ []) ys (suc k) h = absurd h
named-take s (p ∷ n ∷ []) ys (suc k) h = absurd h
named-take s (p ∷ n ∷ x ∷ []) ys (suc k) h = absurd h
named-take s (p ∷ n ∷ x ∷ c ∷ []) ys (suc k) h = absurd h
named-take s (p ∷ n ∷ x ∷ c ∷ q ∷ ns) [] (suc k) h = absurd h
named-take s (p ∷ n ∷ x ∷ c ∷ q ∷ ns) (y ∷ ys) (suc k) h =
    let e : suc k * 5 ≡ suc (suc (suc (suc (suc (k * 5))))) = omega arith in
    rw e (h.0, h.1, named-take s ns ys k h.2)

pub named-rows : (s ns : List ℕ) (names : List Name) → Named s ns names → length names ≡ length ns / 5
named-rows s [] [] h = omega arith
named-rows s [] (y ∷ ys) h = absurd h
named-rows s (p ∷ []) ys h = absurd h
named-rows s (p ∷ n ∷ []) ys h = absurd h
named-rows s (p ∷ n ∷ x ∷ []) ys h = absurd h
named-rows s (p ∷ n ∷ x ∷ c ∷ []) ys h = absurd h
named-rows s (p ∷ n ∷ x ∷ c ∷ q ∷ ns) [] h = absurd h
named-rows s (p ∷ n ∷ x ∷ c ∷ q ∷ ns) (y ∷ ys) h = omega (arith, named-rows s ns ys h.2)

module _ (s ns ts : List ℕ) (level at n : ℕ) (r : Layout) where
  pub lays-not : length ns / 5 < level → Lays s ns ts level at n r
  lays-not h = record { is = λ g l d rest x e f. absurd (omega (arith, named-rows s ns g.names g.named)) }

  pub lays-visible : LaysOut s (take (level * 5) ns) ts level at n r → Lays s ns ts level at n r
  lays-visible h =
      record {
        is = λ g l d rest x e f.
            h.is g.names
            (record { visible = named-take s ns g.names level g.named; number = λ at w y. index_of s ns ts g.names g.named g.resolved level at w y })
            d rest x e f;
      }
