-- Laws over plain variables for the loops.
use Rattle.std.specs.Prelude.{Err, Ok, Result}
use Rattle.rules.specs.declared.Refused.{Refused}
use mathlib.Core.Path.{◌≡◌, refl, sym, ◌∙◌, subst}
use mathlib.Core.Bool.{Bool, true, false, ◌||◌}
use mathlib.Core.List.{List}
use Prim.Native.Nat.{ℕ, zero, suc, ◌+◌, ◌-◌, ◌<◌, ◌≤◌}
use native.Mathlib.Omega.{arith}
use lib.Dec.{eqb}
use borrow.Author.Tests.{eq-eqb, ne_eqb}
use Rattle.rules.specs.Limits.{token_limit}
use Rattle.lexer.specs.Text.{Token}
use Rattle.lexer.specs.Marks.{comma, opens_list, closes_list, minus_sign, times_sign}
use Rattle.language.specs.Syntax.{Name, Formula, Formulas, Spans, point, span, more, times, plus}
use Rattle.language.specs.Syntax
use Rattle.language.specs.Reader.{Reader, follow, ◌>>=◌, give, next, is_mark, expect, bracket}
use Rattle.language.specs.Formulas.{is_sum, negated, factors, summands, part_of, subscripts_of, formulas_of, inside_at}
use Rattle.tokens.specs.declared.Seen.{Seen}
use Rattle.tokens.specs.Stored.{token, from, Sees, Looks, size, Named, Matches, Moves}
use Rattle.tokens.specs.Pieces.{expect_in, bracket_in}
use Rattle.tokens.proofs.Tables.{mark-own, mark-of, mark-same}
use Rattle.tokens.proofs.Moved.{stops, goes, then_at, given, look_is, look-wrong, expect-yes, is_sum_lem, next-read}
use Rattle.formulas.specs.Cycle.{primary_in, term_in, part_in, Factors, Summands, Subscripts, Entries}
use Rattle.formulas.proofs.Laws.{inner, primaries, terms}

-- ---- factors and summands: what is read from here on is what is read from the start

pub record FactorsOn (s ns ts : List ℕ) (n at i a : ℕ) : Type 0 where
  pub on : (z : Result ℕ Refused) → Factors s ns ts n (4096 - i) a z → Factors s ns ts n token_limit at z

pub record SummandsOn (s ns ts : List ℕ) (n at i a : ℕ) : Type 0 where
  pub on : (z : Result ℕ Refused) → Summands s ns ts n (4096 - i) a z → Summands s ns ts n token_limit at z

-- a primary behind `*`, and more of them
factor_rest : ℕ → ℕ → Formula → ℕ → List Name → Formula → Reader Formula
factor_rest n k f p names g = factors (primaries n names) k (times f g p)

factor_turn : ℕ → ℕ → Formula → List Name → Bool → Reader Formula
factor_turn n k f names b = elim b as (λ _. Reader Formula) [
  | true ↦ expect times_sign >>= (λ p. primaries n names >>= factor_rest n k f p names)
  | false ↦ give f
]

summand_rest : ℕ → ℕ → Formula → Token → List Name → Formula → Reader Formula
summand_rest n k f t names g = summands (terms n names) k (plus f (negated (is_mark minus_sign t) g) t.place)

summand_turn : ℕ → ℕ → Formula → Token → List Name → Bool → Reader Formula
summand_turn n k f t names b = elim b as (λ _. Reader Formula) [
  | true ↦ next >>= (λ _. terms n names >>= summand_rest n k f t names)
  | false ↦ give f
]

module _ (s ns ts : List ℕ) (n at : ℕ) where
  pub factors-start : FactorsOn s ns ts n at 0 at
  unfolding token_limit
  factors-start = record { on = λ z h. h }

  pub factors-none : (i a : ℕ) → FactorsOn s ns ts n at i a → 4096 ≤ i → Factors s ns ts n token_limit at (Ok a)
  unfolding factors
  factors-none j a o h = o.on (Ok a) (go (4096 - j) (omega (arith, h)))
    where
      go : (k : ℕ) → k ≡ 0 → Factors s ns ts n k a (Ok a)
      go zero e = record { moves = λ f. record { matches = λ names d. refl } }
      go (suc k) e = absurd (omega arith)

  module _ (j a : ℕ) (t : Result Seen Refused) (o : FactorsOn s ns ts n at j a) (m : j < 4096) (h : Looks ts a t) where
    factors-wrong-at : (k : ℕ) → 0 < k → (e : Refused) → t ≡ Err e → Factors s ns ts n k a (Err e)
    unfolding factors factor_turn factor_rest
    factors-wrong-at zero m z e = absurd (omega arith)
    factors-wrong-at (suc k) m z e = record { moves = λ f. record { matches = (look-wrong (λ names t. factor_turn n k f names (is_mark times_sign t)) s ns ts a z t h e).matches } }

    pub factors-wrong : (e : Refused) → t ≡ Err e → Factors s ns ts n token_limit at (Err e)
    factors-wrong z e = o.on (Err z) (factors-wrong-at (4096 - j) (omega (arith, m)) z e)

    is-times : (x y p : ℕ) → is_mark times_sign (token s x p y) ≡ eqb x 42
    unfolding token
    is-times x y p = rw (mark-of s x p y) (mark-same x 42 (omega arith))

    factors-by : (k : ℕ) → 0 < k → (w : Seen) (v : Bool) (r : Result ℕ Refused) → t ≡ Ok w → eqb w.kind 42 ≡ v
        → ((f : Formula) (names : List Name) → Named s ns names → Matches (factor_turn n (k - 1) f names v (from s ts a)) s ts r) → Factors s ns ts n k a r
    unfolding factors factor_turn factor_rest
    factors-by zero m z v r e i g = absurd (omega arith)
    factors-by (suc k) m z v r e i g =
        let c : suc k - 1 ≡ k = omega arith in
        record {
          moves = λ f. record {
            matches = λ names d.
                subst (λ o. Matches (follow o (λ t. factor_turn n k f names (is_mark times_sign t))) s ts r) (sym (look_is s ts a z (subst (Sees s ts a) e (h.sees s))))
                (subst (λ v. Matches (factor_turn n k f names v (from s ts a)) s ts r) (sym (is-times z.kind z.payload z.place ∙ i)) (subst (λ k. Matches (factor_turn n k f names v (from s ts a)) s ts r) c (g f names d)));
          };
        }

    pub factors-end : (w : Seen) → t ≡ Ok w → (w.kind ≡ 42 → ⊥) → Factors s ns ts n token_limit at (Ok a)
    unfolding factor_turn
    factors-end z e i = o.on (Ok a) (factors-by (4096 - j) (omega (arith, m)) z false (Ok a) e (ne_eqb z.kind 42 i) (λ f names d. refl))

    -- `*` and what stands behind it
    sign_read : (w : Seen) → t ≡ Ok w → w.kind ≡ 42 → Moves (λ names. expect times_sign) s ns ts a (Ok w.next)
    unfolding expect_in
    sign_read z e i = record { matches = (expect-yes s ns ts a 42 t h z z.kind e (mark-own z.kind (omega (arith, i))) i).matches }

    pub factors-refused : (w : Seen) (e : Refused) (r : Result ℕ Refused) → t ≡ Ok w → w.kind ≡ 42 → Moves (primary_in n) s ns ts w.next r → r ≡ Err e → Factors s ns ts n token_limit at r
    unfolding factor_turn primary_in
    factors-refused y z r e i g l =
        o.on r
        (factors-by (4096 - j) (omega (arith, m)) y true r e (eq-eqb y.kind 42 i)
        (λ f names d. (then_at (λ names. expect times_sign) (λ names p. primaries n names >>= factor_rest n (4096 - j - 1) f p names) s ns ts a y.next r (sign_read y e i)
        (λ p. stops (primaries n) (factor_rest n (4096 - j - 1) f p) s ns ts y.next r (record { matches = g.matches }) z l)).matches names d))

    pub factors-on : (w : Seen) (c : ℕ) (r : Result ℕ Refused) → t ≡ Ok w → w.kind ≡ 42 → Moves (primary_in n) s ns ts w.next r → r ≡ Ok c → FactorsOn s ns ts n at (j + 1) c
    unfolding factor_turn primary_in factor_rest
    factors-on y c r e i g l =
        record {
          on = λ z u.
              o.on z
              (factors-by (4096 - j) (omega (arith, m)) y true z e (eq-eqb y.kind 42 i)
              (λ f names d. (then_at (λ names. expect times_sign) (λ names p. primaries n names >>= factor_rest n (4096 - j - 1) f p names) s ns ts a y.next z (sign_read y e i)
              (λ p. goes (primaries n) (factor_rest n (4096 - j - 1) f p) s ns ts y.next r (record { matches = g.matches }) c z l (λ v. record { matches = ((rest z u).moves (times f v p)).matches }))).matches names d));
        }
      where
        rest : (z : Result ℕ Refused) → Factors s ns ts n (4096 - (j + 1)) c z → Factors s ns ts n (4096 - j - 1) c z
        rest z u = let q : 4096 - (j + 1) ≡ 4096 - j - 1 = omega arith in subst (λ k. Factors s ns ts n k c z) q u

  -- ---- summands

  pub summands-start : SummandsOn s ns ts n at 0 at
  unfolding token_limit
  summands-start = record { on = λ z h. h }

  pub summands-none : (i a : ℕ) → SummandsOn s ns ts n at i a → 4096 ≤ i → Summands s ns ts n token_limit at (Ok a)
  unfolding summands
  summands-none j a o h = o.on (Ok a) (go (4096 - j) (omega (arith, h)))
    where
      go : (k : ℕ) → k ≡ 0 → Summands s ns ts n k a (Ok a)
      go zero e = record { moves = λ f. record { matches = λ names d. refl } }
      go (suc k) e = absurd (omega arith)

  module _ (j a : ℕ) (t : Result Seen Refused) (o : SummandsOn s ns ts n at j a) (m : j < 4096) (h : Looks ts a t) where
    summands-wrong-at : (k : ℕ) → 0 < k → (e : Refused) → t ≡ Err e → Summands s ns ts n k a (Err e)
    unfolding summands summand_turn summand_rest
    summands-wrong-at zero m z e = absurd (omega arith)
    summands-wrong-at (suc k) m z e = record { moves = λ f. record { matches = (look-wrong (λ names t. summand_turn n k f t names (is_sum t)) s ns ts a z t h e).matches } }

    pub summands-wrong : (e : Refused) → t ≡ Err e → Summands s ns ts n token_limit at (Err e)
    summands-wrong z e = o.on (Err z) (summands-wrong-at (4096 - j) (omega (arith, m)) z e)

    summands-by : (k : ℕ) → 0 < k → (w : Seen) (v : Bool) (r : Result ℕ Refused) → t ≡ Ok w → (eqb w.kind 43 || eqb w.kind 45) ≡ v
        → ((f : Formula) (names : List Name) → Named s ns names → Matches (summand_turn n (k - 1) f (token s w.kind w.place w.payload) names v (from s ts a)) s ts r) → Summands s ns ts n k a r
    unfolding summands summand_turn summand_rest
    summands-by zero m z v r e i g = absurd (omega arith)
    summands-by (suc k) m z v r e i g =
        let c : suc k - 1 ≡ k = omega arith in
        record {
          moves = λ f. record {
            matches = λ names d.
                subst (λ o. Matches (follow o (λ t. summand_turn n k f t names (is_sum t))) s ts r) (sym (look_is s ts a z (subst (Sees s ts a) e (h.sees s))))
                (subst (λ v. Matches (summand_turn n k f (token s z.kind z.place z.payload) names v (from s ts a)) s ts r) (sym (is_sum_lem s ns ts a t h z.kind z.place z.payload ∙ i))
                (subst (λ k. Matches (summand_turn n k f (token s z.kind z.place z.payload) names v (from s ts a)) s ts r) c (g f names d)));
          };
        }

    pub summands-end : (w : Seen) → t ≡ Ok w → (eqb w.kind 43 || eqb w.kind 45) ≡ false → Summands s ns ts n token_limit at (Ok a)
    unfolding summand_turn
    summands-end z e i = o.on (Ok a) (summands-by (4096 - j) (omega (arith, m)) z false (Ok a) e i (λ f names d. refl))

    pub summands-refused : (w : Seen) (e : Refused) (r : Result ℕ Refused) → t ≡ Ok w → (eqb w.kind 43 || eqb w.kind 45) ≡ true → Moves (term_in n) s ns ts w.next r → r ≡ Err e → Summands s ns ts n token_limit at r
    unfolding summand_turn term_in
    summands-refused y z r e i g l =
        o.on r
        (summands-by (4096 - j) (omega (arith, m)) y true r e i
        (λ f names d. (then_at (λ names. next) (λ names _. terms n names >>= summand_rest n (4096 - j - 1) f (token s y.kind y.place y.payload) names) s ns ts a y.next r (next-read s ns ts a t h y e)
        (λ w. stops (terms n) (summand_rest n (4096 - j - 1) f (token s y.kind y.place y.payload)) s ns ts y.next r (record { matches = g.matches }) z l)).matches names d))

    pub summands-on : (w : Seen) (c : ℕ) (r : Result ℕ Refused) → t ≡ Ok w → (eqb w.kind 43 || eqb w.kind 45) ≡ true → Moves (term_in n) s ns ts w.next r → r ≡ Ok c → SummandsOn s ns ts n at (j + 1) c
    unfolding summand_turn term_in summand_rest
    summands-on y c r e i g l =
        record {
          on = λ z u.
              o.on z
              (summands-by (4096 - j) (omega (arith, m)) y true z e i
              (λ f names d. (then_at (λ names. next) (λ names _. terms n names >>= summand_rest n (4096 - j - 1) f (token s y.kind y.place y.payload) names) s ns ts a y.next z (next-read s ns ts a t h y e)
              (λ w. goes (terms n) (summand_rest n (4096 - j - 1) f (token s y.kind y.place y.payload)) s ns ts y.next r (record { matches = g.matches }) c z l
              (λ v. record { matches = ((rest z u).moves (plus f (negated (is_mark minus_sign (token s y.kind y.place y.payload)) v) (token s y.kind y.place y.payload).place)).matches }))).matches names d));
        }
      where
        rest : (z : Result ℕ Refused) → Summands s ns ts n (4096 - (j + 1)) c z → Summands s ns ts n (4096 - j - 1) c z
        rest z u = let q : 4096 - (j + 1) ≡ 4096 - j - 1 = omega arith in subst (λ k. Summands s ns ts n k c z) q u

-- ---- subscripts

-- `i` is the number of the next entry, from 1 on
pub record EntriesOn (s ns ts : List ℕ) (n count at i a : ℕ) : Type 0 where
  pub on : (z : Result ℕ Refused) → Entries s ns ts n (count - i + 1) a z → Subscripts s ns ts n count at z

entries_rest : ℕ → Spans → List Name → Formula → Reader Formulas
entries_rest n d names f = formulas_of (inner n names) d >>= (λ fs. give (more f fs))

module _ (s ns ts : List ℕ) (n count at : ℕ) where
  pub subscripts-none : count ≡ 0 → Subscripts s ns ts n count at (Ok at)
  unfolding subscripts_of size
  subscripts-none e = record { moves = go }
    where
      go : (d : Spans) → size d ≡ count → Moves (λ names. subscripts_of n (inside_at names n) d) s ns ts at (Ok at)
      go point i = record { matches = λ names y. refl }
      go (span i f g p d) j = absurd (omega (arith, j, e))

  pub subscripts-open : (e : Refused) (r : Result ℕ Refused) → (count ≡ 0 → ⊥) → Moves (bracket_in opens_list n) s ns ts at r → r ≡ Err e → Subscripts s ns ts n count at r
  unfolding subscripts_of size bracket_in
  subscripts-open w r z h e = record { moves = go }
    where
      go : (d : Spans) → size d ≡ count → Moves (λ names. subscripts_of n (inside_at names n) d) s ns ts at r
      go point i = absurd (z (sym i))
      go (span i f g q d) k = record { matches = (stops (λ names. bracket opens_list n) (λ names _. formulas_of (inner n names) (span i f g q d)) s ns ts at r (record { matches = h.matches }) w e).matches }

  pub entries-start : (a : ℕ) (r : Result ℕ Refused) → (count ≡ 0 → ⊥) → Moves (bracket_in opens_list n) s ns ts at r → r ≡ Ok a → EntriesOn s ns ts n count at 1 a
  unfolding subscripts_of size bracket_in
  entries-start a r z h e = record { on = λ q u. record { moves = go q (subst (λ k. Entries s ns ts n k a q) (omega (arith, z)) u) } }
    where
      go : (q : Result ℕ Refused) → Entries s ns ts n count a q → (d : Spans) → size d ≡ count → Moves (λ names. subscripts_of n (inside_at names n) d) s ns ts at q
      go q u point i = absurd (z (sym i))
      go q u (span i f g p d) k =
          record { matches = (goes (λ names. bracket opens_list n) (λ names _. formulas_of (inner n names) (span i f g p d)) s ns ts at r (record { matches = h.matches }) a q e (λ _. u.moves (span i f g p d) k)).matches }

  module _ (j a : ℕ) (o : EntriesOn s ns ts n count at j a) where
    pub entries-refused : (e : Refused) (r : Result ℕ Refused) → j < count → Moves (part_in n comma) s ns ts a r → r ≡ Err e → Subscripts s ns ts n count at r
    unfolding formulas_of size part_in entries_rest
    entries-refused z r m h e = o.on r (record { moves = go })
      where
        go : (d : Spans) → size d ≡ count - j + 1 → Moves (λ names. formulas_of (inside_at names n) d) s ns ts a r
        go point i = absurd (omega (arith, i, m))
        go (span i f g q point) y = absurd (omega (arith, y, m))
        go (span i f g q (span j' f' g' q' d)) y =
            record { matches = (stops (λ names. part_of (inner n names) comma) (entries_rest n (span j' f' g' q' d)) s ns ts a r (record { matches = h.matches }) z e).matches }

    pub entries-on : (b : ℕ) (r : Result ℕ Refused) → j < count → Moves (part_in n comma) s ns ts a r → r ≡ Ok b → EntriesOn s ns ts n count at (j + 1) b
    unfolding formulas_of size part_in entries_rest
    entries-on b r m h e = record { on = λ z u. o.on z (record { moves = go z u }) }
      where
        go : (z : Result ℕ Refused) → Entries s ns ts n (count - (j + 1) + 1) b z → (d : Spans) → size d ≡ count - j + 1 → Moves (λ names. formulas_of (inside_at names n) d) s ns ts a z
        go z u point i = absurd (omega (arith, i, m))
        go z u (span i f g q point) y = absurd (omega (arith, y, m))
        go z u (span i f g q (span j' f' g' q' d)) y =
            record {
              matches = (goes (λ names. part_of (inner n names) comma) (entries_rest n (span j' f' g' q' d)) s ns ts a r (record { matches = h.matches }) b z e
                  (λ w. given (λ names. formulas_of (inner n names) (span j' f' g' q' d)) (λ names fs. more w fs) s ns ts b z (u.moves (span j' f' g' q' d) (omega (arith, y, m))))).matches;
            }

    pub entries-last : (r : Result ℕ Refused) → count ≤ j → Moves (part_in n closes_list) s ns ts a r → Subscripts s ns ts n count at r
    unfolding formulas_of size part_in
    entries-last r m h = o.on r (record { moves = go })
      where
        go : (d : Spans) → size d ≡ count - j + 1 → Moves (λ names. formulas_of (inside_at names n) d) s ns ts a r
        go point i = absurd (omega (arith, i))
        go (span i f g q point) y = record { matches = (given (λ names. part_of (inner n names) closes_list) (λ names f. more f Syntax.none) s ns ts a r (record { matches = h.matches })).matches }
        go (span i f g q (span j' f' g' q' d)) y = absurd (omega (arith, y, m))
