-- Laws over plain variables that answer the code's needs.
use Rattle.std.specs.Prelude.{Err, Ok, Result}
use Rattle.rules.specs.declared.Refused.{Refused}
use mathlib.Core.Path.{◌≡◌, refl, sym, ◌∙◌, subst}
use mathlib.Core.Bool.{Bool, true, false}
use mathlib.Core.List.{List}
use Prim.Native.Nat.{ℕ, zero, suc, ◌-◌}
use native.Mathlib.Omega.{arith}
use lib.Dec.{eqb}
use borrow.Author.Tests.{eq-eqb, ne_eqb}
use Rattle.rules.specs.Limits.{nesting_limit, index_limit}
use Rattle.lexer.specs.Marks.{opens, closes, comma, at_most}
use Rattle.language.specs.Syntax.{Name, Formula, Spans, point}
use Rattle.language.specs.Reader.{Reader, follow, ◌>>=◌, give, Used, next, look, is_mark, expect, bracket, read_index}
use Rattle.language.specs.Formulas.{Entry, entry_of, entries_of, span_of, part_of, in_domain, domain_of, optional_domain}
use Rattle.tokens.specs.declared.Seen.{Seen}
use Rattle.tokens.specs.Stored.{from, Sees, Looks, Named, Matches, Moves}
use Rattle.tokens.specs.Pieces.{expect_in, bracket_in, index_in}
use Rattle.tokens.proofs.Moved.{stops, goes, then_at, given, look_is, look-wrong, is-mark, next-read}
use Rattle.formulas.specs.Cycle.{inside_in, part_in}
use Rattle.domains.specs.Domains.{entry_with, entries_in, domain_in, optional_in}

abbrev inner : List Name → Reader Formula
inner names = in_domain names

abbrev lower : List Name → Reader Formula
lower names = part_of (inner names) at_most

-- ---- one entry, its index read by I

module _ (I : List Name → Reader Used) (s ns ts : List ℕ) where
  upper_rest : Formula → Used → List Name → ℕ → Reader Entry
  upper_rest f i names _ = inner names >>= (λ g. give (record { number = i.number; lower = f; upper = g; place = i.place }))

  sign_rest : Formula → List Name → Used → Reader Entry
  sign_rest f names i = expect at_most >>= upper_rest f i names

  index_rest : List Name → Formula → Reader Entry
  index_rest names f = I names >>= sign_rest f names

  module _ (at : ℕ) (r : Result ℕ Refused) (h : Moves (part_in 12 at_most) s ns ts at r) where
    pub entry-lower : (e : Refused) → r ≡ Err e → Moves (entry_with I) s ns ts at r
    unfolding entry_with entry_of part_in index_rest sign_rest upper_rest nesting_limit
    entry-lower z e = record { matches = (stops lower index_rest s ns ts at r (record { matches = h.matches }) z e).matches }

    pub entry-index : (a : ℕ) (e : Refused) (q : Result ℕ Refused) → r ≡ Ok a → Moves I s ns ts a q → q ≡ Err e → Moves (entry_with I) s ns ts at q
    unfolding entry_with entry_of part_in index_rest sign_rest upper_rest nesting_limit
    entry-index a z q e g y =
        record {
          matches = (goes lower index_rest s ns ts at r (record { matches = h.matches }) a q e (λ f. stops I (sign_rest f) s ns ts a q g z y)).matches;
        }

    pub entry-sign : (a b : ℕ) (e : Refused) (q z : Result ℕ Refused) → r ≡ Ok a → Moves I s ns ts a q → q ≡ Ok b → Moves (expect_in at_most) s ns ts b z → z ≡ Err e → Moves (entry_with I) s ns ts at z
    unfolding entry_with entry_of part_in index_rest sign_rest upper_rest expect_in nesting_limit
    entry-sign a b w q z e g y k l =
        record {
          matches = (goes lower index_rest s ns ts at r (record { matches = h.matches }) a z e
              (λ f. goes I (sign_rest f) s ns ts a q g b z y
              (λ i. stops (λ names. expect at_most) (upper_rest f i) s ns ts b z (record { matches = k.matches }) w l))).matches;
        }

    pub entry-upper : (a b c : ℕ) (q z v : Result ℕ Refused) → r ≡ Ok a → Moves I s ns ts a q → q ≡ Ok b → Moves (expect_in at_most) s ns ts b z → z ≡ Ok c → Moves (inside_in 12) s ns ts c v
        → Moves (entry_with I) s ns ts at v
    unfolding entry_with entry_of part_in index_rest sign_rest upper_rest expect_in inside_in nesting_limit
    entry-upper a b c q z v e g y k l o =
        record {
          matches = (goes lower index_rest s ns ts at r (record { matches = h.matches }) a v e
              (λ f. goes I (sign_rest f) s ns ts a q g b v y
              (λ i. goes (λ names. expect at_most) (upper_rest f i) s ns ts b z (record { matches = k.matches }) c v l
              (λ _. given inner (λ names g. record { number = i.number; lower = f; upper = g; place = i.place }) s ns ts c v (record { matches = o.matches }))))).matches;
        }

module _ (s ns ts : List ℕ) where
  -- ---- entries

  last_rest : List Name → Entry → Reader Spans
  last_rest names e = expect closes >>= (λ _. give (span_of e point))

  turn : ℕ → Entry → List Name → Bool → Reader Spans
  turn n e names b = elim b as (λ _. Reader Spans) [
    | true ↦ next >>= (λ _. entries_of (inner names) (read_index names) n >>= (λ d. give (span_of e d)))
    | false ↦ expect closes >>= (λ _. give (span_of e point))
  ]

  more_rest : ℕ → List Name → Entry → Reader Spans
  more_rest n names e = look >>= (λ t. turn n e names (is_mark comma t))

  module _ (at left : ℕ) (r : Result ℕ Refused) (h : Moves (entry_with index_in) s ns ts at r) where
    pub entries-first : (e : Refused) → r ≡ Err e → Moves (entries_in left) s ns ts at r
    unfolding entries_in entries_of entry_with index_in last_rest more_rest turn
    entries-first z e = go left
      where
        go : (k : ℕ) → Moves (entries_in k) s ns ts at r
        go zero = record { matches = (stops (λ names. entry_of (inner names) (read_index names)) last_rest s ns ts at r (record { matches = h.matches }) z e).matches }
        go (suc k) = record { matches = (stops (λ names. entry_of (inner names) (read_index names)) (more_rest k) s ns ts at r (record { matches = h.matches }) z e).matches }

    pub entries-last : (a : ℕ) (q : Result ℕ Refused) → r ≡ Ok a → left ≡ 0 → Moves (expect_in closes) s ns ts a q → Moves (entries_in left) s ns ts at q
    unfolding entries_in entries_of entry_with index_in last_rest expect_in
    entries-last a q e z g = go left z
      where
        go : (k : ℕ) → k ≡ 0 → Moves (entries_in k) s ns ts at q
        go zero z =
            record {
              matches = (goes (λ names. entry_of (inner names) (read_index names)) last_rest s ns ts at r (record { matches = h.matches }) a q e
                  (λ e. given (λ names. expect closes) (λ names _. span_of e point) s ns ts a q (record { matches = g.matches }))).matches;
            }
        go (suc k) z = absurd (omega arith)

    entries-more : (a : ℕ) (q : Result ℕ Refused) → r ≡ Ok a → (left ≡ 0 → ⊥) → ((w : Entry) → Moves (λ names. more_rest (left - 1) names w) s ns ts a q) → Moves (entries_in left) s ns ts at q
    unfolding entries_in entries_of entry_with index_in more_rest turn
    entries-more a q e z g = go left z g
      where
        go : (k : ℕ) → (k ≡ 0 → ⊥) → ((w : Entry) → Moves (λ names. more_rest (k - 1) names w) s ns ts a q) → Moves (entries_in k) s ns ts at q
        go zero z g = absurd (z refl)
        go (suc k) z g =
            let c : suc k - 1 ≡ k = omega arith in
            record {
              matches = (goes (λ names. entry_of (inner names) (read_index names)) (more_rest k) s ns ts at r (record { matches = h.matches }) a q e
                  (λ w. subst (λ k. Moves (λ names. more_rest k names w) s ns ts a q) c (g w))).matches;
            }

    module _ (a : ℕ) (t : Result Seen Refused) (e : r ≡ Ok a) (z : left ≡ 0 → ⊥) (l : Looks ts a t) where
      pub entries-wrong : (e : Refused) → t ≡ Err e → Moves (entries_in left) s ns ts at (Err e)
      unfolding more_rest
      entries-wrong y i = entries-more a (Err y) e z (λ w. look-wrong (λ names t. turn (left - 1) w names (is_mark comma t)) s ns ts a y t l i)

      turn_by : (z : Seen) (v : Bool) (q : Result ℕ Refused) → t ≡ Ok z → eqb z.kind 44 ≡ v
          → ((w : Entry) (names : List Name) → Named s ns names → Matches (turn (left - 1) w names v (from s ts a)) s ts q) → Moves (entries_in left) s ns ts at q
      unfolding more_rest
      turn_by y v q i j g =
          entries-more a q e z (λ w. record {
            matches = λ names d.
                subst (λ o. Matches (follow o (λ t. turn (left - 1) w names (is_mark comma t))) s ts q) (sym (look_is s ts a y (subst (Sees s ts a) i (l.sees s))))
                (subst (λ v. Matches (turn (left - 1) w names v (from s ts a)) s ts q) (sym (is-mark s 44 y.kind y.place y.payload (omega arith) ∙ j)) (g w names d));
          })

      pub entries-end : (w : Seen) (q : Result ℕ Refused) → t ≡ Ok w → (w.kind ≡ 44 → ⊥) → Moves (expect_in closes) s ns ts a q → Moves (entries_in left) s ns ts at q
      unfolding turn expect_in
      entries-end z q i j g =
          turn_by z false q i (ne_eqb z.kind 44 j) (λ w names d. (given (λ names. expect closes) (λ names _. span_of w point) s ns ts a q (record { matches = g.matches })).matches names d)

      pub entries-on : (w : Seen) (q : Result ℕ Refused) → t ≡ Ok w → w.kind ≡ 44 → Moves (entries_in (left - 1)) s ns ts w.next q → Moves (entries_in left) s ns ts at q
      unfolding turn entries_in
      entries-on z q i j g =
          turn_by z true q i (eq-eqb z.kind 44 j)
          (λ w names d. (then_at (λ names. next) (λ names _. entries_of (inner names) (read_index names) (left - 1) >>= (λ d. give (span_of w d))) s ns ts a z.next q (next-read s ns ts a t l z i)
          (λ _. given (λ names. entries_of (inner names) (read_index names) (left - 1)) (λ names d. span_of w d) s ns ts z.next q (record { matches = g.matches }))).matches names d)

  -- ---- domains

  module _ (at : ℕ) (r : Result ℕ Refused) (h : Moves (bracket_in opens 12) s ns ts at r) where
    pub domain-open : (e : Refused) → r ≡ Err e → Moves domain_in s ns ts at r
    unfolding domain_in domain_of nesting_limit index_limit bracket_in
    domain-open z e = record { matches = (stops (λ names. bracket opens 12) (λ names _. entries_of (inner names) (read_index names) 3) s ns ts at r (record { matches = h.matches }) z e).matches }

    pub domain-entries : (a : ℕ) (q : Result ℕ Refused) → r ≡ Ok a → Moves (entries_in 3) s ns ts a q → Moves domain_in s ns ts at q
    unfolding domain_in domain_of nesting_limit index_limit bracket_in entries_in
    domain-entries a q e g =
        record { matches = (goes (λ names. bracket opens 12) (λ names _. entries_of (inner names) (read_index names) 3) s ns ts at r (record { matches = h.matches }) a q e (λ _. record { matches = g.matches })).matches }

  choice : List Name → Bool → Reader Spans
  choice names b = elim b as (λ _. Reader Spans) [ true ↦ domain_of names | false ↦ give point ]

  module _ (at : ℕ) (t : Result Seen Refused) (l : Looks ts at t) where
    pub optional-wrong : (e : Refused) → t ≡ Err e → Moves optional_in s ns ts at (Err e)
    unfolding optional_in optional_domain choice
    optional-wrong z i = record { matches = (look-wrong (λ names t. choice names (is_mark opens t)) s ns ts at z t l i).matches }

    optional-by : (w : Seen) (v : Bool) (q : Result ℕ Refused) → t ≡ Ok w → eqb w.kind 40 ≡ v → ((names : List Name) → Named s ns names → Matches (choice names v (from s ts at)) s ts q)
        → Moves optional_in s ns ts at q
    unfolding optional_in optional_domain choice
    optional-by z v q i j g =
        record {
          matches = λ names d.
              subst (λ o. Matches (follow o (λ t. choice names (is_mark opens t))) s ts q) (sym (look_is s ts at z (subst (Sees s ts at) i (l.sees s))))
              (subst (λ v. Matches (choice names v (from s ts at)) s ts q) (sym (is-mark s 40 z.kind z.place z.payload (omega arith) ∙ j)) (g names d));
        }

    pub optional-some : (w : Seen) (q : Result ℕ Refused) → t ≡ Ok w → w.kind ≡ 40 → Moves domain_in s ns ts at q → Moves optional_in s ns ts at q
    unfolding choice domain_in
    optional-some z q i j g = optional-by z true q i (eq-eqb z.kind 40 j) (λ names d. g.matches names d)

    pub optional-none : (w : Seen) → t ≡ Ok w → (w.kind ≡ 40 → ⊥) → Moves optional_in s ns ts at (Ok at)
    unfolding choice
    optional-none z i j = optional-by z false (Ok at) i (ne_eqb z.kind 40 j) (λ names d. refl)
