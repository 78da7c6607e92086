-- Laws of declared domains over plain variables.
use Rattle.std.specs.Prelude.{Err, Ok, Result, nat_eq}
use Rattle.std.specs.List.{list_any}
use Rattle.std.proofs.lemmas.List.Folds.{list_any-append}
use Rattle.rules.specs.declared.Refused.{Refused}
use mathlib.Core.Path.{◌≡◌, refl, sym, ◌∙◌, ap, subst}
use mathlib.Core.Bool.{Bool, true, false, ◌&&◌, ◌||◌, not}
use mathlib.Core.List.{List, [], ◌∷◌, ◌++◌}
use Prim.Native.Nat.{ℕ, zero, suc, ◌+◌, ◌<◌, ◌≤◌}
use native.Mathlib.Omega.{arith}
use lib.Dec.{eqb}
use lib.ListN.{length, take, drop, get_or, drop_of_length-le}
use lib.Seq.{drop-cons, take-suc}
use borrow.Author.Tests.{eq-eqb, ne_eqb, eqb-true}
use Rattle.rules.specs.declared.Refusal.TheVariants.{Misplaced}
use Rattle.lexer.specs.Marks.{comma, closes}
use Rattle.language.specs.Outcome.{Outcome, done, refused}
use Rattle.language.specs.Syntax.{Name, Spans, point}
use Rattle.language.specs.Reader.{Reader, Read, follow, ◌>>=◌, give, require, Used, expect, read_known}
use Rattle.language.specs.Formulas.{Entry, entry_of, span_of, in_domain}
use Rattle.language.specs.Declarations.{is_in, read_due, due_of}
use Rattle.tokens.specs.declared.Known.{Known}
use Rattle.tokens.specs.Stored.{from, Named, Knowing, KnownAt, Knows, Matches, Moves}
use Rattle.tokens.specs.Pieces.{expect_in}
use Rattle.tokens.proofs.Tables.{false-true}
use Rattle.tokens.proofs.Moved.{stops, goes, given, knows-of}
use Rattle.domains.specs.Domains.{entry_with}
use Rattle.declarations.specs.Readers.{shown, due_with, due_in}

-- ---- a number that stands twice

or-true : (a : Bool) → true ≡ (a || true)
or-true true = refl
or-true false = refl

or-false : (a : Bool) → a ≡ (a || false)
or-false true = refl
or-false false = refl

-- it stands among the first k numbers of the list
pub shown-contains : (x : ℕ) (l : List ℕ) (k : ℕ) → k ≤ length l → is_in x (shown l k) ≡ list_any (λ y. nat_eq y x) (take k l)
unfolding is_in shown
shown-contains x l zero h = refl
shown-contains x l (suc k) h =
    let e : take (suc k) l ≡ take k l ++ (get_or l k 0 ∷ []) = take-suc l k 0 (omega arith) in
    rw (e, list_any-append (λ y. nat_eq y x) (take k l) (get_or l k 0 ∷ [])) (go (eqb x (get_or l k 0)) refl (shown-contains x l k (omega arith)))
  where
    go : (b : Bool) → eqb x (get_or l k 0) ≡ b → is_in x (shown l k) ≡ list_any (λ y. nat_eq y x) (take k l) → (elim b as (λ _. Bool) [ true ↦ true | false ↦ is_in x (shown l k) ]) ≡ (list_any (λ y. nat_eq y x) (take k l) || (nat_eq (get_or l k 0) x || false))
    go true f h = rw (eq-eqb (get_or l k 0) x (sym (eqb-true x (get_or l k 0) f))) (or-true (list_any (λ y. nat_eq y x) (take k l)))
    go false f h =
        let g : eqb (get_or l k 0) x ≡ false = ne_eqb (get_or l k 0) x (λ e. false-true (sym f ∙ eq-eqb x (get_or l k 0) (sym e))) in
        rw g (h ∙ or-false (list_any (λ y. nat_eq y x) (take k l)))

-- ---- the index that is due

module _ (s ns ts : List ℕ) (at i : ℕ) (taken : Bool) (r : Result Known Refused) (told : KnownAt s ns ts at r) where
  h : Knows s ns ts at r
  h = knows-of s ns ts at r told

  due_test : Used → Reader Used
  due_test u = require (eqb u.number i && not taken) Misplaced u.place >>= (λ _. give u)

  knowing : (names : List Name) → Named s ns names → (w : Result Known Refused) → r ≡ w → Knowing (read_known names (from s ts at)) s ts w
  knowing names d w e = subst (Knowing (read_known names (from s ts at)) s ts) e (h.knows names d)

  pub due-wrong : (e : Refused) → r ≡ Err e → Moves (due_with i taken) s ns ts at (Err e)
  unfolding due_with due_test
  due-wrong z e = record { matches = λ names d. go (read_known names (from s ts at)) (knowing names d (Err z) e) }
    where
      go : (o : Outcome (Read Used)) → Knowing o s ts (Err z) → Matches (follow o due_test) s ts (Err z)
      go (done x) k = absurd k
      go (refused m q) k = k

  due-by : (w : Known) (b : Bool) (z : Result ℕ Refused) → r ≡ Ok w → (eqb w.number i && not taken) ≡ b
      → ((u : Used) → u.place ≡ w.place → Matches ((require b Misplaced u.place >>= (λ _. give u)) (from s ts w.next)) s ts z) → Moves (due_with i taken) s ns ts at z
  unfolding due_with due_test
  due-by w b z e f g = record { matches = λ names d. go (read_known names (from s ts at)) (knowing names d (Ok w) e) }
    where
      go : (o : Outcome (Read Used)) → Knowing o s ts (Ok w) → Matches (follow o due_test) s ts z
      go (done x) k = rw k.0 (subst (λ b. Matches ((require b Misplaced x.what.place >>= (λ _. give x.what)) (from s ts w.next)) s ts z) (sym (ap (λ n. eqb n i && not taken) k.1 ∙ f)) (g x.what k.3))
      go (refused m q) k = absurd k

  pub due-yes : (w : Known) → r ≡ Ok w → (eqb w.number i && not taken) ≡ true → Moves (due_with i taken) s ns ts at (Ok w.next)
  unfolding require
  due-yes z e f = due-by z true (Ok z.next) e f (λ u q. refl)

  pub due-other : (w : Known) → r ≡ Ok w → (eqb w.number i && not taken) ≡ false → Moves (due_with i taken) s ns ts at (Err (record { refusal = Misplaced; place = w.place }))
  unfolding require
  due-other z e f = due-by z false (Err (record { refusal = Misplaced; place = z.place })) e f (λ u q. (refl, q))

-- ---- the domain: what is read from the k-th index on is what is read from the first one

pub record DueOn (l s ns ts : List ℕ) (at k a : ℕ) : Type 0 where
  pub on : (z : Result ℕ Refused) → Moves (λ names. due_of names (drop k l) (shown l k)) s ns ts a z → Moves (due_in l) s ns ts at z

module _ (l s ns ts : List ℕ) (at : ℕ) where
  pub due-start : DueOn l s ns ts at 0 at
  unfolding due_in shown
  due-start = record { on = λ z h. record { matches = h.matches } }

  pub due-none : (k a : ℕ) → DueOn l s ns ts at k a → length l ≤ k → Moves (due_in l) s ns ts at (Ok a)
  unfolding due_of
  due-none k a o h = o.on (Ok a) (subst (λ t. Moves (λ names. due_of names t (shown l k)) s ns ts a (Ok a)) (sym (drop_of_length-le l h)) (record { matches = λ names d. refl }))

  -- what stands behind the entry of i, with the indices t still due
  due_tail : List ℕ → ℕ → List ℕ → List Name → Entry → Reader Spans
  due_tail [] i named names e = expect closes >>= (λ _. give (span_of e point))
  due_tail (j ∷ t) i named names e = expect comma >>= (λ _. due_of names (j ∷ t) (i ∷ named) >>= (λ d. give (span_of e d)))

  abbrev due_entry : ℕ → List ℕ → List Name → Reader Entry
  due_entry i named names = entry_of (in_domain names) (read_due names i named)

  due-step : (i a : ℕ) (t named : List ℕ) (z : Result ℕ Refused) → Moves (λ names. due_entry i named names >>= due_tail t i named names) s ns ts a z → Moves (λ names. due_of names (i ∷ t) named) s ns ts a z
  unfolding due_of due_tail
  due-step i a [] named z h = record { matches = h.matches }
  due-step i a (j ∷ t) named z h = record { matches = h.matches }

  module _ (k a i : ℕ) (taken : Bool) (r : Result ℕ Refused) (o : DueOn l s ns ts at k a) (m : k < length l) (e : i ≡ get_or l k 0) (f : taken ≡ list_any (λ y. nat_eq y i) (take k l))
      (h : Moves (entry_with (due_with i taken)) s ns ts a r) where
    same-taken : taken ≡ is_in (get_or l k 0) (shown l k)
    same-taken = f ∙ ap (λ i. list_any (λ y. nat_eq y i) (take k l)) e ∙ sym (shown-contains (get_or l k 0) l k (omega arith))

    entry_read : Moves (due_entry (get_or l k 0) (shown l k)) s ns ts a r
    unfolding entry_with due_with read_due
    entry_read = record { matches = (subst (λ b. Moves (entry_with (due_with (get_or l k 0) b)) s ns ts a r) same-taken (subst (λ i. Moves (entry_with (due_with i taken)) s ns ts a r) e h)).matches }

    -- the tokens behind the entry, with the indices t still due
    entry-by : (t : List ℕ) (z : Result ℕ Refused) → drop (suc k) l ≡ t → Moves (λ names. due_entry (get_or l k 0) (shown l k) names >>= due_tail t (get_or l k 0) (shown l k) names) s ns ts a z → Moves (due_in l) s ns ts at z
    entry-by t z c g =
        o.on z
        (subst (λ u. Moves (λ names. due_of names u (shown l k)) s ns ts a z) (sym (drop-cons l k 0 m ∙ ap (λ u. get_or l k 0 ∷ u) c))
        (due-step (get_or l k 0) a t (shown l k) z g))

    pub due-entry : (e : Refused) → r ≡ Err e → Moves (due_in l) s ns ts at r
    due-entry z g = entry-by (drop (suc k) l) r refl (stops (due_entry (get_or l k 0) (shown l k)) (due_tail (drop (suc k) l) (get_or l k 0) (shown l k)) s ns ts a r entry_read z g)

    pub due-last : (b : ℕ) (q : Result ℕ Refused) → r ≡ Ok b → k + 1 ≡ length l → Moves (expect_in closes) s ns ts b q → Moves (due_in l) s ns ts at q
    unfolding due_tail expect_in
    due-last b q g c v =
        entry-by [] q (drop_of_length-le l {i = suc k} (omega (arith, c)))
        (goes (due_entry (get_or l k 0) (shown l k)) (due_tail [] (get_or l k 0) (shown l k)) s ns ts a r entry_read b q g
        (λ w. given (λ names. expect closes) (λ names _. span_of w point) s ns ts b q (record { matches = v.matches })))

    -- more indices are due
    abbrev next_due : List ℕ
    next_due = get_or l (suc k) 0 ∷ drop (suc (suc k)) l

    more_rest : Entry → List Name → ℕ → Reader Spans
    more_rest w names _ = due_of names next_due (get_or l k 0 ∷ shown l k) >>= (λ d. give (span_of w d))

    next-due : (k + 1 ≡ length l → ⊥) → drop (suc k) l ≡ next_due
    next-due c = drop-cons l (suc k) 0 (omega (arith, m, c))

    pub due-comma : (b : ℕ) (e : Refused) (q : Result ℕ Refused) → r ≡ Ok b → (k + 1 ≡ length l → ⊥) → Moves (expect_in comma) s ns ts b q → q ≡ Err e → Moves (due_in l) s ns ts at q
    unfolding due_tail expect_in more_rest
    due-comma b z q g c v y =
        entry-by next_due q (next-due c)
        (goes (due_entry (get_or l k 0) (shown l k)) (due_tail next_due (get_or l k 0) (shown l k)) s ns ts a r entry_read b q g
        (λ w. stops (λ names. expect comma) (more_rest w) s ns ts b q (record { matches = v.matches }) z y))

    pub due-on : (b d : ℕ) (q : Result ℕ Refused) → r ≡ Ok b → (k + 1 ≡ length l → ⊥) → Moves (expect_in comma) s ns ts b q → q ≡ Ok d → DueOn l s ns ts at (k + 1) d
    unfolding due_tail expect_in more_rest shown
    due-on b d q g c v y =
        let j : k + 1 ≡ suc k = omega arith in
        record {
          on = λ z u.
              entry-by next_due z (next-due c)
              (goes (due_entry (get_or l k 0) (shown l k)) (due_tail next_due (get_or l k 0) (shown l k)) s ns ts a r entry_read b z g
              (λ w. goes (λ names. expect comma) (more_rest w) s ns ts b q (record { matches = v.matches }) d z y
              (λ _. given (λ names. due_of names next_due (get_or l k 0 ∷ shown l k)) (λ names δ. span_of w δ) s ns ts d z
              (subst (λ t. Moves (λ names. due_of names t (shown l (suc k))) s ns ts d z) (next-due c) (subst (λ i. Moves (λ names. due_of names (drop i l) (shown l i)) s ns ts d z) j u)))));
        }
