-- Laws of what stands behind a declared name, over plain variables.
use Rattle.std.specs.Prelude.{Err, Ok, Result, MatchResult}
use Rattle.rules.specs.declared.Refused.{Refused}
use mathlib.Core.Path.{◌≡◌, refl, sym, ◌∙◌, ap, subst}
use mathlib.Core.Bool.{Bool, true, false}
use mathlib.Core.List.{List, [], ◌∷◌}
use Prim.Native.Nat.{ℕ, zero, suc}
use native.Mathlib.Omega.{arith}
use lib.Dec.{eqb}
use lib.ListN.{length, take}
use borrow.Author.Tests.{eq-eqb, ne_eqb}
use Rattle.rules.specs.Limits.{nesting_limit}
use Rattle.lexer.specs.Text.{Token}
use Rattle.lexer.specs.Marks.{comma, equals, opens, closes, opens_list}
use Rattle.language.specs.Outcome.{done}
use Rattle.language.proofs.Outcome.{done-injective}
use Rattle.language.specs.Syntax.{Name, Sort, Spans, point}
use Rattle.language.specs.Syntax
use Rattle.language.specs.Reader.{Reader, Read, follow, ◌>>=◌, give, look, is_mark, expect, bracket}
use Rattle.language.specs.Formulas.{entry_of, span_of, in_domain, formula_at}
use Rattle.language.specs.Declarations.{read_due, due_of, subscripted, index_entry, formula_entry, domain_entry}
use Rattle.tokens.specs.declared.Seen.{Seen}
use Rattle.tokens.specs.Stored.{from, size, Sees, Looks, Named, Stands, Moves, Gives}
use Rattle.tokens.specs.Pieces.{expect_in, bracket_in}
use Rattle.tokens.proofs.Moved.{stops, goes, stood, got, gives_at, gives-refused, gives-not, gives_same, gives-stands, gives-map, followed, look_is, is-mark}
use Rattle.formulas.specs.Cycle.{formula_in}
use Rattle.declarations.specs.declared.Indices.{Indices}
use Rattle.declarations.specs.declared.Entry.{Entry}
use Rattle.declarations.specs.Readers.{due_in, indices_in, domain_in, subscripted_in, entry_in}
use Rattle.declarations.specs.Tables.{Numbers, IndicesUpTo, Spanning, Entered}

-- ---- a domain has as many entries as there are indices

due-size : (names : List Name) (l named : List ℕ) (m : List Token) (x : Read Spans) → due_of names l named m ≡ done x → size x.what ≡ length l
unfolding due_of size
due-size names [] named m x e = ap (λ (y : Read Spans). size y.what) (sym (done-injective e))
due-size names (i ∷ []) named m x e =
    followed (entry_of (in_domain names) (read_due names i named) m) (λ e. expect closes >>= (λ _. give (span_of e point))) x e
    (λ y _ f. followed (expect closes y.rest) (λ _. give (span_of y.what point)) x f
    (λ z _ g. ap (λ (y : Read Spans). size y.what) (sym (done-injective g))))
due-size names (i ∷ j ∷ l) named m x e =
    followed (entry_of (in_domain names) (read_due names i named) m) (λ e. expect comma >>= (λ _. due_of names (j ∷ l) (i ∷ named) >>= (λ d. give (span_of e d)))) x e
    (λ y _ f. followed (expect comma y.rest) (λ _. due_of names (j ∷ l) (i ∷ named) >>= (λ d. give (span_of y.what d))) x f
    (λ z _ g. followed (due_of names (j ∷ l) (i ∷ named) z.rest) (λ d. give (span_of y.what d)) x g
    (λ w h k. ap (λ (y : Read Spans). size y.what) (sym (done-injective k)) ∙ ap suc (due-size names (j ∷ l) (i ∷ named) z.rest w h))))

due-gives : (l s ns ts : List ℕ) (at c : ℕ) (r : Result ℕ Refused) → length l ≡ c → Moves (due_in l) s ns ts at r → Gives (due_in l) (Spanning s ts c at) s ns ts at r
unfolding due_in
due-gives l s ns ts at c r e h =
    record {
      moves = h;
      tells = λ names d x f. record { sized = due-size names l [] (from s ts at) x f ∙ e; spanned = record { indices = l; stands = record { rest = x.rest; reads = f } } };
    }

-- ---- a list of indices and their domain

module _ (s ns ts : List ℕ) (at : ℕ) (r : Result ℕ Refused) (h : Moves (bracket_in opens_list 12) s ns ts at r) where
  due_rest : List ℕ → List Name → ℕ → Reader Spans
  due_rest l names _ = due_in l names

  list_rest : List Name → List ℕ → Reader Spans
  list_rest names l = bracket opens 12 >>= due_rest l names

  open_rest : List Name → ℕ → Reader Spans
  open_rest names _ = indices_in names >>= list_rest names

  open-read : Moves (λ names. bracket opens_list 12) s ns ts at r
  unfolding bracket_in
  open-read = record { matches = h.matches }

  pub domain-open : (e : Refused) → r ≡ Err e → Moves domain_in s ns ts at r
  unfolding domain_in open_rest list_rest due_rest nesting_limit
  domain-open z e = record { matches = (stops (λ names. bracket opens_list 12) open_rest s ns ts at r open-read z e).matches }

  module _ (a : ℕ) (e : r ≡ Ok a) where
    pub domain-list : (e : Refused) → Moves indices_in s ns ts a (Err e) → Moves domain_in s ns ts at (Err e)
    unfolding domain_in open_rest list_rest due_rest nesting_limit
    domain-list z g =
        record {
          matches = (goes (λ names. bracket opens_list 12) open_rest s ns ts at r open-read a (Err z) e
              (λ _. stops indices_in list_rest s ns ts a (Err z) g z refl)).matches;
        }

    module _ (i : Indices) (b : ℕ) (g : IndicesUpTo s ns ts a i b) (q : Result ℕ Refused) (k : Moves (bracket_in opens 12) s ns ts b q) where
      first_read : Moves (λ names. bracket opens 12) s ns ts b q
      unfolding bracket_in
      first_read = record { matches = k.matches }

      pub domain-first : (e : Refused) → q ≡ Err e → Moves domain_in s ns ts at q
      unfolding domain_in open_rest list_rest due_rest nesting_limit
      domain-first w z =
          record {
            matches = (goes (λ names. bracket opens_list 12) open_rest s ns ts at r open-read a q e
                (λ _. goes indices_in list_rest s ns ts a (Ok b) g.gives.moves b q refl
                (λ l. stops (λ names. bracket opens 12) (due_rest l) s ns ts b q first_read w z))).matches;
          }

      module _ (d : ℕ) (z : q ≡ Ok d) (v : Result ℕ Refused) (u : Moves (due_in (take i.count i.numbers)) s ns ts d v) where
        domain-is : (names : List Name) → Named s ns names → domain_in names (from s ts at) ≡ due_in (take i.count i.numbers) names (from s ts d)
        unfolding domain_in nesting_limit
        domain-is names y =
            let x = stood (λ names. bracket opens_list 12) s ns ts at r open-read names y a e in
            let w = got indices_in (Numbers i.count i.numbers) s ns ts a b g.gives names y in
            let v = stood (λ names. bracket opens 12) s ns ts b q first_read names y d z in
            rw (x.reads, w.reads, v.reads) (ap (λ l. due_in l names (from s ts d)) w.holds.numbers)

        gives-domain : Gives domain_in (Spanning s ts i.count d) s ns ts at v
        gives-domain = gives_same domain_in (Spanning s ts i.count d) s ns ts at (due_in (take i.count i.numbers)) d v domain-is (due-gives (take i.count i.numbers) s ns ts d i.count v g.sized u)

        pub domain-due : (e : Refused) → v ≡ Err e → Moves domain_in s ns ts at v
        domain-due w f = gives-domain.moves

        pub domain-all : (c : ℕ) → v ≡ Ok c → Gives domain_in (Spanning s ts i.count d) s ns ts at (Ok c)
        domain-all c f = subst (Gives domain_in (Spanning s ts i.count d) s ns ts at) f gives-domain

-- ---- an optional domain

module _ (s ns ts : List ℕ) (at : ℕ) (t : Result Seen Refused) (l : Looks ts at t) where
  choice : List Name → Bool → Reader Spans
  choice names b = elim b as (λ _. Reader Spans) [ true ↦ domain_in names | false ↦ give point ]

  subscripted-is : (names : List Name) → subscripted_in names (from s ts at) ≡ follow (look (from s ts at)) (λ t. choice names (is_mark opens_list t))
  unfolding subscripted_in subscripted choice domain_in indices_in due_in
  subscripted-is names = refl

  subscripted-by : (w : Seen) (v : Bool) (names : List Name) → t ≡ Ok w → eqb w.kind 91 ≡ v → subscripted_in names (from s ts at) ≡ choice names v (from s ts at)
  subscripted-by z v names e i =
      subscripted-is names ∙ ap (λ o. follow o (λ t. choice names (is_mark opens_list t))) (look_is s ts at z (subst (Sees s ts at) e (l.sees s)))
      ∙ ap (λ v. choice names v (from s ts at)) (is-mark s 91 z.kind z.place z.payload (omega arith) ∙ i)

  same-domain : (w : Seen) (c q : ℕ) (r : Result ℕ Refused) → t ≡ Ok w → w.kind ≡ 91 → Gives domain_in (Spanning s ts c q) s ns ts at r → Gives subscripted_in (Spanning s ts c q) s ns ts at r
  unfolding choice
  same-domain z c q r e i g = gives_same subscripted_in (Spanning s ts c q) s ns ts at domain_in at r (λ names d. subscripted-by z true names e (eq-eqb z.kind 91 i)) g

  pub subscripted-some : (w : Seen) (r : Result (Entry × ℕ) Refused) → t ≡ Ok w → w.kind ≡ 91
      → MatchResult r (λ w. Gives domain_in (Spanning s ts w.0.count w.0.position) s ns ts at (Ok w.1)) (λ e. Moves domain_in s ns ts at (Err e))
      → MatchResult r (λ w. Gives subscripted_in (Spanning s ts w.0.count w.0.position) s ns ts at (Ok w.1)) (λ e. Moves subscripted_in s ns ts at (Err e))
  subscripted-some z (Ok w) e i g = same-domain z w.0.count w.0.position (Ok w.1) e i g
  subscripted-some z (Err w) e i g = (same-domain z 0 0 (Err w) e i (gives-not domain_in (Spanning s ts 0 0) s ns ts at w (Err w) refl g)).moves

  pub subscripted-none : (w : Seen) → t ≡ Ok w → (w.kind ≡ 91 → ⊥) → Gives subscripted_in (Spanning s ts 0 0) s ns ts at (Ok at)
  unfolding choice size due_of
  subscripted-none z e i =
      gives_at subscripted_in (Spanning s ts 0 0) s ns ts at at (λ names d. record {
        what = point;
        reads = subscripted-by z false names e (ne_eqb z.kind 91 i);
        holds = record { sized = refl; spanned = record { indices = []; stands = record { rest = from s ts 0; reads = refl } } };
      })

  pub subscripted-wrong : (e : Refused) → t ≡ Err e → Moves subscripted_in s ns ts at (Err e)
  subscripted-wrong z e =
      (gives-refused subscripted_in (Spanning s ts 0 0) s ns ts at z
      (λ names d. subscripted-is names ∙ ap (λ o. follow o (λ t. choice names (is_mark opens_list t))) (subst (Sees s ts at) e (l.sees s)).looks)).moves

-- ---- an entry of sort k

module _ (s ns ts : List ℕ) (at : ℕ) where
  pub sort-index : (k : ℕ) → k ≡ 0 → Gives (entry_in k) (Entered s ts k 0 0) s ns ts at (Ok at)
  unfolding entry_in index_entry
  sort-index zero e =
      gives_at (entry_in 0) (Entered s ts 0 0 0) s ns ts at at (λ names d. record { what = Syntax.index; reads = refl; holds = record { shaped = λ _. refl; declares = tt } })
  sort-index (suc k) e = absurd (omega arith)

  domain-entry : (sort : Spans → Sort) (k c q : ℕ) (r : Result ℕ Refused) → ((names : List Name) (d : Spans) → Spanning s ts c q names d → Entered s ts k c q names (sort d)) → Gives subscripted_in (Spanning s ts c q) s ns ts at r
      → Gives (domain_entry sort) (Entered s ts k c q) s ns ts at r
  unfolding domain_entry subscripted_in
  domain-entry sort k c q r f g =
      let v = gives-map subscripted_in (Spanning s ts c q) (λ names d. sort d) (Entered s ts k c q) s ns ts at r g f in
      record { moves = record { matches = v.moves.matches }; tells = v.tells }

  sort-by : (k c q : ℕ) (r : Result ℕ Refused) → (k ≡ 0 → ⊥) → (k ≡ 3 → ⊥) → Gives subscripted_in (Spanning s ts c q) s ns ts at r → Gives (entry_in k) (Entered s ts k c q) s ns ts at r
  unfolding entry_in
  sort-by zero c q r i j g = absurd (i refl)
  sort-by (suc zero) c q r i j g = domain-entry Syntax.integer 1 c q r (λ names d h. record { shaped = λ _. (refl, h.sized); declares = h.spanned }) g
  sort-by (suc (suc zero)) c q r i j g = domain-entry Syntax.real 2 c q r (λ names d h. record { shaped = λ _. (refl, h.sized); declares = h.spanned }) g
  sort-by (suc (suc (suc zero))) c q r i j g = absurd (j refl)
  sort-by (suc (suc (suc (suc zero)))) c q r i j g = domain-entry Syntax.discrete 4 c q r (λ names d h. record { shaped = λ _. (refl, h.sized); declares = h.spanned }) g
  sort-by (suc (suc (suc (suc (suc k))))) c q r i j g =
      domain-entry Syntax.continuous (suc (suc (suc (suc (suc k))))) c q r (λ names d h. record { shaped = λ l. (omega arith, h.sized); declares = h.spanned }) g

  pub sort-domain : (k : ℕ) (r : Result (Entry × ℕ) Refused) → (k ≡ 0 → ⊥) → (k ≡ 3 → ⊥)
      → MatchResult r (λ w. Gives subscripted_in (Spanning s ts w.0.count w.0.position) s ns ts at (Ok w.1)) (λ e. Moves subscripted_in s ns ts at (Err e))
      → MatchResult r (λ w. Gives (entry_in k) (Entered s ts k w.0.count w.0.position) s ns ts at (Ok w.1)) (λ e. Moves (entry_in k) s ns ts at (Err e))
  sort-domain k (Ok w) i j g = sort-by k w.0.count w.0.position (Ok w.1) i j g
  sort-domain k (Err w) i j g = (sort-by k 0 0 (Err w) i j (gives-not subscripted_in (Spanning s ts 0 0) s ns ts at w (Err w) refl g)).moves

  module _ (r : Result ℕ Refused) (h : Moves (expect_in equals) s ns ts at r) where
    formula_rest : List Name → ℕ → Reader Sort
    formula_rest names _ = formula_at names nesting_limit >>= (λ f. give (Syntax.formula f))

    equals-read : Moves (λ names. expect equals) s ns ts at r
    unfolding expect_in
    equals-read = record { matches = h.matches }

    pub sort-equals : (k : ℕ) (e : Refused) → k ≡ 3 → r ≡ Err e → Moves (entry_in k) s ns ts at r
    unfolding entry_in formula_entry formula_rest
    sort-equals k z i e = subst (λ k. Moves (entry_in k) s ns ts at r) (sym i) (record { matches = (stops (λ names. expect equals) formula_rest s ns ts at r equals-read z e).matches })

    formula-is : (a : ℕ) → r ≡ Ok a → (names : List Name) → Named s ns names → entry_in 3 names (from s ts at) ≡ formula_rest names 0 (from s ts a)
    unfolding entry_in formula_entry formula_rest
    formula-is a e names d = let x = stood (λ names. expect equals) s ns ts at r equals-read names d a e in rw x.reads refl

    formula-by : (k a : ℕ) (q : Result ℕ Refused) → k ≡ 3 → r ≡ Ok a → Moves (formula_in 12) s ns ts a q → Gives (entry_in k) (Entered s ts k 0 a) s ns ts at q
    unfolding formula_rest formula_in nesting_limit
    formula-by k a q i e g =
        subst (λ k. Gives (entry_in k) (Entered s ts k 0 a) s ns ts at q) (sym i)
        (gives_same (entry_in 3) (Entered s ts 3 0 a) s ns ts at (λ names. formula_rest names 0) a q (formula-is a e)
        (gives-map (λ names. formula_at names nesting_limit) (λ names f. Stands (formula_at names nesting_limit) s ts a f) (λ names f. Syntax.formula f) (Entered s ts 3 0 a) s ns ts a q
        (gives-stands (λ names. formula_at names nesting_limit) s ns ts a q (record { matches = g.matches }))
        (λ names f st. record { shaped = λ _. refl; declares = st })))

    pub sort-formula-wrong : (k a : ℕ) (q : Result ℕ Refused) (e : Refused) → k ≡ 3 → r ≡ Ok a → Moves (formula_in 12) s ns ts a q → q ≡ Err e → Moves (entry_in k) s ns ts at q
    sort-formula-wrong k a q z i e g f = (formula-by k a q i e g).moves

    pub sort-formula : (k a : ℕ) (q : Result ℕ Refused) (b : ℕ) → k ≡ 3 → r ≡ Ok a → Moves (formula_in 12) s ns ts a q → q ≡ Ok b → Gives (entry_in k) (Entered s ts k 0 a) s ns ts at (Ok b)
    sort-formula k a q b i e g f = subst (Gives (entry_in k) (Entered s ts k 0 a) s ns ts at) f (formula-by k a q i e g)
