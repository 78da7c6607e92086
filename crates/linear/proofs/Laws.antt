-- Laws over plain variables that answer the code's needs.
use Rattle.std.specs.Prelude.{Err, None, Ok, Option, Result, Some}
use Rattle.rules.specs.declared.Refused.{Refused}
use mathlib.Core.Path.{◌≡◌, refl, sym, ◌∙◌, ap, subst}
use mathlib.Core.Bool.{Bool, true, false, ◌||◌, ◌&&◌, cond}
use mathlib.Core.List.{List}
use Prim.Native.Nat.{ℕ, zero, suc, ◌+◌, ◌-◌, ◌<◌, ◌≤◌}
use native.Mathlib.Omega.{arith}
use lib.Dec.{T, eqb, eqb→eq}
use borrow.Author.Tests.{eq-eqb, ne_eqb, eqb-true, eqb-false}
use Rattle.rules.specs.declared.Refusal.TheVariants.{Full}
use Rattle.rules.specs.Limits.{token_limit}
use Rattle.lexer.specs.Text.{Token}
use Rattle.lexer.specs.Marks.{times_sign, minus_sign, sigma_word, comma, closes}
use Rattle.language.specs.Syntax.{Name, Sort, Formula, Term, Form, also, factor, variable, sigma}
use Rattle.language.specs.Syntax
use Rattle.language.specs.Reader.{Reader, follow, ◌>>=◌, give, refuse, Used, next, is_mark, expect, find}
use Rattle.language.specs.Formulas.{is_sum, Signed, read_sign, head_of, part_of, formula_at, subscripts_of, primary_by, primary_of, inside_at}
use Rattle.language.specs.Linear.{Head, a_sigma, a_variable, a_primary, head_by_sort, head_by_name, head_by, linear_term, linear_terms, Linear, linear_of, plain_form, body_of, sigma_at, linear_at}
use Rattle.tokens.specs.declared.Seen.{Seen}
use Rattle.tokens.specs.declared.Found.{Found}
use Rattle.tokens.specs.Stored.{spelling, name_bytes, token, kind_of, from, Sees, Looks, look_up, Shaped, Named, Matches, Moves}
use Rattle.tokens.specs.Pieces.{expect_in, head_in, sign_in}
use Rattle.tokens.proofs.Tables.{false-true, mark-of, mark-same, declared, not-declared}
use Rattle.tokens.proofs.Moved.{stops, goes, then_at, given, next-is, look_is, next-wrong, look-wrong, is_sum_lem, next-read}
use Rattle.formulas.specs.Cycle.{part_in, primary_in, Subscripts}
use Rattle.linear.specs.Linear.{variable_found, variable_of, Heads, Begins, sigmas_in, term_in, sigma_in, terms_in, form_in, body_in, linear_in}

-- ---- what a token begins

module _ (s ns : List ℕ) (p x : ℕ) where
  sort-variable : (y : Sort) (i k : ℕ) (w : Found) (b : Bool) → i ≡ w.number → Shaped y w.sort w.count → (eqb w.sort 4 || eqb w.sort 5) ≡ true → Heads (head_by_sort i y) b k (Some w)
  unfolding head_by_sort
  sort-variable Syntax.index i k w b z h e = absurd (false-true (subst (λ j. (eqb j 4 || eqb j 5) ≡ true) h e))
  sort-variable (Syntax.integer d) i k w b z h e = absurd (false-true (subst (λ j. (eqb j 4 || eqb j 5) ≡ true) h.0 e))
  sort-variable (Syntax.real d) i k w b z h e = absurd (false-true (subst (λ j. (eqb j 4 || eqb j 5) ≡ true) h.0 e))
  sort-variable (Syntax.formula f) i k w b z h e = absurd (false-true (subst (λ j. (eqb j 4 || eqb j 5) ≡ true) h e))
  sort-variable (Syntax.discrete d) i k w b z h e = (z, h.1)
  sort-variable (Syntax.continuous d) i k w b z h e = (z, h.1)

  sort-other : (y : Sort) (i k j c : ℕ) (b : Bool) → Shaped y j c → (eqb j 4 || eqb j 5) ≡ false → (k ≡ 134 → ⊥) → Heads (head_by_sort i y) b k None
  unfolding head_by_sort
  sort-other Syntax.index i k j c b h e o = λ _ z. o z
  sort-other (Syntax.integer d) i k j c b h e o = λ _ z. o z
  sort-other (Syntax.real d) i k j c b h e o = λ _ z. o z
  sort-other (Syntax.formula f) i k j c b h e o = λ _ z. o z
  sort-other (Syntax.discrete d) i k j c b h e o = absurd (false-true (sym (subst (λ j. (eqb j 4 || eqb j 5) ≡ false) h.0 e)))
  sort-other (Syntax.continuous d) i k j c b h e o = absurd (false-true (sym (subst (λ j. (eqb j 4 || eqb j 5) ≡ false) h.0 e)))

  name-head : (k : ℕ) (names : List Name) (b : Bool) → k ≡ 1 → head_by names b (kind_of s k p x) ≡ head_by_name (find (spelling s p (name_bytes x)) names 0 0)
  unfolding head_by kind_of
  name-head k names b e = rw e refl

  begins-variable : (k : ℕ) (w : Found) (f : Option Found) → k ≡ 1 → f ≡ look_up s (spelling s p (name_bytes x)) ns 0 → f ≡ Some w → (eqb w.sort 4 || eqb w.sort 5) ≡ true → Begins s ns k p x (Some w)
  unfolding head_by_name
  begins-variable k z f e g h t =
      record {
        heads = λ names d b.
            let u = declared s (spelling s p (name_bytes x)) ns names 0 0 z d (sym g ∙ h) in
            subst (λ y. Heads y b k (Some z)) (sym (name-head k names b e ∙ ap head_by_name u.stands)) (sort-variable u.used.sort u.used.number k z b u.numbered u.shaped t);
      }

  begins-other : (k : ℕ) (w : Found) (f : Option Found) → k ≡ 1 → f ≡ look_up s (spelling s p (name_bytes x)) ns 0 → f ≡ Some w → (eqb w.sort 4 || eqb w.sort 5) ≡ false → Begins s ns k p x None
  unfolding head_by_name
  begins-other k w f e g h t =
      record {
        heads = λ names d b.
            let u = declared s (spelling s p (name_bytes x)) ns names 0 0 w d (sym g ∙ h) in
            subst (λ y. Heads y b k None) (sym (name-head k names b e ∙ ap head_by_name u.stands)) (sort-other u.used.sort u.used.number k w.sort w.count b u.shaped t (λ z. omega arith));
      }

  begins-unknown : (k : ℕ) (f : Option Found) → k ≡ 1 → f ≡ look_up s (spelling s p (name_bytes x)) ns 0 → f ≡ None → Begins s ns k p x None
  unfolding head_by_name
  begins-unknown k f e g h =
      record {
        heads = λ names d b.
            subst (λ y. Heads y b k None) (sym (name-head k names b e ∙ ap head_by_name (not-declared s (spelling s p (name_bytes x)) ns names 0 0 d (sym g ∙ h)))) (λ _ z. omega arith);
      }

  mark-head : (k : ℕ) (b : Bool) → Heads (cond (b && eqb k 134) a_sigma a_primary) b k None
  mark-head k false = λ z _. false-true z
  mark-head k true = go (eqb k 134) refl
    where
      go : (v : Bool) → eqb k 134 ≡ v → Heads (cond v a_sigma a_primary) true k None
      go true e = (refl, eqb→eq k 134 (subst T (sym e) tt))
      go false e = λ _ z. false-true (sym e ∙ eq-eqb k 134 z)

  begins-mark : (k : ℕ) → (k ≡ 1 → ⊥) → Begins s ns k p x None
  unfolding head_by kind_of
  begins-mark k e = record { heads = λ names d b. go names b k e }
    where
      go : (names : List Name) (b : Bool) (k : ℕ) → (k ≡ 1 → ⊥) → Heads (head_by names b (kind_of s k p x)) b k None
      go names b zero e = λ _ z. omega arith
      go names b (suc zero) e = absurd (e refl)
      go names b (suc (suc zero)) e = λ _ z. omega arith
      go names b (suc (suc (suc zero))) e = λ _ z. omega arith
      go names b (suc (suc (suc (suc zero)))) e = λ _ z. omega arith
      go names b (suc (suc (suc (suc (suc zero))))) e = λ _ z. omega arith
      go names b (suc (suc (suc (suc (suc (suc k)))))) e = mark-head (suc (suc (suc (suc (suc (suc k)))))) b

  pub begins-of : (k : ℕ) (r : Option Found) → r ≡ variable_of s ns k p x → Begins s ns k p x r
  unfolding variable_of
  begins-of k r w = rw w (go (eqb k 1) refl)
    where
      by-sort : k ≡ 1 → (w : Found) → Some w ≡ look_up s (spelling s p (name_bytes x)) ns 0 → (b : Bool) → (eqb w.sort 4 || eqb w.sort 5) ≡ b
          → Begins s ns k p x (cond b (Some w) None)
      by-sort e z g true t = begins-variable k z _ e g refl t
      by-sort e z g false t = begins-other k z _ e g refl t

      by_name : k ≡ 1 → (f : Option Found) → f ≡ look_up s (spelling s p (name_bytes x)) ns 0 → Begins s ns k p x (variable_found f)
      by_name e (Some x) g = by-sort e x g (eqb x.sort 4 || eqb x.sort 5) refl
      by_name e None g = begins-unknown k None e g refl

      go : (b : Bool) → eqb k 1 ≡ b → Begins s ns k p x (cond b (variable_found (look_up s (spelling s p (name_bytes x)) ns 0)) None)
      go true e = by_name (eqb-true k 1 e) (look_up s (spelling s p (name_bytes x)) ns 0) refl
      go false e = begins-mark k (eqb-false k 1 e)

  -- the answers of `variable`
  module _ (k : ℕ) (f : Option Found) (e : k ≡ 1) (g : f ≡ look_up s (spelling s p (name_bytes x)) ns 0) where
    pub variable-name : (w : Found) → f ≡ Some w → (eqb w.sort 4 || eqb w.sort 5) ≡ true → Some w ≡ variable_of s ns k p x
    unfolding variable_of
    variable-name z h t = rw (eq-eqb k 1 e, ← g, h, t) refl

    pub variable-other : (w : Found) → f ≡ Some w → (eqb w.sort 4 || eqb w.sort 5) ≡ false → None ≡ variable_of s ns k p x
    unfolding variable_of
    variable-other z h t = rw (eq-eqb k 1 e, ← g, h, t) refl

    pub variable-unknown : f ≡ None → None ≡ variable_of s ns k p x
    unfolding variable_of
    variable-unknown h = rw (eq-eqb k 1 e, ← g, h) refl

  pub variable-mark : (k : ℕ) → (k ≡ 1 → ⊥) → None ≡ variable_of s ns k p x
  unfolding variable_of
  variable-mark k e = rw (ne_eqb k 1 e) refl

-- ---- linear terms, with and without sigmas

pub record TermOn (g : Bool) (s ns ts : List ℕ) (n at i a : ℕ) : Type 0 where
  pub on : (z : Result ℕ Refused) → Moves (λ names. linear_term names (sigmas_in g n names) g n (4096 - i)) s ns ts a z → Moves (term_in g n) s ns ts at z

module _ (g : Bool) (s ns ts : List ℕ) (n : ℕ) where
  star_rest : ℕ → Formula → List Name → ℕ → Reader Term
  star_rest k f names p = linear_term names (sigmas_in g n names) g n k >>= (λ r. give (factor f p r))

  factor_rest : ℕ → List Name → Formula → Reader Term
  factor_rest k names f = expect times_sign >>= star_rest k f names

  turn : ℕ → Token → List Name → Head → Reader Term
  turn k t names h = elim h as (λ _. Reader Term) [
    | a_sigma ↦ sigmas_in g n names t.place
    | a_variable i d ↦ subscripts_of n (inside_at names n) d >>= (λ fs. give (variable i d fs t.place))
    | a_primary ↦ primary_by names n (inside_at names n) t.place t.kind >>= factor_rest k names
  ]

  module _ (a : ℕ) (t : Result Seen Refused) (l : Looks ts a t) where
    term-wrong-at : (k : ℕ) → 0 < k → (e : Refused) → t ≡ Err e → Moves (λ names. linear_term names (sigmas_in g n names) g n k) s ns ts a (Err e)
    unfolding linear_term turn factor_rest star_rest
    term-wrong-at zero m z e = absurd (omega arith)
    term-wrong-at (suc k) m z e = record { matches = (next-wrong (λ names t. turn k t names (head_by names g t.kind)) s ns ts a z t l e).matches }

    -- what the token begins is h
    term-by : (k : ℕ) → 0 < k → (w : Seen) (r : Result ℕ Refused) → t ≡ Ok w
        → ((names : List Name) → Named s ns names → Matches (turn (k - 1) (token s w.kind w.place w.payload) names (head_by names g (kind_of s w.kind w.place w.payload)) (from s ts w.next)) s ts r)
        → Moves (λ names. linear_term names (sigmas_in g n names) g n k) s ns ts a r
    unfolding linear_term turn factor_rest star_rest token
    term-by zero m z r e f = absurd (omega arith)
    term-by (suc k) m z r e f =
        let c : suc k - 1 ≡ k = omega arith in
        record {
          matches = λ names d.
              subst (λ o. Matches (follow o (λ t. turn k t names (head_by names g t.kind))) s ts r) (sym (next-is s ts a z (subst (Sees s ts a) e (l.sees s))))
              (subst (λ k. Matches (turn k (token s z.kind z.place z.payload) names (head_by names g (kind_of s z.kind z.place z.payload)) (from s ts z.next)) s ts r) c (f names d));
        }

    sigma-begins : (x p y : ℕ) (names : List Name) → g ≡ true → x ≡ 134 → head_by names g (kind_of s x p y) ≡ a_sigma
    unfolding head_by kind_of
    sigma-begins x p y names e i = rw (e, i) refl

    sigmas-read : (p b : ℕ) (r : Result ℕ Refused) → g ≡ true → Moves (sigma_in n p) s ns ts b r → Moves (λ names. sigmas_in g n names p) s ns ts b r
    unfolding sigmas_in sigma_in
    sigmas-read p b r e h = record { matches = λ names d. subst (λ g. Matches (sigmas_in g n names p (from s ts b)) s ts r) (sym e) (h.matches names d) }

    term-sigma-at : (k : ℕ) → 0 < k → (w : Seen) (r : Result ℕ Refused) → t ≡ Ok w → g ≡ true → w.kind ≡ 134 → Moves (sigma_in n w.place) s ns ts w.next r
        → Moves (λ names. linear_term names (sigmas_in g n names) g n k) s ns ts a r
    unfolding turn token
    term-sigma-at k m z r e w i u =
        term-by k m z r e
        (λ names d. subst (λ h. Matches (turn (k - 1) (token s z.kind z.place z.payload) names h (from s ts z.next)) s ts r) (sym (sigma-begins z.kind z.place z.payload names w i)) ((sigmas-read z.place z.next r w u).matches names d))

    term-variable-at : (k : ℕ) → 0 < k → (w : Seen) (z : Found) (v : Option Found) (r : Result ℕ Refused) → t ≡ Ok w → Begins s ns w.kind w.place w.payload v → v ≡ Some z → Subscripts s ns ts n z.count w.next r
        → Moves (λ names. linear_term names (sigmas_in g n names) g n k) s ns ts a r
    unfolding turn
    term-variable-at k m o y v r e h w u =
        term-by k m o r e (λ names d. go names d (head_by names g (kind_of s o.kind o.place o.payload)) ((subst (Begins s ns o.kind o.place o.payload) w h).heads names d g))
      where
        go : (names : List Name) → Named s ns names → (h : Head) → Heads h g o.kind (Some y) → Matches (turn (k - 1) (token s o.kind o.place o.payload) names h (from s ts o.next)) s ts r
        go names d a_sigma q = absurd q
        go names d (a_variable i z) q = (given (λ names. subscripts_of n (inside_at names n) z) (λ names fs. variable i z fs (token s o.kind o.place o.payload).place) s ns ts o.next r (u.moves z q.1)).matches names d
        go names d a_primary q = absurd q

    -- a primary, read anew from its token
    primary-read : (w : Seen) (q : Result ℕ Refused) → t ≡ Ok w → Moves (primary_in n) s ns ts a q → Moves (λ names. primary_by names n (inside_at names n) w.place (kind_of s w.kind w.place w.payload)) s ns ts w.next q
    unfolding primary_in primary_of token
    primary-read z q e h =
        record {
          matches = λ names d.
              subst (λ o. Matches (follow o (λ t. primary_by names n (inside_at names n) t.place t.kind)) s ts q) (next-is s ts a z (subst (Sees s ts a) e (l.sees s))) (h.matches names d);
        }

    no-sigma : (x : ℕ) → (g && eqb x 134) ≡ false → g ≡ true → x ≡ 134 → ⊥
    no-sigma x e w i = false-true (sym (subst (λ v. (v && eqb x 134) ≡ false) w e) ∙ eq-eqb x 134 i)

    term-primary-at : (k : ℕ) → 0 < k → (w : Seen) (v : Option Found) (r : Result ℕ Refused) → t ≡ Ok w → (g && eqb w.kind 134) ≡ false → Begins s ns w.kind w.place w.payload v → v ≡ None
        → Moves (λ names. primary_by names n (inside_at names n) w.place (kind_of s w.kind w.place w.payload) >>= factor_rest (k - 1) names) s ns ts w.next r
        → Moves (λ names. linear_term names (sigmas_in g n names) g n k) s ns ts a r
    unfolding turn token
    term-primary-at k m y' v r e o h w u =
        term-by k m y' r e (λ names d. go names d (head_by names g (kind_of s y'.kind y'.place y'.payload)) ((subst (Begins s ns y'.kind y'.place y'.payload) w h).heads names d g))
      where
        go : (names : List Name) → Named s ns names → (h : Head) → Heads h g y'.kind None → Matches (turn (k - 1) (token s y'.kind y'.place y'.payload) names h (from s ts y'.next)) s ts r
        go names d a_sigma q = absurd (no-sigma y'.kind o q.0 q.1)
        go names d (a_variable i z) q = absurd q
        go names d a_primary q = u.matches names d

-- ---- the loop

both : (g h : Bool) → (g && h) ≡ true → g ≡ true
both true h e = refl
both false h e = e

module _ (g : Bool) (s ns ts : List ℕ) (n at : ℕ) where
  pub term-start : TermOn g s ns ts n at 0 at
  unfolding token_limit term_in
  term-start = record { on = λ z h. record { matches = h.matches } }

  pub term-none : (j a : ℕ) → TermOn g s ns ts n at j a → 4096 ≤ j → Moves (term_in g n) s ns ts at (Err (record { refusal = Full; place = 0 }))
  unfolding linear_term
  term-none j a o h = o.on (Err (record { refusal = Full; place = 0 })) (go (4096 - j) (omega (arith, h)))
    where
      go : (k : ℕ) → k ≡ 0 → Moves (λ names. linear_term names (sigmas_in g n names) g n k) s ns ts a (Err (record { refusal = Full; place = 0 }))
      go zero e = record { matches = λ names d. (refl, refl) }
      go (suc k) e = absurd (omega arith)

  module _ (j a : ℕ) (t : Result Seen Refused) (o : TermOn g s ns ts n at j a) (m : j < 4096) (l : Looks ts a t) where
    pub term-wrong : (e : Refused) → t ≡ Err e → Moves (term_in g n) s ns ts at (Err e)
    term-wrong z e = o.on (Err z) (term-wrong-at g s ns ts n a t l (4096 - j) (omega (arith, m)) z e)

    pub term-sigma : (w : Seen) (r : Result ℕ Refused) → t ≡ Ok w → (g && eqb w.kind 134) ≡ true → Moves (sigma_in n w.place) s ns ts w.next r → Moves (term_in g n) s ns ts at r
    term-sigma z r e i u =
        let w : g ≡ true = both g (eqb z.kind 134) i in
        o.on r (term-sigma-at g s ns ts n a t l (4096 - j) (omega (arith, m)) z r e w (eqb→eq z.kind 134 (subst T (sym (subst (λ v. (v && eqb z.kind 134) ≡ true) w i)) tt)) u)

    pub term-variable : (w : Seen) (z : Found) (v : Option Found) (r : Result ℕ Refused) → t ≡ Ok w → v ≡ variable_of s ns w.kind w.place w.payload → v ≡ Some z → Subscripts s ns ts n z.count w.next r → Moves (term_in g n) s ns ts at r
    term-variable z y v r e h w u = o.on r (term-variable-at g s ns ts n a t l (4096 - j) (omega (arith, m)) z y v r e (begins-of s ns z.place z.payload z.kind v h) w u)

    module _ (y' : Seen) (v : Option Found) (e : t ≡ Ok y') (no : (g && eqb y'.kind 134) ≡ false) (told : v ≡ variable_of s ns y'.kind y'.place y'.payload) (w : v ≡ None) (q : Result ℕ Refused) (f : Moves (primary_in n) s ns ts a q) where
      h : Begins s ns y'.kind y'.place y'.payload v
      h = begins-of s ns y'.place y'.payload y'.kind v told

      pub term-primary : (e : Refused) → q ≡ Err e → Moves (term_in g n) s ns ts at q
      term-primary y z =
          o.on q
          (term-primary-at g s ns ts n a t l (4096 - j) (omega (arith, m)) y' v q e no h w
          (stops (λ names. primary_by names n (inside_at names n) y'.place (kind_of s y'.kind y'.place y'.payload)) (factor_rest g s ns ts n (4096 - j - 1)) s ns ts y'.next q (primary-read g s ns ts n a t l y' q e f) y z))

      pub term-star : (c : ℕ) (e : Refused) (r : Result ℕ Refused) → q ≡ Ok c → Moves (expect_in times_sign) s ns ts c r → r ≡ Err e → Moves (term_in g n) s ns ts at r
      unfolding factor_rest expect_in
      term-star c y r z u ε =
          o.on r
          (term-primary-at g s ns ts n a t l (4096 - j) (omega (arith, m)) y' v r e no h w
          (goes (λ names. primary_by names n (inside_at names n) y'.place (kind_of s y'.kind y'.place y'.payload)) (factor_rest g s ns ts n (4096 - j - 1)) s ns ts y'.next q (primary-read g s ns ts n a t l y' q e f) c r z
          (λ φ. stops (λ names. expect times_sign) (star_rest g s ns ts n (4096 - j - 1) φ) s ns ts c r (record { matches = u.matches }) y ε)))

      pub term-on : (c d : ℕ) (r : Result ℕ Refused) → q ≡ Ok c → Moves (expect_in times_sign) s ns ts c r → r ≡ Ok d → TermOn g s ns ts n at (j + 1) d
      unfolding factor_rest expect_in star_rest
      term-on c d r z u ε =
          record {
            on = λ ζ η.
                o.on ζ
                (term-primary-at g s ns ts n a t l (4096 - j) (omega (arith, m)) y' v ζ e no h w
                (goes (λ names. primary_by names n (inside_at names n) y'.place (kind_of s y'.kind y'.place y'.payload)) (factor_rest g s ns ts n (4096 - j - 1)) s ns ts y'.next q (primary-read g s ns ts n a t l y' q e f) c ζ z
                (λ φ. goes (λ names. expect times_sign) (star_rest g s ns ts n (4096 - j - 1) φ) s ns ts c r (record { matches = u.matches }) d ζ ε
                (λ π. given (λ names. linear_term names (sigmas_in g n names) g n (4096 - j - 1)) (λ names ρ. factor φ π ρ) s ns ts d ζ (rest ζ η)))));
          }
        where
          rest : (z : Result ℕ Refused) → Moves (λ names. linear_term names (sigmas_in g n names) g n (4096 - (j + 1))) s ns ts d z → Moves (λ names. linear_term names (sigmas_in g n names) g n (4096 - j - 1)) s ns ts d z
          rest z u = let q : 4096 - (j + 1) ≡ 4096 - j - 1 = omega arith in subst (λ k. Moves (λ names. linear_term names (sigmas_in g n names) g n k) s ns ts d z) q u

-- ---- terms joined by signs

pub record TermsOn (g : Bool) (s ns ts : List ℕ) (n at i a : ℕ) : Type 0 where
  pub on : (z : Result ℕ Refused) → Moves (terms_in g n (4096 - i)) s ns ts a z → Moves (terms_in g n token_limit) s ns ts at z

module _ (g : Bool) (s ns ts : List ℕ) (n : ℕ) where
  also_rest : ℕ → Bool → List Name → Term → Reader Form
  also_rest k b names u = linear_terms (term_in g n names) k >>= (λ f. give (also b u f))

  joint : ℕ → Token → List Name → Bool → Reader Form
  joint k t names b = elim b as (λ _. Reader Form) [
    | true ↦ next >>= (λ _. term_in g n names >>= also_rest k (is_mark minus_sign t) names)
    | false ↦ give Syntax.end
  ]

  module _ (at : ℕ) where
    pub terms-start : TermsOn g s ns ts n at 0 at
    unfolding token_limit
    terms-start = record { on = λ z h. h }

    pub terms-none : (j a : ℕ) → TermsOn g s ns ts n at j a → 4096 ≤ j → Moves (terms_in g n token_limit) s ns ts at (Ok a)
    unfolding terms_in linear_terms
    terms-none j a o h = o.on (Ok a) (go (4096 - j) (omega (arith, h)))
      where
        go : (k : ℕ) → k ≡ 0 → Moves (terms_in g n k) s ns ts a (Ok a)
        go zero e = record { matches = λ names d. refl }
        go (suc k) e = absurd (omega arith)

    module _ (j a : ℕ) (t : Result Seen Refused) (o : TermsOn g s ns ts n at j a) (m : j < 4096) (l : Looks ts a t) where
      terms-wrong-at : (k : ℕ) → 0 < k → (e : Refused) → t ≡ Err e → Moves (terms_in g n k) s ns ts a (Err e)
      unfolding terms_in linear_terms joint also_rest
      terms-wrong-at zero m z e = absurd (omega arith)
      terms-wrong-at (suc k) m z e = record { matches = (look-wrong (λ names t. joint k t names (is_sum t)) s ns ts a z t l e).matches }

      pub terms-wrong : (e : Refused) → t ≡ Err e → Moves (terms_in g n token_limit) s ns ts at (Err e)
      terms-wrong z e = o.on (Err z) (terms-wrong-at (4096 - j) (omega (arith, m)) z e)

      terms-by : (k : ℕ) → 0 < k → (w : Seen) (v : Bool) (r : Result ℕ Refused) → t ≡ Ok w → (eqb w.kind 43 || eqb w.kind 45) ≡ v
          → ((names : List Name) → Named s ns names → Matches (joint (k - 1) (token s w.kind w.place w.payload) names v (from s ts a)) s ts r) → Moves (terms_in g n k) s ns ts a r
      unfolding terms_in linear_terms joint also_rest
      terms-by zero m z v r e i f = absurd (omega arith)
      terms-by (suc k) m z v r e i f =
          let c : suc k - 1 ≡ k = omega arith in
          record {
            matches = λ names d.
                subst (λ o. Matches (follow o (λ t. joint k t names (is_sum t))) s ts r) (sym (look_is s ts a z (subst (Sees s ts a) e (l.sees s))))
                (subst (λ v. Matches (joint k (token s z.kind z.place z.payload) names v (from s ts a)) s ts r) (sym (is_sum_lem s ns ts a t l z.kind z.place z.payload ∙ i))
                (subst (λ k. Matches (joint k (token s z.kind z.place z.payload) names v (from s ts a)) s ts r) c (f names d)));
          }

      pub terms-end : (w : Seen) → t ≡ Ok w → (eqb w.kind 43 || eqb w.kind 45) ≡ false → Moves (terms_in g n token_limit) s ns ts at (Ok a)
      unfolding joint
      terms-end z e i = o.on (Ok a) (terms-by (4096 - j) (omega (arith, m)) z false (Ok a) e i (λ names d. refl))

      pub terms-refused : (w : Seen) (e : Refused) (r : Result ℕ Refused) → t ≡ Ok w → (eqb w.kind 43 || eqb w.kind 45) ≡ true → Moves (term_in g n) s ns ts w.next r → r ≡ Err e
          → Moves (terms_in g n token_limit) s ns ts at r
      unfolding joint
      terms-refused y' w r e i u z =
          o.on r
          (terms-by (4096 - j) (omega (arith, m)) y' true r e i
          (λ names d. (then_at (λ names. next) (λ names _. term_in g n names >>= also_rest (4096 - j - 1) (is_mark minus_sign (token s y'.kind y'.place y'.payload)) names) s ns ts a y'.next r (next-read s ns ts a t l y' e)
          (λ _. stops (term_in g n) (also_rest (4096 - j - 1) (is_mark minus_sign (token s y'.kind y'.place y'.payload))) s ns ts y'.next r u w z)).matches names d))

      pub terms-on : (w : Seen) (c : ℕ) (r : Result ℕ Refused) → t ≡ Ok w → (eqb w.kind 43 || eqb w.kind 45) ≡ true → Moves (term_in g n) s ns ts w.next r → r ≡ Ok c → TermsOn g s ns ts n at (j + 1) c
      unfolding joint also_rest terms_in
      terms-on y' c r e i u z =
          record {
            on = λ ζ η.
                o.on ζ
                (terms-by (4096 - j) (omega (arith, m)) y' true ζ e i
                (λ names d. (then_at (λ names. next) (λ names _. term_in g n names >>= also_rest (4096 - j - 1) (is_mark minus_sign (token s y'.kind y'.place y'.payload)) names) s ns ts a y'.next ζ (next-read s ns ts a t l y' e)
                (λ _. goes (term_in g n) (also_rest (4096 - j - 1) (is_mark minus_sign (token s y'.kind y'.place y'.payload))) s ns ts y'.next r u c ζ z
                (λ w. given (λ names. linear_terms (term_in g n names) (4096 - j - 1)) (λ names f. also (is_mark minus_sign (token s y'.kind y'.place y'.payload)) w f) s ns ts c ζ (record { matches = (rest ζ η).matches })))).matches names d));
          }
        where
          rest : (z : Result ℕ Refused) → Moves (terms_in g n (4096 - (j + 1))) s ns ts c z → Moves (terms_in g n (4096 - j - 1)) s ns ts c z
          rest z u = let q : 4096 - (j + 1) ≡ 4096 - j - 1 = omega arith in subst (λ k. Moves (terms_in g n k) s ns ts c z) q u

-- ---- forms

module _ (g : Bool) (s ns ts : List ℕ) (n at : ℕ) (r : Result ℕ Refused) (h : Moves sign_in s ns ts at r) where
  end_rest : Signed → List Name → Term → Reader Linear
  end_rest z names u = linear_terms (term_in g n names) token_limit >>= (λ f. give (record { signed = z.written; form = also z.negative u f }))

  sign_rest : List Name → Signed → Reader Linear
  sign_rest names z = term_in g n names >>= end_rest z names

  pub form-sign : (e : Refused) → r ≡ Err e → Moves (form_in g n) s ns ts at r
  unfolding form_in linear_of sign_in sign_rest end_rest
  form-sign z e = record { matches = (stops (λ names. read_sign) sign_rest s ns ts at r (record { matches = h.matches }) z e).matches }

  pub form-term : (a : ℕ) (e : Refused) (q : Result ℕ Refused) → r ≡ Ok a → Moves (term_in g n) s ns ts a q → q ≡ Err e → Moves (form_in g n) s ns ts at q
  unfolding form_in linear_of sign_in sign_rest end_rest
  form-term a y q e u z =
      record { matches = (goes (λ names. read_sign) sign_rest s ns ts at r (record { matches = h.matches }) a q e (λ w. stops (term_in g n) (end_rest w) s ns ts a q u y z)).matches }

  pub form-rest : (a b : ℕ) (q z : Result ℕ Refused) → r ≡ Ok a → Moves (term_in g n) s ns ts a q → q ≡ Ok b → Moves (terms_in g n token_limit) s ns ts b z → Moves (form_in g n) s ns ts at z
  unfolding form_in linear_of sign_in sign_rest end_rest terms_in
  form-rest a b q z e u y v =
      record {
        matches = (goes (λ names. read_sign) sign_rest s ns ts at r (record { matches = h.matches }) a z e
            (λ w. goes (term_in g n) (end_rest w) s ns ts a q u b z y
            (λ x. given (λ names. linear_terms (term_in g n names) token_limit) (λ names f. record { signed = w.written; form = also w.negative x f }) s ns ts b z (record { matches = v.matches })))).matches;
      }

pub linear-form : (s ns ts : List ℕ) (n at : ℕ) (r : Result ℕ Refused) → Moves (form_in true n) s ns ts at r → Moves (linear_in n) s ns ts at r
unfolding form_in linear_in linear_at term_in sigmas_in
linear-form s ns ts n at r h = record { matches = h.matches }

-- ---- sigmas

module _ (s ns ts : List ℕ) where
  body_turn : ℕ → Token → List Name → Bool → Reader Form
  body_turn n t names b = elim b as (λ _. Reader Form) [
    | true ↦ next >>= (λ _. sigma_at names n t.place >>= (λ u. give (also false u Syntax.end)))
    | false ↦ plain_form names n
  ]

  module _ (n at : ℕ) (t : Result Seen Refused) (l : Looks ts at t) where
    pub body-wrong : (e : Refused) → t ≡ Err e → Moves (body_in n) s ns ts at (Err e)
    unfolding body_in body_of body_turn
    body-wrong z e = record { matches = (look-wrong (λ names t. body_turn n t names (is_mark sigma_word t)) s ns ts at z t l e).matches }

    is-sigma : (x p y : ℕ) → is_mark sigma_word (token s x p y) ≡ eqb x 134
    unfolding token
    is-sigma x p y = rw (mark-of s x p y) (mark-same x 134 (omega arith))

    body-by : (w : Seen) (v : Bool) (r : Result ℕ Refused) → t ≡ Ok w → eqb w.kind 134 ≡ v
        → ((names : List Name) → Named s ns names → Matches (body_turn n (token s w.kind w.place w.payload) names v (from s ts at)) s ts r) → Moves (body_in n) s ns ts at r
    unfolding body_in body_of body_turn
    body-by z v r e i f =
        record {
          matches = λ names d.
              subst (λ o. Matches (follow o (λ t. body_turn n t names (is_mark sigma_word t))) s ts r) (sym (look_is s ts at z (subst (Sees s ts at) e (l.sees s))))
              (subst (λ v. Matches (body_turn n (token s z.kind z.place z.payload) names v (from s ts at)) s ts r) (sym (is-sigma z.kind z.place z.payload ∙ i)) (f names d));
        }

    pub body-sigma : (w : Seen) (r : Result ℕ Refused) → t ≡ Ok w → w.kind ≡ 134 → Moves (sigma_in n w.place) s ns ts w.next r → Moves (body_in n) s ns ts at r
    unfolding body_turn sigma_in token
    body-sigma z r e i u =
        body-by z true r e (eq-eqb z.kind 134 i)
        (λ names d. (then_at (λ names. next) (λ names _. sigma_at names n z.place >>= (λ u. give (also false u Syntax.end))) s ns ts at z.next r
        (record { matches = λ names d. rw (next-is s ts at z (subst (Sees s ts at) e (l.sees s))) refl })
        (λ _. given (λ names. sigma_at names n z.place) (λ names u. also false u Syntax.end) s ns ts z.next r (record { matches = u.matches }))).matches names d)

    pub body-plain : (w : Seen) (r : Result ℕ Refused) → t ≡ Ok w → (w.kind ≡ 134 → ⊥) → Moves (form_in false n) s ns ts at r → Moves (body_in n) s ns ts at r
    unfolding body_turn plain_form form_in term_in sigmas_in
    body-plain z r e i u =
        body-by z false r e (ne_eqb z.kind 134 i) (λ names d. (given (λ names. linear_of (term_in false n names)) (λ names l. l.form) s ns ts at r (record { matches = u.matches })).matches names d)

  close_rest : ℕ → Used → Formula → Formula → List Name → Form → Reader Term
  close_rest p i f g names h = expect closes >>= (λ _. give (sigma i.number f g h p))

  body_rest : ℕ → ℕ → Used → Formula → List Name → Formula → Reader Term
  body_rest n p i f names g = body_of names (sigma_at names n) n >>= close_rest p i f g names

  upper_rest : ℕ → ℕ → Used → List Name → Formula → Reader Term
  upper_rest n p i names f = part_of (formula_at names n) comma >>= body_rest n p i f names

  lower_rest : ℕ → ℕ → List Name → Used → Reader Term
  lower_rest n p names i = part_of (formula_at names n) comma >>= upper_rest n p i names

  sigma-head-at : (n p at : ℕ) (e : Refused) (r : Result ℕ Refused) → Moves (head_in n) s ns ts at r → r ≡ Err e → Moves (sigma_in n p) s ns ts at r
  unfolding sigma_in sigma_at head_in lower_rest upper_rest body_rest close_rest
  sigma-head-at zero p at z r h e = record { matches = (stops (λ names. head_of names zero) (λ names _. refuse Full 0) s ns ts at r (record { matches = h.matches }) z e).matches }
  sigma-head-at (suc n) p at z r h e = record { matches = (stops (λ names. head_of names (suc n)) (lower_rest n p) s ns ts at r (record { matches = h.matches }) z e).matches }

  sigma-full-at : (n p at a : ℕ) (r : Result ℕ Refused) → Moves (head_in n) s ns ts at r → r ≡ Ok a → n ≡ 0 → Moves (sigma_in n p) s ns ts at (Err (record { refusal = Full; place = 0 }))
  unfolding sigma_in sigma_at head_in
  sigma-full-at zero p at a r h e z =
      record { matches = (goes (λ names. head_of names zero) (λ names _. refuse Full 0) s ns ts at r (record { matches = h.matches }) a (Err (record { refusal = Full; place = 0 })) e (λ _. record { matches = λ names d. (refl, refl) })).matches }
  sigma-full-at (suc n) p at a r h e z = absurd (omega arith)

  -- behind the head, with the nesting of the formulas inside
  sigma-goes : (n p at a : ℕ) (r z : Result ℕ Refused) → Moves (head_in n) s ns ts at r → r ≡ Ok a → (n ≡ 0 → ⊥) → ((i : Used) → Moves (λ names. lower_rest (n - 1) p names i) s ns ts a z)
      → Moves (sigma_in n p) s ns ts at z
  unfolding sigma_in sigma_at head_in lower_rest upper_rest body_rest close_rest
  sigma-goes zero p at a r z h e o k = absurd (o refl)
  sigma-goes (suc n) p at a r z h e o k =
      let c : suc n - 1 ≡ n = omega arith in
      record { matches = (goes (λ names. head_of names (suc n)) (lower_rest n p) s ns ts at r (record { matches = h.matches }) a z e (λ i. subst (λ n. Moves (λ names. lower_rest n p names i) s ns ts a z) c (k i))).matches }

  part-as : (n a c : ℕ) (r : Result ℕ Refused) → (n ≡ 0 → ⊥) → Moves (part_in n c) s ns ts a r → Moves (λ names. part_of (formula_at names (n - 1)) c) s ns ts a r
  unfolding part_in formula_at
  part-as zero a c r o h = absurd (o refl)
  part-as (suc n) a c r o h =
      let d : suc n - 1 ≡ n = omega arith in
      record { matches = λ names y. subst (λ n. Matches (part_of (inside_at names (suc n)) c (from s ts a)) s ts r) (sym d) (h.matches names y) }

  module _ (n p at : ℕ) (r : Result ℕ Refused) (h : Moves (head_in n) s ns ts at r) where
    pub sigma-head : (e : Refused) → r ≡ Err e → Moves (sigma_in n p) s ns ts at r
    sigma-head z e = sigma-head-at n p at z r h e

    pub sigma-full : (a : ℕ) → r ≡ Ok a → n ≡ 0 → Moves (sigma_in n p) s ns ts at (Err (record { refusal = Full; place = 0 }))
    sigma-full a e z = sigma-full-at n p at a r h e z

    module _ (a : ℕ) (x : Result ℕ Refused) (e : r ≡ Ok a) (o : n ≡ 0 → ⊥) (g : Moves (part_in n comma) s ns ts a x) where
      pub sigma-lower : (e : Refused) → x ≡ Err e → Moves (sigma_in n p) s ns ts at x
      unfolding lower_rest
      sigma-lower z y = sigma-goes n p at a r x h e o (λ i. stops (λ names. part_of (formula_at names (n - 1)) comma) (upper_rest (n - 1) p i) s ns ts a x (part-as n a comma x o g) z y)

      -- behind the lower limit
      lower-goes : (b : ℕ) (z : Result ℕ Refused) → x ≡ Ok b → ((i : Used) (f : Formula) → Moves (λ names. upper_rest (n - 1) p i names f) s ns ts b z) → Moves (sigma_in n p) s ns ts at z
      unfolding lower_rest
      lower-goes b z y k = sigma-goes n p at a r z h e o (λ i. goes (λ names. part_of (formula_at names (n - 1)) comma) (upper_rest (n - 1) p i) s ns ts a x (part-as n a comma x o g) b z y (k i))

      module _ (b : ℕ) (z : Result ℕ Refused) (y : x ≡ Ok b) (k : Moves (part_in n comma) s ns ts b z) where
        pub sigma-upper : (e : Refused) → z ≡ Err e → Moves (sigma_in n p) s ns ts at z
        unfolding upper_rest
        sigma-upper y' w = lower-goes b z y (λ i f. stops (λ names. part_of (formula_at names (n - 1)) comma) (body_rest (n - 1) p i f) s ns ts b z (part-as n b comma z o k) y' w)

        upper-goes : (c : ℕ) (v : Result ℕ Refused) → z ≡ Ok c → ((i : Used) (f u : Formula) → Moves (λ names. body_rest (n - 1) p i f names u) s ns ts c v) → Moves (sigma_in n p) s ns ts at v
        unfolding upper_rest
        upper-goes c v w j = lower-goes b v y (λ i f. goes (λ names. part_of (formula_at names (n - 1)) comma) (body_rest (n - 1) p i f) s ns ts b z (part-as n b comma z o k) c v w (j i f))

        module _ (c : ℕ) (v : Result ℕ Refused) (w : z ≡ Ok c) (u : Moves (body_in (n - 1)) s ns ts c v) where
          pub sigma-body : (e : Refused) → v ≡ Err e → Moves (sigma_in n p) s ns ts at v
          unfolding body_rest body_in
          sigma-body z ε =
              upper-goes c v w (λ i f g. stops (λ names. body_of names (sigma_at names (n - 1)) (n - 1)) (close_rest p i f g) s ns ts c v (record { matches = u.matches }) z ε)

          pub sigma-close : (d : ℕ) (η : Result ℕ Refused) → v ≡ Ok d → Moves (expect_in closes) s ns ts d η → Moves (sigma_in n p) s ns ts at η
          unfolding body_rest body_in close_rest expect_in
          sigma-close d η ε ζ =
              upper-goes c η w
              (λ i f g. goes (λ names. body_of names (sigma_at names (n - 1)) (n - 1)) (close_rest p i f g) s ns ts c v (record { matches = u.matches }) d η ε
              (λ β. given (λ names. expect closes) (λ names _. sigma i.number f g β p) s ns ts d η (record { matches = ζ.matches })))
