-- Laws over plain variables for the functions without loops.
use Rattle.std.specs.Prelude.{Err, None, Ok, Option, Result, Some}
use Rattle.rules.specs.declared.Refused.{Refused}
use mathlib.Core.Path.{◌≡◌, refl, sym, ◌∙◌, subst}
use mathlib.Core.Bool.{true, false, ◌||◌}
use mathlib.Core.List.{List}
use Prim.Native.Nat.{ℕ, zero, suc, ◌-◌}
use native.Mathlib.Omega.{arith}
use lib.Dec.{eqb}
use borrow.Author.Tests.{ne_eqb}
use Rattle.rules.specs.declared.Refusal.TheVariants.{Misplaced, BadName, Full}
use Rattle.rules.specs.Limits.{token_limit}
use Rattle.lexer.specs.Marks.{closes, comma}
use Rattle.language.specs.Syntax.{Name, Sort, Formula, datum, sum}
use Rattle.language.specs.Syntax
use Rattle.language.specs.Reader.{Reader, follow, ◌>>=◌, give, Used, expect}
use Rattle.language.specs.Formulas.{Signed, read_sign, negated, head_of, factors, term_of, summands, formula_of, part_of, sum_formula, subscripts_of, named_by, nested_of, primary_by, primary_of, inside_at, formula_at}
use Rattle.tokens.specs.declared.Seen.{Seen}
use Rattle.tokens.specs.declared.Found.{Found}
use Rattle.tokens.specs.Stored.{spelling, name_bytes, kind_of, token, from, Looks, look_up, Shaped, Named, Matches, Moves}
use Rattle.tokens.specs.Pieces.{expect_in, head_in, sign_in}
use Rattle.tokens.proofs.Tables.{false-true, declared}
use Rattle.tokens.proofs.Moved.{stops, goes, given, next-then, next-wrong, known-not, known_is}
use Rattle.formulas.specs.Cycle.{inside_in, formula_in, primary_in, term_in, part_in, sum_in, nested_in, named_in, Factors, Summands, Subscripts}

-- the readers of one nesting
abbrev pub inner : ℕ → List Name → Reader Formula
inner n names = inside_at names n

abbrev pub primaries : ℕ → List Name → Reader Formula
primaries n names = primary_of names n (inside_at names n)

abbrev pub terms : ℕ → List Name → Reader Formula
terms n names = term_of (primary_of names n (inside_at names n))

module _ (s ns ts : List ℕ) where
  -- ---- inside a bracket

  pub inside-full : (n at : ℕ) → n ≡ 0 → Moves (inside_in n) s ns ts at (Err (record { refusal = Full; place = 0 }))
  unfolding inside_in inside_at
  inside-full zero at e = record { matches = λ names d. (refl, refl) }
  inside-full (suc n) at e = absurd (omega arith)

  pub inside-formula : (n at : ℕ) (r : Result ℕ Refused) → (n ≡ 0 → ⊥) → Moves (formula_in (n - 1)) s ns ts at r → Moves (inside_in n) s ns ts at r
  unfolding inside_in formula_in formula_at
  inside-formula zero at r e h = absurd (e refl)
  inside-formula (suc n) at r e h =
      let d : suc n - 1 ≡ n = omega arith in
      record { matches = λ names y. subst (λ k. Matches (inside_at names (suc k) (from s ts at)) s ts r) d (h.matches names y) }

  -- ---- a formula and the sign after it

  part_rest : ℕ → List Name → Formula → Reader Formula
  part_rest c names f = expect c >>= (λ _. give f)

  pub part-refused : (n c at : ℕ) (e : Refused) (r : Result ℕ Refused) → Moves (inside_in n) s ns ts at r → r ≡ Err e → Moves (part_in n c) s ns ts at r
  unfolding part_in part_of inside_in part_rest
  part-refused n c at z r h e = record { matches = (stops (inner n) (part_rest c) s ns ts at r (record { matches = h.matches }) z e).matches }

  pub part-sign : (n c at a : ℕ) (r q : Result ℕ Refused) → Moves (inside_in n) s ns ts at r → r ≡ Ok a → Moves (expect_in c) s ns ts a q → Moves (part_in n c) s ns ts at q
  unfolding part_in part_of inside_in part_rest expect_in
  part-sign n c at a r q h e g =
      record {
        matches = (goes (inner n) (part_rest c) s ns ts at r (record { matches = h.matches }) a q e
            (λ f. given (λ names. expect c) (λ names _. f) s ns ts a q (record { matches = g.matches }))).matches;
      }

  pub nested-full : (n p at : ℕ) → n ≡ 0 → Moves (nested_in n p) s ns ts at (Err (record { refusal = Full; place = p }))
  unfolding nested_in nested_of
  nested-full zero p at e = record { matches = λ names d. (refl, refl) }
  nested-full (suc n) p at e = absurd (omega arith)

  pub nested-part : (n p at : ℕ) (r : Result ℕ Refused) → (n ≡ 0 → ⊥) → Moves (part_in n closes) s ns ts at r → Moves (nested_in n p) s ns ts at r
  unfolding nested_in nested_of part_in
  nested-part zero p at r e h = absurd (e refl)
  nested-part (suc n) p at r e h = record { matches = h.matches }

  -- ---- terms and formulas

  factors_rest : ℕ → List Name → Formula → Reader Formula
  factors_rest n names f = factors (primaries n names) token_limit f

  pub term-refused : (n at : ℕ) (e : Refused) (r : Result ℕ Refused) → Moves (primary_in n) s ns ts at r → r ≡ Err e → Moves (term_in n) s ns ts at r
  unfolding term_in term_of primary_in factors_rest
  term-refused n at z r h e = record { matches = (stops (primaries n) (factors_rest n) s ns ts at r (record { matches = h.matches }) z e).matches }

  pub term-rest : (n at a : ℕ) (r q : Result ℕ Refused) → Moves (primary_in n) s ns ts at r → r ≡ Ok a → Factors s ns ts n token_limit a q → Moves (term_in n) s ns ts at q
  unfolding term_in term_of primary_in factors_rest token_limit
  term-rest n at a r q h e g =
      record { matches = (goes (primaries n) (factors_rest n) s ns ts at r (record { matches = h.matches }) a q e (λ f. record { matches = (g.moves f).matches })).matches }

  summands_rest : ℕ → Signed → List Name → Formula → Reader Formula
  summands_rest n g names f = summands (terms n names) token_limit (negated g.negative f)

  formula_rest : ℕ → List Name → Signed → Reader Formula
  formula_rest n names g = terms n names >>= summands_rest n g names

  pub formula-sign : (n at : ℕ) (e : Refused) (r : Result ℕ Refused) → Moves sign_in s ns ts at r → r ≡ Err e → Moves (formula_in n) s ns ts at r
  unfolding formula_in formula_at inside_at formula_of sign_in formula_rest summands_rest
  formula-sign n at z r h e = record { matches = (stops (λ names. read_sign) (formula_rest n) s ns ts at r (record { matches = h.matches }) z e).matches }

  pub formula-term : (n at a : ℕ) (e : Refused) (r q : Result ℕ Refused) → Moves sign_in s ns ts at r → r ≡ Ok a → Moves (term_in n) s ns ts a q → q ≡ Err e → Moves (formula_in n) s ns ts at q
  unfolding formula_in formula_at inside_at formula_of sign_in formula_rest summands_rest term_in
  formula-term n at a z r q h e g y =
      record {
        matches = (goes (λ names. read_sign) (formula_rest n) s ns ts at r (record { matches = h.matches }) a q e
            (λ w. stops (terms n) (summands_rest n w) s ns ts a q (record { matches = g.matches }) z y)).matches;
      }

  pub formula-rest : (n at a b : ℕ) (r q z : Result ℕ Refused) → Moves sign_in s ns ts at r → r ≡ Ok a → Moves (term_in n) s ns ts a q → q ≡ Ok b → Summands s ns ts n token_limit b z
      → Moves (formula_in n) s ns ts at z
  unfolding formula_in formula_at inside_at formula_of sign_in formula_rest summands_rest term_in token_limit
  formula-rest n at a b r q z h e g y k =
      record {
        matches = (goes (λ names. read_sign) (formula_rest n) s ns ts at r (record { matches = h.matches }) a z e
            (λ w. goes (terms n) (summands_rest n w) s ns ts a q (record { matches = g.matches }) b z y (λ f. record { matches = (k.moves (negated w.negative f)).matches }))).matches;
      }

  -- ---- sums

  body_rest : ℕ → ℕ → Used → Formula → List Name → Formula → Reader Formula
  body_rest n p i f names g = part_of (inner n names) closes >>= (λ h. give (sum i.number f g h p))

  upper_rest : ℕ → ℕ → Used → List Name → Formula → Reader Formula
  upper_rest n p i names f = part_of (inner n names) comma >>= body_rest n p i f names

  lower_rest : ℕ → ℕ → List Name → Used → Reader Formula
  lower_rest n p names i = part_of (inner n names) comma >>= upper_rest n p i names

  module _ (n p at : ℕ) (r : Result ℕ Refused) (h : Moves (head_in n) s ns ts at r) where
    pub sum_head : (e : Refused) → r ≡ Err e → Moves (sum_in n p) s ns ts at r
    unfolding sum_in sum_formula head_in lower_rest upper_rest body_rest
    sum_head z e = record { matches = (stops (λ names. head_of names n) (lower_rest n p) s ns ts at r (record { matches = h.matches }) z e).matches }

    pub sum-lower : (a : ℕ) (e : Refused) (x : Result ℕ Refused) → r ≡ Ok a → Moves (part_in n comma) s ns ts a x → x ≡ Err e → Moves (sum_in n p) s ns ts at x
    unfolding sum_in sum_formula head_in lower_rest upper_rest body_rest part_in
    sum-lower a z x e g y =
        record {
          matches = (goes (λ names. head_of names n) (lower_rest n p) s ns ts at r (record { matches = h.matches }) a x e
              (λ i. stops (λ names. part_of (inner n names) comma) (upper_rest n p i) s ns ts a x (record { matches = g.matches }) z y)).matches;
        }

    pub sum-upper : (a b : ℕ) (e : Refused) (x z : Result ℕ Refused) → r ≡ Ok a → Moves (part_in n comma) s ns ts a x → x ≡ Ok b → Moves (part_in n comma) s ns ts b z → z ≡ Err e → Moves (sum_in n p) s ns ts at z
    unfolding sum_in sum_formula head_in lower_rest upper_rest body_rest part_in
    sum-upper a b w x z e g y k l =
        record {
          matches = (goes (λ names. head_of names n) (lower_rest n p) s ns ts at r (record { matches = h.matches }) a z e
              (λ i. goes (λ names. part_of (inner n names) comma) (upper_rest n p i) s ns ts a x (record { matches = g.matches }) b z y
              (λ f. stops (λ names. part_of (inner n names) comma) (body_rest n p i f) s ns ts b z (record { matches = k.matches }) w l))).matches;
        }

    pub sum_body : (a b c : ℕ) (x z v : Result ℕ Refused) → r ≡ Ok a → Moves (part_in n comma) s ns ts a x → x ≡ Ok b → Moves (part_in n comma) s ns ts b z → z ≡ Ok c
        → Moves (part_in n closes) s ns ts c v → Moves (sum_in n p) s ns ts at v
    unfolding sum_in sum_formula head_in lower_rest upper_rest body_rest part_in
    sum_body a b c x z v e g y k l o =
        record {
          matches = (goes (λ names. head_of names n) (lower_rest n p) s ns ts at r (record { matches = h.matches }) a v e
              (λ i. goes (λ names. part_of (inner n names) comma) (upper_rest n p i) s ns ts a x (record { matches = g.matches }) b v y
              (λ f. goes (λ names. part_of (inner n names) comma) (body_rest n p i f) s ns ts b z (record { matches = k.matches }) c v l
              (λ w. given (λ names. part_of (inner n names) closes) (λ names u. sum i.number f w u p) s ns ts c v (record { matches = o.matches }))))).matches;
        }

  -- ---- names

  named_rest : ℕ → ℕ → List Name → Used → Reader Formula
  named_rest n p names u = named_by n (inner n names) u.number p u.sort

  pub named-unknown : (n p x at : ℕ) (f : Option Found) → f ≡ look_up s (spelling s p x) ns 0 → f ≡ None → Moves (named_in s n p x) s ns ts at (Err (record { refusal = BadName; place = p }))
  unfolding named_in
  named-unknown n p x at f e g = record { matches = λ names d. rw (known-not s ns names p x (from s ts at) d (sym e ∙ g)) (refl, refl) }

  named-by : (n p x at : ℕ) (w : Found) (f : Option Found) (r : Result ℕ Refused) → f ≡ look_up s (spelling s p x) ns 0 → f ≡ Some w
      → ((names : List Name) → Named s ns names → (i : ℕ) (y : Sort) → Shaped y w.sort w.count → Matches (named_by n (inner n names) i p y (from s ts at)) s ts r)
      → Moves (named_in s n p x) s ns ts at r
  unfolding named_in named_rest
  named-by n p x at z f r e g h =
      record {
        matches = λ names d.
            let u = declared s (spelling s p x) ns names 0 p z d (sym e ∙ g) in
            subst (λ o. Matches (follow o (named_rest n p names)) s ts r) (sym (known_is s names p x z.number z.sort z.count (from s ts at) u)) (h names d u.used.number u.used.sort u.shaped);
      }

  pub named-plain : (n p x at : ℕ) (w : Found) (f : Option Found) → f ≡ look_up s (spelling s p x) ns 0 → f ≡ Some w → (eqb w.sort 0 || eqb w.sort 3) ≡ true → Moves (named_in s n p x) s ns ts at (Ok at)
  unfolding named_by
  named-plain n p x at z f e g t = named-by n p x at z f (Ok at) e g go
    where
      go : (names : List Name) → Named s ns names → (i : ℕ) (y : Sort) → Shaped y z.sort z.count → Matches (named_by n (inner n names) i p y (from s ts at)) s ts (Ok at)
      go names d i Syntax.index h = refl
      go names d i (Syntax.integer y) h = absurd (false-true (subst (λ k. (eqb k 0 || eqb k 3) ≡ true) h.0 t))
      go names d i (Syntax.real y) h = absurd (false-true (subst (λ k. (eqb k 0 || eqb k 3) ≡ true) h.0 t))
      go names d i (Syntax.formula y) h = refl
      go names d i (Syntax.discrete y) h = absurd (false-true (subst (λ k. (eqb k 0 || eqb k 3) ≡ true) h.0 t))
      go names d i (Syntax.continuous y) h = absurd (false-true (subst (λ k. (eqb k 0 || eqb k 3) ≡ true) h.0 t))

  pub named-datum : (n p x at : ℕ) (w : Found) (f : Option Found) (r : Result ℕ Refused) → f ≡ look_up s (spelling s p x) ns 0 → f ≡ Some w → (eqb w.sort 1 || eqb w.sort 2) ≡ true → Subscripts s ns ts n w.count at r
      → Moves (named_in s n p x) s ns ts at r
  unfolding named_by
  named-datum n p x at z f r e g t w = named-by n p x at z f r e g go
    where
      go : (names : List Name) → Named s ns names → (i : ℕ) (y : Sort) → Shaped y z.sort z.count → Matches (named_by n (inner n names) i p y (from s ts at)) s ts r
      go names d i Syntax.index h = absurd (false-true (subst (λ k. (eqb k 1 || eqb k 2) ≡ true) h t))
      go names d i (Syntax.integer y) h = (given (λ names. subscripts_of n (inner n names) y) (λ names fs. datum i y fs p) s ns ts at r (w.moves y h.1)).matches names d
      go names d i (Syntax.real y) h = (given (λ names. subscripts_of n (inner n names) y) (λ names fs. datum i y fs p) s ns ts at r (w.moves y h.1)).matches names d
      go names d i (Syntax.formula y) h = absurd (false-true (subst (λ k. (eqb k 1 || eqb k 2) ≡ true) h t))
      go names d i (Syntax.discrete y) h = absurd (false-true (subst (λ k. (eqb k 1 || eqb k 2) ≡ true) h.0 t))
      go names d i (Syntax.continuous y) h = absurd (false-true (subst (λ k. (eqb k 1 || eqb k 2) ≡ true) h.0 t))

  pub named_other : (n p x at : ℕ) (w : Found) (f : Option Found) → f ≡ look_up s (spelling s p x) ns 0 → f ≡ Some w → (eqb w.sort 0 || eqb w.sort 3) ≡ false → (eqb w.sort 1 || eqb w.sort 2) ≡ false
      → Moves (named_in s n p x) s ns ts at (Err (record { refusal = Misplaced; place = p }))
  unfolding named_by
  named_other n p x at z f e g t v = named-by n p x at z f (Err (record { refusal = Misplaced; place = p })) e g go
    where
      go : (names : List Name) → Named s ns names → (i : ℕ) (y : Sort) → Shaped y z.sort z.count → Matches (named_by n (inner n names) i p y (from s ts at)) s ts (Err (record { refusal = Misplaced; place = p }))
      go names d i Syntax.index h = absurd (false-true (sym (subst (λ k. (eqb k 0 || eqb k 3) ≡ false) h t)))
      go names d i (Syntax.integer y) h = absurd (false-true (sym (subst (λ k. (eqb k 1 || eqb k 2) ≡ false) h.0 v)))
      go names d i (Syntax.real y) h = absurd (false-true (sym (subst (λ k. (eqb k 1 || eqb k 2) ≡ false) h.0 v)))
      go names d i (Syntax.formula y) h = absurd (false-true (sym (subst (λ k. (eqb k 0 || eqb k 3) ≡ false) h t)))
      go names d i (Syntax.discrete y) h = (refl, refl)
      go names d i (Syntax.continuous y) h = (refl, refl)

  -- ---- primaries

  module _ (n at : ℕ) (t : Result Seen Refused) (h : Looks ts at t) where
    pub primary-wrong : (e : Refused) → t ≡ Err e → Moves (primary_in n) s ns ts at (Err e)
    unfolding primary_in primary_of
    primary-wrong z e = record { matches = (next-wrong (λ names t. primary_by names n (inner n names) t.place t.kind) s ns ts at z t h e).matches }

    primary-by : (w : Seen) (r : Result ℕ Refused) → t ≡ Ok w
        → ((names : List Name) → Named s ns names → (w.kind ≡ 5 → ⊥) → Matches (primary_by names n (inner n names) w.place (kind_of s w.kind w.place w.payload) (from s ts w.next)) s ts r)
        → Moves (primary_in n) s ns ts at r
    unfolding primary_in primary_of token
    primary-by z r e g = record { matches = (next-then (λ names t. primary_by names n (inner n names) t.place t.kind) s ns ts at z t r h e g).matches }

    pub primary-sum : (w : Seen) (r : Result ℕ Refused) → t ≡ Ok w → w.kind ≡ 133 → Moves (sum_in n w.place) s ns ts w.next r → Moves (primary_in n) s ns ts at r
    unfolding primary_by kind_of sum_in
    primary-sum z r e i g = primary-by z r e (λ names d n5. subst (λ k. Matches (primary_by names n (inner n names) z.place (kind_of s k z.place z.payload) (from s ts z.next)) s ts r) (sym i) (g.matches names d))

    pub primary-nested : (w : Seen) (r : Result ℕ Refused) → t ≡ Ok w → w.kind ≡ 40 → Moves (nested_in n w.place) s ns ts w.next r → Moves (primary_in n) s ns ts at r
    unfolding primary_by kind_of nested_in
    primary-nested z r e i g = primary-by z r e (λ names d n5. subst (λ k. Matches (primary_by names n (inner n names) z.place (kind_of s k z.place z.payload) (from s ts z.next)) s ts r) (sym i) (g.matches names d))

    pub primary-name : (w : Seen) (r : Result ℕ Refused) → t ≡ Ok w → w.kind ≡ 1 → Moves (named_in s n w.place (name_bytes w.payload)) s ns ts w.next r → Moves (primary_in n) s ns ts at r
    unfolding primary_by kind_of named_in
    primary-name z r e i g = primary-by z r e (λ names d n5. subst (λ k. Matches (primary_by names n (inner n names) z.place (kind_of s k z.place z.payload) (from s ts z.next)) s ts r) (sym i) (g.matches names d))

    pub primary-literal : (w : Seen) → t ≡ Ok w → (eqb w.kind 2 || eqb w.kind 3) ≡ true → Moves (primary_in n) s ns ts at (Ok w.next)
    unfolding primary_by kind_of
    primary-literal z e i = primary-by z (Ok z.next) e (λ names d n5. go names z.kind i)
      where
        go : (names : List Name) (k : ℕ) → (eqb k 2 || eqb k 3) ≡ true → Matches (primary_by names n (inner n names) z.place (kind_of s k z.place z.payload) (from s ts z.next)) s ts (Ok z.next)
        go names zero i = absurd (false-true i)
        go names (suc zero) i = absurd (false-true i)
        go names (suc (suc zero)) i = refl
        go names (suc (suc (suc zero))) i = refl
        go names (suc (suc (suc (suc k)))) i =
            let e : (eqb (suc (suc (suc (suc k)))) 2 || eqb (suc (suc (suc (suc k)))) 3) ≡ false = rw (ne_eqb (suc (suc (suc (suc k)))) 2 (λ e. omega arith), ne_eqb (suc (suc (suc (suc k)))) 3 (λ e. omega arith)) refl in
            absurd (false-true (sym e ∙ i))

    pub primary-other : (w : Seen) → t ≡ Ok w → (w.kind ≡ 133 → ⊥) → (w.kind ≡ 40 → ⊥) → (w.kind ≡ 1 → ⊥) → (eqb w.kind 2 || eqb w.kind 3) ≡ false
        → Moves (primary_in n) s ns ts at (Err (record { refusal = Misplaced; place = w.place }))
    unfolding primary_by kind_of
    primary-other z e i j l o = primary-by z (Err (record { refusal = Misplaced; place = z.place })) e (λ names d n5. go names z.kind n5 i j l o)
      where
        go : (names : List Name) (k : ℕ) → (k ≡ 5 → ⊥) → (k ≡ 133 → ⊥) → (k ≡ 40 → ⊥) → (k ≡ 1 → ⊥) → (eqb k 2 || eqb k 3) ≡ false
            → Matches (primary_by names n (inner n names) z.place (kind_of s k z.place z.payload) (from s ts z.next)) s ts (Err (record { refusal = Misplaced; place = z.place }))
        go names zero n5 i j l o = (refl, refl)
        go names (suc zero) n5 i j l o = absurd (l refl)
        go names (suc (suc zero)) n5 i j l o = absurd (false-true (sym o))
        go names (suc (suc (suc zero))) n5 i j l o = absurd (false-true (sym o))
        go names (suc (suc (suc (suc zero)))) n5 i j l o = (refl, refl)
        go names (suc (suc (suc (suc (suc zero))))) n5 i j l o = absurd (n5 refl)
        go names (suc (suc (suc (suc (suc (suc k)))))) n5 i j l o =
            rw (ne_eqb (suc (suc (suc (suc (suc (suc k)))))) 133 i, ne_eqb (suc (suc (suc (suc (suc (suc k)))))) 40 j) (refl, refl)
