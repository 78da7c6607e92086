-- Where gathering gives a row, the row's value at an assignment is the written value of the form.
use Rattle.std.specs.Prelude.{Option, Some, None}
use mathlib.Core.Path.{◌≡◌, refl, sym, ◌∙◌, ap, subst}
use mathlib.Core.Bool.{Bool, true, false, ◌&&◌}
use mathlib.Core.List.{List, [], ◌∷◌, map}
use Prim.Native.Nat.{ℕ, zero, suc, ◌<◌}
use native.Mathlib.Omega.{arith}
use native.Mathlib.Nat.{not-suc-le-zero, le_of_suc-le-suc}
use lib.Dec.{eqb}
use lib.ListN.{length, get_or, set, replicate, length-set, length-map, length-replicate}
use lib.IntN.{ℤ, pos, negsuc}
use borrow.Author.Tests.{eqb-true}
use Rattle.value.specs.Number.{exactly}
use Rattle.language.specs.Listed.{At}
use Rattle.language.proofs.Listed.{at_length}
use Rattle.value.specs.Rational.{ℚ, 𝟎, ◌⊕◌, ◌⊗◌}
use Rattle.value.proofs.Rational.{ring, add-zero, zero-add, add_assoc, mul-add, mul_assoc, mul-zero, zero-mul, one-mul, mul-neg, neg-mul, neg-add, neg-neg, neg-zero}
use Rattle.rules.specs.declared.Refusal.TheVariants.{Outside}
use Rattle.language.specs.Outcome.{Outcome, done}
use Rattle.language.proofs.Outcome.{after-fits, after, some_of, done-injective, some-injective}
use Rattle.value.specs.declared.Value.{Value}
use Rattle.value.specs.Decimal.{zero_value, one_value, sum_of, product_of}
use Rattle.language.specs.Scope.{Scope, bind, unbound, same_whole, same_element}
use Rattle.language.specs.Syntax.{Form, Term, also, factor, variable, sigma}
use Rattle.language.specs.Syntax
use Rattle.language.specs.Evaluation.{limits_of, run_of, each, eval, eval_all, within}
use Rattle.language.specs.Written.{sum_over, negated_if, form_value, term_value}
use Rattle.language.specs.Numbering.{Variable, same_variable, later, number_of, Row, xor, signed, add_at, variable_at, gather, gather_term, gathered}
use Rattle.value.proofs.Numbers.{exactly-zero, exactly-one, exactly-negate, exactly-add, exactly-mul}
use Rattle.language.proofs.Evaluated.{eval-done, eval_all-done, run-written}

-- a row's value at numbers for its variables
unfoldable pub dot : Row → List ℚ → ℚ
dot [] xs = 𝟎
dot (r ∷ row) [] = 𝟎
dot (r ∷ row) (x ∷ xs) = exactly r ⊗ x ⊕ dot row xs

-- ---- the number of a variable

same_whole-true : (j k : ℤ) → same_whole j k ≡ true → j ≡ k
unfolding same_whole
same_whole-true (pos a) (pos b) e = ap pos (eqb-true a b e)
same_whole-true (pos a) (negsuc b) e = cc
same_whole-true (negsuc a) (pos b) e = cc
same_whole-true (negsuc a) (negsuc b) e = ap negsuc (eqb-true a b e)

pub same_element-true : (l m : List ℤ) → same_element l m ≡ true → l ≡ m
unfolding same_element
same_element-true [] [] e = refl
same_element-true [] (k ∷ m) e = cc
same_element-true (j ∷ l) [] e = cc
same_element-true (j ∷ l) (k ∷ m) e = go (same_whole j k) refl (same_element-true l m) e
  where
    go : (t : Bool) → same_whole j k ≡ t → (same_element l m ≡ true → l ≡ m) → ◌≡◌ {A = Bool} (elim t [ true ↦ same_element l m | false ↦ false ]) true → j ∷ l ≡ k ∷ m
    go true d ih e = let a : j ≡ k = same_whole-true j k d in let b : l ≡ m = ih e in cc
    go false d ih e = cc

same_variable-true : (v : Variable) (i : ℕ) (e : List ℤ) → same_variable v i e ≡ true → v ≡ record { name = i; element = e }
unfolding same_variable
same_variable-true v i e h = go (eqb v.name i) refl h
  where
    go : (t : Bool) → eqb v.name i ≡ t → (t && same_element v.element e) ≡ true → v ≡ record { name = i; element = e }
    go true d h = λ k. record { name = eqb-true v.name i d k; element = same_element-true v.element e h k }
    go false d h = cc

pub number_of-at : (i : ℕ) (e : List ℤ) (vs : List Variable) (j : ℕ) → number_of i e vs ≡ Some j → At vs j (record { name = i; element = e })
unfolding number_of
number_of-at i e [] j h = cc
number_of-at i e (v ∷ vs) j h = go (same_variable v i e) refl (number_of i e vs) (number_of-at i e vs) h
  where
    step : (o : Option ℕ) → ((k : ℕ) → o ≡ Some k → At vs k (record { name = i; element = e })) → later o ≡ Some j → At (v ∷ vs) j (record { name = i; element = e })
    step None ih h = cc
    step (Some k) ih h = rw (← (some-injective h)) (ih k refl)

    go : (t : Bool) → same_variable v i e ≡ t → (o : Option ℕ) → ((k : ℕ) → o ≡ Some k → At vs k (record { name = i; element = e }))
        → ◌≡◌ {A = Option ℕ} (elim t [ true ↦ Some 0 | false ↦ later o ]) (Some j) → At (v ∷ vs) j (record { name = i; element = e })
    go true d o ih h = rw (← (some-injective h)) (same_variable-true v i e d)
    go false d o ih h = step o ih h

-- ---- signs

signed-xor : (m n : Bool) (q : ℚ) → negated_if (xor m n) q ≡ negated_if m (negated_if n q)
unfolding negated_if
signed-xor true true q = sym (neg-neg q)
signed-xor true false q = refl
signed-xor false n q = refl

signed_add : (m : Bool) (p q : ℚ) → negated_if m (p ⊕ q) ≡ negated_if m p ⊕ negated_if m q
unfolding negated_if
signed_add true p q = neg-add p q
signed_add false p q = refl

signed_mul : (m : Bool) (p q : ℚ) → negated_if m (p ⊗ q) ≡ p ⊗ negated_if m q
unfolding negated_if
signed_mul true p q = sym (mul-neg p q)
signed_mul false p q = refl

signed-zero : (m : Bool) → negated_if m 𝟎 ≡ 𝟎
unfolding negated_if
signed-zero true = neg-zero
signed-zero false = refl

signed-exactly : (m : Bool) (v : Value) (q : ℚ) → exactly (signed m v) ⊗ q ≡ negated_if m (exactly v ⊗ q)
unfolding negated_if
signed-exactly true v q = rw exactly-negate (neg-mul (exactly v) q)
signed-exactly false v q = refl

-- ---- the value of a row

spread : (r v x d : ℚ) → (r ⊕ v) ⊗ x ⊕ d ≡ r ⊗ x ⊕ d ⊕ v ⊗ x
spread r v x d = simp ring

dot-set : (row : Row) (xs : List ℚ) (j : ℕ) (v w : Value) → j < length row → j < length xs → exactly w ≡ exactly (get_or row j zero_value) ⊕ exactly v
    → dot (set row j w) xs ≡ dot row xs ⊕ exactly v ⊗ get_or xs j 𝟎
unfolding dot
dot-set [] xs j v w h k e = absurd (not-suc-le-zero h)
dot-set (r ∷ row) [] j v w h k e = absurd (not-suc-le-zero k)
dot-set (r ∷ row) (x ∷ xs) zero v w h k e = rw e (spread (exactly r) (exactly v) x (dot row xs))
dot-set (r ∷ row) (x ∷ xs) (suc j) v w h k e =
    rw (dot-set row xs j v w (le_of_suc-le-suc h) (le_of_suc-le-suc k) e) (sym (add_assoc _ _ _))

dot-zero : (n : ℕ) (xs : List ℚ) → dot (replicate n zero_value) xs ≡ 𝟎
unfolding dot
dot-zero zero xs = refl
dot-zero (suc n) [] = refl
dot-zero (suc n) (x ∷ xs) = rw (dot-zero n xs, exactly-zero, zero-mul) (add-zero 𝟎)

-- ---- gathering

module _ (vs : List Variable) (x : Variable → ℚ) where
  abbrev assigned : List ℚ
  assigned = map x vs

  -- a step from a row to the next adds q to its value
  record Gained (row row' : Row) (q : ℚ) : Type 0 where
    long : length row' ≡ length vs
    adds : dot row' assigned ≡ dot row assigned ⊕ q

  two : {row row' row'' : Row} {p q r : ℚ} → p ⊕ q ≡ r → Gained row row' p → Gained row' row'' q → Gained row row'' r
  two {row} {row'} {row''} {p} {q} {r} e g h = record { long = h.long; adds = h.adds ∙ rw (g.adds, ← e) (add_assoc _ _ _) }

  get_d_map : (l : List Variable) (j : ℕ) (v : Variable) → At l j v → get_or (map x l) j 𝟎 ≡ x v
  get_d_map [] j v h = absurd h
  get_d_map (w ∷ l) zero v h = ap x h
  get_d_map (w ∷ l) (suc j) v h = get_d_map l j v h

  add_at-done : (j : ℕ) (v : Value) (p : ℕ) (row row' : Row) (w : Variable) → At vs j w → add_at j v p row ≡ done row'
      → length row ≡ length vs → Gained row row' (exactly v ⊗ x w)
  unfolding add_at
  add_at-done j v p row row' w at e long =
      after-fits p (sum_of (get_or row j zero_value) v) _ row' e λ u add-u e.
      let j< : j < length vs = at_length vs j w at in
      let same : set row j u ≡ row' = done-injective e in
      record {
        long = rw (← same) (length-set row j u ∙ long);
        adds = rw (← same, ← (get_d_map vs j w at))
            (dot-set row assigned j v u (omega arith) (omega (arith, length-map vs x)) (exactly-add _ v u add-u));
      }

  each-done : (f : ℤ → Row → Outcome Row) (g : ℤ → ℚ) (q : ℚ → ℚ) → q 𝟎 ≡ 𝟎 → ((a b : ℚ) → q (a ⊕ b) ≡ q a ⊕ q b)
      → ((k : ℤ) (row row' : Row) → f k row ≡ done row' → length row ≡ length vs → Gained row row' (q (g k)))
      → (ks : List ℤ) (row row' : Row) → each f ks row ≡ done row' → length row ≡ length vs → Gained row row' (q (sum_over g ks))
  unfolding each sum_over
  each-done f g q q0 q+ fg [] row row' e long =
      let same : row ≡ row' = done-injective e in
      record { long = rw (← same) long; adds = rw (← same, q0) (sym (add-zero _)) }
  each-done f g q q0 q+ fg (k ∷ ks) row row' e long =
      after (f k row) _ row' e λ r fr e.
      let one : Gained row r (q (g k)) = fg k row r fr long in
      two (sym (q+ (g k) (sum_over g ks))) one (each-done f g q q0 q+ fg ks r row' e one.long)

  -- signs and the coefficient before a form
  abbrev weigh : Bool → Value → ℚ → ℚ
  weigh m c q = negated_if m (exactly c ⊗ q)

  weigh-zero : (m : Bool) (c : Value) → weigh m c 𝟎 ≡ 𝟎
  weigh-zero m c = rw mul-zero (signed-zero m)

  weigh-add : (m : Bool) (c : Value) (p q : ℚ) → weigh m c (p ⊕ q) ≡ weigh m c p ⊕ weigh m c q
  weigh-add m c p q = rw mul-add (signed_add m _ _)

  mutual
    unfolding gather form_value variable_at

    gather-done : (f : Form) (s : Scope) (c : Value) (m : Bool) (row row' : Row) → gather vs f s c m row ≡ done row'
        → length row ≡ length vs → Gained row row' (weigh m c (form_value x f s))
    gather-done Syntax.end s c m row row' e long =
        let same : row ≡ row' = done-injective e in
        record { long = rw (← same) long; adds = rw (← same, weigh-zero m c) (sym (add-zero _)) }
    gather-done (also n t f) s c m row row' e long =
        after (gather_term vs t s c (xor m n) row) _ row' e λ r tr e.
        let one : Gained row r (weigh (xor m n) c (term_value x t s)) = gather_term-done t s c (xor m n) row r tr long in
        two (ap (λ q. q ⊕ weigh m c (form_value x f s)) (signed-xor m n _ ∙ ap (negated_if m) (signed_mul n _ _)) ∙ sym (weigh-add m c _ _)) one
        (gather-done f s c m r row' e one.long)

    gather_term-done : (t : Term) (s : Scope) (c : Value) (m : Bool) (row row' : Row) → gather_term vs t s c m row ≡ done row'
        → length row ≡ length vs → Gained row row' (weigh m c (term_value x t s))
    gather_term-done (factor f p t) s c m row row' e long =
        after (eval f s) _ row' e λ v fv e.
        after-fits p (product_of c v) _ row' e λ w cv e.
        subst (λ q. Gained row row' (negated_if m q)) (ap (λ q. q ⊗ term_value x t s) (exactly-mul c v w cv ∙ ap (λ q. exactly c ⊗ q) (sym (eval-done f s v fv))) ∙ mul_assoc _ _ _)
        (gather_term-done t s w m row row' e long)
    gather_term-done (variable i d fs p) s c m row row' e long =
        after (variable_at vs i d fs p s) _ row' e λ j vj e.
        after (eval_all fs s p) _ j vj λ ks fk vj.
        after (within d ks (unbound s) p) _ j vj λ _ _ vj.
        rw (eval_all-done fs s p ks fk, ← signed-exactly)
        (add_at-done j (signed m c) p row row' (record { name = i; element = ks }) (number_of-at i ks vs j (some_of Outside p (number_of i ks vs) j vj)) e long)
    gather_term-done (sigma i f g h p) s c m row row' e long =
        after (limits_of (eval f s) (eval g s)) _ row' e λ l fg e.
        after (run_of l i s p) _ row' e λ ks r e.
        rw (run-written (eval f s) (eval g s) l i s p ks (λ u d. eval-done f s u d) (λ u d. eval-done g s u d) fg r)
        (each-done (λ k r. gather vs h (bind i k s) c m r) (λ k. form_value x h (bind i k s)) (weigh m c) (weigh-zero m c) (weigh-add m c)
        (λ k r r' d l. gather-done h (bind i k s) c m r r' d l) ks row row' e long)

  -- the row's value is the written value
  pub gathered-done : (f : Form) (s : Scope) (row : Row) → gathered vs f s ≡ done row → dot row (map x vs) ≡ form_value x f s
  unfolding gathered negated_if
  gathered-done f s row e =
      let n : ℕ = length vs in
      (gather-done f s one_value false (replicate n zero_value) row e (length-replicate n zero_value)).adds
      ∙ rw (dot-zero n assigned, exactly-one) (zero-add _ ∙ one-mul _)

  pub gathered-long : (f : Form) (s : Scope) (row : Row) → gathered vs f s ≡ done row → length row ≡ length vs
  unfolding gathered
  gathered-long f s row e = (gather-done f s one_value false (replicate (length vs) zero_value) row e (length-replicate (length vs) zero_value)).long
