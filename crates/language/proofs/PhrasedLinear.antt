-- Whatever the readers of linear forms give was written, and a left side is a bound exactly where one variable stands without
-- sign or factor.
use Rattle.std.specs.Prelude.{Option, Some, None}
use mathlib.Core.Path.{◌≡◌, refl, sym, subst}
use mathlib.Core.Bool.{Bool, true, false, cond, ◌&&◌}
use mathlib.Core.Logic.{◌↔◌}
use mathlib.Core.List.{List, ◌∷◌, ◌++◌, append-nil}
use Prim.Native.Nat.{ℕ, zero, suc}
use lib.Dec.{eqb}
use borrow.Author.Tests.{eqb-true}
use Rattle.rules.specs.Limits.{token_limit}
use Rattle.lexer.specs.Marks.{minus_sign, times_sign, sigma_word}
use Rattle.lexer.specs.Text.{Token, Kind, mark, name}
use Rattle.lexer.specs.Text
use Rattle.language.specs.Syntax.{Formula, Formulas, Spans, Name, Sort, Form, Term, also, factor, bare, form}
use Rattle.language.specs.Syntax
use Rattle.language.specs.Reader.{Reader, ◌>>=◌, give, is_mark, expect, Used, find}
use Rattle.language.specs.Formulas.{is_sum, Signed, subscripts_of, primary_by, inside_at, formula_at}
use Rattle.language.specs.Linear.{Head, head_by_sort, head_by_name, head_by, linear_term, linear_terms, linear_of, no_sigma, plain_form, body_of, sigma_at, linear_at, side_of_term, side_of}
use Rattle.language.specs.Linear
use Rattle.language.specs.Phrases
use Rattle.language.specs.Phrases.{◌at◌, Means, Writes, variable, form_term, signed_terms, linear_form, sigma, body, side, multiple, a_sigma, no_term, plus_next, minus_next, unsigned, signed, sigma_over, inner_sigma, inner_form, alone, with_sign, with_factor, with_sigma, with_second}
use Rattle.language.proofs.Meant.{means}
use Rattle.language.proofs.Taken.{Reads, gives, refuses, weaken, then, last, then_next, look-next, then-expect, marked}
use Rattle.language.proofs.Phrased.{sign_mark, sign-is, SignOf, no_sign, a_sign, sign_read, head_read, then-run, subscripts-read, primary-by, inside-read, formula-at}

-- a linear term of which a token of kind k at p is read; S reads a sigma behind its word, R what stands behind a factor
abbrev pub on_head : List Name → (ℕ → Reader Term) → ℕ → Reader Term → ℕ → Kind → Head → Reader Term
on_head names S n R p k h = elim h as (λ _. Reader Term) [
  | Linear.a_sigma ↦ S p
  | Linear.a_variable i d ↦ do
    fs ← subscripts_of n (inside_at names n) d
    give (Syntax.variable i d fs p)
  | Linear.a_primary ↦ do
    f ← primary_by names n (inside_at names n) p k
    q ← expect times_sign
    r ← R
    give (factor f q r)
]

module _ (names : List Name) where
  module _ (S : ℕ → Reader Term) (sigmas : Bool) (rs : (p : ℕ) → sigmas ≡ true → Reads (S p) (λ t l. Writes names (sigma t) (mark sigma_word at p ∷ l))) (n : ℕ) where
    module _ (R : Reader Term) (rr : Reads R (λ x. Writes names (form_term sigmas x))) (p : ℕ) where
      factor-read : (k : Kind) → Reads (on_head names S n R p k Linear.a_primary) (λ t l. Writes names (form_term sigmas t) (k at p ∷ l))
      factor-read k = then (primary-by names _ (inside-read names n) n p k) (λ f l w. then-expect _ (λ q. last _ rr (λ r j v. multiple q w v)))

      sort-read : (l : List ℕ) (i : ℕ) (s : Sort) → Means names l i s → Reads (on_head names S n R p (name l) (head_by_sort i s)) (λ t k. Writes names (form_term sigmas t) (name l at p ∷ k))
      unfolding head_by_sort
      sort-read l i Syntax.index m = factor-read (name l)
      sort-read l i (Syntax.integer d) m = factor-read (name l)
      sort-read l i (Syntax.real d) m = factor-read (name l)
      sort-read l i (Syntax.formula f) m = factor-read (name l)
      sort-read l i (Syntax.discrete d) m = last _ (subscripts-read names _ (inside-read names n) n d) (λ fs k w. Phrases.a_variable (Phrases.discrete p m w))
      sort-read l i (Syntax.continuous d) m = last _ (subscripts-read names _ (inside-read names n) n d) (λ fs k w. Phrases.a_variable (Phrases.continuous p m w))

      name-head : (l : List ℕ) (o : Option Used) → find l names 0 0 ≡ o → Reads (on_head names S n R p (name l) (head_by_name o)) (λ t k. Writes names (form_term sigmas t) (name l at p ∷ k))
      unfolding head_by_name
      name-head l None e = factor-read (name l)
      name-head l (Some u) e = sort-read l u.number u.sort (means 0 u e)

      mark-head : (c : ℕ) (a b : Bool) → sigmas ≡ a → eqb c sigma_word ≡ b → Reads (on_head names S n R p (mark c) (cond (a && b) Linear.a_sigma Linear.a_primary)) (λ t k. Writes names (form_term sigmas t) (mark c at p ∷ k))
      mark-head c true true ea eb = weaken (rs p ea) (λ t l w. rw (eqb-true c sigma_word eb, ea) (a_sigma w))
      mark-head c true false ea eb = factor-read (mark c)
      mark-head c false true ea eb = factor-read (mark c)
      mark-head c false false ea eb = factor-read (mark c)

      at_head : (k : Kind) → Reads (on_head names S n R p k (head_by names sigmas k)) (λ t l. Writes names (form_term sigmas t) (k at p ∷ l))
      unfolding head_by
      at_head (Text.mark c) = mark-head c sigmas (eqb c sigma_word) refl refl
      at_head (Text.name l) = name-head l (find l names 0 0) refl
      at_head (Text.literal w v) = factor-read (Text.literal w v)
      at_head (Text.string l) = factor-read (Text.string l)
      at_head Text.end = factor-read Text.end
      at_head (Text.wrong r) = factor-read (Text.wrong r)

    pub term-read : (k : ℕ) → Reads (linear_term names S sigmas n k) (λ x. Writes names (form_term sigmas x))
    unfolding linear_term
    term-read zero = refuses
    term-read (suc k) = then_next (λ t. at_head (linear_term names S sigmas n k) (term-read k) t.place t.kind)

  module _ (T : Reader Term) (sigmas : Bool) (rt : Reads T (λ x. Writes names (form_term sigmas x))) where
    behind-sign : (m : Bool) (p : ℕ) {t : Term} {f : Form} {l k : List Token} → Writes names (form_term sigmas t) l → Writes names (signed_terms sigmas f) k → Writes names (signed_terms sigmas (also m t f)) (mark (sign_mark m) at p ∷ l ++ k)
    behind-sign true p w v = minus_next p w v
    behind-sign false p w v = plus_next p w v

    terms-read : (k : ℕ) → Reads (linear_terms T k) (λ x. Writes names (signed_terms sigmas x))
    unfolding linear_terms
    terms-read zero = gives no_term
    terms-read (suc k) =
        look-next is_sum
        (λ t e. then rt λ u l w. last _ (terms-read k) λ f j v.
        subst (λ x. Writes names (signed_terms sigmas (also (is_mark minus_sign t) u f)) (x ∷ l ++ j)) (sym (sign-is t e)) (behind-sign (is_mark minus_sign t) t.place w v))
        (gives no_term)

    first : {s : Signed} {t : Term} {f : Form} {l k j : List Token} → SignOf s l → Writes names (form_term sigmas t) k → Writes names (signed_terms sigmas f) j → Writes names (linear_form sigmas s.written (also s.negative t f)) (l ++ (k ++ j))
    first no_sign w v = unsigned w v
    first (a_sign m p) w v = signed (behind-sign m p w v)

    pub form-read : Reads (linear_of T) (λ x. Writes names (linear_form sigmas x.signed x.form))
    unfolding linear_of
    form-read = then sign_read (λ s l z. then rt (λ t k w. last _ (terms-read token_limit) (λ f j v. first z w v)))

  plain-read : (n : ℕ) → Reads (plain_form names n) (λ x. Writes names (body x))
  unfolding plain_form
  plain-read n = last _ (form-read (linear_term names no_sigma false n token_limit) false (term-read no_sigma false (λ p e. cc) n token_limit)) (λ x l w. inner_form w)

  body-read : (S : ℕ → Reader Term) (n : ℕ) → ((p : ℕ) → Reads (S p) (λ t l. Writes names (sigma t) (mark sigma_word at p ∷ l))) → Reads (body_of names S n) (λ x. Writes names (body x))
  unfolding body_of
  body-read S n rs = look-next (is_mark sigma_word) (λ t e. last _ (rs t.place) (λ u l w. rw (marked _ t e) (inner_sigma w))) (plain-read n)

  pub sigma-read : (n p : ℕ) → Reads (sigma_at names n p) (λ t l. Writes names (sigma t) (mark sigma_word at p ∷ l))
  unfolding sigma_at
  sigma-read zero p = then (head_read names (formula_at names zero) (formula-at names zero) zero) (λ i l w. refuses)
  sigma-read (suc n) p =
      then-run names (formula_at names n) (formula-at names n) (suc n) λ i f g l w.
      then (body-read (sigma_at names n) n (λ q. sigma-read n q)) λ h k v. then-expect _ λ q. gives (sigma_over p q w v)

  pub linear-read : (n : ℕ) → Reads (linear_at names n) (λ x. Writes names (linear_form true x.signed x.form))
  unfolding linear_at
  linear-read n = form-read _ true (term-read (sigma_at names n) true (λ p _. sigma-read n p) n token_limit)

  -- ---- left sides

  pub side-written : {s : Bool} {f : Form} {l : List Token} → Writes names (linear_form true s f) l → Writes names (side (side_of s f)) l
  unfolding side_of side_of_term
  side-written (signed w) = with_sign (signed w)
  side-written (unsigned w v) = first-term w v
    where
      first-term : {t : Term} {f : Form} {l k : List Token} → Writes names (form_term true t) l → Writes names (signed_terms true f) k → Writes names (side (side_of_term t f)) (l ++ k)
      first-term (multiple p w u) v = with_factor (unsigned (multiple p w u) v)
      first-term (a_sigma (sigma_over p q w u)) v = with_sigma (unsigned (a_sigma (sigma_over p q w u)) v)
      first-term (Phrases.a_variable w) no_term = rw append-nil (alone w)
      first-term (Phrases.a_variable w) (plus_next p u v) = with_second (unsigned (Phrases.a_variable w) (plus_next p u v))
      first-term (Phrases.a_variable w) (minus_next p u v) = with_second (unsigned (Phrases.a_variable w) (minus_next p u v))

  -- a bound's left side is written by its variable alone
  pub bound-written : {i p : ℕ} {d : Spans} {fs : Formulas} {l : List Token} → Writes names (side (bare i d fs p)) l → Writes names (variable i d fs p) l
  bound-written (alone w) = w

  -- any other left side has a sign in front, a factor, a sigma or a second term
  pub data Furnished : Bool → Form → Type 0 where
    has_sign : {f : Form} → Furnished true f
    has_factor : {m : Bool} {g : Formula} {p : ℕ} {t : Term} {f : Form} → Furnished false (also m (factor g p t) f)
    has_sigma : {m : Bool} {i p : ℕ} {g h : Formula} {b f : Form} → Furnished false (also m (Syntax.sigma i g h b p) f)
    has_second : {m n : Bool} {t u : Term} {f : Form} → Furnished false (also m t (also n u f))

  pub row_written : {f : Form} {l : List Token} → Writes names (side (form f)) l → (s : Bool) × Writes names (linear_form true s f) l × Furnished s f
  row_written (with_sign w) = (true, w, has_sign)
  row_written (with_factor w) = (false, w, has_factor)
  row_written (with_sigma w) = (false, w, has_sigma)
  row_written (with_second w) = (false, w, has_second)

-- a left side is a bound exactly where it has no sign and is one variable
pub side-bare : (s : Bool) (f : Form) (i : ℕ) (d : Spans) (fs : Formulas) (p : ℕ) → (side_of s f ≡ bare i d fs p) ↔ ((s ≡ false) × (f ≡ also false (Syntax.variable i d fs p) Syntax.end))
unfolding side_of side_of_term
side-bare s f i d fs p = (of s f, λ h. rw (h.0, h.1))
  where
    of : (s : Bool) (f : Form) → side_of s f ≡ bare i d fs p → (s ≡ false) × (f ≡ also false (Syntax.variable i d fs p) Syntax.end)
    of true f e = cc
    of false Syntax.end e = (refl, cc)
    of false (also true t r) e = (refl, cc)
    of false (also false (factor g q t) r) e = (refl, cc)
    of false (also false (Syntax.sigma j g h b q) r) e = (refl, cc)
    of false (also false (Syntax.variable j c gs q) Syntax.end) e = (refl, cc)
    of false (also false (Syntax.variable j c gs q) (also m t r)) e = (refl, cc)
