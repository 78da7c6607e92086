-- A left side is a bound exactly where its tokens are those of one variable: a linear form with a sign in front, a factor, a sigma or
-- a second term has other tokens, whatever the variable.
use Rattle.std.specs.Prelude.{Option, Some, None}
use mathlib.Core.Path.{◌≡◌, refl, sym, ◌∙◌, ap, subst}
use mathlib.Core.Bool.{Bool, true, false, ◌||◌}
use mathlib.Core.Logic.{◌↔◌, ◌⊎◌, inl, inr}
use mathlib.Core.List.{List, [], ◌∷◌, ◌++◌, append_assoc, append-nil}
use Prim.Native.Nat.{ℕ, zero, suc}
use Rattle.lexer.specs.Marks.{opens, closes, opens_list, closes_list}
use Rattle.lexer.specs.Text.{Token, mark, name, string}
use Rattle.language.proofs.Outcome.{some-injective}
use Rattle.language.specs.Syntax.{Formula, Formulas, Spans, Name, Sort, Side, Constraint, Form, Term, point, span, bare, form, also, factor}
use Rattle.language.specs.Syntax
use Rattle.language.specs.Reader.{mark_of, name_of, is_mark, Used}
use Rattle.language.specs.Phrases
use Rattle.language.specs.Phrases.{◌at◌, Means, relation_sign, Phrase, formula, term, primary, run, subscripts, formulas, entry, entries, domain, any_domain, variable, form_term, signed_terms, linear_form, sigma, body, side, constraint, constraints, index_list, declared_domain, sort, Writes, one_term, plus_term, minus_term, addition, difference, one_primary, product, integer, real, declared, sum_over, nested, run_over, unsubscripted, in_brackets, last_formula, one_formula, between, last_entry, one_entry, in_parentheses, no_domain, a_domain, unsigned, signed, no_term, plus_next, minus_next, multiple, a_variable, a_sigma, discrete, continuous, sigma_over, inner_sigma, inner_form, one_constraint, no_floor, a_floor, alone, with_sign, with_factor, with_sigma, with_second, last_constraint, more_constraints, no_subscripts, with_domain, last_index, one_index, index_sort, integer_sort, real_sort, formula_sort, discrete_sort, continuous_sort}
use Rattle.language.proofs.Meant.{found}
use Rattle.language.proofs.PhrasedLinear.{bound-written}

-- ---- brackets

is_opening : Token → Bool
is_opening t = is_mark opens t || is_mark opens_list t

is_closing : Token → Bool
is_closing t = is_mark closes t || is_mark closes_list t

-- what stands behind the bracket that closes n + 1 open ones
cut : ℕ → List Token → Option (List Token)
cut n [] = None
cut n (t ∷ ts) =
    elim (is_opening t) [
      | true ↦ cut (suc n) ts
      | false ↦ elim (is_closing t) [ true ↦ elim n [ zero ↦ Some ts | suc k ↦ cut k ts ] | false ↦ cut n ts ]
    ]

closed : ℕ → List Token → Option (List Token)
closed zero ts = Some ts
closed (suc n) ts = cut n ts

pass_step : (n : ℕ) (t : Token) (ts : List Token) → is_opening t ≡ false → is_closing t ≡ false → cut n (t ∷ ts) ≡ cut n ts
unfolding cut
pass_step n t ts a b = rw (a, cut) (rw b)

open_step : (n : ℕ) (t : Token) (ts : List Token) → is_opening t ≡ true → cut n (t ∷ ts) ≡ cut (suc n) ts
unfolding cut
open_step n t ts a = rw (a, cut)

close-step : (n : ℕ) (t : Token) (ts : List Token) → is_opening t ≡ false → is_closing t ≡ true → cut n (t ∷ ts) ≡ closed n ts
unfolding cut closed
close-step zero t ts a b = rw (a, cut) (rw b)
close-step (suc n) t ts a b = rw (a, cut) (rw b)

-- the tokens l leave f of what is behind them
record Leaves (f : ℕ → List Token → Option (List Token)) (l : List Token) : Type 0 where
  left : (n : ℕ) (ts : List Token) → cut n (l ++ ts) ≡ f n ts

abbrev Even : List Token → Type 0
Even = Leaves cut

even : Even []
even = record { left = λ n ts. refl }

closes-one : {t : Token} → is_opening t ≡ false → is_closing t ≡ true → Leaves closed (t ∷ [])
closes-one {t} a b = record { left = λ n ts. close-step n t ts a b }

module _ {f : ℕ → List Token → Option (List Token)} where
  over : {t : Token} {l : List Token} → is_opening t ≡ false → is_closing t ≡ false → Leaves f l → Leaves f (t ∷ l)
  over {t} {l} a b s = record { left = λ n ts. pass_step n t (l ++ ts) a b ∙ s.left n ts }

  into : {t : Token} {l : List Token} → is_opening t ≡ true → Leaves f l → Leaves (λ n. f (suc n)) (t ∷ l)
  into {t} {l} a s = record { left = λ n ts. open_step n t (l ++ ts) a ∙ s.left (suc n) ts }

  then : {l k : List Token} → Even l → Leaves f k → Leaves f (l ++ k)
  then {l} {k} s r = record { left = λ n ts. ap (cut n) (append_assoc l k ts) ∙ s.left n (k ++ ts) ∙ r.left n ts }

  inside : {l k : List Token} → Leaves (λ n. cut (suc n)) l → Leaves f k → Leaves (λ n. f (suc n)) (l ++ k)
  inside {l} {k} s r = record { left = λ n ts. ap (cut n) (append_assoc l k ts) ∙ s.left n (k ++ ts) ∙ r.left (suc n) ts }

-- a formula closes what it opens; a run leaves its `(` open, subscripts close the `[` in front of them
abbrev Levelled : Phrase → List Token → Type 0
Levelled (formula f) l = Even l
Levelled (term f) l = Even l
Levelled (primary f) l = Even l
Levelled (run i f g) l = Leaves (λ n. cut (suc n)) l
Levelled (subscripts d fs) l = Even l
Levelled (formulas d fs) l = Leaves closed l
Levelled (entry i f g p) l = Unit {0}
Levelled (entries d) l = Unit {0}
Levelled (domain d) l = Unit {0}
Levelled (any_domain d) l = Unit {0}
Levelled (variable i d fs p) l = Unit {0}
Levelled (form_term b t) l = Unit {0}
Levelled (signed_terms b f) l = Unit {0}
Levelled (linear_form a b f) l = Unit {0}
Levelled (sigma t) l = Unit {0}
Levelled (body f) l = Unit {0}
Levelled (side s) l = Unit {0}
Levelled (Phrases.floor r) l = Unit {0}
Levelled (constraint c) l = Unit {0}
Levelled (constraints cs) l = Unit {0}
Levelled (index_list is) l = Unit {0}
Levelled (declared_domain d) l = Unit {0}
Levelled (sort w s) l = Unit {0}

level : {names : List Name} {x : Phrase} {l : List Token} → Writes names x l → Levelled x l
unfolding is_opening is_closing mark_of closed
level (one_term w) = level w
level (plus_term p w) = over refl refl (level w)
level (minus_term p w) = over refl refl (level w)
level (addition p v w) = then (level v) (over refl refl (level w))
level (difference p v w) = then (level v) (over refl refl (level w))
level (one_primary w) = level w
level (product p v w) = then (level v) (over refl refl (level w))
level (Phrases.literal b v p) = over refl refl even
level (Phrases.index p m) = over refl refl even
level (integer p m w) = over refl refl (level w)
level (real p m w) = over refl refl (level w)
level (declared p m) = over refl refl even
level (sum_over p q v w) = over refl refl (inside (level v) (then (level w) (closes-one refl refl)))
level (nested p q w) = into refl (then (level w) (closes-one refl refl))
level (run_over p q r s t m v w) = into refl (over refl refl (over refl refl (then (level v) (over refl refl (then (level w) (over refl refl even))))))
level unsubscripted = even
level (in_brackets p w) = into refl (level w)
level (last_formula p w) = then (level w) (closes-one refl refl)
level (one_formula p v w) = then (level v) (over refl refl (level w))
level (between p q r v m w) = tt
level (last_entry q w) = tt
level (one_entry q v w) = tt
level (in_parentheses p w n) = tt
level no_domain = tt
level (a_domain w) = tt
level (unsigned v w) = tt
level (signed w) = tt
level no_term = tt
level (plus_next p v w) = tt
level (minus_next p v w) = tt
level (multiple p v w) = tt
level (a_variable w) = tt
level (a_sigma w) = tt
level (discrete p m w) = tt
level (continuous p m w) = tt
level (sigma_over p q v w) = tt
level (inner_sigma w) = tt
level (inner_form w) = tt
level (one_constraint p q r u v w x) = tt
level (no_floor h) = tt
level (a_floor p q w) = tt
level (alone w) = tt
level (with_sign w) = tt
level (with_factor w) = tt
level (with_sigma w) = tt
level (with_second w) = tt
level (last_constraint w) = tt
level (more_constraints v w) = tt
level no_subscripts = tt
level (with_domain p v d w) = tt
level (last_index p q m) = tt
level (one_index p q m w) = tt
level index_sort = tt
level (integer_sort w) = tt
level (real_sort w) = tt
level (formula_sort p w) = tt
level (discrete_sort w) = tt
level (continuous_sort w) = tt

-- ---- subscripts end where they end

abbrev IsSpan : Spans → Type 0
IsSpan point = ⊥
IsSpan (span i f g p d) = Unit {0}

spanned : {names : List Name} {d : Spans} {fs : Formulas} {l : List Token} → Writes names (formulas d fs) l → IsSpan d
spanned (last_formula p w) = tt
spanned (one_formula p v w) = tt

-- behind a name without a domain nothing stands, behind another one `[` and what closes it
abbrev Bracketed : Spans → List Token → Type 0
Bracketed point l = l ≡ []
Bracketed (span i f g p d) l = (q : ℕ) × (k : List Token) × (l ≡ mark opens_list at q ∷ k) × Leaves closed k

bracketed : {names : List Name} {d : Spans} {fs : Formulas} {l : List Token} → Writes names (subscripts d fs) l → Bracketed d l
bracketed unsubscripted = refl
bracketed (in_brackets {d = d} {l = l} p w) = go d (spanned w) (level w)
  where
    go : (d : Spans) → IsSpan d → Leaves closed l → Bracketed d (mark opens_list at p ∷ l)
    go point h s = absurd h
    go (span i f g q d) h s = (p, l, refl, s)

-- two of one domain: neither goes on behind the other
no_longer : (d : Spans) (l k : List Token) (t : Token) (ts : List Token) → Bracketed d l → Bracketed d k → l ≡ k ++ (t ∷ ts) → ⊥
unfolding closed
no_longer point l k t ts a b e = cc (ap (λ k. k ++ (t ∷ ts)) b)
no_longer (span i f g p d) l k t ts a b e =
    let x : a.1 ≡ b.1 ++ (t ∷ ts) = tail_of (sym a.2 ∙ e ∙ ap (λ k. k ++ (t ∷ ts)) b.2) in
    let y : Some (t ∷ ts) ≡ Some [] = sym (b.3.left 0 (t ∷ ts)) ∙ ap (cut 0) (sym x ∙ sym (append-nil a.1)) ∙ a.3.left 0 [] in
    cc
  where
    tail_of : {a b : Token} {l k : List Token} → a ∷ l ≡ b ∷ k → l ≡ k
    tail_of e = cc

-- ---- how a phrase begins

first : List Token → Option (List ℕ)
first [] = None
first (t ∷ ts) = name_of t.kind

module _ (names : List Name) where
  -- a spelling that means a variable
  abbrev Varies : List ℕ → ℕ → Spans → Type 0
  Varies s i d = Means names s i (Syntax.discrete d) ⊎ Means names s i (Syntax.continuous d)

  -- the tokens of a variable alone
  record Alone (l : List Token) : Type 0 where
    spelling : List ℕ
    number : ℕ
    domain : Spans
    place : ℕ
    rest : List Token
    is : l ≡ name spelling at place ∷ rest
    varies : Varies spelling number domain
    ends : Bracketed domain rest

  alone_of : {i p : ℕ} {d : Spans} {fs : Formulas} {l : List Token} → Writes names (variable i d fs p) l → Alone l
  alone_of (discrete {l = s} {i = i} {d = d} {k = k} p m w) = record { spelling = s; number = i; domain = d; place = p; rest = k; is = refl; varies = inl m; ends = bracketed w }
  alone_of (continuous {l = s} {i = i} {d = d} {k = k} p m w) = record { spelling = s; number = i; domain = d; place = p; rest = k; is = refl; varies = inr m; ends = bracketed w }

  same-meaning : {s : List ℕ} {i j : ℕ} {a b : Sort} → Means names s i a → Means names s j b → a ≡ b
  same-meaning m n = ap (λ (u : Used). u.sort) (some-injective (sym (found 0 m) ∙ found 0 n))

  -- what a spelling means that is no variable's
  abbrev Plain : Sort → Type 0
  Plain Syntax.index = Unit {0}
  Plain (Syntax.integer d) = Unit {0}
  Plain (Syntax.real d) = Unit {0}
  Plain (Syntax.formula f) = Unit {0}
  Plain (Syntax.discrete d) = ⊥
  Plain (Syntax.continuous d) = ⊥

  not_plain : {s : List ℕ} {i j : ℕ} {d : Spans} (a : Sort) → Varies s i d → Means names s j a → Plain a → ⊥
  not_plain a (inl m) n h = subst Plain (same-meaning n m) h
  not_plain a (inr m) n h = subst Plain (same-meaning n m) h

  -- no primary begins as a variable does
  other-first : (l : List Token) → Alone l → (s : List ℕ) → first l ≡ Some s → (d : Spans) × (i : ℕ) × Varies s i d
  unfolding first name_of
  other-first l a s e = let x : a.spelling ≡ s = some-injective (ap first (sym a.is) ∙ e) in (a.domain, a.number, subst (λ s. Varies s a.number a.domain) x a.varies)

  no_name_lem : (l : List Token) → first l ≡ None → Alone l → ⊥
  unfolding first name_of
  no_name_lem l e a = let x = ap first a.is in cc

  plain-name : (s : List ℕ) (p j : ℕ) (b : Sort) (ts : List Token) → Means names s j b → Plain b → Alone (name s at p ∷ ts) → ⊥
  unfolding first name_of
  plain-name s p j b ts m h a = not_plain b (other-first (name s at p ∷ ts) a s refl).2 m h

  primary-first : {f : Formula} {l : List Token} (ts : List Token) → Writes names (primary f) l → Alone (l ++ ts) → ⊥
  unfolding first name_of
  primary-first ts (Phrases.literal w v p) a = no_name_lem _ refl a
  primary-first ts (Phrases.index {l = s} p m) a = plain-name s p _ _ _ m tt a
  primary-first ts (integer {l = s} p m w) a = plain-name s p _ _ _ m tt a
  primary-first ts (real {l = s} p m w) a = plain-name s p _ _ _ m tt a
  primary-first ts (declared {l = s} p m) a = plain-name s p _ _ _ m tt a
  primary-first ts (sum_over p q v w) a = no_name_lem _ refl a
  primary-first ts (nested p q w) a = no_name_lem _ refl a

  sigma-first : {t : Term} {l : List Token} (ts : List Token) → Writes names (sigma t) l → Alone (l ++ ts) → ⊥
  unfolding first name_of
  sigma-first ts (sigma_over p q v w) a = no_name_lem _ refl a

  signed-first : {sigmas m : Bool} {t : Term} {f : Form} {l : List Token} → Writes names (signed_terms sigmas (also m t f)) l → Alone l → ⊥
  unfolding first name_of
  signed-first (plus_next p v w) a = no_name_lem _ refl a
  signed-first (minus_next p v w) a = no_name_lem _ refl a

  -- ---- one variable, and nothing behind it

  same-domain : {s : List ℕ} {i j : ℕ} {d e : Spans} → Varies s i d → Varies s j e → d ≡ e
  same-domain (inl m) (inl n) = let x = same-meaning m n in cc
  same-domain (inl m) (inr n) = let x = same-meaning m n in cc
  same-domain (inr m) (inl n) = let x = same-meaning m n in cc
  same-domain (inr m) (inr n) = let x = same-meaning m n in cc

  nothing-behind : (l : List Token) (t : Token) (ts : List Token) → Alone l → Alone (l ++ (t ∷ ts)) → ⊥
  unfolding first name_of
  nothing-behind l t ts a b =
      let e : name b.spelling at b.place ∷ b.rest ≡ name a.spelling at a.place ∷ a.rest ++ (t ∷ ts) = sym b.is ∙ ap (λ l. l ++ (t ∷ ts)) a.is in
      let s : b.spelling ≡ a.spelling = some-injective (ap first e) in
      let r : b.rest ≡ a.rest ++ (t ∷ ts) = cc in
      let d = same-domain (subst (λ s. Varies s b.number b.domain) s b.varies) a.varies in
      no_longer a.domain b.rest a.rest t ts (subst (λ d. Bracketed d b.rest) d b.ends) a.ends r

  abbrev IsVariable : Term → Type 0
  IsVariable (factor f p t) = ⊥
  IsVariable (Syntax.variable i d fs p) = Unit {0}
  IsVariable (Syntax.sigma i f g h p) = ⊥

  only-variable : {sigmas : Bool} {t : Term} {l : List Token} (ts : List Token) → Writes names (form_term sigmas t) l → Alone (l ++ ts) → IsVariable t × Alone l
  only-variable ts (multiple {l = l} {k = k} p v w) a = absurd (primary-first _ v (subst Alone (append_assoc l (_ ∷ k) ts) a))
  only-variable ts (a_variable w) a = (tt, alone_of w)
  only-variable ts (a_sigma w) a = absurd (sigma-first ts w a)

  not-alone : {f : Form} {l : List Token} → Writes names (side (form f)) l → Alone l → ⊥
  not-alone (with_sign (signed w)) a = signed-first w a
  not-alone (with_factor (unsigned v w)) a = (only-variable _ v a).0
  not-alone (with_sigma (unsigned v w)) a = (only-variable _ v a).0
  not-alone (with_second (unsigned {l = l} v (plus_next p w u))) a = nothing-behind l _ _ (only-variable _ v a).1 a
  not-alone (with_second (unsigned {l = l} v (minus_next p w u))) a = nothing-behind l _ _ (only-variable _ v a).1 a

  abbrev pub IsBare : Side → Type 0
  IsBare (bare i d fs p) = Unit {0}
  IsBare (form f) = ⊥

  -- the tokens of one variable
  pub record Variable (l : List Token) : Type 0 where
    pub number : ℕ
    pub domain : Spans
    pub subscripts : Formulas
    pub place : ℕ
    pub written : Writes names (variable number domain subscripts place) l

  pub bound-exactly : (s : Side) (l : List Token) → Writes names (side s) l → IsBare s ↔ Variable l
  bound-exactly (bare i d fs p) l w = (λ _. record { number = i; domain = d; subscripts = fs; place = p; written = bound-written names w }, λ _. tt)
  bound-exactly (form f) l w = (λ h. absurd h, λ v. not-alone w (alone_of v.written))

  -- of a constraint, the tokens between its string and its `<=`, `>=` or `=`
  pub constraint-left : {c : Constraint} {l : List Token} → Writes names (constraint c) l
      → (a : List Token) × (b : List Token) × (q : ℕ) × (l ≡ string c.title at c.place ∷ a ++ (mark (relation_sign c.relation) at q ∷ b)) × (IsBare c.left ↔ Variable a)
  constraint-left (one_constraint {left = left} {a = a} {b = b} {c = c} {e = e} p q r u v w x) = (a, b ++ (c ++ e), q, refl, bound-exactly left a u)
