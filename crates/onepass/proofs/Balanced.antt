-- What a reader of the grammar takes has its brackets in pairs, so the end of a body is found by its brackets.
use mathlib.Core.Path.{◌≡◌, refl, sym, ◌∙◌, ap}
use mathlib.Core.Bool.{Bool, true, false, cond, ◌||◌}
use mathlib.Core.Logic.{◌⊎◌, inl, inr}
use mathlib.Core.List.{List, ◌∷◌}
use Prim.Native.Nat.{ℕ, zero, suc}
use borrow.Author.Tests.{eqb-true}
use lib.Dec.{eqb}
use Rattle.rules.specs.declared.Refusal.{Refusal}
use Rattle.rules.specs.declared.Refusal.TheVariants.{Misplaced, Full}
use Rattle.rules.specs.Limits.{token_limit}
use Rattle.lexer.specs.Marks.{plus_sign, minus_sign, times_sign, comma, opens, closes, opens_list, closes_list, sum_word, sigma_word}
use Rattle.lexer.specs.Text.{Token, Kind}
use Rattle.lexer.specs.Text
use Rattle.language.specs.Syntax.{Formula, Spans, Name, Sort, Form, Term, factor, variable, point, span}
use Rattle.language.specs.Syntax
use Rattle.language.specs.Reader.{Reader, ◌>>=◌, give, refuse, next, look, mark_of, is_mark, expect, bracket, known, read_index}
use Rattle.language.specs.Formulas.{factors, term_of, is_sum, summands, read_sign, formula_of, part_of, head_of, sum_formula, formulas_of, subscripts_of, named_by, nested_of, primary_by, primary_of, inside_at, formula_at}
use Rattle.language.specs.Linear.{Head, a_sigma, a_variable, a_primary, head_by, linear_term, linear_terms, linear_of, no_sigma, plain_form, body_of, sigma_at}
use Rattle.onepass.specs.Walk.{opens_bracket, closes_bracket, behind_bracket}
use Rattle.onepass.specs.Entries.{read}
use Rattle.onepass.proofs.Steps.{after_read, same_rest, next-is, look_is, look-stays, expect-is, bracket-is, known_is, read_index-is}

-- ---- depths: with n brackets open, the tokens behind the last one's end

abbrev behind : ℕ → List Token → List Token
behind zero ts = ts
behind (suc d) ts = behind_bracket d ts

-- how many are open behind the sign c, where one and d more are before it
abbrev depth : ℕ → ℕ → ℕ
depth c d = cond (eqb c opens || eqb c opens_list) (suc (suc d)) (cond (eqb c closes || eqb c closes_list) d (suc d))

token-depth : (t : Token) (ts : List Token) (d : ℕ) → behind_bracket d (t ∷ ts) ≡ behind (depth (mark_of t.kind) d) ts
unfolding behind_bracket
token-depth t ts d = go (opens_bracket t) refl (closes_bracket t) refl d
  where
    go : (a : Bool) → opens_bracket t ≡ a → (b : Bool) → closes_bracket t ≡ b → (d : ℕ) → behind_bracket d (t ∷ ts) ≡ behind (depth (mark_of t.kind) d) ts
    go true e b h zero = rw (e, behind_bracket) refl
    go true e b h (suc d) = rw (e, behind_bracket) refl
    go false e true h zero = rw (e, h, behind_bracket) refl
    go false e true h (suc d) = rw (e, h, behind_bracket) refl
    go false e false h zero = rw (e, h, behind_bracket) refl
    go false e false h (suc d) = rw (e, h, behind_bracket) refl

-- ---- readers: from one and d more open to f d open

record Shifts {A : Type 0} (f : ℕ → ℕ) (R : Reader A) : Type 0 where
  shifts : (ts : List Token) (a : A) (rest : List Token) → R ts ≡ read a rest → (d : ℕ) → behind_bracket d ts ≡ behind (f d) rest

-- what opens a bracket leaves it open, what closes one closes the one before; all else is balanced
abbrev Opens : {A : Type 0} → Reader A → Type 0
Opens R = Shifts (λ d. suc (suc d)) R

abbrev Closes : {A : Type 0} → Reader A → Type 0
Closes R = Shifts (λ d. d) R

abbrev Balanced : {A : Type 0} → Reader A → Type 0
Balanced R = Shifts (λ d. suc d) R

module _ {A B : Type 0} where
  -- a sequence
  before : (f g : ℕ → ℕ) (R : Reader A) (K : A → Reader B) → Shifts (λ d. suc (f d)) R → ((a : A) → Shifts g (K a)) → Shifts (λ d. g (f d)) (R >>= K)
  before f g R K r k =
      record { shifts = λ ts b rest e d. after_read (R ts) K _ e λ a l al e. r.shifts ts a l al d ∙ (k a).shifts l b rest e (f d) }

  keeps : (g : ℕ → ℕ) (R : Reader A) (K : A → Reader B) → Balanced R → ((a : A) → Shifts g (K a)) → Shifts g (R >>= K)
  keeps g = before (λ d. d) g

  -- what is made of something read
  made : (f : ℕ → ℕ) (R : Reader A) (k : A → B) → Shifts f R → Shifts f (R >>= λ a. give (k a))
  made f R k r = record { shifts = λ ts b rest e d. after_read (R ts) _ _ e λ a l al e. r.shifts ts a l al d ∙ ap (behind (f d)) (same_rest e) }

module _ {A : Type 0} where
  given : (a : A) → Balanced (give a)
  given a = record { shifts = λ ts b rest e d. ap (behind_bracket d) (same_rest e) }

  never : (f : ℕ → ℕ) (n : Refusal) (p : ℕ) → Shifts {A = A} f (refuse n p)
  never f n p = record { shifts = λ ts b rest e d. cc }

  either : (f : ℕ → ℕ) (b : Bool) (R S : Reader A) → Shifts f R → Shifts f S → Shifts {A = A} f (elim b as (λ _. Reader A) [ true ↦ R | false ↦ S ])
  either f true R S r s = record { shifts = r.shifts }
  either f false R S r s = record { shifts = s.shifts }

  -- a token looked at, which is passed over if it is no bracket
  peek : (g : Token → Bool) → ((t : Token) (d : ℕ) → g t ≡ true → depth (mark_of t.kind) d ≡ suc d) → (K E : Token → Reader A) → ((t : Token) → Balanced (K t)) → ((t : Token) → Balanced (E t))
      → Balanced {A = A} (look >>= λ t. elim (g t) as (λ _. Reader A) [ true ↦ next >>= (λ _. K t) | false ↦ E t ])
  peek g plain K E k n = record { shifts = λ ts b rest e d. after_read (look ts) _ _ e λ t l tl e. go ts b rest d t l tl (g t) refl e }
    where
      go : (ts : List Token) (b : A) (rest : List Token) (d : ℕ) (t : Token) (l : List Token) → look ts ≡ read t l → (c : Bool) → g t ≡ c
          → (elim c as (λ _. Reader A) [ true ↦ next >>= (λ _. K t) | false ↦ E t ]) l ≡ read b rest → behind_bracket d ts ≡ behind_bracket d rest
      go ts b rest d t l tl true c e =
          let (m, h, i) = look_is ts t l tl in
          after_read (next l) _ _ e λ u us uk e.
          let j : t ∷ m ≡ u ∷ us = sym i ∙ next-is l u us uk in
          let mk : m ≡ us = cc in
          ap (behind_bracket d) h ∙ token-depth t m d ∙ ap (λ n. behind n m) (plain t d c) ∙ ap (behind_bracket d) mk ∙ (k t).shifts us b rest e d
      go ts b rest d t l tl false c e = ap (behind_bracket d) (look-stays ts t l tl) ∙ (n t).shifts l b rest e d

expect-shifts : (c : ℕ) → Shifts (depth c) (expect c)
expect-shifts c =
    record {
      shifts = λ ts p rest e d.
          let x = expect-is c ts p rest e in
          ap (behind_bracket d) (next-is ts x.token rest x.stands) ∙ token-depth x.token rest d
          ∙ ap (λ m. behind (depth m d) rest) (eqb-true (mark_of x.token.kind) c x.marked);
    }

bracket-shifts : (c n : ℕ) → Shifts (depth c) (bracket c n)
bracket-shifts c n = record { shifts = λ ts p rest e. (expect-shifts c).shifts ts p rest (bracket-is c n ts p rest e) }

look-balanced : Balanced look
look-balanced = record { shifts = λ ts t l e d. ap (behind_bracket d) (look-stays ts t l e) }

-- a plus or a minus, and the word `S`, are no brackets
sum-plain : (t : Token) (d : ℕ) → is_sum t ≡ true → depth (mark_of t.kind) d ≡ suc d
sum-plain t d e = go (is_mark plus_sign t) refl e
  where
    go : (b : Bool) → is_mark plus_sign t ≡ b → (b || is_mark minus_sign t) ≡ true → depth (mark_of t.kind) d ≡ suc d
    go true h e = ap (λ m. depth m d) (eqb-true (mark_of t.kind) plus_sign h)
    go false h e = ap (λ m. depth m d) (eqb-true (mark_of t.kind) minus_sign e)

sigma-plain : (t : Token) (d : ℕ) → is_mark sigma_word t ≡ true → depth (mark_of t.kind) d ≡ suc d
sigma-plain t d e = ap (λ m. depth m d) (eqb-true (mark_of t.kind) sigma_word e)

-- ---- formulas

module _ (P : Reader Formula) (a : Balanced P) where
  factors-balanced : (n : ℕ) (f : Formula) → Balanced (factors P n f)
  unfolding factors
  factors-balanced zero f = given f
  factors-balanced (suc n) f =
      keeps _ look _ look-balanced λ t. either _ (is_mark times_sign t) _ _
      (keeps _ (expect times_sign) _ (expect-shifts times_sign) λ p. keeps _ P _ a λ g. factors-balanced n _)
      (given f)

  term-balanced : Balanced (term_of P)
  unfolding term_of
  term-balanced = keeps _ P _ a (factors-balanced token_limit)

  summands-balanced : (n : ℕ) (f : Formula) → Balanced (summands P n f)
  unfolding summands
  summands-balanced zero f = given f
  summands-balanced (suc n) f = peek is_sum sum-plain _ _ (λ t. keeps _ P _ a λ g. summands-balanced n _) (λ t. given f)

sign-balanced : Balanced read_sign
unfolding read_sign
sign-balanced = peek is_sum sum-plain _ _ (λ t. given _) (λ t. given _)

formula-balanced : (T : Reader Formula) → Balanced T → Balanced (formula_of T)
unfolding formula_of
formula-balanced T a = keeps _ read_sign _ sign-balanced λ s. keeps _ T _ a λ f. summands-balanced T a token_limit _

part-shifts : (F : Reader Formula) → Balanced F → (c : ℕ) → Shifts (depth c) (part_of F c)
unfolding part_of
part-shifts F a c = keeps _ F _ a λ f. made _ (expect c) _ (expect-shifts c)

index-balanced : (names : List Name) → Balanced (read_index names)
unfolding mark_of
index-balanced names =
    record {
      shifts = λ ts u rest e d.
          let x = read_index-is names ts u rest e in
          ap (behind_bracket d) (next-is ts x.token rest x.stands) ∙ token-depth x.token rest d ∙ ap (λ k. behind (depth (mark_of k) d) rest) x.spells;
    }

head-opens : (names : List Name) (n : ℕ) → Opens (head_of names n)
unfolding head_of
head-opens names n = before suc _ (bracket opens n) _ (bracket-shifts opens n) λ _. keeps _ (read_index names) _ (index-balanced names) λ i. made _ (expect comma) _ (expect-shifts comma)

sum-balanced : (names : List Name) (n : ℕ) (F : Reader Formula) → Balanced F → (p : ℕ) → Balanced (sum_formula names n F p)
unfolding sum_formula
sum-balanced names n F a p =
    before suc _ (head_of names n) _ (head-opens names n) λ i. keeps _ (part_of F comma) _ (part-shifts F a comma) λ f.
    keeps _ (part_of F comma) _ (part-shifts F a comma) λ g. made _ (part_of F closes) _ (part-shifts F a closes)

module _ (F : Reader Formula) (a : Balanced F) where
  formulas-close : (i : ℕ) (lo hi : Formula) (p : ℕ) (d : Spans) → Closes (formulas_of F (span i lo hi p d))
  unfolding formulas_of
  formulas-close i lo hi p point = made _ (part_of F closes_list) _ (part-shifts F a closes_list)
  formulas-close i lo hi p (span j lo' hi' q d) = keeps _ (part_of F comma) _ (part-shifts F a comma) λ f. made _ (formulas_of F (span j lo' hi' q d)) _ (formulas-close j lo' hi' q d)

  subscripts-balanced : (n : ℕ) (d : Spans) → Balanced (subscripts_of n F d)
  unfolding subscripts_of
  subscripts-balanced n point = given _
  subscripts-balanced n (span i lo hi p d) = before suc _ (bracket opens_list n) _ (bracket-shifts opens_list n) λ _. formulas-close i lo hi p d

  named-balanced : (n i p : ℕ) (x : Sort) → Balanced (named_by n F i p x)
  unfolding named_by
  named-balanced n i p Syntax.index = given _
  named-balanced n i p (Syntax.integer d) = made _ (subscripts_of n F d) _ (subscripts-balanced n d)
  named-balanced n i p (Syntax.real d) = made _ (subscripts_of n F d) _ (subscripts-balanced n d)
  named-balanced n i p (Syntax.formula f) = given f
  named-balanced n i p (Syntax.discrete d) = never _ Misplaced p
  named-balanced n i p (Syntax.continuous d) = never _ Misplaced p

  nested-closes : (n p : ℕ) → Closes (nested_of n F p)
  unfolding nested_of
  nested-closes zero p = never _ Full p
  nested-closes (suc n) p = part-shifts F a closes

known-balanced : (names : List Name) (l : List ℕ) (p : ℕ) → Balanced (known names l p)
known-balanced names l p = record { shifts = λ ts u rest e d. ap (behind_bracket d) (known_is names l p ts u rest e).1 }

-- what is read behind a token of the sign c, and balanced with it
record Begun {A : Type 0} (c : ℕ) (R : Reader A) : Type 0 where
  begun : (ts : List Token) (a : A) (rest : List Token) → R ts ≡ read a rest → (d : ℕ) → behind (depth c d) ts ≡ behind_bracket d rest

begun-plain : {A : Type 0} (c : ℕ) (R : Reader A) → ((d : ℕ) → depth c d ≡ suc d) → Balanced R → Begun c R
begun-plain c R plain r = record { begun = λ ts a rest e d. ap (λ n. behind n ts) (plain d) ∙ r.shifts ts a rest e d }

begun-keeps : {A B : Type 0} (c : ℕ) (R : Reader A) (K : A → Reader B) → Begun c R → ((a : A) → Balanced (K a)) → Begun c (R >>= K)
begun-keeps c R K r k =
    record { begun = λ ts b rest e d. after_read (R ts) K _ e λ a l al e. r.begun ts a l al d ∙ (k a).shifts l b rest e d }

next-begun : {A : Type 0} (K : Token → Reader A) → ((t : Token) → Begun (mark_of t.kind) (K t)) → Balanced (next >>= K)
next-begun K k =
    record {
      shifts = λ ts b rest e d. after_read (next ts) _ _ e λ t l tl e. ap (behind_bracket d) (next-is ts t l tl) ∙ token-depth t l d ∙ (k t).begun l b rest e d;
    }

module _ (names : List Name) (n : ℕ) (F : Reader Formula) (a : Balanced F) where
  primary_by-begun : (p : ℕ) (k : Kind) → Begun (mark_of k) (primary_by names n F p k)
  unfolding primary_by mark_of
  primary_by-begun p (Text.mark c) = record { begun = go (eqb c sum_word) refl (eqb c opens) refl }
    where
      go : (x : Bool) → eqb c sum_word ≡ x → (y : Bool) → eqb c opens ≡ y → (ts : List Token) (f : Formula) (rest : List Token)
          → cond x (sum_formula names n F p) (cond y (nested_of n F p) (refuse Misplaced p)) ts ≡ read f rest → (d : ℕ) → behind (depth c d) ts ≡ behind_bracket d rest
      go true h y i ts f rest e d = ap (λ m. behind (depth m d) ts) (eqb-true c sum_word h) ∙ (sum-balanced names n F a p).shifts ts f rest e d
      go false h true i ts f rest e d = ap (λ m. behind (depth m d) ts) (eqb-true c opens i) ∙ (nested-closes F a n p).shifts ts f rest e (suc d)
      go false h false i ts f rest e d = cc
  primary_by-begun p (Text.name l) = record { begun = (keeps _ (known names l p) _ (known-balanced names l p) (λ u. named-balanced F a n u.number p u.sort)).shifts }
  primary_by-begun p (Text.literal w v) = record { begun = (given (Syntax.literal v)).shifts }
  primary_by-begun p (Text.string l) = record { begun = λ ts f rest e d. cc }
  primary_by-begun p Text.end = record { begun = λ ts f rest e d. cc }
  primary_by-begun p (Text.wrong r) = record { begun = λ ts f rest e d. cc }

  primary-balanced : Balanced (primary_of names n F)
  unfolding primary_of
  primary-balanced = next-begun _ (λ t. primary_by-begun t.place t.kind)

module _ (names : List Name) where
  inside-balanced : (n : ℕ) → Balanced (inside_at names n)
  unfolding inside_at
  inside-balanced zero = never _ Full 0
  inside-balanced (suc n) = formula-balanced _ (term-balanced _ (primary-balanced names n _ (inside-balanced n)))

  -- a sum's body ends at its bracket
  pub body_end : (n : ℕ) (ts : List Token) (h : Formula) (rest : List Token) → part_of (inside_at names n) closes ts ≡ read h rest → behind_bracket 0 ts ≡ rest
  body_end n ts h rest e = (part-shifts (inside_at names n) (inside-balanced n) closes).shifts ts h rest e 0

  -- ---- linear forms

  -- a token that begins no primary is the word `S` or a name
  head_plain : (sigmas : Bool) (k : Kind) → (head_by names sigmas k ≡ a_primary) ⊎ ((d : ℕ) → depth (mark_of k) d ≡ suc d)
  unfolding head_by mark_of
  head_plain false (Text.mark c) = inl refl
  head_plain true (Text.mark c) = go (eqb c sigma_word) refl
    where
      go : (b : Bool) → eqb c sigma_word ≡ b → (cond b a_sigma a_primary ≡ a_primary) ⊎ ((d : ℕ) → depth c d ≡ suc d)
      go true h = inr (λ d. ap (λ m. depth m d) (eqb-true c sigma_word h))
      go false h = inl refl
  head_plain sigmas (Text.name l) = inr (λ d. refl)
  head_plain sigmas (Text.literal w v) = inl refl
  head_plain sigmas (Text.string l) = inl refl
  head_plain sigmas Text.end = inl refl
  head_plain sigmas (Text.wrong r) = inl refl

  module _ (S : ℕ → Reader Term) (a : (p : ℕ) → Balanced (S p)) (sigmas : Bool) (n : ℕ) where
    linear_term-balanced : (k : ℕ) → Balanced (linear_term names S sigmas n k)
    unfolding linear_term
    linear_term-balanced zero = never _ Full 0
    linear_term-balanced (suc k) = next-begun _ (λ t. go (linear_term-balanced k) t (head_by names sigmas t.kind) refl (head_plain sigmas t.kind))
      where
        F : Reader Formula
        F = inside_at names n

        go : Balanced (linear_term names S sigmas n k) → (t : Token) (h : Head) → head_by names sigmas t.kind ≡ h → (head_by names sigmas t.kind ≡ a_primary) ⊎ ((d : ℕ) → depth (mark_of t.kind) d ≡ suc d)
            → Begun {A = Term} (mark_of t.kind) (elim h as (λ _. Reader Term) [
              | a_sigma ↦ S t.place
              | a_variable i d ↦ subscripts_of n F d >>= (λ fs. give (variable i d fs t.place))
              | a_primary ↦ primary_by names n F t.place t.kind >>= (λ f. expect times_sign >>= (λ p. linear_term names S sigmas n k >>= (λ y. give (factor f p y))))
            ])
        go ih t a_sigma d (inl e) = cc (sym d ∙ e)
        go ih t a_sigma d (inr plain) = begun-plain _ _ plain (a t.place)
        go ih t (a_variable i v) d (inl e) = cc (sym d ∙ e)
        go ih t (a_variable i v) d (inr plain) = begun-plain _ _ plain (made _ (subscripts_of n F v) _ (subscripts-balanced F (inside-balanced n) n v))
        go ih t a_primary d o =
            begun-keeps _ (primary_by names n F t.place t.kind) _ (primary_by-begun names n F (inside-balanced n) t.place t.kind) λ f.
            keeps _ (expect times_sign) _ (expect-shifts times_sign) λ p. made _ (linear_term names S sigmas n k) _ ih

  module _ (T : Reader Term) (a : Balanced T) where
    linear_terms-balanced : (k : ℕ) → Balanced (linear_terms T k)
    unfolding linear_terms
    linear_terms-balanced zero = given _
    linear_terms-balanced (suc k) = peek is_sum sum-plain _ _ (λ t. keeps _ T _ a λ u. made _ (linear_terms T k) _ (linear_terms-balanced k)) (λ t. given _)

    linear-balanced : Balanced (linear_of T)
    unfolding linear_of
    linear-balanced = keeps _ read_sign _ sign-balanced λ s. keeps _ T _ a λ u. made _ (linear_terms T token_limit) _ (linear_terms-balanced token_limit)

  body-balanced : (S : ℕ → Reader Term) → ((p : ℕ) → Balanced (S p)) → (n : ℕ) → Balanced (body_of names S n)
  unfolding body_of plain_form
  body-balanced S a n =
      peek (is_mark sigma_word) sigma-plain _ _ (λ t. made _ (S t.place) _ (a t.place))
      (λ t. made _ (linear_of _) _ (linear-balanced _ (linear_term-balanced no_sigma (λ p. never _ Misplaced p) false n token_limit)))

  formula-part : (n c : ℕ) → Shifts (depth c) (part_of (formula_at names n) c)
  unfolding formula_at
  formula-part n c = part-shifts (inside_at names (suc n)) (inside-balanced (suc n)) c

  sigma-balanced : (n p : ℕ) → Balanced (sigma_at names n p)
  unfolding sigma_at
  sigma-balanced zero p = before suc (λ d. d) (head_of names zero) _ (head-opens names zero) λ i. never _ Full 0
  sigma-balanced (suc n) p =
      before suc _ (head_of names (suc n)) _ (head-opens names (suc n)) λ i. keeps _ (part_of (formula_at names n) comma) _ (formula-part n comma) λ f.
      keeps _ (part_of (formula_at names n) comma) _ (formula-part n comma) λ g. keeps _ (body_of names (sigma_at names n) n) _ (body-balanced (sigma_at names n) (sigma-balanced n) n) λ h.
      made _ (expect closes) _ (expect-shifts closes)

  -- a sigma's body ends at its bracket
  pub sigma-body-end : (n : ℕ) (ts : List Token) (h : Form) (m : List Token) → body_of names (sigma_at names n) n ts ≡ read h m → (p : ℕ) (rest : List Token) → expect closes m ≡ read p rest → behind_bracket 0 ts ≡ rest
  sigma-body-end n ts h m e p rest c = (body-balanced (sigma_at names n) (sigma-balanced n) n).shifts ts h m e 0 ∙ (expect-shifts closes).shifts m p rest c 0
