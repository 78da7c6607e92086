-- Laws for a left side that is one variable, without sign or factor.
use Rattle.std.specs.Prelude.{Err, None, Ok, Option, Result, Some}
use Rattle.rules.specs.declared.Refused.{Refused}
use mathlib.Core.Path.{◌≡◌, refl, sym, ◌∙◌, ap, subst}
use mathlib.Core.Bool.{Bool, true, false, not, ◌||◌, ◌&&◌, cond}
use mathlib.Core.List.{List, []}
use Prim.Native.Nat.{ℕ, zero, suc, ◌<◌}
use native.Mathlib.Omega.{arith}
use lib.Dec.{eqb}
use Rattle.rules.specs.declared.Refusal.{Refusal}
use Rattle.rules.specs.Limits.{token_limit, nesting_limit}
use Rattle.lexer.specs.Marks.{minus_sign, times_sign, sigma_word}
use Rattle.lexer.specs.Text.{Token, Kind}
use Rattle.lexer.specs.Text
use Rattle.language.specs.Outcome.{Outcome, refused}
use Rattle.language.proofs.Outcome.{refused-done}
use Rattle.language.specs.Syntax.{Name, Formulas, Spans, Form, Term, also, factor, variable, sigma, Side, bare, form}
use Rattle.language.specs.Syntax
use Rattle.language.specs.Reader.{Reader, Read, follow, ◌>>=◌, give, next, look, mark_of, is_mark, expect}
use Rattle.language.specs.Formulas.{is_sum, Signed, read_sign, subscripts_of, primary_by, inside_at}
use Rattle.language.specs.Linear.{Head, a_sigma, a_variable, a_primary, head_by, linear_term, linear_terms, Linear, linear_of, sigma_at, linear_at, side_of_term, side_of}
use Rattle.onepass.specs.Entries.{read}
use Rattle.onepass.proofs.Steps.{after_read, on, same-what, same_rest, look-stays}
use Rattle.onepass.proofs.WalkedLinear.{bare-walk}
use Rattle.tokens.specs.declared.Seen.{Seen}
use Rattle.tokens.specs.declared.Found.{Found}
use Rattle.tokens.specs.Stored.{token, from, Sees, Looks, Named, Matches}
use Rattle.tokens.proofs.Moved.{next-is, look_is, is_sum_lem}
use Rattle.formulas.specs.Cycle.{Subscripts}
use Rattle.linear.specs.Linear.{variable_of, Heads, Begins}
use Rattle.linear.proofs.Laws.{begins-of}
use Rattle.constraints.specs.Rows.{SideAt, is_bare}
use Rattle.constraints.specs.Shape.{IsAlone, IsBare}

-- ---- whether a sign stands at a position

module _ (ts : List ℕ) (at : ℕ) (t : Result Seen Refused) (h : Looks ts at t) where
  module _ (w : Seen) (e : t ≡ Ok w) where
    sum-at : (s : List ℕ) (u : Token) (l : List Token) → look (from s ts at) ≡ read u l → is_sum u ≡ (eqb w.kind 43 || eqb w.kind 45)
    sum-at s u l f = sym (ap is_sum (same-what (sym (look_is s ts at w (subst (Sees s ts at) e (h.sees s))) ∙ f))) ∙ is_sum_lem s [] ts at t h w.kind w.place w.payload

    pub alone-by : IsAlone ts at (not (eqb w.kind 43 || eqb w.kind 45))
    alone-by = record { is = λ s u l f. sym (ap not (sum-at s u l f)) }

  pub alone-wrong : (e : Refused) → t ≡ Err e → IsAlone ts at false
  alone-wrong z e = record { is = λ s u l f. absurd (refused-done (sym (subst (Sees s ts at) e (h.sees s)).looks ∙ f)) }

-- ---- sides

-- a bound's form
pub bare-side : (b : Bool) (g : Form) (i : ℕ) (d : Spans) (fs : Formulas) (p : ℕ) → bare i d fs p ≡ side_of b g → (b ≡ false) × (g ≡ also false (variable i d fs p) Syntax.end)
unfolding side_of side_of_term
bare-side true g i d fs p e = absurd (let z : ◌≡◌ {A = ℕ} 0 1 = cc in omega arith)
bare-side false Syntax.end i d fs p e = absurd (let z : ◌≡◌ {A = ℕ} 0 1 = cc in omega arith)
bare-side false (also true t r) i d fs p e = absurd (let z : ◌≡◌ {A = ℕ} 0 1 = cc in omega arith)
bare-side false (also false (factor f q t) r) i d fs p e = absurd (let z : ◌≡◌ {A = ℕ} 0 1 = cc in omega arith)
bare-side false (also false (sigma j f g h q) r) i d fs p e = absurd (let z : ◌≡◌ {A = ℕ} 0 1 = cc in omega arith)
bare-side false (also false (variable j c gs q) Syntax.end) i d fs p e = (refl, cc)
bare-side false (also false (variable j c gs q) (also m t r)) i d fs p e = absurd (let z : ◌≡◌ {A = ℕ} 0 1 = cc in omega arith)

-- a row's form
pub form-side : (b : Bool) (g f : Form) → form f ≡ side_of b g → g ≡ f
unfolding side_of side_of_term
form-side true g f e = cc
form-side false Syntax.end f e = cc
form-side false (also true t r) f e = cc
form-side false (also false (factor h q t) r) f e = cc
form-side false (also false (sigma j a b h q) r) f e = cc
form-side false (also false (variable j c gs q) Syntax.end) f e = absurd (let z : ◌≡◌ {A = ℕ} 0 1 = cc in omega arith)
form-side false (also false (variable j c gs q) (also m t r)) f e = cc

-- ---- a linear form that begins with a variable

no-sum : (names : List Name) (k : Kind) (p i : ℕ) (d : Spans) → head_by names true k ≡ a_variable i d → is_sum (record { kind = k; place = p }) ≡ false
unfolding head_by mark_of
no-sum names (Text.mark c) p i d e = absurd (go (eqb c sigma_word) e)
  where
    go : (b : Bool) → cond (true && b) a_sigma a_primary ≡ a_variable i d → ⊥
    go true e = let z : ◌≡◌ {A = ℕ} 0 1 = cc in omega arith
    go false e = let z : ◌≡◌ {A = ℕ} 0 1 = cc in omega arith
no-sum names (Text.name l) p i d e = refl
no-sum names (Text.literal w v) p i d e = refl
no-sum names (Text.string l) p i d e = refl
no-sum names Text.end p i d e = refl
no-sum names (Text.wrong r) p i d e = refl

unsigned : (ts : List Token) (t : Token) → look ts ≡ read t ts → is_sum t ≡ false → read_sign ts ≡ read (record { written = false; negative = false }) ts
unfolding read_sign
unsigned ts t e f = on (look ts) _ t ts _ e (pick (is_sum t) f)
  where
    pick : (b : Bool) → b ≡ false
        → (elim b as (λ _. Reader Signed) [
          | true ↦ next >>= (λ _. give (record { written = true; negative = is_mark minus_sign t }))
          | false ↦ give (record { written = false; negative = false })
        ]) ts ≡ read (record { written = false; negative = false }) ts
    pick b e = rw e refl

module _ (names : List Name) (n : ℕ) where
  -- its subscripts, and the token behind them
  pub record Begun (d : Spans) (l : List Token) (x : Linear) : Type 0 where
    pub formulas : Formulas
    pub behind : List Token
    pub subscripts : subscripts_of n (inside_at names n) d l ≡ read formulas behind
    pub token : Token
    pub looks : look behind ≡ read token behind
    pub same : is_bare (side_of x.signed x.form) ≡ not (is_sum token)

  record Term-is (i : ℕ) (d : Spans) (p : ℕ) (l : List Token) (u : Term) (r : List Token) : Type 0 where
    pub formulas : Formulas
    pub subscripts : subscripts_of n (inside_at names n) d l ≡ read formulas r
    pub is : u ≡ variable i d formulas p

  turn : (ℕ → Reader Term) → ℕ → Token → Head → Reader Term
  turn S k t h = elim h as (λ _. Reader Term) [
    | a_sigma ↦ S t.place
    | a_variable i d ↦ subscripts_of n (inside_at names n) d >>= (λ fs. give (variable i d fs t.place))
    | a_primary ↦ primary_by names n (inside_at names n) t.place t.kind >>= (λ f. expect times_sign >>= (λ p. linear_term names S true n k >>= (λ y. give (factor f p y))))
  ]

  term_is : (S : ℕ → Reader Term) (k : ℕ) (ts : List Token) (t : Token) (l : List Token) (i : ℕ) (d : Spans) (u : Term) (r : List Token) → next ts ≡ read t l → head_by names true t.kind ≡ a_variable i d
      → linear_term names S true n k ts ≡ read u r → Term-is i d t.place l u r
  unfolding linear_term turn
  term_is S zero ts t l i d u r a b e = absurd (refused-done e)
  term_is S (suc k) ts t l i d u r a b e =
      let f : turn S k t (head_by names true t.kind) l ≡ read u r = subst (λ o. follow o (λ t. turn S k t (head_by names true t.kind)) ≡ read u r) a e in
      after_read (subscripts_of n (inside_at names n) d l) (λ fs. give (variable i d fs t.place)) _ (subst (λ h. turn S k t h l ≡ read u r) b f) λ fs m fm e.
      record { formulas = fs; subscripts = fm ∙ ap (read fs) (same_rest e); is = sym (same-what e) }

  record Terms-are (f : Form) (l : List Token) : Type 0 where
    pub token : Token
    pub looks : look l ≡ read token l
    pub same : (i : ℕ) (d : Spans) (fs : Formulas) (p : ℕ) → is_bare (side_of_term (variable i d fs p) f) ≡ not (is_sum token)

  terms-are : (T : Reader Term) (k : ℕ) → 0 < k → (l : List Token) (f : Form) (r : List Token) → linear_terms T k l ≡ read f r → Terms-are f l
  unfolding linear_terms side_of_term
  terms-are T zero h l f r e = absurd (omega arith)
  terms-are T (suc k) h l f r e =
      after_read (look l) _ _ e λ t m tm e.
      record { token = t; looks = tm ∙ ap (read t) (sym (look-stays l t m tm)); same = λ i d fs p. go t m i d fs p (is_sum t) e }
    where
      go : (t : Token) (m : List Token) (i : ℕ) (d : Spans) (fs : Formulas) (p : ℕ) (b : Bool)
          → (elim b as (λ _. Reader Form) [ true ↦ next >>= (λ _. T >>= (λ u. linear_terms T k >>= (λ g. give (also (is_mark minus_sign t) u g)))) | false ↦ give Syntax.end ]) m ≡ read f r
          → is_bare (side_of_term (variable i d fs p) f) ≡ not b
      go t m i d fs p true e =
          after_read (next m) _ _ e λ _ m _ e.
          after_read (T m) _ _ e λ u m _ e.
          after_read (linear_terms T k m) _ _ e λ g m _ e.
          ap (λ f. is_bare (side_of_term (variable i d fs p) f)) (sym (same-what e))
      go t m i d fs p false e = ap (λ f. is_bare (side_of_term (variable i d fs p) f)) (sym (same-what e))

  begun : (ts : List Token) (x : Linear) (rest : List Token) → linear_at names n ts ≡ read x rest → (t : Token) (l : List Token) → next ts ≡ read t l → look ts ≡ read t ts
      → (i : ℕ) (d : Spans) → head_by names true t.kind ≡ a_variable i d → Begun d l x
  unfolding linear_at linear_of side_of token_limit
  begun ts x rest e t l tl tk i d b =
      after_read (read_sign ts) _ _ e λ g l₁ gl e.
      after_read (linear_term names (sigma_at names n) true n token_limit l₁) _ _ e λ u l₂ ul e.
      after_read (linear_terms (linear_term names (sigma_at names n) true n token_limit) token_limit l₂) _ _ e λ f l₃ fl e.
      let plain = sym (unsigned ts t tk (no-sum names t.kind t.place i d b)) ∙ gl in
      let y = term_is (sigma_at names n) token_limit ts t l i d u l₂ tl b (ap (linear_term names (sigma_at names n) true n token_limit) (same_rest plain) ∙ ul) in
      let z = terms-are (linear_term names (sigma_at names n) true n token_limit) token_limit (omega arith) l₂ f l₃ fl in
      record {
        formulas = y.formulas;
        behind = l₂;
        subscripts = y.subscripts;
        token = z.token;
        looks = z.looks;
        same =
            ap (λ (x : Linear). is_bare (side_of x.signed x.form)) (sym (same-what e)) ∙ ap (λ (g : Signed). is_bare (side_of g.written (also g.negative u f))) (sym (same-what plain))
            ∙ ap (λ u. is_bare (side_of false (also false u f))) y.is ∙ z.same i d y.formulas t.place;
      }

-- ---- whether a side is one variable

stop : {A B : Type 0} (o : Outcome (Read A)) (K : A → Reader B) (m : Refusal) (p : ℕ) → o ≡ refused m p → follow o K ≡ refused m p
stop o K m p e = ap (λ o. follow o K) e

module _ (s ns ts : List ℕ) (at : ℕ) (t : Result Seen Refused) (h : Looks ts at t) where
  pub bare-wrong : (e : Refused) → t ≡ Err e → IsBare s ns ts at false
  unfolding linear_at linear_of read_sign
  bare-wrong z e = record { is = λ names d l a. absurd (refused-done (sym (stop _ _ z.refusal z.place (stop _ _ z.refusal z.place (subst (Sees s ts at) e (h.sees s)).looks)) ∙ a.stands.reads)) }

  module _ (seen : Seen) (e : t ≡ Ok seen) (v : Option Found) (b : v ≡ variable_of s ns seen.kind seen.place seen.payload) where
    nexts : next (from s ts at) ≡ read (token s seen.kind seen.place seen.payload) (from s ts seen.next)
    nexts = next-is s ts at seen (subst (Sees s ts at) e (h.sees s))

    looks : look (from s ts at) ≡ read (token s seen.kind seen.place seen.payload) (from s ts at)
    looks = look_is s ts at seen (subst (Sees s ts at) e (h.sees s))

    heads : (y : Option Found) → v ≡ y → (names : List Name) → Named s ns names → Heads (head_by names true (token s seen.kind seen.place seen.payload).kind) true seen.kind y
    unfolding token
    heads y f names d = (subst (Begins s ns seen.kind seen.place seen.payload) f (begins-of s ns seen.place seen.payload seen.kind v b)).heads names d true

    pub bare-other : v ≡ None → IsBare s ns ts at false
    bare-other f = record { is = λ names d l z. go names d l z }
      where
        go : (names : List Name) → Named s ns names → (l : Side) → SideAt s ts at names l → false ≡ is_bare l
        go names d (form g) z = refl
        go names d (bare i c fs q) z =
            let w = bare-side z.linear.signed z.linear.form i c fs q z.side in
            let y = bare-walk [] names i c fs q nesting_limit (from s ts at) z.linear z.stands.rest z.stands.reads w.0 w.1 in
            let same = same-what (sym nexts ∙ y.stands) in
            absurd (subst (λ o. Heads o true seen.kind None) (ap (λ (t : Token). head_by names true t.kind) same ∙ y.begins) (heads None f names d))

    module _ (one : Found) (f : v ≡ Some one) (r : Result ℕ Refused) (u : Subscripts s ns ts 12 one.count seen.next r) where
      record Starts (names : List Name) (y : Linear) (z : Result ℕ Refused) : Type 0 where
        pub domain : Spans
        pub first : Begun names 12 domain (from s ts seen.next) y
        pub rest : Matches (read first.formulas first.behind) s ts z

      starts : (y : Result ℕ Refused) → r ≡ y → (names : List Name) → Named s ns names → (l : Side) (z : SideAt s ts at names l) → Starts names z.linear y
      unfolding nesting_limit
      starts y o names d l z = go (head_by names true (token s seen.kind seen.place seen.payload).kind) refl (heads _ f names d)
        where
          go : (g : Head) → head_by names true (token s seen.kind seen.place seen.payload).kind ≡ g → Heads g true seen.kind (Some one) → Starts names z.linear y
          go a_sigma g q = absurd q
          go a_primary g q = absurd q
          go (a_variable i w) g q =
              let m = begun names 12 (from s ts at) z.linear z.stands.rest z.stands.reads (token s seen.kind seen.place seen.payload) (from s ts seen.next) nexts looks i w g in
              record {
                domain = w;
                first = m;
                rest = subst (λ r. Matches (read m.formulas m.behind) s ts r) o (subst (λ o. Matches o s ts r) m.subscripts ((u.moves w q.1).matches names d));
              }

      pub bare-refused : (e : Refused) → r ≡ Err e → IsBare s ns ts at false
      bare-refused w o = record { is = λ names d l z. absurd (starts _ o names d l z).rest }

      pub bare-alone : (q : ℕ) → r ≡ Ok q → (y : Bool) → IsAlone ts q y → IsBare s ns ts at y
      bare-alone q o y g =
          record {
            is = λ names d l z.
                let m = starts _ o names d l z in
                g.is s m.first.token m.first.behind (ap look (sym m.rest) ∙ m.first.looks) ∙ sym m.first.same ∙ ap is_bare (sym z.side);
          }
