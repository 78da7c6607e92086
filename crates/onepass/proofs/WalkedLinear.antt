-- A linear form that is walked gathers the row of the form that is read from its tokens, or has its refusal, and leaves the same
-- tokens.
use mathlib.Core.Path.{◌≡◌, refl, sym, ◌∙◌, ap, fun_ext}
use mathlib.Core.Bool.{Bool, true, false}
use mathlib.Core.List.{List}
use Prim.Native.Nat.{ℕ, zero, suc}
use lib.IntN.{ℤ}
use Rattle.rules.specs.declared.Refusal.TheVariants.{Misplaced, Full}
use Rattle.rules.specs.Limits.{token_limit}
use Rattle.value.specs.declared.Value.{Value}
use Rattle.value.specs.Decimal.{product_of}
use Rattle.lexer.specs.Marks.{minus_sign, times_sign, comma, closes, sigma_word}
use Rattle.lexer.specs.Text.{Token}
use Rattle.language.specs.Outcome.{done, fitting}
use Rattle.language.specs.Syntax.{Formulas, Spans, Name, Form, Term, also, factor, variable}
use Rattle.language.specs.Syntax
use Rattle.language.specs.Reader.{Reader, as_read, ◌>>=◌, give, lift, next, look, is_mark, expect}
use Rattle.language.specs.Formulas.{is_sum, Signed, read_sign, part_of, head_of, subscripts_of, primary_by, inside_at, formula_at}
use Rattle.language.specs.Linear.{Head, a_sigma, a_variable, a_primary, head_by, linear_term, linear_terms, Linear, linear_of, no_sigma, plain_form, body_of, sigma_at, linear_at}
use Rattle.language.specs.Scope.{Scope, bind, unbound}
use Rattle.language.specs.Evaluation.{limits_of, run_of, each, eval, eval_all, within}
use Rattle.language.specs.Numbering.{Variable, Row, xor, variable_at, gather, gather_term}
use Rattle.language.specs.Model.{what_of}
use Rattle.onepass.specs.Walk.{skip, behind_bracket, walk_head, walk_limits, walk_subscripts, walk_primary_by, walk_inside, value_at}
use Rattle.onepass.specs.WalkLinear.{Gatherer, walk_number, walk_variable, walk_linear_term, walk_linear_terms, walk_linear, no_sigma_walk, walk_body_form, walk_runs, walk_sigma, gather_at}
use Rattle.onepass.specs.Entries.{read}
use Rattle.onepass.proofs.Steps.{after_read, on, via, ends, same-what, same_rest, done-last, Walks, nothing, look-stays, skip-next, expect-is, head_walks, what-as}
use Rattle.onepass.proofs.Balanced.{sigma-body-end}
use Rattle.onepass.proofs.Walked.{Agrees, limits-walk, subscripts-walk, inside-agrees, primary_by-walks, walked}

-- no sign, and no further term
no_sign_lem : (ts : List Token) (g : Signed) (l : List Token) → read_sign ts ≡ read g l → g.written ≡ false → ts ≡ l
unfolding read_sign
no_sign_lem ts g l e w = after_read (look ts) _ _ e λ t m tm e. look-stays ts t m tm ∙ go t m (is_sum t) e
  where
    go : (t : Token) (m : List Token) (b : Bool)
        → (elim b as (λ _. Reader Signed) [
          | true ↦ next >>= (λ _. give (record { written = true; negative = is_mark minus_sign t }))
          | false ↦ give (record { written = false; negative = false })
        ]) m ≡ read g l
        → m ≡ l
    go t m true e =
        after_read (next m) _ _ e λ _ _ _ e.
        let h = ap (λ (s : Signed). s.written) (same-what e) ∙ w in
        cc
    go t m false e = same_rest e

no-terms : (T : Reader Term) (k : ℕ) (ts l : List Token) → linear_terms T k ts ≡ read Syntax.end l → ts ≡ l
unfolding linear_terms
no-terms T zero ts l e = same_rest e
no-terms T (suc k) ts l e = after_read (look ts) _ _ e λ t m tm e. look-stays ts t m tm ∙ go t m (is_sum t) e
  where
    go : (t : Token) (m : List Token) (b : Bool)
        → (elim b as (λ _. Reader Form) [ true ↦ next >>= (λ _. T >>= (λ u. linear_terms T k >>= (λ g. give (also (is_mark minus_sign t) u g)))) | false ↦ give Syntax.end ]) m ≡ read Syntax.end l
        → m ≡ l
    go t m true e =
        after_read (next m) _ _ e λ _ m _ e.
        after_read (T m) _ _ e λ _ m _ e.
        after_read (linear_terms T k m) _ _ e λ _ m _ e.
        cc (same-what e)
    go t m false e = same_rest e

module _ (vs : List Variable) (names : List Name) where
  -- readers of terms and of forms, and what gathers them
  abbrev TermAgrees : Reader Term → Gatherer → Type 0
  TermAgrees R G = (s : Scope) (c : Value) (m : Bool) (r : Row) → Walks R (λ t. gather_term vs t s c m r) (G s c m r)

  abbrev FormAgrees : Reader Form → Gatherer → Type 0
  FormAgrees R G = (s : Scope) (c : Value) (m : Bool) (r : Row) → Walks R (λ f. gather vs f s c m r) (G s c m r)

  -- ---- terms

  number-walks : (n i : ℕ) (d : Spans) (p : ℕ) (s : Scope) → Walks (subscripts_of n (inside_at names n) d) (λ fs. variable_at vs i d fs p s) (walk_number vs names n i d p s)
  unfolding walk_number variable_at
  number-walks n i d p s =
      record {
        walks = λ ts fs rest e.
            via (walk_subscripts (walk_inside names n) d s p ts) (eval_all fs s p) rest rest _ _ (subscripts-walk (inside_at names n) (walk_inside names n) (inside-agrees names n) s p n d ts rest fs e) λ ks.
            via (as_read (within d ks (unbound s) p) rest) (within d ks (unbound s) p) rest rest _ _ refl λ _. refl;
      }

  variable-gathers : (n i : ℕ) (d : Spans) (p : ℕ) → TermAgrees (subscripts_of n (inside_at names n) d >>= (λ fs. give (variable i d fs p))) (walk_variable vs names n i d p)
  unfolding walk_variable gather
  variable-gathers n i d p s c m r =
      record {
        walks = λ ts t rest e.
            after_read (subscripts_of n (inside_at names n) d ts) _ _ e λ fs l fl e.
            (via (walk_number vs names n i d p s ts) (variable_at vs i d fs p s) l l _ _ ((number-walks n i d p s).walks ts fs l fl) λ j. refl)
            ∙ ends (λ x. gather_term vs x s c m r) e;
      }

  module _ (S : ℕ → Reader Term) (G : ℕ → Gatherer) (a : (p : ℕ) → TermAgrees (S p) (G p)) (sigmas : Bool) (n : ℕ) where
    term-gathers : (k : ℕ) → TermAgrees (linear_term names S sigmas n k) (walk_linear_term vs names G sigmas n k)
    unfolding linear_term walk_linear_term gather
    term-gathers zero s c m r = nothing Full 0
    term-gathers (suc k) s c m r =
        record { walks = λ ts t rest e. after_read (next ts) _ _ e λ x l xl e. on (next ts) _ x l _ xl ((go (term-gathers k) x (head_by names sigmas x.kind)).walks l t rest e) }
      where
        R : Token → Head → Reader Term
        R x h =
            elim h as (λ _. Reader Term) [
              | a_sigma ↦ S x.place
              | a_variable i d ↦ subscripts_of n (inside_at names n) d >>= (λ fs. give (variable i d fs x.place))
              | a_primary ↦ primary_by names n (inside_at names n) x.place x.kind >>= (λ f. expect times_sign >>= (λ p. linear_term names S sigmas n k >>= (λ y. give (factor f p y))))
            ]

        H : Token → Head → Reader Row
        H x h =
            elim h as (λ _. Reader Row) [
              | a_sigma ↦ G x.place s c m r
              | a_variable i d ↦ walk_variable vs names n i d x.place s c m r
              | a_primary ↦ walk_primary_by names (walk_inside names n) x.place x.kind s >>= (λ v. next >>= (λ u. lift (fitting u.place (product_of c v)) >>= (λ w. walk_linear_term vs names G sigmas n k s w m r)))
            ]

        go : TermAgrees (linear_term names S sigmas n k) (walk_linear_term vs names G sigmas n k) → (x : Token) (h : Head) → Walks (R x h) (λ t. gather_term vs t s c m r) (H x h)
        go ih x a_sigma = a x.place s c m r
        go ih x (a_variable i d) = variable-gathers n i d x.place s c m r
        go ih x a_primary =
            record {
              walks = λ l t rest e.
                  after_read (primary_by names n (inside_at names n) x.place x.kind l) _ _ e λ f l₁ fl e.
                  after_read (expect times_sign l₁) _ _ e λ p l₂ pl e.
                  after_read (linear_term names S sigmas n k l₂) _ _ e λ y l₃ yl e.
                  let u = expect-is times_sign l₁ p l₂ pl in
                  (via (walk_primary_by names (walk_inside names n) x.place x.kind s l) (eval f s) l₁ l₃ _ _ ((primary_by-walks names n x.place x.kind s).walks l f l₁ fl) λ v.
                  on (next l₁) _ u.token l₂ _ u.stands (rw u.at
                  (via (as_read (fitting p (product_of c v)) l₂) (fitting p (product_of c v)) l₂ l₃ _ _ refl λ w. (ih s w m r).walks l₂ y l₃ yl)))
                  ∙ ends (λ z. gather_term vs z s c m r) e;
            }

  -- ---- forms

  module _ (T : Reader Term) (G : Gatherer) (a : TermAgrees T G) where
    terms-gather : (k : ℕ) → FormAgrees (linear_terms T k) (walk_linear_terms vs names G k)
    unfolding linear_terms walk_linear_terms gather
    terms-gather zero s c m r = record { walks = λ ts f rest e. ends (λ z. gather vs z s c m r) e }
    terms-gather (suc k) s c m r =
        record { walks = λ ts f rest e. after_read (look ts) _ _ e λ x l xl e. on (look ts) _ x l _ xl ((go (terms-gather k) x (is_sum x)).walks l f rest e) }
      where
        go : FormAgrees (linear_terms T k) (walk_linear_terms vs names G k) → (x : Token) (b : Bool)
            → Walks (elim b as (λ _. Reader Form) [ true ↦ next >>= (λ _. T >>= (λ u. linear_terms T k >>= (λ g. give (also (is_mark minus_sign x) u g)))) | false ↦ give Syntax.end ]) (λ f. gather vs f s c m r)
            (elim b as (λ _. Reader Row) [ true ↦ skip >>= (λ _. G s c (xor m (is_mark minus_sign x)) r >>= (λ q. walk_linear_terms vs names G k s c m q)) | false ↦ give r ])
        go ih x true =
            record {
              walks = λ l f rest e.
                  after_read (next l) _ _ e λ y l₁ yl e.
                  after_read (T l₁) _ _ e λ u l₂ ul e.
                  after_read (linear_terms T k l₂) _ _ e λ g l₃ gl e.
                  let b = xor m (is_mark minus_sign x) in
                  on (skip l) _ tt l₁ _ (skip-next l y l₁ yl) (via (G s c b r l₁) (gather_term vs u s c b r) l₂ l₃ _ _ ((a s c b r).walks l₁ u l₂ ul) λ q. (ih s c m q).walks l₂ g l₃ gl)
                  ∙ ends (λ z. gather vs z s c m r) e;
            }
        go ih x false = record { walks = λ l f rest e. ends (λ z. gather vs z s c m r) e }

    linear-gathers : (s : Scope) (c : Value) (m : Bool) (r : Row) → Walks (linear_of T) (λ x. gather vs x.form s c m r) (walk_linear vs names G s c m r)
    unfolding linear_of walk_linear gather
    linear-gathers s c m r =
        record {
          walks = λ ts x rest e.
              after_read (read_sign ts) _ _ e λ g l gl e.
              after_read (T l) _ _ e λ u l₁ ul e.
              after_read (linear_terms T token_limit l₁) _ _ e λ f l₂ fl e.
              let b = xor m g.negative in
              on (read_sign ts) _ g l _ gl (via (G s c b r l) (gather_term vs u s c b r) l₁ l₂ _ _ ((a s c b r).walks l u l₁ ul) λ q. (terms-gather token_limit s c m q).walks l₁ f l₂ fl)
              ∙ ends (λ (z : Linear). gather vs z.form s c m r) e;
        }

  -- ---- sigmas

  module _ (S : ℕ → Reader Term) (G : ℕ → Gatherer) (a : (p : ℕ) → TermAgrees (S p) (G p)) (n : ℕ) where
    body-gathers : FormAgrees (body_of names S n) (walk_body_form vs names G n)
    unfolding body_of plain_form walk_body_form gather
    body-gathers s c m r = record { walks = λ ts f rest e. after_read (look ts) _ _ e λ x l xl e. on (look ts) _ x l _ xl ((go x (is_mark sigma_word x)).walks l f rest e) }
      where
        go : (x : Token) (b : Bool)
            → Walks (elim b as (λ _. Reader Form) [ true ↦ next >>= (λ _. S x.place >>= (λ u. give (also false u Syntax.end))) | false ↦ plain_form names n ]) (λ f. gather vs f s c m r)
            (elim b as (λ _. Reader Row) [
              | true ↦ skip >>= (λ _. G x.place s c (xor m false) r)
              | false ↦ walk_linear vs names (walk_linear_term vs names (no_sigma_walk vs names) false n token_limit) s c m r
            ])
        go x true =
            record {
              walks = λ l f rest e.
                  after_read (next l) _ _ e λ y l₁ yl e.
                  after_read (S x.place l₁) _ _ e λ u l₂ ul e.
                  on (skip l) _ tt l₁ _ (skip-next l y l₁ yl)
                  ((a x.place s c (xor m false) r).walks l₁ u l₂ ul ∙ ap (λ o. as_read o l₂) (sym (done-last (gather_term vs u s c (xor m false) r))))
                  ∙ ends (λ z. gather vs z s c m r) e;
            }
        go x false =
            record {
              walks = λ l f rest e.
                  after_read (linear_of (linear_term names no_sigma false n token_limit) l) _ _ e λ y l₁ yl e.
                  (linear-gathers _ _ (term-gathers no_sigma (no_sigma_walk vs names) (λ p s c m r. nothing Misplaced p) false n token_limit) s c m r).walks l y l₁ yl
                  ∙ ends (λ z. gather vs z s c m r) e;
            }

  -- a body for each number of a run
  runs-gather : (R : Reader Form) (B : Gatherer) → FormAgrees R B → (ts : List Token) (h : Form) (l : List Token) → R ts ≡ read h l → (rest : List Token) → behind_bracket 0 ts ≡ rest
      → (i : ℕ) (s : Scope) (c : Value) (m : Bool) (r : Row) (ks : List ℤ) → walk_runs vs names B i s c m r ks ts ≡ as_read (each (λ k q. gather vs h (bind i k s) c m q) ks r) rest
  unfolding walk_runs
  runs-gather R B a ts h l e rest end i s c m r ks =
      ap (λ o. as_read (each o ks r) (behind_bracket 0 ts)) (fun_ext λ k. fun_ext λ q. ap what_of ((a (bind i k s) c m q).walks ts h l e) ∙ what-as (gather vs h (bind i k s) c m q) l)
      ∙ ap (as_read (each (λ k q. gather vs h (bind i k s) c m q) ks r)) end

  sigma-gathers : (n p : ℕ) → TermAgrees (sigma_at names n p) (walk_sigma vs names n p)
  unfolding sigma_at walk_sigma gather
  sigma-gathers zero p s c m r = record { walks = λ ts t rest e. after_read (head_of names zero ts) _ _ e λ i l il e. cc }
  sigma-gathers (suc n) p s c m r =
      record {
        walks = λ ts t rest e.
            after_read (head_of names (suc n) ts) _ _ e λ i l il e.
            after_read (part_of (formula_at names n) comma l) _ _ e λ f l₁ fl e.
            after_read (part_of (formula_at names n) comma l₁) _ _ e λ g l₂ gl e.
            after_read (body_of names (sigma_at names n) n l₂) _ _ e λ h l₃ hl e.
            after_read (expect closes l₃) _ _ e λ q l₄ ql e.
            let x = i.number in
            on (walk_head names ts) _ x l _ (head_walks names (suc n) ts i l il)
            (via (walk_limits (value_at names n) s l) (limits_of (eval f s) (eval g s)) l₂ l₄ _ _ (limits-walk (formula_at names n) (value_at names n) formula-walks s comma comma l l₁ l₂ f g fl gl) λ b.
            via (as_read (run_of b x s p) l₂) (run_of b x s p) l₂ l₄ _ _ refl λ ks.
            runs-gather (body_of names (sigma_at names n) n) _ (body-gathers (sigma_at names n) (walk_sigma vs names n) (sigma-gathers n) n) l₂ h l₃ hl l₄ (sigma-body-end names n l₂ h l₃ hl q l₄ ql) x s c m r ks)
            ∙ ends (λ z. gather_term vs z s c m r) e;
      }
    where
      formula-walks : Agrees (formula_at names n) (value_at names n)
      formula-walks s = record { walks = λ ts t rest e. walked names n ts t rest e s }

  -- ---- the theorem: where a linear form is read, its walk gathers the tree's row or refusal, and the same tokens are left
  pub gathered-walk : (n : ℕ) (ts : List Token) (x : Linear) (rest : List Token) → linear_at names n ts ≡ done (record { what = x; rest = rest })
      → (s : Scope) (c : Value) (m : Bool) (r : Row) → gather_at vs names n s c m r ts ≡ as_read (gather vs x.form s c m r) rest
  unfolding linear_at gather_at
  gathered-walk n ts x rest e s c m r = (linear-gathers _ _ (term-gathers (sigma_at names n) (walk_sigma vs names n) (sigma-gathers n) true n token_limit) s c m r).walks ts x rest e

  -- ---- a left side that is one variable without sign or factor: its name's token, and its number behind it

  pub record Bare (n i : ℕ) (d : Spans) (fs : Formulas) (p : ℕ) (ts rest : List Token) : Type 0 where
    pub token : Token
    pub behind : List Token
    pub stands : next ts ≡ read token behind
    pub at : token.place ≡ p
    pub begins : head_by names true token.kind ≡ a_variable i d
    pub walks : (s : Scope) → walk_number vs names n i d p s behind ≡ as_read (variable_at vs i d fs p s) rest

  module _ (i : ℕ) (d : Spans) (fs : Formulas) (p : ℕ) where
    no-sigma : (n q : ℕ) (ts rest : List Token) → sigma_at names n q ts ≡ read (variable i d fs p) rest → ⊥
    unfolding sigma_at
    no-sigma zero q ts rest e = after_read (head_of names zero ts) _ _ e λ i l il e. cc
    no-sigma (suc n) q ts rest e =
        after_read (head_of names (suc n) ts) _ _ e λ _ l _ e.
        after_read (part_of (formula_at names n) comma l) _ _ e λ _ l _ e.
        after_read (part_of (formula_at names n) comma l) _ _ e λ _ l _ e.
        after_read (body_of names (sigma_at names n) n l) _ _ e λ _ l _ e.
        after_read (expect closes l) _ _ e λ _ l _ e.
        cc (same-what e)

    bare-term : (n k : ℕ) (ts rest : List Token) → linear_term names (sigma_at names n) true n k ts ≡ read (variable i d fs p) rest → Bare n i d fs p ts rest
    unfolding linear_term
    bare-term n zero ts rest e = cc
    bare-term n (suc k) ts rest e = after_read (next ts) _ _ e λ x l xl e. go x l xl (head_by names true x.kind) refl e
      where
        go : (x : Token) (l : List Token) → next ts ≡ read x l → (h : Head) → head_by names true x.kind ≡ h
            → (elim h as (λ _. Reader Term) [
              | a_sigma ↦ sigma_at names n x.place
              | a_variable i d ↦ subscripts_of n (inside_at names n) d >>= (λ fs. give (variable i d fs x.place))
              | a_primary ↦ primary_by names n (inside_at names n) x.place x.kind >>= (λ f. expect times_sign >>= (λ p. linear_term names (sigma_at names n) true n k >>= (λ y. give (factor f p y))))
            ]) l ≡ read (variable i d fs p) rest
            → Bare n i d fs p ts rest
        go x l xl a_sigma b e = absurd (no-sigma n x.place l rest e)
        go x l xl (a_variable j v) b e =
            after_read (subscripts_of n (inside_at names n) v l) _ _ e λ gs m gm e.
            let same = same-what e in
            let ij : j ≡ i = cc in
            let vd : v ≡ d = cc in
            let gf : gs ≡ fs = cc in
            let q : x.place ≡ p = cc in
            record {
              token = x;
              behind = l;
              stands = xl;
              at = q;
              begins = b ∙ ap (λ j. a_variable j v) ij ∙ ap (a_variable i) vd;
              walks = λ s. (number-walks n i d p s).walks l fs rest (rw (vd, gf, same_rest e) at gm);
            }
        go x l xl a_primary b e =
            after_read (primary_by names n (inside_at names n) x.place x.kind l) _ _ e λ _ l _ e.
            after_read (expect times_sign l) _ _ e λ _ l _ e.
            after_read (linear_term names (sigma_at names n) true n k l) _ _ e λ _ l _ e.
            cc (same-what e)

    pub bare-walk : (n : ℕ) (ts : List Token) (x : Linear) (rest : List Token) → linear_at names n ts ≡ done (record { what = x; rest = rest })
        → x.signed ≡ false → x.form ≡ also false (variable i d fs p) Syntax.end → Bare n i d fs p ts rest
    unfolding linear_at linear_of
    bare-walk n ts x rest e plain one =
        after_read (read_sign ts) _ _ e λ g l gl e.
        after_read (linear_term names (sigma_at names n) true n token_limit l) _ _ e λ u l₁ ul e.
        after_read (linear_terms (linear_term names (sigma_at names n) true n token_limit) token_limit l₁) _ _ e λ f l₂ fl e.
        let form : also g.negative u f ≡ also false (variable i d fs p) Syntax.end = ap (λ (y : Linear). y.form) (same-what e) ∙ one in
        let uv : u ≡ variable i d fs p = cc in
        let fe : f ≡ Syntax.end = cc in
        let r : l₁ ≡ rest = no-terms _ token_limit l₁ l₂ (fl ∙ ap (λ f. read f l₂) fe) ∙ same_rest e in
        let tl : ts ≡ l = no_sign_lem ts g l gl (ap (λ (y : Linear). y.signed) (same-what e) ∙ plain) in
        rw tl (bare-term n token_limit l rest (ul ∙ ap (λ u. read u l₁) uv ∙ ap (read (variable i d fs p)) r))
