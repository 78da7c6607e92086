-- A formula that is walked has the value of the tree that is read from its tokens, or its refusal, and leaves the same tokens.
use mathlib.Core.Path.{◌≡◌, refl, ◌∙◌, ap, fun_ext}
use mathlib.Core.Bool.{Bool, true, false, cond}
use mathlib.Core.List.{List}
use Prim.Native.Nat.{ℕ, zero, suc}
use lib.Dec.{eqb}
use lib.IntN.{ℤ}
use Rattle.rules.specs.declared.Refusal.TheVariants.{Misplaced, Full}
use Rattle.rules.specs.Limits.{token_limit}
use Rattle.value.specs.declared.Value.{Value}
use Rattle.value.specs.Decimal.{zero_value, sum_of, product_of}
use Rattle.lexer.specs.Marks.{minus_sign, times_sign, comma, opens, closes, opens_list, closes_list, sum_word}
use Rattle.lexer.specs.Text.{Token, Kind}
use Rattle.lexer.specs.Text
use Rattle.language.specs.Outcome.{Outcome, done, fitting}
use Rattle.language.proofs.Outcome.{done-injective}
use Rattle.language.specs.Outcome as Outcome
use Rattle.language.specs.Syntax.{Formula, Formulas, Spans, Name, Sort, point, span, datum, plus, times}
use Rattle.language.specs.Syntax
use Rattle.language.specs.Reader.{Reader, Read, follow, as_read, ◌>>=◌, give, next, look, is_mark, expect, bracket, known}
use Rattle.language.specs.Formulas.{factors, term_of, is_sum, negated, summands, read_sign, formula_of, part_of, head_of, sum_formula, formulas_of, subscripts_of, named_by, nested_of, primary_by, primary_of, inside_at, formula_at}
use Rattle.language.specs.Scope.{Scope, bind, unbound}
use Rattle.language.specs.Evaluation.{whole_at, limits_of, run_of, each, add_to, eval, eval_all, within}
use Rattle.language.specs.Model.{what_of}
use Rattle.language.specs.Numbering.{signed}
use Rattle.onepass.specs.Walk.{skip, behind_bracket, Walk, walk_factors, walk_term, walk_summands, walk_formula, walk_part, walk_turns, walk_body, walk_head, walk_limits, walk_sum, walk_list, walk_subscripts, walk_datum, walk_named, walk_found, walk_primary_by, walk_primary, walk_inside, value_at}
use Rattle.onepass.specs.Entries.{read}
use Rattle.onepass.proofs.Steps.{after_read, on, via, onward, stays, ends, Walks, nothing, skip-next, expect-is, skip-expect, expect-place, bracket-is, known_is, head_walks, what-as}
use Rattle.onepass.proofs.Balanced.{body_end}

-- a reader of formulas and its walk
abbrev pub Agrees : Reader Formula → Walk → Type 0
Agrees R W = (s : Scope) → Walks R (λ f. eval f s) (W s)

-- ---- loops: what is read behind f, and walked on from its value

module _ (P : Reader Formula) (W : Walk) (a : Agrees P W) (s : Scope) where
  factors-walk : (n : ℕ) (f t : Formula) (ts rest : List Token) → factors P n f ts ≡ read t rest → follow (as_read (eval f s) ts) (walk_factors W n s) ≡ as_read (eval t s) rest
  unfolding factors walk_factors eval
  factors-walk zero f t ts rest e = stays (as_read (eval f s) ts) (eval f s) ts ts _ refl (λ v. refl) ∙ ends (λ x. eval x s) e
  factors-walk (suc n) f t ts rest e = after_read (look ts) _ _ e λ k l kl e. go (factors-walk n) k l kl (is_mark times_sign k) refl e
    where
      go : ((g u : Formula) (us m : List Token) → factors P n g us ≡ read u m → follow (as_read (eval g s) us) (walk_factors W n s) ≡ as_read (eval u s) m)
          → (k : Token) (l : List Token) → look ts ≡ read k l → (b : Bool) → is_mark times_sign k ≡ b
          → (elim b as (λ _. Reader Formula) [ true ↦ expect times_sign >>= (λ p. P >>= (λ g. factors P n (times f g p))) | false ↦ give f ]) l ≡ read t rest
          → follow (as_read (eval f s) ts) (walk_factors W (suc n) s) ≡ as_read (eval t s) rest
      go ih k l kl true d e =
          after_read (expect times_sign l) _ _ e λ p m pm e.
          after_read (P m) _ _ e λ g us gu e.
          let q : p ≡ k.place = expect-place times_sign ts k l p m kl pm in
          onward (as_read (eval f s) ts) (eval f s) (λ v. Outcome.◌>>=◌ (eval g s) λ w. fitting k.place (product_of v w)) ts us _ (walk_factors W n s) refl (λ v.
          on (look ts) _ k l _ kl (rw (d, walk_factors) (on (skip l) _ tt m _ (skip-expect times_sign l p m pm)
          (onward (W s m) (eval g s) _ us us _ (walk_factors W n s) ((a s).walks m g us gu) (λ w. refl)))))
          ∙ ih (times f g k.place) t us rest (rw q at e)
      go ih k l kl false d e = stays (as_read (eval f s) ts) (eval f s) ts l _ refl (λ v. on (look ts) _ k l _ kl (rw (d, walk_factors) refl)) ∙ ends (λ x. eval x s) e

negated-walk : {B : Type 0} (b : Bool) (g : Formula) (s : Scope) (l : List Token) (k : Value → Reader B)
    → follow (as_read (eval g s) l) (λ w. k (signed b w)) ≡ follow (as_read (eval (negated b g) s) l) k
unfolding eval
negated-walk true g s l k = onward (as_read (eval g s) l) (eval g s) _ l l _ k refl (λ w. refl)
negated-walk false g s l k = refl

module _ (T : Reader Formula) (W : Walk) (a : Agrees T W) (s : Scope) where
  summands-walk : (n : ℕ) (f t : Formula) (ts rest : List Token) → summands T n f ts ≡ read t rest → follow (as_read (eval f s) ts) (walk_summands W n s) ≡ as_read (eval t s) rest
  unfolding summands walk_summands eval
  summands-walk zero f t ts rest e = stays (as_read (eval f s) ts) (eval f s) ts ts _ refl (λ v. refl) ∙ ends (λ x. eval x s) e
  summands-walk (suc n) f t ts rest e = after_read (look ts) _ _ e λ k l kl e. go (summands-walk n) k l kl (is_sum k) refl e
    where
      go : ((g u : Formula) (us m : List Token) → summands T n g us ≡ read u m → follow (as_read (eval g s) us) (walk_summands W n s) ≡ as_read (eval u s) m)
          → (k : Token) (l : List Token) → look ts ≡ read k l → (b : Bool) → is_sum k ≡ b
          → (elim b as (λ _. Reader Formula) [ true ↦ next >>= (λ _. T >>= (λ g. summands T n (plus f (negated (is_mark minus_sign k) g) k.place))) | false ↦ give f ]) l ≡ read t rest
          → follow (as_read (eval f s) ts) (walk_summands W (suc n) s) ≡ as_read (eval t s) rest
      go ih k l kl true d e =
          after_read (next l) _ _ e λ x m xm e.
          after_read (T m) _ _ e λ g us gu e.
          let b = is_mark minus_sign k in
          onward (as_read (eval f s) ts) (eval f s) (λ v. Outcome.◌>>=◌ (eval (negated b g) s) λ w. fitting k.place (sum_of v w)) ts us _ (walk_summands W n s) refl (λ v.
          on (look ts) _ k l _ kl (rw (d, walk_summands) (on (skip l) _ tt m _ (skip-next l x m xm)
          (ap (λ o. follow o (λ w us. follow (as_read (fitting k.place (sum_of v (signed b w))) us) (walk_summands W n s))) ((a s).walks m g us gu)
          ∙ negated-walk b g s us (λ w us. follow (as_read (fitting k.place (sum_of v w)) us) (walk_summands W n s))
          ∙ onward (as_read (eval (negated b g) s) us) (eval (negated b g) s) _ us us _ (walk_summands W n s) refl (λ w. refl)))))
          ∙ ih (plus f (negated b g) k.place) t us rest e
      go ih k l kl false d e = stays (as_read (eval f s) ts) (eval f s) ts l _ refl (λ v. on (look ts) _ k l _ kl (rw (d, walk_summands) refl)) ∙ ends (λ x. eval x s) e

term-agrees : (P : Reader Formula) (W : Walk) → Agrees P W → Agrees (term_of P) (walk_term W)
unfolding term_of walk_term
term-agrees P W a s =
    record {
      walks = λ ts t rest e. after_read (P ts) _ _ e λ f l fl e. ap (λ o. follow o (walk_factors W token_limit s)) ((a s).walks ts f l fl) ∙ factors-walk P W a s token_limit f t l rest e;
    }

formula-agrees : (T : Reader Formula) (W : Walk) → Agrees T W → Agrees (formula_of T) (walk_formula W)
unfolding formula_of walk_formula
formula-agrees T W a s =
    record {
      walks = λ ts t rest e.
          after_read (read_sign ts) _ _ e λ g l gl e.
          after_read (T l) _ _ e λ f m fm e.
          let b = g.negative in
          on (read_sign ts) _ g l _ gl
          (ap (λ o. follow o (λ v. walk_summands W token_limit s (signed b v))) ((a s).walks l f m fm) ∙ negated-walk b f s m (walk_summands W token_limit s)
          ∙ summands-walk T W a s token_limit (negated b f) t m rest e);
    }

-- ---- a formula and a sign, limits, sums, subscripts

pub part-walks : (F : Reader Formula) (W : Walk) → Agrees F W → (ts : List Token) (f : Formula) (l : List Token) → F ts ≡ read f l
    → (t : Token) (rest : List Token) → next l ≡ read t rest → (s : Scope) → walk_part W s ts ≡ as_read (eval f s) rest
unfolding walk_part
part-walks F W a ts f l fl t rest tl s = stays (W s ts) (eval f s) l rest _ ((a s).walks ts f l fl) (λ v. on (skip l) _ tt rest _ (skip-next l t rest tl) refl)

pub part-agrees : (F : Reader Formula) (W : Walk) → Agrees F W → (c : ℕ) → Agrees (part_of F c) (walk_part W)
unfolding part_of
part-agrees F W a c s =
    record {
      walks = λ ts t rest e.
          after_read (F ts) _ _ e λ f l fl e.
          after_read (expect c l) _ _ e λ p m pm e.
          let x = expect-is c l p m pm in
          part-walks F W a ts f l fl x.token m x.stands s ∙ ends (λ x. eval x s) e;
    }

module _ (F : Reader Formula) (W : Walk) (a : Agrees F W) (s : Scope) where
  -- two limits
  pub limits-walk : (c c' : ℕ) (ts l m : List Token) (f g : Formula) → part_of F c ts ≡ read f l → part_of F c' l ≡ read g m → walk_limits W s ts ≡ as_read (limits_of (eval f s) (eval g s)) m
  unfolding walk_limits limits_of
  limits-walk c c' ts l m f g fl gm =
      via (walk_part W s ts) (eval f s) l m _ _ ((part-agrees F W a c s).walks ts f l fl) λ v.
      via (walk_part W s l) (eval g s) m m _ _ ((part-agrees F W a c' s).walks l g m gm) λ w. refl

  list-walks : (p : ℕ) (d : Spans) (ts rest : List Token) (fs : Formulas) → formulas_of F d ts ≡ read fs rest → walk_list W d s p ts ≡ as_read (eval_all fs s p) rest
  unfolding formulas_of walk_list eval
  list-walks p point ts rest fs e = ends (λ x. eval_all x s p) e
  list-walks p (span i lo hi q point) ts rest fs e =
      after_read (part_of F closes_list ts) _ _ e λ f l fl e.
      (via (walk_part W s ts) (eval f s) l l _ _ ((part-agrees F W a closes_list s).walks ts f l fl) λ v.
      via (as_read (whole_at p v) l) (whole_at p v) l l _ _ refl λ k. refl)
      ∙ ends (λ x. eval_all x s p) e
  list-walks p (span i lo hi q (span j lo' hi' q' d)) ts rest fs e =
      after_read (part_of F comma ts) _ _ e λ f l fl e.
      after_read (formulas_of F (span j lo' hi' q' d) l) _ _ e λ gs m gm e.
      (via (walk_part W s ts) (eval f s) l m _ _ ((part-agrees F W a comma s).walks ts f l fl) λ v.
      via (as_read (whole_at p v) l) (whole_at p v) l m _ _ refl λ k.
      via (walk_list W (span j lo' hi' q' d) s p l) (eval_all gs s p) m m _ _ (list-walks p (span j lo' hi' q' d) l m gs gm) λ ks. refl)
      ∙ ends (λ x. eval_all x s p) e

  pub subscripts-walk : (p n : ℕ) (d : Spans) (ts rest : List Token) (fs : Formulas) → subscripts_of n F d ts ≡ read fs rest → walk_subscripts W d s p ts ≡ as_read (eval_all fs s p) rest
  unfolding subscripts_of walk_subscripts eval
  subscripts-walk p n point ts rest fs e = ends (λ x. eval_all x s p) e
  subscripts-walk p n (span i lo hi q d) ts rest fs e =
      after_read (bracket opens_list n ts) _ _ e λ b l bl e.
      on (skip ts) _ tt l _ (skip-expect opens_list ts b l (bracket-is opens_list n ts b l bl)) (list-walks p (span i lo hi q d) l rest fs e)

choose : {R R' : Reader Formula} {h : Formula → Outcome Value} {G G' : Reader Value} (b : Bool) → Walks R h G → Walks R' h G' → Walks (cond b R R') h (cond b G G')
choose true r r' = r
choose false r r' = r'

-- a reader whose body's end is found by its brackets
abbrev Ended : Reader Formula → Type 0
Ended F = (ts : List Token) (h : Formula) (rest : List Token) → part_of F closes ts ≡ read h rest → behind_bracket 0 ts ≡ rest

module _ (names : List Name) (n : ℕ) (F : Reader Formula) (W : Walk) (a : Agrees F W) (ended : Ended F) where
  body-walks : (i p : ℕ) (s : Scope) (ks : List ℤ) (ts rest : List Token) (h : Formula) → part_of F closes ts ≡ read h rest
      → walk_body W i p s ks ts ≡ as_read (each (λ k v. add_to p v (eval h (bind i k s))) ks zero_value) rest
  unfolding part_of walk_body walk_turns
  body-walks i p s ks ts rest h e =
      ap (as_read (walk_turns W i p s ks ts)) (ended ts h rest e) ∙ ap (λ o. as_read o rest) turns
    where
      value : (s : Scope) → what_of (W s ts) ≡ eval h s
      value s =
          after_read (F ts) _ _ e λ f m fm e. after_read (expect closes m) _ _ e λ p k pk e.
          ap what_of ((a s).walks ts f m fm) ∙ what-as (eval f s) m ∙ ap (λ (r : Read Formula). eval r.what s) (done-injective e)

      turns : walk_turns W i p s ks ts ≡ each (λ k v. add_to p v (eval h (bind i k s))) ks zero_value
      turns = ap (λ o. each o ks zero_value) (fun_ext λ k. fun_ext λ v. ap (add_to p v) (value (bind i k s)))

  sum_agrees : (p : ℕ) → Agrees (sum_formula names n F p) (walk_sum names W p)
  unfolding sum_formula walk_sum eval
  sum_agrees p s =
      record {
        walks = λ ts t rest e.
            after_read (head_of names n ts) _ _ e λ i l il e.
            after_read (part_of F comma l) _ _ e λ f l₁ fl e.
            after_read (part_of F comma l₁) _ _ e λ g l₂ gl e.
            after_read (part_of F closes l₂) _ _ e λ h l₃ hl e.
            on (walk_head names ts) _ i.number l _ (head_walks names n ts i l il)
            (via (walk_limits W s l) (limits_of (eval f s) (eval g s)) l₂ l₃ _ _ (limits-walk F W a s comma comma l l₁ l₂ f g fl gl) λ b.
            via (as_read (run_of b i.number s p) l₂) (run_of b i.number s p) l₂ l₃ _ _ refl λ ks. body-walks i.number p s ks l₂ l₃ h hl)
            ∙ ends (λ x. eval x s) e;
      }

  -- ---- primaries

  datum-walks : (i p : ℕ) (d : Spans) → Agrees (subscripts_of n F d >>= (λ fs. give (datum i d fs p))) (walk_datum W i p d)
  unfolding walk_datum eval
  datum-walks i p d s =
      record {
        walks = λ ts t rest e.
            after_read (subscripts_of n F d ts) _ _ e λ fs l fl e.
            (via (walk_subscripts W d s p ts) (eval_all fs s p) l l _ _ (subscripts-walk F W a s p n d ts l fs fl) λ ks.
            via (as_read (within d ks (unbound s) p) l) (within d ks (unbound s) p) l l _ _ refl λ _. refl)
            ∙ ends (λ x. eval x s) e;
      }

  named-agrees : (i p : ℕ) (x : Sort) → Agrees (named_by n F i p x) (walk_named W i p x)
  unfolding named_by walk_named
  named-agrees i p Syntax.index s = record { walks = λ ts t rest e. ends (λ x. eval x s) e }
  named-agrees i p (Syntax.integer d) s = record { walks = (datum-walks i p d s).walks }
  named-agrees i p (Syntax.real d) s = record { walks = (datum-walks i p d s).walks }
  named-agrees i p (Syntax.formula f) s = record { walks = λ ts t rest e. ends (λ x. eval x s) e }
  named-agrees i p (Syntax.discrete d) s = nothing Misplaced p
  named-agrees i p (Syntax.continuous d) s = nothing Misplaced p

  nested-agrees : (m p : ℕ) → Agrees (nested_of m F p) (walk_part W)
  unfolding nested_of
  nested-agrees zero p s = nothing Full p
  nested-agrees (suc m) p s = part-agrees F W a closes s

  primary_by-agrees : (p : ℕ) (k : Kind) → Agrees (primary_by names n F p k) (walk_primary_by names W p k)
  unfolding primary_by walk_primary_by walk_found eval
  primary_by-agrees p (Text.mark c) s =
      choose (eqb c sum_word) (sum_agrees p s) (choose (eqb c opens) (nested-agrees n p s) (nothing Misplaced p))
  primary_by-agrees p (Text.name l) s =
      record {
        walks = λ ts t rest e.
            after_read (known names l p ts) _ _ e λ u m um e.
            let h = known_is names l p ts u m um in
            rw (h.0, h.1) ((named-agrees u.number p u.sort s).walks m t rest e);
      }
  primary_by-agrees p (Text.literal w v) s = record { walks = λ ts t rest e. ends (λ x. eval x s) e }
  primary_by-agrees p (Text.string l) s = nothing Misplaced p
  primary_by-agrees p Text.end s = nothing Misplaced p
  primary_by-agrees p (Text.wrong r) s = nothing r p

  primary-agrees : Agrees (primary_of names n F) (walk_primary names W)
  unfolding primary_of walk_primary
  primary-agrees s =
      record {
        walks = λ ts t rest e.
            after_read (next ts) _ _ e λ k l kl e.
            on (next ts) _ k l _ kl ((primary_by-agrees k.place k.kind s).walks l t rest e);
      }

-- ---- the theorem

pub inside-agrees : (names : List Name) (n : ℕ) → Agrees (inside_at names n) (walk_inside names n)
unfolding inside_at walk_inside
inside-agrees names zero s = nothing Full 0
inside-agrees names (suc n) s = record { walks = (formula-agrees _ _ (term-agrees _ _ (primary-agrees names n _ _ (inside-agrees names n) (body_end names n))) s).walks }

pub primary_by-walks : (names : List Name) (n p : ℕ) (k : Kind) → Agrees (primary_by names n (inside_at names n) p k) (walk_primary_by names (walk_inside names n) p k)
primary_by-walks names n = primary_by-agrees names n (inside_at names n) (walk_inside names n) (inside-agrees names n) (body_end names n)

-- where a formula is read, its walk gives the tree's value or refusal, and the same tokens are left
pub walked : (names : List Name) (n : ℕ) (ts : List Token) (t : Formula) (rest : List Token) → formula_at names n ts ≡ done (record { what = t; rest = rest })
    → (s : Scope) → value_at names n s ts ≡ as_read (eval t s) rest
unfolding formula_at value_at
walked names n ts t rest e s = (inside-agrees names (suc n) s).walks ts t rest e
