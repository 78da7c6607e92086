-- A walk never goes back: no more tokens are left than there were. So a sigma's body stands behind its word.
use Rattle.std.specs.Prelude.{Ok, Result, Option, Some, None}
use Rattle.rules.specs.declared.Refused.{Refused}
use mathlib.Core.Path.{◌≡◌, refl, sym, ◌∙◌, ap, subst}
use mathlib.Core.Bool.{Bool, true, false, cond}
use mathlib.Core.List.{List, [], ◌∷◌}
use Prim.Native.Nat.{ℕ, zero, suc, ◌-◌, ◌<◌, ◌≤◌}
use native.Mathlib.Omega.{arith}
use lib.Dec.{eqb}
use lib.ListN.{length, drop, length-drop}
use Rattle.rules.specs.declared.Refusal.{Refusal}
use Rattle.rules.specs.declared.Refusal.TheVariants.{Missing}
use Rattle.rules.specs.Limits.{token_limit}
use Rattle.value.specs.declared.Value.{Value}
use Rattle.value.specs.Decimal.{sum_of, product_of, floor_of, ceiling_of}
use Rattle.lexer.specs.Marks.{minus_sign, times_sign, opens, sum_word}
use Rattle.lexer.specs.Text.{Token, Kind}
use Rattle.lexer.specs.Text
use Rattle.language.specs.Outcome.{Outcome, done, refused, or_refuse, fitting}
use Rattle.language.proofs.Outcome.{refused-done}
use Rattle.language.specs.Syntax.{Spans, Name, Sort, point, span}
use Rattle.language.specs.Syntax
use Rattle.language.specs.Reader.{Reader, ◌>>=◌, give, refuse, lift, passed, next, look, is_mark, Used, find, as_read}
use Rattle.language.specs.Formulas.{Signed, is_sum, read_sign}
use Rattle.language.specs.Scope.{Scope, unbound}
use Rattle.language.specs.Evaluation.{whole_at, Limits, run_of, eval, within}
use Rattle.language.specs.Numbering.{signed}
use Rattle.onepass.specs.Walk.{Walk, skip, name_number, opens_bracket, closes_bracket, behind_bracket, walk_factors, walk_term, walk_summands, walk_formula, walk_part, walk_turns, walk_body, walk_head, walk_limits, walk_sum, walk_list, walk_subscripts, walk_datum, walk_named, walk_found, walk_primary_by, walk_primary, walk_inside}
use Rattle.onepass.specs.Entries.{read}
use Rattle.onepass.proofs.Steps.{after_read, same_rest}
use Rattle.tokens.specs.declared.Seen.{Seen}
use Rattle.tokens.specs.Stored.{view, from, Sees, Looks}

abbrev Forward : {A : Type 0} → Reader A → Type 0
Forward {A} m = (l : List Token) (a : A) (k : List Token) → m l ≡ read a k → length k ≤ length l

abbrev Forwards : Walk → Type 0
Forwards F = (s : Scope) → Forward (F s)

-- ---- sequences

module _ {A : Type 0} where
  give-forward : (a : A) → Forward (give a)
  give-forward a l b k e = let d = same_rest e in omega (arith, ap length d)

  refuse-forward : (n : Refusal) (p : ℕ) → Forward {A = A} (refuse n p)
  refuse-forward n p l b k e = absurd (refused-done e)

  lift-forward : (o : Outcome A) → Forward (lift o)
  lift-forward (done a) l b k e = give-forward a l b k e
  lift-forward (refused n p) l b k e = absurd (refused-done e)

  module _ {B : Type 0} where
    then-forward : (m : Reader A) (f : A → Reader B) → Forward m → ((a : A) → Forward (f a)) → Forward (m >>= f)
    then-forward m f h g l b k e = after_read (m l) f (record { what = b; rest = k }) e (λ a r d i. let x = h l a r d in let y = g a r b k i in omega arith)

-- ---- one token

skip-forward : Forward skip
unfolding skip
skip-forward [] a k e = omega (arith, ap length (same_rest e))
skip-forward (t ∷ l) a k e = omega (arith, ap length (same_rest e))

passed-rest : (c : Kind) (t u : Token) (l k : List Token) → passed c t l ≡ read u k → l ≡ k
unfolding passed
passed-rest (Text.mark c) t u l k e = same_rest e
passed-rest (Text.name n) t u l k e = same_rest e
passed-rest (Text.literal w v) t u l k e = same_rest e
passed-rest (Text.string n) t u l k e = same_rest e
passed-rest Text.end t u l k e = same_rest e
passed-rest (Text.wrong r) t u l k e = absurd (refused-done e)

next-shorter : (l : List Token) (u : Token) (k : List Token) → next l ≡ read u k → length k < length l
unfolding next
next-shorter [] u k e = absurd (refused-done e)
next-shorter (t ∷ l) u k e = omega (arith, ap length (passed-rest t.kind t u l k e))

next-forward : Forward next
next-forward l u k e = omega (arith, next-shorter l u k e)

look-forward : Forward look
unfolding look
look-forward [] u k e = absurd (refused-done e)
look-forward (t ∷ l) u k e = omega (arith, ap length (passed-rest t.kind t u (t ∷ l) k e))

sign-forward : Forward read_sign
unfolding read_sign
sign-forward = then-forward look _ look-forward (λ t. pick (is_mark minus_sign t) (is_sum t))
  where
    pick : (m b : Bool) → Forward {A = Signed} (elim b as (λ _. Reader Signed) [ true ↦ next >>= (λ _. give (record { written = true; negative = m })) | false ↦ give (record { written = false; negative = false }) ])
    pick m true = then-forward next _ next-forward (λ t. give-forward _)
    pick m false = give-forward _

behind-forward : (d : ℕ) (l : List Token) → length (behind_bracket d l) ≤ length l
unfolding behind_bracket
behind-forward d [] = omega arith
behind-forward zero (t ∷ l) = pick (opens_bracket t) (closes_bracket t) (behind-forward 1 l) (behind-forward 0 l)
  where
    pick : (a b : Bool) → length (behind_bracket 1 l) ≤ length l → length (behind_bracket 0 l) ≤ length l
        → length {A = Token} (elim a as (λ _. List Token) [ true ↦ behind_bracket 1 l | false ↦ elim b as (λ _. List Token) [ true ↦ l | false ↦ behind_bracket 0 l ] ]) ≤ suc (length l)
    pick true b x y = omega arith
    pick false true x y = omega arith
    pick false false x y = omega arith
behind-forward (suc d) (t ∷ l) = pick (opens_bracket t) (closes_bracket t) (behind-forward (suc (suc d)) l) (behind-forward d l) (behind-forward (suc d) l)
  where
    pick : (a b : Bool) → length (behind_bracket (suc (suc d)) l) ≤ length l → length (behind_bracket d l) ≤ length l → length (behind_bracket (suc d) l) ≤ length l
        → length {A = Token} (elim a as (λ _. List Token) [ true ↦ behind_bracket (suc (suc d)) l | false ↦ elim b as (λ _. List Token) [ true ↦ behind_bracket d l | false ↦ behind_bracket (suc d) l ] ]) ≤ suc (length l)
    pick true b x y z = omega arith
    pick false true x y z = omega arith
    pick false false x y z = omega arith

rest-forward : (o : Outcome Value) (l : List Token) (v : Value) (k : List Token) → as_read o (behind_bracket 0 l) ≡ read v k → length k ≤ length l
rest-forward (done a) l v k e = omega (arith, ap length (same_rest e), behind-forward 0 l)
rest-forward (refused n p) l v k e = absurd (refused-done e)

-- ---- `(`, an index and a comma: at least one token

pub head-shorter : (names : List Name) (l : List Token) (i : ℕ) (k : List Token) → walk_head names l ≡ read i k → length k < length l
unfolding walk_head
head-shorter names l i k e =
    after_read (skip l) _ _ e (λ _ r d f. after_read (next r) _ _ f (λ t q g h.
    let x = skip-forward l tt r d in
    let y = next-shorter r t q g in
    let z = then-forward skip (λ _. give (name_number names t.kind)) skip-forward (λ _. give-forward _) q i k h in
    omega arith))

-- ---- formulas

module _ (F : Walk) (f : Forwards F) where
  factors-forward : (k : ℕ) (s : Scope) (v : Value) → Forward (walk_factors F k s v)
  unfolding walk_factors
  factors-forward zero s v = give-forward v
  factors-forward (suc k) s v = then-forward look _ look-forward (λ t. pick (factors-forward k s) t.place (is_mark times_sign t))
    where
      pick : ((u : Value) → Forward (walk_factors F k s u)) → (p : ℕ) (b : Bool) → Forward {A = Value} (elim b as (λ _. Reader Value) [ true ↦ skip >>= (λ _. F s >>= (λ w. lift (fitting p (product_of v w)) >>= (λ u. walk_factors F k s u))) | false ↦ give v ])
      pick more p true = then-forward skip _ skip-forward (λ _. then-forward (F s) _ (f s) (λ w. then-forward (lift (fitting p (product_of v w))) _ (lift-forward (fitting p (product_of v w))) more))
      pick more p false = give-forward v

  term-forward : Forwards (walk_term F)
  unfolding walk_term
  term-forward s = then-forward (F s) _ (f s) (λ v. factors-forward token_limit s v)

  summands-forward : (k : ℕ) (s : Scope) (v : Value) → Forward (walk_summands F k s v)
  unfolding walk_summands
  summands-forward zero s v = give-forward v
  summands-forward (suc k) s v = then-forward look _ look-forward (λ t. pick (summands-forward k s) t.place (is_mark minus_sign t) (is_sum t))
    where
      pick : ((u : Value) → Forward (walk_summands F k s u)) → (p : ℕ) (m b : Bool) → Forward {A = Value} (elim b as (λ _. Reader Value) [ true ↦ skip >>= (λ _. F s >>= (λ w. lift (fitting p (sum_of v (signed m w))) >>= (λ u. walk_summands F k s u))) | false ↦ give v ])
      pick more p m true = then-forward skip _ skip-forward (λ _. then-forward (F s) _ (f s) (λ w. then-forward (lift (fitting p (sum_of v (signed m w)))) _ (lift-forward (fitting p (sum_of v (signed m w)))) more))
      pick more p m false = give-forward v

  formula-forward : Forwards (walk_formula F)
  unfolding walk_formula
  formula-forward s = then-forward read_sign _ sign-forward (λ g. then-forward (F s) _ (f s) (λ v. summands-forward token_limit s (signed g.negative v)))

  part-forward : Forwards (walk_part F)
  unfolding walk_part
  part-forward s = then-forward (F s) _ (f s) (λ v. then-forward skip _ skip-forward (λ _. give-forward v))

  limits-forward : (s : Scope) → Forward (walk_limits F s)
  unfolding walk_limits
  limits-forward s =
      then-forward (walk_part F s) _ (part-forward s) (λ v. then-forward (walk_part F s) _ (part-forward s) (λ w. give-forward (record { lower = ceiling_of v; upper = floor_of w })))

  sum-forward : (names : List Name) (p : ℕ) → Forwards (walk_sum names F p)
  unfolding walk_sum walk_body
  sum-forward names p s =
      then-forward (walk_head names) _ (λ l i k e. omega (arith, head-shorter names l i k e))
      (λ i. then-forward (walk_limits F s) _ (limits-forward s)
      (λ b. then-forward (lift (run_of b i s p)) _ (lift-forward (run_of b i s p)) (λ ks l v k e. rest-forward (walk_turns F i p s ks l) l v k e)))

  list-forward : (d : Spans) (s : Scope) (p : ℕ) → Forward (walk_list F d s p)
  unfolding walk_list
  list-forward point s p = give-forward []
  list-forward (span i g h q d) s p =
      then-forward (walk_part F s) _ (part-forward s) (λ v. then-forward (lift (whole_at p v)) _ (lift-forward (whole_at p v)) (λ k. then-forward (walk_list F d s p) _ (list-forward d s p) (λ ks. give-forward (k ∷ ks))))

  subscripts-forward : (d : Spans) (s : Scope) (p : ℕ) → Forward (walk_subscripts F d s p)
  unfolding walk_subscripts
  subscripts-forward point s p = give-forward []
  subscripts-forward (span i g h q d) s p = then-forward skip _ skip-forward (λ _. list-forward (span i g h q d) s p)

  datum-forward : (i p : ℕ) (d : Spans) → Forwards (walk_datum F i p d)
  unfolding walk_datum
  datum-forward i p d s = then-forward (walk_subscripts F d s p) _ (subscripts-forward d s p) (λ ks. then-forward (lift (within d ks (unbound s) p)) _ (lift-forward (within d ks (unbound s) p)) (λ _. lift-forward (or_refuse Missing p (s.known i ks))))

  named-forward : (i p : ℕ) (x : Sort) → Forwards (walk_named F i p x)
  unfolding walk_named
  named-forward i p Syntax.index s = lift-forward (eval (Syntax.index i p) s)
  named-forward i p (Syntax.integer d) s = datum-forward i p d s
  named-forward i p (Syntax.real d) s = datum-forward i p d s
  named-forward i p (Syntax.formula g) s = lift-forward (eval g s)
  named-forward i p (Syntax.discrete d) s = refuse-forward _ p
  named-forward i p (Syntax.continuous d) s = refuse-forward _ p

  found-forward : (p : ℕ) (o : Option Used) → Forwards (walk_found F p o)
  unfolding walk_found
  found-forward p None s = refuse-forward _ p
  found-forward p (Some u) s = named-forward u.number p u.sort s

  cond-forward : (b : Bool) (m n : Reader Value) → Forward m → Forward n → Forward (cond b m n)
  cond-forward true m n x y = x
  cond-forward false m n x y = y

  by-forward : (names : List Name) (p : ℕ) (c : Kind) → Forwards (walk_primary_by names F p c)
  unfolding walk_primary_by
  by-forward names p (Text.mark c) s =
      cond-forward (eqb c sum_word) _ _ (sum-forward names p s) (cond-forward (eqb c opens) _ _ (part-forward s) (refuse-forward _ p))
  by-forward names p (Text.name l) s = found-forward p (find l names 0 p) s
  by-forward names p (Text.literal w v) s = give-forward v
  by-forward names p (Text.string l) s = refuse-forward _ p
  by-forward names p Text.end s = refuse-forward _ p
  by-forward names p (Text.wrong r) s = refuse-forward _ p

inside-forward : (names : List Name) (n : ℕ) → Forwards (walk_inside names n)
unfolding walk_inside walk_primary
inside-forward names zero s = refuse-forward _ 0
inside-forward names (suc n) s =
    formula-forward _ (term-forward _ (λ s. then-forward next _ next-forward (λ t. by-forward (walk_inside names n) (inside-forward names n) names t.place t.kind s))) s

pub limits-behind : (names : List Name) (n : ℕ) (s : Scope) (l : List Token) (b : Limits) (k : List Token) → walk_limits (walk_inside names n) s l ≡ read b k → length k ≤ length l
limits-behind names n s = limits-forward (walk_inside names n) (inside-forward names n) s

-- ---- positions

length-view : (s ts : List ℕ) → length (view s ts) ≡ length ts
unfolding view
length-view s [] = refl
length-view s (w ∷ ts) = ap suc (length-view s ts)

pub length_from : (s ts : List ℕ) (at : ℕ) → length (from s ts at) ≡ length ts - at
unfolding from
length_from s ts at = length-view s (drop at ts) ∙ length-drop at ts

-- one token fewer is left behind a token
pub one_fewer : (ts : List ℕ) (at : ℕ) (w : Seen) (t : Result Seen Refused) → Looks ts at t → t ≡ Ok w → length ts - at ≡ suc (length ts - w.next)
one_fewer ts at z t h e =
    let f = ap length (subst (Sees [] ts at) e (h.sees [])).1 in
    sym (length_from [] ts at) ∙ f ∙ ap suc (length_from [] ts z.next)
