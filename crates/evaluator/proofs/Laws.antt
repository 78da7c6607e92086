-- Laws over plain variables for the functions without loops.
use Rattle.std.specs.Prelude.{Err, Ok, Result, Option, Some, None}
use Rattle.rules.specs.declared.Refused.{Refused}
use mathlib.Core.Path.{◌≡◌, refl, sym, ◌∙◌, ap, subst}
use mathlib.Core.Bool.{Bool, true, false}
use mathlib.Core.List.{List}
use Prim.Native.Nat.{ℕ, zero, suc, ◌-◌, ◌≤◌}
use native.Mathlib.Omega.{arith}
use lib.IntN.{ℤ, nat_abs}
use Rattle.rules.specs.declared.Refusal.{Refusal}
use Rattle.rules.specs.declared.Refusal.TheVariants.{Full}
use Rattle.rules.specs.Limits.{token_limit, nesting_limit, mantissa_limit}
use Rattle.value.specs.declared.Value.{Value}
use Rattle.value.specs.Decimal.{Valid, whole_of, of_whole, floor_of, ceiling_of}
use Rattle.value.proofs.Rounding.{floor-size, ceiling-size}
use Rattle.value.proofs.Operations.{negate-valid, valid-negated, of_whole-whole_of}
use Rattle.language.specs.Outcome.{Outcome, done, refused, fitting}
use Rattle.language.specs.Syntax.{Name}
use Rattle.language.specs.Reader.{Reader, Read, follow, as_read, ◌>>=◌}
use Rattle.language.specs.Formulas.{read_sign}
use Rattle.language.specs.Scope.{Scope}
use Rattle.language.specs.Evaluation.{whole_at}
use Rattle.language.specs.Numbering.{signed}
use Rattle.onepass.specs.Walk.{Walk, walk_term, walk_formula, walk_part, walk_limits, walk_inside, value_at}
use Rattle.onepass.specs.Entries.{read}
use Rattle.onepass.proofs.Steps.{on}
use Rattle.tokens.specs.Stored.{from}
use Rattle.evaluator.specs.declared.steps.scope.Scope.{Scope as Held}
use Rattle.evaluator.specs.declared.steps.values.Limits as code
use Rattle.evaluator.specs.Steps.Scopes.{Small}
use Rattle.evaluator.specs.Steps.Passing.{Skips, Led, Leads}
use Rattle.evaluator.specs.Steps.Values.{fitted_at, signed_value, whole_by, whole_answer, limits_in, SmallLimits}
use Rattle.evaluator.specs.Tables.{World}
use Rattle.evaluator.specs.Cycle.{inside_in, formula_in, primary_in, term_in, factors_in, summands_in, part_in, subscript_in, limits_walk, value_outcome, whole_outcome, ValidAnswer, seen_by, under, tokens_at, Values, Continues, Wholes, LimitsAre}
use Rattle.store.specs.Table.{Table}

-- ---- sequences

module _ {A B : Type 0} (o : Outcome (Read A)) (K : A → Reader B) where
  pub stop : (m : Refusal) (p : ℕ) → o ≡ refused m p → follow o K ≡ refused m p
  stop m p e = ap (λ o. follow o K) e

module _ {A B C : Type 0} where
  pub regroup : (o : Outcome (Read A)) (K : A → Reader B) (L : B → Reader C) → follow o (λ v l. follow (K v l) L) ≡ follow (follow o K) L
  regroup (done x) K L = refl
  regroup (refused m p) K L = refl

-- ---- values

-- a fit of values, as the code has it and as the definition has it
module _ (s ts : List ℕ) (p a : ℕ) where
  pub fitted-outcome : (f : Option Value) → as_read (fitting p f) (from s ts a) ≡ value_outcome s ts (fitted_at p a f)
  unfolding fitted_at
  fitted-outcome (Some v) = refl
  fitted-outcome None = refl

  pub whole-outcome : (v : Value) → as_read (whole_at p v) (from s ts a) ≡ whole_outcome s ts (whole_answer p a v)
  unfolding whole_at whole_answer whole_by of_whole
  whole-outcome v = go (whole_of v) refl
    where
      go : (w : Option ℤ) → whole_of v ≡ w → as_read (whole_at p v) (from s ts a) ≡ whole_outcome s ts (whole_answer p a v)
      go (Some k) e = rw e (ap (λ m. read m (from s ts a)) (ap (λ (v : Value). v.m) (of_whole-whole_of v k e)))
      go None e = rw e refl

pub fitted-valid : (p a : ℕ) (f : Option Value) → ((v : Value) → f ≡ Some v → Valid v) → ValidAnswer (fitted_at p a f)
unfolding fitted_at
fitted-valid p a (Some v) h = h v refl
fitted-valid p a None h = tt

pub whole-valid : (p a : ℕ) (v : Value) → Valid v → ValidAnswer (whole_answer p a v)
unfolding whole_answer whole_by
whole-valid p a v h = go (whole_of v)
  where
    go : (w : Option ℤ) → ValidAnswer (whole_by p a v w)
    go (Some k) = h
    go None = tt

module _ (b : Bool) (v : Value) (h : Valid v) where
  pub signed_is : signed_value b v ≡ signed b v
  unfolding signed_value
  signed_is = go b
    where
      go : (b : Bool) → signed_value b v ≡ signed b v
      go true = valid-negated v h
      go false = refl

  pub signed-valid : Valid (signed_value b v)
  unfolding signed_value
  signed-valid = go b
    where
      go : (b : Bool) → Valid (signed_value b v)
      go true = subst Valid (sym (valid-negated v h)) (negate-valid v h)
      go false = h

-- two values, rounded, are no larger than their numerators
pub rounded-small : (v u : Value) → Valid v → Valid u → SmallLimits (record { lower = ceiling_of v; upper = floor_of u })
rounded-small v u h k = record { low = omega (arith, ceiling-size v, h.small); high = omega (arith, floor-size u, k.small) }

-- ---- what an answer says

module _ (ns ts : List ℕ) (ds : Table) (given level : ℕ) (sc : Held) where
  module _ {W : List Name → Walk} {at : ℕ} {r : Result (Value × ℕ) Refused} (h : Values W ns ts ds given level sc at r) where
    pub refused-is : {m : Refusal} {p : ℕ} → r ≡ Err (record { refusal = m; place = p }) → (w : World ns ts ds given) → Small sc → W (seen_by w level) (under w sc) (tokens_at w at) ≡ refused m p
    refused-is e w g = h.is w g ∙ ap (value_outcome w.text ts) e

    pub value-is : {v : Value} {a : ℕ} → r ≡ Ok (v, a) → (w : World ns ts ds given) → Small sc → W (seen_by w level) (under w sc) (tokens_at w at) ≡ read v (tokens_at w a)
    value-is e w g = h.is w g ∙ ap (value_outcome w.text ts) e

    pub value-valid : {v : Value} {a : ℕ} → r ≡ Ok (v, a) → World ns ts ds given → Small sc → Valid v
    value-valid e w g = subst ValidAnswer e (h.valid w g)

  module _ {W : List Name → Scope → Reader ℤ} {at : ℕ} {r : Result (Value × ℕ) Refused} (h : Wholes W ns ts ds given level sc at r) where
    pub no_whole : {m : Refusal} {p : ℕ} → r ≡ Err (record { refusal = m; place = p }) → (w : World ns ts ds given) → Small sc → W (seen_by w level) (under w sc) (tokens_at w at) ≡ refused m p
    no_whole e w g = h.is w g ∙ ap (whole_outcome w.text ts) e

    pub whole_is : {v : Value} {a : ℕ} → r ≡ Ok (v, a) → (w : World ns ts ds given) → Small sc → W (seen_by w level) (under w sc) (tokens_at w at) ≡ read v.m (tokens_at w a)
    whole_is e w g = h.is w g ∙ ap (whole_outcome w.text ts) e

    pub whole-small : {v : Value} {a : ℕ} → r ≡ Ok (v, a) → World ns ts ds given → Small sc → nat_abs v.m ≤ mantissa_limit
    whole-small e w g = (subst ValidAnswer e (h.valid w g)).small

  -- a refusal that is handed on
  pub handed : (W : List Name → Walk) (at : ℕ) (e : Refused) (r : Result (Value × ℕ) Refused) → r ≡ Err e
      → ((w : World ns ts ds given) → Small sc → W (seen_by w level) (under w sc) (tokens_at w at) ≡ refused e.refusal e.place) → Values W ns ts ds given level sc at r
  handed W at z r e f = record { is = λ w g. f w g ∙ sym (ap (value_outcome w.text ts) e); valid = λ w g. subst ValidAnswer (sym e) tt }

  -- ---- inside a bracket

  pub inside-full : (n at : ℕ) → n ≡ 0 → Values (inside_in n) ns ts ds given level sc at (Err (record { refusal = Full; place = 0 }))
  unfolding inside_in walk_inside
  inside-full zero at e = record { is = λ w g. refl; valid = λ w g. tt }
  inside-full (suc n) at e = absurd (omega arith)

  pub inside-formula : (n at : ℕ) (r : Result (Value × ℕ) Refused) → (n ≡ 0 → ⊥) → Values (formula_in (n - 1)) ns ts ds given level sc at r → Values (inside_in n) ns ts ds given level sc at r
  unfolding inside_in formula_in value_at
  inside-formula zero at r e h = absurd (e refl)
  inside-formula (suc n) at r e h =
      let d : suc n - 1 ≡ n = omega arith in
      record { is = λ w g. subst (λ k. walk_inside (seen_by w level) (suc k) (under w sc) (tokens_at w at) ≡ value_outcome w.text ts r) d (h.is w g); valid = h.valid }

  -- ---- a formula and the sign behind it

  module _ (n at : ℕ) (r : Result (Value × ℕ) Refused) (h : Values (inside_in n) ns ts ds given level sc at r) where
    pub part-refused : (e : Refused) → r ≡ Err e → Values (part_in n) ns ts ds given level sc at r
    unfolding part_in walk_part inside_in
    part-refused z e = handed (part_in n) at z r e (λ w g. stop _ _ z.refusal z.place (refused-is h e w g))

    pub part-skip : (v : Value) (a b : ℕ) → r ≡ Ok (v, a) → Skips ts a b → Values (part_in n) ns ts ds given level sc at (Ok (v, b))
    unfolding part_in walk_part inside_in
    part-skip v a b e f = record { is = λ w g. on _ _ v (tokens_at w a) _ (value-is h e w g) (on _ _ tt (tokens_at w b) _ (f.is w.text) refl); valid = value-valid h e }

  -- ---- a subscript

  module _ (n p at : ℕ) (r : Result (Value × ℕ) Refused) (h : Values (part_in n) ns ts ds given level sc at r) where
    pub subscript-refused : (e : Refused) → r ≡ Err e → Wholes (subscript_in n p) ns ts ds given level sc at r
    unfolding subscript_in part_in
    subscript-refused z e =
        record {
          is = λ w g. stop _ _ z.refusal z.place (refused-is h e w g) ∙ sym (ap (whole_outcome w.text ts) e);
          valid = λ w g. subst ValidAnswer (sym e) tt;
        }

    pub subscript-whole : (v : Value) (a : ℕ) (z : Result (Value × ℕ) Refused) → r ≡ Ok (v, a) → z ≡ whole_answer p a v → Wholes (subscript_in n p) ns ts ds given level sc at z
    unfolding subscript_in part_in
    subscript-whole v a z e f =
        record {
          is = λ w g. on _ _ v (tokens_at w a) _ (value-is h e w g) (whole-outcome w.text ts p a v ∙ sym (ap (whole_outcome w.text ts) f));
          valid = λ w g. subst ValidAnswer (sym f) (whole-valid p a v (value-valid h e w g));
        }

  -- ---- two limits

  module _ (n at : ℕ) (r : Result (Value × ℕ) Refused) (h : Values (part_in n) ns ts ds given level sc at r) where
    pub limits-low : (e : Refused) → r ≡ Err e → LimitsAre (limits_walk n) ns ts ds given level sc at (Err e)
    unfolding limits_walk walk_limits part_in
    limits-low z e = record { is = λ w g. stop _ _ z.refusal z.place (refused-is h e w g); small = λ w g. tt }

    module _ (v : Value) (a : ℕ) (e : r ≡ Ok (v, a)) (z : Result (Value × ℕ) Refused) (k : Values (part_in n) ns ts ds given level sc a z) where
      pub limits-high : (e : Refused) → z ≡ Err e → LimitsAre (limits_walk n) ns ts ds given level sc at (Err e)
      unfolding limits_walk walk_limits part_in
      limits-high z f = record { is = λ w g. on _ _ v (tokens_at w a) _ (value-is h e w g) (stop _ _ z.refusal z.place (refused-is k f w g)); small = λ w g. tt }

      pub limits-both : (u : Value) (b : ℕ) (l : code.Limits) → z ≡ Ok (u, b) → l ≡ record { lower = ceiling_of v; upper = floor_of u }
          → LimitsAre (limits_walk n) ns ts ds given level sc at (Ok (l, b))
      unfolding limits_walk walk_limits part_in
      limits-both u b l f i =
          record {
            is = λ w g.
                on _ _ v (tokens_at w a) _ (value-is h e w g)
                (on _ _ u (tokens_at w b) _ (value-is k f w g) (ap (λ l. read (limits_in l) (tokens_at w b)) (sym i)));
            small = λ w g. subst SmallLimits (sym i) (rounded-small v u (value-valid h e w g) (value-valid k f w g));
          }

  -- ---- terms and formulas

  module _ (n at : ℕ) (r : Result (Value × ℕ) Refused) (h : Values (primary_in n) ns ts ds given level sc at r) where
    pub term-refused : (e : Refused) → r ≡ Err e → Values (term_in n) ns ts ds given level sc at r
    unfolding term_in walk_term primary_in
    term-refused z e = handed (term_in n) at z r e (λ w g. stop _ _ z.refusal z.place (refused-is h e w g))

    pub term-rest : (v : Value) (a : ℕ) (z : Result (Value × ℕ) Refused) → r ≡ Ok (v, a) → Continues (factors_in n token_limit) ns ts ds given level sc a v z → Values (term_in n) ns ts ds given level sc at z
    unfolding term_in walk_term primary_in factors_in
    term-rest v a z e k =
        record {
          is = λ w g. on _ _ v (tokens_at w a) _ (value-is h e w g) (k.is w g (value-valid h e w g));
          valid = λ w g. k.valid w g (value-valid h e w g);
        }

  module _ (n at : ℕ) (x : Result (Bool × ℕ) Refused) (l : Leads ts at x) where
    formula_rest : List Name → Scope → Bool → Reader Value
    formula_rest names s b = term_in n names s >>= (λ v. summands_in n token_limit (signed b v) names s)

    -- the sign that was read
    led-refused : (e : Refused) → x ≡ Err e → (w : World ns ts ds given) → read_sign (tokens_at w at) ≡ refused e.refusal e.place
    led-refused z e w = go (read_sign (tokens_at w at)) (subst (Led (read_sign (tokens_at w at)) w.text ts) e (l.led w.text))
      where
        go : (o : _) → Led o w.text ts (Err z) → o ≡ refused z.refusal z.place
        go (done y) d = absurd d
        go (refused k q) d = rw (d.0, d.1) refl

    led-sign : (b : Bool) (a : ℕ) → x ≡ Ok (b, a) → (w : World ns ts ds given) (z : Outcome (Read Value)) → formula_rest (seen_by w level) (under w sc) b (tokens_at w a) ≡ z
        → formula_in n (seen_by w level) (under w sc) (tokens_at w at) ≡ z
    unfolding formula_in value_at walk_inside walk_formula formula_rest term_in summands_in
    led-sign b a e w z f = go (read_sign (tokens_at w at)) (subst (Led (read_sign (tokens_at w at)) w.text ts) e (l.led w.text))
      where
        go : (o : _) → Led o w.text ts (Ok (b, a)) → follow o (λ g. formula_rest (seen_by w level) (under w sc) g.negative) ≡ z
        go (done y) d = rw (d.0, d.1) f
        go (refused k q) d = absurd d

    pub formula-sign : (e : Refused) → x ≡ Err e → Values (formula_in n) ns ts ds given level sc at (Err e)
    unfolding formula_in value_at walk_inside walk_formula
    formula-sign z e = record { is = λ w g. stop _ _ z.refusal z.place (led-refused z e w); valid = λ w g. tt }

    module _ (b : Bool) (a : ℕ) (e : x ≡ Ok (b, a)) (r : Result (Value × ℕ) Refused) (h : Values (term_in n) ns ts ds given level sc a r) where
      pub formula-term : (e : Refused) → r ≡ Err e → Values (formula_in n) ns ts ds given level sc at r
      unfolding formula_rest
      formula-term z f = handed (formula_in n) at z r f (λ w g. led-sign b a e w _ (stop _ _ z.refusal z.place (refused-is h f w g)))

      pub formula-rest : (v u : Value) (c : ℕ) (z : Result (Value × ℕ) Refused) → r ≡ Ok (v, c) → u ≡ signed_value b v → Continues (summands_in n token_limit) ns ts ds given level sc c u z
          → Values (formula_in n) ns ts ds given level sc at z
      unfolding formula_rest
      formula-rest v u c z f i k =
          record {
            is = λ w g.
                let y = value-valid h f w g in
                let j : u ≡ signed b v = i ∙ signed_is b v y in
                led-sign b a e w _
                (on _ _ v (tokens_at w c) _ (value-is h f w g)
                (subst (λ u. summands_in n token_limit u (seen_by w level) (under w sc) (tokens_at w c) ≡ value_outcome w.text ts z) j (k.is w g (subst Valid (sym i) (signed-valid b v y)))));
            valid = λ w g. k.valid w g (subst Valid (sym i) (signed-valid b v (value-valid h f w g)));
          }

  -- a formula that may open as many brackets as a text may
  pub value-formula : (at : ℕ) (r : Result (Value × ℕ) Refused) → Values (formula_in 12) ns ts ds given level sc at r → Values (formula_in nesting_limit) ns ts ds given level sc at r
  unfolding nesting_limit
  value-formula at r h = h
