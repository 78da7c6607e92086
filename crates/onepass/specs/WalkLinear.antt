-- Linear forms gathered while their tokens are walked, as code does that keeps tokens and no trees. One theorem
-- (proofs/WalkedLinear.antt) joins this to the trees.
use Rattle.std.specs.Prelude.{Bool, true, false, List, ℕ, zero, suc, ℤ}
use Rattle.rules.specs.declared.Refusal.TheVariants.{Misplaced, Full, Outside}
use Rattle.rules.specs.Limits.{token_limit}
use Rattle.value.specs.declared.Value.{Value}
use Rattle.value.specs.Decimal.{product_of}
use Rattle.lexer.specs.Marks.{minus_sign, sigma_word}
use Rattle.language.specs.Outcome.{or_refuse, fitting}
use Rattle.language.specs.Syntax.{Spans, Name}
use Rattle.language.specs.Reader.{Reader, ◌>>=◌, give, refuse, lift, next, look, is_mark, as_read}
use Rattle.language.specs.Formulas.{is_sum, read_sign}
use Rattle.language.specs.Linear.{a_sigma, a_variable, a_primary, head_by}
use Rattle.language.specs.Scope.{Scope, bind, unbound}
use Rattle.language.specs.Evaluation.{run_of, each, within}
use Rattle.language.specs.Numbering.{Variable, number_of, Row, xor, signed, add_at}
use Rattle.language.specs.Model.{what_of}
use Rattle.onepass.specs.Walk.{skip, behind_bracket, walk_head, walk_limits, walk_subscripts, walk_primary_by, walk_inside, value_at}

-- scope, coefficient so far, whether a minus stands before it, row so far
abbrev pub Gatherer : Type 0
Gatherer = Scope → Value → Bool → Row → Reader Row

module _ (vs : List Variable) (names : List Name) where
  -- the number of the variable at p
  unfoldable pub walk_number : ℕ → ℕ → Spans → ℕ → Scope → Reader ℕ
  walk_number n i d p s = do
    ks ← walk_subscripts (walk_inside names n) d s p
    _ ← lift (within d ks (unbound s) p)
    lift (or_refuse Outside p (number_of i ks vs))

  unfoldable pub walk_variable : ℕ → ℕ → Spans → ℕ → Gatherer
  walk_variable n i d p s c m r = do
    j ← walk_number n i d p s
    lift (add_at j (signed m c) p r)

  -- primaries each followed by `*`, then a variable or a sigma, which S walks behind its word at a place
  unfoldable pub walk_linear_term : (ℕ → Gatherer) → Bool → ℕ → ℕ → Gatherer
  walk_linear_term S sigmas n zero s c m r = refuse Full 0
  walk_linear_term S sigmas n (suc k) s c m r = do
    t ← next
    elim (head_by names sigmas t.kind) [
      | a_sigma ↦ S t.place s c m r
      | a_variable i d ↦ walk_variable n i d t.place s c m r
      | a_primary ↦ do
        v ← walk_primary_by names (walk_inside names n) t.place t.kind s
        u ← next
        w ← lift (fitting u.place (product_of c v))
        walk_linear_term S sigmas n k s w m r
    ]

  unfoldable pub walk_linear_terms : Gatherer → ℕ → Gatherer
  walk_linear_terms T zero s c m r = give r
  walk_linear_terms T (suc k) s c m r = do
    t ← look
    elim (is_sum t) [
      | true ↦ do
        _ ← skip
        q ← T s c (xor m (is_mark minus_sign t)) r
        walk_linear_terms T k s c m q
      | false ↦ give r
    ]

  unfoldable pub walk_linear : Gatherer → Gatherer
  walk_linear T s c m r = do
    g ← read_sign
    q ← T s c (xor m g.negative) r
    walk_linear_terms T token_limit s c m q

  abbrev pub no_sigma_walk : ℕ → Gatherer
  no_sigma_walk p s c m r = refuse Misplaced p

  -- a body: another sigma, which S walks, or a linear form without sigma
  unfoldable pub walk_body_form : (ℕ → Gatherer) → ℕ → Gatherer
  walk_body_form S n s c m r = do
    t ← look
    elim (is_mark sigma_word t) [
      | true ↦ do
        _ ← skip
        S t.place s c (xor m false) r
      | false ↦ walk_linear (walk_linear_term no_sigma_walk false n token_limit) s c m r
    ]

  -- the body at ts for each number of the run, one after the other into the row
  unfoldable pub walk_runs : Gatherer → ℕ → Scope → Value → Bool → Row → List ℤ → Reader Row
  walk_runs B i s c m r ks ts = as_read (each (λ k q. what_of (B (bind i k s) c m q ts)) ks r) (behind_bracket 0 ts)

  unfoldable pub walk_sigma : ℕ → ℕ → Gatherer
  walk_sigma zero p s c m r = refuse Full 0
  walk_sigma (suc n) p s c m r = do
    i ← walk_head names
    l ← walk_limits (value_at names n) s
    ks ← lift (run_of l i s p)
    walk_runs (walk_body_form (walk_sigma n) n) i s c m r ks

  -- a linear form at its tokens: the row gathered from it
  unfoldable pub gather_at : ℕ → Gatherer
  gather_at n = walk_linear (walk_linear_term (walk_sigma n) true n token_limit)
