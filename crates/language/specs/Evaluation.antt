-- Document 01, "Meaning": evaluation goes left to right; every value fits, or the reading is refused.
use Rattle.std.specs.Prelude.{Bool, true, false, ◌&&◌, List, [], ◌∷◌, ℕ, leb, ltb, length, ℤ, pos, ◌+ℤ◌, ◌-ℤ◌, Option, Some, None}
use Rattle.std.specs.Int.Signed.{le_z}
use Rattle.language.specs.Ranges.{up_from}
use Rattle.rational.specs.Integer.{up}
use Rattle.rules.specs.declared.Refusal.TheVariants.{BadIndex, NotWhole, Outside, Missing}
use Rattle.language.specs.Outcome.{Outcome, done, refused, ◌>>=◌, or_refuse, fitting, whole_number, check}
use Rattle.rules.specs.Limits.{run_limit, index_limit}
use Rattle.value.specs.declared.Value.{Value}
use Rattle.value.specs.Decimal.{zero_value, negate, sum_of, product_of, whole_of, of_whole, floor_of, ceiling_of}
use Rattle.language.specs.Scope.{Scope, bind, unbound, bound_to}
use Rattle.language.specs.Syntax.{Formula, Formulas, Spans, datum, minus, plus, times, sum, point, span}
use Rattle.language.specs.Syntax

-- ---- limits and runs

-- a subscript or an integer datum is whole, or 8 at p
unfoldable pub whole_at : ℕ → Value → Outcome ℤ
whole_at p v = whole_number p (whole_of v)

pub record Limits : Type 0 where
  pub lower : ℤ
  pub upper : ℤ

-- the two limits of a run or of a domain test: both values, the lower one's first, then the lower one rounded up and the upper
-- one down (decisions 19, 51); f and g are what their formulas give
unfoldable pub limits_of : Outcome Value → Outcome Value → Outcome Limits
limits_of f g = do
  v ← f
  w ← g
  done (record { lower = ceiling_of v; upper = floor_of w })

-- how many numbers lie from lower to upper: upper + 1 - lower, or none where that is below zero
unfoldable pub length_of : Limits → ℕ
length_of l = up (l.upper +ℤ pos 1 -ℤ l.lower)

abbrev pub is_none : {A : Type 0} → Option A → Bool
is_none None = true
is_none (Some a) = false

-- an index bound already, or a fifth one, is 7
unfoldable pub fresh : ℕ → Scope → ℕ → Outcome (Unit {0})
fresh i s p = check BadIndex p (is_none (bound_to i s.bound) && ltb (length s.bound) index_limit)

-- the run of an index from lower to upper: above 256 is 8, then 7 (decision 19); its length is that of the rounded limits
unfoldable pub run_of : Limits → ℕ → Scope → ℕ → Outcome (List ℤ)
run_of l i s p = do
  _ ← check NotWhole p (leb (length_of l) run_limit)
  _ ← fresh i s p
  done (up_from l.lower (length_of l))

-- a step for each number of a run, with what the steps before made
unfoldable pub each : {A : Type 0} → (ℤ → A → Outcome A) → List ℤ → A → Outcome A
each f [] a = done a
each f (k ∷ ks) a = f k a >>= λ b. each f ks b

-- ---- formulas. An unbound index is refused (7) only where it is evaluated (decision 22)

-- a partial sum of a `SUM` at p must fit (decision 25)
abbrev pub add_to : ℕ → Value → Outcome Value → Outcome Value
add_to p v o = o >>= λ w. fitting p (sum_of v w)

unfoldable mutual
  pub eval : Formula → Scope → Outcome Value
  eval (Syntax.literal v) s = done v
  eval (Syntax.index i p) s = do
    k ← or_refuse BadIndex p (bound_to i s.bound)
    done (of_whole k)
  eval (datum i d fs p) s = do
    ks ← eval_all fs s p
    _ ← within d ks (unbound s) p
    or_refuse Missing p (s.known i ks)
  eval (minus f) s = do
    v ← eval f s
    done (negate v)
  eval (plus f g p) s = do
    v ← eval f s
    w ← eval g s
    fitting p (sum_of v w)
  eval (times f g p) s = do
    v ← eval f s
    w ← eval g s
    fitting p (product_of v w)
  eval (sum i f g h p) s = do
    l ← limits_of (eval f s) (eval g s)
    ks ← run_of l i s p
    each (λ k v. add_to p v (eval h (bind i k s))) ks zero_value

  -- a name's subscripts, each tested whole as read, before its domain test (decision 21)
  pub eval_all : Formulas → Scope → ℕ → Outcome (List ℤ)
  eval_all Syntax.none s p = done []
  eval_all (Syntax.more f fs) s p = do
    v ← eval f s
    k ← whole_at p v
    ks ← eval_all fs s p
    done (k ∷ ks)

  -- A domain test binds the subscripts from first to last, reading each position's declared limits as it gets there;
  -- a limit's refusal stands at its index, 9 at p (decision 20). The scope has nothing bound at first (decision 23)
  pub within : Spans → List ℤ → Scope → ℕ → Outcome (Unit {0})
  within point ks s p = done tt
  within (span i f g q d) [] s p = refused Outside p
  within (span i f g q d) (k ∷ ks) s p = do
    l ← limits_of (eval f s) (eval g s)
    _ ← check Outside p (le_z l.lower k && le_z k l.upper)
    within d ks (bind i k s) p

-- ---- domains

-- a step at each element of a domain, the first index outermost, each limit read anew under the values bound by then; what a
-- step refuses comes before what a later limit refuses (decision 28)
unfoldable pub over : {A : Type 0} → Spans → Scope → (Scope → List ℤ → A → Outcome A) → A → Outcome A
over point s f a = f s [] a
over (span i lower upper p d) s f a = do
  l ← limits_of (eval lower s) (eval upper s)
  ks ← run_of l i s p
  each (λ k b. over d (bind i k s) (λ t e. f t (k ∷ e)) b) ks a
