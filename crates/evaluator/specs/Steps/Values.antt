-- What the steps on values and whole numbers answer.
use Rattle.std.specs.Prelude.{Err, Ok, Result, ◌≡◌, Bool, true, false, cond, ◌&&◌, List, ℕ, ◌≤◌, ltb, leb, length, get_or, ℤ, pos, nat_abs, ◌+ℤ◌, Option, Some, None}
use Rattle.rules.specs.declared.Refused.{Refused}
use Rattle.std.specs.Int.Signed.{le_z}
use Rattle.rules.specs.declared.Refusal.TheVariants.{Unfit, BadIndex, NotWhole, Outside, Missing}
use Rattle.rules.specs.Limits.{mantissa_limit, run_limit, index_limit}
use Rattle.value.specs.declared.Value.{Value}
use Rattle.value.specs.Decimal.{in_range, negate, whole_of, of_whole}
use Rattle.store.specs.Key.{key_of}
use Rattle.store.specs.Table.{Table, word_in, found_row}
use Rattle.store.specs.Packed.{unpacked}
use Rattle.language.specs.Outcome.{Outcome, done, refused}
use Rattle.language.specs.Ranges.{up_from}
use Rattle.language.specs.Scope.{bound_to}
use Rattle.language.specs.Evaluation.{is_none, length_of, run_of}
use Rattle.language.specs.Evaluation as Evaluation
use Rattle.evaluator.specs.declared.steps.scope.Scope.{Scope as Held}
use Rattle.evaluator.specs.declared.steps.values.Limits.{Limits}
use Rattle.evaluator.specs.declared.steps.values.Bounds.{Bounds}
use Rattle.evaluator.specs.Steps.Scopes.{bindings_of, bound_more, scope_of}

-- ---- values

-- a value that fits, with the position behind it; or 5 at p
unfoldable pub fitted_at : ℕ → ℕ → Option Value → Result (Value × ℕ) Refused
fitted_at p a (Some v) = Ok (v, a)
fitted_at p a None = Err (record { refusal = Unfit; place = p })

-- with a minus the opposite; what is out of range stays as it is
unfoldable pub signed_value : Bool → Value → Value
signed_value true v = cond (in_range v) (negate v) v
signed_value false v = v

-- ---- whole numbers

unfoldable pub whole_by : ℕ → ℕ → Value → Option ℤ → Result (Value × ℕ) Refused
whole_by p a v (Some k) = Ok (v, a)
whole_by p a v None = Err (record { refusal = NotWhole; place = p })

-- a value that is whole; or 8 at p
unfoldable pub whole_answer : ℕ → ℕ → Value → Result (Value × ℕ) Refused
whole_answer p a v = whole_by p a v (whole_of v)

unfoldable pub bound_by : ℕ → ℕ → Option ℤ → Result (Value × ℕ) Refused
bound_by p a (Some k) = Ok ((of_whole k), a)
bound_by p a None = Err (record { refusal = BadIndex; place = p })

-- an index's value; or 7 at p
unfoldable pub bound_answer : ℕ → ℕ → Held → ℕ → Result (Value × ℕ) Refused
bound_answer p a s i = bound_by p a (bound_to i (bindings_of s))

-- ---- runs

-- limits as the definition has them
abbrev pub limits_in : Limits → Evaluation.Limits
limits_in l = record { lower = l.lower; upper = l.upper }

-- each limit is a value's
pub record SmallLimits (l : Limits) : Type 0 where
  pub low : nat_abs l.lower ≤ mantissa_limit
  pub high : nat_abs l.upper ≤ mantissa_limit

-- two such numbers, the second no less than the first
pub record SmallSpan (a b : ℤ) : Type 0 where
  pub low : nat_abs a ≤ mantissa_limit
  pub high : nat_abs b ≤ mantissa_limit
  pub rises : le_z a b ≡ true

-- how many numbers lie between them; none where one of them is no value's
unfoldable pub count_of : Limits → ℕ
count_of l = cond (leb (nat_abs l.lower) mantissa_limit) (cond (leb (nat_abs l.upper) mantissa_limit) (length_of (limits_in l)) 0) 0

-- the run of the index i at p: its length; 8 where it is too long, 7 where the index may not be bound
unfoldable pub run_answer : Limits → ℕ → Held → ℕ → Result ℕ Refused
run_answer l i s p =
    cond (leb (count_of l) run_limit)
    (cond (is_none (bound_to i (bindings_of s)) && ltb (length (bindings_of s)) index_limit) (Ok (count_of l)) (Err (record { refusal = BadIndex; place = p })))
    (Err (record { refusal = NotWhole; place = p }))

abbrev pub run_outcome : Limits → Result ℕ Refused → Outcome (List ℤ)
run_outcome l (Ok n) = done (up_from l.lower n)
run_outcome l (Err e) = refused e.refusal e.place

-- what the answer says: with limits that are values' the run, and its length; that it is short enough, and that one index more may
-- be bound
pub record RunIs (l : Limits) (i : ℕ) (s : Held) (p : ℕ) (r : Result ℕ Refused) : Type 0 where
  pub is : SmallLimits l → (known : ℕ → List ℤ → Option Value) → run_of (limits_in l) i (scope_of known s) p ≡ run_outcome l r
  pub count : SmallLimits l → (n : ℕ) → r ≡ Ok n → n ≡ length_of (limits_in l)
  pub short : (n : ℕ) → r ≡ Ok n → n ≤ run_limit
  pub room : (n : ℕ) → r ≡ Ok n → ltb (length (bindings_of s)) index_limit ≡ true

-- the j-th number of a run; 0 where the lower limit is no value's, or no run is so long
unfoldable pub number_in : Limits → ℕ → ℤ
number_in l j = cond (leb (nat_abs l.lower) mantissa_limit) (cond (leb j run_limit) (l.lower +ℤ pos j) (pos 0)) (pos 0)

-- the j-th subscript against its limits
abbrev pub inside_limits : Limits → ℤ → Bool
inside_limits l k = le_z l.lower k && le_z k l.upper

abbrev pub TestedAs : Held → ℤ → Bounds → ℕ → Result Held Refused → Type 0
TestedAs s k b p (Ok t) = (inside_limits b.limits k ≡ true) × (bindings_of t ≡ bound_more b.number k (bindings_of s))
TestedAs s k b p (Err e) = (inside_limits b.limits k ≡ false) × (e.refusal ≡ Outside) × (e.place ≡ p)

pub record Tests (s : Held) (ks : List ℤ) (j : ℕ) (b : Bounds) (p : ℕ) (r : Result Held Refused) : Type 0 where
  pub is : TestedAs s (get_or ks j (pos 0)) b p r

-- ---- data

-- the value of a word in the store; or 10 at p
unfoldable pub word_answer : ℕ → ℕ → Option ℕ → Result (Value × ℕ) Refused
word_answer p a (Some w) = Ok ((unpacked w), a)
word_answer p a None = Err (record { refusal = Missing; place = p })

-- the datum of a name and an element, found by halving
unfoldable pub known_answer : Table → ℕ → ℕ → List ℤ → ℕ → ℕ → Result (Value × ℕ) Refused
known_answer ds rows i ks p a = word_answer p a (word_in ds (found_row ds rows (key_of i ks)))
