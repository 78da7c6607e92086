-- Formulas evaluated while their tokens are walked, as code does that keeps tokens and no trees. The tokens have been read
-- before, so a sign that must stand there is passed over and not tested again. The body of a sum is walked anew for each
-- number of its run; where it ends is found by its brackets. One theorem (proofs/Walked.antt) joins this to the trees: where
-- a reader gives a tree, the walk of the same tokens gives the tree's value or refusal, and the same rest.
use Rattle.std.specs.Prelude.{Bool, true, false, cond, ◌&&◌, ◌||◌, List, [], ◌∷◌, ℕ, zero, suc, eqb, Option, Some, None, ℤ}
use Rattle.std.specs.Int.Signed.{le_z}
use Rattle.rules.specs.declared.Refusal.TheVariants.{Misplaced, BadName, Full, Outside, Missing}
use Rattle.rules.specs.Limits.{token_limit, nesting_limit}
use Rattle.value.specs.declared.Value.{Value}
use Rattle.value.specs.Decimal.{zero_value, sum_of, product_of, floor_of, ceiling_of}
use Rattle.lexer.specs.Marks.{minus_sign, times_sign, opens, closes, opens_list, closes_list, sum_word}
use Rattle.lexer.specs.Text.{Token, Kind}
use Rattle.lexer.specs.Text
use Rattle.language.specs.Outcome.{Outcome, done, or_refuse, fitting, check}
use Rattle.language.specs.Syntax.{Spans, Name, Sort, point, span}
use Rattle.language.specs.Syntax
use Rattle.language.specs.Reader.{Reader, ◌>>=◌, give, refuse, lift, next, look, is_mark, Used, find, as_read}
use Rattle.language.specs.Formulas.{is_sum, read_sign}
use Rattle.language.specs.Scope.{Scope, bind, unbound}
use Rattle.language.specs.Evaluation.{whole_at, Limits, run_of, each, add_to, eval, within}
use Rattle.language.specs.Model.{what_of}
use Rattle.language.specs.Numbering.{signed}

-- ---- one token

-- a token passed over; behind the last one there is nothing to pass
unfoldable pub skip : Reader (Unit {0})
skip [] = done (record { what = tt; rest = [] })
skip (t ∷ ts) = done (record { what = tt; rest = ts })

abbrev pub used_number : Option Used → ℕ
used_number None = 0
used_number (Some u) = u.number

-- the number of the name that a token spells
unfoldable pub name_number : List Name → Kind → ℕ
name_number names (Text.name l) = used_number (find l names 0 0)
name_number names (Text.mark c) = 0
name_number names (Text.literal w v) = 0
name_number names (Text.string l) = 0
name_number names Text.end = 0
name_number names (Text.wrong r) = 0

abbrev pub opens_bracket : Token → Bool
opens_bracket t = is_mark opens t || is_mark opens_list t

abbrev pub closes_bracket : Token → Bool
closes_bracket t = is_mark closes t || is_mark closes_list t

-- what stands behind the `)` or `]` that closes a bracket, d more of them open inside it
unfoldable pub behind_bracket : ℕ → List Token → List Token
behind_bracket d [] = []
behind_bracket zero (t ∷ ts) =
    elim (opens_bracket t) [ true ↦ behind_bracket 1 ts | false ↦ elim (closes_bracket t) [ true ↦ ts | false ↦ behind_bracket 0 ts ] ]
behind_bracket (suc d) (t ∷ ts) =
    elim (opens_bracket t) [ true ↦ behind_bracket (suc (suc d)) ts | false ↦ elim (closes_bracket t) [ true ↦ behind_bracket d ts | false ↦ behind_bracket (suc d) ts ] ]

-- ---- formulas

abbrev pub Walk : Type 0
Walk = Scope → Reader Value

unfoldable pub walk_factors : Walk → ℕ → Scope → Value → Reader Value
walk_factors P zero s v = give v
walk_factors P (suc n) s v = do
  t ← look
  elim (is_mark times_sign t) [
    | true ↦ do
      _ ← skip
      w ← P s
      u ← lift (fitting t.place (product_of v w))
      walk_factors P n s u
    | false ↦ give v
  ]

unfoldable pub walk_term : Walk → Walk
walk_term P s = do
  v ← P s
  walk_factors P token_limit s v

unfoldable pub walk_summands : Walk → ℕ → Scope → Value → Reader Value
walk_summands T zero s v = give v
walk_summands T (suc n) s v = do
  t ← look
  elim (is_sum t) [
    | true ↦ do
      _ ← skip
      w ← T s
      u ← lift (fitting t.place (sum_of v (signed (is_mark minus_sign t) w)))
      walk_summands T n s u
    | false ↦ give v
  ]

unfoldable pub walk_formula : Walk → Walk
walk_formula T s = do
  g ← read_sign
  v ← T s
  walk_summands T token_limit s (signed g.negative v)

-- a formula and the sign behind it
unfoldable pub walk_part : Walk → Walk
walk_part F s = do
  v ← F s
  _ ← skip
  give v

-- the body at ts for each number of the run
unfoldable pub walk_turns : Walk → ℕ → ℕ → Scope → List ℤ → List Token → Outcome Value
walk_turns F i p s ks ts = each (λ k v. add_to p v (what_of (F (bind i k s) ts))) ks zero_value

unfoldable pub walk_body : Walk → ℕ → ℕ → Scope → List ℤ → Reader Value
walk_body F i p s ks ts = as_read (walk_turns F i p s ks ts) (behind_bracket 0 ts)

-- `(`, an index and a comma: the index's number
unfoldable pub walk_head : List Name → Reader ℕ
walk_head names = do
  _ ← skip
  t ← next
  _ ← skip
  give (name_number names t.kind)

-- two limits, each a formula with the sign behind it; then the lower one is rounded up and the upper one down
unfoldable pub walk_limits : Walk → Scope → Reader Limits
walk_limits F s = do
  v ← walk_part F s
  w ← walk_part F s
  give (record { lower = ceiling_of v; upper = floor_of w })

unfoldable pub walk_sum : List Name → Walk → ℕ → Walk
walk_sum names F p s = do
  i ← walk_head names
  l ← walk_limits F s
  ks ← lift (run_of l i s p)
  walk_body F i p s ks

-- as many subscripts as the domain has indices, each with the sign behind it, tested whole as read
unfoldable pub walk_list : Walk → Spans → Scope → ℕ → Reader (List ℤ)
walk_list F point s p = give []
walk_list F (span i f g q d) s p = do
  v ← walk_part F s
  k ← lift (whole_at p v)
  ks ← walk_list F d s p
  give (k ∷ ks)

unfoldable pub walk_subscripts : Walk → Spans → Scope → ℕ → Reader (List ℤ)
walk_subscripts F point s p = give []
walk_subscripts F (span i f g q d) s p = do
  _ ← skip
  walk_list F (span i f g q d) s p

unfoldable pub walk_datum : Walk → ℕ → ℕ → Spans → Walk
walk_datum F i p d s = do
  ks ← walk_subscripts F d s p
  _ ← lift (within d ks (unbound s) p)
  lift (or_refuse Missing p (s.known i ks))

unfoldable pub walk_named : Walk → ℕ → ℕ → Sort → Walk
walk_named F i p Syntax.index s = lift (eval (Syntax.index i p) s)
walk_named F i p (Syntax.integer d) s = walk_datum F i p d s
walk_named F i p (Syntax.real d) s = walk_datum F i p d s
walk_named F i p (Syntax.formula f) s = lift (eval f s)
walk_named F i p (Syntax.discrete d) s = refuse Misplaced p
walk_named F i p (Syntax.continuous d) s = refuse Misplaced p

unfoldable pub walk_found : Walk → ℕ → Option Used → Walk
walk_found F p None s = refuse BadName p
walk_found F p (Some u) s = walk_named F u.number p u.sort s

-- the primary that a token at p begins
unfoldable pub walk_primary_by : List Name → Walk → ℕ → Kind → Walk
walk_primary_by names F p (Text.mark c) s =
    cond (eqb c sum_word) (walk_sum names F p s)
    (cond (eqb c opens) (walk_part F s)
    (refuse Misplaced p))
walk_primary_by names F p (Text.name l) s = walk_found F p (find l names 0 p) s
walk_primary_by names F p (Text.literal w v) s = give v
walk_primary_by names F p (Text.string l) s = refuse Misplaced p
walk_primary_by names F p Text.end s = refuse Misplaced p
walk_primary_by names F p (Text.wrong r) s = refuse Misplaced p

unfoldable pub walk_primary : List Name → Walk → Walk
walk_primary names F s = do
  t ← next
  walk_primary_by names F t.place t.kind s

-- inside one of n brackets
unfoldable pub walk_inside : List Name → ℕ → Walk
walk_inside names zero s = refuse Full 0
walk_inside names (suc n) s = walk_formula (walk_term (walk_primary names (walk_inside names n))) s

-- a formula's value at its tokens, and what stands behind it
unfoldable pub value_at : List Name → ℕ → Walk
value_at names n = walk_inside names (suc n)

-- ---- domains: lower formula `<=` index `<=` upper formula, each entry with the sign behind it

-- one entry's limits, with the index's number and place
pub record Bounds : Type 0 where
  pub number : ℕ
  pub place : ℕ
  pub limits : Limits

unfoldable pub walk_entry : List Name → Walk → Scope → Reader Bounds
walk_entry names F s = do
  v ← walk_part F s
  t ← next
  _ ← skip
  w ← walk_part F s
  give (record { number = name_number names t.kind; place = t.place; limits = record { lower = ceiling_of v; upper = floor_of w } })

-- the domain test of the numbers ks for the name read at p
unfoldable pub walk_within : List Name → Walk → List ℤ → Scope → ℕ → Reader (Unit {0})
walk_within names F [] s p = give tt
walk_within names F (k ∷ ks) s p = do
  e ← walk_entry names F s
  _ ← lift (check Outside p (le_z e.limits.lower k && le_z k e.limits.upper))
  walk_within names F ks (bind e.number k s) p

-- the formulas of a domain stand in one bracket
abbrev pub in_domain_walk : List Name → Walk
in_domain_walk names = walk_inside names nesting_limit
