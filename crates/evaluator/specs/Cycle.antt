-- What each function of the cycle answers: for every text, names and data that the tables hold, what the walk of the tokens from
-- a position on gives under the bound indices. `level`: how many names are visible. `n`: how many brackets may still open.
use Rattle.std.specs.Prelude.{Err, Ok, Option, Result, ◌≡◌, true, List, [], ℕ, ◌<◌, ◌≤◌, ltb, length, take, ℤ, None, Some, slice_get}
use Rattle.rules.specs.declared.Refused.{Refused}
use Rattle.rules.specs.Limits.{run_limit, index_limit}
use Rattle.value.specs.declared.Value.{Value}
use Rattle.value.specs.Decimal.{Valid, floor_of, ceiling_of}
use Rattle.lexer.specs.Text.{Token}
use Rattle.language.specs.Outcome.{Outcome, done, refused}
use Rattle.language.specs.Syntax.{Name, Spans}
use Rattle.language.specs.Reader.{Reader, Read, ◌>>=◌, give, lift, next, find}
use Rattle.language.specs.Scope.{Scope}
use Rattle.language.specs.Ranges.{up_from}
use Rattle.language.specs.Evaluation.{whole_at, Limits, length_of}
use Rattle.language.specs.Model.{what_of}
use Rattle.onepass.specs.Walk.{Walk, skip, name_number, walk_factors, walk_term, walk_summands, walk_part, walk_body, walk_limits, walk_sum, walk_subscripts, walk_datum, walk_found, walk_primary, walk_inside, value_at, Bounds, walk_entry, walk_within, in_domain_walk}
use Rattle.tokens.specs.Stored.{from, size, Shaped}
use Rattle.store.specs.declared.Element.{Element}
use Rattle.store.specs.Element.{list_of, Subscripts}
use Rattle.evaluator.specs.declared.steps.scope.Scope.{Scope as Held}
use Rattle.evaluator.specs.declared.steps.names.Listed.{Listed}
use Rattle.evaluator.specs.declared.steps.values.Limits as code
use Rattle.evaluator.specs.declared.steps.values.Bounds as entered
use Rattle.evaluator.specs.Steps.Scopes.{bindings_of, scope_of, Small}
use Rattle.evaluator.specs.Steps.Names.{row_word}
use Rattle.evaluator.specs.Steps.Values.{limits_in, SmallLimits}
use Rattle.evaluator.specs.Tables.{DomainAt, World}
use Rattle.store.specs.Table.{Table}

-- ---- the walks, each a function of the names and the scope

unfoldable pub inside_in : ℕ → List Name → Walk
inside_in n names = walk_inside names n

unfoldable pub formula_in : ℕ → List Name → Walk
formula_in n names = value_at names n

unfoldable pub primary_in : ℕ → List Name → Walk
primary_in n names = walk_primary names (walk_inside names n)

unfoldable pub term_in : ℕ → List Name → Walk
term_in n names = walk_term (walk_primary names (walk_inside names n))

-- at most k factors or summands more, behind the value v
unfoldable pub factors_in : ℕ → ℕ → Value → List Name → Walk
factors_in n k v names s = walk_factors (walk_primary names (walk_inside names n)) k s v

unfoldable pub summands_in : ℕ → ℕ → Value → List Name → Walk
summands_in n k v names s = walk_summands (walk_term (walk_primary names (walk_inside names n))) k s v

unfoldable pub part_in : ℕ → List Name → Walk
part_in n names = walk_part (walk_inside names n)

unfoldable pub sum_in : ℕ → ℕ → List Name → Walk
sum_in n p names = walk_sum names (walk_inside names n) p

-- a formula with the sign behind it, tested whole: a subscript
unfoldable pub subscript_in : ℕ → ℕ → List Name → Scope → Reader ℤ
subscript_in n p names s = walk_part (walk_inside names n) s >>= (λ v. lift (whole_at p v))

unfoldable pub limits_walk : ℕ → List Name → Scope → Reader Limits
limits_walk n names s = walk_limits (walk_inside names n) s

unfoldable pub entry_in : ℕ → List Name → Scope → Reader Bounds
entry_in n names s = walk_entry names (walk_inside names n) s

-- an entry behind its lower formula, whose value is v
unfoldable pub bounds_in : ℕ → Value → List Name → Scope → Reader Bounds
bounds_in n v names s = do
  t ← next
  _ ← skip
  w ← walk_part (walk_inside names n) s
  give (record { number = name_number names t.kind; place = t.place; limits = record { lower = ceiling_of v; upper = floor_of w } })

-- ---- answers as outcomes

abbrev pub value_outcome : List ℕ → List ℕ → Result (Value × ℕ) Refused → Outcome (Read Value)
value_outcome s ts (Ok (v, a)) = done (record { what = v; rest = from s ts a })
value_outcome s ts (Err e) = refused e.refusal e.place

abbrev pub whole_outcome : List ℕ → List ℕ → Result (Value × ℕ) Refused → Outcome (Read ℤ)
whole_outcome s ts (Ok (v, a)) = done (record { what = v.m; rest = from s ts a })
whole_outcome s ts (Err e) = refused e.refusal e.place

abbrev pub ValidAnswer : Result (Value × ℕ) Refused → Type 0
ValidAnswer (Ok (v, a)) = Valid v
ValidAnswer (Err e) = Unit {0}

abbrev pub limits_outcome : List ℕ → List ℕ → Result (code.Limits × ℕ) Refused → Outcome (Read Limits)
limits_outcome s ts (Ok (l, a)) = done (record { what = limits_in l; rest = from s ts a })
limits_outcome s ts (Err e) = refused e.refusal e.place

abbrev pub SmallLimited : Result (code.Limits × ℕ) Refused → Type 0
SmallLimited (Ok (l, a)) = SmallLimits l
SmallLimited (Err e) = Unit {0}

abbrev pub numbers_outcome : List ℕ → List ℕ → Result (Element × ℕ) Refused → Outcome (Read (List ℤ))
numbers_outcome s ts (Ok (e, a)) = done (record { what = list_of e; rest = from s ts a })
numbers_outcome s ts (Err e) = refused e.refusal e.place

abbrev pub SmallNumbers : Result (Element × ℕ) Refused → Type 0
SmallNumbers (Ok (e, a)) = Subscripts (list_of e)
SmallNumbers (Err e) = Unit {0}

abbrev pub bounds_outcome : List ℕ → List ℕ → Result (entered.Bounds × ℕ) Refused → Outcome (Read Bounds)
bounds_outcome s ts (Ok (b, a)) = done (record { what = record { number = b.number; place = b.place; limits = limits_in b.limits }; rest = from s ts a })
bounds_outcome s ts (Err e) = refused e.refusal e.place

abbrev pub SmallEntered : Result (entered.Bounds × ℕ) Refused → Type 0
SmallEntered (Ok (b, a)) = SmallLimits b.limits
SmallEntered (Err e) = Unit {0}

abbrev pub passed_outcome : Result Unit Refused → Outcome (Unit {0})
passed_outcome (Ok x) = done tt
passed_outcome (Err e) = refused e.refusal e.place

-- ---- contracts

module _ {ns ts : List ℕ} {ds : Table} {given : ℕ} (w : World ns ts ds given) where
  -- the first `level` names, the scope, the tokens from a position on
  abbrev pub seen_by : ℕ → List Name
  seen_by level = take level w.names

  abbrev pub under : Held → Scope
  under sc = scope_of w.known sc

  abbrev pub nothing_bound : Scope
  nothing_bound = record { known = w.known; bound = [] }

  abbrev pub tokens_at : ℕ → List Token
  tokens_at a = from w.text ts a

-- a value that fits, or the refusal
pub record Values (W : List Name → Walk) (ns ts : List ℕ) (ds : Table) (given level : ℕ) (sc : Held) (at : ℕ) (r : Result (Value × ℕ) Refused) : Type 0 where
  pub is : (w : World ns ts ds given) → Small sc → W (seen_by w level) (under w sc) (tokens_at w at) ≡ value_outcome w.text ts r
  pub valid : World ns ts ds given → Small sc → ValidAnswer r

-- the same behind a value v
pub record Continues (W : Value → List Name → Walk) (ns ts : List ℕ) (ds : Table) (given level : ℕ) (sc : Held) (at : ℕ) (v : Value) (r : Result (Value × ℕ) Refused) : Type 0 where
  pub is : (w : World ns ts ds given) → Small sc → Valid v → W v (seen_by w level) (under w sc) (tokens_at w at) ≡ value_outcome w.text ts r
  pub valid : World ns ts ds given → Small sc → Valid v → ValidAnswer r

-- a whole number
pub record Wholes (W : List Name → Scope → Reader ℤ) (ns ts : List ℕ) (ds : Table) (given level : ℕ) (sc : Held) (at : ℕ) (r : Result (Value × ℕ) Refused) : Type 0 where
  pub is : (w : World ns ts ds given) → Small sc → W (seen_by w level) (under w sc) (tokens_at w at) ≡ whole_outcome w.text ts r
  pub valid : World ns ts ds given → Small sc → ValidAnswer r

-- two limits
pub record LimitsAre (W : List Name → Scope → Reader Limits) (ns ts : List ℕ) (ds : Table) (given level : ℕ) (sc : Held) (at : ℕ) (r : Result (code.Limits × ℕ) Refused) : Type 0 where
  pub is : (w : World ns ts ds given) → Small sc → W (seen_by w level) (under w sc) (tokens_at w at) ≡ limits_outcome w.text ts r
  pub small : World ns ts ds given → Small sc → SmallLimited r

-- one entry of a domain; the same behind its lower formula's value v
pub record EntryIs (W : List Name → Scope → Reader Bounds) (ns ts : List ℕ) (ds : Table) (given level : ℕ) (sc : Held) (at : ℕ) (r : Result (entered.Bounds × ℕ) Refused) : Type 0 where
  pub is : (w : World ns ts ds given) → Small sc → W (seen_by w level) (under w sc) (tokens_at w at) ≡ bounds_outcome w.text ts r
  pub small : World ns ts ds given → Small sc → SmallEntered r

pub record BoundsAre (W : Value → List Name → Scope → Reader Bounds) (ns ts : List ℕ) (ds : Table) (given level : ℕ) (sc : Held) (at : ℕ) (v : Value) (r : Result (entered.Bounds × ℕ) Refused) : Type 0 where
  pub is : (w : World ns ts ds given) → Small sc → Valid v → W v (seen_by w level) (under w sc) (tokens_at w at) ≡ bounds_outcome w.text ts r
  pub small : World ns ts ds given → Small sc → Valid v → SmallEntered r

-- the subscripts, at most four, of a name read at p whose domain has k indices
pub record SubscriptsAre (n p k : ℕ) (ns ts : List ℕ) (ds : Table) (given level : ℕ) (sc : Held) (at : ℕ) (r : Result (Element × ℕ) Refused) : Type 0 where
  pub is : (w : World ns ts ds given) → Small sc → (d : Spans) → size d ≡ k → k ≤ index_limit
      → walk_subscripts (walk_inside (seen_by w level) n) d (under w sc) p (tokens_at w at) ≡ numbers_outcome w.text ts r
  pub small : World ns ts ds given → Small sc → k ≤ index_limit → SmallNumbers r

-- a run that may be walked: small limits, their count, and room for its index
pub record Ready (sc : Held) (l : code.Limits) (n : ℕ) : Type 0 where
  pub small : SmallLimits l
  pub count : n ≡ length_of (limits_in l)
  pub short : n ≤ run_limit
  pub room : ltb (length (bindings_of sc)) index_limit ≡ true

-- a sum's body for each number of its run
pub record BodyIs (n i p : ℕ) (ns ts : List ℕ) (ds : Table) (given level : ℕ) (sc : Held) (at : ℕ) (l : code.Limits) (k : ℕ) (r : Result (Value × ℕ) Refused) : Type 0 where
  pub is : (w : World ns ts ds given) → Small sc → Ready sc l k
      → walk_body (walk_inside (seen_by w level) n) i p (under w sc) (up_from l.lower k) (tokens_at w at) ≡ value_outcome w.text ts r
  pub valid : World ns ts ds given → Small sc → Ready sc l k → ValidAnswer r

-- the domain test of the numbers of e, at the declared domain's tokens and with nothing bound
pub record WithinIs (ns ts : List ℕ) (ds : Table) (given level at : ℕ) (e : Element) (p : ℕ) (r : Result Unit Refused) : Type 0 where
  pub is : (w : World ns ts ds given) → Subscripts (list_of e)
      → what_of (walk_within (seen_by w level) (in_domain_walk (seen_by w level)) (list_of e) (nothing_bound w) p (tokens_at w at)) ≡ passed_outcome r

-- ---- a name

-- what the table tells of a name l that is read at p: its number i, sort k, number of indices c, and where it was declared
pub record KnownAs {ns ts : List ℕ} {ds : Table} {given : ℕ} (w : World ns ts ds given) (l : List ℕ) (p i k c q : ℕ) : Type 0 where
  pub name : Name
  pub stands : slice_get w.names i ≡ Some name
  pub found : (level : ℕ) → i < level → find l (seen_by w level) 0 p ≡ Some (record { number = i; sort = name.sort; place = p })
  pub late : (level : ℕ) → level ≤ i → find l (seen_by w level) 0 p ≡ None
  pub shaped : Shaped name.sort k c
  pub row : q ≡ row_word ns i 4

abbrev pub Told : {ns ts : List ℕ} {ds : Table} {given : ℕ} → World ns ts ds given → List ℕ → ℕ → Option Listed → Type 0
Told w l p None = (level : ℕ) → find l (seen_by w level) 0 p ≡ None
Told w l p (Some x) = KnownAs w l p x.number x.sort x.count x.start

-- a primary that is a name
pub record NamedIs (n p : ℕ) (ns ts : List ℕ) (ds : Table) (given level : ℕ) (sc : Held) (at : ℕ) (x : Option Listed) (r : Result (Value × ℕ) Refused) : Type 0 where
  pub is : (w : World ns ts ds given) → Small sc → (l : List ℕ) → Told w l p x
      → walk_found (walk_inside (seen_by w level) n) p (find l (seen_by w level) 0 p) (under w sc) (tokens_at w at) ≡ value_outcome w.text ts r
  pub valid : (w : World ns ts ds given) → Small sc → (l : List ℕ) → Told w l p x → ValidAnswer r

-- an integer or a real with number i, whose domain has c indices and was declared at q
pub record DatumIs (n i c q p : ℕ) (ns ts : List ℕ) (ds : Table) (given level : ℕ) (sc : Held) (at : ℕ) (r : Result (Value × ℕ) Refused) : Type 0 where
  pub is : (w : World ns ts ds given) → Small sc → i < length w.names → (d : Spans) → DomainAt w.text ts (seen_by w i) d q → size d ≡ c
      → walk_datum (walk_inside (seen_by w level) n) i p d (under w sc) (tokens_at w at) ≡ value_outcome w.text ts r
  pub valid : (w : World ns ts ds given) → Small sc → i < length w.names → (d : Spans) → DomainAt w.text ts (seen_by w i) d q → size d ≡ c → ValidAnswer r
