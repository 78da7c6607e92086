-- What each function answers: for every text, names, data and variables that the tables hold, what the walk of the tokens from a
-- position on gathers. `level`: how many names are visible. `n`: how many brackets may still open.
use Rattle.std.specs.Prelude.{Err, None, Ok, Option, Result, Some, ◌≡◌, Bool, true, false, cond, ◌&&◌, ◌||◌, List, ℕ, ◌<◌, eqb, ltb, length, get_or, ℤ}
use Rattle.rules.specs.declared.Refused.{Refused}
use Rattle.rules.specs.Limits.{token_limit}
use Rattle.value.specs.declared.Value.{Value}
use Rattle.value.specs.Decimal.{Valid, product_of}
use Rattle.lexer.specs.Marks.{sigma_word}
use Rattle.language.specs.Outcome.{Outcome, done, refused, fitting}
use Rattle.language.specs.Syntax.{Name, Spans}
use Rattle.language.specs.Reader.{Reader, Read, ◌>>=◌, lift, next}
use Rattle.language.specs.Linear.{Head, a_variable, a_primary, head_by}
use Rattle.language.specs.Ranges.{up_from}
use Rattle.language.specs.Evaluation.{run_of}
use Rattle.language.specs.Numbering.{Variable, Row}
use Rattle.onepass.specs.Walk.{Walk, walk_head, walk_primary, walk_inside}
use Rattle.onepass.specs.WalkLinear.{Gatherer, walk_number, walk_variable, walk_linear_term, walk_linear_terms, walk_linear, no_sigma_walk, walk_body_form, walk_runs, walk_sigma, gather_at}
use Rattle.tokens.specs.Stored.{kind_of, from, size, Looks}
use Rattle.store.specs.Entries.{Numbered as Held}
use Rattle.evaluator.specs.declared.steps.scope.Scope.{Scope}
use Rattle.evaluator.specs.declared.steps.names.Listed.{Listed}
use Rattle.evaluator.specs.declared.steps.values.Limits as code
use Rattle.evaluator.specs.Steps.Scopes.{Small}
use Rattle.evaluator.specs.Steps.Names.{number_part, listed_of}
use Rattle.evaluator.specs.Tables.{DomainAt, World}
use Rattle.evaluator.specs.Cycle.{limits_walk, seen_by, under, tokens_at, Ready}
use Rattle.gatherer.specs.declared.Ending.{Ending}
use Rattle.gatherer.specs.declared.Ending.TheVariants as ending
use Rattle.gatherer.specs.declared.Running.{Running}
use Rattle.rows.specs.Counts.{RowOf}
use Rattle.store.specs.Table.{Table}

-- ---- the walks, each a function of the variables and the names

abbrev pub Gatherers : Type 0
Gatherers = List Variable → List Name → Gatherer

-- a primary and the `*` behind it, multiplied to c
unfoldable pub factor_in : ℕ → Value → List Name → Walk
factor_in n c names s = walk_primary names (walk_inside names n) s >>= (λ v. next >>= (λ u. lift (fitting u.place (product_of c v))))

-- what walks a sigma behind its word, where sigmas are allowed or not
unfoldable pub sigmas_in : Bool → ℕ → List Variable → List Name → ℕ → Gatherer
sigmas_in true n vs names p = walk_sigma vs names n p
sigmas_in false n vs names p = no_sigma_walk vs names p

unfoldable pub term_in : Bool → ℕ → Gatherers
term_in b n vs names = walk_linear_term vs names (sigmas_in b n vs names) b n token_limit

unfoldable pub terms_in : Bool → ℕ → ℕ → Gatherers
terms_in b n k vs names = walk_linear_terms vs names (term_in b n vs names) k

unfoldable pub form_in : Bool → ℕ → Gatherers
form_in b n vs names = walk_linear vs names (term_in b n vs names)

unfoldable pub sigma_in : ℕ → ℕ → Gatherers
sigma_in n p vs names = walk_sigma vs names n p

unfoldable pub body_in : ℕ → Gatherers
body_in n vs names = walk_body_form vs names (walk_sigma vs names n) n

unfoldable pub gather_in : ℕ → Gatherers
gather_in n vs names = gather_at vs names n

-- ---- answers

-- a text, names, data and variables that the tables hold
pub record Model (ns ts : List ℕ) (ds : Table) (given : ℕ) (xs : Table) (total : ℕ) : Type 0 where
  pub world : World ns ts ds given
  pub variables : List Variable
  pub held : Held xs total variables

-- the tokens that are left stand from a on, and l is the row that was gathered
pub record Done (s ts : List ℕ) (vs : List Variable) (o : Outcome (Read Row)) (a : ℕ) (l : List ℤ) : Type 0 where
  pub gathered : Row
  pub is : o ≡ done (record { what = gathered; rest = from s ts a })
  pub row : RowOf vs l gathered

abbrev pub Does : List ℕ → List ℕ → List Variable → Outcome (Read Row) → Result ℕ Refused → List ℤ → Type 0
Does s ts vs o (Ok a) l = Done s ts vs o a l
Does s ts vs o (Err e) l = o ≡ refused e.refusal e.place

-- a declared domain with k indices of the name i, declared at q
pub record Declared {ns ts : List ℕ} {ds : Table} {given : ℕ} (w : World ns ts ds given) (i : ℕ) (d : Spans) (k q : ℕ) : Type 0 where
  pub below : i < length w.names
  pub stands : DomainAt w.text ts (seen_by w i) d q
  pub count : size d ≡ k

-- ---- contracts

abbrev pub number_outcome : List ℕ → List ℕ → Result (ℕ × ℕ) Refused → Outcome (Read ℕ)
number_outcome s ts (Ok (j, a)) = done (record { what = j; rest = from s ts a })
number_outcome s ts (Err e) = refused e.refusal e.place

-- the number of the variable of name i that is read at p
pub record NumberIs (n i k q p : ℕ) (ns ts : List ℕ) (ds : Table) (given : ℕ) (xs : Table) (total level : ℕ) (sc : Scope) (at : ℕ) (r : Result (ℕ × ℕ) Refused) : Type 0 where
  pub is : (w : Model ns ts ds given xs total) → Small sc → (d : Spans) → Declared w.world i d k q
      → walk_number w.variables (seen_by w.world level) n i d p (under w.world sc) (tokens_at w.world at) ≡ number_outcome w.world.text ts r
  pub below : Model ns ts ds given xs total → (j a : ℕ) → r ≡ Ok (j, a) → j < total

-- what a token begins: a variable of a declared domain, or a primary
abbrev pub Heads : {ns ts : List ℕ} {ds : Table} {given : ℕ} → World ns ts ds given → Head → Option Listed → Type 0
Heads w h None = h ≡ a_primary
Heads w h (Some x) = (d : Spans) × ((h ≡ a_variable x.number d) × Declared w x.number d x.count x.start)

-- the variable that a name is, if it is one of the first `level` names
abbrev pub variable_listed : ℕ → Option Listed → Option Listed
variable_listed level (Some x) = cond (ltb x.number level) (cond (eqb x.sort 4 || eqb x.sort 5) (Some x) None) None
variable_listed level None = None

-- the variable that a token of kind k names by its number, if it names one
unfoldable pub variable_seen : List ℕ → List ℕ → ℕ → ℕ → ℕ → Option Listed
variable_seen ns ts level at k = cond (eqb k 1) (variable_listed level (listed_of ns (number_part (get_or ts at 0)))) None

-- of the token there, in every world
pub record Begins (ns ts : List ℕ) (level at k : ℕ) (r : Option Listed) : Type 0 where
  pub heads : (p x b : ℕ) → Looks ts at (Ok (record { kind = k; place = p; payload = x; next = b })) → (sigmas : Bool) → (sigmas && eqb k sigma_word) ≡ false
      → (ds : Table) (given : ℕ) (w : World ns ts ds given) → Heads w (head_by (seen_by w level) sigmas (kind_of w.text k p x)) r

-- what a term is walked with: variables, what walks a sigma, a sign, a row
pub record Carried : Type 0 where
  pub variables : List Variable
  pub sigma : ℕ → Gatherer
  pub minus : Bool
  pub row : Row

-- a term's walk o is that of a variable, or that of a sigma, with the product u of the primaries before it
module _ {ns ts : List ℕ} {ds : Table} {given : ℕ} (w : World ns ts ds given) (level n : ℕ) (sigmas : Bool) (sc : Scope) (g : Carried) (o : Outcome (Read Row)) where
  pub record AtVariable (u : Value) (i k q p a : ℕ) : Type 0 where
    pub domain : Spans
    pub declared : Declared w i domain k q
    pub is : o ≡ walk_variable g.variables (seen_by w level) n i domain p (under w sc) u g.minus g.row (tokens_at w a)
    pub valid : Valid u

  pub record AtSigma (u : Value) (p a : ℕ) : Type 0 where
    pub is : o ≡ g.sigma p (under w sc) u g.minus g.row (tokens_at w a)
    pub valid : Valid u

  abbrev pub Ends : Result Ending Refused → Type 0
  Ends (Ok (ending.Variable u x p a)) = AtVariable u x.number x.count x.start p a
  Ends (Ok (ending.Sigma u p a)) = AtSigma u p a
  Ends (Err e) = o ≡ refused e.refusal e.place

-- a term with at most k primaries
unfoldable pub term_walk : {ns ts : List ℕ} {ds : Table} {given : ℕ} → World ns ts ds given → ℕ → ℕ → Bool → Scope → Carried → ℕ → Value → Reader Row
term_walk w level n sigmas sc g k c = walk_linear_term g.variables (seen_by w level) g.sigma sigmas n k (under w sc) c g.minus g.row

pub record EndingIs (n : ℕ) (sigmas : Bool) (ns ts : List ℕ) (ds : Table) (given level : ℕ) (sc : Scope) (at : ℕ) (c : Value) (r : Result Ending Refused) : Type 0 where
  pub is : (w : World ns ts ds given) → Small sc → Valid c → (g : Carried) → Ends w level n sigmas sc g (term_walk w level n sigmas sc g token_limit c (tokens_at w at)) r
  pub allowed : (u : Value) (p a : ℕ) → r ≡ Ok (ending.Sigma u p a) → sigmas ≡ true

-- a linear form, or a part of one, gathered from the row l
pub record Gathers (G : Gatherers) (ns ts : List ℕ) (ds : Table) (given : ℕ) (xs : Table) (total level : ℕ) (sc : Scope) (at : ℕ) (c : Value) (m : Bool) (l : List ℤ) (z : Result ℕ Refused) (l' : List ℤ) : Type 0 where
  pub does : (w : Model ns ts ds given xs total) → Small sc → Valid c → (r : Row) → RowOf w.variables l r
      → Does w.world.text ts w.variables (G w.variables (seen_by w.world level) (under w.world sc) c m r (tokens_at w.world at)) z l'

-- a variable's coefficient
pub record VariableIs (n i k q p : ℕ) (ns ts : List ℕ) (ds : Table) (given : ℕ) (xs : Table) (total level : ℕ) (sc : Scope) (at : ℕ) (c : Value) (m : Bool) (l : List ℤ) (z : Result ℕ Refused) (l' : List ℤ) : Type 0 where
  pub does : (w : Model ns ts ds given xs total) → Small sc → Valid c → (r : Row) → RowOf w.variables l r → (d : Spans) → Declared w.world i d k q
      → Does w.world.text ts w.variables (walk_variable w.variables (seen_by w.world level) n i d p (under w.world sc) c m r (tokens_at w.world at)) z l'

-- the run of a sigma, and what is walked with its index and numbers
abbrev pub running_outcome : {ns ts : List ℕ} {ds : Table} {given : ℕ} → World ns ts ds given → (ℕ → List ℤ → Reader Row) → Result Running Refused → Outcome (Read Row)
running_outcome w K (Ok x) = K x.index (up_from x.limits.lower x.count) (tokens_at w x.body)
running_outcome w K (Err e) = refused e.refusal e.place

abbrev pub ReadyRun : Scope → Result Running Refused → Type 0
ReadyRun sc (Ok x) = Ready sc x.limits x.count
ReadyRun sc (Err e) = Unit {0}

pub record RunningIs (n p : ℕ) (ns ts : List ℕ) (ds : Table) (given level : ℕ) (sc : Scope) (at : ℕ) (r : Result Running Refused) : Type 0 where
  pub is : (w : World ns ts ds given) → Small sc → (K : ℕ → List ℤ → Reader Row)
      → (walk_head (seen_by w level) >>= (λ i. limits_walk n (seen_by w level) (under w sc) >>= (λ l. lift (run_of l i (under w sc) p) >>= K i))) (tokens_at w at) ≡ running_outcome w K r
  pub ready : World ns ts ds given → Small sc → ReadyRun sc r
  pub after : (w : Running) → r ≡ Ok w → at < w.body

-- a sigma's body for each number of its run
pub record RunsAre (n i : ℕ) (ns ts : List ℕ) (ds : Table) (given : ℕ) (xs : Table) (total level : ℕ) (sc : Scope) (at : ℕ) (c : Value) (m : Bool) (b : code.Limits) (k : ℕ) (l : List ℤ) (z : Result ℕ Refused) (l' : List ℤ) : Type 0 where
  pub does : (w : Model ns ts ds given xs total) → Small sc → Ready sc b k → Valid c → (r : Row) → RowOf w.variables l r
      → Does w.world.text ts w.variables (walk_runs w.variables (seen_by w.world level) (body_in n w.variables (seen_by w.world level)) i (under w.world sc) c m r (up_from b.lower k) (tokens_at w.world at)) z l'
