-- What code answers, for every text, names and data that the tables hold: the first element inside some runs, and the element
-- after an element.
use Rattle.std.specs.Prelude.{Err, None, Ok, Option, Result, Some, ◌≡◌, List, [], ◌∷◌, ◌++◌, ℕ, suc, ◌-◌, ◌<◌, ◌≤◌, length, take, drop, nat_abs, ◌≤ℤ◌}
use Rattle.rules.specs.declared.Refused.{Refused}
use Rattle.rules.specs.Limits.{mantissa_limit, index_limit}
use Rattle.lexer.specs.Text.{Token}
use Rattle.language.specs.Scope.{Scope}
use Rattle.onepass.specs.Walk.{in_domain_walk}
use Rattle.evaluator.specs.Tables.{World}
use Rattle.evaluator.specs.Cycle.{seen_by, nothing_bound, tokens_at}
use Rattle.elements.specs.declared.here.Level.{Level as HeldLevel}
use Rattle.elements.specs.declared.here.Here.{Here as HeldHere}
use Rattle.elements.specs.Elements.{Walked, finished, stopped, reaches, Behind}
use Rattle.elements.specs.Levels.{Level, here_of, run_from, walk_elements}
use Rattle.elements.specs.Held.{held, rank, level_at, levels_of}
use Rattle.store.specs.Table.{Table}

-- a run whose number and upper limit are values'
pub record SmallRun (l : Level) : Type 0 where
  pub number : nat_abs l.number ≤ mantissa_limit
  pub upper : nat_abs l.upper ≤ mantissa_limit

abbrev pub SmallRuns : List Level → Type 0
SmallRuns [] = Unit {0}
SmallRuns (l ∷ ls) = SmallRun l × SmallRuns ls

-- ---- what a step shows

module _ {ns ts : List ℕ} {ds : Table} {given : ℕ} (w : World ns ts ds given) where
  -- the runs under way at an element, and one of them
  abbrev pub runs_of : HeldHere → List Level
  runs_of h = levels_of (tokens_at w) h

  abbrev pub run_of : HeldLevel → Level
  run_of l = level_at (tokens_at w) l

  -- what is bound inside the runs p, and nothing else
  abbrev pub scope_in : List Level → Scope
  scope_in p = (here_of (nothing_bound w) p).scope

  -- n entries inside some runs, with the first `level` names
  abbrev pub entries_in : ℕ → ℕ → Scope → List Token → Walked (List Level)
  entries_in level n = walk_elements (seen_by w level) (in_domain_walk (seen_by w level)) n

  -- the runs p and those of the first element that u reaches inside them
  pub record Reached (p : List Level) (u : Walked (List Level)) (h : HeldHere) : Type 0 where
    pub inner : List Level
    pub rest : Walked (List Level)
    pub is : u ≡ reaches inner rest
    pub runs : runs_of h ≡ p ++ inner
    pub small : SmallRuns (runs_of h)

  -- what u has first
  abbrev pub Shows : List Level → Walked (List Level) → Result (Option HeldHere) Refused → Type 0
  Shows p u (Ok (Some h)) = Reached p u h
  Shows p u (Ok None) = u ≡ finished
  Shows p u (Err e) = u ≡ stopped e.refusal e.place

-- a number that falls with each `next`
abbrev pub turns_left : Result (Option HeldHere) Refused → ℕ
turns_left (Ok (Some h)) = suc (rank (held h))
turns_left (Ok None) = 0
turns_left (Err e) = 0

-- the first element of `count` entries from a position on
pub record FirstIs (ns ts : List ℕ) (ds : Table) (given level count at : ℕ) (r : Result (Option HeldHere) Refused) : Type 0 where
  pub is : (w : World ns ts ds given) → Shows w [] (entries_in w level count (nothing_bound w) (tokens_at w at)) r

-- the element after an element of some entries, wherever they stand
pub record NextIs (ns ts : List ℕ) (ds : Table) (given level : ℕ) (h : HeldHere) (r : Result (Option HeldHere) Refused) : Type 0 where
  pub is : (w : World ns ts ds given) → SmallRuns (runs_of w h) → (n : ℕ) (us : List Token) (u : Walked (List Level))
      → Behind (entries_in w level n (nothing_bound w) us) (runs_of w h) u → Shows w [] u r
  pub falls : turns_left r < turns_left (Ok (Some h))

-- ---- the same inside some runs

-- `count` runs more inside those of an outer element
pub record Grown (outer : HeldHere) (count : ℕ) (h : HeldHere) : Type 0 where
  pub inner : List HeldLevel
  pub is : held h ≡ held outer ++ inner
  pub size : length inner ≡ count

abbrev pub GrownBy : HeldHere → ℕ → Result (Option HeldHere) Refused → Type 0
GrownBy outer count (Ok (Some h)) = Grown outer count h
GrownBy outer count (Ok None) = Unit {0}
GrownBy outer count (Err e) = Unit {0}

-- the same inside a run, which has gone on from the number of l
pub record Turned (outer : HeldHere) (l : HeldLevel) (count : ℕ) (h : HeldHere) : Type 0 where
  pub run : HeldLevel
  pub inner : List HeldLevel
  pub is : held h ≡ held outer ++ (run ∷ inner)
  pub size : length inner ≡ count
  pub upper : run.upper ≡ l.upper
  pub number : l.number ≤ℤ run.number

abbrev pub TurnedBy : HeldHere → HeldLevel → ℕ → Result (Option HeldHere) Refused → Type 0
TurnedBy outer l count (Ok (Some h)) = Turned outer l count h
TurnedBy outer l count (Ok None) = Unit {0}
TurnedBy outer l count (Err e) = Unit {0}

-- the m outermost runs of h, and behind them runs of a lower rank
pub record Lowered (m : ℕ) (h g : HeldHere) : Type 0 where
  pub inner : List HeldLevel
  pub is : held g ≡ take m (held h) ++ inner
  pub size : length inner ≡ length (drop m (held h))
  pub lower : rank inner < rank (drop m (held h))

abbrev pub LoweredBy : ℕ → HeldHere → Result (Option HeldHere) Refused → Type 0
LoweredBy m h (Ok (Some g)) = Lowered m h g
LoweredBy m h (Ok None) = Unit {0}
LoweredBy m h (Err e) = Unit {0}

-- the first element of `count` entries from a position on, inside the runs of an outer element
pub record InsideIs (ns ts : List ℕ) (ds : Table) (given level count at : ℕ) (outer : HeldHere) (r : Result (Option HeldHere) Refused) : Type 0 where
  pub is : (w : World ns ts ds given) → SmallRuns (runs_of w outer)
      → Shows w (runs_of w outer) (entries_in w level count (scope_in w (runs_of w outer)) (tokens_at w at)) r
  pub grown : GrownBy outer count r

-- the same at the numbers of a run, from the one on at which it stands, with `count` entries inside it
pub record TurnsAre (ns ts : List ℕ) (ds : Table) (given level count : ℕ) (outer : HeldHere) (l : HeldLevel) (r : Result (Option HeldHere) Refused) : Type 0 where
  pub is : (w : World ns ts ds given) → SmallRuns (runs_of w outer) → SmallRun (run_of w l) → length (runs_of w outer) < index_limit
      → Shows w (runs_of w outer) (run_from (entries_in w level count) (scope_in w (runs_of w outer)) (run_of w l)) r
  pub turned : length (held outer) < index_limit → TurnedBy outer l count r

-- what comes after an element inside its m outermost runs, wherever the entries of the others stand
pub record AfterIs (ns ts : List ℕ) (ds : Table) (given level m : ℕ) (h : HeldHere) (r : Result (Option HeldHere) Refused) : Type 0 where
  pub is : (w : World ns ts ds given) → SmallRuns (runs_of w h) → (us : List Token) (u : Walked (List Level))
      → Behind (entries_in w level (length (runs_of w h) - m) (scope_in w (take m (runs_of w h))) us) (drop m (runs_of w h)) u
      → Shows w (take m (runs_of w h)) u r
  pub lowered : LoweredBy m h r
