-- The elements of a domain while its tokens are walked, each as the runs that are under way at it.
use Rattle.std.specs.Prelude.{List, [], ◌∷◌, ℕ, zero, suc, ℤ}
use Rattle.lexer.specs.Text.{Token}
use Rattle.language.specs.Outcome.{Outcome, done, refused}
use Rattle.language.specs.Syntax.{Name}
use Rattle.language.specs.Reader.{Read}
use Rattle.language.specs.Scope.{Scope, bind}
use Rattle.language.specs.Ranges.{range}
use Rattle.language.specs.Evaluation.{run_of}
use Rattle.onepass.specs.Walk.{Walk, Bounds, walk_entry}
use Rattle.elements.specs.Elements.{Walked, finished, stopped, reaches, chained, over_run, mapped, Here, in_front}

-- a run under way: its index, the number that it stands at, its upper limit, and the tokens behind its entry
pub record Level : Type 0 where
  pub name : ℕ
  pub number : ℤ
  pub upper : ℤ
  pub rest : List Token

-- what is bound in s and then by the runs, and the element
unfoldable pub here_of : Scope → List Level → Here
here_of s [] = record { scope = s; element = [] }
here_of s (l ∷ ls) = in_front l.number (here_of (bind l.name l.number s) ls)

-- a run, and the runs inside it
abbrev pub deeper : Level → Walked (List Level) → Walked (List Level)
deeper l w = mapped (λ ls. l ∷ ls) w

-- the run of an entry, at its first number
abbrev pub level_of : Read Bounds → Level
level_of b = record { name = b.what.number; number = b.what.limits.lower; upper = b.what.limits.upper; rest = b.rest }

-- a run at another of its numbers
abbrev pub at_number : Level → ℤ → Level
at_number l k = record { name = l.name; number = k; upper = l.upper; rest = l.rest }

-- a run at the number k: it is bound, and w walks the entries behind
abbrev pub turn_of : (Scope → List Token → Walked (List Level)) → Scope → Level → ℤ → Walked (List Level)
turn_of w s l k = deeper (at_number l k) (w (bind l.name k s) l.rest)

-- a run from the number on at which it stands
unfoldable pub run_from : (Scope → List Token → Walked (List Level)) → Scope → Level → Walked (List Level)
run_from w s l = chained (turn_of w s l) (range l.number l.upper)

-- an entry that was read, and the walk w of the entries behind it
unfoldable pub walk_run : (Scope → List Token → Walked (List Level)) → Scope → Outcome (Read Bounds) → Walked (List Level)
walk_run w s (done b) =
    over_run (run_of b.what.limits b.what.number s b.what.place) (turn_of w s (level_of b))
walk_run w s (refused n p) = stopped n p

-- n entries
unfoldable pub walk_elements : List Name → Walk → ℕ → Scope → List Token → Walked (List Level)
walk_elements names F zero s ts = reaches [] finished
walk_elements names F (suc n) s ts = walk_run (walk_elements names F n) s (walk_entry names F s ts)
