-- The runs under way as code holds them.
use Rattle.std.specs.Prelude.{◌≡◌, true, cond, List, [], ◌∷◌, map, ℕ, ◌+◌, ◌*◌, ◌%◌, ◌^◌, ◌<◌, length, ℤ, pos, ◌+ℤ◌, ◌-ℤ◌}
use Rattle.std.specs.Int.Signed.{lt_z}
use Rattle.rational.specs.Integer.{up}
use Rattle.lexer.specs.Text.{Token}
use Rattle.language.specs.Scope.{Binding}
use Rattle.store.specs.Few.{items_of}
use Rattle.evaluator.specs.declared.steps.scope.Binding.{Binding as HeldBinding}
use Rattle.evaluator.specs.declared.steps.scope.Scope.{Scope as HeldScope}
use Rattle.elements.specs.declared.here.Level.{Level as HeldLevel}
use Rattle.elements.specs.declared.here.Here.{Here as HeldHere}
use Rattle.elements.specs.Levels.{Level}

-- a run at its next number, if there is one
unfoldable pub stepped : HeldLevel → HeldLevel
stepped l = cond (lt_z l.number l.upper) (record { name = l.name; number = l.number +ℤ pos 1; upper = l.upper; behind = l.behind }) l

-- the runs of an element, the outermost first
unfoldable pub held : HeldHere → List HeldLevel
held h = items_of h.levels

abbrev pub no-level : HeldLevel
no-level = record { name = 0; number = pos 0; upper = pos 0; behind = 0 }

abbrev pub number_of : HeldLevel → ℤ
number_of l = l.number

-- the runs bound one after the other, behind what is bound already
unfoldable pub bound : List HeldLevel → List Binding → List Binding
bound [] b = b
bound (l ∷ ls) b = bound ls (record { name = l.name; at = l.number } ∷ b)

-- a run as a scope holds it
abbrev pub bound_at : HeldLevel → HeldBinding
bound_at l = record { name = l.name; at = l.number }

-- a scope in which the runs are bound
abbrev pub scope_at : HeldHere → HeldScope
scope_at h = record { bound = record { count = h.levels.count; items = map bound_at h.levels.items } }

-- a run of the definition: view is the tokens from a position on
abbrev pub level_at : (ℕ → List Token) → HeldLevel → Level
level_at view l = record { name = l.name; number = l.number; upper = l.upper; rest = view l.behind }

unfoldable pub levels_of : (ℕ → List Token) → HeldHere → List Level
levels_of view h = map (level_at view) (held h)

-- ---- how far an element is from the last one

unfoldable pub word_base : ℕ
word_base = 18446744073709551616

-- how many numbers a run has behind its own; two words differ by less than the base
unfoldable pub ahead : HeldLevel → ℕ
ahead l = up (l.upper -ℤ l.number) % word_base

-- a digit for each run, the outermost first
unfoldable pub rank : List HeldLevel → ℕ
rank [] = 0
rank (l ∷ ls) = ahead l * word_base ^ length ls + rank ls

-- the next number of a run that has one; the limit lies less than the base ahead
pub record StepsUp (l r : HeldLevel) : Type 0 where
  pub is : r ≡ stepped l
  pub near : lt_z l.number l.upper ≡ true → up (l.upper -ℤ l.number) < word_base
