-- Laws of the lines of variables.
use mathlib.Core.Path.{◌≡◌, refl, ap}
use mathlib.Core.List.{List, [], ◌∷◌}
use Prim.Native.Nat.{ℕ, suc}
use lib.Dec.{ltb}
use lib.ListN.{get_or}
use Rattle.language.specs.Syntax.{Name}
use Rattle.language.specs.Syntax
use Rattle.language.specs.Numbering.{Variable, Lp, lower_of, upper_of}
use Rattle.language.specs.Listing.{Line, var_line, var_lines}
use Rattle.listing.specs.Sheet.Told.{concat}
use Rattle.listing.proofs.sheet.Groups.{groups}

-- what stands for a name that is not declared
abbrev pub undeclared : Name
undeclared = record { spelling = []; place = 0; sort = Syntax.index }

abbrev pub variable_line : List Name → Lp → ℕ → Variable → Line
variable_line names p j v = var_line (suc j) (ltb j p.discrete) (lower_of p.entries j) (upper_of p.entries j) (get_or names v.name undeclared).spelling v.element

abbrev pub variable_group : List Name → Lp → ℕ → Variable → List Line
variable_group names p j v = variable_line names p j v ∷ []

pub variables-joined : (names : List Name) (p : Lp) (j : ℕ) (vs : List Variable) → concat (groups (variable_group names p) j vs) ≡ var_lines names p j vs
unfolding concat groups var_lines
variables-joined names p j [] = refl
variables-joined names p j (v ∷ vs) = ap (λ l. variable_line names p j v ∷ l) (variables-joined names p (suc j) vs)
