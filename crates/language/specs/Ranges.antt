-- The whole numbers from one to another, by ones, as a list: what a run goes through.
use Rattle.std.specs.Prelude.{List, [], ◌∷◌, ℕ, zero, suc, ℤ, pos, ◌+ℤ◌, neg_ℤ}
use Rattle.rational.specs.Integer.{up}

abbrev pub up_from : ℤ → ℕ → List ℤ
up_from a zero = []
up_from a (suc n) = a ∷ up_from (a +ℤ pos 1) n

abbrev pub range : ℤ → ℤ → List ℤ
range a b = up_from a (up (b +ℤ pos 1 +ℤ neg_ℤ a))
