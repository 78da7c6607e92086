-- The numbers of the sorts.
use mathlib.Core.Path.{◌≡◌, refl}
use Prim.Native.Nat.{◌≤◌}
use native.Mathlib.Omega.{arith}
use Rattle.tokens.specs.declared.Sort.{Sort}
use Rattle.tokens.specs.declared.Sort.TheVariants.{Index, Integer, Real, Formula, Discrete, Continuous}
use Rattle.tokens.specs.Stored.{sort_number}

pub sort-small : (x : Sort) → sort_number x ≤ 5
sort-small Index = omega arith
sort-small Integer = omega arith
sort-small Real = omega arith
sort-small Formula = omega arith
sort-small Discrete = omega arith
sort-small Continuous = omega arith

pub other-index : (x : Sort) → (x ≡ Index → ⊥) → sort_number x ≡ 0 → ⊥
other-index Index n e = n refl
other-index Integer n e = absurd (omega arith)
other-index Real n e = absurd (omega arith)
other-index Formula n e = absurd (omega arith)
other-index Discrete n e = absurd (omega arith)
other-index Continuous n e = absurd (omega arith)

pub other-formula : (x : Sort) → (x ≡ Formula → ⊥) → sort_number x ≡ 3 → ⊥
other-formula Index n e = absurd (omega arith)
other-formula Integer n e = absurd (omega arith)
other-formula Real n e = absurd (omega arith)
other-formula Formula n e = n refl
other-formula Discrete n e = absurd (omega arith)
other-formula Continuous n e = absurd (omega arith)
