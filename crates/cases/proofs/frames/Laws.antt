-- Laws over plain variables that answer the code's needs.
use mathlib.Core.Path.{◌≡◌}
use Prim.Native.Nat.{ℕ, ◌-◌, ◌<◌, ◌≤◌}
use native.Mathlib.Omega.{arith}
use borrow.Author.Tests.{le-leb, lt-leb, eq-eqb, ne_eqb}
use Rattle.rules.specs.Characters.{code}
use Rattle.generator.specs.declared.Entry.TheVariants.{List, Export, Read}
use Rattle.cases.specs.Frames.Frames.{digit_of, entry_of}

module _ (b : ℕ) where
  pub digit_low : b < 48 → 0 ≡ digit_of b
  digit_low h = rw (lt-leb 48 b h)

  pub digit-high : 57 < b → 0 ≡ digit_of b
  digit-high h = rw (lt-leb b 57 h, le-leb 48 b (omega arith))

  pub digit-is : 48 ≤ b → b ≤ 57 → b - 48 ≡ digit_of b
  digit-is h g = rw (le-leb 48 b h, le-leb b 57 g)

-- the letter of an entry point
module _ (b : ℕ) where
  pub entry-export : b ≡ code "E" → Export ≡ entry_of b
  entry-export e = rw (eq-eqb b (code "E") e)

  pub entry_read : (b ≡ code "E" → ⊥) → b ≡ code "R" → Read ≡ entry_of b
  entry_read f e = rw (ne_eqb b (code "E") f, eq-eqb b (code "R") e)

  pub entry-list : (b ≡ code "E" → ⊥) → (b ≡ code "R" → ⊥) → List ≡ entry_of b
  entry-list f g = rw (ne_eqb b (code "E") f, ne_eqb b (code "R") g)
