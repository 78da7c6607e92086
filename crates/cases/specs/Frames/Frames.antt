-- What the head of a frame says.
use Rattle.std.specs.Prelude.{None, Option, Some, cond, ℕ, ◌+◌, ◌*◌, ◌-◌, ◌≤◌, leb, eqb}
use Prim.Native.Char.{code}
use Rattle.generator.specs.declared.Entry.{Entry}
use Rattle.generator.specs.declared.Entry.TheVariants.{List, Export, Read}
use Rattle.cases.specs.declared.frames.Given.{Given}

-- 0 for what is no digit
abbrev pub digit_of : ℕ → ℕ
digit_of b = cond (leb (code "0") b) (cond (leb b (code "9")) (b - code "0") 0) 0

abbrev pub five_of : ℕ → ℕ → ℕ → ℕ → ℕ → ℕ
five_of a b c d e = digit_of a * 10000 + digit_of b * 1000 + digit_of c * 100 + digit_of d * 10 + digit_of e

abbrev pub entry_of : ℕ → Entry
entry_of b = cond (eqb b (code "E")) Export (cond (eqb b (code "R")) Read List)

-- a text has room in the m bytes that were lent for it, and its buffer's length has five digits
abbrev pub Within : Option Given → ℕ → Type 0
Within (Some x) m = (x.text ≤ m) × (x.room ≤ 99999)
Within None m = Unit {0}
