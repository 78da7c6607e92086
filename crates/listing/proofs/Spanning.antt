-- Laws of the line of a span.
use Rattle.std.specs.Prelude.{Option, Some, None}
use mathlib.Core.Path.{◌≡◌}
use mathlib.Core.Bool.{Bool, true, false}
use mathlib.Core.List.{List, [], ◌∷◌}
use Prim.Native.Nat.{ℕ, ◌≤◌}
use native.Mathlib.Omega.{arith}
use lib.ListN.{length, length-append}
use Rattle.rules.specs.Characters.{bytes}
use Rattle.value.specs.declared.Value.{Value}
use Rattle.value.specs.Printed.{Written}
use Rattle.value.proofs.Writing.{written_then}
use Rattle.language.specs.Listing.{fields}
use Rattle.listing.specs.Shown.{shown_natural, shown_or}
use Rattle.listing.specs.Spans.{shown_end, idle_field, shown_span}
use Rattle.listing.proofs.Showing.{shown-most}
use Rattle.listing.proofs.Lengths.{field-length, end-length, natural-most}

module _ (b : Bool) where
  pub idle-yes : b ≡ true → idle_field b ≡ bytes "idle"
  unfolding idle_field
  idle-yes e = rw e

  pub idle-no : b ≡ false → idle_field b ≡ bytes "-"
  unfolding idle_field
  idle-no e = rw e

pub span-then : (n : ℕ) (a g : Option Value) (b : Bool) {l : List ℕ} {r : ℕ} {l' : List ℕ} {r' : ℕ} {l'' : List ℕ}
    → Written l 0 (bytes "span") r l' → Written l' r (fields (shown_natural n ∷ shown_or (bytes "-") a ∷ shown_or (bytes "-") g ∷ idle_field b ∷ [])) r' l'' → Written l 0 (shown_span n a g b) r' l''
unfolding shown_span shown_end
span-then n a g b w v = written_then _ _ _ _ _ _ _ _ w v

-- ---- how long it is

end-most : (o : Option Value) → length (shown_end o) ≤ 26
unfolding shown_end
end-most None = omega arith
end-most (Some v) = shown-most v

idle-most : (b : Bool) → length (idle_field b) ≤ 4
unfolding idle_field
idle-most true = omega arith
idle-most false = omega arith

pub span-most : (n : ℕ) (a g : Option Value) (b : Bool) → length (shown_span n a g b) ≤ 128
unfolding shown_span
span-most n a g b = simp (length-append, field-length, end-length) (omega (arith, natural-most n, end-most a, end-most g, idle-most b))
