-- The line that tells of an answer.
use Rattle.std.specs.Prelude.{◌≡◌, List, [], ◌∷◌, ◌++◌, ℕ, zero, suc, ◌+◌, length}
use Rattle.language.specs.Listing.{fields}
use Rattle.language.specs.Answer.{respond}
use Rattle.listing.specs.Shown.{shown_natural}
use Rattle.generator.specs.declared.Entry.{Entry}
use Rattle.generator.specs.Contract.{OfEntry}

-- how many bytes are not zero
abbrev pub one_of : ℕ → ℕ
one_of zero = 0
one_of (suc b) = 1

unfoldable pub nonzero_of : List ℕ → ℕ
nonzero_of [] = 0
nonzero_of (b ∷ l) = one_of b + nonzero_of l

-- number, place, length, and how many bytes behind the report are not zero
unfoldable pub told : ℕ → ℕ → ℕ → ℕ → List ℕ
told n p l b = shown_natural n ++ fields (shown_natural p ∷ shown_natural l ∷ shown_natural b ∷ [])

-- the output's bytes are those of the entry point's outcome
pub record Runs (e : Entry) (text out out' : List ℕ) : Type 0 where
  pub bytes : OfEntry e text (length out) (λ o. out' ≡ (respond (length out) o).buffer)
