-- What the program is asked, by its word.
use Rattle.std.specs.Prelude.{None, Some}
use mathlib.Core.Path.{◌≡◌}
use mathlib.Core.Bool.{Bool, true, false}
use mathlib.Core.List.{List}
use Prim.Native.Nat.{ℕ}
use lib.Dec.{eqb}
use Rattle.std.specs.Cmp.Lexicographic.{pointwise}
use Rattle.rules.specs.Characters.{bytes}
use Rattle.lexer.proofs.Same.{equal-same}
use Rattle.generator.specs.declared.Entry.TheVariants as entry
use Rattle.recipe.specs.Asked.{job_of}

module _ (word : List ℕ) (a : Bool) (i : a ≡ pointwise eqb word (bytes "--mps")) where
  pub asked-export : a ≡ true → Some entry.Export ≡ job_of word
  unfolding job_of
  asked-export e = rw (← equal-same word (bytes "--mps") a i, e)

  module _ (b : Bool) (j : b ≡ pointwise eqb word (bytes "--read-mps")) where
    pub asked-read : a ≡ false → b ≡ true → Some entry.Read ≡ job_of word
    unfolding job_of
    asked-read e f = rw (← equal-same word (bytes "--mps") a i, e, ← equal-same word (bytes "--read-mps") b j, f)

    pub asked-unknown : a ≡ false → b ≡ false → None ≡ job_of word
    unfolding job_of
    asked-unknown e f = rw (← equal-same word (bytes "--mps") a i, e, ← equal-same word (bytes "--read-mps") b j, f)
