-- Laws of sizes within the limits, and of the names and strings that words tell.
use mathlib.Core.Path.{◌≡◌, ◌∙◌, ap}
use mathlib.Core.Bool.{Bool, true, ◌&&◌}
use mathlib.Core.List.{List}
use Prim.Native.Nat.{ℕ, ◌+◌, ◌/◌, ◌%◌, ◌≤◌}
use native.Mathlib.Omega.{arith}
use borrow.Author.Tests.{le-leb, leb-true}
use lib.Dec.{leb}
use lib.ListN.{length, get_or, length-take, length-drop}
use Rattle.rules.specs.Limits.{byte_limit}
use Rattle.value.proofs.Ranges.{and_left, and_right}
use Rattle.lexer.specs.View.{part_of}
use Rattle.tokens.specs.Stored.{place_part, payload_part}
use Rattle.constraints.specs.declared.Record.{Record}
use Rattle.constraints.specs.Rows.{row_at}
use Rattle.evaluator.specs.Steps.Names.{row_word}
use Rattle.rows.specs.declared.Sizes.{Sizes}
use Rattle.rows.specs.Read as rows
use Rattle.rows.proofs.Reading as reading
use Rattle.listing.specs.Sheet.Strings.{name_at, string_at, title_of, within}

-- ---- limits

module _ (n : ℕ) (x : Sizes) where
  pub within-test : (b : Bool) → b ≡ rows.within x → (leb n 16384 && b) ≡ within n x
  unfolding within byte_limit
  within-test b e = rw e

  pub record Within : Type 0 where
    pub bytes : n ≤ 16384
    pub sizes : reading.Within x

  pub within-yes : within n x ≡ true → Within
  unfolding within byte_limit
  within-yes e =
      record {
        bytes = leb-true n 16384 (and_left _ (rows.within x) e);
        sizes = reading.within-yes x (and_right (leb n 16384) _ e);
      }

  pub yes-within : n ≤ byte_limit → rows.within x ≡ true → within n x ≡ true
  unfolding within
  yes-within a b = rw (le-leb n byte_limit a, b)

-- ---- names and strings

module _ (s t : List ℕ) (i : ℕ) where
  pub name-is : (a n : ℕ) (r : List ℕ) → a ≡ row_word t i 0 → n ≡ row_word t i 1 → r ≡ part_of s a n → r ≡ name_at s t i
  unfolding name_at
  name-is a n r e g h = rw (← e, ← g) h

  pub string-is : (w : ℕ) (r : List ℕ) → w ≡ get_or t i 0 → r ≡ part_of s (w / 8589934592 % 32768 + 1) (w % 8589934592) → r ≡ string_at s t i
  unfolding string_at
  string-is w r e h = rw (← e) h

pub title-is : (s ts : List ℕ) (cs : List Record) (i : ℕ) (w : Record) (r : List ℕ) → w ≡ row_at cs i → r ≡ string_at s ts w.title → r ≡ title_of s ts cs i
unfolding title_of
title-is s ts cs i w r e h = h ∙ ap (λ (w : Record). string_at s ts w.title) e

pub part-most : (s : List ℕ) (a n : ℕ) → length (part_of s a n) ≤ length s
part-most s a n = simp (length-take, length-drop) (omega arith)

pub name-most : (s ns : List ℕ) (i : ℕ) → length (name_at s ns i) ≤ length s
unfolding name_at
name-most s ns i = part-most s (row_word ns i 0) (row_word ns i 1)

pub string-most : (s ts : List ℕ) (at : ℕ) → length (string_at s ts at) ≤ length s
unfolding string_at
string-most s ts at = part-most s (place_part (get_or ts at 0) + 1) (payload_part (get_or ts at 0))

pub title-most : (s ts : List ℕ) (cs : List Record) (i : ℕ) → length (title_of s ts cs i) ≤ length s
unfolding title_of
title-most s ts cs i = string-most s ts (row_at cs i).title
