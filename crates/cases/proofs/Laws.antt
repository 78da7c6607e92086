-- Laws over plain variables that answer the code's needs.
use mathlib.Core.Path.{◌≡◌, refl, ◌∙◌}
use mathlib.Core.List.{List, [], ◌∷◌}
use Prim.Native.Nat.{ℕ, zero, suc, ◌+◌, ◌-◌, ◌<◌, ◌≤◌, min}
use native.Mathlib.Omega.{arith}
use native.Mathlib.Numerals.{add-one}
use mir.Syntax.{w64}
use mir.Val.{to_z}
use borrow.Rule.Slice.PartMut.{put_mid}
use lib.ListN.{length, take, drop, get_or, drop_of_length-le}
use lib.Seq.{drop-cons}
use Rattle.rules.specs.Characters.{tab, line_feed}
use Rattle.value.specs.declared.Value.{Value}
use Rattle.value.specs.Decimal.{of_whole}
use Rattle.value.specs.Printed.{shown, Written}
use Rattle.value.proofs.Writing.{written_none, written_then}
use Rattle.listing.specs.Shown.{shown_natural}
use Rattle.listing.proofs.Showing.{shown-most, whole_is, natural-read, natural-none}
use Rattle.listing.proofs.Writing.{field-then, line-end, written_from}
use Rattle.language.specs.Answer.{respond}
use Rattle.generator.specs.declared.Answer.{Answer}
use Rattle.generator.specs.declared.Entry.{Entry}
use Rattle.generator.specs.Contract.{Gives, Calls}
use Rattle.generator.proofs.Entries.{entry-map}
use Rattle.cases.specs.Told.{one_of, nonzero_of, told, Runs}

-- ---- a number

pub digits-none : (l : List ℕ) (at n : ℕ) → 999999999 < n → Written l at (shown_natural n) at l
digits-none l at n h = rw (natural-none n h) (written_none l at)

pub digits-most : (l : List ℕ) (v : Value) (r : ℕ) (l' : List ℕ) → Written l 0 (shown v) r l' → r ≤ 26
digits-most l v r l' w = omega (arith, w.next, shown-most v)

pub digits-some : (l : List ℕ) (at n from : ℕ) (v : Value) (r : ℕ) (p : List ℕ)
    → n ≤ 999999999 → from ≡ min at (length l) → v ≡ of_whole (to_z w64 n) → Written (take (length l - from) (drop from l)) 0 (shown v) r p → Written l at (shown_natural n) (at + r) (put_mid from (length l - from) l p)
digits-some l at n from v r p h e i w = rw (whole_is v (to_z w64 n) i ∙ natural-read n h) at (written_from l at from (shown v) r p e w)

-- ---- a line

module _ (n p k b : ℕ) (l : List ℕ) (r₁ r₂ r₃ r₄ r₅ : ℕ) (l₁ l₂ l₃ l₄ l₅ : List ℕ) where
  pub line-is : Written l 0 (shown_natural n) r₁ l₁ → Written l₁ r₁ (tab ∷ shown_natural p) r₂ l₂ → Written l₂ r₂ (tab ∷ shown_natural k) r₃ l₃
      → Written l₃ r₃ (tab ∷ shown_natural b) r₄ l₄ → Written l₄ r₄ (line_feed ∷ []) r₅ l₅ → Written l 0 (told n p k b) r₅ l₅
  unfolding told
  line-is w₁ w₂ w₃ w₄ w₅ = written_then _ _ _ _ _ _ _ _ w₁ (field-then _ w₂ (field-then _ w₃ (field-then _ w₄ (line-end w₅))))

-- ---- the bytes that are not zero, counted

pub one-zero : (b : ℕ) → b ≡ 0 → 0 ≡ one_of b
one-zero b e = rw e

pub one-other : (b : ℕ) → (b ≡ 0 → ⊥) → 1 ≡ one_of b
one-other zero h = absurd (h refl)
one-other (suc b) h = refl

-- those before byte i
pub record Counted (l : List ℕ) (i c : ℕ) : Type 0 where
  pub most : c ≤ i
  pub rest : c + nonzero_of (drop i l) ≡ nonzero_of l

pub counted_none : (l : List ℕ) → Counted l 0 0
counted_none l = record { most = omega arith; rest = omega arith }

module _ (l : List ℕ) (i c : ℕ) (h : Counted l i c) where
  step : i < length l → nonzero_of (drop i l) ≡ one_of (get_or l i 0) + nonzero_of (drop (i + 1) l)
  unfolding nonzero_of
  step b = rw (add-one, drop-cons l i 0 b)

  pub counted-more : (d : ℕ) → i < length l → (d ≡ one_of (get_or l i 0)) × (d ≤ 1) → Counted l (i + 1) (c + d)
  counted-more d b e = record { most = omega (arith, h.most, e.1); rest = omega (arith, h.rest, e.0, step b) }

  pub counted-all : length l ≤ i → c ≡ nonzero_of l
  unfolding nonzero_of
  counted-all b = omega (arith, rw (drop_of_length-le l {i = i} b) at h.rest)

-- ---- the output of a case

pub runs-is : (e : Entry) (text out : List ℕ) (a : Answer) (out' : List ℕ) → Calls e text out a out' → Runs e text out out'
runs-is e text out a out' c = record { bytes = entry-map e text (length out) (λ o. Gives (length out) o a out') (λ o. out' ≡ (respond (length out) o).buffer) (λ o g. g.bytes) c.of }
