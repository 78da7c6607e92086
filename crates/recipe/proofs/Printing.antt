-- What the program prints is the report, or the refusal's line.
use mathlib.Core.Path.{◌≡◌, refl, sym, ◌∙◌, ap, subst}
use mathlib.Core.Bool.{cond}
use mathlib.Core.List.{List, [], ◌∷◌, ◌++◌}
use Prim.Native.Nat.{ℕ, ◌-◌, ◌≤◌}
use native.Mathlib.Omega.{arith}
use borrow.Author.Tests.{eq-eqb, ne_eqb}
use lib.ListN.{length, take, replicate, length-append}
use lib.Seq.{take_at, length-take-le}
use Rattle.rules.specs.Characters.{tab, line_feed}
use Rattle.value.specs.Printed.{Written}
use Rattle.language.specs.Outcome.{Outcome, done, refused}
use Rattle.language.specs.Listing.{fields}
use Rattle.language.specs.Answer.{respond}
use Rattle.listing.specs.Shown.{shown_natural, shown_refused}
use Rattle.listing.proofs.Lines.{written-zeros}
use Rattle.listing.proofs.Lengths.{natural-most}
use Rattle.generator.specs.declared.Answer.{Answer}
use Rattle.generator.specs.declared.Entry.{Entry}
use Rattle.generator.specs.Contract.{Gives, OfEntry, Calls}
use Rattle.generator.proofs.Entries.{entry-map, entry-either}
use Rattle.recipe.specs.Printed.{printed_of, Printed, Tells, Prints}

-- ---- a refusal's line is short

line-most : (n p : ℕ) → length (shown_refused n p) ≤ 64
unfolding shown_refused fields
line-most n p =
    let a = length-append (shown_natural n) (tab ∷ (shown_natural p ++ (line_feed ∷ []))) in
    let b = length-append (shown_natural p) (line_feed ∷ []) in
    omega (arith, a, b, natural-most n, natural-most p)

-- ---- an outcome

within-buffer : (n : ℕ) (o : Outcome (List ℕ)) → (respond n o).size ≤ length (respond n o).buffer
unfolding respond
within-buffer n (done bytes) = omega (arith, length-append bytes (replicate (n - length bytes) 0))
within-buffer n (refused r p) = omega arith

refused-zeros : (n : ℕ) (o : Outcome (List ℕ)) → ((respond n o).number ≡ 0 → ⊥) → (respond n o).buffer ≡ replicate n 0
unfolding respond
refused-zeros n (done bytes) h = absurd (h refl)
refused-zeros n (refused r p) h = refl

-- ---- what is printed of an answer

module _ (a : Answer) (out : List ℕ) where
  pub tells-report : a.number ≡ 0 → Tells a out a.length out
  unfolding printed_of
  tells-report z = record {
    tells = λ o d.
        let n : (respond 65536 o).number ≡ 0 = sym d.number ∙ z in
        record {
          within = subst (λ l. a.length ≤ length l) (sym d.bytes) (subst (λ k. k ≤ length (respond 65536 o).buffer) (sym d.size) (within-buffer 65536 o));
          bytes = rw (eq-eqb (respond 65536 o).number 0 n, d.size, d.bytes);
        };
  }

  pub tells-refusal : (a.number ≡ 0 → ⊥) → (r : ℕ) (out' : List ℕ) → Written out 0 (shown_refused a.number a.place) r out' → Tells a out r out'
  unfolding printed_of
  tells-refusal z r out' w = record {
    tells = λ o d.
        let n : (respond 65536 o).number ≡ 0 → ⊥ = λ e. z (d.number ∙ e) in
        let b : out ≡ replicate 65536 0 = d.bytes ∙ refused-zeros 65536 o n in
        let line : shown_refused a.number a.place ≡ shown_refused (respond 65536 o).number (respond 65536 o).place = rw (d.number, d.place) in
        let long : r ≡ length (shown_refused a.number a.place) = omega (arith, w.next) in
        let short : r ≤ 65536 = omega (arith, long, line-most a.number a.place) in
        let filled : out' ≡ shown_refused a.number a.place ++ replicate (65536 - r) 0 = written-zeros 65536 (subst (λ l. Written l 0 (shown_refused a.number a.place) r out') b w) short in
        record {
          within = subst (λ l. r ≤ length l) (sym filled) (omega (arith, long, length-append (shown_refused a.number a.place) (replicate (65536 - r) 0)));
          bytes = ap (take r) filled ∙ take_at (shown_refused a.number a.place) (replicate (65536 - r) 0) r (sym long) ∙ line ∙ sym (ap (λ b. cond b (take (respond 65536 o).size (respond 65536 o).buffer) (shown_refused (respond 65536 o).number (respond 65536 o).place)) (ne_eqb (respond 65536 o).number 0 n));
        };
  }

-- ---- of an entry point

pub entry-prints : (e : Entry) (text out : List ℕ) (size : length out ≡ 65536) (a : Answer) (out' : List ℕ) → Calls e text out a out' → (r : ℕ) (out'' : List ℕ) → Tells a out' r out'' → Prints e text r out''
entry-prints e text out size a out' c r out'' t =
    let h = subst (λ n. OfEntry e text n (λ o. Gives n o a out')) size c.of in
    record { of = entry-map e text 65536 (λ o. Gives 65536 o a out') (λ o. Printed o r out'') (λ o g. t.tells o g) h }

-- the part of the output that is printed
pub printed-within : (e : Entry) (text : List ℕ) (r : ℕ) (out : List ℕ) → Prints e text r out → r ≤ length out
printed-within e text r out p = entry-either e text 65536 (λ o. Printed o r out) (r ≤ length out) (λ o p. p.within) p.of

pub printed-part : (e : Entry) (text : List ℕ) (r : ℕ) (out : List ℕ) → Prints e text r out → r ≡ length (take r out)
printed-part e text r out p = sym (length-take-le r out (printed-within e text r out p))
