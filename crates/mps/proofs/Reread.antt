-- The answer to every text, by the sheet that the reader finds or does not find.
use Rattle.std.specs.Prelude.{Option, Some, None}
use mathlib.Core.Path.{◌≡◌, refl, sym, ◌∙◌, subst}
use mathlib.Core.Logic.{◌⊎◌, inl, inr}
use mathlib.Core.List.{List}
use Prim.Native.Nat.{ℕ}
use Rattle.rules.specs.declared.Refusal.TheVariants.{Misplaced}
use Rattle.language.specs.Outcome.{Outcome, done, refused, ◌>>=◌}
use Rattle.language.specs.Answer.{fitted}
use Rattle.mps.specs.Sheet.{Sheet}
use Rattle.mps.specs.Report.{bare_of}
use Rattle.mps.specs.Rereading.{IsExport, Rereads}
use Rattle.mps.specs.Reading.{sheet_in}
use Rattle.mps.proofs.Sound.{sound}
use Rattle.mps.proofs.Complete.{export-once, not-export}

-- what is found is printed; 3 at 0 where nothing is
abbrev pub outcome_of : Option Sheet → Outcome (List ℕ)
outcome_of (Some s) = done (bare_of s)
outcome_of None = refused Misplaced 0

-- of the outcome of the reader
pub rereads : (text : List ℕ) (n : ℕ) (P : Outcome (List ℕ) → Type 0) → P (outcome_of (sheet_in text) >>= fitted n) → Rereads text n P
rereads text n P h = go (sheet_in text) refl h
  where
    go : (o : Option Sheet) → sheet_in text ≡ o → P (outcome_of o >>= fitted n) → Rereads text n P
    go (Some s) e h =
        let k = sound text s e in
        record {
          taken = λ t w. subst (λ s. P (fitted n (bare_of s))) (export-once s t k.0 w.formed (k.1 ∙ sym w.bytes)) h;
          refuses = λ no_sheet. absurd (no_sheet s (record { formed = k.0; bytes = k.1 }));
          decided = inl (s, record { formed = k.0; bytes = k.1 });
        }
    go None e h =
        let no : (s : Sheet) → IsExport text s → ⊥ = λ s w. not-export text e s w.formed w.bytes in
        record { taken = λ s w. absurd (no s w); refuses = λ _. h; decided = inr no }

-- what follows from the outcome
pub reread-map : (text : List ℕ) (n : ℕ) (P Q : Outcome (List ℕ) → Type 0) → ((o : Outcome (List ℕ)) → P o → Q o) → Rereads text n P → Rereads text n Q
reread-map text n P Q f h = record { taken = λ s w. f _ (h.taken s w); refuses = λ w. f _ (h.refuses w); decided = h.decided }

-- what holds of every outcome that it may have, holds
pub reread-either : (text : List ℕ) (n : ℕ) (P : Outcome (List ℕ) → Type 0) (C : Type 0) → ((o : Outcome (List ℕ)) → P o → C) → Rereads text n P → C
reread-either text n P C f h = go h.decided
  where
    go : ((s : Sheet) × IsExport text s) ⊎ ((s : Sheet) → IsExport text s → ⊥) → C
    go (inl w) = f _ (h.taken w.0 w.1)
    go (inr w) = f _ (h.refuses w)
