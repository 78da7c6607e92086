-- Demand 3 for every text and buffer length: where the answer's number is 0, the listing keeps the model's meaning, and its bytes
-- are those of no other lines.
use mathlib.Core.Path.{◌≡◌, refl, sym, ◌∙◌, ap, subst}
use mathlib.Core.List.{List, ◌++◌}
use Prim.Native.Nat.{ℕ, ◌-◌}
use native.Mathlib.Omega.{arith}
use lib.Dec.{leb}
use lib.ListN.{length, replicate}
use Rattle.rules.specs.declared.Refusal.{Refusal}
use Rattle.rules.specs.declared.Refusal.TheVariants.{LongText, StrangeByte, Misplaced, BadName, Unfit, Full, BadIndex, NotWhole, Outside, Missing, LongListing}
use Rattle.rules.specs.Refusals.{refusal_number}
use Rattle.language.specs.All.{All}
use Rattle.lexer.specs.Text.{Token, tokens}
use Rattle.language.specs.Outcome.{Outcome, done, refused}
use Rattle.language.proofs.Evaluated.{run-through}
use Rattle.language.proofs.Outcome.{after, after_check, done-injective}
use Rattle.language.specs.Listing.{lines_of, bytes_of_all}
use Rattle.language.specs.Answer.{Answer, accepted, listing_of, fitted, printing, listing, respond, answer}
use Rattle.language.proofs.Answer.{accepted-of}
use Rattle.language.specs.Proper.{Proper}
use Rattle.language.specs.Syntax.{Structure}
use Rattle.language.specs.Phrases.{WritesStructure}
use Rattle.language.specs.DataPhrases.{WrittenPortion, WritesData}
use Rattle.language.specs.Model.{Model, read_model, start}
use Rattle.language.specs.Demand3.{Begins, Supplied, Demand3, Statement}
use Rattle.language.proofs.PhrasedModel.{structure-written}
use Rattle.language.proofs.Facts.{model-read}
use Rattle.language.proofs.Kept.{keeps}
use Rattle.language.proofs.DefinedText.{accepted-defined}
use Rattle.language.proofs.PhrasedData.{model-carried}
use Rattle.language.proofs.DataGiven.{supplied}
use Rattle.language.proofs.ProperText.{accepted-proper}
use Rattle.language.proofs.Printing.{printed-once-filled}

-- no refusal has number 0
pub numbered : (r : Refusal) → refusal_number r ≡ 0 → ⊥
numbered LongText e = omega arith
numbered StrangeByte e = omega arith
numbered Misplaced e = omega arith
numbered BadName e = omega arith
numbered Unfit e = omega arith
numbered Full e = omega arith
numbered BadIndex e = omega arith
numbered NotWhole e = omega arith
numbered Outside e = omega arith
numbered Missing e = omega arith
numbered LongListing e = omega arith

-- a model that was read is written by the text's first tokens
written : (text : List ℕ) (m : Model) → read_model text ≡ done m → Begins WritesStructure m.structure (tokens text)
written text m e =
    let r = model-read text m e in
    let w = structure-written text r.first r.structure-done in
    record { phrase = w.phrase; behind = r.first.rest; parts = w.taken; writes = subst (λ (s : Structure). WritesStructure s w.phrase) r.structure-is w.writes }

-- and its data section by those behind, up to the text's end; and all that is known is what its portions give
record DataOf (m : Model) (behind : List Token) : Type 0 where
  portions : List WrittenPortion
  writes : WritesData m.structure.names m.given.title portions behind
  supplied : Supplied (start m) portions

data_of : (text : List ℕ) (m : Model) (e : read_model text ≡ done m) → DataOf m (written text m e).behind
unfolding start written
data_of text m e =
    let w = written text m e in
    let c = model-carried text m (model-read text m e) w.phrase w.parts in
    record { portions = c.portions; writes = c.writes; supplied = supplied m.given.store w.writes c.writes c.in_order }

pub kept : Statement
unfolding answer listing printing fitted listing_of respond
kept text n e = go (listing text n) refl e
  where
    go : (o : Outcome (List ℕ)) → listing text n ≡ o → (respond n o).number ≡ 0 → Demand3 text n
    go (refused r p) eo e = absurd (numbered r e)
    go (done bytes) eo e =
        after (accepted text) _ bytes eo λ a ea g.
        after_check LongListing (length (listing_of a)) (leb (length (listing_of a)) n) _ bytes g λ _ g.
        let of = accepted-of text a ea in
        let proper : All Proper (lines_of a.model a.problem) = accepted-proper text a ea in
        let printed : bytes ≡ bytes_of_all (lines_of a.model a.problem) = sym (done-injective g) in
        let responds : answer text n ≡ respond n (done bytes) = ap (respond n) eo in
        let prints : (answer text n).buffer ≡ bytes_of_all (lines_of a.model a.problem) ++ replicate (n - (answer text n).size) 0 =
        ap (λ (r : Answer). r.buffer) responds
        ∙ ap (λ l. l ++ replicate (n - length bytes) 0) printed
        ∙ ap (λ (r : Answer). bytes_of_all (lines_of a.model a.problem) ++ replicate (n - r.size) 0) (sym responds) in
        record {
          found = a;
          reads = of.0;
          written = written text a.model of.0;
          portions = (data_of text a.model of.0).portions;
          data-written = (data_of text a.model of.0).writes;
          supplied = (data_of text a.model of.0).supplied;
          runs = run-through;
          defined = accepted-defined text a ea;
          keeps = keeps a.model a.problem of.1;
          proper = proper;
          prints = prints;
          once = λ ls h k b. printed-once-filled ls (lines_of a.model a.problem) k (n - (answer text n).size) h proper (b ∙ prints);
        }
