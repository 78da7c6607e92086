-- The export: from the tables of a text to its bytes, and from an answer to what a reader finds in it; and the reader's answer.
use Rattle.std.specs.Prelude.{Err, Ok, Result, Option, Some, None}
use Rattle.rules.specs.declared.Refused.{Refused}
use mathlib.Core.Path.{◌≡◌, refl, sym, ◌∙◌, ap, subst}
use mathlib.Core.Bool.{Bool, true, false}
use mathlib.Core.List.{List, ◌++◌}
use Prim.Native.Nat.{ℕ, ◌-◌}
use native.Mathlib.Omega.{arith}
use lib.Dec.{leb}
use lib.ListN.{length, take, replicate, length-replicate}
use lib.Seq.{take_at}
use Rattle.rules.specs.declared.Refusal.TheVariants.{Misplaced, LongListing}
use Rattle.language.specs.Outcome.{Outcome, done, refused, ◌>>=◌, check}
use Rattle.language.specs.Answer.{Accepted, accepted, fitted, printing, respond}
use Rattle.language.proofs.Accepted.{numbered}
use Rattle.listing.proofs.sheet.Listed.{shown-held}
use Rattle.mps.specs.Sheet.{Sheet}
use Rattle.language.specs.Listing.{lines_of}
use Rattle.mps.specs.Export.{mps_of}
use Rattle.mps.specs.Report.{bare_lines}
use Rattle.mps.specs.Reading.{sheet_in}
use Rattle.mps.specs.Problem.{sheet_of, export_of}
use Rattle.mps.proofs.Problems.{discrete-first, sheet-formed, read-back-is}
use Rattle.mps.proofs.Reread.{outcome_of, rereads}
use Rattle.exporter.specs.Exports as exporter
use Rattle.importer.specs.Reads.{ReadsAs, Reads}
use Rattle.generator.specs.declared.Answer.{Answer}
use Rattle.generator.specs.declared.Posed.{Posed}
use Rattle.generator.specs.Contract.{Gives, Exports, Carries, ReadsBack}
use Rattle.generator.specs.Generated.{Prints, Writes, Rewrites, Answers}

-- ---- the export of a problem, from its tables

pub written-export : (t : Posed) (out : List ℕ) (r : ℕ) (out' : List ℕ) → exporter.Exports t.slots.now t.bounds.now t.counts.now t.sizes out r out' → Writes export_of t out r out'
unfolding export_of
written-export t out r out' h = record { report = λ x p g d. h.lines p (shown-held d (discrete-first x p g)) }

-- ---- what a reader finds in it

-- the bytes of an answer with the number 0
accepted-gives : (text : List ℕ) (n : ℕ) (a : Answer) (out' : List ℕ) → Gives n (printing export_of text n) a out' → a.number ≡ 0
    → (x : Accepted) × (accepted text ≡ done x) × (a.length ≡ length (export_of x)) × (out' ≡ export_of x ++ replicate (n - length (export_of x)) 0)
unfolding printing fitted respond
accepted-gives text n a out' h z = go (accepted text) refl h
  where
    fits : (x : Accepted) (b : Bool) → leb (length (export_of x)) n ≡ b → Gives n (check LongListing (length (export_of x)) b >>= λ _. done (export_of x)) a out'
        → (a.length ≡ length (export_of x)) × (out' ≡ export_of x ++ replicate (n - length (export_of x)) 0)
    fits x true e g = (g.size, g.bytes)
    fits x false e g = absurd (let w : 11 ≡ 0 = sym g.number ∙ z in omega arith)

    go : (o : Outcome Accepted) → accepted text ≡ o → Gives n (o >>= λ x. check LongListing (length (export_of x)) (leb (length (export_of x)) n) >>= λ _. done (export_of x)) a out'
        → (x : Accepted) × (accepted text ≡ done x) × (a.length ≡ length (export_of x)) × (out' ≡ export_of x ++ replicate (n - length (export_of x)) 0)
    go (done x) e g = let k = fits x (leb (length (export_of x)) n) refl g in (x, e, k.0, k.1)
    go (refused r p) e g = absurd (numbered r (sym g.number ∙ z))

module _ (text out : List ℕ) (a : Answer) (out' : List ℕ) (h : Gives (length out) (printing export_of text (length out)) a out') where
  pub export-defined : Exports text out a out'
  export-defined = h

  pub export-carries : Carries text out a out'
  unfolding export_of
  export-carries = record {
    carried = λ z.
        let g = accepted-gives text (length out) a out' h z in
        let x = g.0 in
        let s = sheet_of x.problem in
        record {
          found = x;
          accepts = g.1;
          bytes = g.3 ∙ ap (λ n. mps_of s ++ replicate (length out - n) 0) (sym g.2);
          reads = record { formed = sheet-formed text x g.1; bytes = sym (ap (take a.length) g.3 ∙ take_at (mps_of s) _ a.length (sym g.2)) };
          lines = read-back-is text x g.1;
        };
  }

-- ---- the reader's answer

module _ (text out : List ℕ) (r : Option ℕ) (out' : List ℕ) (h : Reads text out r out') where
  pub reread-read : (n : ℕ) → r ≡ Some n → Rewrites text out (Ok n) out'
  reread-read n e = record { prints = go (sheet_in text) (subst (λ r. ReadsAs (sheet_in text) out r out') e h.is) }
    where
      go : (o : Option Sheet) → ReadsAs o out (Some n) out' → Prints (outcome_of o) out (Ok n) out'
      go (Some s) w = w
      go None w = absurd w

  pub reread-nothing : r ≡ None → Rewrites text out (Err (record { refusal = Misplaced; place = 0 })) out'
  reread-nothing e = record { prints = go (sheet_in text) (subst (λ r. ReadsAs (sheet_in text) out r out') e h.is) }
    where
      go : (o : Option Sheet) → ReadsAs o out None out' → Prints (outcome_of o) out (Err (record { refusal = Misplaced; place = 0 })) out'
      go (Some s) w = absurd w
      go None w = (refl, refl)

pub reads-back : (text out₀ out₁ : List ℕ) → out₁ ≡ replicate (length out₀) 0 → (g : Result ℕ Refused) (out₂ : List ℕ) → Rewrites text out₁ g out₂ → length out₂ ≡ length out₁
    → (a : Answer) (out₃ : List ℕ) → Answers out₂ g a out₃ → ReadsBack text out₀ a out₃
reads-back text out₀ out₁ z g out₂ h same a out₃ d =
    let n = length out₀ in
    let l : length out₂ ≡ n = same ∙ ap length z ∙ length-replicate {A = ℕ} n 0 in
    record {
      rereads = rereads text n (λ o. Gives n o a out₃) (d.gives n l (outcome_of (sheet_in text)) (subst (λ x. Prints (outcome_of (sheet_in text)) x g out₂) z h.prints));
    }

-- ---- there and back: what one entry point writes, the other reads

-- the export of an accepted model, read into any buffer, gives the `row`, `var` and `col` lines of its listing
pub round_trip : (text out : List ℕ) (a : Answer) (out' : List ℕ) → Carries text out a out' → a.number ≡ 0
    → (buffer : List ℕ) (b : Answer) (buffer' : List ℕ) → ReadsBack (take a.length out') buffer b buffer'
    → (x : Accepted) × (accepted text ≡ done x) × Gives (length buffer) (fitted (length buffer) (bare_lines (lines_of x.model x.problem))) b buffer'
round_trip text out a out' h z buffer b buffer' k =
    let c = h.carried z in
    let n = length buffer in
    (c.found, c.accepts, subst (λ l. Gives n (fitted n l) b buffer') c.lines (k.rereads.taken (sheet_of c.found.problem) c.reads))
