-- What is generated from a text, before it is known whether it fits.
use Rattle.std.specs.Prelude.{Err, Ok, Result, ◌≡◌, cond, List, ℕ, ◌+◌, ltb, length, replicate}
use denote.Ref.{MutBor}
use Rattle.rules.specs.declared.Refused.{Refused}
use Rattle.rules.specs.Limits.{byte_limit}
use Rattle.value.specs.Printed.{Written}
use Rattle.language.specs.Outcome.{Outcome, done, refused, ◌>>=◌}
use Rattle.language.specs.Model.{Model, read_model}
use Rattle.language.specs.Numbering.{Lp, generate}
use Rattle.language.specs.Answer.{Accepted, accepted, fitted}
use Rattle.tokens.specs.Stored.{rows_of}
use Rattle.tokens.specs.Text.{In}
use Rattle.constraints.specs.declared.Record.{Record}
use Rattle.model.specs.declared.Model.{Model as Read}
use Rattle.model.specs.ReadAs.{ModelAt}
use Rattle.listing.specs.Sheet.Shown.{Shown}
use Rattle.mps.specs.Reading.{sheet_in}
use Rattle.mps.proofs.Reread.{outcome_of}
use Rattle.generator.specs.declared.Answer.{Answer}
use Rattle.generator.specs.declared.Posed.{Posed}
use Rattle.generator.specs.Contract.{Gives}
use Rattle.store.specs.Table.{Table}
use Rattle.rows.specs.Bounds.{BoundTable, unstated}

-- what a report f prints of an accepted text
abbrev pub reported : (Accepted → List ℕ) → Outcome Accepted → Outcome (List ℕ)
reported f (done a) = done (f a)
reported f (refused r p) = refused r p

-- the same refusal, or the bytes were written, as far as the output reaches
abbrev pub Prints : Outcome (List ℕ) → List ℕ → Result ℕ Refused → List ℕ → Type 0
Prints (done bytes) out (Ok n) out' = Written out 0 bytes n out'
Prints (done bytes) out (Err e) out' = ⊥
Prints (refused r q) out (Ok n) out' = ⊥
Prints (refused r q) out (Err e) out' = (r ≡ e.refusal) × (q ≡ e.place)

-- the report f of a problem, from its tables, of every model and problem that the tables are of
pub record Writes (f : Accepted → List ℕ) (t : Posed) (out : List ℕ) (r : ℕ) (out' : List ℕ) : Type 0 where
  pub report : (x : Model) (p : Lp) → generate x ≡ done p
      → In Shown t.text t.constraints.now t.variables.now t.slots.now t.bounds.now t.counts.now t.sizes t.title t.place t.bytes x p
      → Written out 0 (f (record { model = x; problem = p })) r out'

-- a writer's calls write the report f
abbrev pub Printer : (Accepted → List ℕ) → (Posed → MutBor (List ℕ) → ℕ → MutBor (List ℕ) → Type 0) → Type 0
Printer f post = (t : Posed) (o : MutBor (List ℕ)) (r : ℕ) (o' : MutBor (List ℕ)) → post t o r o' → Writes f t o.now r o'.now

-- the byte behind the opening brace of a string at p; 0 past the end of every text
unfoldable pub behind_brace : ℕ → ℕ
behind_brace p = cond (ltb p byte_limit) (p + 1) 0

-- of a text that was read into tables; ns are the rows of its names
pub record PrintsModel (f : Accepted → List ℕ) (s ns ts : List ℕ) (cs : List Record) (ds : Table) (r : Read) (out : List ℕ) (g : Result ℕ Refused) (out' : List ℕ) : Type 0 where
  pub prints : (m : Model) → read_model s ≡ done m → (t : List ℕ) → ns ≡ rows_of r.names t → ModelAt s ts t cs ds r m → Prints (reported f (accepted s)) out g out'

-- with tables for its problem, in which no bound is stated
pub record PrintsIn (f : Accepted → List ℕ) (s ns ts : List ℕ) (cs : List Record) (ds : Table) (r : Read) (bs : BoundTable) (out : List ℕ) (g : Result ℕ Refused) (out' : List ℕ) : Type 0 where
  pub prints : bs ≡ replicate 512 unstated → PrintsModel f s ns ts cs ds r out g out'

-- of every text
pub record Generates (f : Accepted → List ℕ) (text out : List ℕ) (g : Result ℕ Refused) (out' : List ℕ) : Type 0 where
  pub prints : Prints (reported f (accepted text)) out g out'

-- ---- the answer

-- what was generated in a buffer of n zeros is answered: the bytes if they fit, else 11 at their length; or the refusal
pub record Answers (out : List ℕ) (g : Result ℕ Refused) (a : Answer) (out' : List ℕ) : Type 0 where
  pub gives : (n : ℕ) → length out ≡ n → (o : Outcome (List ℕ)) → Prints o (replicate n 0) g out → Gives n (o >>= fitted n) a out'

-- what is read of an export, as far as the output reaches
pub record Rewrites (text out : List ℕ) (g : Result ℕ Refused) (out' : List ℕ) : Type 0 where
  pub prints : Prints (outcome_of (sheet_in text)) out g out'
