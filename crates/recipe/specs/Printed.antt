-- What the program prints of a text, with a buffer of 65,536 bytes.
use Rattle.std.specs.Prelude.{◌≡◌, cond, List, ℕ, ◌≤◌, eqb, length, take}
use Rattle.language.specs.Outcome.{Outcome}
use Rattle.language.specs.Answer.{Answer, respond}
use Rattle.listing.specs.Shown.{shown_refused}
use Rattle.generator.specs.declared.Answer.{Answer as Given}
use Rattle.generator.specs.declared.Entry.{Entry}
use Rattle.generator.specs.Contract.{Gives, OfEntry}

-- the report, or the line of the refusal
unfoldable pub printed_of : Answer → List ℕ
printed_of a = cond (eqb a.number 0) (take a.size a.buffer) (shown_refused a.number a.place)

-- the first r bytes of the output
pub record Printed (o : Outcome (List ℕ)) (r : ℕ) (out' : List ℕ) : Type 0 where
  pub within : r ≤ length out'
  pub bytes : take r out' ≡ printed_of (respond 65536 o)

-- of an answer
pub record Tells (a : Given) (out : List ℕ) (r : ℕ) (out' : List ℕ) : Type 0 where
  pub tells : (o : Outcome (List ℕ)) → Gives 65536 o a out → Printed o r out'

-- of the outcome of an entry point
pub record Prints (e : Entry) (text : List ℕ) (r : ℕ) (out' : List ℕ) : Type 0 where
  pub of : OfEntry e text 65536 (λ o. Printed o r out')
