-- The answer for every text and buffer length: number, place, length and every output byte.
use Rattle.std.specs.Prelude.{List, ◌++◌, ℕ, ◌-◌, leb, length, replicate}
use Rattle.rules.specs.declared.Refusal.TheVariants.{LongListing}
use Rattle.rules.specs.Refusals.{refusal_number}
use Rattle.language.specs.Outcome.{Outcome, done, refused, ◌>>=◌, check}
use Rattle.language.specs.Model.{Model, read_model}
use Rattle.language.specs.Numbering.{Lp, generate}
use Rattle.language.specs.Listing.{lines_of, bytes_of_all}

-- a model with the problem generated from it
pub record Accepted : Type 0 where
  pub model : Model
  pub problem : Lp

unfoldable pub accepted : List ℕ → Outcome Accepted
accepted text = do
  m ← read_model text
  p ← generate m
  done (record { model = m; problem = p })

unfoldable pub listing_of : Accepted → List ℕ
listing_of a = bytes_of_all (lines_of a.model a.problem)

-- a report in a buffer of n bytes: 11, at the report's own length, where it does not fit (decision 49)
unfoldable pub fitted : ℕ → List ℕ → Outcome (List ℕ)
fitted n bytes = do
  _ ← check LongListing (length bytes) (leb (length bytes) n)
  done bytes

-- a report of an accepted text, or the text's refusal
unfoldable pub printing : (Accepted → List ℕ) → List ℕ → ℕ → Outcome (List ℕ)
printing report text n = do
  a ← accepted text
  fitted n (report a)

unfoldable pub listing : List ℕ → ℕ → Outcome (List ℕ)
listing text n = printing listing_of text n

-- what a call gives, and the buffer after it
pub record Answer : Type 0 where
  pub number : ℕ
  pub place : ℕ
  pub size : ℕ
  pub buffer : List ℕ

-- Acceptance is number 0, place 0 and the listing's length, and bytes after the listing are zero; a refusal has length 0 and
-- the buffer all zero
unfoldable pub respond : ℕ → Outcome (List ℕ) → Answer
respond n (done bytes) = record { number = 0; place = 0; size = length bytes; buffer = bytes ++ replicate (n - length bytes) 0 }
respond n (refused r p) = record { number = refusal_number r; place = p; size = 0; buffer = replicate n 0 }

unfoldable pub answer : List ℕ → ℕ → Answer
answer text n = respond n (listing text n)
