-- What code passes over, against the walks of the definition, for every text.
use Rattle.std.specs.Prelude.{Err, Ok, Result, ◌≡◌, Bool, List, ℕ}
use Rattle.rules.specs.declared.Refused.{Refused}
use Rattle.language.specs.Outcome.{Outcome, done, refused}
use Rattle.language.specs.Reader.{Read}
use Rattle.language.specs.Formulas.{Signed, read_sign}
use Rattle.tokens.specs.Stored.{from}
use Rattle.onepass.specs.Walk.{skip, behind_bracket}

-- one token
pub record Skips (ts : List ℕ) (at r : ℕ) : Type 0 where
  pub is : (s : List ℕ) → skip (from s ts at) ≡ done (record { what = tt; rest = from s ts r })

-- up to a bracket's end
pub record Ends (ts : List ℕ) (at r : ℕ) : Type 0 where
  pub is : (s : List ℕ) → behind_bracket 0 (from s ts at) ≡ from s ts r

-- an optional sign: whether it is a minus
abbrev pub Led : Outcome (Read Signed) → List ℕ → List ℕ → Result (Bool × ℕ) Refused → Type 0
Led (done x) s ts (Ok (m, a)) = (x.what.negative ≡ m) × (x.rest ≡ from s ts a)
Led (done x) s ts (Err e) = ⊥
Led (refused r q) s ts (Ok (m, a)) = ⊥
Led (refused r q) s ts (Err e) = (r ≡ e.refusal) × (q ≡ e.place)

pub record Leads (ts : List ℕ) (at : ℕ) (r : Result (Bool × ℕ) Refused) : Type 0 where
  pub led : (s : List ℕ) → Led (read_sign (from s ts at)) s ts r
