-- The entry points by name.
use mathlib.Core.Path.{◌≡◌}
use mathlib.Core.List.{List}
use Prim.Native.Nat.{ℕ}
use Rattle.language.specs.Outcome.{Outcome}
use Rattle.mps.proofs.Reread.{reread-map, reread-either}
use Rattle.generator.specs.declared.Answer.{Answer}
use Rattle.generator.specs.declared.Entry.{Entry}
use Rattle.generator.specs.declared.Entry.TheVariants as entry
use Rattle.generator.specs.Contract.{Defined, Exports, ReadsBack, OfEntry, Calls}

module _ (e : Entry) (text out : List ℕ) (a : Answer) (out' : List ℕ) where
  pub calls-list : e ≡ entry.List → Defined text out a out' → Calls e text out a out'
  calls-list i d = rw i (record { of = d })

  pub calls-export : e ≡ entry.Export → Exports text out a out' → Calls e text out a out'
  calls-export i d = rw i (record { of = d })

  pub calls-read : e ≡ entry.Read → ReadsBack text out a out' → Calls e text out a out'
  calls-read i d = rw i (record { of = d.rereads })

-- what follows from the outcome
pub entry-map : (e : Entry) (text : List ℕ) (n : ℕ) (P Q : Outcome (List ℕ) → Type 0) → ((o : Outcome (List ℕ)) → P o → Q o) → OfEntry e text n P → OfEntry e text n Q
entry-map entry.List text n P Q f h = f _ h
entry-map entry.Export text n P Q f h = f _ h
entry-map entry.Read text n P Q f h = reread-map text n P Q f h

-- what holds whatever the outcome is, holds
pub entry-either : (e : Entry) (text : List ℕ) (n : ℕ) (P : Outcome (List ℕ) → Type 0) (C : Type 0) → ((o : Outcome (List ℕ)) → P o → C) → OfEntry e text n P → C
entry-either entry.List text n P C f h = f _ h
entry-either entry.Export text n P C f h = f _ h
entry-either entry.Read text n P C f h = reread-either text n P C f h
