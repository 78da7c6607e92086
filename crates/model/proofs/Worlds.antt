-- For callers: the refusal of a text, or its model and the world of it, which is its text, its names and its data.
use Rattle.std.specs.Prelude.{Err, Ok, Result}
use Rattle.rules.specs.declared.Refused.{Refused}
use mathlib.Core.Path.{◌≡◌, refl, sym, ◌∙◌, ap, subst}
use mathlib.Core.List.{List}
use Prim.Native.Nat.{ℕ}
use lib.ListN.{take}
use Rattle.language.specs.Outcome.{Outcome, done, refused}
use Rattle.language.specs.Store.{stored, scope_of}
use Rattle.language.specs.Model.{read_model, start}
use Rattle.language.specs.Model as language
use Rattle.tokens.specs.Stored.{rows_of}
use Rattle.evaluator.specs.Tables.{World}
use Rattle.evaluator.specs.Ground.{world_on}
use Rattle.evaluator.specs.Cycle.{nothing_bound}
use Rattle.elements.specs.Placed.{Placed}
use Rattle.data.proofs.Rows.{stores-given}
use Rattle.model.specs.declared.Model.{Model}
use Rattle.model.specs.ReadAs.{ModelAt, Reading, ReadAs}
use Rattle.constraints.specs.declared.Record.{Record}
use Rattle.store.specs.Table.{Table}

-- ---- the answer

module _ (s : List ℕ) (r : Result Model Refused) (ts ns : List ℕ) (cs : List Record) (ds : Table) (h : ReadAs s r ts ns cs ds) where
  pub text-refused : (e : Refused) → r ≡ Err e → read_model s ≡ refused e.refusal e.place
  text-refused z e = go (read_model s) (subst (Reading (read_model s) s ts ns cs ds) e h.outcome)
    where
      go : (o : Outcome language.Model) → Reading o s ts ns cs ds (Err z) → o ≡ refused z.refusal z.place
      go (done m) k = absurd k
      go (refused i q) k = ap (λ i. refused i q) k.0 ∙ ap (refused z.refusal) k.1

  -- the model, and what the tables tell of it
  pub record Accepted (x : Model) : Type 0 where
    pub model : language.Model
    pub reads : read_model s ≡ done model
    pub tells : ModelAt s (take x.tokens ts) ns cs ds x model

  pub text-read : (x : Model) → r ≡ Ok x → Accepted x
  text-read x e = go (read_model s) refl (subst (Reading (read_model s) s ts ns cs ds) e h.outcome)
    where
      go : (o : Outcome language.Model) → read_model s ≡ o → Reading o s ts ns cs ds (Ok x) → Accepted x
      go (done m) i k = record { model = m; reads = i; tells = k }
      go (refused n q) i k = absurd k

-- ---- the world

-- the tables hold the text s and the names and data of m
pub record Holds (s ns ts : List ℕ) (ds : Table) (given : ℕ) (m : language.Model) : Type 0 where
  pub world : World ns ts ds given
  pub text : world.text ≡ s
  pub names : world.names ≡ m.structure.names
  pub known : world.known ≡ stored m.given.store
  pub placed : Placed ns world.names

pub model-holds : (s ts ns : List ℕ) (cs : List Record) (ds : Table) (r : Model) (m : language.Model) → ModelAt s ts ns cs ds r m → Holds s (rows_of r.names ns) ts ds r.given m
model-holds s ts ns cs ds r m h =
    record {
      world = world_on h.ground (stores-given ds r.given m.given.store h.store);
      text = refl;
      names = h.names;
      known = refl;
      placed = subst (Placed (rows_of r.names ns)) (sym h.names) h.placed;
    }

-- evaluation starts with all data and nothing bound
pub holds-start : (s ns ts : List ℕ) (ds : Table) (given : ℕ) (m : language.Model) (h : Holds s ns ts ds given m) → nothing_bound h.world ≡ start m
unfolding start scope_of
holds-start s ns ts ds given m h = rw h.known refl
