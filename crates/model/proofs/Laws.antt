-- Laws over plain variables that answer the code's needs.
use Rattle.std.specs.Prelude.{Err, Ok, Result, IfOk}
use Rattle.rules.specs.declared.Refused.{Refused}
use mathlib.Core.Path.{◌≡◌, refl, sym, ◌∙◌, ap, subst}
use mathlib.Core.List.{List, ◌++◌, map}
use Prim.Native.Nat.{ℕ, ◌*◌, ◌≤◌}
use native.Mathlib.Omega.{arith}
use lib.ListN.{length, take, drop}
use lib.Seq.{length-take-le, take_at}
use Rattle.lexer.specs.Text.{Token, tokens}
use Rattle.language.specs.Outcome.{Outcome, done, refused}
use Rattle.language.specs.Syntax.{Structure}
use Rattle.language.specs.Reader.{Read, follow, give}
use Rattle.language.specs.Grammar.{structure}
use Rattle.language.specs.Data as language
use Rattle.language.specs.Data.{read_data}
use Rattle.language.specs.Model.{model, what_of, read_model}
use Rattle.tokens.specs.Stored.{from, rows_of}
use Rattle.tokens.specs.Scanner.Table.{Scanned}
use Rattle.tokens.proofs.scanner.Calls.{table-holds, holds-from}
use Rattle.evaluator.specs.Steps.Names.{resolved_word, Resolves}
use Rattle.evaluator.proofs.steps.Numbers.{map-resolves}
use Rattle.constraints.specs.declared.Record.{Record}
use Rattle.parser.specs.declared.Parsed.{Parsed}
use Rattle.parser.specs.Parsed.{StructureAt, Parsing, ParsedAs}
use Rattle.evaluator.specs.Ground.{Ground}
use Rattle.data.specs.declared.Given.{Given}
use Rattle.data.specs.Sections.{GivenIs, ReadsData}
use Rattle.model.specs.declared.Model.{Model}
use Rattle.model.specs.ReadAs.{Scans, model_of, made, Finishes, Reading, ReadAs}
use Rattle.model.proofs.Grounds.{resolved-structure, placed_of, ground-of, ground-names}
use Rattle.store.specs.Table.{Table}

-- ---- parts of tables

pub tokens-part : (t : List ℕ) (n : ℕ) → n ≤ length t → n ≡ length (take n t)
tokens-part t n h = sym (length-take-le n t h)

pub rows-part : (t : List ℕ) (n : ℕ) → 320 ≤ length t → n ≤ 64 → n * 5 ≡ length (take (n * 5) t)
rows-part t n h k = sym (length-take-le (n * 5) t (omega (arith, h, k)))

pub resolved-part : (s ns t e : List ℕ) (n : ℕ) → n ≤ length t → e ≡ map (resolved_word s ns) (take n t) → Resolves s ns (take n t) (take n (e ++ drop n t))
resolved-part s ns t e n h f =
    let z : Resolves s ns (take n t) e = subst (Resolves s ns (take n t)) (sym f) (map-resolves s ns (take n t)) in
    subst (Resolves s ns (take n t)) (sym (take_at e (drop n t) n (z.size ∙ length-take-le n t h))) z

pub scan-holds : (s t t' : List ℕ) (r : ℕ) → length t ≡ 16385 → Scanned s t r t' → Scans s r t'
scan-holds s t t' r e w = record { few = omega (arith, e, w.within); holds = table-holds s t r t' e w }

-- ---- what is answered

module _ (s t ns t' : List ℕ) (ds : Table) (n : ℕ) (x : Parsed) (a : ℕ) (g : Result Given Refused) (z : Resolves s (rows_of x.names ns) (take n t) (take n t')) (d : ReadsData s (rows_of x.names ns) (take n t') a g ds) where
  pub finish-refused : (e : Refused) → g ≡ Err e → Finishes s t ns n x a (Err e) t' ds
  finish-refused e i = record { section = g; resolves = z; reads = d; model = rw i refl }

  pub finish-made : (w : Given) → g ≡ Ok w → Finishes s t ns n x a (Ok (model_of n x w)) t' ds
  finish-made w i = record { section = g; resolves = z; reads = d; model = rw i refl }

-- ---- the whole text

module _ (s t ns : List ℕ) (cs : List Record) (ds : Table) (n : ℕ) (r : Result (Parsed × ℕ) Refused) (c : Scans s n t) (h : ParsedAs s (take n t) r ns cs) where
  parsing : Parsing (structure (tokens s)) s (take n t) r ns cs
  parsing = subst (λ l. Parsing (structure l) s (take n t) r ns cs) (holds-from s (take n t) c.holds) h.outcome

  pub read-refused : (e : Refused) → r ≡ Err e → ReadAs s (Err e) t ns cs ds
  unfolding read_model model
  read-refused z e =
      record {
        scanned = tt;
        named = tt;
        constrained = tt;
        outcome = go (structure (tokens s)) (subst (λ r. Parsing (structure (tokens s)) s (take n t) r ns cs) e parsing);
      }
    where
      go : (o : Outcome (Read Structure)) → Parsing o s (take n t) (Err z) ns cs
          → Reading (what_of (follow o (λ y l. follow (read_data y.names l) (λ g. give (record { structure = y; given = g }))))) s t ns cs ds (Err z)
      go (done y) k = absurd k
      go (refused m u) k = k

  module _ (x : Parsed) (a : ℕ) (e : r ≡ Ok (x, a)) where
    pub named : x.names ≤ 64
    named = subst (λ r. IfOk r (λ w. w.0.names ≤ 64)) e h.named

    constrained : x.constraints ≤ 64
    constrained = subst (λ r. IfOk r (λ w. w.0.constraints ≤ 64)) e h.constrained

    module _ (t' : List ℕ) (z : Resolves s (rows_of x.names ns) (take n t) (take n t')) where
      module _ (y : Structure) (rest : List Token) (i : structure (tokens s) ≡ done (record { what = y; rest = rest })) (k : StructureAt s (take n t) x ns cs y) where
        ground : Ground s (rows_of x.names ns) (take n t')
        ground = ground-of s (take n t) (take n t') ns cs x y named c.holds k z rest i

        known : ground.names ≡ y.names
        unfolding ground
        known = ground-names s (take n t) (take n t') ns cs x y named c.holds k z rest i

        resolved : StructureAt s (take n t') x ns cs y
        resolved = resolved-structure s (take n t) (take n t') ns cs x y named c.holds k z

        -- with the data section that was read
        section : (v : Result Given Refused) (o : Outcome (Read language.Given)) → GivenIs o s ds v → read_model s ≡ what_of (follow o (λ w. give (record { structure = y; given = w })))
            → ReadAs s (made n x v) t' ns cs ds
        section (Ok v) (done w) j m =
            record {
              scanned = c.few;
              named = named;
              constrained = constrained;
              outcome = subst (λ u. Reading u s t' ns cs ds (Ok (model_of n x v))) (sym m) (record {
                ground = ground;
                names = known;
                placed = placed_of s (take n t) (take n t') ns cs x y named c.holds k z;
                structure = record {
                  place = resolved.place;
                  title = resolved.title;
                  names = resolved.names;
                  minimize = resolved.minimize;
                  objective = resolved.objective;
                  constraints = resolved.constraints;
                };
                title = j.0;
                store = j.1;
              });
            }
        section (Ok v) (refused q u) j m = absurd j
        section (Err v) (done w) j m = absurd j
        section (Err v) (refused q u) j m =
            record { scanned = tt; named = tt; constrained = tt; outcome = subst (λ u. Reading u s t' ns cs ds (Err v)) (sym m) j }

      with-section : (g : Result Given Refused) (q : Result Model Refused) → ReadsData s (rows_of x.names ns) (take n t') a g ds → q ≡ made n x g → ReadAs s q t' ns cs ds
      unfolding read_model model
      with-section g q d f =
          subst (λ q. ReadAs s q t' ns cs ds) (sym f)
          (go (structure (tokens s)) refl (subst (λ r. Parsing (structure (tokens s)) s (take n t) r ns cs) e parsing))
        where
          go : (o : Outcome (Read Structure)) → structure (tokens s) ≡ o → Parsing o s (take n t) (Ok (x, a)) ns cs → ReadAs s (made n x g) t' ns cs ds
          go (refused m u) i k = absurd k
          go (done y) i k =
              section y.what y.rest i k.1 g (read_data y.what.names (from s (take n t') a))
              (subst (λ names. GivenIs (read_data names (from s (take n t') a)) s ds g) (known y.what y.rest i k.1) (d.is (ground y.what y.rest i k.1)))
              (ap (λ o. what_of (follow o (λ y l. follow (read_data y.names l) (λ w. give (record { structure = y; given = w }))))) i
              ∙ ap (λ l. what_of (follow (read_data y.what.names l) (λ w. give (record { structure = y.what; given = w })))) (k.0 ∙ sym (z.same s a)))

    pub read-model : (q : Result Model Refused) (t' : List ℕ) → Finishes s t ns n x a q t' ds → ReadAs s q t' ns cs ds
    read-model q t' f = with-section t' f.resolves f.section q f.reads f.model
