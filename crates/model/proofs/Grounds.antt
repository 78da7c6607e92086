-- What evaluation needs of the tables of a text whose structure was read.
use Rattle.std.specs.Prelude.{Some, slice_get}
use mathlib.Core.Path.{◌≡◌, refl, sym, ◌∙◌, subst}
use mathlib.Core.Bool.{Bool}
use mathlib.Core.List.{List, [], ◌∷◌, ◌++◌, append_assoc, append-nil}
use Prim.Native.Nat.{ℕ, zero, suc, ◌+◌, ◌*◌, ◌≤◌}
use native.Mathlib.Omega.{arith}
use lib.ListN.{length, take, drop, length-take}
use Rattle.rules.specs.Limits.{name_limit}
use Rattle.value.specs.declared.Value.{Value}
use Rattle.value.specs.Decimal.{Valid}
use Rattle.value.proofs.Reading.{literal-valid}
use Rattle.lexer.specs.Text.{Token, tokens}
use Rattle.lexer.specs.Text
use Rattle.language.specs.Outcome.{done}
use Rattle.language.specs.Syntax.{Name, Sort, Spans, Structure}
use Rattle.language.specs.Syntax
use Rattle.language.specs.Grammar.{structure}
use Rattle.language.proofs.Shapes.{AllShaped, tokens-shaped}
use Rattle.onepass.proofs.WalkedDomain.{due-reads}
use Rattle.tokens.specs.Stored.{view, from, rows_of}
use Rattle.tokens.proofs.Tables.{named-length}
use Rattle.tokens.specs.Scanner.Table.{Holds}
use Rattle.evaluator.specs.Steps.Names.{row_word, Resolves}
use Rattle.declarations.specs.Tables.{Spanned, Declares, Told}
use Rattle.constraints.specs.declared.Record.{Record}
use Rattle.parser.specs.declared.Parsed.{Parsed}
use Rattle.parser.specs.Parsed.{StructureAt}
use Rattle.evaluator.specs.Tables.{DomainAt, Stands}
use Rattle.evaluator.specs.Ground.{Ground}
use Rattle.elements.specs.Placed.{Placed}
use Rattle.model.specs.Few.{FewIndices, AllFew}
use Rattle.model.proofs.Declared.{few-written}
use Rattle.model.proofs.Kept.{structure-kept}

-- ---- rows of names

-- what a row tells of its name
record ToldAt (s ts ns : List ℕ) (before : List Name) (i : ℕ) (x : Name) : Type 0 where
  place : x.place ≡ row_word ns i 0
  declares : Declares s ts before x.sort (row_word ns i 4)

told_at : (s ts ns : List ℕ) (before names : List Name) (i : ℕ) (x : Name) → Told s ts ns before names → slice_get names i ≡ Some x → ToldAt s ts ns (before ++ take i names) i x
unfolding row_word
told_at s ts [] before [] i x h e = absurd (let z : ◌≡◌ {A = ℕ} 0 1 = cc in omega arith)
told_at s ts [] before (y ∷ ys) i x h e = absurd h
told_at s ts (p ∷ []) before ys i x h e = absurd h
told_at s ts (p ∷ n ∷ []) before ys i x h e = absurd h
told_at s ts (p ∷ n ∷ k ∷ []) before ys i x h e = absurd h
told_at s ts (p ∷ n ∷ k ∷ c ∷ []) before ys i x h e = absurd h
told_at s ts (p ∷ n ∷ k ∷ c ∷ q ∷ ns) before [] i x h e = absurd h
told_at s ts (p ∷ n ∷ k ∷ c ∷ q ∷ ns) before (y ∷ ys) zero x h e =
    let d : y ≡ x = cc in
    subst (λ (x : Name). ToldAt s ts (p ∷ n ∷ k ∷ c ∷ q ∷ ns) (before ++ []) 0 x) d (rw append-nil (record { place = h.0; declares = h.1 }))
told_at s ts (p ∷ n ∷ k ∷ c ∷ q ∷ ns) before (y ∷ ys) (suc i) x h e =
    let r = told_at s ts ns (before ++ (y ∷ [])) ys i x h.2 e in
    let m : suc i * 5 + 0 ≡ suc (suc (suc (suc (suc (i * 5 + 0))))) = omega arith in
    let n : suc i * 5 + 4 ≡ suc (suc (suc (suc (suc (i * 5 + 4))))) = omega arith in
    record {
      place = rw m r.place;
      declares = rw (n, ← append_assoc before (y ∷ []) (take i ys)) r.declares;
    }

few-at : (names : List Name) (i : ℕ) (x : Name) → AllFew names → slice_get names i ≡ Some x → FewIndices x.sort
few-at [] i x h e = absurd (let z : ◌≡◌ {A = ℕ} 0 1 = cc in omega arith)
few-at (y ∷ ys) zero x h e = let d : y ≡ x = cc in subst (λ (x : Name). FewIndices x.sort) d h.0
few-at (y ∷ ys) (suc i) x h e = few-at ys i x h.1 e

-- ---- what was declared

domain-stands : (s ts : List ℕ) (before : List Name) (d : Spans) (q : ℕ) → Spanned s ts before d q → FewIndices (Syntax.integer d) → DomainAt s ts before d q
domain-stands s ts before d q h f = record { rest = h.stands.rest; reads = due-reads before h.indices [] (from s ts q) d h.stands.rest h.stands.reads; few = f }

declared-stands : (s ts : List ℕ) (before : List Name) (y : Sort) (q : ℕ) → Declares s ts before y q → FewIndices y → Stands s ts before y q
declared-stands s ts before Syntax.index q h f = tt
declared-stands s ts before (Syntax.integer d) q h f = domain-stands s ts before d q h f
declared-stands s ts before (Syntax.real d) q h f = domain-stands s ts before d q h f
declared-stands s ts before (Syntax.formula g) q h f = record { rest = h.rest; reads = h.reads }
declared-stands s ts before (Syntax.discrete d) q h f = domain-stands s ts before d q h f
declared-stands s ts before (Syntax.continuous d) q h f = domain-stands s ts before d q h f

-- ---- literals

shaped_from : (s ts : List ℕ) (at : ℕ) → AllShaped Valid (view s ts) → AllShaped Valid (view s (drop at ts))
unfolding view
shaped_from s ts zero h = h
shaped_from s [] (suc at) h = tt
shaped_from s (w ∷ ts) (suc at) h = shaped_from s ts at h.1

literal-first : (l m : List Token) (w : Bool) (v : Value) (p : ℕ) → AllShaped Valid l → l ≡ record { kind = Text.literal w v; place = p } ∷ m → Valid v
literal-first l m w v p h e = (subst (AllShaped Valid) e h).0

all-literals : (s ts : List ℕ) → Holds s ts → (at : ℕ) (w : Bool) (v : Value) (p : ℕ) (l : List Token) → from s ts at ≡ record { kind = Text.literal w v; place = p } ∷ l → Valid v
unfolding from
all-literals s ts h at w v p l e = literal-first (view s (drop at ts)) l w v p (shaped_from s ts at (subst (AllShaped Valid) (sym h.all) (tokens-shaped Valid literal-valid s))) e

-- ---- all of it

module _ (s ts ts' ns : List ℕ) (t : List Record) (r : Parsed) (x : Structure) (few : r.names ≤ 64) (h : Holds s ts) (a : StructureAt s ts r ns t x) (z : Resolves s (rows_of r.names ns) ts ts') where
  pub resolved-structure : StructureAt s ts' r ns t x
  resolved-structure = structure-kept s ts ts' (z.same s) r ns t x a

  rows_few : length (rows_of r.names ns) ≤ 320
  rows_few = omega (arith, length-take (r.names * 5) ns, few)

  pub placed_of : Placed (rows_of r.names ns) x.names
  placed_of = record { at = λ i y e. (told_at s ts (rows_of r.names ns) [] x.names i y a.names.told e).place }

  pub ground-of : (rest : List Token) → structure (tokens s) ≡ done (record { what = x; rest = rest }) → Ground s (rows_of r.names ns) ts'
  unfolding name_limit
  ground-of rest e =
      record {
        names = x.names;
        few = omega (arith, rows_few, named-length s (rows_of r.names ns) x.names a.names.named);
        named = a.names.named;
        resolved = z.resolved rows_few;
        literals = λ at w v p l g. all-literals s ts h at w v p l (sym (z.same s at) ∙ g);
        declared = λ i y g.
            declared-stands s ts' (take i x.names) y.sort (row_word (rows_of r.names ns) i 4)
            (told_at s ts' (rows_of r.names ns) [] x.names i y resolved-structure.names.told g).declares
            (few-at x.names i y (few-written s (record { what = x; rest = rest }) e) g);
      }

  pub ground-names : (rest : List Token) (e : structure (tokens s) ≡ done (record { what = x; rest = rest })) → (ground-of rest e).names ≡ x.names
  unfolding ground-of
  ground-names rest e = refl
