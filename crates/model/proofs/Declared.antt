-- The names of a structure that was read: domains of at most four indices, and the tokens that declare them.
use mathlib.Core.Path.{◌≡◌, refl, ap, subst}
use mathlib.Core.List.{List}
use Prim.Native.Nat.{ℕ, suc, ◌≤◌}
use native.Mathlib.Omega.{arith}
use lib.ListN.{length}
use Rattle.rules.specs.Limits.{index_limit, nesting_limit, constraint_limit}
use Rattle.lexer.specs.Marks.{open_word, colon}
use Rattle.lexer.specs.Text.{Token, tokens}
use Rattle.language.specs.Outcome.{done}
use Rattle.language.proofs.Outcome.{done-injective}
use Rattle.language.specs.Syntax.{Sort, Spans, Name, Structure, point, span}
use Rattle.language.specs.Reader.{Read, expect, read_string}
use Rattle.language.specs.Linear.{linear_at}
use Rattle.language.specs.Declarations.{declarations}
use Rattle.language.specs.Grammar.{read_goal, constraints_of, structure}
use Rattle.language.specs.Model.{Model, read_model}
use Rattle.language.proofs.All.{all-with}
use Rattle.language.specs.Phrases.{Writes, indices, domain, declared_domain, sort, in_parentheses, no_subscripts, with_domain, index_sort, integer_sort, real_sort, formula_sort, discrete_sort, continuous_sort, WritesList, last_name, one_name, WritesOptionalList, no_list, a_list, WritesDeclarations, six_lists, WritesStructure, whole_model}
use Rattle.language.proofs.Taken.{after_read}
use Rattle.language.proofs.PhrasedModel.{structure-written}
use Rattle.language.proofs.Facts.{model-read}
use Rattle.tokens.specs.Stored.{size}
use Rattle.model.specs.Few.{FewIndices, AllFew}

size-indices : (d : Spans) → size d ≡ length (indices d)
unfolding size
size-indices point = refl
size-indices (span i f g p d) = ap suc (size-indices d)

few-entries : {names : List Name} {d : Spans} {l : List Token} → Writes names (domain d) l → size d ≤ index_limit
few-entries {d = d} (in_parentheses p w n) = rw (size-indices d) n

few-domain : {names : List Name} {d : Spans} {l : List Token} → Writes names (declared_domain d) l → size d ≤ index_limit
unfolding size
few-domain no_subscripts = omega arith
few-domain (with_domain p w u v) = few-entries v

few-sort : {names : List Name} {word : ℕ} {y : Sort} {l : List Token} → Writes names (sort word y) l → FewIndices y
few-sort index_sort = tt
few-sort (integer_sort w) = few-domain w
few-sort (real_sort w) = few-domain w
few-sort (formula_sort p w) = tt
few-sort (discrete_sort w) = few-domain w
few-sort (continuous_sort w) = few-domain w

few-list : {word : ℕ} {names all : List Name} {l : List Token} → WritesList word names all l → AllFew names → AllFew all
few-list (last_name {names = names} {l = t} {s = y} p q u n w) h = all-with (λ (x : Name). FewIndices x.sort) names (record { spelling = t; place = p; sort = y }) h (few-sort w)
few-list (one_name {names = names} {l = t} {s = y} p q u n w v) h =
    few-list v (all-with (λ (x : Name). FewIndices x.sort) names (record { spelling = t; place = p; sort = y }) h (few-sort w))

few-optional : {word : ℕ} {names all : List Name} {l : List Token} → WritesOptionalList word names all l → AllFew names → AllFew all
few-optional no_list h = h
few-optional (a_list p w) h = few-list w h

few-declarations : {names : List Name} {l : List Token} → WritesDeclarations names l → AllFew names
few-declarations (six_lists a b c d e f) = few-optional f (few-optional e (few-optional d (few-optional c (few-optional b (few-optional a tt)))))

few-structure : {x : Structure} {l : List Token} → WritesStructure x l → AllFew x.names
few-structure (whole_model p q r t m u v w n) = few-declarations u

pub few-written : (text : List ℕ) (r : Read Structure) → structure (tokens text) ≡ done r → AllFew r.what.names
few-written text r e = few-structure (structure-written text r e).writes

-- ---- the declarations of a structure

-- tokens that declare the names
pub record Declares (names : List Name) : Type 0 where
  pub first : List Token
  pub rest : List Token
  pub reads : declarations first ≡ done (record { what = names; rest = rest })

pub structure-declares : (l : List Token) (r : Read Structure) → structure l ≡ done r → Declares r.what.names
unfolding structure
structure-declares l r e =
    after_read (expect open_word l) _ r e λ w _ e.
    after_read (read_string w.rest) _ r e λ t _ e.
    after_read (declarations t.rest) _ r e λ d de e.
    after_read (read_goal d.rest) _ r e λ m _ e.
    after_read (expect colon m.rest) _ r e λ c _ e.
    after_read (linear_at d.what nesting_limit c.rest) _ r e λ f _ e.
    after_read (constraints_of d.what constraint_limit f.rest) _ r e λ cs _ e.
    subst (λ (x : Read Structure). Declares x.what.names) (done-injective e) (record { first = t.rest; rest = d.rest; reads = de })

pub model-declares : (text : List ℕ) (m : Model) → read_model text ≡ done m → Declares m.structure.names
model-declares text m e =
    let r = model-read text m e in
    subst (λ (x : Structure). Declares x.names) r.structure-is (structure-declares (tokens text) r.first r.structure-done)
