-- Facts of a structure that was read from a text: names of different spellings, constraints at different places, tables not
-- overfull, titles and spellings of their shapes, and literals of which holds what holds of all that `literal_of` gives.
use mathlib.Core.Path.{◌≡◌, refl, sym, ◌∙◌, ap, subst}
use mathlib.Core.Bool.{Bool, true, false}
use mathlib.Core.Logic.{◌⊎◌, inl, inr}
use mathlib.Core.List.{List, [], ◌∷◌, ◌++◌, map, map-append, append-nil}
use Prim.Native.Nat.{ℕ, suc, ◌<◌, ◌≤◌}
use native.Mathlib.Omega.{arith}
use lib.ListN.{length, length-append}
use Rattle.rules.specs.declared.Refusal.TheVariants.{Misplaced}
use Rattle.rules.specs.Limits.{byte_limit, name_limit, constraint_limit}
use Rattle.lexer.specs.Marks.{init_word, close_word}
use Rattle.value.specs.declared.Value.{Value}
use Rattle.lexer.specs.Text.{Token, literal, tokens}
use Rattle.language.specs.Outcome.{Outcome, done, refused}
use Rattle.language.proofs.Outcome.{done-injective}
use Rattle.language.specs.Syntax.{Name, Sort, Constraint, Structure}
use Rattle.language.specs.Reader.{Read, Reader, ◌>>=◌, give, next, is_mark, require, read_string}
use Rattle.language.specs.Grammar.{structure}
use Rattle.language.specs.Data.{Given, portions_of, read_close, data_of, read_end, read_data}
use Rattle.language.specs.Model.{Model, model, read_model, what_of}
use Rattle.language.specs.Listed.{In, Distinct}
use Rattle.language.proofs.Listed.{distinct_nil, distinct_cons, distinct_append, in-cons, in-nil, map_at}
use Rattle.language.specs.All.{All}
use Rattle.language.proofs.All.{all-with}
use Rattle.language.specs.Literals.{AllSort, AllNames, AllLiterals}
use Rattle.language.specs.Phrases.{◌at◌, Unknown, Writes, constraint, constraints, one_constraint, last_constraint, more_constraints, with, WritesList, last_name, one_name, WritesOptionalList, no_list, a_list, WritesDeclarations, six_lists, WritesStructure, whole_model}
use Rattle.language.proofs.Taken.{Wrote, after_read, next-read, string-read}
use Rattle.language.proofs.PhrasedModel.{structure-written}
use Rattle.language.proofs.Shapes.{AllShaped, shaped-left, shaped-right, Spelled, Printable, Rising, rising-before, rising-behind, literals-shaped, tokens-rise}
use Rattle.language.proofs.Literals.{phrase-all}

-- ---- names

abbrev spellings : List Name → List (List ℕ)
spellings names = map (λ x. x.spelling) names

-- an unknown spelling stands nowhere in the table
not-spelled : {l : List ℕ} (names : List Name) → Unknown names l → In (spellings names) l → ⊥
not-spelled names u h = let x = map_at (λ x. x.spelling) names h.place _ h.at in u.unspelled h.place x.0 x.1 x.2

module _ (P : Value → Type 0) where
  -- what holds of the names declared so far
  pub record NamesFine (names : List Name) : Type 0 where
    pub distinct : Distinct (map (λ x. x.spelling) names)
    pub spelled : All (λ x. Spelled x.spelling) names
    pub few : length names ≤ name_limit
    pub literals : AllNames P names

  none-fine : NamesFine []
  none-fine = record { distinct = distinct_nil; spelled = tt; few = omega arith; literals = tt }

  one_more : {names : List Name} {l : List ℕ} (p : ℕ) (s : Sort) → NamesFine names → Unknown names l → length names < name_limit → Spelled l → AllSort P s → NamesFine (with names l p s)
  one_more {names} {l} p s h u n a b =
      let x : Name = record { spelling = l; place = p; sort = s } in
      record {
        distinct = rw map-append (distinct_append (spellings names) (l ∷ []) h.distinct (distinct_cons l [] (in-nil l) distinct_nil)
            (λ k i j. elim (in-cons l [] k j) [ inl e ↦ not-spelled names u (subst (λ m. In (spellings names) m) (sym e) i) | inr j ↦ in-nil k j ]));
        spelled = all-with (λ x. Spelled x.spelling) names x h.spelled a;
        few = rw length-append (omega arith);
        literals = all-with (λ x. AllSort P x.sort) names x h.literals b;
      }

  list-fine : {word : ℕ} {names all : List Name} {l : List Token} → WritesList word names all l → AllShaped P l → NamesFine names → NamesFine all
  list-fine (last_name {names = names} {s = s} {k = k} p q u n w) a h = one_more p s h u n a.0 (phrase-all P names h.literals w (shaped-left P k _ a.1))
  list-fine (one_name {names = names} {s = s} {k = k} p q u n w v) a h = list-fine v (shaped-right P k _ a.1).1 (one_more p s h u n a.0 (phrase-all P names h.literals w (shaped-left P k _ a.1)))

  optional-fine : {word : ℕ} {names all : List Name} {l : List Token} → WritesOptionalList word names all l → AllShaped P l → NamesFine names → NamesFine all
  optional-fine no_list a h = h
  optional-fine (a_list p w) a h = list-fine w a.1 h

  declarations-fine : {names : List Name} {l : List Token} → WritesDeclarations names l → AllShaped P l → NamesFine names
  declarations-fine (six_lists {a = a} {b = b} {c = c} {d = d} {e = e} u v w x y z) h₁ =
      let h₂ = shaped-right P a _ h₁ in
      let h₃ = shaped-right P b _ h₂ in
      let h₄ = shaped-right P c _ h₃ in
      let h₅ = shaped-right P d _ h₄ in
      let h₆ = shaped-right P e _ h₅ in
      optional-fine z h₆ (optional-fine y (shaped-left P e _ h₅) (optional-fine x (shaped-left P d _ h₄) (optional-fine w (shaped-left P c _ h₃) (optional-fine v (shaped-left P b _ h₂) (optional-fine u (shaped-left P a _ h₁) none-fine)))))

  -- ---- titles of constraints

  title-fine : {names : List Name} {c : Constraint} {l : List Token} → Writes names (constraint c) l → AllShaped P l → Printable c.title
  title-fine (one_constraint p q r u v w x) a = a.0

  titles-fine : {names : List Name} {cs : List Constraint} {l : List Token} → Writes names (constraints cs) l → AllShaped P l → All (λ c. Printable c.title) cs
  titles-fine (last_constraint w) a = (title-fine w a, tt)
  titles-fine (more_constraints {l = l} v w) a = (title-fine v (shaped-left P l _ a), titles-fine w (shaped-right P l _ a))

-- ---- places of constraints

abbrev places : List Constraint → List ℕ
places cs = map (λ c. c.place) cs

-- they rise, from p on
abbrev RisingPlaces : ℕ → List Constraint → Type 0
RisingPlaces p [] = Unit {0}
RisingPlaces p (c ∷ cs) = (p ≤ c.place) × RisingPlaces (suc c.place) cs

-- a constraint begins at its place
begins : {names : List Name} {c : Constraint} {l : List Token} (k : List Token) (p : ℕ) → Writes names (constraint c) l → Rising p (l ++ k) → (p ≤ c.place) × Rising (suc c.place) k
begins k p (one_constraint {a = a} {b = b} {c = c} {e = e} q r s u v w x) h = (h.0, rising-behind (suc q) (a ++ (_ ∷ b ++ (c ++ e))) k h.1)

places-rise : {names : List Name} {cs : List Constraint} {l : List Token} (p : ℕ) → Writes names (constraints cs) l → Rising p l → RisingPlaces p cs
places-rise p (last_constraint {l = l} w) h = ((begins [] p w (rw append-nil h)).0, tt)
places-rise p (more_constraints {c = c} {k = k} v w) h = let b = begins k p v h in (b.0, places-rise (suc c.place) w b.1)

above : (p : ℕ) (cs : List Constraint) → RisingPlaces p cs → (q : ℕ) → In (places cs) q → p ≤ q
above p [] h q i = absurd (in-nil q i)
above p (c ∷ cs) h q i = elim (in-cons c.place (places cs) q i) [ inl e ↦ omega (arith, e, h.0) | inr j ↦ omega (arith, h.0, above (suc c.place) cs h.1 q j) ]

apart : (p : ℕ) (cs : List Constraint) → RisingPlaces p cs → Distinct (places cs)
apart p [] h = distinct_nil
apart p (c ∷ cs) h = distinct_cons c.place (places cs) (λ i. absurd (omega (arith, above (suc c.place) cs h.1 c.place i))) (apart (suc c.place) cs h.1)

at_least_one : {names : List Name} {cs : List Constraint} {l : List Token} → Writes names (constraints cs) l → 1 ≤ length cs
at_least_one (last_constraint w) = omega arith
at_least_one (more_constraints v w) = omega arith

-- ---- the whole structure

pub record Facts (P : Value → Type 0) (s : Structure) : Type 0 where
  pub names : NamesFine P s.names
  pub title : Printable s.title
  pub titles : All (λ c. Printable c.title) s.constraints
  pub distinct : Distinct (map (λ c. c.place) s.constraints)
  pub some : 1 ≤ length s.constraints
  pub few : length s.constraints ≤ constraint_limit
  pub literals : AllLiterals P s

written-facts : (P : Value → Type 0) {s : Structure} {l : List Token} → WritesStructure s l → AllShaped P l → Rising 0 l → Facts P s
written-facts P (whole_model {names = names} {cs = cs} {a = a} {b = b} {c = c} p q r t m u v w n) h g =
    let rest = (shaped-right P a _ h.1.1).1.1 in
    let places = rising-behind (suc t) b c (rising-behind (suc q) a _ g.1.1).1.1 in
    let fine = declarations-fine P u (shaped-left P a _ h.1.1) in
    record {
      names = fine;
      title = h.1.0;
      titles = titles-fine P w (shaped-right P b c rest);
      distinct = apart (suc t) cs (places-rise (suc t) w places);
      some = at_least_one w;
      few = n;
      literals = (fine.literals, phrase-all P names fine.literals v (shaped-left P b c rest), phrase-all P names fine.literals w (shaped-right P b c rest));
    }

all_of : (P : Value → Type 0) (ts : List Token) {r : Read Structure} → AllShaped P ts → Rising 0 ts → Wrote WritesStructure ts r → Facts P r.what
all_of P ts {r} a g w =
    written-facts P w.writes (shaped-left P w.phrase r.rest (subst (AllShaped P) w.taken a)) (rising-before 0 w.phrase r.rest (subst (Rising 0) w.taken g))

-- P is what holds of every literal token of the text (`tokens-shaped` and `literals-shaped` say when it does)
pub structure-facts : (P : Value → Type 0) (text : List ℕ) (r : Read Structure) → AllShaped P (tokens text) → structure (tokens text) ≡ done r → Facts P r.what
structure-facts P text r a e = all_of P (tokens text) a (tokens-rise text) (structure-written text r e)

-- ---- the whole model

-- a data section's title, or none
abbrev pub DataTitle : List ℕ → Type 0
DataTitle l = (l ≡ []) ⊎ Printable l

module _ (P : Value → Type 0) (names : List Name) where
  section-title : (ts : List Token) (r : Read Given) → data_of names ts ≡ done r → AllShaped P ts → Printable r.what.title
  unfolding data_of
  section-title ts r e a =
      after_read (read_string ts) _ r e λ s es e.
      after_read (portions_of names byte_limit [] s.rest) _ r e λ st _ e.
      after_read (read_close st.rest) _ r e λ _ _ e.
      let w = string-read.reads ts s es in
      let b : AllShaped P (w.phrase ++ s.rest) = subst (AllShaped P) w.taken a in
      subst (λ (x : Read Given). Printable x.what.title) (done-injective e) (subst (AllShaped P) w.writes (shaped-left P w.phrase s.rest b)).0

  data-title : (ts : List Token) (r : Read Given) → read_data names ts ≡ done r → AllShaped P ts → DataTitle r.what.title
  unfolding read_data
  data-title ts r e a =
      after_read (next ts) _ r e λ t et e.
      after_read (given (is_mark init_word t.what) t.what t.rest) _ r e λ g eg e.
      after_read (read_end g.rest) _ r e λ _ _ e.
      subst (λ (x : Read Given). DataTitle x.what.title) (done-injective e) (go (is_mark init_word t.what) t.what t.rest g eg (behind t et))
    where
      given : Bool → Token → Reader Given
      given b t = elim b as (λ _. Reader Given) [
        | true ↦ data_of names
        | false ↦ do
          _ ← require (is_mark close_word t) Misplaced t.place
          give (record { title = []; store = [] })
      ]

      behind : (t : Read Token) → next ts ≡ done t → AllShaped P t.rest
      behind t et = let w = next-read.reads ts t et in shaped-right P w.phrase t.rest (subst (AllShaped P) w.taken a)

      go : (b : Bool) (t : Token) (us : List Token) (g : Read Given) → given b t us ≡ done g → AllShaped P us → DataTitle g.what.title
      go true t us g e a = inr (section-title us g e a)
      go false t us g e a = after_read (require (is_mark close_word t) Misplaced t.place us) _ g e λ _ _ e. inl (sym (ap (λ (x : Read Given). x.what.title) (done-injective e)))

pub record ModelFacts (P : Value → Type 0) (m : Model) : Type 0 where
  pub structure : Facts P m.structure
  pub title : DataTitle m.given.title

-- a model that was read: its structure was read from the text's tokens, its data from those behind
pub record ModelRead (text : List ℕ) (m : Model) : Type 0 where
  pub first : Read Structure
  pub second : Read Given
  pub structure-done : structure (tokens text) ≡ done first
  pub data-done : read_data m.structure.names first.rest ≡ done second
  pub structure-is : first.what ≡ m.structure
  pub given_is : second.what ≡ m.given

pub model-read : (text : List ℕ) (m : Model) → read_model text ≡ done m → ModelRead text m
unfolding read_model model
model-read text m e = go (model (tokens text)) refl e
  where
    parts : (r : Read Model) → model (tokens text) ≡ done r → r.what ≡ m → ModelRead text m
    parts r e x =
        after_read (structure (tokens text)) _ r e λ s es e.
        after_read (read_data s.what.names s.rest) _ r e λ g eg e.
        let z : record { structure = s.what; given = g.what } ≡ m = ap (λ (y : Read Model). y.what) (done-injective e) ∙ x in
        record {
          first = s;
          second = g;
          structure-done = es;
          data-done = subst (λ (n : Model). read_data n.structure.names s.rest ≡ done g) z eg;
          structure-is = ap (λ (n : Model). n.structure) z;
          given_is = ap (λ (n : Model). n.given) z;
        }

    go : (o : Outcome (Read Model)) → model (tokens text) ≡ o → what_of o ≡ done m → ModelRead text m
    go (done r) eo e = parts r eo (done-injective e)
    go (refused n p) eo e = cc

pub model-facts : (P : Value → Type 0) (text : List ℕ) (m : Model) → AllShaped P (tokens text) → read_model text ≡ done m → ModelFacts P m
model-facts P text m a e =
    let r = model-read text m e in
    let w = structure-written text r.first r.structure-done in
    record {
      structure = subst (Facts P) r.structure-is (structure-facts P text r.first a r.structure-done);
      title = subst (λ (g : Given). DataTitle g.title) r.given_is
          (data-title P m.structure.names r.first.rest r.second r.data-done (shaped-right P w.phrase r.first.rest (subst (AllShaped P) w.taken a)));
    }

-- every literal of a model that was read is a literal token of its text
abbrev pub InText : List ℕ → Value → Type 0
InText text v = (w : Bool) × (p : ℕ) × In (tokens text) (literal w v at p)

pub literals-written : (text : List ℕ) (m : Model) → read_model text ≡ done m → AllLiterals (InText text) m.structure
literals-written text m e = (model-facts (InText text) text m (literals-shaped (InText text) text (λ w v p i. (w, p, i))) e).structure.literals
