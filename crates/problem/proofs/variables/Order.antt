-- The six lists stand in a fixed order, so in declared names every discrete name stands before every continuous one.
use Rattle.std.specs.Prelude.{Option, Some, None, slice_get}
use mathlib.Core.Path.{◌≡◌, refl, sym, ◌∙◌, ap, subst}
use mathlib.Core.Bool.{Bool, true, false}
use mathlib.Core.List.{List, [], ◌∷◌, ◌++◌, append-nil, append_assoc}
use Prim.Native.Nat.{ℕ, zero, suc, ◌<◌, ◌≤◌}
use native.Mathlib.Omega.{arith}
use lib.ListN.{length}
use Rattle.lexer.specs.Text.{Token}
use Rattle.lexer.specs.Marks.{comma, semicolon, equals, index_word, integer_word, real_word, formula_word, discrete_word, continuous_word}
use Rattle.rules.specs.Limits.{token_limit, nesting_limit}
use Rattle.rules.specs.declared.Refusal.TheVariants.{Misplaced}
use Rattle.language.specs.Outcome.{Outcome, done, refused}
use Rattle.language.proofs.Outcome.{refused-done, done-injective, some-injective, none-some}
use Rattle.language.specs.All.{All}
use Rattle.language.proofs.All.{all_append}
use Rattle.language.specs.Syntax.{Name, Sort, Spans, Formula}
use Rattle.language.specs.Syntax
use Rattle.language.specs.Reader.{Reader, Read, follow, ◌>>=◌, give, next, look, is_mark, require, expect}
use Rattle.language.specs.Formulas.{formula_at}
use Rattle.language.specs.Declarations.{new_name, subscripted, index_entry, formula_entry, domain_entry, entries_from, list_of, declarations}
use Rattle.language.specs.Model.{as_discrete, as_continuous}
use Rattle.problem.specs.Variables.Order.{InOrder}

-- ---- what every result of a reader has

record Yields {A : Type 0} (m : Reader A) (P : A → Type 0) : Type 0 where
  has : (ts : List Token) (r : Read A) → m ts ≡ done r → P r.what

module _ {A : Type 0} (P : A → Type 0) where
  yields-give : (a : A) → P a → Yields (give a) P
  yields-give a p = record { has = λ ts r e. subst (λ (x : Read A). P x.what) (done-injective e) p }

module _ {A B : Type 0} (Q : A → Type 0) (P : B → Type 0) where
  yields-then : (m : Reader A) (f : A → Reader B) → Yields m Q → ((a : A) → Q a → Yields (f a) P) → Yields (m >>= f) P
  yields-then m f y z = record { has = go }
    where
      go : (ts : List Token) (r : Read B) → (m >>= f) ts ≡ done r → P r.what
      go ts r = by (m ts) refl
        where
          by : (o : Outcome (Read A)) → m ts ≡ o → follow o f ≡ done r → P r.what
          by (done x) e h = (z x.what (y.has ts x e)).has x.rest r h
          by (refused n p) e h = absurd (refused-done h)

module _ {A B : Type 0} (P : B → Type 0) where
  -- whatever is read first
  yields-behind : (m : Reader A) (f : A → Reader B) → ((a : A) → Yields (f a) P) → Yields (m >>= f) P
  yields-behind m f z = yields-then (λ _. Unit {0}) P m f (record { has = λ ts r e. tt }) (λ a _. z a)

-- ---- the names of a list

-- names, and behind them names whose sorts have P
record Grown (P : Sort → Type 0) (names all : List Name) : Type 0 where
  more : List Name
  is : all ≡ names ++ more
  sorts : All (λ (x : Name). P x.sort) more

module _ (P : Sort → Type 0) where
  grown-none : (names : List Name) → Grown P names names
  grown-none names = record { more = []; is = sym (append-nil names); sorts = tt }

  grown-one : (names : List Name) (x : Name) → P x.sort → Grown P names (names ++ (x ∷ []))
  grown-one names x p = record { more = x ∷ []; is = refl; sorts = (p, tt) }

  grown-then : (names part all : List Name) → Grown P names part → Grown P part all → Grown P names all
  grown-then names part all a b = record {
    more = a.more ++ b.more;
    is = b.is ∙ ap (λ l. l ++ b.more) a.is ∙ append_assoc names a.more b.more;
    sorts = all_append (λ (x : Name). P x.sort) a.more b.more a.sorts b.sorts;
  }

  -- behind one entry: the list goes on, or its `;` ends it
  entry-ends : (names all : List Name) (t : Token) (m : Reader (List Name)) → Grown P names all → Yields m (Grown P all) → (b : Bool)
      → Yields (elim b as (λ _. Reader (List Name)) [ true ↦ m | false ↦ (require (is_mark semicolon t) Misplaced t.place >>= λ _. give all) ]) (Grown P names)
  entry-ends names all t m g y true = record { has = λ ts r e. grown-then names all r.what g (y.has ts r e) }
  entry-ends names all t m g y false = yields-behind (Grown P names) (require (is_mark semicolon t) Misplaced t.place) (λ _. give all) (λ _. yields-give (Grown P names) all g)

  module _ (E : List Name → Reader Sort) (e : (names : List Name) → Yields (E names) P) where
    entries-grown : (n : ℕ) (names : List Name) → Yields (entries_from E n names) (Grown P names)
    unfolding entries_from
    entries-grown zero names = record { has = λ ts r e. absurd (refused-done e) }
    entries-grown (suc n) names =
        yields-behind (Grown P names) (new_name names) _ λ x.
        yields-then P (Grown P names) (E names) _ (e names) λ s p.
        yields-behind (Grown P names) next _ λ t.
        let y : Name = record { spelling = x.title; place = x.place; sort = s } in
        entry-ends names (names ++ (y ∷ [])) t (entries_from E n (names ++ (y ∷ []))) (grown-one names y p) (entries-grown n (names ++ (y ∷ []))) (is_mark comma t)

    list-grown : (word : ℕ) (names : List Name) → Yields (list_of word E names) (Grown P names)
    unfolding list_of
    list-grown word names = yields-behind (Grown P names) look _ λ t. go (is_mark word t)
      where
        go : (b : Bool) → Yields (elim b as (λ _. Reader (List Name)) [ true ↦ (next >>= λ _. entries_from E token_limit names) | false ↦ give names ]) (Grown P names)
        go true = yields-behind (Grown P names) next (λ _. entries_from E token_limit names) (λ _. entries-grown token_limit names)
        go false = yields-give (Grown P names) names (grown-none names)

-- ---- the sorts of a list

domain-sort : (P : Sort → Type 0) (f : Spans → Sort) → ((d : Spans) → P (f d)) → (names : List Name) → Yields (domain_entry f names) P
unfolding domain_entry
domain-sort P f h names = yields-behind P (subscripted names) _ λ d. yields-give P (f d) (h d)

formula-sort : (P : Sort → Type 0) → ((f : Formula) → P (Syntax.formula f)) → (names : List Name) → Yields (formula_entry names) P
unfolding formula_entry
formula-sort P h names = yields-behind P (expect equals) _ λ _. yields-behind P (formula_at names nesting_limit) _ λ f. yields-give P (Syntax.formula f) (h f)

index-sort : (P : Sort → Type 0) → P Syntax.index → (names : List Name) → Yields (index_entry names) P
unfolding index_entry
index-sort P h names = yields-give P Syntax.index h

-- ---- the order

abbrev NotDiscrete : Sort → Type 0
NotDiscrete s = as_discrete s ≡ None

abbrev NotContinuous : Sort → Type 0
NotContinuous s = as_continuous s ≡ None

-- names without continuous ones, then names without discrete ones
record Parted (names : List Name) : Type 0 where
  front : List Name
  grown : Grown NotContinuous [] front
  ends : Grown NotDiscrete front names

declarations-parted : Yields declarations Parted
unfolding declarations as_discrete as_continuous
declarations-parted =
    yields-then (Grown NotContinuous []) Parted _ _ (list-grown NotContinuous index_entry (index-sort NotContinuous refl) index_word []) λ a ga.
    yields-then (Grown NotContinuous a) Parted _ _ (list-grown NotContinuous (domain_entry Syntax.integer) (domain-sort NotContinuous Syntax.integer (λ d. refl)) integer_word a) λ b gb.
    yields-then (Grown NotContinuous b) Parted _ _ (list-grown NotContinuous (domain_entry Syntax.real) (domain-sort NotContinuous Syntax.real (λ d. refl)) real_word b) λ c gc.
    yields-then (Grown NotContinuous c) Parted _ _ (list-grown NotContinuous formula_entry (formula-sort NotContinuous (λ f. refl)) formula_word c) λ d gd.
    yields-then (Grown NotContinuous d) Parted _ _ (list-grown NotContinuous (domain_entry Syntax.discrete) (domain-sort NotContinuous Syntax.discrete (λ s. refl)) discrete_word d) λ e ge.
    let g = grown-then NotContinuous [] a e ga (grown-then NotContinuous a b e gb (grown-then NotContinuous b c e gc (grown-then NotContinuous c d e gd ge))) in
    record { has = λ ts r h. record { front = e; grown = g; ends = (list-grown NotDiscrete (domain_entry Syntax.continuous) (domain-sort NotDiscrete Syntax.continuous (λ s. refl)) continuous_word e).has ts r h } }

-- a name of a sort that the front does not have stands behind it, and one that the end does not have before it
behind-front : (f : Sort → Option Spans) (l m : List Name) → All (λ (x : Name). f x.sort ≡ None) l → (i : ℕ) (x : Name) (d : Spans) → slice_get (l ++ m) i ≡ Some x → f x.sort ≡ Some d → length l ≤ i
behind-front f [] m h i x d e g = omega arith
behind-front f (y ∷ l) m h zero x d e g = absurd (none-some (sym h.0 ∙ ap (λ (z : Name). f z.sort) (some-injective e) ∙ g))
behind-front f (y ∷ l) m h (suc i) x d e g = omega (arith, behind-front f l m h.1 i x d e g)

nowhere : (f : Sort → Option Spans) (m : List Name) → All (λ (x : Name). f x.sort ≡ None) m → (i : ℕ) (x : Name) (d : Spans) → slice_get m i ≡ Some x → f x.sort ≡ Some d → ⊥
nowhere f [] h i x d e g = none-some e
nowhere f (y ∷ m) h zero x d e g = none-some (sym h.0 ∙ ap (λ (z : Name). f z.sort) (some-injective e) ∙ g)
nowhere f (y ∷ m) h (suc i) x d e g = nowhere f m h.1 i x d e g

before-end : (f : Sort → Option Spans) (l m : List Name) → All (λ (x : Name). f x.sort ≡ None) m → (i : ℕ) (x : Name) (d : Spans) → slice_get (l ++ m) i ≡ Some x → f x.sort ≡ Some d → i < length l
before-end f [] m h i x d e g = absurd (nowhere f m h i x d e g)
before-end f (y ∷ l) m h zero x d e g = omega arith
before-end f (y ∷ l) m h (suc i) x d e g = omega (arith, before-end f l m h i x d e g)

pub declarations-order : (ts rest : List Token) (names : List Name) → declarations ts ≡ done (record { what = names; rest = rest }) → InOrder names
declarations-order ts rest names h =
    let p = declarations-parted.has ts (record { what = names; rest = rest }) h in
    let a : All (λ (x : Name). as_continuous x.sort ≡ None) p.front = subst (All (λ (x : Name). as_continuous x.sort ≡ None)) (sym p.grown.is) p.grown.sorts in
    record {
      earlier = λ i j x y d e s u t v.
          let l = before-end as_discrete p.front p.ends.more p.ends.sorts i x d (subst (λ n. slice_get n i ≡ Some x) p.ends.is s) u in
          let m = behind-front as_continuous p.front p.ends.more a j y e (subst (λ n. slice_get n j ≡ Some y) p.ends.is t) v in
          omega (arith, l, m);
    }
