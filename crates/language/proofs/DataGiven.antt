-- What the portions of a data section give, where the rules write them and they are carried out in order: each its elements, no element
-- twice, and nothing besides.
use Rattle.std.specs.Prelude.{None, Some}
use mathlib.Core.Path.{◌≡◌, refl, sym, ◌∙◌, ap, subst}
use mathlib.Core.Bool.{Bool, true, false}
use mathlib.Core.Logic.{◌⊎◌, inl, inr}
use mathlib.Core.List.{List, [], ◌∷◌}
use Prim.Native.Nat.{ℕ, zero, suc, ◌<◌}
use native.Mathlib.Omega.{arith}
use lib.ListN.{length}
use lib.IntN.{ℤ}
use Rattle.value.specs.declared.Value.{Value}
use Rattle.lexer.specs.Text.{Token}
use Rattle.language.specs.Listed.{At, In, Distinct}
use Rattle.language.proofs.Listed.{at_length, in-nil, in-cons, in-here, in-later, distinct_nil}
use Rattle.language.specs.All.{All}
use Rattle.language.proofs.All.{all-at, all-with}
use Rattle.language.specs.Syntax.{Name, Sort, Spans, Structure, point, span}
use Rattle.language.specs.Syntax
use Rattle.language.specs.Scope.{Scope}
use Rattle.language.specs.Store.{Store, stored, scope_of}
use Rattle.language.specs.Data.{Entry, fixed, marked, marks_of, positions_of, bound_of}
use Rattle.language.specs.Phrases.{Means, indices, Writes, sort, declared_domain, no_subscripts, with_domain, index_sort, integer_sort, real_sort, formula_sort, discrete_sort, continuous_sort, WritesList, last_name, one_name, WritesOptionalList, no_list, a_list, WritesDeclarations, six_lists, WritesStructure, whole_model}
use Rattle.language.specs.Named.{NamedDomain, NamedSort, NamedEntry}
use Rattle.language.specs.Defined.{Has}
use Rattle.language.specs.DataPhrases.{WrittenPortion, Rearranges, sort_of, WritesEntries, last_entry, one_entry, WritesOrder, left_to_right, in_given_order, WritesPortion, unsubscripted, subscripted, WritesPortions, no_portion, one_portion, WritesData, no_data, one_data}
use Rattle.language.specs.CarriedOut.{FillsPortion, CarriesOut}
use Rattle.language.specs.Demand3.{InPortion, Sooner, Filled, Supplied}
use Rattle.language.proofs.Ordered.{rising-as}
use Rattle.language.proofs.NamedRead.{Table, structure-named}
use Rattle.language.proofs.Extended.{Extends, Matches, Apart}
use Rattle.language.proofs.Rearranged.{distinct_head, distinct_tail, unchanged, Open, opened, agrees-matches, matches-agrees, at-positions}
use Rattle.language.proofs.DataRuns.{Later, later_refl, later-then, extends-later, extends-refl, not-before, Ran, InOrder, fills-ran}

-- ---- declared domains name no index twice

apart_of : (d : Spans) → Distinct (indices d) → Apart d
apart_of point h = tt
apart_of (span i f g p d) h = (distinct_head i (indices d) h, apart_of d (distinct_tail i (indices d) h))

abbrev ApartSort : Sort → Type 0
ApartSort Syntax.index = Unit
ApartSort (Syntax.integer d) = Apart d
ApartSort (Syntax.real d) = Apart d
ApartSort (Syntax.formula f) = Unit
ApartSort (Syntax.discrete d) = Apart d
ApartSort (Syntax.continuous d) = Apart d

abbrev ApartEntry : Name → Type 0
ApartEntry x = ApartSort x.sort

domain-apart : {names : List Name} {d : Spans} {l : List Token} → Writes names (declared_domain d) l → Apart d
domain-apart no_subscripts = tt
domain-apart (with_domain {d = d} p w once v) = apart_of d once

sort-apart : {names : List Name} {word : ℕ} {s : Sort} {l : List Token} → Writes names (sort word s) l → ApartSort s
sort-apart index_sort = tt
sort-apart (integer_sort w) = domain-apart w
sort-apart (real_sort w) = domain-apart w
sort-apart (formula_sort p w) = tt
sort-apart (discrete_sort w) = domain-apart w
sort-apart (continuous_sort w) = domain-apart w

list-apart : {word : ℕ} {names all : List Name} {l : List Token} → WritesList word names all l → All ApartEntry names → All ApartEntry all
list-apart (last_name {names = names} {l = t} {s = s} p q new few w) h = all-with ApartEntry names (record { spelling = t; place = p; sort = s }) h (sort-apart w)
list-apart (one_name {names = names} {l = t} {s = s} p q new few w v) h = list-apart v (all-with ApartEntry names (record { spelling = t; place = p; sort = s }) h (sort-apart w))

optional-apart : {word : ℕ} {names all : List Name} {l : List Token} → WritesOptionalList word names all l → All ApartEntry names → All ApartEntry all
optional-apart no_list h = h
optional-apart (a_list p w) h = list-apart w h

declarations-apart : {names : List Name} {l : List Token} → WritesDeclarations names l → All ApartEntry names
declarations-apart (six_lists a b c d e f) = optional-apart f (optional-apart e (optional-apart d (optional-apart c (optional-apart b (optional-apart a tt)))))

structure-apart : {s : Structure} {l : List Token} → WritesStructure s l → All ApartEntry s.names
structure-apart (whole_model p q r t minimize w v u few) = declarations-apart w

-- ---- what a portion gives

record Gave (x : WrittenPortion) (st new : Store) : Type 0 where
  later : Later st new
  filled : (s : Scope) → Extends (scope_of new) s → Filled s x
  fresh : (s : Scope) → Extends (scope_of new) s → (e : List ℤ) → InPortion s x e → stored st x.name e ≡ None
  there : (s : Scope) → Extends (scope_of new) s → (e : List ℤ) → InPortion s x e → Has (stored new x.name e)
  no_other : (s : Scope) → Extends (scope_of new) s → (i : ℕ) (e : List ℤ) (v : Value) → stored new i e ≡ Some v
      → (stored st i e ≡ Some v) ⊎ ((x.name ≡ i) × InPortion s x e)

pub at_some : {A : Type 0} (l : List A) (k : ℕ) → k < length l → (a : A) × At l k a
at_some [] k h = absurd (omega (arith, h))
at_some (a ∷ l) zero h = (a, refl)
at_some (a ∷ l) (suc k) h = at_some l k (omega (arith, h))

module _ (x : WrittenPortion) {st new : Store} (r : Ran x (InOrder (positions_of x.order x.entries)) (Matches (bound_of x.entries)) x.numbers st new) where
  portion-in : (s : Scope) → Extends (scope_of new) s → (e : List ℤ) → InPortion s x e → In r.elements e
  portion-in s g e n = r.covers s g e n.inside (agrees-matches x.entries e n.agrees)

  in-portion : (s : Scope) → Extends (scope_of new) s → (e : List ℤ) → In r.elements e → InPortion s x e
  in-portion s g e n = record { inside = r.inside s g e n; agrees = matches-agrees x.entries e (r.fits e n) }

  in_order : (a b : List ℤ) → In r.elements a → In r.elements b → InOrder (positions_of x.order x.entries) a b → Sooner x a b
  in_order a b m n h =
      rw (at-positions x.order x.entries a (matches-agrees x.entries a (r.fits a m)), at-positions x.order x.entries b (matches-agrees x.entries b (r.fits b n))) at h

  filled : (s : Scope) → Extends (scope_of new) s → Filled s x
  unfolding scope_of
  filled s g = record {
    elements = r.elements;
    all = λ e. (in-portion s g e, portion-in s g e);
    in_order = rising-as r.elements r.in_order in_order;
    as_many = r.as_many;
    values = λ k e n h m. let v = r.values k e n h m in record { it = v.it; is = g.known x.name e v.it v.is; value-is = v.value-is };
    whole = r.whole;
  }

  there : (e : List ℤ) → In r.elements e → Has (stored new x.name e)
  there e n =
      let short : n.place < length x.numbers = subst (λ k. n.place < k) r.as_many (at_length r.elements n.place e n.at) in
      let m = at_some x.numbers n.place short in
      let g = r.values n.place e m.0 n.at m.1 in
      record { it = g.it; is = g.is }

  gave : Gave x st new
  gave = record {
    later = r.later;
    filled = filled;
    fresh = λ s g e n. r.fresh e (portion-in s g e n);
    there = λ s g e n. there e (portion-in s g e n);
    no_other = λ s g j e v h. elim (r.no_other j e v h) [ inl k ↦ inl k | inr k ↦ inr (sym k.0, in-portion s g e k.1) ];
  }

-- ---- portions

record GaveAll (xs : List WrittenPortion) (st new : Store) : Type 0 where
  later : Later st new
  filled : (s : Scope) → Extends (scope_of new) s → (x : WrittenPortion) → In xs x → Filled s x
  fresh : (s : Scope) → Extends (scope_of new) s → (x : WrittenPortion) → In xs x → (e : List ℤ) → InPortion s x e → stored st x.name e ≡ None
  once : (s : Scope) → Extends (scope_of new) s → (j k : ℕ) (x y : WrittenPortion) (e : List ℤ) → At xs j x → At xs k y → x.name ≡ y.name
      → InPortion s x e → InPortion s y e → j ≡ k
  no_other : (s : Scope) → Extends (scope_of new) s → (i : ℕ) (e : List ℤ) (v : Value) → stored new i e ≡ Some v
      → (stored st i e ≡ Some v) ⊎ ((x : WrittenPortion) × In xs x × (x.name ≡ i) × InPortion s x e)

gave-none : (st : Store) → GaveAll [] st st
gave-none st = record {
  later = later_refl st;
  filled = λ s x y n. absurd (in-nil y n);
  fresh = λ s x y n. absurd (in-nil y n);
  once = λ s x j k y z e h. absurd h;
  no_other = λ s x i e v h. inl h;
}

-- an element that is there can be given no more
clash : (st : Store) (i j : ℕ) (e : List ℤ) → i ≡ j → Has (stored st i e) → stored st j e ≡ None → ⊥
clash st i j e same h n = cc (sym n ∙ ap (λ k. stored st k e) (sym same) ∙ h.is)

gave-more : {x : WrittenPortion} {xs : List WrittenPortion} {st mid new : Store} → Gave x st mid → GaveAll xs mid new → GaveAll (x ∷ xs) st new
gave-more {x} {xs} {st} {mid} {new} a b = record {
  later = later-then a.later b.later;
  filled = λ s g y n. elim (in-cons x xs y n) [ inl e ↦ subst (Filled s) e (a.filled s (extends-later b.later g)) | inr m ↦ b.filled s g y m ];
  fresh = λ s g y n e h. elim (in-cons x xs y n) [
    | inl q ↦ first s g y q e h
    | inr m ↦ not-before y.name e a.later (b.fresh s g y m e h)
  ];
  once = once;
  no_other = λ s g i e v h. others s g i e v (b.no_other s g i e v h);
}
  where
    first : (s : Scope) → Extends (scope_of new) s → (y : WrittenPortion) → x ≡ y → (e : List ℤ) → InPortion s y e → stored st y.name e ≡ None
    first s g y q e h = subst (λ (y : WrittenPortion). InPortion s y e → stored st y.name e ≡ None) q (a.fresh s (extends-later b.later g) e) h

    both : (s : Scope) → Extends (scope_of new) s → (y z : WrittenPortion) (e : List ℤ) → x ≡ y → In xs z → y.name ≡ z.name → InPortion s y e → InPortion s z e → ⊥
    both s g y z e q n same h k =
        clash mid x.name z.name e (ap (λ (w : WrittenPortion). w.name) q ∙ same) (a.there s (extends-later b.later g) e (subst (λ (w : WrittenPortion). InPortion s w e) (sym q) h)) (b.fresh s g z n e k)

    once : (s : Scope) → Extends (scope_of new) s → (j k : ℕ) (y z : WrittenPortion) (e : List ℤ) → At (x ∷ xs) j y → At (x ∷ xs) k z → y.name ≡ z.name
        → InPortion s y e → InPortion s z e → j ≡ k
    once s g zero zero y z e h k same m n = refl
    once s g zero (suc k) y z e h i same m n = absurd (both s g y z e h (record { place = k; at = i }) same m n)
    once s g (suc j) zero y z e h i same m n = absurd (both s g z y e i (record { place = j; at = h }) (sym same) n m)
    once s g (suc j) (suc k) y z e h i same m n = ap suc (b.once s g j k y z e h i same m n)

    others : (s : Scope) → Extends (scope_of new) s → (i : ℕ) (e : List ℤ) (v : Value) → (stored mid i e ≡ Some v) ⊎ ((y : WrittenPortion) × In xs y × (y.name ≡ i) × InPortion s y e)
        → (stored st i e ≡ Some v) ⊎ ((y : WrittenPortion) × In (x ∷ xs) y × (y.name ≡ i) × InPortion s y e)
    others s g i e v (inl h) = elim (a.no_other s (extends-later b.later g) i e v h) [ inl k ↦ inl k | inr k ↦ inr (x, in-here x xs, k.0, k.1) ]
    others s g i e v (inr h) = inr (h.0, in-later x xs h.0 h.1, h.2, h.3)

-- ---- what is written of a portion

bound-length : (es : List Entry) → length (bound_of es) ≡ length es
unfolding bound_of
bound-length [] = refl
bound-length (fixed k ∷ es) = ap suc (bound-length es)
bound-length (marked i ∷ es) = ap suc (bound-length es)

none_open : Open [] []
none_open = record { once = distinct_nil; free = λ j h. absurd (in-nil j h); all = λ j h. absurd h }

module _ {names : List Name} where
  entries-many : {d : Spans} {es : List Entry} {l : List Token} → WritesEntries names d es l → length es ≡ length (indices d)
  entries-many (last_entry p w) = refl
  entries-many (one_entry p w v) = ap suc (entries-many v)

  order-rearranges : {m o : List ℕ} {l : List Token} → Distinct m → WritesOrder names m o l → Rearranges o m
  order-rearranges {m} once left_to_right = unchanged m once
  order-rearranges once (in_given_order p w r) = r

module _ {names : List Name} (table : Table names) (alone : All ApartEntry names) where
  domain-named : {l : List ℕ} {i : ℕ} (whole : Bool) (d : Spans) → Means names l i (sort_of whole d) → NamedDomain names d
  domain-named {i = i} whole d m = go whole (subst (NamedSort names) m.sorted (all-at (NamedEntry names) names i m.entry m.listed table))
    where
      go : (whole : Bool) → NamedSort names (sort_of whole d) → NamedDomain names d
      go true h = h
      go false h = h

  domain-alone : {l : List ℕ} {i : ℕ} (whole : Bool) (d : Spans) → Means names l i (sort_of whole d) → Apart d
  domain-alone {i = i} whole d m = go whole (subst ApartSort m.sorted (all-at ApartEntry names i m.entry m.listed alone))
    where
      go : (whole : Bool) → ApartSort (sort_of whole d) → Apart d
      go true h = h
      go false h = h

  portion-gave : {x : WrittenPortion} {l : List Token} {st new : Store} → WritesPortion names x l → FillsPortion x st new → Gave x st new
  unfolding positions_of bound_of marks_of
  portion-gave {x} {st = st} {new = new} (unsubscripted whole p m w) f = gave x (fills-ran names x tt tt [] [] x.numbers st new refl none_open f)
  portion-gave {x} {st = st} {new = new} (subscripted {d = d} {es = es} {o = o} whole p q m w once v n) f =
      gave x
      (fills-ran names x (domain-named whole d m) (domain-alone whole d m) _ _ x.numbers st new (bound-length es ∙ entries-many w) (opened o es once (order-rearranges once v)) f)

  portions-gave : {xs : List WrittenPortion} {l : List Token} {st new : Store} → WritesPortions names xs l → CarriesOut xs st new → GaveAll xs st new
  unfolding CarriesOut
  portions-gave {st = st} no_portion c = subst (GaveAll [] st) c (gave-none st)
  portions-gave (one_portion v w) c = gave-more (portion-gave v c.1) (portions-gave w c.2)

  data-gave : {s : List ℕ} {xs : List WrittenPortion} {l : List Token} {st : Store} → WritesData names s xs l → CarriesOut xs [] st → GaveAll xs [] st
  data-gave (no_data p q) c = portions-gave no_portion c
  data-gave (one_data p q r t v w) c = portions-gave (one_portion v w) c

all-supplied : (xs : List WrittenPortion) (st : Store) → GaveAll xs [] st → Supplied (scope_of st) xs
unfolding scope_of stored
all-supplied xs st g = record {
  filled = g.filled (scope_of st) (extends-refl (scope_of st));
  once = g.once (scope_of st) (extends-refl (scope_of st));
  no_other = λ i e v h. elim (g.no_other (scope_of st) (extends-refl (scope_of st)) i e v h) [ inl k ↦ cc | inr k ↦ k ];
}

-- all that is stored is what the portions give
pub supplied : {z : Structure} {l k : List Token} {s : List ℕ} {xs : List WrittenPortion} (st : Store) → WritesStructure z l → WritesData z.names s xs k → CarriesOut xs [] st
    → Supplied (scope_of st) xs
supplied {xs = xs} st u w c = all-supplied xs st (data-gave (structure-named u).table (structure-apart u) w c)
