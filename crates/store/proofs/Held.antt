-- What a table holds: data as a list searched from the front, which an insertion extends by one entry, and variables by their
-- number, which a row appended extends by one variable.
use Rattle.std.specs.Prelude.{Option, Some, None, Result, Ok}
use mathlib.Core.Path.{◌≡◌, refl, sym, ◌∙◌, ap}
use mathlib.Core.Bool.{Bool, true, false, cond, ◌&&◌}
use mathlib.Core.List.{List, [], ◌∷◌, ◌++◌}
use mathlib.Core.Logic.{⊎_elim}
use Prim.Native.Nat.{ℕ, suc, ◌+◌, ◌-◌, ◌<◌}
use native.Mathlib.Omega.{arith}
use native.Mathlib.Nat.{eq-or-lt_of_le}
use borrow.Author.Tests.{eqb-true}
use lib.Dec.{eqb}
use lib.ListN.{length, get_or, length-append, get_or-append}
use lib.Seq.{get_or_at}
use lib.IntN.{ℤ}
use Rattle.store.specs.declared.Key.{Key}
use Rattle.store.specs.declared.InsertError.{InsertError}
use Rattle.language.specs.Scope.{same_element}
use Rattle.language.specs.Numbering.{Variable, same_variable, later, number_of}
use Rattle.store.specs.Key.{key_number, key_of}
use Rattle.store.specs.Table.{Table, key_at, word_at, has_room, Sorted, row_of, word_in, lookup, found_row, appended, Grown, Says, entered, Inserted}
use Rattle.store.specs.Entries.{Keyed, Entry, word_of, Holds, variable_key, Numbered}
use Rattle.store.proofs.Keys.{key-same}
use Rattle.store.proofs.Halving.{row-none, lookup-none, finds-row}
use Rattle.store.proofs.Inserting.{inserted-says, inserted-sorted, inserted-lookup}
use Rattle.store.proofs.Rows.{grown-append, key-before, last-sorted, last_row, above-last}

sorted_none : (t : Table) → Sorted t 0
sorted_none t = record { rising = λ p q h g. absurd (omega arith) }

-- ---- data

-- a search of one entry more, by the test of its key
entry_first : (x : Entry) (es : List Entry) (i : ℕ) (l : List ℤ) → Keyed x.name x.element → Keyed i l
    → word_of (x ∷ es) i l ≡ cond (eqb (key_of i l) (key_of x.name x.element)) (Some x.word) (word_of es i l)
unfolding word_of
entry_first x es i l a b = go (eqb x.name i && same_element x.element l) (key-same a b)
  where
    go : (u : Bool) → u ≡ eqb (key_of i l) (key_of x.name x.element)
        → elim u as (λ _. Option ℕ) [ true ↦ Some x.word | false ↦ word_of es i l ] ≡ cond (eqb (key_of i l) (key_of x.name x.element)) (Some x.word) (word_of es i l)
    go true e = rw (← e)
    go false e = rw (← e)

pub holds-none : (t : Table) → Holds t 0 []
unfolding word_of
holds-none t = record { count = refl; sorted = sorted_none t; agrees = λ i l a. lookup-none t 0 (key_of i l) (λ p h e. omega arith) }

-- by the contracts of `key_of`, whose key has the number k, and of `find`, `word_at` and `insert`
module _ (t : Table) (n : ℕ) (es : List Entry) (i : ℕ) (l : List ℤ) (k : ℕ) (h : Holds t n es) (a : Keyed i l) (e : k ≡ key_of i l) where
  held : lookup t n k ≡ word_of es i l
  held = rw e (h.agrees i l a)

  pub holds_at : (f : Option ℕ) (j w : ℕ) → f ≡ found_row t n k → f ≡ Some j → w ≡ word_at t j → word_of es i l ≡ Some w
  unfolding lookup word_in
  holds_at f j w g p q = sym held ∙ rw (← ((finds-row t n k f g).is_row h.sorted), p, q)

  pub holds-nothing : (f : Option ℕ) → f ≡ found_row t n k → f ≡ None → word_of es i l ≡ None
  unfolding lookup word_in
  holds-nothing f g p = sym held ∙ rw (← ((finds-row t n k f g).is_row h.sorted), p)

  -- present exactly where the list has it
  pub holds-answer : (w : ℕ) (r : Result (Unit {0}) InsertError) (t' : Table) → Inserted t n k w r t' → Says r (word_of es i l) (has_room t n)
  holds-answer w r t' f = rw (← held) (inserted-says t n k w r t' f h.sorted)

  pub holds-insert : (w : ℕ) (r : Result (Unit {0}) InsertError) (t' : Table) → Inserted t n k w r t' → r ≡ Ok tt
      → Holds t' (n + 1) (record { name = i; element = l; word = w } ∷ es)
  unfolding entered
  holds-insert w r t' f d = record {
    count = let q = h.count in omega arith;
    sorted = inserted-sorted t n k w r t' f h.sorted d;
    agrees = λ j m b.
        inserted-lookup t n k w r t' f h.sorted d (key_of j m)
        ∙ rw (h.agrees j m b, e) (sym (entry_first (record { name = i; element = l; word = w }) es j m a b));
  }

-- ---- variables

variable-first : (v : Variable) (vs : List Variable) (i : ℕ) (l : List ℤ) → Keyed v.name v.element → Keyed i l
    → number_of i l (v ∷ vs) ≡ cond (eqb (key_of i l) (variable_key v)) (Some 0) (later (number_of i l vs))
unfolding number_of same_variable
variable-first v vs i l a b = go (eqb v.name i && same_element v.element l) (key-same a b)
  where
    go : (u : Bool) → u ≡ eqb (key_of i l) (variable_key v)
        → elim u as (λ _. Option ℕ) [ true ↦ Some 0 | false ↦ later (number_of i l vs) ] ≡ cond (eqb (key_of i l) (variable_key v)) (Some 0) (later (number_of i l vs))
    go true e = rw (← e)
    go false e = rw (← e)

-- one variable more, behind the others: found there where it is not found before
or_else : Option ℕ → Option ℕ → Option ℕ
or_else None o = o
or_else (Some j) o = Some j

later-or : (b : Bool) (o : Option ℕ) (n : ℕ) → later (or_else o (cond b (Some n) None)) ≡ or_else (later o) (cond b (Some (suc n)) None)
unfolding or_else
later-or true None n = refl
later-or false None n = refl
later-or b (Some j) n = refl

number-last : (v : Variable) (vs : List Variable) (i : ℕ) (l : List ℤ) → Keyed v.name v.element → Keyed i l
    → number_of i l (vs ++ (v ∷ [])) ≡ or_else (number_of i l vs) (cond (eqb (key_of i l) (variable_key v)) (Some (length vs)) None)
unfolding number_of or_else same_variable
number-last v [] i l a b = variable-first v [] i l a b
number-last v (u ∷ vs) i l a b = go (eqb u.name i && same_element u.element l) (number-last v vs i l a b)
  where
    go : (x : Bool) → number_of i l (vs ++ (v ∷ [])) ≡ or_else (number_of i l vs) (cond (eqb (key_of i l) (variable_key v)) (Some (length vs)) None)
        → elim x as (λ _. Option ℕ) [ true ↦ Some 0 | false ↦ later (number_of i l (vs ++ (v ∷ []))) ]
        ≡ or_else (elim x as (λ _. Option ℕ) [ true ↦ Some 0 | false ↦ later (number_of i l vs) ]) (cond (eqb (key_of i l) (variable_key v)) (Some (suc (length vs))) None)
    go true e = refl
    go false e = ap later e ∙ later-or (eqb (key_of i l) (variable_key v)) (number_of i l vs) (length vs)

pub numbered-none : (t : Table) → Numbered t 0 []
unfolding number_of same_variable
numbered-none t = record {
  count = refl;
  sorted = sorted_none t;
  keys = λ j d h. absurd (omega arith);
  agrees = λ i l a. row-none t 0 (key_of i l) (λ p h e. omega arith);
}

row_number : (o : Option ℕ) (j : ℕ) → Some j ≡ o → o ≡ Some j
row_number None j e = absurd (let z : ◌≡◌ {A = ℕ} 0 1 = cc in omega arith)
row_number (Some x) j e = cc

no_number_lem : (o : Option ℕ) → None ≡ o → o ≡ None
no_number_lem None e = refl
no_number_lem (Some x) e = absurd (let z : ◌≡◌ {A = ℕ} 0 1 = cc in omega arith)

-- by the contracts of `key_of` and of `find`
module _ (t : Table) (n : ℕ) (vs : List Variable) (i : ℕ) (l : List ℤ) (k : ℕ) (h : Numbered t n vs) (a : Keyed i l) (e : k ≡ key_of i l) where
  numbered : row_of t n k ≡ (number_of i l vs)
  numbered = rw e (h.agrees i l a)

  pub numbered-at : (f : Option ℕ) (j : ℕ) → f ≡ found_row t n k → f ≡ Some j → number_of i l vs ≡ Some j
  numbered-at f j g p = row_number (number_of i l vs) j (sym p ∙ (finds-row t n k f g).is_row h.sorted ∙ numbered)

  pub numbered-nothing : (f : Option ℕ) → f ≡ found_row t n k → f ≡ None → number_of i l vs ≡ None
  numbered-nothing f g p = no_number_lem (number_of i l vs) (sym p ∙ (finds-row t n k f g).is_row h.sorted ∙ numbered)

-- the last variable's key
pub numbered-last : (t : Table) (vs : List Variable) (v : Variable) → Numbered t (length vs + 1) (vs ++ (v ∷ [])) → key_at t (length vs) ≡ variable_key v
numbered-last t vs v h = h.keys (length vs) v (omega arith) ∙ ap variable_key (get_or_at vs v [] v (length vs) refl)

or-none : (o : Option ℕ) → or_else o None ≡ o
unfolding or_else
or-none None = refl
or-none (Some j) = refl

-- a row appended whose key is above the last
module _ (t : Table) (n : ℕ) (vs : List Variable) (v : Variable) (k : Key) (w : ℕ) (h : Numbered t n vs) (a : Keyed v.name v.element)
    (e : key_number k ≡ variable_key v) (r : has_room t n ≡ true) (b : 0 < n → key_at t (n - 1) < variable_key v) where
  grown : Grown t n n (variable_key v) w (appended t n k w)
  grown = rw e at (grown-append t n k w r)

  below : (p : ℕ) → p < n → key_at t p < variable_key v
  below = above-last t n (variable_key v) h.sorted b

  key-of : (j : ℕ) (d : Variable) → j < n + 1 → key_at (appended t n k w) j ≡ variable_key (get_or (vs ++ (v ∷ [])) j d)
  key-of j d f = ⊎_elim
      (λ q. ap (λ (p : ℕ). key_at (appended t n k w) p) q ∙ grown.key ∙ ap variable_key (sym (get_or_at vs v [] d j (sym h.count ∙ sym q))))
      (λ q. key-before t n n (variable_key v) w (appended t n k w) grown j q ∙ h.keys j d q ∙ ap variable_key (sym (get_or-append vs (v ∷ []) d j (omega (arith, h.count)))))
      (eq-or-lt_of_le {n = j} {m = n} (omega arith))

  row-of : (i : ℕ) (l : List ℤ) → Keyed i l → row_of (appended t n k w) (n + 1) (key_of i l) ≡ (number_of i l (vs ++ (v ∷ [])))
  unfolding or_else
  row-of i l c = rw (number-last v vs i l a c) (last_row t n (variable_key v) w (appended t n k w) grown h.sorted below (key_of i l) ∙ go (eqb (key_of i l) (variable_key v)) refl)
    where
      unknown : key_of i l ≡ variable_key v → number_of i l vs ≡ None
      unknown q = no_number_lem (number_of i l vs) (sym (row-none t n (key_of i l) (λ p f g. omega (arith, below p f))) ∙ h.agrees i l c)

      go : (x : Bool) → eqb (key_of i l) (variable_key v) ≡ x
          → cond x (Some n) (row_of t n (key_of i l)) ≡ (or_else (number_of i l vs) (cond x (Some (length vs)) None))
      go true q = rw (unknown (eqb-true (key_of i l) (variable_key v) q)) (ap Some h.count)
      go false q = h.agrees i l c ∙ (sym (or-none (number_of i l vs)))

  pub numbered-append : Numbered (appended t n k w) (n + 1) (vs ++ (v ∷ []))
  numbered-append = record {
    count = simp length-append (let q = h.count in omega arith);
    sorted = last-sorted t n (variable_key v) w (appended t n k w) grown h.sorted below;
    keys = key-of;
    agrees = row-of;
  }
