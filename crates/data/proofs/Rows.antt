-- Laws of the store's table: what it holds by name and element, and one datum more.
use Rattle.std.specs.Prelude.{Result, Err, Ok, Option, Some, None}
use mathlib.Core.Path.{◌≡◌, refl, sym, ◌∙◌, ap, subst}
use mathlib.Core.Bool.{Bool, true, false, ◌&&◌}
use mathlib.Core.List.{List, [], ◌∷◌, map}
use Prim.Native.Nat.{ℕ, zero, suc, ◌+◌, ◌<◌, ◌≤◌}
use native.Mathlib.Omega.{arith}
use borrow.Author.Tests.{ltb-true}
use lib.Dec.{eqb, ltb}
use lib.ListN.{length, get_or}
use lib.IntN.{ℤ, pos, nat_abs}
use Rattle.rules.specs.declared.Refusal.TheVariants.{Missing, Full}
use Rattle.rules.specs.Limits.{data_limit, mantissa_limit}
use Rattle.value.specs.declared.Value.{Value}
use Rattle.language.specs.Scope.{same_element}
use Rattle.language.specs.Evaluation.{is_none}
use Rattle.language.specs.Store.{Store, stored, scope_of}
use Rattle.language.specs.Valid.{SmallElement, ValidStore}
use Rattle.language.proofs.ValidStore.{scope-valid}
use Rattle.store.specs.declared.InsertError.{InsertError}
use Rattle.store.specs.declared.InsertError.TheVariants.{Present, NoRoom}
use Rattle.store.specs.Key.{key_of}
use Rattle.store.specs.Table.{Table, place_of, has_room, insertion_at, insertion_of, Says, Inserted}
use Rattle.store.specs.Packed.{packed}
use Rattle.store.specs.Entries.{Keyed, word_of, Holds}
use Rattle.store.proofs.Words.{unpacked-packed}
use Rattle.store.proofs.Rows.{room-rows}
use Rattle.store.proofs.Held.{holds-none, holds-answer, holds-insert}
use Rattle.evaluator.specs.Tables.{value_in, Given}
use Rattle.data.specs.Stores.{row_of, Stores, entering, Enters}

-- ---- elements

-- numbers that are small at every position
pub small-element : (l : List ℤ) → ((i : ℕ) → nat_abs (get_or l i (pos 0)) ≤ mantissa_limit) → SmallElement l
small-element [] h = tt
small-element (k ∷ l) h = (h 0, small-element l (λ i. h (suc i)))

pub element-small : (l : List ℤ) → SmallElement l → (i : ℕ) → nat_abs (get_or l i (pos 0)) ≤ mantissa_limit
unfolding mantissa_limit
element-small [] h i = omega arith
element-small (k ∷ l) h zero = h.0
element-small (k ∷ l) h (suc i) = element-small l h.1 i

-- ---- what the rows hold

stored-word : (st : Store) → ValidStore st → (i : ℕ) (l : List ℤ) → stored st i l ≡ value_in (word_of (map row_of st) i l)
unfolding stored word_of
stored-word [] h i l = refl
stored-word (x ∷ st) h i l = go (eqb x.name i && same_element x.element l) (stored-word st h.1 i l)
  where
    go : (b : Bool) → stored st i l ≡ value_in (word_of (map row_of st) i l)
        → ◌≡◌ {A = Option Value} (elim b as (λ _. Option Value) [ true ↦ Some x.value | false ↦ stored st i l ])
        (value_in (elim b as (λ _. Option ℕ) [ true ↦ Some (packed x.value) | false ↦ word_of (map row_of st) i l ]))
    go true f = ap Some (sym (unpacked-packed x.value h.0.value.small h.0.value.places))
    go false f = f

pub stores-none : (ds : Table) → Stores ds 0 []
stores-none ds = record { holds = holds-none ds; valid = tt }

rows-length : (st : Store) → length (map row_of st) ≡ length st
rows-length [] = refl
rows-length (x ∷ st) = ap suc (rows-length st)

module _ (ds : Table) (n : ℕ) (st : Store) (h : Stores ds n st) where
  pub stores-count : length st ≡ n
  stores-count = sym (h.holds.count ∙ rows-length st)

  -- evaluation reads what is stored
  pub stores-given : Given ds n (stored st)
  unfolding scope_of
  stores-given =
      record {
        sorted = h.holds.sorted;
        agrees = λ i ks k. stored-word st h.valid i ks ∙ ap value_in (sym (h.holds.agrees i ks k));
        valid = λ i ks v e. (scope-valid st h.valid).known i ks v e;
      }

-- ---- one datum more

-- a row that was inserted has room
pub inserted-room : (ds : Table) (given key word : ℕ) (r : Result (Unit {0}) InsertError) (ds' : Table) → Inserted ds given key word r ds' → r ≡ Ok tt → given < length ds
unfolding has_room insertion_of
inserted-room ds given key word r ds' f d = ltb-true given (length ds) (go (place_of ds given key) (ltb given (length ds)) (sym f.answer ∙ d))
  where
    go : (x : Result ℕ ℕ) (b : Bool) → insertion_at x b ≡ Ok tt → b ≡ true
    go (Ok i) b e = absurd (let z : ◌≡◌ {A = ℕ} 0 1 = cc in omega arith)
    go (Err at) true e = refl
    go (Err at) false e = absurd (let z : ◌≡◌ {A = ℕ} 0 1 = cc in omega arith)

module _ (ds : Table) (given i : ℕ) (e : List ℤ) (p : ℕ) (v : Value) (key word : ℕ) (r : Result (Unit {0}) InsertError) (ds' : Table) (k : key ≡ key_of i e) (w : word ≡ packed v)
    (f : Inserted ds given key word r ds') where
  -- what the answer says of the store
  says : (st : Store) → Stores ds given st → Keyed i e → Says r (word_of (map row_of st) i e) (has_room ds given)
  says st h a = holds-answer ds given (map row_of st) i e key h.holds a k word r ds' f

  unset : (st : Store) → Stores ds given st → word_of (map row_of st) i e ≡ None → is_none (stored st i e) ≡ true
  unset st h o = ap is_none (stored-word st h.valid i e ∙ ap value_in o)

  pub enter-present : r ≡ Err Present → Enters ds given i e p v (Err (record { refusal = Missing; place = p })) ds'
  unfolding entering
  enter-present d =
      record {
        is = λ st h a u.
            let (z, o) = subst (λ r. Says r (word_of (map row_of st) i e) (has_room ds given)) d (says st h a) in
            rw (ap is_none (stored-word st h.valid i e ∙ ap value_in o)) (refl, refl);
      }

  module _ (size : length ds ≡ 2048) where
    room : (st : Store) → Stores ds given st → (b : Bool) → has_room ds given ≡ b → ltb (length st) data_limit ≡ b
    unfolding data_limit
    room st h b o = ap (λ n. ltb n 2048) (stores-count ds given st h) ∙ sym (room-rows ds given 2048 size) ∙ o

    pub enter-full : r ≡ Err NoRoom → Enters ds given i e p v (Err (record { refusal = Full; place = p })) ds'
    unfolding entering
    enter-full d =
        record {
          is = λ st h a u.
              let (o, q) = subst (λ r. Says r (word_of (map row_of st) i e) (has_room ds given)) d (says st h a) in
              rw (unset st h o, room st h false q) (refl, refl);
        }

    pub enter-done : r ≡ Ok tt → Enters ds given i e p v (Ok (given + 1)) ds'
    unfolding entering
    enter-done d =
        record {
          is = λ st h a u.
              let (o, q) = subst (λ r. Says r (word_of (map row_of st) i e) (has_room ds given)) d (says st h a) in
              rw (unset st h o, room st h true q)
              (record {
                holds = subst (λ w. Holds ds' (given + 1) (record { name = i; element = e; word = w } ∷ map row_of st)) w (holds-insert ds given (map row_of st) i e key h.holds a k word r ds' f d);
                valid = (record { value = u; element = small-element e a.subscripts.small }, h.valid);
              });
        }
