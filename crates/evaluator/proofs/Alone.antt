-- Laws of a formula of one token: it reads as the walk does. Each is put together from the laws of the walk's functions.
use Rattle.std.specs.Prelude.{Err, None, Ok, Option, Result, Some}
use Rattle.std.specs.Result.{result_ok}
use Rattle.rules.specs.declared.Refused.{Refused}
use mathlib.Core.Path.{◌≡◌, refl, sym, ◌∙◌, ap, subst}
use mathlib.Core.Bool.{Bool, true, false, not, ◌||◌}
use mathlib.Core.List.{List, []}
use Prim.Native.Nat.{ℕ, zero, suc, ◌+◌, ◌-◌, ◌/◌, ◌%◌, ◌^◌, ◌<◌, ◌≤◌}
use native.Mathlib.Omega.{arith}
use lib.Dec.{eqb}
use lib.ListN.{length, get_or}
use lib.IntN.{ℤ, pos}
use lib.Signed.{mag}
use mir.Syntax.{w64}
use mir.Val.{to_z, of_z}
use borrow.Author.Tests.{ne_eqb, not-true, not-false}
use Rattle.rules.specs.declared.Refusal.TheVariants.{Outside}
use Rattle.value.specs.declared.Value.{Value}
use Rattle.value.specs.Decimal.{floor_of, ceiling_of}
use Rattle.value.proofs.Integers.{back}
use Rattle.tokens.specs.declared.Seen.{Seen}
use Rattle.tokens.specs.Stored.{Looks}
use Rattle.tokens.proofs.Tables.{false-true}
use Rattle.store.specs.declared.Element.{Element}
use Rattle.store.specs.declared.Key.{Key}
use Rattle.store.specs.Element.{list_of}
use Rattle.store.specs.Key.{key_number, key_of}
use Rattle.store.specs.Table.{word_in, Finds}
use Rattle.store.specs.Few.{items_of, one_more}
use Rattle.store.proofs.Fews.{none-is, length-few, length-more, items-are}
use Rattle.onepass.specs.Walk.{walk_within, in_domain_walk}
use Rattle.language.specs.Model.{what_of}
use Rattle.evaluator.specs.declared.steps.scope.Binding.{Binding as HeldBinding}
use Rattle.evaluator.specs.declared.steps.scope.Scope.{Scope as Held}
use Rattle.evaluator.specs.declared.steps.names.Listed.{Listed}
use Rattle.evaluator.specs.declared.steps.values.Limits.{Limits}
use Rattle.evaluator.specs.declared.steps.values.Bounds.{Bounds}
use Rattle.evaluator.specs.Steps.Names.{number_part, listed_of, index_number}
use Rattle.evaluator.specs.Steps.Passing.{Skips}
use Rattle.evaluator.specs.Steps.Scopes.{bindings_of, bound_more}
use Rattle.evaluator.specs.Steps.Values.{signed_value, bound_answer, inside_limits, word_answer}
use Rattle.evaluator.specs.Tables.{World}
use Rattle.evaluator.specs.Cycle.{part_in, Values, NamedIs, DatumIs, WithinIs, seen_by, nothing_bound, tokens_at}
use Rattle.evaluator.specs.Alone.{BoundAs, NameIs, NameAlone, TokenValue, TokenIs, TokenAlone, SingleIs, FormulaAlone, EntryLimits, EntryFixed, WithinFixed}
use Rattle.evaluator.proofs.steps.Answers.{early-is}
use Rattle.evaluator.proofs.steps.Passed.{skips-seen, leads-none}
use Rattle.evaluator.proofs.steps.Scopes.{none-bound, bind-more}
use Rattle.evaluator.proofs.Laws.{term-rest, formula-rest, inside-formula, part-skip}
use Rattle.evaluator.proofs.Loops.{factors-start, factors-end, summands-start, summands-end}
use Rattle.evaluator.proofs.Primaries.{primary-literal, primary-name}
use Rattle.evaluator.proofs.Names.{named-index, named-datum, datum-known}
use Rattle.evaluator.proofs.Entries.{bounds-both, entry-bounds}
use Rattle.evaluator.proofs.Lists.{WithinOn, subscripts-point, within-start, within_end, within-outside, within_on}
use Rattle.store.specs.Table.{Table}

-- a token that was seen, by the `Option` of the call's `Result`
pub seen-ok : (t : Result Seen Refused) (o : Option Seen) (w : Seen) → o ≡ result_ok t → o ≡ Some w → t ≡ Ok w
seen-ok (Ok x) o w f e = let y : ◌≡◌ {A = Option Seen} (Some x) (Some w) = sym f ∙ e in cc
seen-ok (Err x) o w f e = absurd (let z : ◌≡◌ {A = ℕ} 0 1 = cc in omega arith)

-- an element without numbers is in its domain
within_none : (ns ts : List ℕ) (ds : Table) (given level at : ℕ) (e : Element) (p : ℕ) → list_of e ≡ [] → WithinIs ns ts ds given level at e p (Ok tt)
unfolding walk_within
within_none ns ts ds given level at e p f = record {
  is = λ w s. ap (λ ks. what_of (walk_within (seen_by w level) (in_domain_walk (seen_by w level)) ks (nothing_bound w) p (tokens_at w at))) f;
}

-- ---- a name

module _ (ds : Table) (given level : ℕ) (o : Option Held) (at : ℕ) (x : Option Listed) (p : ℕ) (y : Listed) (e : x ≡ Some y) (h : y.number < level) (r : Result (Value × ℕ) Refused) (u : Option (Value × ℕ)) (f : u ≡ result_ok r) where
  -- by what the `Result` gives
  alone-ok : ((sc : Held) → BoundAs o sc → (ns ts : List ℕ) (n : ℕ) → NamedIs n p ns ts ds given level sc at x r) → NameAlone ds given level o at x p u
  alone-ok k = record { is = λ sc b. go sc b r refl }
    where
      go : (sc : Held) → BoundAs o sc → (z : Result (Value × ℕ) Refused) → r ≡ z → NameIs ds given level sc at x p u
      go sc b (Ok (v, a)) e = rw (f, e) (record { is = λ ns ts n. subst (NamedIs n p ns ts ds given level sc at x) e (k sc b ns ts n) })
      go sc b (Err z) e = rw (f, e) tt

  pub alone-index : (s : Held) → o ≡ Some s → y.sort ≡ 0 → r ≡ bound_answer p at s y.number → NameAlone ds given level o at x p u
  alone-index s i z b =
      alone-ok (λ sc k ns ts n.
      let d : s ≡ sc = subst (λ o. BoundAs o sc) i k in
      named-index ns ts ds given level sc n p at x y e h r z (b ∙ ap (λ s. bound_answer p at s y.number) d))

  pub alone-datum : y.count ≡ 0 → (eqb y.sort 1 || eqb y.sort 2) ≡ true → (l : Element) → list_of l ≡ [] → (k : Key) → key_number k ≡ key_of y.number (list_of l) → (g : Option ℕ) → Finds ds given (key_number k) g
      → r ≡ word_answer p at (word_in ds g) → NameAlone ds given level o at x p u
  alone-datum z t l q k v g b c = alone-ok (λ sc k ns ts n. named-datum ns ts ds given level sc n p at x y e h r t (datum sc ns ts n))
    where
      here : (sc : Held) (ns ts : List ℕ) (n : ℕ) → World ns ts ds given → DatumIs n y.number y.count y.start p ns ts ds given level sc at r
      here sc ns ts n w =
          let none = subscripts-point n p y.count ns ts ds given level sc at l q z in
          let test = within_none ns ts ds given y.number y.start l p q in
          datum-known ns ts ds given level sc n y.number y.count y.start p at (Ok (l, at)) none l at refl (Ok tt) test refl r (early-is ds given y.number p at (list_of l) k g v r c b w.tables.stored.sorted)

      datum : (sc : Held) (ns ts : List ℕ) (n : ℕ) → DatumIs n y.number y.count y.start p ns ts ds given level sc at r
      datum sc ns ts n = record { is = λ w. (here sc ns ts n w).is w; valid = λ w. (here sc ns ts n w).valid w }

-- ---- a token

-- a literal is no sign
no_sign_lem : (k : ℕ) → (eqb k 2 || eqb k 3) ≡ true → (eqb k 43 || eqb k 45) ≡ false
no_sign_lem zero i = refl
no_sign_lem (suc zero) i = refl
no_sign_lem (suc (suc zero)) i = refl
no_sign_lem (suc (suc (suc zero))) i = refl
no_sign_lem (suc (suc (suc (suc k)))) i =
    let e : (eqb (suc (suc (suc (suc k)))) 2 || eqb (suc (suc (suc (suc k)))) 3) ≡ false = rw (ne_eqb (suc (suc (suc (suc k)))) 2 (λ e. omega arith), ne_eqb (suc (suc (suc (suc k)))) 3 (λ e. omega arith)) refl in
    absurd (false-true (sym e ∙ i))

module _ (ns ts : List ℕ) (ds : Table) (given level : ℕ) (o : Option Held) (at : ℕ) (t : Result Seen Refused) (h : Looks ts at t) (w : Seen) (e : t ≡ Ok w) where
  pub alone-literal : (v : Value) → (eqb w.kind 2 || eqb w.kind 3) ≡ true → v ≡ record { m = pos (w.payload / 8); s = w.payload % 8 } → TokenAlone ns ts ds given level o at (Some (v, w.next))
  alone-literal v i j = record { is = λ sc b. record { leads = leads-none ts at t h w e (no_sign_lem w.kind i); is = λ n. primary-literal ns ts ds given level sc n at t h w e v i j } }

  pub alone-name : (u : Option Listed) (r : Option (Value × ℕ)) → w.kind ≡ 1 → u ≡ listed_of ns (number_part (get_or ts at 0)) → NameAlone ds given level o w.next u w.place r → TokenAlone ns ts ds given level o at r
  alone-name u r i j f = record { is = λ sc b. go sc r (f.is sc b) }
    where
      go : (sc : Held) (r : Option (Value × ℕ)) → NameIs ds given level sc w.next u w.place r → TokenIs ns ts ds given level sc at r
      go sc (Some (v, a)) g = record { leads = leads-none ts at t h w e (rw i); is = λ n. primary-name ns ts ds given level sc n at t h w e u (Ok (v, a)) i j (g.is ns ts n) }
      go sc None g = tt

-- ---- a formula

module _ (n : ℕ) (ns ts : List ℕ) (ds : Table) (given level : ℕ) (sc : Held) (at : ℕ) where
  -- the special case reads as the walk does
  single-value : (v : Value) (a : ℕ) → TokenValue ns ts ds given level sc at v a → (t : Result Seen Refused) → Looks ts a t → (w : Seen) → t ≡ Ok w
      → (n ≡ 0 → ⊥) → (w.kind ≡ 42 → ⊥) → (eqb w.kind 43 || eqb w.kind 45) ≡ false → Values (part_in n) ns ts ds given level sc at (Ok (v, w.next))
  unfolding signed_value
  single-value v a y t h w e z i j =
      let m : ℕ = n - 1 in
      let factors = factors-end ns ts ds given level sc a v m 0 a v (factors-start ns ts ds given level sc a v m) t (omega arith) h w e i in
      let term = term-rest ns ts ds given level sc m at (Ok (v, a)) (y.is m) v a (Ok (v, a)) refl factors in
      let summands = summands-end ns ts ds given level sc a v m 0 a v (summands-start ns ts ds given level sc a v m) t (omega arith) h w e j in
      let formula = formula-rest ns ts ds given level sc m at (Ok (false, at)) y.leads false at refl (Ok (v, a)) term v v a (Ok (v, a)) refl refl summands in
      let inside = inside-formula ns ts ds given level sc n at (Ok (v, a)) z formula in
      part-skip ns ts ds given level sc n at (Ok (v, a)) inside v a w.next refl (skips-seen ts a w t h e)

module _ (ns ts : List ℕ) (ds : Table) (given level : ℕ) (o : Option Held) (at : ℕ) where
  pub single-is : (r : Option (Value × ℕ)) → TokenAlone ns ts ds given level o at r → (v : Value) (a : ℕ) → r ≡ Some (v, a) → (t : Result Seen Refused) → Looks ts a t → (w : Seen) → t ≡ Ok w
      → (w.kind ≡ 42 → ⊥) → (eqb w.kind 43 || eqb w.kind 45) ≡ false → FormulaAlone ns ts ds given level o at (Some (v, w.next))
  single-is r y v a f t h w e i j = record { is = λ n z sc b. single-value n ns ts ds given level sc at v a (subst (TokenIs ns ts ds given level sc at) f (y.is sc b)) t h w e z i j }

pub part-single : (n : ℕ) (ns ts : List ℕ) (ds : Table) (given level : ℕ) (sc : Held) (at : ℕ) (r : Option (Value × ℕ)) → FormulaAlone ns ts ds given level (Some sc) at r
    → (n ≡ 0 → ⊥) → (x : Value × ℕ) → r ≡ Some x → Values (part_in n) ns ts ds given level sc at (Ok x)
part-single n ns ts ds given level sc at r y z (v, a) f = subst (SingleIs n ns ts ds given level sc at) f (y.is n z sc refl)

-- ---- the same whatever is bound

module _ (ns ts : List ℕ) (ds : Table) (given level at : ℕ) where
  -- such an entry reads as the walk does
  pub entry-fixed : (r : Option (Value × ℕ)) → FormulaAlone ns ts ds given level None at r → (v : Value) (a : ℕ) → r ≡ Some (v, a)
      → (t : Result Seen Refused) → Looks ts a t → (y : Seen) → t ≡ Ok y → (c : ℕ) → Skips ts y.next c
      → (z : Option (Value × ℕ)) → FormulaAlone ns ts ds given level None c z → (w : Value) (d : ℕ) → z ≡ Some (w, d)
      → (l : Limits) → l ≡ record { lower = ceiling_of v; upper = floor_of w } → EntryLimits ns ts ds given level at l d
  entry-fixed r i v a e t h y j c s z o w d q l m = record {
    number = index_number level (get_or ts a 0);
    place = y.place;
    is = λ sc.
        let lower = subst (SingleIs 12 ns ts ds given level sc at) e (i.is 12 (λ z. omega arith) sc tt) in
        let upper = subst (SingleIs 12 ns ts ds given level sc c) q (o.is 12 (λ z. omega arith) sc tt) in
        let bounds = bounds-both ns ts ds given level sc 12 a v t h y j c s (Ok (w, d)) upper w d _ _ refl refl (ap (λ l. record { number = index_number level (get_or ts a 0); place = y.place; limits = l }) m) in
        entry-bounds ns ts ds given level sc 12 at (Ok (v, a)) lower v a _ refl bounds;
  }

-- ---- a domain test by such entries

-- a scope with one index more
held_more : (s : Held) (i : ℕ) (k : ℤ) → (t : Held) × (bindings_of t ≡ bound_more i k (bindings_of s))
held_more s i k =
    let l : List HeldBinding = one_more (items_of s.bound) (record { name = i; at = k }) in
    let t : Held = record { bound = record { count = 4; items = l } } in
    (t, bind-more s t i k (items-are l (length-more (items_of s.bound) (record { name = i; at = k }) (length-few s.bound))))

module _ (ns ts : List ℕ) (ds : Table) (given level at : ℕ) (e : Element) (p : ℕ) where
  -- the walk has come to position a and the j-th number, under some scope
  pub record FixedOn (a j : ℕ) : Type 0 where
    pub scope : Held
    pub on : WithinOn ns ts ds given level at e p scope a j

  pub fixed-start : FixedOn at 0
  fixed-start =
      let none : Held = record { bound = record { count = 0; items = [] } } in
      record { scope = none; on = within-start ns ts ds given level at e p none (none-bound none (none-is [])) }

  module _ (a j n : ℕ) (o : FixedOn a j) (f : n ≡ length (list_of e)) where
    pub fixed-end : n ≤ j → WithinIs ns ts ds given level at e p (Ok tt)
    fixed-end h = within_end ns ts ds given level at e p o.scope a j n o.on f h

    module _ (h : j < n) (r : Option (Limits × ℕ)) (i : EntryFixed ns ts ds given level a r) (l : Limits) (b : ℕ) (g : r ≡ Some (l, b)) (k : ℤ) (q : k ≡ get_or (list_of e) j (pos 0)) (m : mag k < 2 ^ 63) (x : Bool) (y : x ≡ inside_limits l (to_z w64 (of_z w64 k))) where
      entry : EntryLimits ns ts ds given level a l b
      entry = subst (EntryFixed ns ts ds given level a) g i

      bounds : Bounds
      bounds = record { number = entry.number; place = entry.place; limits = l }

      inside : inside_limits l (get_or (list_of e) j (pos 0)) ≡ x
      inside = ap (inside_limits l) (sym (back {z = k} m ∙ q)) ∙ sym y

      pub fixed-outside : not x ≡ true → WithinIs ns ts ds given level at e p (Err (record { refusal = Outside; place = p }))
      unfolding bounds
      fixed-outside u = within-outside ns ts ds given level at e p o.scope a j n o.on f h (Ok (bounds, b)) (entry.is o.scope) bounds b refl (Err (record { refusal = Outside; place = p }))
          (record { is = (inside ∙ not-true x u, refl, refl) }) (record { refusal = Outside; place = p }) refl

      pub fixed_on : not x ≡ false → FixedOn b (j + 1)
      unfolding bounds
      fixed_on u =
          let more = held_more o.scope entry.number (get_or (list_of e) j (pos 0)) in
          record {
            scope = more.0;
            on = within_on ns ts ds given level at e p o.scope a j n o.on f h (Ok (bounds, b)) (entry.is o.scope) bounds b refl (Ok more.0)
                (record { is = (inside ∙ not-false x u, more.1) }) more.0 refl;
          }

  pub within-tried : (r : Option (Result Unit Refused)) → WithinFixed ns ts ds given level at e p r → (t : Result Unit Refused) → r ≡ Some t → WithinIs ns ts ds given level at e p t
  within-tried r y t f = subst (WithinFixed ns ts ds given level at e p) f y
