-- Laws over plain variables for primaries.
use Rattle.std.specs.Prelude.{Err, None, Ok, Option, Result, Some}
use Rattle.rules.specs.declared.Refused.{Refused}
use mathlib.Core.Path.{◌≡◌, refl, sym, ◌∙◌, subst}
use mathlib.Core.Bool.{true, false, ◌||◌}
use mathlib.Core.List.{List, ◌∷◌}
use Prim.Native.Nat.{ℕ, zero, suc, ◌/◌, ◌%◌}
use native.Mathlib.Omega.{arith}
use lib.Dec.{eqb}
use lib.ListN.{get_or}
use lib.IntN.{pos}
use borrow.Author.Tests.{ne_eqb}
use Rattle.rules.specs.declared.Refusal.TheVariants.{Misplaced}
use Rattle.value.specs.declared.Value.{Value}
use Rattle.value.specs.Decimal.{Valid}
use Rattle.language.specs.Outcome.{refused}
use Rattle.onepass.specs.Walk.{walk_primary_by, walk_primary, walk_inside}
use Rattle.onepass.specs.Entries.{read}
use Rattle.onepass.proofs.Steps.{on}
use Rattle.tokens.specs.declared.Seen.{Seen}
use Rattle.tokens.specs.Stored.{name_bytes, spelling, kind_of, token, from, Sees, Looks, Shaped}
use Rattle.tokens.proofs.Tables.{false-true}
use Rattle.tokens.proofs.Moved.{next-is}
use Rattle.evaluator.specs.declared.steps.scope.Scope.{Scope as Held}
use Rattle.evaluator.specs.declared.steps.names.Listed.{Listed}
use Rattle.evaluator.specs.Steps.Scopes.{Small}
use Rattle.evaluator.specs.Steps.Names.{number_part, row_word, listed_of}
use Rattle.evaluator.proofs.steps.Numbers.{unknown, known, row-of, row-shaped}
use Rattle.evaluator.specs.Tables.{World}
use Rattle.evaluator.specs.Cycle.{primary_in, part_in, sum_in, value_outcome, ValidAnswer, seen_by, under, tokens_at, Values, Told, NamedIs}
use Rattle.evaluator.proofs.Laws.{stop}
use Rattle.store.specs.Table.{Table}

module _ (ns ts : List ℕ) (ds : Table) (given level : ℕ) (sc : Held) (n at : ℕ) (t : Result Seen Refused) (h : Looks ts at t) where
  pub primary-wrong : (e : Refused) → t ≡ Err e → Values (primary_in n) ns ts ds given level sc at (Err e)
  unfolding primary_in walk_primary
  primary-wrong z e = record { is = λ w g. stop _ _ z.refusal z.place (subst (Sees w.text ts at) e (h.sees w.text)).nexts; valid = λ w g. tt }

  module _ (seen : Seen) (e : t ≡ Ok seen) where
    sees : (w : World ns ts ds given) → Sees w.text ts at (Ok seen)
    sees w = subst (Sees w.text ts at) e (h.sees w.text)

    primary-by : (r : Result (Value × ℕ) Refused)
        → ((w : World ns ts ds given) → Small sc → walk_primary_by (seen_by w level) (walk_inside (seen_by w level) n) seen.place (kind_of w.text seen.kind seen.place seen.payload) (under w sc) (tokens_at w seen.next) ≡ value_outcome w.text ts r)
        → (World ns ts ds given → Small sc → ValidAnswer r) → Values (primary_in n) ns ts ds given level sc at r
    unfolding primary_in walk_primary token
    primary-by r f y = record { is = λ w g. on _ _ (token w.text seen.kind seen.place seen.payload) (tokens_at w seen.next) _ (next-is w.text ts at seen (sees w)) (f w g); valid = y }

    -- the kind k as another number that it is
    kind_at : (w : World ns ts ds given) (j : ℕ) (r : Result (Value × ℕ) Refused) → seen.kind ≡ j
        → walk_primary_by (seen_by w level) (walk_inside (seen_by w level) n) seen.place (kind_of w.text j seen.place seen.payload) (under w sc) (tokens_at w seen.next) ≡ value_outcome w.text ts r
        → walk_primary_by (seen_by w level) (walk_inside (seen_by w level) n) seen.place (kind_of w.text seen.kind seen.place seen.payload) (under w sc) (tokens_at w seen.next) ≡ value_outcome w.text ts r
    kind_at w j r i f =
        subst (λ k. walk_primary_by (seen_by w level) (walk_inside (seen_by w level) n) seen.place (kind_of w.text k seen.place seen.payload) (under w sc) (tokens_at w seen.next) ≡ value_outcome w.text ts r) (sym i) f

    pub primary-sum : (r : Result (Value × ℕ) Refused) → seen.kind ≡ 133 → Values (sum_in n seen.place) ns ts ds given level sc seen.next r → Values (primary_in n) ns ts ds given level sc at r
    unfolding walk_primary_by kind_of sum_in
    primary-sum r i f = primary-by r (λ w g. kind_at w 133 r i (f.is w g)) f.valid

    pub primary-part : (r : Result (Value × ℕ) Refused) → seen.kind ≡ 40 → Values (part_in n) ns ts ds given level sc seen.next r → Values (primary_in n) ns ts ds given level sc at r
    unfolding walk_primary_by kind_of part_in
    primary-part r i f = primary-by r (λ w g. kind_at w 40 r i (f.is w g)) f.valid

    pub primary-name : (v : Option Listed) (r : Result (Value × ℕ) Refused) → seen.kind ≡ 1 → v ≡ listed_of ns (number_part (get_or ts at 0)) → NamedIs n seen.place ns ts ds given level sc seen.next v r → Values (primary_in n) ns ts ds given level sc at r
    unfolding walk_primary_by kind_of
    primary-name v r i j f =
        primary-by r (λ w g. kind_at w 1 r i (f.is w g (spelling w.text seen.place (name_bytes seen.payload)) (told w))) (λ w g. f.valid w g (spelling w.text seen.place (name_bytes seen.payload)) (told w))
      where
        told : (w : World ns ts ds given) → Told w (spelling w.text seen.place (name_bytes seen.payload)) seen.place v
        told w = go v refl
          where
            go : (u : Option Listed) → v ≡ u → Told w (spelling w.text seen.place (name_bytes seen.payload)) seen.place u
            go None o = unknown w.text ns ts w.names w.tables.named w.tables.resolved at seen t h e i v j o
            go (Some y) o =
                let d = known w.text ns ts w.names w.tables.named w.tables.resolved at seen t h e i v j y o in
                let (q, z, row) = row-of w.text ns ts w.names w.tables.named w.tables.resolved at seen t h e i v j y o in
                record {
                  name = d.name;
                  stands = d.stands;
                  found = d.found;
                  late = d.late;
                  shaped = subst (λ k. Shaped d.name.sort k y.count) (sym q) (subst (Shaped d.name.sort (row_word ns y.number 2)) (sym z) (row-shaped w.text ns w.names y.number d.name w.tables.named d.stands));
                  row = row;
                }

    pub primary-literal : (v : Value) → (eqb seen.kind 2 || eqb seen.kind 3) ≡ true → v ≡ record { m = pos (seen.payload / 8); s = seen.payload % 8 } → Values (primary_in n) ns ts ds given level sc at (Ok (v, seen.next))
    unfolding walk_primary_by kind_of token
    primary-literal v i j = primary-by (Ok (v, seen.next)) (λ w g. rw j (is seen.kind i w)) (λ w g. rw j (valid seen.kind i w (sees w).1))
      where
        is : (k : ℕ) → (eqb k 2 || eqb k 3) ≡ true → (w : World ns ts ds given)
            → walk_primary_by (seen_by w level) (walk_inside (seen_by w level) n) seen.place (kind_of w.text k seen.place seen.payload) (under w sc) (tokens_at w seen.next) ≡ read (record { m = pos (seen.payload / 8); s = seen.payload % 8 }) (tokens_at w seen.next)
        is zero i w = absurd (false-true i)
        is (suc zero) i w = absurd (false-true i)
        is (suc (suc zero)) i w = refl
        is (suc (suc (suc zero))) i w = refl
        is (suc (suc (suc (suc k)))) i w =
            let e : (eqb (suc (suc (suc (suc k)))) 2 || eqb (suc (suc (suc (suc k)))) 3) ≡ false = rw (ne_eqb (suc (suc (suc (suc k)))) 2 (λ e. omega arith), ne_eqb (suc (suc (suc (suc k)))) 3 (λ e. omega arith)) refl in
            absurd (false-true (sym e ∙ i))

        valid : (k : ℕ) → (eqb k 2 || eqb k 3) ≡ true → (w : World ns ts ds given) → from w.text ts at ≡ token w.text k seen.place seen.payload ∷ tokens_at w seen.next → Valid (record { m = pos (seen.payload / 8); s = seen.payload % 8 })
        valid zero i w f = absurd (false-true i)
        valid (suc zero) i w f = absurd (false-true i)
        valid (suc (suc zero)) i w f = w.tables.literals at true (record { m = pos (seen.payload / 8); s = seen.payload % 8 }) seen.place (tokens_at w seen.next) f
        valid (suc (suc (suc zero))) i w f = w.tables.literals at false (record { m = pos (seen.payload / 8); s = seen.payload % 8 }) seen.place (tokens_at w seen.next) f
        valid (suc (suc (suc (suc k)))) i w f =
            let e : (eqb (suc (suc (suc (suc k)))) 2 || eqb (suc (suc (suc (suc k)))) 3) ≡ false = rw (ne_eqb (suc (suc (suc (suc k)))) 2 (λ e. omega arith), ne_eqb (suc (suc (suc (suc k)))) 3 (λ e. omega arith)) refl in
            absurd (false-true (sym e ∙ i))

    pub primary-other : (seen.kind ≡ 133 → ⊥) → (seen.kind ≡ 40 → ⊥) → (seen.kind ≡ 1 → ⊥) → (eqb seen.kind 2 || eqb seen.kind 3) ≡ false → Values (primary_in n) ns ts ds given level sc at (Err (record { refusal = Misplaced; place = seen.place }))
    unfolding walk_primary_by kind_of
    primary-other i j l o = primary-by (Err (record { refusal = Misplaced; place = seen.place })) (λ w g. go w seen.kind (sees w).0 i j l o) (λ w g. tt)
      where
        go : (w : World ns ts ds given) (k : ℕ) → (k ≡ 5 → ⊥) → (k ≡ 133 → ⊥) → (k ≡ 40 → ⊥) → (k ≡ 1 → ⊥) → (eqb k 2 || eqb k 3) ≡ false
            → walk_primary_by (seen_by w level) (walk_inside (seen_by w level) n) seen.place (kind_of w.text k seen.place seen.payload) (under w sc) (tokens_at w seen.next) ≡ refused Misplaced seen.place
        go w zero n5 i j l o = refl
        go w (suc zero) n5 i j l o = absurd (l refl)
        go w (suc (suc zero)) n5 i j l o = absurd (false-true (sym o))
        go w (suc (suc (suc zero))) n5 i j l o = absurd (false-true (sym o))
        go w (suc (suc (suc (suc zero)))) n5 i j l o = refl
        go w (suc (suc (suc (suc (suc zero))))) n5 i j l o = absurd (n5 refl)
        go w (suc (suc (suc (suc (suc (suc k)))))) n5 i j l o = rw (ne_eqb (suc (suc (suc (suc (suc (suc k)))))) 133 i, ne_eqb (suc (suc (suc (suc (suc (suc k)))))) 40 j) refl
