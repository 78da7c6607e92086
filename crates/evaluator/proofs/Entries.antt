-- Laws over plain variables for one entry of a domain.
use Rattle.std.specs.Prelude.{Err, Ok, Result}
use Rattle.rules.specs.declared.Refused.{Refused}
use Rattle.evaluator.specs.declared.steps.values.Bounds.{Bounds}
use mathlib.Core.Path.{◌≡◌, sym, ◌∙◌, ap, subst}
use mathlib.Core.List.{List}
use Prim.Native.Nat.{ℕ}
use lib.ListN.{get_or}
use Rattle.value.specs.declared.Value.{Value}
use Rattle.value.specs.Decimal.{floor_of, ceiling_of}
use Rattle.language.specs.Reader.{follow, give}
use Rattle.onepass.specs.Walk.{walk_entry}
use Rattle.onepass.specs.Entries.{read}
use Rattle.onepass.proofs.Steps.{on}
use Rattle.tokens.specs.declared.Seen.{Seen}
use Rattle.tokens.specs.Stored.{token, Sees, Looks}
use Rattle.tokens.proofs.Moved.{next-is}
use Rattle.evaluator.specs.declared.steps.scope.Scope.{Scope as Held}
use Rattle.evaluator.specs.declared.steps.values.Bounds as code
use Rattle.evaluator.specs.Steps.Passing.{Skips}
use Rattle.evaluator.specs.Steps.Names.{index_number}
use Rattle.evaluator.specs.Steps.Values.{limits_in, SmallLimits}
use Rattle.evaluator.proofs.steps.Numbers.{index_of}
use Rattle.evaluator.specs.Tables.{World}
use Rattle.evaluator.specs.Cycle.{part_in, entry_in, bounds_in, seen_by, under, tokens_at, Values, EntryIs, BoundsAre}
use Rattle.evaluator.proofs.Laws.{stop, rounded-small, refused-is, value-is, value-valid}
use Rattle.store.specs.Table.{Table}

module _ (ns ts : List ℕ) (ds : Table) (given level : ℕ) (sc : Held) where
  -- ---- behind the lower formula

  module _ (n at : ℕ) (v : Value) (t : Result Seen Refused) (h : Looks ts at t) where
    pub bounds-wrong : (e : Refused) → t ≡ Err e → BoundsAre (bounds_in n) ns ts ds given level sc at v (Err e)
    unfolding bounds_in
    bounds-wrong z e = record { is = λ w g y. stop _ _ z.refusal z.place (subst (Sees w.text ts at) e (h.sees w.text)).nexts; small = λ w g y. tt }

    module _ (seen : Seen) (e : t ≡ Ok seen) (a : ℕ) (s : Skips ts seen.next a) (z : Result (Value × ℕ) Refused) (y : Values (part_in n) ns ts ds given level sc a z) where
      -- past the index and the sign behind it
      to-upper : (w : World ns ts ds given) → bounds_in n v (seen_by w level) (under w sc) (tokens_at w at)
          ≡ follow (part_in n (seen_by w level) (under w sc) (tokens_at w a)) (λ u. give (record { number = index_number level (get_or ts at 0); place = seen.place; limits = record { lower = ceiling_of v; upper = floor_of u } }))
      unfolding bounds_in part_in token
      to-upper w =
          let d = subst (Sees w.text ts at) e (h.sees w.text) in
          let i = index_of w.text ns ts w.names w.tables.named w.tables.resolved level at seen d in
          on _ _ (token w.text seen.kind seen.place seen.payload) (tokens_at w seen.next) _ (next-is w.text ts at seen d)
          (on _ _ tt (tokens_at w a) _ (s.is w.text)
          (ap (λ i. follow (part_in n (seen_by w level) (under w sc) (tokens_at w a)) (λ u. give (record { number = i; place = seen.place; limits = record { lower = ceiling_of v; upper = floor_of u } }))) i))

      pub bounds-high : (e : Refused) → z ≡ Err e → BoundsAre (bounds_in n) ns ts ds given level sc at v (Err e)
      bounds-high z j = record { is = λ w g o. to-upper w ∙ stop _ _ z.refusal z.place (refused-is ns ts ds given level sc y j w g); small = λ w g o. tt }

      pub bounds-both : (u : Value) (c number : ℕ) (d : code.Bounds) → z ≡ Ok (u, c) → number ≡ index_number level (get_or ts at 0)
          → d ≡ record { number = number; place = seen.place; limits = record { lower = ceiling_of v; upper = floor_of u } } → BoundsAre (bounds_in n) ns ts ds given level sc at v (Ok (d, c))
      bounds-both u c number d j l q =
          record {
            is = λ w g valid.
                to-upper w
                ∙ on _ _ u (tokens_at w c) _ (value-is ns ts ds given level sc y j w g)
                (ap (λ number. read (record { number = number; place = seen.place; limits = record { lower = ceiling_of v; upper = floor_of u } }) (tokens_at w c)) (sym l)
                ∙ ap (λ (d : code.Bounds). read (record { number = d.number; place = d.place; limits = limits_in d.limits }) (tokens_at w c)) (sym q));
            small = λ w g valid. subst (λ (d : code.Bounds). SmallLimits d.limits) (sym q) (rounded-small v u valid (value-valid ns ts ds given level sc y j w g));
          }

  -- ---- one entry

  module _ (n at : ℕ) (r : Result (Value × ℕ) Refused) (h : Values (part_in n) ns ts ds given level sc at r) where
    pub entry-low : (e : Refused) → r ≡ Err e → EntryIs (entry_in n) ns ts ds given level sc at (Err e)
    unfolding entry_in walk_entry part_in
    entry-low z e = record { is = λ w g. stop _ _ z.refusal z.place (refused-is ns ts ds given level sc h e w g); small = λ w g. tt }

    pub entry-bounds : (v : Value) (a : ℕ) (z : Result (Bounds × ℕ) Refused) → r ≡ Ok (v, a) → BoundsAre (bounds_in n) ns ts ds given level sc a v z → EntryIs (entry_in n) ns ts ds given level sc at z
    unfolding entry_in walk_entry part_in bounds_in
    entry-bounds v a z e k =
        record {
          is = λ w g. on _ _ v (tokens_at w a) _ (value-is ns ts ds given level sc h e w g) (k.is w g (value-valid ns ts ds given level sc h e w g));
          small = λ w g. k.small w g (value-valid ns ts ds given level sc h e w g);
        }
