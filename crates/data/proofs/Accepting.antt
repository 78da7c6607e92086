-- Laws of one number over plain variables: its tests, and its row in the store.
use Rattle.std.specs.Prelude.{Err, Ok, Result, Option, Some, None, is_ok, ok_or}
use Rattle.rules.specs.declared.Refused.{Refused}
use mathlib.Core.Path.{◌≡◌, refl, sym, ◌∙◌, ap, subst}
use mathlib.Core.Bool.{Bool, true, false}
use mathlib.Core.List.{List}
use Prim.Native.Nat.{ℕ}
use native.Mathlib.Omega.{arith}
use lib.ListN.{take}
use lib.IntN.{ℤ}
use Rattle.rules.specs.declared.Refusal.TheVariants.{NotWhole}
use Rattle.rules.specs.Limits.{name_limit}
use Rattle.value.specs.declared.Value.{Value}
use Rattle.value.specs.Decimal.{Valid, whole_of}
use Rattle.language.specs.Outcome.{Outcome, done, refused, ◌>>=◌, whole_number, check}
use Rattle.language.specs.Reader.{follow, as_read, lift}
use Rattle.language.specs.Evaluation.{whole_at, within}
use Rattle.language.specs.Store.{Store, Portion, scope_of, whole_if, accept}
use Rattle.language.specs.Data.{read_number}
use Rattle.language.specs.Model.{what_of}
use Rattle.onepass.proofs.Steps.{what-as}
use Rattle.tokens.specs.Stored.{from}
use Rattle.onepass.proofs.WalkedDomain.{within-walk}
use Rattle.store.specs.declared.Element.{Element}
use Rattle.store.specs.Element.{list_of}
use Rattle.store.specs.Key.{name_bound}
use Rattle.evaluator.specs.Cycle.{passed_outcome, WithinIs}
use Rattle.evaluator.proofs.Names.{size-count}
use Rattle.data.specs.declared.reading.numbers.Numbered.{Numbered}
use Rattle.data.specs.Reading.Readers.{Says, numbered, Number as Signed, number_in}
use Rattle.data.proofs.reading.Joined.{number-joined}
use Rattle.data.specs.declared.running.Portion.{Portion as Worked}
use Rattle.data.specs.Stores.{Stores, StoreIs, entering, Enters}
use Rattle.data.specs.Taking.{Suits, Aims, Accepts, TakenIs, Takes}
use Rattle.data.proofs.PositionRuns.{world}
use Rattle.data.proofs.Smalls.{fitting-from, made, number-valid}
use Rattle.store.specs.Table.{Table}

-- ---- whole for an integer

pub suits-real : (whole : Bool) (v : Value) → whole ≡ false → Suits whole v true
unfolding whole_if
suits-real whole v e = record { is = λ p. rw e refl }

pub suits-whole : (whole : Bool) (v : Value) (r : Result ℤ Value) (b : Bool) → whole ≡ true → r ≡ ok_or (whole_of v) v → b ≡ is_ok r → Suits whole v b
unfolding whole_if whole_at
suits-whole whole v r b e h i = record { is = λ p. rw (e, i, h) (go p (whole_of v)) }
  where
    go : (p : ℕ) (o : Option ℤ) → (whole_number p o >>= λ _. done tt) ≡ check NotWhole p (is_ok (ok_or o v))
    go p None = refl
    go p (Some k) = refl

-- ---- the tests in their order

module _ (ns ts : List ℕ) (ds : Table) (given : ℕ) (h : Worked) (e : Element) (p : ℕ) (v : Value) (b : Bool) (f : Suits h.whole v b) where
  pub accept-unsuited : (ds' : Table) → b ≡ false → Accepts ns ts ds given h e p v (Err (record { refusal = NotWhole; place = p })) ds'
  unfolding accept
  accept-unsuited ds' i = record { is = λ s x a w st k. rw (a.portrays.whole, f.is p, i) (refl, refl) }

  module _ (i : b ≡ true) (t : Result Unit Refused) (g : WithinIs ns ts ds given h.name h.start e h.place t) where
    -- the domain test, as the definition has it
    tested : (s : List ℕ) (x : Portion) (a : Aims s ns ts h e x) (st : Store) → Stores ds given st → (o : Result Unit Refused) → t ≡ o
        → within x.domain (list_of e) (scope_of st) x.place ≡ passed_outcome o
    unfolding world scope_of
    tested s x a st k o q =
        let d = a.portrays.domain in
        rw a.portrays.place
        (sym (what-as (within x.domain (list_of e) (scope_of st) h.place) d.rest)
        ∙ ap what_of (sym (within-walk (take h.name a.ground.names) x.domain (list_of e) (a.long ∙ size-count x.domain) (scope_of st) h.place (from s ts h.start) d.rest d.reads))
        ∙ g.is (world s ns ts ds given st a.ground k) a.small ∙ ap passed_outcome q)

    pub accept-outside : (w : Refused) (ds' : Table) → t ≡ Err w → Accepts ns ts ds given h e p v (Err w) ds'
    unfolding accept
    accept-outside z ds' j =
        record { is = λ s x a w st k. rw (tested s x a st k (Err z) j, a.portrays.whole, f.is p, i) (refl, refl) }

    pub accept-enters : (r : Result ℕ Refused) (ds' : Table) → t ≡ Ok tt → Enters ds given h.name (list_of e) p v r ds' → Accepts ns ts ds given h e p v r ds'
    unfolding accept entering name_bound name_limit
    accept-enters r ds' j n =
        record {
          is = λ s x a w st k.
              rw (tested s x a st k (Ok tt) j, a.portrays.whole, f.is p, i, a.portrays.name)
              (n.is st k (record { named = omega (arith, a.portrays.known, a.ground.few); subscripts = a.small }) w);
        }

-- ---- a number that is read

module _ (ns ts : List ℕ) (ds : Table) (given at : ℕ) (h : Worked) (e : Element) (m : Result Numbered Refused) (f : Says numbered number_in ts at m) where
  number_is : (s : List ℕ) (x : Portion) (st : Store) (o : Result Numbered Refused) → m ≡ o
      → read_number x (list_of e) st (from s ts at) ≡ follow (numbered s ts o) (λ (n : Signed). lift (accept x (list_of e) n.sign n.value st))
  number_is s x st o q = number-joined x (list_of e) st (from s ts at) ∙ ap (λ o. follow o (λ (n : Signed). lift (accept x (list_of e) n.sign n.value st))) (f.is s ∙ ap (numbered s ts) q)

  pub take-wrong : (w : Refused) (ds' : Table) → m ≡ Err w → Takes ns ts ds given at h e (Err w) ds'
  take-wrong z ds' j = record { is = λ s x a st k. rw (number_is s x st (Err z) j) (refl, refl) }

  module _ (y : Numbered) (r : Result ℕ Refused) (ds' : Table) (j : m ≡ Ok y) (g : Accepts ns ts ds given h e y.place y.value r ds') where
    -- the number is a value
    valid : (s : List ℕ) (x : Portion) → Aims s ns ts h e x → Valid y.value
    valid s x a = made (λ n. Valid n.value) number_in number-valid (from s ts at) _ (fitting-from s ts a.ground.literals at) (f.is s ∙ ap (numbered s ts) j)

    take_by : (z : Result (ℕ × ℕ) Refused) → ((s : List ℕ) (x : Portion) (st : Store) (o : Outcome Store) → StoreIs o ds' r → TakenIs (as_read o (from s ts y.next)) s ts ds' z) → Takes ns ts ds given at h e z ds'
    take_by z w =
        record {
          is = λ s x a st k. rw (number_is s x st (Ok y) j) (w s x st (accept x (list_of e) y.place y.value st) (g.is s x a (valid s x a) st k));
        }

    pub take-refused : (w : Refused) → r ≡ Err w → Takes ns ts ds given at h e (Err w) ds'
    take-refused err d = take_by (Err err) (λ s x st o w. go s o (subst (StoreIs o ds') d w))
      where
        go : (s : List ℕ) (o : Outcome Store) → StoreIs o ds' (Err err) → TakenIs (as_read o (from s ts y.next)) s ts ds' (Err err)
        go s (done st) w = w
        go s (refused l z) w = w

    pub take_done : (n : ℕ) → r ≡ Ok n → Takes ns ts ds given at h e (Ok (y.next, n)) ds'
    take_done n d = take_by (Ok (y.next, n)) (λ s x st o w. go s o (subst (StoreIs o ds') d w))
      where
        go : (s : List ℕ) (o : Outcome Store) → StoreIs o ds' (Ok n) → TakenIs (as_read o (from s ts y.next)) s ts ds' (Ok (y.next, n))
        go s (done st) w = (refl, w)
        go s (refused l z) w = w
