-- Laws over plain variables for subscripts and for the domain test.
use Rattle.std.specs.Prelude.{Err, Ok, Result}
use Rattle.rules.specs.declared.Refused.{Refused}
use mathlib.Core.Path.{◌≡◌, refl, sym, ◌∙◌, ap, subst}
use mathlib.Core.Bool.{true, ◌&&◌}
use mathlib.Core.List.{List, [], ◌∷◌, ◌++◌, append-nil}
use Prim.Native.Nat.{ℕ, zero, suc, ◌+◌, ◌-◌, ◌<◌, ◌≤◌}
use native.Mathlib.Omega.{arith}
use borrow.Author.Tests.{lt-ltb}
use lib.Dec.{ltb}
use lib.ListN.{length, get_or, drop, length-append}
use lib.Seq.{drop-cons, append_snoc, drop-length}
use lib.IntN.{ℤ, pos}
use lib.Signed.{le_z}
use Rattle.rules.specs.declared.Refusal.TheVariants.{Outside}
use Rattle.rules.specs.Limits.{nesting_limit, index_limit}
use Rattle.value.specs.declared.Value.{Value}
use Rattle.lexer.specs.Text.{Token}
use Rattle.language.specs.Outcome.{Outcome, done, refused, check}
use Rattle.language.specs.Syntax.{Name, Spans, point, span}
use Rattle.language.specs.Reader.{Reader, Read, follow, ◌>>=◌, give, lift}
use Rattle.language.specs.Scope.{Scope, bind}
use Rattle.language.specs.Evaluation.{whole_at}
use Rattle.language.specs.Model.{what_of}
use Rattle.onepass.specs.Walk.{skip, walk_part, walk_list, walk_subscripts, walk_inside, walk_within, in_domain_walk, Bounds}
use Rattle.onepass.specs.Entries.{read}
use Rattle.onepass.proofs.Steps.{on}
use Rattle.tokens.specs.Stored.{size}
use Rattle.store.specs.declared.Element.{Element}
use Rattle.store.specs.Element.{list_of, extended, Subscripts}
use Rattle.store.proofs.Elements.{extended-room, subscripts-none, subscripts-extended}
use Rattle.evaluator.specs.declared.steps.scope.Scope.{Scope as Held}
use Rattle.evaluator.specs.declared.steps.values.Bounds as code
use Rattle.evaluator.specs.Steps.Scopes.{bindings_of, bound_more, scope_of, Small}
use Rattle.evaluator.specs.Steps.Passing.{Skips}
use Rattle.evaluator.specs.Steps.Values.{TestedAs, Tests}
use Rattle.evaluator.proofs.steps.Scopes.{scope-bind, small-none, small-bind}
use Rattle.evaluator.specs.Tables.{World}
use Rattle.evaluator.specs.Cycle.{subscript_in, entry_in, bounds_outcome, seen_by, under, nothing_bound, tokens_at, Wholes, EntryIs, SubscriptsAre, WithinIs}
use Rattle.evaluator.proofs.Laws.{regroup, no_whole, whole_is, whole-small}
use Rattle.store.specs.Table.{Table}

-- ---- subscripts

-- k whole numbers, one behind the other
unfoldable pub whole_list : ℕ → ℕ → ℕ → List Name → Scope → Reader (List ℤ)
whole_list n p zero names s = give []
whole_list n p (suc k) names s = subscript_in n p names s >>= (λ j. whole_list n p k names s >>= (λ ks. give (j ∷ ks)))

list-is : (n p : ℕ) (names : List Name) (s : Scope) (d : Spans) (l : List Token) → walk_list (walk_inside names n) d s p l ≡ whole_list n p (size d) names s l
unfolding walk_list whole_list subscript_in size
list-is n p names s point l = refl
list-is n p names s (span i f g q d) l =
    regroup (walk_part (walk_inside names n) s l) (λ v. lift (whole_at p v)) (λ k. walk_list (walk_inside names n) d s p >>= (λ ks. give (k ∷ ks)))
    ∙ again (follow (walk_part (walk_inside names n) s l) (λ v. lift (whole_at p v))) (list-is n p names s d)
  where
    again : (o : Outcome (Read ℤ)) → ((l : List Token) → walk_list (walk_inside names n) d s p l ≡ whole_list n p (size d) names s l)
        → follow o (λ k. walk_list (walk_inside names n) d s p >>= (λ ks. give (k ∷ ks))) ≡ follow o (λ k. whole_list n p (size d) names s >>= (λ ks. give (k ∷ ks)))
    again (done x) f = ap (λ o. follow o (λ ks. give (x.what ∷ ks))) (f x.rest)
    again (refused m q) f = refl

module _ (n p count : ℕ) (ns ts : List ℕ) (ds : Table) (given level : ℕ) (sc : Held) (at : ℕ) where
  -- the numbers of e, and `left` more from a on
  pub record NumbersOn (e : Element) (a left : ℕ) : Type 0 where
    pub sized : count ≤ index_limit → length (list_of e) + left ≡ count
    pub same : (w : World ns ts ds given) → Small sc → count ≤ index_limit → (d : Spans) → size d ≡ count
        → follow (whole_list n p left (seen_by w level) (under w sc) (tokens_at w a)) (λ ks. give (list_of e ++ ks)) ≡ walk_subscripts (walk_inside (seen_by w level) n) d (under w sc) p (tokens_at w at)
    pub small : World ns ts ds given → Small sc → count ≤ index_limit → Subscripts (list_of e)

  pub subscripts-point : (e : Element) → list_of e ≡ [] → count ≡ 0 → SubscriptsAre n p count ns ts ds given level sc at (Ok (e, at))
  unfolding walk_subscripts size
  subscripts-point e f z = record { is = λ w g d s h. go w d s; small = λ w g h. subst Subscripts (sym f) subscripts-none }
    where
      go : (w : World ns ts ds given) (d : Spans) → size d ≡ count → walk_subscripts (walk_inside (seen_by w level) n) d (under w sc) p (tokens_at w at) ≡ read (list_of e) (tokens_at w at)
      go w point s = ap (λ l. read l (tokens_at w at)) (sym f)
      go w (span i lo hi q d) s = absurd (omega (arith, s, z))

  pub numbers-start : (e : Element) (a : ℕ) → list_of e ≡ [] → (count ≡ 0 → ⊥) → Skips ts at a → NumbersOn e a (count - 0)
  unfolding walk_subscripts size
  numbers-start e a f z k =
      let d : count - 0 ≡ count = omega arith in
      rw d (record {
        sized = λ h. rw f (omega arith);
        same = λ w g h d s. go w d s;
        small = λ w g h. subst Subscripts (sym f) subscripts-none;
      })
    where
      none : (o : Outcome (Read (List ℤ))) → follow o (λ ks. give (list_of e ++ ks)) ≡ o
      none (done x) = ap (λ l. read (l ++ x.what) x.rest) f
      none (refused m q) = refl

      go : (w : World ns ts ds given) (d : Spans) → size d ≡ count
          → follow (whole_list n p count (seen_by w level) (under w sc) (tokens_at w a)) (λ ks. give (list_of e ++ ks)) ≡ walk_subscripts (walk_inside (seen_by w level) n) d (under w sc) p (tokens_at w at)
      go w point s = absurd (z (sym s))
      go w (span i lo hi q d) s =
          none _
          ∙ ap (λ c. whole_list n p c (seen_by w level) (under w sc) (tokens_at w a)) (sym s)
          ∙ sym (on (skip (tokens_at w at)) _ tt (tokens_at w a) _ (k.is w.text) (list-is n p (seen_by w level) (under w sc) (span i lo hi q d) (tokens_at w a)))

  module _ (e : Element) (a turns : ℕ) (o : NumbersOn e a (count - turns)) where
    abbrev left : ℕ
    left = count - turns

    pub numbers-end : count ≤ turns → SubscriptsAre n p count ns ts ds given level sc at (Ok (e, a))
    unfolding whole_list
    numbers-end h = record { is = λ w g d s c. sym (o.same w g c d s) ∙ go left (omega arith) w; small = o.small }
      where
        go : (k : ℕ) → k ≤ 0 → (w : World ns ts ds given) → follow (whole_list n p k (seen_by w level) (under w sc) (tokens_at w a)) (λ ks. give (list_of e ++ ks)) ≡ read (list_of e) (tokens_at w a)
        go zero h w = ap (λ l. read l (tokens_at w a)) (append-nil (list_of e))
        go (suc k) h w = absurd (omega arith)

    module _ (h : turns < count) (r : Result (Value × ℕ) Refused) (k : Wholes (subscript_in n p) ns ts ds given level sc a r) where
      -- the next one and those behind it
      one : (w : World ns ts ds given) (x : Outcome (Read ℤ)) → subscript_in n p (seen_by w level) (under w sc) (tokens_at w a) ≡ x
          → follow (whole_list n p left (seen_by w level) (under w sc) (tokens_at w a)) (λ ks. give (list_of e ++ ks))
          ≡ follow x (λ j l. follow (whole_list n p (left - 1) (seen_by w level) (under w sc) l) (λ ks. give (list_of e ++ (j ∷ ks))))
      unfolding whole_list
      one w x f = go left (omega arith)
        where
          regrouped : (x : Outcome (Read ℤ)) (k : ℕ) → follow (follow x (λ j. whole_list n p k (seen_by w level) (under w sc) >>= (λ ks. give (j ∷ ks)))) (λ ks. give (list_of e ++ ks))
              ≡ follow x (λ j l. follow (whole_list n p k (seen_by w level) (under w sc) l) (λ ks. give (list_of e ++ (j ∷ ks))))
          regrouped (done y) k = sym (regroup (whole_list n p k (seen_by w level) (under w sc) y.rest) (λ ks. give (y.what ∷ ks)) (λ ks. give (list_of e ++ ks)))
          regrouped (refused m q) k = refl

          go : (k : ℕ) → 0 < k → follow (whole_list n p k (seen_by w level) (under w sc) (tokens_at w a)) (λ ks. give (list_of e ++ ks))
              ≡ follow x (λ j l. follow (whole_list n p (k - 1) (seen_by w level) (under w sc) l) (λ ks. give (list_of e ++ (j ∷ ks))))
          go zero h = absurd (omega arith)
          go (suc k) h =
              let d : suc k - 1 ≡ k = omega arith in
              ap (λ x. follow (follow x (λ j. whole_list n p k (seen_by w level) (under w sc) >>= (λ ks. give (j ∷ ks)))) (λ ks. give (list_of e ++ ks))) f
              ∙ regrouped x k
              ∙ ap (λ k. follow x (λ j l. follow (whole_list n p k (seen_by w level) (under w sc) l) (λ ks. give (list_of e ++ (j ∷ ks))))) (sym d)

      pub numbers-refused : (e : Refused) → r ≡ Err e → SubscriptsAre n p count ns ts ds given level sc at (Err e)
      numbers-refused z f = record { is = λ w g d s c. sym (o.same w g c d s) ∙ one w (refused z.refusal z.place) (no_whole ns ts ds given level sc k f w g); small = λ w g c. tt }

      pub numbers_on : (v : Value) (b : ℕ) (e' : Element) → r ≡ Ok (v, b) → list_of e' ≡ extended (list_of e) v.m → NumbersOn e' b (count - (turns + 1))
      unfolding index_limit
      numbers_on v b e' f x =
          let less : count - (turns + 1) ≡ left - 1 = omega arith in
          rw less (record {
            sized = λ c. rw (grown c) (simp length-append (omega (arith, o.sized c)));
            same = λ w g c d s.
                ap (λ l. follow (whole_list n p (left - 1) (seen_by w level) (under w sc) (tokens_at w b)) (λ ks. give (l ++ ks))) (grown c)
                ∙ snoc w (whole_list n p (left - 1) (seen_by w level) (under w sc) (tokens_at w b))
                ∙ sym (one w (read v.m (tokens_at w b)) (whole_is ns ts ds given level sc k f w g))
                ∙ o.same w g c d s;
            small = λ w g c. subst Subscripts (sym x) (subscripts-extended (list_of e) v.m (o.small w g c) (whole-small ns ts ds given level sc k f w g));
          })
        where
          grown : count ≤ 4 → list_of e' ≡ list_of e ++ (v.m ∷ [])
          grown c = x ∙ extended-room (list_of e) v.m (omega (arith, o.sized c))

          snoc : (w : World ns ts ds given) (y : Outcome (Read (List ℤ))) → follow y (λ ks. give ((list_of e ++ (v.m ∷ [])) ++ ks)) ≡ follow y (λ ks. give (list_of e ++ (v.m ∷ ks)))
          snoc w (done y) = ap (λ l. read l y.rest) (append_snoc (list_of e) v.m y.what)
          snoc w (refused m q) = refl

-- ---- the domain test

module _ (ns ts : List ℕ) (ds : Table) (given level at : ℕ) (e : Element) (p : ℕ) where
  -- the test of all numbers from the tree's or the code's scope
  abbrev test_of : World ns ts ds given → List ℤ → Scope → ℕ → Outcome (Unit {0})
  test_of w ks s a = what_of (walk_within (seen_by w level) (in_domain_walk (seen_by w level)) ks s p (tokens_at w a))

  -- the first j numbers have been tested and bound, and the test goes on from a
  pub record WithinOn (sc : Held) (a j : ℕ) : Type 0 where
    pub same : (w : World ns ts ds given) → Subscripts (list_of e)
        → what_of (walk_within (seen_by w level) (in_domain_walk (seen_by w level)) (drop j (list_of e)) (under w sc) p (tokens_at w a))
        ≡ what_of (walk_within (seen_by w level) (in_domain_walk (seen_by w level)) (list_of e) (nothing_bound w) p (tokens_at w at))
    pub small : World ns ts ds given → Subscripts (list_of e) → Small sc
    pub bound : Subscripts (list_of e) → length (bindings_of sc) ≡ j
    pub within : j ≤ length (list_of e)

  pub within-start : (sc : Held) → bindings_of sc ≡ [] → WithinOn sc at 0
  unfolding scope_of
  within-start sc f =
      record {
        same = λ w s. rw f refl;
        small = λ w s. small-none sc f;
        bound = λ s. rw f refl;
        within = omega arith;
      }

  pub within_end : (sc : Held) (a j n : ℕ) → WithinOn sc a j → n ≡ length (list_of e) → n ≤ j → WithinIs ns ts ds given level at e p (Ok tt)
  unfolding walk_within
  within_end sc a j n o f h = record { is = λ w s. sym (o.same w s) ∙ ap (λ ks. test_of w ks (under w sc) a) none }
    where
      none : drop j (list_of e) ≡ []
      none = let d : j ≡ length (list_of e) = omega (arith, o.within) in rw d (drop-length (list_of e))

  module _ (sc : Held) (a j n : ℕ) (o : WithinOn sc a j) (f : n ≡ length (list_of e)) (h : j < n) (y : Result (code.Bounds × ℕ) Refused) (k : EntryIs (entry_in 12) ns ts ds given level sc a y) where
    number : ℤ
    number = get_or (list_of e) j (pos 0)

    -- the entry of the j-th number, its test, and the rest
    test_rest : World ns ts ds given → Bounds → Reader (Unit {0})
    test_rest w b = lift (check Outside p (le_z b.limits.lower number && le_z number b.limits.upper)) >>= (λ _. walk_within (seen_by w level) (in_domain_walk (seen_by w level)) (drop (j + 1) (list_of e)) (bind b.number number (under w sc)) p)

    entered_at : (z : Result (code.Bounds × ℕ) Refused) → y ≡ z → (w : World ns ts ds given) → (s : Subscripts (list_of e)) → test_of w (list_of e) (nothing_bound w) at ≡ what_of (follow (bounds_outcome w.text ts z) (test_rest w))
    unfolding walk_within test_rest entry_in nesting_limit number
    entered_at z i w s =
        sym (o.same w s)
        ∙ ap (λ ks. test_of w ks (under w sc) a) next
        ∙ ap (λ x. what_of (follow x (test_rest w))) (k.is w (o.small w s) ∙ ap (bounds_outcome w.text ts) i)
      where
        next : drop j (list_of e) ≡ number ∷ drop (j + 1) (list_of e)
        next = let d : j + 1 ≡ suc j = omega arith in rw d (drop-cons (list_of e) j (pos 0) (omega arith))

    pub within-entry : (w : Refused) → y ≡ Err w → WithinIs ns ts ds given level at e p (Err w)
    within-entry z i = record { is = λ w s. entered_at _ i w s }

    module _ (b : code.Bounds) (c : ℕ) (i : y ≡ Ok (b, c)) (t : Result Held Refused) (g : Tests sc (list_of e) j b p t) where
      pub within-outside : (w : Refused) → t ≡ Err w → WithinIs ns ts ds given level at e p (Err w)
      unfolding test_rest number
      within-outside y u =
          let (x, r, s) = subst (TestedAs sc (get_or (list_of e) j (pos 0)) b p) u g.is in
          record { is = λ w z. entered_at _ i w z ∙ rw (x, r, s) refl }

      pub within_on : (s : Held) → t ≡ Ok s → WithinOn s c (j + 1)
      unfolding test_rest number bound_more index_limit
      within_on s u =
          let (x, d) = subst (TestedAs sc (get_or (list_of e) j (pos 0)) b p) u g.is in
          record {
            same = λ w z. sym (entered_at _ i w z ∙ rw x (ap (λ s. test_of w (drop (j + 1) (list_of e)) s c) (sym (scope-bind w.known sc s b.number number d (room z)))));
            small = λ w z. small-bind sc s b.number number d (z.small j) (o.small w z);
            bound = λ z. ap length d ∙ rw (room z) (let q = o.bound z in omega arith);
            within = omega arith;
          }
        where
          room : Subscripts (list_of e) → ltb (length (bindings_of sc)) index_limit ≡ true
          room z = lt-ltb (length (bindings_of sc)) index_limit (omega (arith, o.bound z, z.few))
