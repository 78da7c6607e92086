-- Laws for one name: a value at an element, and the loop over the elements of a declared domain.
use Rattle.std.specs.Prelude.{Err, Ok, Result, Option, Some, None}
use Rattle.std.specs.Option.{is_some}
use Rattle.rules.specs.declared.Refused.{Refused}
use mathlib.Core.Path.{◌≡◌, refl, sym, ◌∙◌, ap, subst}
use mathlib.Core.Bool.{Bool, true, false, not}
use mathlib.Core.List.{List, map}
use Prim.Native.Nat.{ℕ, ◌<◌}
use native.Mathlib.Omega.{arith}
use lib.ListN.{length}
use lib.IntN.{ℤ}
use Rattle.rules.specs.declared.Refusal.TheVariants.{Missing}
use Rattle.rules.specs.Limits.{name_limit}
use Rattle.language.specs.Outcome.{refused, check}
use Rattle.language.specs.Syntax.{Spans}
use Rattle.language.specs.Evaluation.{is_none}
use Rattle.language.specs.Store.{is_given}
use Rattle.store.specs.declared.Key.{Key}
use Rattle.store.specs.declared.Element.{Element}
use Rattle.store.specs.Element.{list_of, Subscripts}
use Rattle.store.specs.Key.{name_bound, key_number, key_of}
use Rattle.store.specs.Table.{Table, row_of, word_in, lookup, found_row}
use Rattle.store.specs.Entries.{Keyed}
use Rattle.store.proofs.Halving.{finds-row}
use Rattle.evaluator.specs.declared.steps.scope.Scope.{Scope as HeldScope}
use Rattle.evaluator.specs.Steps.Scopes.{scope_of}
use Rattle.evaluator.specs.Steps.Names.{row_word}
use Rattle.evaluator.specs.Tables.{value_in, World}
use Rattle.evaluator.specs.Cycle.{under}
use Rattle.elements.specs.declared.here.Here.{Here}
use Rattle.elements.specs.Held.{held, number_of, scope_at}
use Rattle.elements.specs.Steps.{FirstIs, NextIs}
use Rattle.elements.proofs.Numbers.{not-true, not-false}
use Rattle.elements.proofs.Held.{scope-held}
use Rattle.elements.proofs.Loops.{loop-start, loop-more, loop-refused, loop-done, loop-stopped, loop-subscripts}
use Rattle.problem.specs.Missing.Given.{IsGiven, Declares, DomainGiven, Asking}

-- ---- a value at an element

module _ (ds : Table) (n i : ℕ) (l : List ℤ) (k : Key) (r : Option ℕ) (e : key_number k ≡ key_of i l) (f : r ≡ found_row ds n (key_number k)) where
  pub given-found : (j : ℕ) → r ≡ Some j → IsGiven ds n i l true
  unfolding lookup word_in
  given-found j p = record { is = λ s. rw (ap (row_of ds n) (sym e) ∙ sym ((finds-row ds n (key_number k) r f).is_row s) ∙ p) }

  pub given_nothing : r ≡ None → IsGiven ds n i l false
  unfolding lookup word_in
  given_nothing p = record { is = λ s. rw (ap (row_of ds n) (sym e) ∙ sym ((finds-row ds n (key_number k) r f).is_row s) ∙ p) }

  pub given-is : (b : Bool) → b ≡ is_some r → IsGiven ds n i l b
  given-is b p = go r refl
    where
      go : (o : Option ℕ) → r ≡ o → IsGiven ds n i l b
      go (Some j) q = subst (IsGiven ds n i l) (sym (p ∙ ap is_some q)) (given-found j q)
      go None q = subst (IsGiven ds n i l) (sym (p ∙ ap is_some q)) (given_nothing q)

none_in : (o : Option ℕ) → is_none (value_in o) ≡ is_none o
none_in None = refl
none_in (Some x) = refl

module _ {ns ts : List ℕ} {ds : Table} {given : ℕ} (w : World ns ts ds given) (i : ℕ) (h : i < length w.names) where
  keyed : (l : List ℤ) → Subscripts l → Keyed i l
  unfolding name_bound name_limit
  keyed l s = record { named = omega (arith, w.tables.few); subscripts = s }

  -- the step at an element, whatever is bound
  given-step : (p : ℕ) (sc : HeldScope) (l : List ℤ) (b : Bool) → Subscripts l → IsGiven ds given i l b → is_given i p (under w sc) l tt ≡ check Missing p b
  unfolding is_given scope_of
  given-step p sc l b s g =
      let t = w.tables.stored in
      ap (λ o. check Missing p (not (is_none o))) (t.agrees i l (keyed l s)) ∙ ap (λ c. check Missing p (not c)) (none_in (lookup ds given (key_of i l))) ∙ ap (check Missing p) (sym (g.is t.sorted))

-- ---- the loop

module _ (ns ts : List ℕ) (ds : Table) (given i : ℕ) where
  -- from the first element on
  pub asking-from : (count at : ℕ) (x : Result (Option Here) Refused) → count ≡ row_word ns i 3 → at ≡ row_word ns i 4 → FirstIs ns ts ds given i count at x → Asking ns ts ds given i x
  asking-from count at x p q f = record { left = λ w d D. loop-start w i _ _ _ d D.domain D.count x (rw (p, q) at f) tt }

  module _ (x : Result (Option Here) Refused) (a : Asking ns ts ds given i x) where
    pub asked-stopped : (e : Refused) → x ≡ Err e → DomainGiven ns ts ds given i (Err e)
    asked-stopped z y = let b = subst (Asking ns ts ds given i) y a in record { is = λ w d D. loop-stopped w i _ _ _ z tt _ (b.left w d D) }

    pub asked-all : x ≡ Ok None → DomainGiven ns ts ds given i (Ok tt)
    asked-all y = let b = subst (Asking ns ts ds given i) y a in record { is = λ w d D. loop-done w i _ _ _ tt _ (b.left w d D) }

    -- at an element
    module _ (h : Here) (y : x ≡ Ok (Some h)) (e : Element) (q : list_of e ≡ map number_of (held h)) (b : Bool) (g : IsGiven ds given i (list_of e) b) where
      asking : Asking ns ts ds given i (Ok (Some h))
      asking = subst (Asking ns ts ds given i) y a

      step-at : (w : World ns ts ds given) (d : Spans) → Declares w i d → is_given i (row_word ns i 0) (under w (scope_at h)) (list_of e) tt ≡ check Missing (row_word ns i 0) b
      step-at w d D =
          given-step w i D.named (row_word ns i 0) (scope_at h) (list_of e) b (loop-subscripts w i _ _ _ h tt _ (asking.left w d D) (scope_at h) (scope-held h) e q) g

      pub asked-missing : not b ≡ true → (p : ℕ) → p ≡ row_word ns i 0 → DomainGiven ns ts ds given i (Err (record { refusal = Missing; place = p }))
      asked-missing n p o = record {
        is = λ w d D.
            loop-refused w i _ _ _ h tt _ (asking.left w d D) (scope_at h) (scope-held h) e q Missing p
            (step-at w d D ∙ ap (check Missing (row_word ns i 0)) (not-true b n) ∙ ap (refused Missing) (sym o));
      }

      pub asking-next : not b ≡ false → (z : Result (Option Here) Refused) → NextIs ns ts ds given i h z → Asking ns ts ds given i z
      asking-next n z f = record {
        left = λ w d D.
            loop-more w i _ _ _ h tt _ (asking.left w d D) (scope_at h) (scope-held h) e q tt z (step-at w d D ∙ ap (check Missing (row_word ns i 0)) (not-false b n)) f;
      }
