-- Laws for the loop over the names: by the sort of a name, and name after name.
use Rattle.std.specs.Prelude.{Err, Ok, Result}
use Rattle.rules.specs.declared.Refused.{Refused}
use mathlib.Core.Path.{◌≡◌, refl, sym, ◌∙◌, ap, subst}
use mathlib.Core.Bool.{true, false, ◌||◌}
use mathlib.Core.List.{List}
use Prim.Native.Nat.{ℕ, suc, ◌+◌, ◌/◌, ◌<◌, ◌≤◌}
use native.Mathlib.Omega.{arith}
use native.Mathlib.Numerals.{add-one}
use lib.Dec.{eqb}
use lib.ListN.{length, drop, drop_of_length-le}
use Rattle.language.specs.Outcome.{◌>>=◌}
use Rattle.language.specs.Syntax.{Sort}
use Rattle.language.specs.Syntax
use Rattle.language.specs.Store.{given_by, all_given}
use Rattle.tokens.specs.Stored.{Shaped}
use Rattle.tokens.proofs.Tables.{false-true, named-length}
use Rattle.evaluator.specs.Steps.Names.{row_word}
use Rattle.evaluator.proofs.steps.Numbers.{row-shaped}
use Rattle.evaluator.specs.Tables.{Stands, World}
use Rattle.evaluator.specs.Cycle.{passed_outcome, seen_by, nothing_bound}
use Rattle.evaluator.proofs.Names.{below_length, Split, split}
use Rattle.elements.specs.Placed.{Placed}
use Rattle.problem.specs.Missing.Given.{DomainGiven, NameGiven, AllGiven, GivenTo}
use Rattle.store.specs.Table.{Table}

-- ---- one name

module _ (ns ts : List ℕ) (ds : Table) (given i k : ℕ) (e : k ≡ row_word ns i 2) where
  pub name-data : (r : Result Unit Refused) → (eqb k 1 || eqb k 2) ≡ true → DomainGiven ns ts ds given i r → NameGiven ns ts ds given i r
  unfolding given_by
  name-data r t f = record {
    is = λ w p x h. rw (p.at i x h) (go w x.sort (below_length w.names i x h) (row-shaped w.text ns w.names i x w.tables.named h) (w.tables.declared i x h));
  }
    where
      wrong : {A : Type 0} (j : ℕ) → row_word ns i 2 ≡ j → (eqb j 1 || eqb j 2) ≡ false → A
      wrong j a b = absurd (false-true (sym b ∙ subst (λ k. (eqb k 1 || eqb k 2) ≡ true) (e ∙ a) t))

      go : (w : World ns ts ds given) (y : Sort) → i < length w.names → Shaped y (row_word ns i 2) (row_word ns i 3) → Stands w.text ts (seen_by w i) y (row_word ns i 4)
          → given_by i (row_word ns i 0) y (nothing_bound w) ≡ passed_outcome r
      go w Syntax.index h s a = wrong 0 s refl
      go w (Syntax.integer d) h s a = f.is w d (record { named = h; domain = a; count = s.1 })
      go w (Syntax.real d) h s a = f.is w d (record { named = h; domain = a; count = s.1 })
      go w (Syntax.formula g) h s a = wrong 3 s refl
      go w (Syntax.discrete d) h s a = wrong 4 s.0 refl
      go w (Syntax.continuous d) h s a = wrong 5 s.0 refl

  pub name-other : (eqb k 1 || eqb k 2) ≡ false → NameGiven ns ts ds given i (Ok tt)
  unfolding given_by
  name-other t = record { is = λ w p x h. go w x.place x.sort (row-shaped w.text ns w.names i x w.tables.named h) }
    where
      wrong : {A : Type 0} (j : ℕ) → row_word ns i 2 ≡ j → (eqb j 1 || eqb j 2) ≡ true → A
      wrong j a b = absurd (false-true (sym (subst (λ k. (eqb k 1 || eqb k 2) ≡ false) (e ∙ a) t) ∙ b))

      go : (w : World ns ts ds given) (p : ℕ) (y : Sort) → Shaped y (row_word ns i 2) (row_word ns i 3) → given_by i p y (nothing_bound w) ≡ passed_outcome (Ok tt)
      go w p Syntax.index s = refl
      go w p (Syntax.integer d) s = wrong 1 s.0 refl
      go w p (Syntax.real d) s = wrong 2 s.0 refl
      go w p (Syntax.formula g) s = refl
      go w p (Syntax.discrete d) s = refl
      go w p (Syntax.continuous d) s = refl

-- ---- name after name

module _ (ns ts : List ℕ) (ds : Table) (given : ℕ) where
  pub given-none : GivenTo ns ts ds given 0
  given-none = record { left = λ w p. refl }

  module _ (i : ℕ) (g : GivenTo ns ts ds given i) where
    pub given-all : length ns / 5 ≤ i → AllGiven ns ts ds given (Ok tt)
    unfolding all_given
    given-all h = record { is = λ w p. g.left w p ∙ rw (drop_of_length-le w.names {i = i} (omega (arith, named-length w.text ns w.names w.tables.named))) }

    module _ (h : i < length ns / 5) (r : Result Unit Refused) (n : NameGiven ns ts ds given i r) where
      here : (w : World ns ts ds given) → Split w.names i
      here w = split w.names i (omega (arith, named-length w.text ns w.names w.tables.named))

      -- the name of number i, and then those behind it
      by_name : (w : World ns ts ds given) → Placed ns w.names → all_given 0 w.names (nothing_bound w) ≡ (passed_outcome r >>= λ u. all_given (suc i) (drop (suc i) w.names) (nothing_bound w))
      unfolding all_given
      by_name w p =
          let x = here w in
          g.left w p ∙ ap (λ l. all_given i l (nothing_bound w)) x.behind ∙ ap (λ o. o >>= λ u. all_given (suc i) (drop (suc i) w.names) (nothing_bound w)) (n.is w p x.name x.here)

      pub given-more : r ≡ Ok tt → GivenTo ns ts ds given (i + 1)
      given-more e = record { left = λ w p. by_name w p ∙ rw (e, add-one) refl }

      pub given-refused : (e : Refused) → r ≡ Err e → AllGiven ns ts ds given (Err e)
      given-refused z e = record { is = λ w p. by_name w p ∙ rw e }
