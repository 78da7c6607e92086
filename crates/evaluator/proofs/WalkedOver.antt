-- A domain that is run while its tokens are walked does what the domain does that was read from them.
use mathlib.Core.Path.{◌≡◌, refl, ◌∙◌, ap}
use mathlib.Core.List.{List, [], ◌∷◌}
use Prim.Native.Nat.{ℕ}
use lib.IntN.{ℤ}
use Rattle.lexer.specs.Text.{Token}
use Rattle.language.specs.Outcome.{Outcome, done, refused, ◌>>=◌}
use Rattle.language.specs.Syntax.{Spans, Name, point, span}
use Rattle.language.specs.Reader.{Read, as_read}
use Rattle.language.specs.Scope.{Scope, bind}
use Rattle.language.specs.Evaluation.{Limits, limits_of, run_of, each, eval, over}
use Rattle.onepass.specs.Walk.{in_domain_walk, Bounds}
use Rattle.onepass.specs.Entries.{ReadsSpans, index_count}
use Rattle.onepass.proofs.WalkedDomain.{entry-walk}
use Rattle.evaluator.specs.WalkOver.{walk_over}

module _ {A : Type 0} where
  -- the same steps
  each_same : (f g : ℤ → A → Outcome A) → ((k : ℤ) (a : A) → f k a ≡ g k a) → (ks : List ℤ) (a : A) → each f ks a ≡ each g ks a
  unfolding each
  each_same f g h [] a = refl
  each_same f g h (k ∷ ks) a = ap (λ o. o >>= λ b. each f ks b) (h k a) ∙ go (g k a) (each_same f g h ks)
    where
      go : (o : Outcome A) → ((b : A) → each f ks b ≡ each g ks b) → (o >>= λ b. each f ks b) ≡ (o >>= λ b. each g ks b)
      go (done b) e = e b
      go (refused n p) e = refl

  module _ (names : List Name) where
    -- an entry's run, and the entries behind it
    run_entry : ℕ → Scope → (Scope → List ℤ → A → Outcome A) → A → Read Bounds → Outcome A
    run_entry n s f a e =
        run_of e.what.limits e.what.number s e.what.place
        >>= λ ks. each (λ k b. walk_over names (in_domain_walk names) n e.rest (bind e.what.number k s) (λ t x. f t (k ∷ x)) b) ks a

    pub walked-over : (d : Spans) (ts rest : List Token) → ReadsSpans names d ts rest → (s : Scope) (f : Scope → List ℤ → A → Outcome A) (a : A)
        → walk_over names (in_domain_walk names) (index_count d) ts s f a ≡ over d s f a
    unfolding walk_over over index_count run_entry
    walked-over point ts rest r s f a = refl
    walked-over (span i lower upper q d) ts rest r s f a =
        let (m, e, more) = r in
        ap (λ o. o >>= run_entry (index_count d) s f a) (entry-walk names i lower upper q ts m e s) ∙ by-limits m (λ s f a. walked-over d m rest more s f a) (limits_of (eval lower s) (eval upper s))
      where
        by-run : (m : List Token) → ((s : Scope) (f : Scope → List ℤ → A → Outcome A) (a : A) → walk_over names (in_domain_walk names) (index_count d) m s f a ≡ over d s f a)
            → (o : Outcome (List ℤ)) → (o >>= λ ks. each (λ k b. walk_over names (in_domain_walk names) (index_count d) m (bind i k s) (λ t x. f t (k ∷ x)) b) ks a)
            ≡ (o >>= λ ks. each (λ k b. over d (bind i k s) (λ t x. f t (k ∷ x)) b) ks a)
        by-run m ih (done ks) = each_same _ _ (λ k b. ih (bind i k s) (λ t x. f t (k ∷ x)) b) ks a
        by-run m ih (refused n p) = refl

        by-limits : (m : List Token) → ((s : Scope) (f : Scope → List ℤ → A → Outcome A) (a : A) → walk_over names (in_domain_walk names) (index_count d) m s f a ≡ over d s f a)
            → (o : Outcome Limits) → (as_read (o >>= λ l. done (record { number = i; place = q; limits = l })) m >>= run_entry (index_count d) s f a)
            ≡ (o >>= λ l. run_of l i s q >>= λ ks. each (λ k b. over d (bind i k s) (λ t x. f t (k ∷ x)) b) ks a)
        by-limits m ih (done l) = by-run m ih (run_of l i s q)
        by-limits m ih (refused n p) = refl
