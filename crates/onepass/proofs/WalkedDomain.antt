-- A domain that is walked has the limits and the domain test of the domain that is read from its tokens.
--
-- A declaration is read with the names before it, and its tokens are walked with the same names: a name that is declared later
-- could not be used in them, and no law is needed for names that grow.
use mathlib.Core.Path.{◌≡◌, refl, ◌∙◌, ap}
use mathlib.Core.Bool.{Bool, true, false, ◌&&◌, not}
use mathlib.Core.List.{List, [], ◌∷◌}
use Prim.Native.Nat.{ℕ, zero, suc}
use native.Mathlib.Omega.{arith}
use lib.Dec.{eqb}
use lib.IntN.{ℤ}
use lib.Signed.{le_z}
use lib.ListN.{length}
use Rattle.rules.specs.declared.Refusal.TheVariants.{Misplaced, Outside}
use Rattle.rules.specs.Limits.{nesting_limit}
use Rattle.lexer.specs.Marks.{comma, closes, at_most}
use Rattle.lexer.specs.Text.{Token}
use Rattle.language.specs.Outcome.{Outcome, done, check}
use Rattle.language.specs.Outcome as Outcome
use Rattle.language.specs.Syntax.{Formula, Spans, Name, point, span}
use Rattle.language.specs.Reader.{Reader, as_read, ◌>>=◌, give, next, look, is_mark, expect, Used, read_index}
use Rattle.language.specs.Formulas.{part_of, Entry, entry_of, span_of, entries_of, in_domain}
use Rattle.language.specs.Declarations.{is_in, read_due, due_of}
use Rattle.language.specs.Scope.{Scope, bind}
use Rattle.language.specs.Evaluation.{whole_at, Limits, limits_of, eval, within}
use Rattle.onepass.specs.Walk.{skip, Walk, walk_part, walk_list, walk_subscripts, Bounds, walk_entry, walk_within, in_domain_walk}
use Rattle.onepass.specs.Entries.{read, ReadsEntry, ReadsSpans, index_count}
use Rattle.onepass.proofs.Steps.{after_read, on, via, onward, via-made, same-what, same_rest, look-stays, expect-is, skip-expect, Named, required-is, read_index-is}
use Rattle.onepass.proofs.Walked.{part-walks, part-agrees, inside-agrees}

list_count : (F : Walk) (d : Spans) (s : Scope) (p : ℕ) (ts : List Token) (ks : List ℤ) (rest : List Token) → walk_list F d s p ts ≡ read ks rest → length ks ≡ index_count d
unfolding walk_list index_count
list_count F point s p ts ks rest e = rw (← same-what e) refl
list_count F (span i f g q d) s p ts ks rest e =
    after_read (walk_part F s ts) _ _ e λ v l _ e.
    after_read (as_read (whole_at p v) l) _ _ e λ k l₁ _ e.
    after_read (walk_list F d s p l₁) _ _ e λ js m jm e.
    rw (← same-what e) (ap suc (list_count F d s p l₁ js m jm))

module _ (names : List Name) where
  -- ---- what is read of a domain writes its entries

  entry-reads : (I : Reader Used) → ((ts : List Token) (u : Used) (rest : List Token) → I ts ≡ read u rest → Named names ts u rest)
      → (ts : List Token) (x : Entry) (l : List Token) → entry_of (in_domain names) I ts ≡ read x l → (t : Token) (rest : List Token) → next l ≡ read t rest
      → ReadsEntry names x.number x.lower x.upper x.place ts rest
  unfolding entry_of
  entry-reads I named ts x l e t rest h =
      after_read (part_of (in_domain names) at_most ts) _ _ e λ f l₁ fl e.
      after_read (I l₁) _ _ e λ u l₂ ul e.
      after_read (expect at_most l₂) _ _ e λ p l₃ pl e.
      after_read (in_domain names l₃) _ _ e λ g l₄ gl e.
      let i = named l₁ u l₂ ul in
      let same = same-what e in
      record {
        at_index = l₁;
        lower = fl ∙ ap (λ (x : Entry). read x.lower l₁) same;
        index = i.token;
        at_sign = l₂;
        named = i.stands;
        number = i.number ∙ ap (λ (x : Entry). x.number) same;
        place = i.at ∙ ap (λ (x : Entry). x.place) same;
        sign_place = p;
        at_upper = l₃;
        sign = pl;
        at_end = l;
        upper = gl ∙ ap (λ (x : Entry). read x.upper l₄) same ∙ ap (read x.upper) (same_rest e);
        last = t;
        ended = h;
      }

  due-is : (i : ℕ) (l : List ℕ) (ts : List Token) (u : Used) (rest : List Token) → read_due names i l ts ≡ read u rest → Named names ts u rest
  unfolding read_due
  due-is i l = required-is names (λ u. eqb u.number i && not (is_in i l)) Misplaced

  -- a declared domain
  pub due-reads : (l named : List ℕ) (ts : List Token) (d : Spans) (rest : List Token) → due_of names l named ts ≡ read d rest → ReadsSpans names d ts rest
  unfolding due_of
  due-reads [] named ts d rest e = rw (← same-what e) (same_rest e)
  due-reads (i ∷ []) named ts d rest e =
      after_read (entry_of (in_domain names) (read_due names i named) ts) _ _ e λ x l xl e.
      after_read (expect closes l) _ _ e λ p m pm e.
      let c = expect-is closes l p m pm in
      rw (← same-what e) (m, entry-reads _ (due-is i named) ts x l xl c.token m c.stands, same_rest e)
  due-reads (i ∷ j ∷ js) named ts d rest e =
      after_read (entry_of (in_domain names) (read_due names i named) ts) _ _ e λ x l xl e.
      after_read (expect comma l) _ _ e λ p m pm e.
      after_read (due_of names (j ∷ js) (i ∷ named) m) _ _ e λ d' k dk e.
      let c = expect-is comma l p m pm in
      rw (← same-what e, ← same_rest e) (m, entry-reads _ (due-is i named) ts x l xl c.token m c.stands, due-reads (j ∷ js) (i ∷ named) m d' k dk)

  -- a constraint's domain
  pub entries-read : (n : ℕ) (ts : List Token) (d : Spans) (rest : List Token) → entries_of (in_domain names) (read_index names) n ts ≡ read d rest → ReadsSpans names d ts rest
  unfolding entries_of
  entries-read zero ts d rest e =
      after_read (entry_of (in_domain names) (read_index names) ts) _ _ e λ x l xl e.
      after_read (expect closes l) _ _ e λ p m pm e.
      let c = expect-is closes l p m pm in
      rw (← same-what e) (m, entry-reads _ (read_index-is names) ts x l xl c.token m c.stands, same_rest e)
  entries-read (suc n) ts d rest e =
      after_read (entry_of (in_domain names) (read_index names) ts) _ _ e λ x l xl e.
      after_read (look l) _ _ e λ t l₁ tl e.
      go x l xl l₁ (look-stays l t l₁ tl) (entries-read n) (is_mark comma t) e
    where
      go : (x : Entry) (l : List Token) → entry_of (in_domain names) (read_index names) ts ≡ read x l → (l₁ : List Token) → l ≡ l₁
          → ((ts : List Token) (d : Spans) (rest : List Token) → entries_of (in_domain names) (read_index names) n ts ≡ read d rest → ReadsSpans names d ts rest)
          → (b : Bool)
          → (elim b as (λ _. Reader Spans) [
            | true ↦ next >>= (λ _. entries_of (in_domain names) (read_index names) n >>= (λ d. give (span_of x d)))
            | false ↦ expect closes >>= (λ _. give (span_of x point))
          ]) l₁ ≡ read d rest
          → ReadsSpans names d ts rest
      go x l xl l₁ same ih true e =
          after_read (next l₁) _ _ e λ t m tm e.
          after_read (entries_of (in_domain names) (read_index names) n m) _ _ e λ d' k dk e.
          rw (← same-what e, ← same_rest e) (m, entry-reads _ (read_index-is names) ts x l xl t m (ap next same ∙ tm), ih m d' k dk)
      go x l xl l₁ same ih false e =
          after_read (expect closes l₁) _ _ e λ p m pm e.
          let c = expect-is closes l₁ p m pm in
          rw (← same-what e) (m, entry-reads _ (read_index-is names) ts x l xl c.token m (ap next same ∙ c.stands), same_rest e)

  -- ---- one entry: its limits, with the index's number and place

  pub entry-walk : (i : ℕ) (f g : Formula) (q : ℕ) (ts rest : List Token) → ReadsEntry names i f g q ts rest → (s : Scope)
      → walk_entry names (in_domain_walk names) s ts ≡ as_read (Outcome.◌>>=◌ (limits_of (eval f s) (eval g s)) λ l. done (record { number = i; place = q; limits = l })) rest
  unfolding walk_entry limits_of
  entry-walk i f g q ts rest r s =
      let F = inside-agrees names nesting_limit in
      let bounds : Limits → Reader Bounds = (λ l. read (record { number = i; place = q; limits = l })) in
      onward (walk_part (in_domain_walk names) s ts) (eval f s) _ r.at_index rest _ bounds ((part-agrees _ _ F at_most s).walks ts f r.at_index r.lower) (λ v.
      on (next r.at_index) _ r.index r.at_sign _ r.named (rw (r.place, r.number)
      (on (skip r.at_sign) _ tt r.at_upper _ (skip-expect at_most r.at_sign r.sign_place r.at_upper r.sign)
      (onward (walk_part (in_domain_walk names) s r.at_upper) (eval g s) _ rest rest _ bounds (part-walks _ _ F r.at_upper g r.at_end r.upper r.last rest r.ended s) λ w. refl))))
      ∙ via (as_read (limits_of (eval f s) (eval g s)) rest) (limits_of (eval f s) (eval g s)) rest rest bounds _ refl (λ l. refl)

  -- ---- the domain test of as many numbers as the domain has indices

  pub within-walk : (d : Spans) (ks : List ℤ) → length ks ≡ index_count d → (s : Scope) (p : ℕ) (ts rest : List Token) → ReadsSpans names d ts rest
      → walk_within names (in_domain_walk names) ks s p ts ≡ as_read (within d ks s p) rest
  unfolding walk_within within index_count
  within-walk point [] n s p ts rest r = ap (read tt) r
  within-walk point (k ∷ ks) n s p ts rest r = absurd (omega arith)
  within-walk (span i f g q d) [] n s p ts rest r = absurd (omega arith)
  within-walk (span i f g q d) (k ∷ ks) n s p ts rest r =
      let (m, e, more) = r in
      via-made (walk_entry names (in_domain_walk names) s ts) (limits_of (eval f s) (eval g s)) (λ l. record { number = i; place = q; limits = l }) m rest _ _ (entry-walk i f g q ts m e s) λ l.
      let inside = check Outside p (le_z l.lower k && le_z k l.upper) in
      via (as_read inside m) inside m rest _ _ refl λ _. within-walk d ks (omega arith) (bind i k s) p m rest more

-- the subscripts of a name are as many as its domain has indices
pub subscripts-count : (F : Walk) (d : Spans) (s : Scope) (p : ℕ) (ts : List Token) (ks : List ℤ) (rest : List Token) → walk_subscripts F d s p ts ≡ read ks rest → length ks ≡ index_count d
unfolding walk_subscripts index_count
subscripts-count F point s p ts ks rest e = rw (← same-what e) refl
subscripts-count F (span i f g q d) s p ts ks rest e = after_read (skip ts) _ _ e λ _ l _ e. list_count F (span i f g q d) s p l ks rest e
