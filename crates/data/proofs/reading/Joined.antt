-- The definition's readers of a portion by the parts that code reads.
use mathlib.Core.Path.{◌≡◌, refl, sym, ◌∙◌, ap}
use mathlib.Core.List.{List}
use lib.IntN.{ℤ}
use Rattle.rules.specs.declared.Refusal.TheVariants.{Missing, BadIndex}
use Rattle.rules.specs.Limits.{nesting_limit}
use Rattle.lexer.specs.Marks.{comma, opens_list, closes_list}
use Rattle.lexer.specs.Text.{Token}
use Rattle.language.specs.Outcome.{Outcome, done, refused}
use Rattle.language.specs.Syntax.{Name, Spans, point, span}
use Rattle.language.specs.Reader.{Reader, Read, follow, lift, next, demand, require, expect, bracket}
use Rattle.language.specs.Formulas.{is_sum}
use Rattle.language.specs.Store.{Store, Portion, accept}
use Rattle.language.specs.Data.{read_entry, entries_of, marks_of, no_repeats, read_order, bound_of, value_of, read_number, runs, subscripted_portion}
use Rattle.tokens.specs.Stored.{size}
use Rattle.data.specs.Reading.Readers.{literal_in, number_in}
use Rattle.data.specs.Reading.Lists.{item_in, separator_of, list_in, order_in, rest_in, head_in}

-- ---- one reader after the other

pub follow-follow : {A B C : Type 0} (o : Outcome (Read A)) (f : A → Reader B) (g : B → Reader C) → follow (follow o f) g ≡ follow o (λ a ts. follow (f a ts) g)
follow-follow (done x) f g = refl
follow-follow (refused n p) f g = refl

pub follow-same : {A B : Type 0} (o : Outcome (Read A)) (f g : A → Reader B) → ((a : A) (ts : List Token) → f a ts ≡ g a ts) → follow o f ≡ follow o g
follow-same (done x) f g h = h x.what x.rest
follow-same (refused n p) f g h = refl

pub follow-of : {A B : Type 0} (o q : Outcome (Read A)) (f : A → Reader B) → o ≡ q → follow o f ≡ follow q f
follow-of o q f e = ap (λ o. follow o f) e

-- ---- a number

pub number-joined : (x : Portion) (e : List ℤ) (st : Store) (ts : List Token) → read_number x e st ts ≡ follow (number_in ts) (λ n. lift (accept x e n.sign n.value st))
unfolding read_number number_in literal_in
number-joined x e st ts =
    sym
    (follow-follow (next ts) _ _ ∙ follow-same (next ts) _ _ λ t ts.
    follow-follow (require (is_sum t) Missing t.place ts) _ _ ∙ follow-same (require (is_sum t) Missing t.place ts) _ _ λ _ ts.
    follow-follow (next ts) _ _ ∙ follow-same (next ts) _ _ λ u ts. follow-follow (demand (value_of u.kind) u.place ts) _ _)

-- ---- a head

module _ (names : List Name) where
  pub entries-joined : (d : Spans) (ts : List Token) → entries_of names d ts ≡ list_in (size d) names ts
  unfolding entries_of list_in item_in separator_of size
  entries-joined point ts = refl
  entries-joined (span i f g p point) ts =
      sym (follow-follow (read_entry names ts) _ _ ∙ follow-same (read_entry names ts) _ _ λ e ts. follow-follow (expect closes_list ts) _ _)
  entries-joined (span i f g p (span j f' g' q d)) ts =
      sym
      (follow-follow (read_entry names ts) _ _ ∙ follow-same (read_entry names ts) _ _ λ e ts.
      follow-follow (expect comma ts) _ _ ∙ follow-same (expect comma ts) _ _ λ _ ts. follow-of _ _ _ (sym (entries-joined (span j f' g' q d) ts)))

  pub portion-joined : (x : Portion) (st : Store) (ts : List Token)
      → subscripted_portion names x st ts ≡ follow (head_in x.place (size x.domain) names ts) (λ h. runs x h.positions (bound_of h.entries) st)
  unfolding subscripted_portion head_in rest_in order_in
  portion-joined x st ts =
      sym
      (follow-follow (bracket opens_list nesting_limit ts) _ _ ∙ follow-same (bracket opens_list nesting_limit ts) _ _ λ _ ts.
      follow-follow (list_in (size x.domain) names ts) _ _ ∙ follow-of _ _ _ (sym (entries-joined x.domain ts)) ∙ follow-same (entries_of names x.domain ts) _ _ λ es ts.
      follow-follow (require (no_repeats (marks_of es)) BadIndex x.place ts) _ _ ∙ follow-same (require (no_repeats (marks_of es)) BadIndex x.place ts) _ _ λ _ ts.
      follow-follow (read_order names x.place (marks_of es) ts) _ _)
