-- Laws over plain variables that answer the code's needs.
use Rattle.std.specs.Prelude.{Err, Ok, Result}
use Rattle.rules.specs.declared.Refused.{Refused}
use mathlib.Core.Path.{◌≡◌, refl, sym, ◌∙◌, ap, subst}
use mathlib.Core.Bool.{not}
use mathlib.Core.List.{List}
use Prim.Native.Nat.{ℕ}
use native.Mathlib.Omega.{arith}
use lib.Dec.{eqb}
use Rattle.rules.specs.Limits.{index_limit}
use Rattle.lexer.specs.Text.{Token}
use Rattle.language.proofs.Outcome.{refused-done}
use Rattle.language.specs.Syntax.{Relation, at_most, at_least, equal, between}
use Rattle.language.specs.Reader.{Titled, next, demand, string_of, read_string}
use Rattle.language.specs.Numbering.{flips, is_equal}
use Rattle.onepass.proofs.Steps.{after_read, same-what}
use Rattle.onepass.proofs.WalkedDomain.{entries-read}
use Rattle.tokens.specs.declared.Seen.{Seen}
use Rattle.tokens.specs.Stored.{token, from, size, Sees, Looks}
use Rattle.tokens.proofs.Moved.{next-is}
use Rattle.evaluator.specs.Tables.{DomainAt}
use Rattle.lexer.specs.Numbers.{number}
use Rattle.constraints.specs.declared.Record.{Record}
use Rattle.constraints.specs.Rows.{relation_mark, row_at, RowOf}
use Rattle.constraints.proofs.DomainLaws.{few-entries, domain-wrong, domain-none, domain-some}
use Rattle.rows.specs.Bounds.{states_lower, states_upper}
use Rattle.matrix.specs.Parts.Parts.{PlaceIs, FirstIs, PartsAre}

-- ---- places

module _ (ts : List ℕ) (at : ℕ) (t : Result Seen Refused) (l : Looks ts at t) where
  pub place_is : (w : Seen) → t ≡ Ok w → PlaceIs ts at w.place
  unfolding read_string token
  place_is w i =
      record {
        is = λ s u st.
            after_read (next (from s ts at)) _ _ st.reads λ v m h e.
            after_read (demand (string_of v.kind) v.place m) _ _ e λ y n g e.
            ap (λ (z : Titled). z.place) (sym (same-what e)) ∙ ap (λ (z : Token). z.place) (same-what (sym h ∙ next-is s ts at w (subst (Sees s ts at) i (l.sees s))));
      }

  pub place-wrong : (e : Refused) → t ≡ Err e → PlaceIs ts at e.place
  unfolding read_string
  place-wrong z i =
      record {
        is = λ s u st. after_read (next (from s ts at)) _ _ st.reads λ v m h e. absurd (refused-done (sym (subst (Sees s ts at) i (l.sees s)).nexts ∙ h));
      }

-- ---- a domain

module _ (ts : List ℕ) (at : ℕ) (t : Result Seen Refused) (l : Looks ts at t) where
  pub first-wrong : (e : Refused) → t ≡ Err e → (r : ℕ) → FirstIs ts at r
  first-wrong z j r = record { is = λ s names d st. absurd (domain-wrong s ts at t l names d st z j) }

  pub first-none : (w : Seen) → t ≡ Ok w → (w.kind ≡ 40 → ⊥) → FirstIs ts at at
  unfolding size
  first-none w j f =
      record { is = λ s names d st. subst (λ z. DomainAt s ts names z at) (domain-none s ts at t l names d st w j f) (record { rest = from s ts at; reads = refl; few = omega arith }) }

  pub first_some : (w : Seen) → t ≡ Ok w → w.kind ≡ 40 → FirstIs ts at w.next
  unfolding index_limit
  first_some w j f =
      record {
        is = λ s names d st.
            let z = domain-some s ts at t l names d st w j f in
            record { rest = z.rest; reads = entries-read names 3 (from s ts w.next) d z.rest z.reads; few = few-entries names 3 (from s ts w.next) d z.rest z.reads };
      }

-- ---- relations

module _ (r : Relation) (m : ℕ) (h : relation_mark r ≡ m) where
  flips-is : flips r ≡ eqb m 62
  flips-is = subst (λ k. flips r ≡ eqb k 62) h (go r)
    where
      go : (r : Relation) → flips r ≡ eqb (relation_mark r) 62
      go at_most = refl
      go at_least = refl
      go equal = refl
      go (between h) = refl

  equal_is : is_equal r ≡ eqb m 61
  equal_is = subst (λ k. is_equal r ≡ eqb k 61) h (go r)
    where
      go : (r : Relation) → is_equal r ≡ eqb (relation_mark r) 61
      go at_most = refl
      go at_least = refl
      go equal = refl
      go (between h) = refl

  lower-is : states_lower r ≡ not (eqb m 60)
  lower-is = subst (λ k. states_lower r ≡ not (eqb k 60)) h (go r)
    where
      go : (r : Relation) → states_lower r ≡ not (eqb (relation_mark r) 60)
      go at_most = refl
      go at_least = refl
      go equal = refl
      go (between h) = refl

  upper_is : states_upper r ≡ not (eqb m 62)
  upper_is = subst (λ k. states_upper r ≡ not (eqb k 62)) h (go r)
    where
      go : (r : Relation) → states_upper r ≡ not (eqb (relation_mark r) 62)
      go at_most = refl
      go at_least = refl
      go equal = refl
      go (between h) = refl

pub parts_are : (ts : List ℕ) (t : List Record) (k : ℕ) (r : Record) (p x m : ℕ) → r ≡ row_at t k → PlaceIs ts r.title p → FirstIs ts r.domain x → m ≡ number r.mark
    → PartsAre ts t k (record { place = p; left = r.left; right = r.right; at = x; count = r.entries; bare = r.bare; floor = r.floor; flips = eqb m 62; equal = eqb m 61; lower = not (eqb m 60); upper = not (eqb m 62) })
parts_are ts t k r p x m e pl fi hm =
    record {
      is = λ s names c o.
          let row = subst (λ z. RowOf s ts z names c) (sym e) o in
          let rel = row.relation ∙ sym hm in
          record {
            place = pl.is s _ row.title;
            left = row.left;
            right = row.right;
            floor = row.floor;
            floor_stands = row.floor_stands;
            domain = fi.is s names c.domain row.domain;
            count = row.entries;
            bare = row.bare;
            flips = flips-is c.relation m rel;
            equal = equal_is c.relation m rel;
            lower = lower-is c.relation m rel;
            upper = upper_is c.relation m rel;
          };
    }
