-- Laws of a relation with its right side, over plain variables.
use Rattle.std.specs.Prelude.{Err, Ok, Result}
use Rattle.rules.specs.declared.Refused.{Refused}
use mathlib.Core.Path.{◌≡◌, refl, sym, ◌∙◌, ap, subst}
use mathlib.Core.Bool.{Bool}
use mathlib.Core.List.{List}
use Prim.Native.Nat.{ℕ}
use Rattle.rules.specs.Limits.{nesting_limit}
use Rattle.lexer.specs.Text.{Token}
use Rattle.language.specs.Outcome.{refused}
use Rattle.language.specs.Syntax.{Name, Formula, Relation}
use Rattle.language.specs.Reader.{Reader, follow, ◌>>=◌, give}
use Rattle.lexer.specs.declared.Mark.{Mark}
use Rattle.lexer.specs.Numbers.{number}
use Rattle.language.specs.Grammar.{read_floor}
use Rattle.tokens.specs.Stored.{from, Named, Moves, Gives}
use Rattle.tokens.proofs.Moved.{Stood, stood, stuck, Got, got, gives_at, gives-refused, follow-same}
use Rattle.formulas.specs.Cycle.{formula_in}
use Rattle.constraints.specs.Readers.{relation_in, floor_in, Comparison, comparison_in}
use Rattle.constraints.specs.Rows.{relation_mark, IsRelation, IsFloor, Compares}
use Rattle.constraints.proofs.FloorLaws.{follow-follow}

-- what is read behind each part
floor_rest : Relation → Formula → List Name → Reader Comparison
floor_rest r f names = read_floor names r >>= (λ q. give (record { relation = q; right = f }))

right_rest : Relation → List Name → Reader Comparison
right_rest r names = formula_in 12 names >>= (λ f. floor_rest r f names)

-- a comparison and what follows it, part by part
pub comparison-then : {A : Type 0} (names : List Name) (k : Comparison → Reader A) (l : List Token)
    → follow (comparison_in names l) k ≡ follow (relation_in names l) (λ r. formula_in 12 names >>= (λ f. read_floor names r >>= (λ q. k (record { relation = q; right = f }))))
unfolding comparison_in relation_in formula_in nesting_limit
comparison-then names k l =
    follow-follow (relation_in names l) _ k
    ∙ follow-same (relation_in names l) _ _ (λ r l. follow-follow (formula_in 12 names l) _ k ∙ follow-same (formula_in 12 names l) _ _ (λ f l. follow-follow (read_floor names r l) _ k))

module _ (s ns ts : List ℕ) (at : ℕ) where
  refuses : (e : Refused) → ((names : List Name) → Named s ns names → comparison_in names (from s ts at) ≡ refused e.refusal e.place) → Moves comparison_in s ns ts at (Err e)
  refuses z g = (gives-refused comparison_in (λ _ _. Unit {0}) s ns ts at z g).moves

  one : (names : List Name) → comparison_in names (from s ts at) ≡ follow (relation_in names (from s ts at)) (λ r. right_rest r names)
  unfolding comparison_in relation_in right_rest formula_in floor_rest nesting_limit
  one names = refl

  pub comparison-relation : (e : Refused) → Moves relation_in s ns ts at (Err e) → Moves comparison_in s ns ts at (Err e)
  comparison-relation w h = refuses w (λ names d. one names ∙ ap (λ o. follow o (λ r. right_rest r names)) (stuck relation_in s ns ts at (Err w) h names d w refl))

  module _ (m : Mark) (a : ℕ) (h : Gives relation_in (IsRelation (number m)) s ns ts at (Ok a)) (r : Result ℕ Refused) (h₂ : Moves (formula_in 12) s ns ts a r) where
    relation-read : (names : List Name) → Named s ns names → Got (relation_in names) (IsRelation (number m) names) s ts at a
    relation-read names d = got relation_in (IsRelation (number m)) s ns ts at a h names d

    two : (names : List Name) (d : Named s ns names) → comparison_in names (from s ts at) ≡ follow (formula_in 12 names (from s ts a)) (λ f. floor_rest (relation-read names d).what f names)
    unfolding right_rest
    two names d = one names ∙ ap (λ o. follow o (λ r. right_rest r names)) (relation-read names d).reads

    pub comparison-right : (e : Refused) → r ≡ Err e → Moves comparison_in s ns ts at r
    comparison-right w z =
        subst (Moves comparison_in s ns ts at) (sym z)
        (refuses w (λ names d. two names d ∙ ap (λ o. follow o (λ f. floor_rest (relation-read names d).what f names)) (stuck (formula_in 12) s ns ts a r h₂ names d w z)))

    module _ (b : ℕ) (e₂ : r ≡ Ok b) where
      right-read : (names : List Name) → Named s ns names → Stood (formula_in 12 names) s ts a b
      right-read names d = stood (formula_in 12) s ns ts a r h₂ names d b e₂

      three : (names : List Name) (d : Named s ns names)
          → comparison_in names (from s ts at) ≡ follow (floor_in (number m) names (from s ts b)) (λ q. give (record { relation = q; right = (right-read names d).what }))
      unfolding floor_rest floor_in
      three names d =
          two names d ∙ ap (λ o. follow o (λ f. floor_rest (relation-read names d).what f names)) (right-read names d).reads
          ∙ ap (λ r. floor_rest r (right-read names d).what names (from s ts b)) (relation-read names d).holds.plain

      pub comparison-low : (e : Refused) → Moves (floor_in (number m)) s ns ts b (Err e) → Moves comparison_in s ns ts at (Err e)
      comparison-low e u =
          refuses e (λ names d. three names d ∙ ap (λ o. follow o (λ q. give (record { relation = q; right = (right-read names d).what }))) (stuck (floor_in (number m)) s ns ts b (Err e) u names d e refl))

      pub comparison-floor : (v : Bool) (j : ℕ) → Gives (floor_in (number m)) (IsFloor (number m) (from s ts b) v) s ns ts b (Ok j) → Gives comparison_in (Compares s ts (record { mark = m; right = a; floor = v })) s ns ts at (Ok j)
      unfolding formula_in nesting_limit
      comparison-floor v j u =
          gives_at comparison_in (Compares s ts (record { mark = m; right = a; floor = v })) s ns ts at j (λ names d.
          let w = got (floor_in (number m)) (IsFloor (number m) (from s ts b) v) s ns ts b j u names d in
          let y = (relation-read names d).holds in
          record {
            what = record { relation = w.what; right = (right-read names d).what };
            reads = three names d ∙ ap (λ o. follow o (λ q. give (record { relation = q; right = (right-read names d).what }))) w.reads;
            holds = record {
              relation = w.holds.mark ∙ ap relation_mark (sym y.plain) ∙ y.mark;
              right = record { rest = from s ts b; reads = (right-read names d).reads };
              floor = w.holds.floor;
              floor_stands = w.holds.stands;
            };
          })
