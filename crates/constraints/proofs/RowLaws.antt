-- Laws of one constraint, over plain variables.
use Rattle.std.specs.Prelude.{Err, Ok, Result}
use Rattle.rules.specs.declared.Refused.{Refused}
use mathlib.Core.Path.{◌≡◌, refl, sym, ◌∙◌, ap, subst}
use mathlib.Core.Bool.{Bool}
use mathlib.Core.List.{List}
use Prim.Native.Nat.{ℕ}
use Rattle.rules.specs.Limits.{nesting_limit}
use Rattle.language.specs.Outcome.{refused}
use Rattle.language.specs.Syntax.{Name, Spans, Constraint}
use Rattle.language.specs.Reader.{Reader, follow, ◌>>=◌, give, Titled}
use Rattle.language.specs.Linear.{Linear, side_of}
use Rattle.language.specs.Grammar.{constraint_of}
use Rattle.tokens.specs.Stored.{from, Named, Moves, Gives}
use Rattle.tokens.proofs.Moved.{Stood, stood, stuck, Got, got, gives_at, gives-refused, follow-same}
use Rattle.formulas.specs.Cycle.{formula_in}
use Rattle.linear.specs.Linear.{linear_in}
use Rattle.domains.specs.Domains.{optional_in}
use Rattle.constraints.specs.declared.Sites.{Sites}
use Rattle.constraints.specs.declared.Bounds.{Bounds}
use Rattle.constraints.specs.Readers.{title_in, relation_in, Comparison, comparison_in, constraint_in}
use Rattle.constraints.specs.Rows.{Compares, Located, RowOf}
use Rattle.constraints.specs.Shape.{IsBare, SizeIs}
use Rattle.constraints.proofs.ComparisonLaws.{comparison-then}

abbrev made : Titled → Linear → Comparison → Spans → Constraint
made s l c d = record { title = s.title; place = s.place; left = side_of l.signed l.form; relation = c.relation; right = c.right; domain = d }

-- what is read behind each part
domain_rest : Titled → Linear → Comparison → List Name → Reader Constraint
domain_rest s l c names = optional_in names >>= (λ d. give (made s l c d))

sign_rest : Titled → Linear → List Name → Reader Constraint
sign_rest s l names = comparison_in names >>= (λ c. domain_rest s l c names)

left_rest : Titled → List Name → Reader Constraint
left_rest s names = linear_in 12 names >>= (λ l. sign_rest s l names)

module _ (s ns ts : List ℕ) (at : ℕ) where
  constraint-is : (names : List Name) → constraint_in names (from s ts at) ≡ follow (title_in names (from s ts at)) (λ x. left_rest x names)
  unfolding constraint_in constraint_of title_in left_rest linear_in sign_rest relation_in formula_in domain_rest optional_in nesting_limit
  constraint-is names =
      follow-same (title_in names (from s ts at)) _ _ (λ x l.
      follow-same (linear_in 12 names l) _ _ (λ y l. sym (comparison-then names (λ c. domain_rest x y c names) l)))

  no-sites : (e : Refused) → ((names : List Name) → Named s ns names → constraint_in names (from s ts at) ≡ refused e.refusal e.place) → Moves constraint_in s ns ts at (Err e)
  no-sites z g = (gives-refused constraint_in (λ _ _. Unit {0}) s ns ts at z g).moves

  module _ (r : Result ℕ Refused) (h : Moves title_in s ns ts at r) where
    pub row-title : (e : Refused) → r ≡ Err e → Moves constraint_in s ns ts at r
    row-title z e =
        subst (Moves constraint_in s ns ts at) (sym e)
        (no-sites z (λ names d. constraint-is names ∙ ap (λ o. follow o (λ x. left_rest x names)) (stuck title_in s ns ts at r h names d z e)))

    module _ (a : ℕ) (r₂ : Result ℕ Refused) (e : r ≡ Ok a) (h₂ : Moves (linear_in 12) s ns ts a r₂) where
      title-read : (names : List Name) → Named s ns names → Stood (title_in names) s ts at a
      title-read names d = stood title_in s ns ts at r h names d a e

      two : (names : List Name) (d : Named s ns names) → constraint_in names (from s ts at) ≡ follow (linear_in 12 names (from s ts a)) (λ l. sign_rest (title-read names d).what l names)
      unfolding left_rest
      two names d = constraint-is names ∙ ap (λ o. follow o (λ x. left_rest x names)) (title-read names d).reads

      pub row-left : (e : Refused) → r₂ ≡ Err e → Moves constraint_in s ns ts at r₂
      row-left w z =
          subst (Moves constraint_in s ns ts at) (sym z)
          (no-sites w (λ names d. two names d ∙ ap (λ o. follow o (λ l. sign_rest (title-read names d).what l names)) (stuck (linear_in 12) s ns ts a r₂ h₂ names d w z)))

      module _ (b : ℕ) (e₂ : r₂ ≡ Ok b) where
        left-read : (names : List Name) → Named s ns names → Stood (linear_in 12 names) s ts a b
        left-read names d = stood (linear_in 12) s ns ts a r₂ h₂ names d b e₂

        three : (names : List Name) (d : Named s ns names)
            → constraint_in names (from s ts at) ≡ follow (comparison_in names (from s ts b)) (λ c. domain_rest (title-read names d).what (left-read names d).what c names)
        unfolding sign_rest
        three names d = two names d ∙ ap (λ o. follow o (λ l. sign_rest (title-read names d).what l names)) (left-read names d).reads

        pub row-right : (e : Refused) → Moves comparison_in s ns ts b (Err e) → Moves constraint_in s ns ts at (Err e)
        row-right w h₃ =
            no-sites w (λ names d.
            three names d ∙ ap (λ o. follow o (λ c. domain_rest (title-read names d).what (left-read names d).what c names)) (stuck comparison_in s ns ts b (Err w) h₃ names d w refl))

        module _ (r₃ : Bounds) (c : ℕ) (h₃ : Gives comparison_in (Compares s ts r₃) s ns ts b (Ok c)) (q : Result ℕ Refused) (u : Moves optional_in s ns ts c q) where
          right-read : (names : List Name) → Named s ns names → Got (comparison_in names) (Compares s ts r₃ names) s ts b c
          right-read names d = got comparison_in (Compares s ts r₃) s ns ts b c h₃ names d

          abbrev all : (names : List Name) → Named s ns names → Spans → Constraint
          all names d w = made (title-read names d).what (left-read names d).what (right-read names d).what w

          four : (names : List Name) (d : Named s ns names) → constraint_in names (from s ts at) ≡ follow (optional_in names (from s ts c)) (λ w. give (all names d w))
          unfolding domain_rest
          four names d = three names d ∙ ap (λ o. follow o (λ c. domain_rest (title-read names d).what (left-read names d).what c names)) (right-read names d).reads

          pub row-domain : (e : Refused) → q ≡ Err e → Moves constraint_in s ns ts at q
          row-domain e z =
              subst (Moves constraint_in s ns ts at) (sym z)
              (no-sites e (λ names d. four names d ∙ ap (λ o. follow o (λ w. give (all names d w))) (stuck optional_in s ns ts c q u names d e z)))

          abbrev sites : Sites
          sites = record { title = at; left = a; mark = r₃.mark; right = r₃.right; floor = r₃.floor; domain = c }

          row-of : (names : List Name) (d : Named s ns names) (j : ℕ) (w : Stood (optional_in names) s ts c j) → Located s ts sites names (all names d w.what)
          unfolding title_in linear_in optional_in nesting_limit
          row-of names d j w =
              let y = (right-read names d).holds in
              record {
                title = record { rest = from s ts a; reads = (title-read names d).reads };
                left = record { linear = (left-read names d).what; stands = record { rest = from s ts b; reads = (left-read names d).reads }; side = refl };
                relation = y.relation;
                right = y.right;
                floor = y.floor;
                floor_stands = y.floor_stands;
                domain = record { rest = from s ts j; reads = w.reads };
              }

          pub row-all : (j : ℕ) → q ≡ Ok j
              → Gives constraint_in (Located s ts (record { title = at; left = a; mark = r₃.mark; right = r₃.right; floor = r₃.floor; domain = c })) s ns ts at (Ok j)
          row-all j z =
              gives_at constraint_in (Located s ts sites) s ns ts at j (λ names d.
              let w = stood optional_in s ns ts c q u names d j z in
              record { what = all names d w.what; reads = four names d ∙ ap (λ o. follow o (λ w. give (all names d w))) w.reads; holds = row-of names d j w })

-- ---- its row

pub row_is : (s ns ts : List ℕ) (at : ℕ) (q : Sites) (a : ℕ) (b : Bool) (n : ℕ) → Gives constraint_in (Located s ts q) s ns ts at (Ok a) → IsBare s ns ts q.left b → SizeIs s ns ts q.domain n
    → Gives constraint_in (RowOf s ts (record { title = q.title; left = q.left; mark = q.mark; bare = b; floor = q.floor; entries = n; right = q.right; domain = q.domain })) s ns ts at (Ok a)
row_is s ns ts at q a b n h g w =
    record {
      moves = h.moves;
      tells = λ names d x e.
          let y = h.tells names d x e in
          record {
            title = y.title;
            left = y.left;
            relation = y.relation;
            bare = sym (g.is names d x.what.left y.left);
            floor = y.floor;
            entries = w.is names d x.what.domain y.domain;
            right = y.right;
            floor_stands = y.floor_stands;
            domain = y.domain;
          };
    }
