-- Laws over plain variables that answer the code's needs.
use Rattle.std.specs.Prelude.{Err, Ok, Result}
use Rattle.rules.specs.declared.Refused.{Refused}
use mathlib.Core.Path.{◌≡◌, refl, sym, ◌∙◌, ap, subst}
use mathlib.Core.Bool.{Bool}
use mathlib.Core.List.{List, []}
use Prim.Native.Nat.{ℕ}
use lib.ListN.{take}
use Rattle.rules.specs.Limits.{nesting_limit, constraint_limit}
use Rattle.lexer.specs.Text.{Token}
use Rattle.lexer.specs.Marks.{open_word, colon}
use Rattle.language.specs.Outcome.{Outcome, done, refused}
use Rattle.language.specs.Syntax.{Name, Constraint, Structure}
use Rattle.language.specs.Reader.{Reader, Read, follow, ◌>>=◌, give, expect, Titled, read_string}
use Rattle.language.specs.Linear.{Linear, linear_at}
use Rattle.language.specs.Declarations.{declarations}
use Rattle.language.specs.Grammar.{read_goal, constraints_of, structure}
use Rattle.tokens.specs.Stored.{from, Named, Moves, Gives, rows_of}
use Rattle.tokens.specs.Pieces.{expect_in}
use Rattle.tokens.proofs.Moved.{stood, stuck, Got, got, gives_at, gives-refused, gives_same, follow-same}
use Rattle.linear.specs.Linear.{linear_in}
use Rattle.declarations.specs.Tables.{NamesAre, Listing, Declared}
use Rattle.constraints.specs.Readers.{title_in, goal_in, constraints_in}
use Rattle.constraints.specs.declared.Record.{Record}
use Rattle.constraints.specs.declared.Stopped.{Stopped}
use Rattle.constraints.specs.Rows.{IsTrue, Rows, Constrained}
use Rattle.parser.specs.declared.Aim.{Aim}
use Rattle.parser.specs.declared.Body.{Body}
use Rattle.parser.specs.declared.Parsed.{Parsed}
use Rattle.parser.specs.Readers.{opening_in, Objective, objective_in, Content, content_in}
use Rattle.parser.specs.Parsed.{TitleAt, ObjectiveAt, ContentAt, Bodied, Parsing, ParsedAs}

-- ---- `OPEN` and a string

module _ (s ns ts : List ℕ) (at : ℕ) (r : Result ℕ Refused) (h : Moves (expect_in open_word) s ns ts at r) where
  opening-is : (names : List Name) → opening_in names (from s ts at) ≡ follow (expect_in open_word names (from s ts at)) (λ _. title_in names)
  unfolding opening_in expect_in title_in
  opening-is names = refl

  pub opening-word : (e : Refused) → r ≡ Err e → Moves opening_in s ns ts at r
  opening-word z e =
      subst (Moves opening_in s ns ts at) (sym e)
      (gives-refused opening_in (λ _ _. Unit {0}) s ns ts at z (λ names d. opening-is names ∙ ap (λ o. follow o (λ _. title_in names)) (stuck (expect_in open_word) s ns ts at r h names d z e))).moves

  module _ (a : ℕ) (q : Result ℕ Refused) (e : r ≡ Ok a) (g : Moves title_in s ns ts a q) where
    opened : Gives opening_in (TitleAt s ts a) s ns ts at q
    unfolding title_in
    opened =
        gives_same opening_in (TitleAt s ts a) s ns ts at title_in a q
        (λ names d. opening-is names ∙ ap (λ o. follow o (λ _. title_in names)) (stood (expect_in open_word) s ns ts at r h names d a e).reads)
        (record { moves = g; tells = λ names d x i. record { stands = record { rest = x.rest; reads = i } } })

    pub opening-none : (e : Refused) → q ≡ Err e → Moves opening_in s ns ts at q
    opening-none z i = opened.moves

    pub opening-title : (b : ℕ) → q ≡ Ok b → Gives opening_in (TitleAt s ts a) s ns ts at (Ok b)
    opening-title b i = subst (Gives opening_in (TitleAt s ts a) s ns ts at) i opened

-- ---- an objective

form_rest : Bool → List Name → Reader Objective
form_rest m names = linear_in 12 names >>= (λ l. give (record { minimize = m; form = l.form }))

colon_rest : Bool → List Name → Reader Objective
colon_rest m names = expect_in colon names >>= (λ _. form_rest m names)

module _ (s ns ts : List ℕ) (at : ℕ) where
  objective-is : (names : List Name) → objective_in names (from s ts at) ≡ follow (goal_in names (from s ts at)) (λ m. colon_rest m names)
  unfolding objective_in goal_in colon_rest expect_in form_rest linear_in nesting_limit
  objective-is names = refl

  no-objective : (e : Refused) → ((names : List Name) → Named s ns names → objective_in names (from s ts at) ≡ refused e.refusal e.place) → Moves objective_in s ns ts at (Err e)
  no-objective z g = (gives-refused objective_in (λ _ _. Unit {0}) s ns ts at z g).moves

  pub objective-goal : (e : Refused) → Moves goal_in s ns ts at (Err e) → Moves objective_in s ns ts at (Err e)
  objective-goal z h = no-objective z (λ names d. objective-is names ∙ ap (λ o. follow o (λ m. colon_rest m names)) (stuck goal_in s ns ts at (Err z) h names d z refl))

  module _ (m : Bool) (a : ℕ) (h : Gives goal_in (IsTrue m) s ns ts at (Ok a)) (q : Result ℕ Refused) (g : Moves (expect_in colon) s ns ts a q) where
    goal-read : (names : List Name) → Named s ns names → Got (goal_in names) (IsTrue m names) s ts at a
    goal-read names d = got goal_in (IsTrue m) s ns ts at a h names d

    two : (names : List Name) (d : Named s ns names) → objective_in names (from s ts at) ≡ follow (expect_in colon names (from s ts a)) (λ _. form_rest (goal-read names d).what names)
    unfolding colon_rest
    two names d = objective-is names ∙ ap (λ o. follow o (λ m. colon_rest m names)) (goal-read names d).reads

    pub objective-colon : (e : Refused) → q ≡ Err e → Moves objective_in s ns ts at q
    objective-colon z i =
        subst (Moves objective_in s ns ts at) (sym i)
        (no-objective z (λ names d. two names d ∙ ap (λ o. follow o (λ _. form_rest (goal-read names d).what names)) (stuck (expect_in colon) s ns ts a q g names d z i)))

    module _ (b : ℕ) (i : q ≡ Ok b) (z : Result ℕ Refused) (k : Moves (linear_in 12) s ns ts b z) where
      abbrev made : (names : List Name) → Named s ns names → Linear → Objective
      made names d l = record { minimize = (goal-read names d).what; form = l.form }

      three : (names : List Name) (d : Named s ns names) → objective_in names (from s ts at) ≡ follow (linear_in 12 names (from s ts b)) (λ l. give (made names d l))
      unfolding form_rest
      three names d = two names d ∙ ap (λ o. follow o (λ _. form_rest (goal-read names d).what names)) (stood (expect_in colon) s ns ts a q g names d b i).reads

      pub objective-linear : (e : Refused) → z ≡ Err e → Moves objective_in s ns ts at z
      objective-linear e f =
          subst (Moves objective_in s ns ts at) (sym f)
          (no-objective e (λ names d. three names d ∙ ap (λ o. follow o (λ l. give (made names d l))) (stuck (linear_in 12) s ns ts b z k names d e f)))

      pub objective-form : (c : ℕ) → z ≡ Ok c → Gives objective_in (ObjectiveAt s ts m b) s ns ts at (Ok c)
      unfolding linear_in nesting_limit
      objective-form c f =
          gives_at objective_in (ObjectiveAt s ts m b) s ns ts at c (λ names d.
          let x = stood (linear_in 12) s ns ts b z k names d c f in
          record {
            what = made names d x.what;
            reads = three names d ∙ ap (λ o. follow o (λ l. give (made names d l))) x.reads;
            holds = record {
              minimize = (goal-read names d).holds.same;
              form = record { linear = x.what; stands = record { rest = from s ts c; reads = x.reads }; form = refl };
            };
          })

-- ---- the objective and the constraints

rows_rest : List Name → Objective → Reader Content
rows_rest names o = constraints_in constraint_limit names >>= (λ cs. give (record { objective = o; constraints = cs }))

module _ (s ns ts : List ℕ) (at : ℕ) where
  content-is : (names : List Name) → content_in names (from s ts at) ≡ follow (objective_in names (from s ts at)) (rows_rest names)
  unfolding content_in rows_rest constraints_in
  content-is names = refl

  no-body : (e : Refused) (t : List Record) → ((names : List Name) → Named s ns names → content_in names (from s ts at) ≡ refused e.refusal e.place) → Bodied s ns ts at (Err e) t
  no-body z t g = record { within = tt; gives = (gives-refused content_in (λ _ _. Unit {0}) s ns ts at z g).moves }

  pub body-objective : (e : Refused) (t : List Record) → Moves objective_in s ns ts at (Err e) → Bodied s ns ts at (Err e) t
  body-objective z t h = no-body z t (λ names d. content-is names ∙ ap (λ o. follow o (rows_rest names)) (stuck objective_in s ns ts at (Err z) h names d z refl))

  module _ (r : Aim) (a : ℕ) (h : Gives objective_in (ObjectiveAt s ts r.minimize r.position) s ns ts at (Ok a)) where
    objective-read : (names : List Name) → Named s ns names → Got (objective_in names) (ObjectiveAt s ts r.minimize r.position names) s ts at a
    objective-read names d = got objective_in (ObjectiveAt s ts r.minimize r.position) s ns ts at a h names d

    abbrev all : (names : List Name) → Named s ns names → List Constraint → Content
    all names d cs = record { objective = (objective-read names d).what; constraints = cs }

    behind : (names : List Name) (d : Named s ns names) → content_in names (from s ts at) ≡ follow (constraints_in constraint_limit names (from s ts a)) (λ cs. give (all names d cs))
    unfolding rows_rest
    behind names d = content-is names ∙ ap (λ o. follow o (rows_rest names)) (objective-read names d).reads

    pub body-refused : (e : Stopped) (t t' : List Record) → Constrained s ns ts t a (Err e) t' → Bodied s ns ts at (Err e.refused) t'
    body-refused e t t' g =
        no-body e.refused t' (λ names d. behind names d ∙ ap (λ o. follow o (λ cs. give (all names d cs))) (stuck (constraints_in constraint_limit) s ns ts a (Err e.refused) g.gives names d e.refused refl))

    pub body-rows : (n b : ℕ) (t t' : List Record) → Constrained s ns ts t a (Ok (n, b)) t' → Bodied s ns ts at (Ok (record { minimize = r.minimize; objective = r.position; constraints = n }, b)) t'
    body-rows n b t t' g =
        record {
          within = g.within;
          gives = gives_at content_in (ContentAt s ts r.minimize r.position (take n t')) s ns ts at b (λ names d.
              let x = got (constraints_in constraint_limit) (Rows s ts (take n t')) s ns ts a b g.gives names d in
              record {
                what = all names d x.what;
                reads = behind names d ∙ ap (λ o. follow o (λ cs. give (all names d cs))) x.reads;
                holds = record { objective = (objective-read names d).holds; constraints = x.holds };
              });
        }

-- ---- the whole model

abbrev model : Titled → List Name → Content → Structure
model t names x = record { title = t.title; names = names; minimize = x.objective.minimize; objective = x.objective.form; constraints = x.constraints }

content_rest : Titled → List Name → Reader Structure
content_rest t names = content_in names >>= (λ x. give (model t names x))

names_rest : Titled → Reader Structure
names_rest t = declarations >>= content_rest t

follow-follow : {A B C : Type 0} (o : Outcome (Read A)) (f : A → Reader B) (g : B → Reader C) → follow o (λ a. f a >>= g) ≡ follow (follow o f) g
follow-follow (done x) f g = refl
follow-follow (refused n p) f g = refl

-- what is made of the parts
abbrev listed : Titled → List Name → Bool → Linear → List Constraint → Structure
listed t ns m f cs = record { title = t.title; names = ns; minimize = m; objective = f.form; constraints = cs }

abbrev aim : Bool → Linear → Objective
aim m f = record { minimize = m; form = f.form }

abbrev content_of : List Name → Objective → Reader Content
content_of ns o = constraints_of ns constraint_limit >>= (λ cs. give (record { objective = o; constraints = cs }))

structure-is : (names : List Name) (l : List Token) → structure l ≡ follow (opening_in names l) names_rest
unfolding structure opening_in names_rest content_rest content_in objective_in
structure-is names l =
    follow-same (expect open_word l) _ (λ _. read_string >>= names_rest) (λ _ l.
    follow-same (read_string l) _ names_rest (λ t l.
    follow-same (declarations l) _ (content_rest t) (λ ns l. goal t ns (read_goal l))))
    ∙ follow-follow (expect open_word l) (λ _. read_string) names_rest
  where
    constraints : (t : Titled) (ns : List Name) (m : Bool) (f : Linear) (o : Outcome (Read (List Constraint)))
        → follow o (λ cs. give (listed t ns m f cs)) ≡ follow (follow o (λ cs. give (record { objective = aim m f; constraints = cs }))) (λ x. give (model t ns x))
    constraints t ns m f (done x) = refl
    constraints t ns m f (refused n p) = refl

    form : (t : Titled) (ns : List Name) (m : Bool) (o : Outcome (Read Linear))
        → follow o (λ f. constraints_of ns constraint_limit >>= (λ cs. give (listed t ns m f cs))) ≡ follow (follow (follow o (λ f. give (aim m f))) (content_of ns)) (λ x. give (model t ns x))
    form t ns m (done x) = constraints t ns m x.what (constraints_of ns constraint_limit x.rest)
    form t ns m (refused n p) = refl

    sign : (t : Titled) (ns : List Name) (m : Bool) (o : Outcome (Read ℕ))
        → follow o (λ _. linear_at ns nesting_limit >>= (λ f. constraints_of ns constraint_limit >>= (λ cs. give (listed t ns m f cs))))
        ≡ follow (follow (follow o (λ _. linear_at ns nesting_limit >>= (λ f. give (aim m f)))) (content_of ns)) (λ x. give (model t ns x))
    sign t ns m (done x) = form t ns m (linear_at ns nesting_limit x.rest)
    sign t ns m (refused n p) = refl

    goal : (t : Titled) (ns : List Name) (o : Outcome (Read Bool))
        → follow o (λ m. expect colon >>= (λ _. linear_at ns nesting_limit >>= (λ f. constraints_of ns constraint_limit >>= (λ cs. give (listed t ns m f cs)))))
        ≡ follow (follow (follow o (λ m. expect colon >>= (λ _. linear_at ns nesting_limit >>= (λ f. give (aim m f))))) (content_of ns)) (λ x. give (model t ns x))
    goal t ns (done x) = sign t ns x.what (expect colon x.rest)
    goal t ns (refused n p) = refl

module _ (s ts : List ℕ) where
  no-model : (e : Refused) (ns : List ℕ) (t : List Record) → structure (from s ts 0) ≡ refused e.refusal e.place → ParsedAs s ts (Err e) ns t
  no-model z ns t i = record { named = tt; constrained = tt; outcome = subst (λ o. Parsing o s ts (Err z) ns t) (sym i) (refl, refl) }

  pub parse-opening : (e : Refused) (ns : List ℕ) (t : List Record) → Moves opening_in s [] ts 0 (Err e) → ParsedAs s ts (Err e) ns t
  parse-opening z ns t h = no-model z ns t (structure-is [] (from s ts 0) ∙ ap (λ o. follow o names_rest) (stuck opening_in s [] ts 0 (Err z) h [] tt z refl))

  module _ (p a : ℕ) (h : Gives opening_in (TitleAt s ts p) s [] ts 0 (Ok a)) where
    title-read : Got (opening_in []) (TitleAt s ts p []) s ts 0 a
    title-read = got opening_in (TitleAt s ts p) s [] ts 0 a h [] tt

    second : structure (from s ts 0) ≡ follow (declarations (from s ts a)) (content_rest title-read.what)
    unfolding names_rest
    second = structure-is [] (from s ts 0) ∙ ap (λ o. follow o names_rest) title-read.reads

    pub parse-names : (e : Refused) (ns : List ℕ) (t : List Record) → Declared s ts a (Err e) ns → ParsedAs s ts (Err e) ns t
    parse-names z ns t g = no-model z ns t (second ∙ ap (λ o. follow o (content_rest title-read.what)) (go (declarations (from s ts a)) g.lists))
      where
        go : (o : Outcome (Read (List Name))) → Listing o s ts (Err z) ns → o ≡ refused z.refusal z.place
        go (done x) k = absurd k
        go (refused m q) k = ap (λ m. refused m q) k.0 ∙ ap (refused z.refusal) k.1

    module _ (ns : List ℕ) (n b : ℕ) (g : Declared s ts a (Ok (n, b)) ns) (t : List Record) where
      -- what the names are, and what is read behind them
      all-read : (q : Result (Parsed × ℕ) Refused) → ((names : List Name) → NamesAre s ts (rows_of n ns) names → Parsing (content_rest title-read.what names (from s ts b)) s ts q ns t) → Parsing (structure (from s ts 0)) s ts q ns t
      all-read q f = subst (λ o. Parsing o s ts q ns t) (sym second) (go (declarations (from s ts a)) g.lists)
        where
          go : (o : Outcome (Read (List Name))) → Listing o s ts (Ok (n, b)) ns → Parsing (follow o (content_rest title-read.what)) s ts q ns t
          go (done x) u = subst (λ l. Parsing (content_rest title-read.what x.what l) s ts q ns t) (sym u.0) (f x.what u.1)
          go (refused n p) u = absurd u

      pub parse-none : (e : Refused) → Bodied s (rows_of n ns) ts b (Err e) t → ParsedAs s ts (Err e) ns t
      unfolding content_rest
      parse-none e k =
          record {
            named = tt;
            constrained = tt;
            outcome = all-read (Err e) (λ names d.
                subst (λ o. Parsing (follow o (λ x. give (model title-read.what names x))) s ts (Err e) ns t) (sym (stuck content_in s (rows_of n ns) ts b (Err e) k.gives names d.named e refl)) (refl, refl));
          }

      pub parse-body : (w : Body) (c : ℕ) → Bodied s (rows_of n ns) ts b (Ok (w, c)) t
          → ParsedAs s ts (Ok (record { title = p; names = n; minimize = w.minimize; objective = w.objective; constraints = w.constraints }, c)) ns t
      unfolding content_rest
      parse-body w c k =
          let r : Parsed = record { title = p; names = n; minimize = w.minimize; objective = w.objective; constraints = w.constraints } in
          record {
            named = g.within;
            constrained = k.within;
            outcome = all-read (Ok (r, c)) (λ names d.
                let x = got content_in (ContentAt s ts w.minimize w.objective (take w.constraints t)) s (rows_of n ns) ts b c k.gives names d.named in
                subst (λ o. Parsing (follow o (λ x. give (model title-read.what names x))) s ts (Ok (r, c)) ns t) (sym x.reads) (
                  refl,
                  record {
                    place = title-read.what.place;
                    title = title-read.holds.stands;
                    names = d;
                    minimize = x.holds.objective.minimize;
                    objective = x.holds.objective.form;
                    constraints = x.holds.constraints;
                  },
                ));
          }
