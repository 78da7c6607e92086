-- Laws of the list of constraints and of their table, over plain variables.
use Rattle.std.specs.Prelude.{Err, Ok, Result}
use Rattle.rules.specs.declared.Refused.{Refused}
use mathlib.Core.Path.{◌≡◌, refl, sym, ◌∙◌, ap, subst}
use mathlib.Core.Bool.{Bool, true, false}
use mathlib.Core.List.{List, [], ◌∷◌, ◌++◌, append_assoc}
use Prim.Native.Nat.{ℕ, suc, ◌+◌, ◌-◌, ◌<◌, ◌≤◌}
use native.Mathlib.Omega.{arith}
use lib.ListN.{length, take, drop, set, length-set}
use lib.Seq.{drop-drop}
use Rattle.std.proofs.lemmas.List.{take_more_set, drop-set-lt}
use Rattle.rules.specs.declared.Refusal.TheVariants.{Full}
use Rattle.rules.specs.Limits.{constraint_limit}
use Rattle.lexer.specs.Text.{Token}
use Rattle.language.specs.Outcome.{Outcome, done, refused}
use Rattle.language.specs.Syntax.{Name, Constraint}
use Rattle.language.specs.Reader.{Reader, Read, follow, ◌>>=◌, give, look, is_string}
use Rattle.language.specs.Grammar.{constraints_of}
use Rattle.tokens.specs.declared.Seen.{Seen}
use Rattle.tokens.specs.Stored.{token, from, Sees, Looks, Named, Moves, Gives}
use Rattle.tokens.proofs.Moved.{Got, got, stuck, gives_at, gives-refused, follow-same, look_is}
use Rattle.constraints.specs.declared.Record.{Record}
use Rattle.constraints.specs.declared.Stopped.{Stopped}
use Rattle.constraints.specs.Readers.{constraint_in, more_in, constraints_in}
use Rattle.constraints.specs.Rows.{IsTrue, RowOf, Rows, Constrained}

-- ---- no constraint more

module _ (s ns ts : List ℕ) (at : ℕ) (t : Result Seen Refused) (l : Looks ts at t) where
  pub full-token : (w : Seen) → t ≡ Ok w → Moves (constraints_in 0) s ns ts at (Err (record { refusal = Full; place = w.place }))
  unfolding constraints_in constraints_of token
  full-token z e = record { matches = λ names d. rw (look_is s ts at z (subst (Sees s ts at) e (l.sees s))) (refl, refl) }

  pub full-wrong : (e : Refused) → t ≡ Err e → Moves (constraints_in 0) s ns ts at (Err e)
  unfolding constraints_in constraints_of
  full-wrong z e = let u = subst (Sees s ts at) e (l.sees s) in record { matches = λ names d. rw u.looks (refl, refl) }

-- ---- one row more

rows_more : (s ts : List ℕ) (rows : List Record) (r : Record) (names : List Name) (xs : List Constraint) (x : Constraint) → Rows s ts rows names xs → RowOf s ts r names x
    → Rows s ts (rows ++ (r ∷ [])) names (xs ++ (x ∷ []))
rows_more s ts [] r names [] x h o = (o, tt)
rows_more s ts [] r names (y ∷ ys) x h o = absurd h
rows_more s ts (q ∷ rows) r names [] x h o = absurd h
rows_more s ts (q ∷ rows) r names (y ∷ ys) x h o = (h.0, rows_more s ts rows r names ys x h.1 o)

rest_more : (n k : ℕ) (t t' : List Record) → n < k → drop n t' ≡ drop n t → drop k t' ≡ drop k t
rest_more n k t t' l h = let e : n + (k - n) ≡ k = omega arith in subst (λ k. drop k t' ≡ drop k t) e (sym (drop-drop (k - n) n t') ∙ ap (drop (k - n)) h ∙ drop-drop (k - n) n t)

-- ---- one constraint and those behind it

turn : ℕ → Constraint → List Name → Bool → Reader (List Constraint)
turn n c names b = elim b as (λ _. Reader (List Constraint)) [ true ↦ constraints_in n names >>= (λ cs. give (c ∷ cs)) | false ↦ give (c ∷ []) ]

constraints-is : (n : ℕ) (names : List Name) (l : List Token) → constraints_in (suc n) names l ≡ follow (constraint_in names l) (λ c. more_in names >>= turn n c names)
unfolding constraints_in constraints_of constraint_in more_in turn
constraints-is n names l = follow-same (constraint_in names l) _ _ (λ c l. go c (look l))
  where
    go : (c : Constraint) (o : Outcome (Read Token)) → follow o (λ t. turn n c names (is_string t)) ≡ follow (follow o (λ t. give (is_string t))) (turn n c names)
    go c (done x) = refl
    go c (refused m p) = refl

-- those before, and those that are read
abbrev behind : List Constraint → Outcome (Read (List Constraint)) → Outcome (Read (List Constraint))
behind before o = follow o (λ cs. give (before ++ cs))

behind-none : (o : Outcome (Read (List Constraint))) → o ≡ behind [] o
behind-none (done x) = refl
behind-none (refused n p) = refl

behind-one : (before : List Constraint) (c : Constraint) (o : Outcome (Read (List Constraint))) → behind before (follow o (λ cs. give (c ∷ cs))) ≡ behind (before ++ (c ∷ [])) o
behind-one before c (done x) = ap (λ l. done (record { what = l; rest = x.rest })) (sym (append_assoc before (c ∷ []) x.what))
behind-one before c (refused n p) = refl

-- ---- the loop: what is read from here on, behind what was read, is what is read from the start

pub record Reached (s ts : List ℕ) (rows : List Record) (names : List Name) (at n a : ℕ) : Type 0 where
  pub before : List Constraint
  pub are : Rows s ts rows names before
  pub same : constraints_in 64 names (from s ts at) ≡ behind before (constraints_in (64 - n) names (from s ts a))

pub record ConstraintsOn (s ns ts : List ℕ) (t : List Record) (at n a : ℕ) (t' : List Record) : Type 0 where
  pub size : length t' ≡ length t
  pub within : n ≤ 64
  pub rest : drop n t' ≡ drop n t
  pub reached : (names : List Name) → Named s ns names → Reached s ts (take n t') names at n a

module _ (s ns ts : List ℕ) (t : List Record) (at : ℕ) where
  pub constraints-start : ConstraintsOn s ns ts t at 0 at t
  constraints-start =
      record { size = refl; within = omega arith; rest = refl; reached = λ names d. record { before = []; are = tt; same = behind-none (constraints_in 64 names (from s ts at)) } }

  -- a refusal behind n rows
  abbrev after : ℕ → Refused → Result (ℕ × ℕ) Stopped
  after n e = Err (record { count = n; refused = e })

  refused-with : (n : ℕ) (t' : List Record) (w : Refused) → length t' ≡ length t → n ≤ 64 → drop n t' ≡ drop n t
      → ((names : List Name) → Named s ns names → constraints_in 64 names (from s ts at) ≡ refused w.refusal w.place) → Constrained s ns ts t at (after n w) t'
  unfolding constraint_limit
  refused-with n t' z size within rest g = record { size = size; within = within; gives = (gives-refused (constraints_in 64) (λ _ _. Unit {0}) s ns ts at z g).moves; rest = rest }

  module _ (n a : ℕ) (t' : List Record) (o : ConstraintsOn s ns ts t at n a t') where
    pub constraints-full : (e : Refused) → 64 ≤ n → Moves (constraints_in 0) s ns ts a (Err e) → Constrained s ns ts t at (after 64 e) t'
    constraints-full w h m =
        let z : 64 - n ≡ 0 = omega arith in
        let full : n ≡ 64 = omega (arith, o.within) in
        refused-with 64 t' w o.size (omega arith) (subst (λ n. drop n t' ≡ drop n t) full o.rest) (λ names d.
        let x = o.reached names d in
        x.same ∙ ap (behind x.before) (ap (λ k. constraints_in k names (from s ts a)) z ∙ stuck (constraints_in 0) s ns ts a (Err w) m names d w refl))

    module _ (m : n < 64) where
      one : (names : List Name) → constraints_in (64 - n) names (from s ts a) ≡ follow (constraint_in names (from s ts a)) (λ c. more_in names >>= turn (64 - (n + 1)) c names)
      one names = let e : 64 - n ≡ suc (64 - (n + 1)) = omega arith in ap (λ j. constraints_in j names (from s ts a)) e ∙ constraints-is (64 - (n + 1)) names (from s ts a)

      pub constraints-refused : (e : Refused) → Moves constraint_in s ns ts a (Err e) → Constrained s ns ts t at (after n e) t'
      constraints-refused z h =
          refused-with n t' z o.size o.within o.rest (λ names d.
          let x = o.reached names d in
          x.same ∙ ap (behind x.before) (one names ∙ ap (λ o. follow o (λ c. more_in names >>= turn (64 - (n + 1)) c names)) (stuck constraint_in s ns ts a (Err z) h names d z refl)))

      module _ (row : Record) (b : ℕ) (h : Gives constraint_in (RowOf s ts row) s ns ts a (Ok b)) (room : 64 ≤ length t) where
        abbrev t'' : List Record
        t'' = set t' n row

        row-got : (names : List Name) → Named s ns names → Got (constraint_in names) (RowOf s ts row names) s ts a b
        row-got names d = got constraint_in (RowOf s ts row) s ns ts a b h names d

        grown : (names : List Name) (d : Named s ns names) → Rows s ts (take (n + 1) t'') names ((o.reached names d).before ++ ((row-got names d).what ∷ []))
        grown names d =
            let x = o.reached names d in
            subst (λ t. Rows s ts t names (x.before ++ ((row-got names d).what ∷ []))) (sym (take_more_set t' n row (omega (arith, o.size))))
            (rows_more s ts (take n t') row names x.before (row-got names d).what x.are (row-got names d).holds)

        size-same : length t'' ≡ length t
        size-same = length-set t' n row ∙ o.size

        rest-same : (k : ℕ) → n < k → drop k t'' ≡ drop k t
        rest-same k l = drop-set-lt k t' n row l ∙ rest_more n k t t' l o.rest

        two : (names : List Name) (d : Named s ns names) → constraints_in (64 - n) names (from s ts a) ≡ follow (more_in names (from s ts b)) (turn (64 - (n + 1)) (row-got names d).what names)
        two names d = one names ∙ ap (λ o. follow o (λ c. more_in names >>= turn (64 - (n + 1)) c names)) (row-got names d).reads

        pub constraints-wrong : (e : Refused) (c : ℕ) → Moves more_in s ns ts b (Err e) → n < c → c ≤ 64 → Constrained s ns ts t at (after c e) (set t' n row)
        constraints-wrong z c k l h =
            refused-with c t'' z size-same h (rest-same c l) (λ names d.
            let x = o.reached names d in
            x.same ∙ ap (behind x.before) (two names d ∙ ap (λ o. follow o (turn (64 - (n + 1)) (row-got names d).what names)) (stuck more_in s ns ts b (Err z) k names d z refl)))

        module _ (v : Bool) (k : Gives more_in (IsTrue v) s ns ts b (Ok b)) where
          -- the list goes on or not
          three : (u : Bool) (names : List Name) (d : Named s ns names) → v ≡ u → constraints_in (64 - n) names (from s ts a) ≡ turn (64 - (n + 1)) (row-got names d).what names u (from s ts b)
          three u names d e =
              let x = got more_in (IsTrue v) s ns ts b b k names d in
              two names d ∙ ap (λ o. follow o (turn (64 - (n + 1)) (row-got names d).what names)) x.reads
              ∙ ap (λ v. turn (64 - (n + 1)) (row-got names d).what names v (from s ts b)) (x.holds.same ∙ e)

          pub constraints-end : v ≡ false → Constrained s ns ts t at (Ok (n + 1, b)) (set t' n row)
          unfolding turn constraint_limit
          constraints-end e =
              record {
                size = size-same;
                within = omega arith;
                gives = gives_at (constraints_in 64) (Rows s ts (take (n + 1) t'')) s ns ts at b (λ names d.
                    let x = o.reached names d in
                    record { what = x.before ++ ((row-got names d).what ∷ []); reads = x.same ∙ ap (behind x.before) (three false names d e); holds = grown names d });
                rest = rest-same (n + 1) (omega arith);
              }

          pub constraints-on : v ≡ true → ConstraintsOn s ns ts t at (n + 1) b (set t' n row)
          unfolding turn
          constraints-on e =
              record {
                size = size-same;
                within = omega arith;
                rest = rest-same (n + 1) (omega arith);
                reached = λ names d.
                    let x = o.reached names d in
                    record {
                      before = x.before ++ ((row-got names d).what ∷ []);
                      are = grown names d;
                      same = x.same ∙ ap (behind x.before) (three true names d e) ∙ behind-one x.before (row-got names d).what (constraints_in (64 - (n + 1)) names (from s ts b));
                    };
              }
