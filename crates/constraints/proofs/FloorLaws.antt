-- Laws of a floor, over plain variables.
use Rattle.std.specs.Prelude.{Err, Ok, Result}
use Rattle.rules.specs.declared.Refused.{Refused}
use mathlib.Core.Path.{◌≡◌, refl, sym, ◌∙◌, ap, subst}
use mathlib.Core.Bool.{Bool, true, false, cond}
use mathlib.Core.List.{List, ◌∷◌}
use Prim.Native.Nat.{ℕ}
use native.Mathlib.Omega.{arith}
use lib.Dec.{eqb}
use borrow.Author.Tests.{eq-eqb, ne_eqb}
use Rattle.rules.specs.Limits.{nesting_limit}
use Rattle.lexer.specs.Text.{Token}
use Rattle.lexer.specs.Marks as Marks
use Rattle.language.specs.Outcome.{Outcome, done, refused}
use Rattle.language.specs.Syntax.{Name, Formula, Relation, at_most, at_least, equal, between}
use Rattle.language.specs.Reader.{Reader, Read, follow, ◌>>=◌, give, next, look, is_mark, expect}
use Rattle.language.specs.Formulas.{formula_at}
use Rattle.language.specs.Grammar.{read_floor}
use Rattle.onepass.specs.Entries.{read}
use Rattle.onepass.proofs.Steps.{after_read}
use Rattle.onepass.proofs.Steps as Steps
use Rattle.tokens.specs.declared.Seen.{Seen}
use Rattle.tokens.specs.Stored.{token, from, Sees, Looks, Moves, Gives}
use Rattle.tokens.specs.Pieces.{expect_in}
use Rattle.tokens.proofs.Moved.{stops, goes, stood, stuck, gives_at, gives-refused, follow-same, next-is, look_is, is-mark}
use Rattle.formulas.specs.Cycle.{formula_in}
use Rattle.constraints.specs.Readers.{plain_by, floor_formula_in, floor_in}
use Rattle.constraints.specs.Rows.{relation_mark, has_floor, FloorStands, FloorAt, IsFloor}

-- readers one after the other, however they are grouped
pub follow-follow : {A B C : Type 0} (o : Outcome (Read A)) (f : A → Reader B) (g : B → Reader C) → follow (follow o f) g ≡ follow o (λ a l. follow (f a l) g)
follow-follow (done x) f g = refl
follow-follow (refused n p) f g = refl

-- ---- behind its comma

module _ (s ns ts : List ℕ) (at : ℕ) (r : Result ℕ Refused) (h : Moves (expect_in 62) s ns ts at r) where
  pub floor-unsigned : (e : Refused) → r ≡ Err e → Moves floor_formula_in s ns ts at r
  unfolding floor_formula_in expect_in formula_in nesting_limit
  floor-unsigned z e = stops (expect_in 62) (λ names _. formula_in 12 names) s ns ts at r h z e

  pub floor-signed : (a : ℕ) (q : Result ℕ Refused) → r ≡ Ok a → Moves (formula_in 12) s ns ts a q → Moves floor_formula_in s ns ts at q
  unfolding floor_formula_in expect_in formula_in nesting_limit
  floor-signed a q e k = goes (expect_in 62) (λ names _. formula_in 12 names) s ns ts at r h a q e (λ w. k)

-- the formula behind a sign
formula-stands : (names : List Name) (t : Token) (l : List Token) (h : Formula) (m : List Token) → floor_formula_in names l ≡ read h m → FloorStands names (t ∷ l) h
unfolding floor_formula_in
formula-stands names t l h m e =
    after_read (expect Marks.at_least l) _ _ e λ p k f g.
    let q = Steps.expect-is Marks.at_least l p k f in
    record { comma = t; sign = q.token; formula = k; rest = m; tokens = ap (λ l. t ∷ l) (Steps.next-is l q.token k q.stands); reads = g }

-- ---- what follows a right side

-- a floor, where its comma stands
written : List Name → Bool → Reader Relation
written names b =
    elim b as (λ _. Reader Relation) [
      | true ↦ next >>= (λ _. expect Marks.at_least >>= (λ _. formula_at names nesting_limit >>= (λ h. give (between h))))
      | false ↦ give at_most
    ]

written-formula : (names : List Name) (l : List Token) → written names true l ≡ follow (next l) (λ _. floor_formula_in names >>= (λ h. give (between h)))
unfolding written floor_formula_in
written-formula names l = follow-same (next l) _ _ (λ _ l. sym (follow-follow (expect Marks.at_least l) (λ _. formula_at names nesting_limit) (λ h. give (between h))))

-- no floor belongs to another relation
other-plain : (m : ℕ) → (m ≡ 60 → ⊥) → plain_by m ≡ cond (eqb m 62) at_least equal
unfolding plain_by
other-plain m e = rw (ne_eqb m 60 e) refl

abbrev Alone : List Name → List Token → Relation → Type 0
Alone names l r = (read_floor names r l ≡ read r l) × (has_floor r ≡ false) × FloorAt names l r

alone : (names : List Name) (l : List Token) (b : Bool) → Alone names l (cond b at_least equal)
unfolding read_floor
alone names l true = (refl, refl, tt)
alone names l false = (refl, refl, tt)

module _ (s ns ts : List ℕ) (m at : ℕ) where
  pub floor-other : (m ≡ 60 → ⊥) → Gives (floor_in m) (IsFloor m (from s ts at) false) s ns ts at (Ok at)
  unfolding floor_in
  floor-other e =
      gives_at (floor_in m) (IsFloor m (from s ts at) false) s ns ts at at λ names d.
      let x = subst (Alone names (from s ts at)) (sym (other-plain m e)) (alone names (from s ts at) (eqb m 62)) in
      record { what = plain_by m; reads = x.0; holds = record { mark = refl; floor = x.1; stands = x.2 } }

  module _ (t : Result Seen Refused) (e : m ≡ 60) (l : Looks ts at t) where
    sees : (w : Result Seen Refused) → t ≡ w → Sees s ts at w
    sees w e = subst (Sees s ts at) e (l.sees s)

    same-mark : relation_mark at_most ≡ relation_mark (plain_by m)
    unfolding plain_by
    same-mark = ap (λ m. relation_mark (plain_by m)) (sym e)

    floor-looks : (names : List Name) → floor_in m names (from s ts at) ≡ follow (look (from s ts at)) (λ t. written names (is_mark Marks.comma t))
    unfolding floor_in plain_by read_floor written
    floor-looks names = ap (λ m. floor_in m names (from s ts at)) e

    pub floor-wrong : (e : Refused) → t ≡ Err e → Moves (floor_in m) s ns ts at (Err e)
    floor-wrong z i =
        (gives-refused (floor_in m) (IsFloor m (from s ts at) false) s ns ts at z
        (λ names d. floor-looks names ∙ ap (λ o. follow o (λ t. written names (is_mark Marks.comma t))) (sees (Err z) i).looks)).moves

    module _ (w : Seen) (i : t ≡ Ok w) where
      floor-is : (names : List Name) (b : Bool) → eqb w.kind 44 ≡ b → floor_in m names (from s ts at) ≡ written names b (from s ts at)
      floor-is names b j =
          floor-looks names ∙ ap (λ o. follow o (λ t. written names (is_mark Marks.comma t))) (look_is s ts at w (sees _ i))
          ∙ ap (λ b. written names b (from s ts at)) (is-mark s 44 w.kind w.place w.payload (omega arith) ∙ j)

      pub floor-none : (w.kind ≡ 44 → ⊥) → Gives (floor_in m) (IsFloor m (from s ts at) false) s ns ts at (Ok at)
      unfolding written
      floor-none j =
          gives_at (floor_in m) (IsFloor m (from s ts at) false) s ns ts at at λ names d.
          record { what = at_most; reads = floor-is names false (ne_eqb w.kind 44 j); holds = record { mark = same-mark; floor = refl; stands = tt } }

      floor-then : (names : List Name) → w.kind ≡ 44 → floor_in m names (from s ts at) ≡ follow (floor_formula_in names (from s ts w.next)) (λ h. give (between h))
      floor-then names j =
          floor-is names true (eq-eqb w.kind 44 j) ∙ written-formula names (from s ts at)
          ∙ ap (λ o. follow o (λ _. floor_formula_in names >>= (λ h. give (between h)))) (next-is s ts at w (sees _ i))

      floor-by : (r : Result ℕ Refused) → w.kind ≡ 44 → Moves floor_formula_in s ns ts w.next r → Gives (floor_in m) (IsFloor m (from s ts at) true) s ns ts at r
      floor-by (Err e) j h =
          gives-refused (floor_in m) (IsFloor m (from s ts at) true) s ns ts at e
          (λ names d. floor-then names j ∙ ap (λ o. follow o (λ h. give (between h))) (stuck floor_formula_in s ns ts w.next (Err e) h names d e refl))
      floor-by (Ok b) j h =
          gives_at (floor_in m) (IsFloor m (from s ts at) true) s ns ts at b λ names d.
          let y = stood floor_formula_in s ns ts w.next (Ok b) h names d b refl in
          record {
            what = between y.what;
            reads = floor-then names j ∙ ap (λ o. follow o (λ h. give (between h))) y.reads;
            holds = record {
              mark = same-mark;
              floor = refl;
              stands = subst (λ l. FloorStands names l y.what) (sym (sees _ i).1) (formula-stands names (token s w.kind w.place w.payload) (from s ts w.next) y.what (from s ts b) y.reads);
            };
          }

      pub floor-refused : (r : Result ℕ Refused) (e : Refused) → w.kind ≡ 44 → Moves floor_formula_in s ns ts w.next r → r ≡ Err e → Moves (floor_in m) s ns ts at r
      floor-refused r z j h f = (floor-by r j h).moves

      pub floor-some : (r : Result ℕ Refused) (b : ℕ) → w.kind ≡ 44 → Moves floor_formula_in s ns ts w.next r → r ≡ Ok b → Gives (floor_in m) (IsFloor m (from s ts at) true) s ns ts at (Ok b)
      floor-some r b j h f = subst (Gives (floor_in m) (IsFloor m (from s ts at) true) s ns ts at) f (floor-by r j h)
