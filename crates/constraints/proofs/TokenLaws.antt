-- Laws of strings, relations and objectives, over plain variables.
use Rattle.std.specs.Prelude.{Err, Ok, Result, Option, Some, None}
use Rattle.rules.specs.declared.Refused.{Refused}
use mathlib.Core.Path.{◌≡◌, refl, sym, ◌∙◌, ap, subst}
use mathlib.Core.Bool.{Bool, true, false, cond, ◌||◌}
use mathlib.Core.List.{List}
use Prim.Native.Nat.{ℕ, zero, suc}
use native.Mathlib.Omega.{arith}
use lib.Dec.{eqb}
use borrow.Author.Tests.{eqb-true, ne_eqb}
use Rattle.rules.specs.declared.Refusal.TheVariants.{Misplaced}
use Rattle.language.specs.Syntax.{Name, Relation, at_most, at_least, equal}
use Rattle.language.specs.Reader.{◌>>=◌, give, demand, require, is_string, string_of, read_string}
use Rattle.language.specs.Grammar.{relation_of, read_relation, read_goal}
use Rattle.tokens.specs.declared.Seen.{Seen}
use Rattle.tokens.specs.Stored.{kind_of, token, from, Sees, Looks, Moves, Gives}
use Rattle.tokens.proofs.Tables.{mark-of, mark-same, false-true, no-string}
use Rattle.tokens.proofs.Moved.{gives_at, gives-refused, next-is, look_is}
use Rattle.constraints.specs.Readers.{title_in, relation_in, plain_by, goal_in, more_in}
use Rattle.constraints.specs.Rows.{relation_mark, IsRelation, IsTrue}

is-string : (s : List ℕ) (k p x : ℕ) → is_string (token s k p x) ≡ eqb k 4
unfolding token kind_of string_of
is-string s zero p x = refl
is-string s (suc zero) p x = refl
is-string s (suc (suc zero)) p x = refl
is-string s (suc (suc (suc zero))) p x = refl
is-string s (suc (suc (suc (suc zero)))) p x = refl
is-string s (suc (suc (suc (suc (suc zero))))) p x = refl
is-string s (suc (suc (suc (suc (suc (suc k)))))) p x = sym (ne_eqb (suc (suc (suc (suc (suc (suc k)))))) 4 (λ e. omega arith))

-- the relation of a mark, by the three tests
chosen : Bool → Bool → Bool → Option Relation
chosen a b c = cond a (Some at_most) (cond b (Some at_least) (cond c (Some equal) None))

relation-of : (s : List ℕ) (k p x : ℕ) → relation_of (token s k p x) ≡ chosen (eqb k 60) (eqb k 62) (eqb k 61)
unfolding relation_of token chosen
relation-of s k p x = rw (mark-of s k p x, mark-same k 60 (omega arith), mark-same k 62 (omega arith), mark-same k 61 (omega arith)) refl

-- one of them holds
record Chosen (k : ℕ) (o : Option Relation) : Type 0 where
  what : Relation
  is : o ≡ Some what
  mark : relation_mark what ≡ k
  plain : what ≡ plain_by k

chosen-some : (k : ℕ) (a b c : Bool) → eqb k 60 ≡ a → eqb k 62 ≡ b → eqb k 61 ≡ c → (a || b || c) ≡ true → Chosen k (chosen a b c)
unfolding chosen plain_by
chosen-some k true b c e f g h = record { what = at_most; is = refl; mark = sym (eqb-true k 60 e); plain = rw e refl }
chosen-some k false true c e f g h = record { what = at_least; is = refl; mark = sym (eqb-true k 62 f); plain = rw (e, f) refl }
chosen-some k false false true e f g h = record { what = equal; is = refl; mark = sym (eqb-true k 61 g); plain = rw (e, f) refl }
chosen-some k false false false e f g h = absurd (false-true h)

module _ (s ns ts : List ℕ) (at : ℕ) (t : Result Seen Refused) (l : Looks ts at t) where
  sees : (w : Result Seen Refused) → t ≡ w → Sees s ts at w
  sees w e = subst (Sees s ts at) e (l.sees s)

  -- ---- a string

  pub title-wrong : (e : Refused) → t ≡ Err e → Moves title_in s ns ts at (Err e)
  unfolding title_in read_string
  title-wrong z e = record { matches = λ names d. rw (sees (Err z) e).nexts (refl, refl) }

  pub title-yes : (w : Seen) → t ≡ Ok w → w.kind ≡ 4 → Moves title_in s ns ts at (Ok w.next)
  unfolding title_in read_string token kind_of string_of demand
  title-yes z e i = record { matches = λ names d. rw (next-is s ts at z (sees _ e), i) refl }

  pub title-no : (w : Seen) → t ≡ Ok w → (w.kind ≡ 4 → ⊥) → Moves title_in s ns ts at (Err (record { refusal = Misplaced; place = w.place }))
  unfolding title_in read_string token demand
  title-no z e i = record { matches = λ names d. rw (next-is s ts at z (sees _ e), no-string s z.kind z.place z.payload i) (refl, refl) }

  -- ---- whether one stands there

  pub more-token : (w : Seen) → t ≡ Ok w → Gives more_in (IsTrue (eqb w.kind 4)) s ns ts at (Ok at)
  unfolding more_in
  more-token z e =
      gives_at more_in (IsTrue (eqb z.kind 4)) s ns ts at at
      (λ names d. record { what = is_string (token s z.kind z.place z.payload); reads = rw (look_is s ts at z (sees _ e)) refl; holds = record { same = is-string s z.kind z.place z.payload } })

  pub more-wrong : (e : Refused) → t ≡ Err e → Moves more_in s ns ts at (Err e)
  unfolding more_in
  more-wrong z e = (gives-refused more_in (IsTrue false) s ns ts at z (λ names d. rw (sees (Err z) e).looks refl)).moves

  -- ---- a relation

  relation-is : (w : Seen) (names : List Name) → t ≡ Ok w → relation_in names (from s ts at) ≡ demand (chosen (eqb w.kind 60) (eqb w.kind 62) (eqb w.kind 61)) w.place (from s ts w.next)
  unfolding relation_in read_relation token
  relation-is z names e = rw (next-is s ts at z (sees _ e)) (ap (λ o. demand o z.place (from s ts z.next)) (relation-of s z.kind z.place z.payload))

  relation-by : (w : Seen) → t ≡ Ok w → (eqb w.kind 60 || eqb w.kind 62 || eqb w.kind 61) ≡ true → Gives relation_in (IsRelation w.kind) s ns ts at (Ok w.next)
  unfolding demand
  relation-by z e i =
      let o = chosen-some z.kind (eqb z.kind 60) (eqb z.kind 62) (eqb z.kind 61) refl refl refl i in
      gives_at relation_in (IsRelation z.kind) s ns ts at z.next
      (λ names d. record { what = o.what; reads = relation-is z names e ∙ ap (λ o. demand o z.place (from s ts z.next)) o.is; holds = record { mark = o.mark; plain = o.plain } })

  pub relation-yes : (w : Seen) (m : ℕ) → t ≡ Ok w → w.kind ≡ m → (eqb m 60 || eqb m 62 || eqb m 61) ≡ true → Gives relation_in (IsRelation m) s ns ts at (Ok w.next)
  relation-yes z m e i j = rw i at (relation-by z e (rw i j))

  pub relation-no : (w : Seen) → t ≡ Ok w → (w.kind ≡ 60 → ⊥) → (w.kind ≡ 62 → ⊥) → (w.kind ≡ 61 → ⊥) → Moves relation_in s ns ts at (Err (record { refusal = Misplaced; place = w.place }))
  unfolding demand chosen
  relation-no z e a b c =
      (gives-refused relation_in (IsRelation 0) s ns ts at (record { refusal = Misplaced; place = z.place })
      (λ names d. relation-is z names e ∙ rw (ne_eqb z.kind 60 a, ne_eqb z.kind 62 b, ne_eqb z.kind 61 c) refl)).moves

  pub relation-wrong : (e : Refused) → t ≡ Err e → Moves relation_in s ns ts at (Err e)
  unfolding relation_in read_relation
  relation-wrong z e = (gives-refused relation_in (IsRelation 0) s ns ts at z (λ names d. rw (sees (Err z) e).nexts refl)).moves

  -- ---- an objective's word

  goal-is : (w : Seen) (names : List Name) → t ≡ Ok w
      → goal_in names (from s ts at) ≡ (require (eqb w.kind 130 || eqb w.kind 131) Misplaced w.place >>= (λ _. give (eqb w.kind 131))) (from s ts w.next)
  unfolding goal_in read_goal token
  goal-is z names e = rw (next-is s ts at z (sees _ e), mark-of s z.kind z.place z.payload, mark-same z.kind 130 (omega arith), mark-same z.kind 131 (omega arith)) refl

  pub goal-yes : (w : Seen) → t ≡ Ok w → (eqb w.kind 130 || eqb w.kind 131) ≡ true → Gives goal_in (IsTrue (eqb w.kind 131)) s ns ts at (Ok w.next)
  unfolding require
  goal-yes z e i =
      gives_at goal_in (IsTrue (eqb z.kind 131)) s ns ts at z.next
      (λ names d. record {
        what = eqb z.kind 131;
        reads = goal-is z names e ∙ ap (λ b. (require b Misplaced z.place >>= (λ _. give (eqb z.kind 131))) (from s ts z.next)) i;
        holds = record { same = refl };
      })

  pub goal-no : (w : Seen) → t ≡ Ok w → (eqb w.kind 130 || eqb w.kind 131) ≡ false → Moves goal_in s ns ts at (Err (record { refusal = Misplaced; place = w.place }))
  unfolding require
  goal-no z e i =
      (gives-refused goal_in (IsTrue false) s ns ts at (record { refusal = Misplaced; place = z.place })
      (λ names d. goal-is z names e ∙ ap (λ b. (require b Misplaced z.place >>= (λ _. give (eqb z.kind 131))) (from s ts z.next)) i)).moves

  pub goal-wrong : (e : Refused) → t ≡ Err e → Moves goal_in s ns ts at (Err e)
  unfolding goal_in read_goal
  goal-wrong z e = (gives-refused goal_in (IsTrue false) s ns ts at z (λ names d. rw (sees (Err z) e).nexts refl)).moves
