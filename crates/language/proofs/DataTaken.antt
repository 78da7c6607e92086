-- The readers of the data section put no token back, and a portion takes at least one.
use mathlib.Core.Bool.{Bool, true, false, cond}
use mathlib.Core.List.{List, [], ◌∷◌}
use Prim.Native.Nat.{ℕ, zero, suc, ◌≤◌}
use native.Mathlib.Omega.{arith}
use lib.Dec.{eqb}
use lib.ListN.{length}
use lib.IntN.{ℤ}
use Rattle.rules.specs.declared.Refusal.TheVariants.{Misplaced}
use Rattle.rules.specs.Limits.{nesting_limit}
use Rattle.lexer.specs.Marks.{plus_sign, minus_sign, comma, opens}
use Rattle.lexer.specs.Text.{Token, Kind}
use Rattle.lexer.specs.Text
use Rattle.language.specs.Outcome.{Outcome, done, refused}
use Rattle.language.specs.Syntax.{Name, Spans, point, span}
use Rattle.language.specs.Reader.{Reader, give, refuse, lift, is_mark}
use Rattle.language.specs.Store.{Store, scope_of, Portion, Bound, position_run, accept}
use Rattle.language.specs.Data.{fixed, signed_value, signed_entry, entry_by, read_entry, entries_of, order_from, read_order, read_number, each_read, runs, subscripted_portion, portion_of, is_point}
use Rattle.language.proofs.Taken.{Reads, gives, refuses, weaken, either, then, then_next, then-look, look-else, look-next, then-require, then-demand, then-expect, then-bracket, then-known, name-read, index_read}

-- whatever is given, by whatever tokens
abbrev Any : {A : Type 0} → A → List Token → Type 0
Any a l = Unit {0}

lifted : {A : Type 0} (o : Outcome A) → Reads (lift o) Any
lifted (done a) = gives tt
lifted (refused n p) = refuses

module _ (names : List Name) where
  signed-any : (m : Bool) → Reads (signed_entry m) Any
  unfolding signed_entry
  signed-any m = then_next (λ t. then-demand _ _ (λ k e. gives tt))

  by-any : (p : ℕ) (k : Kind) → Reads (entry_by names p k) Any
  unfolding entry_by
  by-any p (Text.mark c) = go (eqb c plus_sign) (eqb c minus_sign)
    where
      go : (a b : Bool) → Reads (cond a (signed_entry false) (cond b (signed_entry true) (refuse Misplaced p))) Any
      go true b = signed-any false
      go false true = signed-any true
      go false false = refuses
  by-any p (Text.name l) = then-known names l p (λ u m. then-require _ _ _ (λ _ e. gives tt))
  by-any p (Text.literal w v) = go w
    where
      go : (b : Bool) → Reads (cond b (give (fixed v.m)) (refuse Misplaced p)) Any
      go true = gives tt
      go false = refuses
  by-any p (Text.string l) = refuses
  by-any p Text.end = refuses
  by-any p (Text.wrong r) = refuses

  entry-any : Reads (read_entry names) Any
  unfolding read_entry
  entry-any = then_next (λ t. by-any t.place t.kind)

  entries-any : (d : Spans) → Reads (entries_of names d) Any
  unfolding entries_of
  entries-any point = gives tt
  entries-any (span i f g p point) = then entry-any (λ e l _. then-expect _ (λ q. gives tt))
  entries-any (span i f g p (span j f' g' q d)) = then entry-any (λ e l _. then-expect _ (λ r. then (entries-any (span j f' g' q d)) (λ es k _. gives tt)))

  indices-any : (n : ℕ) → Reads (order_from names n) Any
  unfolding order_from
  indices-any zero = refuses
  indices-any (suc n) = then (index_read names) (λ i l _. look-next (is_mark comma) (λ t e. then (indices-any n) (λ is k _. gives tt)) (then-expect _ (λ q. gives tt)))

  order-any : (p : ℕ) (marks : List ℕ) → Reads (read_order names p marks) Any
  unfolding read_order
  order-any p marks = look-else (is_mark opens) (then-bracket _ nesting_limit (λ q. then (indices-any _) (λ is l _. then-require _ _ _ (λ _ e. gives tt)))) (gives tt)

  number-any : (x : Portion) (e : List ℤ) (st : Store) → Reads (read_number x e st) Any
  unfolding read_number
  number-any x e st = then_next (λ t. then-require _ _ _ (λ _ s. then_next (λ u. then-demand _ _ (λ v d. lifted (accept x e t.place (signed_value (is_mark minus_sign t) v) st)))))

  each-any : {A : Type 0} (f : ℤ → A → Reader A) → ((k : ℤ) (a : A) → Reads (f k a) Any) → (ks : List ℤ) (a : A) → Reads (each_read f ks a) Any
  unfolding each_read
  each-any f h [] a = gives tt
  each-any f h (k ∷ ks) a = then (h k a) (λ b l _. each-any f h ks b)

  runs-any : (x : Portion) (js : List ℕ) (b : Bound) (st : Store) → Reads (runs x js b st) Any
  unfolding runs
  runs-any x [] b st = number-any x _ st
  runs-any x (j ∷ js) b st = then-look (λ t. then (lifted (position_run x.domain b j (scope_of st))) (λ ks l _. each-any _ (λ k st. runs-any x js _ st) _ st))

  subscripted-any : (x : Portion) (st : Store) → Reads (subscripted_portion names x st) Any
  unfolding subscripted_portion
  subscripted-any x st = then-bracket _ nesting_limit (λ p. then (entries-any x.domain) (λ es l _. then-require _ _ _ (λ _ e. then (order-any _ _) (λ o k _. runs-any x _ _ st))))

  pub portion-some : (st : Store) → Reads (portion_of names st) (λ _ l. 1 ≤ length l)
  unfolding portion_of
  portion-some st = then (name-read names) (λ u l w. then-demand _ _ (λ x e. weaken (either (is_point x.domain) (λ _. runs-any x [] [] st) (λ _. subscripted-any x st)) (λ _ k _. rw w.is (omega arith))))
