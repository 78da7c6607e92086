-- The first element of a domain and the one after an element are found level by level; and what is reached at the tokens of a
-- domain is what its tree reaches.
use mathlib.Core.Path.{◌≡◌, refl, sym, ◌∙◌, ap, fun_ext}
use mathlib.Core.Logic.{inl, inr}
use mathlib.Core.List.{List, [], ◌∷◌}
use Prim.Native.Nat.{ℕ, zero, suc}
use lib.Dec.{leb}
use lib.ListN.{length}
use lib.IntN.{ℤ, pos, ◌+ℤ◌}
use Rattle.rules.specs.declared.Refusal.{Refusal}
use Rattle.rules.specs.declared.Refusal.TheVariants.{NotWhole}
use Rattle.rules.specs.Limits.{run_limit}
use Rattle.lexer.specs.Text.{Token}
use Rattle.language.specs.Outcome.{Outcome, done, refused, ◌>>=◌, check}
use Rattle.language.proofs.Outcome.{after, done-injective}
use Rattle.language.specs.Syntax.{Name, Spans, point, span}
use Rattle.language.specs.Reader.{Read, as_read}
use Rattle.language.specs.Scope.{Scope, bind}
use Rattle.language.specs.Ranges.{range}
use Rattle.language.specs.Evaluation.{Limits, limits_of, length_of, fresh, run_of, eval}
use Rattle.onepass.specs.Walk.{Walk, Bounds, walk_entry, in_domain_walk}
use Rattle.onepass.specs.Entries.{ReadsSpans, index_count}
use Rattle.onepass.proofs.WalkedDomain.{entry-walk}
use Rattle.elements.specs.Elements.{Walked, finished, stopped, reaches, followed, chained, over_run, Behind, mapped, Here, in_front, elements_of}
use Rattle.elements.specs.Levels.{Level, here_of, deeper, level_of, at_number, turn_of, run_from, walk_run, walk_elements}
use Rattle.elements.proofs.Walks.{mapped-mapped, mapped-chained, behind-mapped}
use Rattle.elements.proofs.Runs.{behind-range}

-- the numbers of a run are those from one limit to the other
pub run_is : (l : Limits) (i : ℕ) (s : Scope) (p : ℕ) (ks : List ℤ) → run_of l i s p ≡ done ks → range l.lower l.upper ≡ ks
unfolding run_of length_of
run_is l i s p ks e = after (check NotWhole p (leb (length_of l) run_limit)) _ ks e λ _ _ e. after (fresh i s p) _ ks e λ _ _ e. done-injective e

-- ---- the first element

module _ (names : List Name) (F : Walk) (s : Scope) (ts : List Token) where
  -- no entry is left
  pub first-none : walk_elements names F zero s ts ≡ reaches [] finished
  unfolding walk_elements
  first-none = refl

  module _ (n : ℕ) where
    -- a limit is refused
    pub first-limit : (r : Refusal) (p : ℕ) → walk_entry names F s ts ≡ refused r p → walk_elements names F (suc n) s ts ≡ stopped r p
    unfolding walk_elements walk_run
    first-limit r p e = rw e

    -- the run is refused
    pub first_run : (b : Read Bounds) (r : Refusal) (p : ℕ) → walk_entry names F s ts ≡ done b → run_of b.what.limits b.what.number s b.what.place ≡ refused r p
        → walk_elements names F (suc n) s ts ≡ stopped r p
    unfolding walk_elements walk_run over_run
    first_run b r p e h = rw (e, walk_run, h)

    -- there is a run
    pub first_of : (b : Read Bounds) (ks : List ℤ) → walk_entry names F s ts ≡ done b → run_of b.what.limits b.what.number s b.what.place ≡ done ks
        → walk_elements names F (suc n) s ts ≡ run_from (walk_elements names F n) s (level_of b)
    unfolding walk_elements walk_run over_run run_from
    first_of b ks e h = rw (e, walk_run, h) (ap (chained (turn_of (walk_elements names F n) s (level_of b))) (sym (run_is b.what.limits b.what.number s b.what.place ks h)))

-- ---- the element after an element

-- The outermost run of an element, and what comes after the element: what comes after it inside that number of the run, and then
-- the run from the next number on.
pub record Next (w : Scope → List Token → Walked (List Level)) (s : Scope) (x : List Level) (u : Walked (List Level)) : Type 0 where
  pub level : Level
  pub inner : List Level
  pub is : level ∷ inner ≡ x
  pub rest : Walked (List Level)
  pub behind : Behind (w (bind level.name level.number s) level.rest) inner rest
  pub joins : u ≡ followed (deeper level rest) (run_from w s (at_number level (level.number +ℤ pos 1)))

next-run : (w : Scope → List Token → Walked (List Level)) (s : Scope) (l : Level) (x : List Level) (u : Walked (List Level)) → Behind (run_from w s l) x u → Next w s x u
unfolding run_from
next-run w s l x u h =
    let r = behind-range (turn_of w s l) l.number l.upper x u h in
    let k = r.number in
    let i = behind-mapped (λ ls. at_number l k ∷ ls) (w (bind l.name k s) l.rest) x r.rest r.behind in
    record {
      level = at_number l k;
      inner = i.of;
      is = i.is;
      rest = i.rest;
      behind = i.behind;
      joins = r.joins ∙ ap (λ v. followed v (chained (turn_of w s l) (range (k +ℤ pos 1) l.upper))) i.joins;
    }

pub next_of : (names : List Name) (F : Walk) (s : Scope) (ts : List Token) (n : ℕ) (x : List Level) (u : Walked (List Level))
    → Behind (walk_elements names F (suc n) s ts) x u → Next (walk_elements names F n) s x u
unfolding walk_elements walk_run over_run
next_of names F s ts n x u h = entered (walk_entry names F s ts) h
  where
    running : (b : Read Bounds) (o : Outcome (List ℤ)) → run_of b.what.limits b.what.number s b.what.place ≡ o
        → Behind (over_run o (turn_of (walk_elements names F n) s (level_of b))) x u → Next (walk_elements names F n) s x u
    running b (done ks) e h =
        next-run (walk_elements names F n) s (level_of b) x u (unfold run_from in rw (run_is b.what.limits b.what.number s b.what.place ks e) h)
    running b (refused r p) e h = absurd h

    entered : (o : Outcome (Read Bounds)) → Behind (walk_run (walk_elements names F n) s o) x u → Next (walk_elements names F n) s x u
    entered (done b) h = running b (run_of b.what.limits b.what.number s b.what.place) refl h
    entered (refused r p) h = absurd h

-- an element of n entries has n runs
pub element-length : (names : List Name) (F : Walk) (n : ℕ) (s : Scope) (ts : List Token) (x : List Level) (u : Walked (List Level))
    → Behind (walk_elements names F n s ts) x u → length x ≡ n
unfolding walk_elements
element-length names F zero s ts x u (inl h) = ap length (sym h.0)
element-length names F zero s ts x u (inr h) = absurd h
element-length names F (suc n) s ts x u h =
    let r = next_of names F s ts n x u h in
    ap length (sym r.is) ∙ ap suc (element-length names F n (bind r.level.name r.level.number s) r.level.rest r.inner r.rest r.behind)

-- ---- trees

module _ (names : List Name) where
  pub walk-elements : (d : Spans) (s : Scope) (ts rest : List Token) → ReadsSpans names d ts rest
      → mapped (here_of s) (walk_elements names (in_domain_walk names) (index_count d) s ts) ≡ elements_of d s
  unfolding walk_elements walk_run over_run elements_of index_count mapped here_of
  walk-elements point s ts rest r = refl
  walk-elements (span i f g q d) s ts rest r =
      let (m, e, more) = r in
      rw (entry-walk names i f g q ts m e s) (limits m (limits_of (eval f s) (eval g s)) λ k. walk-elements d (bind i k s) m rest more)
    where
      w : Scope → List Token → Walked (List Level)
      w = walk_elements names (in_domain_walk names) (index_count d)

      running : (m : List Token) (l : Limits) → ((k : ℤ) → mapped (here_of (bind i k s)) (w (bind i k s) m) ≡ elements_of d (bind i k s)) → (o : Outcome (List ℤ))
          → mapped (here_of s) (over_run o (turn_of w s (record { name = i; number = l.lower; upper = l.upper; rest = m }))) ≡ over_run o (λ k. mapped (in_front k) (elements_of d (bind i k s)))
      running m l ih (done ks) =
          mapped-chained (here_of s) _ ks
          ∙ ap (λ (v : ℤ → Walked Here). chained v ks) (fun_ext λ k.
          mapped-mapped _ (here_of s) (w (bind i k s) m) ∙ sym (mapped-mapped (here_of (bind i k s)) (in_front k) (w (bind i k s) m)) ∙ ap (mapped (in_front k)) (ih k))
      running m l ih (refused n p) = refl

      limits : (m : List Token) (o : Outcome Limits) → ((k : ℤ) → mapped (here_of (bind i k s)) (w (bind i k s) m) ≡ elements_of d (bind i k s))
          → mapped (here_of s) (walk_run w s (as_read (o >>= λ l. done (record { number = i; place = q; limits = l })) m)) ≡ over_run (o >>= λ l. run_of l i s q) (λ k. mapped (in_front k) (elements_of d (bind i k s)))
      limits m (done l) ih = running m l ih (run_of l i s q)
      limits m (refused n p) ih = refl
