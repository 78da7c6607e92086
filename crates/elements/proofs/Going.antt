-- Laws of the element after an element: each answer of `after`.
use Rattle.std.specs.Prelude.{Err, None, Ok, Option, Result, Some}
use Rattle.std.specs.Option.{is_some}
use Rattle.rules.specs.declared.Refused.{Refused}
use mathlib.Core.Path.{◌≡◌, refl, sym, ◌∙◌, ap, subst, subst₂}
use mathlib.Core.Bool.{Bool, true, false, not}
use mathlib.Core.Logic.{inl, inr}
use mathlib.Core.List.{List, [], ◌∷◌, ◌++◌, append_assoc}
use Prim.Native.Nat.{ℕ, zero, suc, ◌+◌, ◌-◌, ◌<◌, ◌≤◌}
use native.Mathlib.Omega.{arith}
use native.Mathlib.Numerals.{add-one}
use lib.ListN.{length, take, drop, get_or, length-take, length-drop}
use lib.Seq.{take-suc, drop-cons}
use lib.IntN.{pos, ◌+ℤ◌, ◌-ℤ◌}
use lib.Signed.{◌≤ℤ◌, lt_z, le_z}
use Rattle.rules.specs.Limits.{index_limit}
use Rattle.rational.specs.Integer.{up}
use Rattle.lexer.specs.Text.{Token}
use Rattle.language.specs.Scope.{bind}
use Rattle.evaluator.specs.Tables.{World}
use Rattle.evaluator.specs.Cycle.{nothing_bound, tokens_at}
use Rattle.store.specs.Few.{one_more}
use Rattle.elements.specs.declared.here.Level.{Level as HeldLevel}
use Rattle.elements.specs.declared.here.Here.{Here as HeldHere}
use Rattle.elements.specs.Elements.{Walked, finished, reaches, followed, Behind}
use Rattle.elements.specs.Levels.{Level, here_of, deeper, at_number, run_from}
use Rattle.elements.specs.Held.{word_base, StepsUp, held, no-level}
use Rattle.elements.specs.Steps.{SmallRuns, runs_of, run_of, scope_in, entries_in, Shows, TurnedBy, Lowered, LoweredBy, turns_left, TurnsAre, AfterIs, NextIs}
use Rattle.elements.proofs.Levels.{first-none, Next, next_of, element-length}
use Rattle.elements.proofs.Numbers.{not-true, not-false, next-stands}
use Rattle.elements.proofs.Ranked.{ahead-less, rank-first, rank-inner}
use Rattle.elements.proofs.Held.{length-few}
use Rattle.elements.proofs.Bound.{scope-more, runs-length, runs-cut, runs-at, runs-before, small-take, small-drop, next-run, next_small, next-upper, next-number}
use Rattle.elements.proofs.Entering.{some-here, none-here, shows-as, deeper-at, deeper-refused, deeper-done, inside-none, run-last, turns-start, turns_at}
use Rattle.store.specs.Table.{Table}

tail_of : {A : Type 0} {a b : A} {l k : List A} → a ∷ l ≡ b ∷ k → l ≡ k
tail_of e = cc

-- ---- ranks

module _ (h : HeldHere) (m : ℕ) (f : m < length (held h)) where
  here-at : drop m (held h) ≡ get_or (held h) m no-level ∷ drop (m + 1) (held h)
  here-at = rw add-one (drop-cons (held h) m no-level f)

  -- a lower rank inside the m-th run
  lowered-inner : (g : HeldHere) → Lowered (m + 1) h g → Lowered m h g
  lowered-inner g x =
      let before : take (m + 1) (held h) ≡ take m (held h) ++ (get_or (held h) m no-level ∷ []) = rw add-one (take-suc (held h) m no-level f) in
      record {
        inner = get_or (held h) m no-level ∷ x.inner;
        is = x.is ∙ ap (λ p. p ++ x.inner) before ∙ append_assoc (take m (held h)) (get_or (held h) m no-level ∷ []) x.inner;
        size = rw here-at (ap suc x.size);
        lower = rw here-at (rank-inner (get_or (held h) m no-level) (drop (m + 1) (held h)) x.inner x.size x.lower);
      }

  -- the m-th run has gone on
  module _ (l : HeldLevel) (e : l ≡ get_or (held h) m no-level) (b : up (l.upper -ℤ l.number) < word_base) (t : lt_z l.number l.upper ≡ true) (o : HeldHere) (d : held o ≡ take m (held h)) (q : HeldLevel) (u : q.upper ≡ l.upper) (n : q.number ≡ l.number +ℤ pos 1) (count : ℕ) (c : length (drop m (held h)) ≡ suc count) where
    lowered-turned : (z : Result (Option HeldHere) Refused) → TurnedBy o q count z → LoweredBy m h z
    lowered-turned (Ok (Some g)) x = record {
      inner = x.run ∷ x.inner;
      is = x.is ∙ ap (λ p. p ++ (x.run ∷ x.inner)) d;
      size = omega (arith, x.size);
      lower = rw (here-at, ← e) (rank-first l x.run (drop (m + 1) (held h)) x.inner (omega (arith, x.size, ap length here-at)) (ahead-less l x.run b t (x.upper ∙ u) (subst (λ k. k ≤ℤ x.run.number) n x.number)));
    }
    lowered-turned (Ok None) x = tt
    lowered-turned (Err e) x = tt

module _ (ns ts : List ℕ) (ds : Table) (given level m : ℕ) (h : HeldHere) (n : ℕ) (e : n ≡ length (held h)) where
  size : (w : World ns ts ds given) → length (runs_of w h) ≡ n
  size w = runs-length (tokens_at w) h ∙ sym e

  pub after_none : n ≤ m → AfterIs ns ts ds given level m h (Ok None)
  after_none f = record {
    is = λ w s us u b.
        nothing w us u (subst (λ k. Behind (entries_in w level k (scope_in w (take m (runs_of w h))) us) (drop m (runs_of w h)) u) (none_left w) b);
    lowered = tt;
  }
    where
      none_left : (w : World ns ts ds given) → length (runs_of w h) - m ≡ 0
      none_left w = omega (arith, size w)

      nothing : (w : World ns ts ds given) (us : List Token) (u : Walked (List Level)) → Behind (entries_in w level 0 (scope_in w (take m (runs_of w h))) us) (drop m (runs_of w h)) u → u ≡ finished
      nothing w us u b = go (subst (λ v. Behind v (drop m (runs_of w h)) u) (first-none _ _ _ _) b)
        where
          go : Behind (reaches [] finished) (drop m (runs_of w h)) u → u ≡ finished
          go (inl x) = sym x.1
          go (inr x) = absurd x

  module _ (f : m < n) (r : Result (Option HeldHere) Refused) (i : AfterIs ns ts ds given level (m + 1) h r) where
    room-held : length (take m (held h)) < index_limit
    unfolding index_limit
    room-held = simp length-take (omega (arith, length-few h))

    room : (w : World ns ts ds given) (o : HeldHere) → runs_of w o ≡ take m (runs_of w h) → length (runs_of w o) < index_limit
    unfolding index_limit
    room w o d = rw d (simp length-take (omega (arith, size w, length-few h)))

    module _ (l : HeldLevel) (g : l ≡ get_or (held h) m no-level) where
      -- what comes after the element at its m-th run's number, and at the numbers behind
      record Split (w : World ns ts ds given) (u : Walked (List Level)) : Type 0 where
        rest : Walked (List Level)
        shown : Shows w (take m (runs_of w h) ++ (run_of w l ∷ [])) rest r
        joins : u ≡ followed (deeper (run_of w l) rest) (run_from (entries_in w level (n - m - 1)) (scope_in w (take m (runs_of w h))) (at_number (run_of w l) (l.number +ℤ pos 1)))

      -- by the parts of what comes after the element
      split-next : (w : World ns ts ds given) → SmallRuns (runs_of w h) → (u : Walked (List Level))
          → Next (entries_in w level (n - m - 1)) (scope_in w (take m (runs_of w h))) (drop m (runs_of w h)) u → Split w u
      split-next w s u x =
          let p = runs_of w h in
          let k = n - m - 1 in
          let inside : m < length p = omega (arith, size w) in
          let below : k ≡ length p - (m + 1) = omega (arith, size w) in
          let same : x.level ∷ x.inner ≡ run_of w l ∷ drop (suc m) p = x.is ∙ runs-at (tokens_at w) h m l g inside in
          let run : x.level ≡ run_of w l = cc in
          let others : x.inner ≡ drop (m + 1) p = rw add-one (tail_of same) in
          let before : take (m + 1) p ≡ take m p ++ (run_of w l ∷ []) = rw add-one (runs-before (tokens_at w) h m l g inside) in
          let scope : bind l.name l.number (scope_in w (take m p)) ≡ scope_in w (take (m + 1) p) = sym (ap (scope_in w) before ∙ scope-more (nothing_bound w) (take m p) (run_of w l)) in
          let deep = subst₂ (λ (v : Level) z. Behind (entries_in w level k (bind v.name v.number (scope_in w (take m p))) v.rest) z x.rest) run others x.behind in
          let there = subst₂ (λ c t. Behind (entries_in w level c t (tokens_at w l.behind)) (drop (m + 1) p) x.rest) below scope deep in
          record {
            rest = x.rest;
            shown = subst (λ q. Shows w q x.rest r) before (i.is w s (tokens_at w l.behind) x.rest there);
            joins = x.joins ∙ ap (λ (v : Level). followed (deeper v x.rest) (run_from (entries_in w level k) (scope_in w (take m p)) (at_number v (v.number +ℤ pos 1)))) run;
          }

      split : (w : World ns ts ds given) → SmallRuns (runs_of w h) → (us : List Token) (u : Walked (List Level))
          → Behind (entries_in w level (length (runs_of w h) - m) (scope_in w (take m (runs_of w h))) us) (drop m (runs_of w h)) u → Split w u
      split w s us u b =
          let here : length (runs_of w h) - m ≡ suc (n - m - 1) = omega (arith, size w) in
          split-next w s u (next_of _ _ _ us (n - m - 1) (drop m (runs_of w h)) u (subst (λ c. Behind (entries_in w level c (scope_in w (take m (runs_of w h))) us) (drop m (runs_of w h)) u) here b))

    pub after-at : (q : HeldHere) → r ≡ Ok (Some q) → AfterIs ns ts ds given level m h (Ok (Some q))
    after-at q k = record {
      is = λ w s us u b.
          let x = split (get_or (held h) m no-level) refl w s us u b in
          shows-as w (take m (runs_of w h)) _ _ (Ok (Some q)) x.joins (deeper-at w _ _ _ _ q (subst (Shows w _ _) k x.shown));
      lowered = lowered-inner h m (omega arith) q (subst (LoweredBy (m + 1) h) k i.lowered);
    }

    pub after-found : (p : Option HeldHere) → r ≡ Ok p → (y : Bool) → y ≡ is_some p → y ≡ true → AfterIs ns ts ds given level m h (Ok p)
    after-found p k y s t =
        let (q, d) = some-here p y s t in
        subst (λ p. AfterIs ns ts ds given level m h (Ok p)) (sym d) (after-at q (subst (λ p. r ≡ Ok p) d k))

    pub after-refused : (e : Refused) → r ≡ Err e → AfterIs ns ts ds given level m h (Err e)
    after-refused z k = record {
      is = λ w s us u b. let x = split (get_or (held h) m no-level) refl w s us u b in x.joins ∙ deeper-refused w (take m (runs_of w h)) _ _ _ z.refusal z.place (subst (Shows w _ _) k x.shown);
      lowered = tt;
    }

    module _ (l : HeldLevel) (g : l ≡ get_or (held h) m no-level) (p : Option HeldHere) (at_p : r ≡ Ok p) (z : Bool) (s : z ≡ is_some p) (t : z ≡ false) (y : Bool) (a : y ≡ lt_z l.number l.upper) where
      k : r ≡ Ok None
      k = subst (λ p. r ≡ Ok p) (none-here p z s t) at_p

      -- nothing more at this number
      up_to : (w : World ns ts ds given) → SmallRuns (runs_of w h) → (us : List Token) (u : Walked (List Level))
          → Behind (entries_in w level (length (runs_of w h) - m) (scope_in w (take m (runs_of w h))) us) (drop m (runs_of w h)) u
          → u ≡ run_from (entries_in w level (n - m - 1)) (scope_in w (take m (runs_of w h))) (at_number (run_of w l) (l.number +ℤ pos 1))
      up_to w s us u b = let x = split l g w s us u b in x.joins ∙ deeper-done w (take m (runs_of w h)) _ _ _ (subst (Shows w _ _) k x.shown)

      pub after_last : not y ≡ true → AfterIs ns ts ds given level m h (Ok None)
      after_last c = record { is = λ w s us u b. up_to w s us u b ∙ run-last _ _ (run_of w l) (sym a ∙ not-true y c); lowered = tt }

      pub after-turns : not y ≡ false → (q : HeldLevel) → StepsUp l q → (o : HeldHere) → held o ≡ take m (held h) → (z : Result (Option HeldHere) Refused)
          → TurnsAre ns ts ds given level (n - m - 1) o q z → AfterIs ns ts ds given level m h z
      after-turns b q c o d z t = record {
        is = λ w s us u v.
            let outer = runs-cut (tokens_at w) h o m d in
            let inside : m < length (runs_of w h) = omega (arith, size w) in
            let run = next_small l q y a b c (tokens_at w) (subst SmallRuns (runs-at (tokens_at w) h m l g inside) (small-drop m (runs_of w h) s)).0 in
            let found = t.is w (subst SmallRuns (sym outer) (small-take m (runs_of w h) s)) run (room w o outer) in
            shows-as w (take m (runs_of w h)) _ _ z (up_to w s us u v)
            (subst₂ (λ p x. Shows w p (run_from (entries_in w level (n - m - 1)) (scope_in w p) x) z) outer (next-run l q y a b c (tokens_at w)) found);
        lowered =
            lowered-turned h m (omega arith) l g (c.near (sym a ∙ not-false y b)) (sym a ∙ not-false y b) o d q (next-upper l q y a b c) (next-number l q y a b c) (n - m - 1) (omega (arith, length-drop m (held h))) z
            (t.turned (subst (λ k. length k < index_limit) (sym d) room-held));
      }

-- ---- inside no runs

lowered-falls : (h : HeldHere) (r : Result (Option HeldHere) Refused) → LoweredBy 0 h r → turns_left r < turns_left (Ok (Some h))
lowered-falls h (Ok (Some g)) x = rw x.is (omega (arith, x.lower))
lowered-falls h (Ok None) x = omega arith
lowered-falls h (Err e) x = omega arith

pub next-is : (ns ts : List ℕ) (ds : Table) (given level : ℕ) (h : HeldHere) (r : Result (Option HeldHere) Refused) → AfterIs ns ts ds given level 0 h r → NextIs ns ts ds given level h r
unfolding here_of
next-is ns ts ds given level h r i = record {
  is = λ w s n us u b.
      let all : n ≡ length (runs_of w h) - 0 = omega (arith, element-length _ _ n _ us (runs_of w h) u b) in
      i.is w s us u (subst (λ c. Behind (entries_in w level c (nothing_bound w) us) (runs_of w h) u) all b);
  falls = lowered-falls h r i.lowered;
}

-- ---- the innermost run goes on

module _ (ns ts : List ℕ) (ds : Table) (given level : ℕ) (h : HeldHere) (n : ℕ) (e : n ≡ length (held h)) where
  -- what comes next inside m runs comes next inside none
  outwards : (g : HeldHere) (m : ℕ) → m ≤ n → AfterIs ns ts ds given level m h (Ok (Some g)) → AfterIs ns ts ds given level 0 h (Ok (Some g))
  outwards g zero f i = i
  outwards g (suc m) f i = outwards g m (omega arith) (after-at ns ts ds given level m h n e (omega arith) (Ok (Some g)) (rw add-one i) g refl)

  pub next-on : 0 < n → (l : HeldLevel) → l ≡ get_or (held h) (n - 1) no-level → (y : Bool) → y ≡ lt_z l.number l.upper → y ≡ true
      → (q : HeldLevel) → StepsUp l q → (o : HeldHere) → held o ≡ take (n - 1) (held h) → (g : HeldHere) → held g ≡ one_more (held o) q
      → NextIs ns ts ds given level h (Ok (Some g))
  next-on f l c y a b q d o k g x =
      let m : ℕ = n - 1 in
      let more : lt_z l.number l.upper ≡ true = sym a ∙ b in
      let not_last : not y ≡ false = rw b in
      let stands : le_z q.number q.upper ≡ true = rw (next-number l q y a not_last d, next-upper l q y a not_last d) (next-stands l.number l.upper more) in
      let inside = inside-none ns ts ds given level (n - m - 1) q.behind g (omega arith) in
      let turns = turns_at ns ts ds given level (n - m - 1) o q q.number (turns-start ns ts ds given level (n - m - 1) o q) stands g x (Ok (Some g)) inside g refl in
      let none = after_none ns ts ds given level (m + 1) h n e (omega arith) in
      let after = after-turns ns ts ds given level m h n e (omega arith) (Ok None) none l c None refl false refl refl y a not_last q d o k (Ok (Some g)) turns in
      next-is ns ts ds given level h (Ok (Some g)) (outwards g m (omega arith) after)
