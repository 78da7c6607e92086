-- Laws of the loop over the names of a sort: it starts, passes a name, adds one, is refused or ends.
use Rattle.std.specs.Prelude.{Err, Ok, Result, Option, Some, None}
use Rattle.rules.specs.declared.Refused.{Refused}
use mathlib.Core.Path.{◌≡◌, refl, sym, ◌∙◌, ap, subst}
use mathlib.Core.List.{List, ◌∷◌}
use Prim.Native.Nat.{ℕ, suc, ◌+◌, ◌/◌, ◌<◌, ◌≤◌}
use native.Mathlib.Omega.{arith}
use lib.ListN.{length, take, drop, drop_of_length-le}
use Rattle.rules.specs.Limits.{name_limit}
use Rattle.language.specs.Outcome.{done, refused, ◌>>=◌}
use Rattle.language.specs.All.{All}
use Rattle.language.specs.Scope.{Scope}
use Rattle.language.specs.Syntax.{Name, Sort, Spans}
use Rattle.language.specs.Evaluation.{over}
use Rattle.language.specs.Model.{Declaration, declared}
use Rattle.language.specs.Numbering.{Variable, add_variable, add_variables}
use Rattle.tokens.specs.Stored.{Shaped}
use Rattle.tokens.proofs.Tables.{named-length}
use Rattle.store.specs.Key.{name_bound}
use Rattle.evaluator.specs.Steps.Names.{row_word}
use Rattle.evaluator.proofs.steps.Numbers.{row-shaped}
use Rattle.evaluator.specs.Tables.{World}
use Rattle.evaluator.specs.Cycle.{nothing_bound}
use Rattle.evaluator.proofs.Names.{below_length, Split, split}
use Rattle.elements.specs.Placed.{Placed}
use Rattle.problem.specs.Variables.Numbers.{Below, Held, Adds, Answers, Ranges, declared_at, AddsName, Picks, Above, Before, AddsSort}
use Rattle.store.specs.Table.{Table}

-- ---- one declaration

declared-taken : (f : Sort → Option Spans) (i : ℕ) (x : Name) (xs : List Name) (d : Spans) → f x.sort ≡ Some d
    → declared f i (x ∷ xs) ≡ record { name = i; domain = d; place = x.place } ∷ declared f (suc i) xs
unfolding declared
declared-taken f i x xs d e =
    ap (λ o. elim o as (λ _. List Declaration) [ Some c ↦ record { name = i; domain = c; place = x.place } ∷ declared f (suc i) xs | None ↦ declared f (suc i) xs ]) e

declared-left : (f : Sort → Option Spans) (i : ℕ) (x : Name) (xs : List Name) → f x.sort ≡ None → declared f i (x ∷ xs) ≡ declared f (suc i) xs
unfolding declared
declared-left f i x xs e =
    ap (λ o. elim o as (λ _. List Declaration) [ Some c ↦ record { name = i; domain = c; place = x.place } ∷ declared f (suc i) xs | None ↦ declared f (suc i) xs ]) e

added-first : (s : Scope) (d : Declaration) (ds : List Declaration) (vs : List Variable) → add_variables s (d ∷ ds) vs ≡ (over d.domain s (add_variable d) vs >>= λ ws. add_variables s ds ws)
unfolding add_variables
added-first s d ds vs = refl

added_none : (s : Scope) (f : Sort → Option Spans) (i : ℕ) (names : List Name) (vs : List Variable) → length names ≤ i → add_variables s (declared f i (drop i names)) vs ≡ done vs
unfolding add_variables declared
added_none s f i names vs h = rw (drop_of_length-le names {i = i} h)

-- ---- the loop

module _ (ns ts : List ℕ) (ds : Table) (given k from : ℕ) (t₀ : Table) where
  -- at name i, for the variables vs at the start
  record SortAt (w : World ns ts ds given) (f : Sort → Option Spans) (vs : List Variable) (t : Table) (i n : ℕ) : Type 0 where
    variables : List Variable
    due : add_variables (nothing_bound w) (declared f i (drop i w.names)) variables ≡ add_variables (nothing_bound w) (declared f 0 w.names) vs
    held : Held t n variables
    before : Before f w.names i variables
    below : (j : ℕ) → Above f w.names j → All (Below j) vs → All (Below j) variables

  pub record SortOn (t : Table) (i n : ℕ) : Type 0 where
    pub size : length t ≡ length t₀
    pub room : 512 ≤ length t
    on : (w : World ns ts ds given) (f : Sort → Option Spans) (vs : List Variable) → Placed ns w.names → Picks f k → Held t₀ from vs → Before f w.names 0 vs → SortAt w f vs t i n

  pub sort-start : 512 ≤ length t₀ → SortOn t₀ 0 from
  sort-start l = record { size = refl; room = l; on = λ w f vs p q h b. record { variables = vs; due = refl; held = h; before = b; below = λ j a x. x } }

  module _ (t : Table) (i n : ℕ) (s : SortOn t i n) where
    pub sort-end : length ns / 5 ≤ i → AddsSort ns ts ds given k from t₀ (Ok n) t
    sort-end l = record { is = go }
      where
        go : (w : World ns ts ds given) (f : Sort → Option Spans) (vs : List Variable) → Placed ns w.names → Picks f k → Held t₀ from vs → Before f w.names 0 vs
            → Adds (add_variables (nothing_bound w) (declared f 0 w.names) vs) (Above f w.names) vs n t
        go w f vs p q h b =
            let a = s.on w f vs p q h b in
            record {
              variables = a.variables;
              is = sym a.due ∙ added_none (nothing_bound w) f i w.names a.variables (omega (arith, l, named-length w.text ns w.names w.tables.named));
              held = a.held;
              below = a.below;
            }

    module _ (l : i < length ns / 5) where
      here : (w : World ns ts ds given) → Split w.names i
      here w = split w.names i (omega (arith, l, named-length w.text ns w.names w.tables.named))

      shaped : (w : World ns ts ds given) → Shaped (here w).name.sort (row_word ns i 2) (row_word ns i 3)
      shaped w = row-shaped w.text ns w.names i (here w).name w.tables.named (here w).here

      module _ (v : ℕ) (e : v ≡ row_word ns i 2) where
        pub sort-skip : (x : ℕ) → x ≡ k → (v ≡ x → ⊥) → SortOn t (i + 1) n
        sort-skip x same g = record { size = s.size; room = s.room; on = go }
          where
            go : (w : World ns ts ds given) (f : Sort → Option Spans) (vs : List Variable) → Placed ns w.names → Picks f k → Held t₀ from vs → Before f w.names 0 vs → SortAt w f vs t (i + 1) n
            go w f vs p q h b =
                let a = s.on w f vs p q h b in
                let x = here w in
                let y : i + 1 ≡ suc i = omega arith in
                let z : declared f i (drop i w.names) ≡ declared f (suc i) (drop (suc i) w.names) =
                ap (declared f i) x.behind ∙ declared-left f i x.name (drop (suc i) w.names) (q.leaves x.name.sort (row_word ns i 2) (row_word ns i 3) (shaped w) (λ m. g (e ∙ m ∙ sym same))) in
                record {
                  variables = a.variables;
                  due = rw y (ap (λ c. add_variables (nothing_bound w) c a.variables) (sym z) ∙ a.due);
                  held = a.held;
                  before = λ j m d o. a.before j m d (omega arith);
                  below = a.below;
                }

        module _ (x : ℕ) (same : x ≡ k) (g' : v ≡ x) (r : Result ℕ Refused) (t' : Table) (c : AddsName ns ts ds given i n t r t') where
          g : v ≡ k
          g = g' ∙ same

          -- the name's domain, and what its variables are added to
          record Turn (w : World ns ts ds given) (f : Sort → Option Spans) (vs : List Variable) : Type 0 where
            now : SortAt w f vs t i n
            domain : Spans
            taken : f (here w).name.sort ≡ Some domain
            answers : Answers (over domain (nothing_bound w) (add_variable (declared_at ns i domain)) now.variables) (λ j. i < j) now.variables r t'
            due : (over domain (nothing_bound w) (add_variable (declared_at ns i domain)) now.variables >>= λ ws. add_variables (nothing_bound w) (declared f (suc i) (drop (suc i) w.names)) ws)
                ≡ add_variables (nothing_bound w) (declared f 0 w.names) vs

          turn : (w : World ns ts ds given) (f : Sort → Option Spans) (vs : List Variable) → Placed ns w.names → Picks f k → Held t₀ from vs → Before f w.names 0 vs → Turn w f vs
          unfolding name_limit name_bound
          turn w f vs p q h b =
              let a = s.on w f vs p q h b in
              let x = here w in
              let y = q.takes x.name.sort (row_word ns i 3) (subst (λ m. Shaped x.name.sort m (row_word ns i 3)) (sym e ∙ g) (shaped w)) in
              let d = y.domain in
              let ranges : Ranges w i d = record {
                named = omega (arith, below_length w.names i x.name x.here, w.tables.few);
                stands = y.stands w.text ts (take i w.names) (row_word ns i 4) (w.tables.declared i x.name x.here);
                sized = y.sized;
              } in
              let z : declared f i (drop i w.names) ≡ declared_at ns i d ∷ declared f (suc i) (drop (suc i) w.names) =
              ap (declared f i) x.behind ∙ declared-taken f i x.name (drop (suc i) w.names) d y.is
              ∙ ap (λ (m : ℕ). record { name = i; domain = d; place = m } ∷ declared f (suc i) (drop (suc i) w.names)) (p.at i x.name x.here) in
              record {
                now = a;
                domain = d;
                taken = y.is;
                answers = c.is w d a.variables ranges a.held (a.before i x.name d (omega arith) x.here y.is);
                due =
                    sym (added-first (nothing_bound w) (declared_at ns i d) (declared f (suc i) (drop (suc i) w.names)) a.variables)
                    ∙ ap (λ m. add_variables (nothing_bound w) m a.variables) (sym z) ∙ a.due;
              }

          pub sort-refused : (e : Refused) → r ≡ Err e → AddsSort ns ts ds given k from t₀ (Err e) t'
          sort-refused z u = record { is = go }
            where
              go : (w : World ns ts ds given) (f : Sort → Option Spans) (vs : List Variable) → Placed ns w.names → Picks f k → Held t₀ from vs → Before f w.names 0 vs
                  → add_variables (nothing_bound w) (declared f 0 w.names) vs ≡ refused z.refusal z.place
              go w f vs y q h b =
                  let a = turn w f vs y q h b in
                  let o = over a.domain (nothing_bound w) (add_variable (declared_at ns i a.domain)) a.now.variables in
                  let m : o ≡ refused z.refusal z.place = subst (λ x. Answers o (λ j. i < j) a.now.variables x t') u a.answers in
                  sym a.due ∙ ap (λ x. x >>= λ ws. add_variables (nothing_bound w) (declared f (suc i) (drop (suc i) w.names)) ws) m

          pub sort-more : (m : ℕ) → r ≡ Ok m → SortOn t' (i + 1) m
          sort-more m u = record { size = c.size ∙ s.size; room = omega (arith, c.size, s.room); on = go }
            where
              go : (w : World ns ts ds given) (f : Sort → Option Spans) (vs : List Variable) → Placed ns w.names → Picks f k → Held t₀ from vs → Before f w.names 0 vs → SortAt w f vs t' (i + 1) m
              go w f vs y q h b =
                  let a = turn w f vs y q h b in
                  let x = here w in
                  let o = over a.domain (nothing_bound w) (add_variable (declared_at ns i a.domain)) a.now.variables in
                  let z : Adds o (λ j. i < j) a.now.variables m t' = subst (λ x. Answers o (λ j. i < j) a.now.variables x t') u a.answers in
                  let n : i + 1 ≡ suc i = omega arith in
                  record {
                    variables = z.variables;
                    due = rw n (ap (λ v. v >>= λ ws. add_variables (nothing_bound w) (declared f (suc i) (drop (suc i) w.names)) ws) (sym z.is) ∙ a.due);
                    held = z.held;
                    before = λ j y d l st ta. z.below j (omega arith) (a.now.before j y d (omega arith) st ta);
                    below = λ j up b. z.below j (up i x.name a.domain x.here a.taken) (a.now.below j up b);
                  }
