-- Laws of a portion from its name on over plain variables.
use Rattle.std.specs.Prelude.{Err, Ok, Result, Some, slice_get}
use Rattle.rules.specs.declared.Refused.{Refused}
use mathlib.Core.Path.{◌≡◌, refl, sym, ◌∙◌, ap, subst}
use mathlib.Core.Bool.{Bool, true, false, ◌||◌}
use mathlib.Core.List.{List, []}
use Prim.Native.Nat.{ℕ, zero, suc}
use native.Mathlib.Omega.{arith}
use lib.Dec.{eqb}
use lib.ListN.{length, take}
use Rattle.rules.specs.declared.Refusal.TheVariants.{Misplaced, BadIndex}
use Rattle.rules.specs.Limits.{nesting_limit, index_limit}
use Rattle.lexer.specs.Marks.{opens_list}
use Rattle.lexer.specs.Text.{Token}
use Rattle.language.specs.All.{All}
use Rattle.language.proofs.All.{all_right}
use Rattle.language.specs.Outcome.{Outcome, done, refused}
use Rattle.language.proofs.Outcome.{done-injective}
use Rattle.language.specs.Syntax.{Name, Sort, Spans, point, span}
use Rattle.language.specs.Syntax
use Rattle.language.specs.Reader.{Reader, Read, Used, follow, demand, require, expect, bracket, read_known}
use Rattle.language.specs.Store.{Store, Portion, portion_by}
use Rattle.language.specs.Data.{Entry, bound_of, is_point, marks_of, no_repeats, read_order, runs, subscripted_portion, portion_of}
use Rattle.language.specs.Data as Data
use Rattle.language.proofs.Meant.{found}
use Rattle.language.proofs.Taken.{after_read, expect-read, name-read}
use Rattle.tokens.specs.declared.Known.{Known}
use Rattle.tokens.specs.Stored.{from, size, Shaped, Knowing, KnownAt, Knows}
use Rattle.tokens.proofs.Moved.{knows-of}
use Rattle.tokens.proofs.Tables.{false-true}
use Rattle.evaluator.specs.Steps.Names.{row_word}
use Rattle.evaluator.proofs.steps.Numbers.{found-numbered}
use Rattle.evaluator.specs.Tables.{DomainAt, Stands}
use Rattle.evaluator.specs.Ground.{Ground}
use Rattle.evaluator.proofs.Names.{below_length}
use Rattle.data.specs.declared.reading.few.Few.{Few}
use Rattle.data.specs.declared.reading.entries.Entries.{Entries}
use Rattle.data.specs.declared.reading.heads.Plan.{Plan}
use Rattle.data.specs.Reading.Few.{Holds}
use Rattle.data.specs.Reading.Entries.{entries_of}
use Rattle.data.specs.Reading.Lists.{list_in, Head, order_in, rest_in, head_in, planned, Heads}
use Rattle.data.proofs.reading.Joined.{entries-joined, portion-joined}
use Rattle.data.specs.declared.layouts.Layout.{Layout}
use Rattle.data.specs.Stores.{Stores}
use Rattle.data.specs.Layouts.{Lays}
use Rattle.data.specs.Running.{SmallIf, Carries}
use Rattle.data.specs.Taking.{TakenIs}
use Rattle.data.specs.Carrying.{RunsTo}
use Rattle.data.specs.Portions.{head_for, carry_in, Declares, CarriesOut, used_in, Names, Uses, Fills}
use Rattle.data.proofs.Smalls.{Fitting, SmallEntry, fitting-from, made, entries-small, positions-small}
use Rattle.store.specs.Table.{Table}

-- ---- the head of a portion

module _ (s ns ts : List ℕ) (at p n : ℕ) where
  pub head-none : (f : Few) (e : Entries) → n ≡ 0 → Holds f [] → entries_of e ≡ [] → Heads (head_for p n) s ns ts at n (Ok (record { runs = f; entries = e; next = at }))
  unfolding head_for
  head-none f e z k h = record { is = λ names d few. rw (z, k.numbers, h) refl }

  pub head-some : (r : Result Plan Refused) → (n ≡ 0 → ⊥) → Heads (head_in p n) s ns ts at n r → Heads (head_for p n) s ns ts at n r
  unfolding head_for
  head-some r z h = record { is = λ names d few. go names n z ∙ h.is names d few }
    where
      go : (names : List Name) (n : ℕ) → (n ≡ 0 → ⊥) → head_for p n names (from s ts at) ≡ head_in p n names (from s ts at)
      go names zero z = absurd (z refl)
      go names (suc n) z = refl

-- what is known of its entries
pub record Fit (n : ℕ) (es : List Entry) : Type 0 where
  pub long : length es ≡ n
  pub small : All SmallIf (bound_of es)

module _ (names : List Name) (p : ℕ) where
  order-entries : (es : List Entry) (l : List Token) (r : Read Head) → order_in p es names l ≡ done r → es ≡ r.what.entries
  unfolding order_in
  order-entries es l r e =
      after_read (require (no_repeats (marks_of es)) BadIndex p l) _ r e (λ x _ f.
      after_read (read_order names p (marks_of es) x.rest) _ r f (λ y _ g. ap (λ (h : Read Head). h.what.entries) (done-injective g)))

  fit-list : (d : Spans) (l : List Token) (y : Read (List Entry)) → All Fitting l → list_in (size d) names l ≡ done y → Fit (size d) y.what
  fit-list d l y h e =
      let (long, small) = made (λ es. (length es ≡ size d) × All SmallEntry es) (Data.entries_of names d) (entries-small names d) l y h (entries-joined names d l ∙ e) in
      record { long = long; small = positions-small y.what small }

  fit-rest : (d : Spans) (l : List Token) (r : Read Head) → All Fitting l → rest_in p (size d) names l ≡ done r → Fit (size d) r.what.entries
  unfolding rest_in
  fit-rest d l r h e =
      after_read (list_in (size d) names l) _ r e (λ y f g. subst (Fit (size d)) (order-entries y.what y.rest r g) (fit-list d l y h f))

  fit-head : (d : Spans) (l : List Token) (r : Read Head) → All Fitting l → head_for p (size d) names l ≡ done r → Fit (size d) r.what.entries
  unfolding head_for head_in size bracket nesting_limit bound_of
  fit-head point l r h e = subst (Fit 0) (ap (λ (h : Read Head). h.what.entries) (done-injective e)) (record { long = refl; small = tt })
  fit-head (span i f g q d) l r h e =
      after_read (expect opens_list l) _ r e (λ x w z.
      let y = (expect-read 90).reads l x w in
      fit-rest (span i f g q d) x.rest r (all_right Fitting y.phrase x.rest (subst (All Fitting) y.taken h)) z)

-- ---- head and numbers

head-point : (p : ℕ) (names : List Name) (l : List Token) (d : Spans) → is_point d ≡ true → head_for p (size d) names l ≡ done (record { what = record { positions = []; entries = [] }; rest = l })
unfolding head_for size
head-point p names l point e = refl
head-point p names l (span i f g q d) e = absurd (false-true e)

head-span : (p : ℕ) (names : List Name) (l : List Token) (d : Spans) → is_point d ≡ false → head_in p (size d) names l ≡ head_for p (size d) names l
unfolding head_for size
head-span p names l point e = absurd (false-true (sym e))
head-span p names l (span i f g q d) e = refl

-- the definition tells a scalar from a portion with indices
carry-joined : (names : List Name) (x : Portion) (st : Store) (l : List Token)
    → ◌≡◌ {A = Outcome (Read Store)} ((elim (is_point x.domain) as (λ _. Reader Store) [ true ↦ runs x [] [] st | false ↦ subscripted_portion names x st ]) l) (carry_in x st names l)
unfolding carry_in bound_of
carry-joined names x st l = go (is_point x.domain) refl
  where
    go : (b : Bool) → is_point x.domain ≡ b
        → ◌≡◌ {A = Outcome (Read Store)} ((elim b as (λ _. Reader Store) [ true ↦ runs x [] [] st | false ↦ subscripted_portion names x st ]) l) (carry_in x st names l)
    go true e = sym (ap (λ o. follow o (λ (h : Head). runs x h.positions (bound_of h.entries) st)) (head-point x.place names l x.domain e))
    go false e = portion-joined names x st l ∙ ap (λ o. follow o (λ (h : Head). runs x h.positions (bound_of h.entries) st)) (head-span x.place names l x.domain e)

module _ (s ns ts : List ℕ) (ds : Table) (given at i c p : ℕ) (whole : Bool) (h : Result Plan Refused) (w : Heads (head_for p c) s ns ts at c h) where
  head-is : (x : Portion) (d : Declares s ns ts i c p whole x) (o : Result Plan Refused) → h ≡ o → head_for x.place (size x.domain) d.ground.names (from s ts at) ≡ planned s ts o
  unfolding index_limit
  head-is x d o e = rw (d.place, d.long) (w.is d.ground.names d.ground.named (omega (arith, d.domain.few, d.long)) ∙ ap (planned s ts) e)

  pub carry-refused : (e : Refused) (ds' : Table) → h ≡ Err e → CarriesOut s ns ts ds given at i c p whole (Err e) ds'
  unfolding carry_in
  carry-refused z ds' e = record { is = λ x d st g. rw (head-is x d (Err z) e) (refl, refl) }

  pub carry-runs : (w : Plan) (q : ℕ) (y : Layout) (r : Result (ℕ × ℕ) Refused) (ds' : Table) → h ≡ Ok w → q ≡ row_word ns i 4 → Lays s ns ts i q c y
      → RunsTo ns ts ds given w.next (record { name = i; place = p; whole = whole; start = q; layout = y; order = w.runs }) 0 w.entries r ds' → CarriesOut s ns ts ds given at i c p whole r ds'
  unfolding carry_in index_limit
  carry-runs w q y r ds' k v l z =
      record { is = λ x d st g. rw (head-is x d (Ok w) k) (z.is s x (carries x d) st g) }
    where
      carries : (x : Portion) → Declares s ns ts i c p whole x → Carries s ns ts (record { name = i; place = p; whole = whole; start = q; layout = y; order = w.runs }) w.entries x
      carries x d =
          let domain : DomainAt s ts (take i d.ground.names) x.domain q = subst (DomainAt s ts (take i d.ground.names) x.domain) (sym v) d.domain in
          let fit = fit-head d.ground.names x.place x.domain (from s ts at) _ (fitting-from s ts d.ground.literals at) (head-is x d (Ok w) k) in
          record {
            ground = d.ground;
            portrays = record {
              name = d.name;
              place = d.place;
              whole = d.kind;
              known = d.known;
              domain = domain;
              laid = l.is d.ground d.known x.domain domain.rest domain.reads d.long (omega (arith, domain.few, d.long));
            };
            long = fit.long;
            small = fit.small;
          }

-- ---- behind a name

module _ (s ns ts : List ℕ) (ds : Table) (given at i k c p : ℕ) where
  pub name-other : (ds' : Table) → (eqb k 1 || eqb k 2) ≡ false → Uses s ns ts ds given at i k c p (Err (record { refusal = Misplaced; place = p })) ds'
  unfolding used_in demand portion_by
  name-other ds' e = record { is = λ u d st g. go u d st u.sort refl d.shaped }
    where
      go : (u : Used) (d : Names s ns ts i k c p u) (st : Store) (z : Sort) → u.sort ≡ z → Shaped z k c → TakenIs (used_in d.ground.names st u (from s ts at)) s ts ds' (Err (record { refusal = Misplaced; place = p }))
      go u d st Syntax.index q w = rw q (refl, d.place)
      go u d st (Syntax.integer b) q w = absurd (false-true (sym e ∙ rw w.0 refl))
      go u d st (Syntax.real b) q w = absurd (false-true (sym e ∙ rw w.0 refl))
      go u d st (Syntax.formula f) q w = rw q (refl, d.place)
      go u d st (Syntax.discrete b) q w = rw q (refl, d.place)
      go u d st (Syntax.continuous b) q w = rw q (refl, d.place)

  pub name-carries : (r : Result (ℕ × ℕ) Refused) (ds' : Table) → (eqb k 1 || eqb k 2) ≡ true → CarriesOut s ns ts ds given at i c p (eqb k 1) r ds' → Uses s ns ts ds given at i k c p r ds'
  unfolding used_in demand portion_by
  name-carries r ds' e h = record { is = λ u d st g. go u d st g u.sort refl d.shaped }
    where
      stands : (u : Used) (d : Names s ns ts i k c p u) → Stands s ts (take i d.ground.names) d.name.sort (row_word ns i 4)
      stands u d = d.ground.declared i d.name d.stands

      by : (u : Used) (d : Names s ns ts i k c p u) (st : Store) → Stores ds given st → (b : Spans) (whole : Bool)
          → portion_by u.number u.place u.sort ≡ Some (record { name = u.number; place = u.place; whole = whole; domain = b })
          → whole ≡ eqb k 1 → size b ≡ c → DomainAt s ts (take i d.ground.names) b (row_word ns i 4) → TakenIs (used_in d.ground.names st u (from s ts at)) s ts ds' r
      by u d st g b whole o a n m =
          let x : Portion = record { name = u.number; place = u.place; whole = whole; domain = b } in
          let declares : Declares s ns ts i c p (eqb k 1) x =
          record { ground = d.ground; name = d.number; place = d.place; kind = a; known = below_length d.ground.names i d.name d.stands; domain = m; long = n } in
          rw o (subst (λ o. TakenIs o s ts ds' r) (sym (carry-joined d.ground.names x st (from s ts at))) (h.is x declares st g))

      go : (u : Used) (d : Names s ns ts i k c p u) (st : Store) → Stores ds given st → (z : Sort) → u.sort ≡ z → Shaped z k c → TakenIs (used_in d.ground.names st u (from s ts at)) s ts ds' r
      go u d st g Syntax.index q w = absurd (false-true (sym (rw w refl) ∙ e))
      go u d st g (Syntax.integer b) q w = by u d st g b true (rw q refl) (rw w.0 refl) w.1 (subst (λ z. Stands s ts (take i d.ground.names) z (row_word ns i 4)) (sym d.sorted ∙ q) (stands u d))
      go u d st g (Syntax.real b) q w = by u d st g b false (rw q refl) (rw w.0 refl) w.1 (subst (λ z. Stands s ts (take i d.ground.names) z (row_word ns i 4)) (sym d.sorted ∙ q) (stands u d))
      go u d st g (Syntax.formula f) q w = absurd (false-true (sym (rw w refl) ∙ e))
      go u d st g (Syntax.discrete b) q w = absurd (false-true (sym (rw w.0 refl) ∙ e))
      go u d st g (Syntax.continuous b) q w = absurd (false-true (sym (rw w.0 refl) ∙ e))

-- ---- from the name on

-- a name that is read is the one of its number
named-is : (s ns ts : List ℕ) (g : Ground s ns ts) (l : List Token) (x : Read Used) (i k c p : ℕ) → read_known g.names l ≡ done x → x.what.number ≡ i → Shaped x.what.sort k c → x.what.place ≡ p
    → Names s ns ts i k c p x.what
named-is s ns ts g l x i k c p e n w q =
    let m = ((name-read g.names).reads l x e).writes in
    let y = found-numbered m.spelling 0 g.names 0 _ (found 0 m.means) in
    let here : y.ahead ≡ i = omega (arith, y.numbered, n) in
    record {
      ground = g;
      number = n;
      place = q;
      shaped = w;
      name = y.name;
      stands = subst (λ i. slice_get g.names i ≡ Some y.name) here y.stands;
      sorted = y.sorted;
    }

module _ (s ns ts : List ℕ) (ds : Table) (given at : ℕ) (r : Result Known Refused) (told : KnownAt s ns ts at r) where
  h : Knows s ns ts at r
  h = knows-of s ns ts at r told

  pub portion-unknown : (e : Refused) (ds' : Table) → r ≡ Err e → Fills portion_of s ns ts ds given at (Err e) ds'
  unfolding portion_of used_in
  portion-unknown z ds' e =
      record { is = λ g st _. go g st (read_known g.names (from s ts at)) (subst (Knowing (read_known g.names (from s ts at)) s ts) e (h.knows g.names g.named)) }
    where
      go : (g : Ground s ns ts) (st : Store) (o : Outcome (Read Used)) → Knowing o s ts (Err z) → TakenIs (follow o (used_in g.names st)) s ts ds' (Err z)
      go g st (done x) k = absurd k
      go g st (refused m q) k = k

  pub portion-named : (w : Known) (z : Result (ℕ × ℕ) Refused) (ds' : Table) → r ≡ Ok w → Uses s ns ts ds given w.next w.number w.sort w.count w.place z ds' → Fills portion_of s ns ts ds given at z ds'
  unfolding portion_of used_in named-is
  portion-named v z ds' e w =
      record { is = λ g st b. go g st b (read_known g.names (from s ts at)) refl (subst (Knowing (read_known g.names (from s ts at)) s ts) e (h.knows g.names g.named)) }
    where
      go : (g : Ground s ns ts) (st : Store) → Stores ds given st → (o : Outcome (Read Used)) → read_known g.names (from s ts at) ≡ o → Knowing o s ts (Ok v)
          → TakenIs (follow o (used_in g.names st)) s ts ds' z
      go g st b (done x) q y =
          subst (λ l. TakenIs (used_in g.names st x.what l) s ts ds' z) (sym y.0) (w.is x.what (named-is s ns ts g (from s ts at) x v.number v.sort v.count v.place q y.1 y.2 y.3) st b)
      go g st b (refused m q) f y = absurd y
