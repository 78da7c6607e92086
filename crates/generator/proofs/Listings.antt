-- From the tables of a text to its report.
use Rattle.std.specs.Prelude.{Err, Ok, Result}
use Rattle.rules.specs.declared.Refused.{Refused}
use mathlib.Core.Path.{◌≡◌, refl, sym, ◌∙◌, ap, subst, subst₂}
use mathlib.Core.Bool.{Bool, true, false, cond}
use mathlib.Core.List.{List}
use Prim.Native.Nat.{ℕ, zero, suc, ◌+◌, ◌<◌, ◌≤◌}
use native.Mathlib.Omega.{arith}
use borrow.Author.Tests.{leb-true, ltb-false, lt-ltb, le-ltb}
use lib.Dec.{leb, ltb}
use lib.ListN.{length, take, replicate}
use lib.IntN.{ℤ}
use Rattle.rules.specs.declared.Refusal.{Refusal}
use Rattle.rules.specs.declared.Refusal.TheVariants.{LongText}
use Rattle.rules.specs.Limits.{byte_limit, constraint_limit}
use Rattle.value.specs.Printed.{Written}
use Rattle.lexer.specs.Text.{tokens}
use Rattle.language.specs.Outcome.{Outcome, done, refused}
use Rattle.language.specs.All.{All}
use Rattle.language.specs.Reader.{expect, next, passed}
use Rattle.language.specs.Grammar.{structure}
use Rattle.language.specs.Model.{Model, read_model, model}
use Rattle.language.specs.Numbering.{Lp, generate}
use Rattle.language.specs.Listing.{lines_of}
use Rattle.language.specs.Proper as Proper
use Rattle.language.specs.Answer.{Accepted, accepted, listing_of}
use Rattle.language.proofs.ProperText.{accepted-proper}
use Rattle.tokens.specs.Stored.{spelling, bytes_from, Named, rows_of}
use Rattle.tokens.specs.Text.{In}
use Rattle.constraints.specs.declared.Record.{Record}
use Rattle.listing.proofs.Lines.{lines-shown}
use Rattle.problem.specs.Variables.Order.{InOrder}
use Rattle.problem.proofs.variables.Order.{declarations-order}
use Rattle.model.specs.declared.Model.{Model as Tables}
use Rattle.model.specs.ReadAs.{ModelAt, ReadAs}
use Rattle.model.proofs.Declared.{model-declares}
use Rattle.model.proofs.Worlds.{text-refused, text-read, model-holds, holds-start}
use Rattle.problem.specs.declared.Problem.{Problem}
use Rattle.problem.specs.Problem.{Poses, Generating, GeneratesAs}
use Rattle.rows.specs.declared.Sizes.{Sizes}
use Rattle.listing.specs.Sheet.Shown.{Shown}
use Rattle.listing.specs.Sheet.Shown as sheet
use Rattle.listing.proofs.sheet.Texts.{visible-inside}
use Rattle.generator.specs.declared.Posed.{Posed}
use Rattle.generator.specs.Generated.{reported, Prints, behind_brace, Writes, PrintsModel, PrintsIn, Generates}
use Rattle.store.specs.Table.{Table}
use Rattle.rows.specs.Bounds.{BoundTable, unstated, nth_bound}

-- ---- a text that was read is not too long

long-refused : (s : List ℕ) → leb (length s) byte_limit ≡ false → read_model s ≡ refused LongText byte_limit
unfolding read_model model structure expect next passed tokens
long-refused s e = rw e

pub read_short : (s : List ℕ) (m : Model) → read_model s ≡ done m → length s ≤ byte_limit
read_short s m h = go (leb (length s) byte_limit) refl
  where
    clash : (o : Outcome Model) → o ≡ refused LongText byte_limit → o ≡ done m → ⊥
    clash (done x) e f = let z : ◌≡◌ {A = ℕ} 0 1 = cc e in omega arith
    clash (refused n p) e f = let z : ◌≡◌ {A = ℕ} 0 1 = cc f in omega arith

    go : (b : Bool) → leb (length s) byte_limit ≡ b → length s ≤ byte_limit
    go true e = leb-true (length s) byte_limit e
    go false e = absurd (clash (read_model s) (long-refused s e) h)

-- ---- a string behind its brace

pub behind-brace : (s : List ℕ) (p n : ℕ) → length s ≤ byte_limit → Proper.Text (spelling s (p + 1) n) → spelling s (p + 1) n ≡ spelling s (behind_brace p) n
unfolding behind_brace spelling bytes_from
behind-brace s p n short h = go (ltb p byte_limit) refl n h
  where
    go : (b : Bool) → ltb p byte_limit ≡ b → (n : ℕ) → Proper.Text (bytes_from s (p + 1) 0 n) → bytes_from s (p + 1) 0 n ≡ bytes_from s (cond (ltb p byte_limit) (p + 1) 0) 0 n
    go true e n h = rw e
    go false e zero h = refl
    go false e (suc n) h = absurd (omega (arith, visible-inside s (p + 1 + 0) h.0, ltb-false p byte_limit e, short))

pub brace-inside : (p r : ℕ) → p < 16384 → r ≡ p + 1 → r ≡ behind_brace p
unfolding behind_brace byte_limit
brace-inside p r h e = e ∙ ap (λ b. cond b (p + 1) 0) (sym (lt-ltb p 16384 h))

pub brace-outside : (p : ℕ) → 16384 ≤ p → 0 ≡ behind_brace p
unfolding behind_brace byte_limit
brace-outside p h = ap (λ b. cond b (p + 1) 0) (sym (le-ltb p 16384 h))

-- ---- what is written from the tables

pub written-listing : (t : Posed) (out : List ℕ) (r : ℕ) (out' : List ℕ)
    → In sheet.Lists t.text t.constraints.now t.variables.now t.slots.now t.bounds.now t.counts.now t.sizes t.title t.place t.bytes out r out' → Writes listing_of t out r out'
unfolding listing_of
written-listing t out r out' l = record { report = λ x y g d. subst (λ b. Written out 0 b r out') (lines-shown (lines_of x y) d.proper) (l.lines x y d) }

-- of every model and problem that the tables are of, the report f was written
abbrev Told : (Accepted → List ℕ) → List ℕ → List ℕ → List ℕ → List Record → Table → Table → BoundTable → List ℤ → Sizes → ℕ → ℕ → ℕ → List ℕ → ℕ → List ℕ → Type 0
Told f s ns ts cs vs rows bs m z title place bytes out r out' =
    (x : Model) (p : Lp) → generate x ≡ done p → Shown s ns ts cs vs rows bs m z title place bytes x p → Written out 0 (f (record { model = x; problem = p })) r out'

abbrev sizes_of : Problem → Sizes
sizes_of w = record { discrete = w.discrete; variables = w.total; less = w.filled.less; equal = w.filled.equal }

-- ---- what is accepted

accepted-refused : (s : List ℕ) (n : Refusal) (q : ℕ) → read_model s ≡ refused n q → accepted s ≡ refused n q
unfolding accepted
accepted-refused s n q e = rw e

module _ (s : List ℕ) (m : Model) (reads : read_model s ≡ done m) where
  problem-refused : (n : Refusal) (q : ℕ) → generate m ≡ refused n q → accepted s ≡ refused n q
  unfolding accepted
  problem-refused n q e = rw (reads, e)

  problem-accepted : (p : Lp) → generate m ≡ done p → accepted s ≡ done (record { model = m; problem = p })
  unfolding accepted
  problem-accepted p e = rw (reads, e)

-- ---- the listing of a text that was read

unstated-at : (n k : ℕ) → nth_bound (replicate n unstated) k ≡ unstated
unfolding nth_bound
unstated-at zero k = refl
unstated-at (suc n) zero = refl
unstated-at (suc n) (suc k) = unstated-at n k

module _ (s ts ns : List ℕ) (cs : List Record) (ds : Table) (r : Tables) (few : r.constraints ≤ 64) (bs : BoundTable) (empty : bs ≡ replicate 512 unstated) (m : Model) (reads : read_model s ≡ done m) (h : ModelAt s ts ns cs ds r m) where
  -- the tables tell of the model
  poses : Poses (rows_of r.names ns) ts ds r.given r.objective r.minimize cs r.constraints bs (model-holds s ts ns cs ds r m h).world m
  unfolding constraint_limit
  poses =
      let w = model-holds s ts ns cs ds r m h in
      let d = model-declares s m reads in
      record {
        names = w.names;
        start = holds-start s (rows_of r.names ns) ts ds r.given m w;
        placed = w.placed;
        ordered = subst InOrder (sym w.names) (declarations-order d.first d.rest m.structure.names d.reads);
        objective = rw w.text h.structure.objective;
        minimize = h.structure.minimize;
        few = few;
        constraints = rw w.text h.structure.constraints;
        unbound = λ k. ap (λ l. nth_bound l k) empty ∙ unstated-at 512 k;
      }

  module _ (f : Accepted → List ℕ) (xs t : Table) (bs' : BoundTable) (c : List ℤ) (out out' : List ℕ) where
    made-refused : (e : Refused) → GeneratesAs (rows_of r.names ns) ts ds r.given r.objective r.minimize cs r.constraints bs (Err e) xs t bs' c
        → Prints (reported f (accepted s)) out (Err e) out'
    made-refused z g = go (generate m) refl (g.is _ m poses)
      where
        go : (o : Outcome Lp) → generate m ≡ o → Generating o m.structure.constraints (Err z) xs t bs' c → Prints (reported f (accepted s)) out (Err z) out'
        go (done p) i w = absurd w
        go (refused n' q') i w = subst (λ o. Prints (reported f o) out (Err z) out') (sym (problem-refused s m reads n' q' i)) w

    made-printed : (w : Problem) → GeneratesAs (rows_of r.names ns) ts ds r.given r.objective r.minimize cs r.constraints bs (Ok w) xs t bs' c → (size : ℕ)
        → Told f s (rows_of r.names ns) ts (take r.constraints cs) xs t bs' c (sizes_of w) r.title (behind_brace r.section) r.bytes out size out'
        → Prints (reported f (accepted s)) out (Ok size) out'
    unfolding lines_of
    made-printed z g size l = go (generate m) refl (g.is _ m poses)
      where
        go : (o : Outcome Lp) → generate m ≡ o → Generating o m.structure.constraints (Ok z) xs t bs' c → Prints (reported f (accepted s)) out (Ok size) out'
        go (refused n' q') i w = absurd w
        go (done p) i w =
            let acc = problem-accepted s m reads p i in
            let proper : All Proper.Proper (lines_of m p) = accepted-proper s (record { model = m; problem = p }) acc in
            let short = read_short s m reads in
            let titled : Proper.Text m.given.title = proper.0.data-title in
            let shown : Shown s (rows_of r.names ns) ts (take r.constraints cs) xs t bs' c (sizes_of z) r.title (behind_brace r.section) r.bytes m p =
            record {
              short = short;
              title_place = h.structure.place;
              title = h.structure.title;
              data_title = h.title ∙ behind-brace s r.section r.bytes short (subst Proper.Text h.title titled);
              named = subst (Named s (rows_of r.names ns)) h.names h.ground.named;
              constrained = h.structure.constraints;
              sources = w.sources;
              discrete = w.discretes;
              few = w.few;
              numbered = w.numbered;
              keyed = w.keyed;
              rows_held = w.rows;
              objective = w.objective;
              bounds = w.bounds;
              proper = proper;
            } in
            subst (λ o. Prints (reported f o) out (Ok size) out') (sym acc) (l m p i shown)

-- the same, of the rows of the names alone
module _ (f : Accepted → List ℕ) (s ns ts : List ℕ) (cs : List Record) (ds : Table) (r : Tables) (few : r.constraints ≤ 64) (bs : BoundTable) (x : Result Problem Refused) (xs t : Table) (bs' : BoundTable) (c : List ℤ) (g : GeneratesAs ns ts ds r.given r.objective r.minimize cs r.constraints bs x xs t bs' c) (out out' : List ℕ) where
  generates-as : (y : Result Problem Refused) → x ≡ y → (t₀ : List ℕ) → ns ≡ rows_of r.names t₀
      → GeneratesAs (rows_of r.names t₀) ts ds r.given r.objective r.minimize cs r.constraints bs y xs t bs' c
  generates-as y e t₀ i = subst₂ (λ l y. GeneratesAs l ts ds r.given r.objective r.minimize cs r.constraints bs y xs t bs' c) i e g

  pub print-refused : (e : Refused) → x ≡ Err e → PrintsIn f s ns ts cs ds r bs out (Err e) out'
  print-refused z e = record { prints = λ empty. record { prints = λ m reads t₀ i h. made-refused s ts t₀ cs ds r few bs empty m reads h f xs t bs' c out out' z (generates-as (Err z) e t₀ i) } }

  pub print-done : (w : Problem) → x ≡ Ok w → (q size : ℕ) → q ≡ behind_brace r.section
      → Told f s ns ts (take r.constraints cs) xs t bs' c (sizes_of w) r.title q r.bytes out size out'
      → PrintsIn f s ns ts cs ds r bs out (Ok size) out'
  print-done w e q size b l = record {
    prints = λ empty. record {
      prints = λ m reads t₀ i h. made-printed s ts t₀ cs ds r few bs empty m reads h f xs t bs' c out out' w (generates-as (Ok w) e t₀ i) size
          (subst (λ z. Told f s z ts (take r.constraints cs) xs t bs' c (sizes_of w) r.title (behind_brace r.section) r.bytes out size out') i (rw (← b) l));
    };
  }

-- ---- the report of a text

module _ (f : Accepted → List ℕ) (s : List ℕ) (r : Result Tables Refused) (ts ns : List ℕ) (cs : List Record) (ds : Table) (h : ReadAs s r ts ns cs ds) (out : List ℕ) where
  pub text-unread : (e : Refused) → r ≡ Err e → (out' : List ℕ) → Generates f s out (Err e) out'
  text-unread z e out' = record { prints = subst (λ o. Prints (reported f o) out (Err z) out') (sym (accepted-refused s z.refusal z.place (text-refused s r ts ns cs ds h z e))) (refl, refl) }

  pub text-printed : (x : Tables) → r ≡ Ok x → (g : Result ℕ Refused) (out' : List ℕ) → PrintsModel f s (rows_of x.names ns) (take x.tokens ts) cs ds x out g out' → Generates f s out g out'
  text-printed x e g out' l = let a = text-read s r ts ns cs ds h x e in record { prints = l.prints a.model a.reads ns refl a.tells }
