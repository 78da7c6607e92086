-- From what was generated to the answer, and from the answer to demand 3.
use Rattle.std.specs.Prelude.{Err, Ok, Result}
use Rattle.rules.specs.declared.Refused.{Refused}
use mathlib.Core.Path.{◌≡◌, refl, sym, ◌∙◌, ap, subst}
use mathlib.Core.List.{List}
use Prim.Native.Nat.{ℕ, ◌<◌, ◌≤◌}
use native.Mathlib.Omega.{arith}
use borrow.Author.Tests.{le-leb, lt-leb}
use lib.ListN.{length, replicate, length-replicate}
use Rattle.rules.specs.declared.Refusal.{Refusal}
use Rattle.rules.specs.declared.Refusal.TheVariants.{LongListing}
use Rattle.rules.specs.Refusals.{refusal_number}
use Rattle.language.specs.Outcome.{Outcome, done, refused, ◌>>=◌}
use Rattle.language.specs.Answer.{Accepted, accepted, fitted, listing_of, printing, listing, respond, answer}
use Rattle.language.proofs.Accepted.{kept}
use Rattle.language.proofs.GrammarHolds.{grammar-holds}
use Rattle.listing.proofs.Lines.{written-zeros}
use Rattle.generator.specs.declared.Answer.{Answer}
use Rattle.generator.specs.Contract.{Gives, Defined, Accepts, Meaning}
use Rattle.generator.specs.Generated.{reported, Prints, Generates, Answers}

-- an answer by its number
pub numbered : (n m p : ℕ) → n ≡ m → ◌≡◌ {A = Answer} (record { number = n; place = p; length = 0 }) (record { number = m; place = p; length = 0 })
numbered n m p e = ap (λ n. record { number = n; place = p; length = 0 }) e

-- ---- a report that fits, and one that does not

fitted-yes : (n : ℕ) (bytes : List ℕ) → length bytes ≤ n → fitted n bytes ≡ done bytes
unfolding fitted
fitted-yes n bytes h = rw (le-leb (length bytes) n h)

fitted-no : (n : ℕ) (bytes : List ℕ) → n < length bytes → fitted n bytes ≡ refused LongListing (length bytes)
unfolding fitted
fitted-no n bytes h = rw (lt-leb (length bytes) n h)

-- the answer is a refusal, and the output all zero
gives-refused : (n : ℕ) (r : Refusal) (p : ℕ) (o : Outcome (List ℕ)) → o ≡ refused r p → (a : Answer) → a ≡ record { number = refusal_number r; place = p; length = 0 }
    → (out' : List ℕ) → out' ≡ replicate n 0 → Gives n o a out'
unfolding respond
gives-refused n r p o e a i out' z = record { number = rw (e, i); place = rw (e, i); size = rw (e, i); bytes = rw (e, z) }

-- ---- the answer to what was generated

module _ (out : List ℕ) (g : Result ℕ Refused) where
  pub give-refused : (e : Refused) → g ≡ Err e → (a : Answer) → a ≡ record { number = refusal_number e.refusal; place = e.place; length = 0 }
      → (out' : List ℕ) → out' ≡ replicate (length out) 0 → Answers out g a out'
  give-refused w e a i out' z = record { gives = λ n l o h. go n l o (subst (λ g. Prints o (replicate n 0) g out) e h) }
    where
      go : (n : ℕ) → length out ≡ n → (o : Outcome (List ℕ)) → Prints o (replicate n 0) (Err w) out → Gives n (o >>= fitted n) a out'
      go n l (done bytes) h = absurd h
      go n l (refused r' q) h = gives-refused n w.refusal w.place (refused r' q) (ap (λ x. refused x q) h.0 ∙ ap (refused w.refusal) h.1) a i out' (z ∙ ap (λ n. replicate n 0) l)

  pub give-long : (k : ℕ) → g ≡ Ok k → length out < k → (a : Answer) → a ≡ record { number = refusal_number LongListing; place = k; length = 0 }
      → (out' : List ℕ) → out' ≡ replicate (length out) 0 → Answers out g a out'
  give-long k e f a i out' z = record { gives = λ n l o h. go n l o (subst (λ g. Prints o (replicate n 0) g out) e h) }
    where
      go : (n : ℕ) → length out ≡ n → (o : Outcome (List ℕ)) → Prints o (replicate n 0) (Ok k) out → Gives n (o >>= fitted n) a out'
      go n l (done bytes) h =
          let size : length bytes ≡ k = omega (arith, h.next) in
          gives-refused n LongListing k (fitted n bytes) (fitted-no n bytes (omega (arith, f, size, l)) ∙ ap (refused LongListing) size) a i out' (z ∙ ap (λ n. replicate n 0) l)
      go n l (refused r' q) h = absurd h

  pub give-printed : (k : ℕ) → g ≡ Ok k → k ≤ length out → Answers out g (record { number = 0; place = 0; length = k }) out
  unfolding respond
  give-printed k e f = record { gives = λ n l o h. go n l o (subst (λ g. Prints o (replicate n 0) g out) e h) }
    where
      go : (n : ℕ) → length out ≡ n → (o : Outcome (List ℕ)) → Prints o (replicate n 0) (Ok k) out → Gives n (o >>= fitted n) (record { number = 0; place = 0; length = k }) out
      go n l (done bytes) h =
          let size : k ≡ length bytes = omega (arith, h.next) in
          let fits = fitted-yes n bytes (omega (arith, f, size, l)) in
          record { number = rw fits; place = rw fits; size = size ∙ rw fits; bytes = written-zeros n h (omega (arith, f, l)) ∙ rw (fits, size) }
      go n l (refused r' q) h = absurd h

-- ---- the answer to a text

printing-is : (f : Accepted → List ℕ) (text : List ℕ) (n : ℕ) → (reported f (accepted text) >>= fitted n) ≡ printing f text n
unfolding printing
printing-is f text n = go (accepted text)
  where
    go : (o : Outcome Accepted) → (reported f o >>= fitted n) ≡ (o >>= λ a. fitted n (f a))
    go (done a) = refl
    go (refused r p) = refl

pub report-gives : (f : Accepted → List ℕ) (text out₀ out₁ : List ℕ) → out₁ ≡ replicate (length out₀) 0 → (g : Result ℕ Refused) (out₂ : List ℕ) → Generates f text out₁ g out₂ → length out₂ ≡ length out₁
    → (a : Answer) (out₃ : List ℕ) → Answers out₂ g a out₃ → Gives (length out₀) (printing f text (length out₀)) a out₃
report-gives f text out₀ out₁ z g out₂ h same a out₃ d =
    let n = length out₀ in
    let l : length out₂ ≡ n = same ∙ ap length z ∙ length-replicate {A = ℕ} n 0 in
    subst (λ o. Gives n o a out₃) (printing-is f text n) (d.gives n l (reported f (accepted text)) (subst (λ x. Prints (reported f (accepted text)) x g out₂) z h.prints))

-- ---- of the listing: which texts are accepted, and demand 3

module _ (text out : List ℕ) (a : Answer) (out' : List ℕ) (h : Gives (length out) (printing listing_of text (length out)) a out') where
  pub listing-defined : Defined text out a out'
  unfolding listing
  listing-defined = h

  pub listing-accepts : Accepts text out a
  unfolding answer listing
  listing-accepts =
      let both = grammar-holds.accepts text (length out) in
      record { accepts = (λ z. both.0 (sym h.number ∙ z), λ w. h.number ∙ both.1 w) }

  pub listing-means : Meaning text out a out'
  unfolding answer listing
  listing-means = record {
    meant = λ z.
        let k = kept text (length out) (sym h.number ∙ z) in
        record { demand = k; bytes = h.bytes ∙ k.prints ∙ rw (sym h.size) };
  }
