-- Turn counts are never reached: a loop of the grammar gives the same with every number of turns above the number of tokens that
-- count, for each turn takes one of them; of the data section, above the number of tokens.
use mathlib.Core.Path.{◌≡◌, refl, sym, ◌∙◌, ap, subst}
use mathlib.Core.Bool.{Bool, true, false, cond}
use mathlib.Core.List.{List, [], ◌∷◌, ◌++◌}
use Prim.Native.Nat.{ℕ, zero, suc, ◌+◌, ◌<◌, ◌≤◌}
use native.Mathlib.Omega.{arith}
use lib.Dec.{leb}
use lib.ListN.{length, length-append}
use borrow.Author.Tests.{leb-true}
use Rattle.rules.specs.declared.Refusal.TheVariants.{LongText}
use Rattle.rules.specs.Limits.{byte_limit, token_limit}
use Rattle.lexer.specs.Marks.{times_sign, minus_sign, comma, open_word}
use Rattle.lexer.specs.Text.{Token, mark, wrong, uncounted, counted, tokens_from, tokens}
use Rattle.language.specs.Outcome.{Outcome, done, refused}
use Rattle.language.specs.Syntax.{Formula, Name, Sort, Term, Structure, plus, times, factor, also}
use Rattle.language.specs.Reader.{Read, Reader, follow, ◌>>=◌, give, passed, next, look, is_mark, is_name, expect, read_index}
use Rattle.language.specs.Formulas.{factors, term_of, is_sum, negated, summands, Signed, read_sign, formula_of, inside_at, primary_by}
use Rattle.language.specs.Linear.{Head, head_by, linear_term, linear_terms, linear_of}
use Rattle.language.specs.Linear
use Rattle.language.specs.Declarations.{new_name, entries_from}
use Rattle.language.specs.Grammar.{structure}
use Rattle.language.specs.Store.{Store}
use Rattle.language.specs.Data.{order_from, portion_of, portions_of}
use Rattle.language.specs.Phrases.{◌at◌, WritesStructure, whole_model, Writes, term, primary, form_term, sort, with}
use Rattle.language.proofs.Taken.{Reads, passed_is, expect-read, index_read, marked}
use Rattle.language.proofs.Phrased.{sign_mark, sign-is, SignOf, no_sign, a_sign, sign_read, primary-by, inside-read}
use Rattle.language.proofs.PhrasedLinear.{on_head}
use Rattle.language.proofs.PhrasedModel.{new-name, structure-written}
use Rattle.language.proofs.Shapes.{tokens-few}
use Rattle.language.proofs.DataTaken.{portion-some}
use Rattle.language.proofs.Counted.{live, live-cons, live-tokens, Counted, nil, cons, phrase-counts}

-- ---- two sequences that differ only behind a step

module _ {A B : Type 0} where
  same_then : (o : Outcome (Read A)) (f g : A → Reader B) → ((x : Read A) → o ≡ done x → f x.what x.rest ≡ g x.what x.rest) → follow o f ≡ follow o g
  same_then (done x) f g h = h x refl
  same_then (refused n p) f g h = refl

module _ {B : Type 0} where
  same_next : (f g : Token → Reader B) (ts : List Token) → ((t : Token) (us : List Token) → ts ≡ t ∷ us → f t us ≡ g t us) → follow (next ts) f ≡ follow (next ts) g
  unfolding next
  same_next f g [] h = refl
  same_next f g (t ∷ us) h = same_then (passed t.kind t us) f g (λ x e. subst (λ (x : Read Token). f x.what x.rest ≡ g x.what x.rest) (passed_is t.kind t us x e) (h t us refl))

  same-look : (f g : Token → Reader B) (ts : List Token) → ((t : Token) (us : List Token) → ts ≡ t ∷ us → f t ts ≡ g t ts) → follow (look ts) f ≡ follow (look ts) g
  unfolding look
  same-look f g [] h = refl
  same-look f g (t ∷ us) h = same_then (passed t.kind t (t ∷ us)) f g (λ x e. subst (λ (x : Read Token). f x.what x.rest ≡ g x.what x.rest) (passed_is t.kind t (t ∷ us) x e) (h t us refl))

  same-either : (b : Bool) (m n k : Reader B) (ts : List Token) → (b ≡ true → m ts ≡ n ts)
      → (elim b as (λ _. Reader B) [ true ↦ m | false ↦ k ]) ts ≡ (elim b as (λ _. Reader B) [ true ↦ n | false ↦ k ]) ts
  same-either true m n k ts h = h refl
  same-either false m n k ts h = refl

  -- a token that is looked at and then taken
  same_taken : (test : Token → Bool) (f g : Token → Reader B) (k : Reader B) (ts : List Token) → ((t : Token) (us : List Token) → ts ≡ t ∷ us → test t ≡ true → f t us ≡ g t us)
      → follow {B = B} (look ts) (λ t. elim (test t) as (λ _. Reader B) [ true ↦ next >>= λ _. f t | false ↦ k ]) ≡ follow {B = B} (look ts) (λ t. elim (test t) as (λ _. Reader B) [ true ↦ next >>= λ _. g t | false ↦ k ])
  same_taken test f g k ts h =
      same-look _ _ ts λ t us e. same-either (test t) _ _ k ts λ b. same_next (λ _. f t) (λ _. g t) ts λ u vs x.
      let z : t ∷ us ≡ u ∷ vs = sym e ∙ x in
      let y : us ≡ vs = cc in
      subst (λ us. f t us ≡ g t us) y (h t us e b)

-- ---- what a reader leaves

-- it takes l, and all of l counts
leaves : {A : Type 0} {m : Reader A} {W : A → List Token → Type 0} → Reads m W → ((a : A) (l : List Token) → W a l → Counted l) → (ts : List Token) (r : Read A) → m ts ≡ done r
    → (l : List Token) × W r.what l × (live ts ≡ length l + live r.rest)
leaves rm h ts r e = let w = rm.reads ts r e in (w.phrase, w.writes, ap live w.taken ∙ (h r.what w.phrase w.writes).passed r.rest)

-- no reader of the grammar leaves more tokens that count than it finds: all tokens of phrases, lists and structures count
-- (`phrase-counts`, `list_counts`, `structure-counts`)
pub steady : {A : Type 0} {m : Reader A} {W : A → List Token → Type 0} → Reads m W → ((a : A) (l : List Token) → W a l → Counted l) → (ts : List Token) (r : Read A) → m ts ≡ done r → live r.rest ≤ live ts
steady rm h ts r e = omega (arith, (leaves rm h ts r e).2)

-- one token that counts
expect-takes : (c : ℕ) → uncounted (mark (suc c)) ≡ false → (ts : List Token) (r : Read ℕ) → expect (suc c) ts ≡ done r → live ts ≡ suc (live r.rest)
expect-takes c u ts r e =
    let q = leaves (expect-read c) (λ p l w. rw w (cons u nil)) ts r e in
    omega (arith, q.2, ap length q.1)

token-takes : (c p : ℕ) (t : Token) (us : List Token) → uncounted (mark c) ≡ false → t ≡ mark c at p → live (t ∷ us) ≡ suc (live us)
token-takes c p t us u e = live-cons t us (subst (λ (t : Token). uncounted t.kind ≡ false) (sym e) u)

sign-counts : (m : Bool) → uncounted (mark (sign_mark m)) ≡ false
unfolding uncounted
sign-counts true = refl
sign-counts false = refl

sign-takes : (t : Token) (us : List Token) → is_sum t ≡ true → live (t ∷ us) ≡ suc (live us)
sign-takes t us e = token-takes _ t.place t us (sign-counts (is_mark minus_sign t)) (sign-is t e)

sign-steady : (ts : List Token) (r : Read Signed) → read_sign ts ≡ done r → live r.rest ≤ live ts
sign-steady ts r e = steady sign_read (λ s l w. counts w) ts r e
  where
    counts : {s : Signed} {l : List Token} → SignOf s l → Counted l
    counts no_sign = nil
    counts (a_sign m p) = cons (sign-counts m) nil

module _ (names : List Name) where
  -- ---- factors: each turn takes a `*`

  pub factors-turns : (P : Reader Formula) → Reads P (λ f. Writes names (primary f)) → (n k : ℕ) (f : Formula) (ts : List Token) → live ts < n → live ts < k → factors P n f ts ≡ factors P k f ts
  unfolding factors uncounted
  factors-turns P rp zero k f ts h j = absurd (omega arith)
  factors-turns P rp (suc n) zero f ts h j = absurd (omega arith)
  factors-turns P rp (suc n) (suc k) f ts h j =
      same-look _ _ ts λ t us e. same-either (is_mark times_sign t) _ _ _ ts λ _.
      same_then (expect times_sign ts) _ _ λ x ex.
      same_then (P x.rest) _ _ λ y ey.
      let a = expect-takes _ refl ts x ex in
      let b = (leaves rp (λ f l w. phrase-counts w) x.rest y ey).2 in
      factors-turns P rp n k (times f y.what x.what) y.rest (omega arith) (omega arith)

  -- ---- summands: each turn takes a `+` or `-`

  pub summands-turns : (T : Reader Formula) → Reads T (λ f. Writes names (term f)) → (n k : ℕ) (f : Formula) (ts : List Token) → live ts < n → live ts < k → summands T n f ts ≡ summands T k f ts
  unfolding summands
  summands-turns T rt zero k f ts h j = absurd (omega arith)
  summands-turns T rt (suc n) zero f ts h j = absurd (omega arith)
  summands-turns T rt (suc n) (suc k) f ts h j =
      same_taken is_sum _ _ _ ts λ t us e s. same_then (T us) _ _ λ y ey.
      let a = ap live e ∙ sign-takes t us s in
      let b = (leaves rt (λ f l w. phrase-counts w) us y ey).2 in
      summands-turns T rt n k (plus f (negated (is_mark minus_sign t) y.what) t.place) y.rest (omega arith) (omega arith)

  -- ---- linear terms: each turn takes the `*` behind a factor

  pub term-turns : (S : ℕ → Reader Term) (sigmas : Bool) (d n k : ℕ) (ts : List Token) → live ts < n → live ts < k → linear_term names S sigmas d n ts ≡ linear_term names S sigmas d k ts
  unfolding linear_term uncounted
  term-turns S sigmas d zero k ts h j = absurd (omega arith)
  term-turns S sigmas d (suc n) zero ts h j = absurd (omega arith)
  term-turns S sigmas d (suc n) (suc k) ts h j = same_next _ _ ts λ t us e. go (head_by names sigmas t.kind) t us e (λ us x y. term-turns S sigmas d n k us x y)
    where
      go : (h : Head) (t : Token) (us : List Token) → ts ≡ t ∷ us → ((us : List Token) → live us < n → live us < k → linear_term names S sigmas d n us ≡ linear_term names S sigmas d k us)
          → on_head names S d (linear_term names S sigmas d n) t.place t.kind h us ≡ on_head names S d (linear_term names S sigmas d k) t.place t.kind h us
      go Linear.a_sigma t us e ih = refl
      go (Linear.a_variable i c) t us e ih = refl
      go Linear.a_primary t us e ih =
          same_then (primary_by names d (inside_at names d) t.place t.kind us) _ _ λ x ex. same_then (expect times_sign x.rest) _ _ λ y ey.
          let w = (primary-by names _ (inside-read names d) d t.place t.kind).reads us x ex in
          let a : live ts ≡ suc (length w.phrase) + live x.rest = ap live (e ∙ ap (λ l. t ∷ l) w.taken) ∙ (phrase-counts w.writes).passed x.rest in
          let b = expect-takes _ refl x.rest y ey in
          ap (λ o. follow o (λ r. give (factor x.what y.what r))) (ih y.rest (omega arith) (omega arith))

  pub terms-turns : (T : Reader Term) (sigmas : Bool) → Reads T (λ t. Writes names (form_term sigmas t)) → (n k : ℕ) (ts : List Token) → live ts < n → live ts < k → linear_terms T n ts ≡ linear_terms T k ts
  unfolding linear_terms
  terms-turns T sigmas rt zero k ts h j = absurd (omega arith)
  terms-turns T sigmas rt (suc n) zero ts h j = absurd (omega arith)
  terms-turns T sigmas rt (suc n) (suc k) ts h j =
      same_taken is_sum _ _ _ ts λ t us e s. same_then (T us) _ _ λ y ey.
      let a = ap live e ∙ sign-takes t us s in
      let b = (leaves rt (λ t l w. phrase-counts w) us y ey).2 in
      ap (λ o. follow o (λ f. give (also (is_mark minus_sign t) y.what f))) (terms-turns T sigmas rt n k y.rest (omega arith) (omega arith))

-- ---- entries of a list: each turn takes a name and the `,` behind its entry

module _ (word : ℕ) (E : List Name → Reader Sort) (re : (names : List Name) → Reads (E names) (λ s. Writes names (sort word s))) where
  pub entries-turns : (n k : ℕ) (names : List Name) (ts : List Token) → live ts < n → live ts < k → entries_from E n names ts ≡ entries_from E k names ts
  unfolding entries_from uncounted
  entries-turns zero k names ts h j = absurd (omega arith)
  entries-turns (suc n) zero names ts h j = absurd (omega arith)
  entries-turns (suc n) (suc k) names ts h j =
      same_then (new_name names ts) _ _ λ x ex. same_then (E names x.rest) _ _ λ s es. same_next _ _ s.rest λ t us e. same-either (is_mark comma t) _ _ _ us λ c.
      let p = (leaves (new-name names) (λ x l w. rw w.0 (cons refl nil)) ts x ex).2 in
      let q = (leaves (re names) (λ s l w. phrase-counts w) x.rest s es).2 in
      let r = ap live e ∙ token-takes comma t.place t us refl (marked _ t c) in
      entries-turns n k (with names x.what.title x.what.place s.what) us (omega arith) (omega arith)

-- ---- in a text the loops are entered with fewer tokens that count than they have turns

-- a text has at most as many as a loop has turns, and its `OPEN` is one of them
pub behind-open : (text : List ℕ) (r : Read ℕ) → expect open_word (tokens text) ≡ done r → live r.rest < token_limit
unfolding uncounted
behind-open text r e = omega (arith, live-tokens text, expect-takes _ refl (tokens text) r e)

-- so each loop of the definition gives what it gives with any greater number of turns
module _ (names : List Name) (ts : List Token) (fits : live ts < token_limit) (n : ℕ) (more : live ts < n) where
  pub any-factors : (P : Reader Formula) → Reads P (λ f. Writes names (primary f)) → term_of P ts ≡ (P >>= factors P n) ts
  unfolding term_of
  any-factors P rp = same_then (P ts) _ _ λ x e. let a = steady rp (λ f l w. phrase-counts w) ts x e in factors-turns names P rp token_limit n x.what x.rest (omega arith) (omega arith)

  pub any-summands : (T : Reader Formula) → Reads T (λ f. Writes names (term f)) → formula_of T ts ≡ (read_sign >>= λ s. T >>= λ f. summands T n (negated s.negative f)) ts
  unfolding formula_of
  any-summands T rt =
      same_then (read_sign ts) _ _ λ s es. same_then (T s.rest) _ _ λ x e.
      let a = sign-steady ts s es in
      let b = steady rt (λ f l w. phrase-counts w) s.rest x e in
      summands-turns names T rt token_limit n (negated s.what.negative x.what) x.rest (omega arith) (omega arith)

  pub any-terms : (T : Reader Term) (sigmas : Bool) → Reads T (λ t. Writes names (form_term sigmas t))
      → linear_of T ts ≡ (read_sign >>= λ s. T >>= λ u. linear_terms T n >>= λ f. give (record { signed = s.written; form = also s.negative u f })) ts
  unfolding linear_of
  any-terms T sigmas rt =
      same_then (read_sign ts) _ _ λ s es. same_then (T s.rest) _ _ λ x e.
      let a = sign-steady ts s es in
      let b = steady rt (λ f l w. phrase-counts w) s.rest x e in
      ap (λ o. follow o (λ f. give (record { signed = s.what.written; form = also s.what.negative x.what f }))) (terms-turns names T sigmas rt token_limit n x.rest (omega arith) (omega arith))

  pub any-factored : (S : ℕ → Reader Term) (sigmas : Bool) (d : ℕ) → linear_term names S sigmas d token_limit ts ≡ linear_term names S sigmas d n ts
  any-factored S sigmas d = term-turns names S sigmas d token_limit n ts fits more

  pub any-entries : (word : ℕ) (E : List Name → Reader Sort) → ((names : List Name) → Reads (E names) (λ s. Writes names (sort word s))) → entries_from E token_limit names ts ≡ entries_from E n names ts
  any-entries word E re = entries-turns word E re token_limit n names ts fits more

-- ---- the loops of the data section

takes : {A : Type 0} {m : Reader A} {W : A → List Token → Type 0} → Reads m W → (ts : List Token) (r : Read A) → m ts ≡ done r → (l : List Token) × W r.what l × (length ts ≡ length l + length r.rest)
takes rm ts r e = let w = rm.reads ts r e in (w.phrase, w.writes, ap length w.taken ∙ length-append w.phrase r.rest)

module _ (names : List Name) where
  -- an order: each turn takes an index name
  pub order-turns : (n k : ℕ) (ts : List Token) → length ts < n → length ts < k → order_from names n ts ≡ order_from names k ts
  unfolding order_from
  order-turns zero k ts h j = absurd (omega arith)
  order-turns (suc n) zero ts h j = absurd (omega arith)
  order-turns (suc n) (suc k) ts h j =
      same_then (read_index names ts) _ _ λ i ei. same_taken (is_mark comma) _ _ _ i.rest λ t us e c.
      let a = takes (index_read names) ts i ei in
      ap (λ o. follow o (λ l. give (i.what.number ∷ l))) (order-turns n k us (omega (arith, a.2, ap length a.1.is, ap length e)) (omega (arith, a.2, ap length a.1.is, ap length e)))

  -- portions: each turn takes a portion's name
  pub portions-turns : (n k : ℕ) (st : Store) (ts : List Token) → length ts < n → length ts < k → portions_of names n st ts ≡ portions_of names k st ts
  unfolding portions_of
  portions-turns zero k st ts h j = absurd (omega arith)
  portions-turns (suc n) zero st ts h j = absurd (omega arith)
  portions-turns (suc n) (suc k) st ts h j =
      same_then (portion_of names st ts) _ _ λ x ex. same-look _ _ x.rest λ t us e. same-either (is_name t) _ _ _ x.rest λ _.
      let a = takes (portion-some names st) ts x ex in
      portions-turns n k x.what x.rest (omega (arith, a.2, a.1)) (omega (arith, a.2, a.1))

-- ---- in a text they are entered with fewer tokens than they have turns

pub tokens-bounded : (text : List ℕ) → length (tokens text) ≤ suc byte_limit
unfolding tokens
tokens-bounded text = go (leb (length text) byte_limit) refl
  where
    go : (b : Bool) → leb (length text) byte_limit ≡ b → length (cond b (counted token_limit (tokens_from 0 0 text)) (record { kind = wrong LongText; place = byte_limit } ∷ [])) ≤ suc byte_limit
    go true e = omega (arith, leb-true (length text) byte_limit e, rw (e, tokens) at (tokens-few text))
    go false e = omega arith

two-tokens : {s : Structure} {l : List Token} → WritesStructure s l → 2 ≤ length l
two-tokens (whole_model p q r t m u v w n) = omega arith

-- behind a structure there are fewer tokens than a text may have bytes: its `OPEN` and its string are taken
pub behind-structure : (text : List ℕ) (r : Read Structure) → structure (tokens text) ≡ done r → (l ts : List Token) → r.rest ≡ l ++ ts → length ts < byte_limit
behind-structure text r e l ts x =
    let w = structure-written text r e in
    omega (arith, tokens-bounded text, ap length w.taken, length-append w.phrase r.rest, two-tokens w.writes, ap length x, length-append l ts)

-- so each of the two gives what it gives with any greater number of turns
module _ (names : List Name) (ts : List Token) (fits : length ts < byte_limit) (n : ℕ) (more : length ts < n) where
  pub any_order : order_from names byte_limit ts ≡ order_from names n ts
  any_order = order-turns names byte_limit n ts fits more

  pub any-portions : (st : Store) → portions_of names byte_limit st ts ≡ portions_of names n st ts
  any-portions st = portions-turns names byte_limit n st ts fits more
