-- Sequences of readers and of walks, and the tokens that both pass: where a reader tests a token, the walk passes over it.
use Rattle.std.specs.Prelude.{Option, Some, None}
use mathlib.Core.Path.{◌≡◌, refl, sym, ◌∙◌, ap}
use mathlib.Core.Bool.{Bool, true, false}
use mathlib.Core.List.{List, [], ◌∷◌}
use Prim.Native.Nat.{ℕ, zero, suc}
use Rattle.rules.specs.declared.Refusal.{Refusal}
use Rattle.rules.specs.declared.Refusal.TheVariants.{Misplaced}
use Rattle.lexer.specs.Marks.{comma, opens}
use Rattle.lexer.specs.Text.{Token, Kind, same_bytes}
use Rattle.lexer.specs.Text
use Rattle.language.specs.Outcome.{Outcome, done, refused, ◌>>=◌}
use Rattle.language.proofs.Outcome.{done-injective, some-injective}
use Rattle.language.specs.Syntax.{Name}
use Rattle.language.specs.Reader.{Reader, Read, follow, as_read, refuse, passed, next, look, is_mark, name_of, demand, require, expect, bracket, Used, find, found, known, read_known, is_index, read_index}
use Rattle.language.specs.Formulas.{head_of}
use Rattle.language.specs.Model.{what_of}
use Rattle.onepass.specs.Walk.{skip, used_number, name_number, walk_head}
use Rattle.onepass.specs.Entries.{read}

-- ---- sequences

module _ {A B : Type 0} where
  -- what a sequence that reads something is made of
  pub after_read : {C : Type 0} (o : Outcome (Read A)) (f : A → Reader B) (x : Read B) → follow o f ≡ done x → ((a : A) (l : List Token) → o ≡ read a l → f a l ≡ done x → C) → C
  after_read (done r) f x e k = k r.what r.rest refl e
  after_read (refused n p) f x e k = cc

  -- a step that is known
  pub on : (o : Outcome (Read A)) (f : A → Reader B) (a : A) (l : List Token) (z : Outcome (Read B)) → o ≡ read a l → f a l ≡ z → follow o f ≡ z
  on o f a l z e h = ap (λ x. follow x f) e ∙ h

  -- an evaluation, and what follows it
  pub via : (q : Outcome (Read A)) (o : Outcome A) (l m : List Token) (k : A → Reader B) (j : A → Outcome B) → q ≡ as_read o l → ((v : A) → k v l ≡ as_read (j v) m) → follow q k ≡ as_read (o >>= j) m
  via q (done v) l m k j e f = ap (λ x. follow x k) e ∙ f v
  via q (refused n p) l m k j e f = ap (λ x. follow x k) e

  -- what is read last
  pub ends : (h : A → Outcome B) {x t : A} {l rest : List Token} → read x l ≡ read t rest → as_read (h x) l ≡ as_read (h t) rest
  ends h e = ap (λ (r : Read A). as_read (h r.what) r.rest) (done-injective e)

module _ {A B C : Type 0} where
  -- an evaluation joined to the one before it
  pub onward : (q : Outcome (Read A)) (o : Outcome A) (j : A → Outcome B) (l m : List Token) (k : A → Reader C) (w : B → Reader C) → q ≡ as_read o l
      → ((v : A) → k v l ≡ follow (as_read (j v) m) w) → follow q k ≡ follow (as_read (o >>= j) m) w
  onward q (done v) j l m k w e f = ap (λ x. follow x k) e ∙ f v
  onward q (refused n p) j l m k w e f = ap (λ x. follow x k) e

  -- an evaluation of which something is made, and what follows it
  pub via-made : (q : Outcome (Read B)) (o : Outcome A) (b : A → B) (l m : List Token) (k : B → Reader C) (j : A → Outcome C) → q ≡ as_read (o >>= λ a. done (b a)) l
      → ((v : A) → k (b v) l ≡ as_read (j v) m) → follow q k ≡ as_read (o >>= j) m
  via-made q (done v) b l m k j e f = ap (λ x. follow x k) e ∙ f v
  via-made q (refused n p) b l m k j e f = ap (λ x. follow x k) e

module _ {A : Type 0} where
  pub same-what : {a b : A} {l m : List Token} → read a l ≡ read b m → a ≡ b
  same-what e = ap (λ (r : Read A). r.what) (done-injective e)

  pub same_rest : {a b : A} {l m : List Token} → read a l ≡ read b m → l ≡ m
  same_rest e = ap (λ (r : Read A). r.rest) (done-injective e)

  pub done-last : (o : Outcome A) → (o >>= λ a. done a) ≡ o
  done-last (done a) = refl
  done-last (refused n p) = refl

  -- what was made into a reading, alone again
  pub what-as : (o : Outcome A) (l : List Token) → what_of (as_read o l) ≡ o
  what-as (done a) l = refl
  what-as (refused n p) l = refl

  -- an evaluation with nothing behind it
  pub stays : (q : Outcome (Read A)) (o : Outcome A) (l m : List Token) (k : A → Reader A) → q ≡ as_read o l → ((v : A) → k v l ≡ read v m) → follow q k ≡ as_read o m
  stays q (done v) l m k e f = ap (λ x. follow x k) e ∙ f v
  stays q (refused n p) l m k e f = ap (λ x. follow x k) e

-- a walk and a reader of the same tokens: where x is read, the walk gives what h makes of x, and the same rest
pub record Walks {X A : Type 0} (R : Reader X) (h : X → Outcome A) (W : Reader A) : Type 0 where
  pub walks : (ts : List Token) (x : X) (rest : List Token) → R ts ≡ read x rest → W ts ≡ as_read (h x) rest

pub nothing : {X A : Type 0} {h : X → Outcome A} {W : Reader A} (n : Refusal) (p : ℕ) → Walks (refuse n p) h W
nothing n p = record { walks = λ ts x rest e. cc }

-- ---- one token

passed_is : (k : Kind) (t : Token) (ts : List Token) (x : Read Token) → passed k t ts ≡ done x → read t ts ≡ done x
unfolding passed
passed_is (Text.mark c) t ts x e = e
passed_is (Text.name l) t ts x e = e
passed_is (Text.literal w v) t ts x e = e
passed_is (Text.string l) t ts x e = e
passed_is Text.end t ts x e = e
passed_is (Text.wrong r) t ts x e = cc

-- the token that stands first
pub next-is : (ts : List Token) (t : Token) (m : List Token) → next ts ≡ read t m → ts ≡ t ∷ m
unfolding next
next-is [] t m e = cc
next-is (u ∷ us) t m e = ap (λ (r : Read Token). r.what ∷ r.rest) (done-injective (passed_is u.kind u us _ e))

-- a token looked at stays
pub look_is : (ts : List Token) (t : Token) (l : List Token) → look ts ≡ read t l → (m : List Token) × (ts ≡ t ∷ m) × (l ≡ t ∷ m)
unfolding look
look_is [] t l e = cc
look_is (u ∷ us) t l e =
    let h : read u (u ∷ us) ≡ read t l = passed_is u.kind u (u ∷ us) _ e in
    (us, ap (λ x. x ∷ us) (same-what h), sym (same_rest h) ∙ ap (λ x. x ∷ us) (same-what h))

pub look-stays : (ts : List Token) (t : Token) (l : List Token) → look ts ≡ read t l → ts ≡ l
look-stays ts t l e = let (m, a, b) = look_is ts t l e in a ∙ sym b

-- the one looked at is the next
pub looked : (ts : List Token) (t : Token) (l : List Token) (u : Token) (m : List Token) → look ts ≡ read t l → next l ≡ read u m → u ≡ t
looked ts t l u m e h =
    let (k, a, b) = look_is ts t l e in
    let c : u ∷ m ≡ t ∷ k = sym (next-is l u m h) ∙ b in
    cc

-- what was read is passed over
pub skip-next : (ts : List Token) (t : Token) (m : List Token) → next ts ≡ read t m → skip ts ≡ read tt m
unfolding skip
skip-next ts t m e = rw (next-is ts t m e) refl

-- a sign that was expected and stood there
pub record Sign (c : ℕ) (ts : List Token) (p : ℕ) (rest : List Token) : Type 0 where
  pub token : Token
  pub stands : next ts ≡ read token rest
  pub marked : is_mark c token ≡ true
  pub at : token.place ≡ p

required : {A : Type 0} (b : Bool) (n : Refusal) (p : ℕ) (f : Unit {0} → Reader A) (ts : List Token) (x : Read A) → follow (require b n p ts) f ≡ done x → (b ≡ true) × (f tt ts ≡ done x)
unfolding require
required true n p f ts x e = (refl, e)
required false n p f ts x e = cc

pub expect-is : (c : ℕ) (ts : List Token) (p : ℕ) (rest : List Token) → expect c ts ≡ read p rest → Sign c ts p rest
unfolding expect
expect-is c ts p rest e =
    after_read (next ts) _ _ e λ t m tm e.
    let h = required (is_mark c t) Misplaced t.place _ m _ e in
    record { token = t; stands = tm ∙ ap (read t) (same_rest h.1); marked = h.0; at = same-what h.1 }

pub skip-expect : (c : ℕ) (ts : List Token) (p : ℕ) (rest : List Token) → expect c ts ≡ read p rest → skip ts ≡ read tt rest
skip-expect c ts p rest e = let s = expect-is c ts p rest e in skip-next ts s.token rest s.stands

-- the place of a sign that was looked at before
pub expect-place : (c : ℕ) (ts : List Token) (t : Token) (l : List Token) (p : ℕ) (m : List Token) → look ts ≡ read t l → expect c l ≡ read p m → p ≡ t.place
expect-place c ts t l p m e h = let s = expect-is c l p m h in sym s.at ∙ ap (λ (u : Token). u.place) (looked ts t l s.token m e s.stands)

pub bracket-is : (c n : ℕ) (ts : List Token) (p : ℕ) (rest : List Token) → bracket c n ts ≡ read p rest → expect c ts ≡ read p rest
unfolding bracket
bracket-is c zero ts p rest e = after_read (expect c ts) _ _ e λ q l ql e. cc
bracket-is c (suc n) ts p rest e = e

-- ---- names

-- a name's number does not depend on where it is used
found_at : (l : List ℕ) (names : List Name) (i p : ℕ) (u : Used) → find l names i p ≡ Some u → (used_number (find l names i 0) ≡ u.number) × (p ≡ u.place)
unfolding find
found_at l [] i p u e = cc
found_at l (x ∷ xs) i p u e = go (same_bytes l x.spelling) refl (found_at l xs (suc i) p u)
  where
    go : (b : Bool) → same_bytes l x.spelling ≡ b → (find l xs (suc i) p ≡ Some u → (used_number (find l xs (suc i) 0) ≡ u.number) × (p ≡ u.place))
        → (used_number (find l (x ∷ xs) i 0) ≡ u.number) × (p ≡ u.place)
    go true d ih =
        let h = some-injective (rw (d, find) at e) in
        (rw (d, find) (ap (λ (u : Used). u.number) h), ap (λ (u : Used). u.place) h)
    go false d ih = let h = ih (rw (d, find) at e) in (rw (d, find) h.0, h.1)

-- a declared name that was read
pub record Named (names : List Name) (ts : List Token) (u : Used) (rest : List Token) : Type 0 where
  pub token : Token
  pub stands : next ts ≡ read token rest
  pub letters : List ℕ
  pub spells : token.kind ≡ Text.name letters
  pub number : name_number names token.kind ≡ u.number
  pub at : token.place ≡ u.place

module _ (names : List Name) where
  pub known_is : (l : List ℕ) (p : ℕ) (ts : List Token) (u : Used) (rest : List Token) → known names l p ts ≡ read u rest → (find l names 0 p ≡ Some u) × (ts ≡ rest)
  unfolding known found
  known_is l p ts u rest e = go (find l names 0 p) e
    where
      go : (o : Option Used) → found o p ts ≡ read u rest → (o ≡ Some u) × (ts ≡ rest)
      go None e = cc
      go (Some v) e = (ap Some (same-what e), same_rest e)

  pub read_known-is : (ts : List Token) (u : Used) (rest : List Token) → read_known names ts ≡ read u rest → Named names ts u rest
  unfolding read_known demand name_of name_number
  read_known-is ts u rest e = after_read (next ts) _ _ e λ t m tm e. go t m tm t.kind refl e
    where
      go : (t : Token) (m : List Token) → next ts ≡ read t m → (k : Kind) → t.kind ≡ k → follow (demand (name_of k) t.place m) (λ l. known names l t.place) ≡ read u rest → Named names ts u rest
      go t m tm (Text.mark c) d e = cc
      go t m tm (Text.name l) d e =
          let h = known_is l t.place m u rest e in
          let i = found_at l names 0 t.place u h.0 in
          record { token = t; stands = tm ∙ ap (read t) h.1; letters = l; spells = d; number = ap (name_number names) d ∙ i.0; at = i.1 }
      go t m tm (Text.literal w v) d e = cc
      go t m tm (Text.string l) d e = cc
      go t m tm Text.end d e = cc
      go t m tm (Text.wrong r) d e = cc

  -- a name of which something is required
  pub required-is : (test : Used → Bool) (n : Refusal) (ts : List Token) (u : Used) (rest : List Token)
      → follow (read_known names ts) (λ v m. follow (require (test v) n v.place m) (λ _. read v)) ≡ read u rest → Named names ts u rest
  required-is test n ts u rest e =
      after_read (read_known names ts) _ _ e λ v m vm e.
      let h = required (test v) n v.place _ m _ e in
      read_known-is ts u rest (vm ∙ h.1)

  pub read_index-is : (ts : List Token) (u : Used) (rest : List Token) → read_index names ts ≡ read u rest → Named names ts u rest
  unfolding read_index
  read_index-is = required-is (λ u. is_index u.sort) Misplaced

  -- `(`, an index and a comma
  pub head_walks : (n : ℕ) (ts : List Token) (u : Used) (rest : List Token) → head_of names n ts ≡ read u rest → walk_head names ts ≡ read u.number rest
  unfolding head_of walk_head
  head_walks n ts u rest e =
      after_read (bracket opens n ts) _ _ e λ b l bl e.
      after_read (read_index names l) _ _ e λ v l₁ vl e.
      after_read (expect comma l₁) _ _ e λ p l₂ pl e.
      let x = read_index-is l v l₁ vl in
      on (skip ts) _ tt l _ (skip-expect opens ts b l (bracket-is opens n ts b l bl))
      (on (next l) _ x.token l₁ _ x.stands
      (on (skip l₁) _ tt l₂ _ (skip-expect comma l₁ p l₂ pl)
      (ap (λ i. read i l₂) x.number ∙ ap (λ (r : Read Used). read r.what.number r.rest) (done-injective e))))
