-- A value's line: what is read was printed, and what is printed is read.
use Rattle.std.specs.Prelude.{Option, Some, None}
use mathlib.Core.Path.{◌≡◌, refl, sym, ◌∙◌, ap, subst}
use mathlib.Core.Bool.{Bool, true, false, cond}
use mathlib.Core.List.{List, [], ◌∷◌, ◌++◌, append_assoc}
use Prim.Native.Nat.{ℕ}
use borrow.Author.Tests.{ne_eqb}
use lib.Dec.{eqb}
use lib.IntN.{neg_ℤ-neg_ℤ}
use Rattle.rules.specs.Characters.{code, line_feed}
use Rattle.value.specs.declared.Value.{Value}
use Rattle.value.specs.Decimal.{Valid, negate}
use Rattle.value.specs.Literal.{literal_of}
use Rattle.value.specs.Printed.{printed}
use Rattle.value.proofs.Operations.{negate-valid}
use Rattle.value.proofs.Reading.{literal-valid}
use Rattle.value.proofs.ReadBack.{opposite, read_back, read_back_lem}
use Rattle.lexer.specs.Text.{front, behind, same_bytes}
use Rattle.lexer.proofs.Same.{same-bytes-equal, same-bytes-refl}
use Rattle.language.specs.All.{All}
use Rattle.language.proofs.Outcome.{some-injective}
use Rattle.language.proofs.Figures.{printed-text}
use Rattle.language.proofs.Fields.{NoLineFeed, text-line}
use Rattle.mps.specs.Export.{value_line}
use Rattle.mps.specs.Reading.{Read, Reader, follow, unless, strip, as_read, in_line, print_of, value_of, value_then, read_value, line_value}
use Rattle.mps.proofs.Stripped.{strip-own, strip-is}

-- ---- steps of a reader, for a proof that goes on with what they give

module _ {A B : Type 0} where
  pub after : {C : Type 0} (m : Option (Read A)) (f : A → Reader B) (q : Read B) → follow m f ≡ Some q → ((a : Read A) → m ≡ Some a → f a.what a.rest ≡ Some q → C) → C
  after None f q e k = cc
  after (Some a) f q e k = k a refl e

  pub onward : (m : Option (Read A)) (f : A → Reader B) (a : Read A) (o : Option (Read B)) → m ≡ Some a → f a.what a.rest ≡ o → follow m f ≡ o
  onward m f a o e k = ap (λ n. follow n f) e ∙ k

pub word-taken : (w l : List ℕ) (q : Read (Unit {0})) → as_read (strip w l) ≡ Some q → l ≡ w ++ q.rest
word-taken w l q e = go (strip w l) refl e
  where
    go : (o : Option (List ℕ)) → strip w l ≡ o → as_read o ≡ Some q → l ≡ w ++ q.rest
    go None p e = cc
    go (Some r) p e = strip-is w l r p ∙ ap (λ (a : Read (Unit {0})). w ++ a.rest) (some-injective e)

module _ {B : Type 0} where
  -- a word
  pub after-word : {C : Type 0} (w l : List ℕ) (f : Unit {0} → Reader B) (q : Read B) → follow (as_read (strip w l)) f ≡ Some q → ((r : List ℕ) → l ≡ w ++ r → f tt r ≡ Some q → C) → C
  after-word w l f q e k = after (as_read (strip w l)) f q e λ a p e. k a.rest (word-taken w l a p) e

  pub past_word : (w r : List ℕ) (f : Unit {0} → Reader B) (o : Option (Read B)) → f tt r ≡ o → follow (as_read (strip w (w ++ r))) f ≡ o
  past_word w r f o k = ap (λ n. follow (as_read n) f) (strip-own w r) ∙ k

  pub after-unless : {C : Type 0} (t : Bool) (m : Reader B) (l : List ℕ) (q : Read B) → unless t m l ≡ Some q → (t ≡ false → m l ≡ Some q → C) → C
  after-unless true m l q e k = cc
  after-unless false m l q e k = k refl e

-- ---- a value

opposite-valid : (f : Option Value) (v : Value) → ((w : Value) → f ≡ Some w → Valid w) → opposite f ≡ Some v → Valid v
unfolding opposite
opposite-valid (Some w) v h e = let q : negate w ≡ v = cc in subst Valid q (negate-valid w (h w refl))
opposite-valid None v h e = cc

read-valid : (f : List ℕ) (v : Value) → read_back f ≡ Some v → Valid v
unfolding read_back
read-valid [] v e = literal-valid [] v e
read-valid (b ∷ t) v e = go (eqb b (code "-")) e
  where
    go : (u : Bool) → cond u (opposite (literal_of t)) (literal_of (b ∷ t)) ≡ Some v → Valid v
    go true e = opposite-valid (literal_of t) v (literal-valid t) e
    go false e = literal-valid (b ∷ t) v e

record Prints (f : List ℕ) (v : Value) : Type 0 where
  valid : Valid v
  same : printed v ≡ f

value-of : (f : List ℕ) (v : Value) → value_of f ≡ Some v → Prints f v
unfolding value_of print_of
value-of f v e = go (read_back f) refl e
  where
    tested : (w : Value) → read_back f ≡ Some w → (t : Bool) → same_bytes (printed w) f ≡ t → cond t (Some w) None ≡ Some v → Prints f v
    tested w p true s e = subst (Prints f) (some-injective e) (record { valid = read-valid f w p; same = same-bytes-equal (printed w) f s })
    tested w p false s e = cc

    go : (o : Option Value) → read_back f ≡ o → print_of f o ≡ Some v → Prints f v
    go (Some w) p e = tested w p (same_bytes (printed w) f) refl e
    go None p e = cc

of-value : (v : Value) → Valid v → value_of (printed v) ≡ Some v
unfolding value_of print_of
of-value v h = rw (read_back_lem v h, same-bytes-refl (printed v))

-- ---- up to the line feed

front-behind : (c : ℕ → Bool) (l : List ℕ) → front c l ++ behind c l ≡ l
unfolding front behind
front-behind c [] = refl
front-behind c (b ∷ t) = go (c b) (front-behind c t)
  where
    go : (u : Bool) → front c t ++ behind c t ≡ t
        → elim u as (λ _. List ℕ) [ true ↦ b ∷ front c t | false ↦ [] ] ++ elim u as (λ _. List ℕ) [ true ↦ behind c t | false ↦ b ∷ t ] ≡ b ∷ t
    go true h = ap (λ s. b ∷ s) h
    go false h = refl

module _ (r : List ℕ) where
  front-line : (f : List ℕ) → All NoLineFeed f → front in_line (f ++ (line_feed ∷ r)) ≡ f
  unfolding front in_line
  front-line [] h = refl
  front-line (b ∷ f) h = rw (ne_eqb b line_feed h.0, front) (ap (λ g. b ∷ g) (front-line f h.1))

  behind-line : (f : List ℕ) → All NoLineFeed f → behind in_line (f ++ (line_feed ∷ r)) ≡ line_feed ∷ r
  unfolding behind in_line
  behind-line [] h = refl
  behind-line (b ∷ f) h = rw (ne_eqb b line_feed h.0, behind) (behind-line f h.1)

-- ---- what is read

-- the text l begins with the print of what was read, which is fine
pub record Taken {A : Type 0} (print : A → List ℕ) (Fine : A → Type 0) (l : List ℕ) (q : Read A) : Type 0 where
  pub text : l ≡ print q.what ++ q.rest
  pub fine : Fine q.what

abbrev pub value_text : Value → List ℕ
value_text v = printed v ++ (line_feed ∷ [])

pub value_taken : (l : List ℕ) (q : Read Value) → read_value l ≡ Some q → Taken value_text Valid l q
unfolding read_value
value_taken l q e = go (value_of (front in_line l)) refl e
  where
    go : (o : Option Value) → value_of (front in_line l) ≡ o → value_then o (behind in_line l) ≡ Some q → Taken value_text Valid l q
    go None p e = cc
    go (Some v) p e =
        let w = value-of (front in_line l) v p in
        after-word (line_feed ∷ []) (behind in_line l) _ q e λ r b e.
        subst (Taken value_text Valid l) (some-injective e)
        (record { text = sym (front-behind in_line l) ∙ ap (λ f. f ++ behind in_line l) (sym w.same) ∙ ap (λ f. printed v ++ f) b ∙ sym (append_assoc (printed v) (line_feed ∷ []) r); fine = w.valid })

-- behind the start of its line
pub head-taken : (h l r : List ℕ) (q : Read Value) → l ≡ h ++ r → read_value r ≡ Some q → Taken (value_line h) Valid l q
unfolding value_line
head-taken h l r q a e =
    let t = value_taken r q e in
    record { text = a ∙ ap (λ f. h ++ f) t.text ∙ sym (append_assoc h (value_text q.what) q.rest); fine = t.fine }

pub line_taken : (h l : List ℕ) (q : Read Value) → line_value h l ≡ Some q → Taken (value_line h) Valid l q
unfolding line_value
line_taken h l q e = after-word h l _ q e λ r a e. head-taken h l r q a e

-- ---- what is printed

pub value_read : (v : Value) (r : List ℕ) → Valid v → read_value (value_text v ++ r) ≡ Some (record { what = v; rest = r })
unfolding read_value
value_read v r h =
    let s = text-line (printed v) (printed-text v) in
    rw (append_assoc (printed v), front-line r (printed v) s, behind-line r (printed v) s, of-value v h)
    (past_word (line_feed ∷ []) r _ _ refl)

-- the start of a value's line, and what follows it
pub line_first : (h : List ℕ) (v : Value) (r : List ℕ) → value_line h v ++ r ≡ h ++ (value_text v ++ r)
unfolding value_line
line_first h v r = append_assoc h (value_text v) r

pub line_read : (h : List ℕ) (v : Value) (r : List ℕ) → Valid v → line_value h (value_line h v ++ r) ≡ Some (record { what = v; rest = r })
unfolding line_value
line_read h v r k = rw line_first (past_word h (value_text v ++ r) _ _ (value_read v r k))

-- ---- the opposite

pub negate-twice : (v : Value) → negate (negate v) ≡ v
unfolding negate
negate-twice v = ap {B = Value} (λ z. record { m = z; s = v.s }) (neg_ℤ-neg_ℤ v.m)
