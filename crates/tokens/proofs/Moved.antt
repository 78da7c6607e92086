-- Laws of moves: a reader and the next one, and the readers of one token.
use Rattle.std.specs.Prelude.{Err, None, Ok, Option, Result, Some}
use Rattle.rules.specs.declared.Refused.{Refused}
use mathlib.Core.Path.{◌≡◌, refl, sym, ◌∙◌, subst, ap}
use mathlib.Core.Bool.{Bool, true, false, cond, ◌||◌}
use mathlib.Core.List.{List, ◌∷◌, append_assoc, [], ◌++◌}
use Prim.Native.Nat.{ℕ, zero, suc, ◌<◌}
use native.Mathlib.Omega.{arith}
use lib.Dec.{eqb}
use borrow.Author.Tests.{eq-eqb, ne_eqb, eqb-true, eqb-false}
use Rattle.rules.specs.declared.Refusal.{Refusal}
use Rattle.rules.specs.declared.Refusal.TheVariants.{Misplaced, BadName, Full}
use Rattle.lexer.specs.Text.{Token}
use Rattle.lexer.specs.Text
use Rattle.lexer.specs.Marks.{opens, comma, minus_sign}
use Rattle.language.specs.Outcome.{Outcome, done, refused}
use Rattle.language.proofs.Outcome.{done-injective, refused-done}
use Rattle.language.specs.Syntax.{Name, Sort}
use Rattle.language.specs.Reader.{Used, Reader, Read, follow, ◌>>=◌, give, next, look, is_mark, name_of, demand, require, expect, bracket, found, known, read_known, read_index, is_index}
use Rattle.language.specs.Formulas.{is_sum, Signed, read_sign, head_of}
use Rattle.tokens.specs.declared.Seen.{Seen}
use Rattle.tokens.specs.declared.Found.{Found}
use Rattle.tokens.specs.declared.Known.{Known}
use Rattle.tokens.specs.Stored.{spelling, name_bytes, kind_of, token, from, mark_number, Unread, Sees, Looks, look_up, Named, Matches, Moves, known_found, known_by, KnownAt, Knowing, Knows, Shaped, Gives, Stands}
use Rattle.tokens.specs.Pieces.{expect_in, bracket_in, index_in, head_in, sign_in}
use Rattle.tokens.proofs.Tables.{mark-of, mark-same, no_name_lem, passes, Declared, declared, not-declared, index-sort, other-sort}

-- ---- one reader after the other

module _ {A B : Type 0} (m : List Name → Reader A) (f : List Name → A → Reader B) (s ns ts : List ℕ) (at : ℕ) where
  pub then-refused : (e : Refused) → Moves m s ns ts at (Err e) → Moves (λ names. m names >>= f names) s ns ts at (Err e)
  then-refused z h = record { matches = λ names d. go names (m names (from s ts at)) (h.matches names d) }
    where
      go : (names : List Name) (o : Outcome (Read A)) → Matches o s ts (Err z) → Matches (follow o (f names)) s ts (Err z)
      go names (done x) h = absurd h
      go names (refused r q) h = h

  pub then_at : (a : ℕ) (r : Result ℕ Refused) → Moves m s ns ts at (Ok a) → ((w : A) → Moves (λ names. f names w) s ns ts a r) → Moves (λ names. m names >>= f names) s ns ts at r
  then_at a r h k = record { matches = λ names d. go names d (m names (from s ts at)) (h.matches names d) }
    where
      go : (names : List Name) → Named s ns names → (o : Outcome (Read A)) → Matches o s ts (Ok a) → Matches (follow o (f names)) s ts r
      go names d (done x) h = subst (λ l. Matches (f names x.what l) s ts r) (sym h) ((k x.what).matches names d)
      go names d (refused n p) h = absurd h

-- the same with the first reader's answer r, as code has it
module _ {A B : Type 0} (m : List Name → Reader A) (f : List Name → A → Reader B) (s ns ts : List ℕ) (at : ℕ) (r : Result ℕ Refused) (h : Moves m s ns ts at r) where
  pub stops : (e : Refused) → r ≡ Err e → Moves (λ names. m names >>= f names) s ns ts at r
  stops z e = subst (Moves (λ names. m names >>= f names) s ns ts at) (sym e) (then-refused m f s ns ts at z (subst (Moves m s ns ts at) e h))

  pub goes : (a : ℕ) (q : Result ℕ Refused) → r ≡ Ok a → ((w : A) → Moves (λ names. f names w) s ns ts a q) → Moves (λ names. m names >>= f names) s ns ts at q
  goes a q e k = then_at m f s ns ts at a q (subst (Moves m s ns ts at) e h) k

-- a reader, and something made of what it read
pub given : {A B : Type 0} (m : List Name → Reader A) (f : List Name → A → B) (s ns ts : List ℕ) (at : ℕ) (r : Result ℕ Refused) → Moves m s ns ts at r
    → Moves (λ names. m names >>= (λ w. give (f names w))) s ns ts at r
given m f s ns ts at (Ok a) h = then_at m (λ names w. give (f names w)) s ns ts at a (Ok a) h (λ w. record { matches = λ names d. refl })
given m f s ns ts at (Err e) h = then-refused m (λ names w. give (f names w)) s ns ts at e h

-- ---- what was read

-- where code stands at a, the reader gave something and left what stands there
pub record Stood {A : Type 0} (m : Reader A) (s ts : List ℕ) (at a : ℕ) : Type 0 where
  pub what : A
  pub reads : m (from s ts at) ≡ done (record { what = what; rest = from s ts a })

module _ {A : Type 0} (m : List Name → Reader A) (s ns ts : List ℕ) (at : ℕ) (r : Result ℕ Refused) (h : Moves m s ns ts at r) (names : List Name) (d : Named s ns names) where
  pub stood : (a : ℕ) → r ≡ Ok a → Stood (m names) s ts at a
  stood a e = go (m names (from s ts at)) refl (subst (Matches (m names (from s ts at)) s ts) e (h.matches names d))
    where
      go : (o : Outcome (Read A)) → m names (from s ts at) ≡ o → Matches o s ts (Ok a) → Stood (m names) s ts at a
      go (done x) i k = record { what = x.what; reads = i ∙ ap (λ l. done (record { what = x.what; rest = l })) k }
      go (refused n p) i k = absurd k

  pub stuck : (e : Refused) → r ≡ Err e → m names (from s ts at) ≡ refused e.refusal e.place
  stuck z e = go (m names (from s ts at)) refl (subst (Matches (m names (from s ts at)) s ts) e (h.matches names d))
    where
      go : (o : Outcome (Read A)) → m names (from s ts at) ≡ o → Matches o s ts (Err z) → m names (from s ts at) ≡ refused z.refusal z.place
      go (done x) i k = absurd k
      go (refused l q) i k = i ∙ ap (λ l. refused l q) k.0 ∙ ap (refused z.refusal) k.1

-- a reader that gives w, of which Q holds, and leaves what stands at a
pub record Got {A : Type 0} (m : Reader A) (Q : A → Type 0) (s ts : List ℕ) (at a : ℕ) : Type 0 where
  pub what : A
  pub reads : m (from s ts at) ≡ done (record { what = what; rest = from s ts a })
  pub holds : Q what

module _ {A : Type 0} (m : List Name → Reader A) (Q : List Name → A → Type 0) (s ns ts : List ℕ) (at : ℕ) where
  pub gives_at : (a : ℕ) → ((names : List Name) → Named s ns names → Got (m names) (Q names) s ts at a) → Gives m Q s ns ts at (Ok a)
  gives_at a g =
      record {
        moves = record { matches = λ names d. subst (λ o. Matches o s ts (Ok a)) (sym (g names d).reads) refl };
        tells = λ names d x e. subst (λ y. Q names y.what) (done-injective (sym (g names d).reads ∙ e)) (g names d).holds;
      }

  pub gives-refused : (e : Refused) → ((names : List Name) → Named s ns names → m names (from s ts at) ≡ refused e.refusal e.place) → Gives m Q s ns ts at (Err e)
  gives-refused z g =
      record {
        moves = record { matches = λ names d. subst (λ o. Matches o s ts (Err z)) (sym (g names d)) (refl, refl) };
        tells = λ names d x e. absurd (refused-done (sym (g names d) ∙ e));
      }

  -- where the reader stood at a, what code tells of it holds
  pub got : (a : ℕ) → Gives m Q s ns ts at (Ok a) → (names : List Name) → Named s ns names → Got (m names) (Q names) s ts at a
  got a g names d =
      let x = stood m s ns ts at (Ok a) g.moves names d a refl in
      record { what = x.what; reads = x.reads; holds = g.tells names d _ x.reads }

  -- a reader that refuses
  pub gives-not : (e : Refused) (r : Result ℕ Refused) → r ≡ Err e → Moves m s ns ts at r → Gives m Q s ns ts at r
  gives-not z r e h = subst (Gives m Q s ns ts at) (sym e) (gives-refused z (λ names d. stuck m s ns ts at r h names d z e))

  -- a reader that reads there as another one does elsewhere
  pub gives_same : (m' : List Name → Reader A) (at' : ℕ) (r : Result ℕ Refused) → ((names : List Name) → Named s ns names → m names (from s ts at) ≡ m' names (from s ts at')) → Gives m' Q s ns ts at' r
      → Gives m Q s ns ts at r
  gives_same m' at' r e g =
      record {
        moves = record { matches = λ names d. subst (λ o. Matches o s ts r) (sym (e names d)) (g.moves.matches names d) };
        tells = λ names d x i. g.tells names d x (sym (e names d) ∙ i);
      }

-- what was read stands there
pub gives-stands : {A : Type 0} (m : List Name → Reader A) (s ns ts : List ℕ) (at : ℕ) (r : Result ℕ Refused) → Moves m s ns ts at r → Gives m (λ names w. Stands (m names) s ts at w) s ns ts at r
gives-stands m s ns ts at r h = record { moves = h; tells = λ names d x e. record { rest = x.rest; reads = e } }

-- something made of what was read
pub gives-map : {A B : Type 0} (m : List Name → Reader A) (P : List Name → A → Type 0) (f : List Name → A → B) (Q : List Name → B → Type 0) (s ns ts : List ℕ) (at : ℕ) (r : Result ℕ Refused)
    → Gives m P s ns ts at r → ((names : List Name) (w : A) → P names w → Q names (f names w)) → Gives (λ names. m names >>= (λ w. give (f names w))) Q s ns ts at r
gives-map {A = A} {B = B} m P f Q s ns ts at r h q =
    record { moves = given m f s ns ts at r h.moves; tells = λ names d x e. go names x (m names (from s ts at)) (h.tells names d) e }
  where
    go : (names : List Name) (x : Read B) (o : Outcome (Read A)) → ((y : Read A) → o ≡ done y → P names y.what) → follow o (λ w. give (f names w)) ≡ done x → Q names x.what
    go names x (done y) p e = subst (λ z. Q names z.what) (done-injective e) (q names y.what (p y refl))
    go names x (refused n i) p e = absurd (refused-done e)

-- ---- readers one after the other, as equations

module _ {A B : Type 0} where
  pub follow-same : (o : Outcome (Read A)) (f g : A → Reader B) → ((a : A) (l : List Token) → f a l ≡ g a l) → follow o f ≡ follow o g
  follow-same (done x) f g h = h x.what x.rest
  follow-same (refused n p) f g h = refl

  -- a sequence that gave something did so at each step
  pub followed : {C : Type 0} (o : Outcome (Read A)) (f : A → Reader B) (y : Read B) → follow o f ≡ done y → ((x : Read A) → o ≡ done x → f x.what x.rest ≡ done y → C) → C
  followed (done x) f y e k = k x refl e
  followed (refused n p) f y e k = absurd (refused-done e)

-- ---- lists, with what was read before in front

unfoldable pub prefixed : {A : Type 0} → List A → Outcome (Read (List A)) → Outcome (Read (List A))
prefixed l (done x) = done (record { what = l ++ x.what; rest = x.rest })
prefixed l (refused n p) = refused n p

module _ {A : Type 0} where
  pub prefixed-none : (o : Outcome (Read (List A))) → o ≡ prefixed [] o
  unfolding prefixed
  prefixed-none (done x) = refl
  prefixed-none (refused n p) = refl

  prefixed-twice : (l m : List A) (o : Outcome (Read (List A))) → prefixed l (prefixed m o) ≡ prefixed (l ++ m) o
  unfolding prefixed
  prefixed-twice l m (done x) = ap (λ w. done (record { what = w; rest = x.rest })) (sym (append_assoc l m x.what))
  prefixed-twice l m (refused n p) = refl

  prefixed-one : (a : A) (o : Outcome (Read (List A))) → follow o (λ l. give (a ∷ l)) ≡ prefixed (a ∷ []) o
  unfolding prefixed
  prefixed-one a (done x) = refl
  prefixed-one a (refused n p) = refl

  pub prefixed-more : (l : List A) (a : A) (o : Outcome (Read (List A))) → prefixed l (follow o (λ m. give (a ∷ m))) ≡ prefixed (l ++ (a ∷ [])) o
  prefixed-more l a o = ap (prefixed l) (prefixed-one a o) ∙ prefixed-twice l (a ∷ []) o

-- ---- one token

pub next-is : (s ts : List ℕ) (at : ℕ) (w : Seen) → Sees s ts at (Ok w) → next (from s ts at) ≡ done (record { what = token s w.kind w.place w.payload; rest = from s ts w.next })
unfolding next token
next-is s ts at z h = rw h.1 (passes s z.kind z.place z.payload _ _ h.0)

pub next-read : (s ns ts : List ℕ) (at : ℕ) (t : Result Seen Refused) → Looks ts at t → (w : Seen) → t ≡ Ok w → Moves (λ names. next) s ns ts at (Ok w.next)
next-read s ns ts at t h z e = record { matches = λ names d. rw (next-is s ts at z (subst (Sees s ts at) e (h.sees s))) refl }

pub look_is : (s ts : List ℕ) (at : ℕ) (w : Seen) → Sees s ts at (Ok w) → look (from s ts at) ≡ done (record { what = token s w.kind w.place w.payload; rest = from s ts at })
unfolding look token
look_is s ts at z h = rw h.1 (passes s z.kind z.place z.payload _ _ h.0)

module _ {A : Type 0} (f : List Name → Token → Reader A) (s ns ts : List ℕ) (at : ℕ) where
  -- a reader that begins with the next token
  pub next-then : (w : Seen) (t : Result Seen Refused) (r : Result ℕ Refused) → Looks ts at t → t ≡ Ok w
      → ((names : List Name) → Named s ns names → (w.kind ≡ 5 → ⊥) → Matches (f names (token s w.kind w.place w.payload) (from s ts w.next)) s ts r)
      → Moves (λ names. next >>= f names) s ns ts at r
  next-then z t r h e g =
      let sees = subst (Sees s ts at) e (h.sees s) in
      record { matches = λ names d. subst (λ o. Matches (follow o (f names)) s ts r) (sym (next-is s ts at z sees)) (g names d sees.0) }

  pub look_then : (w : Seen) (t : Result Seen Refused) (r : Result ℕ Refused) → Looks ts at t → t ≡ Ok w
      → ((names : List Name) → Named s ns names → from s ts at ≡ token s w.kind w.place w.payload ∷ from s ts w.next → next (from s ts at) ≡ done (record { what = token s w.kind w.place w.payload; rest = from s ts w.next })
      → Matches (f names (token s w.kind w.place w.payload) (from s ts at)) s ts r)
      → Moves (λ names. look >>= f names) s ns ts at r
  unfolding token
  look_then z t r h e g =
      let sees = subst (Sees s ts at) e (h.sees s) in
      record { matches = λ names d. subst (λ o. Matches (follow o (f names)) s ts r) (sym (look_is s ts at z sees)) (g names d sees.1 (next-is s ts at z sees)) }

  pub next-wrong : (e : Refused) (t : Result Seen Refused) → Looks ts at t → t ≡ Err e → Moves (λ names. next >>= f names) s ns ts at (Err e)
  next-wrong z t h e =
      let u = subst (Sees s ts at) e (h.sees s) in
      record { matches = λ names d. subst (λ o. Matches (follow o (f names)) s ts (Err z)) (sym u.nexts) (refl, refl) }

  pub look-wrong : (e : Refused) (t : Result Seen Refused) → Looks ts at t → t ≡ Err e → Moves (λ names. look >>= f names) s ns ts at (Err e)
  look-wrong z t h e =
      let u = subst (Sees s ts at) e (h.sees s) in
      record { matches = λ names d. subst (λ o. Matches (follow o (f names)) s ts (Err z)) (sym u.looks) (refl, refl) }

-- whether a sign or word is c
pub is-mark : (s : List ℕ) (c x p y : ℕ) → 5 < c → is_mark c (token s x p y) ≡ eqb x c
unfolding token
is-mark s c x p y h = rw (mark-of s x p y) (mark-same x c h)

-- ---- an expected sign

pub expect-is : (s ts : List ℕ) (at c : ℕ) (w : Seen) → Sees s ts at (Ok w) → mark_number w.kind ≡ c → expect c (from s ts at) ≡ done (record { what = w.place; rest = from s ts w.next })
unfolding expect token require
expect-is s ts at c z h e = rw (next-is s ts at z h, mark-of s z.kind z.place z.payload, eq-eqb (mark_number z.kind) c e) refl

pub expect-not : (s ts : List ℕ) (at c : ℕ) (w : Seen) → Sees s ts at (Ok w) → (mark_number w.kind ≡ c → ⊥) → expect c (from s ts at) ≡ refused Misplaced w.place
unfolding expect token require
expect-not s ts at c z h e = rw (next-is s ts at z h, mark-of s z.kind z.place z.payload, ne_eqb (mark_number z.kind) c e) refl

pub expect-bad : (s ts : List ℕ) (at c : ℕ) (n : Refusal) (p : ℕ) (u : Unread (from s ts at) n p) → expect c (from s ts at) ≡ refused n p
unfolding expect
expect-bad s ts at c n p u = rw u.nexts refl

module _ (s ns ts : List ℕ) (at c : ℕ) (t : Result Seen Refused) (h : Looks ts at t) where
  sees : (w : Result Seen Refused) → t ≡ w → Sees s ts at w
  sees w e = subst (Sees s ts at) e (h.sees s)

  pub expect-wrong : (e : Refused) → t ≡ Err e → Moves (expect_in c) s ns ts at (Err e)
  unfolding expect_in
  expect-wrong z e = let u = sees (Err z) e in record { matches = λ names d. rw (expect-bad s ts at c z.refusal z.place u) (refl, refl) }

  pub expect-yes : (w : Seen) (m : ℕ) → t ≡ Ok w → m ≡ mark_number w.kind → m ≡ c → Moves (expect_in c) s ns ts at (Ok w.next)
  unfolding expect_in
  expect-yes z m e i j = record { matches = λ names d. rw (expect-is s ts at c z (sees _ e) (sym i ∙ j)) refl }

  pub expect-no : (w : Seen) (m : ℕ) → t ≡ Ok w → m ≡ mark_number w.kind → (m ≡ c → ⊥) → Moves (expect_in c) s ns ts at (Err (record { refusal = Misplaced; place = w.place }))
  unfolding expect_in
  expect-no z m e i j = record { matches = λ names d. rw (expect-not s ts at c z (sees _ e) (λ y. j (i ∙ y))) (refl, refl) }

  -- ---- a bracket

  pub bracket-wrong : (nest : ℕ) (e : Refused) → t ≡ Err e → Moves (bracket_in c nest) s ns ts at (Err e)
  unfolding bracket_in bracket
  bracket-wrong zero z e = let u = sees (Err z) e in record { matches = λ names d. rw (expect-bad s ts at c z.refusal z.place u) (refl, refl) }
  bracket-wrong (suc nest) z e = let u = sees (Err z) e in record { matches = λ names d. rw (expect-bad s ts at c z.refusal z.place u) (refl, refl) }

  pub bracket-no : (nest : ℕ) (w : Seen) (m : ℕ) → t ≡ Ok w → m ≡ mark_number w.kind → (m ≡ c → ⊥) → Moves (bracket_in c nest) s ns ts at (Err (record { refusal = Misplaced; place = w.place }))
  unfolding bracket_in bracket
  bracket-no zero w m e i j = record { matches = λ names d. rw (expect-not s ts at c w (sees _ e) (λ y. j (i ∙ y))) (refl, refl) }
  bracket-no (suc nest) w m e i j = record { matches = λ names d. rw (expect-not s ts at c w (sees _ e) (λ y. j (i ∙ y))) (refl, refl) }

  pub bracket-full : (nest : ℕ) (w : Seen) (m : ℕ) → t ≡ Ok w → m ≡ mark_number w.kind → m ≡ c → nest ≡ 0 → Moves (bracket_in c nest) s ns ts at (Err (record { refusal = Full; place = w.place }))
  unfolding bracket_in bracket
  bracket-full zero w m e i j z = record { matches = λ names d. rw (expect-is s ts at c w (sees _ e) (sym i ∙ j)) (refl, refl) }
  bracket-full (suc nest) w m e i j z = absurd (omega arith)

  pub bracket-yes : (nest : ℕ) (w : Seen) (m : ℕ) → t ≡ Ok w → m ≡ mark_number w.kind → m ≡ c → (nest ≡ 0 → ⊥) → Moves (bracket_in c nest) s ns ts at (Ok w.next)
  unfolding bracket_in bracket
  bracket-yes zero w m e i j z = absurd (z refl)
  bracket-yes (suc nest) w m e i j z = record { matches = λ names d. rw (expect-is s ts at c w (sees _ e) (sym i ∙ j)) refl }

-- ---- an index, an optional sign

pub known-not : (s ns : List ℕ) (names : List Name) (p n : ℕ) (l : List Token) → Named s ns names → look_up s (spelling s p n) ns 0 ≡ None → known names (spelling s p n) p l ≡ refused BadName p
unfolding known found
known-not s ns names p n l d e = rw (not-declared s (spelling s p n) ns names 0 p d e) refl

pub known_is : (s : List ℕ) (names : List Name) (p n j k c : ℕ) (l : List Token) (u : Declared (spelling s p n) names 0 p j k c) → known names (spelling s p n) p l ≡ done (record { what = u.used; rest = l })
unfolding known found
known_is s names p n j k c l u = rw u.stands refl

module _ (s ns ts : List ℕ) (at : ℕ) (t : Result Seen Refused) (h : Looks ts at t) where
  sees' : (w : Result Seen Refused) → t ≡ w → Sees s ts at w
  sees' w e = subst (Sees s ts at) e (h.sees s)

  known-wrong : (e : Refused) → t ≡ Err e → Knows s ns ts at (Err e)
  unfolding read_known
  known-wrong z e = let u = sees' (Err z) e in record { knows = λ names d. rw u.nexts (refl, refl) }

  known-no-name : (w : Seen) → t ≡ Ok w → (w.kind ≡ 1 → ⊥) → Knows s ns ts at (Err (record { refusal = Misplaced; place = w.place }))
  unfolding read_known token demand
  known-no-name z e i = record { knows = λ names d. rw (next-is s ts at z (sees' _ e), no_name_lem s z.kind z.place z.payload i) (refl, refl) }

  name-next : (w : Seen) → t ≡ Ok w → w.kind ≡ 1 → next (from s ts at) ≡ done (record { what = record { kind = Text.name (spelling s w.place (name_bytes w.payload)); place = w.place }; rest = from s ts w.next })
  unfolding token kind_of
  name-next z e i = next-is s ts at z (sees' _ e) ∙ rw i refl

  known-unknown : (w : Seen) (f : Option Found) → t ≡ Ok w → w.kind ≡ 1 → f ≡ look_up s (spelling s w.place (name_bytes w.payload)) ns 0 → f ≡ None → Knows s ns ts at (Err (record { refusal = BadName; place = w.place }))
  unfolding read_known demand name_of
  known-unknown z f e i j g = record { knows = λ names d. rw (name-next z e i, known-not s ns names z.place (name_bytes z.payload) (from s ts z.next) d (sym j ∙ g)) (refl, refl) }

  known-name : (w : Seen) (z : Found) (f : Option Found) → t ≡ Ok w → w.kind ≡ 1 → f ≡ look_up s (spelling s w.place (name_bytes w.payload)) ns 0 → f ≡ Some z
      → Knows s ns ts at (Ok (record { number = z.number; sort = z.sort; count = z.count; place = w.place; next = w.next }))
  unfolding read_known demand name_of
  known-name z w f e i j g =
      record {
        knows = λ names d.
            let u = declared s (spelling s z.place (name_bytes z.payload)) ns names 0 z.place w d (sym j ∙ g) in
            rw (name-next z e i, known_is s names z.place (name_bytes z.payload) w.number w.sort w.count (from s ts z.next) u) (refl, u.numbered, u.shaped, u.placed);
      }

  -- the answers of `known_name`
  pub at-wrong : (e : Refused) → t ≡ Err e → KnownAt s ns ts at (Err e)
  unfolding known_by
  at-wrong z e = record { token = t; looks = h; answer = rw e refl }

  module _ (w : Seen) (e : t ≡ Ok w) where
    pub at-no-name : (w.kind ≡ 1 → ⊥) → KnownAt s ns ts at (Err (record { refusal = Misplaced; place = w.place }))
    unfolding known_by
    at-no-name i = record { token = t; looks = h; answer = rw (e, ne_eqb w.kind 1 i) refl }

    module _ (f : Option Found) (i : w.kind ≡ 1) (j : f ≡ look_up s (spelling s w.place (name_bytes w.payload)) ns 0) where
      pub at-unknown : f ≡ None → KnownAt s ns ts at (Err (record { refusal = BadName; place = w.place }))
      unfolding known_by
      at-unknown g = record { token = t; looks = h; answer = rw (e, eq-eqb w.kind 1 i, ← j, g) refl }

      pub at_name : (z : Found) → f ≡ Some z → KnownAt s ns ts at (Ok (record { number = z.number; sort = z.sort; count = z.count; place = w.place; next = w.next }))
      unfolding known_by
      at_name z g = record { token = t; looks = h; answer = rw (e, eq-eqb w.kind 1 i, ← j, g) refl }

  -- whether a sign stands there
  pub is_sum_lem : (k p x : ℕ) → is_sum (token s k p x) ≡ (eqb k 43 || eqb k 45)
  unfolding token
  is_sum_lem k p x = rw (mark-of s k p x, mark-same k 43 (omega arith), mark-same k 45 (omega arith)) refl

  signed : Bool → Token → Reader Signed
  signed b x = elim b as (λ _. Reader Signed) [
    | true ↦ next >>= (λ _. give (record { written = true; negative = is_mark minus_sign x }))
    | false ↦ give (record { written = false; negative = false })
  ]

  pub sign-wrong : (e : Refused) → t ≡ Err e → Moves sign_in s ns ts at (Err e)
  unfolding sign_in read_sign
  sign-wrong z e = let u = sees' (Err z) e in record { matches = λ names d. rw u.looks (refl, refl) }

  sign-by : (w : Seen) (b : Bool) (r : Result ℕ Refused) → t ≡ Ok w → (eqb w.kind 43 || eqb w.kind 45) ≡ b → Matches (signed b (token s w.kind w.place w.payload) (from s ts at)) s ts r → Moves sign_in s ns ts at r
  unfolding sign_in read_sign signed
  sign-by z b r e i g =
      record {
        matches = λ names d.
            subst (λ o. Matches (follow o (λ y. signed (is_sum y) y)) s ts r) (sym (look_is s ts at z (sees' _ e)))
            (subst (λ b. Matches (signed b (token s z.kind z.place z.payload) (from s ts at)) s ts r) (sym (is_sum_lem z.kind z.place z.payload ∙ i)) g);
      }

  pub sign-yes : (w : Seen) → t ≡ Ok w → (eqb w.kind 43 || eqb w.kind 45) ≡ true → Moves sign_in s ns ts at (Ok w.next)
  unfolding signed
  sign-yes z e i = sign-by z true (Ok z.next) e i (rw (next-is s ts at z (sees' _ e)) refl)

  pub sign-no : (w : Seen) → t ≡ Ok w → (eqb w.kind 43 || eqb w.kind 45) ≡ false → Moves sign_in s ns ts at (Ok at)
  unfolding signed
  sign-no z e i = sign-by z false (Ok at) e i refl

-- what is known there, for all names that the table tells of
pub knows-of : (s ns ts : List ℕ) (at : ℕ) (r : Result Known Refused) → KnownAt s ns ts at r → Knows s ns ts at r
unfolding known_by
knows-of s ns ts at r o = rw o.answer (go o.token o.looks)
  where
    by_name : (w : Seen) → Looks ts at (Ok w) → w.kind ≡ 1 → (f : Option Found) → f ≡ look_up s (spelling s w.place (name_bytes w.payload)) ns 0 → Knows s ns ts at (known_found w.place w.next f)
    by_name z l i (Some w) j = known-name s ns ts at _ l z w _ refl i j refl
    by_name z l i None j = known-unknown s ns ts at _ l z _ refl i j refl

    by_kind : (w : Seen) → Looks ts at (Ok w) → (b : Bool) → eqb w.kind 1 ≡ b
        → Knows s ns ts at (cond b (known_found w.place w.next (look_up s (spelling s w.place (name_bytes w.payload)) ns 0)) (Err (record { refusal = Misplaced; place = w.place })))
    by_kind z l true e = by_name z l (eqb-true z.kind 1 e) (look_up s (spelling s z.place (name_bytes z.payload)) ns 0) refl
    by_kind z l false e = known-no-name s ns ts at _ l z refl (eqb-false z.kind 1 e)

    go : (t : Result Seen Refused) → Looks ts at t → Knows s ns ts at (known_by s ns t)
    go (Ok t) l = by_kind t l (eqb t.kind 1) refl
    go (Err e) l = known-wrong s ns ts at _ l e refl

-- ---- a declared index

module _ (s ns ts : List ℕ) (at : ℕ) (r : Result Known Refused) (told : KnownAt s ns ts at r) where
  h : Knows s ns ts at r
  h = knows-of s ns ts at r told

  index_test : Used → Reader Used
  index_test u = require (is_index u.sort) Misplaced u.place >>= (λ _. give u)

  pub index-wrong : (e : Refused) → r ≡ Err e → Moves index_in s ns ts at (Err e)
  unfolding index_in read_index index_test
  index-wrong z e = record { matches = λ names d. go (read_known names (from s ts at)) (subst (Knowing (read_known names (from s ts at)) s ts) e (h.knows names d)) }
    where
      go : (o : Outcome (Read Used)) → Knowing o s ts (Err z) → Matches (follow o index_test) s ts (Err z)
      go (done x) k = absurd k
      go (refused m q) k = k

  -- by the test of its sort
  index-by : (w : Known) (b : Bool) (z : Result ℕ Refused) → r ≡ Ok w → ((x : Sort) → Shaped x w.sort w.count → is_index x ≡ b)
      → ((u : Used) → u.place ≡ w.place → Matches ((require b Misplaced u.place >>= (λ _. give u)) (from s ts w.next)) s ts z) → Moves index_in s ns ts at z
  unfolding index_in read_index index_test
  index-by w b z e f g = record { matches = λ names d. go (read_known names (from s ts at)) (subst (Knowing (read_known names (from s ts at)) s ts) e (h.knows names d)) }
    where
      go : (o : Outcome (Read Used)) → Knowing o s ts (Ok w) → Matches (follow o index_test) s ts z
      go (done x) k = rw (k.0, f x.what.sort k.2) (g x.what k.3)
      go (refused m q) k = absurd k

  pub index-yes : (w : Known) → r ≡ Ok w → w.sort ≡ 0 → Moves index_in s ns ts at (Ok w.next)
  unfolding require
  index-yes w e z = index-by w true (Ok w.next) e (λ x k. index-sort x w.sort w.count k z) (λ u q. refl)

  pub index-other : (w : Known) → r ≡ Ok w → (w.sort ≡ 0 → ⊥) → Moves index_in s ns ts at (Err (record { refusal = Misplaced; place = w.place }))
  unfolding require
  index-other w e z = index-by w false (Err (record { refusal = Misplaced; place = w.place })) e (λ x k. other-sort x w.sort w.count k z) (λ u q. (refl, q))

-- ---- a bracket's head

module _ (s ns ts : List ℕ) (at nest : ℕ) (r : Result ℕ Refused) (h : Moves (bracket_in opens nest) s ns ts at r) where
  comma_rest : List Name → Used → Reader Used
  comma_rest names i = expect comma >>= (λ _. give i)

  index_rest : List Name → ℕ → Reader Used
  index_rest names _ = read_index names >>= comma_rest names

  pub head-open : (e : Refused) → r ≡ Err e → Moves (head_in nest) s ns ts at r
  unfolding head_in head_of bracket_in index_rest comma_rest
  head-open z e = record { matches = (stops (λ names. bracket opens nest) index_rest s ns ts at r (record { matches = h.matches }) z e).matches }

  pub head-index : (a : ℕ) (e : Refused) (q : Result ℕ Refused) → r ≡ Ok a → Moves index_in s ns ts a q → q ≡ Err e → Moves (head_in nest) s ns ts at q
  unfolding head_in head_of bracket_in index_in index_rest comma_rest
  head-index a z q e g f =
      record {
        matches = (goes (λ names. bracket opens nest) index_rest s ns ts at r (record { matches = h.matches }) a q e
            (λ _. stops read_index comma_rest s ns ts a q (record { matches = g.matches }) z f)).matches;
      }

  pub head-comma : (a b : ℕ) (q z : Result ℕ Refused) → r ≡ Ok a → Moves index_in s ns ts a q → q ≡ Ok b → Moves (expect_in comma) s ns ts b z → Moves (head_in nest) s ns ts at z
  unfolding head_in head_of bracket_in index_in expect_in index_rest comma_rest
  head-comma a b q z e g f y =
      record {
        matches = (goes (λ names. bracket opens nest) index_rest s ns ts at r (record { matches = h.matches }) a z e
            (λ _. goes read_index comma_rest s ns ts a q (record { matches = g.matches }) b z f
            (λ i. given (λ names. expect comma) (λ names _. i) s ns ts b z (record { matches = y.matches })))).matches;
      }
