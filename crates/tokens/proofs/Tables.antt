-- Laws of the token table and the name table over plain variables.
use Rattle.std.specs.Prelude.{Err, Ok, Option, Some, None}
use mathlib.Core.Path.{◌≡◌, refl, sym, ◌∙◌, ap, subst}
use mathlib.Core.Bool.{Bool, true, false}
use mathlib.Core.List.{List, [], ◌∷◌, ◌++◌}
use Prim.Native.Nat.{ℕ, zero, suc, ◌+◌, ◌-◌, ◌<◌, ◌≤◌, ◌/◌, ◌*◌}
use native.Mathlib.Omega.{arith}
use lib.Dec.{eqb}
use lib.ListN.{length, drop, get_or, get_or-eq_default, take, set, length-set}
use lib.Seq.{drop-set-lt}
use borrow.Author.Tests.{eq-eqb, ne_eqb, lt-ltb, le-ltb}
use Rattle.rules.specs.declared.Refusal.{Refusal}
use Rattle.rules.specs.declared.Refusal.TheVariants.{Misplaced}
use Rattle.lexer.specs.Text.{Token, same_bytes}
use Rattle.language.specs.Outcome.{done}
use Rattle.language.specs.Syntax.{Name, Sort}
use Rattle.language.specs.Syntax
use Rattle.language.specs.Reader.{Used, passed, next, look, mark_of, name_of, find, is_index, string_of}
use Rattle.tokens.specs.declared.Found.{Found}
use Rattle.tokens.specs.Stored.{word_of, kind_part, place_part, payload_part, bytes_from, spelling, refusal_of, kind_of, token, view, from, mark_number, Looks, look_up, Shaped, Named, rows_of, Put}

-- ---- what cannot be

pub false-true : false ≡ true → ⊥
false-true e = subst (λ b. elim b as (λ _. Type 0) [ true ↦ ⊥ | false ↦ Unit {0} ]) e tt

name-nothing : (w : Found) → Some w ≡ None → ⊥
name-nothing z e = subst tells_name e tt
  where
    tells_name : Option Found → Type 0
    tells_name (Some x) = Unit {0}
    tells_name None = ⊥

-- ---- a word's parts

pub kind-of-word : (k p x : ℕ) → p < 32768 → x < 8589934592 → kind_part (word_of k p x) ≡ k
kind-of-word k p x h i = omega arith

pub place-of-word : (k p x : ℕ) → p < 32768 → x < 8589934592 → place_part (word_of k p x) ≡ p
place-of-word k p x h i = omega arith

pub payload-of-word : (k p x : ℕ) → p < 32768 → x < 8589934592 → payload_part (word_of k p x) ≡ x
payload-of-word k p x h i = omega arith

pub word_fits : (k p x : ℕ) → k < 65536 → p < 32768 → x < 8589934592 → word_of k p x < 18446744073709551616
word_fits k p x g h i = omega arith

-- ---- numbers of refusals and marks

pub refusal-other : (x : ℕ) → (x ≡ 1 → ⊥) → (x ≡ 2 → ⊥) → (x ≡ 4 → ⊥) → (x ≡ 5 → ⊥) → (x ≡ 6 → ⊥) → Misplaced ≡ refusal_of x
unfolding refusal_of
refusal-other zero a b c d e = refl
refusal-other (suc zero) a b c d e = absurd (a refl)
refusal-other (suc (suc zero)) a b c d e = absurd (b refl)
refusal-other (suc (suc (suc zero))) a b c d e = refl
refusal-other (suc (suc (suc (suc zero)))) a b c d e = absurd (c refl)
refusal-other (suc (suc (suc (suc (suc zero))))) a b c d e = absurd (d refl)
refusal-other (suc (suc (suc (suc (suc (suc zero)))))) a b c d e = absurd (e refl)
refusal-other (suc (suc (suc (suc (suc (suc (suc n))))))) a b c d e = refl

pub mark-none : (k : ℕ) → k ≤ 5 → 0 ≡ mark_number k
unfolding mark_number
mark-none zero h = refl
mark-none (suc zero) h = refl
mark-none (suc (suc zero)) h = refl
mark-none (suc (suc (suc zero))) h = refl
mark-none (suc (suc (suc (suc zero)))) h = refl
mark-none (suc (suc (suc (suc (suc zero))))) h = refl
mark-none (suc (suc (suc (suc (suc (suc k)))))) h = absurd (omega arith)

pub mark-own : (k : ℕ) → 5 < k → k ≡ mark_number k
unfolding mark_number
mark-own zero h = absurd (omega arith)
mark-own (suc zero) h = absurd (omega arith)
mark-own (suc (suc zero)) h = absurd (omega arith)
mark-own (suc (suc (suc zero))) h = absurd (omega arith)
mark-own (suc (suc (suc (suc zero)))) h = absurd (omega arith)
mark-own (suc (suc (suc (suc (suc zero))))) h = absurd (omega arith)
mark-own (suc (suc (suc (suc (suc (suc k)))))) h = refl

pub mark-of : (s : List ℕ) (k p x : ℕ) → mark_of (kind_of s k p x) ≡ mark_number k
unfolding mark_number kind_of mark_of
mark-of s zero p x = refl
mark-of s (suc zero) p x = refl
mark-of s (suc (suc zero)) p x = refl
mark-of s (suc (suc (suc zero))) p x = refl
mark-of s (suc (suc (suc (suc zero)))) p x = refl
mark-of s (suc (suc (suc (suc (suc zero))))) p x = refl
mark-of s (suc (suc (suc (suc (suc (suc k)))))) p x = refl

pub mark-same : (k c : ℕ) → 5 < c → eqb (mark_number k) c ≡ eqb k c
unfolding mark_number
mark-same zero c h = refl
mark-same (suc zero) c h = ne_eqb 0 c (λ e. omega arith) ∙ sym (ne_eqb 1 c (λ e. omega arith))
mark-same (suc (suc zero)) c h = ne_eqb 0 c (λ e. omega arith) ∙ sym (ne_eqb 2 c (λ e. omega arith))
mark-same (suc (suc (suc zero))) c h = ne_eqb 0 c (λ e. omega arith) ∙ sym (ne_eqb 3 c (λ e. omega arith))
mark-same (suc (suc (suc (suc zero)))) c h = ne_eqb 0 c (λ e. omega arith) ∙ sym (ne_eqb 4 c (λ e. omega arith))
mark-same (suc (suc (suc (suc (suc zero))))) c h = ne_eqb 0 c (λ e. omega arith) ∙ sym (ne_eqb 5 c (λ e. omega arith))
mark-same (suc (suc (suc (suc (suc (suc k)))))) c h = refl

-- what is no name has none
pub no_name_lem : (s : List ℕ) (k p x : ℕ) → (k ≡ 1 → ⊥) → name_of (kind_of s k p x) ≡ None
unfolding kind_of name_of
no_name_lem s zero p x h = refl
no_name_lem s (suc zero) p x h = absurd (h refl)
no_name_lem s (suc (suc zero)) p x h = refl
no_name_lem s (suc (suc (suc zero))) p x h = refl
no_name_lem s (suc (suc (suc (suc zero)))) p x h = refl
no_name_lem s (suc (suc (suc (suc (suc zero))))) p x h = refl
no_name_lem s (suc (suc (suc (suc (suc (suc k)))))) p x h = refl

-- what is no string has none
pub no-string : (s : List ℕ) (k p x : ℕ) → (k ≡ 4 → ⊥) → string_of (kind_of s k p x) ≡ None
unfolding kind_of string_of
no-string s zero p x h = refl
no-string s (suc zero) p x h = refl
no-string s (suc (suc zero)) p x h = refl
no-string s (suc (suc (suc zero))) p x h = refl
no-string s (suc (suc (suc (suc zero)))) p x h = absurd (h refl)
no-string s (suc (suc (suc (suc (suc zero))))) p x h = refl
no-string s (suc (suc (suc (suc (suc (suc k)))))) p x h = refl

-- a token that is no refusal passes
pub passes : (s : List ℕ) (k p x : ℕ) (t : Token) (l : List Token) → (k ≡ 5 → ⊥) → passed (kind_of s k p x) t l ≡ done (record { what = t; rest = l })
unfolding kind_of passed
passes s zero p x t l h = refl
passes s (suc zero) p x t l h = refl
passes s (suc (suc zero)) p x t l h = refl
passes s (suc (suc (suc zero))) p x t l h = refl
passes s (suc (suc (suc (suc zero)))) p x t l h = refl
passes s (suc (suc (suc (suc (suc zero))))) p x t l h = absurd (h refl)
passes s (suc (suc (suc (suc (suc (suc k)))))) p x t l h = refl

-- ---- the token at a position

pub view-here : (s ts : List ℕ) (at : ℕ) → at < length ts
    → view s (drop at ts) ≡ token s (kind_part (get_or ts at 0)) (place_part (get_or ts at 0)) (payload_part (get_or ts at 0)) ∷ view s (drop (at + 1) ts)
unfolding view
view-here s [] at h = absurd (omega arith)
view-here s (w ∷ ts) zero h = refl
view-here s (w ∷ ts) (suc at) h = let e : suc at + 1 ≡ suc (at + 1) = omega arith in rw e (view-here s ts at (omega arith))

pub view-end : (s ts : List ℕ) (at : ℕ) → length ts ≤ at → view s (drop at ts) ≡ []
unfolding view
view-end s [] zero h = refl
view-end s [] (suc at) h = refl
view-end s (w ∷ ts) zero h = absurd (omega arith)
view-end s (w ∷ ts) (suc at) h = view-end s ts at (omega arith)

pub looks-past : (ts : List ℕ) (at : ℕ) → length ts ≤ at → Looks ts at (Err (record { refusal = Misplaced; place = 0 }))
unfolding from look next
looks-past ts at h = record { sees = λ s. record { looks = rw (view-end s ts at h) refl; nexts = rw (view-end s ts at h) refl } }

-- a word w that stands at the position, taken apart
module _ (ts : List ℕ) (at : ℕ) (h : at < length ts) where
  pub looks-wrong : (r : Refusal) → kind_part (get_or ts at 0) ≡ 5 → r ≡ refusal_of (payload_part (get_or ts at 0)) → Looks ts at (Err (record { refusal = r; place = (place_part (get_or ts at 0)) }))
  unfolding from look next token kind_of passed
  looks-wrong r e i = record { sees = λ s. record { looks = rw (view-here s ts at h, e, i) refl; nexts = rw (view-here s ts at h, e, i) refl } }

  pub looks-token : (kind_part (get_or ts at 0) ≡ 5 → ⊥) → Looks ts at (Ok (record { kind = (kind_part (get_or ts at 0)); place = (place_part (get_or ts at 0)); payload = (payload_part (get_or ts at 0)); next = (at + 1) }))
  unfolding from
  looks-token e = record { sees = λ s. (e, view-here s ts at h) }

-- ---- names

pub byte_past : (s : List ℕ) (p i : ℕ) → length s ≤ p → 0 ≡ get_or s (p + i) 0
byte_past s p i h = sym (get_or-eq_default s 0 {n = p + i} (omega arith))

pub byte-past-2 : (s : List ℕ) (p i : ℕ) → p < length s → length s - p ≤ i → 0 ≡ get_or s (p + i) 0
byte-past-2 s p i g h = sym (get_or-eq_default s 0 {n = p + i} (omega arith))

module _ (s : List ℕ) (p q : ℕ) where
  pub same_none : (n m : ℕ) → (n ≡ m → ⊥) → (i : ℕ) → false ≡ same_bytes (bytes_from s p i n) (bytes_from s q i m)
  unfolding bytes_from same_bytes
  same_none zero zero h i = absurd (h refl)
  same_none zero (suc m) h i = refl
  same_none (suc n) zero h i = refl
  same_none (suc n) (suc m) h i = go (eqb (get_or s (p + i) 0) (get_or s (q + i) 0)) (same_none n m (λ e. h (ap suc e)) (suc i))
    where
      go : (b : Bool) → false ≡ same_bytes (bytes_from s p (suc i) n) (bytes_from s q (suc i) m)
          → false ≡ (elim b as (λ _. Bool) [ true ↦ same_bytes (bytes_from s p (suc i) n) (bytes_from s q (suc i) m) | false ↦ false ])
      go true h = h
      go false h = refl

  pub same-lengths : (n m : ℕ) → (n ≡ m → ⊥) → false ≡ same_bytes (spelling s p n) (spelling s q m)
  unfolding spelling
  same-lengths n m h = same_none n m h 0

  -- the bytes from the i-th on are the same exactly where all are
  pub record Alike (n m i : ℕ) : Type 0 where
    pub alike : same_bytes (bytes_from s p i (n - i)) (bytes_from s q i (n - i)) ≡ same_bytes (spelling s p n) (spelling s q m)

  pub alike-start : (n m : ℕ) → n ≡ m → Alike n m 0
  unfolding spelling
  alike-start n m e = let d : n - 0 ≡ n = omega arith in record { alike = rw (← e, d) refl }

  pub alike_end : (n m i : ℕ) → n ≤ i → Alike n m i → true ≡ same_bytes (spelling s p n) (spelling s q m)
  unfolding bytes_from same_bytes
  alike_end n m i h a = let e : n - i ≡ 0 = omega arith in go (n - i) e ∙ a.alike
    where
      go : (k : ℕ) → k ≡ 0 → true ≡ same_bytes (bytes_from s p i k) (bytes_from s q i k)
      go zero e = refl
      go (suc k) e = absurd (omega arith)

  unlike : (i k : ℕ) → 0 < k → (get_or s (p + i) 0 ≡ get_or s (q + i) 0 → ⊥) → false ≡ same_bytes (bytes_from s p i k) (bytes_from s q i k)
  unfolding bytes_from same_bytes
  unlike i zero h e = absurd (omega arith)
  unlike i (suc k) h e = rw (same_bytes, ne_eqb (get_or s (p + i) 0) (get_or s (q + i) 0) e) refl

  like : (i k : ℕ) → 0 < k → get_or s (p + i) 0 ≡ get_or s (q + i) 0 → same_bytes (bytes_from s p i k) (bytes_from s q i k) ≡ same_bytes (bytes_from s p (suc i) (k - 1)) (bytes_from s q (suc i) (k - 1))
  unfolding bytes_from same_bytes
  like i zero h e = absurd (omega arith)
  like i (suc k) h e = let d : suc k - 1 ≡ k = omega arith in rw (d, eq-eqb (get_or s (p + i) 0) (get_or s (q + i) 0) e, same_bytes) refl

  pub alike-not : (n m i a b : ℕ) → i < n → a ≡ get_or s (p + i) 0 → b ≡ get_or s (q + i) 0 → (a ≡ b → ⊥) → Alike n m i → false ≡ same_bytes (spelling s p n) (spelling s q m)
  alike-not n m i a b h x y e al = unlike i (n - i) (omega arith) (λ d. e (x ∙ d ∙ sym y)) ∙ al.alike

  pub alike-on : (n m i a b : ℕ) → i < n → a ≡ get_or s (p + i) 0 → b ≡ get_or s (q + i) 0 → a ≡ b → Alike n m i → Alike n m (i + 1)
  alike-on n m i a b h x y e al =
      let d : i + 1 ≡ suc i = omega arith in
      let f : n - suc i ≡ n - i - 1 = omega arith in
      record { alike = rw (d, f) (sym (like i (n - i) (omega arith) (sym x ∙ e ∙ y)) ∙ al.alike) }

-- the table from the i-th word on, of which the number is `number`, tells what all of it tells
pub record Tells (s l ns : List ℕ) (i number : ℕ) : Type 0 where
  pub tells : look_up s l (drop i ns) number ≡ look_up s l ns 0

pub tells-start : (s l ns : List ℕ) → Tells s l ns 0 0
tells-start s l ns = record { tells = refl }

-- a row's words, from the i-th on
abbrev row : List ℕ → ℕ → List ℕ → List ℕ
row ns i l = get_or ns i 0 ∷ get_or ns (i + 1) 0 ∷ get_or ns (i + 2) 0 ∷ get_or ns (i + 3) 0 ∷ get_or ns (i + 4) 0 ∷ l

row_here : (ns : List ℕ) (i : ℕ) → 5 ≤ length ns - i → drop i ns ≡ row ns i (drop (i + 5) ns)
row_here [] i h = absurd (omega arith)
row_here (a ∷ []) zero h = absurd (omega arith)
row_here (a ∷ b ∷ []) zero h = absurd (omega arith)
row_here (a ∷ b ∷ c ∷ []) zero h = absurd (omega arith)
row_here (a ∷ b ∷ c ∷ d ∷ []) zero h = absurd (omega arith)
row_here (a ∷ b ∷ c ∷ d ∷ e ∷ ns) zero h = refl
row_here (x ∷ ns) (suc i) h =
    let a : suc i + 1 ≡ suc (i + 1) = omega arith in
    let b : suc i + 2 ≡ suc (i + 2) = omega arith in
    let c : suc i + 3 ≡ suc (i + 3) = omega arith in
    let d : suc i + 4 ≡ suc (i + 4) = omega arith in
    let e : suc i + 5 ≡ suc (i + 5) = omega arith in
    rw (a, b, c, d, e) (ap (λ l. l) (row_here ns i (omega arith)))

row-none : (s l ns : List ℕ) (i number : ℕ) → length ns - i < 5 → look_up s l (drop i ns) number ≡ None
unfolding look_up
row-none s l [] zero number h = refl
row-none s l [] (suc i) number h = refl
row-none s l (a ∷ []) zero number h = refl
row-none s l (a ∷ b ∷ []) zero number h = refl
row-none s l (a ∷ b ∷ c ∷ []) zero number h = refl
row-none s l (a ∷ b ∷ c ∷ d ∷ []) zero number h = refl
row-none s l (a ∷ b ∷ c ∷ d ∷ e ∷ ns) zero number h = absurd (omega arith)
row-none s l (a ∷ ns) (suc i) number h = row-none s l ns i number (omega arith)

pub tells-nothing : (s l ns : List ℕ) (i number : ℕ) → length ns - i < 5 → Tells s l ns i number → None ≡ look_up s l ns 0
tells-nothing s l ns i number h t = sym (row-none s l ns i number h) ∙ t.tells

pick_yes : (u : Bool) (a b : Option Found) → u ≡ true → (elim u as (λ _. Option Found) [ true ↦ a | false ↦ b ]) ≡ a
pick_yes true a b e = refl
pick_yes false a b e = absurd (false-true e)

pick_no : (u : Bool) (a b : Option Found) → u ≡ false → (elim u as (λ _. Option Found) [ true ↦ a | false ↦ b ]) ≡ b
pick_no false a b e = refl
pick_no true a b e = absurd (false-true (sym e))

row-yes : (s l ns : List ℕ) (number p n k c q : ℕ) → same_bytes l (spelling s p n) ≡ true → look_up s l (p ∷ n ∷ k ∷ c ∷ q ∷ ns) number ≡ Some (record { number = number; sort = k; count = c })
unfolding look_up
row-yes s l ns number p n k c q e = pick_yes (same_bytes l (spelling s p n)) (Some (record { number = number; sort = k; count = c })) (look_up s l ns (suc number)) e

row-no : (s l ns : List ℕ) (number p n k c q : ℕ) → same_bytes l (spelling s p n) ≡ false → look_up s l (p ∷ n ∷ k ∷ c ∷ q ∷ ns) number ≡ look_up s l ns (suc number)
unfolding look_up
row-no s l ns number p n k c q e = pick_no (same_bytes l (spelling s p n)) (Some (record { number = number; sort = k; count = c })) (look_up s l ns (suc number)) e

module _ (s l ns : List ℕ) (i number : ℕ) (b : Bool) (t : Tells s l ns i number) (e : b ≡ same_bytes l (spelling s (get_or ns i 0) (get_or ns (i + 1) 0))) (h : 5 ≤ length ns - i) where
  pub tells-name : b ≡ true → Some (record { number = number; sort = (get_or ns (i + 2) 0); count = (get_or ns (i + 3) 0) }) ≡ look_up s l ns 0
  tells-name d =
      sym (ap (λ m. look_up s l m number) (row_here ns i h) ∙ row-yes s l (drop (i + 5) ns) number (get_or ns i 0) (get_or ns (i + 1) 0) (get_or ns (i + 2) 0) (get_or ns (i + 3) 0) (get_or ns (i + 4) 0) (sym e ∙ d)) ∙ t.tells

  pub tells-on : b ≡ false → Tells s l ns (i + 5) (number + 1)
  tells-on d =
      let n : number + 1 ≡ suc number = omega arith in
      record {
        tells = rw n
            (sym (ap (λ m. look_up s l m number) (row_here ns i h) ∙ row-no s l (drop (i + 5) ns) number (get_or ns i 0) (get_or ns (i + 1) 0) (get_or ns (i + 2) 0) (get_or ns (i + 3) 0) (get_or ns (i + 4) 0) (sym e ∙ d)) ∙ t.tells);
      }

-- a name that the table tells of is in the names, with its number, its sort and its number of indices
pub record Declared (l : List ℕ) (names : List Name) (i p j k c : ℕ) : Type 0 where
  pub used : Used
  pub stands : find l names i p ≡ Some used
  pub numbered : used.number ≡ j
  pub shaped : Shaped used.sort k c
  pub placed : used.place ≡ p

pub not-declared : (s l ns : List ℕ) (names : List Name) (i p : ℕ) → Named s ns names → look_up s l ns i ≡ None → find l names i p ≡ None
unfolding look_up find
not-declared s l [] [] i p h e = refl
not-declared s l [] (y ∷ ys) i p h e = absurd h
not-declared s l (a ∷ []) ys i p h e = absurd h
not-declared s l (a ∷ b ∷ []) ys i p h e = absurd h
not-declared s l (a ∷ b ∷ k ∷ []) ys i p h e = absurd h
not-declared s l (a ∷ b ∷ k ∷ c ∷ []) ys i p h e = absurd h
not-declared s l (a ∷ b ∷ k ∷ c ∷ q ∷ ns) [] i p h e = absurd h
not-declared s l (a ∷ b ∷ k ∷ c ∷ q ∷ ns) (y ∷ ys) i p h e = go (same_bytes l (spelling s a b)) (same_bytes l y.spelling) (ap (same_bytes l) h.0) (λ d. not-declared s l ns ys (suc i) p h.2 d) e
  where
    go : (u v : Bool) → v ≡ u → (look_up s l ns (suc i) ≡ None → find l ys (suc i) p ≡ None)
        → (elim u as (λ _. Option Found) [ true ↦ Some (record { number = i; sort = k; count = c }) | false ↦ look_up s l ns (suc i) ]) ≡ None
        → ◌≡◌ {A = Option Used} (elim v as (λ _. Option Used) [ true ↦ Some (record { number = i; sort = y.sort; place = p }) | false ↦ find l ys (suc i) p ]) None
    go true true x f e = absurd (name-nothing (record { number = i; sort = k; count = c }) e)
    go true false x f e = absurd (false-true x)
    go false true x f e = absurd (false-true (sym x))
    go false false x f e = f e

pub declared : (s l ns : List ℕ) (names : List Name) (i p : ℕ) (w : Found) → Named s ns names → look_up s l ns i ≡ Some w → Declared l names i p w.number w.sort w.count
unfolding look_up find
declared s l [] [] i p z h e = absurd (name-nothing z (sym e))
declared s l [] (y ∷ ys) i p z h e = absurd h
declared s l (a ∷ []) ys i p z h e = absurd h
declared s l (a ∷ b ∷ []) ys i p z h e = absurd h
declared s l (a ∷ b ∷ d ∷ []) ys i p z h e = absurd h
declared s l (a ∷ b ∷ d ∷ f ∷ []) ys i p z h e = absurd h
declared s l (a ∷ b ∷ d ∷ f ∷ q ∷ ns) [] i p z h e = absurd h
declared s l (a ∷ b ∷ d ∷ f ∷ q ∷ ns) (y ∷ ys) i p z h e = go (same_bytes l (spelling s a b)) (same_bytes l y.spelling) refl (ap (same_bytes l) h.0) (λ x. declared s l ns ys (suc i) p z h.2 x) e
  where
    go : (u v : Bool) → same_bytes l y.spelling ≡ v → v ≡ u → (look_up s l ns (suc i) ≡ Some z → Declared l ys (suc i) p z.number z.sort z.count)
        → (elim u as (λ _. Option Found) [ true ↦ Some (record { number = i; sort = d; count = f }) | false ↦ look_up s l ns (suc i) ]) ≡ Some z
        → Declared l (y ∷ ys) i p z.number z.sort z.count
    go true true w x g e =
        let ij : i ≡ z.number = cc in
        let dk : d ≡ z.sort = cc in
        let fc : f ≡ z.count = cc in
        record { used = record { number = i; sort = y.sort; place = p }; stands = rw (find, w) refl; numbered = ij; shaped = rw (← dk, ← fc) h.1; placed = refl }
    go true false w x g e = absurd (false-true x)
    go false true w x g e = absurd (false-true (sym x))
    go false false w x g e = let r = g e in record { used = r.used; stands = rw (find, w) r.stands; numbered = r.numbered; shaped = r.shaped; placed = r.placed }

-- five words for each name
pub named-length : (s ns : List ℕ) (names : List Name) → Named s ns names → length ns ≡ length names * 5
named-length s [] [] h = refl
named-length s [] (y ∷ ys) h = absurd h
named-length s (a ∷ []) ys h = absurd h
named-length s (a ∷ b ∷ []) ys h = absurd h
named-length s (a ∷ b ∷ c ∷ []) ys h = absurd h
named-length s (a ∷ b ∷ c ∷ d ∷ []) ys h = absurd h
named-length s (a ∷ b ∷ c ∷ d ∷ e ∷ ns) [] h = absurd h
named-length s (a ∷ b ∷ c ∷ d ∷ e ∷ ns) (y ∷ ys) h = omega (arith, named-length s ns ys h.2)

pub index-sort : (x : Sort) (k c : ℕ) → Shaped x k c → k ≡ 0 → is_index x ≡ true
unfolding is_index
index-sort Syntax.index k c h e = refl
index-sort (Syntax.integer d) k c h e = absurd (omega (arith, h.0, e))
index-sort (Syntax.real d) k c h e = absurd (omega (arith, h.0, e))
index-sort (Syntax.formula f) k c h e = absurd (omega (arith, h, e))
index-sort (Syntax.discrete d) k c h e = absurd (omega (arith, h.0, e))
index-sort (Syntax.continuous d) k c h e = absurd (omega (arith, h.0, e))

pub other-sort : (x : Sort) (k c : ℕ) → Shaped x k c → (k ≡ 0 → ⊥) → is_index x ≡ false
unfolding is_index
other-sort Syntax.index k c h e = absurd (e h)
other-sort (Syntax.integer d) k c h e = refl
other-sort (Syntax.real d) k c h e = refl
other-sort (Syntax.formula f) k c h e = refl
other-sort (Syntax.discrete d) k c h e = refl
other-sort (Syntax.continuous d) k c h e = refl

-- ---- rows that are written

-- five words from the i-th on
abbrev words : List ℕ → ℕ → ℕ → ℕ → ℕ → ℕ → ℕ → List ℕ
words t i a b c d e = set (set (set (set (set t i a) (i + 1) b) (i + 2) c) (i + 3) d) (i + 4) e

words-put : (t : List ℕ) (i a b c d e : ℕ) → i + 5 ≤ length t → take (i + 5) (words t i a b c d e) ≡ take i t ++ (a ∷ b ∷ c ∷ d ∷ e ∷ [])
words-put [] i a b c d e h = absurd (omega arith)
words-put (x ∷ []) zero a b c d e h = absurd (omega arith)
words-put (x ∷ y ∷ []) zero a b c d e h = absurd (omega arith)
words-put (x ∷ y ∷ z ∷ []) zero a b c d e h = absurd (omega arith)
words-put (x ∷ y ∷ z ∷ v ∷ []) zero a b c d e h = absurd (omega arith)
words-put (x ∷ y ∷ z ∷ v ∷ w ∷ t) zero a b c d e h = refl
words-put (x ∷ t) (suc i) a b c d e h =
    let i₁ : suc i + 1 ≡ suc (i + 1) = omega arith in
    let i₂ : suc i + 2 ≡ suc (i + 2) = omega arith in
    let i₃ : suc i + 3 ≡ suc (i + 3) = omega arith in
    let i₄ : suc i + 4 ≡ suc (i + 4) = omega arith in
    let i₅ : suc i + 5 ≡ suc (i + 5) = omega arith in
    rw (i₁, i₂, i₃, i₄, i₅) (ap (λ l. x ∷ l) (words-put t i a b c d e (omega arith)))

words-behind : (t : List ℕ) (i j a b c d e : ℕ) → i + 5 ≤ j → drop j (words t i a b c d e) ≡ drop j t
words-behind t i j a b c d e h =
    drop-set-lt j _ (i + 4) e (omega arith) ∙ drop-set-lt j _ (i + 3) d (omega arith) ∙ drop-set-lt j _ (i + 2) c (omega arith) ∙ drop-set-lt j _ (i + 1) b (omega arith) ∙ drop-set-lt j t i a (omega arith)

pub put-none : (t row : List ℕ) (n : ℕ) → length t / 5 ≤ n → Put t n row t
put-none t row n h = record { size = refl; rows = rw (le-ltb n (length t / 5) h) refl; rest = refl }

pub put_five : (t : List ℕ) (n a b c d e : ℕ) → n < length t / 5 → Put t n (a ∷ b ∷ c ∷ d ∷ e ∷ []) (words t (n * 5) a b c d e)
put_five t n a b c d e h =
    let i : (n + 1) * 5 ≡ n * 5 + 5 = omega arith in
    record {
      size = simp length-set;
      rows = rw (lt-ltb n (length t / 5) h, i) (words-put t (n * 5) a b c d e (omega arith));
      rest = words-behind t (n * 5) ((n + 1) * 5) a b c d e (omega arith);
    }

-- a row for which there is room
pub put-rows : (t : List ℕ) (n : ℕ) (row t' : List ℕ) → Put t n row t' → n * 5 + 5 ≤ length t → rows_of (n + 1) t' ≡ rows_of n t ++ row
put-rows t n row t' p h = rw (lt-ltb n (length t / 5) (omega arith)) at p.rows
