-- Laws of keys: a digit tells its number and its order; two keys are equal where name and element are, and are ordered as name
-- and element are.
use mathlib.Core.Path.{◌≡◌, refl, sym, ◌∙◌, ap}
use mathlib.Core.Bool.{Bool, true, false, cond, ◌&&◌}
use mathlib.Core.List.{List, [], ◌∷◌}
use mathlib.Core.Logic.{◌↔◌, ◌⊎◌, inl, inr, ⊎_elim}
use Prim.Native.Nat.{ℕ, zero, suc, ◌+◌, ◌*◌, ◌<◌, ◌≤◌, min}
use native.Mathlib.Omega.{arith}
use native.Mathlib.Nat.{eq-or-lt_of_le, mul-le-mul_right}
use borrow.Author.Tests.{lt-ltb, le-ltb, ltb-true, ltb-false, le-leb, lt-leb, leb-true, leb-false, eq-eqb, ne_eqb, eqb-true, eqb-false}
use lib.Dec.{eqb, leb, ltb}
use lib.ListN.{length, get_or}
use lib.IntN.{ℤ, pos, negsuc, nat_abs, ◌+ℤ◌}
use lib.Signed.{◌≤ℤ◌}
use Rattle.rules.specs.Limits.{mantissa_limit, index_limit}
use Rattle.rational.specs.Integer.{up, down}
use Rattle.rational.proofs.Integer.{by_parts, add_parts, le_parts, le-of-parts}
use Rattle.language.specs.Scope.{same_element}
use Rattle.language.specs.Demand3.{Precedes}
use Rattle.store.specs.Key.{digit_of, digit_at, name_bound, name_digit, paired, three_words, key_number, key_of}
use Rattle.store.specs.Entries.{Keyed}
use Rattle.language.proofs.Gathered.{same_element-true}
use Rattle.language.proofs.EachNumbered.{same_element-refl}

-- ---- digits

-- a number in bounds moved above zero, by its parts
pub digit-parts : (k : ℤ) → nat_abs k ≤ mantissa_limit → digit_of k + down k ≡ up k + 1000000000
unfolding digit_of mantissa_limit
digit-parts (pos a) h = simp (le-leb a 999999999 h) (omega arith)
digit-parts (negsuc a) h = simp (le-leb (suc a) 999999999 h, le-ltb 1000000000 (suc a) (omega arith)) (omega arith)

module _ (k : ℤ) where
  pub digit-out : mantissa_limit < nat_abs k → 0 ≡ digit_of k
  unfolding digit_of
  digit-out h = rw (lt-leb (nat_abs k) mantissa_limit h)

  pub digit-below : digit_of k < 2147483648
  unfolding mantissa_limit
  digit-below = go (leb (nat_abs k) mantissa_limit) refl
    where
      sizes : (k : ℤ) → nat_abs k ≤ 999999999 → up k ≤ 999999999
      sizes (pos a) h = h
      sizes (negsuc a) h = omega arith

      go : (t : Bool) → leb (nat_abs k) mantissa_limit ≡ t → digit_of k < 2147483648
      go true e = let h = leb-true (nat_abs k) mantissa_limit e in omega (arith, digit-parts k h, sizes k h)
      go false e = rw (← (digit-out (leb-false (nat_abs k) mantissa_limit e))) (omega arith)

  pub digit-above : nat_abs k ≤ mantissa_limit → 0 < digit_of k
  unfolding mantissa_limit
  digit-above h = go k h (digit-parts k h)
    where
      go : (j : ℤ) → nat_abs j ≤ 999999999 → digit_of k + down j ≡ up j + 1000000000 → 0 < digit_of k
      go (pos a) h e = omega arith
      go (negsuc a) h e = omega arith

module _ (j k : ℤ) (a : nat_abs j ≤ mantissa_limit) (b : nat_abs k ≤ mantissa_limit) where
  digit-equal : digit_of j ≡ digit_of k → j ≡ k
  digit-equal e = by_parts j k (omega (arith, digit-parts j a, digit-parts k b))

  digit-less : (j +ℤ pos 1) ≤ℤ k → digit_of j < digit_of k
  digit-less h = omega (arith, digit-parts j a, digit-parts k b, add_parts j (pos 1), le_parts (j +ℤ pos 1) k h)

  less-digit : digit_of j < digit_of k → (j +ℤ pos 1) ≤ℤ k
  less-digit h = le-of-parts (j +ℤ pos 1) k (omega (arith, digit-parts j a, digit-parts k b, add_parts j (pos 1)))

pub digit_at_lem : (l : List ℤ) (i : ℕ) → i < length l → digit_of (get_or l i (pos 0)) ≡ digit_at l i
unfolding digit_at
digit_at_lem [] i h = absurd (omega arith)
digit_at_lem (k ∷ l) zero h = refl
digit_at_lem (k ∷ l) (suc i) h = digit_at_lem l i (omega arith)

pub digit-past : (l : List ℤ) (i : ℕ) → length l ≤ i → 0 ≡ digit_at l i
unfolding digit_at
digit-past [] i h = refl
digit-past (k ∷ l) zero h = absurd (omega arith)
digit-past (k ∷ l) (suc i) h = digit-past l i (omega arith)

-- ---- digits in a row

pub as-less : {a b x y : ℕ} → a ≡ x → b ≡ y → x < y → a < b
as-less e f h = omega arith

-- the first that differs settles it
pub higher : (B h l a b : ℕ) → h < a → l < B → h * B + l < a * B + b
higher B h l a b p q = omega (arith, mul-le-mul_right {m = h + 1} {n = a} B (omega arith))

tail : List ℤ → List ℤ
tail [] = []
tail (k ∷ l) = l

-- the digits of l behind x, each at the base of its position
behind : List ℕ → ℕ → List ℤ → ℕ
behind [] x l = x
behind (b ∷ bs) x l = behind bs (x * b + digit_at l 0) (tail l)

-- every base has room for a digit
Wide : List ℕ → Type 0
Wide [] = Unit {0}
Wide (b ∷ bs) = (2147483648 ≤ b) × Wide bs

digit-first : (l : List ℤ) → digit_at l 0 < 2147483648
unfolding digit_at
digit-first [] = omega arith
digit-first (k ∷ l) = digit-below k

behind-less : (bs : List ℕ) → Wide bs → (x y : ℕ) (l m : List ℤ) → x < y → behind bs x l < behind bs y m
unfolding behind Wide
behind-less [] w x y l m h = h
behind-less (b ∷ bs) w x y l m h =
    behind-less bs w.1 _ _ (tail l) (tail m) (higher b x (digit_at l 0) y (digit_at m 0) h (omega (arith, digit-first l, w.0)))

-- by the first digit that differs, an absent one the least
Sooner : List ℤ → List ℤ → Type 0
Sooner [] [] = ⊥
Sooner [] (k ∷ m) = Unit {0}
Sooner (j ∷ l) [] = ⊥
Sooner (j ∷ l) (k ∷ m) = (digit_of j < digit_of k) ⊎ ((j ≡ k) × Sooner l m)

Small : List ℤ → Type 0
Small [] = Unit {0}
Small (k ∷ l) = (nat_abs k ≤ mantissa_limit) × Small l

small_all : (l : List ℤ) → ((i : ℕ) → nat_abs (get_or l i (pos 0)) ≤ mantissa_limit) → Small l
unfolding Small
small_all [] h = tt
small_all (k ∷ l) h = (h 0, small_all l (λ i. h (suc i)))

pub nearer : (k : ℕ) {m n : ℕ} → m < n → k + m < k + n
nearer k h = omega arith

sooner-less : (bs : List ℕ) → Wide bs → (x : ℕ) (l m : List ℤ) → Small m → length m ≤ length bs → Sooner l m → behind bs x l < behind bs x m
unfolding behind Wide Sooner Small tail digit_at
sooner-less bs w x [] [] s f h = absurd h
sooner-less bs w x (j ∷ l) [] s f h = absurd h
sooner-less [] w x [] (k ∷ m) s f h = absurd (omega arith)
sooner-less [] w x (j ∷ l) (k ∷ m) s f h = absurd (omega arith)
sooner-less (b ∷ bs) w x [] (k ∷ m) s f h = behind-less bs w.1 _ _ [] m (nearer (x * b) (digit-above k s.0))
sooner-less (b ∷ bs) w x (j ∷ l) (k ∷ m) s f (inl h) = behind-less bs w.1 _ _ l m (nearer (x * b) h)
sooner-less (b ∷ bs) w x (j ∷ l) (k ∷ m) s f (inr h) =
    rw h.0 (sooner-less bs w.1 (x * b + digit_of k) l m s.1 (omega arith) h.1)

pub three : {C : Type 0} (a b : ℕ) → (a < b → C) → (a ≡ b → C) → (b < a → C) → C
three {C} a b f g h = go (ltb a b) refl
  where
    go : (x : Bool) → ltb a b ≡ x → C
    go true e = f (ltb-true a b e)
    go false e = ⊎_elim (λ w. g (sym w)) h (eq-or-lt_of_le {n = b} {m = a} (ltb-false a b e))

sooner-total : (l m : List ℤ) → Small l → Small m → (l ≡ m) ⊎ (Sooner l m ⊎ Sooner m l)
unfolding Sooner Small
sooner-total [] [] s t = inl refl
sooner-total [] (k ∷ m) s t = inr (inl tt)
sooner-total (j ∷ l) [] s t = inr (inr tt)
sooner-total (j ∷ l) (k ∷ m) s t = three (digit_of j) (digit_of k)
    (λ h. inr (inl (inl h)))
    (λ h. let e = digit-equal j k s.0 t.0 h in
    ⊎_elim (λ p. inl (cc)) (λ q. inr (⊎_elim (λ p. inl (inr (e, p))) (λ p. inr (inr (sym e, p))) q)) (sooner-total l m s.1 t.1))
    (λ h. inr (inr (inl h)))

precedes-sooner : (l m : List ℤ) → Small l → Small m → Precedes l m → Sooner l m
unfolding Sooner Small
precedes-sooner [] m s t h = absurd h
precedes-sooner (j ∷ l) [] s t h = absurd h
precedes-sooner (j ∷ l) (k ∷ m) s t (inl h) = inl (digit-less j k s.0 t.0 h)
precedes-sooner (j ∷ l) (k ∷ m) s t (inr h) = inr (h.0, precedes-sooner l m s.1 t.1 h.1)

sooner-precedes : (l m : List ℤ) → Small l → Small m → length l ≡ length m → Sooner l m → Precedes l m
unfolding Sooner Small
sooner-precedes [] [] s t f h = h
sooner-precedes [] (k ∷ m) s t f h = absurd (omega arith)
sooner-precedes (j ∷ l) [] s t f h = h
sooner-precedes (j ∷ l) (k ∷ m) s t f (inl h) = inl (less-digit j k s.0 t.0 h)
sooner-precedes (j ∷ l) (k ∷ m) s t f (inr h) = inr (h.0, sooner-precedes l m s.1 t.1 (omega arith) h.1)

-- ---- keys

-- the three words as digits in a row: the two digits of the middle word fill it, 33 bits and 31
bases : List ℕ
bases = 2147483648 ∷ 8589934592 ∷ 2147483648 ∷ 18446744073709551616 ∷ []

wide-bases : Wide bases
unfolding Wide bases
wide-bases = (omega arith, (omega arith, (omega arith, (omega arith, tt))))

regroup : (x b c d : ℕ) → (x * 18446744073709551616 + (b * 2147483648 + c)) * 18446744073709551616 + d ≡ ((x * 8589934592 + b) * 2147483648 + c) * 18446744073709551616 + d
regroup x b c d = ap (λ (y : ℕ). y * 18446744073709551616 + d) (omega arith)

key-behind : (i : ℕ) (l : List ℤ) → key_of i l ≡ behind bases (name_digit i) l
unfolding key_of three_words paired digit_at behind bases tail
key-behind i [] = regroup _ 0 0 0
key-behind i (a ∷ []) = regroup _ 0 0 0
key-behind i (a ∷ b ∷ []) = regroup _ (digit_of b) 0 0
key-behind i (a ∷ b ∷ c ∷ []) = regroup _ (digit_of b) (digit_of c) 0
key-behind i (a ∷ b ∷ c ∷ d ∷ l) = regroup _ (digit_of b) (digit_of c) (digit_of d)

pub name_least : (i : ℕ) → min i 1048576 ≡ name_digit i
unfolding name_digit name_bound
name_least i = go (ltb i 1048576) refl
  where
    go : (b : Bool) → ltb i 1048576 ≡ b → min i 1048576 ≡ cond b i 1048576
    go true e = omega (arith, ltb-true i 1048576 e)
    go false e = omega (arith, ltb-false i 1048576 e)

pub name-digit : (i : ℕ) → i < name_bound → name_digit i ≡ i
unfolding name_digit
name-digit i h = rw (lt-ltb i name_bound h)

key-small : {i : ℕ} {l : List ℤ} → Keyed i l → Small l
key-small {l = l} a = small_all l a.subscripts.small

key-few : {i : ℕ} {l : List ℤ} → Keyed i l → length l ≤ length bases
unfolding bases index_limit
key-few a = a.subscripts.few

module _ {i j : ℕ} {l m : List ℤ} (a : Keyed i l) (b : Keyed j m) where
  pub key-name : i < j → key_of i l < key_of j m
  key-name h =
      as-less (key-behind i l) (key-behind j m)
      (behind-less bases wide-bases _ _ l m (as-less (name-digit i a.named) (name-digit j b.named) h))

  key-sooner : i ≡ j → Sooner l m → key_of i l < key_of j m
  key-sooner e h = rw e (as-less (key-behind j l) (key-behind j m) (sooner-less bases wide-bases (name_digit j) l m (key-small b) (key-few b) h))

  pub key-precedes : i ≡ j → Precedes l m → key_of i l < key_of j m
  key-precedes e h = key-sooner e (precedes-sooner l m (key-small a) (key-small b) h)

module _ {i j : ℕ} {l m : List ℤ} (a : Keyed i l) (b : Keyed j m) where
  -- keys are equal where name and element are
  pub key-equal : key_of i l ≡ key_of j m → (i ≡ j) × (l ≡ m)
  key-equal e = three i j
      (λ h. absurd (omega (arith, key-name a b h)))
      (λ p. (
        p,
        ⊎_elim (λ q. q) (⊎_elim (λ h. absurd (omega (arith, key-sooner a b p h))) (λ h. absurd (omega (arith, key-sooner b a (sym p) h))))
            (sooner-total l m (key-small a) (key-small b)),
      ))
      (λ h. absurd (omega (arith, key-name b a h)))

  pub equal-key : (key_of i l ≡ key_of j m) ↔ ((i ≡ j) × (l ≡ m))
  equal-key = (key-equal, λ h. cc (h.0, h.1))

  -- and are ordered as name and element are, the first number outermost
  pub less-key : length l ≡ length m → (key_of i l < key_of j m) ↔ ((i < j) ⊎ ((i ≡ j) × Precedes l m))
  less-key f = (
    λ u. three i j
        (λ h. inl h)
        (λ p. inr (
          p,
          ⊎_elim
              (λ q. absurd (let w : key_of i l ≡ key_of j m = cc in omega arith))
              (⊎_elim (λ h. sooner-precedes l m (key-small a) (key-small b) f h) (λ h. absurd (omega (arith, key-sooner b a (sym p) h))))
              (sooner-total l m (key-small a) (key-small b)),
        ))
        (λ h. absurd (omega (arith, key-name b a h))),
    ⊎_elim (λ h. key-name a b h) (λ h. key-precedes a b h.0 h.1),
  )

  -- the test of keys is that of name and element
  pub key-same : (eqb i j && same_element l m) ≡ eqb (key_of j m) (key_of i l)
  key-same = go (eqb i j) refl (same_element l m) refl
    where
      differ : (i ≡ j → l ≡ m → ⊥) → false ≡ eqb (key_of j m) (key_of i l)
      differ f = sym (ne_eqb (key_of j m) (key_of i l) (λ e. let h = key-equal (sym e) in f h.0 h.1))

      go : (s : Bool) → eqb i j ≡ s → (t : Bool) → same_element l m ≡ t → (s && t) ≡ eqb (key_of j m) (key_of i l)
      go true p true q = sym (eq-eqb (key_of j m) (key_of i l) (cc (eqb-true i j p, same_element-true l m q)))
      go true p false q = differ (λ e f. let w : false ≡ true = sym q ∙ rw f (same_element-refl m) in let z : ◌≡◌ {A = ℕ} 0 1 = cc in omega arith)
      go false p true q = differ (λ e f. eqb-false i j p e)
      go false p false q = differ (λ e f. eqb-false i j p e)

-- the words of a key
pub key-words : (i : ℕ) (l : List ℤ) (n a b c d h m : ℕ) → n ≡ name_digit i → a ≡ digit_at l 0 → h ≡ paired n a → b ≡ digit_at l 1 → c ≡ digit_at l 2
    → m ≡ paired b c → d ≡ digit_at l 3 → key_number (record { high = h; middle = m; low = d }) ≡ key_of i l
unfolding key_number key_of
key-words i l n a b c d h m p q r s t u v = cc
