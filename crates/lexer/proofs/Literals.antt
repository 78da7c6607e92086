-- What a literal token is worth, for every spelling: the decimal, or the decimal times the power of ten behind it.
use Rattle.std.specs.Prelude.{Some}
use mathlib.Core.Path.{◌≡◌, refl, ap}
use mathlib.Core.Bool.{Bool, true, false, cond, ◌||◌}
use mathlib.Core.List.{List, [], ◌∷◌, append-nil}
use Prim.Native.Nat.{ℕ, zero, suc, ◌+◌, ◌≤◌}
use native.Mathlib.Omega.{arith}
use borrow.Author.Tests.{ne_eqb, eqb-true, le-leb, leb-true, leb-false}
use lib.Dec.{eqb, leb}
use lib.IntN.{ℤ, pos, neg_ℤ}
use lib.ListN.{length, take, drop}
use lib.Seq.{length-take-le}
use Rattle.rules.specs.Limits.{power_digits}
use Rattle.value.specs.Decimal.{fit_of}
use Rattle.value.specs.Literal.{is_digit, all_digits, number_from, is_decimal, decimal_number, power_by, power_of, scaled_by}
use Rattle.value.proofs.Powers.{literal-decimal, literal-power}
use Rattle.value.proofs.Ranges.{and-true, and-false}
use Rattle.lexer.specs.Text.{front, literal_kind, valued, sign_length, power_size, power_length, powered}
use Rattle.lexer.proofs.Runs.{front_length}

-- ---- the power behind a decimal is one that is read

-- the power that the digits p write
record Digits (minus : Bool) (p : List ℕ) : Type 0 where
  power : ℤ
  read : power_by minus p ≡ Some power

digits-taken : (l : List ℕ) (m : ℕ) → m ≤ length (front is_digit l) → all_digits (take m l) ≡ true
unfolding front all_digits
digits-taken l zero h = refl
digits-taken [] (suc m) h = refl
digits-taken (b ∷ l) (suc m) h = go (is_digit b) refl (digits-taken l m) h
  where
    go : (u : Bool) → is_digit b ≡ u → (m ≤ length (front is_digit l) → all_digits (take m l) ≡ true)
        → suc m ≤ length {A = ℕ} (elim u as (λ _. List ℕ) [ true ↦ b ∷ front is_digit l | false ↦ [] ]) → all_digits (b ∷ take m l) ≡ true
    go true e r h = rw (e, all_digits) (r (omega arith))
    go false e r h = absurd (omega arith)

digits-read : (minus : Bool) (l : List ℕ) (m : ℕ) → 1 ≤ m → m ≤ 2 → m ≤ length (front is_digit l) → Digits minus (take m l)
unfolding power_by power_digits
digits-read minus l m h g k =
    let n : length (take m l) ≡ m = length-take-le m l (omega (arith, front_length is_digit l)) in
    record {
      power = cond minus (neg_ℤ (pos (number_from 0 (take m l)))) (pos (number_from 0 (take m l)));
      read = rw (digits-taken l m k, n, le-leb 1 m h, le-leb m 2 g);
    }

-- a power stands at the front of r: its bytes behind the `E`, and what they write
pub record PowerAt (r : List ℕ) : Type 0 where
  pub bytes : List ℕ
  pub power : ℤ
  pub taken : take (power_length r) r ≡ 69 ∷ bytes
  pub read : power_of bytes ≡ Some power

-- behind a sign of g bytes: at most two of the n digits that stand there
record SizeOf (g n : ℕ) : Type 0 where
  digits : ℕ
  size : power_size g n ≡ suc (g + digits)
  some : 1 ≤ digits
  two : digits ≤ 2
  most : digits ≤ n

size_of : (g n : ℕ) → (power_size g n ≡ 0 → ⊥) → SizeOf g n
unfolding power_size power_digits
size_of g zero f = absurd (f refl)
size_of g (suc n) f = go (leb (suc n) 2) refl
  where
    go : (u : Bool) → leb (suc n) 2 ≡ u → SizeOf g (suc n)
    go true e = record { digits = suc n; size = rw e (omega arith); some = omega arith; two = leb-true (suc n) 2 e; most = omega arith }
    go false e = record { digits = 2; size = rw e (omega arith); some = omega arith; two = omega arith; most = omega (arith, leb-false (suc n) 2 e) }

-- the power that a sign and m digits write, or m digits
record Reads (p : List ℕ) : Type 0 where
  power : ℤ
  read : power_of p ≡ Some power

module _ (c : ℕ) (t : List ℕ) (m : ℕ) (h : 1 ≤ m) (g : m ≤ 2) where
  signed-read : (minus : Bool) → eqb c 45 ≡ minus → (minus ≡ false → eqb c 43 ≡ true) → m ≤ length (front is_digit t) → Reads (c ∷ take m t)
  unfolding power_of
  signed-read true p f k = let d = digits-read true t m h g k in record { power = d.power; read = rw p d.read }
  signed-read false p f k = let d = digits-read false t m h g k in record { power = d.power; read = rw (p, f refl) d.read }

  plain-read : eqb c 45 ≡ false → eqb c 43 ≡ false → m ≤ length (front is_digit (c ∷ t)) → Reads (take m (c ∷ t))
  unfolding power_of
  plain-read p q k = go m (digits-read false (c ∷ t) m h g k) h
    where
      go : (m : ℕ) → Digits false (take m (c ∷ t)) → 1 ≤ m → Reads (take m (c ∷ t))
      go zero d h = absurd (omega arith)
      go (suc m) d h = record { power = d.power; read = rw (p, q) d.read }

  power-read : m ≤ length (front is_digit (drop (sign_length (c ∷ t)) (c ∷ t))) → Reads (take (sign_length (c ∷ t) + m) (c ∷ t))
  unfolding sign_length
  power-read k = go (eqb c 45) refl (eqb c 43) refl k
    where
      one : 1 + m ≡ suc m
      one = omega arith

      none : 0 + m ≡ m
      none = omega arith

      go : (u : Bool) → eqb c 45 ≡ u → (w : Bool) → eqb c 43 ≡ w → m ≤ length (front is_digit (drop (cond (w || u) 1 0) (c ∷ t))) → Reads (take (cond (w || u) 1 0 + m) (c ∷ t))
      go true p true q k = rw one (signed-read true p (λ e. cc) k)
      go true p false q k = rw one (signed-read true p (λ e. cc) k)
      go false p true q k = rw one (signed-read false p (λ e. q) k)
      go false p false q k = rw none (plain-read p q k)

power-reads : (t : List ℕ) (m : ℕ) → 1 ≤ m → m ≤ 2 → m ≤ length (front is_digit (drop (sign_length t) t)) → Reads (take (sign_length t + m) t)
unfolding sign_length front
power-reads [] m h g k = absurd (omega arith)
power-reads (c ∷ t) m h g k = power-read c t m h g k

pub power_at : (r : List ℕ) → (power_length r ≡ 0 → ⊥) → PowerAt r
unfolding power_length
power_at [] f = absurd (f refl)
power_at (b ∷ t) f = go (eqb b 69) refl f
  where
    n : ℕ
    n = length (front is_digit (drop (sign_length t) t))

    found : (p : eqb b 69 ≡ true) → SizeOf (sign_length t) n → PowerAt (b ∷ t)
    found p z =
        let q = power-reads t z.digits z.some z.two z.most in
        record {
          bytes = take (sign_length t + z.digits) t;
          power = q.power;
          taken = rw (p, z.size) (ap (λ (c : ℕ). c ∷ take (sign_length t + z.digits) t) (eqb-true b 69 p));
          read = q.read;
        }

    go : (u : Bool) → eqb b 69 ≡ u → (cond u (power_size (sign_length t) n) 0 ≡ 0 → ⊥) → PowerAt (b ∷ t)
    go true p f = found p (size_of (sign_length t) n f)
    go false p f = absurd (f refl)

-- ---- the token

module _ (w : Bool) (p : ℕ) (l r : List ℕ) (h : is_decimal l ≡ true) where
  -- a decimal with no power behind it
  pub decimal-token : power_length r ≡ 0 → (powered w p l r).token.kind ≡ literal_kind w (fit_of (decimal_number l))
  unfolding powered valued
  decimal-token e = rw (e, append-nil l, literal-decimal l h) (ap (λ (u : Bool). literal_kind u (fit_of (decimal_number l))) (and-true w))

  -- a decimal and a power: their product, and no longer digits only
  pub power-token : (f : power_length r ≡ 0 → ⊥) → (powered w p l r).token.kind ≡ literal_kind false (fit_of (scaled_by (power_at r f).power (decimal_number l)))
  unfolding powered valued
  power-token f =
      let q = power_at r f in
      rw (ne_eqb (power_length r) 0 f, q.taken, literal-power q.bytes l q.power h q.read)
      (ap (λ (u : Bool). literal_kind u (fit_of (scaled_by q.power (decimal_number l)))) (and-false w))
