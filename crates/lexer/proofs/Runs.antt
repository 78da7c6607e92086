-- Runs of bytes of a class, by positions, and parts of the text.
use mathlib.Core.Path.{◌≡◌, refl, sym, ◌∙◌, ap}
use mathlib.Core.Bool.{Bool, true, false}
use mathlib.Core.List.{List, [], ◌∷◌}
use Prim.Native.Nat.{ℕ, suc, ◌+◌, ◌-◌, ◌<◌, ◌≤◌}
use native.Mathlib.Omega.{arith}
use lib.ListN.{length, get_or, take, drop, drop_of_length-le, length-drop}
use lib.Seq.{drop-drop}
use Rattle.std.proofs.lemmas.List.{drop_more}
use Rattle.lexer.specs.Text.{no_brace, front, behind}
use Rattle.lexer.specs.Inner.{RunLength}

-- ---- fronts

module _ (c : ℕ → Bool) where
  more : (s : List ℕ) (i : ℕ) → i < length s → c (get_or s i 0) ≡ true → length (front c (drop i s)) ≡ suc (length (front c (drop (i + 1) s)))
  unfolding front
  more s i h e = rw (drop_more s i 0 h) (rw (e, front))

  stop : (s : List ℕ) (i : ℕ) → i < length s → c (get_or s i 0) ≡ false → length (front c (drop i s)) ≡ 0
  unfolding front
  stop s i h e = rw (drop_more s i 0 h) (rw (e, front))

  pub front_out : (s : List ℕ) (i : ℕ) → length s ≤ i → front c (drop i s) ≡ []
  unfolding front
  front_out s i h = rw drop_of_length-le

  pub front-take : (l : List ℕ) → front c l ≡ take (length (front c l)) l
  unfolding front
  front-take [] = refl
  front-take (b ∷ t) = go (front-take t) (c b)
    where
      go : front c t ≡ take (length (front c t)) t → (u : Bool)
          → elim u as (λ _. List ℕ) [ true ↦ b ∷ front c t | false ↦ [] ]
          ≡ take (length {A = ℕ} (elim u as (λ _. List ℕ) [ true ↦ b ∷ front c t | false ↦ [] ])) (b ∷ t)
      go r true = ap (λ (l : List ℕ). b ∷ l) r
      go r false = refl

  pub behind-drop : (l : List ℕ) → behind c l ≡ drop (length (front c l)) l
  unfolding front behind
  behind-drop [] = refl
  behind-drop (b ∷ t) = go (behind-drop t) (c b)
    where
      go : behind c t ≡ drop (length (front c t)) t → (u : Bool)
          → elim u as (λ _. List ℕ) [ true ↦ behind c t | false ↦ b ∷ t ]
          ≡ drop (length {A = ℕ} (elim u as (λ _. List ℕ) [ true ↦ b ∷ front c t | false ↦ [] ])) (b ∷ t)
      go r true = r
      go r false = refl

  pub front_length : (l : List ℕ) → length (front c l) ≤ length l
  unfolding front
  front_length [] = omega arith
  front_length (b ∷ t) = go (front_length t) (c b)
    where
      go : length (front c t) ≤ length t → (u : Bool) → length {A = ℕ} (elim u as (λ _. List ℕ) [ true ↦ b ∷ front c t | false ↦ [] ]) ≤ length (b ∷ t)
      go r true = omega arith
      go r false = omega arith

  pub front-first : (b : ℕ) (t : List ℕ) → c b ≡ true → 1 ≤ length (front c (b ∷ t))
  unfolding front
  front-first b t e = rw (e, front) (omega arith)

-- ---- the loop of `run_length`

pub run_is : (s : List ℕ) (at : ℕ) (k : ℕ → Bool) (n : ℕ) → n ≡ length (front k (drop at s)) → RunLength s at k n
run_is s at k n e = record { count = e; bound = omega (arith, e, front_length k (drop at s), length-drop at s) }

-- i - at bytes of the run are passed
pub record Run (s : List ℕ) (at : ℕ) (k : ℕ → Bool) (i : ℕ) : Type 0 where
  pub low : at ≤ i
  pub same : (i - at) + length (front k (drop i s)) ≡ length (front k (drop at s))

pub run-first : (s : List ℕ) (at : ℕ) (k : ℕ → Bool) → Run s at k at
run-first s at k = record { low = omega arith; same = omega arith }

module _ (s : List ℕ) (at : ℕ) (k : ℕ → Bool) (i : ℕ) where
  pub run_more : (m : Bool) → Run s at k i → i < length s → m ≡ k (get_or s i 0) → m ≡ true → Run s at k (i + 1)
  run_more m w h e f =
      let n = more k s i h (sym e ∙ f) in
      record { low = omega (arith, w.low); same = omega (arith, n, w.low, w.same) }

  pub run-stop : (m : Bool) → Run s at k i → i < length s → m ≡ k (get_or s i 0) → m ≡ false → RunLength s at k (i - at)
  run-stop m w h e f = run_is s at k (i - at) (omega (arith, stop k s i h (sym e ∙ f), w.same))

  pub run_out : (n : ℕ) → Run s at k i → (at ≤ length s → i ≤ length s) → length s ≤ i → n ≡ length s - at → RunLength s at k n
  run_out n w g h e = run_is s at k n (omega (arith, ap length (front_out k s i h), front_length k (drop at s), length-drop at s, w.low, w.same))

-- ---- a run as a part of the text

module _ (s : List ℕ) (at : ℕ) (k : ℕ → Bool) (n : ℕ) (w : RunLength s at k n) where
  pub run-part : take n (drop at s) ≡ front k (drop at s)
  run-part = rw w.count (sym (front-take k (drop at s)))

  pub run-slice : take (at + n - at) (drop at s) ≡ front k (drop at s)
  run-slice = let e : at + n - at ≡ n = omega arith in rw e run-part

  pub run-behind : behind k (drop at s) ≡ drop (at + n) s
  run-behind = behind-drop k (drop at s) ∙ rw (← w.count) (drop-drop n at s)

-- ---- the part that `between_braces` gives

pub braces-out : (s : List ℕ) (at : ℕ) → length s ≤ at → take (length s - length s) (drop (length s) s) ≡ front no_brace (drop (at + 1) s)
braces-out s at h = let z : length s - length s ≡ 0 = omega arith in rw z (sym (front_out no_brace s (at + 1) (omega arith)))
