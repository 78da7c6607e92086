-- The rank of an element falls where one of its runs goes on.
use mathlib.Core.Path.{◌≡◌, subst}
use mathlib.Core.Bool.{true}
use mathlib.Core.List.{List, [], ◌∷◌}
use Prim.Native.Nat.{◌^◌, ◌<◌}
use native.Mathlib.Omega.{arith}
use native.Mathlib.Nat.{mul-le-mul_right, suc-mul, pow-zero, pow-succ', mod-lt}
use lib.ListN.{length}
use lib.IntN.{pos, ◌+ℤ◌, ◌-ℤ◌}
use lib.Signed.{◌≤ℤ◌, lt_z}
use Rattle.rational.specs.Integer.{up}
use Rattle.rational.proofs.Integer.{add_parts, le_parts}
use Rattle.elements.specs.declared.here.Level.{Level}
use Rattle.elements.specs.Held.{word_base, ahead, rank}
use Rattle.elements.proofs.Numbers.{less, difference}

-- a run that goes on has fewer numbers behind its own
pub ahead-less : (l q : Level) → up (l.upper -ℤ l.number) < word_base → lt_z l.number l.upper ≡ true → q.upper ≡ l.upper → (l.number +ℤ pos 1) ≤ℤ q.number → ahead q < ahead l
unfolding ahead word_base
ahead-less l q h t u n = rw u (omega (arith, difference l.number l.upper, difference q.number l.upper, less l.number l.upper t, le_parts _ _ n, add_parts l.number (pos 1)))

-- ---- ranks of equally many runs

ahead-bound : (l : Level) → ahead l < word_base
unfolding ahead word_base
ahead-bound l = mod-lt (up (l.upper -ℤ l.number)) (omega arith)

rank-bound : (ls : List Level) → rank ls < word_base ^ length ls
unfolding rank
rank-bound [] = omega (arith, pow-zero word_base)
rank-bound (l ∷ ls) =
    let p = word_base ^ length ls in
    omega (arith, rank-bound ls, suc-mul (ahead l) p, mul-le-mul_right p (ahead-bound l), pow-succ' word_base (length ls))

-- the first run goes on
pub rank-first : (l q : Level) (x y : List Level) → length y ≡ length x → ahead q < ahead l → rank (q ∷ y) < rank (l ∷ x)
unfolding rank
rank-first l q x y e h =
    let p = word_base ^ length x in
    rw e (omega (arith, subst (λ n. rank y < word_base ^ n) e (rank-bound y), suc-mul (ahead q) p, mul-le-mul_right p h))

-- one inside it goes on
pub rank-inner : (l : Level) (x y : List Level) → length y ≡ length x → rank y < rank x → rank (l ∷ y) < rank (l ∷ x)
unfolding rank
rank-inner l x y e h = rw e (omega arith)
