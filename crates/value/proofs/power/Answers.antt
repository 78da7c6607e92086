-- `value::power` meets its contract: from ten on, the ninth power times one of the first ten.
use mathlib.Core.Path.{◌≡◌, ◌∙◌, sym, ap}
use Prim.Native.Nat.{ℕ, ◌+◌, ◌*◌, ◌-◌, ◌^◌, ◌≤◌}
use native.Mathlib.Omega.{arith}
use lib.Pow.{pow-add}
use Rattle.value.proofs.power.Goals as goal

product : (k r : ℕ) → r ≡ 10 ^ (k - 9) → 9 ≤ k → 1000000000 * r ≡ 10 ^ k
product k r e h =
    let split : 9 + (k - 9) ≡ k = omega arith in
    ap (λ (x : ℕ). 1000000000 * x) e ∙ sym (pow-add 10 9 (k - 9)) ∙ ap (λ (x : ℕ). 10 ^ x) split

pub returns : goal.returns
returns c = product _ _ c.small_power-2.ensures (omega arith)
