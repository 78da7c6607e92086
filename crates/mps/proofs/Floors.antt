-- Which rows have a floor, and the right sides of rows with a list of floors before those of the rows behind them.
use Rattle.std.specs.Prelude.{Option, Some, None}
use mathlib.Core.Path.{◌≡◌, refl, sym, ◌∙◌, ap}
use mathlib.Core.Bool.{Bool, true, false}
use mathlib.Core.List.{List, [], ◌∷◌, ◌++◌, map, append_assoc}
use Prim.Native.Nat.{ℕ, suc, ◌+◌}
use native.Mathlib.Omega.{arith}
use lib.ListN.{length}
use Rattle.value.specs.declared.Value.{Value}
use Rattle.mps.specs.Export.{right_head, floor_head, value_line, if_floor, first_floor, later_floors, right_lines}
use Rattle.mps.specs.Reading.{first_has, later_have}

abbrev pub has_floor : Option Value → Bool
has_floor None = false
has_floor (Some w) = true

pub first-has : (ws : List (Option Value)) → first_has (map has_floor ws) ≡ has_floor (first_floor ws)
first-has [] = refl
first-has (w ∷ ws) = refl

pub later-have : (ws : List (Option Value)) → later_have (map has_floor ws) ≡ map has_floor (later_floors ws)
later-have [] = refl
later-have (w ∷ ws) = refl

rights-append : (i : ℕ) (ws : List (Option Value)) (us vs : List Value) → length us ≡ length ws
    → right_lines i ws (us ++ vs) ≡ right_lines i ws us ++ right_lines (i + length ws) [] vs
unfolding right_lines
rights-append i [] [] vs h = let e : i + 0 ≡ i = omega arith in rw e
rights-append i (w ∷ ws) [] vs h = absurd (omega arith)
rights-append i [] (u ∷ us) vs h = absurd (omega arith)
rights-append i (w ∷ ws) (u ∷ us) vs h =
    let e : i + suc (length ws) ≡ suc i + length ws = omega arith in
    let line = value_line (right_head (suc i)) u in
    let low = if_floor w (λ v. value_line (floor_head (suc i)) v) in
    let others = right_lines (suc i) ws us in
    rw e
    (ap (λ r. line ++ (low ++ r)) (rights-append (suc i) ws us vs (omega arith))
    ∙ sym (append_assoc line (low ++ others) _ ∙ ap (λ r. line ++ r) (append_assoc low others _)))

pub both-rights : (ws : List (Option Value)) (us vs : List Value) → length us ≡ length ws
    → right_lines 0 ws (us ++ vs) ≡ right_lines 0 ws us ++ right_lines (length ws) [] vs
both-rights ws us vs h = let e : 0 + length ws ≡ length ws = omega arith in rw e at (rights-append 0 ws us vs h)
