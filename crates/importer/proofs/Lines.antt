-- What the writers write of valid values is what the definition's lines are.
use Rattle.std.specs.Prelude.{Option, Some, None}
use mathlib.Core.Path.{◌≡◌, refl}
use mathlib.Core.Bool.{Bool, true, false, cond}
use mathlib.Core.List.{List, [], ◌∷◌, ◌++◌, append-nil}
use Prim.Native.Nat.{ℕ, suc, ◌+◌, ◌<◌, ◌≤◌}
use native.Mathlib.Omega.{arith}
use native.Mathlib.Numerals.{add-one}
use borrow.Author.Tests.{leb-true}
use lib.Dec.{leb, ltb}
use Rattle.rules.specs.Limits.{mantissa_limit}
use Rattle.value.specs.declared.Value.{Value}
use Rattle.value.specs.Decimal.{Valid, is_zero}
use Rattle.value.specs.Printed.{Written}
use Rattle.value.proofs.Writing.{written_none, written_then, shown-valid}
use Rattle.language.specs.Listing.{Kind, row_line, var_line, col_line, kind_by, low_lines, upper_field}
use Rattle.language.specs.Listing as Listing
use Rattle.language.specs.Valid.{ValidIfAny}
use Rattle.listing.specs.Shown.{shown_upper, shown_line, shown_lines}
use Rattle.listing.specs.declared.Kind.{Kind as KindCode}
use Rattle.listing.specs.Kinds.{kind_in}
use Rattle.listing.specs.Bare.{bare_row, bare_variable}
use Rattle.listing.proofs.Showing.{natural-shown}
use Rattle.mps.specs.Report.{bare_line, bare_lines}
use Rattle.importer.specs.Sections.{cell_bytes, side_shown, side_bytes, bounds_bytes}

small : (n : ℕ) → n < 1024 → n ≤ mantissa_limit
unfolding mantissa_limit
small n h = omega arith

pub column-bare : (j i : ℕ) (v : Value) → j < 1024 → i < 1024 → Valid v → shown_line (col_line j i v) ≡ bare_line (col_line j i v)
unfolding shown_line bare_line
column-bare j i v h g k = cc (natural-shown j (small j h), natural-shown i (small i g), shown-valid v k)

row-bare : (n : ℕ) (q : Kind) (v : Value) → n < 1024 → Valid v → bare_row n q v ≡ bare_line (row_line n q v [] [])
unfolding bare_row bare_line
row-bare n q v h k = cc (natural-shown n (small n h), shown-valid v k)

low-bare : (n : ℕ) (w : Option Value) → n < 1024 → ValidIfAny w → shown_lines (low_lines n w) ≡ bare_lines (low_lines n w)
unfolding low_lines shown_lines bare_lines shown_line bare_line
low-bare n None h k = refl
low-bare n (Some v) h k = cc (natural-shown n (small n h), shown-valid v k)

upper-shown : (u : Option Value) → ValidIfAny u → shown_upper u ≡ upper_field u
unfolding shown_upper upper_field
upper-shown None h = refl
upper-shown (Some v) h = shown-valid v h

variable-bare : (n : ℕ) (d : Bool) (l : Value) (u : Option Value) → n < 1024 → Valid l → ValidIfAny u → bare_variable n d l u ≡ bare_line (var_line n d l u [] [])
unfolding bare_variable bare_line
variable-bare n d l u h k m = cc (natural-shown n (small n h), shown-valid l k, upper-shown u m)

-- ---- lines that were written

pub cell-written : (j i : ℕ) (v : Value) {o : List ℕ} {p p' : ℕ} {o' : List ℕ} → j < 512 → i < 512 → Valid v
    → Written o p (shown_lines (cond (is_zero v) [] (col_line (j + 1) (i + 1) v ∷ []))) p' o' → Written o p (cell_bytes j i v) p' o'
unfolding cell_bytes shown_lines bare_lines
cell-written j i v {o} {p} {p'} {o'} h g k w = go (is_zero v) (rw (add-one j, add-one i) at w)
  where
    go : (z : Bool) → Written o p (shown_lines (cond z [] (col_line (suc j) (suc i) v ∷ []))) p' o' → Written o p (bare_lines (cond z [] (col_line (suc j) (suc i) v ∷ []))) p' o'
    go true x = x
    go false x = rw (column-bare (suc j) (suc i) v (omega arith) (omega arith) k) at x

-- rows of `=` have no floor
pub side-written : (less i : ℕ) (v : Value) (w : Option Value) {o : List ℕ} {p p' : ℕ} {o' : List ℕ} → i < 512 → Valid v → ValidIfAny w → (less ≤ i → w ≡ None)
    → Written o p (side_shown (i + 1) (leb less i) v w) p' o' → Written o p (side_bytes less i (record { right = v; floor = w })) p' o'
unfolding side_shown side_bytes low_lines
side-written less i v w {o} {p} {p'} {o'} h k m f x =
    go (leb less i) refl
    (rw (add-one i, row-bare (suc i) (cond (leb less i) Listing.equal (kind_by w)) v (omega arith) k, low-bare (suc i) w (omega arith) m) at x)
  where
    go : (q : Bool) → leb less i ≡ q → Written o p (bare_line (row_line (suc i) (cond q Listing.equal (kind_by w)) v [] []) ++ bare_lines (low_lines (suc i) w)) p' o'
        → Written o p (bare_line (row_line (suc i) (cond q Listing.equal (kind_by w)) v [] []) ++ bare_lines (cond q [] (low_lines (suc i) w))) p' o'
    go true e y = let z : w ≡ None = f (leb-true less i e) in rw z at y
    go false e y = y

pub bounds-written : (discrete j : ℕ) (l : Value) (u : Option Value) {o : List ℕ} {p p' : ℕ} {o' : List ℕ} → j < 512 → Valid l → ValidIfAny u
    → Written o p (bare_variable (j + 1) (ltb j discrete) l u) p' o' → Written o p (bounds_bytes discrete j (record { lower = l; upper = u })) p' o'
unfolding bounds_bytes
bounds-written discrete j l u h k m w = rw (add-one j, variable-bare (suc j) (ltb j discrete) l u (omega arith) k m) at w

-- ---- a coefficient's line, or none

pub zero-line : (j i : ℕ) (v : Value) (z : Bool) (l : List ℕ) (at : ℕ) → z ≡ is_zero v → z ≡ true → Written l at (shown_lines (cond (is_zero v) [] (col_line j i v ∷ []))) at l
unfolding shown_lines
zero-line j i v z l at e t = rw (← e, t) (written_none l at)

pub some-line : (j i : ℕ) (v : Value) (z : Bool) {l : List ℕ} {at r : ℕ} {l' : List ℕ} → z ≡ is_zero v → z ≡ false → Written l at (shown_line (col_line j i v)) r l' → Written l at (shown_lines (cond (is_zero v) [] (col_line j i v ∷ []))) r l'
unfolding shown_lines
some-line j i v z e t w = rw (← e, t, append-nil (shown_line (col_line j i v))) w

-- ---- a row's line and its floor's

pub side-lines : (n : ℕ) (q : Bool) (v : Value) (w : Option Value) (k : KindCode) {l : List ℕ} {at r : ℕ} {l' : List ℕ} {r' : ℕ} {l'' : List ℕ}
    → kind_in k ≡ cond q Listing.equal (kind_by w) → Written l at (bare_row n (kind_in k) v) r l' → Written l' r (shown_lines (low_lines n w)) r' l'' → Written l at (side_shown n q v w) r' l''
unfolding side_shown
side-lines n q v w k e x y = rw (← e) (written_then _ _ _ _ _ _ _ _ x y)
