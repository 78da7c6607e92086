-- Request #106, after source document 003, section 3: how far a row's left side can reach over the bounds of the variables. `greatest`
-- says which of its two ends is meant. Bounds are those of the listing, also where a lower one is above its upper one.
use Rattle.std.specs.Prelude.{Bool, cond, [], ◌∷◌, ℕ, suc, pos, Option, Some, None}
use Rattle.std.specs.Int.Signed.{lt_z}
use Rattle.value.specs.declared.Value.{Value}
use Rattle.value.specs.Decimal.{zero_value, sum_of, product_of, is_zero}
use Rattle.language.specs.Numbering.{Row, Entry, Lp, xor, lower_of, upper_of}
use Rattle.language.specs.Listing.{coefficients_of}

unfoldable pub is_negative : Value → Bool
is_negative c = lt_z c.m (pos 0)

-- The greatest takes the upper bound where the coefficient is positive and the lower where it is negative; the least takes the
-- other one
unfoldable pub takes : Bool → Value → Value → Option Value → Option Value
takes greatest c lower upper = cond (xor greatest (is_negative c)) upper (Some lower)

-- a value that fits, or none
-- one column more: the sum t so far, a coefficient, and the bound that it takes
unfoldable pub added : Value → Option Value → Option Value
added t None = None
added t (Some v) = (sum_of t v)

unfoldable pub product : Value → Option Value → Option Value
product c None = None
product c (Some b) = (product_of c b)

-- Products and sums go by column and must fit; a needed bound that is absent, or a value that doesn't fit, leaves the end open.
-- A zero coefficient needs nothing. From variable j on
unfoldable pub reach_from : Bool → (ℕ → Value) → (ℕ → Option Value) → ℕ → Row → Option Value → Option Value
reach_from greatest lower upper j [] t = t
reach_from greatest lower upper j (c ∷ cs) None = None
reach_from greatest lower upper j (c ∷ cs) (Some t) =
    reach_from greatest lower upper (suc j) cs (cond (is_zero c) (Some t) (added t (product c (takes greatest c (lower j) (upper j)))))

-- an end of a row of a problem
unfoldable pub reach : Bool → Lp → Entry → Option Value
reach greatest p e = reach_from greatest (lower_of p.entries) (upper_of p.entries) 0 (coefficients_of e.fact) (Some zero_value)
