-- The two ends of a row enclose its value at all numbers within the bounds.
use Rattle.std.specs.Prelude.{Option, Some, None}
use mathlib.Core.Path.{◌≡◌, refl, sym, ◌∙◌, ap, subst, subst₂}
use mathlib.Core.Bool.{Bool, true, false, cond}
use mathlib.Core.List.{List, [], ◌∷◌}
use Prim.Native.Nat.{ℕ, suc, ◌+◌, ◌^◌, ◌<◌}
use native.Mathlib.Omega.{arith}
use borrow.Author.Tests.{ltb-true}
use lib.Dec.{leb-zero}
use lib.ListN.{length}
use lib.IntN.{ℤ, pos, negsuc, ◌*ℤ◌, zero-*ℤ}
use lib.Signed.{lt_z, le_z}
use Rattle.rational.proofs.Integer.{*ℤ-id}
use Rattle.value.specs.declared.Value.{Value}
use Rattle.value.specs.Rational.{ℚ, 𝟎, ◌⊕◌, ◌⊗◌, neg, ◌⊑◌}
use Rattle.value.proofs.Rational.{⊑_refl, ⊑_trans, add_assoc, add-zero, zero-add, add_comm, add-mono-left, mul_comm, zero-mul, neg-mul, neg-neg, neg-zero, neg-mono, mul_mono}
use Rattle.value.specs.Number.{exactly}
use Rattle.value.specs.Decimal.{zero_value, sum_of, product_of, is_at_most, is_zero}
use Rattle.value.proofs.Numbers.{exactly-zero, exactly-add, exactly-mul, exactly-is_zero, is_at_most-yes}
use Rattle.language.specs.Listed.{At}
use Rattle.language.specs.Numbering.{Row, Entry, Lp, xor, lower_of, upper_of}
use Rattle.language.specs.Listing.{coefficients_of}
use Rattle.language.specs.Demand3.{BelowUpper}
use Rattle.language.proofs.Outcome.{some-injective, none-some}
use Rattle.language.proofs.Gathered.{dot}
use Rattle.reach.specs.Reach.{is_negative, takes, added, product, reach_from, reach}

-- q is beyond p: not below it on the way to the greatest, not above it on the way to the least
abbrev pub Beyond : Bool → ℚ → ℚ → Type 0
Beyond true p q = p ⊑ q
Beyond false p q = q ⊑ p

beyond-itself : (t : Bool) (p : ℚ) → Beyond t p p
beyond-itself true p = ⊑_refl p
beyond-itself false p = ⊑_refl p

beyond-trans : (t : Bool) (p q r : ℚ) → Beyond t p q → Beyond t q r → Beyond t p r
beyond-trans true p q r h k = ⊑_trans h k
beyond-trans false p q r h k = ⊑_trans k h

beyond-add : (t : Bool) (p q r : ℚ) → Beyond t p q → Beyond t (p ⊕ r) (q ⊕ r)
beyond-add true p q r h = add-mono-left r h
beyond-add false p q r h = add-mono-left r h

-- ---- products

scaled : (r p q : ℚ) → 𝟎 ⊑ r → p ⊑ q → r ⊗ p ⊑ r ⊗ q
scaled r p q h k = subst₂ ◌⊑◌ (mul_comm p r) (mul_comm q r) (mul_mono r h k)

turned : (r p q : ℚ) → r ⊑ 𝟎 → q ⊑ p → r ⊗ p ⊑ r ⊗ q
turned r p q h k = subst₂ ◌⊑◌ (twice p) (twice q) (neg-mono (scaled (neg r) q p (subst (λ z. z ⊑ neg r) neg-zero (neg-mono h)) k))
  where
    twice : (p : ℚ) → neg (neg r ⊗ p) ≡ r ⊗ p
    twice p = ap neg (neg-mul r p) ∙ neg-neg (r ⊗ p)

-- a negative factor turns the way round
beyond-times : (t negative : Bool) (r p q : ℚ) → Beyond negative r 𝟎 → Beyond (xor t negative) p q → Beyond t (r ⊗ p) (r ⊗ q)
beyond-times true true r p q h k = turned r p q h k
beyond-times true false r p q h k = scaled r p q h k
beyond-times false true r p q h k = turned r q p h k
beyond-times false false r p q h k = scaled r q p h k

below : (z : ℤ) → lt_z z (pos 0) ≡ true → le_z z (pos 0) ≡ true
below (pos n) e = absurd (let h : n < 0 = ltb-true n 0 e in omega arith)
below (negsuc n) e = refl

above : (z : ℤ) → lt_z z (pos 0) ≡ false → le_z (pos 0) z ≡ true
above (pos n) e = leb-zero n
above (negsuc n) e = cc

-- a value's sign is that of its number
sign : (c : Value) → Beyond (is_negative c) (exactly c) 𝟎
unfolding is_negative is_at_most
sign c = go (lt_z c.m (pos 0)) refl
  where
    whole : c.m *ℤ pos (10 ^ 0) ≡ c.m
    whole = *ℤ-id c.m

    nothing : pos 0 *ℤ pos (10 ^ c.s) ≡ pos 0
    nothing = zero-*ℤ (pos (10 ^ c.s))

    go : (t : Bool) → lt_z c.m (pos 0) ≡ t → Beyond t (exactly c) 𝟎
    go true e = subst (λ q. exactly c ⊑ q) exactly-zero (is_at_most-yes c zero_value (subst₂ (λ a b. le_z a b ≡ true) (sym whole) (sym nothing) (below c.m e)))
    go false e = subst (λ q. q ⊑ exactly c) exactly-zero (is_at_most-yes zero_value c (subst₂ (λ a b. le_z a b ≡ true) (sym nothing) (sym whole) (above c.m e)))

-- ---- one column

fits-some : (f : Option Value) (v : Value) → f ≡ Some v → f ≡ Some v
fits-some (Some w) v e = ap Some (some-injective e)
fits-some None v e = absurd (none-some e)

-- the bound that is taken is beyond every number within the bounds
taken : (t : Bool) (l : Value) (u : Option Value) (b : Value) (q : ℚ) → exactly l ⊑ q → BelowUpper u q → cond t u (Some l) ≡ Some b → Beyond t q (exactly b)
taken true l u b q h k e = subst (λ o. BelowUpper o q) e k
taken false l u b q h k e = subst (λ v. exactly v ⊑ q) (some-injective e) h

module _ (greatest : Bool) (c : Value) (q : ℚ) where
  by_product : (o : Option Value) → ((b : Value) → o ≡ Some b → Beyond (xor greatest (is_negative c)) q (exactly b)) → (w : Value) → product c o ≡ Some w
      → Beyond greatest (exactly c ⊗ q) (exactly w)
  unfolding product
  by_product None h w e = absurd (none-some e)
  by_product (Some b) h w e =
      subst (Beyond greatest (exactly c ⊗ q)) (sym (exactly-mul c b w (fits-some (product_of c b) w e)))
      (beyond-times greatest (is_negative c) (exactly c) q (exactly b) (sign c) (h b refl))

  by-sum : (t : Value) (o : Option Value) → ((w : Value) → o ≡ Some w → Beyond greatest (exactly c ⊗ q) (exactly w)) → (s : Value) → added t o ≡ Some s
      → Beyond greatest (exactly t ⊕ exactly c ⊗ q) (exactly s)
  unfolding added
  by-sum t None h s e = absurd (none-some e)
  by-sum t (Some w) h s e =
      subst₂ (Beyond greatest) (add_comm (exactly c ⊗ q) (exactly t)) (add_comm (exactly w) (exactly t) ∙ sym (exactly-add t w s (fits-some (sum_of t w) s e)))
      (beyond-add greatest _ (exactly w) (exactly t) (h w refl))

  by-column : (t l : Value) (u : Option Value) → exactly l ⊑ q → BelowUpper u q
      → (s : Value) → cond (is_zero c) (Some t) (added t (product c (takes greatest c l u))) ≡ Some s → Beyond greatest (exactly t ⊕ exactly c ⊗ q) (exactly s)
  unfolding takes
  by-column t l u low high s = go (is_zero c) refl
    where
      go : (z : Bool) → is_zero c ≡ z → cond z (Some t) (added t (product c (takes greatest c l u))) ≡ Some s → Beyond greatest (exactly t ⊕ exactly c ⊗ q) (exactly s)
      go true z e =
          subst₂ (Beyond greatest) (sym (add-zero _) ∙ ap (λ r. exactly t ⊕ r) (sym (zero-mul q) ∙ ap (λ r. r ⊗ q) (sym (exactly-is_zero c z)))) (ap exactly (some-injective e))
          (beyond-itself greatest (exactly t))
      go false z e = by-sum t (product c (takes greatest c l u)) (by_product (takes greatest c l u) (λ b k. taken (xor greatest (is_negative c)) l u b q low high k)) s e

-- ---- all columns

module _ (greatest : Bool) (lower : ℕ → Value) (upper : ℕ → Option Value) where
  open-end : (j : ℕ) (cs : Row) → reach_from greatest lower upper j cs None ≡ None
  unfolding reach_from
  open-end j [] = refl
  open-end j (c ∷ cs) = refl

  -- the numbers that the bounds of variable j allow
  abbrev pub InBounds : ℕ → ℚ → Type 0
  InBounds j q = (exactly (lower j) ⊑ q) × BelowUpper (upper j) q

  pub enclosed-from : (j : ℕ) (cs : Row) (xs : List ℚ) → length cs ≡ length xs
      → ((k : ℕ) (q : ℚ) → At xs k q → InBounds (j + k) q)
      → (t v : Value) → reach_from greatest lower upper j cs (Some t) ≡ Some v → Beyond greatest (exactly t ⊕ dot cs xs) (exactly v)
  unfolding reach_from dot
  enclosed-from j [] xs long h t v e = subst₂ (Beyond greatest) (sym (add-zero _)) (ap exactly (some-injective e)) (beyond-itself greatest (exactly t))
  enclosed-from j (c ∷ cs) [] long h t v e = absurd (omega arith)
  enclosed-from j (c ∷ cs) (x ∷ xs) long h t v e =
      go _ refl e
      (enclosed-from (suc j) cs xs (omega arith) (λ k q at. let n : j + suc k ≡ suc j + k = omega arith in subst (λ i. InBounds i q) n (h (suc k) q at)))
    where
      here : InBounds j x
      here = let n : j + 0 ≡ j = omega arith in subst (λ i. InBounds i x) n (h 0 x refl)

      go : (o : Option Value) → cond (is_zero c) (Some t) (added t (product c (takes greatest c (lower j) (upper j)))) ≡ o → reach_from greatest lower upper (suc j) cs o ≡ Some v
          → ((t v : Value) → reach_from greatest lower upper (suc j) cs (Some t) ≡ Some v → Beyond greatest (exactly t ⊕ dot cs xs) (exactly v))
          → Beyond greatest (exactly t ⊕ (exactly c ⊗ x ⊕ dot cs xs)) (exactly v)
      go None d e ih = absurd (none-some (sym (open-end (suc j) cs) ∙ e))
      go (Some s) d e ih =
          subst (λ p. Beyond greatest p (exactly v)) (add_assoc _ _ _)
          (beyond-trans greatest _ (exactly s ⊕ dot cs xs) _
          (beyond-add greatest _ (exactly s) (dot cs xs) (by-column greatest c x t (lower j) (upper j) here.0 here.1 s d)) (ih s v e))

-- an end of a row is beyond its value at all numbers within the bounds of the variables
pub enclosed : (greatest : Bool) (p : Lp) (e : Entry) (xs : List ℚ) → length (coefficients_of e.fact) ≡ length xs
    → ((k : ℕ) (q : ℚ) → At xs k q → exactly (lower_of p.entries k) ⊑ q) → ((k : ℕ) (q : ℚ) → At xs k q → BelowUpper (upper_of p.entries k) q)
    → (v : Value) → reach greatest p e ≡ Some v → Beyond greatest (dot (coefficients_of e.fact) xs) (exactly v)
unfolding reach
enclosed greatest p e xs long low high v r =
    subst (λ q. Beyond greatest q (exactly v)) (ap (λ q. q ⊕ dot (coefficients_of e.fact) xs) exactly-zero ∙ zero-add _)
    (enclosed-from greatest (lower_of p.entries) (upper_of p.entries) 0 (coefficients_of e.fact) xs long
    (λ k q at. let n : 0 + k ≡ k = omega arith in (subst (λ i. exactly (lower_of p.entries i) ⊑ q) (sym n) (low k q at), subst (λ i. BelowUpper (upper_of p.entries i) q) (sym n) (high k q at)))
    zero_value v r)
