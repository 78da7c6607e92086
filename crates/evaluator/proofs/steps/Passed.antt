-- Laws of what is passed over: one token, tokens up to a bracket's end, an optional sign.
use Rattle.std.specs.Prelude.{Err, Ok, Result}
use Rattle.rules.specs.declared.Refused.{Refused}
use mathlib.Core.Path.{◌≡◌, refl, sym, ◌∙◌, ap, subst}
use mathlib.Core.Bool.{Bool, true, false, ◌||◌}
use mathlib.Core.List.{List, [], ◌∷◌}
use Prim.Native.Nat.{ℕ, zero, suc, ◌+◌, ◌-◌, ◌<◌, ◌≤◌}
use native.Mathlib.Omega.{arith}
use lib.Dec.{eqb}
use lib.ListN.{length, get_or}
use Rattle.lexer.specs.Text.{Token}
use Rattle.lexer.specs.Marks.{minus_sign}
use Rattle.language.specs.Outcome.{done}
use Rattle.language.specs.Reader.{Reader, follow, ◌>>=◌, give, next, is_mark}
use Rattle.language.specs.Formulas.{is_sum, Signed, read_sign}
use Rattle.tokens.specs.declared.Seen.{Seen}
use Rattle.tokens.specs.Stored.{kind_part, place_part, payload_part, token, from, Sees, Looks}
use Rattle.tokens.proofs.Tables.{mark-of, mark-same, view-here, view-end}
use Rattle.tokens.proofs.Moved.{next-is, look_is}
use Rattle.onepass.specs.Walk.{skip, opens_bracket, closes_bracket, behind_bracket}
use Rattle.evaluator.specs.Steps.Passing.{Skips, Ends, Led, Leads}

-- a sign's number
pub is-mark : (s : List ℕ) (k p x c : ℕ) → 5 < c → is_mark c (token s k p x) ≡ eqb k c
unfolding token
is-mark s k p x c h = rw (mark-of s k p x) (mark-same k c h)

-- ---- one token

pub skips-past : (ts : List ℕ) (at : ℕ) → length ts ≤ at → Skips ts at at
unfolding from skip
skips-past ts at h = record { is = λ s. rw (view-end s ts at h) refl }

pub skips-one : (ts : List ℕ) (at : ℕ) → at < length ts → Skips ts at (at + 1)
unfolding from skip
skips-one ts at h = record { is = λ s. rw (view-here s ts at h) refl }

-- a token that was seen
pub skips-seen : (ts : List ℕ) (at : ℕ) (w : Seen) (t : Result Seen Refused) → Looks ts at t → t ≡ Ok w → Skips ts at w.next
unfolding skip
skips-seen ts at z t h e = record { is = λ s. rw (subst (Sees s ts at) e (h.sees s)).1 refl }

-- ---- up to a bracket's end

-- with d brackets open from a on it ends where it ends from `at` on
pub record Open (ts : List ℕ) (at a d : ℕ) : Type 0 where
  pub same : (s : List ℕ) → behind_bracket 0 (from s ts at) ≡ behind_bracket d (from s ts a)
  pub few : d ≤ a

stepped : Bool → Bool → ℕ → List Token → List Token
stepped true c d l = behind_bracket (suc d) l
stepped false true zero l = l
stepped false true (suc d) l = behind_bracket d l
stepped false false d l = behind_bracket d l

bracket-step : (t : Token) (l : List Token) (a b : Bool) (d : ℕ) → opens_bracket t ≡ a → closes_bracket t ≡ b → behind_bracket d (t ∷ l) ≡ stepped a b d l
unfolding behind_bracket stepped
bracket-step t l true b zero e f = rw (e, behind_bracket) refl
bracket-step t l true b (suc d) e f = rw (e, behind_bracket) refl
bracket-step t l false true zero e f = rw (e, f, behind_bracket) refl
bracket-step t l false true (suc d) e f = rw (e, f, behind_bracket) refl
bracket-step t l false false zero e f = rw (e, f, behind_bracket) refl
bracket-step t l false false (suc d) e f = rw (e, f, behind_bracket) refl

pub open-start : (ts : List ℕ) (at : ℕ) → Open ts at at 0
open-start ts at = record { same = λ s. refl; few = omega arith }

pub open-end : (ts : List ℕ) (at a d b : ℕ) → length ts ≤ a → Open ts at a d → length ts ≤ b → Ends ts at b
unfolding from behind_bracket
open-end ts at a d b h o k = record { is = λ s. o.same s ∙ rw (view-end s ts a h, view-end s ts b k) (go d) }
  where
    go : (d : ℕ) → behind_bracket d [] ≡ []
    go zero = refl
    go (suc d) = refl

module _ (ts : List ℕ) (at a d : ℕ) (h : a < length ts) (o : Open ts at a d) where
  step-here : (b c : Bool) → (eqb (kind_part (get_or ts a 0)) 40 || eqb (kind_part (get_or ts a 0)) 91) ≡ b → (eqb (kind_part (get_or ts a 0)) 41 || eqb (kind_part (get_or ts a 0)) 93) ≡ c
      → (s : List ℕ) → behind_bracket 0 (from s ts at) ≡ stepped b c d (from s ts (a + 1))
  unfolding from
  step-here b c e f s =
      let w = get_or ts a 0 in
      let k = kind_part w in
      let p = place_part w in
      let x = payload_part w in
      o.same s ∙ ap (behind_bracket d) (view-here s ts a h)
      ∙ bracket-step (token s k p x) _ b c d
      (rw (is-mark s k p x 40 (omega arith), is-mark s k p x 91 (omega arith)) e)
      (rw (is-mark s k p x 41 (omega arith), is-mark s k p x 93 (omega arith)) f)

  pub open_more : (eqb (kind_part (get_or ts a 0)) 40 || eqb (kind_part (get_or ts a 0)) 91) ≡ true → Open ts at (a + 1) (d + 1)
  unfolding stepped
  open_more e =
      let n : d + 1 ≡ suc d = omega arith in
      record { same = λ s. rw n (step-here true _ e refl s); few = omega (arith, o.few) }

  module _ (e : (eqb (kind_part (get_or ts a 0)) 40 || eqb (kind_part (get_or ts a 0)) 91) ≡ false) where
    pub open-closed : (eqb (kind_part (get_or ts a 0)) 41 || eqb (kind_part (get_or ts a 0)) 93) ≡ true → d ≡ 0 → Ends ts at (a + 1)
    unfolding stepped
    open-closed f z = record { is = λ s. step-here false true e f s ∙ rw z refl }

    pub open-less : (eqb (kind_part (get_or ts a 0)) 41 || eqb (kind_part (get_or ts a 0)) 93) ≡ true → (d ≡ 0 → ⊥) → Open ts at (a + 1) (d - 1)
    unfolding stepped
    open-less f z = record { same = λ s. step-here false true e f s ∙ go d z (from s ts (a + 1)); few = omega (arith, o.few) }
      where
        go : (d : ℕ) → (d ≡ 0 → ⊥) → (l : List Token) → stepped false true d l ≡ behind_bracket (d - 1) l
        go zero z l = absurd (z refl)
        go (suc d) z l = let n : suc d - 1 ≡ d = omega arith in rw n refl

    pub open-other : (eqb (kind_part (get_or ts a 0)) 41 || eqb (kind_part (get_or ts a 0)) 93) ≡ false → Open ts at (a + 1) d
    unfolding stepped
    open-other f = record { same = λ s. step-here false false e f s; few = omega (arith, o.few) }

-- ---- an optional sign

module _ (ts : List ℕ) (at : ℕ) (t : Result Seen Refused) (h : Looks ts at t) where
  pub leads-wrong : (e : Refused) → t ≡ Err e → Leads ts at (Err e)
  unfolding read_sign
  leads-wrong z e = record { led = λ s. let u = subst (Sees s ts at) e (h.sees s) in rw u.looks (refl, refl) }

  signed : Bool → Token → Reader Signed
  signed b x = elim b as (λ _. Reader Signed) [
    | true ↦ next >>= (λ _. give (record { written = true; negative = is_mark minus_sign x }))
    | false ↦ give (record { written = false; negative = false })
  ]

  leads-by : (w : Seen) (b : Bool) (r : Result (Bool × ℕ) Refused) → t ≡ Ok w → (eqb w.kind 43 || eqb w.kind 45) ≡ b
      → ((s : List ℕ) → next (from s ts at) ≡ done (record { what = token s w.kind w.place w.payload; rest = from s ts w.next }) → Led (signed b (token s w.kind w.place w.payload) (from s ts at)) s ts r) → Leads ts at r
  unfolding read_sign signed
  leads-by z b r e i g =
      record {
        led = λ s.
            let v = subst (Sees s ts at) e (h.sees s) in
            let j : is_sum (token s z.kind z.place z.payload) ≡ b = rw (is-mark s z.kind z.place z.payload 43 (omega arith), is-mark s z.kind z.place z.payload 45 (omega arith)) i in
            subst (λ o. Led (follow o (λ t. signed (is_sum t) t)) s ts r) (sym (look_is s ts at z v))
            (subst (λ b. Led (signed b (token s z.kind z.place z.payload) (from s ts at)) s ts r) (sym j) (g s (next-is s ts at z v)));
      }

  pub leads-sign : (w : Seen) → t ≡ Ok w → (eqb w.kind 43 || eqb w.kind 45) ≡ true → Leads ts at (Ok ((eqb w.kind 45), w.next))
  unfolding signed
  leads-sign z e i = leads-by z true (Ok ((eqb z.kind 45), z.next)) e i (λ s n. rw n (is-mark s z.kind z.place z.payload 45 (omega arith), refl))

  pub leads-none : (w : Seen) → t ≡ Ok w → (eqb w.kind 43 || eqb w.kind 45) ≡ false → Leads ts at (Ok (false, at))
  unfolding signed
  leads-none z e i = leads-by z false (Ok (false, at)) e i (λ s n. (refl, refl))
