-- What a spelling means, and what the readers' search finds: the same.
use Rattle.std.specs.Prelude.{Option, Some, None}
use mathlib.Core.Path.{◌≡◌, refl, sym, ◌∙◌, ap, subst}
use mathlib.Core.Bool.{Bool, true, false}
use mathlib.Core.List.{List, [], ◌∷◌}
use Prim.Native.Nat.{ℕ, zero, suc, ◌+◌, ◌<◌}
use native.Mathlib.Omega.{arith}
use Rattle.lexer.specs.Text.{same_bytes}
use Rattle.lexer.proofs.Same.{same-bytes-equal, same-bytes-refl}
use Rattle.language.specs.Listed.{At}
use Rattle.language.proofs.Outcome.{some-injective}
use Rattle.language.specs.Syntax.{Name, Sort}
use Rattle.language.specs.Reader.{Used, find}
use Rattle.language.specs.Phrases.{Means, Unknown}

other : (l k : List ℕ) → same_bytes l k ≡ false → k ≡ l → ⊥
other l k e s = cc (sym (same-bytes-refl l) ∙ subst (λ k. same_bytes l k ≡ false) s e)

differs : (l k : List ℕ) → (k ≡ l → ⊥) → same_bytes l k ≡ false
differs l k h = go (same_bytes l k) refl
  where
    go : (b : Bool) → same_bytes l k ≡ b → same_bytes l k ≡ false
    go true e = absurd (h (sym (same-bytes-equal l k e)))
    go false e = e

-- the same table with one name in front
later : {x : Name} {xs : List Name} {l : List ℕ} {k : ℕ} {s : Sort} → (x.spelling ≡ l → ⊥) → Means xs l k s → Means (x ∷ xs) l (suc k) s
later {x} {xs} {l} {k} {s} h m = record { entry = m.entry; listed = m.listed; spelled = m.spelled; sorted = m.sorted; first = before }
  where
    before : (j : ℕ) (y : Name) → j < suc k → At (x ∷ xs) j y → y.spelling ≡ l → ⊥
    before zero y b a e = h (ap (λ (z : Name). z.spelling) a ∙ e)
    before (suc j) y b a e = m.first j y (omega arith) a e

found-means : (l : List ℕ) (names : List Name) (i p : ℕ) (u : Used) → find l names i p ≡ Some u → (k : ℕ) × (u.number ≡ i + k) × Means names l k u.sort
unfolding find
found-means l [] i p u e = cc
found-means l (x ∷ xs) i p u e = go (same_bytes l x.spelling) refl (found-means l xs (suc i) p u) e
  where
    go : (b : Bool) → same_bytes l x.spelling ≡ b → (find l xs (suc i) p ≡ Some u → (k : ℕ) × (u.number ≡ suc i + k) × Means xs l k u.sort)
        → elim b as (λ _. Option Used) [ true ↦ Some (record { number = i; sort = x.sort; place = p }) | false ↦ find l xs (suc i) p ] ≡ Some u
        → (k : ℕ) × (u.number ≡ i + k) × Means (x ∷ xs) l k u.sort
    go true eb ih e =
        let z = some-injective e in (
          0,
          omega (arith, ap (λ (v : Used). v.number) z),
          record {
            entry = x;
            listed = refl;
            spelled = sym (same-bytes-equal l x.spelling eb);
            sorted = ap (λ (v : Used). v.sort) z;
            first = λ j y h a. absurd (omega arith);
          },
        )
    go false eb ih e = let r = ih e in (suc r.0, omega (arith, r.1), later (other l x.spelling eb) r.2)

means-found : (l : List ℕ) (names : List Name) (i k p : ℕ) (s : Sort) → Means names l k s → find l names i p ≡ Some (record { number = i + k; sort = s; place = p })
unfolding find
means-found l [] i k p s m = absurd m.listed
means-found l (x ∷ xs) i zero p s m =
    let e : same_bytes l x.spelling ≡ true = rw (m.listed, m.spelled) (same-bytes-refl l) in
    let n : i ≡ i + 0 = omega arith in
    let t : x.sort ≡ s = ap (λ (y : Name). y.sort) m.listed ∙ m.sorted in
    rw (e, find) (ap Some (λ j. record { number = n j; sort = t j; place = p }))
means-found l (x ∷ xs) i (suc k) p s m =
    let e : same_bytes l x.spelling ≡ false = differs l x.spelling (m.first 0 x (omega arith) refl) in
    let n : suc i + k ≡ i + suc k = omega arith in
    rw (e, find)
    (means-found l xs (suc i) k p s (record { entry = m.entry; listed = m.listed; spelled = m.spelled; sorted = m.sorted; first = λ j y b a. m.first (suc j) y (omega arith) a })
    ∙ ap (λ n. Some (record { number = n; sort = s; place = p })) n)

missed-unknown : (l : List ℕ) (names : List Name) (i p : ℕ) → find l names i p ≡ None → Unknown names l
unfolding find
missed-unknown l [] i p e = record { unspelled = λ j x a. absurd a }
missed-unknown l (x ∷ xs) i p e = go (same_bytes l x.spelling) refl (missed-unknown l xs (suc i) p) e
  where
    go : (b : Bool) → same_bytes l x.spelling ≡ b → (find l xs (suc i) p ≡ None → Unknown xs l)
        → ◌≡◌ {A = Option Used} (elim b as (λ _. Option Used) [ true ↦ Some (record { number = i; sort = x.sort; place = p }) | false ↦ find l xs (suc i) p ]) None → Unknown (x ∷ xs) l
    go true eb ih e = cc
    go false eb ih e = record { unspelled = each (ih e) }
      where
        each : Unknown xs l → (j : ℕ) (y : Name) → At (x ∷ xs) j y → y.spelling ≡ l → ⊥
        each u zero y a h = other l x.spelling eb (ap (λ (z : Name). z.spelling) a ∙ h)
        each u (suc j) y a h = u.unspelled j y a h

unknown-missed : (l : List ℕ) (names : List Name) (i p : ℕ) → Unknown names l → find l names i p ≡ None
unfolding find
unknown-missed l [] i p u = refl
unknown-missed l (x ∷ xs) i p u =
    let e : same_bytes l x.spelling ≡ false = differs l x.spelling (u.unspelled 0 x refl) in
    rw (e, find) (unknown-missed l xs (suc i) p (record { unspelled = λ j y a. u.unspelled (suc j) y a }))

-- ---- of a whole table

module _ {names : List Name} {l : List ℕ} where
  pub means : (p : ℕ) (u : Used) → find l names 0 p ≡ Some u → Means names l u.number u.sort
  means p u e =
      let r = found-means l names 0 p u e in
      let n : r.0 ≡ u.number = omega (arith, r.1) in
      subst (λ k. Means names l k u.sort) n r.2

  pub found : {i : ℕ} {s : Sort} (p : ℕ) → Means names l i s → find l names 0 p ≡ Some (record { number = i; sort = s; place = p })
  found {i} {s} p m = let n : 0 + i ≡ i = omega arith in means-found l names 0 i p s m ∙ ap (λ n. Some (record { number = n; sort = s; place = p })) n

  pub unknown : find l names 0 0 ≡ None → Unknown names l
  unknown e = missed-unknown l names 0 0 e

  pub missed : (p : ℕ) → Unknown names l → find l names 0 p ≡ None
  missed p u = unknown-missed l names 0 p u

-- it keeps the place
pub found-place : (names : List Name) (l : List ℕ) (p : ℕ) (u : Used) → find l names 0 p ≡ Some u → u.place ≡ p
found-place names l p u e = ap (λ (v : Used). v.place) (some-injective (sym e ∙ found p (means p u e)))
