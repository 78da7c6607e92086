-- What the cursor gives is what the list of tokens begins with.
use mathlib.Core.Path.{◌≡◌, refl, sym, ◌∙◌, ap, subst}
use mathlib.Core.Bool.{Bool, true, false, cond}
use mathlib.Core.List.{List, [], ◌∷◌}
use Prim.Native.Nat.{ℕ, zero, suc, ◌+◌, ◌-◌, ◌<◌, ◌≤◌}
use native.Mathlib.Omega.{arith}
use lib.ListN.{length, get_or, drop, drop_of_length-le, length-drop}
use lib.Seq.{drop-drop}
use Rattle.lexer.specs.Text as Text
use Rattle.lexer.specs.Text.{Kind, end, is_blank, is_wrong, front, step_at, tokens_from}
use Rattle.lexer.specs.declared.Found.{Found}
use Rattle.lexer.specs.declared.Token.TheVariants.{End}
use Rattle.lexer.specs.View.{kind_of, is_last, Placed, Reads}
use Rattle.lexer.specs.Inner.{RunLength, Gives}
use Rattle.std.proofs.lemmas.List.{drop_more}
use Rattle.lexer.proofs.Sizes.{step-sized}

-- ---- the definition by positions

-- to pass k bytes is to go on k bytes further
passed-bytes : (k p : ℕ) (l : List ℕ) → k ≤ length l → tokens_from p k l ≡ tokens_from (p + k) 0 (drop k l)
unfolding tokens_from
passed-bytes zero p l h = let e : p + 0 ≡ p = omega arith in rw e refl
passed-bytes (suc k) p [] h = absurd (omega arith)
passed-bytes (suc k) p (b ∷ t) h = let e : suc p + k ≡ p + suc k = omega arith in passed-bytes k (suc p) t (omega arith) ∙ rw e refl

-- a token at p, which no blank is, and those behind it
after-step : (p b : ℕ) (t : List ℕ) → is_blank b ≡ false → tokens_from p 0 (b ∷ t)
    ≡ (step_at p b t).token ∷ cond (is_last (step_at p b t).token.kind) [] (tokens_from (p + (step_at p b t).size) 0 (drop (step_at p b t).size (b ∷ t)))
unfolding tokens_from
after-step p b t e = go (is_wrong (step_at p b t).token.kind) refl
  where
    on : (n : ℕ) → 1 ≤ n → n ≤ length (b ∷ t) → tokens_from (suc p) (n - 1) t ≡ tokens_from (p + n) 0 (drop n (b ∷ t))
    on zero low high = absurd (omega arith)
    on (suc n) low high =
        let q : suc p + n ≡ p + suc n = omega arith in
        let d : suc n - 1 ≡ n = omega arith in
        rw d (passed-bytes n (suc p) t (omega arith) ∙ rw q refl)

    go : (u : Bool) → is_wrong (step_at p b t).token.kind ≡ u → tokens_from p 0 (b ∷ t)
        ≡ (step_at p b t).token ∷ cond (is_last (step_at p b t).token.kind) [] (tokens_from (p + (step_at p b t).size) 0 (drop (step_at p b t).size (b ∷ t)))
    go true h = rw ((step-sized p b t).last, h) (rw (e, h, tokens_from) refl)
    go false h =
        let g = (step-sized p b t).good h in
        rw ((step-sized p b t).last, h) (rw (e, h, tokens_from) (ap (λ l. (step_at p b t).token ∷ l) (on (step_at p b t).size g.1 g.2)))

-- blanks are passed
skip : (l : List ℕ) (p : ℕ) → tokens_from p 0 l ≡ tokens_from (p + length (front is_blank l)) 0 (drop (length (front is_blank l)) l)
unfolding tokens_from front
skip [] p = let e : p + 0 ≡ p = omega arith in rw e refl
skip (b ∷ t) p = go (is_blank b) refl (skip t (suc p))
  where
    go : (u : Bool) → is_blank b ≡ u → tokens_from (suc p) 0 t ≡ tokens_from (suc p + length (front is_blank t)) 0 (drop (length (front is_blank t)) t)
        → tokens_from p 0 (b ∷ t)
        ≡ tokens_from (p + length {A = ℕ} (elim u as (λ _. List ℕ) [ true ↦ b ∷ front is_blank t | false ↦ [] ])) 0 (drop (length {A = ℕ} (elim u as (λ _. List ℕ) [ true ↦ b ∷ front is_blank t | false ↦ [] ])) (b ∷ t))
    go true d r = let e : suc p + length (front is_blank t) ≡ p + suc (length (front is_blank t)) = omega arith in rw (d, tokens_from) (r ∙ rw e refl)
    go false d r = let e : p + 0 ≡ p = omega arith in rw e refl

-- and no blank comes after them
no-blank : (l : List ℕ) (c : ℕ) (r : List ℕ) → drop (length (front is_blank l)) l ≡ c ∷ r → is_blank c ≡ false
unfolding front
no-blank [] c r e = cc
no-blank (b ∷ t) c r e = go (is_blank b) refl (no-blank t c r) e
  where
    go : (u : Bool) → is_blank b ≡ u → (drop (length (front is_blank t)) t ≡ c ∷ r → is_blank c ≡ false)
        → drop (length {A = ℕ} (elim u as (λ _. List ℕ) [ true ↦ b ∷ front is_blank t | false ↦ [] ])) (b ∷ t) ≡ c ∷ r → is_blank c ≡ false
    go true d k e = k e
    go false d k e = let q : b ≡ c = cc in ap is_blank (sym q) ∙ d

-- ---- where a token stands

wrong-not-end : (k : Kind) → is_last k ≡ is_wrong k → k ≡ end → ⊥
unfolding is_wrong
wrong-not-end k h e = cc (ap is_last (sym e) ∙ h ∙ ap is_wrong e)

module _ (s : List ℕ) (at : ℕ) (f : Found) (h : at < length s) (v : Gives s f (step_at at (get_or s at 0) (drop (at + 1) s))) where
  size_is : f.size ≡ (step_at at (get_or s at 0) (drop (at + 1) s)).size
  size_is = ap (λ (y : Text.Step). y.size) v.same

  place_is : f.place ≡ (step_at at (get_or s at 0) (drop (at + 1) s)).token.place
  place_is = ap (λ (y : Text.Step). y.token.place) v.same

  kind-is : kind_of s f.token ≡ (step_at at (get_or s at 0) (drop (at + 1) s)).token.kind
  kind-is = ap (λ (y : Text.Step). y.token.kind) v.same

  pub size-most : f.size ≤ length s - at + 1
  size-most = omega (arith, size_is, (step-sized at (get_or s at 0) (drop (at + 1) s)).most, length-drop (at + 1) s)

  step-placed : (from : ℕ) → from ≤ at → Placed s from (kind_of s f.token) f.place (at + f.size)
  step-placed from low =
      let z = step-sized at (get_or s at 0) (drop (at + 1) s) in
      let q : kind_of s f.token ≡ end → ⊥ = λ e. wrong-not-end _ z.last (sym kind-is ∙ e) in
      record {
        low = omega (arith, place_is, z.low);
        high = omega (arith, place_is, z.high, length-drop (at + 1) s);
        ends = λ e. absurd (q e);
        inside = λ _. omega (arith, place_is, z.high, length-drop (at + 1) s);
        moves = λ e.
            let g = z.good (sym z.last ∙ ap is_last (sym kind-is) ∙ e) in
            (omega (arith, place_is, size_is, g.0, g.1), omega (arith, size_is, g.2, length-drop (at + 1) s));
      }

-- ---- the cursor's answers

module _ (s : List ℕ) (from n : ℕ) (w : RunLength s from is_blank n) where
  passed : drop (length (front is_blank (drop from s))) (drop from s) ≡ drop (from + n) s
  passed = rw (← w.count) (drop-drop n from s)

  from-there : tokens_from from 0 (drop from s) ≡ tokens_from (from + n) 0 (drop (from + n) s)
  from-there = skip (drop from s) from ∙ rw (passed, ← w.count) refl

  pub next-end : length s ≤ from + n → Reads s from (record { token = End; place = from + n; next = record { at = from + n } })
  unfolding tokens_from
  next-end h = record {
    tokens = from-there ∙ rw (drop_of_length-le s {i = from + n} h) refl;
    within = tt;
    placed = record {
      low = omega arith;
      high = omega (arith, w.bound);
      ends = λ _. omega (arith, w.bound);
      inside = λ f. absurd (f refl);
      moves = λ e. cc;
    };
  }

  pub next-token : (f : Found) → from + n < length s → Gives s f (step_at (from + n) (get_or s (from + n) 0) (drop (from + n + 1) s))
      → Reads s from (record { token = f.token; place = f.place; next = record { at = from + n + f.size } })
  next-token f h v =
      let at = from + n in
      let b = get_or s (from + n) 0 in
      let t = drop (from + n + 1) s in
      let d : drop (from + n) s ≡ b ∷ t = drop_more s (from + n) 0 h in
      let blank : is_blank b ≡ false = no-blank (drop from s) b t (passed ∙ d) in
      let x : tokens_from from 0 (drop from s)
      ≡ (step_at at b t).token ∷ cond (is_last (step_at at b t).token.kind) [] (tokens_from (at + (step_at at b t).size) 0 (drop (at + (step_at at b t).size) s)) =
      from-there ∙ ap (tokens_from at 0) d ∙ after-step at b t blank
      ∙ ap (λ (l : List ℕ). (step_at at b t).token ∷ cond (is_last (step_at at b t).token.kind) [] (tokens_from (at + (step_at at b t).size) 0 l))
      (ap (drop (step_at at b t).size) (sym d) ∙ drop-drop (step_at at b t).size at s) in
      record {
        tokens = subst (λ (y : Text.Step). tokens_from from 0 (drop from s) ≡ y.token ∷ cond (is_last y.token.kind) [] (tokens_from (at + y.size) 0 (drop (at + y.size) s)))
            (sym v.same) x;
        within = v.within;
        placed = step-placed s at f h v from (omega arith);
      }
