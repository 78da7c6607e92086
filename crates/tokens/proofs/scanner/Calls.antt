-- For callers: what each word of a scanned table is. The last word, and no other, is the end or a refusal; a literal has a
-- valid value; a name's payload is its length.
use Rattle.std.specs.Prelude.{Ok}
use Rattle.tokens.specs.declared.Seen.{Seen}
use mathlib.Core.Path.{◌≡◌, refl, sym, ◌∙◌, ap, subst}
use mathlib.Core.Bool.{true, false}
use mathlib.Core.Logic.{◌⊎◌, inl, inr}
use mathlib.Core.List.{List, [], ◌∷◌}
use Prim.Native.Nat.{ℕ, zero, suc, ◌+◌, ◌<◌, ◌≤◌}
use native.Mathlib.Omega.{arith}
use lib.ListN.{length, get_or, take, drop, length-take}
use lib.Seq.{take_all, get_or-take}
use Rattle.rules.specs.Limits.{byte_limit, name_length}
use Rattle.value.specs.Decimal.{Valid}
use Rattle.lexer.specs.Text.{Token, tokens}
use Rattle.lexer.specs.View.{is_last}
use Rattle.tokens.specs.Stored.{kind_part, place_part, payload_part, name_bytes, bytes_from, spelling, kind_of, token, view, from, Looks}
use Rattle.tokens.proofs.Tables.{false-true, view-here, view-end}
use Rattle.tokens.specs.Scanner.Table.{table_size, value_of, ShortName, Holds, Scanned}
use Rattle.tokens.proofs.scanner.Proper.{Held, Proper, last, more, proper-first, tokens-proper}

-- ---- by kinds

pub spelling-length : (s : List ℕ) (p n : ℕ) → length (spelling s p n) ≡ n
unfolding spelling bytes_from
spelling-length s p n = go n 0
  where
    go : (n i : ℕ) → length (bytes_from s p i n) ≡ n
    go zero i = refl
    go (suc n) i = ap suc (go n (suc i))

module _ (s : List ℕ) (p x : ℕ) where
  whole-valid : (k : ℕ) → k ≡ 2 → Held (kind_of s k p x) → Valid (value_of x)
  unfolding kind_of
  whole-valid k e h = (rw e at h).valid

  pointed-valid : (k : ℕ) → k ≡ 3 → Held (kind_of s k p x) → Valid (value_of x)
  unfolding kind_of
  pointed-valid k e h = (rw e at h).valid

  name-some : (k : ℕ) → k ≡ 1 → Held (kind_of s k p x) → 1 ≤ name_bytes x
  unfolding kind_of
  name-some k e h = omega (arith, (rw e at h).0, spelling-length s p (name_bytes x))

  kind-ends : (k : ℕ) → is_last (kind_of s k p x) ≡ true → (k ≡ 0) ⊎ (k ≡ 5)
  unfolding kind_of
  kind-ends zero e = inl refl
  kind-ends (suc zero) e = absurd (false-true e)
  kind-ends (suc (suc zero)) e = absurd (false-true e)
  kind-ends (suc (suc (suc zero))) e = absurd (false-true e)
  kind-ends (suc (suc (suc (suc zero)))) e = absurd (false-true e)
  kind-ends (suc (suc (suc (suc (suc zero))))) e = inr refl
  kind-ends (suc (suc (suc (suc (suc (suc k)))))) e = absurd (false-true e)

  kind-goes : (k : ℕ) → is_last (kind_of s k p x) ≡ false → (k ≡ 0 → ⊥) × (k ≡ 5 → ⊥)
  unfolding kind_of
  kind-goes k e = (λ q. false-true (sym (rw q at e)), λ q. false-true (sym (rw q at e)))

-- ---- proper tokens from a position on

proper-tail : {t u : Token} {l : List Token} → Proper (t ∷ u ∷ l) → Proper (u ∷ l)
proper-tail (more h e r) = r

proper-goes : {t u : Token} {l : List Token} → Proper (t ∷ u ∷ l) → is_last t.kind ≡ false
proper-goes (more h e r) = e

cons-nil : {t : Token} {l : List Token} → t ∷ l ≡ [] → ⊥
cons-nil e = let z : ◌≡◌ {A = ℕ} 0 1 = cc in omega arith

proper-some : {l : List Token} → Proper l → l ≡ [] → ⊥
proper-some (last h e) q = cons-nil q
proper-some (more h e r) q = cons-nil q

proper-ends : {t : Token} → Proper (t ∷ []) → is_last t.kind ≡ true
proper-ends (last h e) = e
proper-ends (more h e r) = absurd (proper-some r refl)

proper-from : (s ts : List ℕ) (at : ℕ) (t : Token) (l : List Token) → view s (drop at ts) ≡ t ∷ l → Proper (view s ts) → Proper (t ∷ l)
unfolding view
proper-from s ts zero t l e p = subst Proper e p
proper-from s [] (suc at) t l e p = absurd (cons-nil (sym e))
proper-from s (w ∷ []) (suc at) t l e p = absurd (cons-nil (sym e ∙ view-end s [] at (omega arith)))
proper-from s (w ∷ v ∷ ts) (suc at) t l e p = proper-from s (v ∷ ts) at t l e (proper-tail p)

-- ---- the words of a text

taken-names : (u : List ℕ) (i : ℕ) → ((j : ℕ) → j < i → ShortName (get_or u j 0)) → (j : ℕ) → j < length (take i u) → ShortName (get_or (take i u) j 0)
taken-names u i f j h = let g : j < i = omega (arith, length-take i u) in rw (get_or-take i u j 0 g) (f j g)

-- a table of `scanner::TABLE` words
pub table-holds : (s t : List ℕ) (r : ℕ) (t' : List ℕ) → length t ≡ 16385 → Scanned s t r t' → Holds s (take r t')
unfolding table_size byte_limit
table-holds s t r t' e w = record { all = whole w.ends; names = taken-names t' r w.names }
  where
    whole : (length (tokens s) ≡ r) ⊎ ((r ≡ length t) × (r < table_size)) → view s (take r t') ≡ tokens s
    whole (inl g) = w.words ∙ take_all (length t) (tokens s) (omega (arith, w.within))
    whole (inr g) = absurd (omega (arith, g.0, g.1))

pub holds-from : (s ts : List ℕ) → Holds s ts → from s ts 0 ≡ tokens s
unfolding from
holds-from s ts h = h.all

module _ (s ts : List ℕ) (h : Holds s ts) where
  holds-proper : Proper (view s ts)
  holds-proper = subst Proper (sym h.all) (tokens-proper s)

  -- what code sees at a position
  module _ (at : ℕ) (w : Seen) (l : Looks ts at (Ok w)) where
    seen-held : Held (kind_of s w.kind w.place w.payload)
    unfolding from token
    seen-held = proper-first (proper-from s ts at (token s w.kind w.place w.payload) (from s ts w.next) (l.sees s).1 holds-proper)

    pub whole-seen : w.kind ≡ 2 → Valid (value_of w.payload)
    whole-seen e = whole-valid s w.place w.payload w.kind e seen-held

    pub pointed-seen : w.kind ≡ 3 → Valid (value_of w.payload)
    pointed-seen e = pointed-valid s w.place w.payload w.kind e seen-held

    pub name-seen : w.kind ≡ 1 → 1 ≤ name_bytes w.payload
    name-seen e = name-some s w.place w.payload w.kind e seen-held

  -- the word at an index
  module _ (i : ℕ) (g : i < length ts) where
    abbrev w : ℕ
    w = get_or ts i 0

    proper-here : Proper (token s (kind_part w) (place_part w) (payload_part w) ∷ view s (drop (i + 1) ts))
    proper-here = proper-from s ts i _ _ (view-here s ts i g) holds-proper

    held-here : Held (kind_of s (kind_part w) (place_part w) (payload_part w))
    unfolding token
    held-here = proper-first proper-here

    pub whole_word : kind_part w ≡ 2 → Valid (value_of (payload_part w))
    whole_word e = whole-valid s (place_part w) (payload_part w) (kind_part w) e held-here

    pub pointed_word : kind_part w ≡ 3 → Valid (value_of (payload_part w))
    pointed_word e = pointed-valid s (place_part w) (payload_part w) (kind_part w) e held-here

    -- 1 to 15 bytes, and nothing else in the payload
    pub name-word : kind_part w ≡ 1 → (1 ≤ payload_part w) × (payload_part w ≤ name_length) × (name_bytes (payload_part w) ≡ payload_part w)
    unfolding name_length
    name-word e =
        let n = h.names i g e in
        let b = name-some s (place_part w) (payload_part w) (kind_part w) e held-here in
        let q : name_bytes (payload_part w) ≡ payload_part w = omega (arith, n) in
        (omega (arith, b, q), n, q)

    pub last_word : i + 1 ≡ length ts → (kind_part w ≡ 0) ⊎ (kind_part w ≡ 5)
    unfolding token
    last_word e =
        kind-ends s (place_part w) (payload_part w) (kind_part w)
        (proper-ends (rw (view-end s ts (i + 1) (omega arith)) at proper-here))

    pub other_word_lem : i + 1 < length ts → (kind_part w ≡ 0 → ⊥) × (kind_part w ≡ 5 → ⊥)
    unfolding token
    other_word_lem e =
        kind-goes s (place_part w) (payload_part w) (kind_part w)
        (proper-goes (rw (view-here s ts (i + 1) e) at proper-here))
