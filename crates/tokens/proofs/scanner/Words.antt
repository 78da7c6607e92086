-- A token as a word: the word has room for it, and holds that token.
use mathlib.Core.Path.{◌≡◌, refl, sym, ◌∙◌, ap}
use mathlib.Core.Bool.{true, false}
use mathlib.Core.List.{List, ◌∷◌}
use Prim.Native.Nat.{ℕ, zero, suc, ◌+◌, ◌/◌, ◌%◌, ◌<◌, ◌≤◌}
use native.Mathlib.Omega.{arith}
use lib.IntN.{pos, nat_abs}
use lib.ListN.{length, get_or, take, drop}
use lib.Seq.{drop-cons}
use mir.Syntax.{w64}
use mir.Val.{to_z, of_z}
use mir.Facts.{to_z-of_z}
use Rattle.rules.specs.declared.Refusal.{Refusal}
use Rattle.rules.specs.declared.Refusal.TheVariants.{LongText, StrangeByte, Misplaced, BadName, Unfit, Full, BadIndex, NotWhole, Outside, Missing, LongListing}
use Rattle.rules.specs.Limits.{byte_limit, name_length, string_length, mantissa_limit, scale_limit}
use Rattle.rules.specs.Refusals.{refusal_number}
use Rattle.value.specs.declared.Value.{Value}
use Rattle.value.proofs.Integers.{sfits}
use Rattle.lexer.specs.Numbers.{number}
use Rattle.lexer.specs.Text.{mark, name, literal, string, wrong}
use Rattle.lexer.specs.declared.Token.{Token}
use Rattle.lexer.specs.declared.Token.TheVariants.{Mark, Name, Literal, String, End, Wrong}
use Rattle.lexer.specs.View as View
use Rattle.lexer.specs.View.{Part, Within}
use Rattle.tokens.specs.Stored.{word_of, kind_part, place_part, payload_part, bytes_from, spelling, kind_of, token}
use Rattle.tokens.proofs.Tables.{kind-of-word, place-of-word, payload-of-word}
use Rattle.tokens.specs.Scanner.Table.{kind_number, value_payload, payload_of, value_of, Plain, Packs, ShortName}
use Rattle.tokens.proofs.scanner.Proper.{Held}

-- ---- room

pub packs : (s : List ℕ) (p : ℕ) (t : Token) → Within s p t → Held (View.kind_of s t) → Packs t
packs s p (Mark m) w h = tt
packs s p (Name a n) w h = w.short
packs s p (Literal b v) w h = h
packs s p (String a n) w h = w.short
packs s p End w h = tt
packs s p (Wrong r) w h = tt

pub value-small : (v : Value) → Plain v → value_payload v < 8589934592
unfolding mantissa_limit scale_limit
value-small v h = omega (arith, h.valid.small, h.valid.places)

-- the machine reads back what a literal's m is
pub plain_back : (v : Value) → Plain v → to_z w64 (of_z w64 v.m) ≡ pos (nat_abs v.m)
unfolding mantissa_limit
plain_back v h = to_z-of_z (sfits v.m (omega (arith, h.valid.small))) ∙ h.sign

refusal-small : (r : Refusal) → refusal_number r ≤ 11
refusal-small LongText = omega arith
refusal-small StrangeByte = omega arith
refusal-small Misplaced = omega arith
refusal-small BadName = omega arith
refusal-small Unfit = omega arith
refusal-small Full = omega arith
refusal-small BadIndex = omega arith
refusal-small NotWhole = omega arith
refusal-small Outside = omega arith
refusal-small Missing = omega arith
refusal-small LongListing = omega arith

pub payload-small : (t : Token) → Packs t → payload_of t < 8589934592
unfolding name_length string_length
payload-small (Mark m) h = omega arith
payload-small (Name a n) h = omega (arith, h)
payload-small (Literal w v) h = value-small v h
payload-small (String a n) h = omega (arith, h)
payload-small End h = omega arith
payload-small (Wrong r) h = omega (arith, refusal-small r)

-- ---- bytes

part_bytes : (s : List ℕ) (p n i : ℕ) → p + i + n ≤ length s → take n (drop (p + i) s) ≡ bytes_from s p i n
unfolding bytes_from
part_bytes s p zero i h = refl
part_bytes s p (suc n) i h =
    let e : suc (p + i) ≡ p + suc i = omega arith in
    rw (drop-cons s (p + i) 0 (omega arith), e) (ap (λ (l : List ℕ). get_or s (p + i) 0 ∷ l) (part_bytes s p n (suc i) (omega arith)))

part-spelling : (s : List ℕ) (p n : ℕ) → p + n ≤ length s → take n (drop p s) ≡ spelling s p n
unfolding spelling
part-spelling s p n h = let e : p + 0 ≡ p = omega arith in rw e at (part_bytes s p n 0 (omega arith))

part_held : (s : List ℕ) (p limit a n : ℕ) → Part s p limit a n → spelling s p n ≡ View.part_of s a n
part_held s p limit a n w = rw (← w.starts) (sym (part-spelling s a n w.inside))

-- ---- the token that a word holds

mark-kind : (s : List ℕ) (k p x : ℕ) → 5 < k → kind_of s k p x ≡ mark k
unfolding kind_of
mark-kind s zero p x h = absurd (omega arith)
mark-kind s (suc zero) p x h = absurd (omega arith)
mark-kind s (suc (suc zero)) p x h = absurd (omega arith)
mark-kind s (suc (suc (suc zero))) p x h = absurd (omega arith)
mark-kind s (suc (suc (suc (suc zero)))) p x h = absurd (omega arith)
mark-kind s (suc (suc (suc (suc (suc zero))))) p x h = absurd (omega arith)
mark-kind s (suc (suc (suc (suc (suc (suc k)))))) p x h = refl

value-back : (v : Value) → Plain v → value_of (value_payload v) ≡ v
unfolding scale_limit
value-back v h =
    let a : value_payload v / 8 ≡ nat_abs v.m = omega (arith, h.valid.places) in
    let b : value_payload v % 8 ≡ v.s = omega (arith, h.valid.places) in
    rw (a, b, ← h.sign) refl

kind-held : (s : List ℕ) (p : ℕ) (t : Token) → Within s p t → Held (View.kind_of s t) → kind_of s (kind_number t) p (payload_of t) ≡ View.kind_of s t
unfolding kind_of name_length
kind-held s p (Mark m) w h = mark-kind s (number m) p 0 h
kind-held s p (Name a n) w h = let e : n % 16 ≡ n = omega (arith, w.short) in rw e (ap name (part_held s p name_length a n w))
kind-held s p (Literal true v) w h = ap (literal true) (value-back v h)
kind-held s p (Literal false v) w h = ap (literal false) (value-back v h)
kind-held s p (String a n) w h = ap string (part_held s (p + 1) string_length a n w)
kind-held s p End w h = refl
kind-held s p (Wrong r) w h = ap wrong h

module _ (s : List ℕ) (p x : ℕ) (t : Token) (w : Within s p t) (h : Held (View.kind_of s t)) (g : p ≤ byte_limit) (e : x ≡ word_of (kind_number t) p (payload_of t)) where
  near : p < 32768
  unfolding byte_limit
  near = omega arith

  word-kind : kind_part x ≡ kind_number t
  word-kind = ap kind_part e ∙ kind-of-word (kind_number t) p (payload_of t) near (payload-small t (packs s p t w h))

  word-payload : payload_part x ≡ payload_of t
  word-payload = ap payload_part e ∙ payload-of-word (kind_number t) p (payload_of t) near (payload-small t (packs s p t w h))

  word-place : place_part x ≡ p
  word-place = ap place_part e ∙ place-of-word (kind_number t) p (payload_of t) near (payload-small t (packs s p t w h))

  pub word_held : token s (kind_part x) (place_part x) (payload_part x) ≡ record { kind = View.kind_of s t; place = p }
  unfolding token
  word_held = rw (word-kind, word-place, word-payload, kind-held s p t w h) refl

  pub word-name : ShortName x
  word-name k = rw word-payload (go t w h (sym word-kind ∙ k))
    where
      go : (t : Token) → Within s p t → Held (View.kind_of s t) → kind_number t ≡ 1 → payload_of t ≤ name_length
      go (Mark m) w h e = omega arith
      go (Name a n) w h e = w.short
      go (Literal true v) w h e = absurd (omega (arith, e))
      go (Literal false v) w h e = absurd (omega (arith, e))
      go (String a n) w h e = absurd (omega (arith, e))
      go End w h e = omega arith
      go (Wrong r) w h e = absurd (omega (arith, e))
