-- Every data section that is written, with portions that are in order, is read: `PhrasedData`, the other way round.
use Rattle.std.specs.Prelude.{Some}
use mathlib.Core.Path.{◌≡◌, refl, sym, ◌∙◌, ap, subst}
use mathlib.Core.Bool.{Bool, true, false}
use mathlib.Core.List.{List, [], ◌∷◌, ◌++◌, append_assoc}
use Prim.Native.Nat.{ℕ, zero, suc, ◌*◌, ◌^◌, ◌≤◌}
use native.Mathlib.Omega.{arith}
use native.Mathlib.Nat.{le-mul_of_pos_right, one-le-pow}
use lib.Dec.{lit<}
use lib.ListN.{length, length-append}
use lib.IntN.{ℤ, pos, nat_abs, neg_ℤ, ◌*ℤ◌}
use borrow.Author.Tests.{lt-ltb}
use Rattle.rules.specs.declared.Refusal.TheVariants.{Misplaced, BadIndex}
use Rattle.rules.specs.Limits.{byte_limit, nesting_limit, data_limit}
use Rattle.value.specs.declared.Value.{Value}
use Rattle.rational.proofs.Integer.{*ℤ-id}
use Rattle.rational.specs.Fraction.{◌≈◌, integer}
use Rattle.value.specs.Rational.{whole, floor}
use Rattle.value.proofs.Rational.{exact, rational-integer}
use Rattle.value.specs.Decimal.{Valid, tenths, frac, negate, whole_of, of_whole}
use Rattle.value.specs.Number.{exactly}
use Rattle.value.proofs.Integers.{nat_abs_mul}
use Rattle.value.proofs.Numbers.{exactly-whole, exactly-unique}
use Rattle.value.proofs.Operations.{of_whole-valid}
use Rattle.value.proofs.Reading.{literal-valid}
use Rattle.lexer.specs.Marks.{plus_sign, minus_sign, comma, opens, closes, opens_list, closes_list, close_word}
use Rattle.lexer.specs.Text.{Token, mark, name, tokens}
use Rattle.lexer.specs.Text
use Rattle.language.specs.Listed.{Distinct}
use Rattle.language.specs.Outcome.{done}
use Rattle.language.specs.Syntax.{Formula, Name, Spans, point, span}
use Rattle.language.specs.Evaluation.{whole_at}
use Rattle.language.specs.Reader.{Reader, follow, ◌>>=◌, give, as_read, passed, next, look, mark_of, name_of, is_mark, is_name, demand, require, expect, is_index, Used}
use Rattle.language.specs.Store.{Store, Portion, portion_by, Bound, set_at, whole_if, accept}
use Rattle.language.specs.Data.{Entry, fixed, marked, digits_of, signed_entry, entry_by, read_entry, entries_of, no_repeats, positions_of, order_from, read_order, bound_of, value_of, signed_value, read_number, each_read, runs, subscripted_portion, is_point, portion_of, portions_of, read_close, data_of, read_end, read_data}
use Rattle.language.specs.Phrases.{◌at◌, Means}
use Rattle.language.specs.Defined.{IsWhole}
use Rattle.language.specs.DataPhrases.{SignedNumber, WrittenPortion, marks, sign_of, WritesNumbers, no_number, one_number, sort_of, WritesEntry, digits, plus_digits, minus_digits, index, WritesEntries, last_entry, one_entry, WritesIndices, last_index, one_index, WritesOrder, left_to_right, in_given_order, WritesPortion, unsubscripted, subscripted, WritesPortions, no_portion, one_portion, WritesData, no_data, one_data}
use Rattle.language.specs.CarriedOut.{Stores, InTurn, Fills, FillsPortion, CarriesOut}
use Rattle.language.proofs.Shapes.{AllShaped, shaped-left, shaped-right, tokens-shaped}
use Rattle.language.proofs.ValidData.{ValidTokens}
use Rattle.language.proofs.Turns.{tokens-bounded}
use Rattle.language.proofs.Rearranged.{marks-are, repeats-none, rearranges-true}
use Rattle.language.proofs.Complete.{Looks, mark-looks, name-looks, onward, look-stops, expect-gives, bracket-gives, known-gives, named-gives, index_gives}
use Rattle.language.proofs.CompletePhrases.{string-gives}

-- ---- whole numbers

-- a valid value that is a whole number is written without places
whole_is : (v : Value) (k : ℤ) → Valid v → exactly v ≡ whole k → v ≡ of_whole k
unfolding exactly frac tenths ◌≈◌ integer
whole_is v k h e =
    let x : v.m *ℤ pos 1 ≡ k *ℤ pos (10 ^ v.s) = exact (frac v) (integer k) (e ∙ sym (rational-integer k)) in
    let size : nat_abs v.m ≡ nat_abs k * 10 ^ v.s = ap nat_abs (sym (*ℤ-id v.m) ∙ x) ∙ nat_abs_mul k (pos (10 ^ v.s)) in
    exactly-unique v (of_whole k) h (of_whole-valid k (omega (arith, le-mul_of_pos_right (nat_abs k) (one-le-pow v.s 10 (lit< tt)), size, h.small))) (e ∙ sym (exactly-whole k))

digits_are : (v : Value) (k : ℤ) → Valid v → exactly v ≡ whole k → v.m ≡ k
unfolding of_whole
digits_are v k h e = ap (λ (v : Value). v.m) (whole_is v k h e)

whole-passes : (w m : Bool) (p : ℕ) (v : Value) → Valid v → (w ≡ true → IsWhole (exactly v)) → whole_if w p (signed_value m v) ≡ done tt
unfolding whole_if whole_at whole_of negate of_whole
whole-passes true true p v h i = rw (whole_is v (floor (exactly v)) h (i refl)) refl
whole-passes true false p v h i = rw (whole_is v (floor (exactly v)) h (i refl)) refl
whole-passes false m p v h i = refl

-- ---- the numbers of a portion, whose name stands at p

numbers-look : {ns : List SignedNumber} {l : List Token} → WritesNumbers ns l → (ts : List Token) → Looks (is_mark opens) ts → Looks (is_mark opens) (l ++ ts)
unfolding mark_of
numbers-look no_number ts s = s
numbers-look (one_number {l = l} true d v p q w) ts s = mark-looks (is_mark opens) minus_sign p (Text.literal d v at q ∷ l ++ ts) refl
numbers-look (one_number {l = l} false d v p q w) ts s = mark-looks (is_mark opens) plus_sign p (Text.literal d v at q ∷ l ++ ts) refl

none_written : {ns : List SignedNumber} {l : List Token} → WritesNumbers ns l → ns ≡ [] → l ≡ []
none_written no_number e = refl
none_written (one_number m d v p q w) e = absurd (omega (arith, ap length e))

-- numbers that are taken in two parts
record Parted (ns ms : List SignedNumber) (l : List Token) : Type 0 where
  front : List Token
  behind : List Token
  parts : l ≡ front ++ behind
  first : WritesNumbers ns front
  rest : WritesNumbers ms behind

parted : (ns : List SignedNumber) {ms : List SignedNumber} {l : List Token} → WritesNumbers (ns ++ ms) l → Parted ns ms l
parted [] {l = l} w = record { front = []; behind = l; parts = refl; first = no_number; rest = w }
parted (n ∷ ns) (one_number m d v p q w) = let r = parted ns w in record {
  front = mark (sign_of m) at p ∷ Text.literal d v at q ∷ r.front;
  behind = r.behind;
  parts = ap (λ (l : List Token). mark (sign_of m) at p ∷ Text.literal d v at q ∷ l) r.parts;
  first = one_number m d v p q r.first;
  rest = r.rest;
}

-- a reader that takes the numbers ns and gives the store new
record Takes (m : Reader Store) (ns : List SignedNumber) (new : Store) : Type 0 where
  takes : {l : List Token} → WritesNumbers ns l → ValidTokens l → (ts : List Token) → Looks (is_mark opens) ts → m (l ++ ts) ≡ done (record { what = new; rest = ts })

turns-take : (F : ℤ → List SignedNumber → Store → Store → Type 0) (f : ℤ → Store → Reader Store) → ((k : ℤ) (ns : List SignedNumber) (st new : Store) → F k ns st new → Takes (f k st) ns new)
    → (ks : List ℤ) (ns : List SignedNumber) (st new : Store) → InTurn F ks ns st new → Takes (each_read f ks st) ns new
unfolding each_read InTurn
turns-take F f h [] ns st new w = record {
  takes = λ {l} n a ts s. ap (λ (l : List Token). done (record { what = st; rest = l ++ ts })) (none_written n w.0) ∙ ap (λ (st : Store). done (record { what = st; rest = ts })) w.1;
}
turns-take F f h (k ∷ ks) ns st new w = record {
  takes = λ {l} n a ts s.
      let r = parted w.0 (subst (λ ns. WritesNumbers ns l) w.3 n) in
      let b : ValidTokens (r.front ++ r.behind) = subst ValidTokens r.parts a in
      ap (λ (l : List Token). follow (f k st (l ++ ts)) (λ b. each_read f ks b)) r.parts
      ∙ ap (λ (l : List Token). follow (f k st l) (λ b. each_read f ks b)) (append_assoc r.front r.behind ts)
      ∙ onward (λ b. each_read f ks b) ((h k w.0 st w.2 w.4).takes r.first (shaped-left Valid r.front r.behind b) (r.behind ++ ts) (numbers-look r.rest ts s))
      ∙ (turns-take F f h ks w.1 w.2 new w.5).takes r.rest (shaped-right Valid r.front r.behind b) ts s;
}

module _ (x : WrittenPortion) (p : ℕ) where
  abbrev portion_at : Portion
  portion_at = record { name = x.name; place = p; whole = x.whole; domain = x.domain }

  accepts : (e : List ℤ) (n : SignedNumber) (st new : Store) (q : ℕ) → Valid n.literal → Stores x e n st new → accept portion_at e q (signed_value n.negative n.literal) st ≡ done new
  unfolding accept
  accepts e n st new q h s =
      rw (whole-passes x.whole n.negative q n.literal h s.whole, s.inside p, s.unset, lt-ltb (length st) data_limit s.room) (ap done (sym s.stores))

  number-gives : {e : List ℤ} {n : SignedNumber} {st new : Store} {l : List Token} → Stores x e n st new → WritesNumbers (n ∷ []) l → ValidTokens l → (ts : List Token)
      → read_number portion_at e st (l ++ ts) ≡ done (record { what = new; rest = ts })
  unfolding read_number next passed mark_of require value_of demand
  number-gives {e} {n} {st} {new} s (one_number true d v q r no_number) a ts = ap (λ o. as_read o ts) (accepts e n st new q a.1.0 s)
  number-gives {e} {n} {st} {new} s (one_number false d v q r no_number) a ts = ap (λ o. as_read o ts) (accepts e n st new q a.1.0 s)

  fills-take : (js : List ℕ) (b : Bound) (ns : List SignedNumber) (st new : Store) → Fills x js b ns st new → Takes (runs portion_at js b st) ns new
  unfolding runs Fills
  fills-take [] b ns st new w = record { takes = λ {l} n a ts s. number-gives w.2 (subst (λ ns. WritesNumbers ns l) w.1 n) a ts }
  fills-take (j ∷ js) b ns st new w = record {
    takes = λ {l} n a ts s.
        onward _ (numbers-look n ts s).seen
        ∙ onward _ (ap (λ o. as_read o (l ++ ts)) w.1)
        ∙ (turns-take _ _ (λ k ns st new f. fills-take js (set_at j k b) ns st new f) _ ns st new w.2).takes n a ts s;
  }

-- ---- a portion's head

module _ (names : List Name) where
  entry_gives : {x : Entry} {l : List Token} → WritesEntry names x l → ValidTokens l → (ts : List Token) → read_entry names (l ++ ts) ≡ done (record { what = x; rest = ts })
  unfolding read_entry next passed entry_by signed_entry digits_of demand is_index require
  entry_gives (digits v k p e) a ts = ap (λ z. done (record { what = fixed z; rest = ts })) (digits_are v k a.0 e)
  entry_gives (plus_digits v k p q e) a ts = ap (λ z. done (record { what = fixed z; rest = ts })) (digits_are v k a.1.0 e)
  entry_gives (minus_digits v k p q e) a ts = ap (λ z. done (record { what = fixed (neg_ℤ z); rest = ts })) (digits_are v k a.1.0 e)
  entry_gives (index p m) a ts = onward (λ (u : Used). require (is_index u.sort) Misplaced p >>= λ _. give (marked u.number)) (known-gives names p ts m)

  -- behind an entry of more than one
  more-entries : {d : Spans} {es : List Entry} {l : List Token} → WritesEntries names d es l → (i : ℕ) (f g : Formula) (r : ℕ) (ts : List Token)
      → entries_of names (span i f g r d) ts ≡ follow (read_entry names ts) (λ x. expect comma >>= λ _. entries_of names d >>= λ es. give (x ∷ es))
  unfolding entries_of
  more-entries (last_entry p w) i f g r ts = refl
  more-entries (one_entry p w v) i f g r ts = refl

  entries-give : {d : Spans} {es : List Entry} {l : List Token} → WritesEntries names d es l → ValidTokens l → (ts : List Token) → entries_of names d (l ++ ts) ≡ done (record { what = es; rest = ts })
  unfolding entries_of
  entries-give (last_entry {x = x} {l = l} p w) a ts =
      rw (append_assoc l (mark closes_list at p ∷ []) ts)
      (onward (λ x. expect closes_list >>= λ _. give (x ∷ [])) (entry_gives w (shaped-left Valid l _ a) (mark closes_list at p ∷ ts))
      ∙ onward (λ _. give (x ∷ [])) (expect-gives closes_list p ts refl))
  entries-give (one_entry {i = i} {r = r} {f = f} {g = g} {d = d} {x = x} {l = l} {k = k} p w v) a ts =
      rw (append_assoc l (mark comma at p ∷ k) ts)
      (more-entries v i f g r (l ++ (mark comma at p ∷ k ++ ts))
      ∙ onward (λ x. expect comma >>= λ _. entries_of names d >>= λ es. give (x ∷ es)) (entry_gives w (shaped-left Valid l _ a) (mark comma at p ∷ k ++ ts))
      ∙ onward (λ _. entries_of names d >>= λ es. give (x ∷ es)) (expect-gives comma p (k ++ ts) refl)
      ∙ onward (λ es. give (x ∷ es)) (entries-give v (shaped-right Valid l _ a).1 ts))

  indices-give : {o : List ℕ} {l : List Token} → WritesIndices names o l → (n : ℕ) (ts : List Token) → length l ≤ n → order_from names n (l ++ ts) ≡ done (record { what = o; rest = ts })
  unfolding order_from look next passed mark_of expect require
  indices-give (last_index p q m) zero ts h = absurd (omega arith)
  indices-give (last_index p q m) (suc n) ts h = onward _ (index_gives names p (mark closes at q ∷ ts) m)
  indices-give (one_index p q m w) zero ts h = absurd (omega arith)
  indices-give (one_index {i = i} {k = k} p q m w) (suc n) ts h = onward _ (index_gives names p (mark comma at q ∷ k ++ ts) m) ∙ onward (λ o. give (i ∷ o)) (indices-give w n ts (omega arith))

  order-gives : {m o : List ℕ} {l : List Token} → Distinct m → WritesOrder names m o l → (p : ℕ) (ts : List Token) → length l ≤ byte_limit → Looks (is_mark opens) ts
      → read_order names p m (l ++ ts) ≡ done (record { what = o; rest = ts })
  unfolding read_order look passed mark_of nesting_limit require
  order-gives {m} once left_to_right p ts h s = look-stops (is_mark opens) _ (give m) ts s
  order-gives {m} {o} once (in_given_order {k = k} q w r) p ts h s =
      onward _ (bracket-gives opens _ q (k ++ ts) refl) ∙ onward _ (indices-give w _ ts (omega arith)) ∙ onward _ (ap (λ t. require t BadIndex p ts) (rearranges-true o m once r))

  -- ---- portions

  portion-at : (i p : ℕ) (whole : Bool) (d : Spans) → portion_by i p (sort_of whole d) ≡ Some (record { name = i; place = p; whole = whole; domain = d })
  unfolding portion_by
  portion-at i p true d = refl
  portion-at i p false d = refl

  entries-span : {d : Spans} {es : List Entry} {l : List Token} → WritesEntries names d es l → is_point d ≡ false
  entries-span (last_entry p w) = refl
  entries-span (one_entry p w v) = refl

  abbrev on_point : Bool → Portion → Store → Reader Store
  on_point b x st = elim b as (λ _. Reader Store) [ true ↦ runs x [] [] st | false ↦ subscripted_portion names x st ]

  head-gives : {l : List ℕ} {i : ℕ} (whole : Bool) (d : Spans) (p : ℕ) (st : Store) (ts : List Token) → Means names l i (sort_of whole d)
      → portion_of names st (name l at p ∷ ts) ≡ on_point (is_point d) (record { name = i; place = p; whole = whole; domain = d }) st ts
  unfolding portion_of demand
  head-gives {i = i} whole d p st ts m =
      onward _ (named-gives names p ts m) ∙ onward _ (ap (λ o. demand o p ts) (portion-at i p whole d))

  portion-gives : {x : WrittenPortion} {l : List Token} → WritesPortion names x l → (st new : Store) → FillsPortion x st new → ValidTokens l → length l ≤ byte_limit → (ts : List Token) → Looks (is_mark opens) ts → portion_of names st (l ++ ts) ≡ done (record { what = new; rest = ts })
  unfolding subscripted_portion positions_of bound_of nesting_limit require
  portion-gives {x} (unsubscripted {k = k} whole p m w) st new f a h ts s = head-gives whole point p st (k ++ ts) m ∙ (fills-take x p [] [] x.numbers st new f).takes w a.1 ts s
  portion-gives {x} (subscripted {d = d} {es = es} {o = o} {a = b} {b = c} {c = k} whole p q m v once u w) st new f a h ts s =
      let y : Portion = portion_at x p in
      let after : ValidTokens (c ++ k) = shaped-right Valid b (c ++ k) a.1.1 in
      head-gives whole d p st _ m
      ∙ ap (λ t. on_point t y st (mark opens_list at q ∷ (b ++ (c ++ k)) ++ ts)) (entries-span v)
      ∙ ap (λ (l : List Token). subscripted_portion names y st (mark opens_list at q ∷ l)) (regroup b c k)
      ∙ onward _ (bracket-gives opens_list _ q (b ++ (c ++ (k ++ ts))) refl)
      ∙ onward _ (entries-give v (shaped-left Valid b (c ++ k) a.1.1) (c ++ (k ++ ts)))
      ∙ onward _ (ap (λ t. require t BadIndex p (c ++ (k ++ ts))) (ap no_repeats (marks-are es) ∙ repeats-none (marks es) once))
      ∙ onward _ (subst (λ l. read_order names p l (c ++ (k ++ ts)) ≡ done (record { what = o; rest = k ++ ts })) (sym (marks-are es)) (order-gives once u p (k ++ ts) (omega (arith, h, length-append b (c ++ k), length-append c k)) (numbers-look w ts s)))
      ∙ (fills-take x p _ _ x.numbers st new f).takes w (shaped-right Valid c k after) ts s
    where
      regroup : (b c k : List Token) → (b ++ (c ++ k)) ++ ts ≡ b ++ (c ++ (k ++ ts))
      regroup b c k = simp append_assoc

  portions-look : {xs : List WrittenPortion} {l : List Token} → WritesPortions names xs l → (q : ℕ) (ts : List Token) → Looks (is_mark opens) (l ++ (mark close_word at q ∷ ts))
  unfolding mark_of
  portions-look no_portion q ts = mark-looks (is_mark opens) close_word q ts refl
  portions-look (one_portion (unsubscripted whole p m w) v) q ts = name-looks (is_mark opens) _ p _ refl
  portions-look (one_portion (subscripted whole p r m a once b c) v) q ts = name-looks (is_mark opens) _ p _ refl

  -- one more turn where a portion follows
  next-portion : {x : WrittenPortion} {l : List Token} → WritesPortion names x l → (n : ℕ) (st : Store) (ts : List Token)
      → follow {B = Store} (look (l ++ ts)) (λ t. elim (is_name t) as (λ _. Reader Store) [ true ↦ portions_of names n st | false ↦ give st ]) ≡ portions_of names n st (l ++ ts)
  unfolding look passed name_of
  next-portion (unsubscripted whole p m w) n st ts = refl
  next-portion (subscripted whole p q m a once b c) n st ts = refl

  some-tokens : {x : WrittenPortion} {l : List Token} → WritesPortion names x l → 1 ≤ length l
  some-tokens (unsubscripted whole p m w) = omega arith
  some-tokens (subscripted whole p q m a once b c) = omega arith

  portions-give : {x : WrittenPortion} {xs : List WrittenPortion} {l k : List Token} → WritesPortion names x l → WritesPortions names xs k → (n : ℕ) (st new : Store) → CarriesOut (x ∷ xs) st new
      → ValidTokens (l ++ k) → length (l ++ k) ≤ n → n ≤ byte_limit → (q : ℕ) (ts : List Token)
      → portions_of names n st (l ++ (k ++ (mark close_word at q ∷ ts))) ≡ done (record { what = new; rest = mark close_word at q ∷ ts })
  unfolding portions_of CarriesOut look passed name_of
  portions-give {l = l} {k = k} v w zero st new c a h b q ts = absurd (omega (arith, some-tokens v, length-append l k))
  portions-give {l = l} v no_portion (suc n) st new c a h b q ts =
      onward _
      (portion-gives v st c.0 c.1 (shaped-left Valid l [] a) (omega (arith, h, b, length-append l [])) (mark close_word at q ∷ ts) (portions-look no_portion q ts))
      ∙ ap (λ (st : Store). done (record { what = st; rest = mark close_word at q ∷ ts })) c.2
  portions-give {l = l} v (one_portion {l = m} {k = k} u w) (suc n) st new c a h b q ts =
      onward _
      (portion-gives v st c.0 c.1 (shaped-left Valid l (m ++ k) a) (omega (arith, h, b, length-append l (m ++ k))) ((m ++ k) ++ (mark close_word at q ∷ ts)) (portions-look (one_portion u w) q ts))
      ∙ ap (λ (l : List Token). follow (look l) (λ t. elim (is_name t) as (λ _. Reader Store) [ true ↦ portions_of names n c.0 | false ↦ give c.0 ])) (append_assoc m k (mark close_word at q ∷ ts))
      ∙ next-portion u n c.0 (k ++ (mark close_word at q ∷ ts))
      ∙ portions-give u w n c.0 new c.2 (shaped-right Valid l (m ++ k) a) (omega (arith, h, some-tokens v, length-append l (m ++ k))) (omega arith) q ts

  -- ---- the data section

  data-gives : {s : List ℕ} {xs : List WrittenPortion} {ts : List Token} (st : Store) → WritesData names s xs ts → CarriesOut xs [] st → ValidTokens ts → length ts ≤ suc byte_limit
      → read_data names ts ≡ done (record { what = record { title = s; store = st }; rest = [] })
  unfolding read_data data_of read_close read_end next passed mark_of require CarriesOut
  data-gives st (no_data p q) c a h = ap (λ (st : Store). done (record { what = record { title = []; store = st }; rest = [] })) c
  data-gives st (one_data {s = s} {l = l} {k = k} p q r t v w) c a h =
      let rest : List Token = mark close_word at r ∷ Text.end at t ∷ [] in
      let valid : ValidTokens ((l ++ k) ++ rest) = subst ValidTokens (sym (append_assoc l k rest)) a.1.1 in
      ap (λ o. follow o (λ g. read_end >>= λ _. give g))
      (onward _ (string-gives s q (l ++ (k ++ rest)))
      ∙ onward _
      (portions-give v w _ [] st c (shaped-left Valid (l ++ k) rest valid) (omega (arith, h, length-append l k, length-append l (k ++ rest), length-append k rest)) (omega arith) r (Text.end at t ∷ [])))

-- ---- in a text

pub data-complete : (text : List ℕ) {names : List Name} {s : List ℕ} {xs : List WrittenPortion} {ts : List Token} (front : List Token) (st : Store) → tokens text ≡ front ++ ts
    → WritesData names s xs ts → CarriesOut xs [] st → read_data names ts ≡ done (record { what = record { title = s; store = st }; rest = [] })
data-complete text {names} {ts = ts} front st e w c =
    data-gives names st w c (shaped-right Valid front ts (subst (AllShaped Valid) e (tokens-shaped Valid literal-valid text))) (omega (arith, tokens-bounded text, ap length e, length-append front ts))
