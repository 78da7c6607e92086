-- Where the literals of the tokens are values, a portion's fixed entries are small and its numbers are values.
use Rattle.std.specs.Prelude.{Some}
use mathlib.Core.Path.{◌≡◌, refl, sym, ◌∙◌, ap, subst}
use mathlib.Core.Bool.{Bool, true, false, cond}
use mathlib.Core.List.{List, [], ◌∷◌}
use Prim.Native.Nat.{ℕ, suc, ◌+◌}
use lib.Dec.{eqb}
use lib.ListN.{length, drop}
use lib.Seq.{drop-drop}
use lib.IntN.{ℤ}
use Rattle.rules.specs.declared.Refusal.TheVariants.{Misplaced}
use Rattle.value.specs.declared.Value.{Value}
use Rattle.value.specs.Decimal.{Valid}
use Rattle.lexer.specs.Marks.{plus_sign, minus_sign}
use Rattle.lexer.specs.Text.{Token, Kind}
use Rattle.lexer.specs.Text
use Rattle.language.specs.All.{All}
use Rattle.language.proofs.All.{all_left, all_right}
use Rattle.language.specs.Outcome.{done}
use Rattle.language.proofs.Outcome.{some-injective, none-some}
use Rattle.language.specs.Syntax.{Name, Spans, point, span}
use Rattle.language.specs.Reader.{Reader, Read, give, refuse, is_mark}
use Rattle.language.specs.Valid.{Small}
use Rattle.language.specs.Data.{Entry, fixed, marked, digits_of, signed_entry, entry_by, read_entry, entries_of, bound_of, value_of}
use Rattle.language.proofs.Taken.{Reads, gives, refuses, weaken, then, then_next, then-demand, then-require, then-expect, then-known}
use Rattle.language.proofs.ValidData.{with_minus-small, signed_value-valid}
use Rattle.tokens.specs.Stored.{kind_part, place_part, payload_part, kind_of, token, view, from, size}
use Rattle.data.specs.Reading.Readers.{literal_in, number_in}
use Rattle.data.specs.Running.{SmallIf}

-- ---- tokens whose literals are values

abbrev pub FittingKind : Kind → Type 0
FittingKind (Text.mark c) = Unit {0}
FittingKind (Text.name l) = Unit {0}
FittingKind (Text.literal w v) = Valid v
FittingKind (Text.string l) = Unit {0}
FittingKind Text.end = Unit {0}
FittingKind (Text.wrong r) = Unit {0}

abbrev pub Fitting : Token → Type 0
Fitting t = FittingKind t.kind

fitting-view : (s us : List ℕ) → ((k : ℕ) (w : Bool) (v : Value) (p : ℕ) (l : List Token) → view s (drop k us) ≡ record { kind = Text.literal w v; place = p } ∷ l → Valid v) → All Fitting (view s us)
unfolding view token
fitting-view s [] h = tt
fitting-view s (w ∷ us) h = (go (kind_of s (kind_part w) (place_part w) (payload_part w)) refl, fitting-view s us (λ k. h (suc k)))
  where
    go : (k : Kind) → kind_of s (kind_part w) (place_part w) (payload_part w) ≡ k → FittingKind k
    go (Text.mark c) e = tt
    go (Text.name l) e = tt
    go (Text.literal b v) e = h 0 b v (place_part w) (view s us) (ap (λ k. record { kind = k; place = place_part w } ∷ view s us) e)
    go (Text.string l) e = tt
    go Text.end e = tt
    go (Text.wrong r) e = tt

pub fitting-from : (s ts : List ℕ) → ((at : ℕ) (w : Bool) (v : Value) (p : ℕ) (l : List Token) → from s ts at ≡ record { kind = Text.literal w v; place = p } ∷ l → Valid v) → (at : ℕ)
    → All Fitting (from s ts at)
unfolding from
fitting-from s ts h at = fitting-view s (drop at ts) (λ k w v p l e. h (at + k) w v p l (ap (view s) (sym (drop-drop k at ts)) ∙ e))

-- where they are, Q of what is read
abbrev Makes : {A : Type 0} → (A → Type 0) → A → List Token → Type 0
Makes Q a l = All Fitting l → Q a

pub made : {A : Type 0} (Q : A → Type 0) (m : Reader A) → Reads m (λ a l. All Fitting l → Q a) → (ts : List Token) (r : Read A) → All Fitting ts → m ts ≡ done r → Q r.what
made Q m g ts r h e = let x = g.reads ts r e in x.writes (all_left Fitting x.phrase r.rest (subst (All Fitting) x.taken h))

-- ---- a portion's entries

abbrev pub SmallEntry : Entry → Type 0
SmallEntry (fixed k) = Small k
SmallEntry (marked i) = Unit {0}

digits-small : (k : Kind) (z : ℤ) → FittingKind k → digits_of k ≡ Some z → Small z
unfolding digits_of
digits-small (Text.mark c) z h e = absurd (none-some e)
digits-small (Text.name l) z h e = absurd (none-some e)
digits-small (Text.literal true v) z h e = subst Small (some-injective e) h.small
digits-small (Text.literal false v) z h e = absurd (none-some e)
digits-small (Text.string l) z h e = absurd (none-some e)
digits-small Text.end z h e = absurd (none-some e)
digits-small (Text.wrong r) z h e = absurd (none-some e)

signed-small : (m : Bool) (p : ℕ) → Reads (signed_entry m) (λ e l. All Fitting l → SmallEntry e)
unfolding signed_entry
signed-small m p = then_next (λ t. then-demand _ _ (λ k e. gives (λ h. with_minus-small m k (digits-small t.kind k h.0 e))))

module _ (names : List Name) where
  by-small : (t : Token) (k : Kind) → t.kind ≡ k → Reads (entry_by names t.place k) (λ e l. All Fitting (t ∷ l) → SmallEntry e)
  unfolding entry_by
  by-small t (Text.mark c) d = go (eqb c plus_sign) (eqb c minus_sign)
    where
      wider : (m : Bool) → Reads (signed_entry m) (λ e l. All Fitting (t ∷ l) → SmallEntry e)
      wider m = weaken (signed-small m 0) (λ e l g h. g h.1)

      go : (a b : Bool) → Reads (cond a (signed_entry false) (cond b (signed_entry true) (refuse Misplaced t.place))) (λ e l. All Fitting (t ∷ l) → SmallEntry e)
      go true b = wider false
      go false true = wider true
      go false false = refuses
  by-small t (Text.name l) d = then-known names l t.place (λ u m. then-require _ _ _ (λ _ e. gives (λ h. tt)))
  by-small t (Text.literal w v) d = go w
    where
      go : (b : Bool) → Reads (cond b (give (fixed v.m)) (refuse Misplaced t.place)) (λ e l. All Fitting (t ∷ l) → SmallEntry e)
      go true = gives (λ h. (subst FittingKind d h.0).small)
      go false = refuses
  by-small t (Text.string l) d = refuses
  by-small t Text.end d = refuses
  by-small t (Text.wrong r) d = refuses

  entry-small : Reads (read_entry names) (λ e l. All Fitting l → SmallEntry e)
  unfolding read_entry
  entry-small = then_next (λ t. by-small t t.kind refl)

  -- as many as the domain has indices
  pub entries-small : (d : Spans) → Reads (entries_of names d) (λ es l. All Fitting l → (length es ≡ size d) × All SmallEntry es)
  unfolding entries_of size
  entries-small point = gives (λ h. (refl, tt))
  entries-small (span i f g p point) = then entry-small (λ e l w. then-expect _ (λ q. gives (λ h. (refl, (w (all_left Fitting l _ h), tt)))))
  entries-small (span i f g p (span j f' g' q d)) =
      then entry-small (λ e l w. then-expect _ (λ r. then (entries-small (span j f' g' q d)) (λ es k v. gives (λ h.
      let after = all_right Fitting l _ h in
      let (long, small) = v (all_left Fitting k [] after.1) in
      (ap suc long, (w (all_left Fitting l _ h), small))))))

pub positions-small : (es : List Entry) → All SmallEntry es → All SmallIf (bound_of es)
unfolding bound_of
positions-small [] h = tt
positions-small (fixed k ∷ es) h = (h.0, positions-small es h.1)
positions-small (marked i ∷ es) h = (tt, positions-small es h.1)

-- ---- a number

value-valid : (k : Kind) (v : Value) → FittingKind k → value_of k ≡ Some v → Valid v
unfolding value_of
value-valid (Text.mark c) v h e = absurd (none-some e)
value-valid (Text.name l) v h e = absurd (none-some e)
value-valid (Text.literal w u) v h e = subst Valid (some-injective e) h
value-valid (Text.string l) v h e = absurd (none-some e)
value-valid Text.end v h e = absurd (none-some e)
value-valid (Text.wrong r) v h e = absurd (none-some e)

pub number-valid : Reads number_in (λ n l. All Fitting l → Valid n.value)
unfolding number_in literal_in
number-valid = then_next (λ t. then-require _ _ _ (λ _ e. then_next (λ u. then-demand _ _ (λ v d. gives (λ h. signed_value-valid (is_mark minus_sign t) v (value-valid u.kind v h.1.0 d))))))
