-- The report of a generated problem says what it must: one line for each `L` and `E` row, in order, with ends that enclose the
-- row's value, and `idle` where every assignment within the bounds meets the row.
use Rattle.std.specs.Prelude.{Option, Some, None}
use mathlib.Core.Path.{◌≡◌, refl, sym, ◌∙◌, ap, subst, subst₂}
use mathlib.Core.Logic.{◌↔◌}
use mathlib.Core.Bool.{Bool, true, false}
use mathlib.Core.List.{List, [], ◌∷◌, ◌++◌, map}
use Prim.Native.Nat.{ℕ, zero, suc, ◌+◌, ◌≤◌}
use native.Mathlib.Omega.{arith}
use lib.ListN.{length-map}
use Rattle.value.specs.declared.Value.{Value}
use Rattle.value.specs.Rational.{ℚ, ◌⊑◌}
use Rattle.value.proofs.Rational.{⊑_trans}
use Rattle.value.specs.Number.{exactly}
use Rattle.value.proofs.Numbers.{is_at_most-yes, ⊑-isAtMost}
use Rattle.language.specs.Listed.{At, In}
use Rattle.language.proofs.Listed.{at-unique, in-here, in_left, in_right, map_at}
use Rattle.language.specs.All.{All}
use Rattle.language.proofs.All.{all_in_lem, all_append}
use Rattle.language.specs.Outcome.{done}
use Rattle.language.specs.Model.{Model}
use Rattle.language.specs.Numbering.{Entry, Lp, lower_of, upper_of, rows, generate}
use Rattle.language.specs.Listing.{Kind, less, range, right_of, kind_of, Line, row_line, lines_of}
use Rattle.language.specs.Listing as Listing
use Rattle.language.specs.Demand3.{BelowUpper, row_value, Rising, RowLine, Keeps}
use Rattle.language.proofs.Ordered.{rising-nil, rising-one, rising-append}
use Rattle.language.proofs.Lines.{var-line}
use Rattle.language.proofs.Kept.{keeps}
use Rattle.reach.specs.Reach.{reach}
use Rattle.reach.proofs.Enclosing.{Beyond, enclosed}
use Rattle.spans.specs.Spans.{SpanLine, span_line, last_line, is_idle, span_of, spans_from, spans_of}
use Rattle.spans.specs.Encloses.{Bounded, AboveLeast, Spanned, RowOf, Earlier, Encloses}
use Rattle.spans.proofs.Assigned.{assigned, assigned-is, rows_long, row-value}

-- ---- idle

idle-means : (q : Kind) (o : Option Value) (v : Value) → is_idle q o v ≡ true → (q ≡ less) × (h : Value) × (o ≡ Some h) × (exactly h ⊑ exactly v)
unfolding is_idle
idle-means less None v e = cc
idle-means less (Some h) v e = (refl, h, refl, is_at_most-yes h v e)
idle-means Listing.equal o v e = cc
idle-means range o v e = cc

means-idle : (h v : Value) → exactly h ⊑ exactly v → is_idle less (Some h) v ≡ true
unfolding is_idle
means-idle h v k = ⊑-isAtMost h v k

-- ---- the lines

module _ (p : Lp) where
  abbrev kind_at : Entry → Kind
  kind_at e = kind_of e.source.constraint.relation

  -- the line of a row with number n, of kind q
  abbrev line_of : ℕ → Kind → Entry → SpanLine
  line_of n q e = span_line n (reach false p e) (reach true p e) (is_idle q (reach true p e) (right_of e.fact))

  all_of : (P : SpanLine → Type 0) (n : ℕ) (q : Kind) (e : Entry) → (Spanned q → P (line_of n q e)) → All P (span_of p n q e)
  unfolding span_of is_idle
  all_of P n less e h = (h tt, tt)
  all_of P n Listing.equal e h = (h tt, tt)
  all_of P n range e h = tt

  in-of : (n : ℕ) (q : Kind) (e : Entry) → Spanned q → In (span_of p n q e) (line_of n q e)
  unfolding span_of is_idle
  in-of n less e k = in-here _ []
  in-of n Listing.equal e k = in-here _ []
  in-of n range e k = absurd k

  rising-of : (n : ℕ) (q : Kind) (e : Entry) → Rising Earlier (span_of p n q e)
  unfolding span_of
  rising-of n less e = rising-one _
  rising-of n Listing.equal e = rising-one _
  rising-of n range e = rising-nil

  -- rows with numbers from n on
  all_from : (P : SpanLine → Type 0) (n : ℕ) (es : List Entry) → ((i : ℕ) (e : Entry) → At es i e → Spanned (kind_at e) → P (line_of (n + i) (kind_at e) e)) → All P (spans_from p n es)
  unfolding spans_from
  all_from P n [] h = tt
  all_from P n (e ∷ es) h =
      all_append P (span_of p n (kind_at e) e) (spans_from p (suc n) es)
      (all_of P n (kind_at e) e (λ k. let z : n + 0 ≡ n = omega arith in subst (λ j. P (line_of j (kind_at e) e)) z (h 0 e refl k)))
      (all_from P (suc n) es (λ i d at k. let z : n + suc i ≡ suc n + i = omega arith in subst (λ j. P (line_of j (kind_at d) d)) z (h (suc i) d at k)))

  in-from : (n : ℕ) (es : List Entry) (i : ℕ) (e : Entry) → At es i e → Spanned (kind_at e) → In (spans_from p n es) (line_of (n + i) (kind_at e) e)
  unfolding spans_from
  in-from n [] i e at k = absurd at
  in-from n (d ∷ es) zero e at k =
      let z : n ≡ n + 0 = omega arith in
      in_left (span_of p n (kind_at d) d) (spans_from p (suc n) es) _
      (subst₂ (λ j (x : Entry). In (span_of p n (kind_at d) d) (line_of j (kind_at x) x)) z at (in-of n (kind_at d) d (subst (λ (x : Entry). Spanned (kind_at x)) (sym at) k)))
  in-from n (d ∷ es) (suc i) e at k =
      let z : suc n + i ≡ n + suc i = omega arith in
      in_right (span_of p n (kind_at d) d) (spans_from p (suc n) es) _ (subst (λ j. In (spans_from p (suc n) es) (line_of j (kind_at e) e)) z (in-from (suc n) es i e at k))

  -- ---- the order

  abbrev From : ℕ → SpanLine → Type 0
  From n (span_line i l g b) = n ≤ i
  From n last_line = ⊥

  abbrev UpTo : ℕ → SpanLine → Type 0
  UpTo n (span_line i l g b) = i ≤ n
  UpTo n last_line = ⊥

  sooner : (n : ℕ) (k l : SpanLine) → UpTo n k → From (suc n) l → Earlier k l
  sooner n (span_line i a b c) (span_line j d e f) h t = omega arith
  sooner n (span_line i a b c) last_line h t = absurd t
  sooner n last_line l h t = absurd h

  before_last : (n : ℕ) (k : SpanLine) → From n k → Earlier k last_line
  before_last n (span_line i l g b) h = tt
  before_last n last_line h = absurd h

  from-n : (n : ℕ) (es : List Entry) → All (From n) (spans_from p n es)
  from-n n es = all_from (From n) n es (λ i e at k. omega arith)

  rising-from : (n : ℕ) (es : List Entry) → Rising Earlier (spans_from p n es)
  unfolding spans_from
  rising-from n [] = rising-nil
  rising-from n (e ∷ es) =
      rising-append (span_of p n (kind_at e) e) (spans_from p (suc n) es) (rising-of n (kind_at e) e) (rising-from (suc n) es)
      (λ k l h t. sooner n k l
      (all_in_lem (UpTo n) (span_of p n (kind_at e) e) k h (all_of (UpTo n) n (kind_at e) e (λ _. omega arith)))
      (all_in_lem (From (suc n)) (spans_from p (suc n) es) l t (from-n (suc n) es)))

  rising-spans : Rising Earlier (spans_of p)
  unfolding spans_of
  rising-spans =
      rising-append (spans_from p 1 (rows p)) (last_line ∷ []) (rising-from 1 (rows p)) (rising-one last_line)
      (λ k l h t. all_in_lem (Earlier k) (last_line ∷ []) l t (before_last 1 k (all_in_lem (From 1) (spans_from p 1 (rows p)) k h (from-n 1 (rows p))), tt))

  has_last : In (spans_of p) last_line
  unfolding spans_of
  has_last = in_right (spans_from p 1 (rows p)) (last_line ∷ []) last_line (in-here last_line [])

  -- ---- what each line says

  record OfRow (n : ℕ) (l g : Option Value) (b : Bool) : Type 0 where
    number : ℕ
    entry : Entry
    at : At (rows p) number entry
    spanned : Spanned (kind_at entry)
    number_is : n ≡ suc number
    least-is : l ≡ reach false p entry
    greatest-is : g ≡ reach true p entry
    idle-is : b ≡ is_idle (kind_at entry) (reach true p entry) (right_of entry.fact)

  abbrev Says : SpanLine → Type 0
  Says (span_line n l g b) = OfRow n l g b
  Says last_line = Unit

  says : (l : SpanLine) → In (spans_of p) l → Says l
  unfolding spans_of
  says l h =
      all_in_lem Says (spans_from p 1 (rows p) ++ (last_line ∷ [])) l h
      (all_append Says (spans_from p 1 (rows p)) (last_line ∷ [])
      (all_from Says 1 (rows p)
      (λ i e at k. record { number = i; entry = e; at = at; spanned = k; number_is = omega arith; least-is = refl; greatest-is = refl; idle-is = refl })) (tt, tt))

  has-line : (i : ℕ) (e : Entry) → At (rows p) i e → Spanned (kind_at e) → In (spans_of p) (line_of (suc i) (kind_at e) e)
  unfolding spans_of
  has-line i e at k =
      let z : 1 + i ≡ suc i = omega arith in
      in_left (spans_from p 1 (rows p)) (last_line ∷ []) _ (subst (λ n. In (spans_from p 1 (rows p)) (line_of n (kind_at e) e)) z (in-from 1 (rows p) i e at k))

-- ---- the report

module _ (m : Model) (p : Lp) (made : generate m ≡ done p) where
  abbrev ls : List Line
  ls = lines_of m p

  kept : Keeps m p
  kept = keeps m p made

  -- the listed row of a line
  row-of : (n : ℕ) (l g : Option Value) (b : Bool) (o : OfRow p n l g b) → RowOf ls n (kind_at p o.entry) (right_of o.entry.fact)
  row-of n l g b o =
      record {
        title = o.entry.source.constraint.title;
        element = o.entry.source.element;
        listed = subst (λ k. In ls (row_line k (kind_at p o.entry) (right_of o.entry.fact) o.entry.source.constraint.title o.entry.source.element)) (sym o.number_is)
            (kept.row-line o.number o.entry o.at);
      }

  -- and no other row has its number
  row_is : (n : ℕ) (l g : Option Value) (b : Bool) (o : OfRow p n l g b) (q : Kind) (v : Value) → RowOf ls n q v → (q ≡ kind_at p o.entry) × (v ≡ right_of o.entry.fact)
  row_is n l g b o q v r = same (kept.every-line (row_line n q v r.title r.element) r.listed)
    where
      same : RowLine p n q v r.title r.element → (q ≡ kind_at p o.entry) × (v ≡ right_of o.entry.fact)
      same k =
          let number : k.number ≡ o.number = omega (arith, k.number_is, o.number_is) in
          let entry : k.entry ≡ o.entry = at-unique (rows p) o.number k.entry o.entry (subst (λ i. At (rows p) i k.entry) number k.at) o.at in
          (k.kind-is ∙ ap (λ (e : Entry). kind_at p e) entry, k.right_is ∙ ap (λ (e : Entry). right_of e.fact) entry)

  -- an end that is printed is beyond the row's value
  module _ (y : ℕ → ℚ) (h : Bounded ls y) where
    within : (k : ℕ) (q : ℚ) → At (map (assigned p.variables y) p.variables) k q → (exactly (lower_of p.entries k) ⊑ q) × BelowUpper (upper_of p.entries k) q
    within k q at =
        let v = map_at (assigned p.variables y) p.variables k q at in
        let same : y (suc k) ≡ q = sym (assigned-is p.variables y kept.variable-numbers.once k v.0 v.1) ∙ v.2 in
        let listed = var-line m p k v.0 v.1 in
        subst (λ q. (exactly (lower_of p.entries k) ⊑ q) × BelowUpper (upper_of p.entries k) q) same
        (h.above_lower (suc k) _ _ _ _ _ listed, h.below-upper (suc k) _ _ _ _ _ listed)

    beyond : (greatest : Bool) (n i : ℕ) (e : Entry) → n ≡ suc i → At (rows p) i e → (v : Value) → Some v ≡ reach greatest p e → Beyond greatest (row_value n y ls) (exactly v)
    beyond greatest n i e same at v r =
        subst (λ q. Beyond greatest q (exactly v)) (sym (ap (λ k. row_value k y ls) same ∙ row-value m p made y i e at))
        (enclosed greatest p e (map (assigned p.variables y) p.variables) (rows_long m p made i e at ∙ sym (length-map p.variables (assigned p.variables y)))
        (λ k q at. (within k q at).0) (λ k q at. (within k q at).1) v (sym r))

    above-least : (n : ℕ) (l g : Option Value) (b : Bool) → OfRow p n l g b → AboveLeast l (row_value n y ls)
    above-least n None g b o = tt
    above-least n (Some v) g b o = beyond false n o.number o.entry o.number_is o.at v o.least-is

    below-greatest : (n : ℕ) (l g : Option Value) (b : Bool) → OfRow p n l g b → BelowUpper g (row_value n y ls)
    below-greatest n l None b o = tt
    below-greatest n l (Some v) b o = beyond true n o.number o.entry o.number_is o.at v o.greatest-is

  -- each such row has a line
  has-each : (n : ℕ) (q : Kind) (v : Value) → RowOf ls n q v → Spanned q → (l : Option Value) × (g : Option Value) × (b : Bool) × In (spans_of p) (span_line n l g b)
  has-each n q v r k = of_row (kept.every-line (row_line n q v r.title r.element) r.listed)
    where
      of_row : RowLine p n q v r.title r.element → (l : Option Value) × (g : Option Value) × (b : Bool) × In (spans_of p) (span_line n l g b)
      of_row o = (
        reach false p o.entry,
        reach true p o.entry,
        is_idle (kind_at p o.entry) (reach true p o.entry) (right_of o.entry.fact),
        subst (λ i. In (spans_of p) (line_of p i (kind_at p o.entry) o.entry)) (sym o.number_is) (has-line p o.number o.entry o.at (subst Spanned o.kind-is k)),
      )

  -- what makes a row idle
  abbrev Idle : ℕ → Option Value → Type 0
  Idle n g = (h : Value) × (v : Value) × (g ≡ Some h) × RowOf ls n less v × (exactly h ⊑ exactly v)

  idle-is : (n : ℕ) (l g : Option Value) (b : Bool) → OfRow p n l g b → (b ≡ true) ↔ Idle n g
  idle-is n l g b o = (
    λ e.
        let i = idle-means _ _ _ (sym o.idle-is ∙ e) in
        (i.1, _, o.greatest-is ∙ i.2, subst (λ q. RowOf ls n q (right_of o.entry.fact)) i.0 (row-of n l g b o), i.3),
    λ (h, v, e, r, k).
        let s = row_is n l g b o less v r in
        o.idle-is ∙ ap (λ q. is_idle q (reach true p o.entry) (right_of o.entry.fact)) (sym s.0) ∙ ap (λ w. is_idle less w (right_of o.entry.fact)) (sym o.greatest-is ∙ e)
        ∙ means-idle h (right_of o.entry.fact) (subst (λ v. exactly h ⊑ exactly v) s.1 k),
  )

  idle-meets : (n : ℕ) (l g : Option Value) → OfRow p n l g true → (v : Value) → RowOf ls n less v → (y : ℕ → ℚ) → Bounded ls y → row_value n y ls ⊑ exactly v
  idle-meets n l g o v r y b =
      let i = (idle-is n l g true o).0 refl in
      let same : i.1 ≡ v = (row_is n l g true o less i.1 i.3).1 ∙ sym (row_is n l g true o less v r).1 in
      ⊑_trans (subst (λ g. BelowUpper g (row_value n y ls)) i.2 (below-greatest y b n l g true o)) (subst (λ v. exactly i.0 ⊑ exactly v) same i.4)

-- the report of a generated problem encloses its rows
pub encloses : (m : Model) (p : Lp) → generate m ≡ done p → Encloses m p
encloses m p made =
    record {
      each = has-each m p made;
      only = λ n l g b h. let o = says p (span_line n l g b) h in (_, _, row-of m p made n l g b o, o.spanned);
      in_order = rising-spans p;
      ends = has_last p;
      least = λ n l g b h y k. above-least m p made y k n l g b (says p (span_line n l g b) h);
      greatest = λ n l g b h y k. below-greatest m p made y k n l g b (says p (span_line n l g b) h);
      idle = λ n l g b h. idle-is m p made n l g b (says p (span_line n l g b) h);
      meets = λ n l g h. idle-meets m p made n l g (says p (span_line n l g true) h);
    }
