-- The lines of a listing: each says what it must, they stand in order, and each row, each floor, each variable and each
-- coefficient of the objective has its line.
use Rattle.std.specs.Prelude.{Option, Some, None}
use mathlib.Core.Path.{◌≡◌, refl, sym, ◌∙◌, ap, subst, subst₂}
use mathlib.Core.Logic.{◌⊎◌, inl, inr}
use mathlib.Core.Bool.{Bool, true, false}
use mathlib.Core.List.{List, [], ◌∷◌, ◌++◌}
use Prim.Native.Nat.{ℕ, zero, suc, ◌+◌, ◌-◌, ◌<◌, ◌≤◌}
use native.Mathlib.Omega.{arith}
use native.Mathlib.Decide.{ℕ_discrete}
use lib.Dec.{ltb}
use lib.ListN.{length, get_or}
use Rattle.language.specs.Listed.{At, In}
use Rattle.language.proofs.Listed.{at-get_d, in-nil, in-here, in-later, in-append, in_left, in_right}
use Rattle.language.specs.All.{All}
use Rattle.language.proofs.All.{all_in_lem, in_all, all_append, all-weaken}
use Rattle.value.specs.declared.Value.{Value}
use Rattle.value.specs.Decimal.{zero_value, is_zero}
use Rattle.language.specs.Syntax.{Name}
use Rattle.language.specs.Syntax
use Rattle.language.specs.Model.{Model}
use Rattle.language.specs.Numbering.{Variable, Row, Entry, Lp, less_rows, rows, lower_of, upper_of}
use Rattle.language.specs.Listing.{Line, lp_line, low_line, var_line, col_line, ending_line, coefficients_of, low_lines, row_lines, var_lines, column_lines, col_lines, lines_of}
use Rattle.language.specs.Demand3.{Rising, Below, rank, EarlierLine, Says}
use Rattle.language.proofs.Ordered.{rising-nil, rising-cons, rising-one, rising-append}
use Rattle.language.proofs.RowLines.{row_line_of, row_lines_of}

-- ---- lines for each thing of a list, with numbers from n on

-- a line of kind k for the thing of number n
abbrev RankedAt : ℕ → ℕ → Line → Type 0
RankedAt k n l = (e : List ℕ) × (rank l ≡ k ∷ n ∷ e)

module _ {A : Type 0} (lines : ℕ → A → List Line) where
  unfoldable numbered : ℕ → List A → List Line
  numbered n [] = []
  numbered n (a ∷ l) = lines n a ++ numbered (suc n) l

  numbered-in : (n : ℕ) (l : List A) (x : Line) → In (numbered n l) x → (k : ℕ) × (a : A) × At l k a × In (lines (n + k) a) x
  unfolding numbered
  numbered-in n [] x h = absurd (in-nil x h)
  numbered-in n (a ∷ l) x h = go (in-append (lines n a) (numbered (suc n) l) x h) (numbered-in (suc n) l x)
    where
      Found : ℕ → List A → Type 0
      Found n l = (k : ℕ) × (a : A) × At l k a × In (lines (n + k) a) x

      go : In (lines n a) x ⊎ In (numbered (suc n) l) x → (In (numbered (suc n) l) x → Found (suc n) l) → Found n (a ∷ l)
      go (inl k) ih = let z : n ≡ n + 0 = omega arith in (0, a, refl, subst (λ i. In (lines i a) x) z k)
      go (inr k) ih =
          let r = ih k in
          let z : suc n + r.0 ≡ n + suc r.0 = omega arith in
          (suc r.0, r.1, r.2, subst (λ i. In (lines i r.1) x) z r.3)

  in-numbered : (n : ℕ) (l : List A) (k : ℕ) (a : A) (x : Line) → At l k a → In (lines (n + k) a) x → In (numbered n l) x
  unfolding numbered
  in-numbered n [] k a x h i = absurd h
  in-numbered n (b ∷ l) zero a x h i =
      let z : n + 0 ≡ n = omega arith in
      in_left (lines n b) (numbered (suc n) l) x (subst₂ (λ j c. In (lines j c) x) z (sym h) i)
  in-numbered n (b ∷ l) (suc k) a x h i =
      let z : n + suc k ≡ suc n + k = omega arith in
      in_right (lines n b) (numbered (suc n) l) x (in-numbered (suc n) l k a x h (subst (λ j. In (lines j a) x) z i))

  -- numbered from 0
  all-numbered : (P : Line → Type 0) (l : List A) → ((k : ℕ) (a : A) → At l k a → All P (lines k a)) → All P (numbered 0 l)
  all-numbered P l p =
      in_all P (numbered 0 l) λ x h.
      let r = numbered-in 0 l x h in
      let z : 0 + r.0 ≡ r.0 = omega arith in
      all_in_lem P (lines r.0 r.1) x (subst (λ i. In (lines i r.1) x) z r.3) (p r.0 r.1 r.2)

  has-line : (l : List A) (k : ℕ) (a : A) (x : Line) → At l k a → In (lines k a) x → In (numbered 0 l) x
  has-line l k a x h i = let z : k ≡ 0 + k = omega arith in in-numbered 0 l k a x h (subst (λ j. In (lines j a) x) z i)

  -- in order, where those of one thing are and have its number
  rising-numbered : (kind : ℕ) → ((i : ℕ) (a : A) → All (RankedAt kind (suc i)) (lines i a)) → ((i : ℕ) (a : A) → Rising EarlierLine (lines i a))
      → (n : ℕ) (l : List A) → Rising EarlierLine (numbered n l)
  unfolding numbered
  rising-numbered kind ranked own n [] = rising-nil
  rising-numbered kind ranked own n (a ∷ l) =
      rising-append (lines n a) (numbered (suc n) l) (own n a) (rising-numbered kind ranked own (suc n) l)
      (λ x y h k.
      let r = numbered-in (suc n) l y k in
      let u = all_in_lem (RankedAt kind (suc n)) (lines n a) x h (ranked n a) in
      let v = all_in_lem (RankedAt kind (suc (suc n + r.0))) (lines (suc n + r.0) r.1) y r.3 (ranked (suc n + r.0) r.1) in
      subst₂ Below (sym u.1) (sym v.1) (inr (refl, inl (omega arith))))

-- the line of a variable, counted from 0
abbrev pub variable_line : List Name → Lp → ℕ → Variable → Line
variable_line names p j v =
    var_line (suc j) (ltb j p.discrete) (lower_of p.entries j) (upper_of p.entries j)
    (get_or names v.name (record { spelling = []; place = 0; sort = Syntax.index })).spelling v.element

abbrev var_lines_of : List Name → Lp → ℕ → Variable → List Line
var_lines_of names p j v = variable_line names p j v ∷ []

row-lines : (n : ℕ) (es : List Entry) → row_lines (suc n) es ≡ numbered row_lines_of n es
unfolding row_lines numbered
row-lines n [] = refl
row-lines n (e ∷ es) = ap (λ l. row_lines_of n e ++ l) (row-lines (suc n) es)

var-lines : (names : List Name) (p : Lp) (j : ℕ) (vs : List Variable) → var_lines names p j vs ≡ numbered (var_lines_of names p) j vs
unfolding var_lines numbered
var-lines names p j [] = refl
var-lines names p j (v ∷ vs) = ap (λ l. variable_line names p j v ∷ l) (var-lines names p (suc j) vs)

-- a floor's line
low-here : (n : ℕ) (w : Option Value) (v : Value) → w ≡ Some v → In (low_lines n w) (low_line n v)
unfolding low_lines
low-here n w v e = subst (λ w. In (low_lines n w) (low_line n v)) (sym e) (in-here (low_line n v) [])

all-low : (P : Line → Type 0) (n : ℕ) (w : Option Value) → ((v : Value) → w ≡ Some v → P (low_line n v)) → All P (low_lines n w)
unfolding low_lines
all-low P n None h = tt
all-low P n (Some v) h = (h v refl, tt)

row-ranked : (i : ℕ) (e : Entry) → All (RankedAt 1 (suc i)) (row_lines_of i e)
unfolding rank
row-ranked i e = ((_, refl), all-low (RankedAt 1 (suc i)) (suc i) e.floor (λ v f. (_, refl)))

row-rising : (i : ℕ) (e : Entry) → Rising EarlierLine (row_lines_of i e)
unfolding rank low_lines
row-rising i e =
    rising-cons (row_line_of i e) (low_lines (suc i) e.floor)
    (λ l h. all_in_lem (EarlierLine (row_line_of i e)) (low_lines (suc i) e.floor) l h (all-low (EarlierLine (row_line_of i e)) (suc i) e.floor (λ v f. inr (refl, inr (refl, inl (omega arith))))))
    (own e.floor)
  where
    own : (w : Option Value) → Rising EarlierLine (low_lines (suc i) w)
    own None = rising-nil
    own (Some v) = rising-one (low_line (suc i) v)

variable-ranked : (names : List Name) (p : Lp) (j : ℕ) (v : Variable) → All (RankedAt 2 (suc j)) (var_lines_of names p j v)
unfolding rank
variable-ranked names p j v = ((_, refl), tt)

-- ---- `col` lines

-- a line of variable j, counted from 0, in a row from first to last; no zero but in the last
record OnColumn (j first last : ℕ) (l : Line) : Type 0 where
  row : ℕ
  coefficient : Value
  is : col_line (suc j) row coefficient ≡ l
  from : first ≤ row
  to : row ≤ last
  no_zero : row < last → is_zero coefficient ≡ false

-- the lines of variable j: w, its coefficient in the objective, is always given
record Column (j first last : ℕ) (w : Value) (ls : List Line) : Type 0 where
  lines : All (OnColumn j first last) ls
  rising : Rising EarlierLine ls
  objective : In ls (col_line (suc j) last w)

column : (j n last : ℕ) (es : List Entry) (o : Row) → n + length es ≡ last → Column j n last (get_or o j zero_value) (column_lines j n es o)
unfolding column_lines rank
column j n last [] o e =
    let same : n ≡ last = omega arith in
    record {
      lines = (record { row = n; coefficient = _; is = refl; from = omega arith; to = omega arith; no_zero = λ t. absurd (omega arith) }, tt);
      rising = rising-one (col_line (suc j) n (get_or o j zero_value));
      objective = record { place = 0; at = ap (λ i. col_line (suc j) i (get_or o j zero_value)) same };
    }
column j n last (d ∷ es) o e = go (is_zero v) refl (column j (suc n) last es o (omega arith))
  where
    v : Value
    v = get_or (coefficients_of d.fact) j zero_value

    later : List Line
    later = column_lines j (suc n) es o

    OnIt : List Line → Type 0
    OnIt = Column j n last (get_or o j zero_value)

    sooner-all : All (OnColumn j (suc n) last) later → All (OnColumn j n last) later
    sooner-all = all-weaken (OnColumn j (suc n) last) (OnColumn j n last)
        (λ l r. record { row = r.row; coefficient = r.coefficient; is = r.is; from = omega (arith, r.from); to = r.to; no_zero = r.no_zero }) later

    go : (t : Bool) → is_zero v ≡ t → Column j (suc n) last (get_or o j zero_value) later → OnIt (elim t [ true ↦ later | false ↦ col_line (suc j) n v ∷ later ])
    go true z c = record { lines = sooner-all c.lines; rising = c.rising; objective = c.objective }
    go false z c =
        record {
          lines = (record { row = n; coefficient = v; is = refl; from = omega arith; to = omega arith; no_zero = λ t. z }, sooner-all c.lines);
          rising =
              rising-cons (col_line (suc j) n v) later
              (λ l h. let r = all_in_lem (OnColumn j (suc n) last) later l h c.lines in subst (EarlierLine (col_line (suc j) n v)) r.is (inr (refl, inr (refl, inl r.from)))) c.rising;
          objective = in-later _ later _ c.objective;
        }

-- a line of one of the k variables from j on
record OnColumns (k j last : ℕ) (l : Line) : Type 0 where
  variable : ℕ
  from : j ≤ variable
  to : variable < j + k
  on : OnColumn variable 1 last l

record Columns (k j last : ℕ) (o : Row) (ls : List Line) : Type 0 where
  lines : All (OnColumns k j last) ls
  rising : Rising EarlierLine ls
  objective : (i : ℕ) → j ≤ i → i < j + k → In ls (col_line (suc i) last (get_or o i zero_value))

columns : (k j : ℕ) (es : List Entry) (o : Row) → Columns k j (suc (length es)) o (col_lines k j es o)
unfolding col_lines rank
columns zero j es o = record { lines = tt; rising = rising-nil; objective = λ i h t. absurd (omega arith) }
columns (suc k) j es o = go (column j 1 (suc (length es)) es o (omega arith)) (columns k (suc j) es o)
  where
    first : List Line
    first = column_lines j 1 es o

    later : List Line
    later = col_lines k (suc j) es o

    last : ℕ
    last = suc (length es)

    Later : Line → Type 0
    Later = OnColumns k (suc j) last

    On : Line → Type 0
    On = OnColumns (suc k) j last

    go : Column j 1 last (get_or o j zero_value) first → Columns k (suc j) last o later → Columns (suc k) j last o (first ++ later)
    go c cs =
        record {
          lines =
              all_append On first later
              (all-weaken (OnColumn j 1 last) On (λ l r. record { variable = j; from = omega arith; to = omega arith; on = r }) first c.lines)
              (all-weaken Later On (λ l r. record { variable = r.variable; from = omega (arith, r.from); to = omega (arith, r.to); on = r.on }) later cs.lines);
          rising =
              rising-append first later c.rising cs.rising
              (λ a b h h'.
              let x = all_in_lem (OnColumn j 1 last) first a h c.lines in
              let y = all_in_lem Later later b h' cs.lines in
              subst₂ EarlierLine x.is y.on.is (inr (refl, inl (omega (arith, y.from)))));
          objective = λ i h t. which i h t (ℕ_discrete j i);
        }
      where
        which : (i : ℕ) → j ≤ i → i < j + suc k → Dec (j ≡ i) → In (first ++ later) (col_line (suc i) (suc (length es)) (get_or o i zero_value))
        which i h t (yes e) = in_left first later _ (subst (λ i. In first (col_line (suc i) (suc (length es)) (get_or o i zero_value))) e c.objective)
        which i h t (no e) = in_right first later _ (cs.objective i (omega arith) (omega arith))

-- ---- the order of the parts

abbrev OfKind : ℕ → Line → Type 0
OfKind k l = (e : List ℕ) × (rank l ≡ k ∷ e)

of-kind : {A : Type 0} (lines : ℕ → A → List Line) (k : ℕ) → ((i : ℕ) (a : A) → All (RankedAt k (suc i)) (lines i a)) → (l : List A) → All (OfKind k) (numbered lines 0 l)
of-kind lines k ranked l =
    all-numbered lines (OfKind k) l (λ i a at. all-weaken (RankedAt k (suc i)) (OfKind k) (λ x r. (suc i ∷ r.0, r.1)) (lines i a) (ranked i a))

-- of kind k or a later one
abbrev KindFrom : ℕ → Line → Type 0
KindFrom k l = (i : ℕ) × (k ≤ i) × OfKind i l

-- lines in order, of the kinds from k on
record From (k : ℕ) (ls : List Line) : Type 0 where
  rising : Rising EarlierLine ls
  kinds : All (KindFrom k) ls

-- lines of kind k, then those of later kinds
and_then : (k : ℕ) (ks ls : List Line) → Rising EarlierLine ks → All (OfKind k) ks → From (suc k) ls → From k (ks ++ ls)
and_then k ks ls r kind f =
    record {
      rising =
          rising-append ks ls r f.rising
          (λ a b h h'. let x = all_in_lem (OfKind k) ks a h kind in let y = all_in_lem (KindFrom (suc k)) ls b h' f.kinds in subst₂ Below (sym x.1) (sym y.2.1) (inl y.1));
      kinds =
          all_append (KindFrom k) ks ls (all-weaken (OfKind k) (KindFrom k) (λ l x. (k, omega arith, x)) ks kind)
          (all-weaken (KindFrom (suc k)) (KindFrom k) (λ l y. (y.0, omega (arith, y.1), y.2)) ls f.kinds);
    }

-- ---- the whole listing

module _ (m : Model) (p : Lp) where
  abbrev names : List Name
  names = m.structure.names

  abbrev lp_part : List Line
  lp_part = lp_line p.discrete (length p.variables) (length (less_rows p)) (length (rows p)) m.structure.title m.given.title ∷ []

  abbrev row_part : List Line
  row_part = numbered row_lines_of 0 (rows p)

  abbrev var_part : List Line
  var_part = numbered (var_lines_of names p) 0 p.variables

  abbrev col_part : List Line
  col_part = col_lines (length p.variables) 0 (rows p) p.objective

  abbrev end_part : List Line
  end_part = ending_line ∷ []

  -- a `col` line of the problem
  abbrev OnAny : Line → Type 0
  OnAny = OnColumns (length p.variables) 0 (suc (length (rows p)))

  col-part : Columns (length p.variables) 0 (suc (length (rows p))) p.objective col_part
  col-part = columns (length p.variables) 0 (rows p) p.objective

  lines_are : lines_of m p ≡ lp_part ++ (row_part ++ (var_part ++ (col_part ++ end_part)))
  unfolding lines_of
  lines_are =
      ap (λ l. lp_part ++ l)
      (ap (λ l. l ++ (var_lines names p 0 p.variables ++ (col_part ++ end_part))) (row-lines 0 (rows p))
      ∙ ap (λ l. row_part ++ (l ++ (col_part ++ end_part))) (var-lines names p 0 p.variables))

  in_lines : (l : Line) → In (lp_part ++ (row_part ++ (var_part ++ (col_part ++ end_part)))) l → In (lines_of m p) l
  in_lines l h = subst (λ ls. In ls l) (sym lines_are) h

  -- each row has its line, and its floor's
  of_row : (i : ℕ) (e : Entry) (l : Line) → At (rows p) i e → In (row_lines_of i e) l → In (lines_of m p) l
  of_row i e l h k = in_lines _ (in_right lp_part _ _ (in_left row_part _ _ (has-line row_lines_of (rows p) i e l h k)))

  pub row-line : (i : ℕ) (e : Entry) → At (rows p) i e → In (lines_of m p) (row_line_of i e)
  row-line i e h = of_row i e _ h (in-here (row_line_of i e) _)

  pub low-line : (i : ℕ) (e : Entry) (v : Value) → At (rows p) i e → e.floor ≡ Some v → In (lines_of m p) (low_line (suc i) v)
  low-line i e v h f = of_row i e _ h (in-later (row_line_of i e) _ _ (low-here (suc i) e.floor v f))

  -- each variable has its line
  pub var-line : (j : ℕ) (v : Variable) → At p.variables j v → In (lines_of m p) (variable_line names p j v)
  var-line j v h = in_lines _ (in_right lp_part _ _ (in_right row_part _ _ (in_left var_part _ _ (has-line (var_lines_of names p) p.variables j v _ h (in-here (variable_line names p j v) [])))))

  spelled : (v : Variable) (x : Name) (d : Name) → At names v.name x → (get_or names v.name d).spelling ≡ x.spelling
  spelled v x d at = ap (λ (y : Name). y.spelling) (at-get_d names v.name x d at)

  pub variable-line : (i : ℕ) (v : Variable) (x : Name) → At p.variables i v → At names v.name x
      → In (lines_of m p) (var_line (suc i) (ltb i p.discrete) (lower_of p.entries i) (upper_of p.entries i) x.spelling v.element)
  variable-line i v x at named =
      subst (λ s. In (lines_of m p) (var_line (suc i) (ltb i p.discrete) (lower_of p.entries i) (upper_of p.entries i) s v.element)) (spelled v x _ named) (var-line i v at)

  -- and each its coefficient in the objective
  pub objective-line : (i : ℕ) → i < length p.variables → (w : Value) × In (lines_of m p) (col_line (suc i) (suc (length (rows p))) w)
  objective-line i h = (
    _,
    in_lines _ (in_right lp_part _ _ (in_right row_part _ _ (in_right var_part _ _ (in_left col_part _ _ (col-part.objective i (omega arith) (omega arith)))))),
  )

  pub lp-line : In (lines_of m p) (lp_line p.discrete (length p.variables) (length (less_rows p)) (length (rows p)) m.structure.title m.given.title)
  lp-line = in_lines _ (in-here _ _)

  pub end_line : In (lines_of m p) ending_line
  end_line = in_lines _ (in_right lp_part _ _ (in_right row_part _ _ (in_right var_part _ _ (in_right col_part _ _ (in-here ending_line [])))))

  -- every line says what it must, where each variable's name stands in the table
  pub every-line : ((j : ℕ) (v : Variable) → At p.variables j v → (x : Name) × At names v.name x) → (l : Line) → In (lines_of m p) l → Says m p l
  every-line table l h =
      all_in_lem (Says m p) (lp_part ++ (row_part ++ (var_part ++ (col_part ++ end_part)))) l (subst (λ ls. In ls l) lines_are h) (
        record { discrete-is = refl; variables-is = refl; less-is = refl; rows_is = refl; title-is = refl; data-title-is = refl },
        all_append (Says m p) row_part _
            (all-numbered row_lines_of (Says m p) (rows p)
            (λ i e at. (
              record { number = i; entry = e; at = at; number_is = refl; kind-is = refl; right_is = refl; title-is = refl; element-is = refl },
              all-low (Says m p) (suc i) e.floor (λ v f. record { number = i; entry = e; at = at; number_is = refl; floor-is = f }),
            )))
            (all_append (Says m p) var_part _ (all-numbered (var_lines_of names p) (Says m p) p.variables (λ j v at. (of-variable j v at, tt)))
            (all_append (Says m p) col_part _ (all-weaken OnAny (Says m p) of-column col_part col-part.lines) (tt, tt))),
      )
    where
      of-variable : (j : ℕ) (v : Variable) → At p.variables j v → Says m p (variable_line names p j v)
      of-variable j v at =
          let x = table j v at in
          record {
            number = j;
            variable = v;
            at = at;
            number_is = refl;
            kind-is = refl;
            lower-is = refl;
            upper_is = refl;
            name = x.0;
            declared = x.1;
            name-is = spelled v x.0 _ x.1;
            element-is = refl;
          }

      of-column : (l : Line) → OnAny l → Says m p l
      of-column l c =
          let r = c.on in
          subst (Says m p) r.is
          (record {
            variable = c.variable;
            row = r.row - 1;
            variable-is = refl;
            variable-within = omega (arith, c.to);
            row_is = omega (arith, r.from);
            row_within = omega (arith, r.to);
            no_zero = λ t. r.no_zero (omega (arith, r.from));
          })

  pub in_order : Rising EarlierLine (lines_of m p)
  unfolding rank
  in_order =
      subst (Rising EarlierLine) (sym lines_are)
      (and_then 0 lp_part _ (rising-one _) (([], refl), tt)
      (and_then 1 row_part _ (rising-numbered row_lines_of 1 row-ranked row-rising 0 (rows p)) (of-kind row_lines_of 1 row-ranked (rows p))
      (and_then 2 var_part _ (rising-numbered (var_lines_of names p) 2 (variable-ranked names p) (λ j v. rising-one (variable_line names p j v)) 0 p.variables)
      (of-kind (var_lines_of names p) 2 (variable-ranked names p) p.variables)
      (and_then 3 col_part end_part col-part.rising
      (all-weaken OnAny (OfKind 3) (λ l c. subst (OfKind 3) c.on.is (_, refl)) col_part col-part.lines)
      (record { rising = rising-one ending_line; kinds = ((4, omega arith, ([], refl)), tt) }))))).rising
