-- The whole text: the parts of the reader joined, and the report.
use Rattle.std.specs.Prelude.{Option, Some, None}
use mathlib.Core.Path.{◌≡◌, refl, sym, ◌∙◌, ap}
use mathlib.Core.Bool.{Bool, false}
use mathlib.Core.List.{List, [], ◌∷◌, ◌++◌, append_assoc, append-nil}
use Prim.Native.Nat.{ℕ, zero, suc, ◌+◌, ◌-◌, ◌<◌, ◌≤◌, ◌^◌}
use native.Mathlib.Omega.{arith}
use borrow.Author.Tests.{le-leb, lt-leb}
use lib.ListN.{length, get_or, take, drop, length-drop}
use lib.Seq.{length-take-le}
use Rattle.rules.specs.Characters.{bytes}
use Rattle.rules.specs.Limits.{variable_limit}
use Rattle.value.specs.declared.Value.{Value}
use Rattle.value.specs.Printed.{Written}
use Rattle.value.proofs.Writing.{written_then}
use Rattle.mps.specs.Sheet.{Column, Bounds, Sheet}
use Rattle.mps.specs.Export.{right_head, lower_head}
use Rattle.language.specs.Listing.{row_line, kind_by, low_lines}
use Rattle.language.specs.Listing as Listing
use Rattle.mps.specs.Report.{bare_line, bare_lines, rows_from, variables_from, columns_of, sheet_lines, bare_of}
use Rattle.mps.specs.Reading as mps
use Rattle.mps.specs.Reading.{Read, Reader, follow, ◌>>=◌, give, expect, as_read, strip, line_value, first_has, later_have, read_floor, read_less, read_equal, read_upper, read_bounds, read_columns, read_discrete, Kinds, read_kinds, read_sheet, alone, sheet_in}
use Rattle.importer.specs.declared.MatrixRead.{MatrixRead}
use Rattle.importer.specs.declared.RowsRead.{RowsRead}
use Rattle.importer.specs.Sections.{read_each, bytes_each, opening, columns_bytes, Matrix, read_matrix, matrix_bytes, Side, floor_at, side_at, side_bytes, bounds_at, bounds_bytes, rights_part, bounds_part, Sides, sides_part, sides_bytes, rights_of, floors_of, sheet_of, sheet_from}
use Rattle.importer.specs.Steps.{Opens, Walked, Walks, WalkedMatrix, WalksMatrix}
use Rattle.importer.specs.Reads.{Reads, ReadsFrom}
use Rattle.importer.proofs.Walking.{same-what}
use Rattle.importer.proofs.Coefficients.{first-has, later-have, bare-append}
use Rattle.importer.proofs.Sides.{floorless}

-- ---- right sides and bounds, as the definition reads and prints them

follow-then : {A B C : Type 0} (o : Option (Read A)) (f : A → Reader B) (g : B → Reader C) → follow (follow o f) g ≡ follow o (λ a. f a >>= g)
follow-then None f g = refl
follow-then (Some x) f g = refl

floor-is : (bs : List Bool) (i : ℕ) (c : Bool) (l : List ℕ) → c ≡ get_or bs i false → read_floor c i l ≡ floor_at bs i l
unfolding floor_at
floor-is bs i c l e = rw e

module _ {A : Type 0} (bs : List Bool) where
  equal-are : (k i : ℕ) → length bs ≤ i → (R : List Value → Reader A) (l : List ℕ) → follow (read_equal k i l) R ≡ follow (read_each (side_at bs) k i l) (λ ss. R (rights_of ss))
  unfolding read_equal read_each side_at
  equal-are zero i h R l = refl
  equal-are (suc k) i h R l = go (line_value (right_head (suc i)) l) (equal-are k (suc i) (omega arith))
    where
      go : (o : Option (Read Value)) → ((R : List Value → Reader A) (l : List ℕ) → follow (read_equal k (suc i) l) R ≡ follow (read_each (side_at bs) k (suc i) l) (λ ss. R (rights_of ss)))
          → follow (follow o (λ v. read_equal k (suc i) >>= λ vs. give (v ∷ vs))) R
          ≡ follow (follow (follow o (λ v. floor_at bs i >>= λ w. give (record { right = v; floor = w }))) (λ s. read_each (side_at bs) k (suc i) >>= λ ss. give (s ∷ ss))) (λ ss. R (rights_of ss))
      go None f = refl
      go (Some x) f =
          rw (floorless bs i h x.rest)
          (follow-then (read_equal k (suc i) x.rest) (λ vs. give (x.what ∷ vs)) R
          ∙ f (λ vs. R (x.what ∷ vs)) x.rest
          ∙ sym (follow-then (read_each (side_at bs) k (suc i) x.rest) (λ ss. give (record { right = x.what; floor = None } ∷ ss)) (λ ss. R (rights_of ss))))

  -- cs are the rows of `<=` and `>=` from row i on
  less-are : (k i : ℕ) (cs : List Bool) → cs ≡ drop i bs → (R : List (Option Value) → List Value → Reader A) (l : List ℕ)
      → follow (read_less i cs l) (λ q. read_equal k (i + length cs) >>= λ vs. R q.floors (q.rights ++ vs))
      ≡ follow (read_each (side_at bs) (length cs + k) i l) (λ ss. R (floors_of (length cs) ss) (rights_of ss))
  unfolding read_less read_each side_at
  less-are k i [] e R l =
      let h : length bs ≤ i = omega (arith, length-drop i bs, ap length e) in
      let z : 0 + k ≡ k = omega arith in
      let y : i + 0 ≡ i = omega arith in
      rw (z, y) (equal-are k i h (R []) l)
  less-are k i (c ∷ cs) e R l =
      let z : suc (length cs) + k ≡ suc (length cs + k) = omega arith in
      let y : i + suc (length cs) ≡ suc i + length cs = omega arith in
      let x : c ≡ get_or bs i false = ap first_has e ∙ first-has bs i in
      rw (z, y) (go (line_value (right_head (suc i)) l) x (less-are k (suc i) cs (ap later_have e ∙ later-have bs i)))
    where
      later : (v : Value) (o : Option (Read (Option Value))) → ((R : List (Option Value) → List Value → Reader A) (l : List ℕ)
          → follow (read_less (suc i) cs l) (λ q. read_equal k (suc i + length cs) >>= λ vs. R q.floors (q.rights ++ vs))
          ≡ follow (read_each (side_at bs) (length cs + k) (suc i) l) (λ ss. R (floors_of (length cs) ss) (rights_of ss)))
          → follow {A = mps.Sides} (follow o (λ w. read_less (suc i) cs >>= λ q. give (record { rights = v ∷ q.rights; floors = w ∷ q.floors }))) (λ q. read_equal k (suc i + length cs) >>= λ vs. R q.floors (q.rights ++ vs))
          ≡ follow (follow (follow o (λ w. give (record { right = v; floor = w }))) (λ s. read_each (side_at bs) (length cs + k) (suc i) >>= λ ss. give (s ∷ ss))) (λ ss. R (floors_of (suc (length cs)) ss) (rights_of ss))
      later v None f = refl
      later v (Some x) f =
          follow-then {B = mps.Sides} (read_less (suc i) cs x.rest) (λ q. give (record { rights = v ∷ q.rights; floors = x.what ∷ q.floors })) (λ q. read_equal k (suc i + length cs) >>= λ vs. R q.floors (q.rights ++ vs))
          ∙ f (λ ws vs. R (x.what ∷ ws) (v ∷ vs)) x.rest
          ∙ sym (follow-then (read_each (side_at bs) (length cs + k) (suc i) x.rest) (λ ss. give (record { right = v; floor = x.what } ∷ ss)) (λ ss. R (floors_of (suc (length cs)) ss) (rights_of ss)))

      go : (o : Option (Read Value)) → c ≡ get_or bs i false → ((R : List (Option Value) → List Value → Reader A) (l : List ℕ)
          → follow (read_less (suc i) cs l) (λ q. read_equal k (suc i + length cs) >>= λ vs. R q.floors (q.rights ++ vs))
          ≡ follow (read_each (side_at bs) (length cs + k) (suc i) l) (λ ss. R (floors_of (length cs) ss) (rights_of ss)))
          → follow {A = mps.Sides} (follow o (λ v. read_floor c i >>= λ w. read_less (suc i) cs >>= λ q. give (record { rights = v ∷ q.rights; floors = w ∷ q.floors }))) (λ q. read_equal k (suc i + length cs) >>= λ vs. R q.floors (q.rights ++ vs))
          ≡ follow (follow (follow o (λ v. floor_at bs i >>= λ w. give (record { right = v; floor = w }))) (λ s. read_each (side_at bs) (length cs + k) (suc i) >>= λ ss. give (s ∷ ss))) (λ ss. R (floors_of (suc (length cs)) ss) (rights_of ss))
      go None x f = refl
      go (Some y) x f = rw (floor-is bs i c y.rest x) (later y.what (floor_at bs i y.rest) f)

bounds-next : (m m' : Reader (List Bounds)) (j : ℕ) (o : Option (Read Value)) → ((l : List ℕ) → m l ≡ m' l)
    → follow o (λ v. read_upper (suc j) >>= λ u. m >>= λ bs. give (record { lower = v; upper = u } ∷ bs))
    ≡ follow (follow o (λ v. read_upper (suc j) >>= λ u. give (record { lower = v; upper = u }))) (λ b. m' >>= λ bs. give (b ∷ bs))
bounds-next m m' j None h = refl
bounds-next m m' j (Some x) h = go (read_upper (suc j) x.rest)
  where
    go : (o : Option (Read (Option Value))) → follow o (λ u. m >>= λ bs. give (record { lower = x.what; upper = u } ∷ bs)) ≡ follow (follow o (λ u. give (record { lower = x.what; upper = u }))) (λ b. m' >>= λ bs. give (b ∷ bs))
    go None = refl
    go (Some y) = rw (h y.rest)

bounds-are : (k j : ℕ) (l : List ℕ) → read_bounds k j l ≡ read_each bounds_at k j l
unfolding read_bounds read_each bounds_at
bounds-are zero j l = refl
bounds-are (suc k) j l = bounds-next (read_bounds k (suc j)) (read_each bounds_at k (suc j)) j (line_value (lower_head (suc j)) l) (bounds-are k (suc j))

-- n rows of `<=` and `>=` from row i on
rights-bytes : (less n i : ℕ) (ss : List Side) → n ≡ less - i → bare_lines (rows_from i (floors_of n ss) (rights_of ss)) ≡ bytes_each (side_bytes less) i ss
unfolding rows_from bare_lines bytes_each side_bytes
rights-bytes less zero i [] e = refl
rights-bytes less (suc n) i [] e = refl
rights-bytes less zero i (s ∷ ss) e =
    rw (le-leb less i (omega arith), rights-bytes less zero (suc i) ss (omega arith), append-nil (bare_line (row_line (suc i) Listing.equal s.right [] [])))
rights-bytes less (suc n) i (s ∷ ss) e =
    let r = bare_line (row_line (suc i) (kind_by s.floor) s.right [] []) in
    rw (lt-leb less i (omega arith), bare-append (low_lines (suc i) s.floor) (rows_from (suc i) (floors_of n ss) (rights_of ss)), rights-bytes less n (suc i) ss (omega arith))
    (sym (append_assoc r (bare_lines (low_lines (suc i) s.floor)) (bytes_each (side_bytes less) (suc i) ss)))

bounds-bytes : (discrete j : ℕ) (bs : List Bounds) → bare_lines (variables_from discrete j bs) ≡ bytes_each (bounds_bytes discrete) j bs
unfolding variables_from bare_lines bytes_each bounds_bytes
bounds-bytes discrete j [] = refl
bounds-bytes discrete j (b ∷ bs) = rw (bounds-bytes discrete (suc j) bs)

-- ---- the parts joined

module _ {A : Type 0} where
  after-opening : (R : Kinds → Reader A) (l : List ℕ) → (expect (bytes "NAME MODEL\nROWS\n N OBJ\n") >>= λ _. read_kinds >>= λ n. expect (bytes "COLUMNS\n") >>= λ _. R n) l ≡ follow (opening l) R
  unfolding opening
  after-opening R l = first (as_read (strip (bytes "NAME MODEL\nROWS\n N OBJ\n") l))
    where
      third : (n : Kinds) (o : Option (Read (Unit {0}))) → follow o (λ _. R n) ≡ follow (follow o (λ _. give n)) R
      third n None = refl
      third n (Some x) = refl

      second : (o : Option (Read Kinds)) → follow o (λ n. expect (bytes "COLUMNS\n") >>= λ _. R n) ≡ follow (follow o (λ n. expect (bytes "COLUMNS\n") >>= λ _. give n)) R
      second None = refl
      second (Some x) = third x.what (as_read (strip (bytes "COLUMNS\n") x.rest))

      first : (o : Option (Read (Unit {0}))) → follow o (λ _. read_kinds >>= λ n. expect (bytes "COLUMNS\n") >>= λ _. R n) ≡ follow (follow o (λ _. read_kinds >>= λ n. expect (bytes "COLUMNS\n") >>= λ _. give n)) R
      first None = refl
      first (Some x) = second (read_kinds x.rest)

  after-matrix : (fs : List Bool) (rows : ℕ) (R : List Column → List Column → Reader A) (l : List ℕ)
      → (read_discrete fs rows >>= λ ds. read_columns fs rows (variable_limit - length ds) (length ds) >>= λ cs. R ds cs) l ≡ follow (read_matrix fs rows l) (λ m. R m.discrete m.continuous)
  unfolding read_matrix
  after-matrix fs rows R l = first (read_discrete fs rows l)
    where
      second : (ds : List Column) (o : Option (Read (List Column))) → follow o (λ cs. R ds cs) ≡ follow {A = Matrix} (follow o (λ cs. give (record { discrete = ds; continuous = cs }))) (λ m. R m.discrete m.continuous)
      second ds None = refl
      second ds (Some x) = refl

      first : (o : Option (Read (List Column))) → follow o (λ ds. read_columns fs rows (variable_limit - length ds) (length ds) >>= λ cs. R ds cs)
          ≡ follow {A = Matrix} (follow o (λ ds. read_columns fs rows (variable_limit - length ds) (length ds) >>= λ cs. give (record { discrete = ds; continuous = cs }))) (λ m. R m.discrete m.continuous)
      first None = refl
      first (Some x) = second x.what (read_columns fs rows (variable_limit - length x.what) (length x.what) x.rest)

  after-rights : (fs : List Bool) (k : ℕ) (R : List (Option Value) → List Value → Reader A) (l : List ℕ)
      → (expect (bytes "RHS\n") >>= λ _. read_less 0 fs >>= λ q. read_equal k (length fs) >>= λ vs. R q.floors (q.rights ++ vs)) l
      ≡ follow (rights_part fs (length fs + k) l) (λ ss. R (floors_of (length fs) ss) (rights_of ss))
  unfolding rights_part
  after-rights fs k R l = first (as_read (strip (bytes "RHS\n") l))
    where
      first : (o : Option (Read (Unit {0}))) → follow o (λ _. read_less 0 fs >>= λ q. read_equal k (length fs) >>= λ vs. R q.floors (q.rights ++ vs))
          ≡ follow (follow o (λ _. read_each (side_at fs) (length fs + k) 0)) (λ ss. R (floors_of (length fs) ss) (rights_of ss))
      first None = refl
      first (Some x) = let z : 0 + length fs ≡ length fs = omega arith in rw z at (less-are fs k 0 fs refl R x.rest)

  after-bounds : (k : ℕ) (R : List Bounds → Reader A) (l : List ℕ) → (expect (bytes "BOUNDS\n") >>= λ _. read_bounds k 0 >>= λ bs. expect (bytes "ENDATA\n") >>= λ _. R bs) l ≡ follow (bounds_part k l) R
  unfolding bounds_part
  after-bounds k R l = first (as_read (strip (bytes "BOUNDS\n") l))
    where
      third : (bs : List Bounds) (o : Option (Read (Unit {0}))) → follow o (λ _. R bs) ≡ follow (follow o (λ _. give bs)) R
      third bs None = refl
      third bs (Some x) = refl

      second : (o : Option (Read (List Bounds))) → follow o (λ bs. expect (bytes "ENDATA\n") >>= λ _. R bs) ≡ follow (follow o (λ bs. expect (bytes "ENDATA\n") >>= λ _. give bs)) R
      second None = refl
      second (Some x) = third x.what (as_read (strip (bytes "ENDATA\n") x.rest))

      first : (o : Option (Read (Unit {0}))) → follow o (λ _. read_bounds k 0 >>= λ bs. expect (bytes "ENDATA\n") >>= λ _. R bs) ≡ follow (follow o (λ _. read_each bounds_at k 0 >>= λ bs. expect (bytes "ENDATA\n") >>= λ _. give bs)) R
      first None = refl
      first (Some x) = rw (bounds-are k 0 x.rest) (second (read_each bounds_at k 0 x.rest))

-- what the definition reads behind the columns of n and behind the right sides
abbrev sheet_with : Kinds → List Column → List Column → List (Option Value) → List Value → List Bounds → Sheet
sheet_with n ds cs ws vs bs = record { floors = ws; equal = n.equal; discrete = ds; continuous = cs; rights = vs; bounds = bs }

abbrev bounds_of : Kinds → List Column → List Column → List (Option Value) → List Value → Reader Sheet
bounds_of n ds cs ws vs =
    expect (bytes "BOUNDS\n") >>= λ _. read_bounds (length ds + length cs) 0 >>= λ bs. expect (bytes "ENDATA\n") >>= λ _. give (sheet_with n ds cs ws vs bs)

abbrev sides_of : Kinds → List Column → List Column → Reader Sheet
sides_of n ds cs = expect (bytes "RHS\n") >>= λ _. read_less 0 n.less >>= λ q. read_equal n.equal (length n.less) >>= λ vs. bounds_of n ds cs q.floors (q.rights ++ vs)

abbrev rows_in : Kinds → ℕ
rows_in n = length n.less + n.equal

abbrev columns_in : Kinds → Reader Sheet
columns_in n =
    read_discrete n.less (rows_in n) >>= λ ds. read_columns n.less (rows_in n) (variable_limit - length ds) (length ds) >>= λ cs. sides_of n ds cs

sides-join : (n : Kinds) (m : Matrix) (l : List ℕ)
    → sides_of n m.discrete m.continuous l ≡ follow (sides_part n.less (rows_in n) (length m.discrete + length m.continuous) l) (λ s. give (sheet_of n m s))
unfolding sides_part
sides-join n m l = after-rights n.less n.equal (bounds_of n m.discrete m.continuous) l ∙ first (rights_part n.less (rows_in n) l)
  where
    second : (ss : List Side) (o : Option (Read (List Bounds))) → follow o (λ bs. give (sheet_of n m (record { sides = ss; bounds = bs }))) ≡ follow {A = Sides} (follow o (λ bs. give (record { sides = ss; bounds = bs }))) (λ s. give (sheet_of n m s))
    second ss None = refl
    second ss (Some x) = refl

    first : (o : Option (Read (List Side))) → follow o (λ ss. bounds_of n m.discrete m.continuous (floors_of (length n.less) ss) (rights_of ss))
        ≡ follow {A = Sides} (follow o (λ ss. bounds_part (length m.discrete + length m.continuous) >>= λ bs. give (record { sides = ss; bounds = bs }))) (λ s. give (sheet_of n m s))
    first None = refl
    first (Some x) =
        after-bounds (length m.discrete + length m.continuous) (λ bs. give (sheet_of n m (record { sides = x.what; bounds = bs }))) x.rest
        ∙ second x.what (bounds_part (length m.discrete + length m.continuous) x.rest)

columns-join : (n : Kinds) (l : List ℕ) → columns_in n l ≡ sheet_from n l
unfolding sheet_from
columns-join n l = after-matrix n.less (rows_in n) (sides_of n) l ∙ go (read_matrix n.less (rows_in n) l)
  where
    go : (o : Option (Read Matrix)) → follow o (λ m. sides_of n m.discrete m.continuous)
        ≡ follow o (λ m. sides_part n.less (rows_in n) (length m.discrete + length m.continuous) >>= λ s. give (sheet_of n m s))
    go None = refl
    go (Some x) = sides-join n x.what x.rest

pub sheet-joins : (l : List ℕ) → read_sheet l ≡ follow (opening l) sheet_from
unfolding read_sheet
sheet-joins l = after-opening columns_in l ∙ go (opening l)
  where
    go : (o : Option (Read Kinds)) → follow o columns_in ≡ follow o sheet_from
    go None = refl
    go (Some x) = columns-join x.what x.rest

-- ---- behind the columns

module _ (bs : List Bool) (rows discrete variables : ℕ) (text : List ℕ) (at : ℕ) (out : List ℕ) (r : Option (ℕ × ℕ)) (o : List ℕ) (w : Walks (rights_part bs rows) (bytes_each (side_bytes (length bs)) 0) 131072 text at out 0 r o) where
  pub ending-none : (l : List ℕ) → r ≡ None → Walks (sides_part bs rows variables) (sides_bytes (length bs) discrete) 262144 text at out 0 None l
  unfolding sides_part
  ending-none l e = record { is = rw (rw e at w.is); inside = tt }

  module _ (n p : ℕ) (e : r ≡ Some (n, p)) where
    pub ending-place : p < 2 ^ 39
    ending-place = omega (arith, (rw e at w.inside).1)

    rights-read : Walked (rights_part bs rows) (bytes_each (side_bytes (length bs)) 0) text at out 0 n p o
    rights-read = rw e at w.is

    pub ending-some : (q : Option (ℕ × ℕ)) (o' : List ℕ) → Walks (bounds_part variables) (bytes_each (bounds_bytes discrete) 0) 131072 text n o p q o' → Walks (sides_part bs rows variables) (sides_bytes (length bs) discrete) 262144 text at out 0 q o'
    unfolding sides_part sides_bytes
    ending-some (Some (x, y)) o' v =
        record {
          is =
              record {
                what = record { sides = rights-read.what; bounds = v.is.what };
                is = rw (rights-read.is, v.is.is);
                written = written_then _ _ _ _ _ _ _ _ rights-read.written v.is.written;
              };
          inside = (v.inside.0, omega (arith, v.inside.1, (rw e at w.inside).1));
        }
    ending-some None o' v = record { is = rw (rights-read.is, v.is); inside = tt }

-- ---- the report

report-bytes : (n : Kinds) (m : Matrix) (s : Sides) (d : ℕ) → length m.discrete ≡ d → bare_of (sheet_of n m s) ≡ sides_bytes (length n.less) d s ++ matrix_bytes m
unfolding bare_of sheet_lines sides_bytes matrix_bytes columns_bytes
report-bytes n m s d e =
    let less = length n.less in
    let a = rows_from 0 (floors_of less s.sides) (rights_of s.sides) in
    let b = variables_from (length m.discrete) 0 s.bounds in
    let c = columns_of 0 (m.discrete ++ m.continuous) in
    bare-append a (b ++ c)
    ∙ rw (bare-append b c, rights-bytes less less 0 s.sides (omega arith), bounds-bytes (length m.discrete) 0 s.bounds, e)
    (sym (append_assoc (bytes_each (side_bytes less) 0 s.sides) (bytes_each (bounds_bytes d) 0 s.bounds) (bare_lines c)))

module _ (n : Kinds) (l : List ℕ) where
  sheet-out : read_matrix n.less (rows_in n) l ≡ None → sheet_from n l ≡ None
  unfolding sheet_from
  sheet-out e = rw e

  module _ (m : Matrix) (t : List ℕ) (v : ℕ) (e : read_matrix n.less (rows_in n) l ≡ Some (record { what = m; rest = t })) (c : length m.discrete + length m.continuous ≡ v) where
    sheet-broken : sides_part n.less (rows_in n) v t ≡ None → sheet_from n l ≡ None
    unfolding sheet_from
    sheet-broken f = rw (e, c, f)

    sheet-in : (s : Sides) (t' : List ℕ) → sides_part n.less (rows_in n) v t ≡ Some (record { what = s; rest = t' }) → sheet_from n l ≡ Some (record { what = sheet_of n m s; rest = t' })
    unfolding sheet_from
    sheet-in s t' f = rw (e, c, f)

-- nothing, and something, may follow
nothing-after : (s : Sheet) (t : List ℕ) → length t ≡ 0 → alone (Some (record { what = s; rest = t })) ≡ Some s
nothing-after s [] h = refl
nothing-after s (b ∷ t) h = absurd (omega arith)

something-after : (s : Sheet) (t : List ℕ) → (length t ≡ 0 → ⊥) → alone (Some (record { what = s; rest = t })) ≡ None
something-after s [] h = absurd (h refl)
something-after s (b ∷ t) h = refl

reads_none : (n : Kinds) (text : List ℕ) (at : ℕ) (out l : List ℕ) → alone (sheet_from n (drop at text)) ≡ None → ReadsFrom n text at out None l
reads_none n text at out l e = record { is = rw e tt }

module _ (fs : List Bool) (equal : ℕ) (text : List ℕ) (at : ℕ) (spare spare' : List ℕ) (r : Option MatrixRead) (w : WalksMatrix fs (length fs + equal) text at spare 0 r spare') (out : List ℕ) where
  abbrev kinds : Kinds
  kinds = record { less = fs; equal = equal }

  pub sheet-none : (l : List ℕ) → r ≡ None → ReadsFrom (record { less = fs; equal = equal }) text at out None l
  sheet-none l e = reads_none kinds text at out l (rw (sheet-out kinds (drop at text) (rw e at w.is)))

  module _ (m : MatrixRead) (e : r ≡ Some m) where
    passed : WalkedMatrix fs (length fs + equal) text at spare 0 m.next m.place m.discrete m.total spare'
    passed = rw e at w.is

    pub sheet-inside : m.next ≤ length text
    sheet-inside = (rw e at w.inside).0

    pub sheet-few : m.total ≤ 512
    sheet-few = (rw e at w.inside).1

    module _ (q : Option (ℕ × ℕ)) (o : List ℕ) (u : Walks (sides_part fs (length fs + equal) m.total) (sides_bytes (length fs) m.discrete) 262144 text m.next out 0 q o) where
      pub sheet-bad : (l : List ℕ) → q ≡ None → ReadsFrom (record { less = fs; equal = equal }) text at out None l
      sheet-bad l f =
          let a = passed in
          reads_none kinds text at out l (rw (sheet-broken kinds (drop at text) a.walked.what (drop m.next text) m.total a.walked.is a.variables (rw f at u.is)))

      module _ (end place : ℕ) (f : q ≡ Some (end, place)) where
        told : Walked (sides_part fs (length fs + equal) m.total) (sides_bytes (length fs) m.discrete) text m.next out 0 end place o
        told = rw f at u.is

        pub sheet-place : place < 2 ^ 36
        sheet-place = omega (arith, (rw f at u.inside).1)

        whole : sheet_from kinds (drop at text) ≡ Some (record { what = sheet_of kinds passed.walked.what told.what; rest = drop end text })
        whole = sheet-in kinds (drop at text) passed.walked.what (drop m.next text) m.total passed.walked.is passed.variables told.what (drop end text) told.is

        pub sheet-long : (l : List ℕ) → end < length text → ReadsFrom (record { less = fs; equal = equal }) text at out None l
        sheet-long l g =
            reads_none kinds text at out l (ap alone whole ∙ something-after _ (drop end text) (λ z. omega (arith, length-drop end text)))

        module _ (g : length text ≤ end) (t : Option MatrixRead) (o' : List ℕ) (x : WalksMatrix fs (length fs + equal) text at o place t o') where
          pub sheet-never : (l : List ℕ) → t ≡ None → ReadsFrom (record { less = fs; equal = equal }) text at out None l
          sheet-never l h =
              let a = passed.walked.is in
              let b = rw h at x.is in
              absurd (let z : ◌≡◌ {A = ℕ} 0 1 = cc in omega arith)

          pub sheet-all : (w : MatrixRead) → t ≡ Some w → ReadsFrom (record { less = fs; equal = equal }) text at out (Some w.place) o'
          sheet-all z h =
              let k : WalkedMatrix fs (length fs + equal) text at o place z.next z.place z.discrete z.total o' = rw h at x.is in
              let same : k.walked.what ≡ passed.walked.what = same-what _ _ _ _ _ k.walked.is passed.walked.is in
              let s = sheet_of kinds passed.walked.what told.what in
              let found : alone (sheet_from kinds (drop at text)) ≡ Some s = ap alone whole ∙ nothing-after s (drop end text) (omega (arith, length-drop end text)) in
              let written : Written out 0 (sides_bytes (length fs) m.discrete told.what ++ matrix_bytes passed.walked.what) z.place o' = rw same at (written_then _ _ _ _ _ _ _ _ told.written k.walked.written) in
              record { is = rw (found, report-bytes kinds passed.walked.what told.what m.discrete passed.discrete) written }

-- ---- the answer

module _ (text : List ℕ) (r : Option RowsRead) (fs : List Bool) (h : Opens text r fs) where
  pub read_none : (out l : List ℕ) → r ≡ None → Reads text out None l
  unfolding sheet_in
  read_none out l e = record { is = rw (sheet-joins text, (rw e at h.is)) tt }

  module _ (z : RowsRead) (e : r ≡ Some z) where
    pub open-inside : z.next ≤ length text
    open-inside = (rw e at h.inside).0

    pub open-fits : z.less ≤ length fs
    open-fits = let i = rw e at h.inside in omega (arith, i.1, i.2)

    pub open-size : z.less ≡ length (take z.less fs)
    open-size = sym (length-take-le z.less fs open-fits)

    pub open-few : length (take z.less fs) + z.equal ≤ 512
    open-few = omega (arith, open-size, (rw e at h.inside).1)

    pub read_some : (out : List ℕ) (q : Option ℕ) (o : List ℕ) → ReadsFrom (record { less = take z.less fs; equal = z.equal }) text z.next out q o → Reads text out q o
    unfolding sheet_in
    read_some out q o w = record { is = rw (sheet-joins text, (rw e at h.is)) w.is }
