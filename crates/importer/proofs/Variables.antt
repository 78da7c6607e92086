-- Columns one after the other, and all columns.
use Rattle.std.specs.Prelude.{Option, None, Some}
use mathlib.Core.Path.{◌≡◌, refl, sym, ◌∙◌, ap}
use mathlib.Core.Bool.{Bool, true, false}
use mathlib.Core.List.{List, [], ◌∷◌, ◌++◌, append_assoc}
use Prim.Native.Nat.{ℕ, suc, ◌+◌, ◌-◌, ◌*◌, ◌^◌, ◌<◌, ◌≤◌}
use native.Mathlib.Omega.{arith}
use mir.Syntax.{w64}
use mir.Val.{Fits}
use lib.ListN.{length, drop}
use Rattle.rules.specs.Characters.{bytes}
use Rattle.rules.specs.Limits.{variable_limit}
use Rattle.value.proofs.Writing.{written_none, written_then, written-length}
use Rattle.mps.specs.Sheet.{Column}
use Rattle.mps.specs.Report.{bare_lines, column_of, columns_of}
use Rattle.mps.specs.Reading.{Reader, follow, give, strip, read_column, columns_by, read_columns, is_none, discrete_by, read_discrete}
use Rattle.importer.specs.declared.ColumnsRead.{ColumnsRead}
use Rattle.importer.specs.Sections.{column_bytes, columns_bytes, read_matrix, matrix_bytes}
use Rattle.importer.specs.Steps.{Strips, Walked, Walks, WalkedColumns, WalksColumns, WalksMatrix}
use Rattle.importer.proofs.Coefficients.{bare-append}

-- ---- one column more, or none

module _ (bs : List Bool) (rows k j : ℕ) (l : List ℕ) where
  columns-out : strip (bytes " C") l ≡ None → read_columns bs rows (suc k) j l ≡ Some (record { what = []; rest = l })
  unfolding read_columns columns_by
  columns-out e = rw e

  columns-bad : (r : List ℕ) → strip (bytes " C") l ≡ Some r → read_column bs rows j l ≡ None → read_columns bs rows (suc k) j l ≡ None
  unfolding read_columns columns_by
  columns-bad r e f = rw (e, f)

  columns-in : (r : List ℕ) (c : Column) (l' : List ℕ) → strip (bytes " C") l ≡ Some r → read_column bs rows j l ≡ Some (record { what = c; rest = l' })
      → read_columns bs rows (suc k) j l ≡ follow (read_columns bs rows k (suc j) l') (λ cs. give (c ∷ cs))
  unfolding read_columns columns_by
  columns-in r c l' e f = rw (e, f)

columns-over : (bs : List Bool) (rows j : ℕ) (l : List ℕ) → read_columns bs rows 0 j l ≡ Some (record { what = []; rest = l })
unfolding read_columns
columns-over bs rows j l = refl

none-bytes : (j : ℕ) → columns_bytes j [] ≡ []
unfolding columns_bytes columns_of bare_lines
none-bytes j = refl

more_bytes : (j : ℕ) (c : Column) (cs : List Column) → columns_bytes j (c ∷ cs) ≡ column_bytes j c ++ columns_bytes (suc j) cs
unfolding columns_bytes columns_of column_bytes
more_bytes j c cs = bare-append (column_of j c) (columns_of (suc j) cs)

-- ---- the loop of `columns`

-- to read and write what is left of the columns, from the k-th on, is to read and write all of them
pub record Several (bs : List Bool) (rows limit from : ℕ) (text : List ℕ) (at : ℕ) (out : List ℕ) (place k next : ℕ) (o : List ℕ) (p : ℕ) : Type 0 where
  pub few : k ≤ limit
  pub inside : next ≤ length text
  pub short : p ≤ place + 131328 * k
  pub size : length o ≡ length out
  pub whole : (n q c : ℕ) (l : List ℕ) → WalkedColumns (read_columns bs rows (limit - k) (from + k)) (from + k) text next o p n q c l → WalkedColumns (read_columns bs rows limit from) from text at out place n q (k + c) l
  pub broken : read_columns bs rows (limit - k) (from + k) (drop next text) ≡ None → read_columns bs rows limit from (drop at text) ≡ None

-- nothing is left
nothing_left : (m : Reader (List Column)) (j : ℕ) (text : List ℕ) (next : ℕ) (o : List ℕ) (p : ℕ) → m (drop next text) ≡ Some (record { what = []; rest = drop next text }) → WalkedColumns m j text next o p next p 0 o
nothing_left m j text next o p e = record { walked = record { what = []; is = e; written = rw (none-bytes j) (written_none o p) }; count = refl }

-- a column and what is left
one_more : (bs : List Bool) (rows k j : ℕ) (text : List ℕ) (next : ℕ) (o : List ℕ) (p next' p' : ℕ) (o' r : List ℕ) (n q c : ℕ) (l : List ℕ)
    → strip (bytes " C") (drop next text) ≡ Some r → Walked (read_column bs rows j) (column_bytes j) text next o p next' p' o' → WalkedColumns (read_columns bs rows k (suc j)) (suc j) text next' o' p' n q c l
    → WalkedColumns (read_columns bs rows (suc k) j) j text next o p n q (suc c) l
one_more bs rows k j text next o p next' p' o' r n q c l e w x =
    record {
      walked =
          record {
            what = w.what ∷ x.walked.what;
            is = columns-in bs rows k j (drop next text) r w.what (drop next' text) e w.is ∙ rw x.walked.is;
            written = rw (more_bytes j w.what x.walked.what) (written_then _ _ _ _ _ _ _ _ w.written x.walked.written);
          };
      count = ap suc x.count;
    }

module _ (bs : List Bool) (rows limit from : ℕ) (text : List ℕ) (at : ℕ) (out : List ℕ) (place : ℕ) where
  pub several-first : at ≤ length text → Several bs rows limit from text at out place 0 at out place
  several-first h =
      let z : limit - 0 ≡ limit = omega arith in
      let y : from + 0 ≡ from = omega arith in
      record {
        few = omega arith;
        inside = h;
        short = omega arith;
        size = refl;
        whole = λ n q c l w. let x : 0 + c ≡ c = omega arith in rw x (rw (z, y) at w);
        broken = λ e. rw (z, y) at e;
      }

  module _ (k next : ℕ) (o : List ℕ) (p : ℕ) (h : Several bs rows limit from text at out place k next o p) where
    stopped : read_columns bs rows (limit - k) (from + k) (drop next text) ≡ Some (record { what = []; rest = drop next text }) → WalksColumns (read_columns bs rows limit from) from limit text at out place (Some (record { next = next; place = p; columns = k })) o
    stopped e =
        let x : k + 0 ≡ k = omega arith in
        record {
          is = rw x at (h.whole next p 0 o (nothing_left (read_columns bs rows (limit - k) (from + k)) (from + k) text next o p e));
          inside = (h.inside, h.few, h.short);
        }

    pub several-end : limit ≤ k → WalksColumns (read_columns bs rows limit from) from limit text at out place (Some (record { next = next; place = p; columns = limit })) o
    several-end b =
        let z : limit - k ≡ 0 = omega arith in
        let y : k ≡ limit = omega (arith, h.few) in
        rw y at (stopped (rw z (columns-over bs rows (from + k) (drop next text))))

    module _ (b : k < limit) (m : Option ℕ) (s : Strips (bytes " C") text next m) where
      left : limit - k ≡ suc (limit - (k + 1))
      left = omega arith

      pub several-stop : m ≡ None → WalksColumns (read_columns bs rows limit from) from limit text at out place (Some (record { next = next; place = p; columns = k })) o
      several-stop e = stopped (rw left (columns-out bs rows (limit - (k + 1)) (from + k) (drop next text) (rw e at s.is)))

      module _ (y : ℕ) (e : m ≡ Some y) (r : Option (ℕ × ℕ)) (o' : List ℕ) (w : Walks (read_column bs rows (from + k)) (column_bytes (from + k)) 131328 text next o p r o') where
        pub several-none : (l : List ℕ) → r ≡ None → WalksColumns (read_columns bs rows limit from) from limit text at out place None l
        several-none l f =
            record {
              is = h.broken (rw left (columns-bad bs rows (limit - (k + 1)) (from + k) (drop next text) (drop y text) (rw e at s.is) (rw f at w.is)));
              inside = tt;
            }

        pub several-more : (n p' : ℕ) → r ≡ Some (n, p') → Several bs rows limit from text at out place (k + 1) n o' p'
        several-more n p' f =
            let a = rw e at s.is in
            let v : Walked (read_column bs rows (from + k)) (column_bytes (from + k)) text next o p n p' o' = rw f at w.is in
            let i = rw f at w.inside in
            let z : from + (k + 1) ≡ suc (from + k) = omega arith in
            record {
              few = omega arith;
              inside = i.0;
              short = omega (arith, h.short, i.1);
              size = written-length _ _ _ _ _ v.written ∙ h.size;
              whole =
                  λ x q c l t. let u : k + suc c ≡ k + 1 + c = omega arith in
                  rw u at (h.whole x q (suc c) l (rw left (one_more bs rows (limit - (k + 1)) (from + k) text next o p n p' o' (drop y text) x q c l a v (rw z at t))));
              broken =
                  λ t. h.broken
                  (rw left (columns-in bs rows (limit - (k + 1)) (from + k) (drop next text) (drop y text) v.what (drop n text) a v.is ∙ rw (rw z at t)));
            }

-- ---- whole variables between their markers

some-columns : (cs : List Column) (k : ℕ) → length cs ≡ k → (k ≡ 0 → ⊥) → is_none cs ≡ false
some-columns [] k e f = absurd (f (sym e))
some-columns (c ∷ cs) k e f = refl

no-columns : (cs : List Column) (k : ℕ) → length cs ≡ k → k ≡ 0 → is_none cs ≡ true
no-columns [] k e f = refl
no-columns (c ∷ cs) k e f = absurd (omega arith)

module _ (bs : List Bool) (rows : ℕ) (l : List ℕ) where
  discrete-out : strip (bytes " M 'MARKER' 'INTORG'\n") l ≡ None → read_discrete bs rows l ≡ Some (record { what = []; rest = l })
  unfolding read_discrete discrete_by
  discrete-out e = rw e

  module _ (r : List ℕ) (e : strip (bytes " M 'MARKER' 'INTORG'\n") l ≡ Some r) where
    discrete-broken : read_columns bs rows 512 0 r ≡ None → read_discrete bs rows l ≡ None
    unfolding read_discrete discrete_by variable_limit
    discrete-broken f = rw (e, f)

    module _ (cs : List Column) (t : List ℕ) (f : read_columns bs rows 512 0 r ≡ Some (record { what = cs; rest = t })) where
      discrete-no : is_none cs ≡ true → read_discrete bs rows l ≡ None
      unfolding read_discrete discrete_by variable_limit
      discrete-no g = rw (e, f, g)

      discrete-unended : is_none cs ≡ false → strip (bytes " M 'MARKER' 'INTEND'\n") t ≡ None → read_discrete bs rows l ≡ None
      unfolding read_discrete discrete_by variable_limit
      discrete-unended g h = rw (e, f, g, h)

      discrete-yes : is_none cs ≡ false → (t' : List ℕ) → strip (bytes " M 'MARKER' 'INTEND'\n") t ≡ Some t' → read_discrete bs rows l ≡ Some (record { what = cs; rest = t' })
      unfolding read_discrete discrete_by variable_limit
      discrete-yes g t' h = rw (e, f, g, h)

module _ (bs : List Bool) (rows : ℕ) (text : List ℕ) (at : ℕ) (out : List ℕ) (place : ℕ) (m : Option ℕ) (s : Strips (bytes " M 'MARKER' 'INTORG'\n") text at m) where
  pub discrete-none : m ≡ None → at ≤ length text → WalksColumns (read_discrete bs rows) 0 512 text at out place (Some (record { next = at; place = place; columns = 0 })) out
  discrete-none e h =
      record {
        is = nothing_left (read_discrete bs rows) 0 text at out place (discrete-out bs rows (drop at text) (rw e at s.is));
        inside = (h, omega arith, omega arith);
      }

  module _ (n : ℕ) (e : m ≡ Some n) (r : Option ColumnsRead) (o : List ℕ) (w : WalksColumns (read_columns bs rows 512 0) 0 512 text n out place r o) where
    begins : strip (bytes " M 'MARKER' 'INTORG'\n") (drop at text) ≡ Some (drop n text)
    begins = rw e at s.is

    pub discrete-bad : (l : List ℕ) → r ≡ None → WalksColumns (read_discrete bs rows) 0 512 text at out place None l
    discrete-bad l f = record { is = discrete-broken bs rows (drop at text) (drop n text) begins (rw f at w.is); inside = tt }

    module _ (u : ColumnsRead) (f : r ≡ Some u) where
      columns-read : WalkedColumns (read_columns bs rows 512 0) 0 text n out place u.next u.place u.columns o
      columns-read = rw f at w.is

      pub discrete-empty : (l : List ℕ) → u.columns ≡ 0 → WalksColumns (read_discrete bs rows) 0 512 text at out place None l
      discrete-empty l z =
          let v = columns-read in
          record { is = discrete-no bs rows (drop at text) (drop n text) begins _ _ v.walked.is (no-columns v.walked.what u.columns v.count z); inside = tt }

      module _ (z : u.columns ≡ 0 → ⊥) (a : Option ℕ) (t : Strips (bytes " M 'MARKER' 'INTEND'\n") text u.next a) where
        pub discrete-open : (l : List ℕ) → a ≡ None → WalksColumns (read_discrete bs rows) 0 512 text at out place None l
        discrete-open l g =
            let v = columns-read in
            record { is = discrete-unended bs rows (drop at text) (drop n text) begins _ _ v.walked.is (some-columns v.walked.what u.columns v.count z) (rw g at t.is); inside = tt }

        pub discrete-all : (y : ℕ) → a ≡ Some y → WalksColumns (read_discrete bs rows) 0 512 text at out place (Some (record { next = y; place = u.place; columns = u.columns })) o
        discrete-all y g =
            let v = columns-read in
            let i = rw f at w.inside in
            record {
              is =
                  record {
                    walked =
                        record {
                          what = v.walked.what;
                          is = discrete-yes bs rows (drop at text) (drop n text) begins _ _ v.walked.is (some-columns v.walked.what u.columns v.count z) (drop y text) (rw g at t.is);
                          written = v.walked.written;
                        };
                    count = v.count;
                  };
              inside = (rw g at t.inside, i.1, i.2);
            }

-- ---- all columns

columns-append : (j : ℕ) (a b : List Column) → columns_bytes j (a ++ b) ≡ columns_bytes j a ++ columns_bytes (j + length a) b
columns-append j [] b = let e : j + 0 ≡ j = omega arith in rw (none-bytes j, e)
columns-append j (c ∷ a) b =
    let e : j + suc (length a) ≡ suc j + length a = omega arith in
    more_bytes j c (a ++ b)
    ∙ rw (columns-append (suc j) a b, more_bytes j c a, e) (sym (append_assoc (column_bytes j c) (columns_bytes (suc j) a) (columns_bytes (suc j + length a) b)))

matrix-bytes : (ds cs : List Column) (d : ℕ) → length ds ≡ d → matrix_bytes (record { discrete = ds; continuous = cs }) ≡ columns_bytes 0 ds ++ columns_bytes d cs
unfolding matrix_bytes
matrix-bytes ds cs d e = let z : 0 + length ds ≡ d = omega arith in columns-append 0 ds cs ∙ rw z

module _ (bs : List Bool) (rows : ℕ) (l : List ℕ) where
  matrix-out : read_discrete bs rows l ≡ None → read_matrix bs rows l ≡ None
  unfolding read_matrix
  matrix-out e = rw e

  module _ (ds : List Column) (l' : List ℕ) (d : ℕ) (c : length ds ≡ d) (e : read_discrete bs rows l ≡ Some (record { what = ds; rest = l' })) where
    matrix-stop : read_columns bs rows (512 - d) d l' ≡ None → read_matrix bs rows l ≡ None
    unfolding read_matrix variable_limit
    matrix-stop f = rw (e, c, f)

    matrix-in : (cs : List Column) (t : List ℕ) → read_columns bs rows (512 - d) d l' ≡ Some (record { what = cs; rest = t }) → read_matrix bs rows l ≡ Some (record { what = record { discrete = ds; continuous = cs }; rest = t })
    unfolding read_matrix variable_limit
    matrix-in cs t f = rw (e, c, f)

module _ (bs : List Bool) (rows : ℕ) (text : List ℕ) (at : ℕ) (out : List ℕ) (place : ℕ) (r : Option ColumnsRead) (o : List ℕ) (w : WalksColumns (read_discrete bs rows) 0 512 text at out place r o) where
  pub matrix-none : (l : List ℕ) → r ≡ None → WalksMatrix bs rows text at out place None l
  matrix-none l e = record { is = matrix-out bs rows (drop at text) (rw e at w.is); inside = tt }

  module _ (z : ColumnsRead) (e : r ≡ Some z) (q : Option ColumnsRead) (o' : List ℕ) (v : WalksColumns (read_columns bs rows (512 - z.columns) z.columns) z.columns (512 - z.columns) text z.next o z.place q o') where
    first : WalkedColumns (read_discrete bs rows) 0 text at out place z.next z.place z.columns o
    first = rw e at w.is

    pub matrix-bad : (l : List ℕ) → q ≡ None → WalksMatrix bs rows text at out place None l
    matrix-bad l f =
        let a = first in
        record { is = matrix-stop bs rows (drop at text) _ _ z.columns a.count a.walked.is (rw f at v.is); inside = tt }

    pub matrix-all : (y : ColumnsRead) → q ≡ Some y → WalksMatrix bs rows text at out place (Some (record { next = y.next; place = y.place; discrete = z.columns; total = z.columns + y.columns })) o'
    matrix-all y f =
        let a = first in
        let b : WalkedColumns (read_columns bs rows (512 - z.columns) z.columns) z.columns text z.next o z.place y.next y.place y.columns o' = rw f at v.is in
        let i = rw f at v.inside in
        let ds = a.walked.what in
        let cs = b.walked.what in
        record {
          is =
              record {
                walked =
                    record {
                      what = record { discrete = ds; continuous = cs };
                      is = matrix-in bs rows (drop at text) ds (drop z.next text) z.columns a.count a.walked.is cs (drop y.next text) b.walked.is;
                      written = rw (matrix-bytes ds cs z.columns a.count) (written_then _ _ _ _ _ _ _ _ a.walked.written b.walked.written);
                    };
                discrete = a.count;
                variables = omega (arith, a.count, b.count);
              };
          inside = (i.0, omega (arith, i.1, (rw e at w.inside).1));
        }

-- ---- where columns end

module _ {m : Reader (List Column)} {j limit : ℕ} {text : List ℕ} {at : ℕ} {out : List ℕ} {place : ℕ} {r : Option ColumnsRead} {o : List ℕ} (w : WalksColumns m j limit text at out place r o) {u : ColumnsRead} (e : r ≡ Some u) where
  pub columns-inside : u.next ≤ length text
  columns-inside = (rw e at w.inside).0

  pub columns-few : u.columns ≤ limit
  columns-few = (rw e at w.inside).1

  pub columns-short : u.place ≤ place + 131328 * u.columns
  columns-short = (rw e at w.inside).2

-- the sums of `matrix` fit

module _ (bs : List Bool) (rows : ℕ) (text : List ℕ) (at : ℕ) (out : List ℕ) (place : ℕ) (r : Option ColumnsRead) (o : List ℕ) (w : WalksColumns (read_discrete bs rows) 0 512 text at out place r o) (z : ColumnsRead) (e : r ≡ Some z) where
  pub matrix-few : z.columns + (512 - z.columns) ≤ 512
  matrix-few = omega (arith, columns-few w e)

  pub matrix-place : place < 2 ^ 36 → z.place < 2 ^ 38
  matrix-place h = omega (arith, columns-few w e, columns-short w e)

  pub matrix-sum : (q : Option ColumnsRead) (o' : List ℕ) → WalksColumns (read_columns bs rows (512 - z.columns) z.columns) z.columns (512 - z.columns) text z.next o z.place q o' → (w : ColumnsRead) → q ≡ Some w → Fits w64 (z.columns + w.columns)
  matrix-sum q o' v z f = omega (arith, columns-few w e, columns-few v f)
