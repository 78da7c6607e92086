-- The text up to its columns: rows, counted, and which of them have a floor.
use Rattle.std.specs.Prelude.{Option, None, Some, is_some, unwrap_or}
use mathlib.Core.Path.{◌≡◌, refl, sym, ◌∙◌}
use mathlib.Core.Bool.{Bool, false}
use mathlib.Core.List.{List, [], ◌∷◌, ◌++◌, append_assoc, append-nil}
use Prim.Native.Nat.{ℕ, suc, ◌+◌, ◌-◌, ◌<◌, ◌≤◌}
use native.Mathlib.Omega.{arith}
use native.Mathlib.Numerals.{add-one}
use lib.ListN.{length, take, drop, set, length-set, get_or-eq_default, get_or}
use lib.Seq.{take-suc-set, length-take-le}
use Rattle.rules.specs.Characters.{bytes}
use Rattle.rules.specs.Limits.{row_limit}
use Rattle.mps.specs.Export.{named, less_line, floor_line, equal_line}
use Rattle.mps.specs.Reading.{Read, strip, floor_here, less_rows, equal_rows, read_kinds}
use Rattle.importer.specs.declared.Count.{Count}
use Rattle.importer.specs.Sections.{opening}
use Rattle.importer.specs.Steps.{rest_of, MoveInside, Strips, Lists, Counts, Opens}

same : {A : Type 0} (q : Read A) (a : A) (l : List ℕ) → q.what ≡ a → q.rest ≡ l → q ≡ record { what = a; rest = l }
same q a l e f = rw (← e, ← f)

-- ---- a floor's line

module _ (i : ℕ) (text : List ℕ) (at : ℕ) (m : Option ℕ) (s : Strips (named (bytes " G F") (i + 1) (bytes "\n")) text at m) where
  here : strip (floor_line (suc i)) (drop at text) ≡ rest_of text m
  unfolding floor_line
  here = rw (add-one i) at s.is

  floor-is : floor_here i (drop at text) ≡ record { what = is_some m; rest = drop (unwrap_or m at) text }
  unfolding floor_here
  floor-is = go m here
    where
      go : (q : Option ℕ) → strip (floor_line (suc i)) (drop at text) ≡ rest_of text q → floor_here i (drop at text) ≡ record { what = is_some q; rest = drop (unwrap_or q at) text }
      go None e = rw (e, floor_here)
      go (Some n) e = rw (e, floor_here)

  floor-inside : at ≤ length text → unwrap_or m at ≤ length text
  floor-inside h = go m s.inside
    where
      go : (q : Option ℕ) → MoveInside text q → unwrap_or q at ≤ length text
      go None e = h
      go (Some n) e = e

-- behind the rows of `<=` and `>=` no row has a floor
pub floor-behind : (fs : List Bool) (i : ℕ) → length fs ≤ i → false ≡ get_or fs i false
floor-behind fs i h = sym (get_or-eq_default fs false {n = i} h)

-- ---- rows of `<=` and `>=`

-- of k rows it is put down whether they have floors, and of the rest from here on
pub record Listing (text : List ℕ) (at : ℕ) (fs₀ : List Bool) (k next : ℕ) (fs : List Bool) : Type 0 where
  pub few : k ≤ 512
  pub inside : next ≤ length text
  pub large : 512 ≤ length fs₀
  pub size : length fs ≡ length fs₀
  pub what : (less_rows 512 0 (drop at text)).what ≡ take k fs ++ (less_rows (512 - k) k (drop next text)).what
  pub rest : (less_rows 512 0 (drop at text)).rest ≡ (less_rows (512 - k) k (drop next text)).rest

less_none : (l : List ℕ) (k i : ℕ) → strip (less_line (suc i)) l ≡ None → less_rows (suc k) i l ≡ record { what = []; rest = l }
unfolding less_rows
less_none l k i e = rw (e, less_rows)

less-some : (l r : List ℕ) (k i : ℕ) (b : Bool) (t : List ℕ) → strip (less_line (suc i)) l ≡ Some r → floor_here i r ≡ record { what = b; rest = t }
    → less_rows (suc k) i l ≡ record { what = b ∷ (less_rows k (suc i) t).what; rest = (less_rows k (suc i) t).rest }
unfolding less_rows
less-some l r k i b t e f = rw (e, less_rows) (rw f)

less-end : (l : List ℕ) (i : ℕ) → less_rows 0 i l ≡ record { what = []; rest = l }
unfolding less_rows
less-end l i = refl

less-strips : (text : List ℕ) (at i : ℕ) (m : Option ℕ) → Strips (named (bytes " L R") (i + 1) (bytes "\n")) text at m → Strips (less_line (suc i)) text at m
unfolding less_line
less-strips text at i m s = rw (add-one i) at s

module _ (text : List ℕ) (at : ℕ) (fs₀ : List Bool) where
  pub list-first : at ≤ length text → 512 ≤ length fs₀ → Listing text at fs₀ 0 at fs₀
  list-first h g = record { few = omega arith; inside = h; large = g; size = refl; what = refl; rest = refl }

  module _ (k next : ℕ) (fs : List Bool) (c : Listing text at fs₀ k next fs) where
    list-ends : (q : Read (List Bool)) → less_rows (512 - k) k (drop next text) ≡ q → q ≡ record { what = []; rest = drop next text } → Lists text at (record { rows = k; at = next }) fs
    list-ends q e f =
        let a : (less_rows 512 0 (drop at text)).what ≡ take k fs = c.what ∙ rw (e, f) (append-nil (take k fs)) in
        let b : (less_rows 512 0 (drop at text)).rest ≡ drop next text = c.rest ∙ rw (e, f) in
        record { is = same (less_rows 512 0 (drop at text)) (take k fs) (drop next text) a b; few = c.few; size = omega (arith, c.large, c.size); inside = c.inside }

    pub list-out : 512 ≤ k → Lists text at (record { rows = 512; at = next }) fs
    list-out h =
        let z : 512 - k ≡ 0 = omega arith in
        let y : k ≡ 512 = omega (arith, c.few) in
        rw y at (list-ends _ refl (rw z (less-end (drop next text) k)))

    module _ (h : k < 512) (m : Option ℕ) (s : Strips (named (bytes " L R") (k + 1) (bytes "\n")) text next m) where
      room : 512 - k ≡ suc (512 - suc k)
      room = omega arith

      pub list-stop : m ≡ None → Lists text at (record { rows = k; at = next }) fs
      list-stop e =
          list-ends _ refl (rw room (less_none (drop next text) (512 - suc k) k ((less-strips text next k m s).is ∙ rw e)))

      pub list-more : (n : ℕ) (f : Option ℕ) (b : Bool) (next' : ℕ) → m ≡ Some n → Strips (named (bytes " G F") (k + 1) (bytes "\n")) text n f → b ≡ is_some f → next' ≡ unwrap_or f n → Listing text at fs₀ (k + 1) next' (set fs k b)
      list-more n f b next' e d g i =
          let z : floor_here k (drop n text) ≡ record { what = b; rest = drop next' text } = rw (g, i) (floor-is k text n f d) in
          let q = less-some (drop next text) (drop n text) (512 - suc k) k b (drop next' text) ((less-strips text next k m s).is ∙ rw e) z in
          let t = less_rows (512 - suc k) (suc k) (drop next' text) in
          let u : take (suc k) (set fs k b) ≡ take k fs ++ (b ∷ []) = take-suc-set fs k b (omega (arith, c.large, c.size)) in
          record {
            few = omega arith;
            inside = rw i (floor-inside k text n f d (rw e at s.inside));
            large = c.large;
            size = length-set fs k b ∙ c.size;
            what = c.what ∙ rw (room, q, add-one k, u) (sym (append_assoc (take k fs) (b ∷ []) t.what));
            rest = c.rest ∙ rw (room, q, add-one k);
          }

-- ---- rows of `=`

-- k rows are counted, and the rest from here on
pub record Counting (text : List ℕ) (at from limit k next : ℕ) : Type 0 where
  pub few : k ≤ limit
  pub inside : next ≤ length text
  pub what : (equal_rows limit from (drop at text)).what ≡ k + (equal_rows (limit - k) (from + k) (drop next text)).what
  pub rest : (equal_rows limit from (drop at text)).rest ≡ (equal_rows (limit - k) (from + k) (drop next text)).rest

count_none : (l : List ℕ) (k i : ℕ) → strip (equal_line (suc i)) l ≡ None → equal_rows (suc k) i l ≡ record { what = 0; rest = l }
unfolding equal_rows
count_none l k i e = rw (e, equal_rows)

count-some : (l r : List ℕ) (k i : ℕ) → strip (equal_line (suc i)) l ≡ Some r
    → equal_rows (suc k) i l ≡ record { what = suc (equal_rows k (suc i) r).what; rest = (equal_rows k (suc i) r).rest }
unfolding equal_rows
count-some l r k i e = rw (e, equal_rows)

count-end : (l : List ℕ) (i : ℕ) → equal_rows 0 i l ≡ record { what = 0; rest = l }
unfolding equal_rows
count-end l i = refl

equal-strips : (text : List ℕ) (at i : ℕ) (m : Option ℕ) → Strips (named (bytes " E R") (i + 1) (bytes "\n")) text at m → Strips (equal_line (suc i)) text at m
unfolding equal_line
equal-strips text at i m s = rw (add-one i) at s

module _ (text : List ℕ) (at from limit : ℕ) where
  pub count-first : at ≤ length text → Counting text at from limit 0 at
  count-first h =
      let z : limit - 0 ≡ limit = omega arith in
      let y : from + 0 ≡ from = omega arith in
      record { few = omega arith; inside = h; what = rw (z, y) (omega arith); rest = rw (z, y) }

  module _ (k next : ℕ) (c : Counting text at from limit k next) where
    ends : (q : Read ℕ) → equal_rows (limit - k) (from + k) (drop next text) ≡ q → q ≡ record { what = 0; rest = drop next text } → Counts text at from limit (record { rows = k; at = next })
    ends q e f =
        let a : (equal_rows limit from (drop at text)).what ≡ k = c.what ∙ rw (e, f) (omega arith) in
        let b : (equal_rows limit from (drop at text)).rest ≡ drop next text = c.rest ∙ rw (e, f) in
        record { is = same (equal_rows limit from (drop at text)) k (drop next text) a b; few = c.few; inside = c.inside }

    pub count-out : limit ≤ k → Counts text at from limit (record { rows = limit; at = next })
    count-out h =
        let z : limit - k ≡ 0 = omega arith in
        let y : k ≡ limit = omega (arith, c.few) in
        rw y at (ends _ refl (rw z (count-end (drop next text) (from + k))))

    module _ (h : k < limit) (m : Option ℕ) (s : Strips (named (bytes " E R") (from + k + 1) (bytes "\n")) text next m) where
      left : limit - k ≡ suc (limit - (k + 1))
      left = omega arith

      pub count-stop : m ≡ None → Counts text at from limit (record { rows = k; at = next })
      count-stop e =
          ends _ refl (rw left (count_none (drop next text) (limit - (k + 1)) (from + k) ((equal-strips text next (from + k) m s).is ∙ rw e)))

      pub count-more : (n : ℕ) → m ≡ Some n → Counting text at from limit (k + 1) n
      count-more n e =
          let q = count-some (drop next text) (drop n text) (limit - (k + 1)) (from + k) ((equal-strips text next (from + k) m s).is ∙ rw e) in
          let y : from + (k + 1) ≡ suc (from + k) = omega arith in
          record {
            few = omega arith;
            inside = rw e at s.inside;
            what = c.what ∙ rw (left, q, y) (omega arith);
            rest = c.rest ∙ rw (left, q, y);
          }

-- ---- the text up to its columns

kinds-are : (l l' : List ℕ) (bs : List Bool) (a b : ℕ) (l'' : List ℕ) → less_rows 512 0 l ≡ record { what = bs; rest = l' } → length bs ≡ a → equal_rows (512 - a) a l' ≡ record { what = b; rest = l'' }
    → read_kinds l ≡ Some (record { what = record { less = bs; equal = b }; rest = l'' })
unfolding read_kinds row_limit
kinds-are l l' bs a b l'' h e g = rw (h, e, g)

module _ (text : List ℕ) (m : Option ℕ) (s : Strips (bytes "NAME MODEL\nROWS\n N OBJ\n") text 0 m) where
  pub open_none : (fs : List Bool) → m ≡ None → Opens text None fs
  unfolding opening
  open_none fs e = record { is = rw (s.is, e); inside = tt }

  module _ (at : ℕ) (e : m ≡ Some at) (fs : List Bool) (a b : Count) (h : Lists text at a fs) (g : Counts text a.at a.rows (512 - a.rows) b) (k : Option ℕ) (z : Strips (bytes "COLUMNS\n") text b.at k) where
    kinds : read_kinds (drop at text) ≡ Some (record { what = record { less = take a.rows fs; equal = b.rows }; rest = drop b.at text })
    kinds = kinds-are _ _ _ a.rows _ _ h.is (length-take-le a.rows fs (omega (arith, h.few, h.size))) g.is

    pub open-other : k ≡ None → Opens text None fs
    unfolding opening
    open-other f = record { is = rw (s.is, e, kinds, z.is, f); inside = tt }

    pub open-all : (n : ℕ) → k ≡ Some n → Opens text (Some (record { next = n; less = a.rows; equal = b.rows })) fs
    unfolding opening
    open-all n f = record { is = rw (s.is, e, kinds, z.is, f); inside = (rw f at z.inside, omega (arith, h.few, g.few), h.size) }
