-- Right sides, floors and bounds.
use Rattle.std.specs.Prelude.{Option, Some, None}
use mathlib.Core.Path.{◌≡◌}
use mathlib.Core.Bool.{Bool, true, false, not}
use mathlib.Core.List.{List}
use Prim.Native.Nat.{ℕ, suc, ◌+◌, ◌*◌, ◌<◌, ◌≤◌}
use native.Mathlib.Omega.{arith}
use native.Mathlib.Numerals.{add-one}
use borrow.Author.Tests.{not-true, not-false}
use lib.Dec.{leb, ltb}
use lib.ListN.{length, get_or, drop, get_or-eq_default}
use Rattle.rules.specs.Characters.{bytes}
use Rattle.value.specs.declared.Value.{Value}
use Rattle.value.specs.Printed.{Written}
use Rattle.listing.specs.Bare.{bare_variable}
use Rattle.mps.specs.Export.{named, right_head, floor_head, lower_head, upper_head, no_upper_line}
use Rattle.mps.specs.Reading.{strip, line_value, read_floor, upper_by, read_upper}
use Rattle.importer.specs.declared.Limits.{Limits}
use Rattle.importer.specs.Sections.{read_each, bytes_each, floor_at, side_shown, side_at, side_bytes, bounds_at, bounds_bytes, rights_part, bounds_part}
use Rattle.importer.specs.Steps.{rest_of, Strips, read_of, Finds, Walked, Walks, FindsEnd, FindsBounds}
use Rattle.importer.proofs.Walking.{Each, each_more, each-stop, same-what}
use Rattle.importer.proofs.Lines.{side-written, bounds-written}

-- ---- a floor

module _ (bs : List Bool) (i : ℕ) where
  pub floorless : length bs ≤ i → (l : List ℕ) → floor_at bs i l ≡ Some (record { what = None; rest = l })
  unfolding floor_at read_floor
  floorless h l = rw (get_or-eq_default bs false {n = i} h)

  module _ (text : List ℕ) (at : ℕ) (q : Bool) (g : q ≡ get_or bs i false) where
    pub floor-absent : not q ≡ true → at ≤ length text → FindsEnd (floor_at bs i) text at (Some (None, at))
    unfolding floor_at read_floor
    floor-absent f h = record { is = rw (← g, not-true q f); inside = (tt, h) }

    module _ (f : not q ≡ false) (r : Option (Value × ℕ)) (d : Finds (line_value (named (bytes " MODEL F") (i + 1) (bytes " "))) text at r) where
      floor-here : line_value (floor_head (suc i)) (drop at text) ≡ read_of text r
      unfolding floor_head
      floor-here = rw (add-one i) at d.is

      pub floor-missing : r ≡ None → FindsEnd (floor_at bs i) text at None
      unfolding floor_at read_floor
      floor-missing e = record { is = rw (← g, not-false q f, floor-here, e); inside = tt }

      pub floor-found : (v : Value) (n : ℕ) → r ≡ Some (v, n) → FindsEnd (floor_at bs i) text at (Some ((Some v), n))
      unfolding floor_at read_floor
      floor-found v n e = record { is = rw (← g, not-false q f, floor-here, e); inside = rw e at d.inside }

-- ---- right sides and floors

module _ (bs : List Bool) (n : ℕ) (text : List ℕ) (at : ℕ) (out : List ℕ) (place i next : ℕ) (o : List ℕ) (p : ℕ) (h : Each (side_at bs) (side_bytes (length bs)) n text at out place i next o p) (b : i < n) (r : Option (Value × ℕ)) (d : Finds (line_value (named (bytes " MODEL R") (i + 1) (bytes " "))) text next r) where
  right-here : line_value (right_head (suc i)) (drop next text) ≡ read_of text r
  unfolding right_head
  right-here = rw (add-one i) at d.is

  stops : (l : List ℕ) → side_at bs i (drop next text) ≡ None → Walks (read_each (side_at bs) n 0) (bytes_each (side_bytes (length bs)) 0) (256 * n) text at out place None l
  stops l e = record { is = each-stop (side_at bs) (side_bytes (length bs)) n text at out place i next o p h b e; inside = tt }

  pub rights-stop : (l : List ℕ) → r ≡ None → Walks (read_each (side_at bs) n 0) (bytes_each (side_bytes (length bs)) 0) (256 * n) text at out place None l
  unfolding side_at
  rights-stop l e = stops l (rw (right-here, e))

  module _ (v : Value) (x : ℕ) (e : r ≡ Some (v, x)) (u : Option (Option Value × ℕ)) (f : FindsEnd (floor_at bs i) text x u) where
    pub rights-open : (l : List ℕ) → u ≡ None → Walks (read_each (side_at bs) n 0) (bytes_each (side_bytes (length bs)) 0) (256 * n) text at out place None l
    unfolding side_at
    rights-open l g = stops l (rw (right-here, e, f.is, g))

    module _ (w : Option Value) (y : ℕ) (g : u ≡ Some (w, y)) where
      floor-is : floor_at bs i (drop x text) ≡ Some (record { what = w; rest = drop y text })
      floor-is = rw g at f.is

      side-is : side_at bs i (drop next text) ≡ Some (record { what = record { right = v; floor = w }; rest = drop y text })
      unfolding side_at
      side-is = rw (right-here, e, floor-is)

      pub rights-more : (p' : ℕ) (o' : List ℕ) → n ≤ 512 → Written o p (side_shown (i + 1) (leb (length bs) i) v w) p' o' → p' ≤ p + 256
          → Each (side_at bs) (side_bytes (length bs)) n text at out place (i + 1) y o' p'
      rights-more p' o' k z s =
          let a = rw e at d.inside in
          let c = rw g at f.inside in
          let no : length bs ≤ i → w ≡ None = λ t. same-what _ w None _ _ floor-is (floorless bs i t (drop x text)) in
          each_more (side_at bs) (side_bytes (length bs)) n text at out place i next o p h b (record { right = v; floor = w }) y p' o' side-is c.1 (side-written (length bs) i v w (omega arith) a.0 c.0 no z) s

module _ (bs : List Bool) (rows : ℕ) (text : List ℕ) (at : ℕ) (m : Option ℕ) (s : Strips (bytes "RHS\n") text at m) (out : List ℕ) (place : ℕ) where
  pub rights-none : (l : List ℕ) → m ≡ None → Walks (rights_part bs rows) (bytes_each (side_bytes (length bs)) 0) 131072 text at out place None l
  unfolding rights_part
  rights-none l e = record { is = rw (s.is, e); inside = tt }

  pub rights-some : (n : ℕ) (r : Option (ℕ × ℕ)) (o : List ℕ) → rows ≤ 512 → m ≡ Some n → Walks (read_each (side_at bs) rows 0) (bytes_each (side_bytes (length bs)) 0) (256 * rows) text n out place r o
      → Walks (rights_part bs rows) (bytes_each (side_bytes (length bs)) 0) 131072 text at out place r o
  unfolding rights_part
  rights-some n (Some (x, p)) o k e w =
      record {
        is = record { what = w.is.what; is = rw (s.is, e) w.is.is; written = w.is.written };
        inside = (w.inside.0, omega (arith, w.inside.1));
      }
  rights-some n None o k e w = record { is = rw (s.is, e) w.is; inside = tt }

-- ---- an upper bound, and both

module _ (j : ℕ) (text : List ℕ) (at : ℕ) (m : Option ℕ) (s : Strips (named (bytes " PL MODEL C") j (bytes "\n")) text at m) where
  none_here : strip (no_upper_line j) (drop at text) ≡ rest_of text m
  unfolding no_upper_line
  none_here = s.is

  pub upper-absent : (n : ℕ) → m ≡ Some n → FindsEnd (read_upper j) text at (Some (None, n))
  unfolding read_upper upper_by
  upper-absent n e = record { is = rw (none_here, e); inside = (tt, rw e at s.inside) }

  module _ (e : m ≡ None) (r : Option (Value × ℕ)) (d : Finds (line_value (named (bytes " UP MODEL C") j (bytes " "))) text at r) where
    here : line_value (upper_head j) (drop at text) ≡ read_of text r
    unfolding upper_head
    here = d.is

    pub upper-none : r ≡ None → FindsEnd (read_upper j) text at None
    unfolding read_upper upper_by
    upper-none f = record { is = rw (none_here, e, here, f); inside = tt }

    pub upper-some : (v : Value) (n : ℕ) → r ≡ Some (v, n) → FindsEnd (read_upper j) text at (Some ((Some v), n))
    unfolding read_upper upper_by
    upper-some v n f = record { is = rw (none_here, e, here, f); inside = rw f at d.inside }

module _ (j : ℕ) (text : List ℕ) (at : ℕ) (r : Option (Value × ℕ)) (d : Finds (line_value (named (bytes " LO MODEL C") (j + 1) (bytes " "))) text at r) where
  lower : line_value (lower_head (suc j)) (drop at text) ≡ read_of text r
  unfolding lower_head
  lower = rw (add-one j) at d.is

  pub bounds-none : r ≡ None → FindsBounds (bounds_at j) text at None
  unfolding bounds_at
  bounds-none e = record { is = rw (lower, e); inside = tt }

  module _ (v : Value) (n : ℕ) (e : r ≡ Some (v, n)) (u : Option (Option Value × ℕ)) (f : FindsEnd (read_upper (j + 1)) text n u) where
    pub bounds-open : u ≡ None → FindsBounds (bounds_at j) text at None
    unfolding bounds_at
    bounds-open g = record { is = rw (lower, e, (rw (add-one j, g) at f.is)); inside = tt }

    pub bounds-found : (b : Option Value) (x : ℕ) → u ≡ Some (b, x) → FindsBounds (bounds_at j) text at (Some (record { lower = v; upper = b; next = x }))
    unfolding bounds_at
    bounds-found b x g =
        record {
          is = rw (lower, e, (rw (add-one j, g) at f.is));
          inside = ((rw e at d.inside).0, (rw g at f.inside).0, (rw g at f.inside).1);
        }

-- ---- the bounds of all variables

module _ (discrete n : ℕ) (text : List ℕ) (at : ℕ) (out : List ℕ) (place j next : ℕ) (o : List ℕ) (p : ℕ) (h : Each bounds_at (bounds_bytes discrete) n text at out place j next o p) (b : j < n) (r : Option Limits) (d : FindsBounds (bounds_at j) text next r) where
  pub bounds-more : (w : Limits) (p' : ℕ) (o' : List ℕ) → n ≤ 512 → r ≡ Some w → Written o p (bare_variable (j + 1) (ltb j discrete) w.lower w.upper) p' o' → p' ≤ p + 128 → Each bounds_at (bounds_bytes discrete) n text at out place (j + 1) w.next o' p'
  bounds-more z p' o' k e w s =
      let i = rw e at d.inside in
      each_more bounds_at (bounds_bytes discrete) n text at out place j next o p h b (record { lower = z.lower; upper = z.upper }) z.next p' o' (rw e at d.is) i.2 (bounds-written discrete j z.lower z.upper (omega arith) i.0 i.1 w) (omega arith)

  pub bounds-stop : (l : List ℕ) → r ≡ None → Walks (read_each bounds_at n 0) (bytes_each (bounds_bytes discrete) 0) (256 * n) text at out place None l
  bounds-stop l e = record { is = each-stop bounds_at (bounds_bytes discrete) n text at out place j next o p h b (rw e at d.is); inside = tt }

module _ (discrete variables : ℕ) (text : List ℕ) (at : ℕ) (m : Option ℕ) (s : Strips (bytes "BOUNDS\n") text at m) (out : List ℕ) (place : ℕ) where
  pub part_none : (l : List ℕ) → m ≡ None → Walks (bounds_part variables) (bytes_each (bounds_bytes discrete) 0) 131072 text at out place None l
  unfolding bounds_part
  part_none l e = record { is = rw (s.is, e); inside = tt }

  module _ (n : ℕ) (e : m ≡ Some n) (r : Option (ℕ × ℕ)) (o : List ℕ) (w : Walks (read_each bounds_at variables 0) (bytes_each (bounds_bytes discrete) 0) (256 * variables) text n out place r o) where
    pub part-stop : (l : List ℕ) → r ≡ None → Walks (bounds_part variables) (bytes_each (bounds_bytes discrete) 0) 131072 text at out place None l
    unfolding bounds_part
    part-stop l f = record { is = rw (s.is, e, (rw f at w.is)); inside = tt }

    module _ (x p : ℕ) (f : r ≡ Some (x, p)) (k : Option ℕ) (z : Strips (bytes "ENDATA\n") text x k) where
      walked : Walked (read_each bounds_at variables 0) (bytes_each (bounds_bytes discrete) 0) text n out place x p o
      walked = rw f at w.is

      pub part-open : (l : List ℕ) → k ≡ None → Walks (bounds_part variables) (bytes_each (bounds_bytes discrete) 0) 131072 text at out place None l
      unfolding bounds_part
      part-open l g = record { is = rw ((rw e at s.is), walked.is, (rw g at z.is)); inside = tt }

      pub part-all : (y : ℕ) → variables ≤ 512 → k ≡ Some y → Walks (bounds_part variables) (bytes_each (bounds_bytes discrete) 0) 131072 text at out place (Some (y, p)) o
      unfolding bounds_part
      part-all y b g =
          record {
            is = record { what = walked.what; is = rw ((rw e at s.is), walked.is, (rw g at z.is)); written = walked.written };
            inside = (rw g at z.inside, omega (arith, (rw f at w.inside).1));
          }
