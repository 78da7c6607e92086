-- What the rows tell of the names and constraints, where each token of a second table is that of the first.
use mathlib.Core.Path.{◌≡◌, ◌∙◌, ap}
use mathlib.Core.List.{List, [], ◌∷◌, ◌++◌}
use Prim.Native.Nat.{ℕ}
use lib.ListN.{take}
use Rattle.language.specs.Syntax.{Name, Sort, Form, Spans, Constraint, Structure}
use Rattle.language.specs.Syntax
use Rattle.language.specs.Reader.{Reader}
use Rattle.tokens.specs.Stored.{from, Stands}
use Rattle.declarations.specs.Tables.{Spanned, Declares, Told, NamesAre}
use Rattle.constraints.specs.declared.Record.{Record}
use Rattle.constraints.specs.Rows.{RowOf, Rows}
use Rattle.parser.specs.declared.Parsed.{Parsed}
use Rattle.parser.specs.Parsed.{FormAt, StructureAt}

module _ (s ts ts' : List ℕ) (same : (at : ℕ) → from s ts' at ≡ from s ts at) where
  stands-kept : {A : Type 0} (m : Reader A) (at : ℕ) (x : A) → Stands m s ts at x → Stands m s ts' at x
  stands-kept m at x h = record { rest = h.rest; reads = ap m (same at) ∙ h.reads }

  -- ---- names

  spanned-kept : (names : List Name) (d : Spans) (q : ℕ) → Spanned s ts names d q → Spanned s ts' names d q
  spanned-kept names d q h = record { indices = h.indices; stands = stands-kept _ q d h.stands }

  declares-kept : (names : List Name) (y : Sort) (q : ℕ) → Declares s ts names y q → Declares s ts' names y q
  declares-kept names Syntax.index q h = tt
  declares-kept names (Syntax.integer d) q h = spanned-kept names d q h
  declares-kept names (Syntax.real d) q h = spanned-kept names d q h
  declares-kept names (Syntax.formula f) q h = stands-kept _ q f h
  declares-kept names (Syntax.discrete d) q h = spanned-kept names d q h
  declares-kept names (Syntax.continuous d) q h = spanned-kept names d q h

  told-kept : (ns : List ℕ) (before names : List Name) → Told s ts ns before names → Told s ts' ns before names
  told-kept [] before [] h = tt
  told-kept [] before (y ∷ ys) h = absurd h
  told-kept (p ∷ []) before ys h = absurd h
  told-kept (p ∷ n ∷ []) before ys h = absurd h
  told-kept (p ∷ n ∷ k ∷ []) before ys h = absurd h
  told-kept (p ∷ n ∷ k ∷ c ∷ []) before ys h = absurd h
  told-kept (p ∷ n ∷ k ∷ c ∷ q ∷ ns) before [] h = absurd h
  told-kept (p ∷ n ∷ k ∷ c ∷ q ∷ ns) before (y ∷ ys) h = (h.0, declares-kept before y.sort q h.1, told-kept ns (before ++ (y ∷ [])) ys h.2)

  names-kept : (ns : List ℕ) (names : List Name) → NamesAre s ts ns names → NamesAre s ts' ns names
  names-kept ns names h = record { named = h.named; told = told-kept ns [] names h.told }

  -- ---- objective and constraints

  form-kept : (a : ℕ) (names : List Name) (f : Form) → FormAt s ts a names f → FormAt s ts' a names f
  form-kept a names f h = record { linear = h.linear; stands = stands-kept _ a h.linear h.stands; form = h.form }

  row_kept : (row : Record) (names : List Name) (x : Constraint) → RowOf s ts row names x → RowOf s ts' row names x
  unfolding stands-kept
  row_kept row names x h =
      record {
        title = stands-kept _ _ _ h.title;
        left = record { linear = h.left.linear; stands = stands-kept _ _ _ h.left.stands; side = h.left.side };
        relation = h.relation;
        bare = h.bare;
        floor = h.floor;
        entries = h.entries;
        right = stands-kept _ _ _ h.right;
        floor_stands = h.floor_stands;
        domain = stands-kept _ _ _ h.domain;
      }

  rows-kept : (rows : List Record) (names : List Name) (xs : List Constraint) → Rows s ts rows names xs → Rows s ts' rows names xs
  rows-kept [] names [] h = tt
  rows-kept [] names (x ∷ xs) h = absurd h
  rows-kept (r ∷ rows) names [] h = absurd h
  rows-kept (r ∷ rows) names (x ∷ xs) h = (row_kept r names x h.0, rows-kept rows names xs h.1)

  pub structure-kept : (r : Parsed) (ns : List ℕ) (t : List Record) (x : Structure) → StructureAt s ts r ns t x → StructureAt s ts' r ns t x
  structure-kept r ns t x h =
      record {
        place = h.place;
        title = stands-kept _ _ _ h.title;
        names = names-kept _ x.names h.names;
        minimize = h.minimize;
        objective = form-kept _ x.names x.objective h.objective;
        constraints = rows-kept (take r.constraints t) x.names x.constraints h.constraints;
      }
