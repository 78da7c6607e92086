-- What code tells of what it read, and what the name table tells of the declared names.
use Rattle.std.specs.Prelude.{Err, Ok, Result, IfOk, MatchResult, ◌≡◌, Bool, List, [], ◌∷◌, ◌++◌, ℕ, ◌≤◌, ◌/◌, ◌<◌, length, take}
use Rattle.rules.specs.declared.Refused.{Refused}
use Rattle.rules.specs.Limits.{nesting_limit}
use Rattle.language.specs.Syntax.{Name, Sort, Spans}
use Rattle.language.specs.Syntax
use Rattle.language.specs.Reader.{Used, Titled, Reader, Read}
use Rattle.language.specs.Formulas.{formula_at}
use Rattle.language.specs.Declarations.{due_of, declarations}
use Rattle.tokens.specs.Stored.{size, Shaped, Stands, Moves, Gives, spelling, Named, rows_of, from}
use Rattle.declarations.specs.declared.Indices.{Indices}
use Rattle.declarations.specs.declared.Row.{Row}
use Rattle.declarations.specs.declared.Title.{Title}
use Rattle.declarations.specs.Readers.{indices_in, new_name_in, One, row_in}
use Rattle.language.specs.Outcome.{Outcome, done, refused}

-- an index has the number i
pub record IsNumber (i : ℕ) (names : List Name) (u : Used) : Type 0 where
  pub number : u.number ≡ i

-- a list goes on or not
pub record IsMore (b : Bool) (names : List Name) (v : Bool) : Type 0 where
  pub more : v ≡ b

-- a list of indices is the first n of the numbers l
pub record Numbers (n : ℕ) (l : List ℕ) (names : List Name) (w : List ℕ) : Type 0 where
  pub numbers : w ≡ take n l

-- the indices r up to the position a
pub record IndicesUpTo (s ns ts : List ℕ) (at : ℕ) (r : Indices) (a : ℕ) : Type 0 where
  pub gives : Gives indices_in (Numbers r.count r.numbers) s ns ts at (Ok a)
  pub within : r.count ≤ length r.numbers
  pub sized : length (take r.count r.numbers) ≡ r.count

-- the same refusal, or indices
abbrev pub Indexed : List ℕ → List ℕ → List ℕ → ℕ → Result (Indices × ℕ) Refused → Type 0
Indexed s ns ts at r = MatchResult r (λ w. IndicesUpTo s ns ts at w.0 w.1) (λ e. Moves indices_in s ns ts at (Err e))

-- a declared domain stands at q, where the names of its time read it
pub record Spanned (s ts : List ℕ) (names : List Name) (d : Spans) (q : ℕ) : Type 0 where
  pub indices : List ℕ
  pub stands : Stands (due_of names indices []) s ts q d

-- a domain has c indices and stands at q
pub record Spanning (s ts : List ℕ) (c q : ℕ) (names : List Name) (d : Spans) : Type 0 where
  pub sized : size d ≡ c
  pub spanned : Spanned s ts names d q

-- what was declared stands at q, where the names of its time read it
abbrev pub Declares : List ℕ → List ℕ → List Name → Sort → ℕ → Type 0
Declares s ts names Syntax.index q = Unit {0}
Declares s ts names (Syntax.integer d) q = Spanned s ts names d q
Declares s ts names (Syntax.real d) q = Spanned s ts names d q
Declares s ts names (Syntax.formula f) q = Stands (formula_at names nesting_limit) s ts q f
Declares s ts names (Syntax.discrete d) q = Spanned s ts names d q
Declares s ts names (Syntax.continuous d) q = Spanned s ts names d q

-- an entry is of sort k with c indices, and stands at q
pub record Entered (s ts : List ℕ) (k c q : ℕ) (names : List Name) (y : Sort) : Type 0 where
  pub shaped : k ≤ 5 → Shaped y k c
  pub declares : Declares s ts names y q

-- a new name has n bytes at p
pub record IsTitle (s : List ℕ) (p n : ℕ) (names : List Name) (x : Titled) : Type 0 where
  pub title : x.title ≡ spelling s p n
  pub place : x.place ≡ p

-- a new name up to the position a, and a table with room for one row more
pub record TitleUpTo (s ns ts : List ℕ) (at : ℕ) (r : Title) (a : ℕ) : Type 0 where
  pub gives : Gives new_name_in (IsTitle s r.place r.bytes) s ns ts at (Ok a)
  pub room : length ns / 5 < 64

-- the same refusal, or a new name
abbrev pub TitledAt : List ℕ → List ℕ → List ℕ → ℕ → Result (Title × ℕ) Refused → Type 0
TitledAt s ns ts at r = MatchResult r (λ w. TitleUpTo s ns ts at w.0 w.1) (λ e. Moves new_name_in s ns ts at (Err e))

-- a row of sort k: the name is spelled by n bytes at p, has c indices and is declared at q
pub record IsRow (s ts : List ℕ) (k p n c q : ℕ) (b : Bool) (names : List Name) (x : One) : Type 0 where
  pub title : x.name.spelling ≡ spelling s p n
  pub place : x.name.place ≡ p
  pub shaped : k ≤ 5 → Shaped x.name.sort k c
  pub declares : Declares s ts names x.name.sort q
  pub more : x.more ≡ b

-- a row up to the position a, and a table with room for it
pub record RowUpTo (s ns ts : List ℕ) (k at : ℕ) (r : Row) (a : ℕ) : Type 0 where
  pub gives : Gives (row_in k) (IsRow s ts k r.place r.bytes r.count r.position r.more) s ns ts at (Ok a)
  pub room : length ns / 5 < 64

-- the same refusal, or a row
abbrev pub RowedAt : List ℕ → List ℕ → List ℕ → ℕ → ℕ → Result (Row × ℕ) Refused → Type 0
RowedAt s ns ts k at r = MatchResult r (λ w. RowUpTo s ns ts k at w.0 w.1) (λ e. Moves (row_in k) s ns ts at (Err e))

-- ---- the name table

-- of each name its place, and where what was declared stands; the names before it read it there
abbrev pub Told : List ℕ → List ℕ → List ℕ → List Name → List Name → Type 0
Told s ts [] before [] = Unit {0}
Told s ts [] before (y ∷ ys) = ⊥
Told s ts (p ∷ []) before ys = ⊥
Told s ts (p ∷ n ∷ []) before ys = ⊥
Told s ts (p ∷ n ∷ k ∷ []) before ys = ⊥
Told s ts (p ∷ n ∷ k ∷ c ∷ []) before ys = ⊥
Told s ts (p ∷ n ∷ k ∷ c ∷ q ∷ ns) before [] = ⊥
Told s ts (p ∷ n ∷ k ∷ c ∷ q ∷ ns) before (y ∷ ys) = (y.place ≡ p) × Declares s ts before y.sort q × Told s ts ns (before ++ (y ∷ [])) ys

-- all that the rows tell of the declared names
pub record NamesAre (s ts ns : List ℕ) (names : List Name) : Type 0 where
  pub named : Named s ns names
  pub told : Told s ts ns [] names

-- the same refusal, or the first rows of a table, so many as code says, tell of the names
abbrev pub Listing : Outcome (Read (List Name)) → List ℕ → List ℕ → Result (ℕ × ℕ) Refused → List ℕ → Type 0
Listing (done x) s ts (Ok w) ns = (x.rest ≡ from s ts w.1) × NamesAre s ts (rows_of w.0 ns) x.what
Listing (done x) s ts (Err e) ns = ⊥
Listing (refused r q) s ts (Ok w) ns = ⊥
Listing (refused r q) s ts (Err e) ns = (r ≡ e.refusal) × (q ≡ e.place)

-- a reader of more names, of a table ns with `count` rows that becomes ns'
pub record Lists (m : List Name → Reader (List Name)) (s ts ns : List ℕ) (count at : ℕ) (r : Result (ℕ × ℕ) Refused) (ns' : List ℕ) : Type 0 where
  pub size : length ns' ≡ length ns
  pub within : IfOk r (λ w. w.0 ≤ 64)
  pub lists : (names : List Name) → NamesAre s ts (rows_of count ns) names → Listing (m names (from s ts at)) s ts r ns'

-- all declarations
pub record Declared (s ts : List ℕ) (at : ℕ) (r : Result (ℕ × ℕ) Refused) (ns : List ℕ) : Type 0 where
  pub within : IfOk r (λ w. w.0 ≤ 64)
  pub lists : Listing (declarations (from s ts at)) s ts r ns
