-- A declared domain laid out.
use Rattle.std.specs.Prelude.{None, Ok, Option, Some, ◌≡◌, List, [], ◌∷◌, ℕ, ◌<◌, ◌≤◌, length, take, get_or}
use Rattle.tokens.specs.declared.Seen.{Seen}
use Rattle.lexer.specs.Text.{Token}
use Rattle.language.specs.Syntax.{Name, Formula, Spans, point}
use Rattle.language.specs.Syntax
use Rattle.tokens.specs.Stored.{token, from, size, Sees, Named}
use Rattle.onepass.specs.Walk.{name_number}
use Rattle.onepass.specs.Entries.{ReadsEntry, ReadsSpans}
use Rattle.evaluator.specs.Steps.Names.{index_number}
use Rattle.evaluator.specs.Ground.{Ground}
use Rattle.data.specs.Reading.Few.{numbers_of}
use Rattle.data.specs.declared.layouts.Layout.{Layout}

-- ---- a domain laid out

-- each entry's position and index
abbrev pub Laid : List Name → List ℕ → List ℕ → Spans → List ℕ → List ℕ → Type 0
Laid names s ts point [] [] = Unit {0}
Laid names s ts point [] (i ∷ is) = ⊥
Laid names s ts point (a ∷ l) is = ⊥
Laid names s ts (Syntax.span j f g q d) [] is = ⊥
Laid names s ts (Syntax.span j f g q d) (a ∷ l) [] = ⊥
Laid names s ts (Syntax.span j f g q d) (a ∷ l) (i ∷ is) = (m : List Token) × ReadsEntry names i f g q (from s ts a) m × (j ≡ i) × Laid names s ts d l is

abbrev pub LaidBy : List Name → List ℕ → List ℕ → Spans → Layout → Type 0
LaidBy names s ts d r = Laid names s ts d (numbers_of r.starts) (numbers_of r.indices)

-- the first `level` names are those of the rows ns, and tokens hold their numbers
pub record Sight (s ns ts : List ℕ) (level : ℕ) (names : List Name) : Type 0 where
  pub visible : Named s ns (take level names)
  pub number : (at : ℕ) (w : Seen) → Sees s ts at (Ok w) → name_number (take level names) (token s w.kind w.place w.payload).kind ≡ index_number level (get_or ts at 0)

abbrev pub SpanIs : List ℕ → List ℕ → Option (ℕ × ℕ) → ℕ → List Token → Type 0
SpanIs s ts (Some (j, a)) i m = (j ≡ i) × (from s ts a ≡ m)
SpanIs s ts None i m = ⊥

pub record Passes (s ns ts : List ℕ) (level at : ℕ) (r : Option (ℕ × ℕ)) : Type 0 where
  pub is : (names : List Name) → Sight s ns ts level names → (i : ℕ) (f g : Formula) (q : ℕ) (m : List Token) → ReadsEntry (take level names) i f g q (from s ts at) m → SpanIs s ts r i m

pub record LaysOut (s ns ts : List ℕ) (level at n : ℕ) (r : Layout) : Type 0 where
  pub is : (names : List Name) → Sight s ns ts level names → (d : Spans) (rest : List Token) → ReadsSpans (take level names) d (from s ts at) rest → size d ≡ n → n ≤ 4
      → LaidBy (take level names) s ts d r

-- of a declared name's domain
pub record Lays (s ns ts : List ℕ) (level at n : ℕ) (r : Layout) : Type 0 where
  pub is : (g : Ground s ns ts) → level < length g.names → (d : Spans) (rest : List Token) → ReadsSpans (take level g.names) d (from s ts at) rest → size d ≡ n → n ≤ 4
      → LaidBy (take level g.names) s ts d r
