-- The elements of a domain in the order in which `over` comes to them, as a list that ends as the walk ends: code cannot be
-- handed a step, so it asks for the first element and, after each, for the next.
use Rattle.std.specs.Prelude.{◌≡◌, ◌⊎◌, List, [], ◌∷◌, ℕ, ℤ}
use Rattle.rules.specs.declared.Refusal.{Refusal}
use Rattle.language.specs.Outcome.{Outcome, done, refused, ◌>>=◌}
use Rattle.language.specs.Scope.{Scope, bind}
use Rattle.language.specs.Syntax.{Spans, point, span}
use Rattle.language.specs.Evaluation.{limits_of, run_of, eval}

-- ---- walks

-- what a walk reaches, in order, up to its end or to the refusal of a limit or a run
pub data Walked (A : Type 0) : Type 0 where
  finished : Walked A
  stopped : Refusal → ℕ → Walked A
  reaches : A → Walked A → Walked A

module _ {A : Type 0} where
  unfoldable pub reached : Walked A → List A
  reached finished = []
  reached (stopped n p) = []
  reached (reaches a w) = a ∷ reached w

  unfoldable pub ending : Walked A → Outcome (Unit {0})
  ending finished = done tt
  ending (stopped n p) = refused n p
  ending (reaches a w) = ending w

  -- one walk after another, if that is not refused
  unfoldable pub followed : Walked A → Walked A → Walked A
  followed finished v = v
  followed (stopped n p) v = stopped n p
  followed (reaches a w) v = reaches a (followed w v)

  -- a walk for each number of a run
  unfoldable pub chained : (ℤ → Walked A) → List ℤ → Walked A
  chained w [] = finished
  chained w (k ∷ ks) = followed (w k) (chained w ks)

  -- the same, where there is a run
  unfoldable pub over_run : Outcome (List ℤ) → (ℤ → Walked A) → Walked A
  over_run (done ks) w = chained w ks
  over_run (refused n p) w = stopped n p

  -- v is what comes after a, which the walk reaches
  abbrev pub Behind : Walked A → A → Walked A → Type 0
  Behind finished a v = ⊥
  Behind (stopped n p) a v = ⊥
  Behind (reaches b w) a v = ((b ≡ a) × (w ≡ v)) ⊎ Behind w a v

unfoldable pub mapped : {A B : Type 0} → (A → B) → Walked A → Walked B
mapped f finished = finished
mapped f (stopped n p) = stopped n p
mapped f (reaches a w) = reaches (f a) (mapped f w)

-- ---- elements

-- an element, and what is bound at it
pub record Here : Type 0 where
  pub scope : Scope
  pub element : List ℤ

abbrev pub in_front : ℤ → Here → Here
in_front k h = record { scope = h.scope; element = k ∷ h.element }

-- the elements of a domain, the first index outermost, each limit read anew under the values bound by then
unfoldable pub elements_of : Spans → Scope → Walked Here
elements_of point s = reaches (record { scope = s; element = [] }) finished
elements_of (span i lower upper p d) s =
    over_run (limits_of (eval lower s) (eval upper s) >>= λ l. run_of l i s p) λ k. mapped (in_front k) (elements_of d (bind i k s))

-- ---- steps

-- a step at each element; the first refusal, of a step or of the walk, ends it
unfoldable pub folded : {A : Type 0} → (Scope → List ℤ → A → Outcome A) → Walked Here → A → Outcome A
folded f finished a = done a
folded f (stopped n p) a = refused n p
folded f (reaches h w) a = f h.scope h.element a >>= λ b. folded f w b
