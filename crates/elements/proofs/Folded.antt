-- A step at each element of a domain is a step at each element that its walk reaches, and then the walk's end.
use mathlib.Core.Path.{◌≡◌, refl, sym, ◌∙◌, ap, fun_ext}
use mathlib.Core.List.{List, [], ◌∷◌}
use lib.IntN.{ℤ}
use Rattle.language.specs.Outcome.{Outcome, done, refused, ◌>>=◌}
use Rattle.language.specs.Scope.{Scope, bind}
use Rattle.language.specs.Syntax.{Spans, point, span}
use Rattle.language.specs.Evaluation.{limits_of, run_of, each, eval, over}
use Rattle.elements.specs.Elements.{Walked, finished, stopped, reaches, followed, chained, over_run, mapped, Here, in_front, elements_of, folded}

module _ {A : Type 0} where
  -- two steps and a third
  bind_assoc : {B C : Type 0} (m : Outcome A) (f : A → Outcome B) (g : B → Outcome C) → (m >>= f >>= g) ≡ (m >>= λ a. f a >>= g)
  bind_assoc (done a) f g = refl
  bind_assoc (refused n p) f g = refl

  bind_done : (m : Outcome A) → (m >>= λ a. done a) ≡ m
  bind_done (done a) = refl
  bind_done (refused n p) = refl

  bind-same : {B : Type 0} (m : Outcome A) (f g : A → Outcome B) → ((a : A) → f a ≡ g a) → (m >>= f) ≡ (m >>= g)
  bind-same m f g h = ap (λ (k : A → Outcome _). m >>= k) (fun_ext h)

module _ {A : Type 0} where
  fold-followed : (f : Scope → List ℤ → A → Outcome A) (w v : Walked Here) (a : A) → folded f (followed w v) a ≡ (folded f w a >>= λ b. folded f v b)
  unfolding folded followed
  fold-followed f finished v a = refl
  fold-followed f (stopped n p) v a = refl
  fold-followed f (reaches h w) v a =
      bind-same (f h.scope h.element a) _ _ (fold-followed f w v) ∙ sym (bind_assoc (f h.scope h.element a) _ _)

  fold-mapped : (f : Scope → List ℤ → A → Outcome A) (k : ℤ) (w : Walked Here) (a : A) → folded f (mapped (in_front k) w) a ≡ folded (λ t e. f t (k ∷ e)) w a
  unfolding folded mapped
  fold-mapped f k finished a = refl
  fold-mapped f k (stopped n p) a = refl
  fold-mapped f k (reaches h w) a = bind-same (f h.scope (k ∷ h.element) a) _ _ (fold-mapped f k w)

  fold-chained : (f : Scope → List ℤ → A → Outcome A) (w : ℤ → Walked Here) (g : ℤ → A → Outcome A) → ((k : ℤ) (a : A) → g k a ≡ folded f (w k) a)
      → (ks : List ℤ) (a : A) → each g ks a ≡ folded f (chained w ks) a
  unfolding each chained folded
  fold-chained f w g h [] a = refl
  fold-chained f w g h (k ∷ ks) a =
      ap (λ m. m >>= λ b. each g ks b) (h k a) ∙ bind-same (folded f (w k) a) _ _ (fold-chained f w g h ks) ∙ sym (fold-followed f (w k) (chained w ks) a)

  fold-run : (f : Scope → List ℤ → A → Outcome A) (w : ℤ → Walked Here) (g : ℤ → A → Outcome A) → ((k : ℤ) (a : A) → g k a ≡ folded f (w k) a)
      → (r : Outcome (List ℤ)) (a : A) → (r >>= λ ks. each g ks a) ≡ folded f (over_run r w) a
  unfolding over_run folded
  fold-run f w g h (done ks) a = fold-chained f w g h ks a
  fold-run f w g h (refused n p) a = refl

  -- for every step and every state
  pub over-elements : (d : Spans) (s : Scope) (f : Scope → List ℤ → A → Outcome A) (a : A) → over d s f a ≡ folded f (elements_of d s) a
  unfolding over elements_of folded
  over-elements point s f a = sym (bind_done (f s [] a))
  over-elements (span i lower upper p d) s f a =
      let l = limits_of (eval lower s) (eval upper s) in
      sym (bind_assoc l (λ l. run_of l i s p) _)
      ∙ fold-run f _ _ (λ k b. over-elements d (bind i k s) (λ t e. f t (k ∷ e)) b ∙ sym (fold-mapped f k (elements_of d (bind i k s)) b)) (l >>= λ l. run_of l i s p) a
