-- Laws of the runs that code holds: at most four, their numbers and what they bind.
use Rattle.std.specs.Prelude.{map, reverse}
use mathlib.Core.Path.{◌≡◌, refl, sym, ◌∙◌, ap}
use mathlib.Core.List.{List, [], ◌∷◌, ◌++◌, append_assoc, append-nil}
use Prim.Native.Nat.{ℕ, ◌^◌, ◌<◌, ◌≤◌}
use lib.ListN.{length, take, get_or}
use lib.Signed.{mag}
use mir.Syntax.{w64}
use mir.Val.{to_z, of_z}
use Rattle.std.proofs.lemmas.List.{take-map, reverse-append}
use Rattle.value.proofs.Integers.{back}
use Rattle.language.specs.Scope.{Binding}
use Rattle.store.specs.Few.{items_of}
use Rattle.store.specs.declared.Element.{Element}
use Rattle.store.specs.Element.{list_of}
use Rattle.store.proofs.Fews.{length-few as few, four-items}
use Rattle.evaluator.specs.Steps.Scopes.{binding_of, bindings_of}
use Rattle.evaluator.specs.declared.steps.scope.Binding.{Binding as HeldBinding}
use Rattle.elements.specs.declared.here.Level.{Level}
use Rattle.elements.specs.declared.here.Here.{Here}
use Rattle.elements.specs.Held.{held, no-level, number_of, bound_at, bound, scope_at}

pub length-few : (h : Here) → length (held h) ≤ 4
unfolding held
length-few h = few h.levels

-- the last run is bound first
bound-reverse : (ls : List Level) (b : List Binding) → bound ls b ≡ reverse (map binding_of (map bound_at ls)) ++ b
unfolding bound
bound-reverse [] b = refl
bound-reverse (l ∷ ls) b =
    let r = map binding_of (map bound_at ls) in
    bound-reverse ls (binding_of (bound_at l) ∷ b)
    ∙ sym (ap (λ m. m ++ b) (reverse-append (binding_of (bound_at l) ∷ []) r) ∙ append_assoc (reverse r) (binding_of (bound_at l) ∷ []) b)

-- the numbers of the runs as an element
abbrev pub element_at : Here → Element
element_at h = record { numbers = record { count = h.levels.count; items = map number_of h.levels.items } }

module _ (h : Here) where
  pub element-held : list_of (element_at h) ≡ map number_of (held h)
  unfolding list_of held items_of
  element-held = ap (take h.levels.count) (take-map number_of 4 h.levels.items) ∙ take-map number_of h.levels.count (take 4 h.levels.items)

  -- the scope of an element binds its runs
  pub scope-held : bindings_of (scope_at h) ≡ bound (held h) []
  unfolding bindings_of held items_of
  scope-held =
      let l = h.levels.items in
      ap (λ b. reverse (map binding_of b)) (ap (take h.levels.count) (take-map bound_at 4 l) ∙ take-map bound_at h.levels.count (take 4 l))
      ∙ sym (bound-reverse (take h.levels.count (take 4 l)) [] ∙ append-nil _)

  module _ (full : length h.levels.items ≡ 4) where
    abbrev run : ℕ → Level
    run i = get_or h.levels.items i no-level

    runs-are : h.levels.items ≡ run 0 ∷ run 1 ∷ run 2 ∷ run 3 ∷ []
    runs-are = four-items h.levels.items no-level no-level no-level no-level full

    pub scope-is : (a b c d : HeldBinding) → a ≡ bound_at (run 0) → b ≡ bound_at (run 1) → c ≡ bound_at (run 2) → d ≡ bound_at (run 3)
        → bindings_of (record { bound = record { count = h.levels.count; items = a ∷ b ∷ c ∷ d ∷ [] } }) ≡ bound (held h) []
    scope-is a b c d e f g i =
        ap (λ l. bindings_of (record { bound = record { count = h.levels.count; items = l } })) (rw (e, f, g, i) (sym (ap (map bound_at) runs-are))) ∙ scope-held

    pub element-is : mag (run 0).number < 2 ^ 63 → mag (run 1).number < 2 ^ 63 → mag (run 2).number < 2 ^ 63 → mag (run 3).number < 2 ^ 63
        → list_of (record {
          numbers = record {
            count = h.levels.count;
            items = to_z w64 (of_z w64 (run 0).number) ∷ to_z w64 (of_z w64 (run 1).number) ∷ to_z w64 (of_z w64 (run 2).number) ∷ to_z w64 (of_z w64 (run 3).number) ∷ [];
          };
        })
        ≡ map number_of (held h)
    element-is a b c d =
        rw (back {z = (run 0).number} a, back {z = (run 1).number} b, back {z = (run 2).number} c, back {z = (run 3).number} d)
        (ap (λ l. list_of (record { numbers = record { count = h.levels.count; items = l } })) (sym (ap (map number_of) runs-are)) ∙ element-held)
