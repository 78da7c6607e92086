-- Laws of `specs/Listed`.
use mathlib.Core.Path.{◌≡◌, refl, sym, ◌∙◌, ap, subst}
use mathlib.Core.Logic.{◌⊎◌, inl, inr}
use mathlib.Core.List.{List, [], ◌∷◌, ◌++◌, map}
use Prim.Native.Nat.{ℕ, zero, suc, ◌+◌, ◌<◌}
use native.Mathlib.Omega.{arith}
use lib.ListN.{length, get_or}
use Rattle.language.specs.Listed.{At, Distinct, In}

module _ {A : Type 0} where
  pub at_length : (l : List A) (i : ℕ) (a : A) → At l i a → i < length l
  at_length [] i a h = absurd h
  at_length (b ∷ l) zero a h = omega arith
  at_length (b ∷ l) (suc i) a h = omega (arith, at_length l i a h)

  pub at-get_d : (l : List A) (i : ℕ) (a d : A) → At l i a → get_or l i d ≡ a
  at-get_d [] i a d h = absurd h
  at-get_d (b ∷ l) zero a d h = h
  at-get_d (b ∷ l) (suc i) a d h = at-get_d l i a d h

  pub at-unique : (l : List A) (i : ℕ) (a b : A) → At l i a → At l i b → a ≡ b
  at-unique [] i a b h k = absurd h
  at-unique (c ∷ l) zero a b h k = sym h ∙ k
  at-unique (c ∷ l) (suc i) a b h k = at-unique l i a b h k

  -- ---- joined lists

  abbrev pub Split : List A → List A → ℕ → A → Type 0
  Split l m i a = At l i a ⊎ ((j : ℕ) × (i ≡ length l + j) × At m j a)

  pub at-append : (l m : List A) (i : ℕ) (a : A) → At (l ++ m) i a → Split l m i a
  at-append [] m i a h = inr (i, omega arith, h)
  at-append (b ∷ l) m zero a h = inl h
  at-append (b ∷ l) m (suc i) a h = later (at-append l m i a h)
    where
      later : Split l m i a → Split (b ∷ l) m (suc i) a
      later (inl k) = inl k
      later (inr k) = inr (k.0, omega (arith, k.1), k.2)

  pub at_left : (l m : List A) (i : ℕ) (a : A) → At l i a → At (l ++ m) i a
  at_left [] m i a h = absurd h
  at_left (b ∷ l) m zero a h = h
  at_left (b ∷ l) m (suc i) a h = at_left l m i a h

  pub at_right : (l m : List A) (i : ℕ) (a : A) → At m i a → At (l ++ m) (length l + i) a
  at_right [] m i a h = let e : i ≡ 0 + i = omega arith in rw e at h
  at_right (b ∷ l) m i a h = let e : suc (length l) + i ≡ suc (length l + i) = omega arith in rw e (at_right l m i a h)

  pub in-append : (l m : List A) (a : A) → In (l ++ m) a → In l a ⊎ In m a
  in-append l m a h = go (at-append l m h.place a h.at)
    where
      go : Split l m h.place a → In l a ⊎ In m a
      go (inl k) = inl (record { place = h.place; at = k })
      go (inr k) = inr (record { place = k.0; at = k.2 })

  pub in_left : (l m : List A) (a : A) → In l a → In (l ++ m) a
  in_left l m a h = record { place = h.place; at = at_left l m h.place a h.at }

  pub in_right : (l m : List A) (a : A) → In m a → In (l ++ m) a
  in_right l m a h = record { place = length l + h.place; at = at_right l m h.place a h.at }

  pub in-nil : (a : A) → In [] a → ⊥
  in-nil a h = h.at

  -- an entry of a ∷ l is a or stands in l
  pub in-cons : (b : A) (l : List A) (a : A) → In (b ∷ l) a → (b ≡ a) ⊎ In l a
  in-cons b l a h = go h.place h.at
    where
      go : (i : ℕ) → At (b ∷ l) i a → (b ≡ a) ⊎ In l a
      go zero k = inl k
      go (suc i) k = inr (record { place = i; at = k })

  pub in-here : (a : A) (l : List A) → In (a ∷ l) a
  in-here a l = record { place = 0; at = refl }

  pub in-later : (b : A) (l : List A) (a : A) → In l a → In (b ∷ l) a
  in-later b l a h = record { place = suc h.place; at = h.at }

  pub distinct_nil : Distinct {A = A} []
  distinct_nil = record { once = λ i j a h k. absurd h }

  pub distinct_append : (l m : List A) → Distinct l → Distinct m → ((a : A) → In l a → In m a → ⊥) → Distinct (l ++ m)
  distinct_append l m dl dm apart = record { once = λ i j a h k. go i j a (at-append l m i a h) (at-append l m j a k) }
    where
      go : (i j : ℕ) (a : A) → Split l m i a → Split l m j a → i ≡ j
      go i j a (inl h) (inl k) = dl.once i j a h k
      go i j a (inl h) (inr k) = absurd (apart a (record { place = i; at = h }) (record { place = k.0; at = k.2 }))
      go i j a (inr h) (inl k) = absurd (apart a (record { place = j; at = k }) (record { place = h.0; at = h.2 }))
      go i j a (inr h) (inr k) = omega (arith, h.1, k.1, dm.once h.0 k.0 a h.2 k.2)

  -- a list without repeats, from its head
  pub distinct_cons : (a : A) (l : List A) → (In l a → ⊥) → Distinct l → Distinct (a ∷ l)
  distinct_cons a l new dl = record { once = go }
    where
      go : (i j : ℕ) (b : A) → At (a ∷ l) i b → At (a ∷ l) j b → i ≡ j
      go zero zero b h k = refl
      go zero (suc j) b h k = absurd (new (record { place = j; at = subst (λ x. At l j x) (sym h) k }))
      go (suc i) zero b h k = absurd (new (record { place = i; at = subst (λ x. At l i x) (sym k) h }))
      go (suc i) (suc j) b h k = ap suc (dl.once i j b h k)

module _ {A B : Type 0} (f : A → B) where
  pub at_map : (l : List A) (i : ℕ) (a : A) → At l i a → At (map f l) i (f a)
  at_map [] i a h = absurd h
  at_map (b ∷ l) zero a h = ap f h
  at_map (b ∷ l) (suc i) a h = at_map l i a h

  pub map_at : (l : List A) (i : ℕ) (b : B) → At (map f l) i b → (a : A) × At l i a × (f a ≡ b)
  map_at [] i b h = absurd h
  map_at (c ∷ l) zero b h = (c, refl, h)
  map_at (c ∷ l) (suc i) b h = map_at l i b h

  pub in_map : (l : List A) (a : A) → In l a → In (map f l) (f a)
  in_map l a h = record { place = h.place; at = at_map l h.place a h.at }

  pub map-in : (l : List A) (b : B) → In (map f l) b → (a : A) × In l a × (f a ≡ b)
  map-in l b h = let r = map_at l h.place b h.at in (r.0, record { place = h.place; at = r.1 }, r.2)

  pub distinct-from-map : (l : List A) → Distinct (map f l) → Distinct l
  distinct-from-map l d = record { once = λ i j a h k. d.once i j (f a) (at_map l i a h) (at_map l j a k) }
