-- One thing after the other: the loops that read and write, by what is left.
use Rattle.std.specs.Prelude.{Option, Some, None}
use mathlib.Core.Path.{◌≡◌, refl, ◌∙◌, ap}
use mathlib.Core.List.{List, [], ◌∷◌}
use Prim.Native.Nat.{ℕ, zero, suc, ◌+◌, ◌-◌, ◌*◌, ◌<◌, ◌≤◌}
use native.Mathlib.Omega.{arith}
use native.Mathlib.Numerals.{add-one}
use lib.ListN.{length, drop}
use Rattle.value.specs.Printed.{Written}
use Rattle.value.proofs.Writing.{written_none, written_then, written-length}
use Rattle.mps.specs.Reading.{Read, Reader, follow, ◌>>=◌, give}
use Rattle.importer.specs.Sections.{read_each, bytes_each}
use Rattle.importer.specs.Steps.{WalksAs, Walks}

pub same-what : {A : Type 0} (o : Option (Read A)) (a b : A) (s t : List ℕ) → o ≡ Some (record { what = a; rest = s }) → o ≡ Some (record { what = b; rest = t }) → a ≡ b
same-what {A} o a b s t e f =
    let z : ◌≡◌ {A = Read A} (record { what = a; rest = s }) (record { what = b; rest = t }) = cc in
    ap (λ (q : Read A). q.what) z

-- to read and write what is left of n things, from thing i on, is to read and write all of them
pub record Each {A : Type 0} (g : ℕ → Reader A) (f : ℕ → A → List ℕ) (n : ℕ) (text : List ℕ) (at : ℕ) (out : List ℕ) (place i next : ℕ) (o : List ℕ) (p : ℕ) : Type 0 where
  pub few : i ≤ n
  pub inside : next ≤ length text
  pub short : p ≤ place + 256 * i
  pub size : length o ≡ length out
  pub whole : (r : Option (ℕ × ℕ)) (l : List ℕ) → WalksAs (read_each g (n - i) i) (bytes_each f i) text next o p r l → WalksAs (read_each g n 0) (bytes_each f 0) text at out place r l

module _ {A : Type 0} (g : ℕ → Reader A) (f : ℕ → A → List ℕ) where
  -- thing i, then those behind it
  step : (text : List ℕ) (k i next : ℕ) (o : List ℕ) (p : ℕ) (a : A) (next' p' : ℕ) (o' : List ℕ)
      → g i (drop next text) ≡ Some (record { what = a; rest = drop next' text }) → Written o p (f i a) p' o'
      → (r : Option (ℕ × ℕ)) (l : List ℕ) → WalksAs (read_each g k (suc i)) (bytes_each f (suc i)) text next' o' p' r l → WalksAs (read_each g (suc k) i) (bytes_each f i) text next o p r l
  unfolding read_each bytes_each
  step text k i next o p a next' p' o' e v (Some (x, y)) l w =
      record { what = a ∷ w.what; is = rw (e, w.is); written = written_then _ _ _ _ _ _ _ _ v w.written }
  step text k i next o p a next' p' o' e v None l w = rw (e, w)

  stop : (l : List ℕ) (k i : ℕ) → g i l ≡ None → read_each g (suc k) i l ≡ None
  unfolding read_each
  stop l k i e = rw e

  end : (text : List ℕ) (i next : ℕ) (o : List ℕ) (p : ℕ) → WalksAs (read_each g 0 i) (bytes_each f i) text next o p (Some (next, p)) o
  unfolding read_each bytes_each
  end text i next o p = record { what = []; is = refl; written = written_none o p }

  module _ (n : ℕ) (text : List ℕ) (at : ℕ) (out : List ℕ) (place : ℕ) where
    pub each_first : at ≤ length text → Each g f n text at out place 0 at out place
    each_first h =
        let z : n - 0 ≡ n = omega arith in
        record { few = omega arith; inside = h; short = omega arith; size = refl; whole = λ r l w. rw z at w }

    module _ (i next : ℕ) (o : List ℕ) (p : ℕ) (h : Each g f n text at out place i next o p) where
      pub each_more : i < n → (a : A) (next' p' : ℕ) (o' : List ℕ) → g i (drop next text) ≡ Some (record { what = a; rest = drop next' text }) → next' ≤ length text → Written o p (f i a) p' o' → p' ≤ p + 256
          → Each g f n text at out place (i + 1) next' o' p'
      each_more b a next' p' o' e k v s =
          let z : n - i ≡ suc (n - suc i) = omega arith in
          record {
            few = omega arith;
            inside = k;
            short = omega (arith, h.short);
            size = written-length _ _ _ _ _ v ∙ h.size;
            whole = λ r l w. h.whole r l (rw z (step text (n - suc i) i next o p a next' p' o' e v r l (rw (add-one i) at w)));
          }

      pub each-stop : i < n → g i (drop next text) ≡ None → read_each g n 0 (drop at text) ≡ None
      each-stop b e =
          let z : n - i ≡ suc (n - suc i) = omega arith in
          h.whole None o (rw z (stop (drop next text) (n - suc i) i e))

      pub each-end : n ≤ i → Walks (read_each g n 0) (bytes_each f 0) (256 * n) text at out place (Some (next, p)) o
      each-end b =
          let z : n - i ≡ 0 = omega arith in
          let k : i ≡ n = omega (arith, h.few) in
          record { is = h.whole (Some (next, p)) o (rw z (end text i next o p)); inside = (h.inside, omega (arith, h.short, k)) }

  -- a list of n
  behind-length : (k : ℕ) (a : A) (o : Option (Read (List A))) (q : Read (List A)) → ((x : Read (List A)) → o ≡ Some x → length x.what ≡ k) → follow o (λ xs. give (a ∷ xs)) ≡ Some q → length q.what ≡ suc k
  behind-length k a None q h f = absurd (let z : ◌≡◌ {A = ℕ} 0 1 = cc in omega arith)
  behind-length k a (Some x) q h f =
      let z : ◌≡◌ {A = Read (List A)} (record { what = a ∷ x.what; rest = x.rest }) q = cc in
      rw (← z) (ap suc (h x refl))

  first-length : (k : ℕ) (m : Reader (List A)) (o : Option (Read A)) (q : Read (List A)) → ((l : List ℕ) (x : Read (List A)) → m l ≡ Some x → length x.what ≡ k) → follow o (λ a. m >>= λ xs. give (a ∷ xs)) ≡ Some q → length q.what ≡ suc k
  first-length k m None q h f = absurd (let z : ◌≡◌ {A = ℕ} 0 1 = cc in omega arith)
  first-length k m (Some x) q h f = behind-length k x.what (m x.rest) q (h x.rest) f

  pub each-length : (k i : ℕ) (l : List ℕ) (q : Read (List A)) → read_each g k i l ≡ Some q → length q.what ≡ k
  unfolding read_each
  each-length zero i l q e = let z : ◌≡◌ {A = Read (List A)} (record { what = []; rest = l }) q = cc in rw (← z)
  each-length (suc k) i l q e = first-length k (read_each g k (suc i)) (g i l) q (each-length k (suc i)) e

-- ---- where a step ends

module _ {A : Type 0} {m : Reader A} {f : A → List ℕ} {most : ℕ} {text : List ℕ} {at : ℕ} {out : List ℕ} {place : ℕ} {r : Option (ℕ × ℕ)} {out' : List ℕ} (h : Walks m f most text at out place r out') {n p : ℕ} (e : r ≡ Some (n, p)) where
  pub step-inside : n ≤ length text
  step-inside = (rw e at h.inside).0

  pub step-short : p ≤ place + most
  step-short = (rw e at h.inside).1
