-- Laws of names by their numbers: the table resolved, rows, and what a token's number says of the names.
use Rattle.std.specs.Prelude.{Err, Ok, Result, Option, Some, None, slice_get}
use Rattle.rules.specs.declared.Refused.{Refused}
use mathlib.Core.Path.{◌≡◌, refl, sym, ◌∙◌, ap, subst}
use mathlib.Core.Bool.{Bool, true, false, cond}
use mathlib.Core.List.{List, [], ◌∷◌, map}
use Prim.Native.Nat.{ℕ, zero, suc, ◌+◌, ◌-◌, ◌*◌, ◌<◌, ◌≤◌}
use native.Mathlib.Omega.{arith}
use borrow.Author.Tests.{lt-ltb, le-ltb, eq-eqb, ne_eqb, eqb-true, ltb-true, ltb-false}
use lib.Dec.{eqb, ltb}
use lib.ListN.{length, length-set, get_or, set, drop, take, length-map, get_or-eq_default}
use Rattle.rules.specs.Limits.{name_limit}
use Rattle.lexer.specs.Text.{Token, same_bytes}
use Rattle.lexer.specs.Text
use Rattle.language.specs.Syntax.{Name, Sort}
use Rattle.language.specs.Reader.{Used, find}
use Rattle.tokens.specs.declared.Found.{Found}
use Rattle.tokens.specs.declared.Seen.{Seen}
use Rattle.tokens.specs.Stored.{kind_part, place_part, payload_part, name_bytes, spelling, kind_of, token, view, from, Sees, Looks, look_up, Shaped, Named}
use Rattle.tokens.proofs.Tables.{view-here, view-end, declared, not-declared}
use Rattle.tokens.proofs.Moved.{next-is}
use Rattle.onepass.specs.Walk.{used_number, name_number, walk_head}
use Rattle.evaluator.specs.declared.steps.names.Listed.{Listed}
use Rattle.evaluator.specs.Steps.Passing.{Skips}
use Rattle.evaluator.specs.Steps.Names.{number_part, number_found, word_spelling, Resolved, number_kept, resolved_word, Resolves, row_word, listed_of, number_below, index_number, HeadAt, Opens, Heads}

-- ---- a number in a word

pub kept-name : (f : Option Found) (w : Found) → f ≡ Some w → w.number < 64 → (w.number + 1 ≡ number_kept f) × (w.number + 1 ≤ 64)
unfolding number_kept name_limit
kept-name f z e h = let n : z.number + 1 ≡ suc z.number = omega arith in (rw (e, lt-ltb z.number 64 h) n, omega arith)

pub kept-beyond : (f : Option Found) (w : Found) → f ≡ Some w → 64 ≤ w.number → (0 ≡ number_kept f) × (0 ≤ 64)
unfolding number_kept name_limit
kept-beyond f z e h = (rw (e, le-ltb z.number 64 h), omega arith)

pub kept-nothing : (f : Option Found) → f ≡ None → (0 ≡ number_kept f) × (0 ≤ 64)
unfolding number_kept
kept-nothing f e = (rw e, omega arith)

module _ (s ns : List ℕ) (w : ℕ) where
  pub word-other : (kind_part w ≡ 1 → ⊥) → w ≡ resolved_word s ns w
  unfolding resolved_word
  word-other h = rw (ne_eqb (kind_part w) 1 h)

  pub word-name : (kind_part w ≡ 1) → (f : Option Found) → f ≡ look_up s (word_spelling s w) ns 0 → (n : ℕ) → n ≡ number_kept f
      → w - payload_part w + name_bytes (payload_part w) + n * 16 ≡ resolved_word s ns w
  unfolding resolved_word
  word-name h f e n d = rw (eq-eqb (kind_part w) 1 h, ← e, d)

-- parts of a word with a number
kept_small : (f : Option Found) → number_kept f ≤ 64
unfolding number_kept name_limit
kept_small (Some x) = go (ltb x.number 64) refl
  where
    go : (b : Bool) → ltb x.number 64 ≡ b → cond b (suc x.number) 0 ≤ 64
    go true e = omega (arith, ltb-true x.number 64 e)
    go false e = omega arith
kept_small None = omega arith

module _ (w n : ℕ) (h : n ≤ 64) where
  new-kind : kind_part (w - payload_part w + name_bytes (payload_part w) + n * 16) ≡ kind_part w
  new-kind = omega arith

  new-place : place_part (w - payload_part w + name_bytes (payload_part w) + n * 16) ≡ place_part w
  new-place = omega arith

  new-bytes : name_bytes (payload_part (w - payload_part w + name_bytes (payload_part w) + n * 16)) ≡ name_bytes (payload_part w)
  new-bytes = omega arith

  new-number : number_part (w - payload_part w + name_bytes (payload_part w) + n * 16) ≡ n
  new-number = omega arith

-- ---- the table resolved

-- one word keeps its token, and a name's holds its number
token-kept : (t s ns : List ℕ) (w : ℕ) → token t (kind_part (resolved_word s ns w)) (place_part (resolved_word s ns w)) (payload_part (resolved_word s ns w)) ≡ token t (kind_part w) (place_part w) (payload_part w)
unfolding resolved_word token kind_of
token-kept t s ns w = go (eqb (kind_part w) 1) refl
  where
    n : ℕ
    n = number_kept (look_up s (word_spelling s w) ns 0)

    v : ℕ
    v = w - payload_part w + name_bytes (payload_part w) + n * 16

    small : n ≤ 64
    small = kept_small (look_up s (word_spelling s w) ns 0)

    go : (b : Bool) → eqb (kind_part w) 1 ≡ b → token t (kind_part (cond b v w)) (place_part (cond b v w)) (payload_part (cond b v w)) ≡ token t (kind_part w) (place_part w) (payload_part w)
    go true e = rw (new-kind w n small, eqb-true (kind_part w) 1 e, new-place w n small, new-bytes w n small) refl
    go false e = refl

same_view : (t s ns ts : List ℕ) → view t (map (resolved_word s ns) ts) ≡ view t ts
unfolding view
same_view t s ns [] = refl
same_view t s ns (w ∷ ts) = rw (token-kept t s ns w, same_view t s ns ts) refl

drop-map : (f : ℕ → ℕ) (at : ℕ) (l : List ℕ) → drop at (map f l) ≡ map f (drop at l)
drop-map f zero l = refl
drop-map f (suc at) [] = refl
drop-map f (suc at) (w ∷ l) = drop-map f at l

get_d_map : (f : ℕ → ℕ) (l : List ℕ) (at : ℕ) → at < length l → get_or (map f l) at 0 ≡ f (get_or l at 0)
get_d_map f [] at h = absurd (omega arith)
get_d_map f (w ∷ l) zero h = refl
get_d_map f (w ∷ l) (suc at) h = get_d_map f l at (omega arith)

-- a number that the table tells is below the number of its rows
told_below : (s l ns : List ℕ) (i : ℕ) (w : Found) → look_up s l ns i ≡ Some w → w.number * 5 < i * 5 + length ns
unfolding look_up
told_below s l [] i w e = absurd (let z : ◌≡◌ {A = ℕ} 0 1 = cc in omega arith)
told_below s l (a ∷ []) i w e = absurd (let z : ◌≡◌ {A = ℕ} 0 1 = cc in omega arith)
told_below s l (a ∷ b ∷ []) i w e = absurd (let z : ◌≡◌ {A = ℕ} 0 1 = cc in omega arith)
told_below s l (a ∷ b ∷ d ∷ []) i w e = absurd (let z : ◌≡◌ {A = ℕ} 0 1 = cc in omega arith)
told_below s l (a ∷ b ∷ d ∷ f ∷ []) i w e = absurd (let z : ◌≡◌ {A = ℕ} 0 1 = cc in omega arith)
told_below s l (a ∷ b ∷ d ∷ f ∷ q ∷ ns) i z e = go (same_bytes l (spelling s a b)) (told_below s l ns (suc i) z) e
  where
    go : (u : Bool) → (look_up s l ns (suc i) ≡ Some z → z.number * 5 < suc i * 5 + length ns)
        → (elim u as (λ _. Option Found) [ true ↦ Some (record { number = i; sort = d; count = f }) | false ↦ look_up s l ns (suc i) ]) ≡ Some z → z.number * 5 < i * 5 + length (a ∷ b ∷ d ∷ f ∷ q ∷ ns)
    go true g e = let y : ◌≡◌ {A = Found} (record { number = i; sort = d; count = f }) z = cc in omega (arith, ap (λ (w : Found). w.number) y)
    go false g e = omega (arith, g e)

kept-found : (s l ns : List ℕ) → length ns ≤ name_limit * 5 → number_kept (look_up s l ns 0) ≡ number_found (look_up s l ns 0)
unfolding number_kept name_limit
kept-found s l ns h = go (look_up s l ns 0) refl
  where
    go : (f : Option Found) → look_up s l ns 0 ≡ f → number_kept f ≡ number_found f
    go (Some x) e = rw (lt-ltb x.number 64 (omega (arith, told_below s l ns 0 x e)))
    go None e = refl

word_number : (s ns : List ℕ) (w : ℕ) → length ns ≤ name_limit * 5 → kind_part (resolved_word s ns w) ≡ 1
    → number_part (resolved_word s ns w) ≡ number_found (look_up s (word_spelling s (resolved_word s ns w)) ns 0)
unfolding resolved_word
word_number s ns w h = go (eqb (kind_part w) 1) refl
  where
    n : ℕ
    n = number_kept (look_up s (word_spelling s w) ns 0)

    v : ℕ
    v = w - payload_part w + name_bytes (payload_part w) + n * 16

    small : n ≤ 64
    small = kept_small (look_up s (word_spelling s w) ns 0)

    go : (b : Bool) → eqb (kind_part w) 1 ≡ b → kind_part (cond b v w) ≡ 1 → number_part (cond b v w) ≡ number_found (look_up s (word_spelling s (cond b v w)) ns 0)
    go true e k = rw (new-number w n small, new-place w n small, new-bytes w n small) (kept-found s (word_spelling s w) ns h)
    go false e k = absurd (let z : ◌≡◌ {A = Bool} true false = sym (eq-eqb (kind_part w) 1 k) ∙ e in let y : ◌≡◌ {A = ℕ} 0 1 = cc in omega arith)

pub map-resolves : (s ns ts : List ℕ) → Resolves s ns ts (map (resolved_word s ns) ts)
unfolding from
map-resolves s ns ts =
    record {
      size = length-map ts (resolved_word s ns);
      same = λ t at. ap (view t) (drop-map (resolved_word s ns) at ts) ∙ same_view t s ns (drop at ts);
      resolved = λ h. record {
        numbers = λ at b k.
            let e = get_d_map (resolved_word s ns) ts at (omega (arith, length-map ts (resolved_word s ns))) in
            subst (λ w. number_part w ≡ number_found (look_up s (word_spelling s w) ns 0)) (sym e) (word_number s ns (get_or ts at 0) h (sym (ap kind_part e) ∙ k));
      };
    }

-- the words from the i-th on are still to be resolved
abbrev map_from : (ℕ → ℕ) → ℕ → List ℕ → List ℕ
map_from f zero l = map f l
map_from f (suc i) [] = []
map_from f (suc i) (w ∷ l) = w ∷ map_from f i l

map_from-step : (f : ℕ → ℕ) (i : ℕ) (l : List ℕ) → i < length l → map_from f i l ≡ map_from f (suc i) (set l i (f (get_or l i 0)))
map_from-step f i [] h = absurd (omega arith)
map_from-step f zero (w ∷ l) h = refl
map_from-step f (suc i) (w ∷ l) h = ap (λ m. w ∷ m) (map_from-step f i l (omega arith))

map_from-end : (f : ℕ → ℕ) (i : ℕ) (l : List ℕ) → length l ≤ i → map_from f i l ≡ l
map_from-end f zero [] h = refl
map_from-end f zero (w ∷ l) h = absurd (omega arith)
map_from-end f (suc i) [] h = refl
map_from-end f (suc i) (w ∷ l) h = ap (λ m. w ∷ m) (map_from-end f i l (omega arith))

pub record Resolving (s ns ts : List ℕ) (i : ℕ) (us : List ℕ) : Type 0 where
  pub left : map_from (resolved_word s ns) i us ≡ map (resolved_word s ns) ts
  pub size : length us ≡ length ts

pub resolving-start : (s ns ts : List ℕ) → Resolving s ns ts 0 ts
resolving-start s ns ts = record { left = refl; size = refl }

pub resolving-more : (s ns ts us : List ℕ) (i w : ℕ) → Resolving s ns ts i us → i < length ts → w ≡ resolved_word s ns (get_or us i 0) → Resolving s ns ts (i + 1) (set us i w)
resolving-more s ns ts us i w r h e =
    let n : i + 1 ≡ suc i = omega arith in
    record { left = rw (n, e) (sym (map_from-step (resolved_word s ns) i us (omega (arith, r.size))) ∙ r.left); size = simp length-set r.size }

pub resolving-end : (s ns ts us : List ℕ) (i : ℕ) → Resolving s ns ts i us → length ts ≤ i → us ≡ map (resolved_word s ns) ts
resolving-end s ns ts us i r h = sym (map_from-end (resolved_word s ns) i us (omega (arith, r.size))) ∙ r.left

-- ---- rows

pub number_past : (ts : List ℕ) (at : ℕ) → length ts ≤ at → 0 ≡ number_part (get_or ts at 0)
number_past ts at h = rw (get_or-eq_default ts 0 {n = at} h) refl

pub row_here : (ns : List ℕ) (i f : ℕ) → get_or ns (i * 5 + f) 0 ≡ row_word ns i f
unfolding row_word
row_here ns i f = refl

pub row-past : (ns : List ℕ) (i f : ℕ) → length ns ≤ i * 5 + f → 0 ≡ row_word ns i f
unfolding row_word
row-past ns i f h = sym (get_or-eq_default ns 0 {n = i * 5 + f} h)

pub row-beyond : (ns : List ℕ) (i f : ℕ) → length ns ≤ i → 0 ≡ row_word ns i f
row-beyond ns i f h = row-past ns i f (omega arith)

pub row-wide : (ns : List ℕ) (i f : ℕ) → length ns ≤ f → 0 ≡ row_word ns i f
row-wide ns i f h = row-past ns i f (omega arith)

module _ (ns : List ℕ) (n x : ℕ) (h : n ≡ x) where
  pub listed-none : n ≡ 0 → None ≡ listed_of ns x
  unfolding listed_of
  listed-none e = rw (← h, e) refl

  pub listed-name : (n ≡ 0 → ⊥) → (k c q : ℕ) → k ≡ row_word ns (n - 1) 2 → c ≡ row_word ns (n - 1) 3 → q ≡ row_word ns (n - 1) 4 → Some (record { number = (n - 1); sort = k; count = c; start = q }) ≡ listed_of ns x
  unfolding listed_of
  listed-name z k c q e f g = let d : suc (n - 1) ≡ x = omega arith in rw (← d, e, f, g) refl

-- ---- the number of an index

pub index-past : (ts : List ℕ) (level at : ℕ) → length ts ≤ at → 0 ≡ index_number level (get_or ts at 0)
unfolding index_number
index-past ts level at h = rw (get_or-eq_default ts 0 {n = at} h) refl

module _ (level w : ℕ) where
  pub index-other : (kind_part w ≡ 1 → ⊥) → 0 ≡ index_number level w
  unfolding index_number
  index-other h = rw (ne_eqb (kind_part w) 1 h)

  module _ (k : kind_part w ≡ 1) (n : ℕ) (h : n ≡ number_part w) where
    index_is : number_below level n ≡ index_number level w
    unfolding index_number
    index_is = rw (eq-eqb (kind_part w) 1 k, h)

    pub index-none : n ≡ 0 → 0 ≡ index_number level w
    unfolding number_below
    index-none e = rw (← index_is, e) refl

    below_at : (n ≡ 0 → ⊥) → number_below level n ≡ number_below level (suc (n - 1))
    below_at z = let e : suc (n - 1) ≡ n = omega arith in rw e refl

    pub index-late : (n ≡ 0 → ⊥) → level ≤ n - 1 → 0 ≡ index_number level w
    unfolding number_below
    index-late z l = sym (sym index_is ∙ below_at z ∙ rw (le-ltb (n - 1) level l) refl)

    pub index-name : (n ≡ 0 → ⊥) → n - 1 < level → n - 1 ≡ index_number level w
    unfolding number_below
    index-name z l = sym (sym index_is ∙ below_at z ∙ rw (lt-ltb (n - 1) level l) refl)

-- ---- what a token's number says of the names

-- the names that are found from number i on, and among the first `level`
module _ (l : List ℕ) (p : ℕ) where
  found_after : (names : List Name) (i : ℕ) (u : Used) → find l names i p ≡ Some u → i ≤ u.number
  unfolding find
  found_after [] i u e = absurd (let z : ◌≡◌ {A = ℕ} 0 1 = cc in omega arith)
  found_after (x ∷ xs) i u e = go (same_bytes l x.spelling) (found_after xs (suc i) u) e
    where
      go : (b : Bool) → (find l xs (suc i) p ≡ Some u → suc i ≤ u.number)
          → (elim b as (λ _. Option Used) [ true ↦ Some (record { number = i; sort = x.sort; place = p }) | false ↦ find l xs (suc i) p ]) ≡ Some u → i ≤ u.number
      go true f e = let v : ◌≡◌ {A = Used} (record { number = i; sort = x.sort; place = p }) u = cc in omega (arith, ap (λ (u : Used). u.number) v)
      go false f e = omega (arith, f e)

  pub found_first : (names : List Name) (i level : ℕ) (u : Used) → find l names i p ≡ Some u → u.number < i + level → find l (take level names) i p ≡ Some u
  unfolding find
  found_first [] i zero u e h = e
  found_first [] i (suc level) u e h = e
  found_first (x ∷ xs) i zero u e h = absurd (omega (arith, found_after (x ∷ xs) i u e))
  found_first (x ∷ xs) i (suc level) u e h = go (same_bytes l x.spelling) (λ f. found_first xs (suc i) level u f (omega arith)) e
    where
      go : (b : Bool) → (find l xs (suc i) p ≡ Some u → find l (take level xs) (suc i) p ≡ Some u)
          → (elim b as (λ _. Option Used) [ true ↦ Some (record { number = i; sort = x.sort; place = p }) | false ↦ find l xs (suc i) p ]) ≡ Some u
          → (elim b as (λ _. Option Used) [ true ↦ Some (record { number = i; sort = x.sort; place = p }) | false ↦ find l (take level xs) (suc i) p ]) ≡ Some u
      go true f e = e
      go false f e = f e

  pub found-late : (names : List Name) (i level : ℕ) (u : Used) → find l names i p ≡ Some u → i + level ≤ u.number → find l (take level names) i p ≡ None
  unfolding find
  found-late [] i zero u e h = refl
  found-late [] i (suc level) u e h = refl
  found-late (x ∷ xs) i zero u e h = refl
  found-late (x ∷ xs) i (suc level) u e h = go (same_bytes l x.spelling) (λ f. found-late xs (suc i) level u f (omega arith)) e
    where
      go : (b : Bool) → (find l xs (suc i) p ≡ Some u → find l (take level xs) (suc i) p ≡ None)
          → (elim b as (λ _. Option Used) [ true ↦ Some (record { number = i; sort = x.sort; place = p }) | false ↦ find l xs (suc i) p ]) ≡ Some u
          → ◌≡◌ {A = Option Used} (elim b as (λ _. Option Used) [ true ↦ Some (record { number = i; sort = x.sort; place = p }) | false ↦ find l (take level xs) (suc i) p ]) None
      go true f e = absurd (let v : ◌≡◌ {A = Used} (record { number = i; sort = x.sort; place = p }) u = cc in omega (arith, ap (λ (u : Used). u.number) v))
      go false f e = f e

  pub found_none : (names : List Name) (i level : ℕ) → find l names i p ≡ None → find l (take level names) i p ≡ None
  unfolding find
  found_none [] i zero e = refl
  found_none [] i (suc level) e = refl
  found_none (x ∷ xs) i zero e = refl
  found_none (x ∷ xs) i (suc level) e = go (same_bytes l x.spelling) (found_none xs (suc i) level) e
    where
      go : (b : Bool) → (find l xs (suc i) p ≡ None → find l (take level xs) (suc i) p ≡ None)
          → ◌≡◌ {A = Option Used} (elim b as (λ _. Option Used) [ true ↦ Some (record { number = i; sort = x.sort; place = p }) | false ↦ find l xs (suc i) p ]) None
          → ◌≡◌ {A = Option Used} (elim b as (λ _. Option Used) [ true ↦ Some (record { number = i; sort = x.sort; place = p }) | false ↦ find l (take level xs) (suc i) p ]) None
      go true f e = absurd (let z : ◌≡◌ {A = ℕ} 0 1 = cc in omega arith)
      go false f e = f e

-- a name found is the one of its number, with its sort
pub record Numbered (names : List Name) (i : ℕ) (u : Used) : Type 0 where
  pub name : Name
  pub ahead : ℕ
  pub stands : slice_get names ahead ≡ Some name
  pub numbered : u.number ≡ i + ahead
  pub sorted : u.sort ≡ name.sort

pub found-numbered : (l : List ℕ) (p : ℕ) (names : List Name) (i : ℕ) (u : Used) → find l names i p ≡ Some u → Numbered names i u
unfolding find
found-numbered l p [] i u e = absurd (let z : ◌≡◌ {A = ℕ} 0 1 = cc in omega arith)
found-numbered l p (x ∷ xs) i u e = go (same_bytes l x.spelling) (found-numbered l p xs (suc i) u) e
  where
    go : (b : Bool) → (find l xs (suc i) p ≡ Some u → Numbered xs (suc i) u)
        → (elim b as (λ _. Option Used) [ true ↦ Some (record { number = i; sort = x.sort; place = p }) | false ↦ find l xs (suc i) p ]) ≡ Some u → Numbered (x ∷ xs) i u
    go true f e =
        let v : ◌≡◌ {A = Used} (record { number = i; sort = x.sort; place = p }) u = cc in
        record { name = x; ahead = 0; stands = refl; numbered = omega (arith, ap (λ (u : Used). u.number) v); sorted = sym (ap (λ (u : Used). u.sort) v) }
    go false f e =
        let r = f e in
        record { name = r.name; ahead = suc r.ahead; stands = r.stands; numbered = omega (arith, r.numbered); sorted = r.sorted }

-- the row of a name tells its sort
pub row-shaped : (s ns : List ℕ) (names : List Name) (i : ℕ) (x : Name) → Named s ns names → slice_get names i ≡ Some x → Shaped x.sort (row_word ns i 2) (row_word ns i 3)
unfolding row_word
row-shaped s [] [] i x h e = absurd (let z : ◌≡◌ {A = ℕ} 0 1 = cc in omega arith)
row-shaped s [] (y ∷ ys) i x h e = absurd h
row-shaped s (a ∷ []) ys i x h e = absurd h
row-shaped s (a ∷ b ∷ []) ys i x h e = absurd h
row-shaped s (a ∷ b ∷ k ∷ []) ys i x h e = absurd h
row-shaped s (a ∷ b ∷ k ∷ c ∷ []) ys i x h e = absurd h
row-shaped s (a ∷ b ∷ k ∷ c ∷ q ∷ ns) [] i x h e = absurd h
row-shaped s (a ∷ b ∷ k ∷ c ∷ q ∷ ns) (y ∷ ys) zero x h e = let d : y ≡ x = cc in subst (λ (x : Name). Shaped x.sort k c) d h.1
row-shaped s (a ∷ b ∷ k ∷ c ∷ q ∷ ns) (y ∷ ys) (suc i) x h e =
    let m : suc i * 5 + 2 ≡ suc (suc (suc (suc (suc (i * 5 + 2))))) = omega arith in
    let n : suc i * 5 + 3 ≡ suc (suc (suc (suc (suc (i * 5 + 3))))) = omega arith in
    rw (m, n) (row-shaped s ns ys i x h.2 e)

used-is : (u : Used) (n : ℕ) (x : Sort) (p : ℕ) → u.number ≡ n → u.sort ≡ x → u.place ≡ p → u ≡ record { number = n; sort = x; place = p }
used-is u n x p e f g = rw (← e, ← f, ← g) refl

-- a name of the table: which one it is, and where it is found
pub record Known (l : List ℕ) (names : List Name) (p i : ℕ) : Type 0 where
  pub name : Name
  pub stands : slice_get names i ≡ Some name
  pub found : (level : ℕ) → i < level → find l (take level names) 0 p ≡ Some (record { number = i; sort = name.sort; place = p })
  pub late : (level : ℕ) → level ≤ i → find l (take level names) 0 p ≡ None

module _ (s l ns : List ℕ) (names : List Name) (p : ℕ) (d : Named s ns names) where
  told_none : 0 ≡ number_found (look_up s l ns 0) → (level : ℕ) → find l (take level names) 0 p ≡ None
  told_none e level = go (look_up s l ns 0) refl e
    where
      go : (f : Option Found) → look_up s l ns 0 ≡ f → 0 ≡ number_found f → find l (take level names) 0 p ≡ None
      go (Some x) h e = absurd (omega arith)
      go None h e = found_none l p names 0 level (not-declared s l ns names 0 p d h)

  told-known : (i : ℕ) → suc i ≡ number_found (look_up s l ns 0) → Known l names p i
  told-known i e = go (look_up s l ns 0) refl e
    where
      go : (f : Option Found) → look_up s l ns 0 ≡ f → suc i ≡ number_found f → Known l names p i
      go (Some x) h e =
          let u = declared s l ns names 0 p x d h in
          let n : u.used.number ≡ i = omega (arith, u.numbered) in
          let r = found-numbered l p names 0 u.used u.stands in
          let m : i ≡ r.ahead = omega (arith, r.numbered) in
          let g = used-is u.used i r.name.sort p n r.sorted u.placed in
          record {
            name = r.name;
            stands = subst (λ m. slice_get names m ≡ Some r.name) (sym m) r.stands;
            found = λ level b. found_first l p names 0 level u.used u.stands (omega arith) ∙ ap Some g;
            late = λ level b. found-late l p names 0 level u.used u.stands (omega arith);
          }
      go None h e = absurd (omega arith)

kind-name : (s : List ℕ) (k p x : ℕ) (l : List ℕ) → kind_of s k p x ≡ Text.name l → (k ≡ 1) × (spelling s p (name_bytes x) ≡ l)
unfolding kind_of
kind-name s zero p x l e = absurd (let z : ◌≡◌ {A = ℕ} 0 1 = cc in omega arith)
kind-name s (suc zero) p x l e = (refl, cc)
kind-name s (suc (suc zero)) p x l e = absurd (let z : ◌≡◌ {A = ℕ} 0 1 = cc in omega arith)
kind-name s (suc (suc (suc zero))) p x l e = absurd (let z : ◌≡◌ {A = ℕ} 0 1 = cc in omega arith)
kind-name s (suc (suc (suc (suc zero)))) p x l e = absurd (let z : ◌≡◌ {A = ℕ} 0 1 = cc in omega arith)
kind-name s (suc (suc (suc (suc (suc zero))))) p x l e = absurd (let z : ◌≡◌ {A = ℕ} 0 1 = cc in omega arith)
kind-name s (suc (suc (suc (suc (suc (suc k)))))) p x l e = absurd (let z : ◌≡◌ {A = ℕ} 0 1 = cc in omega arith)

-- the word of a token that was seen
seen-word : (s ts : List ℕ) (at : ℕ) (w : Seen) → Sees s ts at (Ok w)
    → (at < length ts) × (token s w.kind w.place w.payload ≡ token s (kind_part (get_or ts at 0)) (place_part (get_or ts at 0)) (payload_part (get_or ts at 0)))
unfolding from
seen-word s ts at w h = go (ltb at (length ts)) refl
  where
    go : (b : Bool) → ltb at (length ts) ≡ b → (at < length ts) × (token s w.kind w.place w.payload ≡ token s (kind_part (get_or ts at 0)) (place_part (get_or ts at 0)) (payload_part (get_or ts at 0)))
    go true e = let b = ltb-true at (length ts) e in let v = view-here s ts at b in (b, cc h.1)
    go false e = absurd (let v = view-end s ts at (ltb-false at (length ts) e) in let z : ◌≡◌ {A = ℕ} 0 1 = cc h.1 in omega arith)

module _ (s ns ts : List ℕ) (names : List Name) (d : Named s ns names) (r : Resolved s ns ts) where
  -- of a name token
  module _ (at : ℕ) (y : Seen) (t : Result Seen Refused) (h : Looks ts at t) (e : t ≡ Ok y) (one : y.kind ≡ 1) (v : Option Listed) (g : v ≡ listed_of ns (number_part (get_or ts at 0))) where
    spelled : number_part (get_or ts at 0) ≡ number_found (look_up s (spelling s y.place (name_bytes y.payload)) ns 0)
    unfolding token kind_of
    spelled =
        let w = get_or ts at 0 in
        let (b, f) = seen-word s ts at y (subst (Sees s ts at) e (h.sees s)) in
        let q : y.place ≡ place_part w = ap (λ (t : Token). t.place) f in
        let n = kind-name s (kind_part w) (place_part w) (payload_part w) (spelling s y.place (name_bytes y.payload)) (sym (ap (λ (t : Token). t.kind) f) ∙ rw one refl) in
        r.numbers at b n.0 ∙ ap (λ l. number_found (look_up s l ns 0)) n.1

    pub unknown : v ≡ None → (level : ℕ) → find (spelling s y.place (name_bytes y.payload)) (take level names) 0 y.place ≡ None
    unfolding listed_of
    unknown f level = go (number_part (get_or ts at 0)) spelled (sym g ∙ f)
      where
        go : (n : ℕ) → n ≡ number_found (look_up s (spelling s y.place (name_bytes y.payload)) ns 0) → listed_of ns n ≡ None → find (spelling s y.place (name_bytes y.payload)) (take level names) 0 y.place ≡ None
        go zero n f = told_none s (spelling s y.place (name_bytes y.payload)) ns names y.place d n level
        go (suc i) n f = absurd (let z : ◌≡◌ {A = ℕ} 0 1 = cc in omega arith)

    pub known : (w : Listed) → v ≡ Some w → Known (spelling s y.place (name_bytes y.payload)) names y.place w.number
    unfolding listed_of
    known w f = go (number_part (get_or ts at 0)) spelled (sym g ∙ f)
      where
        go : (n : ℕ) → n ≡ number_found (look_up s (spelling s y.place (name_bytes y.payload)) ns 0) → listed_of ns n ≡ Some w → Known (spelling s y.place (name_bytes y.payload)) names y.place w.number
        go zero n f = absurd (let z : ◌≡◌ {A = ℕ} 0 1 = cc in omega arith)
        go (suc m) n f = let z : ◌≡◌ {A = Listed} (record { number = m; sort = row_word ns m 2; count = row_word ns m 3; start = row_word ns m 4 }) w = cc in let e : m ≡ w.number = ap (λ (w : Listed). w.number) z in subst (Known (spelling s y.place (name_bytes y.payload)) names y.place) e (told-known s (spelling s y.place (name_bytes y.payload)) ns names y.place d m n)

    -- its row
    pub row-of : (w : Listed) → v ≡ Some w → (w.sort ≡ row_word ns w.number 2) × (w.count ≡ row_word ns w.number 3) × (w.start ≡ row_word ns w.number 4)
    unfolding listed_of
    row-of w f = go (number_part (get_or ts at 0)) (sym g ∙ f)
      where
        go : (n : ℕ) → listed_of ns n ≡ Some w → (w.sort ≡ row_word ns w.number 2) × (w.count ≡ row_word ns w.number 3) × (w.start ≡ row_word ns w.number 4)
        go zero f = absurd (let z : ◌≡◌ {A = ℕ} 0 1 = cc in omega arith)
        go (suc m) f = let y : ◌≡◌ {A = Listed} (record { number = m; sort = row_word ns m 2; count = row_word ns m 3; start = row_word ns m 4 }) w = cc in subst (λ (w : Listed). (w.sort ≡ row_word ns w.number 2) × (w.count ≡ row_word ns w.number 3) × (w.start ≡ row_word ns w.number 4)) y (refl, refl, refl)

  -- an index's number, of any token
  word-index : (level w : ℕ) → (kind_part w ≡ 1 → number_part w ≡ number_found (look_up s (word_spelling s w) ns 0))
      → name_number (take level names) (kind_of s (kind_part w) (place_part w) (payload_part w)) ≡ index_number level w
  unfolding name_number kind_of index_number number_below
  word-index level w h = go (kind_part w) h
    where
      by : (n : ℕ) → n ≡ number_found (look_up s (word_spelling s w) ns 0) → used_number (find (word_spelling s w) (take level names) 0 0) ≡ number_below level n
      by zero e = rw (told_none s (word_spelling s w) ns names 0 d e level) refl
      by (suc i) e = pick (ltb i level) refl
        where
          pick : (b : Bool) → ltb i level ≡ b → used_number (find (word_spelling s w) (take level names) 0 0) ≡ number_below level (suc i)
          pick true b = rw ((told-known s (word_spelling s w) ns names 0 d i e).found level (ltb-true i level b), b) refl
          pick false b = rw ((told-known s (word_spelling s w) ns names 0 d i e).late level (ltb-false i level b), b) refl

      go : (k : ℕ) → (k ≡ 1 → number_part w ≡ number_found (look_up s (word_spelling s w) ns 0))
          → name_number (take level names) (kind_of s k (place_part w) (payload_part w)) ≡ cond (eqb k 1) (number_below level (number_part w)) 0
      go zero h = refl
      go (suc zero) h = by (number_part w) (h refl)
      go (suc (suc zero)) h = refl
      go (suc (suc (suc zero))) h = refl
      go (suc (suc (suc (suc zero)))) h = refl
      go (suc (suc (suc (suc (suc zero))))) h = refl
      go (suc (suc (suc (suc (suc (suc k)))))) h = rw (ne_eqb (suc (suc (suc (suc (suc (suc k)))))) 1 (λ e. omega arith)) refl

  pub index_of : (level at : ℕ) (w : Seen) → Sees s ts at (Ok w) → name_number (take level names) (token s w.kind w.place w.payload).kind ≡ index_number level (get_or ts at 0)
  unfolding token
  index_of level at z h =
      let (b, f) = seen-word s ts at z h in
      ap (λ (t : Token). name_number (take level names) t.kind) f ∙ word-index level (get_or ts at 0) (r.numbers at b)

-- ---- `(`, an index and a comma

module _ (ts : List ℕ) (level at a : ℕ) (t : Result Seen Refused) (f : Skips ts at a) (h : Looks ts a t) where
  pub heads-wrong : (e : Refused) → t ≡ Err e → Opens ts level at (Err e)
  heads-wrong z e = record { behind = a; skips = f; token = t; looks = h; answer = rw e (refl, refl) }

  pub heads-index : (w : Seen) (c i : ℕ) → t ≡ Ok w → i ≡ index_number level (get_or ts a 0) → Skips ts w.next c → Opens ts level at (Ok (i, c))
  heads-index z c i e j g = record { behind = a; skips = f; token = t; looks = h; answer = rw e (j, g) }

-- of resolved tokens
pub heads-of : (ts : List ℕ) (level at : ℕ) (r : Result (ℕ × ℕ) Refused) → Opens ts level at r → Heads ts level at r
unfolding walk_head
heads-of ts level at r o = go o.behind o.token r o.skips o.looks o.answer
  where
    go : (a : ℕ) (t : Result Seen Refused) (r : Result (ℕ × ℕ) Refused) → Skips ts at a → Looks ts a t → HeadAt ts level a t r → Heads ts level at r
    go a (Ok t) (Ok (i, c)) f h g =
        record { is = λ s ns names d r. rw (f.is s, next-is s ts a t (h.sees s), g.1.is s, index_of s ns ts names d r level a t (h.sees s), g.0) refl }
    go a (Ok t) (Err e) f h g = absurd g
    go a (Err e) (Ok (i, c)) f h g = absurd g
    go a (Err e) (Err w) f h g = record { is = λ s ns names d r. rw (f.is s, (h.sees s).nexts, g.0, g.1) refl }
