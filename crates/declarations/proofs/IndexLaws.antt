-- Laws of index lists over plain variables.
use Rattle.std.specs.Prelude.{Err, Ok, Result}
use Rattle.rules.specs.declared.Refused.{Refused}
use mathlib.Core.Path.{◌≡◌, refl, sym, ◌∙◌, ap, subst}
use mathlib.Core.Bool.{Bool, true, false, ◌&&◌}
use mathlib.Core.List.{List, [], ◌∷◌, ◌++◌}
use Prim.Native.Nat.{ℕ, zero, suc, ◌+◌, ◌-◌, ◌<◌, ◌≤◌}
use native.Mathlib.Omega.{arith}
use lib.Dec.{eqb, ltb}
use lib.ListN.{length, take, set, length-set}
use lib.Seq.{take-suc-set, length-take-le}
use borrow.Author.Tests.{lt-ltb, le-ltb}
use Rattle.rules.specs.declared.Refusal.TheVariants.{Misplaced, Full}
use Rattle.rules.specs.Limits.{index_limit}
use Rattle.lexer.specs.Text.{Token}
use Rattle.lexer.specs.Marks.{comma, closes_list}
use Rattle.language.specs.Outcome.{Outcome, done, refused}
use Rattle.language.proofs.Outcome.{done-injective}
use Rattle.language.specs.Syntax.{Name}
use Rattle.language.specs.Reader.{Reader, Read, follow, ◌>>=◌, give, refuse, require, next, look, is_mark, expect, Used, read_known, is_index, read_index}
use Rattle.language.specs.Declarations.{indices_of}
use Rattle.tokens.specs.declared.Seen.{Seen}
use Rattle.tokens.specs.declared.Known.{Known}
use Rattle.tokens.specs.Stored.{from, Sees, Looks, Named, Knowing, KnownAt, Knows, Moves, Gives, Stands}
use Rattle.tokens.specs.Pieces.{expect_in, index_in}
use Rattle.tokens.proofs.Tables.{index-sort}
use Rattle.tokens.proofs.Moved.{stuck, gives_at, gives-refused, gives_same, gives-stands, gives-map, got, follow-same, next-is, look_is, is-mark, expect-bad, index-yes, prefixed, prefixed-none, prefixed-more, knows-of}
use Rattle.declarations.specs.Readers.{joint_in, indices_in}
use Rattle.declarations.specs.Tables.{IsNumber, IsMore, Numbers, IndicesUpTo}

-- ---- one index

module _ (s ns ts : List ℕ) (at : ℕ) (r : Result Known Refused) (told : KnownAt s ns ts at r) where
  h : Knows s ns ts at r
  h = knows-of s ns ts at r told

  pub number-yes : (w : Known) → r ≡ Ok w → w.sort ≡ 0 → Gives index_in (IsNumber w.number) s ns ts at (Ok w.next)
  unfolding index_in read_index require
  number-yes w e z =
      record {
        moves = record { matches = (index-yes s ns ts at r told w e z).matches };
        tells = λ names d x f. record { number = go (read_known names (from s ts at)) x (subst (Knowing (read_known names (from s ts at)) s ts) e (h.knows names d)) f };
      }
    where
      go : (o : Outcome (Read Used)) (x : Read Used) → Knowing o s ts (Ok w)
          → follow o (λ u. require (is_index u.sort) Misplaced u.place >>= (λ _. give u)) ≡ done x → x.what.number ≡ w.number
      go (done y) x k f = ap (λ (v : Read Used). v.what.number) (sym (done-injective (rw (index-sort y.what.sort w.sort w.count k.2 z) at f))) ∙ k.1
      go (refused n q) x k f = absurd k

-- ---- what stands behind it

joint_turn : Bool → Reader Bool
joint_turn b = elim b as (λ _. Reader Bool) [
  | true ↦ next >>= (λ _. give true)
  | false ↦ expect closes_list >>= (λ _. give false)
]

module _ (s ns ts : List ℕ) (at : ℕ) (t : Result Seen Refused) (l : Looks ts at t) where
  pub joint-wrong : (left : ℕ) (e : Refused) → t ≡ Err e → Moves (joint_in left) s ns ts at (Err e)
  unfolding joint_in joint_turn
  joint-wrong zero z e =
      let u = subst (Sees s ts at) e (l.sees s) in
      (gives-refused (joint_in 0) (IsMore false) s ns ts at z (λ names d. ap (λ o. follow o (λ _. give false)) (expect-bad s ts at closes_list z.refusal z.place u))).moves
  joint-wrong (suc n) z e =
      let u = subst (Sees s ts at) e (l.sees s) in
      (gives-refused (joint_in (suc n)) (IsMore false) s ns ts at z (λ names d. ap (λ o. follow o (λ t. joint_turn (is_mark comma t))) u.looks)).moves

  -- by the sign, where one more is allowed
  joint-by : (left : ℕ) (w : Seen) (v : Bool) (names : List Name) → t ≡ Ok w → (ltb 0 left && eqb w.kind 44) ≡ v → joint_in left names (from s ts at) ≡ joint_turn v (from s ts at)
  unfolding joint_in joint_turn
  joint-by zero w v names e i = ap (λ v. joint_turn v (from s ts at)) (sym (ap (λ b. b && eqb w.kind 44) (le-ltb 0 0 (omega arith))) ∙ i)
  joint-by (suc n) w v names e i =
      ap (λ o. follow o (λ t. joint_turn (is_mark comma t))) (look_is s ts at w (subst (Sees s ts at) e (l.sees s)))
      ∙ ap (λ v. joint_turn v (from s ts at)) (is-mark s 44 w.kind w.place w.payload (omega arith) ∙ sym (ap (λ b. b && eqb w.kind 44) (lt-ltb 0 (suc n) (omega arith))) ∙ i)

  pub joint-comma : (left : ℕ) (w : Seen) → t ≡ Ok w → (ltb 0 left && eqb w.kind 44) ≡ true → Gives (joint_in left) (IsMore true) s ns ts at (Ok w.next)
  unfolding joint_turn
  joint-comma left w e i =
      gives_at (joint_in left) (IsMore true) s ns ts at w.next (λ names d. record {
        what = true;
        reads = joint-by left w true names e i ∙ ap (λ o. follow o (λ _. give true)) (next-is s ts at w (subst (Sees s ts at) e (l.sees s)));
        holds = record { more = refl };
      })

  joint-closes : (left : ℕ) (w : Seen) (r : Result ℕ Refused) → t ≡ Ok w → (ltb 0 left && eqb w.kind 44) ≡ false → Moves (expect_in closes_list) s ns ts at r → Gives (joint_in left) (IsMore false) s ns ts at r
  unfolding joint_turn expect_in
  joint-closes left w r e i h =
      gives_same (joint_in left) (IsMore false) s ns ts at (λ names. joint_turn false) at r (λ names d. joint-by left w false names e i)
      (gives-map (λ names. expect closes_list) (λ names w. Stands (expect closes_list) s ts at w) (λ names _. false) (IsMore false) s ns ts at r
      (gives-stands (λ names. expect closes_list) s ns ts at r (record { matches = h.matches })) (λ names w p. record { more = refl }))

  pub joint-open : (left : ℕ) (w : Seen) (r : Result ℕ Refused) (e : Refused) → t ≡ Ok w → (ltb 0 left && eqb w.kind 44) ≡ false → Moves (expect_in closes_list) s ns ts at r → r ≡ Err e
      → Moves (joint_in left) s ns ts at r
  joint-open left w r z e i h f = (joint-closes left w r e i h).moves

  pub joint-close : (left : ℕ) (w : Seen) (r : Result ℕ Refused) (a : ℕ) → t ≡ Ok w → (ltb 0 left && eqb w.kind 44) ≡ false → Moves (expect_in closes_list) s ns ts at r → r ≡ Ok a
      → Gives (joint_in left) (IsMore false) s ns ts at (Ok a)
  joint-close left w r a e i h f = subst (Gives (joint_in left) (IsMore false) s ns ts at) f (joint-closes left w r e i h)

-- ---- lists

-- at most k indices; with none they are never read
unfoldable pub indices_left : ℕ → List Name → Reader (List ℕ)
indices_left zero names = refuse Full 0
indices_left (suc k) names = indices_of names k

-- behind the index i, with k more allowed
indices_then : ℕ → List Name → ℕ → Bool → Reader (List ℕ)
indices_then k names i b = elim b as (λ _. Reader (List ℕ)) [
  | true ↦ indices_left k names >>= (λ l. give (i ∷ l))
  | false ↦ give (i ∷ [])
]

indices-is : (k : ℕ) (names : List Name) (l : List Token) → indices_of names k l ≡ follow (read_index names l) (λ u. joint_in k names >>= indices_then k names u.number)
unfolding indices_of joint_in indices_then indices_left
indices-is zero names l = follow-same (read_index names l) _ _ (λ u m. go u (expect closes_list m))
  where
    go : (u : Used) (o : Outcome (Read ℕ)) → follow o (λ _. give (u.number ∷ [])) ≡ follow (follow o (λ _. give false)) (indices_then zero names u.number)
    go u (done x) = refl
    go u (refused n p) = refl
indices-is (suc k) names l = follow-same (read_index names l) _ _ (λ u m. go u m (look m))
  where
    more : (u : Used) (o : Outcome (Read Token)) → follow o (λ _. indices_of names k >>= (λ l. give (u.number ∷ l))) ≡ follow (follow o (λ _. give true)) (indices_then (suc k) names u.number)
    more u (done x) = refl
    more u (refused n p) = refl

    last : (u : Used) (o : Outcome (Read ℕ)) → follow o (λ _. give (u.number ∷ [])) ≡ follow (follow o (λ _. give false)) (indices_then (suc k) names u.number)
    last u (done x) = refl
    last u (refused n p) = refl

    turn : (u : Used) (m : List Token) (b : Bool)
        → (elim b as (λ _. Reader (List ℕ)) [ true ↦ next >>= (λ _. indices_of names k >>= (λ l. give (u.number ∷ l))) | false ↦ expect closes_list >>= (λ _. give (u.number ∷ [])) ]) m
        ≡ follow ((elim b as (λ _. Reader Bool) [ true ↦ next >>= (λ _. give true) | false ↦ expect closes_list >>= (λ _. give false) ]) m) (indices_then (suc k) names u.number)
    turn u m true = more u (next m)
    turn u m false = last u (expect closes_list m)

    go : (u : Used) (m : List Token) (o : Outcome (Read Token))
        → follow o (λ t. elim (is_mark comma t) as (λ _. Reader (List ℕ)) [ true ↦ next >>= (λ _. indices_of names k >>= (λ l. give (u.number ∷ l))) | false ↦ expect closes_list >>= (λ _. give (u.number ∷ [])) ])
        ≡ follow (follow o (λ t. elim (is_mark comma t) as (λ _. Reader Bool) [ true ↦ next >>= (λ _. give true) | false ↦ expect closes_list >>= (λ _. give false) ])) (indices_then (suc k) names u.number)
    go u m (done x) = turn u x.rest (is_mark comma x.what)
    go u m (refused n p) = refl

-- what is read from here on, behind the first n numbers of l, is what is read from the start
pub record IndicesOn (s ns ts : List ℕ) (at n a : ℕ) (l : List ℕ) : Type 0 where
  pub on : (names : List Name) → Named s ns names → indices_in names (from s ts at) ≡ prefixed (take n l) (indices_left (4 - n) names (from s ts a))
  pub size : length l ≡ 4

module _ (s ns ts : List ℕ) (at : ℕ) where
  pub indices-start : (l : List ℕ) → length l ≡ 4 → IndicesOn s ns ts at 0 at l
  unfolding indices_in indices_left index_limit
  indices-start l e = record { on = λ names d. prefixed-none (indices_of names 3 (from s ts at)); size = e }

  refused-with : (e : Refused) → ((names : List Name) → Named s ns names → indices_in names (from s ts at) ≡ refused e.refusal e.place) → Moves indices_in s ns ts at (Err e)
  refused-with z g = (gives-refused indices_in (Numbers 0 []) s ns ts at z g).moves

  pub indices-full : (n a : ℕ) (l : List ℕ) → IndicesOn s ns ts at n a l → 4 ≤ n → Moves indices_in s ns ts at (Err (record { refusal = Full; place = 0 }))
  unfolding indices_left prefixed
  indices-full n a l o h =
      let z : 4 - n ≡ 0 = omega arith in
      refused-with (record { refusal = Full; place = 0 }) (λ names d. o.on names d ∙ ap (λ k. prefixed (take n l) (indices_left k names (from s ts a))) z)

  module _ (n a : ℕ) (l : List ℕ) (o : IndicesOn s ns ts at n a l) (m : n < 4) where
    left_is : (names : List Name) → indices_left (4 - n) names (from s ts a) ≡ indices_of names (4 - (n + 1)) (from s ts a)
    unfolding indices_left
    left_is names = let e : 4 - n ≡ suc (4 - (n + 1)) = omega arith in ap (λ k. indices_left k names (from s ts a)) e

    -- one index more
    one : (names : List Name) → Named s ns names
        → indices_in names (from s ts at) ≡ prefixed (take n l) (follow (read_index names (from s ts a)) (λ u. joint_in (4 - (n + 1)) names >>= indices_then (4 - (n + 1)) names u.number))
    one names d = o.on names d ∙ ap (prefixed (take n l)) (left_is names ∙ indices-is (4 - (n + 1)) names (from s ts a))

    pub indices-index : (e : Refused) → Moves index_in s ns ts a (Err e) → Moves indices_in s ns ts at (Err e)
    unfolding index_in prefixed
    indices-index z h =
        refused-with z (λ names d. one names d ∙ ap (λ o. prefixed (take n l) (follow o (λ u. joint_in (4 - (n + 1)) names >>= indices_then (4 - (n + 1)) names u.number))) (stuck index_in s ns ts a (Err z) h names d z refl))

    module _ (i b : ℕ) (h : Gives index_in (IsNumber i) s ns ts a (Ok b)) where
      -- the index is i
      two : (names : List Name) → Named s ns names
          → indices_in names (from s ts at) ≡ prefixed (take n l) (follow (joint_in (4 - (n + 1)) names (from s ts b)) (indices_then (4 - (n + 1)) names i))
      unfolding index_in
      two names d =
          let x = got index_in (IsNumber i) s ns ts a b h names d in
          one names d ∙ ap (λ o. prefixed (take n l) (follow o (λ u. joint_in (4 - (n + 1)) names >>= indices_then (4 - (n + 1)) names u.number))) x.reads
          ∙ ap (λ i. prefixed (take n l) (follow (joint_in (4 - (n + 1)) names (from s ts b)) (indices_then (4 - (n + 1)) names i))) x.holds.number

      pub indices-sign : (e : Refused) → Moves (joint_in (4 - (n + 1))) s ns ts b (Err e) → Moves indices_in s ns ts at (Err e)
      unfolding prefixed
      indices-sign z g =
          refused-with z (λ names d. two names d ∙ ap (λ o. prefixed (take n l) (follow o (indices_then (4 - (n + 1)) names i))) (stuck (joint_in (4 - (n + 1))) s ns ts b (Err z) g names d z refl))

      module _ (more : Bool) (c : ℕ) (g : Gives (joint_in (4 - (n + 1))) (IsMore more) s ns ts b (Ok c)) where
        -- the sign says whether the list goes on
        three : (names : List Name) → Named s ns names → indices_in names (from s ts at) ≡ prefixed (take n l) (indices_then (4 - (n + 1)) names i more (from s ts c))
        three names d =
            let x = got (joint_in (4 - (n + 1))) (IsMore more) s ns ts b c g names d in
            two names d ∙ ap (λ o. prefixed (take n l) (follow o (indices_then (4 - (n + 1)) names i))) x.reads
            ∙ ap (λ v. prefixed (take n l) (indices_then (4 - (n + 1)) names i v (from s ts c))) x.holds.more

        taken : take (n + 1) (set l n i) ≡ take n l ++ (i ∷ [])
        taken =
            let e : n + 1 ≡ suc n = omega arith in
            ap (λ k. take k (set l n i)) e ∙ take-suc-set l n i (omega (arith, o.size))

        pub indices-end : more ≡ false → IndicesUpTo s ns ts at (record { numbers = set l n i; count = n + 1 }) c
        unfolding prefixed indices_then
        indices-end w =
            record {
              gives = gives_at indices_in (Numbers (n + 1) (set l n i)) s ns ts at c (λ names d. record {
                what = take n l ++ (i ∷ []);
                reads = three names d ∙ ap (λ v. prefixed (take n l) (indices_then (4 - (n + 1)) names i v (from s ts c))) w;
                holds = record { numbers = sym taken };
              });
              within = rw (length-set l n i) (omega (arith, o.size));
              sized = length-take-le (n + 1) (set l n i) (rw (length-set l n i) (omega (arith, o.size)));
            }

        pub indices-on : more ≡ true → IndicesOn s ns ts at (n + 1) c (set l n i)
        unfolding indices_then
        indices-on w =
            record {
              on = λ names d.
                  three names d ∙ ap (λ v. prefixed (take n l) (indices_then (4 - (n + 1)) names i v (from s ts c))) w
                  ∙ prefixed-more (take n l) i (indices_left (4 - (n + 1)) names (from s ts c))
                  ∙ ap (λ k. prefixed k (indices_left (4 - (n + 1)) names (from s ts c))) (sym taken);
              size = length-set l n i ∙ o.size;
            }
