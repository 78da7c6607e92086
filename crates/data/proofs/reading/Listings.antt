-- Laws of a portion's entries, its order and its head over plain variables.
use Rattle.std.specs.Prelude.{Err, Ok, Result}
use Rattle.rules.specs.declared.Refused.{Refused}
use mathlib.Core.Path.{◌≡◌, refl, sym, ◌∙◌, ap, subst}
use mathlib.Core.Bool.{Bool, true, false, ◌&&◌}
use mathlib.Core.List.{List, [], ◌∷◌, ◌++◌, append-nil}
use Prim.Native.Nat.{ℕ, zero, suc, ◌+◌, ◌-◌, ◌<◌, ◌≤◌}
use native.Mathlib.Omega.{arith}
use borrow.Author.Tests.{eqb-true, eq-eqb, ne_eqb}
use lib.Dec.{eqb}
use lib.ListN.{length, length-append}
use Rattle.rules.specs.declared.Refusal.TheVariants.{Misplaced, Full, BadIndex}
use Rattle.rules.specs.Limits.{byte_limit, nesting_limit}
use Rattle.lexer.specs.Marks.{comma, opens, opens_list, closes, closes_list}
use Rattle.lexer.specs.Text.{Token}
use Rattle.language.specs.Outcome.{Outcome, done, refused}
use Rattle.language.specs.Syntax.{Name}
use Rattle.language.specs.Reader.{Reader, Read, follow, give, next, look, is_mark, require, expect, bracket, Used, read_index}
use Rattle.language.specs.Data.{read_entry, marks_of, no_repeats, all_in, rearranges, positions_of, order_from, read_order}
use Rattle.tokens.specs.declared.Seen.{Seen}
use Rattle.tokens.specs.Stored.{token, from, mark_number, Sees, Looks, Named, Moves}
use Rattle.tokens.specs.Pieces.{expect_in, bracket_in}
use Rattle.tokens.proofs.Tables.{false-true, mark-of, mark-same}
use Rattle.tokens.proofs.Moved.{next-is, look_is, expect-is, expect-not, stood, stuck, prefixed, prefixed-none, prefixed-more}
use Rattle.data.specs.declared.reading.few.Few.{Few}
use Rattle.store.specs.Few.{one_more}
use Rattle.store.proofs.Fews.{more-room}
use Rattle.data.specs.declared.reading.entries.Entry.{Entry as Held}
use Rattle.data.specs.declared.reading.entries.Entries.{Entries}
use Rattle.data.specs.declared.reading.heads.Plan.{Plan}
use Rattle.data.specs.Reading.Few.{numbers_of, Holds, Keeps, Adds, rearranges_kept}
use Rattle.data.specs.Reading.Entries.{entry_of, entries_of}
use Rattle.data.specs.Reading.Readers.{Answers, leaves, indexed, index_in, entered}
use Rattle.data.specs.Reading.Lists.{item_in, separator_of, list_in, Lists, OrderIs, Ordered, ordered, bracketed_in, optional_in, Orders, order_in, rest_in, head_in, planned, Heads}
use Rattle.data.proofs.reading.Lists.{holds-keeps, adds-keeps, rearranges-is}
use Rattle.data.proofs.reading.Marks.{entries-few, marks-length}

-- ---- an entry and the sign behind it

module _ (s ns ts : List ℕ) (at c : ℕ) (r : Result (Held × ℕ) Refused) (h : Answers entered read_entry s ns ts at r) where
  pub item-wrong : (e : Refused) → r ≡ Err e → Answers entered (item_in c) s ns ts at r
  unfolding item_in
  item-wrong z e = record { is = λ names d. rw (h.is names d, e) refl }

  pub item-yes : (x : Held) (a b : ℕ) (q : Result ℕ Refused) → r ≡ Ok (x, a) → Moves (expect_in c) s ns ts a q → q ≡ Ok b → Answers entered (item_in c) s ns ts at (Ok (x, b))
  unfolding item_in expect_in
  item-yes x a b q e g i = record { is = λ names d. rw (h.is names d, e, (stood (expect_in c) s ns ts a q g names d b i).reads) refl }

  pub item-no : (x : Held) (a : ℕ) (e : Refused) (q : Result ℕ Refused) → r ≡ Ok (x, a) → Moves (expect_in c) s ns ts a q → q ≡ Err e → Answers entered (item_in c) s ns ts at (Err e)
  unfolding item_in expect_in
  item-no x a z q e g i = record { is = λ names d. rw (h.is names d, e, stuck (expect_in c) s ns ts a q g names d z i) refl }

pub separator-last : (left : ℕ) → left ≡ 1 → closes_list ≡ separator_of left
unfolding separator_of
separator-last left e = rw e refl

pub separator-more : (left : ℕ) → (left ≡ 1 → ⊥) → comma ≡ separator_of left
unfolding separator_of
separator-more zero e = refl
separator-more (suc zero) e = absurd (e refl)
separator-more (suc (suc n)) e = refl

-- ---- entries

-- the entries so far, and as many more as are left
pub record Listing (s ns ts : List ℕ) (at n : ℕ) (e : Entries) (a left : ℕ) : Type 0 where
  pub is : (names : List Name) → Named s ns names → n ≤ 4 → (length (entries_of e) + left ≡ n) × (list_in n names (from s ts at) ≡ prefixed (entries_of e) (list_in left names (from s ts a)))

module _ (s ns ts : List ℕ) (at n : ℕ) where
  pub listing_start : (e : Entries) → entries_of e ≡ [] → Listing s ns ts at n e at n
  listing_start e i = record { is = λ names d h. rw i (omega arith, prefixed-none (list_in n names (from s ts at))) }

  pub listing-end : (e : Entries) (a left : ℕ) → Listing s ns ts at n e a left → left ≤ 0 → Lists s ns ts at n (Ok (e, a))
  unfolding list_in prefixed
  listing-end e a left l h = record { is = λ names d g. (l.is names d g).1 ∙ go left h names }
    where
      go : (k : ℕ) → k ≤ 0 → (names : List Name) → prefixed (entries_of e) (list_in k names (from s ts a)) ≡ leaves (entries_of e) s ts a
      go zero h names = ap (λ m. leaves m s ts a) (append-nil (entries_of e))
      go (suc k) h names = absurd (omega arith)

  module _ (e : Entries) (a left c : ℕ) (q : Result (Held × ℕ) Refused) (l : Listing s ns ts at n e a left) (h : 0 < left) (i : c ≡ separator_of (left - 1 + 1)) (g : Answers entered (item_in c) s ns ts a q) where
    item-is : (names : List Name) → Named s ns names → item_in (separator_of left) names (from s ts a) ≡ entered s ts q
    item-is names d =
        let y : left - 1 + 1 ≡ left = omega arith in
        subst (λ c. item_in c names (from s ts a) ≡ entered s ts q) (i ∙ ap separator_of y) (g.is names d)

    pub listing-wrong : (e : Refused) → q ≡ Err e → Lists s ns ts at n (Err e)
    unfolding list_in prefixed
    listing-wrong z j = record { is = λ names d f. (l.is names d f).1 ∙ go left h (λ names d. item-is names d) names d }
      where
        go : (k : ℕ) → 0 < k → ((names : List Name) → Named s ns names → item_in (separator_of k) names (from s ts a) ≡ entered s ts q) → (names : List Name) → Named s ns names
            → prefixed (entries_of e) (list_in k names (from s ts a)) ≡ refused z.refusal z.place
        go zero h f names d = absurd (omega arith)
        go (suc k) h f names d = rw (f names d, j) refl

    pub listing-on : (x : Held) (b : ℕ) (e' : Entries) → q ≡ Ok (x, b) → entries_of e' ≡ one_more (entries_of e) (entry_of x) → Listing s ns ts at n e' b (left - 1)
    unfolding list_in
    listing-on x b e' j w =
        record {
          is = λ names d f.
              let (count, same) = l.is names d f in
              let grown : entries_of e' ≡ entries_of e ++ (entry_of x ∷ []) = w ∙ more-room (entries_of e) (entry_of x) (omega arith) in
              let longer : length (entries_of e ++ (entry_of x ∷ [])) ≡ length (entries_of e) + 1 = length-append (entries_of e) (entry_of x ∷ []) in
              (rw grown (omega arith), same ∙ go left h (λ names d. item-is names d) names d ∙ ap (λ m. prefixed m (list_in (left - 1) names (from s ts b))) (sym grown));
        }
      where
        go : (k : ℕ) → 0 < k → ((names : List Name) → Named s ns names → item_in (separator_of k) names (from s ts a) ≡ entered s ts q) → (names : List Name) → Named s ns names
            → prefixed (entries_of e) (list_in k names (from s ts a)) ≡ prefixed (entries_of e ++ (entry_of x ∷ [])) (list_in (k - 1) names (from s ts b))
        go zero h f names d = absurd (omega arith)
        go (suc k) h f names d =
            let z : suc k - 1 ≡ k = omega arith in
            rw (f names d, j, z) (prefixed-more (entries_of e) (entry_of x) (list_in k names (from s ts b)))

-- ---- an order

-- what stands behind an index of an order, by whether it is a comma
behind_by : List Name → ℕ → ℕ → Bool → Reader (List ℕ)
behind_by names n i b = elim b as (λ _. Reader (List ℕ)) [
  | true ↦ λ ts. follow (next ts) (λ _ ts. follow (order_from names n ts) (λ l. give (i ∷ l)))
  | false ↦ λ ts. follow (expect closes ts) (λ _. give (i ∷ []))
]

behind : List Name → ℕ → ℕ → Reader (List ℕ)
behind names n i ts = follow (look ts) (λ t. behind_by names n i (is_mark comma t))

order-step : (names : List Name) (n : ℕ) (ts : List Token) → order_from names (suc n) ts ≡ follow (index_in names ts) (behind names n)
unfolding order_from index_in behind behind_by
order-step names n ts = go (read_index names ts)
  where
    go : (o : Outcome (Read Used)) → follow o (λ u. behind names n u.number) ≡ follow (follow o (λ u. give u.number)) (behind names n)
    go (done x) = refl
    go (refused m p) = refl

-- the indices so far, and an order of as many more as are left
pub record OrderSo (names : List Name) (s ts : List ℕ) (at : ℕ) (f : Few) (a left : ℕ) : Type 0 where
  pub shown : List ℕ
  pub keeps : Keeps f shown
  pub same : order_from names byte_limit (from s ts at) ≡ prefixed shown (order_from names left (from s ts a))

-- k indices are read
pub record OrderOn (s ns ts : List ℕ) (at : ℕ) (f : Few) (a k : ℕ) : Type 0 where
  pub on : (names : List Name) → Named s ns names → OrderSo names s ts at f a (16384 - k)

module _ (s ns ts : List ℕ) (at : ℕ) where
  pub order-start : (f : Few) → Holds f [] → OrderOn s ns ts at f at 0
  unfolding byte_limit
  order-start f k = record { on = λ names d. record { shown = []; keeps = holds-keeps f [] k; same = prefixed-none (order_from names 16384 (from s ts at)) } }

  pub order-out : (f : Few) (a k : ℕ) → OrderOn s ns ts at f a k → 16384 ≤ k → Ordered s ns ts at (Err (record { refusal = Full; place = 0 }))
  unfolding order_from prefixed
  order-out f a k o h =
      record { is = λ names d. subst (λ r. OrderIs r s ts (Err (record { refusal = Full; place = 0 }))) (sym ((o.on names d).same ∙ go (16384 - k) (omega arith) names (o.on names d).shown)) (refl, refl) }
    where
      go : (k : ℕ) → k ≤ 0 → (names : List Name) (l : List ℕ) → prefixed l (order_from names k (from s ts a)) ≡ refused Full 0
      go zero h names l = refl
      go (suc k) h names l = absurd (omega arith)

  module _ (f : Few) (a k : ℕ) (q : Result (ℕ × ℕ) Refused) (o : OrderOn s ns ts at f a k) (h : k < 16384) (g : Answers indexed index_in s ns ts a q) where
    -- what one index more leaves
    step : (names : List Name) (d : Named s ns names) (w : Result (ℕ × ℕ) Refused) → q ≡ w
        → order_from names byte_limit (from s ts at) ≡ prefixed (o.on names d).shown (follow (indexed s ts w) (behind names (16384 - (k + 1))))
    step names d w e =
        let z : 16384 - k ≡ suc (16384 - (k + 1)) = omega arith in
        let x = o.on names d in
        x.same ∙ ap (λ n. prefixed x.shown (order_from names n (from s ts a))) z
        ∙ ap (prefixed x.shown) (order-step names (16384 - (k + 1)) (from s ts a) ∙ ap (λ o. follow o (behind names (16384 - (k + 1)))) (g.is names d ∙ ap (indexed s ts) e))

    pub order-wrong : (e : Refused) → q ≡ Err e → Ordered s ns ts at (Err e)
    unfolding prefixed
    order-wrong z e = record { is = λ names d. subst (λ r. OrderIs r s ts (Err z)) (sym (step names d (Err z) e)) (refl, refl) }

    module _ (i b : ℕ) (e : q ≡ Ok (i, b)) (t : Result Seen Refused) (l : Looks ts b t) where
      sees : (w : Result Seen Refused) → t ≡ w → Sees s ts b w
      sees w c = subst (Sees s ts b) c (l.sees s)

      pub order-stuck : (w : Refused) → t ≡ Err w → Ordered s ns ts at (Err w)
      unfolding behind prefixed
      order-stuck z c = record { is = λ names d. subst (λ r. OrderIs r s ts (Err z)) (sym (step names d (Ok (i, b)) e)) (rw (sees (Err z) c).looks (refl, refl)) }

      module _ (y : Seen) (c : t ≡ Ok y) where
        by-mark : (names : List Name) (d : Named s ns names) (v : Bool) → eqb y.kind 44 ≡ v
            → order_from names byte_limit (from s ts at) ≡ prefixed (o.on names d).shown (behind_by names (16384 - (k + 1)) i v (from s ts b))
        unfolding behind token
        by-mark names d v m =
            step names d (Ok (i, b)) e
            ∙ ap (prefixed (o.on names d).shown)
            (ap (λ r. follow r (λ t. behind_by names (16384 - (k + 1)) i (is_mark comma t))) (look_is s ts b y (sees (Ok y) c))
            ∙ ap (λ v. behind_by names (16384 - (k + 1)) i v (from s ts b)) (ap (λ n. eqb n comma) (mark-of s y.kind y.place y.payload) ∙ mark-same y.kind 44 (omega arith) ∙ m))

        pub order-no : (y.kind ≡ 41 → ⊥) → (y.kind ≡ 44 → ⊥) → Ordered s ns ts at (Err (record { refusal = Misplaced; place = y.place }))
        unfolding behind_by prefixed
        order-no m n =
            record {
              is = λ names d. subst (λ r. OrderIs r s ts (Err (record { refusal = Misplaced; place = y.place }))) (sym (by-mark names d false (ne_eqb y.kind 44 n)))
                  (rw (expect-not s ts b 41 y (sees (Ok y) c) (λ u. false-true (sym (ne_eqb y.kind 41 m) ∙ sym (mark-same y.kind 41 (omega arith)) ∙ eq-eqb (mark_number y.kind) 41 u))) (refl, refl));
            }

        module _ (f' : Few) (w : Adds f i f') where
          pub order-last : y.kind ≡ 41 → Ordered s ns ts at (Ok (f', y.next))
          unfolding behind_by prefixed mark_number
          order-last m =
              record {
                is = λ names d. let x = o.on names d in
                    subst (λ r. OrderIs r s ts (Ok (f', y.next))) (sym (by-mark names d false (ne_eqb y.kind 44 (λ u. omega arith))))
                    (rw (expect-is s ts b 41 y (sees (Ok y) c) (ap mark_number m)) (refl, adds-keeps f i f' w x.shown x.keeps));
              }

          pub order-more : y.kind ≡ 44 → OrderOn s ns ts at f' y.next (k + 1)
          unfolding behind_by
          order-more m =
              record {
                on = λ names d. let x = o.on names d in
                    record {
                      shown = x.shown ++ (i ∷ []);
                      keeps = adds-keeps f i f' w x.shown x.keeps;
                      same = by-mark names d true (eq-eqb y.kind 44 m)
                          ∙ ap (λ r. prefixed x.shown (follow r (λ _ ts. follow (order_from names (16384 - (k + 1)) ts) (λ l. give (i ∷ l))))) (next-is s ts b y (sees (Ok y) c))
                          ∙ prefixed-more x.shown i (order_from names (16384 - (k + 1)) (from s ts y.next));
                    };
              }

-- ---- an order behind its `(`

-- l is as long as the marks
same_length : (l m : List ℕ) → rearranges l m ≡ true → length l ≡ length m
unfolding rearranges
same_length l m e = go (eqb (length l) (length m)) refl e
  where
    go : (b : Bool) → eqb (length l) (length m) ≡ b → (b && no_repeats l && all_in l m) ≡ true → length l ≡ length m
    go true i e = eqb-true (length l) (length m) i
    go false i e = absurd (false-true e)

module _ (s ns ts : List ℕ) (at p : ℕ) (marks : Few) (r : Result (Few × ℕ) Refused) (h : Ordered s ns ts at r) where
  rest : List ℕ → List ℕ → Reader (List ℕ)
  rest m l ts = follow (require (rearranges l m) BadIndex p ts) (λ _. give l)

  pub bracketed-wrong : (e : Refused) → r ≡ Err e → Orders (bracketed_in p) s ns ts at marks r
  unfolding bracketed_in rest
  bracketed-wrong w e =
      record { is = λ names d m k j. rw e (go m (order_from names byte_limit (from s ts at)) (subst (OrderIs (order_from names byte_limit (from s ts at)) s ts) e (h.is names d))) }
    where
      go : (m : List ℕ) (o : Outcome (Read (List ℕ))) → OrderIs o s ts (Err w) → follow o (rest m) ≡ refused w.refusal w.place
      go m (done x) i = absurd i
      go m (refused l z) i = rw (i.0, i.1) refl

  bracketed-by : (f : Few) (a : ℕ) (b : Bool) (z : Result (Few × ℕ) Refused) → r ≡ Ok (f, a) → b ≡ rearranges_kept f marks
      → ((l m : List ℕ) → Keeps f l → length m ≤ 4 → b ≡ rearranges l m → follow (require b BadIndex p (from s ts a)) (λ _. give l) ≡ ordered s ts z)
      → Orders (bracketed_in p) s ns ts at marks z
  unfolding bracketed_in rest
  bracketed-by f a b z e w g =
      record {
        is = λ names d m k j. go m k j (order_from names byte_limit (from s ts at)) (subst (OrderIs (order_from names byte_limit (from s ts at)) s ts) e (h.is names d));
      }
    where
      go : (m : List ℕ) → Keeps marks m → length m ≤ 4 → (o : Outcome (Read (List ℕ))) → OrderIs o s ts (Ok (f, a)) → follow o (rest m) ≡ ordered s ts z
      go m k j (done x) i =
          let t : b ≡ rearranges x.what m = (rearranges-is f marks b w).is x.what m i.1 k j in
          rw (i.0, ← t) (g x.what m i.1 j t)
      go m k j (refused l q) i = absurd i

  pub bracketed-yes : (f : Few) (a : ℕ) (b : Bool) → r ≡ Ok (f, a) → b ≡ rearranges_kept f marks → b ≡ true → Orders (bracketed_in p) s ns ts at marks (Ok (f, a))
  unfolding require
  bracketed-yes f a b e w i =
      bracketed-by f a b (Ok (f, a)) e w (λ l m k j t. rw i (ap (λ l. leaves l s ts a) (sym (k.all (omega (arith, same_length l m (sym t ∙ i)))).1)))

  pub bracketed-no : (f : Few) (a : ℕ) (b : Bool) → r ≡ Ok (f, a) → b ≡ rearranges_kept f marks → b ≡ false → Orders (bracketed_in p) s ns ts at marks (Err (record { refusal = BadIndex; place = p }))
  unfolding require
  bracketed-no f a b e w i = bracketed-by f a b (Err (record { refusal = BadIndex; place = p })) e w (λ l m k j t. rw i refl)

-- ---- an optional order

order_choice : List Name → ℕ → List ℕ → Bool → Reader (List ℕ)
order_choice names p m b = elim b as (λ _. Reader (List ℕ)) [
  | true ↦ λ ts. follow (bracket opens nesting_limit ts) (λ _ ts. follow (order_from names byte_limit ts) (λ l ts. follow (require (rearranges l m) BadIndex p ts) (λ _. give l)))
  | false ↦ give m
]

module _ (s ns ts : List ℕ) (at place : ℕ) (marks : Few) (t : Result Seen Refused) (h : Looks ts at t) where
  seen_at : (w : Result Seen Refused) → t ≡ w → Sees s ts at w
  seen_at w e = subst (Sees s ts at) e (h.sees s)

  pub optional-wrong : (e : Refused) → t ≡ Err e → Orders (optional_in place) s ns ts at marks (Err e)
  unfolding optional_in read_order
  optional-wrong z e = record { is = λ names d m k j. rw (seen_at _ e).looks refl }

  optional-by : (w : Seen) (b : Bool) (z : Result (Few × ℕ) Refused) → t ≡ Ok w → eqb w.kind 40 ≡ b
      → ((names : List Name) → Named s ns names → (m : List ℕ) → Keeps marks m → length m ≤ 4 → order_choice names place m b (from s ts at) ≡ ordered s ts z)
      → Orders (optional_in place) s ns ts at marks z
  unfolding optional_in read_order order_choice token
  optional-by w b z e f g =
      record {
        is = λ names d m l j.
            ap (λ o. follow o (λ t. order_choice names place m (is_mark opens t))) (look_is s ts at w (seen_at _ e))
            ∙ ap (λ b. order_choice names place m b (from s ts at)) (ap (λ n. eqb n opens) (mark-of s w.kind w.place w.payload) ∙ mark-same w.kind 40 (omega arith) ∙ f)
            ∙ g names d m l j;
      }

  pub optional-some : (w : Seen) (z : Result (Few × ℕ) Refused) → t ≡ Ok w → w.kind ≡ 40 → Orders (bracketed_in place) s ns ts w.next marks z → Orders (optional_in place) s ns ts at marks z
  unfolding order_choice bracket bracketed_in nesting_limit mark_number
  optional-some w z e f g =
      optional-by w true z e (eq-eqb w.kind 40 f)
      (λ names d m l j. rw (expect-is s ts at 40 w (seen_at _ e) (ap mark_number f)) (g.is names d m l j))

  pub optional-none : (w : Seen) → t ≡ Ok w → (w.kind ≡ 40 → ⊥) → Orders (optional_in place) s ns ts at marks (Ok (marks, at))
  unfolding order_choice
  optional-none z e f = optional-by z false (Ok (marks, at)) e (ne_eqb z.kind 40 f) (λ names d m l j. ap (λ l. leaves l s ts at) (sym (l.all j).1))

-- ---- the head

module _ (s ns ts : List ℕ) (at p : ℕ) (e : Entries) (f : Few) (b : Bool) (k : Holds f (marks_of (entries_of e))) (g : b ≡ no_repeats (numbers_of f)) where
  few-marks : length (marks_of (entries_of e)) ≤ 4
  few-marks = omega (arith, marks-length (entries_of e), entries-few e)

  tested : b ≡ no_repeats (marks_of (entries_of e))
  tested = g ∙ ap no_repeats k.numbers

  pub head-repeats : b ≡ false → Answers planned (order_in p (entries_of e)) s ns ts at (Err (record { refusal = BadIndex; place = p }))
  unfolding order_in require
  head-repeats i = record { is = λ names d. rw (← tested, i) refl }

  module _ (q : Result (Few × ℕ) Refused) (i : b ≡ true) (o : Orders (optional_in p) s ns ts at f q) where
    pub head-order : (w : Refused) → q ≡ Err w → Answers planned (order_in p (entries_of e)) s ns ts at (Err w)
    unfolding order_in optional_in require
    head-order w j = record { is = λ names d. rw (← tested, i, o.is names d (marks_of (entries_of e)) (holds-keeps f _ k) few-marks, j) refl }

    pub head-runs : (l w : Few) (a : ℕ) → q ≡ Ok (l, a) → Holds w (positions_of (numbers_of l) (entries_of e)) → Answers planned (order_in p (entries_of e)) s ns ts at (Ok (record { runs = w; entries = e; next = a }))
    unfolding order_in optional_in require
    head-runs l w a j v =
        record {
          is = λ names d. rw (← tested, i, o.is names d (marks_of (entries_of e)) (holds-keeps f _ k) few-marks, j)
              (ap (λ m. leaves (record { positions = m; entries = entries_of e }) s ts a) (sym v.numbers));
        }

module _ (s ns ts : List ℕ) (at p n : ℕ) (r : Result (Entries × ℕ) Refused) (h : Lists s ns ts at n r) where
  pub rest-wrong : (e : Refused) → r ≡ Err e → Heads (rest_in p n) s ns ts at n (Err e)
  unfolding rest_in
  rest-wrong z e = record { is = λ names d f. rw (h.is names d f, e) refl }

  pub rest-on : (e : Entries) (a : ℕ) (q : Result Plan Refused) → r ≡ Ok (e, a) → Answers planned (order_in p (entries_of e)) s ns ts a q → Heads (rest_in p n) s ns ts at n q
  unfolding rest_in
  rest-on e a q i g = record { is = λ names d f. rw (h.is names d f, i) (g.is names d) }

module _ (s ns ts : List ℕ) (at p n : ℕ) (r : Result ℕ Refused) (h : Moves (bracket_in opens_list 12) s ns ts at r) where
  pub head-wrong : (e : Refused) → r ≡ Err e → Heads (head_in p n) s ns ts at n (Err e)
  unfolding head_in bracket_in nesting_limit
  head-wrong z e = record { is = λ names d f. rw (stuck (bracket_in opens_list 12) s ns ts at r h names d z e) refl }

  pub head-on : (a : ℕ) (q : Result Plan Refused) → r ≡ Ok a → Heads (rest_in p n) s ns ts a n q → Heads (head_in p n) s ns ts at n q
  unfolding head_in bracket_in nesting_limit
  head-on a q e g = record { is = λ names d f. rw (stood (bracket_in opens_list 12) s ns ts at r h names d a e).reads (g.is names d f) }
