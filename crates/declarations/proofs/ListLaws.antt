-- Laws of the lists of declarations and of the name table, over plain variables.
use Rattle.std.specs.Prelude.{Err, Ok, Result}
use Rattle.rules.specs.declared.Refused.{Refused}
use mathlib.Core.Path.{◌≡◌, refl, sym, ◌∙◌, ap, subst}
use mathlib.Core.Bool.{Bool, true, false}
use mathlib.Core.List.{List, [], ◌∷◌, ◌++◌, append_assoc, append-nil}
use Prim.Native.Nat.{ℕ, zero, suc, ◌+◌, ◌*◌, ◌-◌, ◌/◌, ◌<◌, ◌≤◌}
use native.Mathlib.Omega.{arith}
use lib.Dec.{eqb}
use lib.ListN.{length, get_or}
use lib.Seq.{length-take-le}
use borrow.Author.Tests.{eq-eqb, ne_eqb}
use Rattle.rules.specs.declared.Refusal.TheVariants.{Misplaced, Full}
use Rattle.rules.specs.Limits.{token_limit}
use Rattle.lexer.specs.Text.{Token}
use Rattle.lexer.specs.Marks.{comma, semicolon, index_word}
use Rattle.language.specs.Outcome.{Outcome, done, refused}
use Rattle.language.specs.Syntax.{Name, Sort}
use Rattle.language.specs.Reader.{Reader, Read, follow, ◌>>=◌, give, next, look, is_mark, require, Titled}
use Rattle.language.specs.Declarations.{new_name, entries_from, list_of, declarations}
use Rattle.tokens.specs.declared.Seen.{Seen}
use Rattle.tokens.specs.declared.Sort.{Sort as CodeSort}
use Rattle.tokens.specs.declared.Sort.TheVariants.{Index, Integer, Real, Formula, Discrete, Continuous}
use Rattle.tokens.specs.Stored.{spelling, sort_number, from, Sees, Looks, Shaped, Named, rows_of, Put, Moves}
use Rattle.tokens.proofs.Tables.{put-rows}
use Rattle.tokens.proofs.Moved.{Got, got, stuck, follow-same, look_is, next-is, is-mark}
use Rattle.declarations.specs.declared.Row.{Row}
use Rattle.declarations.specs.Readers.{separator_in, entry_in, One, row_in, entries_in, list_in, lists_in}
use Rattle.declarations.specs.Tables.{IsRow, RowUpTo, Declares, Told, NamesAre, Listing, Lists, Declared}

-- ---- one row more

module _ (s ts : List ℕ) (p n k c q : ℕ) (x : Name) where
  abbrev row : List ℕ
  row = p ∷ n ∷ k ∷ c ∷ q ∷ []

  named_more : (ns : List ℕ) (names : List Name) → Named s ns names → x.spelling ≡ spelling s p n → Shaped x.sort k c → Named s (ns ++ row) (names ++ (x ∷ []))
  named_more [] [] h e f = (e, f, tt)
  named_more [] (y ∷ ys) h e f = absurd h
  named_more (a ∷ []) ys h e f = absurd h
  named_more (a ∷ b ∷ []) ys h e f = absurd h
  named_more (a ∷ b ∷ d ∷ []) ys h e f = absurd h
  named_more (a ∷ b ∷ d ∷ g ∷ []) ys h e f = absurd h
  named_more (a ∷ b ∷ d ∷ g ∷ i ∷ ns) [] h e f = absurd h
  named_more (a ∷ b ∷ d ∷ g ∷ i ∷ ns) (y ∷ ys) h e f = (h.0, h.1, named_more ns ys h.2 e f)

  told_more : (ns : List ℕ) (before names : List Name) → Told s ts ns before names → x.place ≡ p → Declares s ts (before ++ names) x.sort q → Told s ts (ns ++ row) before (names ++ (x ∷ []))
  told_more [] before [] h e f = (e, subst (λ l. Declares s ts l x.sort q) (append-nil before) f, tt)
  told_more [] before (y ∷ ys) h e f = absurd h
  told_more (a ∷ []) before ys h e f = absurd h
  told_more (a ∷ b ∷ []) before ys h e f = absurd h
  told_more (a ∷ b ∷ d ∷ []) before ys h e f = absurd h
  told_more (a ∷ b ∷ d ∷ g ∷ []) before ys h e f = absurd h
  told_more (a ∷ b ∷ d ∷ g ∷ i ∷ ns) before [] h e f = absurd h
  told_more (a ∷ b ∷ d ∷ g ∷ i ∷ ns) before (y ∷ ys) h e f =
      (h.0, h.1, told_more ns (before ++ (y ∷ [])) ys h.2 e (subst (λ l. Declares s ts l x.sort q) (sym (append_assoc before (y ∷ []) ys)) f))

names_more : (s ts ns : List ℕ) (k p n c q : ℕ) (b : Bool) (names : List Name) (x : One) → k ≤ 5 → NamesAre s ts ns names → IsRow s ts k p n c q b names x
    → NamesAre s ts (ns ++ (p ∷ n ∷ k ∷ c ∷ q ∷ [])) (names ++ (x.name ∷ []))
names_more s ts ns k p n c q b names x l h r =
    record {
      named = named_more s ts p n k c q x.name ns names h.named r.title (r.shaped l);
      told = told_more s ts p n k c q x.name ns [] names h.told r.place r.declares;
    }

-- ---- one entry and the entries behind it

entries_then : ℕ → ℕ → List Name → One → Reader (List Name)
entries_then k n names x = elim x.more as (λ _. Reader (List Name)) [ true ↦ entries_in k n (names ++ (x.name ∷ [])) | false ↦ give (names ++ (x.name ∷ [])) ]

-- a name, and all names with it
abbrev name_as : Titled → Sort → Name
name_as x y = record { spelling = x.title; place = x.place; sort = y }

abbrev one_as : Titled → Sort → Bool → One
one_as x y b = record { name = name_as x y; more = b }

abbrev sep_of : Token → Bool → Reader Bool
sep_of t b = elim b as (λ _. Reader Bool) [ true ↦ give true | false ↦ require (is_mark semicolon t) Misplaced t.place >>= (λ _. give false) ]

module _ (k n : ℕ) (names : List Name) where
  abbrev all_as : Titled → Sort → List Name
  all_as x y = names ++ (name_as x y ∷ [])

  abbrev turn_of : Titled → Sort → Token → Bool → Reader (List Name)
  turn_of x y t b = elim b as (λ _. Reader (List Name)) [
    | true ↦ entries_from (entry_in k) n (all_as x y)
    | false ↦ require (is_mark semicolon t) Misplaced t.place >>= (λ _. give (all_as x y))
  ]

  entries-is : (l : List Token) → entries_in k (suc n) names l ≡ follow (row_in k names l) (entries_then k n names)
  unfolding entries_in entries_from row_in separator_in entries_then
  entries-is l = titled (new_name names l)
    where
      ends : (x : Titled) (y : Sort) (o : Outcome (Read (Unit {0})))
          → follow o (λ _. give (all_as x y)) ≡ follow (follow (follow o (λ _. give false)) (λ b. give (one_as x y b))) (entries_then k n names)
      ends x y (done z) = refl
      ends x y (refused m p) = refl

      turn : (x : Titled) (y : Sort) (t : Token) (m : List Token) (b : Bool) → turn_of x y t b m ≡ follow (follow (sep_of t b m) (λ b. give (one_as x y b))) (entries_then k n names)
      turn x y t m true = refl
      turn x y t m false = ends x y (require (is_mark semicolon t) Misplaced t.place m)

      signed : (x : Titled) (y : Sort) (o : Outcome (Read Token))
          → follow o (λ t. turn_of x y t (is_mark comma t)) ≡ follow (follow (follow o (λ t. sep_of t (is_mark comma t))) (λ b. give (one_as x y b))) (entries_then k n names)
      signed x y (done z) = turn x y z.what z.rest (is_mark comma z.what)
      signed x y (refused m p) = refl

      entered : (x : Titled) (o : Outcome (Read Sort))
          → follow o (λ y. next >>= (λ t. turn_of x y t (is_mark comma t))) ≡ follow (follow o (λ y. separator_in names >>= (λ b. give (one_as x y b)))) (entries_then k n names)
      entered x (done z) = signed x z.what (next z.rest)
      entered x (refused m p) = refl

      titled : (o : Outcome (Read Titled))
          → follow o (λ x. entry_in k names >>= (λ y. next >>= (λ t. turn_of x y t (is_mark comma t))))
          ≡ follow (follow o (λ x. entry_in k names >>= (λ y. separator_in names >>= (λ b. give (one_as x y b))))) (entries_then k n names)
      titled (done z) = entered z.what (entry_in k names z.rest)
      titled (refused m p) = refl

-- ---- the loop: what is read from here on is what is read from the start

pub record Reached (s ts : List ℕ) (k left : ℕ) (start : List Name) (at a : ℕ) (ns : List ℕ) : Type 0 where
  pub names : List Name
  pub are : NamesAre s ts ns names
  pub same : entries_in k token_limit start (from s ts at) ≡ entries_in k left names (from s ts a)

pub record EntriesOn (s ts ns : List ℕ) (k count at i n a : ℕ) (ns' : List ℕ) : Type 0 where
  pub size : length ns' ≡ length ns
  pub within : n ≤ 64
  pub reached : (start : List Name) → NamesAre s ts (rows_of count ns) start → Reached s ts k (4096 - i) start at a (rows_of n ns')

module _ (s ts ns : List ℕ) (k count at : ℕ) where
  pub entries-start : count ≤ 64 → EntriesOn s ts ns k count at 0 count at ns
  unfolding token_limit
  entries-start h = record { size = refl; within = h; reached = λ start d. record { names = start; are = d; same = refl } }

  -- a refusal, whatever was written
  refused-with : (ns' : List ℕ) (w : Refused) → length ns' ≡ length ns → ((start : List Name) → NamesAre s ts (rows_of count ns) start → entries_in k token_limit start (from s ts at) ≡ refused w.refusal w.place)
      → Lists (entries_in k token_limit) s ts ns count at (Err w) ns'
  refused-with ns' y z g = record { size = z; within = tt; lists = λ start d. subst (λ o. Listing o s ts (Err y) ns') (sym (g start d)) (refl, refl) }

  module _ (i n a : ℕ) (ns' : List ℕ) (o : EntriesOn s ts ns k count at i n a ns') where
    pub entries_none : 4096 ≤ i → Lists (entries_in k token_limit) s ts ns count at (Err (record { refusal = Full; place = 0 })) ns'
    unfolding entries_in entries_from
    entries_none h =
        let e : 4096 - i ≡ 0 = omega arith in
        refused-with ns' (record { refusal = Full; place = 0 }) o.size (λ start d. let x = o.reached start d in x.same ∙ ap (λ j. entries_in k j x.names (from s ts a)) e)

    module _ (m : i < 4096) where
      -- one entry more
      one : (names : List Name) → entries_in k (4096 - i) names (from s ts a) ≡ follow (row_in k names (from s ts a)) (entries_then k (4096 - (i + 1)) names)
      one names = let e : 4096 - i ≡ suc (4096 - (i + 1)) = omega arith in ap (λ j. entries_in k j names (from s ts a)) e ∙ entries-is k (4096 - (i + 1)) names (from s ts a)

      pub entries-refused : (w : Refused) → Moves (row_in k) s (rows_of n ns') ts a (Err w) → Lists (entries_in k token_limit) s ts ns count at (Err w) ns'
      entries-refused z h =
          refused-with ns' z o.size (λ start d.
          let x = o.reached start d in
          x.same ∙ one x.names ∙ ap (λ o. follow o (entries_then k (4096 - (i + 1)) x.names)) (stuck (row_in k) s (rows_of n ns') ts a (Err z) h x.names x.are.named z refl))

      module _ (row : Row) (b : ℕ) (h : RowUpTo s (rows_of n ns') ts k a row b) (ns'' : List ℕ) (room : 320 ≤ length ns) (l : k ≤ 5) (x : ℕ) (w' : Put ns' n (row.place ∷ row.bytes ∷ x ∷ row.count ∷ row.position ∷ []) ns'') (same : x ≡ k) where
        w : Put ns' n (row.place ∷ row.bytes ∷ k ∷ row.count ∷ row.position ∷ []) ns''
        w = rw same at w'

        below : n < 64
        below =
            let r : length (rows_of n ns') / 5 < 64 = h.room in
            let e : length (rows_of n ns') ≡ n * 5 = length-take-le (n * 5) ns' (omega (arith, o.size, o.within)) in
            omega (arith, r, e)

        rows_more : rows_of (n + 1) ns'' ≡ rows_of n ns' ++ (row.place ∷ row.bytes ∷ k ∷ row.count ∷ row.position ∷ [])
        rows_more = put-rows ns' n _ ns'' w (omega (arith, o.size, below))

        abbrev Is : List Name → One → Type 0
        Is = IsRow s ts k row.place row.bytes row.count row.position row.more

        row-got : (names : List Name) → Named s (rows_of n ns') names → Got (row_in k names) (Is names) s ts a b
        row-got names d = got (row_in k) Is s (rows_of n ns') ts a b h.gives names d

        grown : (names : List Name) (d : NamesAre s ts (rows_of n ns') names) → NamesAre s ts (rows_of (n + 1) ns'') (names ++ ((row-got names d.named).what.name ∷ []))
        grown names d =
            subst (λ t. NamesAre s ts t (names ++ ((row-got names d.named).what.name ∷ []))) (sym rows_more)
            (names_more s ts (rows_of n ns') k row.place row.bytes row.count row.position row.more names (row-got names d.named).what l d (row-got names d.named).holds)

        -- the entry was read, and the list goes on or not
        turn : Bool → List Name → Name → Reader (List Name)
        turn v names x = elim v as (λ _. Reader (List Name)) [ true ↦ entries_in k (4096 - (i + 1)) (names ++ (x ∷ [])) | false ↦ give (names ++ (x ∷ [])) ]

        two : (v : Bool) → row.more ≡ v → (names : List Name) (d : Named s (rows_of n ns') names) → entries_in k (4096 - i) names (from s ts a) ≡ turn v names (row-got names d).what.name (from s ts b)
        unfolding entries_then turn
        two v e names d =
            let x = row-got names d in
            one names ∙ ap (λ o. follow o (entries_then k (4096 - (i + 1)) names)) x.reads ∙ ap (λ v. turn v names x.what.name (from s ts b)) (x.holds.more ∙ e)

        pub entries-end : row.more ≡ false → Lists (entries_in k token_limit) s ts ns count at (Ok (n + 1, b)) ns''
        unfolding turn
        entries-end e =
            record {
              size = w.size ∙ o.size;
              within = omega (arith, below);
              lists = λ start d.
                  let x = o.reached start d in
                  subst (λ o. Listing o s ts (Ok (n + 1, b)) ns'') (sym (x.same ∙ two false e x.names x.are.named)) (refl, grown x.names x.are);
            }

        pub entries-on : row.more ≡ true → EntriesOn s ts ns k count at (i + 1) (n + 1) b ns''
        unfolding turn
        entries-on e =
            record {
              size = w.size ∙ o.size;
              within = omega (arith, below);
              reached = λ start d.
                  let x = o.reached start d in
                  record { names = x.names ++ ((row-got x.names x.are.named).what.name ∷ []); are = grown x.names x.are; same = x.same ∙ two true e x.names x.are.named };
            }

-- ---- a list, if its word stands there

module _ (s ts ns : List ℕ) (k count at : ℕ) (t : Result Seen Refused) (l : Looks ts at t) where
  list_turn : Bool → List Name → Reader (List Name)
  list_turn b names = elim b as (λ _. Reader (List Name)) [ true ↦ next >>= (λ _. entries_in k token_limit names) | false ↦ give names ]

  list-is : (names : List Name) → list_in k names (from s ts at) ≡ follow (look (from s ts at)) (λ t. list_turn (is_mark (index_word + k) t) names)
  unfolding list_in list_of list_turn entries_in
  list-is names = refl

  list-by : (w : Seen) (v : Bool) (names : List Name) → t ≡ Ok w → eqb w.kind (index_word + k) ≡ v → list_in k names (from s ts at) ≡ list_turn v names (from s ts at)
  list-by z v names e i =
      list-is names ∙ ap (λ o. follow o (λ t. list_turn (is_mark (index_word + k) t) names)) (look_is s ts at z (subst (Sees s ts at) e (l.sees s)))
      ∙ ap (λ v. list_turn v names (from s ts at)) (is-mark s (index_word + k) z.kind z.place z.payload (omega arith) ∙ i)

  pub list-word : (w : Seen) (r : Result (ℕ × ℕ) Refused) (ns' : List ℕ) (x : ℕ) → t ≡ Ok w → x ≡ k → w.kind ≡ index_word + x → Lists (entries_in k token_limit) s ts ns count w.next r ns' → Lists (list_in k) s ts ns count at r ns'
  unfolding list_turn
  list-word z r ns' x e j i h =
      record {
        size = h.size;
        within = h.within;
        lists = λ names d.
            subst (λ o. Listing o s ts r ns')
            (sym (list-by z true names e (eq-eqb z.kind (index_word + k) (i ∙ ap (λ y. index_word + y) j)) ∙ ap (λ o. follow o (λ _. entries_in k token_limit names)) (next-is s ts at z (subst (Sees s ts at) e (l.sees s)))))
            (h.lists names d);
      }

  pub list-none : (w : Seen) (x : ℕ) → count ≤ 64 → t ≡ Ok w → x ≡ k → (w.kind ≡ index_word + x → ⊥) → Lists (list_in k) s ts ns count at (Ok (count, at)) ns
  unfolding list_turn
  list-none z x w e j i =
      record {
        size = refl;
        within = w;
        lists = λ names d. subst (λ o. Listing o s ts (Ok (count, at)) ns) (sym (list-by z false names e (ne_eqb z.kind (index_word + k) (λ f. i (f ∙ ap (λ y. index_word + y) (sym j)))))) (refl, d);
      }

  pub list-wrong : (e : Refused) → t ≡ Err e → Lists (list_in k) s ts ns count at (Err e) ns
  list-wrong z e =
      record {
        size = refl;
        within = tt;
        lists = λ names d.
            subst (λ o. Listing o s ts (Err z) ns)
            (sym (list-is names ∙ ap (λ o. follow o (λ t. list_turn (is_mark (index_word + k) t) names)) (subst (Sees s ts at) e (l.sees s)).looks)) (refl, refl);
      }

-- ---- the six lists

pub record Gone (s ts : List ℕ) (k : ℕ) (start : List Name) (at a : ℕ) (ns : List ℕ) : Type 0 where
  pub names : List Name
  pub are : NamesAre s ts ns names
  pub same : lists_in 6 0 start (from s ts at) ≡ lists_in (6 - k) k names (from s ts a)

pub record ListsOn (s ts ns : List ℕ) (at k n a : ℕ) (ns' : List ℕ) : Type 0 where
  pub size : length ns' ≡ length ns
  pub within : n ≤ 64
  pub gone : (start : List Name) → NamesAre s ts (rows_of 0 ns) start → Gone s ts k start at a (rows_of n ns')

-- the k-th sort
abbrev sort_at : ℕ → CodeSort
sort_at k = get_or (Index ∷ Integer ∷ Real ∷ Formula ∷ Discrete ∷ Continuous ∷ []) k Index

sort-listed : (k : ℕ) → k < 6 → sort_number (sort_at k) ≡ k
sort-listed zero h = refl
sort-listed (suc zero) h = refl
sort-listed (suc (suc zero)) h = refl
sort-listed (suc (suc (suc zero))) h = refl
sort-listed (suc (suc (suc (suc zero)))) h = refl
sort-listed (suc (suc (suc (suc (suc zero))))) h = refl
sort-listed (suc (suc (suc (suc (suc (suc k)))))) h = absurd (omega arith)

module _ (s ts ns : List ℕ) (at : ℕ) where
  pub lists-start : ListsOn s ts ns at 0 0 at ns
  lists-start = record { size = refl; within = omega arith; gone = λ start d. record { names = start; are = d; same = refl } }

  module _ (k n a : ℕ) (ns' : List ℕ) (o : ListsOn s ts ns at k n a ns') where
    pub lists-end : 6 ≤ k → Lists (lists_in 6 0) s ts ns 0 at (Ok (n, a)) ns'
    unfolding lists_in
    lists-end h =
        let e : 6 - k ≡ 0 = omega arith in
        record {
          size = o.size;
          within = o.within;
          lists = λ start d.
              let x = o.gone start d in
              subst (λ o. Listing o s ts (Ok (n, a)) ns') (sym (x.same ∙ ap (λ j. lists_in j k x.names (from s ts a)) e)) (refl, x.are);
        }

    module _ (m : k < 6) (ns'' : List ℕ) where
      this : sort_number (sort_at k) ≡ k
      this = sort-listed k m

      first : (names : List Name) → lists_in (6 - k) k names (from s ts a) ≡ follow (list_in k names (from s ts a)) (lists_in (6 - (k + 1)) (k + 1))
      unfolding lists_in
      first names =
          let e : 6 - k ≡ suc (6 - (k + 1)) = omega arith in
          let f : k + 1 ≡ suc k = omega arith in
          ap (λ j. lists_in j k names (from s ts a)) e ∙ ap (λ i. follow (list_in k names (from s ts a)) (lists_in (6 - (k + 1)) i)) (sym f)

      pub lists-refused : (e : Refused) → Lists (list_in (sort_number (sort_at k))) s ts ns' n a (Err e) ns'' → Lists (lists_in 6 0) s ts ns 0 at (Err e) ns''
      lists-refused e h' =
          let h : Lists (list_in k) s ts ns' n a (Err e) ns'' = subst (λ j. Lists (list_in j) s ts ns' n a (Err e) ns'') this h' in
          record {
            size = h.size ∙ o.size;
            within = tt;
            lists = λ start d.
                let x = o.gone start d in
                subst (λ o. Listing o s ts (Err e) ns'') (sym (x.same ∙ first x.names)) (go (list_in k x.names (from s ts a)) (h.lists x.names x.are));
          }
        where
          go : (o : Outcome (Read (List Name))) → Listing o s ts (Err e) ns'' → Listing (follow o (lists_in (6 - (k + 1)) (k + 1))) s ts (Err e) ns''
          go (done x) i = absurd i
          go (refused j q) i = i

      pub lists-on : (c b : ℕ) → Lists (list_in (sort_number (sort_at k))) s ts ns' n a (Ok (c, b)) ns'' → ListsOn s ts ns at (k + 1) c b ns''
      lists-on c b h' =
          let h : Lists (list_in k) s ts ns' n a (Ok (c, b)) ns'' = subst (λ j. Lists (list_in j) s ts ns' n a (Ok (c, b)) ns'') this h' in
          record {
            size = h.size ∙ o.size;
            within = h.within;
            gone = λ start d.
                let x = o.gone start d in
                go start x.names (x.same ∙ first x.names) (list_in k x.names (from s ts a)) refl (h.lists x.names x.are);
          }
        where
          go : (start names : List Name) → lists_in 6 0 start (from s ts at) ≡ follow (list_in k names (from s ts a)) (lists_in (6 - (k + 1)) (k + 1))
              → (o : Outcome (Read (List Name))) → list_in k names (from s ts a) ≡ o → Listing o s ts (Ok (c, b)) ns'' → Gone s ts (k + 1) start at b (rows_of c ns'')
          go start names e (done x) i j =
              record { names = x.what; are = j.1; same = e ∙ ap (λ o. follow o (lists_in (6 - (k + 1)) (k + 1))) i ∙ ap (lists_in (6 - (k + 1)) (k + 1) x.what) j.0 }
          go start names e (refused q p) i j = absurd j

-- ---- all of them

follow-give : {A : Type 0} (o : Outcome (Read A)) → o ≡ follow o (λ x. give x)
follow-give (done x) = refl
follow-give (refused n p) = refl

declarations-are : (l : List Token) → declarations l ≡ lists_in 6 0 [] l
unfolding declarations lists_in list_in entry_in
declarations-are l =
    follow-same (list_in 0 [] l) _ _ (λ a l.
    follow-same (list_in 1 a l) _ _ (λ b l.
    follow-same (list_in 2 b l) _ _ (λ c l.
    follow-same (list_in 3 c l) _ _ (λ d l.
    follow-same (list_in 4 d l) _ _ (λ e l.
    follow-give (list_in 5 e l))))))

pub declared-all : (s ts ns : List ℕ) (at : ℕ) (r : Result (ℕ × ℕ) Refused) (ns' : List ℕ) → Lists (lists_in 6 0) s ts ns 0 at r ns' → Declared s ts at r ns'
declared-all s ts ns at r ns' h =
    record {
      within = h.within;
      lists = subst (λ o. Listing o s ts r ns') (sym (declarations-are (from s ts at))) (h.lists [] (record { named = tt; told = tt }));
    }
