-- Laws of the data section over plain variables: its portions, its ends.
use Rattle.std.specs.Prelude.{Err, Ok, Result}
use Rattle.data.specs.declared.reading.ends.Titled.{Titled}
use Rattle.rules.specs.declared.Refused.{Refused}
use mathlib.Core.Path.{◌≡◌, refl, sym, ◌∙◌, ap, subst}
use mathlib.Core.Bool.{Bool, true, false}
use mathlib.Core.List.{List, []}
use Prim.Native.Nat.{ℕ, suc, ◌+◌, ◌-◌, ◌<◌, ◌≤◌}
use native.Mathlib.Omega.{arith}
use borrow.Author.Tests.{eq-eqb, ne_eqb}
use lib.Dec.{eqb}
use Rattle.rules.specs.declared.Refusal.TheVariants.{Misplaced}
use Rattle.rules.specs.Limits.{byte_limit}
use Rattle.lexer.specs.Marks.{init_word, close_word}
use Rattle.lexer.specs.Text.{Token}
use Rattle.language.specs.Outcome.{Outcome, done, refused}
use Rattle.language.specs.Syntax.{Name}
use Rattle.language.specs.Reader.{Reader, Read, follow, ◌>>=◌, give, next, look, is_mark, is_name, is_some, name_of, require, read_string}
use Rattle.language.specs.Store.{Store}
use Rattle.language.specs.Data.{Given, portion_of, portions_of, read_close, data_of, read_end, read_data}
use Rattle.tokens.specs.declared.Seen.{Seen}
use Rattle.tokens.specs.Stored.{kind_of, token, bytes_from, spelling, from, Sees, Looks}
use Rattle.tokens.proofs.Tables.{mark-of, mark-same, no_name_lem}
use Rattle.tokens.proofs.Moved.{look_is, next-is}
use Rattle.evaluator.specs.Ground.{Ground}
use Rattle.data.specs.declared.reading.ends.Titled.{Titled as Title}
use Rattle.data.specs.Reading.Readers.{Says, titled, passed}
use Rattle.data.proofs.reading.Joined.{follow-follow}
use Rattle.data.specs.declared.sections.Section.{Section}
use Rattle.data.specs.Stores.{Stores}
use Rattle.data.specs.Taking.{TakenIs}
use Rattle.data.specs.Portions.{Fills}
use Rattle.data.specs.Sections.{FillsAll, SectionIs, Sections, rest_in, section_in, GivenIs, ReadsData}
use Rattle.data.proofs.Rows.{stores-none}
use Rattle.store.specs.Table.{Table}

-- ---- portions

module _ (s ns ts : List ℕ) (at : ℕ) where
  pub record PortionsSo (names : List Name) (a count k : ℕ) (us : Table) : Type 0 where
    pub store : Store
    pub holds : Stores us count store
    pub same : portions_of names byte_limit [] (from s ts at) ≡ portions_of names (16384 - k) store (from s ts a)

  -- k portions are read, and what is left gives what the whole gives
  pub record PortionsOn (a count k : ℕ) (us : Table) : Type 0 where
    pub on : (g : Ground s ns ts) → PortionsSo g.names a count k us

  pub portions-start : (us : Table) → PortionsOn at 0 0 us
  unfolding byte_limit
  portions-start us = record { on = λ g. record { store = []; holds = stores-none us; same = refl } }

  module _ (a count k : ℕ) (us : Table) (o : PortionsOn a count k us) where
    pub portions-none : 16384 ≤ k → FillsAll s ns ts at (Ok (a, count)) us
    unfolding portions_of
    portions-none h =
        record {
          is = λ g.
              let d : 16384 - k ≡ 0 = omega arith in
              let m = o.on g in
              subst (λ r. TakenIs r s ts us (Ok (a, count))) (sym (m.same ∙ ap (λ n. portions_of g.names n m.store (from s ts a)) d)) (refl, m.holds);
        }

    module _ (h : k < 16384) (r : Result (ℕ × ℕ) Refused) (us' : Table) (f : Fills portion_of s ns ts us count a r us') where
      -- behind a portion
      behind_by : List Name → Store → Bool → Reader Store
      behind_by names st b = elim b as (λ _. Reader Store) [ true ↦ portions_of names (16384 - (k + 1)) st | false ↦ give st ]

      behind : List Name → Store → Reader Store
      behind names st = look >>= (λ t. behind_by names st (is_name t))

      unrolled : (g : Ground s ns ts) → portions_of g.names byte_limit [] (from s ts at) ≡ follow (portion_of g.names (o.on g).store (from s ts a)) (behind g.names)
      unfolding portions_of behind behind_by
      unrolled g = let d : 16384 - k ≡ suc (16384 - (k + 1)) = omega arith in (o.on g).same ∙ ap (λ n. portions_of g.names n (o.on g).store (from s ts a)) d

      -- one portion, as it is read
      filled : (g : Ground s ns ts) (z : Result (ℕ × ℕ) Refused) → r ≡ z → TakenIs (portion_of g.names (o.on g).store (from s ts a)) s ts us' z
      filled g z e = subst (TakenIs (portion_of g.names (o.on g).store (from s ts a)) s ts us') e (f.is g (o.on g).store (o.on g).holds)

      pub portions-refused : (e : Refused) → r ≡ Err e → FillsAll s ns ts at r us'
      portions-refused z e = record { is = λ g. rw e (subst (λ o. TakenIs o s ts us' (Err z)) (sym (unrolled g)) (go g (portion_of g.names (o.on g).store (from s ts a)) (filled g (Err z) e))) }
        where
          go : (g : Ground s ns ts) (y : Outcome (Read Store)) → TakenIs y s ts us' (Err z) → TakenIs (follow y (behind g.names)) s ts us' (Err z)
          go g (done x) k = absurd k
          go g (refused m p) k = k

      module _ (b n : ℕ) (e : r ≡ Ok (b, n)) (t : Result Seen Refused) (l : Looks ts b t) where
        sees : (w : Result Seen Refused) → t ≡ w → Sees s ts b w
        sees w q = subst (Sees s ts b) q (l.sees s)

        -- with the store behind the portion
        after : (z : Result (ℕ × ℕ) Refused) (ws : Table) → ((g : Ground s ns ts) (st : Store) → Stores us' n st → TakenIs (behind g.names st (from s ts b)) s ts ws z) → FillsAll s ns ts at z ws
        after z ws k =
            record { is = λ g. subst (λ o. TakenIs o s ts ws z) (sym (unrolled g)) (go g (portion_of g.names (o.on g).store (from s ts a)) (filled g (Ok (b, n)) e)) }
          where
            go : (g : Ground s ns ts) (y : Outcome (Read Store)) → TakenIs y s ts us' (Ok (b, n)) → TakenIs (follow y (behind g.names)) s ts ws z
            go g (done x) w = subst (λ m. TakenIs (behind g.names x.what m) s ts ws z) (sym w.0) (k g x.what w.1)
            go g (refused m p) w = absurd w

        pub portions-wrong : (e : Refused) → t ≡ Err e → FillsAll s ns ts at (Err e) us'
        unfolding behind
        portions-wrong z d = after (Err z) us' (λ g st w. rw (sees (Err z) d).looks (refl, refl))

        module _ (y : Seen) (d : t ≡ Ok y) where
          behind-is : (names : List Name) (st : Store) (w : Bool) → is_name (token s y.kind y.place y.payload) ≡ w → behind names st (from s ts b) ≡ behind_by names st w (from s ts b)
          unfolding behind
          behind-is names st w q =
              ap (λ r. follow r (λ t. behind_by names st (is_name t))) (look_is s ts b y (sees (Ok y) d)) ∙ ap (λ w. behind_by names st w (from s ts b)) q

          pub portions-end : (y.kind ≡ 1 → ⊥) → FillsAll s ns ts at (Ok (b, n)) us'
          unfolding behind_by token
          portions-end z =
              after (Ok (b, n)) us' (λ g st w. subst (λ o. TakenIs o s ts us' (Ok (b, n))) (sym (behind-is g.names st false (ap is_some (no_name_lem s y.kind y.place y.payload z)))) (refl, w))

          pub portions-on : y.kind ≡ 1 → PortionsOn b n (k + 1) us'
          unfolding behind_by token kind_of name_of
          portions-on z = record { on = λ g. go g (portion_of g.names (o.on g).store (from s ts a)) (unrolled g) (filled g (Ok (b, n)) e) }
            where
              go : (g : Ground s ns ts) (y : Outcome (Read Store)) → portions_of g.names byte_limit [] (from s ts at) ≡ follow y (behind g.names) → TakenIs y s ts us' (Ok (b, n))
                  → PortionsSo g.names b n (k + 1) us'
              go g (done y) u w = record { store = y.what; holds = w.1; same = u ∙ ap (behind g.names y.what) w.0 ∙ behind-is g.names y.what true (rw z refl) }
              go g (refused m q) u w = absurd w

-- ---- the data section

module _ (s ns ts : List ℕ) (at p n : ℕ) (r : Result (ℕ × ℕ) Refused) (ds : Table) (h : FillsAll s ns ts at r ds) where
  closing : Store → Reader Given
  closing st = read_close >>= (λ _. give (record { title = spelling s (p + 1) n; store = st }))

  filled-as : (g : Ground s ns ts) (z : Result (ℕ × ℕ) Refused) → r ≡ z → TakenIs (portions_of g.names byte_limit [] (from s ts at)) s ts ds z
  filled-as g z e = subst (TakenIs (portions_of g.names byte_limit [] (from s ts at)) s ts ds) e (h.is g)

  pub closed-refused : (e : Refused) → r ≡ Err e → Sections (rest_in s p n) s ns ts at (Err e) ds
  unfolding rest_in closing
  closed-refused z e = record { is = λ g. go (portions_of g.names byte_limit [] (from s ts at)) (filled-as g (Err z) e) }
    where
      go : (o : Outcome (Read Store)) → TakenIs o s ts ds (Err z) → SectionIs (follow o closing) s ts ds (Err z)
      go (done x) k = absurd k
      go (refused r' q') k = k

  module _ (a count : ℕ) (e : r ≡ Ok (a, count)) (c : Result ℕ Refused) (l : Says passed read_close ts a c) where
    by-close : (z : Result Section Refused) → ((st : Store) → Stores ds count st → SectionIs (closing st (from s ts a)) s ts ds z) → Sections (rest_in s p n) s ns ts at z ds
    unfolding rest_in closing
    by-close z k = record { is = λ g. go (portions_of g.names byte_limit [] (from s ts at)) (filled-as g (Ok (a, count)) e) }
      where
        go : (o : Outcome (Read Store)) → TakenIs o s ts ds (Ok (a, count)) → SectionIs (follow o closing) s ts ds z
        go (done x) w = subst (λ m. SectionIs (closing x.what m) s ts ds z) (sym w.0) (k x.what w.1)
        go (refused m q) w = absurd w

    pub closed-not : (e : Refused) → c ≡ Err e → Sections (rest_in s p n) s ns ts at (Err e) ds
    unfolding closing
    closed-not z d = by-close (Err z) (λ st w. rw (l.is s, d) (refl, refl))

    pub closed-done : (b : ℕ) → c ≡ Ok b → Sections (rest_in s p n) s ns ts at (Ok (record { place = p; length = n; count = count; next = b })) ds
    unfolding closing
    closed-done b d = by-close (Ok (record { place = p; length = n; count = count; next = b })) (λ st w. rw (l.is s, d) (refl, refl, w))

module _ (s ns ts : List ℕ) (at : ℕ) (r : Result Title Refused) (h : Says titled read_string ts at r) where
  pub data-title : (e : Refused) (ds : Table) → r ≡ Err e → Sections data_of s ns ts at (Err e) ds
  unfolding data_of
  data-title z ds e = record { is = λ g. rw (h.is s, e) (refl, refl) }

  pub data-rest : (w : Titled) (z : Result Section Refused) (ds : Table) → r ≡ Ok w → Sections (rest_in s w.place w.length) s ns ts w.next z ds → Sections data_of s ns ts at z ds
  unfolding data_of rest_in
  data-rest y z ds e w = record { is = λ g. rw (h.is s, e) (w.is g) }

-- by its first word
section_by : List Name → Token → Bool → Reader Given
section_by names t b = elim b as (λ _. Reader Given) [
  | true ↦ data_of names
  | false ↦ require (is_mark close_word t) Misplaced t.place >>= (λ _. give (record { title = []; store = [] }))
]

module _ (s ns ts : List ℕ) (at : ℕ) (t : Result Seen Refused) (l : Looks ts at t) where
  sees-at : (w : Result Seen Refused) → t ≡ w → Sees s ts at w
  sees-at w q = subst (Sees s ts at) q (l.sees s)

  pub section-wrong : (e : Refused) (ds : Table) → t ≡ Err e → Sections section_in s ns ts at (Err e) ds
  unfolding section_in
  section-wrong z ds e = record { is = λ g. rw (sees-at (Err z) e).nexts (refl, refl) }

  module _ (y : Seen) (e : t ≡ Ok y) where
    is-mark : (c : ℕ) (b : Bool) → 5 < c → eqb y.kind c ≡ b → is_mark c (token s y.kind y.place y.payload) ≡ b
    unfolding token
    is-mark c b f q = rw (mark-of s y.kind y.place y.payload) (mark-same y.kind c f ∙ q)

    by_word : (names : List Name) (b : Bool) → eqb y.kind 132 ≡ b → section_in names (from s ts at) ≡ section_by names (token s y.kind y.place y.payload) b (from s ts y.next)
    unfolding section_in section_by
    by_word names b q =
        ap (λ r. follow r (λ t. section_by names t (is_mark init_word t))) (next-is s ts at y (sees-at (Ok y) e))
        ∙ ap (λ b. section_by names (token s y.kind y.place y.payload) b (from s ts y.next)) (is-mark 132 b (omega arith) q)

    pub section-data : (z : Result Section Refused) (ds : Table) → y.kind ≡ 132 → Sections data_of s ns ts y.next z ds → Sections section_in s ns ts at z ds
    unfolding section_by
    section-data z ds q w = record { is = λ g. subst (λ o. SectionIs o s ts ds z) (sym (by_word g.names true (eq-eqb y.kind 132 q))) (w.is g) }

    module _ (q : y.kind ≡ 132 → ⊥) where
      -- `CLOSE` is asked for
      by-close-word : (names : List Name) (b : Bool) → eqb y.kind 129 ≡ b → section_in names (from s ts at) ≡ follow (require b Misplaced y.place (from s ts y.next)) (λ _. give (record { title = []; store = [] }))
      unfolding section_by token
      by-close-word names b w =
          by_word names false (ne_eqb y.kind 132 q) ∙ ap (λ b. follow (require b Misplaced y.place (from s ts y.next)) (λ _. give (record { title = []; store = [] }))) (is-mark 129 b (omega arith) w)

      pub section-none : (ds : Table) → y.kind ≡ 129 → Sections section_in s ns ts at (Ok (record { place = 0; length = 0; count = 0; next = y.next })) ds
      unfolding require spelling bytes_from
      section-none ds w = record { is = λ g. subst (λ o. SectionIs o s ts ds (Ok (record { place = 0; length = 0; count = 0; next = y.next }))) (sym (by-close-word g.names true (eq-eqb y.kind 129 w))) (refl, refl, stores-none ds) }

      pub section-other : (ds : Table) → (y.kind ≡ 129 → ⊥) → Sections section_in s ns ts at (Err (record { refusal = Misplaced; place = y.place })) ds
      unfolding require
      section-other ds w = record { is = λ g. subst (λ o. SectionIs o s ts ds (Err (record { refusal = Misplaced; place = y.place }))) (sym (by-close-word g.names false (ne_eqb y.kind 129 w))) (refl, refl) }

-- ---- with the text's end

ending : Given → Reader Given
ending g = read_end >>= (λ _. give g)

data-joined : (names : List Name) (l : List Token) → read_data names l ≡ follow (section_in names l) ending
unfolding read_data section_in ending
data-joined names l = sym (follow-follow (next l) _ _)

module _ (s ns ts : List ℕ) (at : ℕ) (r : Result Section Refused) (ds : Table) (h : Sections section_in s ns ts at r ds) where
  section-as : (g : Ground s ns ts) (z : Result Section Refused) → r ≡ z → SectionIs (section_in g.names (from s ts at)) s ts ds z
  section-as g z e = subst (SectionIs (section_in g.names (from s ts at)) s ts ds) e (h.is g)

  pub read-refused : (e : Refused) → r ≡ Err e → ReadsData s ns ts at (Err e) ds
  read-refused z e = record { is = λ g. rw (data-joined g.names (from s ts at)) (go (section_in g.names (from s ts at)) (section-as g (Err z) e)) }
    where
      go : (o : Outcome (Read Given)) → SectionIs o s ts ds (Err z) → GivenIs (follow o ending) s ds (Err z)
      go (done x) k = absurd k
      go (refused r' q') k = k

  module _ (w : Section) (e : r ≡ Ok w) (c : Result ℕ Refused) (l : Says passed read_end ts w.next c) where
    pub read-not : (e : Refused) → c ≡ Err e → ReadsData s ns ts at (Err e) ds
    unfolding ending
    read-not z d = record { is = λ g. rw (data-joined g.names (from s ts at)) (go (section_in g.names (from s ts at)) (section-as g (Ok w) e)) }
      where
        go : (o : Outcome (Read Given)) → SectionIs o s ts ds (Ok w) → GivenIs (follow o ending) s ds (Err z)
        go (done x) k = rw (k.0, l.is s, d) (refl, refl)
        go (refused r' q') k = absurd k

    pub read_done : (b : ℕ) → c ≡ Ok b → ReadsData s ns ts at (Ok (record { place = w.place; length = w.length; count = w.count })) ds
    unfolding ending
    read_done b d = record { is = λ g. rw (data-joined g.names (from s ts at)) (go (section_in g.names (from s ts at)) (section-as g (Ok w) e)) }
      where
        go : (o : Outcome (Read Given)) → SectionIs o s ts ds (Ok w) → GivenIs (follow o ending) s ds (Ok (record { place = w.place; length = w.length; count = w.count }))
        go (done x) k = rw (k.0, l.is s, d) (k.1, k.2)
        go (refused r' q') k = absurd k
