-- Laws of one entry of a list, over plain variables.
use Rattle.std.specs.Prelude.{Err, None, Ok, Option, Result, Some}
use Rattle.rules.specs.declared.Refused.{Refused}
use mathlib.Core.Path.{◌≡◌, refl, sym, ◌∙◌, ap, subst}
use mathlib.Core.Bool.{Bool, true, false, not}
use mathlib.Core.List.{List}
use Prim.Native.Nat.{ℕ, ◌/◌, ◌<◌, ◌≤◌}
use native.Mathlib.Omega.{arith}
use lib.Dec.{eqb, ltb}
use lib.ListN.{length}
use borrow.Author.Tests.{eq-eqb, ne_eqb, lt-ltb, le-ltb}
use Rattle.rules.specs.declared.Refusal.TheVariants.{Misplaced, BadName, Full}
use Rattle.rules.specs.Limits.{name_limit}
use Rattle.lexer.specs.Text.{Token}
use Rattle.lexer.specs.Marks.{comma, semicolon}
use Rattle.language.specs.Outcome.{refused}
use Rattle.language.specs.Syntax.{Name, Sort}
use Rattle.language.specs.Reader.{Reader, follow, ◌>>=◌, give, is_mark, is_some, demand, require, name_of, Titled, find}
use Rattle.language.specs.Declarations.{new_name}
use Rattle.tokens.specs.declared.Seen.{Seen}
use Rattle.tokens.specs.declared.Found.{Found}
use Rattle.tokens.specs.Stored.{name_bytes, spelling, kind_of, token, from, Sees, Looks, look_up, Named, Moves, Gives}
use Rattle.tokens.proofs.Tables.{no_name_lem, declared, not-declared, named-length}
use Rattle.tokens.proofs.Moved.{Got, gives_at, gives-refused, got, stuck, next-is, is-mark}
use Rattle.declarations.specs.declared.Title.{Title}
use Rattle.declarations.specs.Readers.{new_name_in, separator_in, entry_in, One, row_in}
use Rattle.declarations.specs.Tables.{IsMore, IsTitle, TitleUpTo, Entered, IsRow, RowUpTo}

-- ---- a new name

module _ (s ns ts : List ℕ) (at : ℕ) (t : Result Seen Refused) (l : Looks ts at t) where
  sees : (w : Result Seen Refused) → t ≡ w → Sees s ts at w
  sees w e = subst (Sees s ts at) e (l.sees s)

  untitled-with : (e : Refused) → ((names : List Name) → Named s ns names → new_name names (from s ts at) ≡ refused e.refusal e.place) → Moves new_name_in s ns ts at (Err e)
  unfolding new_name_in
  untitled-with z g = (gives-refused new_name_in (IsTitle s 0 0) s ns ts at z g).moves

  pub title-wrong : (e : Refused) → t ≡ Err e → Moves new_name_in s ns ts at (Err e)
  unfolding new_name
  title-wrong z e = untitled-with z (λ names d. rw (sees (Err z) e).nexts refl)

  pub title-no-name : (w : Seen) → t ≡ Ok w → (w.kind ≡ 1 → ⊥) → Moves new_name_in s ns ts at (Err (record { refusal = Misplaced; place = w.place }))
  unfolding new_name token demand
  title-no-name z e i = untitled-with (record { refusal = Misplaced; place = z.place }) (λ names d. rw (next-is s ts at z (sees _ e), no_name_lem s z.kind z.place z.payload i) refl)

  -- a name, and what is asked of it
  title_rest : List Name → List ℕ → ℕ → Reader Titled
  title_rest names w p =
      require (not (is_some (find w names 0 0))) BadName p >>= (λ _. require (ltb (length names) name_limit) Full p >>= (λ _. give (record { title = w; place = p })))

  title-is : (w : Seen) (names : List Name) → t ≡ Ok w → w.kind ≡ 1 → new_name names (from s ts at) ≡ title_rest names (spelling s w.place (name_bytes w.payload)) w.place (from s ts w.next)
  unfolding new_name token kind_of demand name_of title_rest
  title-is z names e i = rw (next-is s ts at z (sees _ e), i) refl

  pub title-again : (w : Seen) (z : Found) (f : Option Found) → t ≡ Ok w → w.kind ≡ 1 → f ≡ look_up s (spelling s w.place (name_bytes w.payload)) ns 0 → f ≡ Some z
      → Moves new_name_in s ns ts at (Err (record { refusal = BadName; place = w.place }))
  unfolding title_rest require
  title-again w y f e j g h =
      untitled-with (record { refusal = BadName; place = w.place }) (λ names d.
      let u = declared s (spelling s w.place (name_bytes w.payload)) ns names 0 0 y d (sym g ∙ h) in
      title-is w names e j ∙ rw u.stands refl)

  module _ (w : Seen) (f : Option Found) (e : t ≡ Ok w) (j : w.kind ≡ 1) (g : f ≡ look_up s (spelling s w.place (name_bytes w.payload)) ns 0) (h : f ≡ None) where
    title-by : (b : Bool) (names : List Name) → Named s ns names → ltb (length names) 64 ≡ b
        → new_name names (from s ts at) ≡ (require b Full w.place >>= (λ _. give (record { title = spelling s w.place (name_bytes w.payload); place = w.place }))) (from s ts w.next)
    unfolding title_rest require name_limit
    title-by b names d i = title-is w names e j ∙ rw (not-declared s (spelling s w.place (name_bytes w.payload)) ns names 0 0 d (sym g ∙ h), i) refl

    pub title-full : 64 ≤ length ns / 5 → Moves new_name_in s ns ts at (Err (record { refusal = Full; place = w.place }))
    unfolding require
    title-full i = untitled-with (record { refusal = Full; place = w.place }) (λ names d. title-by false names d (le-ltb (length names) 64 (omega (arith, named-length s ns names d))))

    pub title-new : length ns / 5 < 64 → TitleUpTo s ns ts at (record { place = w.place; bytes = name_bytes w.payload }) w.next
    unfolding require new_name_in
    title-new i =
        record {
          gives = gives_at new_name_in (IsTitle s w.place (name_bytes w.payload)) s ns ts at w.next (λ names d. record {
            what = record { title = spelling s w.place (name_bytes w.payload); place = w.place };
            reads = title-by true names d (lt-ltb (length names) 64 (omega (arith, named-length s ns names d)));
            holds = record { title = refl; place = refl };
          });
          room = i;
        }

  -- ---- the sign behind an entry

  sep_turn : Token → Bool → Reader Bool
  sep_turn w b = elim b as (λ _. Reader Bool) [ true ↦ give true | false ↦ require (is_mark semicolon w) Misplaced w.place >>= (λ _. give false) ]

  separator-by : (w : Seen) (v : Bool) (names : List Name) → t ≡ Ok w → eqb w.kind 44 ≡ v → separator_in names (from s ts at) ≡ sep_turn (token s w.kind w.place w.payload) v (from s ts w.next)
  unfolding separator_in sep_turn
  separator-by z v names e i =
      ap (λ o. follow o (λ w. sep_turn w (is_mark comma w))) (next-is s ts at z (sees _ e)) ∙ ap (λ v. sep_turn (token s z.kind z.place z.payload) v (from s ts z.next)) (is-mark s 44 z.kind z.place z.payload (omega arith) ∙ i)

  pub separator-comma : (w : Seen) → t ≡ Ok w → w.kind ≡ 44 → Gives separator_in (IsMore true) s ns ts at (Ok w.next)
  unfolding sep_turn
  separator-comma z e i =
      gives_at separator_in (IsMore true) s ns ts at z.next (λ names d. record { what = true; reads = separator-by z true names e (eq-eqb z.kind 44 i); holds = record { more = refl } })

  -- no comma
  separator-other : (w : Seen) (v : Bool) (names : List Name) → t ≡ Ok w → (w.kind ≡ 44 → ⊥) → eqb w.kind 59 ≡ v
      → separator_in names (from s ts at) ≡ (require v Misplaced w.place >>= (λ _. give false)) (from s ts w.next)
  unfolding sep_turn token
  separator-other z v names e i j =
      separator-by z false names e (ne_eqb z.kind 44 i) ∙ ap (λ v. (require v Misplaced z.place >>= (λ _. give false)) (from s ts z.next)) (is-mark s 59 z.kind z.place z.payload (omega arith) ∙ j)

  pub separator-end : (w : Seen) → t ≡ Ok w → (w.kind ≡ 44 → ⊥) → w.kind ≡ 59 → Gives separator_in (IsMore false) s ns ts at (Ok w.next)
  unfolding require
  separator-end z e i j =
      gives_at separator_in (IsMore false) s ns ts at z.next (λ names d. record { what = false; reads = separator-other z true names e i (eq-eqb z.kind 59 j); holds = record { more = refl } })

  pub separator-no : (w : Seen) → t ≡ Ok w → (w.kind ≡ 44 → ⊥) → (w.kind ≡ 59 → ⊥) → Moves separator_in s ns ts at (Err (record { refusal = Misplaced; place = w.place }))
  unfolding require
  separator-no z e i j = (gives-refused separator_in (IsMore false) s ns ts at (record { refusal = Misplaced; place = z.place }) (λ names d. separator-other z false names e i (ne_eqb z.kind 59 j))).moves

  pub separator-wrong : (e : Refused) → t ≡ Err e → Moves separator_in s ns ts at (Err e)
  unfolding separator_in
  separator-wrong z e = (gives-refused separator_in (IsMore false) s ns ts at z (λ names d. rw (sees (Err z) e).nexts refl)).moves

-- ---- one entry

module _ (s ns ts : List ℕ) (k at : ℕ) where
  abbrev one : Titled → Sort → Bool → One
  one x y b = record { name = record { spelling = x.title; place = x.place; sort = y }; more = b }

  sign_rest : Titled → Sort → List Name → Reader One
  sign_rest x y names = separator_in names >>= (λ b. give (one x y b))

  entry_rest : Titled → List Name → Reader One
  entry_rest x names = entry_in k names >>= (λ y. sign_rest x y names)

  no_row : (e : Refused) → ((names : List Name) → Named s ns names → row_in k names (from s ts at) ≡ refused e.refusal e.place) → Moves (row_in k) s ns ts at (Err e)
  no_row z g = (gives-refused (row_in k) (IsRow s ts k 0 0 0 0 false) s ns ts at z g).moves

  row_is : (names : List Name) → row_in k names (from s ts at) ≡ follow (new_name names (from s ts at)) (λ x. entry_rest x names)
  unfolding row_in entry_rest sign_rest
  row_is names = refl

  pub row-title : (e : Refused) → Moves new_name_in s ns ts at (Err e) → Moves (row_in k) s ns ts at (Err e)
  unfolding new_name_in
  row-title z h = no_row z (λ names d. row_is names ∙ ap (λ o. follow o (λ x. entry_rest x names)) (stuck new_name_in s ns ts at (Err z) h names d z refl))

  module _ (title : Title) (a : ℕ) (h : TitleUpTo s ns ts at title a) where
    title-got : (names : List Name) → Named s ns names → Got (new_name_in names) (IsTitle s title.place title.bytes names) s ts at a
    title-got names d = got new_name_in (IsTitle s title.place title.bytes) s ns ts at a h.gives names d

    -- behind the name
    two : (names : List Name) (d : Named s ns names) → row_in k names (from s ts at) ≡ follow (entry_in k names (from s ts a)) (λ y. sign_rest (title-got names d).what y names)
    unfolding new_name_in entry_rest
    two names d = row_is names ∙ ap (λ o. follow o (λ x. entry_rest x names)) (title-got names d).reads

    pub row-entry : (e : Refused) → Moves (entry_in k) s ns ts a (Err e) → Moves (row_in k) s ns ts at (Err e)
    row-entry w g =
        no_row w (λ names d. two names d ∙ ap (λ o. follow o (λ y. sign_rest (title-got names d).what y names)) (stuck (entry_in k) s ns ts a (Err w) g names d w refl))

    module _ (c i b : ℕ) (g : Gives (entry_in k) (Entered s ts k c i) s ns ts a (Ok b)) where
      entry-got : (names : List Name) → Named s ns names → Got (entry_in k names) (Entered s ts k c i names) s ts a b
      entry-got names d = got (entry_in k) (Entered s ts k c i) s ns ts a b g names d

      -- behind the entry
      three : (names : List Name) (d : Named s ns names) → row_in k names (from s ts at) ≡ follow (separator_in names (from s ts b)) (λ b'. give (one (title-got names d).what (entry-got names d).what b'))
      unfolding sign_rest
      three names d = two names d ∙ ap (λ o. follow o (λ y. sign_rest (title-got names d).what y names)) (entry-got names d).reads

      pub row-sign : (e : Refused) → Moves separator_in s ns ts b (Err e) → Moves (row_in k) s ns ts at (Err e)
      row-sign e u =
          no_row e (λ names d. three names d ∙ ap (λ o. follow o (λ b'. give (one (title-got names d).what (entry-got names d).what b'))) (stuck separator_in s ns ts b (Err e) u names d e refl))

      pub row-all : (v : Bool) (j : ℕ) → Gives separator_in (IsMore v) s ns ts b (Ok j) → RowUpTo s ns ts k at (record { place = title.place; bytes = title.bytes; count = c; position = i; more = v }) j
      row-all v j u =
          record {
            gives = gives_at (row_in k) (IsRow s ts k title.place title.bytes c i v) s ns ts at j (λ names d.
                let w = got separator_in (IsMore v) s ns ts b j u names d in
                let x = title-got names d in
                let y = entry-got names d in
                record {
                  what = one x.what y.what w.what;
                  reads = three names d ∙ ap (λ o. follow o (λ b'. give (one x.what y.what b'))) w.reads;
                  holds = record { title = x.holds.title; place = x.holds.place; shaped = y.holds.shaped; declares = y.holds.declares; more = w.holds.more };
                });
            room = h.room;
          }
