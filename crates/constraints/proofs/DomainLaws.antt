-- Laws of a domain's entries, over plain variables.
use Rattle.std.specs.Prelude.{Err, Ok, Result}
use Rattle.rules.specs.declared.Refused.{Refused}
use mathlib.Core.Path.{◌≡◌, refl, sym, ◌∙◌, ap, subst}
use mathlib.Core.Bool.{Bool, true, false}
use mathlib.Core.List.{List}
use Prim.Native.Nat.{ℕ, zero, suc, ◌+◌, ◌-◌, ◌<◌, ◌≤◌}
use native.Mathlib.Omega.{arith}
use lib.Dec.{eqb}
use borrow.Author.Tests.{eq-eqb, ne_eqb}
use Rattle.rules.specs.Limits.{nesting_limit, index_limit}
use Rattle.lexer.specs.Text.{Token}
use Rattle.lexer.specs.Marks.{opens, closes, comma}
use Rattle.language.proofs.Outcome.{refused-done}
use Rattle.language.specs.Syntax.{Name, Spans, point}
use Rattle.language.specs.Reader.{Reader, follow, ◌>>=◌, give, next, look, is_mark, expect, bracket, read_index}
use Rattle.language.specs.Formulas.{Entry, in_domain, entry_of, span_of, entries_of, domain_of, optional_domain}
use Rattle.onepass.specs.Entries.{read}
use Rattle.onepass.proofs.Steps.{after_read, same-what, same_rest, bracket-is, expect-is}
use Rattle.tokens.specs.declared.Seen.{Seen}
use Rattle.tokens.specs.Stored.{token, from, size, Sees, Looks, Named, Moves, Stands}
use Rattle.tokens.specs.Pieces.{index_in}
use Rattle.tokens.proofs.Moved.{stood, stuck, next-is, look_is, is-mark}
use Rattle.domains.specs.Domains.{entry_with}
use Rattle.constraints.specs.Shape.{EntriesAre, SizeIs}

-- ---- entries

abbrev Entries : List Name → ℕ → Reader Spans
Entries names n = entries_of (in_domain names) (read_index names) n

-- what follows an entry
turn : List Name → ℕ → Entry → Bool → Reader Spans
turn names n e b = elim b as (λ _. Reader Spans) [
  | true ↦ next >>= (λ _. Entries names n >>= (λ d. give (span_of e d)))
  | false ↦ expect closes >>= (λ _. give (span_of e point))
]

one_entry_lem : (e : Entry) → size (span_of e point) ≡ 1
unfolding size
one_entry_lem e = refl

more-entries : (e : Entry) (d : Spans) → size (span_of e d) ≡ suc (size d)
unfolding size
more-entries e d = refl

module _ (names : List Name) (l : List Token) (d : Spans) (rest : List Token) where
  last-size : Entries names 0 l ≡ read d rest → size d ≡ 1
  unfolding entries_of
  last-size h =
      after_read (entry_of (in_domain names) (read_index names) l) _ _ h λ x m _ e.
      after_read (expect closes m) _ _ e λ p n _ e.
      ap size (sym (same-what e)) ∙ one_entry_lem x

  entry-reads : (k : ℕ) → Entries names (suc k) l ≡ read d rest
      → (x : Entry) × (m : List Token) × (entry_of (in_domain names) (read_index names) l ≡ read x m) × (follow (look m) (λ t. turn names k x (is_mark comma t)) ≡ read d rest)
  unfolding entries_of turn
  entry-reads k h = after_read (entry_of (in_domain names) (read_index names) l) _ _ h λ x m g e. (x, m, g, e)

end-size : (names : List Name) (k : ℕ) (x : Entry) (l : List Token) (d : Spans) (rest : List Token) → turn names k x false l ≡ read d rest → size d ≡ 1
unfolding turn
end-size names k x l d rest h = after_read (expect closes l) _ _ h λ p n _ e. ap size (sym (same-what e)) ∙ one_entry_lem x

more-reads : (names : List Name) (k : ℕ) (x : Entry) (l : List Token) (d : Spans) (rest : List Token) → turn names k x true l ≡ read d rest
    → (m : List Token) × (u : Token) × (d' : Spans) × (n : List Token) × (next l ≡ read u m) × (Entries names k m ≡ read d' n) × (size d ≡ suc (size d'))
unfolding turn
more-reads names k x l d rest h =
    after_read (next l) _ _ h λ u m g e.
    after_read (Entries names k m) _ _ e λ d' n i e.
    (m, u, d', n, g, i, ap size (sym (same-what e)) ∙ more-entries x d')

-- the first one and at most n more
few-turn : (names : List Name) (k : ℕ) (x : Entry) (l : List Token) (d : Spans) (rest : List Token) → ((m : List Token) (e : Spans) (n : List Token) → Entries names k m ≡ read e n → size e ≤ suc k)
    → (b : Bool) → turn names k x b l ≡ read d rest → size d ≤ suc (suc k)
few-turn names k x l d rest few true e = let (m, u, d', n, g, i, j) = more-reads names k x l d rest e in omega (arith, j, few m d' n i)
few-turn names k x l d rest few false e = omega (arith, end-size names k x l d rest e)

pub few-entries : (names : List Name) (n : ℕ) (l : List Token) (d : Spans) (rest : List Token) → Entries names n l ≡ read d rest → size d ≤ suc n
few-entries names zero l d rest h = omega (arith, last-size names l d rest h)
few-entries names (suc k) l d rest h =
    let (x, m, u, v) = entry-reads names l d rest k h in
    after_read (look m) _ _ v λ t o _ e. few-turn names k x o d rest (few-entries names k) (is_mark comma t) e

-- n entries are counted, the last of which stands at a
pub record Counting (s ns ts : List ℕ) (at a n : ℕ) : Type 0 where
  pub some : 1 ≤ n
  pub few : n ≤ 4
  pub left : (names : List Name) → Named s ns names → (d : Spans) → Stands (Entries names 3) s ts at d
      → (d' : Spans) × Stands (Entries names (4 - n)) s ts a d' × (size d + 1 ≡ size d' + n)

module _ (s ns ts : List ℕ) (at : ℕ) where
  pub counting-first : Counting s ns ts at at 1
  counting-first = record { some = omega arith; few = omega arith; left = λ names h d st. (d, st, refl) }

  module _ (a n : ℕ) (c : Counting s ns ts at a n) where
    pub counting-full : 4 ≤ n → EntriesAre s ns ts at 4
    counting-full g =
        record {
          few = omega arith;
          is = λ names h d st.
              let (d', x, e) = c.left names h d st in
              let z : 4 - n ≡ 0 = omega arith in
              omega (arith, last-size names (from s ts a) d' x.rest (subst (λ k. Entries names k (from s ts a) ≡ read d' x.rest) z x.reads));
        }

    -- the entry and what follows it
    module _ (g : n < 4) (r : Result ℕ Refused) (h : Moves (entry_with index_in) s ns ts a r) where
      Follows : List Name → Spans → Type 0
      Follows names d = (d' : Spans) × (x : Entry) × (m rest : List Token) × (entry_of (in_domain names) (read_index names) (from s ts a) ≡ read x m)
          × (follow (look m) (λ t. turn names (4 - (n + 1)) x (is_mark comma t)) ≡ read d' rest) × (size d + 1 ≡ size d' + n)

      follows : (names : List Name) → Named s ns names → (d : Spans) → Stands (Entries names 3) s ts at d → Follows names d
      unfolding Follows
      follows names k d st =
          let (d', y, e) = c.left names k d st in
          let z : 4 - n ≡ suc (4 - (n + 1)) = omega arith in
          let (x, m, u, v) = entry-reads names (from s ts a) d' y.rest (4 - (n + 1)) (subst (λ k. Entries names k (from s ts a) ≡ read d' y.rest) z y.reads) in
          (d', x, m, y.rest, u, v, e)

      pub counting-stuck : (e : Refused) → r ≡ Err e → EntriesAre s ns ts at n
      unfolding Follows entry_with index_in
      counting-stuck z e =
          record {
            few = c.few;
            is = λ names k d st.
                let (d', x, m, rest, u, v, w) = follows names k d st in
                absurd (refused-done (sym (stuck (entry_with index_in) s ns ts a r h names k z e) ∙ u));
          }

      module _ (b : ℕ) (e : r ≡ Ok b) (t : Result Seen Refused) (l : Looks ts b t) where
        -- the rest of the tokens stands at b
        Turns : List Name → Spans → Type 0
        Turns names d = (d' : Spans) × (x : Entry) × (rest : List Token) × (follow (look (from s ts b)) (λ t. turn names (4 - (n + 1)) x (is_mark comma t)) ≡ read d' rest) × (size d + 1 ≡ size d' + n)

        turns : (names : List Name) → Named s ns names → (d : Spans) → Stands (Entries names 3) s ts at d → Turns names d
        unfolding Follows Turns entry_with index_in
        turns names k d st =
            let (d', x, m, rest, u, v, w) = follows names k d st in
            let y = stood (entry_with index_in) s ns ts a r h names k b e in
            let z : m ≡ from s ts b = same_rest (sym u ∙ y.reads) in
            (d', x, rest, subst (λ q. follow (look q) (λ t. turn names (4 - (n + 1)) x (is_mark comma t)) ≡ read d' rest) z v, w)

        pub counting-wrong : (e : Refused) → t ≡ Err e → EntriesAre s ns ts at n
        unfolding Turns
        counting-wrong z j =
            record {
              few = c.few;
              is = λ names k d st.
                  let (d', x, rest, v, w) = turns names k d st in
                  after_read (look (from s ts b)) _ _ v λ u m q o. absurd (refused-done (sym (subst (Sees s ts b) j (l.sees s)).looks ∙ q));
            }

        -- the sign behind the entry
        Chosen : List Name → Spans → Bool → Type 0
        Chosen names d v = (d' : Spans) × (x : Entry) × (rest : List Token) × (turn names (4 - (n + 1)) x v (from s ts b) ≡ read d' rest) × (size d + 1 ≡ size d' + n)

        chosen : (w : Seen) (v : Bool) → t ≡ Ok w → eqb w.kind 44 ≡ v → (names : List Name) → Named s ns names → (d : Spans) → Stands (Entries names 3) s ts at d → Chosen names d v
        unfolding Turns Chosen
        chosen seen v j f names o d st =
            let (d', y, rest, u, w) = turns names o d st in
            let look : look (from s ts b) ≡ read (token s seen.kind seen.place seen.payload) (from s ts b) = look_is s ts b seen (subst (Sees s ts b) j (l.sees s)) in (
              d',
              y,
              rest,
              subst (λ v. turn names (4 - (n + 1)) y v (from s ts b) ≡ read d' rest) (is-mark s 44 seen.kind seen.place seen.payload (omega arith) ∙ f)
                  (subst (λ z. follow z (λ t. turn names (4 - (n + 1)) y (is_mark comma t)) ≡ read d' rest) look u),
              w,
            )

        pub counting-end : (w : Seen) → t ≡ Ok w → (w.kind ≡ 44 → ⊥) → EntriesAre s ns ts at n
        unfolding Chosen
        counting-end z j f =
            record {
              few = c.few;
              is = λ names o d st.
                  let (d', y, rest, u, w) = chosen z false j (ne_eqb z.kind 44 f) names o d st in
                  omega (arith, end-size names (4 - (n + 1)) y (from s ts b) d' rest u);
            }

        pub counting_more : (w : Seen) → t ≡ Ok w → w.kind ≡ 44 → Counting s ns ts at w.next (n + 1)
        unfolding Chosen
        counting_more seen j f =
            record {
              some = omega arith;
              few = omega arith;
              left = λ names o d st.
                  let (d', y, rest, u, w) = chosen seen true j (eq-eqb seen.kind 44 f) names o d st in
                  let (m, z, d'', r, g, i, e) = more-reads names (4 - (n + 1)) y (from s ts b) d' rest u in
                  let same : m ≡ from s ts seen.next = same_rest (sym g ∙ next-is s ts b seen (subst (Sees s ts b) j (l.sees s))) in
                  (d'', record { rest = r; reads = subst (λ v. Entries names (4 - (n + 1)) v ≡ read d'' r) same i }, omega arith);
            }

-- ---- a domain

choice : List Name → Bool → Reader Spans
choice names b = elim b as (λ _. Reader Spans) [ true ↦ domain_of names | false ↦ give point ]

module _ (s ts : List ℕ) (at : ℕ) (t : Result Seen Refused) (l : Looks ts at t) (names : List Name) (d : Spans) (st : Stands (optional_domain names) s ts at d) where
  -- a domain is read where a token stands
  pub domain-wrong : (e : Refused) → t ≡ Err e → ⊥
  unfolding optional_domain
  domain-wrong z j = after_read (look (from s ts at)) _ _ st.reads λ u m q o. refused-done (sym (subst (Sees s ts at) j (l.sees s)).looks ∙ q)

  module _ (w : Seen) (j : t ≡ Ok w) where
    chosen-domain : (v : Bool) → eqb w.kind 40 ≡ v → choice names v (from s ts at) ≡ read d st.rest
    unfolding optional_domain choice
    chosen-domain v f =
        let look : look (from s ts at) ≡ read (token s w.kind w.place w.payload) (from s ts at) = look_is s ts at w (subst (Sees s ts at) j (l.sees s)) in
        subst (λ v. choice names v (from s ts at) ≡ read d st.rest) (is-mark s 40 w.kind w.place w.payload (omega arith) ∙ f)
        (subst (λ z. follow z (λ t. choice names (is_mark opens t)) ≡ read d st.rest) look st.reads)

    -- none without its bracket
    pub domain-none : (w.kind ≡ 40 → ⊥) → point ≡ d
    unfolding choice
    domain-none f = same-what (chosen-domain false (ne_eqb w.kind 40 f))

    -- its entries stand behind its bracket
    pub domain-some : w.kind ≡ 40 → Stands (Entries names 3) s ts w.next d
    unfolding choice domain_of index_limit
    domain-some f =
        after_read (bracket opens nesting_limit (from s ts at)) _ _ (chosen-domain true (eq-eqb w.kind 40 f)) λ c m g e.
        let same : m ≡ from s ts w.next = same_rest (sym (expect-is opens _ c m (bracket-is opens nesting_limit _ c m g)).stands ∙ next-is s ts at w (subst (Sees s ts at) j (l.sees s))) in
        record { rest = st.rest; reads = subst (λ v. Entries names 3 v ≡ read d st.rest) same e }

module _ (s ns ts : List ℕ) (at : ℕ) (t : Result Seen Refused) (l : Looks ts at t) where
  pub size-wrong : (e : Refused) → t ≡ Err e → SizeIs s ns ts at 0
  size-wrong z j = record { few = omega arith; is = λ names o d st. absurd (domain-wrong s ts at t l names d st z j) }

  pub size_none : (w : Seen) → t ≡ Ok w → (w.kind ≡ 40 → ⊥) → SizeIs s ns ts at 0
  unfolding size
  size_none z j f = record { few = omega arith; is = λ names o d st. ap size (sym (domain-none s ts at t l names d st z j f)) }

  pub size-some : (w : Seen) (n : ℕ) → t ≡ Ok w → w.kind ≡ 40 → EntriesAre s ns ts w.next n → SizeIs s ns ts at n
  size-some z n j f h = record { few = h.few; is = λ names o d st. h.is names o d (domain-some s ts at t l names d st z j f) }
