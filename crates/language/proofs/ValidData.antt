-- A data section that is read from valid literals gives a valid store.
use Rattle.std.specs.Prelude.{Option, Some, None}
use mathlib.Core.Path.{◌≡◌, refl, subst}
use mathlib.Core.Bool.{Bool, true, false, cond}
use mathlib.Core.List.{List, [], ◌∷◌}
use Prim.Native.Nat.{ℕ, zero, suc}
use lib.Dec.{eqb}
use lib.IntN.{ℤ}
use Rattle.rules.specs.Limits.{nesting_limit}
use Rattle.rules.specs.declared.Refusal.{Refusal}
use Rattle.lexer.specs.Marks.{plus_sign, minus_sign, comma, opens, closes_list, init_word}
use Rattle.lexer.specs.Text.{Token, Kind, same_bytes}
use Rattle.lexer.specs.Text
use Rattle.value.specs.declared.Value.{Value}
use Rattle.value.specs.Decimal.{Valid}
use Rattle.value.proofs.Integers.{nat_abs-neg}
use Rattle.value.proofs.Operations.{negate-valid}
use Rattle.language.specs.All.{All}
use Rattle.language.specs.Outcome.{Outcome, done, refused}
use Rattle.language.proofs.Outcome.{done-injective, some-injective}
use Rattle.language.specs.Syntax.{Name, Sort, Spans, point, span}
use Rattle.language.specs.Syntax
use Rattle.language.specs.Reader.{Read, Reader, ◌>>=◌, give, refuse, lift, passed, next, look, is_mark, is_name, demand, require, expect, bracket, read_string, Used, find, found, known, read_known, read_index}
use Rattle.language.specs.Store.{Store, scope_of, Portion, portion_by, Bound, set_at, element_of, position_run, accept}
use Rattle.language.specs.Data.{Entry, fixed, marked, digits_of, with_minus, signed_entry, entry_by, read_entry, entries_of, marks_of, positions_of, order_from, read_order, bound_of, value_of, signed_value, read_number, each_read, runs, subscripted_portion, is_point, portion_of, portions_of, Given, read_close, data_of, read_end, read_data}
use Rattle.language.specs.Literals.{AllSpans, AllSort, AllNames}
use Rattle.language.specs.Valid.{Small, SmallElement, ValidStore}
use Rattle.language.proofs.Taken.{after_read}
use Rattle.language.proofs.Shapes.{Shaped, AllShaped}
use Rattle.language.proofs.ValidStore.{scope-valid, accept-valid, SmallBound, set_at-small, element_of-small, position_run-valid}

-- ---- readers over tokens whose literals are valid

abbrev pub ValidTokens : List Token → Type 0
ValidTokens ts = AllShaped Valid ts

abbrev ValidToken : Token → Type 0
ValidToken t = Shaped Valid t.kind

-- what is read has Q, and the tokens left are valid
pub record Got {A : Type 0} (Q : A → Type 0) (r : Read A) : Type 0 where
  pub what : Q r.what
  pub rest : ValidTokens r.rest

pub record Gives {A : Type 0} (m : Reader A) (Q : A → Type 0) : Type 0 where
  pub gives : (ts : List Token) (r : Read A) → ValidTokens ts → m ts ≡ done r → Got Q r

-- nothing is asked of what is read
abbrev Any : {A : Type 0} → A → Type 0
Any a = Unit

module _ {A : Type 0} {Q : A → Type 0} where
  given : {a : A} → Q a → Gives (give a) Q
  given {a} q = record { gives = λ ts r h e. subst (Got Q) (done-injective e) (record { what = q; rest = h }) }

  refusing : {n : Refusal} {p : ℕ} → Gives (refuse {A = A} n p) Q
  refusing = record { gives = λ ts r h e. cc }

  lifted : (o : Outcome A) → ((a : A) → o ≡ done a → Q a) → Gives (lift o) Q
  lifted (done a) q = given (q a refl)
  lifted (refused n p) q = refusing

  demanded : (o : Option A) (p : ℕ) → ((a : A) → o ≡ Some a → Q a) → Gives (demand o p) Q
  unfolding demand
  demanded (Some a) p q = given (q a refl)
  demanded None p q = refusing

  either : (t : Bool) {m n : Reader A} → Gives m Q → Gives n Q → Gives (elim t as (λ _. Reader A) [ true ↦ m | false ↦ n ]) Q
  either true a b = a
  either false a b = b

  choice : (t : Bool) {m n : Reader A} → Gives m Q → Gives n Q → Gives (cond t m n) Q
  choice true a b = a
  choice false a b = b

module _ {A B : Type 0} {Q : A → Type 0} {R : B → Type 0} where
  then : {m : Reader A} {f : A → Reader B} → Gives m Q → ((a : A) → Q a → Gives (f a) R) → Gives (m >>= f) R
  then {m} {f} gm gf =
      record { gives = λ ts r h e. after_read (m ts) f r e λ x mx e. let g = gm.gives ts x h mx in (gf x.what g.what).gives x.rest r g.rest e }

-- ---- one token, one name

passed-valid : (k : Kind) (t : Token) (ts : List Token) (r : Read Token) → ValidToken t → ValidTokens ts → passed k t ts ≡ done r → Got ValidToken r
unfolding passed
passed-valid (Text.mark c) t ts r ht h e = subst (Got ValidToken) (done-injective e) (record { what = ht; rest = h })
passed-valid (Text.name l) t ts r ht h e = subst (Got ValidToken) (done-injective e) (record { what = ht; rest = h })
passed-valid (Text.literal w v) t ts r ht h e = subst (Got ValidToken) (done-injective e) (record { what = ht; rest = h })
passed-valid (Text.string l) t ts r ht h e = subst (Got ValidToken) (done-injective e) (record { what = ht; rest = h })
passed-valid Text.end t ts r ht h e = subst (Got ValidToken) (done-injective e) (record { what = ht; rest = h })
passed-valid (Text.wrong n) t ts r ht h e = cc

next-valid : Gives next ValidToken
unfolding next
next-valid = record { gives = go }
  where
    go : (ts : List Token) (r : Read Token) → ValidTokens ts → next ts ≡ done r → Got ValidToken r
    go [] r h e = cc
    go (t ∷ ts) r h e = passed-valid t.kind t ts r h.0 h.1 e

look-valid : Gives look ValidToken
unfolding look
look-valid = record { gives = go }
  where
    go : (ts : List Token) (r : Read Token) → ValidTokens ts → look ts ≡ done r → Got ValidToken r
    go [] r h e = cc
    go (t ∷ ts) r h e = passed-valid t.kind t (t ∷ ts) r h.0 h e

required : (t : Bool) (n : Refusal) (p : ℕ) → Gives (require t n p) Any
unfolding require
required true n p = given tt
required false n p = refusing

expected : (c : ℕ) → Gives (expect c) Any
unfolding expect
expected c = then next-valid (λ t _. then (required _ _ _) (λ _ _. given tt))

bracketed : (c n : ℕ) → Gives (bracket c n) Any
unfolding bracket
bracketed c zero = then (expected c) (λ _ _. refusing)
bracketed c (suc n) = expected c

string-read : Gives read_string Any
unfolding read_string
string-read = then next-valid (λ t _. then (demanded {Q = Any} _ _ (λ _ _. tt)) (λ _ _. given tt))

abbrev UsedLiterals : Used → Type 0
UsedLiterals u = AllSort Valid u.sort

module _ (names : List Name) (table : AllNames Valid names) where
  found-valid : (l : List ℕ) (xs : List Name) (i p : ℕ) (u : Used) → AllNames Valid xs → find l xs i p ≡ Some u → UsedLiterals u
  unfolding find
  found-valid l [] i p u h e = cc
  found-valid l (x ∷ xs) i p u h e = go (same_bytes l x.spelling) e (found-valid l xs (suc i) p u h.1)
    where
      go : (t : Bool) → ◌≡◌ {A = Option Used} (elim t [ true ↦ Some (record { number = i; sort = x.sort; place = p }) | false ↦ find l xs (suc i) p ]) (Some u)
          → (find l xs (suc i) p ≡ Some u → UsedLiterals u) → UsedLiterals u
      go true e ih = subst UsedLiterals (some-injective e) h.0
      go false e ih = ih e

  known-valid : (l : List ℕ) (p : ℕ) → Gives (known names l p) UsedLiterals
  unfolding known found
  known-valid l p = go (find l names 0 p) (λ u e. found-valid l names 0 p u table e)
    where
      go : (o : Option Used) → ((u : Used) → o ≡ Some u → UsedLiterals u) → Gives (found o p) UsedLiterals
      go (Some u) q = given (q u refl)
      go None q = refusing

  read_known-valid : Gives (read_known names) UsedLiterals
  unfolding read_known
  read_known-valid = then next-valid (λ t _. then (demanded {Q = Any} _ _ (λ _ _. tt)) (λ l _. known-valid l t.place))

  read_index-valid : Gives (read_index names) Any
  unfolding read_index
  read_index-valid = then read_known-valid (λ u _. then (required _ _ _) (λ _ _. given tt))

-- ---- a portion's head

abbrev SmallEntry : Entry → Type 0
SmallEntry (fixed k) = Small k
SmallEntry (marked i) = Unit

digits-small : (k : Kind) (z : ℤ) → Shaped Valid k → digits_of k ≡ Some z → Small z
unfolding digits_of
digits-small (Text.mark c) z h e = cc
digits-small (Text.name l) z h e = cc
digits-small (Text.literal true v) z h e = subst Small (some-injective e) h.small
digits-small (Text.literal false v) z h e = cc
digits-small (Text.string l) z h e = cc
digits-small Text.end z h e = cc
digits-small (Text.wrong r) z h e = cc

pub with_minus-small : (m : Bool) (k : ℤ) → Small k → Small (with_minus m k)
with_minus-small true k h = rw (nat_abs-neg k) h
with_minus-small false k h = h

signed_entry-small : (m : Bool) → Gives (signed_entry m) SmallEntry
unfolding signed_entry
signed_entry-small m = then next-valid (λ t ht. then (demanded _ _ (λ k e. digits-small t.kind k ht e)) (λ k hk. given (with_minus-small m k hk)))

module _ (names : List Name) (table : AllNames Valid names) where
  entry_by-small : (p : ℕ) (k : Kind) → Shaped Valid k → Gives (entry_by names p k) SmallEntry
  unfolding entry_by
  entry_by-small p (Text.mark c) h = choice (eqb c plus_sign) (signed_entry-small false) (choice (eqb c minus_sign) (signed_entry-small true) refusing)
  entry_by-small p (Text.name l) h = then (known-valid names table l p) (λ u _. then (required _ _ _) (λ _ _. given tt))
  entry_by-small p (Text.literal w v) h = choice w (given h.small) refusing
  entry_by-small p (Text.string l) h = refusing
  entry_by-small p Text.end h = refusing
  entry_by-small p (Text.wrong r) h = refusing

  read_entry-small : Gives (read_entry names) SmallEntry
  unfolding read_entry
  read_entry-small = then next-valid (λ t ht. entry_by-small t.place t.kind ht)

  entries_of-small : (d : Spans) → Gives (entries_of names d) (All SmallEntry)
  unfolding entries_of
  entries_of-small point = given tt
  entries_of-small (span i f g p point) = then read_entry-small (λ e he. then (expected closes_list) (λ _ _. given (he, tt)))
  entries_of-small (span i f g p (span j f' g' q d)) =
      then read_entry-small (λ e he. then (expected comma) (λ _ _. then (entries_of-small (span j f' g' q d)) (λ es hes. given (he, hes))))

  order_from-valid : (n : ℕ) → Gives (order_from names n) Any
  unfolding order_from
  order_from-valid zero = refusing
  order_from-valid (suc n) =
      then (read_index-valid names table) (λ i _.
      then look-valid (λ t _.
      either (is_mark comma t) (then next-valid (λ _ _. then (order_from-valid n) (λ _ _. given tt))) (then (expected _) (λ _ _. given tt))))

  read_order-valid : (p : ℕ) (marks : List ℕ) → Gives (read_order names p marks) Any
  unfolding read_order
  read_order-valid p marks =
      then look-valid (λ t _.
      either (is_mark opens t)
      (then (bracketed opens nesting_limit) (λ _ _. then (order_from-valid _) (λ _ _. then (required _ _ _) (λ _ _. given tt))))
      (given tt))

bound_of-small : (es : List Entry) → All SmallEntry es → SmallBound (bound_of es)
unfolding bound_of
bound_of-small [] h = tt
bound_of-small (fixed k ∷ es) h = (h.0, bound_of-small es h.1)
bound_of-small (marked i ∷ es) h = (tt, bound_of-small es h.1)

-- ---- the numbers of a portion

value_of-valid : (k : Kind) (v : Value) → Shaped Valid k → value_of k ≡ Some v → Valid v
unfolding value_of
value_of-valid (Text.mark c) v h e = cc
value_of-valid (Text.name l) v h e = cc
value_of-valid (Text.literal w u) v h e = subst Valid (some-injective e) h
value_of-valid (Text.string l) v h e = cc
value_of-valid Text.end v h e = cc
value_of-valid (Text.wrong r) v h e = cc

pub signed_value-valid : (m : Bool) (v : Value) → Valid v → Valid (signed_value m v)
signed_value-valid true v h = negate-valid v h
signed_value-valid false v h = h

read_number-valid : (x : Portion) (e : List ℤ) (st : Store) → SmallElement e → ValidStore st → Gives (read_number x e st) ValidStore
unfolding read_number
read_number-valid x e st he h =
    then next-valid (λ t _.
    then (required _ _ _) (λ _ _.
    then next-valid (λ u hu.
    then (demanded _ _ (λ v k. value_of-valid u.kind v hu k)) (λ v hv.
    lifted (accept x e t.place (signed_value (is_mark minus_sign t) v) st)
    (λ new a. accept-valid x e t.place (signed_value (is_mark minus_sign t) v) st new he (signed_value-valid (is_mark minus_sign t) v hv) h a)))))

each_read-valid : {A : Type 0} (P : A → Type 0) (f : ℤ → A → Reader A) → ((k : ℤ) (a : A) → Small k → P a → Gives (f k a) P)
    → (ks : List ℤ) (a : A) → SmallElement ks → P a → Gives (each_read f ks a) P
unfolding each_read
each_read-valid P f keeps [] a h pa = given pa
each_read-valid P f keeps (k ∷ ks) a h pa = then (keeps k a h.0 pa) (λ b pb. each_read-valid P f keeps ks b h.1 pb)

runs-valid : (x : Portion) (js : List ℕ) (b : Bound) (st : Store) → AllSpans Valid x.domain → SmallBound b → ValidStore st → Gives (runs x js b st) ValidStore
unfolding runs
runs-valid x [] b st d hb h = read_number-valid x (element_of b) st (element_of-small b hb) h
runs-valid x (j ∷ js) b st d hb h =
    then look-valid (λ _ _.
    then (lifted (position_run x.domain b j (scope_of st)) (λ ks e. position_run-valid x.domain b j (scope_of st) ks d hb (scope-valid st h) e)) (λ ks hks.
    each_read-valid ValidStore (λ k st. runs x js (set_at j k b) st) (λ k st hk hst. runs-valid x js (set_at j k b) st d (set_at-small j k b hk hb) hst) ks st hks h))

abbrev PortionLiterals : Portion → Type 0
PortionLiterals x = AllSpans Valid x.domain

portion_by-valid : (i p : ℕ) (s : Sort) (x : Portion) → AllSort Valid s → portion_by i p s ≡ Some x → PortionLiterals x
unfolding portion_by
portion_by-valid i p Syntax.index x h e = cc
portion_by-valid i p (Syntax.integer d) x h e = subst PortionLiterals (some-injective e) h
portion_by-valid i p (Syntax.real d) x h e = subst PortionLiterals (some-injective e) h
portion_by-valid i p (Syntax.formula f) x h e = cc
portion_by-valid i p (Syntax.discrete d) x h e = cc
portion_by-valid i p (Syntax.continuous d) x h e = cc

-- ---- the data section

abbrev pub ValidGiven : Given → Type 0
ValidGiven g = ValidStore g.store

module _ (names : List Name) (table : AllNames Valid names) where
  subscripted-valid : (x : Portion) (st : Store) → PortionLiterals x → ValidStore st → Gives (subscripted_portion names x st) ValidStore
  unfolding subscripted_portion
  subscripted-valid x st hx h =
      then (bracketed _ nesting_limit) (λ _ _.
      then (entries_of-small names table x.domain) (λ es hes.
      then (required _ _ _) (λ _ _.
      then (read_order-valid names table x.place (marks_of es)) (λ o _.
      runs-valid x (positions_of o es) (bound_of es) st hx (bound_of-small es hes) h))))

  portion_of-valid : (st : Store) → ValidStore st → Gives (portion_of names st) ValidStore
  unfolding portion_of
  portion_of-valid st h =
      then (read_known-valid names table) (λ u hu.
      then (demanded _ _ (λ x e. portion_by-valid u.number u.place u.sort x hu e)) (λ x hx.
      either (is_point x.domain) (runs-valid x [] [] st hx tt h) (subscripted-valid x st hx h)))

  portions_of-valid : (n : ℕ) (st : Store) → ValidStore st → Gives (portions_of names n st) ValidStore
  unfolding portions_of
  portions_of-valid zero st h = given h
  portions_of-valid (suc n) st h = then (portion_of-valid st h) (λ a ha. then look-valid (λ t _. either (is_name t) (portions_of-valid n a ha) (given ha)))

  read_close-valid : Gives read_close Any
  unfolding read_close
  read_close-valid = then next-valid (λ t _. then (required _ _ _) (λ _ _. required _ _ _))

  data_of-valid : Gives (data_of names) ValidGiven
  unfolding data_of
  data_of-valid = then string-read (λ s _. then (portions_of-valid _ [] tt) (λ st h. then read_close-valid (λ _ _. given h)))

  read_end-valid : Gives read_end Any
  unfolding read_end
  read_end-valid = then next-valid (λ t _. required _ _ _)

  pub read_data-valid : Gives (read_data names) ValidGiven
  unfolding read_data
  read_data-valid =
      then next-valid (λ t _.
      then (either (is_mark init_word t) data_of-valid (then (required _ _ _) (λ _ _. given tt))) (λ g h.
      then read_end-valid (λ _ _. given h)))
