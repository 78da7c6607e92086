-- The tokens that count: those before the first `INIT`, `CLOSE`, end or refusal. A text has at most 4,096 of them, and every token of
-- a phrase is one of them, so that readers of the grammar leave fewer and fewer.
use mathlib.Core.Path.{◌≡◌, refl, ◌∙◌}
use mathlib.Core.Bool.{Bool, true, false, cond}
use mathlib.Core.List.{List, [], ◌∷◌, ◌++◌, append_assoc}
use Prim.Native.Nat.{ℕ, zero, suc, ◌+◌, ◌≤◌}
use native.Mathlib.Omega.{arith}
use lib.Dec.{leb}
use lib.ListN.{length, length-append}
use Rattle.rules.specs.declared.Refusal.TheVariants.{LongText, Full}
use Rattle.rules.specs.Limits.{byte_limit, token_limit}
use Rattle.lexer.specs.Text.{Token, mark, wrong, uncounted, counted, tokens_from, tokens}
use Rattle.language.specs.Syntax.{Name, Relation, Structure}
use Rattle.language.specs.Phrases
use Rattle.language.specs.Phrases.{relation_sign, goal_word, Phrase, Writes, one_term, plus_term, minus_term, addition, difference, one_primary, product, integer, real, declared, sum_over, nested, run_over, unsubscripted, in_brackets, last_formula, one_formula, between, last_entry, one_entry, in_parentheses, no_domain, a_domain, unsigned, signed, no_term, plus_next, minus_next, multiple, a_variable, a_sigma, discrete, continuous, sigma_over, inner_sigma, inner_form, one_constraint, no_floor, a_floor, alone, with_sign, with_factor, with_sigma, with_second, last_constraint, more_constraints, no_subscripts, with_domain, last_index, one_index, index_sort, integer_sort, real_sort, formula_sort, discrete_sort, continuous_sort, WritesList, last_name, one_name, WritesOptionalList, no_list, a_list, WritesDeclarations, six_lists, WritesStructure, whole_model}
use Rattle.language.proofs.Relations.{by_sign}

-- how many tokens count
unfoldable pub live : List Token → ℕ
live [] = 0
live (t ∷ ts) = elim (uncounted t.kind) [ true ↦ 0 | false ↦ suc (live ts) ]

pub live-cons : (t : Token) (ts : List Token) → uncounted t.kind ≡ false → live (t ∷ ts) ≡ suc (live ts)
unfolding live
live-cons t ts e = rw (e, live)

-- ---- a text has at most 4,096

live-counted : (n : ℕ) (ts : List Token) → live (counted n ts) ≤ n
unfolding live counted uncounted
live-counted n [] = omega arith
live-counted zero (t ∷ ts) = go (uncounted t.kind) refl
  where
    go : (b : Bool) → uncounted t.kind ≡ b → live (cond b (t ∷ ts) (record { kind = wrong Full; place = t.place } ∷ [])) ≤ 0
    go true e = rw (e, live) (omega arith)
    go false e = omega arith
live-counted (suc n) (t ∷ ts) = go (uncounted t.kind) refl (live-counted n ts)
  where
    go : (b : Bool) → uncounted t.kind ≡ b → live (counted n ts) ≤ n → live (elim b as (λ _. List Token) [ true ↦ t ∷ ts | false ↦ t ∷ counted n ts ]) ≤ suc n
    go true e h = rw (e, live) (omega arith)
    go false e h = rw (e, live) (omega arith)

pub live-tokens : (text : List ℕ) → live (tokens text) ≤ token_limit
unfolding tokens live uncounted
live-tokens text = go (leb (length text) byte_limit)
  where
    go : (b : Bool) → live (cond b (counted token_limit (tokens_from 0 0 text)) (record { kind = wrong LongText; place = byte_limit } ∷ [])) ≤ token_limit
    go true = live-counted token_limit (tokens_from 0 0 text)
    go false = omega arith

-- ---- every token of a phrase counts

pub record Counted (l : List Token) : Type 0 where
  pub passed : (ts : List Token) → live (l ++ ts) ≡ length l + live ts

pub nil : Counted []
nil = record { passed = λ ts. omega arith }

pub cons : {t : Token} {l : List Token} → uncounted t.kind ≡ false → Counted l → Counted (t ∷ l)
cons {t} {l} e c = record { passed = λ ts. live-cons t (l ++ ts) e ∙ omega (arith, c.passed ts) }

pub join : {l k : List Token} → Counted l → Counted k → Counted (l ++ k)
join {l} {k} c d = record { passed = λ ts. rw (append_assoc l k ts, length-append) (omega (arith, c.passed (k ++ ts), d.passed ts)) }

relation-counts : (r : Relation) → uncounted (mark (relation_sign r)) ≡ false
unfolding uncounted
relation-counts = by_sign (λ c. uncounted (mark c) ≡ false) refl refl refl

pub phrase-counts : {names : List Name} {x : Phrase} {l : List Token} → Writes names x l → Counted l
unfolding uncounted
phrase-counts (one_term w) = phrase-counts w
phrase-counts (plus_term p w) = cons refl (phrase-counts w)
phrase-counts (minus_term p w) = cons refl (phrase-counts w)
phrase-counts (addition p v w) = join (phrase-counts v) (cons refl (phrase-counts w))
phrase-counts (difference p v w) = join (phrase-counts v) (cons refl (phrase-counts w))
phrase-counts (one_primary w) = phrase-counts w
phrase-counts (product p v w) = join (phrase-counts v) (cons refl (phrase-counts w))
phrase-counts (Phrases.literal b v p) = cons refl nil
phrase-counts (Phrases.index p m) = cons refl nil
phrase-counts (integer p m w) = cons refl (phrase-counts w)
phrase-counts (real p m w) = cons refl (phrase-counts w)
phrase-counts (declared p m) = cons refl nil
phrase-counts (sum_over p q v w) = cons refl (join (phrase-counts v) (join (phrase-counts w) (cons refl nil)))
phrase-counts (nested p q w) = cons refl (join (phrase-counts w) (cons refl nil))
phrase-counts (run_over p q r s t m v w) = cons refl (cons refl (cons refl (join (phrase-counts v) (cons refl (join (phrase-counts w) (cons refl nil))))))
phrase-counts unsubscripted = nil
phrase-counts (in_brackets p w) = cons refl (phrase-counts w)
phrase-counts (last_formula p w) = join (phrase-counts w) (cons refl nil)
phrase-counts (one_formula p v w) = join (phrase-counts v) (cons refl (phrase-counts w))
phrase-counts (between p q r v m w) = join (phrase-counts v) (cons refl (cons refl (cons refl (phrase-counts w))))
phrase-counts (last_entry q w) = join (phrase-counts w) (cons refl nil)
phrase-counts (one_entry q v w) = join (phrase-counts v) (cons refl (phrase-counts w))
phrase-counts (in_parentheses p w n) = cons refl (phrase-counts w)
phrase-counts no_domain = nil
phrase-counts (a_domain w) = phrase-counts w
phrase-counts (unsigned v w) = join (phrase-counts v) (phrase-counts w)
phrase-counts (signed w) = phrase-counts w
phrase-counts no_term = nil
phrase-counts (plus_next p v w) = cons refl (join (phrase-counts v) (phrase-counts w))
phrase-counts (minus_next p v w) = cons refl (join (phrase-counts v) (phrase-counts w))
phrase-counts (multiple p v w) = join (phrase-counts v) (cons refl (phrase-counts w))
phrase-counts (a_variable w) = phrase-counts w
phrase-counts (a_sigma w) = phrase-counts w
phrase-counts (discrete p m w) = cons refl (phrase-counts w)
phrase-counts (continuous p m w) = cons refl (phrase-counts w)
phrase-counts (sigma_over p q v w) = cons refl (join (phrase-counts v) (join (phrase-counts w) (cons refl nil)))
phrase-counts (inner_sigma w) = phrase-counts w
phrase-counts (inner_form w) = phrase-counts w
phrase-counts (one_constraint p q r u v w x) = cons refl (join (phrase-counts u) (cons (relation-counts r) (join (phrase-counts v) (join (phrase-counts w) (phrase-counts x)))))
phrase-counts (no_floor h) = nil
phrase-counts (a_floor p q w) = cons refl (cons refl (phrase-counts w))
phrase-counts (alone w) = phrase-counts w
phrase-counts (with_sign w) = phrase-counts w
phrase-counts (with_factor w) = phrase-counts w
phrase-counts (with_sigma w) = phrase-counts w
phrase-counts (with_second w) = phrase-counts w
phrase-counts (last_constraint w) = phrase-counts w
phrase-counts (more_constraints v w) = join (phrase-counts v) (phrase-counts w)
phrase-counts no_subscripts = nil
phrase-counts (with_domain p v d w) = cons refl (join (phrase-counts v) (phrase-counts w))
phrase-counts (last_index p q m) = cons refl (cons refl nil)
phrase-counts (one_index p q m w) = cons refl (cons refl (phrase-counts w))
phrase-counts index_sort = nil
phrase-counts (integer_sort w) = phrase-counts w
phrase-counts (real_sort w) = phrase-counts w
phrase-counts (formula_sort p w) = cons refl (phrase-counts w)
phrase-counts (discrete_sort w) = phrase-counts w
phrase-counts (continuous_sort w) = phrase-counts w

names-count : {word : ℕ} {names all : List Name} {l : List Token} → WritesList word names all l → Counted l
unfolding uncounted
names-count (last_name p q u n w) = cons refl (join (phrase-counts w) (cons refl nil))
names-count (one_name p q u n w v) = cons refl (join (phrase-counts w) (cons refl (names-count v)))

-- with the word in front, if it stands there
pub list_counts : {word : ℕ} {names all : List Name} {l : List Token} → uncounted (mark word) ≡ false → WritesOptionalList word names all l → Counted l
list_counts e no_list = nil
list_counts e (a_list p w) = cons e (names-count w)

declarations-count : {names : List Name} {l : List Token} → WritesDeclarations names l → Counted l
unfolding uncounted
declarations-count (six_lists u v w x y z) = join (list_counts refl u) (join (list_counts refl v) (join (list_counts refl w) (join (list_counts refl x) (join (list_counts refl y) (list_counts refl z)))))

goal-counts : (m : Bool) → uncounted (mark (goal_word m)) ≡ false
unfolding uncounted
goal-counts true = refl
goal-counts false = refl

pub structure-counts : {s : Structure} {l : List Token} → WritesStructure s l → Counted l
unfolding uncounted
structure-counts (whole_model p q r t m u v w n) = cons refl (cons refl (join (declarations-count u) (cons (goal-counts m) (cons refl (join (phrase-counts v) (phrase-counts w))))))
