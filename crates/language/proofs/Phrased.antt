-- Whatever the readers of formulas and domains give was written: the tokens that they take are a phrase of it.
use mathlib.Core.Path.{◌≡◌, refl, sym, subst}
use mathlib.Core.Bool.{Bool, true, false, cond, ◌||◌}
use mathlib.Core.List.{List, [], ◌∷◌, ◌++◌, append_assoc}
use Prim.Native.Nat.{ℕ, zero, suc, ◌-◌, ◌≤◌}
use native.Mathlib.Omega.{arith}
use lib.Dec.{eqb}
use lib.ListN.{length}
use borrow.Author.Tests.{eqb-true}
use Rattle.rules.specs.declared.Refusal.TheVariants.{Misplaced}
use Rattle.rules.specs.Limits.{token_limit, nesting_limit, index_limit}
use Rattle.lexer.specs.Marks.{plus_sign, minus_sign, times_sign, comma, opens, sum_word}
use Rattle.lexer.specs.Text.{Token, Kind, mark, name}
use Rattle.lexer.specs.Text
use Rattle.language.specs.Syntax.{Formula, Spans, Name, Sort, point, span, times, plus}
use Rattle.language.specs.Syntax
use Rattle.language.specs.Reader.{Reader, ◌>>=◌, refuse, is_mark, Used, read_index}
use Rattle.language.specs.Formulas.{factors, term_of, is_sum, negated, summands, Signed, read_sign, formula_of, part_of, head_of, sum_formula, formulas_of, subscripts_of, named_by, nested_of, primary_by, primary_of, inside_at, formula_at, entry_of, entries_of, domain_of, optional_domain}
use Rattle.language.specs.Phrases
use Rattle.language.specs.Phrases.{◌at◌, Means, indices, Writes, formula, term, primary, run, subscripts, formulas, entry, entries, domain, any_domain, one_term, plus_term, minus_term, addition, difference, one_primary, product, declared, sum_over, nested, run_over, unsubscripted, in_brackets, last_formula, one_formula, between, last_entry, one_entry, in_parentheses, no_domain, a_domain}
use Rattle.language.proofs.Taken.{Reads, gives, refuses, weaken, then, last, then_next, look-else, look-next, then-expect, then-bracket, then-known, then-index, index_read, NameAt, marked, Grows, stays, grow}

-- ---- signs

abbrev pub sign_mark : Bool → ℕ
sign_mark true = minus_sign
sign_mark false = plus_sign

-- a token of a sum is `-`, or else `+`
pub sign-is : (t : Token) → is_sum t ≡ true → t ≡ mark (sign_mark (is_mark minus_sign t)) at t.place
sign-is t e = go (is_mark minus_sign t) refl (is_mark plus_sign t) refl e
  where
    go : (m : Bool) → is_mark minus_sign t ≡ m → (p : Bool) → is_mark plus_sign t ≡ p → p || m ≡ true → t ≡ mark (sign_mark m) at t.place
    go true em p ep e = marked _ t em
    go false em true ep e = marked _ t ep
    go false em false ep e = cc

-- an optional sign
pub data SignOf : Signed → List Token → Type 0 where
  no_sign : SignOf (record { written = false; negative = false }) []
  a_sign : (m : Bool) (p : ℕ) → SignOf (record { written = true; negative = m }) (mark (sign_mark m) at p ∷ [])

pub sign_read : Reads read_sign SignOf
unfolding read_sign
sign_read = look-next is_sum (λ t e. gives (subst (λ u. SignOf (record { written = true; negative = is_mark minus_sign t }) (u ∷ [])) (sym (sign-is t e)) (a_sign (is_mark minus_sign t) t.place))) (gives no_sign)

module _ (names : List Name) where
  -- ---- formulas

  module _ (P : Reader Formula) (rp : Reads P (λ x. Writes names (primary x))) where
    factors-read : (n : ℕ) (f : Formula) → Reads (factors P n f) (Grows (λ x. Writes names (term x)) f)
    unfolding factors
    factors-read zero f = gives (stays f)
    factors-read (suc n) f =
        look-else (is_mark times_sign)
        (then-expect _ λ p. then rp λ g l w. grow (joined p w) (factors-read n (times f g p)))
        (gives (stays f))
      where
        joined : {g : Formula} {l : List Token} (p : ℕ) → Writes names (primary g) l → Grows (λ x. Writes names (term x)) f (times f g p) (mark times_sign at p ∷ l)
        joined p w = record { grown = λ k v. product p v w }

    pub term-read : Reads (term_of P) (λ x. Writes names (term x))
    unfolding term_of
    term-read = then rp (λ f l w. weaken (factors-read token_limit f) (λ g k h. h.grown l (one_primary w)))

  module _ (T : Reader Formula) (rt : Reads T (λ x. Writes names (term x))) where
    joins : (m : Bool) (f : Formula) {g : Formula} {l : List Token} (p : ℕ) → Writes names (term g) l → Grows (λ x. Writes names (formula x)) f (plus f (negated m g) p) (mark (sign_mark m) at p ∷ l)
    joins true f p w = record { grown = λ k v. difference p v w }
    joins false f p w = record { grown = λ k v. addition p v w }

    summands-read : (n : ℕ) (f : Formula) → Reads (summands T n f) (Grows (λ x. Writes names (formula x)) f)
    unfolding summands
    summands-read zero f = gives (stays f)
    summands-read (suc n) f =
        look-next is_sum
        (λ t e. then rt λ g l w. grow (joined t e w) (summands-read n (plus f (negated (is_mark minus_sign t) g) t.place)))
        (gives (stays f))
      where
        joined : (t : Token) → is_sum t ≡ true → {g : Formula} {l : List Token} → Writes names (term g) l → Grows (λ x. Writes names (formula x)) f (plus f (negated (is_mark minus_sign t) g) t.place) (t ∷ l)
        joined t e {g} {l} w = subst (λ u. Grows (λ x. Writes names (formula x)) f (plus f (negated (is_mark minus_sign t) g) t.place) (u ∷ l)) (sym (sign-is t e)) (joins (is_mark minus_sign t) f t.place w)

    first : {s : Signed} {f : Formula} {l k : List Token} → SignOf s l → Writes names (term f) k → Writes names (formula (negated s.negative f)) (l ++ k)
    first no_sign w = one_term w
    first (a_sign true p) w = minus_term p w
    first (a_sign false p) w = plus_term p w

    pub formula-read : Reads (formula_of T) (λ x. Writes names (formula x))
    unfolding formula_of
    formula-read = then sign_read (λ s l v. then rt (λ f k w. weaken (summands-read token_limit (negated s.negative f)) (λ g j h. rw (← append_assoc l k j) (h.grown (l ++ k) (first v w)))))

  module _ (F : Reader Formula) (rf : Reads F (λ x. Writes names (formula x))) where
    -- a formula and the sign c after it
    part-read : (c : ℕ) → Reads (part_of F (suc c)) (λ f l. (k : List Token) × (p : ℕ) × (l ≡ k ++ (mark (suc c) at p ∷ [])) × Writes names (formula f) k)
    unfolding part_of
    part-read c = then rf (λ f k w. then-expect c (λ p. gives (k, p, refl, w)))

    module _ {B : Type 0} {W : B → List Token → Type 0} where
      pub then-part : (c : ℕ) {g : Formula → Reader B} → ((f : Formula) (l : List Token) (p : ℕ) → Writes names (formula f) l → Reads (g f) (λ b k. W b (l ++ (mark (suc c) at p ∷ k)))) → Reads (part_of F (suc c) >>= g) W
      then-part c h = then (part-read c) (λ f l w. rw w.2 (weaken (h f w.0 w.1 w.3) (λ b k x. rw (append_assoc w.0 (mark (suc c) at w.1 ∷ []) k) x)))

  module _ (F : Reader Formula) (rf : Reads F (λ x. Writes names (formula x))) (n : ℕ) where
    pub head_read : Reads (head_of names n) (λ i l. (s : List ℕ) × (p : ℕ) × (r : ℕ) × (l ≡ mark opens at p ∷ name s at i.place ∷ mark comma at r ∷ []) × Means names s i.number Syntax.index)
    unfolding head_of
    head_read = then-bracket _ n (λ p. then-index names (λ i s m. then-expect _ (λ r. gives (s, p, r, refl, m))))

    -- `(index, lower, upper,`
    pub then-run : {B : Type 0} {W : B → List Token → Type 0} {k : Used → Formula → Formula → Reader B}
        → ((i : Used) (f g : Formula) (l : List Token) → Writes names (run i.number f g) l → Reads (k i f g) (λ b j. W b (l ++ j)))
        → Reads (head_of names n >>= λ i. part_of F comma >>= λ f. part_of F comma >>= λ g. k i f g) W
    then-run {W} h =
        then head_read λ i l m. rw m.3
        (then-part F rf _ λ f a p wf. then-part F rf _ λ g b q wg.
        weaken (h i f g _ (run_over m.1 i.place m.2 p q m.4 wf wg)) (λ c j x. simp append_assoc at x))

    sum-read : (p : ℕ) → Reads (sum_formula names n F p) (λ f l. Writes names (primary f) (mark sum_word at p ∷ l))
    unfolding sum_formula
    sum-read p = then-run (λ i f g l w. then-part F rf _ (λ h k q wh. gives (sum_over p q w wh)))

    formulas-read : (i : ℕ) (f g : Formula) (p : ℕ) (d : Spans) → Reads (formulas_of F (span i f g p d)) (λ fs. Writes names (formulas (span i f g p d) fs))
    unfolding formulas_of
    formulas-read i f g p point = then-part F rf _ (λ h l q w. gives (last_formula q w))
    formulas-read i f g p (span j f' g' q d) = then-part F rf _ (λ h l r w. last _ (formulas-read j f' g' q d) (λ fs k ws. one_formula r w ws))

    pub subscripts-read : (d : Spans) → Reads (subscripts_of n F d) (λ fs. Writes names (subscripts d fs))
    unfolding subscripts_of
    subscripts-read point = gives unsubscripted
    subscripts-read (span i f g p d) = then-bracket _ n (λ q. weaken (formulas-read i f g p d) (λ fs l w. in_brackets q w))

    named-read : (l : List ℕ) (i p : ℕ) (s : Sort) → Means names l i s → Reads (named_by n F i p s) (λ f k. Writes names (primary f) (name l at p ∷ k))
    unfolding named_by
    named-read l i p Syntax.index m = gives (Phrases.index p m)
    named-read l i p (Syntax.integer d) m = last _ (subscripts-read d) (λ fs k w. Phrases.integer p m w)
    named-read l i p (Syntax.real d) m = last _ (subscripts-read d) (λ fs k w. Phrases.real p m w)
    named-read l i p (Syntax.formula f) m = gives (declared p m)
    named-read l i p (Syntax.discrete d) m = refuses
    named-read l i p (Syntax.continuous d) m = refuses

    nested-read : (n p : ℕ) → Reads (nested_of n F p) (λ f l. Writes names (primary f) (mark opens at p ∷ l))
    unfolding nested_of
    nested-read zero p = refuses
    nested-read (suc m) p = weaken (part-read F rf _) (λ f l w. rw w.2 (nested p w.1 w.3))

    -- the primary that a token of kind k at p begins
    pub primary-by : (p : ℕ) (k : Kind) → Reads (primary_by names n F p k) (λ f l. Writes names (primary f) (k at p ∷ l))
    unfolding primary_by
    primary-by p (Text.mark c) = go (eqb c sum_word) refl (eqb c opens) refl
      where
        go : (a : Bool) → eqb c sum_word ≡ a → (b : Bool) → eqb c opens ≡ b → Reads (cond a (sum_formula names n F p) (cond b (nested_of n F p) (refuse Misplaced p))) (λ f l. Writes names (primary f) (mark c at p ∷ l))
        go true ea b eb = rw (eqb-true c sum_word ea) (sum-read p)
        go false ea true eb = rw (eqb-true c opens eb) (nested-read n p)
        go false ea false eb = refuses
    primary-by p (Text.name l) = then-known names l p (λ u m. named-read l u.number p u.sort m)
    primary-by p (Text.literal w v) = gives (Phrases.literal w v p)
    primary-by p (Text.string l) = refuses
    primary-by p Text.end = refuses
    primary-by p (Text.wrong r) = refuses

    pub primary-read : Reads (primary_of names n F) (λ x. Writes names (primary x))
    unfolding primary_of
    primary-read = then_next (λ t. primary-by t.place t.kind)

  pub inside-read : (n : ℕ) → Reads (inside_at names n) (λ x. Writes names (formula x))
  unfolding inside_at
  inside-read zero = refuses
  inside-read (suc n) = formula-read _ (term-read _ (primary-read (inside_at names n) (inside-read n) n))

  pub formula-at : (n : ℕ) → Reads (formula_at names n) (λ x. Writes names (formula x))
  unfolding formula_at
  formula-at n = inside-read (suc n)

  -- ---- domains

  module _ (F : Reader Formula) (rf : Reads F (λ x. Writes names (formula x))) where
    -- Q is what is known of the index besides
    pub entry_read : (Q : ℕ → Type 0) {I : Reader Used} → Reads I (λ u l. NameAt names u.number u.place Syntax.index l × Q u.number)
        → Reads (entry_of F I) (λ e l. Writes names (entry e.number e.lower e.upper e.place) l × Q e.number)
    unfolding entry_of
    entry_read Q ri =
        then-part F rf _ λ f a q wf. then ri λ i l w. rw w.0.is
        (then-expect _ λ r. last _ rf λ g b wg. (between i.place q r wf w.0.means wg, w.1))

    index-entry : Reads (entry_of F (read_index names)) (λ e l. Writes names (entry e.number e.lower e.upper e.place) l × Unit {0})
    index-entry = entry_read (λ _. Unit {0}) (weaken (index_read names) (λ u l w. (w, tt)))

    entries-read : (n : ℕ) → Reads (entries_of F (read_index names) n) (λ d l. Writes names (entries d) l × (length (indices d) ≤ suc n))
    unfolding entries_of
    entries-read zero = then index-entry (λ e l w. then-expect _ (λ q. gives (last_entry q w.0, omega arith)))
    entries-read (suc n) = then index-entry (λ e l w. look-next (is_mark comma)
        (λ t et. last _ (entries-read n) (λ d k ws. (rw (marked _ t et) (one_entry t.place w.0 ws.0), omega arith)))
        (then-expect _ (λ q. gives (last_entry q w.0, omega arith))))

  pub domain-read : Reads (domain_of names) (λ x. Writes names (domain x))
  unfolding domain_of index_limit
  domain-read = then-bracket _ nesting_limit (λ p. weaken (entries-read _ (inside-read nesting_limit) (index_limit - 1)) (λ d l w. in_parentheses p w.0 (omega (arith, w.1))))

  pub optional-read : Reads (optional_domain names) (λ x. Writes names (any_domain x))
  unfolding optional_domain
  optional-read = look-else (is_mark opens) (weaken domain-read (λ d l w. a_domain w)) (gives no_domain)
