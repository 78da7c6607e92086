-- Document 01, "Grammar", said a second time: which tokens write which tree. `Writes names phrase tokens` says how a phrase is made,
-- not how it is read, rule by rule in the paper's words, over the names declared so far. A declared formula and a declared
-- domain stand in the tree where their name is written.
use Rattle.std.specs.Prelude.{◌≡◌, Bool, true, false, List, [], ◌∷◌, ◌++◌, ℕ, ◌<◌, ◌≤◌, length}
use Rattle.rules.specs.Limits.{name_limit, constraint_limit, index_limit}
use Rattle.value.specs.declared.Value.{Value}
use Rattle.lexer.specs.Marks as Marks
use Rattle.lexer.specs.Marks.{plus_sign, minus_sign, times_sign, comma, semicolon, colon, equals, opens, closes, opens_list, closes_list, open_word, maximize_word, minimize_word, sum_word, sigma_word, index_word, integer_word, real_word, formula_word, discrete_word, continuous_word}
use Rattle.lexer.specs.Text.{Token, Kind, mark, name, string}
use Rattle.lexer.specs.Text
use Rattle.language.specs.Syntax.{Formula, Formulas, Spans, Form, Term, Relation, Side, Constraint, Sort, Name, Structure, plus, minus, times, datum, sum, more, point, span, also, factor, bare, form, at_most, at_least, equal}
use Rattle.language.specs.Syntax
use Rattle.language.specs.Listed.{At, Distinct}

-- a token and its place
infix 70 ◌at◌
abbrev pub ◌at◌ : Kind → ℕ → Token
k at p = record { kind = k; place = p }

-- what a spelling means: the first name of the table that is so spelled, its number and its sort
pub record Means (names : List Name) (l : List ℕ) (i : ℕ) (s : Sort) : Type 0 where
  pub entry : Name
  pub listed : At names i entry
  pub spelled : entry.spelling ≡ l
  pub sorted : entry.sort ≡ s
  pub first : (j : ℕ) (x : Name) → j < i → At names j x → x.spelling ≡ l → ⊥

-- no name of the table is so spelled
pub record Unknown (names : List Name) (l : List ℕ) : Type 0 where
  pub unspelled : (j : ℕ) (x : Name) → At names j x → x.spelling ≡ l → ⊥

-- the indices of a domain, in order
abbrev pub indices : Spans → List ℕ
indices point = []
indices (span i lower upper p d) = i ∷ indices d

abbrev pub relation_sign : Relation → ℕ
relation_sign at_most = Marks.at_most
relation_sign at_least = Marks.at_least
relation_sign equal = equals
relation_sign (Syntax.between h) = Marks.at_most

-- written by its sign alone
abbrev pub IsPlain : Relation → Type 0
IsPlain at_most = Unit
IsPlain at_least = Unit
IsPlain equal = Unit
IsPlain (Syntax.between h) = ⊥

-- ---- what is written

pub data Phrase : Type 0 where
  formula term primary : Formula → Phrase
  run : ℕ → Formula → Formula → Phrase  -- `(index, lower, upper,` behind `SUM` or `S`
  subscripts : Spans → Formulas → Phrase  -- behind a name with this domain
  formulas : Spans → Formulas → Phrase  -- as many as the domain has indices, and the `]`
  entry : ℕ → Formula → Formula → ℕ → Phrase  -- of a domain: index, lower, upper, place of the index
  entries : Spans → Phrase  -- and the `)`
  domain : Spans → Phrase
  any_domain : Spans → Phrase  -- or none
  variable : ℕ → Spans → Formulas → ℕ → Phrase
  form_term : Bool → Term → Phrase  -- a linear term; whether a sigma may stand in it
  signed_terms : Bool → Form → Phrase  -- linear terms, each behind its sign
  linear_form : Bool → Bool → Form → Phrase  -- whether sigmas may stand in it, whether a sign stands in front of it
  sigma : Term → Phrase
  body : Form → Phrase
  side : Side → Phrase
  floor : Relation → Phrase  -- behind the right side
  constraint : Constraint → Phrase
  constraints : List Constraint → Phrase
  index_list : List ℕ → Phrase  -- and the `]`
  declared_domain : Spans → Phrase  -- behind a declared name
  sort : ℕ → Sort → Phrase  -- behind a name in the list of a word

module _ (names : List Name) where
  pub data Writes : Phrase → List Token → Type 0 where
    -- Formula: optional sign, then terms joined by `+` or `-`. A sign belongs to the first term, a difference is the sum with `minus`
    one_term : {f : Formula} {l : List Token} → Writes (term f) l → Writes (formula f) l
    plus_term : {f : Formula} {l : List Token} (p : ℕ) → Writes (term f) l → Writes (formula f) (mark plus_sign at p ∷ l)
    minus_term : {f : Formula} {l : List Token} (p : ℕ) → Writes (term f) l → Writes (formula (minus f)) (mark minus_sign at p ∷ l)
    addition : {f g : Formula} {l k : List Token} (p : ℕ)
        → Writes (formula f) l → Writes (term g) k → Writes (formula (plus f g p)) (l ++ (mark plus_sign at p ∷ k))
    difference : {f g : Formula} {l k : List Token} (p : ℕ)
        → Writes (formula f) l → Writes (term g) k → Writes (formula (plus f (minus g) p)) (l ++ (mark minus_sign at p ∷ k))
    -- Term: primaries joined by `*`
    one_primary : {f : Formula} {l : List Token} → Writes (primary f) l → Writes (term f) l
    product : {f g : Formula} {l k : List Token} (p : ℕ)
        → Writes (term f) l → Writes (primary g) k → Writes (term (times f g p)) (l ++ (mark times_sign at p ∷ k))
    -- A primary is a literal, an index, an integer, a real, a declared formula, `SUM(index, lower, upper, formula)`, or a formula
    -- in parentheses that may again hold such a formula
    literal : (w : Bool) (v : Value) (p : ℕ) → Writes (primary (Syntax.literal v)) (Text.literal w v at p ∷ [])
    index : {l : List ℕ} {i : ℕ} (p : ℕ) → Means names l i Syntax.index → Writes (primary (Syntax.index i p)) (name l at p ∷ [])
    integer : {l : List ℕ} {i : ℕ} {d : Spans} {fs : Formulas} {k : List Token} (p : ℕ)
        → Means names l i (Syntax.integer d) → Writes (subscripts d fs) k → Writes (primary (datum i d fs p)) (name l at p ∷ k)
    real : {l : List ℕ} {i : ℕ} {d : Spans} {fs : Formulas} {k : List Token} (p : ℕ)
        → Means names l i (Syntax.real d) → Writes (subscripts d fs) k → Writes (primary (datum i d fs p)) (name l at p ∷ k)
    declared : {l : List ℕ} {i : ℕ} {f : Formula} (p : ℕ) → Means names l i (Syntax.formula f) → Writes (primary f) (name l at p ∷ [])
    sum_over : {i : ℕ} {f g h : Formula} {l k : List Token} (p q : ℕ)
        → Writes (run i f g) l → Writes (formula h) k → Writes (primary (sum i f g h p)) (mark sum_word at p ∷ l ++ (k ++ (mark closes at q ∷ [])))
    nested : {f : Formula} {l : List Token} (p q : ℕ)
        → Writes (formula f) l → Writes (primary f) (mark opens at p ∷ l ++ (mark closes at q ∷ []))
    run_over : {l : List ℕ} {i : ℕ} {f g : Formula} {a b : List Token} (p q r s t : ℕ)
        → Means names l i Syntax.index → Writes (formula f) a → Writes (formula g) b
        → Writes (run i f g) (mark opens at p ∷ name l at q ∷ mark comma at r ∷ a ++ (mark comma at s ∷ b ++ (mark comma at t ∷ [])))
    -- Integers, reals and variables with a domain carry `[` as many formulas `]`
    unsubscripted : Writes (subscripts point Syntax.none) []
    in_brackets : {d : Spans} {fs : Formulas} {l : List Token} (p : ℕ)
        → Writes (formulas d fs) l → Writes (subscripts d fs) (mark opens_list at p ∷ l)
    last_formula : {i q : ℕ} {lower upper f : Formula} {l : List Token} (p : ℕ)
        → Writes (formula f) l → Writes (formulas (span i lower upper q point) (more f Syntax.none)) (l ++ (mark closes_list at p ∷ []))
    one_formula : {i q : ℕ} {lower upper f : Formula} {d : Spans} {fs : Formulas} {l k : List Token} (p : ℕ)
        → Writes (formula f) l → Writes (formulas d fs) k → Writes (formulas (span i lower upper q d) (more f fs)) (l ++ (mark comma at p ∷ k))
    -- Domain: `(` one to four, comma-separated, of lower formula `<=` index `<=` upper formula `)`
    between : {l : List ℕ} {i : ℕ} {f g : Formula} {a b : List Token} (p q r : ℕ)
        → Writes (formula f) a → Means names l i Syntax.index → Writes (formula g) b
        → Writes (entry i f g p) (a ++ (mark Marks.at_most at q ∷ name l at p ∷ mark Marks.at_most at r ∷ b))
    last_entry : {i p : ℕ} {f g : Formula} {l : List Token} (q : ℕ)
        → Writes (entry i f g p) l → Writes (entries (span i f g p point)) (l ++ (mark closes at q ∷ []))
    one_entry : {i p : ℕ} {f g : Formula} {d : Spans} {l k : List Token} (q : ℕ)
        → Writes (entry i f g p) l → Writes (entries d) k → Writes (entries (span i f g p d)) (l ++ (mark comma at q ∷ k))
    in_parentheses : {d : Spans} {l : List Token} (p : ℕ)
        → Writes (entries d) l → length (indices d) ≤ index_limit → Writes (domain d) (mark opens at p ∷ l)
    no_domain : Writes (any_domain point) []
    a_domain : {d : Spans} {l : List Token} → Writes (domain d) l → Writes (any_domain d) l
    -- Linear form: optional sign, then linear terms joined by `+` or `-`
    unsigned : {sigmas : Bool} {t : Term} {f : Form} {l k : List Token}
        → Writes (form_term sigmas t) l → Writes (signed_terms sigmas f) k → Writes (linear_form sigmas false (also false t f)) (l ++ k)
    signed : {sigmas m : Bool} {t : Term} {f : Form} {l : List Token}
        → Writes (signed_terms sigmas (also m t f)) l → Writes (linear_form sigmas true (also m t f)) l
    no_term : {sigmas : Bool} → Writes (signed_terms sigmas Syntax.end) []
    plus_next : {sigmas : Bool} {t : Term} {f : Form} {l k : List Token} (p : ℕ)
        → Writes (form_term sigmas t) l → Writes (signed_terms sigmas f) k → Writes (signed_terms sigmas (also false t f)) (mark plus_sign at p ∷ l ++ k)
    minus_next : {sigmas : Bool} {t : Term} {f : Form} {l k : List Token} (p : ℕ)
        → Writes (form_term sigmas t) l → Writes (signed_terms sigmas f) k → Writes (signed_terms sigmas (also true t f)) (mark minus_sign at p ∷ l ++ k)
    -- A linear term is any number of primaries each followed by `*`, then a variable or a sigma
    multiple : {sigmas : Bool} {f : Formula} {t : Term} {l k : List Token} (p : ℕ)
        → Writes (primary f) l → Writes (form_term sigmas t) k → Writes (form_term sigmas (factor f p t)) (l ++ (mark times_sign at p ∷ k))
    a_variable : {sigmas : Bool} {i p : ℕ} {d : Spans} {fs : Formulas} {l : List Token}
        → Writes (variable i d fs p) l → Writes (form_term sigmas (Syntax.variable i d fs p)) l
    a_sigma : {t : Term} {l : List Token} → Writes (sigma t) l → Writes (form_term true t) l
    discrete : {l : List ℕ} {i : ℕ} {d : Spans} {fs : Formulas} {k : List Token} (p : ℕ)
        → Means names l i (Syntax.discrete d) → Writes (subscripts d fs) k → Writes (variable i d fs p) (name l at p ∷ k)
    continuous : {l : List ℕ} {i : ℕ} {d : Spans} {fs : Formulas} {k : List Token} (p : ℕ)
        → Means names l i (Syntax.continuous d) → Writes (subscripts d fs) k → Writes (variable i d fs p) (name l at p ∷ k)
    -- A sigma is `S(index, lower, upper, body)`; its body is another sigma or a linear form without sigma
    sigma_over : {i : ℕ} {f g : Formula} {h : Form} {l k : List Token} (p q : ℕ)
        → Writes (run i f g) l → Writes (body h) k → Writes (sigma (Syntax.sigma i f g h p)) (mark sigma_word at p ∷ l ++ (k ++ (mark closes at q ∷ [])))
    inner_sigma : {t : Term} {l : List Token} → Writes (sigma t) l → Writes (body (also false t Syntax.end)) l
    inner_form : {s : Bool} {f : Form} {l : List Token} → Writes (linear_form false s f) l → Writes (body f) l
    -- Constraint: string, linear form, one of `<= >= =`, formula, optional floor, optional domain
    one_constraint : {s : List ℕ} {left : Side} {right : Formula} {d : Spans} {a b c e : List Token} (p q : ℕ) (r : Relation)
        → Writes (side left) a → Writes (formula right) b → Writes (floor r) c → Writes (any_domain d) e
        → Writes (constraint (record { title = s; place = p; left = left; relation = r; right = right; domain = d })) (string s at p ∷ a ++ (mark (relation_sign r) at q ∷ b ++ (c ++ e)))
    -- behind the right side of a `<=`: nothing, or `,`, `>=` and a formula; behind any other nothing
    no_floor : {r : Relation} → IsPlain r → Writes (floor r) []
    a_floor : {h : Formula} {l : List Token} (p q : ℕ)
        → Writes (formula h) l → Writes (floor (Syntax.between h)) (mark comma at p ∷ mark Marks.at_least at q ∷ l)
    -- its left side is one variable without sign or factor, or a linear form with a sign in front, a factor, a sigma or a second term
    alone : {i p : ℕ} {d : Spans} {fs : Formulas} {l : List Token} → Writes (variable i d fs p) l → Writes (side (bare i d fs p)) l
    with_sign : {f : Form} {l : List Token} → Writes (linear_form true true f) l → Writes (side (form f)) l
    with_factor : {m : Bool} {g : Formula} {p : ℕ} {t : Term} {f : Form} {l : List Token}
        → Writes (linear_form true false (also m (factor g p t) f)) l → Writes (side (form (also m (factor g p t) f))) l
    with_sigma : {m : Bool} {i p : ℕ} {g h : Formula} {b f : Form} {l : List Token}
        → Writes (linear_form true false (also m (Syntax.sigma i g h b p) f)) l → Writes (side (form (also m (Syntax.sigma i g h b p) f))) l
    with_second : {m n : Bool} {t u : Term} {f : Form} {l : List Token}
        → Writes (linear_form true false (also m t (also n u f))) l → Writes (side (form (also m t (also n u f)))) l
    last_constraint : {c : Constraint} {l : List Token} → Writes (constraint c) l → Writes (constraints (c ∷ [])) l
    more_constraints : {c : Constraint} {cs : List Constraint} {l k : List Token}
        → Writes (constraint c) l → Writes (constraints cs) k → Writes (constraints (c ∷ cs)) (l ++ k)
    -- behind a declared name: nothing, or `[` one to four indices `]` domain. The domain names the same indices in the same order, none twice
    no_subscripts : Writes (declared_domain point) []
    with_domain : {d : Spans} {l k : List Token} (p : ℕ)
        → Writes (index_list (indices d)) l → Distinct (indices d) → Writes (domain d) k → Writes (declared_domain d) (mark opens_list at p ∷ l ++ k)
    last_index : {l : List ℕ} {i : ℕ} (p q : ℕ)
        → Means names l i Syntax.index → Writes (index_list (i ∷ [])) (name l at p ∷ mark closes_list at q ∷ [])
    one_index : {l : List ℕ} {i : ℕ} {is : List ℕ} {k : List Token} (p q : ℕ)
        → Means names l i Syntax.index → Writes (index_list is) k → Writes (index_list (i ∷ is)) (name l at p ∷ mark comma at q ∷ k)
    -- An index is a name. A formula is name `=` formula. The rest are a name, or name `[` .. `]` domain
    index_sort : Writes (sort index_word Syntax.index) []
    integer_sort : {d : Spans} {l : List Token} → Writes (declared_domain d) l → Writes (sort integer_word (Syntax.integer d)) l
    real_sort : {d : Spans} {l : List Token} → Writes (declared_domain d) l → Writes (sort real_word (Syntax.real d)) l
    formula_sort : {f : Formula} {l : List Token} (p : ℕ)
        → Writes (formula f) l → Writes (sort formula_word (Syntax.formula f)) (mark equals at p ∷ l)
    discrete_sort : {d : Spans} {l : List Token} → Writes (declared_domain d) l → Writes (sort discrete_word (Syntax.discrete d)) l
    continuous_sort : {d : Spans} {l : List Token} → Writes (declared_domain d) l → Writes (sort continuous_word (Syntax.continuous d)) l

-- ---- declarations

abbrev pub with : List Name → List ℕ → ℕ → Sort → List Name
with names l p s = names ++ (record { spelling = l; place = p; sort = s } ∷ [])

-- a word's list, from the names before it to those behind it: new names, each usable after its own entry
pub data WritesList (word : ℕ) : List Name → List Name → List Token → Type 0 where
  last_name : {names : List Name} {l : List ℕ} {s : Sort} {k : List Token} (p q : ℕ)
      → Unknown names l → length names < name_limit → Writes names (sort word s) k
      → WritesList word names (with names l p s) (name l at p ∷ k ++ (mark semicolon at q ∷ []))
  one_name : {names all : List Name} {l : List ℕ} {s : Sort} {k m : List Token} (p q : ℕ)
      → Unknown names l → length names < name_limit → Writes names (sort word s) k → WritesList word (with names l p s) all m
      → WritesList word names all (name l at p ∷ k ++ (mark comma at q ∷ m))

-- each at most once: word, comma-separated list, `;`
pub data WritesOptionalList (word : ℕ) : List Name → List Name → List Token → Type 0 where
  no_list : {names : List Name} → WritesOptionalList word names names []
  a_list : {names all : List Name} {l : List Token} (p : ℕ) → WritesList word names all l → WritesOptionalList word names all (mark word at p ∷ l)

-- Declarations stand in the order of the six words
pub data WritesDeclarations : List Name → List Token → Type 0 where
  six_lists : {u v w x y z : List Name} {a b c d e f : List Token}
      → WritesOptionalList index_word [] u a → WritesOptionalList integer_word u v b → WritesOptionalList real_word v w c
      → WritesOptionalList formula_word w x d → WritesOptionalList discrete_word x y e → WritesOptionalList continuous_word y z f
      → WritesDeclarations z (a ++ (b ++ (c ++ (d ++ (e ++ f)))))

-- ---- Model: `OPEN`, string, declarations, objective, one or more constraints, ..

-- Objective: `MAXIMIZE` or `MINIMIZE`, `:`, linear form
abbrev pub goal_word : Bool → ℕ
goal_word false = maximize_word
goal_word true = minimize_word

pub data WritesStructure : Structure → List Token → Type 0 where
  whole_model : {s : List ℕ} {names : List Name} {sign : Bool} {objective : Form} {cs : List Constraint} {a b c : List Token} (p q r t : ℕ) (minimize : Bool)
      → WritesDeclarations names a → Writes names (linear_form true sign objective) b → Writes names (constraints cs) c → length cs ≤ constraint_limit
      → WritesStructure (record { title = s; names = names; minimize = minimize; objective = objective; constraints = cs })
      (mark open_word at p ∷ string s at q ∷ a ++ (mark (goal_word minimize) at r ∷ mark colon at t ∷ b ++ c))
