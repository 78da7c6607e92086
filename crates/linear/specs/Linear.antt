-- The readers of linear forms, each a function of the names.
use Rattle.std.specs.Prelude.{None, Option, Some, ◌≡◌, Bool, true, false, cond, ◌||◌, List, ℕ, eqb}
use Rattle.rules.specs.Limits.{token_limit}
use Rattle.lexer.specs.Marks.{sigma_word}
use Rattle.language.specs.Syntax.{Name, Term, Form}
use Rattle.language.specs.Reader.{Reader}
use Rattle.language.specs.Linear.{Head, a_sigma, a_variable, a_primary, head_by, no_sigma, linear_term, linear_terms, Linear, linear_of, body_of, sigma_at, linear_at}
use Rattle.tokens.specs.declared.Found.{Found}
use Rattle.tokens.specs.Stored.{spelling, name_bytes, kind_of, look_up, size, Named}

-- the variable that a name is, if it is one
abbrev pub variable_found : Option Found → Option Found
variable_found (Some x) = cond (eqb x.sort 4 || eqb x.sort 5) (Some x) None
variable_found None = None

-- the variable that a token of kind k names, if it names one
unfoldable pub variable_of : List ℕ → List ℕ → ℕ → ℕ → ℕ → Option Found
variable_of s ns k p x = cond (eqb k 1) (variable_found (look_up s (spelling s p (name_bytes x)) ns 0)) None

-- what code found where a token of kind k begins a linear term: a variable with its number and its number of indices, or none
abbrev pub Heads : Head → Bool → ℕ → Option Found → Type 0
Heads (a_variable i d) sigmas k (Some x) = (i ≡ x.number) × (size d ≡ x.count)
Heads (a_variable i d) sigmas k None = ⊥
Heads a_sigma sigmas k (Some x) = ⊥
Heads a_sigma sigmas k None = (sigmas ≡ true) × (k ≡ sigma_word)
Heads a_primary sigmas k (Some x) = ⊥
Heads a_primary sigmas k None = sigmas ≡ true → k ≡ sigma_word → ⊥

-- for all names that the table tells of
pub record Begins (s ns : List ℕ) (k p x : ℕ) (r : Option Found) : Type 0 where
  pub heads : (names : List Name) → Named s ns names → (sigmas : Bool) → Heads (head_by names sigmas (kind_of s k p x)) sigmas k r

-- what reads a sigma behind its word, where sigmas are allowed or not
unfoldable pub sigmas_in : Bool → ℕ → List Name → ℕ → Reader Term
sigmas_in true n names p = sigma_at names n p
sigmas_in false n names p = no_sigma p

unfoldable pub term_in : Bool → ℕ → List Name → Reader Term
term_in b n names = linear_term names (sigmas_in b n names) b n token_limit

unfoldable pub terms_in : Bool → ℕ → ℕ → List Name → Reader Form
terms_in b n k names = linear_terms (term_in b n names) k

unfoldable pub form_in : Bool → ℕ → List Name → Reader Linear
form_in b n names = linear_of (term_in b n names)

unfoldable pub sigma_in : ℕ → ℕ → List Name → Reader Term
sigma_in n p names = sigma_at names n p

unfoldable pub body_in : ℕ → List Name → Reader Form
body_in n names = body_of names (sigma_at names n) n

unfoldable pub linear_in : ℕ → List Name → Reader Linear
linear_in n names = linear_at names n
