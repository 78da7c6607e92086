-- Tokens that write a domain: entry behind entry, each read as it stands, with the sign behind it. What was read of a declared
-- domain and of a constraint's domain gives this (proofs/WalkedDomain.antt), and a walk of a domain needs no more.
use Rattle.std.specs.Prelude.{◌≡◌, List, ℕ, zero, suc}
use Rattle.lexer.specs.Marks.{at_most}
use Rattle.lexer.specs.Text.{Token}
use Rattle.language.specs.Outcome.{Outcome, done}
use Rattle.language.specs.Syntax.{Formula, Spans, Name, point, span}
use Rattle.language.specs.Reader.{Read, next, expect}
use Rattle.language.specs.Formulas.{part_of, in_domain}
use Rattle.onepass.specs.Walk.{name_number}

abbrev pub read : {A : Type 0} → A → List Token → Outcome (Read A)
read a l = done (record { what = a; rest = l })

-- one entry: lower formula `<=` index `<=` upper formula, and the sign behind it; i is the index's number, q its place
pub record ReadsEntry (names : List Name) (i : ℕ) (f g : Formula) (q : ℕ) (ts rest : List Token) : Type 0 where
  pub at_index : List Token
  pub lower : part_of (in_domain names) at_most ts ≡ read f at_index
  pub index : Token
  pub at_sign : List Token
  pub named : next at_index ≡ read index at_sign
  pub number : name_number names index.kind ≡ i
  pub place : index.place ≡ q
  pub sign_place : ℕ
  pub at_upper : List Token
  pub sign : expect at_most at_sign ≡ read sign_place at_upper
  pub at_end : List Token
  pub upper : in_domain names at_upper ≡ read g at_end
  pub last : Token
  pub ended : next at_end ≡ read last rest

abbrev pub ReadsSpans : List Name → Spans → List Token → List Token → Type 0
ReadsSpans names point ts rest = ts ≡ rest
ReadsSpans names (span i f g q d) ts rest = (m : List Token) × ReadsEntry names i f g q ts m × ReadsSpans names d m rest

-- how many indices a domain has
unfoldable pub index_count : Spans → ℕ
index_count point = zero
index_count (span i f g q d) = suc (index_count d)
