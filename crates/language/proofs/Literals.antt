-- Every literal of a tree is a literal of the tokens that write it: what holds of all of these holds of all of those. Declared
-- formulas and domains, which stand in the tree where their names were read, are the names' own.
use mathlib.Core.Path.{subst}
use mathlib.Core.List.{List}
use Prim.Native.Nat.{ℕ}
use Rattle.value.specs.declared.Value.{Value}
use Rattle.lexer.specs.Text.{Token}
use Rattle.language.specs.Syntax.{Sort, Name}
use Rattle.language.specs.All.{All}
use Rattle.language.proofs.All.{all-at}
use Rattle.language.specs.Literals.{AllFormula, AllFormulas, AllSpans, AllForm, AllTerm, AllSide, AllRelation, AllConstraint, AllSort, AllName, AllNames}
use Rattle.language.specs.Phrases
use Rattle.language.specs.Phrases.{Means, Phrase, formula, primary, run, subscripts, formulas, entry, entries, domain, any_domain, form_term, signed_terms, linear_form, body, side, floor, constraint, constraints, index_list, declared_domain, sort, Writes, one_term, plus_term, minus_term, addition, difference, one_primary, product, integer, real, declared, sum_over, nested, run_over, unsubscripted, in_brackets, last_formula, one_formula, between, last_entry, one_entry, in_parentheses, no_domain, a_domain, unsigned, signed, no_term, plus_next, minus_next, multiple, a_variable, a_sigma, discrete, continuous, sigma_over, inner_sigma, inner_form, one_constraint, no_floor, a_floor, alone, with_sign, with_factor, with_sigma, with_second, last_constraint, more_constraints, no_subscripts, with_domain, last_index, one_index, index_sort, integer_sort, real_sort, formula_sort, discrete_sort, continuous_sort}
use Rattle.language.proofs.Shapes.{AllShaped, shaped-left, shaped-right}
use Rattle.language.proofs.Relations.{by-plain}

module _ (P : Value → Type 0) where
  -- of all that a phrase writes
  abbrev pub AllPhrase : Phrase → Type 0
  AllPhrase (formula f) = AllFormula P f
  AllPhrase (Phrases.term f) = AllFormula P f
  AllPhrase (primary f) = AllFormula P f
  AllPhrase (run i f g) = AllFormula P f × AllFormula P g
  AllPhrase (subscripts d fs) = AllFormulas P fs
  AllPhrase (formulas d fs) = AllFormulas P fs
  AllPhrase (entry i f g p) = AllFormula P f × AllFormula P g
  AllPhrase (entries d) = AllSpans P d
  AllPhrase (domain d) = AllSpans P d
  AllPhrase (any_domain d) = AllSpans P d
  AllPhrase (Phrases.variable i d fs p) = AllSpans P d × AllFormulas P fs
  AllPhrase (form_term b t) = AllTerm P t
  AllPhrase (signed_terms b f) = AllForm P f
  AllPhrase (linear_form a b f) = AllForm P f
  AllPhrase (Phrases.sigma t) = AllTerm P t
  AllPhrase (body f) = AllForm P f
  AllPhrase (side s) = AllSide P s
  AllPhrase (floor r) = AllRelation P r
  AllPhrase (constraint c) = AllConstraint P c
  AllPhrase (constraints cs) = All (AllConstraint P) cs
  AllPhrase (index_list is) = Unit {0}
  AllPhrase (declared_domain d) = AllSpans P d
  AllPhrase (sort w s) = AllSort P s

  module _ (names : List Name) (known : AllNames P names) where
    meant : {l : List ℕ} {i : ℕ} {s : Sort} → Means names l i s → AllSort P s
    meant {i} m = subst (AllSort P) m.sorted (all-at (AllName P) names i m.entry m.listed known)

    -- by the rule that made the phrase
    pub phrase-all : {x : Phrase} {l : List Token} → Writes names x l → AllShaped P l → AllPhrase x
    phrase-all (one_term w) a = phrase-all w a
    phrase-all (plus_term p w) a = phrase-all w a.1
    phrase-all (minus_term p w) a = phrase-all w a.1
    phrase-all (addition {l = l} p v w) a = (phrase-all v (shaped-left P l _ a), phrase-all w (shaped-right P l _ a).1)
    phrase-all (difference {l = l} p v w) a = (phrase-all v (shaped-left P l _ a), phrase-all w (shaped-right P l _ a).1)
    phrase-all (one_primary w) a = phrase-all w a
    phrase-all (product {l = l} p v w) a = (phrase-all v (shaped-left P l _ a), phrase-all w (shaped-right P l _ a).1)
    phrase-all (Phrases.literal b v p) a = a.0
    phrase-all (Phrases.index p m) a = tt
    phrase-all (integer p m w) a = (meant m, phrase-all w a.1)
    phrase-all (real p m w) a = (meant m, phrase-all w a.1)
    phrase-all (declared p m) a = meant m
    phrase-all (sum_over {l = l} {k = k} p q v w) a = let r = phrase-all v (shaped-left P l _ a.1) in (r.0, r.1, phrase-all w (shaped-left P k _ (shaped-right P l _ a.1)))
    phrase-all (nested {l = l} p q w) a = phrase-all w (shaped-left P l _ a.1)
    phrase-all (run_over {a = k} {b = j} p q r s t m v w) a = (phrase-all v (shaped-left P k _ a.1.1.1), phrase-all w (shaped-left P j _ (shaped-right P k _ a.1.1.1).1))
    phrase-all unsubscripted a = tt
    phrase-all (in_brackets p w) a = phrase-all w a.1
    phrase-all (last_formula {l = l} p w) a = (phrase-all w (shaped-left P l _ a), tt)
    phrase-all (one_formula {l = l} p v w) a = (phrase-all v (shaped-left P l _ a), phrase-all w (shaped-right P l _ a).1)
    phrase-all (between {a = k} p q r v m w) a = (phrase-all v (shaped-left P k _ a), phrase-all w (shaped-right P k _ a).1.1.1)
    phrase-all (last_entry {l = l} q w) a = let r = phrase-all w (shaped-left P l _ a) in (r.0, r.1, tt)
    phrase-all (one_entry {l = l} q v w) a = let r = phrase-all v (shaped-left P l _ a) in (r.0, r.1, phrase-all w (shaped-right P l _ a).1)
    phrase-all (in_parentheses p w n) a = phrase-all w a.1
    phrase-all no_domain a = tt
    phrase-all (a_domain w) a = phrase-all w a
    phrase-all (unsigned {l = l} v w) a = (phrase-all v (shaped-left P l _ a), phrase-all w (shaped-right P l _ a))
    phrase-all (signed w) a = phrase-all w a
    phrase-all no_term a = tt
    phrase-all (plus_next {l = l} p v w) a = (phrase-all v (shaped-left P l _ a.1), phrase-all w (shaped-right P l _ a.1))
    phrase-all (minus_next {l = l} p v w) a = (phrase-all v (shaped-left P l _ a.1), phrase-all w (shaped-right P l _ a.1))
    phrase-all (multiple {l = l} p v w) a = (phrase-all v (shaped-left P l _ a), phrase-all w (shaped-right P l _ a).1)
    phrase-all (a_variable w) a = phrase-all w a
    phrase-all (a_sigma w) a = phrase-all w a
    phrase-all (discrete p m w) a = (meant m, phrase-all w a.1)
    phrase-all (continuous p m w) a = (meant m, phrase-all w a.1)
    phrase-all (sigma_over {l = l} {k = k} p q v w) a = let r = phrase-all v (shaped-left P l _ a.1) in (r.0, r.1, phrase-all w (shaped-left P k _ (shaped-right P l _ a.1)))
    phrase-all (inner_sigma w) a = (phrase-all w a, tt)
    phrase-all (inner_form w) a = phrase-all w a
    phrase-all (one_constraint {a = l} {b = k} {c = j} p q r u v w x) a =
        let b = (shaped-right P l _ a.1).1 in
        let c = shaped-right P k _ b in
        (phrase-all u (shaped-left P l _ a.1), phrase-all v (shaped-left P k _ b), phrase-all w (shaped-left P j _ c), phrase-all x (shaped-right P j _ c))
    phrase-all (no_floor {r = r} h) a = by-plain (AllRelation P) tt tt tt r h
    phrase-all (a_floor p q w) a = phrase-all w a.1.1
    phrase-all (alone w) a = phrase-all w a
    phrase-all (with_sign w) a = phrase-all w a
    phrase-all (with_factor w) a = phrase-all w a
    phrase-all (with_sigma w) a = phrase-all w a
    phrase-all (with_second w) a = phrase-all w a
    phrase-all (last_constraint w) a = (phrase-all w a, tt)
    phrase-all (more_constraints {l = l} v w) a = (phrase-all v (shaped-left P l _ a), phrase-all w (shaped-right P l _ a))
    phrase-all no_subscripts a = tt
    phrase-all (with_domain {l = l} p v d w) a = phrase-all w (shaped-right P l _ a.1)
    phrase-all (last_index p q m) a = tt
    phrase-all (one_index p q m w) a = tt
    phrase-all index_sort a = tt
    phrase-all (integer_sort w) a = phrase-all w a
    phrase-all (real_sort w) a = phrase-all w a
    phrase-all (formula_sort p w) a = phrase-all w a.1
    phrase-all (discrete_sort w) a = phrase-all w a
    phrase-all (continuous_sort w) a = phrase-all w a
