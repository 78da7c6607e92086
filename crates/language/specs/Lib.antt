-- THE DEFINITION OF THE LANGUAGE, in the order of document 01. What lies below it: `rules` (refusals and limits), `value` ("Values")
-- and `lexer` ("Text"). Laws are in proofs/; nothing here needs them.

-- ---- words that all files use: an outcome, places in a list, a property of all entries, the numbers of a run
pub mod Outcome
pub mod Listed
pub mod All
pub mod Ranges
-- ---- "Grammar": the trees, then the readers, which give the first refusal in order
pub mod Syntax
pub mod Reader
pub mod Formulas
pub mod Linear
pub mod Declarations
pub mod Grammar
-- ---- "Grammar" again, as rules: which tokens write which tree. No reader occurs
pub mod Phrases
pub mod Nesting
pub mod DataPhrases
-- ---- "Meaning": what is bound and known, evaluation, the data section, missing data
pub mod Scope
pub mod Evaluation
pub mod Store
pub mod Data
pub mod CarriedOut
pub mod Model
-- ---- "Numbering and bounds", "Listing"
pub mod Numbering
pub mod Listing
-- ---- the answer to every text, "Why a model comes back"; and which texts are accepted, by the rules alone
pub mod Answer
pub mod Grammatical
-- ---- "The words of demand 3": written values, where they are defined, what a printed line may hold, the demand
pub mod Written
pub mod Defined
pub mod Valid
pub mod Proper
pub mod Demand3
-- ---- for proofs: trees whose names stand in the table, literals in trees, the definition opened for closed texts
pub mod Named
pub mod Literals
pub mod Computed
