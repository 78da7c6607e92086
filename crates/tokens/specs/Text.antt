-- What holds of a text as it is stored.
use Rattle.std.specs.Prelude.{List, ℕ}
use Rattle.tokens.specs.declared.Text.{Text}

-- a relation of the bytes, the name table and the token table
abbrev pub In : {B : Type 1} → (List ℕ → List ℕ → List ℕ → B) → Text → B
In R t = R t.bytes.now t.names.now t.tokens.now
