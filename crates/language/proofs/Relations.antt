-- A relation by its sign, and one that is written by its sign alone.
use Prim.Native.Nat.{ℕ}
use Rattle.lexer.specs.Marks as Marks
use Rattle.lexer.specs.Marks.{equals}
use Rattle.language.specs.Syntax.{Relation, at_most, at_least, equal, between}
use Rattle.language.specs.Phrases.{relation_sign, IsPlain}

-- what holds of `<=`, `>=` and `=` holds of the sign of every relation
pub by_sign : (F : ℕ → Type 0) → F Marks.at_most → F Marks.at_least → F equals → (r : Relation) → F (relation_sign r)
by_sign F a b c at_most = a
by_sign F a b c at_least = b
by_sign F a b c equal = c
by_sign F a b c (between h) = a

pub by-plain : (F : Relation → Type 0) → F at_most → F at_least → F equal → (r : Relation) → IsPlain r → F r
by-plain F a b c at_most h = a
by-plain F a b c at_least h = b
by-plain F a b c equal h = c
by-plain F a b c (between g) h = absurd h

-- what the sign alone says
abbrev pub plain_of : Relation → Relation
plain_of at_most = at_most
plain_of at_least = at_least
plain_of equal = equal
plain_of (between h) = at_most
