-- Declared domains of at most four indices.
use Rattle.std.specs.Prelude.{List, ◌≤◌}
use Rattle.rules.specs.Limits.{index_limit}
use Rattle.language.specs.Syntax.{Sort, Name}
use Rattle.language.specs.Syntax
use Rattle.language.specs.All.{All}
use Rattle.tokens.specs.Stored.{size}

abbrev pub FewIndices : Sort → Type 0
FewIndices Syntax.index = Unit {0}
FewIndices (Syntax.integer d) = size d ≤ index_limit
FewIndices (Syntax.real d) = size d ≤ index_limit
FewIndices (Syntax.formula f) = Unit {0}
FewIndices (Syntax.discrete d) = size d ≤ index_limit
FewIndices (Syntax.continuous d) = size d ≤ index_limit

abbrev pub AllFew : List Name → Type 0
AllFew names = All (λ (x : Name). FewIndices x.sort) names
