-- `value::raised` meets its contract.
use mathlib.Core.Path.{◌∙◌}
use mir.Syntax.{w64}
use mir.Facts.{to_z_pos}
use Rattle.value.proofs.Powers.{raise-over, raise-kept, raise-more}
use Rattle.value.proofs.raised.Goals as goal

pub returns-then-minus : goal.returns-then-minus
returns-then-minus c = search raise-over depth 6

pub returns-then-k-f : goal.returns-then-k-f
returns-then-k-f c = raise-kept _ _ _ _ _ c.if-minus.false c.if-k-f.true (c.normalise.ensures ∙ rw (to_z_pos w64 c.requires.0))

pub returns : goal.returns
returns c = search raise-more depth 7
