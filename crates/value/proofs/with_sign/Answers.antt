-- `value::with_sign` meets its contract.
use mathlib.Core.Path.{◌∙◌}
use lib.IntN.{pos}
use mir.Syntax.{w64}
use mir.Facts.{to_z-of_z, to_z_pos}
use Rattle.value.proofs.Integers.{opposite-fits, with_sign-negative, with_sign-other}
use Rattle.value.proofs.with_sign.Goals as goal

pub returns-then-a-lt0 : goal.returns-then-a-lt0
returns-then-a-lt0 c =
    rw (to_z_pos w64 c.requires) (to_z-of_z (opposite-fits (pos c.args.x) c.requires) ∙ with_sign-negative _ _ (rw (to_z-of_z c.ranges.a) at c.if-a-lt0.true))

pub returns-else-a-lt0 : goal.returns-else-a-lt0
returns-else-a-lt0 c = to_z_pos w64 c.requires ∙ with_sign-other _ _ (rw (to_z-of_z c.ranges.a) at c.if-a-lt0.false)
