-- `importer::strip` meets its contract.
use native.Mathlib.Omega.{arith}
use mathlib.Core.Path.{refl}
use Rattle.importer.proofs.Stripping.{strip-none, strip-fits, strip-some}
use Rattle.importer.proofs.strip.Goals as goal

pub overflow_add-result : goal.overflow_add-result
overflow_add-result c = omega (arith, strip-fits _ _ _ _ c.starts_with.ensures.value c.requires (c.if-starts_with.ensures.bound refl))

pub returns-then-starts_with : goal.returns-then-starts_with
returns-then-starts_with c = strip-some _ _ _ _ c.starts_with.ensures.value c.if-starts_with.true (strip-fits _ _ _ _ c.starts_with.ensures.value c.requires (c.if-starts_with.ensures.bound refl))

pub returns : goal.returns
returns c = search (strip-none, c.starts_with.ensures.value) depth 8
