-- `importer::signed` meets its contract.
use mathlib.Core.List.{[], ◌∷◌}
use Rattle.std.proofs.lemmas.Bool.Decides.{Decides-eqb}
use Rattle.std.proofs.lemmas.Option.{MatchOption-at_some, MatchOption-at_none}
use Rattle.std.proofs.lemmas.Slice.Eq.{strip_prefix_is}
use Rattle.importer.proofs.Values.{signed-plain, minus-big, minus-fits}
use Rattle.importer.proofs.signed.Goals as goal

pub returns-in_default : goal.returns-in_default
returns-in_default c =
    let p = strip_prefix_is Decides-eqb c.args.t.now (45 ∷ []) c.strip_prefix.result c.strip_prefix.ensures.cases in
    signed-plain _ _ (MatchOption-at_none _ _ c.in_default.is p) c.literal.ensures

pub returns-in_err-v : goal.returns-in_err-v
returns-in_err-v c =
    let p = strip_prefix_is Decides-eqb c.args.t.now (45 ∷ []) c.strip_prefix.result c.strip_prefix.ensures.cases in
    rw c.from_residual.ensures (minus-big _ _ (MatchOption-at_some _ _ c.in-Some.digits c.in-Some.is p) _ c.literal-2.ensures c.in_err-v.was)

pub returns : goal.returns
returns c =
    let p = strip_prefix_is Decides-eqb c.args.t.now (45 ∷ []) c.strip_prefix.result c.strip_prefix.ensures.cases in
    minus-fits _ _ (MatchOption-at_some _ _ c.in-Some.digits c.in-Some.is p) _ c.literal-2.ensures _ _ c.in_ok-v.was c.neg.ensures
