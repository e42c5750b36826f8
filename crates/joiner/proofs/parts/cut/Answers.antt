-- What is found is the cut, and its mark is in neither part.
use Rattle.std.proofs.Common.{◌∷◌, length, length-append, ap, arith}
use Rattle.list_laws.proofs.CutLaws.{not_cut, cut_as_parted}
use Rattle.joiner.proofs.parts.cut.Goals as goal

pub returns-in_default-clause-cut : goal.returns-in_default-clause-cut
returns-in_default-clause-cut c = not_cut c.args.mark c.args.text.now c.in_default.ensures

pub returns-clause-cut : goal.returns-clause-cut
returns-clause-cut c = cut_as_parted c.args.mark c.args.text.now c.in-Some.front.now c.in-Some.rest.now c.in-Some.ensures

pub returns-clause-within : goal.returns-clause-within
returns-clause-within c =
    omega (arith, ap length c.in-Some.ensures.0, length-append c.in-Some.front.now (c.args.mark ∷ c.in-Some.rest.now))
