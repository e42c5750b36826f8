-- Where there is no change, any two forms fit.
use Rattle.std.proofs.Common.{refl, ap, arith}
use Rattle.segmentation_definitions.specs.Derivations.{Step}
use Rattle.joiner.proofs.LinksMet.{fits_unchanged}
use Rattle.joiner.proofs.meeting.fits_before.Goals as goal

pub returns-in_default : goal.returns-in_default
returns-in_default c =
    let none = c.in_default.ensures.none.0 refl in
    let same = ap (λ (step : Step). step.rule) c.link.view_is in
    ((λ t. fits_unchanged c.args.rules.now c.args.link.now c.args.after.now (omega (arith, none, same))), λ h. refl)
