use Rattle.form_tags.proofs.DeltaLaws.{IsDelta-once}
use Rattle.form_tags.proofs.laws.delta_is_one.Goals as goal

pub returns : goal.returns
returns c = IsDelta-once
