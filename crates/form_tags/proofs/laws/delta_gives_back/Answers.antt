use Rattle.form_tags.proofs.DeltaLaws.{given_back}
use Rattle.form_tags.proofs.laws.delta_gives_back.Goals as goal

pub returns : goal.returns
returns c = given_back
