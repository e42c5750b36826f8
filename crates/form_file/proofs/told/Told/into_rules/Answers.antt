-- Before the end lines of the body were told.
use Rattle.form_file.proofs.StageLemmas.{before_end}
use Rattle.form_file.proofs.told.Told.into_rules.Goals as goal

pub into_parts-requires-clause-body : goal.into_parts-requires-clause-body
into_parts-requires-clause-body c = before_end c.args.self.last c.requires.body
