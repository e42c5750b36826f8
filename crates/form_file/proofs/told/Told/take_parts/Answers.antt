-- What comes after the blank is shorter than the line.
use Rattle.form_file.proofs.LinesTaken.{rest_fits}
use Rattle.form_file.proofs.told.Told.take_parts.Goals as goal

pub take_kind-requires-clause-fits : goal.take_kind-requires-clause-fits
take_kind-requires-clause-fits c = rest_fits c.args.line.now c.kind_and_rest.result.0.now c.kind_and_rest.result.1 c.kind_and_rest.ensures c.requires
