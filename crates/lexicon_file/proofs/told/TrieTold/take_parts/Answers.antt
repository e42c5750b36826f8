-- The line begins with the name of its kind.
use Rattle.form_file.specs.Fields.{text_of_rest}
use Rattle.lexicon_file.specs.Kinds.{kind_of}
use Rattle.lexicon_file.proofs.LinesTaken.{line_of_kind}
use Rattle.lexicon_file.proofs.told.TrieTold.take_parts.Goals as goal

pub take_kind-requires-clause-line : goal.take_kind-requires-clause-line
take_kind-requires-clause-line c =
    line_of_kind c.args.line.now c.kind_and_rest.result.0.now (kind_of c.in-Some.kind) (text_of_rest c.kind_and_rest.result.1) c.kind_and_rest.ensures c.in-Some.ensures
