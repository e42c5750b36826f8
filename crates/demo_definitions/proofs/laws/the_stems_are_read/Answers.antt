-- Each record is taken and has nine bytes, and the first stem that is drawn differs from those before it.
use Rattle.demo_definitions.proofs.StemsRead.{stems_read, some_spelled}
use Rattle.demo_definitions.proofs.StemRecords.{short_file}
use Rattle.demo_definitions.proofs.laws.the_stems_are_read.Goals as goal

pub returns-clause-stems : goal.returns-clause-stems
returns-clause-stems c = stems_read

pub returns-clause-some : goal.returns-clause-some
returns-clause-some c = some_spelled

pub returns-clause-short : goal.returns-clause-short
returns-clause-short c = short_file
