-- `rules_read_there` has the proof.
use Rattle.existence_laws.proofs.FilesThere.{rules_read_there}
use Rattle.existence_laws.proofs.files.a_rule_file_is_read.Goals as goal

pub returns : goal.returns
returns c = rules_read_there
