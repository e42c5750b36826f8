-- Each part of the rule set passed its tests.
use Rattle.rule_file_definitions.proofs.SoundSets.{read_sound}
use Rattle.rule_file_definitions.proofs.readings.what_is_read_is_a_rule_set.Goals as goal

pub returns-clause-set : goal.returns-clause-set
returns-clause-set c = λ bytes set h. (read_sound bytes set h).set_itself

pub returns-clause-limits : goal.returns-clause-limits
returns-clause-limits c = λ bytes set h. (read_sound bytes set h).limits
