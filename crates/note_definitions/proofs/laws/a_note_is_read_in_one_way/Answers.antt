-- By what the bytes tell without a look at answers, and then by the cases.
use Rattle.note_definitions.proofs.ReadOnce.{read_once}
use Rattle.note_definitions.proofs.laws.a_note_is_read_in_one_way.Goals as goal

pub returns : goal.returns
returns c = read_once
