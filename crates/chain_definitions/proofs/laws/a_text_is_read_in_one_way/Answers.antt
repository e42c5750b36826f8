-- By what the first two rounds tell, and then along the steps.
use Rattle.chain_definitions.proofs.ReadOnce.{read_once}
use Rattle.chain_definitions.proofs.laws.a_text_is_read_in_one_way.Goals as goal

pub returns : goal.returns
returns c = read_once
