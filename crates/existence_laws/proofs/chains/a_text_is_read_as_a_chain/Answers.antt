-- `chain_read_there` has the proof.
use Rattle.existence_laws.proofs.ChainsThere.{chain_read_there}
use Rattle.existence_laws.proofs.chains.a_text_is_read_as_a_chain.Goals as goal

pub returns : goal.returns
returns c = chain_read_there
