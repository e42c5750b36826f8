-- `joined_there` has the proof.
use Rattle.existence_laws.proofs.ChainsThere.{joined_there}
use Rattle.existence_laws.proofs.chains.a_chain_is_joined.Goals as goal

pub returns : goal.returns
returns c = joined_there
