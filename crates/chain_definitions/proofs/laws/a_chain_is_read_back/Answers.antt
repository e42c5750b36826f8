-- The printed steps are cut at their blanks, each form and change is read back, and names the same step.
use Rattle.chain_definitions.proofs.ReadChains.{chain_back}
use Rattle.chain_definitions.proofs.laws.a_chain_is_read_back.Goals as goal

pub returns : goal.returns
returns c = chain_back
