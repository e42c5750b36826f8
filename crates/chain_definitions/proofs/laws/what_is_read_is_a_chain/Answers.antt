-- By the three rounds.
use Rattle.chain_definitions.proofs.ReadChains.{chain_if_read}
use Rattle.chain_definitions.proofs.laws.what_is_read_is_a_chain.Goals as goal

pub returns-clause-chain : goal.returns-clause-chain
returns-clause-chain c = λ lexicon text steps h. (chain_if_read lexicon text steps h).chain

pub returns-clause-text : goal.returns-clause-text
returns-clause-text c = λ lexicon text steps h. (chain_if_read lexicon text steps h).printed
