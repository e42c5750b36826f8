-- Each form of an answer begins and ends as its equation says.
use Rattle.chain_definitions.proofs.AnswerChains.{chain_from, joined_from}
use Rattle.chain_definitions.proofs.laws.answers_are_joined_again.Goals as goal

pub returns-clause-chain : goal.returns-clause-chain
returns-clause-chain c = λ lexicon line choices steps answer. chain_from lexicon steps line.letters answer.derives

pub returns-clause-joined : goal.returns-clause-joined
returns-clause-joined c = joined_from
