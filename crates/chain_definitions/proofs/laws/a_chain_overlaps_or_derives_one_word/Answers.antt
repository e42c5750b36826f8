-- By one induction along the steps, and by the cases of what a chain is joined to.
use Rattle.chain_definitions.proofs.JoinedOnce.{overlap_or_word, joined_once}
use Rattle.chain_definitions.proofs.laws.a_chain_overlaps_or_derives_one_word.Goals as goal

pub returns-clause-some : goal.returns-clause-some
returns-clause-some c = overlap_or_word

pub returns-clause-one : goal.returns-clause-one
returns-clause-one c = joined_once
