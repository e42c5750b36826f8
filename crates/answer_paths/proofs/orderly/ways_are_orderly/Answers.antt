-- By the lemmas on one step more.
use Rattle.answer_paths.proofs.OrderlyWays.{ways_orderly, ways_ranked}
use Rattle.answer_paths.proofs.orderly.ways_are_orderly.Goals as goal

pub returns-clause-orderly : goal.returns-clause-orderly
returns-clause-orderly c = ways_orderly

pub returns-clause-ranked : goal.returns-clause-ranked
returns-clause-ranked c lexicon line choices is = ways_ranked lexicon line choices is
