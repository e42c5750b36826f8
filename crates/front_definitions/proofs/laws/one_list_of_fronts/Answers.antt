-- Rising lists with the same elements are the same, and so are their first ones.
use Rattle.front_definitions.proofs.SameFronts.{same_fronts, same_next_fronts}
use Rattle.front_definitions.proofs.laws.one_list_of_fronts.Goals as goal

pub returns-clause-all : goal.returns-clause-all
returns-clause-all c = same_fronts

pub returns-clause-next : goal.returns-clause-next
returns-clause-next c = same_next_fronts
