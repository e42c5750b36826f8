-- The next fronts from the first on are the first ones of all fronts.
use Rattle.front_definitions.proofs.SameFronts.{front_of_fronts}
use Rattle.front_definitions.proofs.laws.next_fronts_are_front_of_list.Goals as goal

pub returns : goal.returns
returns c = front_of_fronts
