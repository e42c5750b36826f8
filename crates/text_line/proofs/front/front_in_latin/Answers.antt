-- The first byte tells what the text begins with.
use Rattle.text_definitions.specs.Schemes.{Slp1}
use Rattle.text_line.specs.Values.{front_is}
use Rattle.text_line.proofs.Fronts.{front_of_none, front_by_first}
use Rattle.text_line.proofs.front.front_in_latin.Goals as goal

pub returns-in-empty-clause-value : goal.returns-in-empty-clause-value
returns-in-empty-clause-value c = front_of_none Slp1 c.args.text.now c.in-empty.len_below

pub returns-in-len1-up-clause-value : goal.returns-in-len1-up-clause-value
returns-in-len1-up-clause-value c =
    front_by_first (front_is c.front_of_byte.result) c.args.text.now c.in-len1-up.len_at_least c.front_of_byte.ensures.value
