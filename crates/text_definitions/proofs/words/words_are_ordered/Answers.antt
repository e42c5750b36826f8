-- The order of words is std's order of lists of numbers.
use Rattle.std.proofs.lemmas.Cmp.{nat_list_cmp_total}
use Rattle.text_definitions.proofs.words.words_are_ordered.Goals as goal

pub returns : goal.returns
returns c = nat_list_cmp_total
