-- The text is cut at its first mark, or it is one part.
use Rattle.lexicon_file.proofs.PartLemmas.{one_part, next_part}
use Rattle.lexicon_file.proofs.parts.first_part.Goals as goal

pub returns-in-Some-clause-parts : goal.returns-in-Some-clause-parts
returns-in-Some-clause-parts c = next_part c.args.mark c.args.text.now c.in-Some.part.now c.in-Some.rest.now c.in-Some.ensures

pub returns-in-None-clause-parts : goal.returns-in-None-clause-parts
returns-in-None-clause-parts c = one_part c.args.mark c.args.text.now c.in-None.ensures
