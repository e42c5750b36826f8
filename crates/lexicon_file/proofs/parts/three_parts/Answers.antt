-- The text is cut at its first mark, and the rest has two parts or not.
use Rattle.std.proofs.Common.{◌∷◌, ◌∙◌, ap}
use Rattle.lexicon_file.specs.Parts.{parts_at, three_of}
use Rattle.lexicon_file.proofs.PartLemmas.{one_part, next_part, not_three}
use Rattle.lexicon_file.proofs.parts.three_parts.Goals as goal

pub returns-in_default : goal.returns-in_default
returns-in_default c = ap three_of (one_part c.args.mark c.args.text.now c.in_default.ensures)

pub returns-in-Some-two_parts : goal.returns-in-Some-two_parts
returns-in-Some-two_parts c =
    next_part c.args.mark c.args.text.now c.in-Some.first.now c.in-Some.rest.now c.in-Some.ensures ∙ ap (◌∷◌ c.in-Some.first.now) c.in-Some-two_parts.ensures

pub returns-in-None : goal.returns-in-None
returns-in-None c =
    not_three _ (parts_at c.args.mark c.in-Some.rest.now) c.in-Some.first.now (next_part c.args.mark c.args.text.now c.in-Some.first.now c.in-Some.rest.now c.in-Some.ensures) c.in-None.ensures
