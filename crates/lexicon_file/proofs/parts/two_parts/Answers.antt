-- The text is cut at its first mark, and the rest is one part.
use Rattle.std.proofs.Common.{◌∷◌, ◌∙◌, ap}
use Rattle.form_file.specs.Fields.{two_of}
use Rattle.lexicon_file.proofs.PartLemmas.{one_part, next_part, more_than_two}
use Rattle.lexicon_file.proofs.parts.two_parts.Goals as goal

pub returns-in_default : goal.returns-in_default
returns-in_default c = ap two_of (one_part c.args.mark c.args.text.now c.in_default.ensures)

pub returns-in-Some-cut_at : goal.returns-in-Some-cut_at
returns-in-Some-cut_at c =
    more_than_two c.args.mark _ c.in-Some.first.now c.in-Some-cut_at.field-0.0.now c.in-Some-cut_at.field-0.1.now
    (next_part c.args.mark c.args.text.now c.in-Some.first.now c.in-Some.rest.now c.in-Some.ensures
    ∙ ap (◌∷◌ c.in-Some.first.now) (next_part c.args.mark c.in-Some.rest.now c.in-Some-cut_at.field-0.0.now c.in-Some-cut_at.field-0.1.now c.in-Some-cut_at.ensures))

pub returns-in-None : goal.returns-in-None
returns-in-None c =
    next_part c.args.mark c.args.text.now c.in-Some.first.now c.in-Some.rest.now c.in-Some.ensures ∙ ap (◌∷◌ c.in-Some.first.now) (one_part c.args.mark c.in-Some.rest.now c.in-None.ensures)
