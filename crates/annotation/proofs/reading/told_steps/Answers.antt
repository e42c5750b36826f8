-- Where there are several answers, there is not one.
use Rattle.std.proofs.Common.{refl}
use Rattle.annotation.proofs.NotesRead.{several_not_one}
use Rattle.annotation.proofs.reading.told_steps.Goals as goal

pub returns-in-Err-Several : goal.returns-in-Err-Several
returns-in-Err-Several c =
    (refl, several_not_one c.args.lexicon.now.lexicon c.args.told.now.line c.args.told.now.choices _ _ (rw c.in-Err-Several.field-0-is at c.in-Err-Several.ensures.found))
