-- The empty text begins with no mark; else the first byte tells it.
use Rattle.more_schemes.proofs.MarkFronts.{latin_none}
use Rattle.more_schemes.proofs.marks.latin_mark.Goals as goal

pub returns-in-empty-clause-value : goal.returns-in-empty-clause-value
returns-in-empty-clause-value c = latin_none c.args.text.now c.in-empty.len_below
