-- It is one piece, and each of its bytes is a letter; no word has more than nine.
use Rattle.demo_definitions.proofs.DrawnWords.{text_is}
use Rattle.demo_definitions.proofs.LinesRead.{line_read}
use Rattle.demo_definitions.proofs.laws.the_text_is_read.Goals as goal

pub returns-clause-line : goal.returns-clause-line
returns-clause-line c = line_read

pub returns-clause-short : goal.returns-clause-short
returns-clause-short c = λ number. (text_is number).few
