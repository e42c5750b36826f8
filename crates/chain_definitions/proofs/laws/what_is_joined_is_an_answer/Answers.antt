-- Clause by clause; the word is one, and has a letter.
use Rattle.std.proofs.Common.{refl}
use Rattle.chain_definitions.proofs.AnswerChains.{line_if_joined, answer_if_joined}
use Rattle.chain_definitions.proofs.laws.what_is_joined_is_an_answer.Goals as goal

pub returns-clause-line : goal.returns-clause-line
returns-clause-line c = λ lexicon steps word is joined. line_if_joined lexicon steps word is joined.0 (joined.1.0 refl)

pub returns-clause-answer : goal.returns-clause-answer
returns-clause-answer c = λ lexicon steps word joined. answer_if_joined lexicon steps word joined.0 (joined.1.0 refl)
