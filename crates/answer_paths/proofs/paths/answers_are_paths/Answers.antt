-- By induction on the steps that are left, and on the path; the keys of steps that cover a word determine them.
use Rattle.std.proofs.Common.{[], refl}
use Rattle.segmentation_definitions.proofs.KeyLists.{same_steps}
use Rattle.answer_paths.proofs.AnswerPaths.{path_of_answer, answer_after, answer_with_keys}
use Rattle.answer_paths.proofs.paths.answers_are_paths.Goals as goal

pub returns-clause-path : goal.returns-clause-path
returns-clause-path c lexicon line choices steps is answer = path_of_answer lexicon line choices steps is answer

pub returns-clause-answer : goal.returns-clause-answer
returns-clause-answer c lexicon line choices path is =
    let found = answer_after lexicon line choices path [] is in (found.rest, found.answer, found.keys)

pub returns-clause-one : goal.returns-clause-one
returns-clause-one c lexicon line choices left right p q e =
    same_steps lexicon.rules left right 0 0 [] [] line.letters line.letters [] [] refl refl p.derives.covers q.derives.covers e

pub returns-clause-exactly : goal.returns-clause-exactly
returns-clause-exactly c lexicon line choices steps is covers = (
  λ answer. path_of_answer lexicon line choices steps is answer,
  λ path. answer_with_keys lexicon line choices steps _ covers refl path,
)
