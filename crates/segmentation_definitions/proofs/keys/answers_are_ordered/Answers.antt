-- The order is that of lists of keys; lists of keys that compare as equal are the same, and then so are the steps.
use Rattle.std.proofs.Common.{[], refl}
use Rattle.segmentation_definitions.proofs.KeyLists.{compare_answers_total, compare_key_lists_exact, same_steps}
use Rattle.segmentation_definitions.proofs.keys.answers_are_ordered.Goals as goal

pub returns-clause-total : goal.returns-clause-total
returns-clause-total c = compare_answers_total

pub returns-clause-strict : goal.returns-clause-strict
returns-clause-strict c lexicon line choices left right p q e =
    same_steps lexicon.rules left right 0 0 [] [] line.letters line.letters [] [] refl refl p.derives.covers q.derives.covers
    (compare_key_lists_exact _ _ e)
