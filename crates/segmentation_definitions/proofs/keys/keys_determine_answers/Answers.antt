-- From the first step to the last: each key gives its step and what is left of the word.
use Rattle.std.proofs.Common.{[], refl}
use Rattle.segmentation_definitions.proofs.KeyLists.{same_steps}
use Rattle.segmentation_definitions.proofs.KeyFronts.{no_more_keys}
use Rattle.segmentation_definitions.proofs.keys.keys_determine_answers.Goals as goal

pub returns-clause-same : goal.returns-clause-same
returns-clause-same c lexicon word left right p q e =
    same_steps lexicon.rules left right 0 0 [] [] word word [] [] refl refl p.covers q.covers e

pub returns-clause-no_front : goal.returns-clause-no_front
returns-clause-no_front c lexicon word left right more lexical p q e =
    no_more_keys lexicon lexical left right 0 0 [] [] word word more refl refl p.ends p.covers q.forms q.joined q.ends q.covers e
