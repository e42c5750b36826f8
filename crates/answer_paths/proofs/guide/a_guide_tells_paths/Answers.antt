-- By what completes a front.
use Rattle.answer_paths.proofs.GuidedFronts.{stands_if_path, path_if_stands, reached_if_led}
use Rattle.answer_paths.proofs.guide.a_guide_tells_paths.Goals as goal

pub returns-clause-guide : goal.returns-clause-guide
returns-clause-guide c lexicon line choices front configuration is line_is led ends = (
  λ has. stands_if_path lexicon line choices front configuration ends has,
  λ stands. path_if_stands lexicon line choices front configuration is line_is led ends stands,
)

pub returns-clause-reached : goal.returns-clause-reached
returns-clause-reached c = reached_if_led
