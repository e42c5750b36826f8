-- Where a search comes to: where the front of an answer ends; and the rank of such a configuration, which rises (own).
use Rattle.std.specs.Prelude.{◌≡◌, ℕ, ◌+◌, ◌*◌, List, [], length}
use Rattle.text_definitions.specs.Lines.{Line}
use Rattle.segmentation_definitions.specs.Items.{Choice, covered_from, after_lead}
use Rattle.segmentation_definitions.specs.Derivations.{Step, phases_of}
use Rattle.segmentation_definitions.specs.Configurations.{Start, entrance_after}
use Rattle.answer_paths.specs.Fronts.{supplied, IsLedTo}
use Rattle.phase_automaton.specs.Automata.{state_after}
use Rattle.annotated_trie.specs.Searched.{SearchedLexicon}
use Rattle.search_frames.specs.Configurations.{NumberedConfiguration, rules_in}

-- the front of an answer ends where the search stands
pub record IsReached (searched : SearchedLexicon) (line : Line) (choices : List Choice) (here : NumberedConfiguration) : Type 0 where
  pub front : List Step
  pub led : IsLedTo searched.lexicon line choices front
  pub at : here.at ≡ covered_from (rules_in searched) 0 [] front
  pub entrance : here.entrance ≡ entrance_after (rules_in searched) Start front
  pub state : here.state ≡ state_after searched.machine (phases_of front)

-- twice the letters that are derived, and one more where no rule supplies letters to the next form
abbrev pub rank : NumberedConfiguration → ℕ
rank here = 2 * here.at + after_lead (length (supplied here.entrance))
