-- The frames of a search: where each stands, and at which key (own; after Huet 2005).
use Rattle.std.specs.Prelude.{◌≡◌, ℕ, ◌<◌, Some, length, take, slice_index_or}
use Rattle.text_definitions.specs.Lines.{Line}
use Rattle.lexicon_definitions.specs.Leads.{leads_of}
use Rattle.segmentation_definitions.specs.Listings.{Key}
use Rattle.derivation.specs.Guides.{entrance_of, IsWithin}
use Rattle.derivation.specs.Steps.{key_of}
use Rattle.derivation.specs.declared.step.Step.{Step}
use Rattle.derivation.specs.declared.entrance.Entrance.TheVariants as program
use Rattle.answer_paths.specs.Fronts.{supplied}
use Rattle.search_frames.specs.declared.frame.Frame.{Frame}
use Rattle.search_frames.specs.declared.resumption.Resumption.{Resumption}
use Rattle.search_frames.specs.declared.configuration.Configuration.{Configuration}
use Rattle.annotated_trie.specs.Searched.{SearchedLexicon}
use Rattle.search_frames.specs.Stacks.{IsStack}
use Rattle.search_frames.specs.Configurations.{NumberedConfiguration, IsPossible, rules_in}

-- the program's configuration, with the entrance of the definitions
abbrev pub numbered_of : SearchedLexicon → Configuration → NumberedConfiguration
numbered_of searched place = record {
  at = place.at;
  entrance = entrance_of (leads_of (rules_in searched).rules) place.entrance;
  state = place.state;
}

-- the step and the frame at a level, counted from 0
abbrev pub step_of : Resumption → ℕ → Step
step_of stack level = slice_index_or stack.steps.items level (record { phase = 0; rule = 0; at = 0; lead = 0; taken = 0 })

abbrev pub frame_of : Resumption → ℕ → Frame
frame_of stack level = slice_index_or stack.frames.items level (record { entrance = program.Start; state = Some 0 })

-- the configuration of the frame at a level
abbrev pub configuration_at : Resumption → ℕ → Configuration
configuration_at stack level = record {
  at = (step_of stack level).at;
  entrance = (frame_of stack level).entrance;
  state = (frame_of stack level).state;
}

-- the same with the entrance of the definitions
abbrev pub here_of : SearchedLexicon → Resumption → ℕ → NumberedConfiguration
here_of searched stack level = numbered_of searched (configuration_at stack level)

-- the key of the step at a level
abbrev pub key_at : Resumption → ℕ → Key
key_at stack level = key_of (step_of stack level)

-- the program's configuration is one of the lexicon and the line
abbrev pub IsConfigurationIn : SearchedLexicon → Line → Configuration → Type 0
IsConfigurationIn searched line place = IsWithin searched.lexicon searched.machine line place.at place.entrance place.state

-- the frame at a level stands at a configuration of the lexicon and the line, and its step tells how many letters are supplied there
pub record IsPlaced (searched : SearchedLexicon) (line : Line) (stack : Resumption) (level : ℕ) : Type 0 where
  pub is_stack : IsStack stack
  pub there : level < length stack.frames.items
  pub within : IsConfigurationIn searched line (configuration_at stack level)
  pub lead : (step_of stack level).lead ≡ length (supplied (here_of searched stack level).entrance)

-- nothing changes before the level, and the room stays
pub record ChangesFrom (level : ℕ) (old new : Resumption) : Type 0 where
  pub cursor : new.cursor ≡ old.cursor
  pub depth : new.depth ≡ old.depth
  pub room : length new.frames.items ≡ length old.frames.items
  pub is_stack : IsStack new
  pub steps : take level new.steps.items ≡ take level old.steps.items
  pub frames : take level new.frames.items ≡ take level old.frames.items

-- the frame was brought to the key, which is possible there
pub record IsAtKey (searched : SearchedLexicon) (line : Line) (level : ℕ) (key : Key) (old new : Resumption) : Type 0 where
  pub placed : IsPlaced searched line new level
  pub same_configuration : configuration_at new level ≡ configuration_at old level
  pub is_at : key_at new level ≡ key
  pub possible : IsPossible searched line (here_of searched old level) key

-- the step and the frame at the level are set to these, and nothing else changes
pub record HasSet (level : ℕ) (step : Step) (frame : Frame) (old new : Resumption) : Type 0 where
  pub changes : ChangesFrom level old new
  pub is_step : step_of new level ≡ step
  pub is_frame : frame_of new level ≡ frame
  pub nodes : new.nodes.items ≡ old.nodes.items
