-- The program's configurations, and what is asked of the guide of a search over a lexicon, a line and choices (own).
use Rattle.std.specs.Prelude.{ℕ, ◌<◌, ◌≤◌, ◌↔◌, Bool, IsTrue, Option, List, [], length, slice_index_or}
use Rattle.text_definitions.specs.Lines.{Line}
use Rattle.lexicon_definitions.specs.Grammars.{State}
use Rattle.lexicon_definitions.specs.Leads.{Lead, leads_of}
use Rattle.lexicon_definitions.specs.Lexicons.{Lexicon}
use Rattle.segmentation_definitions.specs.Items.{Choice}
use Rattle.segmentation_definitions.specs.Configurations.{Configuration, Entrance, StandsInAnswer}
use Rattle.segmentation_definitions.specs.Configurations as defined
use Rattle.phase_automaton.specs.Automata.{StateMachine, IsStateIn, state_at}
use Rattle.derivation.specs.declared.entrance.Entrance.{Entrance as ProgramEntrance}
use Rattle.derivation.specs.declared.entrance.Entrance.TheVariants as program

-- the lead at a place of the list
abbrev pub lead_at : List Lead → ℕ → Lead
lead_at leads place = slice_index_or leads place (record { v = []; after = 0 })

-- the entrance that the program's one stands for
abbrev pub entrance_of : List Lead → ProgramEntrance → Entrance
entrance_of leads program.Start = defined.Start
entrance_of leads (program.Plain letter) = defined.Plain letter
entrance_of leads (program.Lead place) = defined.Lead (lead_at leads place).v (lead_at leads place).after

-- the configuration that the program's one stands for, where the states of the grammar stand in this list by their numbers
abbrev pub configuration_of : Lexicon → List State → ℕ → ProgramEntrance → Option ℕ → Configuration
configuration_of lexicon states at entrance state =
    record { at = at; entrance = entrance_of (leads_of lexicon.rules.rules) entrance; state = state_at states state }

-- the entrance is one over these leads
abbrev pub IsEntranceOver : List Lead → ProgramEntrance → Type 0
IsEntranceOver leads program.Start = Unit {0}
IsEntranceOver leads (program.Plain letter) = Unit {0}
IsEntranceOver leads (program.Lead place) = place < length leads

-- the program's configuration is within the lexicon and the line
pub record IsWithin (lexicon : Lexicon) (machine : StateMachine) (line : Line) (at : ℕ) (entrance : ProgramEntrance) (state : Option ℕ) : Type 0 where
  pub letters : at ≤ length line.letters
  pub over : IsEntranceOver (leads_of lexicon.rules.rules) entrance
  pub state_in : IsStateIn machine state

-- the guide covers every configuration within the lexicon and the line, and never says false of one that stands in an answer
pub record IsGuideFor (lexicon : Lexicon) (machine : StateMachine) (states : List State) (line : Line) (choices : List Choice)
    (covers : ℕ → ProgramEntrance → Option ℕ → Type 0) (says : ℕ → ProgramEntrance → Option ℕ → Bool) : Type 0 where
  pub covers_all : (at : ℕ) (entrance : ProgramEntrance) (state : Option ℕ) → IsWithin lexicon machine line at entrance state
      → covers at entrance state
  pub never_false : (at : ℕ) (entrance : ProgramEntrance) (state : Option ℕ) → IsWithin lexicon machine line at entrance state
      → StandsInAnswer lexicon line choices (configuration_of lexicon states at entrance state) → IsTrue (says at entrance state)

-- it says true of a configuration within the lexicon and the line only where this stands in an answer
pub record IsExact (lexicon : Lexicon) (machine : StateMachine) (states : List State) (line : Line) (choices : List Choice)
    (says : ℕ → ProgramEntrance → Option ℕ → Bool) : Type 0 where
  pub never_true : (at : ℕ) (entrance : ProgramEntrance) (state : Option ℕ) → IsWithin lexicon machine line at entrance state
      → IsTrue (says at entrance state) → StandsInAnswer lexicon line choices (configuration_of lexicon states at entrance state)
