-- Configurations of a search: where the next form begins, how it is entered, and what the grammar knows (own).
use Rattle.std.specs.Prelude.{◌≡◌, ◌≢◌, ℕ, ◌-◌, ◌==◌, ◌⊎◌, true, if◌then◌else◌, List, [], ◌∷◌, ◌++◌, length, slice_index}
use Rattle.std.specs.List.{AllByRecursion}
use Rattle.text_definitions.specs.Lines.{Line}
use Rattle.lexicon_definitions.specs.Grammars.{State, IsStateAfter, IsLiveState}
use Rattle.lexicon_definitions.specs.Lexicons.{Lexicon, RuleSet, tree_of}
use Rattle.segmentation_definitions.specs.Derivations.{Step, rule_after, phases_of, HasInnerRule, AreForms, AreJoined, Covers}
use Rattle.segmentation_definitions.specs.Items.{Choice, placed, covered_from}
use Rattle.segmentation_definitions.specs.Answers.{IsAnswer}
use Rattle.segmentation_definitions.specs.LocalTests.{HasNoBlankInside, AllAllow}

-- how the next form is entered: at the start, unchanged after a form that ends in the letter, or with the v of a rule
-- and in a phase of its after
pub data Entrance : Type 0 where
  Start : Entrance
  Plain : (letter : ℕ) → Entrance
  Lead : (v : List ℕ) → (after : ℕ) → Entrance

-- how many letters are derived, how the next form is entered, and the state of the grammar
pub record Configuration : Type 0 where
  pub at : ℕ
  pub entrance : Entrance
  pub state : State

-- the last letter of a form
abbrev pub last_letter : List ℕ → ℕ
last_letter form = slice_index form (length form - 1)

-- how the form after the step is entered
abbrev pub entrance_after_step : RuleSet → Step → Entrance
entrance_after_step rules step =
    if step.rule == 0 then Plain (last_letter step.form)
    else Lead (rule_after rules step).v (rule_after rules step).after

-- how the form after the steps is entered, where the first is entered so
abbrev pub entrance_after : RuleSet → Entrance → List Step → Entrance
entrance_after rules entrance [] = entrance
entrance_after rules entrance (step ∷ steps) = entrance_after rules (entrance_after_step rules step) steps

-- the steps end at the configuration, which is asked only of steps after which a derivation goes on
pub record EndsAt (rules : RuleSet) (steps : List Step) (configuration : Configuration) : Type 0 where
  pub covered : configuration.at ≡ covered_from rules 0 [] steps
  pub entrance : configuration.entrance ≡ entrance_after rules Start steps
  pub state : IsStateAfter (tree_of rules) (phases_of steps) configuration.state

-- after the last step, if there is one, there is no change or an inner rule that may follow its phase
abbrev pub GoesOn : RuleSet → List Step → Type 0
GoesOn rules [] = Unit {0}
GoesOn rules (step ∷ []) = (step.rule ≡ 0) ⊎ HasInnerRule rules step
GoesOn rules (step ∷ next ∷ steps) = GoesOn rules (next ∷ steps)

-- each step is lawful so far: the steps cover a front of the word, and after the last there is no change or an inner rule
pub record IsFront (lexicon : Lexicon) (steps : List Step) (word : List ℕ) : Type 0 where
  pub forms : AreForms lexicon steps
  pub joined : AreJoined lexicon.rules steps
  pub goes_on : GoesOn lexicon.rules steps
  pub rest : List ℕ
  pub covers : Covers lexicon.rules [] steps word rest

-- some steps that may be the first ones end at the configuration, and its state is one of the grammar's
pub record IsReached (lexicon : Lexicon) (word : List ℕ) (configuration : Configuration) : Type 0 where
  pub steps : List Step
  pub front : IsFront lexicon steps word
  pub ends : EndsAt lexicon.rules steps configuration
  pub live : IsLiveState configuration.state

-- some proper front of an answer ends at the configuration
pub record StandsInAnswer (lexicon : Lexicon) (line : Line) (choices : List Choice) (configuration : Configuration) : Type 0 where
  pub front : List Step
  pub rest : List Step
  pub proper : rest ≢ []
  pub answer : IsAnswer lexicon line choices (front ++ rest)
  pub ends : EndsAt lexicon.rules front configuration

-- each of the steps passes the local tests of blanks and choices
pub record PassesTests (rules : RuleSet) (line : Line) (choices : List Choice) (steps : List Step) : Type 0 where
  pub no_blank_inside : AllByRecursion (HasNoBlankInside line.blanks) (placed rules steps)
  pub choices_allowed : AllAllow rules (length line.letters) choices true (placed rules steps)
