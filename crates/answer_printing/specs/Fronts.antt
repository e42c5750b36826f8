-- The printed steps of an answer, and what may follow them (own).
use Rattle.std.specs.Prelude.{◌≡◌, ℕ, ◌<◌, ◌≤◌, List, ◌++◌, length, take, map, slice_index_or}
use Rattle.lexicon_definitions.specs.Lexicons.{RuleSet, rule_of}
use Rattle.segmentation_definitions.specs.Derivations.{Step as AnswerStep}
use Rattle.segmentation_definitions.specs.PrintedAnswers.{printed_form, printed_joint, printed_steps}
use Rattle.derivation.specs.declared.step.Step.{Step}
use Rattle.derivation.specs.Steps.{steps_from, steps_of}
use Rattle.answer_printing.specs.declared.printed_front.PrintedStep.{PrintedStep}

-- a form with its phase, and what stands between it and the next
abbrev pub printed_form_and_joint : RuleSet → AnswerStep → List ℕ
printed_form_and_joint rules step = printed_form rules step ++ printed_joint rules step.rule

-- the step that was printed
abbrev pub step_in : PrintedStep → Step
step_in printed = printed.step

-- what is read at a place where no step was printed
abbrev pub nothing : PrintedStep
nothing = record { step = record { phase = 0; rule = 0; at = 0; lead = 0; taken = 0 }; at = 0; before = 0 }

-- the printed step at a place
abbrev pub printed_at : List PrintedStep → ℕ → PrintedStep
printed_at printed place = slice_index_or printed place nothing

-- whatever steps come after these, of which the last has the rule `before`, the text and what is printed of the later ones are
-- together what is printed of all
abbrev pub GoesOn : RuleSet → List ℕ → List Step → ℕ → List ℕ → Type 0
GoesOn rules letters front before text = (rest : List Step) → 0 < length rest
    → text ++ printed_steps rules (steps_from rules letters (rule_of rules before).v rest) ≡ printed_steps rules (steps_of rules letters (front ++ rest))

-- the text of each printed step begins where it says: what stands before it in the text is what is printed of the steps before
pub record AreStarts (rules : RuleSet) (letters : List ℕ) (printed : List PrintedStep) (text : List ℕ) : Type 0 where
  pub rule : (place : ℕ) → place < length printed → (printed_at printed place).before ≤ length rules.rules
  pub within : (place : ℕ) → place < length printed → (printed_at printed place).at ≤ length text
  pub rise : (place later : ℕ) → place ≤ later → later < length printed → (printed_at printed place).at ≤ (printed_at printed later).at
  pub each : (place : ℕ) → place < length printed
      → GoesOn rules letters (take place (map step_in printed)) (printed_at printed place).before (take (printed_at printed place).at text)

-- the text is that of these steps, of which the last has the rule `before`, and another step may follow
pub record IsOpen (rules : RuleSet) (letters : List ℕ) (printed : List PrintedStep) (before : ℕ) (text : List ℕ) : Type 0 where
  pub starts : AreStarts rules letters printed text
  pub rule : before ≤ length rules.rules
  pub goes_on : GoesOn rules letters (map step_in printed) before text
