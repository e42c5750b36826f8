-- The program's steps, which keep places in the line in place of forms, seen as steps of the definitions.
use Rattle.std.specs.Prelude.{◌≡◌, ℕ, ◌+◌, ◌<◌, ◌≤◌, List, [], ◌∷◌, ◌++◌, length, take, drop, map}
use Rattle.lexicon_definitions.specs.Lexicons.{RuleSet, rule_of}
use Rattle.segmentation_definitions.specs.Derivations.{Step}
use Rattle.segmentation_definitions.specs.Items.{Placed}
use Rattle.segmentation_definitions.specs.Listings.{Key}
use Rattle.derivation.specs.declared.step.Key.{Key as ProgramKey}
use Rattle.derivation.specs.declared.step.Step.{Step as ProgramStep}

-- the key of the definitions for which the program's one stands
abbrev pub key_meant : ProgramKey → Key
key_meant key = record { phase = key.phase; taken = key.taken; rule = key.rule }

abbrev pub keys_meant : List ProgramKey → List Key
keys_meant keys = map key_meant keys

-- the key of a step
abbrev pub key_of : ProgramStep → Key
key_of step = record { phase = step.phase; taken = step.taken; rule = step.rule }

abbrev pub keys_of : List ProgramStep → List Key
keys_of steps = map key_of steps

-- the letters of the line that a step takes
abbrev pub letters_taken : List ℕ → ProgramStep → List ℕ
letters_taken letters step = take step.taken (drop step.at letters)

-- the form of a step: its lead, the letters that it takes, and the u of its rule
abbrev pub form_with : RuleSet → List ℕ → List ℕ → ProgramStep → List ℕ
form_with rules letters lead step = lead ++ letters_taken letters step ++ (rule_of rules step.rule).u

-- the step of the definitions, entered with the lead
abbrev pub entered_with : RuleSet → List ℕ → List ℕ → ProgramStep → Step
entered_with rules letters lead step =
    record { phase = step.phase; form = form_with rules letters lead step; rule = step.rule }

-- the step of the definitions, after the rule with this number
abbrev pub step_after : RuleSet → List ℕ → ℕ → ProgramStep → Step
step_after rules letters before step = entered_with rules letters (rule_of rules before).v step

-- the steps of the definitions, where the first is entered with the lead
abbrev pub steps_from : RuleSet → List ℕ → List ℕ → List ProgramStep → List Step
steps_from rules letters lead [] = []
steps_from rules letters lead (step ∷ steps) =
    entered_with rules letters lead step ∷ steps_from rules letters (rule_of rules step.rule).v steps

-- the steps of the definitions, over the letters of the line
abbrev pub steps_of : RuleSet → List ℕ → List ProgramStep → List Step
steps_of rules letters steps = steps_from rules letters [] steps

-- a step stands at start with its lead: its phase and its rule are of the rule set, and what it takes and the w of its
-- rule stand there in the line
pub record StandsAt (rules : RuleSet) (letters : List ℕ) (start : ℕ) (lead : List ℕ) (step : ProgramStep) : Type 0 where
  pub phase : step.phase < length rules.names
  pub rule : step.rule ≤ length rules.rules
  pub at : step.at ≡ start
  pub lead_length : step.lead ≡ length lead
  pub taken : step.at + step.taken ≤ length letters
  pub following : take (length (rule_of rules step.rule).w) (drop (step.at + step.taken) letters) ≡ (rule_of rules step.rule).w

-- each step stands where the one before ends, with the lead that it leaves
abbrev pub StandFrom : RuleSet → List ℕ → ℕ → List ℕ → List ProgramStep → Type 0
StandFrom rules letters start lead [] = Unit {0}
StandFrom rules letters start lead (step ∷ steps) =
    StandsAt rules letters start lead step
    × StandFrom rules letters (step.at + step.taken + length (rule_of rules step.rule).w) (rule_of rules step.rule).v steps

-- the steps stand in the line one after another from its first letter
abbrev pub StandIn : RuleSet → List ℕ → List ProgramStep → Type 0
StandIn rules letters steps = StandFrom rules letters 0 [] steps

-- the step of the definitions, entered with the lead, at the place that the program's step keeps
abbrev pub placed_with : RuleSet → List ℕ → List ℕ → ProgramStep → Placed
placed_with rules letters lead step =
    record { step = entered_with rules letters lead step; at = step.at; lead = step.lead; taken = step.taken }

-- the steps of the definitions at the places that the program's steps keep, where the first is entered with the lead
abbrev pub places_of : RuleSet → List ℕ → List ℕ → List ProgramStep → List Placed
places_of rules letters lead [] = []
places_of rules letters lead (step ∷ steps) =
    placed_with rules letters lead step ∷ places_of rules letters (rule_of rules step.rule).v steps
