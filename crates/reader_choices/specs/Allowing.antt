-- The local test of the program's steps against a reader's choices (own).
use Rattle.std.specs.Prelude.{ℕ, Bool, true, false, List, [], ◌∷◌, length}
use Rattle.lexicon_definitions.specs.Lexicons.{RuleSet, rule_of}
use Rattle.segmentation_definitions.specs.Items.{Choice}
use Rattle.segmentation_definitions.specs.LocalTests.{Allows}
use Rattle.derivation.specs.declared.step.Step.{Step as ProgramStep}
use Rattle.derivation.specs.Steps.{placed_with}

-- the lead that these steps leave to whatever follows them, where the first of them is entered with this one
abbrev pub lead_from : RuleSet → List ℕ → List ProgramStep → List ℕ
lead_from rules lead [] = lead
lead_from rules lead (step ∷ steps) = lead_from rules (rule_of rules step.rule).v steps

-- the lead that these steps leave to whatever follows them, where they are the first ones
abbrev pub lead_after : RuleSet → List ProgramStep → List ℕ
lead_after rules steps = lead_from rules [] steps

-- whether whatever follows these steps is the first of all, where the first of them is or is not
abbrev pub is_first_after : Bool → List ProgramStep → Bool
is_first_after first [] = first
is_first_after first (step ∷ steps) = false

-- the step passes the local test of each choice after the steps before it
abbrev pub AllowsStep : RuleSet → List ℕ → List Choice → List ProgramStep → ProgramStep → Type 0
AllowsStep rules letters choices before step =
    Allows rules (length letters) choices (is_first_after true before) (placed_with rules letters (lead_after rules before) step)
