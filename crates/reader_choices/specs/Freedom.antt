-- Which steps the choices leave free, told by where the steps stand and by how many letters they take (own).
use Rattle.std.specs.Prelude.{◌≡◌, ℕ, ◌≤◌, ◌↔◌, Bool, IsTrue, List, length}
use Rattle.lexicon_definitions.specs.declared.limits.TheConstants.{MOST_RULE_LETTERS}
use Rattle.lexicon_definitions.specs.Lexicons.{RuleSet}
use Rattle.segmentation_definitions.specs.Derivations.{rule_after}
use Rattle.segmentation_definitions.specs.Items.{Placed, Item, Choice}
use Rattle.segmentation_definitions.specs.LocalTests.{Allows, AllowsChoice, IsLast}

-- the step stands after so many letters of the line, is entered with a lead of so many, takes so many, and the w of its rule is short
pub record IsStepTaking (rules : RuleSet) (at lead taken : ℕ) (p : Placed) : Type 0 where
  pub at_is : p.at ≡ at
  pub lead_is : p.lead ≡ lead
  pub taken_is : p.taken ≡ taken
  pub short : length (rule_after rules p.step).w ≤ MOST_RULE_LETTERS

-- whichever its rule, phase and form, such a step allows the choice just where it is not last, or may be last as the Bool says
abbrev pub LeavesFree : ℕ → ℕ → Bool → ℕ → Bool → Item → Bool → Type 0
LeavesFree at lead is_first taken kept item may_end =
    (rules : RuleSet) (line_length : ℕ) (p : Placed) → IsStepTaking rules at lead taken p
    → AllowsChoice rules line_length is_first p kept item ↔ (IsLast rules line_length p → IsTrue may_end)

-- and such a step allows each of the choices just where it is not last, or may be last as the Bool says
abbrev pub LeaveFree : ℕ → ℕ → Bool → ℕ → List Choice → Bool → Type 0
LeaveFree at lead is_first taken choices may_end =
    (rules : RuleSet) (line_length : ℕ) (p : Placed) → IsStepTaking rules at lead taken p
    → Allows rules line_length choices is_first p ↔ (IsLast rules line_length p → IsTrue may_end)
