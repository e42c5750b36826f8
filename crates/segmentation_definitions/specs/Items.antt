-- Where the steps of a derivation stand in the word, and the items that a reader sees of them (segments after Goyal and
-- Huet 2016; ranks and exact clauses are own).
use Rattle.std.specs.Prelude.{ℕ, zero, suc, ◌+◌, ◌*◌, ◌-◌, Bool, List, [], ◌∷◌, length, map}
use Rattle.lexicon_definitions.specs.Lexicons.{RuleSet}
use Rattle.segmentation_definitions.specs.Derivations.{Step, rule_after}

-- a step, how many letters of the word stand before it, how many letters its lead has, and how many it takes
pub record Placed : Type 0 where
  pub step : Step
  pub at : ℕ
  pub lead : ℕ
  pub taken : ℕ

-- how many letters the step takes from the word: those of its form that neither the lead nor the u after it has, where
-- the form is as long as these two
abbrev pub taken_by : RuleSet → List ℕ → Step → ℕ
taken_by rules lead step = length step.form - length lead - length (rule_after rules step).u

-- how many letters of the word stand before whatever follows the step
abbrev pub next_at : RuleSet → ℕ → List ℕ → Step → ℕ
next_at rules start lead step = start + taken_by rules lead step + length (rule_after rules step).w

-- the steps with their places, where the first begins at start with this lead
abbrev pub placed_from : RuleSet → ℕ → List ℕ → List Step → List Placed
placed_from rules start lead [] = []
placed_from rules start lead (step ∷ steps) =
    record { step = step; at = start; lead = length lead; taken = taken_by rules lead step }
    ∷ placed_from rules (next_at rules start lead step) (rule_after rules step).v steps

-- the steps with their places in the word
abbrev pub placed : RuleSet → List Step → List Placed
placed rules steps = placed_from rules 0 [] steps

-- how many letters of the word the steps cover, where the first begins at start with this lead
abbrev pub covered_from : RuleSet → ℕ → List ℕ → List Step → ℕ
covered_from rules start lead [] = start
covered_from rules start lead (step ∷ steps) =
    covered_from rules (next_at rules start lead step) (rule_after rules step).v steps

-- a segment as a reader sees it: the letters before it, the length of its lead, its phase and its form
pub record Item : Type 0 where
  pub at : ℕ
  pub lead : ℕ
  pub phase : ℕ
  pub form : List ℕ

-- what a reader sees of a step
abbrev pub item_of : Placed → Item
item_of p = record { at = p.at; lead = p.lead; phase = p.step.phase; form = p.step.form }

-- the items of the steps
abbrev pub items_of : RuleSet → List Step → List Item
items_of rules steps = map item_of (placed rules steps)

-- 1 for an item without lead, else 0, so that it comes after one with a lead at the same letter
abbrev pub after_lead : ℕ → ℕ
after_lead zero = 1
after_lead (suc lead) = 0

-- the rank of an item is twice the letters before it, and one more where it has no lead
abbrev pub rank_of : Item → ℕ
rank_of item = 2 * item.at + after_lead item.lead

-- the ranks of the steps
abbrev pub ranks_of : RuleSet → List Step → List ℕ
ranks_of rules steps = map rank_of (items_of rules steps)

-- a reader's choice: an item is kept, or rejected
pub record Choice : Type 0 where
  pub kept : Bool
  pub item : Item
