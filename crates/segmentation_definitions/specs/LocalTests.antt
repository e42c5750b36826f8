-- Tests of blanks and choices that look at one step at a time (own).
use Rattle.std.specs.Prelude.{◌≡◌, ◌≢◌, ℕ, ◌+◌, ◌*◌, ◌<◌, ◌≤◌, ◌⊎◌, true, false, Bool, List, [], ◌∷◌, length, All}
use Rattle.std.specs.List.{AllByRecursion}
use Rattle.lexicon_definitions.specs.Lexicons.{RuleSet}
use Rattle.segmentation_definitions.specs.Derivations.{Step, rule_after, IsRuleNumber}
use Rattle.lexicon_definitions.specs.Rules.{IsFinal}
use Rattle.segmentation_definitions.specs.Items.{Placed, placed, item_of, rank_of, after_lead, Item, Choice}

-- no blank stands strictly inside the letters that the step takes
abbrev pub HasNoBlankInside : List ℕ → Placed → Type 0
HasNoBlankInside blanks p = All (λ blank. p.at < blank → blank < p.at + p.taken → ⊥) blanks

-- no blank stands after the beginning of the last step
abbrev pub HasNoBlankAfterLast : List ℕ → List Placed → Type 0
HasNoBlankAfterLast blanks [] = Unit {0}
HasNoBlankAfterLast blanks (p ∷ []) = All (λ blank. blank ≤ p.at) blanks
HasNoBlankAfterLast blanks (p ∷ q ∷ ps) = HasNoBlankAfterLast blanks (q ∷ ps)

-- no blank stands inside the letters that a step takes or after the beginning of the last step
pub record KeepsBlanksLocally (rules : RuleSet) (blanks : List ℕ) (steps : List Step) : Type 0 where
  pub inside : AllByRecursion (HasNoBlankInside blanks) (placed rules steps)
  pub following : HasNoBlankAfterLast blanks (placed rules steps)

-- the rank of a step is that of its item
abbrev pub rank_at : Placed → ℕ
rank_at p = rank_of (item_of p)

-- in a line of this length the step is last: its rule is final, or there is no change and the line ends after it
abbrev pub IsLast : RuleSet → ℕ → Placed → Type 0
IsLast rules line_length p =
    (IsRuleNumber rules p.step.rule × IsFinal (rule_after rules p.step))
    ⊎ ((p.step.rule ≡ 0) × (p.at + p.taken ≡ line_length))

-- the rank of whatever step follows this one; where there is no change, the next step has no lead
abbrev pub next_rank : RuleSet → Placed → ℕ
next_rank rules p = 2 * (p.at + p.taken + length (rule_after rules p.step).w) + after_lead p.step.rule

-- what the step alone tells of a kept item: at the step's rank it is the step's item; it has no rank between this one and that
-- of the next step, none after a last step and none before a first step
pub record AllowsKept (rules : RuleSet) (line_length : ℕ) (is_first : Bool) (p : Placed) (item : Item) : Type 0 where
  pub here : rank_of item ≡ rank_at p → item ≡ item_of p
  pub between : (IsLast rules line_length p → ⊥) → rank_at p < rank_of item → next_rank rules p ≤ rank_of item
  pub following : IsLast rules line_length p → rank_of item ≤ rank_at p
  pub before : is_first ≡ true → rank_at p ≤ rank_of item

-- a step allows a kept item as above, and a rejected item where it is not the step's
abbrev pub AllowsChoice : RuleSet → ℕ → Bool → Placed → Bool → Item → Type 0
AllowsChoice rules line_length is_first p true item = AllowsKept rules line_length is_first p item
AllowsChoice rules line_length is_first p false item = item ≢ item_of p

-- the step passes the local test of each choice
abbrev pub Allows : RuleSet → ℕ → List Choice → Bool → Placed → Type 0
Allows rules line_length choices is_first p =
    All (λ choice. AllowsChoice rules line_length is_first p choice.kept choice.item) choices

-- each step passes the local test of each choice; is_first says whether the first of them is the first of all
abbrev pub AllAllow : RuleSet → ℕ → List Choice → Bool → List Placed → Type 0
AllAllow rules line_length choices is_first [] = Unit {0}
AllAllow rules line_length choices is_first (p ∷ ps) =
    Allows rules line_length choices is_first p × AllAllow rules line_length choices false ps
