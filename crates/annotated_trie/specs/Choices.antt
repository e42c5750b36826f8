-- The choices of the nodes of a trie: the rules whose `u` leads from the node to a form's end (the choice points of Huet 2005).
use Rattle.std.specs.Prelude.{◌≡◌, ◌≢◌, ℕ, ◌-◌, ◌<◌, ◌≤◌, ◌^◌, ◌↔◌, ◌==◌, Some, List, [], length, map, slice_index, slice_index_or, All, Contains}
use Rattle.std.specs.List.{filter, sum_by}
use Rattle.std.specs.Ordering.{nat_cmp}
use Rattle.std.specs.List.Sorted.{IsStrictlySortedBy}
use Rattle.lexicon_definitions.specs.Lexicons.{RuleSet, rule_of}
use Rattle.lexicon_definitions.specs.Rules.{Rule}
use Rattle.lexicon_definitions.specs.Tries.{Row, Trie, IsTrie, row_of, walk}

-- the trie; for each node, by its number, the numbers of the rules that are its choices, and the number of the list that has them; for
-- each rule, from the first on, the first letter of its w; for each node the numbers of the parts of its choices; and for each part, by
-- its number, the numbers of its rules
pub record AnnotatedTrie : Type 0 where
  pub trie : Trie
  pub choices : List (List ℕ)
  pub list_numbers : List ℕ
  pub firsts : List ℕ
  pub parts : List (List ℕ)
  pub part_rules : List (List ℕ)

-- the choices of the node
abbrev pub choices_of : AnnotatedTrie → ℕ → List ℕ
choices_of tries node = slice_index_or tries.choices node []

-- the number of the list that has the choices of the node
abbrev pub list_number_of : AnnotatedTrie → ℕ → ℕ
list_number_of tries node = slice_index tries.list_numbers node

-- the parts of the node's choices, by their numbers
abbrev pub parts_of : AnnotatedTrie → ℕ → List ℕ
parts_of tries node = slice_index_or tries.parts node []

-- the rules of the part
abbrev pub rules_of_part : AnnotatedTrie → ℕ → List ℕ
rules_of_part tries part = slice_index_or tries.part_rules part []

-- the rules of the list, by their numbers, whose w begins with the letter
abbrev pub with_first : List ℕ → ℕ → List ℕ → List ℕ
with_first firsts letter list = filter (λ (number : ℕ). slice_index firsts (number - 1) == letter) list

-- the choices of the node whose w begins with the letter
abbrev pub choices_with : AnnotatedTrie → ℕ → ℕ → List ℕ
choices_with tries node letter = with_first tries.firsts letter (choices_of tries node)

-- the first letter of the rule's w
abbrev pub first_letter : Rule → ℕ
first_letter rule = slice_index rule.w 0

-- the word leads from the node to the end of a form
pub record LeadsToEnd (rows : List Row) (node : ℕ) (word : List ℕ) : Type 0 where
  pub reached : ℕ
  pub walked : walk rows node word ≡ Some reached
  pub ends : (row_of rows reached).deltas ≢ []

-- the choices are just the rules whose u leads from the node to a form's end, rising
pub record AreChoices (rules : RuleSet) (rows : List Row) (node : ℕ) (choices : List ℕ) : Type 0 where
  pub rising : IsStrictlySortedBy nat_cmp choices
  pub members : (number : ℕ) → Contains choices number
      ↔ ((0 < number) × (number ≤ length rules.rules) × LeadsToEnd rows node (rule_of rules number).u)

-- the choices are just the rules of these parts, which are no more than the choices, each in one part alone
pub record AreParts (tries : AnnotatedTrie) (choices parts : List ℕ) : Type 0 where
  pub there : All (λ (part : ℕ). part < length tries.part_rules) parts
  pub rules : (rule : ℕ) → Contains choices rule ↔ ((part : ℕ) × Contains parts part × Contains (rules_of_part tries part) rule)
  pub few : sum_by (λ (part : ℕ). length (rules_of_part tries part)) parts ≤ length choices
  pub some : length parts ≤ length choices

-- the rules of each part have one and the same u
abbrev pub HaveOneU : RuleSet → List (List ℕ) → Type 0
HaveOneU rules part_rules = (part one other : ℕ) → Contains (slice_index_or part_rules part []) one → Contains (slice_index_or part_rules part []) other
    → (rule_of rules one).u ≡ (rule_of rules other).u

-- each node of the trie has its choices, which are put together of its parts, each with one u, and each rule its first letter
pub record IsAnnotatedTrie (rules : RuleSet) (tries : AnnotatedTrie) : Type 0 where
  pub trie : IsTrie tries.trie
  pub few : length tries.trie.rows < 2 ^ 32
  pub each : (node : ℕ) → node < length tries.trie.rows → AreChoices rules tries.trie.rows node (choices_of tries node)
  pub firsts : tries.firsts ≡ map first_letter rules.rules
  pub parts : (node : ℕ) → node < length tries.trie.rows → AreParts tries (choices_of tries node) (parts_of tries node)
  pub one_u : HaveOneU rules tries.part_rules
