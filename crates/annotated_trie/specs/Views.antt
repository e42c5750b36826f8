-- What the definitions see of a trie with choices, whose nodes may share lists of choices.
use Rattle.std.specs.Prelude.{◌≡◌, ℕ, ◌<◌, ◌≤◌, ◌⊎◌, ◌^◌, ◌==◌, Bool, List, [], length, map, slice_index, slice_index_or, All, Contains}
use Rattle.std.specs.Global.{Vec}
use Rattle.std.specs.List.{filter}
use Rattle.lexicon_definitions.specs.Lexicons.{RuleSet}
use Rattle.lexicon_definitions.specs.Tries.{Row, Trie}
use Rattle.annotated_trie.specs.Choices.{AnnotatedTrie, AreChoices}

-- the list at the place
abbrev pub list_at : List (Vec ℕ) → ℕ → List ℕ
list_at lists place = slice_index_or (map (λ (list : Vec ℕ). list.items) lists) place []

-- whether the list begins with the rule, whose number is counted from 1
abbrev pub begins_with : List ℕ → ℕ → Bool
begins_with list rule = slice_index list 0 == rule

-- the rules of the list of which each is the first of a part
abbrev pub parts_in : List (List ℕ) → List ℕ → List ℕ
parts_in part_rules list = filter (λ (rule : ℕ). begins_with (slice_index_or part_rules rule []) rule) list

-- the parts of each list
abbrev pub parts_of_lists : List (List ℕ) → List (Vec ℕ) → List (List ℕ)
parts_of_lists part_rules lists = map (parts_in part_rules) (map (λ (list : Vec ℕ). list.items) lists)

-- the trie whose nodes have the lists at these places as their choices, the first letters of the rules, and the rules of the parts
abbrev pub annotated_with : Trie → List (Vec ℕ) → List ℕ → List ℕ → List (List ℕ) → AnnotatedTrie
annotated_with trie lists places firsts part_rules =
    record {
      trie = trie;
      choices = map (list_at lists) places;
      list_numbers = places;
      firsts = firsts;
      parts = map (λ (place : ℕ). parts_in part_rules (list_at lists place)) places;
      part_rules = part_rules;
    }

-- the number is the greatest length of these lists, or 0 where there are none
pub record IsMostRules (choices : List (List ℕ)) (most : ℕ) : Type 0 where
  pub above : All (λ (list : List ℕ). length list ≤ most) choices
  pub greatest : (most ≡ 0) ⊎ ((list : List ℕ) × Contains choices list × (length list ≡ most))

-- each node has the place of a list, and the number is the greatest length of their lists, which fits 32 bits
pub record ArePlaces (lists : List (Vec ℕ)) (nodes : ℕ) (places : List ℕ) (most : ℕ) : Type 0 where
  pub count : length places ≡ nodes
  pub within : All (λ (place : ℕ). place < length lists) places
  pub is_most : IsMostRules (map (list_at lists) places) most
  pub few : most < 2 ^ 32

-- each node has the place of a list, which has the node's choices
pub record AreChosen (rules : RuleSet) (rows : List Row) (lists : List (Vec ℕ)) (places : List ℕ) : Type 0 where
  pub count : length places ≡ length rows
  pub within : All (λ (place : ℕ). place < length lists) places
  pub each : (node : ℕ) → node < length rows → AreChoices rules rows node (list_at lists (slice_index places node))
