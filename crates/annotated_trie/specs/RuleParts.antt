-- Rules in parts: those with one and the same number of a suffix are a part, which is told by the first of them.
use Rattle.std.specs.Prelude.{◌≡◌, ℕ, ◌+◌, ◌<◌, List, [], length, cond, slice_index, slice_index_or}
use Rattle.std.specs.Global.{Vec}
use Rattle.annotated_trie.specs.Choices.{AnnotatedTrie, AreParts}
use Rattle.annotated_trie.specs.Views.{begins_with, list_at, parts_in}

-- the group where it begins with the rule, and else nothing
abbrev pub group_from : List ℕ → ℕ → List ℕ
group_from group rule = cond (begins_with group rule) group []

-- each rule that is the first of its group has the group, and there is one list more, for 0, which has nothing
pub record ArePartRules (groups : List (Vec ℕ)) (numbers : List ℕ) (part_rules : List (List ℕ)) : Type 0 where
  pub count : length part_rules ≡ length numbers + 1
  pub nothing : slice_index_or part_rules 0 [] ≡ []
  pub each : (k : ℕ) → k < length numbers → slice_index_or part_rules (k + 1) [] ≡ group_from (list_at groups (slice_index numbers k)) (k + 1)

-- each list is put together of the parts whose first rules it has
abbrev pub HaveParts : List (List ℕ) → List (Vec ℕ) → Type 0
HaveParts part_rules lists =
    (tries : AnnotatedTrie) (place : ℕ) → part_rules ≡ tries.part_rules → place < length lists
    → AreParts tries (list_at lists place) (parts_in tries.part_rules (list_at lists place))
