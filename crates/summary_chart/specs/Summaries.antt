-- The items of the steps by which places of a table go further (own; after Goyal and Huet 2016).
use Rattle.std.specs.Prelude.{◌≡◌, ◌≢◌, ℕ, ◌+◌, ◌*◌, ◌<◌, ◌≤◌, ◌⊎◌, List, [], length, slice_index_or, Contains}
use Rattle.text_definitions.specs.Lines.{Line}
use Rattle.lexicon_definitions.specs.Lexicons.{RuleSet, rule_of}
use Rattle.lexicon_definitions.specs.Tries.{row_of}
use Rattle.lexicon_definitions.specs.declared.limits.TheConstants.{MOST_RULE_LETTERS}
use Rattle.segmentation_definitions.specs.Items.{Item, Choice, item_of}
use Rattle.segmentation_definitions.specs.Listings.{Key}
use Rattle.derivation.specs.Guides.{entrance_of}
use Rattle.derivation.specs.declared.entrance.Entrance.{Entrance}
use Rattle.answer_paths.specs.Following.{placed_at}
use Rattle.annotated_trie.specs.Searched.{SearchedLexicon}
use Rattle.search_frames.specs.declared.configuration.Configuration.{Configuration}
use Rattle.search_frames.specs.Configurations.{rules_in}
use Rattle.search_frames.specs.Frames.{IsConfigurationIn, numbered_of}
use Rattle.search_frames.specs.declared.frame.TheConstants.{NODES_OF_FRAME}
use Rattle.summary_chart.specs.declared.collected.Collected.{Collected}
use Rattle.summary_chart.specs.declared.state_set.StateSet.{StateSet}
use Rattle.summary_chart.specs.declared.table.Table.{Table}
use Rattle.summary_chart.specs.StateSets.{IsStateOf}
use Rattle.summary_chart.specs.Tables.{IsIn}
use Rattle.summary_chart.specs.Spreading.{GoesFurtherBy, standing_with, leads_in}
use Rattle.summary_chart.specs.Charts.{index_of_place, set_count}

-- the item of the step with this key, after so many letters and entered so
abbrev pub item_with : SearchedLexicon → Line → ℕ → Entrance → Key → Item
item_with searched line at entrance key = item_of (placed_at (rules_in searched) line at (entrance_of (leads_in searched) entrance) key)

-- some state of the set goes further by the key, whose step has this item
pub record IsItemBy (searched : SearchedLexicon) (line : Line) (choices : List Choice) (table : Table) (at : ℕ) (entrance : Entrance)
    (set : StateSet) (key : Key) (item : Item) : Type 0 where
  pub number : ℕ
  pub state : IsStateOf searched.machine set number
  pub further : GoesFurtherBy searched line choices table (standing_with searched at entrance number) key
  pub is : item ≡ item_with searched line at entrance key

-- some state of the set goes further by a step with this item
abbrev pub IsItemFrom : SearchedLexicon → Line → List Choice → Table → ℕ → Entrance → StateSet → Item → Type 0
IsItemFrom searched line choices table at entrance set item = (key : Key) × IsItemBy searched line choices table at entrance set key item

-- by one of this phase; of those, by one with this number of letters; and of those, by one with one of these rules
abbrev pub IsItemInPhase : SearchedLexicon → Line → List Choice → Table → ℕ → Entrance → StateSet → ℕ → Item → Type 0
IsItemInPhase searched line choices table at entrance set phase item =
    (key : Key) × (key.phase ≡ phase) × IsItemBy searched line choices table at entrance set key item

abbrev pub IsItemAtFront : SearchedLexicon → Line → List Choice → Table → ℕ → Entrance → StateSet → ℕ → ℕ → Item → Type 0
IsItemAtFront searched line choices table at entrance set phase taken item =
    (key : Key) × (key.phase ≡ phase) × (key.taken ≡ taken) × IsItemBy searched line choices table at entrance set key item

abbrev pub key_with : ℕ → ℕ → ℕ → Key
key_with phase taken rule = record { phase = phase; taken = taken; rule = rule }

abbrev pub IsItemByRule : SearchedLexicon → Line → List Choice → Table → ℕ → Entrance → StateSet → ℕ → ℕ → List ℕ → Item → Type 0
IsItemByRule searched line choices table at entrance set phase taken rules item =
    (rule : ℕ) × Contains rules rule × IsItemBy searched line choices table at entrance set (key_with phase taken rule) item

-- and by no change after that front, where a form ends at its node
abbrev pub IsItemUnchanged : SearchedLexicon → Line → List Choice → Table → ℕ → Entrance → StateSet → ℕ → ℕ → ℕ → Item → Type 0
IsItemUnchanged searched line choices table at entrance set phase taken node item =
    ((row_of searched.tries.trie.rows node).deltas ≢ []) × IsItemBy searched line choices table at entrance set (key_with phase taken 0) item

-- the list has the items that it had and those that are told by this, and no others
pub record AddsItems (IsTold : Item → Type 0) (old new : List Item) : Type 0 where
  pub keeps : (item : Item) → Contains old item → Contains new item
  pub adds : (item : Item) → IsTold item → Contains new item
  pub only : (item : Item) → Contains new item → Contains old item ⊎ IsTold item

-- for each rule, by its number, and for no change, this is its number
pub record AreRuleNumbers (rules : RuleSet) (numbers : List ℕ) : Type 0 where
  pub size : length numbers ≡ length rules.rules + 1
  pub each : (rule : ℕ) → rule ≤ length rules.rules → slice_index_or numbers rule 0 ≡ rule

-- for each rule, by its number, and for no change, this is a rule with the same u
pub record HaveSameU (rules : RuleSet) (same : List ℕ) : Type 0 where
  pub size : length same ≡ length rules.rules + 1
  pub within : (rule : ℕ) → rule ≤ length rules.rules → slice_index_or same rule 0 ≤ length rules.rules
  pub each : (rule : ℕ) → rule ≤ length rules.rules → (rule_of rules (slice_index_or same rule 0)).u ≡ (rule_of rules rule).u

-- how many items there were when the last one was made whose rule has the same u as this one; 0 as long as no lists of rules are kept
abbrev pub made_of : Collected → ℕ → ℕ
made_of collected rule = slice_index_or collected.made.items (slice_index_or collected.same_u.items rule 0) 0

-- what was collected tells of each of these rules when an item with its u was made, or has no lists of rules yet
pub record IsCollected (rules : RuleSet) (collected : Collected) : Type 0 where
  pub same : collected.same_u.items ≢ [] → HaveSameU rules collected.same_u.items
  pub size : length collected.made.items ≡ length collected.same_u.items
  pub within : (place : ℕ) → slice_index_or collected.made.items place 0 ≤ length collected.items.items

-- each rule with a u that was made since there were so many items has its item after this front
abbrev pub HasSeen : SearchedLexicon → Line → ℕ → Entrance → ℕ → ℕ → ℕ → Collected → Type 0
HasSeen searched line at entrance phase taken since collected =
    (rule : ℕ) → rule ≤ length (rules_in searched).rules → since < made_of collected rule
    → Contains collected.items.items (item_with searched line at entrance (key_with phase taken rule))

-- the place is in the table, and goes further by a step with this item
pub record IsItemAt (searched : SearchedLexicon) (line : Line) (choices : List Choice) (table : Table) (place : Configuration) (item : Item) : Type 0 where
  pub within : IsConfigurationIn searched line place
  pub there : IsIn table place
  pub key : Key
  pub further : GoesFurtherBy searched line choices table (numbered_of searched place) key
  pub is : item ≡ item_with searched line place.at place.entrance key

-- some place of the table before the index goes further by a step with this item
abbrev pub IsItemBefore : SearchedLexicon → Line → List Choice → Table → ℕ → Item → Type 0
IsItemBefore searched line choices table index item =
    (place : Configuration) × (index_of_place searched place < index) × IsItemAt searched line choices table place item

-- the list has just the items of the places of the table before the index
pub record HasItemsBefore (searched : SearchedLexicon) (line : Line) (choices : List Choice) (table : Table) (index : ℕ) (items : List Item) : Type 0 where
  pub has : (item : Item) → IsItemBefore searched line choices table index item → Contains items item
  pub only : (item : Item) → Contains items item → IsItemBefore searched line choices table index item

-- the most steps at a front: to ask whether a form ends there, to take the rules that begin with the next letter, and for no change two
-- and for each rule three, since an item takes two, to be made and to be put in order
abbrev pub steps_of_front : ℕ → ℕ
steps_of_front most = 3 * most + 6

-- the most steps of a pass in a phase, after the front that takes no letter was found: each front is asked for, walked on from, gone over
-- and kept
abbrev pub steps_after_first : ℕ → ℕ
steps_after_first most = 1 + NODES_OF_FRAME * (6 + 2 * most)

-- the most steps in a phase: a walk, and the fronts
abbrev pub steps_of_fronts : ℕ → ℕ
steps_of_fronts most = MOST_RULE_LETTERS + NODES_OF_FRAME + NODES_OF_FRAME * steps_of_front most

-- the most steps at a place, with one to look at each phase
abbrev pub steps_of_items : SearchedLexicon → ℕ → ℕ
steps_of_items searched most = length (rules_in searched).names * (1 + steps_of_fronts most)

-- the most steps of a summary
abbrev pub steps_of_summary : SearchedLexicon → Line → ℕ → ℕ
steps_of_summary searched line most = set_count searched line * steps_of_items searched most
