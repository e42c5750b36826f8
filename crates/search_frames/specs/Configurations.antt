-- The configurations of a search between two forms, and which keys lead on or end there, told by the program's machine (own; after
-- the backtracking search of Huet 2005).
use Rattle.std.specs.Prelude.{◌≡◌, ℕ, ◌+◌, ◌<◌, ◌≤◌, IsTrue, IsSome, Option, List, length, All}
use Rattle.text_definitions.specs.Lines.{Line}
use Rattle.lexicon_definitions.specs.Rules.{IsInner, IsFinal}
use Rattle.lexicon_definitions.specs.Lexicons.{RuleSet, rule_of, IsForm}
use Rattle.segmentation_definitions.specs.Items.{Choice}
use Rattle.segmentation_definitions.specs.Listings.{Key, compare_keys}
use Rattle.segmentation_definitions.specs.Configurations.{Entrance, Start, entrance_after_step}
use Rattle.listing_laws.specs.Ways.{Ways}
use Rattle.answer_paths.specs.Following.{step_at, MayStand}
use Rattle.phase_automaton.specs.Automata.{start_state, next_state, is_accepting}
use Rattle.annotated_trie.specs.Searched.{SearchedLexicon}

-- a configuration of a search between two forms: how many letters are derived, how the next form is entered, and the number of
-- the grammar's state, which a `Configuration` of the definitions tells by the positions of the grammar
pub record NumberedConfiguration : Type 0 where
  pub at : ℕ
  pub entrance : Entrance
  pub state : Option ℕ

-- the rules of the lexicon
abbrev pub rules_in : SearchedLexicon → RuleSet
rules_in searched = searched.lexicon.rules

-- as far as forms tell, the step with this key may stand here: its rule is one, it takes letters that are there, and its form
-- is one of its phase
pub record IsPossible (searched : SearchedLexicon) (line : Line) (here : NumberedConfiguration) (key : Key) : Type 0 where
  pub number : key.rule ≤ length (rules_in searched).rules
  pub within : here.at + key.taken ≤ length line.letters
  pub form : IsForm searched.lexicon key.phase (step_at (rules_in searched) line here.at here.entrance key).form

-- the step may stand here, and another form can follow it
pub record LeadsOn (searched : SearchedLexicon) (line : Line) (choices : List Choice) (here : NumberedConfiguration) (key : Key) : Type 0 where
  pub stands : MayStand searched.lexicon line choices here.at here.entrance key
  pub inner : 0 < key.rule → IsInner (rule_of (rules_in searched) key.rule)
  pub left : key.rule ≡ 0 → here.at + key.taken < length line.letters
  pub live : IsSome (next_state searched.machine here.state key.phase)

-- the step may stand here, and the line ends after it
pub record Ends (searched : SearchedLexicon) (line : Line) (choices : List Choice) (here : NumberedConfiguration) (key : Key) : Type 0 where
  pub stands : MayStand searched.lexicon line choices here.at here.entrance key
  pub final_rule : 0 < key.rule → IsFinal (rule_of (rules_in searched) key.rule)
  pub all : here.at + key.taken + length (rule_of (rules_in searched) key.rule).w ≡ length line.letters
  pub blanks_before : All (λ blank. blank ≤ here.at) line.blanks
  pub accepted : IsTrue (is_accepting searched.machine (next_state searched.machine here.state key.phase))

-- the configuration after the step with this key
abbrev pub after : SearchedLexicon → Line → NumberedConfiguration → Key → NumberedConfiguration
after searched line here key = record {
  at = here.at + key.taken + length (rule_of (rules_in searched) key.rule).w;
  entrance = entrance_after_step (rules_in searched) (step_at (rules_in searched) line here.at here.entrance key);
  state = next_state searched.machine here.state key.phase;
}

-- the configuration before all steps
abbrev pub opening : NumberedConfiguration
opening = record { at = 0; entrance = Start; state = start_state }

-- the ways of the search: a key ends where the line may end after it, and leads to where the search stands after it where
-- another form can follow
abbrev pub ways_in : SearchedLexicon → Line → List Choice → Ways NumberedConfiguration Key
ways_in searched line choices = record {
  compare = compare_keys;
  ends = λ here key. Ends searched line choices here key;
  leads = λ here key next. LeadsOn searched line choices here key × (next ≡ after searched line here key);
}
