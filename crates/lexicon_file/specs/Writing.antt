-- What is written of a lexicon: the lines that all versions have in the same form, and the parts of the newest text.
use Rattle.std.specs.Prelude.{◌≡◌, ℕ, Bool, true, false, List, [], ◌∷◌, ◌++◌, length, map, All}
use Rattle.lexicon_definitions.specs.Lexicons.{Lexicon, RuleSet, IsLexicon}
use Rattle.lexicon_definitions.specs.Limits.{IsWithinLimits}
use Rattle.lexicon_text_definitions.specs.LexiconTexts.{text_of_lines, phase_line, grammar_line, plain_line, end_line}
use Rattle.lexicon_text_definitions.specs.TextsOf.{HasSpelledStems}
use Rattle.trie_text_definitions.specs.TrieTexts.{rule_line_in, root_lines}
use Rattle.trie_text_definitions.specs.Versions.{Version, Second, Third, HasRulesOf, head_line}

-- the lexicon is within the limits, and its stems have a spelling
pub record HasNewestText (lexicon : Lexicon) : Type 0 where
  pub lexicon_itself : IsLexicon lexicon
  pub limits : IsWithinLimits lexicon
  pub stems : All (λ forms. All HasSpelledStems forms) lexicon.phases

-- version 3 where some rule is limited, and else version 2
abbrev pub version_by : Bool → Version
version_by false = Second
version_by true = Third

-- the lines of the phases, of the grammar and of the plain pairs
abbrev pub front_lines : RuleSet → List (List ℕ)
front_lines rules = map phase_line rules.names ++ grammar_line rules.grammar ∷ map plain_line rules.plain

-- the lines before the nodes
abbrev pub head_lines : Version → RuleSet → List (List ℕ)
head_lines version rules = head_line version ∷ front_lines rules ++ map (rule_line_in version rules.names) rules.rules

-- the bytes are the lines before the nodes, in the version that the rules want
pub record IsHead (rules : RuleSet) (bytes : List ℕ) : Type 0 where
  pub version : Version
  pub has_rules : HasRulesOf version (length rules.names) rules.rules
  pub text : bytes ≡ text_of_lines (head_lines version rules)

-- the lines after the nodes
abbrev pub tail_lines : RuleSet → List ℕ → List (List ℕ)
tail_lines rules roots = root_lines rules.names roots ++ end_line ∷ []
