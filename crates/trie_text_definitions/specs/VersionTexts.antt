-- Which lexicons have a text of which version, and which text that is (own).
use Rattle.std.specs.Prelude.{◌≡◌, ℕ, ◌<◌, Option, Some, None, List, length, All, Contains}
use Rattle.std.specs.List.Sorted.{IsStrictlySortedBy}
use Rattle.lexicon_definitions.specs.Lexicons.{Lexicon, Form, IsLexicon}
use Rattle.lexicon_definitions.specs.Limits.{IsWithinLimits}
use Rattle.lexicon_definitions.specs.Tries.{Trie, IsTrieOf, walk}
use Rattle.lexicon_text_definitions.specs.TextsOf as first
use Rattle.lexicon_text_definitions.specs.TextsOf.{HasSpelledStems}
use Rattle.trie_text_definitions.specs.Versions.{Version, HasRulesOf}
use Rattle.trie_text_definitions.specs.NodeLines.{compare_node_lines, node_lines}
use Rattle.trie_text_definitions.specs.TrieTexts.{text_in}

-- a word leads from some root to the node
pub record IsLedTo (trie : Trie) (node : ℕ) : Type 0 where
  pub root : ℕ
  pub is_root : Contains trie.roots root
  pub word : List ℕ
  pub walked : walk trie.rows root word ≡ Some node

-- the trie of the phases that has no node too many, and its nodes in their order. Its nodes are thus the different residuals of
-- the phases, a residual being what follows a front in the forms of a phase that begin with it, with the deltas of each: a node
-- stands for the residual at any word that leads to it, different nodes for different ones, and a row is empty only at the root of
-- a phase that has no forms.
pub record IsOrderedTrieOf (trie : Trie) (phases : List (List Form)) : Type 0 where
  pub is_trie : IsTrieOf trie phases
  pub is_used : (node : ℕ) → node < length trie.rows → IsLedTo trie node
  pub rising : IsStrictlySortedBy compare_node_lines (node_lines trie.rows)

-- the lexicon is within the limits, its rules are those of the version, and its stems have a spelling
pub record HasText (version : Version) (lexicon : Lexicon) : Type 0 where
  pub lexicon_itself : IsLexicon lexicon
  pub limits : IsWithinLimits lexicon
  pub rules : HasRulesOf version (length lexicon.rules.names) lexicon.rules.rules
  pub stems : All (λ forms. All HasSpelledStems forms) lexicon.phases

-- the lexicon has a text of this version, where None is version 1
abbrev pub HasTextIn : Option Version → Lexicon → Type 0
HasTextIn None lexicon = first.HasText lexicon
HasTextIn (Some version) lexicon = HasText version lexicon

-- the bytes are the text of the lexicon in the version
pub record IsTrieText (version : Version) (lexicon : Lexicon) (bytes : List ℕ) : Type 0 where
  pub has_text : HasText version lexicon
  pub trie : Trie
  pub ordered : IsOrderedTrieOf trie lexicon.phases
  pub text : bytes ≡ text_in version lexicon.rules trie

-- the bytes are the text of the lexicon in this version, where None is version 1
abbrev pub IsTextIn : Option Version → Lexicon → List ℕ → Type 0
IsTextIn None lexicon bytes = first.IsTextOf lexicon bytes
IsTextIn (Some version) lexicon bytes = IsTrieText version lexicon bytes

-- the bytes are the newest text of the lexicon: that of version 3 where a rule is limited, else that of version 2
abbrev pub IsNewestText : Lexicon → List ℕ → Type 0
IsNewestText lexicon bytes = (version : Version) × IsTrieText version lexicon bytes
