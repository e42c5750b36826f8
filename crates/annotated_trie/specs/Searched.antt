-- A lexicon as it is searched: with the machine of its grammar, and the tries of its forms.
use Rattle.std.specs.Prelude.{◌≡◌, ◌≤◌, length, All}
use Rattle.lexicon_definitions.specs.declared.limits.TheConstants.{MOST_FORM_LETTERS}
use Rattle.lexicon_definitions.specs.Lexicons.{Form, Lexicon, IsLexicon, tree_of}
use Rattle.lexicon_definitions.specs.Limits.{IsRuleSetWithinLimits}
use Rattle.lexicon_definitions.specs.Tries.{IsTrieOf}
use Rattle.phase_automaton.specs.Automata.{StateMachine, Recognizes}
use Rattle.annotated_trie.specs.Choices.{AnnotatedTrie, IsAnnotatedTrie}

-- a lexicon, the machine of its grammar, and the tries of its forms
pub record SearchedLexicon : Type 0 where
  pub lexicon : Lexicon
  pub machine : StateMachine
  pub tries : AnnotatedTrie

-- the lexicon is one within its limits, the machine recognizes its grammar, and the tries are those of its forms and rules
pub record IsSearchedLexicon (searched : SearchedLexicon) : Type 0 where
  pub lexicon : IsLexicon searched.lexicon
  pub limits : IsRuleSetWithinLimits searched.lexicon.rules
  pub short : All (λ forms. All (λ (form : Form). length form.letters ≤ MOST_FORM_LETTERS) forms) searched.lexicon.phases
  pub recognizes : Recognizes searched.machine (tree_of searched.lexicon.rules)
  pub phases : searched.machine.phases ≡ length searched.lexicon.rules.names
  pub tries : IsAnnotatedTrie searched.lexicon.rules searched.tries
  pub forms : IsTrieOf searched.tries.trie searched.lexicon.phases
