-- What is made of a number, as contracts see it.
use Rattle.std.specs.Prelude.{◌≡◌, ℕ, List, length}
use Rattle.lexicon_definitions.specs.Lexicons.{tree_of}
use Rattle.lexicon_definitions.specs.Tries.{IsTrieOf}
use Rattle.trie_text_definitions.specs.TrieForms.{phases_of}
use Rattle.phase_automaton.specs.Automata.{Recognizes}
use Rattle.form_file.specs.declared.contents.Contents.{Contents}
use Rattle.form_file.specs.Contents.{lexicon_of}
use Rattle.lexicon_file.specs.Writing.{HasNewestText}
use Rattle.demo_definitions.specs.DrawnStems.{stems_of_number}
use Rattle.demo_definitions.specs.DrawnTexts.{text_of_number}
use Rattle.demo_definitions.specs.SourceTexts.{demo_stems}
use Rattle.demo_definitions.specs.SourceContents.{stems_spelled}
use Rattle.run_definitions.specs.DemoOutcomes as outcomes
use Rattle.run_definitions.specs.DemoOutcomes.{IsDemoLexicon}
use Rattle.demo_counts.specs.declared.counts.DemoCounts.{DemoCounts}

-- the bytes are the stem file of some number
abbrev pub IsStemFile : List ℕ → Type 0
IsStemFile bytes = (number : ℕ) × (bytes ≡ demo_stems number)

-- the stems and the text are those of the number
pub record AreInput (number : ℕ) (stems : List (List ℕ)) (text : List ℕ) : Type 0 where
  pub stems_are : stems ≡ stems_of_number number
  pub text_is : text ≡ text_of_number number

-- the contents are the lexicon of the sources of the number, and it can be searched
pub record AreDemoContents (number : ℕ) (contents : Contents) : Type 0 where
  pub is_lexicon : IsDemoLexicon number (stems_spelled number) (lexicon_of contents)
  pub trie : IsTrieOf contents.store (phases_of contents.store)
  pub has_text : HasNewestText (lexicon_of contents)
  pub recognizes : Recognizes contents.automaton (tree_of contents.rules)
  pub phases : contents.automaton.phases ≡ length contents.rules.names

-- the counts, as the definitions have them
abbrev pub counts_told : DemoCounts → outcomes.DemoCounts
counts_told counts =
    record { stems = counts.stems; forms = counts.forms; letters = counts.letters; answers = counts.answers; more = counts.more }
