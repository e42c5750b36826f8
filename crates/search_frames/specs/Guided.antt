-- The guide of a search, and when it is exact (own).
use Rattle.std.specs.Prelude.{ℕ, Bool, Option, List}
use Rattle.text_definitions.specs.Lines.{Line}
use Rattle.lexicon_definitions.specs.Lexicons.{tree_of}
use Rattle.segmentation_definitions.specs.Items.{Choice}
use Rattle.phase_automaton.specs.Automata.{Recognizes}
use Rattle.derivation.specs.Guides.{IsGuideFor, IsExact}
use Rattle.derivation.specs.declared.entrance.Entrance.{Entrance}
use Rattle.annotated_trie.specs.Searched.{SearchedLexicon}
use Rattle.search_frames.specs.Configurations.{rules_in}

-- the guide is one for the lexicon, the line and the choices, whichever states of the grammar the machine's numbers stand for
abbrev pub IsGuideOf : SearchedLexicon → Line → List Choice → (ℕ → Entrance → Option ℕ → Type 0) → (ℕ → Entrance → Option ℕ → Bool) → Type 0
IsGuideOf searched line choices covers says = (recognizes : Recognizes searched.machine (tree_of (rules_in searched)))
    → IsGuideFor searched.lexicon searched.machine recognizes.states line choices covers says

-- it says true only of what stands in an answer
abbrev pub IsExactOf : SearchedLexicon → Line → List Choice → (ℕ → Entrance → Option ℕ → Bool) → Type 0
IsExactOf searched line choices says = (recognizes : Recognizes searched.machine (tree_of (rules_in searched)))
    → IsExact searched.lexicon searched.machine recognizes.states line choices says
