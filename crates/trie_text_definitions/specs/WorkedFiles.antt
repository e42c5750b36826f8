-- Small files in which the definitions can be followed by hand.
use Rattle.std.specs.Prelude.{ℕ, ◌-◌, Option, Some, None, List, [], ◌∷◌, ◌++◌, take, drop, codes}
use Rattle.lexicon_definitions.specs.Rules.{Rule, unlimited_rule}
use Rattle.lexicon_definitions.specs.Lexicons.{Form, Lexicon}
use Rattle.lexicon_text_definitions.specs.FileReadings as first
use Rattle.lexicon_text_definitions.specs.FileContents as contents
use Rattle.lexicon_text_definitions.specs.LexiconTexts.{text_of_lines}
use Rattle.trie_text_definitions.specs.Versions.{Version}
use Rattle.trie_text_definitions.specs.TrieTexts.{text_in}
use Rattle.trie_text_definitions.specs.VersionFaults.{Why}
use Rattle.trie_text_definitions.specs.VersionReadings.{Reading, Content, Fault, Asks, reading_in, lexicon_told}
use Rattle.trie_text_definitions.specs.VersionSteps.{trie_told}

-- the lexicon that is read, where the grammar's text has no fault
abbrev pub lexicon_in : Reading → Option Lexicon
lexicon_in (Content told) = Some (lexicon_told told)
lexicon_in (Fault line why) = None
lexicon_in (Asks line told after) = lexicon_in after

-- the same for version 1
abbrev pub first_lexicon_in : first.Reading → Option Lexicon
first_lexicon_in (first.Content told) = Some (contents.lexicon_told told)
first_lexicon_in (first.Fault line why) = None
first_lexicon_in (first.Asks line told after) = first_lexicon_in after

-- the text of what is read
abbrev pub written_again : Version → Reading → Option (List ℕ)
written_again version (Content told) = Some (text_in version (contents.rules_told told.front) (trie_told told))
written_again version (Fault line why) = None
written_again version (Asks line told after) = written_again version after

-- the first fault, where the grammar's text has none: the number of the line, and why
abbrev pub fault_in : Reading → Option (ℕ × Why)
fault_in (Content told) = None
fault_in (Fault line why) = Some (line, why)
fault_in (Asks line told after) = fault_in after

-- the lines with these in place of the one with this number, counted from 1
abbrev pub with_line_as : List (List ℕ) → ℕ → List (List ℕ) → List (List ℕ)
with_line_as lines number others = take (number - 1) lines ++ others ++ drop number lines

-- what is read in lines of the version
abbrev pub read_in : Version → List (List ℕ) → Reading
read_in version lines = reading_in version (text_of_lines lines)

-- ---- `ca` and `iti`, which may meet as `ceti`

abbrev pub small_lines : List (List ℕ)
small_lines =
    codes "slx 1" ∷ codes "phase word" ∷ codes "grammar word+" ∷ codes "rule a|i>e" ∷ codes "form word iti iti ind"
    ∷ codes "form word ca ca ind" ∷ codes "end" ∷ []

abbrev pub small_trie_lines : List (List ℕ)
small_trie_lines =
    codes "slx 2" ∷ codes "phase word" ∷ codes "grammar word+" ∷ codes "rule a|i>e" ∷ codes "node 0::ind -"
    ∷ codes "node - a=0" ∷ codes "node - i=0" ∷ codes "node - t=2" ∷ codes "node - i=3,c=1" ∷ codes "root word 4"
    ∷ codes "end" ∷ []

-- the word `iti`, an indeclinable with itself as its stem, and so `ca`
abbrev pub iti : Form
iti = record { letters = 3 ∷ 32 ∷ 3 ∷ []; analyses = record { stem = 3 ∷ 32 ∷ 3 ∷ []; tag = codes "ind" } ∷ [] }

abbrev pub ca : Form
ca = record { letters = 22 ∷ 1 ∷ []; analyses = record { stem = 22 ∷ 1 ∷ []; tag = codes "ind" } ∷ [] }

abbrev pub small_lexicon : Lexicon
small_lexicon =
    record {
      rules = record {
        names = codes "word" ∷ [];
        grammar = codes "word+";
        plain = [];
        rules = unlimited_rule 1 (1 ∷ []) (3 ∷ []) (10 ∷ []) ∷ [];
      };
      phases = (iti ∷ ca ∷ []) ∷ [];
    }

-- ---- two phases, and a form whose stem is another word

abbrev pub inflected_lines : List (List ℕ)
inflected_lines =
    codes "slx 1" ∷ codes "phase noun" ∷ codes "phase ind" ∷ codes "grammar (ind | noun)+" ∷ codes "plain a k"
    ∷ codes "plain a c" ∷ codes "rule a|i>e" ∷ codes "form noun nareRa nara m.sg.ins" ∷ codes "form ind iti iti ind"
    ∷ codes "end" ∷ []

abbrev pub inflected_trie_lines : List (List ℕ)
inflected_trie_lines =
    codes "slx 2" ∷ codes "phase noun" ∷ codes "phase ind" ∷ codes "grammar (ind | noun)+" ∷ codes "plain a k"
    ∷ codes "plain a c" ∷ codes "rule a|i>e" ∷ codes "node 0::ind -" ∷ codes "node 3:a:m.sg.ins -" ∷ codes "node - a=1"
    ∷ codes "node - i=0" ∷ codes "node - R=2" ∷ codes "node - t=3" ∷ codes "node - e=4" ∷ codes "node - i=5"
    ∷ codes "node - r=6" ∷ codes "node - a=8" ∷ codes "node - n=9" ∷ codes "root noun 10" ∷ codes "root ind 7"
    ∷ codes "end" ∷ []

-- ---- `ca` before `iti` of one phase, and `cA` before `iti` of another

abbrev pub limited_lines : List (List ℕ)
limited_lines =
    codes "slx 3" ∷ codes "phase p" ∷ codes "phase q" ∷ codes "phase r" ∷ codes "grammar (p | q | r)+"
    ∷ codes "rule a|i>e p q" ∷ codes "rule A|i>e p r" ∷ codes "node 0::ind -" ∷ codes "node - a=0,A=0" ∷ codes "node - i=0"
    ∷ codes "node - c=1" ∷ codes "node - t=2" ∷ codes "node - i=4" ∷ codes "root p 3" ∷ codes "root q 5" ∷ codes "root r 5"
    ∷ codes "end" ∷ []

-- the word `cA`
abbrev pub long_ca : Form
long_ca = record { letters = 22 ∷ 2 ∷ []; analyses = record { stem = 22 ∷ 2 ∷ []; tag = codes "ind" } ∷ [] }

abbrev pub limited_rules : List Rule
limited_rules =
    record { u = 1 ∷ []; v = 3 ∷ []; w = 10 ∷ []; before = 1; after = 2 }
    ∷ record { u = 2 ∷ []; v = 3 ∷ []; w = 10 ∷ []; before = 1; after = 4 } ∷ []

abbrev pub limited_lexicon : Lexicon
limited_lexicon =
    record {
      rules = record {
        names = codes "p" ∷ codes "q" ∷ codes "r" ∷ [];
        grammar = codes "(p | q | r)+";
        plain = [];
        rules = limited_rules;
      };
      phases = (ca ∷ long_ca ∷ []) ∷ (iti ∷ []) ∷ (iti ∷ []) ∷ [];
    }
