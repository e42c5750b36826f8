-- What a line says, whatever its scheme: its words and its marks one after another, the marks as those of Latin letters (own).
use Rattle.std.specs.Prelude.{ℕ, List, [], ◌∷◌, ◌++◌, map, Result, Ok, Err, false}
use Rattle.text_definitions.specs.Spellings.{SpellingFault, Reading}
use Rattle.text_definitions.specs.LineTexts.{fault_from}
use Rattle.conversion_definitions.specs.AnySchemes.{AnyScheme, read_bytes, word_of_run}
use Rattle.conversion_definitions.specs.Marks.{is_devanagari, marks_by}
use Rattle.conversion_definitions.specs.Conversions.{Part, Becomes, Run, parts_from}

-- a word, or a byte of a mark
pub data Sign : Type 0 where
  Letters : List ℕ → Sign
  Byte : ℕ → Sign

-- the signs of a line, or its first fault
abbrev pub Signs : Type 0
Signs = Result (List Sign) SpellingFault

-- the word, where it has a letter
abbrev pub word_sign : List ℕ → List Sign
word_sign [] = []
word_sign (letter ∷ word) = Letters (letter ∷ word) ∷ []

-- these signs before the rest
abbrev pub with_signs : List Sign → Signs → Signs
with_signs signs (Ok rest) = Ok (signs ++ rest)
with_signs signs (Err fault) = Err fault

-- the word of a run before the rest, or the fault of the run
abbrev pub run_signs : ℕ → Reading → Signs → Signs
run_signs place (Ok word) rest = with_signs (word_sign word) rest
run_signs place (Err fault) rest = Err (fault_from place fault)

-- the signs of these parts
abbrev pub signs_of_parts : AnyScheme → List Part → Signs
signs_of_parts scheme [] = Ok []
signs_of_parts scheme (Becomes bytes ∷ parts) = with_signs (map Byte bytes) (signs_of_parts scheme parts)
signs_of_parts scheme (Run place run ∷ parts) = run_signs place (word_of_run scheme run) (signs_of_parts scheme parts)

-- the signs of the bytes that are read of a line, whose marks are turned to those of Latin letters
abbrev pub signs_of_reading : AnyScheme → Reading → Signs
signs_of_reading scheme (Ok bytes) = signs_of_parts scheme (parts_from (marks_by (is_devanagari scheme) false) 0 0 bytes)
signs_of_reading scheme (Err fault) = Err fault

-- the signs of a line in the scheme, or its first fault
unfoldable pub signs_of_line : AnyScheme → List ℕ → Signs
signs_of_line scheme line = signs_of_reading scheme (read_bytes scheme line)
