-- A text that is converted from one spelling scheme to another, or its first fault (own). It is converted line by line. A line is cut
-- into its marks, which are gap marks and digits, and the runs of letters between them.
use Rattle.std.specs.Prelude.{ℕ, zero, suc, ◌+◌, ◌-◌, List, [], ◌∷◌, ◌++◌, length, Bool, true, false, Option, Some, None, Result, Ok, Err}
use Rattle.text_definitions.specs.Spellings.{SpellingFault, Reading, with_front}
use Rattle.text_definitions.specs.LineTexts.{fault_from}
use Rattle.lexicon_text_definitions.specs.FileLines.{Line, lines_of_bytes}
use Rattle.conversion_definitions.specs.AnySchemes.{AnyScheme, read_bytes, word_of_run, spelling_in}
use Rattle.conversion_definitions.specs.Marks.{Mark, marks_between, first_mark}

-- a part of a line: what a mark becomes, or a run of letters with its place in bytes, from 0
pub data Part : Type 0 where
  Becomes : List ℕ → Part
  Run : ℕ → List ℕ → Part

-- a byte before these parts: it is the first byte of the run that begins directly after it, or else a run alone
abbrev pub with_byte : ℕ → ℕ → List Part → List Part
with_byte place byte [] = Run place (byte ∷ []) ∷ []
with_byte place byte (Becomes bytes ∷ parts) = Run place (byte ∷ []) ∷ Becomes bytes ∷ parts
with_byte place byte (Run after bytes ∷ parts) = Run place (byte ∷ bytes) ∷ parts

-- the parts of a text, by the mark with which it begins and by the parts after so many more bytes
abbrev pub parts_by : ℕ → ℕ → Option (ℕ × List ℕ) → (ℕ → List Part) → List Part
parts_by place byte None after = with_byte place byte (after 0)
parts_by place byte (Some found) after = Becomes found.1 ∷ after (found.0 - 1)

-- the parts of the text from the place on, of which the first `inside` bytes belong to a mark that began before
abbrev pub parts_from : List Mark → ℕ → ℕ → List ℕ → List Part
parts_from marks place inside [] = []
parts_from marks place (suc inside) (byte ∷ text) = parts_from marks (place + 1) inside text
parts_from marks place zero (byte ∷ text) =
    parts_by place byte (first_mark marks (byte ∷ text)) (λ inside. parts_from marks (place + 1) inside text)

-- the run at the place in the other scheme, before the rest, or its fault
abbrev pub run_by : AnyScheme → ℕ → Reading → Reading → Reading
run_by to place (Ok word) rest = with_front (spelling_in to word) rest
run_by to place (Err fault) rest = Err (fault_from place fault)

-- the parts in the other scheme, one after another, or the first fault among them
abbrev pub converted_parts : AnyScheme → AnyScheme → List Part → Reading
converted_parts from to [] = Ok []
converted_parts from to (Becomes bytes ∷ parts) = with_front bytes (converted_parts from to parts)
converted_parts from to (Run place run ∷ parts) = run_by to place (word_of_run from run) (converted_parts from to parts)

-- the bytes that are read of a line in the other scheme, or the first fault of the line
abbrev pub converted_reading : AnyScheme → AnyScheme → Reading → Reading
converted_reading from to (Ok bytes) = converted_parts from to (parts_from (marks_between from to) 0 0 bytes)
converted_reading from to (Err fault) = Err fault

-- the line in the other scheme, or its first fault
unfoldable pub converted_line : AnyScheme → AnyScheme → List ℕ → Reading
converted_line from to line = converted_reading from to (read_bytes from line)

-- the fault of a line, counted from 1
pub record ConversionFault : Type 0 where
  pub line : ℕ
  pub fault : SpellingFault

-- a text in the other scheme, or its first fault
abbrev pub Converted : Type 0
Converted = Result (List ℕ) ConversionFault

-- these bytes before the rest
abbrev pub with_bytes : List ℕ → Converted → Converted
with_bytes bytes (Ok rest) = Ok (bytes ++ rest)
with_bytes bytes (Err fault) = Err fault

-- a line end, where one stood
abbrev pub line_end : Bool → List ℕ
line_end false = []
line_end true = 10 ∷ []

-- the line with its line end before the rest, or its fault with its number
abbrev pub line_by : ℕ → Bool → Reading → Converted → Converted
line_by number ended (Ok line) rest = with_bytes (line ++ line_end ended) rest
line_by number ended (Err fault) rest = Err (record { line = number; fault = fault })

-- the lines in the other scheme, of which the first has this number, or the fault of the least line that has one
abbrev pub converted_lines : AnyScheme → AnyScheme → ℕ → List Line → Converted
converted_lines from to number [] = Ok []
converted_lines from to number (line ∷ lines) =
    line_by number line.ended (converted_line from to line.bytes) (converted_lines from to (number + 1) lines)

-- the text in the other scheme, or its first fault
unfoldable pub converted_text : AnyScheme → AnyScheme → List ℕ → Converted
converted_text from to text = converted_lines from to 1 (lines_of_bytes text)
