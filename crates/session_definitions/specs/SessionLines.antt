-- How the input of a session is cut into lines (own).
use Rattle.std.specs.Prelude.{ℕ, ◌==◌, nat_le, nat_lt, Bool, if◌then◌else◌, List, [], ◌∷◌, length, take}
use Rattle.lexicon_text_definitions.specs.FileLines.{Line, lines_of_bytes}
use Rattle.session_definitions.specs.declared.limits.TheConstants.{MOST_SESSION_LINE_BYTES, MOST_INPUT_BYTES}

-- the bytes without the last one, where this is a carriage return, the byte 13
abbrev pub without_return : List ℕ → List ℕ
without_return [] = []
without_return (byte ∷ []) = if byte == 13 then [] else byte ∷ []
without_return (byte ∷ next ∷ bytes) = byte ∷ without_return (next ∷ bytes)

-- what is looked at of a line: a carriage return directly before its line end is dropped, and only there
abbrev pub line_text : Line → List ℕ
line_text line = if line.ended then without_return line.bytes else line.bytes

-- the line has too many bytes; a carriage return before its line end counts, the line end itself does not
abbrev pub is_long : Line → Bool
is_long line = nat_lt MOST_SESSION_LINE_BYTES (length line.bytes)

-- those of the lines that have a line end
abbrev pub ended_lines : List Line → List Line
ended_lines [] = []
ended_lines (line ∷ lines) = if line.ended then line ∷ ended_lines lines else ended_lines lines

-- the input is not too long
abbrev pub fits_session : List ℕ → Bool
fits_session input = nat_le (length input) MOST_INPUT_BYTES

-- the lines that a session looks at: all of them, also a last one without a line end; of an input that is too long those
-- that end within the first bytes, as many as may be
unfoldable pub lines_of_input : List ℕ → List Line
lines_of_input input =
    if fits_session input then lines_of_bytes input else ended_lines (lines_of_bytes (take MOST_INPUT_BYTES input))
