-- The text of a note: the compact JSON text of one object, and a line feed (own; JSON after RFC 8259). The members of each
-- object stand in the order of their names' bytes.
use Rattle.std.specs.Prelude.{ℕ, List, map, codes}
use Rattle.text_definitions.specs.Slp1.{slp1_of_word}
use Rattle.serde_json.specs.Data.{Data, number, unsigned, string, array, object, no_members, member}
use Rattle.serde_json.specs.View.{items_of}
use Rattle.serde_json.specs.Written.{compact_text}
use Rattle.lexicon_definitions.specs.Lexicons.{Lexicon}
use Rattle.segmentation_definitions.specs.Items.{Placed, placed, item_of}
use Rattle.segmentation_definitions.specs.PrintedAnswers.{name_of, output_line}
use Rattle.bookmark_definitions.specs.BookmarkTexts.{text_of_line, text_of_choice}
use Rattle.session_definitions.specs.PrintedSummaries.{analyses_of_item, printed_analysis}
use Rattle.note_definitions.specs.Notes.{Note}

-- a number, as a JSON value
abbrev pub counted : ℕ → Data
counted n = number (unsigned n)

-- a list of texts, as a JSON value
abbrev pub texts : List (List ℕ) → Data
texts them = array (items_of (map string them))

-- `STEM TAG` of each analysis of the step's form in its phase, rising as the lexicon has them
abbrev pub tags_of : Lexicon → Placed → List (List ℕ)
tags_of lexicon p = map printed_analysis (analyses_of_item lexicon (item_of p))

-- the object of a step: the letters of the line before it, its form in SLP1, the length of its lead, the name of its phase,
-- the number of its rule, its tags, and how many letters it takes
abbrev pub segment_of : Lexicon → Placed → Data
segment_of lexicon p =
    object (member (codes "at") (counted p.at)
    (member (codes "form") (string (slp1_of_word p.step.form))
    (member (codes "lead") (counted p.lead)
    (member (codes "phase") (string (name_of lexicon.rules p.step.phase))
    (member (codes "rule") (counted p.step.rule)
    (member (codes "tags") (texts (tags_of lexicon p))
    (member (codes "taken") (counted p.taken) no_members)))))))

-- the objects of the steps
abbrev pub segments_of : Lexicon → Note → Data
segments_of lexicon note = array (items_of (map (segment_of lexicon) (placed lexicon.rules note.steps)))

-- the JSON value of a note: its choices and its line as in a bookmark's text, its segments, and version 1
unfoldable pub value_of_note : Lexicon → Note → Data
value_of_note lexicon note =
    object (member (codes "choices") (texts (map text_of_choice note.choices))
    (member (codes "segments") (segments_of lexicon note)
    (member (codes "text") (string (text_of_line note.line))
    (member (codes "version") (counted 1) no_members))))

-- the text of a note
abbrev pub text_of_note : Lexicon → Note → List ℕ
text_of_note lexicon note = output_line (compact_text (value_of_note lexicon note))
