-- Why a text is no line, as the replies to it say (own).
use Rattle.std.specs.Prelude.{ℕ, List, ◌++◌, codes}
use Rattle.std.specs.Fmt.{decimal}
use Rattle.text_definitions.specs.LineTexts.{LineFault, Misspelled, NoLetters, TooLong, place_of}

-- why a text is no line: `spelling AT`, `no letters` or `too long`
abbrev pub why_no_line : LineFault → List ℕ
why_no_line (Misspelled fault) = codes "spelling " ++ decimal (place_of fault)
why_no_line NoLetters = codes "no letters"
why_no_line TooLong = codes "too long"
