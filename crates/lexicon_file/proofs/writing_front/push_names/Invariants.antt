-- What is written and what is left to write are together all that is to be written.
use Rattle.std.proofs.Common.{◌≡◌, ◌++◌, string_bytes, map, drop}
use Rattle.lexicon_text_definitions.specs.LexiconTexts.{text_of_lines, phase_line}
use Rattle.lexicon_file.proofs.writing_front.push_names.Given as goal

abbrev pub invariant-loop-name : goal.invariant-loop-name
invariant-loop-name l =
    l.out.items ++ text_of_lines (map phase_line (map string_bytes (drop l.name-index l.names)))
    ≡ l.fn.out.items ++ text_of_lines (map phase_line (map string_bytes l.names))
