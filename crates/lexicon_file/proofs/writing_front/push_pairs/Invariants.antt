-- What is written and what is left to write are together all that is to be written.
use Rattle.std.proofs.Common.{◌≡◌, ◌++◌, map, drop}
use Rattle.lexicon_text_definitions.specs.LexiconTexts.{text_of_lines, plain_line}
use Rattle.lexicon_file.proofs.writing_front.push_pairs.Given as goal

abbrev pub invariant-loop-pair : goal.invariant-loop-pair
invariant-loop-pair l =
    l.out.items ++ text_of_lines (map plain_line (drop l.pair-index l.pairs))
    ≡ l.fn.out.items ++ text_of_lines (map plain_line l.pairs)
