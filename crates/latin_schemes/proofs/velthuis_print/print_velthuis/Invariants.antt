-- The text so far, followed by the spelling of the letters that are left, is the spelling of the word.
use Rattle.std.proofs.Common.{◌≡◌, ◌++◌, None, drop, string_bytes}
use Rattle.text_definitions.specs.Longest.{spelling_of_letter, spellings_of_word}
use Rattle.text_definitions.specs.Velthuis.{velthuis_table, velthuis_front}
use Rattle.latin_schemes.proofs.velthuis_print.print_velthuis.Given as goal

abbrev pub invariant-loop-letter : goal.invariant-loop-letter
invariant-loop-letter l =
    string_bytes l.text ++ spellings_of_word velthuis_front (spelling_of_letter velthuis_table) l.previous (drop l.letter-index l.letter-items) ≡ spellings_of_word velthuis_front (spelling_of_letter velthuis_table) None l.letter-items
