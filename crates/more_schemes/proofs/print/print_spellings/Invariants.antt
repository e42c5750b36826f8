-- The text so far, followed by the spelling of the letters that are left, is the spelling of the word.
use Rattle.std.proofs.Common.{◌≡◌, ◌++◌, None, drop, string_bytes}
use Rattle.text_definitions.specs.Longest.{spelling_of_letter, spellings_of_word}
use Rattle.more_schemes.specs.Schemes.{table_in, front_in}
use Rattle.more_schemes.proofs.print.print_spellings.Given as goal

abbrev pub invariant-loop-letter : goal.invariant-loop-letter
invariant-loop-letter l =
    string_bytes l.text ++ spellings_of_word (front_in l.scheme) (spelling_of_letter (table_in l.scheme)) l.previous (drop l.letter-index l.letter-items) ≡ spellings_of_word (front_in l.scheme) (spelling_of_letter (table_in l.scheme)) None l.letter-items
