-- The text so far, followed by the code points of the letters that are left, is the spelling of the word.
use Rattle.std.proofs.Common.{◌≡◌, ◌++◌, false, drop, string_bytes, encode_utf8_all}
use Rattle.text_definitions.specs.Devanagari.{points_of_word}
use Rattle.devanagari.proofs.print.print_devanagari.Given as goal

abbrev pub invariant-loop-letter : goal.invariant-loop-letter
invariant-loop-letter l =
    string_bytes l.text ++ encode_utf8_all (points_of_word l.bare (drop l.letter-index l.letter-items)) ≡ encode_utf8_all (points_of_word false l.letter-items)
