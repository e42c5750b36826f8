-- So far the text has the bytes of the letters up to the index.
use Rattle.std.proofs.Common.{◌≡◌, map, take, string_bytes}
use Rattle.text_definitions.specs.Spellings.{byte_of_letter}
use Rattle.latin_schemes.proofs.byte_scheme.print_bytes.Given as goal

abbrev pub invariant-loop-letter : goal.invariant-loop-letter
invariant-loop-letter l =
    string_bytes l.text ≡ map (byte_of_letter l.bytes) (take l.letter-index l.letter-items)
