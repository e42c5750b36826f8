-- So far the bytes of the letters up to the index were appended.
use Rattle.std.proofs.Common.{◌≡◌, ◌++◌, map, take}
use Rattle.text_definitions.specs.Spellings.{byte_of_letter}
use Rattle.latin_schemes.proofs.byte_scheme.push_bytes.Given as goal

abbrev pub invariant-loop-letter : goal.invariant-loop-letter
invariant-loop-letter l =
    l.output.items ≡ l.fn.output.items ++ map (byte_of_letter l.bytes) (take l.letter-index l.letter-items)
