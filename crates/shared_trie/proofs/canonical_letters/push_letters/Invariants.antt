-- So far the letters up to the index are appended.
use Rattle.std.proofs.Common.{◌≡◌, ◌++◌, map, take}
use Rattle.text_definitions.specs.Spellings.{byte_of_letter}
use Rattle.text_definitions.specs.Slp1.{slp1_table}
use Rattle.shared_trie.proofs.canonical_letters.push_letters.Given as goal

abbrev pub invariant-loop-letter : goal.invariant-loop-letter
invariant-loop-letter l = l.out.items ≡ l.fn.out.items ++ map (byte_of_letter slp1_table) (take l.letter-index l.letters)
