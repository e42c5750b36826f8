-- What is written and what is left to write are together all that is to be written.
use Rattle.std.proofs.Common.{◌≡◌, ◌++◌, string_bytes, map, drop}
use Rattle.std.specs.List.{join_with_byte}
use Rattle.trie_text_definitions.specs.LimitedRules.{names_from}
use Rattle.lexicon_file.proofs.NamesWritten.{left_to_write}
use Rattle.lexicon_file.proofs.writing_phases.push_some.Given as goal

abbrev pub invariant-loop-phase : goal.invariant-loop-phase
invariant-loop-phase l =
    l.out.items ++ left_to_write l.is_first (names_from l.phases l.phase (map string_bytes (drop l.phase l.names)))
    ≡ l.fn.out.items ++ join_with_byte 44 (names_from l.phases 0 (map string_bytes l.names))
