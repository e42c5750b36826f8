-- What is written and what is left to write are together all that is to be written.
use Rattle.std.proofs.Common.{◌≡◌, ◌++◌, string_bytes, map, drop}
use Rattle.lexicon_text_definitions.specs.LexiconTexts.{text_of_lines, forms_lines}
use Rattle.trie_text_definitions.specs.TrieForms.{phases_of}
use Rattle.lexicon_file.proofs.writing_forms.push_all_forms.Given as goal

abbrev pub invariant-loop-phase : goal.invariant-loop-phase
invariant-loop-phase l =
    l.out.items ++ text_of_lines (forms_lines (map string_bytes (drop l.phase l.names)) (drop l.phase (phases_of l.store)))
    ≡ l.fn.out.items ++ text_of_lines (forms_lines (map string_bytes l.names) (phases_of l.store))
