-- What is written and what is left to write are together all that is to be written.
use Rattle.std.proofs.Common.{◌++◌, [], length, slice_index_or}
use Rattle.lexicon_text_definitions.specs.LexiconTexts.{text_of_lines, phase_forms_lines}
use Rattle.trie_text_definitions.specs.TrieForms.{phases_of}
use Rattle.lexicon_file.proofs.FormsWritten.{AreLeft}
use Rattle.lexicon_file.proofs.writing_forms.push_forms.Given as goal

abbrev pub invariant-loop-form : goal.invariant-loop-form
invariant-loop-form l =
    AreLeft l.name l.out.items (l.fn.out.items ++ text_of_lines (phase_forms_lines l.name (slice_index_or (phases_of l.store) l.phase []))) l.walk

abbrev pub decreases-loop-form : goal.decreases-loop-form
decreases-loop-form l = length l.walk
