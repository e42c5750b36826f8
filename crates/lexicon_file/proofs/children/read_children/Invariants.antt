-- The texts so far are read.
use Rattle.trie_text_definitions.specs.NodeFields.{child_shape, child_spelled, texts_of}
use Rattle.form_file.specs.Fields.{text_of_rest}
use Rattle.lexicon_file.specs.Fields.{children_in}
use Rattle.lexicon_file.proofs.FieldLemmas.{AreReadTo, rest_length}
use Rattle.lexicon_file.proofs.children.read_children.Given as goal

abbrev pub decreases-loop-rest : goal.decreases-loop-rest
decreases-loop-rest l = rest_length l.rest

abbrev pub invariant-loop-rest : goal.invariant-loop-rest
invariant-loop-rest l = AreReadTo child_shape child_spelled (texts_of l.field) (text_of_rest l.rest) (children_in l.spelled l.children.items)
