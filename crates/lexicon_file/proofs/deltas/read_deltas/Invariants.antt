-- The texts so far are read, and what is left is no longer than the field.
use Rattle.std.proofs.Common.{◌≤◌, length}
use Rattle.std.specs.Prelude.{IfSome}
use Rattle.trie_text_definitions.specs.NodeFields.{delta_shape, delta_spelled, texts_of}
use Rattle.form_file.specs.Fields.{text_of_rest}
use Rattle.lexicon_file.specs.Fields.{deltas_in}
use Rattle.lexicon_file.proofs.FieldLemmas.{AreReadTo, rest_length}
use Rattle.lexicon_file.proofs.deltas.read_deltas.Given as goal

abbrev pub decreases-loop-rest : goal.decreases-loop-rest
decreases-loop-rest l = rest_length l.rest

abbrev pub invariant-loop-rest : goal.invariant-loop-rest
invariant-loop-rest l = record {
  read : AreReadTo delta_shape delta_spelled (texts_of l.field) (text_of_rest l.rest) (deltas_in l.deltas);
  within : IfSome l.rest (λ rest. length rest.now ≤ length l.field);
}
