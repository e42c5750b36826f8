-- One text more, or one without its shape.
use Rattle.std.proofs.Common.{List, Some, length, map, sym, ap, subst}
use Rattle.std.proofs.lemmas.Result.{err_from_is_err_and}
use Rattle.form_tags.specs.declared.delta.Delta.{Delta}
use Rattle.form_tags.specs.Analyses.{text_delta}
use Rattle.trie_text_definitions.specs.NodeFields.{delta_shape, delta_spelled, texts_of}
use Rattle.form_file.specs.Fields.{text_of_rest}
use Rattle.lexicon_file.specs.Fields.{delta_told, deltas_told, deltas_in}
use Rattle.lexicon_file.proofs.FieldLemmas.{AreReadTo, none_read, next_read, none_told, refused_by, still_within}
use Rattle.lexicon_file.proofs.deltas.read_deltas.Goals as goal

pub loop-rest-init : goal.loop-rest-init
loop-rest-init c = record {
  read = subst (λ (so_far : List Delta). AreReadTo delta_shape delta_spelled (texts_of c.args.field.now) (text_of_rest c.texts_in-rest.result) (Some (map text_delta so_far))) (sym c.new.ensures.items)
      (none_read delta_shape delta_spelled (texts_of c.args.field.now) (text_of_rest c.texts_in-rest.result) c.texts_in-rest.ensures.texts);
  within = c.texts_in-rest.ensures.within;
}

pub returns-in_err-delta : goal.returns-in_err-delta
returns-in_err-delta c =
    let p = err_from_is_err_and c.from_residual.result c.from_residual.ensures.1 in
    rw (p.1, p.2)
    (refused_by (delta_told c.first_part.result.0.now) (deltas_told c.args.field.now) c.in_err-delta.field-0.0 _ deltas_in c.in_err-delta.ensures
    (none_told delta_shape delta_spelled (texts_of c.args.field.now) (text_of_rest c.loop-rest.rest) (text_of_rest c.first_part.result.1) c.in-Some.texts.now c.first_part.result.0.now
    (deltas_in c.loop-rest.deltas) c.loop-rest.invariant.read (ap text_of_rest c.in-Some.is) c.first_part.ensures.parts))

pub loop-rest-preserved : goal.loop-rest-preserved
loop-rest-preserved c = record {
  read = next_read delta_shape delta_spelled (texts_of c.args.field.now) (text_of_rest c.loop-rest.rest) (text_of_rest c.first_part.result.1) c.in-Some.texts.now c.first_part.result.0.now
      (deltas_in c.loop-rest.deltas) (deltas_in c.in_ok-deltas.deltas) _ c.loop-rest.invariant.read (ap text_of_rest c.in-Some.is) c.first_part.ensures.parts c.in_ok-delta.ensures c.in_ok-deltas.ensures;
  within = still_within c.loop-rest.rest c.first_part.result.1 c.in-Some.texts (length c.args.field.now) c.loop-rest.invariant.within c.in-Some.is c.first_part.ensures.shorter;
}
