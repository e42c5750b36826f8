-- One text more, or one without its shape.
use Rattle.std.proofs.Common.{Some, sym, ap, subst}
use Rattle.trie_text_definitions.specs.NodeFields.{child_shape, child_spelled, texts_of}
use Rattle.form_file.specs.Fields.{text_of_rest}
use Rattle.lexicon_file.specs.Fields.{children_told, children_in}
use Rattle.lexicon_file.proofs.FieldLemmas.{AreReadTo, none_read, next_read, none_told, shape_refused}
use Rattle.lexicon_file.proofs.children.read_children.Goals as goal

pub loop-rest-init : goal.loop-rest-init
loop-rest-init c =
    subst (λ so_far. AreReadTo child_shape child_spelled (texts_of c.args.field.now) (text_of_rest c.texts_in-rest.result) (Some so_far)) (sym c.clear.ensures.items)
    (none_read child_shape child_spelled (texts_of c.args.field.now) (text_of_rest c.texts_in-rest.result) c.texts_in-rest.ensures.texts)

pub returns-in_default-read_child : goal.returns-in_default-read_child
returns-in_default-read_child c =
    shape_refused (children_told c.args.field.now) c.into.result _ c.into.ensures
    (none_told child_shape child_spelled (texts_of c.args.field.now) (text_of_rest c.loop-rest.rest) (text_of_rest c.first_part.result.1) c.in-Some.texts.now c.first_part.result.0.now
    (children_in c.loop-rest.spelled c.loop-rest.children.items) c.loop-rest.invariant (ap text_of_rest c.in-Some.is) c.first_part.ensures.parts (sym c.in_default-read_child.ensures))

pub loop-rest-preserved : goal.loop-rest-preserved
loop-rest-preserved c =
    next_read child_shape child_spelled (texts_of c.args.field.now) (text_of_rest c.loop-rest.rest) (text_of_rest c.first_part.result.1) c.in-Some.texts.now c.first_part.result.0.now
    (children_in c.loop-rest.spelled c.loop-rest.children.items) (children_in c.in_ok-spelled.spelled c.push_child.new.children.items) _ c.loop-rest.invariant (ap text_of_rest c.in-Some.is)
    c.first_part.ensures.parts (sym c.in-Some-read_child.ensures) c.in_ok-spelled.ensures
