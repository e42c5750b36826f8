-- The form at which the walk stands is written.
use Rattle.std.proofs.Common.{map}
use Rattle.form_tags.specs.Analyses.{text_delta}
use Rattle.trie_text_definitions.specs.NodeValues.{Suffix}
use Rattle.lexicon_file.proofs.FormsWritten.{all_left, first_within, form_pushed}
use Rattle.lexicon_file.proofs.writing_forms.push_forms.Goals as goal

pub loop-form-init : goal.loop-form-init
loop-form-init c =
    all_left c.args.store.now c.requires.trie c.args.phase c.root.result c.requires.phase c.root.ensures.value c.args.name.now c.args.out.now.items
    c.in_ok-walk.walk c.in_ok-walk.ensures.ok

pub push_walked-requires : goal.push_walked-requires
push_walked-requires c =
    let form : Suffix = record { word = c.in-Some.form.letters.now; deltas = map text_delta c.in-Some.form.deltas.now } in
    first_within c.args.name.now c.loop-form.out.items _ c.loop-form.walk c.in-Some.ensures.0 form c.in-Some.ensures.1 c.loop-form.invariant

pub loop-form-preserved : goal.loop-form-preserved
loop-form-preserved c =
    let form : Suffix = record { word = c.in-Some.form.letters.now; deltas = map text_delta c.in-Some.form.deltas.now } in
    form_pushed c.args.name.now c.loop-form.out.items c.push_walked.new.out.items _ c.loop-form.walk c.advance.new.self c.in-Some.ensures.0 form c.in-Some.ensures.1
    c.advance.ensures c.in_ok-push_walked.ensures.ok c.loop-form.invariant
