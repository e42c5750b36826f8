-- The tests of the fields one after another; what is known of each field so far gives what is taken of the rest.
use Rattle.std.proofs.Common.{Some, None, map, refl, sym, ◌∙◌, ap, Global}
use Rattle.std.specs.String.{string_bytes}
use Rattle.std.proofs.lemmas.Bool.{false≢true}
use Rattle.std.proofs.lemmas.Result.{err_from_is_err_and}
use Rattle.text_definitions.specs.Slp1.{word_of_slp1}
use Rattle.paradigm_file_definitions.specs.TableFiles.{cut_of, take_row}
use Rattle.paradigms.proofs.RowReads.{no_tag, tagged, prefix_refused, ending_refused, affixes, word_refused}
use Rattle.paradigms.proofs.row_fields.read_row.Goals as goal

pub returns-in_default-read_tag : goal.returns-in_default-read_tag
returns-in_default-read_tag c = λ number classes name.
    no_tag (map (string_bytes {Z = Global}) c.args.phases.now) number classes name c.args.fields.now.tag.now c.args.fields.now.phase.now c.args.fields.now.prefix.now c.args.fields.now.ending.now (cut_of c.args.fields.now.cut.now) c.in-Some.cut
    (sym c.in-Some.ensures) (λ tag. false≢true (c.in_default-read_tag.ensures.some.1 tag))

pub returns-in_default-phase_named : goal.returns-in_default-phase_named
returns-in_default-phase_named c = λ number classes name.
    tagged (map (string_bytes {Z = Global}) c.args.phases.now) number classes name c.args.fields.now.tag.now c.args.fields.now.phase.now c.args.fields.now.prefix.now c.args.fields.now.ending.now (cut_of c.args.fields.now.cut.now) c.in-Some.cut
    None (sym c.in-Some.ensures) (c.in-Some-read_tag.ensures.some.0 refl) c.in_default-phase_named.ensures.named

pub returns-in_err-prefix : goal.returns-in_err-prefix
returns-in_err-prefix c = λ number classes name.
    let start =
    tagged (map (string_bytes {Z = Global}) c.args.phases.now) number classes name c.args.fields.now.tag.now c.args.fields.now.phase.now c.args.fields.now.prefix.now c.args.fields.now.ending.now (cut_of c.args.fields.now.cut.now) c.in-Some.cut
    (Some c.in-Some-phase_named.phase) (sym c.in-Some.ensures) (c.in-Some-read_tag.ensures.some.0 refl) c.in-Some-phase_named.ensures.named in
    let p = err_from_is_err_and c.from_residual.result c.from_residual.ensures.1 in
    rw (p.1, p.2)
    (word_refused (take_row number classes name) _ (word_of_slp1 c.args.fields.now.prefix.now) c.in_err-prefix.field-0.0 c.in_err-prefix.ensures
    (λ why h. start ∙ prefix_refused number classes name c.args.fields.now.tag.now c.in-Some.cut c.in-Some-phase_named.phase (word_of_slp1 c.args.fields.now.prefix.now) (word_of_slp1 c.args.fields.now.ending.now) why h))

pub returns-in_err-ending : goal.returns-in_err-ending
returns-in_err-ending c = λ number classes name.
    let start =
    tagged (map (string_bytes {Z = Global}) c.args.phases.now) number classes name c.args.fields.now.tag.now c.args.fields.now.phase.now c.args.fields.now.prefix.now c.args.fields.now.ending.now (cut_of c.args.fields.now.cut.now) c.in-Some.cut
    (Some c.in-Some-phase_named.phase) (sym c.in-Some.ensures) (c.in-Some-read_tag.ensures.some.0 refl) c.in-Some-phase_named.ensures.named in
    let p = err_from_is_err_and c.from_residual-in_err-ending.result c.from_residual-in_err-ending.ensures.1 in
    rw (p.1, p.2)
    (word_refused (take_row number classes name) _ (word_of_slp1 c.args.fields.now.ending.now) c.in_err-ending.field-0.0 c.in_err-ending.ensures
    (λ why h. start ∙ ending_refused number classes name c.args.fields.now.tag.now c.in-Some.cut c.in-Some-phase_named.phase (word_of_slp1 c.args.fields.now.prefix.now) (word_of_slp1 c.args.fields.now.ending.now) why h))

pub returns : goal.returns
returns c = λ number classes name.
    let start =
    tagged (map (string_bytes {Z = Global}) c.args.phases.now) number classes name c.args.fields.now.tag.now c.args.fields.now.phase.now c.args.fields.now.prefix.now c.args.fields.now.ending.now (cut_of c.args.fields.now.cut.now) c.in-Some.cut
    (Some c.in-Some-phase_named.phase) (sym c.in-Some.ensures) (c.in-Some-read_tag.ensures.some.0 refl) c.in-Some-phase_named.ensures.named in
    start
    ∙ affixes number classes name c.args.fields.now.tag.now c.in-Some.cut c.in-Some-phase_named.phase (word_of_slp1 c.args.fields.now.prefix.now) (word_of_slp1 c.args.fields.now.ending.now) c.in_ok-prefix.prefix c.in_ok-ending.ending
    c.in_ok-prefix.ensures c.in_ok-ending.ensures
    ∙ ap (λ tag. take_row number classes name (record { tag = tag; phase = c.in-Some-phase_named.phase; prefix = c.in_ok-prefix.prefix; cut = c.in-Some.cut; ending = c.in_ok-ending.ending }))
    (sym c.in-Some-read_tag.ensures.value)
