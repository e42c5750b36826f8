-- The fields, the letters in them and then the row decide one after another.
use Rattle.std.proofs.Common.{Bool, Option, Some, Ok, Err, Vec, Global, ap, sym, ◌∙◌, subst, arith}
use Rattle.std.proofs.lemmas.Result.{err_from_is_err_and}
use Rattle.form_tags.specs.declared.delta.Delta.{Delta}
use Rattle.lexicon_text_definitions.specs.FileLines.{fields_of}
use Rattle.trie_text_definitions.specs.VersionSteps.{Told, Taken, take_row as take_row_of, take_node as take_node_of}
use Rattle.lexicon_file.specs.declared.error.FileWhy.TheVariants.{Field, Spelling}
use Rattle.lexicon_file.specs.Fields.{deltas_in, children_in}
use Rattle.lexicon_file.specs.Rows.{row_read}
use Rattle.lexicon_file.specs.Told.{IsAnswer}
use Rattle.lexicon_file.proofs.AnswerLemmas.{refused_for}
use Rattle.lexicon_file.proofs.NodeAnswers.{fields_fit, line_told, letters_told, no_fields, deltas_refused, children_refused, deltas_misspelled, children_misspelled, row_decides}
use Rattle.lexicon_file.proofs.told.TrieTold.take_node.Goals as goal

pub returns-in_default : goal.returns-in_default
returns-in_default c =
    refused_for (Unit {0}) (take_node_of c.args.self.now c.args.line.now (fields_of (Some c.args.text.now))) c.into.result Field c.args.self.now c.into.ensures
    (no_fields c.args.self.now c.args.line.now (fields_of (Some c.args.text.now)) c.in_default.ensures)

pub read_deltas-requires : goal.read_deltas-requires
read_deltas-requires c =
    let fit = fields_fit c.args.text.now c.in-Some.deltas.now c.in-Some.children.now c.in-Some.ensures in
    let fits = c.requires.fits in omega (arith, fit.0, fits)

pub returns-in_err-deltas : goal.returns-in_err-deltas
returns-in_err-deltas c =
    let p = err_from_is_err_and c.from_residual.result c.from_residual.ensures.1 in
    rw (p.1, p.2)
    (deltas_refused c.args.self.now c.args.line.now c.args.text.now c.in-Some.deltas.now c.in-Some.children.now c.in-Some.ensures _ (Unit {0}) deltas_in c.in_err-deltas.field-0.0
    _ c.in_err-deltas.ensures)

pub returns-in_err-spelled : goal.returns-in_err-spelled
returns-in_err-spelled c =
    let p = err_from_is_err_and c.from_residual-in_err-spelled.result c.from_residual-in_err-spelled.ensures.1 in
    rw (p.1, p.2)
    (children_refused c.args.self.now c.args.line.now c.args.text.now c.in-Some.deltas.now c.in-Some.children.now c.in-Some.ensures _ (Unit {0}) _ c.in_err-spelled.field-0.0
    _ c.in_err-spelled.ensures)

pub returns-in_default-deltas : goal.returns-in_default-deltas
returns-in_default-deltas c =
    refused_for (Unit {0}) (take_node_of c.args.self.now c.args.line.now (fields_of (Some c.args.text.now))) c.into-in_default-deltas.result Spelling _
    c.into-in_default-deltas.ensures
    (deltas_misspelled c.args.self.now c.args.line.now c.args.text.now c.in-Some.deltas.now c.in-Some.children.now c.in-Some.ensures _ _ c.in_ok-deltas.ensures c.in_ok-spelled.ensures
    (ap deltas_in c.in_default-deltas.is))

pub returns-then-not-spelled : goal.returns-then-not-spelled
returns-then-not-spelled c =
    refused_for (Unit {0}) (take_node_of c.args.self.now c.args.line.now (fields_of (Some c.args.text.now))) c.into-then-not-spelled.result Spelling _
    c.into-then-not-spelled.ensures
    (children_misspelled c.args.self.now c.args.line.now c.args.text.now c.in-Some.deltas.now c.in-Some.children.now c.in-Some.ensures _ _ c.in_ok-deltas.ensures c.in_ok-spelled.ensures
    (ap (λ (b : Bool). children_in b c.read_children.new.children.items) c.if-not-spelled.true))

pub take_row-requires-clause-line : goal.take_row-requires-clause-line
take_row-requires-clause-line c =
    line_told c.args.text.now c.in-Some.deltas.now c.in-Some.children.now c.in-Some.ensures _ c.as_slice.result.now
    (c.in_ok-deltas.ensures ∙ ap (λ (ds : Option (Vec Delta Global)). Some (deltas_in ds)) c.in-Some-deltas.is)
    (c.in_ok-spelled.ensures ∙ (λ i. Some (children_in (c.if-not-spelled.false i) (sym c.as_slice.ensures.value i)))) c.args.line.now c.requires.line

pub take_row-requires-clause-letters : goal.take_row-requires-clause-letters
take_row-requires-clause-letters c = letters_told c.in-Some.children.now c.as_slice.result.now (c.in_ok-spelled.ensures ∙ (λ i. Some (children_in (c.if-not-spelled.false i) (sym c.as_slice.ensures.value i))))

pub returns-in_err-take_row : goal.returns-in_err-take_row
returns-in_err-take_row c =
    let p = err_from_is_err_and c.from_residual-in_err-take_row.result c.from_residual-in_err-take_row.ensures.1 in
    rw (p.1, p.2)
    (subst (λ (taken : Taken). IsAnswer {A = Unit {0}} taken (Err c.in_err-take_row.field-0.0) c.take_row.new.self)
    (row_decides c.args.self.now c.args.line.now c.args.text.now c.in-Some.deltas.now c.in-Some.children.now c.in-Some.ensures _ _ c.in_ok-deltas.ensures c.in_ok-spelled.ensures _ _
    (ap deltas_in c.in-Some-deltas.is) (λ i. children_in (c.if-not-spelled.false i) (sym c.as_slice.ensures.value i)))
    (subst (λ (t : Told). IsAnswer {A = Unit {0}} (take_row_of t c.args.line.now (row_read c.in-Some-deltas.deltas c.as_slice.result.now)) (Err c.in_err-take_row.field-0.0) c.take_row.new.self)
    c.self.view_is c.in_err-take_row.ensures))

pub returns : goal.returns
returns c =
    sym (row_decides c.args.self.now c.args.line.now c.args.text.now c.in-Some.deltas.now c.in-Some.children.now c.in-Some.ensures _ _ c.in_ok-deltas.ensures c.in_ok-spelled.ensures _ _
    (ap deltas_in c.in-Some-deltas.is) (λ i. children_in (c.if-not-spelled.false i) (sym c.as_slice.ensures.value i)))
    ∙ ap (λ (t : Told). take_row_of t c.args.line.now (row_read c.in-Some-deltas.deltas c.as_slice.result.now)) (sym c.self.view_is)
    ∙ c.in_ok-take_row.ensures ∙ ap (λ (t : Told). Ok t) (sym c.self-2.view_is)
