-- A record has six fields, the first of which names a class, or is refused; then its row is read and taken.
use Rattle.std.proofs.Common.{map, ◌∙◌, sym, Global}
use Rattle.std.specs.String.{string_bytes}
use Rattle.std.proofs.lemmas.Result.{err_from_is_err_and}
use Rattle.csv.specs.Records.{fields_of}
use Rattle.morphology_definitions.specs.Inflection as inflection
use Rattle.paradigm_file_definitions.specs.TableFiles.{take_row}
use Rattle.paradigms.specs.declared.row.Row.{Row}
use Rattle.paradigms.specs.Answers.{table_why}
use Rattle.paradigms.specs.Rows.{text_row}
use Rattle.paradigms.proofs.FieldLemmas.{not_six, not_named, named}
use Rattle.paradigms.proofs.TakeLemmas.{refused, moved}
use Rattle.paradigms.proofs.tables.Tables.take.Goals as goal

pub returns-in_default-clause-answer : goal.returns-in_default-clause-answer
returns-in_default-clause-answer c =
    not_six (map (string_bytes {Z = Global}) c.args.phases.now) c.args.number c.args.self.now (fields_of c.args.csv_record.now) c.in_default.ensures

pub returns-then-not-is_class_name-clause-answer : goal.returns-then-not-is_class_name-clause-answer
returns-then-not-is_class_name-clause-answer c =
    let fields = c.in-Some.fields in
    not_named (map (string_bytes {Z = Global}) c.args.phases.now) c.args.number c.args.self.now (fields_of c.args.csv_record.now) fields.class.now fields.tag.now fields.phase.now fields.prefix.now
    fields.cut.now fields.ending.now c.in-Some.ensures (sym c.is_class_name.ensures ∙ c.if-not-is_class_name.true)

pub returns-in_err-row-clause-answer : goal.returns-in_err-row-clause-answer
returns-in_err-row-clause-answer c =
    let fields = c.in-Some.fields in
    let start =
    named (map (string_bytes {Z = Global}) c.args.phases.now) c.args.number c.args.self.now (fields_of c.args.csv_record.now) fields.class.now fields.tag.now fields.phase.now fields.prefix.now
    fields.cut.now fields.ending.now c.in-Some.ensures (sym c.is_class_name.ensures ∙ c.if-not-is_class_name.false) in
    let p = err_from_is_err_and c.from_residual.result c.from_residual.ensures.1 in
    rw (p.1, p.2)
    (refused table_why Row inflection.Row (Unit {0}) text_row (take_row c.args.number c.args.self.now fields.class.now) _ _ c.in_err-row.field-0.0 c.args.self.now start
    (c.in_err-row.ensures c.args.number c.args.self.now fields.class.now))

pub returns-clause-answer : goal.returns-clause-answer
returns-clause-answer c =
    let fields = c.in-Some.fields in
    let start =
    named (map (string_bytes {Z = Global}) c.args.phases.now) c.args.number c.args.self.now (fields_of c.args.csv_record.now) fields.class.now fields.tag.now fields.phase.now fields.prefix.now
    fields.cut.now fields.ending.now c.in-Some.ensures (sym c.is_class_name.ensures ∙ c.if-not-is_class_name.false) in
    moved table_why (Unit {0}) (take_row c.args.number c.args.self.now fields.class.now (text_row c.in_ok-row.row)) _ c.take_row.result c.take_row.new.self
    (start ∙ c.in_ok-row.ensures c.args.number c.args.self.now fields.class.now) c.take_row.ensures.answer
