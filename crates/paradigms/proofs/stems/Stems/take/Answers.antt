-- A record has two fields, or is refused; then its stem is read and taken.
use Rattle.std.proofs.Common.{ℕ, ◌∙◌}
use Rattle.std.proofs.lemmas.Result.{err_from_is_err_and}
use Rattle.csv.specs.Records.{fields_of}
use Rattle.morphology_definitions.specs.Inflection as inflection
use Rattle.paradigm_file_definitions.specs.StemFiles.{take_classed}
use Rattle.paradigms.specs.declared.stem.Stem.{Stem}
use Rattle.paradigms.specs.Answers.{stem_why}
use Rattle.paradigms.specs.Rows.{text_stem}
use Rattle.paradigms.proofs.FieldLemmas.{not_two, two_taken}
use Rattle.paradigms.proofs.TakeLemmas.{refused, moved}
use Rattle.paradigms.proofs.stems.Stems.take.Goals as goal

pub returns-in_default-clause-answer : goal.returns-in_default-clause-answer
returns-in_default-clause-answer c = not_two c.args.tables.now c.args.number c.args.self.now (fields_of c.args.csv_record.now) c.in_default.ensures

pub returns-in_err-stem-clause-answer : goal.returns-in_err-stem-clause-answer
returns-in_err-stem-clause-answer c =
    let start = two_taken c.args.tables.now c.args.number c.args.self.now (fields_of c.args.csv_record.now) c.in-Some.letters.now c.in-Some.name.now c.in-Some.ensures in
    let p = err_from_is_err_and c.from_residual.result c.from_residual.ensures.1 in
    rw (p.1, p.2)
    (refused stem_why Stem inflection.Stem ℕ text_stem (take_classed c.args.tables.now c.args.number c.args.self.now) _ _ c.in_err-stem.field-0.0 c.args.self.now start
    (c.in_err-stem.ensures.read c.args.number c.args.self.now))

pub returns-clause-answer : goal.returns-clause-answer
returns-clause-answer c =
    let start = two_taken c.args.tables.now c.args.number c.args.self.now (fields_of c.args.csv_record.now) c.in-Some.letters.now c.in-Some.name.now c.in-Some.ensures in
    moved stem_why ℕ (take_classed c.args.tables.now c.args.number c.args.self.now (text_stem c.in_ok-stem.stem)) _ c.take_classed.result c.take_classed.new.self
    (start ∙ c.in_ok-stem.ensures.read c.args.number c.args.self.now) c.take_classed.ensures.answer
