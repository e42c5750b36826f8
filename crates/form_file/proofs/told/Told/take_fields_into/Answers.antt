-- The phase is named, the tag is read, and both words are spelled, or the line is refused; then its entry is taken.
use Rattle.std.proofs.Common.{arith, Some, refl, ◌∙◌}
use Rattle.std.proofs.lemmas.Bool.{false≢true}
use Rattle.std.proofs.lemmas.Result.{err_from_is_err_and}
use Rattle.text_definitions.specs.Slp1.{word_of_slp1}
use Rattle.lexicon_text_definitions.specs.FileLines.{fields_of}
use Rattle.lexicon_text_definitions.specs.FileSteps.{some_word, take_form as take_form_of}
use Rattle.form_file.specs.declared.error.FileWhy.TheVariants.{Field}
use Rattle.form_file.proofs.AnswerLemmas.{refused_for}
use Rattle.form_file.proofs.PairLemmas.{not_spelled}
use Rattle.form_file.proofs.FormFields.{four_fit, not_four, four_with_tag, no_phase, by_phase, no_tag_at, by_words, no_letters, no_stem, both_words, answer_moved}
use Rattle.form_file.proofs.told.Told.take_fields_into.Goals as goal

pub returns-in_default : goal.returns-in_default
returns-in_default c =
    refused_for (Unit {0}) (take_form_of c.args.self.now (fields_of (Some c.args.text.now))) c.into.result Field c.args.self.now (cc) (not_four c.args.self.now (fields_of (Some c.args.text.now)) c.in_default.ensures)

pub returns-in_default-phase_named : goal.returns-in_default-phase_named
returns-in_default-phase_named c =
    refused_for (Unit {0}) (take_form_of c.args.self.now (fields_of (Some c.args.text.now))) c.into-in_default-phase_named.result Field c.args.self.now (cc)
    (no_phase c.args.self.now (fields_of (Some c.args.text.now)) c.in-Some.phase.now c.in-Some.form.now c.in-Some.stem.now c.in-Some.tag.now c.in-Some.ensures c.in_default-phase_named.ensures.named)

pub returns-in_default-read_tag : goal.returns-in_default-read_tag
returns-in_default-read_tag c =
    refused_for (Unit {0}) (take_form_of c.args.self.now (fields_of (Some c.args.text.now))) c.into-in_default-read_tag.result Field c.args.self.now (cc)
    (no_tag_at c.args.self.now (fields_of (Some c.args.text.now)) c.in-Some.phase.now c.in-Some.form.now c.in-Some.stem.now c.in-Some.tag.now (Some c.in-Some-phase_named.phase) c.in-Some.ensures
    c.in-Some-phase_named.ensures.named (λ tag. false≢true (c.in_default-read_tag.ensures.some.1 tag)))

pub read_some_word_over-requires : goal.read_some_word_over-requires
read_some_word_over-requires c =
    let four = four_with_tag c.args.text.now c.in-Some.phase.now c.in-Some.form.now c.in-Some.stem.now c.in-Some.tag.now c.in-Some.ensures (c.in-Some-read_tag.ensures.some.0 refl) in
    let fit = four_fit c.args.text.now c.in-Some.phase.now c.in-Some.form.now c.in-Some.stem.now c.in-Some.tag.now four in
    let fits = c.requires.fits in
    omega (arith, fits, fit.0)

pub read_some_word_over-requires-2 : goal.read_some_word_over-requires-2
read_some_word_over-requires-2 c =
    let four = four_with_tag c.args.text.now c.in-Some.phase.now c.in-Some.form.now c.in-Some.stem.now c.in-Some.tag.now c.in-Some.ensures (c.in-Some-read_tag.ensures.some.0 refl) in
    let fit = four_fit c.args.text.now c.in-Some.phase.now c.in-Some.form.now c.in-Some.stem.now c.in-Some.tag.now four in
    let fits = c.requires.fits in
    omega (arith, fits, fit.1)

pub returns-in_err-entry : goal.returns-in_err-entry
returns-in_err-entry c =
    let four = four_with_tag c.args.text.now c.in-Some.phase.now c.in-Some.form.now c.in-Some.stem.now c.in-Some.tag.now c.in-Some.ensures (c.in-Some-read_tag.ensures.some.0 refl) in
    let start = by_phase c.args.self.now (fields_of (Some c.args.text.now)) c.in-Some.phase.now c.in-Some.form.now c.in-Some.stem.now c.in-Some.tag.now (Some c.in-Some-phase_named.phase) four c.in-Some-phase_named.ensures.named in
    let words = start ∙ by_words c.args.self.now c.in-Some-phase_named.phase c.in-Some.form.now c.in-Some.stem.now c.in-Some.tag.now (c.in-Some-read_tag.ensures.some.0 refl) in
    let p = err_from_is_err_and c.from_residual.result c.from_residual.ensures.1 in
    rw (p.1, p.2)
    (not_spelled (Unit {0}) (some_word (word_of_slp1 c.in-Some.form.now)) c.in_err-entry.field-0.0 (take_form_of c.args.self.now (fields_of (Some c.args.text.now))) c.args.self.now c.in_err-entry.ensures
    (λ none. words ∙ no_letters c.args.self.now c.in-Some-phase_named.phase c.in-Some.tag.now _ _ none))

pub returns-in_err-entry-2 : goal.returns-in_err-entry-2
returns-in_err-entry-2 c =
    let four = four_with_tag c.args.text.now c.in-Some.phase.now c.in-Some.form.now c.in-Some.stem.now c.in-Some.tag.now c.in-Some.ensures (c.in-Some-read_tag.ensures.some.0 refl) in
    let start = by_phase c.args.self.now (fields_of (Some c.args.text.now)) c.in-Some.phase.now c.in-Some.form.now c.in-Some.stem.now c.in-Some.tag.now (Some c.in-Some-phase_named.phase) four c.in-Some-phase_named.ensures.named in
    let words = start ∙ by_words c.args.self.now c.in-Some-phase_named.phase c.in-Some.form.now c.in-Some.stem.now c.in-Some.tag.now (c.in-Some-read_tag.ensures.some.0 refl) in
    let p = err_from_is_err_and c.from_residual-in_err-entry-2.result c.from_residual-in_err-entry-2.ensures.1 in
    rw (p.1, p.2)
    (not_spelled (Unit {0}) (some_word (word_of_slp1 c.in-Some.stem.now)) c.in_err-entry-2.field-0.0 (take_form_of c.args.self.now (fields_of (Some c.args.text.now))) c.args.self.now c.in_err-entry-2.ensures
    (λ none. words ∙ no_stem c.args.self.now c.in-Some-phase_named.phase c.in-Some.tag.now _ _ none))

pub returns : goal.returns
returns c =
    let four = four_with_tag c.args.text.now c.in-Some.phase.now c.in-Some.form.now c.in-Some.stem.now c.in-Some.tag.now c.in-Some.ensures (c.in-Some-read_tag.ensures.some.0 refl) in
    let start = by_phase c.args.self.now (fields_of (Some c.args.text.now)) c.in-Some.phase.now c.in-Some.form.now c.in-Some.stem.now c.in-Some.tag.now (Some c.in-Some-phase_named.phase) four c.in-Some-phase_named.ensures.named in
    let words = start ∙ by_words c.args.self.now c.in-Some-phase_named.phase c.in-Some.form.now c.in-Some.stem.now c.in-Some.tag.now (c.in-Some-read_tag.ensures.some.0 refl) in
    let entry = both_words c.args.self.now c.in-Some-phase_named.phase c.in-Some.tag.now _ c.in_ok-entry.field-0 c.in_ok-entry-2.field-0 _ _ c.in_ok-entry.ensures c.in_ok-entry-2.ensures c.in-Some-read_tag.ensures.value in
    answer_moved (Unit {0}) _ (take_form_of c.args.self.now (fields_of (Some c.args.text.now))) c.take_entry.result c.take_entry.new.self (words ∙ entry) c.take_entry.ensures
