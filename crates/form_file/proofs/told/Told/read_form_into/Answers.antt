-- Both words are spelled before a blank each, and the tag is the rest, so these are the fields.
use Rattle.std.proofs.Common.{IfSome, refl, subst}
use Rattle.form_file.specs.Words.{BeginsWithWord}
use Rattle.form_file.proofs.FormFields.{form_read}
use Rattle.form_file.proofs.told.Told.read_form_into.Goals as goal

pub returns-clause-taken : goal.returns-clause-taken
returns-clause-taken c =
    let form = subst (λ found. IfSome found (λ rest. BeginsWithWord c.in-Some.rest.now c.read_word_before_blank.new.word rest.now)) c.in-Some-2.is c.in_ok-rest.ensures in
    let stem = subst (λ found. IfSome found (λ rest. BeginsWithWord c.in-Some-2.rest.now c.read_word_before_blank-2.new.word rest.now)) c.in-Some-3.is c.in_ok-rest-2.ensures in
    λ read. form_read c.args.self.now c.args.text.now c.in-Some.rest.now c.read_word_before_blank.new.word c.in-Some-2.rest.now c.read_word_before_blank-2.new.word c.in-Some-3.rest.now _ c.in-Some.phase c.in-Some.ensures.begins
    form stem (c.in-Some-read_tag.ensures.some.0 refl) c.in-Some-read_tag.ensures.value
