-- The bytes that are read spell the word, and a blank comes after them.
use Rattle.form_file.proofs.FormFields.{not_empty, begins_with_word}
use Rattle.form_file.proofs.words.read_word_before_blank.Goals as goal

pub returns : goal.returns
returns c =
    begins_with_word c.args.text.now c.in_ok-front.front c.in_ok-front.count c.in_ok-front.ensures.spelled (not_empty c.in_ok-front.front c.if-is_empty.ensures) c.if-count-text.false c.if-text-count-ne32.false
