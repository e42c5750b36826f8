-- A text of one byte spells the letter of this byte.
use Rattle.std.proofs.Common.{◌∙◌, sym}
use Rattle.lexicon_file.proofs.LetterLemmas.{not_one, one_byte}
use Rattle.lexicon_file.proofs.letters.read_letter.Goals as goal

pub returns-then-text-ne1 : goal.returns-then-text-ne1
returns-then-text-ne1 c = sym (not_one c.args.text.now c.if-text-ne1.true)

pub returns : goal.returns
returns c = c.letter_of.ensures ∙ sym (one_byte c.args.text.now c.if-text-ne1.false)
