-- By the lemma on the parts of a text.
use Rattle.text_definitions.proofs.SpelledLines.{reads_lines}
use Rattle.text_definitions.proofs.line_texts.texts_spell_lines.Goals as goal

pub returns : goal.returns
returns c = record { line = reads_lines }
