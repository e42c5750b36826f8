-- After the end what was told is a lexicon, which the lines are read as.
use Rattle.std.proofs.Common.{Ok, sym, subst}
use Rattle.lexicon_definitions.specs.Lexicons.{Lexicon}
use Rattle.lexicon_text_definitions.specs.FileContents.{lexicon_told}
use Rattle.lexicon_text_definitions.specs.FileReadings.{IsReadAs}
use Rattle.lexicon_text_definitions.proofs.WholeTexts.{read_text}
use Rattle.form_file.proofs.reading.read.Goals as goal

pub finish-requires-clause-set : goal.finish-requires-clause-set
finish-requires-clause-set c = (read_text c.args.bytes.now (lexicon_told c.in_ok-told.told) c.in_ok-told.ensures.ok).has_text.lexicon_itself.rules

pub finish-requires-clause-limits : goal.finish-requires-clause-limits
finish-requires-clause-limits c = (read_text c.args.bytes.now (lexicon_told c.in_ok-told.told) c.in_ok-told.ensures.ok).has_text.limits.rule_set

pub returns-clause-ok : goal.returns-clause-ok
returns-clause-ok c = subst (λ (lexicon : Lexicon). IsReadAs c.args.bytes.now (Ok lexicon)) (sym c.in_ok-finish.ensures.ok) c.in_ok-told.ensures.ok
