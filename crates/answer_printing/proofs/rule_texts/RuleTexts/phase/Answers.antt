-- What stands between a form and the next, without what joins them.
use Rattle.std.proofs.Common.{codes}
use Rattle.segmentation_definitions.specs.PrintedAnswers.{name_of}
use Rattle.answer_printing.specs.Texts.{phase_text}
use Rattle.answer_printing.proofs.TextLemmas.{has_end, without_end}
use Rattle.answer_printing.proofs.rule_texts.RuleTexts.phase.Goals as goal

pub slice_bounds-result-count : goal.slice_bounds-result-count
slice_bounds-result-count c = has_end _ (phase_text (name_of c.args.self.now c.args.phase)) (codes " + ") c.joined_phase-joined.ensures

pub returns : goal.returns
returns c = without_end _ (phase_text (name_of c.args.self.now c.args.phase)) (codes " + ") c.joined_phase-joined.ensures
