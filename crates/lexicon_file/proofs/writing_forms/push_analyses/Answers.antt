-- One more analysis is written.
use Rattle.std.proofs.Common.{map, refl, arith}
use Rattle.form_tags.specs.Analyses.{text_analysis}
use Rattle.lexicon_text_definitions.specs.LexiconTexts.{text_of_lines, form_line}
use Rattle.lexicon_file.proofs.LinesWritten.{one_written}
use Rattle.lexicon_file.proofs.writing_forms.push_analyses.Goals as goal

pub loop-analysis-preserved : goal.loop-analysis-preserved
loop-analysis-preserved c =
    one_written (λ analyses. text_of_lines (map (form_line c.args.name.now c.args.form.now) (map text_analysis analyses))) c.args.analyses.now c.loop-analysis.analysis-index
    c.analysis-item.result _ c.loop-analysis.out.items _ _ (omega arith) c.analysis-item.is refl c.in_ok-push_form.ensures.ok c.loop-analysis.invariant
